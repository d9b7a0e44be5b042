-- What a broker holds of one instance. That it records work before it begins, keeps a tombstone once an instance has
-- ended, waits for the first Poll and compares attributes is this project's choice.
use Rattle.std.specs.Prelude.{◌≡◌, Bool, true, false, Option, Some, None, IsSome, IsSomeAnd, IfSome, replicate}
use Rattle.osb_message.specs.declared.catalogue.Mode.TheVariants.{Sync}
use Rattle.osb_message.specs.declared.messages.Request.{Request}
use Rattle.osb_broker.specs.declared.row.BrokerRow.{BrokerRow}
use Rattle.osb_broker.specs.declared.row.Phase.{Phase}
use Rattle.osb_instance.specs.declared.digest.Digest.{Digest}
use Rattle.osb_instance.specs.Due.{work_due}

-- the digest of no attributes
abbrev pub no_attributes : Digest
no_attributes = record { bytes = replicate 32 0 }

-- the row, or none; the request whose work is pending, or none; the tombstone: whether the end of the instance was
-- reported or has come, after which there is none with this id ever again; whether the row waits for its first Poll,
-- whose phase the broker's tables take for `making`; the digest of the attributes of row and pending work
pub record Held : Type 0 where
  pub row : Option BrokerRow
  pub work : Option Request
  pub tombstone : Bool
  pub waiting : Bool
  pub attributes : Digest

-- nothing, of an id that no request has come for
abbrev pub nothing_held : Held
nothing_held = record { row = None; work = None; tombstone = false; waiting = false; attributes = no_attributes }

-- the end of an instance
abbrev pub ended_held : Held
ended_held = record { row = None; work = None; tombstone = true; waiting = false; attributes = no_attributes }

-- what is true of all that a broker holds
pub record IsHeldSound (held : Held) : Type 0 where
  -- beside a tombstone there is no row and no work
  pub tombstone : held.tombstone ≡ true → (held.row ≡ None) × (held.work ≡ None)
  -- the pending work is due at some plan: a synchronous one has all the work that an asynchronous one has
  pub due : IfSome held.work (λ request. IsSome (work_due (Some Sync) held.row request))
  -- beside a row that waits there is no work
  pub waiting : held.waiting ≡ true → IsSomeAnd held.row (λ row. row.phase ≡ Phase.Making) × (held.work ≡ None)
  -- attributes are those of a row or of work
  pub attributes : held.row ≡ None → held.work ≡ None → held.attributes ≡ no_attributes
