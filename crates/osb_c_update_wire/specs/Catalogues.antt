-- What a catalogue says of updates, as it crosses.
use Rattle.std.specs.Prelude.{◌≡◌, ℕ, Bool, true, false, not, ◌&&◌, ◌==◌, if◌then◌else◌, List, codes, Option, Some, None}
use Rattle.std.specs.Prelude.{is_some, option_map, option_and_then, unwrap_or, string_bytes}
use Rattle.osb_instance.specs.declared.outcome.Rejection.TheVariants.{BadRequest, UnprocessableEntity}
use Rattle.osb_json.specs.Members.{flag_at, number_at}
use Rattle.osb_message.specs.declared.catalogue.Mode.{Mode}
use Rattle.osb_update.specs.declared.request.Allowed.{Allowed}
use Rattle.osb_wire.specs.Maintenance.{conflicts, version_of}
use Rattle.osb_update_wire.specs.Catalogues.{Sold, mode_by, says, sold_in, updateable}
use Rattle.osb_update_wire.specs.declared.catalogue.PlanUpdates.{PlanUpdates}
use Rattle.osb_c_types.specs.Ids.{number_of}
use Rattle.osb_c_types.specs.declared.ids.OsbId.{OsbId}
use Rattle.osb_c_wire.specs.Details.{IsFlag}
use Rattle.osb_c_wire.specs.Texts.{IsMeasured}
use Rattle.osb_c_update_wire.specs.declared.catalogues.OsbPlanUpdates.{OsbPlanUpdates}

-- the version of the maintenance of a plan that may be sold
abbrev pub version_sold : Option Sold → Option (List ℕ)
version_sold sold = option_and_then (λ s. version_of s.1) sold

abbrev pub version_read : Option PlanUpdates → Option (List ℕ)
version_read found = option_and_then (λ of. option_map string_bytes of.version) found

-- a number, which may be missing: 0 if it is
abbrev pub IsCount : Bool → ℕ → Option ℕ → Type 0
IsCount has n count = (has ≡ is_some count) × (n ≡ unwrap_or count 0)

-- the struct says what is said of a plan that is sold
pub record IsSaidOf (u : OsbPlanUpdates) (sold : Sold) : Type 0 where
  pub is_sold : u.is_sold ≡ true
  pub updateable : u.updateable ≡ updateable sold
  pub retrievable : u.retrievable ≡ says (codes "instances_retrievable") sold.0
  pub asynchronous : IsFlag u.has_asynchronous u.asynchronous (flag_at (codes "x-osb-asynchronous-updates") sold.1)
  pub version : IsMeasured u.has_version u.version (version_of sold.1)
  pub longest_poll : IsCount u.has_longest_poll u.longest_poll (number_at (codes "maximum_polling_duration") sold.1)

-- and of one that isn't
abbrev pub nothing_said : OsbPlanUpdates
nothing_said =
    record {
      is_sold = false;
      updateable = false;
      retrievable = false;
      has_asynchronous = false;
      asynchronous = false;
      has_version = false;
      has_longest_poll = false;
      longest_poll = 0;
      version = 0;
    }

abbrev pub IsSaidIf : OsbPlanUpdates → Option Sold → Type 0
IsSaidIf u None = u ≡ nothing_said
IsSaidIf u (Some sold) = IsSaidOf u sold

-- ---- whether a catalogue lets an Update be done, by what is sold

-- the plan that an instance has can be changed. One that isn't sold can't
abbrev pub may_leave : Option Sold → Bool
may_leave None = false
may_leave (Some held) = updateable held

abbrev pub allowed_to : Bool → Bool → Option (List ℕ) → Mode → Sold → Allowed
allowed_to leaves may named otherwise asked =
    if leaves && not may then Allowed.Rejected UnprocessableEntity
    else (if conflicts (version_of asked.1) named then Allowed.MaintenanceInfoConflict
    else Allowed.Mode (mode_by (flag_at (codes "x-osb-asynchronous-updates") asked.1) otherwise))

-- by the plan that the instance has and the one that is asked for
abbrev pub allowed_by : Option Sold → Option Sold → Bool → Option (List ℕ) → Mode → Allowed
allowed_by held None leaves named otherwise = Allowed.Rejected BadRequest
allowed_by held (Some asked) leaves named otherwise = allowed_to leaves (may_leave held) named otherwise asked

-- whether an Update leaves the plan that the instance has
abbrev pub leaves : OsbId → OsbId → Bool
leaves held asked = not (number_of held == number_of asked)

-- what a document allows of an Update of an instance that has one plan, which asks for another or the same
abbrev pub allowed_in : List ℕ → OsbId → OsbId → OsbId → Option (List ℕ) → Mode → Allowed
allowed_in document service held asked named otherwise =
    allowed_by (sold_in (number_of service) (number_of held) document)
    (sold_in (number_of service) (number_of asked) document) (leaves held asked) named otherwise
