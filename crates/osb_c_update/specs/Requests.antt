-- An Update, and what the catalogue allows of it, as they cross.
use Rattle.std.specs.Prelude.{ℕ, ◌==◌, if◌then◌else◌, Option, Some, None, IsSomeAnd}
use Rattle.osb_message.specs.declared.catalogue.Mode.{Mode}
use Rattle.osb_instance.specs.Held.{Held}
use Rattle.osb_instance.specs.declared.outcome.Rejection.{Rejection}
use Rattle.osb_update.specs.declared.holding.UpdateHolding.{UpdateHolding}
use Rattle.osb_update.specs.declared.request.Allowed.{Allowed}
use Rattle.osb_update.specs.declared.request.Update.{Update}
use Rattle.osb_c_types.specs.Ids.{number_of}
use Rattle.osb_c_instance.specs.Holdings.{held_of}
use Rattle.osb_c_instance.specs.declared.holdings.OsbHolding.{OsbHolding}
use Rattle.osb_c_update.specs.Holdings.{holding_of}
use Rattle.osb_c_update.specs.Settings.{change_of}
use Rattle.osb_c_update.specs.declared.holdings.OsbUpdateHolding.{OsbUpdateHolding}
use Rattle.osb_c_update.specs.declared.requests.OsbUpdate.{OsbUpdate}

-- the Update that crossed
abbrev pub update_of : OsbUpdate → Update
update_of u =
    record {
      service = number_of u.service;
      change = change_of u.change;
      number = u.number;
      accepts_incomplete = u.accepts_incomplete;
    }

-- what a number says of the catalogue, if it says anything
abbrev pub allowed_of : ℕ → Option Allowed
allowed_of code =
    if code == 0 then Some (Allowed.Mode Mode.Sync)
    else (if code == 1 then Some (Allowed.Mode Mode.Async)
    else (if code == 2 then Some (Allowed.Rejected Rejection.BadRequest)
    else (if code == 3 then Some (Allowed.Rejected Rejection.UnprocessableEntity)
    else (if code == 4 then Some Allowed.MaintenanceInfoConflict
    else None))))

-- both holdings and what the catalogue allows stand for something, of which this holds
abbrev pub IsAsked : OsbUpdateHolding → OsbHolding → ℕ → (UpdateHolding → Held → Allowed → Type 0) → Type 0
IsAsked h i allowed P =
    IsSomeAnd (holding_of h) (λ held. IsSomeAnd (held_of i) (λ instance. IsSomeAnd (allowed_of allowed) (λ a.
    P held instance a)))
