-- What a catalogue says of updates (section Catalog Management). That a plan says by `x-osb-asynchronous-updates` how the
-- updates to it work, and a catalogue by `x-osb-updates` that the broker orders Updates by their numbers, is this project's
-- choice.
use Rattle.std.specs.Prelude.{◌≡◌, ℕ, Bool, true, false, not, ◌&&◌, if◌then◌else◌, List, codes, Option, Some, None, is_some}
use Rattle.std.specs.Prelude.{option_map, option_and_then, unwrap_or, string_bytes}
use Rattle.serde_json.specs.Data.{Data, Items, no_items, item}
use Rattle.json.specs.Find.{as_object}
use Rattle.json.specs.Json as json
use Rattle.osb_instance.specs.declared.outcome.Rejection.TheVariants.{BadRequest, UnprocessableEntity}
use Rattle.osb_json.specs.Members.{flag_at, number_at}
use Rattle.osb_message.specs.declared.catalogue.Mode.{Mode}
use Rattle.osb_message.specs.declared.catalogue.Mode.TheVariants.{Sync, Async}
use Rattle.osb_update.specs.declared.request.Allowed.{Allowed}
use Rattle.osb_wire.specs.Bodies.{value_in}
use Rattle.osb_wire.specs.CatalogueRules.{plans_of}
use Rattle.osb_wire.specs.JsonTexts.{json_in, text_of}
use Rattle.osb_wire.specs.Maintenance.{conflicts, has_number, plan_in, version_of}
use Rattle.osb_wire.specs.SoldDocuments.{services_in}
use Rattle.std.specs.Str.{bytes_eq}
use Rattle.osb_update_wire.specs.declared.catalogue.PlanUpdates.{PlanUpdates}

-- a service and a plan of it
abbrev pub Sold : Type 0
Sold = Data × Data

-- the first plan of this number, of the first service of this number that has one
abbrev pub sold_among : ℕ → ℕ → Items → Option Sold
sold_among service plan no_items = None
sold_among service plan (item d ds) =
    if has_number service d && is_some (plan_in plan (plans_of d))
    then option_map (λ p. (d, p)) (plan_in plan (plans_of d))
    else sold_among service plan ds

abbrev pub sold_if : ℕ → ℕ → Option Items → Option Sold
sold_if service plan None = None
sold_if service plan (Some ds) = sold_among service plan ds

abbrev pub sold_in : ℕ → ℕ → List ℕ → Option Sold
sold_in service plan document = sold_if service plan (services_in document)

-- a flag that is missing, or has another type, is `false`
abbrev pub says : List ℕ → Data → Bool
says name d = unwrap_or (flag_at name d) false

-- whether the plan can be changed: by its own flag, or else by that of its service
abbrev pub updateable : Sold → Bool
updateable sold = unwrap_or (flag_at (codes "plan_updateable") sold.1) (says (codes "plan_updateable") sold.0)

-- this is what is said of a plan
pub record IsSaidOf (of : PlanUpdates) (sold : Sold) : Type 0 where
  pub updateable : of.updateable ≡ updateable sold
  pub retrievable : of.retrievable ≡ says (codes "instances_retrievable") sold.0
  pub asynchronous : of.asynchronous ≡ flag_at (codes "x-osb-asynchronous-updates") sold.1
  pub version : option_map string_bytes of.version ≡ version_of sold.1
  pub longest_poll : of.longest_poll ≡ number_at (codes "maximum_polling_duration") sold.1

abbrev pub IsSaidIf : Option PlanUpdates → Option Sold → Type 0
IsSaidIf None None = Unit {0}
IsSaidIf None (Some sold) = ⊥
IsSaidIf (Some of) None = ⊥
IsSaidIf (Some of) (Some sold) = IsSaidOf of sold

-- whether a catalogue says that the broker orders Updates by their numbers
abbrev pub numbers_updates_in : List ℕ → Bool
numbers_updates_in document = unwrap_or (option_map (says (codes "x-osb-updates")) (value_in document)) false

-- ---- whether it lets an Update be done

-- how the updates to a plan work: as it says, or else so
abbrev pub mode_by : Option Bool → Mode → Mode
mode_by None otherwise = otherwise
mode_by (Some true) otherwise = Async
mode_by (Some false) otherwise = Sync

-- whether the plan that an instance has can be changed. One that isn't sold can't
abbrev pub may_leave : Option PlanUpdates → Bool
may_leave None = false
may_leave (Some held) = held.updateable

-- of the plan that is asked for, if it is sold: it is another than the one that the instance has, which can be changed; and
-- the version that the Update names
abbrev pub allowed_to : Bool → Bool → Option (List ℕ) → Mode → PlanUpdates → Allowed
allowed_to leaves may named otherwise asked =
    if leaves && not may then Allowed.Rejected UnprocessableEntity
    else (if conflicts (option_map string_bytes asked.version) named then Allowed.MaintenanceInfoConflict
    else Allowed.Mode (mode_by asked.asynchronous otherwise))

abbrev pub allowed : Option PlanUpdates → Option PlanUpdates → Bool → Option (List ℕ) → Mode → Allowed
allowed held None leaves named otherwise = Allowed.Rejected BadRequest
allowed held (Some asked) leaves named otherwise = allowed_to leaves (may_leave held) named otherwise asked

-- ---- the document that is served

-- the members but those of this name
abbrev pub without : json.Members → json.Members
without json.no_members = json.no_members
without (json.member k j ms) = if bytes_eq k (codes "x-osb-updates") then without ms else json.member k j (without ms)

-- a catalogue's object that says that the broker orders Updates by their numbers
abbrev pub with_updates : json.Members → json.Json
with_updates ms = json.object (json.member (codes "x-osb-updates") (json.boolean true) (without ms))

abbrev pub served_text : List ℕ → Option (List ℕ)
served_text document = option_map (λ ms. text_of (with_updates ms)) (option_and_then as_object (json_in document))
