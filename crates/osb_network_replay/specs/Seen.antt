-- What there is of an instance or a binding, as the report and the trace have it (this project's choice).
use Rattle.std.specs.Prelude.{ℕ, ◌-◌, List, Option, Some, None, if◌then◌else◌, length, option_map, slice_get}
use Rattle.std.specs.FinMap as map
use Rattle.osb_binding_network.specs.Allowed.{is_ready}
use Rattle.osb_binding_network.specs.Binding.{BindingCell, held_now}
use Rattle.osb_binding_network.specs.Service.{ServiceCells}
use Rattle.osb_instance.specs.Held.{nothing_held}
use Rattle.osb_message.specs.declared.messages.Answer.{Answer}
use Rattle.osb_network.specs.Cell.{Cell}
use Rattle.osb_network.specs.declared.event.Given.{Given}
use Rattle.osb_network.specs.declared.resource.Resource.{Resource}
use Rattle.osb_network.specs.declared.resource.Resource.TheVariants.{Absent, Part, Whole}
use Rattle.osb_network_language.specs.declared.event.Life.{Life}
use Rattle.osb_network_run.specs.Network.{Services}
use Rattle.osb_network_replay.specs.declared.seen.Seen.{Seen}

-- the last answer that was given
abbrev pub last_answer : List Given → Option Answer
last_answer given = option_map (λ (last : Given). last.answer) (slice_get given (length given - 1))

-- nothing: of a life that wasn't taken in
abbrev pub unseen : Seen
unseen = record {
  recorded_by = None;
  holding = nothing_held;
  resource = Absent;
  recorded = None;
  credentials = None;
  given = 0;
  answer = None;
}

-- an instance has no credentials
abbrev pub seen_instance : Cell → Seen
seen_instance cell = record {
  recorded_by = cell.recorded;
  holding = cell.held;
  resource = cell.resource;
  recorded = None;
  credentials = None;
  given = length cell.given;
  answer = last_answer cell.given;
}

-- the credentials that the platform records with `ready`
abbrev pub recorded_credentials : BindingCell → Option ℕ
recorded_credentials c = if is_ready c.life.recorded then Some c.recorded else None

-- the credentials of a resource that is whole
abbrev pub credentials_of : Resource → ℕ → Option ℕ
credentials_of Absent credentials = None
credentials_of Part credentials = None
credentials_of Whole credentials = Some credentials

abbrev pub existing_credentials : BindingCell → Option ℕ
existing_credentials c = credentials_of c.life.resource c.resource

-- of a binding whose tombstone was deleted the broker holds nothing
abbrev pub seen_binding : BindingCell → Seen
seen_binding c = record {
  recorded_by = c.life.recorded;
  holding = held_now c;
  resource = c.life.resource;
  recorded = recorded_credentials c;
  credentials = existing_credentials c;
  given = length c.life.given;
  answer = last_answer c.life.given;
}

abbrev pub seen_bound : Option BindingCell → Seen
seen_bound None = unseen
seen_bound (Some c) = seen_binding c

abbrev pub seen_in : Option ServiceCells → Option ℕ → Seen
seen_in None binding = unseen
seen_in (Some service) None = seen_instance service.instance
seen_in (Some service) (Some id) = seen_bound (map.get service.bindings id)

-- what there is of a life
abbrev pub seen_of : Services → Life → Seen
seen_of services life = seen_in (map.get services life.instance) life.binding
