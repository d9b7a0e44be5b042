-- Which binding a method and a path ask of.
use Rattle.std.specs.Prelude.{ℕ, Bool, true, false, if◌then◌else◌, List, codes, take, drop}
use Rattle.std.specs.Prelude.{Option, Some, None, option_map, option_and_then, Result, Ok, Err}
use Rattle.std.specs.Str.{bytes_eq}
use Rattle.osb_message.specs.declared.messages.Kind.TheVariants.{Provision, Poll, Deprovision}
use Rattle.osb_wire.specs.Paths.{slash_at, plain_path, segment_text, segment_number}
use Rattle.osb_wire.specs.Targets.{after_front, place_below, below_instances, asks_for_catalogue}
use Rattle.osb_wire.specs.Targets as instances
use Rattle.osb_wire.specs.declared.refusal.Refusal.TheVariants.{NoSuchTarget, NoSuchMethod, BadInstance}
use Rattle.osb_binding_wire.specs.declared.place.Place.{Place}
use Rattle.osb_binding_wire.specs.declared.place.Wanted.{Wanted}
use Rattle.osb_binding_wire.specs.declared.refusal.BindingRefusal.{BindingRefusal}
use Rattle.osb_binding_wire.specs.declared.refusal.BindingRefusal.TheVariants.{BadBinding, Refused}
use Rattle.osb_binding_wire.specs.declared.target.Target.{Target}
use Rattle.osb_binding_wire.specs.declared.target.Target.TheVariants.{Catalogue, Instance, InstanceOperation, Binding, BindingOperation}

-- what follows the instance's id (section Binding)
abbrev pub bindings_path : List ℕ
bindings_path = codes "/service_bindings/"

-- the segments of the instance's id and of the binding's, and whether the last operation is asked for
abbrev pub Segments : Type 0
Segments = List ℕ × (List ℕ × Bool)

-- of the instance's segment, and of what follows it
abbrev pub segments_of : List ℕ → List ℕ → Option Segments
segments_of instance more =
    option_map (λ binding. (instance, binding)) (option_and_then place_below (after_front bindings_path more))

abbrev pub segments_after : List ℕ → Option Segments
segments_after rest = segments_of (take (slash_at rest) rest) (drop (slash_at rest) rest)

-- in a path as it stands, after the broker's prefix
abbrev pub segments_as_they_stand : List ℕ → List ℕ → Option Segments
segments_as_they_stand prefix path = option_and_then segments_after (below_instances prefix path)

abbrev pub segments_or : Option Segments → Option Segments → Option Segments
segments_or None otherwise = otherwise
segments_or (Some segments) otherwise = Some segments

-- in a path as it stands, or in the plain path that it stands for
abbrev pub segments_in : List ℕ → List ℕ → Option Segments
segments_in prefix path =
    segments_or (segments_as_they_stand prefix path) (segments_as_they_stand prefix (plain_path path))

-- the texts of the two ids
abbrev pub instance_text : List ℕ → List ℕ → Option (List ℕ)
instance_text prefix path = option_and_then (λ segments. segment_text segments.0) (segments_in prefix path)

abbrev pub binding_text : List ℕ → List ℕ → Option (List ℕ)
binding_text prefix path = option_and_then (λ segments. segment_text segments.1.0) (segments_in prefix path)

-- what is asked for by a method at a binding, or at its last operation (sections Binding, Unbinding, Fetching a Service
-- Binding and Polling Last Operation for Service Bindings)
abbrev pub wanted_at : List ℕ → Bool → Option Wanted
wanted_at method true = if bytes_eq method (codes "GET") then Some (Wanted.Answer Poll) else None
wanted_at method false =
    if bytes_eq method (codes "PUT") then Some (Wanted.Answer Provision)
    else (if bytes_eq method (codes "DELETE") then Some (Wanted.Answer Deprovision)
    else (if bytes_eq method (codes "GET") then Some Wanted.Binding else None))

abbrev pub place_by : Wanted → ℕ → ℕ → Place
place_by wanted instance binding = record { wanted = wanted; instance = instance; binding = binding }

-- the instance's id is judged before the binding's
abbrev pub place_of_ids : Wanted → Option ℕ → Option ℕ → Result Place BindingRefusal
place_of_ids wanted None binding = Err (Refused BadInstance)
place_of_ids wanted (Some instance) None = Err BadBinding
place_of_ids wanted (Some instance) (Some binding) = Ok (place_by wanted instance binding)

abbrev pub place_named : Segments → Option Wanted → Result Place BindingRefusal
place_named segments None = Err (Refused NoSuchMethod)
place_named segments (Some wanted) =
    place_of_ids wanted (segment_number segments.0) (segment_number segments.1.0)

abbrev pub place_at : List ℕ → Option Segments → Result Place BindingRefusal
place_at method None = Err (Refused NoSuchTarget)
place_at method (Some segments) = place_named segments (wanted_at method segments.1.1)

-- what is asked for, and of which binding; the path is judged first, then the method, then the ids
abbrev pub place_in : List ℕ → List ℕ → List ℕ → Result Place BindingRefusal
place_in prefix method path = place_at method (segments_in prefix path)

-- ---- what a path names, whatever the method is and the ids are

abbrev pub instance_target : Bool → Target
instance_target true = InstanceOperation
instance_target false = Instance

abbrev pub binding_target : Bool → Target
binding_target true = BindingOperation
binding_target false = Binding

-- of whether it is the catalogue's, of the place of an instance, and of the segments of a binding
abbrev pub target_of : Bool → Option instances.Place → Option Segments → Option Target
target_of true instance binding = Some Catalogue
target_of false (Some instance) binding = Some (instance_target instance.1)
target_of false None (Some binding) = Some (binding_target binding.1.1)
target_of false None None = None

abbrev pub target_in : List ℕ → List ℕ → Option Target
target_in prefix path =
    target_of (asks_for_catalogue prefix path) (instances.place_in prefix path) (segments_in prefix path)
