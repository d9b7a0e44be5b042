-- A path that names nothing has no instance and no binding.
use Rattle.std.proofs.Common.{◌≡◌, ℕ, List, Option, Some, None, Err, false, refl}
use Rattle.osb_wire.specs.Targets as targets
use Rattle.osb_wire.specs.declared.refusal.Refusal.TheVariants.{NoSuchTarget}
use Rattle.osb_binding_wire.specs.Places as places
use Rattle.osb_binding_wire.specs.declared.refusal.BindingRefusal.TheVariants.{Refused}

instance_missing : (method : List ℕ) (i : Option targets.Place) (b : Option places.Segments)
    → places.target_of false i b ≡ None → targets.instance_at method i ≡ Err NoSuchTarget
instance_missing method (Some i) b h = absurd (cc)
instance_missing method None b h = refl

binding_missing : (method : List ℕ) (i : Option targets.Place) (b : Option places.Segments)
    → places.target_of false i b ≡ None → places.place_at method b ≡ Err (Refused NoSuchTarget)
binding_missing method (Some i) b h = absurd (cc)
binding_missing method None (Some b) h = absurd (cc)
binding_missing method None None h = refl

pub no_instance : (prefix method path : List ℕ)
    → places.target_of false (targets.place_in prefix path) (places.segments_in prefix path) ≡ None
    → targets.instance_in prefix method path ≡ Err NoSuchTarget
no_instance prefix method path h =
    instance_missing method (targets.place_in prefix path) (places.segments_in prefix path) h

pub no_binding : (prefix method path : List ℕ)
    → places.target_of false (targets.place_in prefix path) (places.segments_in prefix path) ≡ None
    → places.place_in prefix method path ≡ Err (Refused NoSuchTarget)
no_binding prefix method path h =
    binding_missing method (targets.place_in prefix path) (places.segments_in prefix path) h
