-- What a method and a path ask of an instance that exists.
use Rattle.std.specs.Prelude.{ℕ, Bool, true, false, if◌then◌else◌, List, codes, Option, Some, None, option_map, Result, Err}
use Rattle.std.specs.Option.{ok_or}
use Rattle.std.specs.Str.{bytes_eq}
use Rattle.osb_wire.specs.Paths.{segment_number}
use Rattle.osb_wire.specs.Targets as targets
use Rattle.osb_wire.specs.declared.refusal.Refusal.{Refusal}
use Rattle.osb_wire.specs.declared.refusal.Refusal.TheVariants.{NoSuchTarget, NoSuchMethod, BadInstance}
use Rattle.osb_update_wire.specs.declared.place.Wanted.{Wanted}

-- what is asked for by a method at an instance, or at its last operation (sections Updating a Service Instance and
-- Fetching a Service Instance)
abbrev pub wanted_at : List ℕ → Bool → Option Wanted
wanted_at method true = None
wanted_at method false =
    if bytes_eq method (codes "PATCH") then Some Wanted.Update
    else (if bytes_eq method (codes "GET") then Some Wanted.Fetch else None)

abbrev pub place_named : List ℕ → Option Wanted → Result (Wanted × ℕ) Refusal
place_named segment None = Err NoSuchMethod
place_named segment (Some wanted) = ok_or (option_map (λ id. (wanted, id)) (segment_number segment)) BadInstance

abbrev pub place_at : List ℕ → Option targets.Place → Result (Wanted × ℕ) Refusal
place_at method None = Err NoSuchTarget
place_at method (Some place) = place_named place.0 (wanted_at method place.1)

-- what is asked for, and of which instance; the path is judged first, then the method, then the id
abbrev pub place_in : List ℕ → List ℕ → List ℕ → Result (Wanted × ℕ) Refusal
place_in prefix method path = place_at method (targets.place_in prefix path)
