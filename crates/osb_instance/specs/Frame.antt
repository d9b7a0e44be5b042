-- The frame of both texts, which is this project's choice: an object with the number of the format.
use Rattle.std.specs.Prelude.{ℕ, Bool, false, ◌==◌, if◌then◌else◌, List, codes}
use Rattle.std.specs.Prelude.{Option, Some, None, Result, Ok, Err, is_some}
use Rattle.serde_json.specs.Data.{Data}
use Rattle.serde_json.specs.Find.{as_object}
use Rattle.serde_json.specs.Read.{read}
use Rattle.osb_json.specs.Members.{number_at}
use Rattle.osb_instance.specs.declared.faults.TextFault.{TextFault}
use Rattle.osb_instance.specs.declared.faults.TextFault.TheVariants.{NotJson, NotAnObject, BadVersion}

abbrev pub is_number : ℕ → Option ℕ → Bool
is_number version None = false
is_number version (Some found) = found == version

-- whether this number of a format stands in a value
abbrev pub has_version : ℕ → Data → Bool
has_version version d = is_number version (number_at (codes "version") d)

abbrev pub as_an_object : Option Data → Result Data TextFault
as_an_object None = Err NotJson
as_an_object (Some d) = if is_some (as_object d) then Ok d else Err NotAnObject

-- the object that a text is
abbrev pub object_in : List ℕ → Result Data TextFault
object_in text = as_an_object (read text)

-- where a reading succeeds, what a further step makes of it
abbrev pub and_then : {A B : Type 0} → (A → Result B TextFault) → Result A TextFault → Result B TextFault
and_then step (Ok a) = step a
and_then step (Err fault) = Err fault

abbrev pub of_version : ℕ → Data → Result Data TextFault
of_version version d = if has_version version d then Ok d else Err BadVersion

-- the object that a text is, if it has the number of the format
abbrev pub framed : ℕ → List ℕ → Result Data TextFault
framed version text = and_then (of_version version) (object_in text)
