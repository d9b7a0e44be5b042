-- What a document has to have so that its catalogue can be kept (section Catalog Management): each service and plan has a
-- name, which no other has, and a description; each service says whether it is bindable, and has a plan; and no flag
-- promises an endpoint that isn't served. In which order faults are told is this project's choice.
use Rattle.std.specs.Prelude.{◌≡◌, ℕ, Bool, true, false, ◌==◌, if◌then◌else◌, List, [], ◌∷◌, ◌++◌, codes, length}
use Rattle.std.specs.Prelude.{Option, Some, None, Result, Ok, Err, option_and_then, option_to_list, is_some}
use Rattle.std.specs.List.{list_any}
use Rattle.std.specs.Str.{bytes_eq}
use Rattle.serde_json.specs.Data.{Data, Items, no_items, item}
use Rattle.serde_json.specs.Find as json
use Rattle.serde_json.specs.Find.{as_array, as_bool}
use Rattle.osb_json.specs.Members.{text_at}
use Rattle.osb_wire.specs.Bodies.{and_then}
use Rattle.osb_wire.specs.IdTexts.{number_of}
use Rattle.osb_wire.specs.declared.catalogue_rules.Endpoints.{Endpoints}
use Rattle.osb_wire.specs.declared.catalogue_rules.RuleFault.{RuleFault}
use Rattle.osb_wire.specs.declared.catalogue_rules.RuleFault.TheVariants.{NoName, NameTwice, NoDescription, NotABoolean, NoBindable}
use Rattle.osb_wire.specs.declared.catalogue_rules.RuleFault.TheVariants.{NoPlan, Bindable, PlanUpdateable}
use Rattle.osb_wire.specs.declared.catalogue_rules.RuleFault.TheVariants.{InstancesRetrievable, BindingsRetrievable, SameNumber}

abbrev pub Verdict : Type 0
Verdict = Result (Unit {0}) RuleFault

-- a text that isn't empty
abbrev pub if_some : List ℕ → Option (List ℕ)
if_some text = if length text == 0 then None else Some text

abbrev pub some_text_at : List ℕ → Data → Option (List ℕ)
some_text_at name d = option_and_then if_some (text_at name d)

-- the name of a service or of a plan
abbrev pub name_of : Data → Option (List ℕ)
name_of d = some_text_at (codes "name") d

abbrev pub described : Data → Verdict
described d = if is_some (some_text_at (codes "description") d) then Ok tt else Err NoDescription

-- a flag that says so promises endpoints, which have to be served
abbrev pub promised : Bool → RuleFault → Bool → Verdict
promised served fault true = if served then Ok tt else Err fault
promised served fault false = Ok tt

abbrev pub flag_said : Bool → RuleFault → Option Bool → Verdict
flag_said served fault None = Err NotABoolean
flag_said served fault (Some says) = promised served fault says

-- a flag that may be missing
abbrev pub flag_judged : Bool → RuleFault → Option Data → Verdict
flag_judged served fault None = Ok tt
flag_judged served fault (Some d) = flag_said served fault (as_bool d)

-- a flag that may not
abbrev pub flag_needed : Bool → RuleFault → Option Data → Verdict
flag_needed served fault None = Err NoBindable
flag_needed served fault (Some d) = flag_said served fault (as_bool d)

-- a plan's own flags
abbrev pub plan_flags : Endpoints → Data → Verdict
plan_flags serves d =
    and_then (λ _. flag_judged serves.updating PlanUpdateable (json.get (codes "plan_updateable") d))
    (flag_judged serves.bindings Bindable (json.get (codes "bindable") d))

-- a service's
abbrev pub service_flags : Endpoints → Data → Verdict
service_flags serves d =
    and_then (λ _. and_then (λ _. and_then (λ _.
    flag_judged serves.fetching_bindings BindingsRetrievable (json.get (codes "bindings_retrievable") d))
    (flag_judged serves.fetching_instances InstancesRetrievable (json.get (codes "instances_retrievable") d)))
    (flag_judged serves.updating PlanUpdateable (json.get (codes "plan_updateable") d)))
    (flag_needed serves.bindings Bindable (json.get (codes "bindable") d))

-- a name that none before has
abbrev pub is_among : List (List ℕ) → List ℕ → Bool
is_among names name = list_any (λ other. bytes_eq other name) names

abbrev pub new_name : List (List ℕ) → Option (List ℕ) → Result (List (List ℕ)) RuleFault
new_name names None = Err NoName
new_name names (Some name) = if is_among names name then Err NameTwice else Ok (names ++ name ∷ [])

-- a plan, after those with these names
abbrev pub plan_judged : Endpoints → List (List ℕ) → Data → Result (List (List ℕ)) RuleFault
plan_judged serves names d =
    and_then (λ all. and_then (λ _. and_then (λ _. Ok all) (plan_flags serves d)) (described d)) (new_name names (name_of d))

abbrev pub plans_judged : Endpoints → List (List ℕ) → Items → Verdict
plans_judged serves names no_items = Ok tt
plans_judged serves names (item d ds) = and_then (λ all. plans_judged serves all ds) (plan_judged serves names d)

-- a list that has a plan
abbrev pub plans_given : Endpoints → Option Items → Verdict
plans_given serves None = Err NoPlan
plans_given serves (Some no_items) = Err NoPlan
plans_given serves (Some (item d ds)) = plans_judged serves [] (item d ds)

abbrev pub plans_of : Data → Option Items
plans_of d = option_and_then as_array (json.get (codes "plans") d)

-- a service, after those with these names
abbrev pub service_judged : Endpoints → List (List ℕ) → Data → Result (List (List ℕ)) RuleFault
service_judged serves names d =
    and_then (λ all. and_then (λ _. and_then (λ _. and_then (λ _. Ok all)
    (plans_given serves (plans_of d))) (service_flags serves d)) (described d)) (new_name names (name_of d))

abbrev pub services_judged : Endpoints → List (List ℕ) → Items → Verdict
services_judged serves names no_items = Ok tt
services_judged serves names (item d ds) =
    and_then (λ all. services_judged serves all ds) (service_judged serves names d)

-- ---- texts of ids and their numbers

-- texts beside their numbers
abbrev pub Known : Type 0
Known = List (ℕ × List ℕ)

-- the text that is known with a number
abbrev pub known_text : ℕ → Known → Option (List ℕ)
known_text n [] = None
known_text n (e ∷ es) = if e.0 == n then Some e.1 else known_text n es

abbrev pub learn_beside : Known → List ℕ → ℕ → Option (List ℕ) → Result Known RuleFault
learn_beside known text n None = Ok (known ++ (n, text) ∷ [])
learn_beside known text n (Some other) = if bytes_eq other text then Ok known else Err SameNumber

abbrev pub learn_numbered : Known → List ℕ → Option ℕ → Result Known RuleFault
learn_numbered known text None = Ok known
learn_numbered known text (Some n) = learn_beside known text n (known_text n known)

-- with the text of an id, which no other text may have the number of
abbrev pub learn_text : Known → List ℕ → Result Known RuleFault
learn_text known text = learn_numbered known text (number_of text)

abbrev pub learn_if : Known → Option (List ℕ) → Result Known RuleFault
learn_if known None = Ok known
learn_if known (Some text) = learn_text known text

-- with the texts of these services' ids, or of these plans'
abbrev pub learn_ids : Known → Items → Result Known RuleFault
learn_ids known no_items = Ok known
learn_ids known (item d ds) = and_then (λ more. learn_ids more ds) (learn_if known (text_at (codes "id") d))

abbrev pub learn_list : Known → Option Items → Result Known RuleFault
learn_list known None = Ok known
learn_list known (Some ds) = learn_ids known ds

-- with the texts of the plans' ids of these services
abbrev pub learn_plans : Known → Items → Result Known RuleFault
learn_plans known no_items = Ok known
learn_plans known (item d ds) = and_then (λ more. learn_plans more ds) (learn_list known (plans_of d))

-- a text stands beside its number
abbrev pub IsKnown : Known → List ℕ → Type 0
IsKnown known text = (n : ℕ) → number_of text ≡ Some n → known_text n known ≡ Some text

-- the text of an id is among those of these services or plans
abbrev pub id_texts : Items → List (List ℕ)
id_texts no_items = []
id_texts (item d ds) = option_to_list (text_at (codes "id") d) ++ id_texts ds

abbrev pub id_texts_in : Option Items → List (List ℕ)
id_texts_in None = []
id_texts_in (Some ds) = id_texts ds

-- and among those of the plans of these services
abbrev pub plan_texts : Items → List (List ℕ)
plan_texts no_items = []
plan_texts (item d ds) = id_texts_in (plans_of d) ++ plan_texts ds
