-- The catalogue of a document that can be kept, with the texts of the ids beside their numbers (section Catalog
-- Management).
use Rattle.std.specs.Prelude.{◌≡◌, ℕ, Bool, false, List, [], codes, map, All, Option, Some, None, Result, Ok, Err}
use Rattle.std.specs.Prelude.{option_and_then, unwrap_or, String, string_bytes}
use Rattle.serde_json.specs.Data.{Data, Items}
use Rattle.serde_json.specs.Find as json
use Rattle.serde_json.specs.Find.{as_array}
use Rattle.osb_json.specs.Members.{flag_at}
use Rattle.osb_wire.specs.Bodies.{value_in, and_then}
use Rattle.osb_wire.specs.CatalogueDocuments.{Modes, catalogue_in}
use Rattle.osb_wire.specs.CatalogueRules.{Known, services_judged, learn_ids, learn_plans, id_texts_in, plan_texts}
use Rattle.osb_wire.specs.IdTexts.{number_of}
use Rattle.osb_wire.specs.declared.catalogue_rules.Endpoints.{Endpoints}
use Rattle.osb_wire.specs.declared.catalogue_rules.RuleFault.{RuleFault}
use Rattle.osb_wire.specs.declared.catalogue_reading.CatalogueFault.{CatalogueFault}
use Rattle.osb_wire.specs.declared.sold_document.DocumentFault.{DocumentFault}
use Rattle.osb_wire.specs.declared.sold_document.DocumentFault.TheVariants.{Plans, Rule}

-- texts beside their numbers, as a program has them
abbrev pub known_of : {A : Type 0} → List (ℕ × String A) → Known
known_of es = map (λ e. (e.0, string_bytes e.1)) es

-- the services of a document
abbrev pub services_of : Data → Option Items
services_of d = option_and_then as_array (json.get (codes "services") d)

abbrev pub services_in : List ℕ → Option Items
services_in text = option_and_then services_of (value_in text)

-- the texts of the services' ids, and of the plans'
abbrev pub service_texts_in : List ℕ → List (List ℕ)
service_texts_in text = id_texts_in (services_in text)

abbrev pub plan_texts_of : Option Items → List (List ℕ)
plan_texts_of None = []
plan_texts_of (Some ds) = plan_texts ds

abbrev pub plan_texts_in : List ℕ → List (List ℕ)
plan_texts_in text = plan_texts_of (services_in text)

-- whether the broker says that it never creates an id again (this project's choice)
abbrev pub tombstones_in : List ℕ → Bool
tombstones_in text = unwrap_or (option_and_then (flag_at (codes "x-osb-tombstones")) (value_in text)) false

abbrev pub as_rule : {A : Type 0} → Result A RuleFault → Result A DocumentFault
as_rule (Ok a) = Ok a
as_rule (Err fault) = Err (Rule fault)

-- the texts that are known of services, and of plans
abbrev pub Texts : Type 0
Texts = Known × Known

-- services that the rules allow
abbrev pub texts_of : Endpoints → Items → Result Texts RuleFault
texts_of serves ds =
    and_then (λ _. and_then (λ services. and_then (λ plans. Ok (services, plans)) (learn_plans [] ds)) (learn_ids [] ds))
    (services_judged serves [] ds)

abbrev pub texts_if : Endpoints → Option Items → Result Texts DocumentFault
texts_if serves None = Err (Plans CatalogueFault.NoServices)
texts_if serves (Some ds) = as_rule (texts_of serves ds)

abbrev pub sold_of : Endpoints → List ℕ → Result Modes CatalogueFault → Result (Modes × Texts) DocumentFault
sold_of serves text (Err fault) = Err (Plans fault)
sold_of serves text (Ok modes) = and_then (λ texts. Ok (modes, texts)) (texts_if serves (services_in text))

-- what a document sells, or its first fault: of its plans, and then of the rules
abbrev pub sold_in : Endpoints → List ℕ → Result (Modes × Texts) DocumentFault
sold_in serves text = sold_of serves text (catalogue_in text)

-- an allocation failed
abbrev pub IsMemory : DocumentFault → Type 0
IsMemory (Plans fault) = fault ≡ CatalogueFault.Memory
IsMemory (Rule fault) = fault ≡ RuleFault.Memory

-- no two of these texts have one number
abbrev pub AreInjective : List (List ℕ) → Type 0
AreInjective texts =
    All (λ s. All (λ t. (n : ℕ) → number_of s ≡ Some n → number_of t ≡ Some n → s ≡ t) texts) texts
