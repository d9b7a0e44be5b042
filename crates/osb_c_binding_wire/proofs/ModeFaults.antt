-- For which faults a document doesn't say how its plans bind, and with which statuses: no plan's own mode is read.
use Rattle.std.proofs.Common.{◌≡◌, ℕ, Bool, true, false, ◌⊎◌, List, [], ◌∷◌, IsTrue, codes, refl, sym, subst, ⊎_elim}
use Rattle.std.proofs.Common.{Option, Some, None, Result, Ok, Err, is_some}
use Rattle.std.specs.FinMap.{empty, get}
use Rattle.serde_json.specs.Data.{Data, Items, no_items, item}
use Rattle.serde_json.specs.Find as json
use Rattle.serde_json.specs.Find.{as_bool}
use Rattle.osb_message.specs.declared.catalogue.Mode.{Mode}
use Rattle.osb_wire.specs.Bodies.{value_in}
use Rattle.osb_wire.specs.CatalogueDocuments as documents
use Rattle.osb_wire.specs.CatalogueDocuments.{Modes, own_id, list_at}
use Rattle.osb_wire.specs.declared.catalogue_reading.CatalogueFault.{CatalogueFault}
use Rattle.osb_wire.specs.declared.catalogue_reading.CatalogueFault.TheVariants.{NotJson, NoServices, BadService, NoPlans, BadPlan, BadMode}
use Rattle.osb_binding_wire.specs.Modes.{as_plans, flag_said, flag_given, flag_or, mode_by, mode_of, service_by, service_of, with_mode, with_plan}
use Rattle.osb_binding_wire.specs.Modes.{with_plans, with_service, with_services, modes_of, modes_in}
use Rattle.osb_binding_wire.specs.declared.catalogue.BindingModeFault.{BindingModeFault}
use Rattle.osb_binding_wire.specs.declared.catalogue.BindingModeFault.TheVariants.{Plans, NotABoolean, NotRetrievable}
use Rattle.osb_c_types.specs.Status.{code, is_one_of}
use Rattle.osb_c_types.specs.declared.status.Status.{Status}
use Rattle.osb_c_wire.proofs.Faults.{IsFor, next, found, either}
use Rattle.osb_c_binding_wire.specs.Modes.{mode_status}

-- the faults that a document can have
abbrev OfPlans : CatalogueFault → Type 0
OfPlans NotJson = Unit {0}
OfPlans NoServices = Unit {0}
OfPlans BadService = Unit {0}
OfPlans NoPlans = Unit {0}
OfPlans BadPlan = Unit {0}
OfPlans BadMode = ⊥
OfPlans CatalogueFault.Repeated = Unit {0}
OfPlans CatalogueFault.Memory = Unit {0}

abbrev pub IsSaid : BindingModeFault → Type 0
IsSaid (Plans fault) = OfPlans fault
IsSaid NotABoolean = Unit {0}
IsSaid NotRetrievable = Unit {0}

plans : {A : Type 0} (r : Result A CatalogueFault) → IsFor OfPlans r → IsFor IsSaid (as_plans r)
plans (Ok a) h = tt
plans (Err fault) h = h

an_id : (fault : CatalogueFault) (d : Data) → OfPlans fault → IsFor IsSaid (as_plans (own_id fault d))
an_id fault d h = plans (own_id fault d) (found OfPlans _ fault h)

a_list : (fault : CatalogueFault) (name : List ℕ) (d : Data) → OfPlans fault → IsFor IsSaid (as_plans (list_at fault name d))
a_list fault name d h = plans (list_at fault name d) (found OfPlans _ fault h)

said : (o : Option Bool) → IsFor IsSaid (flag_said o)
said None = tt
said (Some says) = tt

given : (otherwise : Bool) (o : Option Data) → IsFor IsSaid (flag_given otherwise o)
given otherwise None = tt
given otherwise (Some d) = said (as_bool d)

flag : (otherwise : Bool) (name : List ℕ) (d : Data) → IsFor IsSaid (flag_or otherwise name d)
flag otherwise name d = given otherwise (json.get name d)

mode : (retrievable bindable asynchronous : Bool) → IsFor IsSaid (mode_by retrievable bindable asynchronous)
mode retrievable false asynchronous = tt
mode retrievable true false = tt
mode true true true = tt
mode false true true = tt

of_plan : (id : ℕ) (bindable asynchronous retrievable : Bool) (d : Data)
    → IsFor IsSaid (mode_of (service_by id bindable asynchronous retrievable) d)
of_plan id bindable asynchronous retrievable d =
    next IsSaid _ (flag_or bindable (codes "bindable") d) (flag bindable (codes "bindable") d) (λ b.
    next IsSaid _ (flag_or asynchronous (codes "x-osb-asynchronous-bindings") d)
    (flag asynchronous (codes "x-osb-asynchronous-bindings") d) (λ a. mode retrievable b a))

of_service : (d : Data) → IsFor IsSaid (service_of d)
of_service d =
    next IsSaid _ (as_plans (own_id BadService d)) (an_id BadService d tt) (λ id.
    next IsSaid _ (flag_or false (codes "bindable") d) (flag false (codes "bindable") d) (λ bindable.
    next IsSaid _ (flag_or false (codes "x-osb-asynchronous-bindings") d) (flag false (codes "x-osb-asynchronous-bindings") d) (λ asynchronous.
    next IsSaid _ (flag_or false (codes "bindings_retrievable") d) (flag false (codes "bindings_retrievable") d) (λ retrievable. tt))))

added : (pair : ℕ × ℕ) (modes : Modes) (found : Option Mode) → IsFor IsSaid (with_mode pair modes found)
added pair modes None = tt
added pair modes (Some m) =
    plans (documents.with_mode pair modes m) (either OfPlans (is_some (get modes pair)) _ _ tt tt)

module _ (id : ℕ) (bindable asynchronous retrievable : Bool) where
  plan : (modes : Modes) (d : Data) → IsFor IsSaid (with_plan (service_by id bindable asynchronous retrievable) modes d)
  plan modes d =
      next IsSaid _ (as_plans (own_id BadPlan d)) (an_id BadPlan d tt) (λ p.
      next IsSaid _ (mode_of (service_by id bindable asynchronous retrievable) d) (of_plan id bindable asynchronous retrievable d)
      (λ found. added (id, p) modes found))

  each_plan : (ds : Items) (modes : Modes) → IsFor IsSaid (with_plans (service_by id bindable asynchronous retrievable) ds modes)
  each_plan no_items modes = tt
  each_plan (item d ds) modes =
      next IsSaid (with_plans (service_by id bindable asynchronous retrievable) ds)
      (with_plan (service_by id bindable asynchronous retrievable) modes d) (plan modes d) (each_plan ds)

service : (modes : Modes) (d : Data) → IsFor IsSaid (with_service modes d)
service modes d =
    next IsSaid _ (service_of d) (of_service d) (λ s.
    next IsSaid _ (as_plans (list_at NoPlans (codes "plans") d)) (a_list NoPlans (codes "plans") d tt)
    (λ ds. each_plan s.id s.bindable s.asynchronous s.retrievable ds modes))

each_service : (ds : Items) (modes : Modes) → IsFor IsSaid (with_services ds modes)
each_service no_items modes = tt
each_service (item d ds) modes =
    next IsSaid (with_services ds) (with_service modes d) (service modes d) (each_service ds)

document : (d : Option Data) → IsFor IsSaid (modes_of d)
document None = tt
document (Some d) =
    next IsSaid _ (as_plans (list_at NoServices (codes "services") d)) (a_list NoServices (codes "services") d tt)
    (λ ds. each_service ds empty)

pub is_said : (text : List ℕ) (fault : BindingModeFault)
    → (fault ≡ Plans CatalogueFault.Memory) ⊎ (modes_in text ≡ Err fault) → IsSaid fault
is_said text fault which =
    ⊎_elim (λ is. subst IsSaid (sym is) tt) (λ is. subst (IsFor IsSaid) is (document (value_in text))) which

-- one of the statuses with which a document is read
abbrev pub IsOfModes : ℕ → Type 0
IsOfModes n =
    IsTrue (is_one_of
    (Status.Done ∷ Status.NotJson ∷ Status.NoServices ∷ Status.BadService ∷ Status.NoPlans ∷ Status.BadPlan
    ∷ Status.PlanTwice ∷ Status.NotABoolean ∷ Status.NotRetrievable ∷ Status.TooSmall ∷ Status.Memory ∷ []) n)

pub status_said : (fault : BindingModeFault) → IsSaid fault → IsOfModes (code (mode_status fault))
status_said (Plans NotJson) h = refl
status_said (Plans NoServices) h = refl
status_said (Plans BadService) h = refl
status_said (Plans NoPlans) h = refl
status_said (Plans BadPlan) h = refl
status_said (Plans BadMode) h = absurd h
status_said (Plans CatalogueFault.Repeated) h = refl
status_said (Plans CatalogueFault.Memory) h = refl
status_said NotABoolean h = refl
status_said NotRetrievable h = refl
