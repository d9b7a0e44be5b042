-- Texts that are judged to be a request's are.
use Rattle.std.proofs.Common.{◌≡◌, ℕ, ◌==◌, Bool, true, false, not, ◌&&◌, cond, List, Option, Some, None, Ok, Err, refl, sym, ap, ◌∙◌, true≢false}
use Rattle.std.proofs.lemmas.Bool.{eqb-true}
use Rattle.std.specs.Prelude.{option_map, unwrap_or, Result}
use Rattle.osb_message.specs.declared.messages.Request.{Request}
use Rattle.osb_message.specs.IdText.{id_text, id_of_lower}
use Rattle.osb_wire.specs.IdTexts.{number_of}
use Rattle.osb_wire.specs.Names.{is_number, names_judged}
use Rattle.osb_wire.specs.Paths.{is_dots}
use Rattle.osb_wire.specs.Targets.{Texts, AreTextsOf}
use Rattle.osb_wire.specs.declared.names.NameFault.{NameFault}
use Rattle.osb_wire.specs.declared.names.NameFault.TheVariants.{BadInstance, BadService, BadPlan}
use Rattle.osb_wire.proofs.IdBytes.{own_number, own_no_dots}

pub is_so : (o : Option ℕ) (n : ℕ) → unwrap_or (option_map (λ m. m == n) o) false ≡ true → o ≡ Some n
is_so None n h = absurd (true≢false (sym h))
is_so (Some m) n h = ap Some (eqb-true m n h)

abbrev verdict : Bool → Bool → Bool → Bool → Result (Unit {0}) NameFault
verdict i d s p = cond (i && not d) (cond s (cond p (Ok tt) (Err BadPlan)) (Err BadService)) (Err BadInstance)

all_four : (i d s p : Bool) → verdict i d s p ≡ Ok tt → (i ≡ true) × (d ≡ false) × (s ≡ true) × (p ≡ true)
all_four true false true true h = (refl, refl, refl, refl)
all_four true false true false h = absurd (cc)
all_four true false false p h = absurd (cc)
all_four true true s p h = absurd (cc)
all_four false d s p h = absurd (cc)

pub judged_so : (r : Request) (t : Texts) → names_judged r t ≡ Ok tt → AreTextsOf r t
judged_so r t h =
    let all = all_four (is_number t.instance r.id) (is_dots t.instance) (is_number t.service r.service) (is_number t.plan r.plan) h in
    record {
      instance = is_so (number_of t.instance) r.id all.0;
      service = is_so (number_of t.service) r.service all.2;
      plan = is_so (number_of t.plan) r.plan all.3;
      segment = all.1;
    }

-- the text of a GUID in lower case is its id's
pub own_text : (text : List ℕ) (n : ℕ) → text ≡ id_text n → id_of_lower text ≡ Some n → number_of text ≡ Some n
own_text text n is reads = ap number_of is ∙ own_number n (ap id_of_lower (sym is) ∙ reads)

pub own_so : (r : Request) (instance service plan : List ℕ) → instance ≡ id_text r.id → id_of_lower instance ≡ Some r.id
    → service ≡ id_text r.service → id_of_lower service ≡ Some r.service → plan ≡ id_text r.plan
    → id_of_lower plan ≡ Some r.plan
    → AreTextsOf r (record { instance = instance; service = service; plan = plan })
own_so r instance service plan is_instance reads_instance is_service reads_service is_plan reads_plan = record {
  instance = own_text instance r.id is_instance reads_instance;
  service = own_text service r.service is_service reads_service;
  plan = own_text plan r.plan is_plan reads_plan;
  segment = ap is_dots is_instance ∙ own_no_dots r.id;
}
