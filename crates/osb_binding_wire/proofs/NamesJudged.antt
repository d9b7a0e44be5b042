-- Texts that are judged to be a request's are.
use Rattle.std.proofs.Common.{◌≡◌, Bool, true, false, not, ◌&&◌, cond, Ok, Err, refl}
use Rattle.std.specs.Prelude.{Result}
use Rattle.osb_binding.specs.declared.request.BindingRequest.{BindingRequest}
use Rattle.osb_wire.specs.IdTexts.{number_of}
use Rattle.osb_wire.specs.Names.{is_number}
use Rattle.osb_wire.specs.Paths.{is_dots}
use Rattle.osb_wire.proofs.JudgedNames.{is_so}
use Rattle.osb_binding_wire.specs.Names.{Texts, names_judged, AreTextsOf}
use Rattle.osb_binding_wire.specs.declared.names.BindingNameFault.{BindingNameFault}
use Rattle.osb_binding_wire.specs.declared.names.BindingNameFault.TheVariants.{BadInstance, BadBinding, BadService, BadPlan}

abbrev verdict : Bool → Bool → Bool → Bool → Bool → Bool → Result (Unit {0}) BindingNameFault
verdict i d b e s p =
    cond (i && not d)
    (cond (b && not e) (cond s (cond p (Ok tt) (Err BadPlan)) (Err BadService)) (Err BadBinding))
    (Err BadInstance)

all_six : (i d b e s p : Bool) → verdict i d b e s p ≡ Ok tt
    → (i ≡ true) × (d ≡ false) × (b ≡ true) × (e ≡ false) × (s ≡ true) × (p ≡ true)
all_six true false true false true true h = (refl, refl, refl, refl, refl, refl)
all_six true false true false true false h = absurd (cc)
all_six true false true false false p h = absurd (cc)
all_six true false true true s p h = absurd (cc)
all_six true false false e s p h = absurd (cc)
all_six true true b e s p h = absurd (cc)
all_six false d b e s p h = absurd (cc)

pub judged_so : (r : BindingRequest) (t : Texts) → names_judged r t ≡ Ok tt → AreTextsOf r t
judged_so r t h =
    let all = all_six (is_number t.instance r.instance) (is_dots t.instance) (is_number t.binding r.binding) (is_dots t.binding) (is_number t.service r.service) (is_number t.plan r.plan) h in
    record {
      instance = is_so (number_of t.instance) r.instance all.0;
      binding = is_so (number_of t.binding) r.binding all.2;
      service = is_so (number_of t.service) r.service all.4;
      plan = is_so (number_of t.plan) r.plan all.5;
      segment = all.1;
      binding_segment = all.3;
    }
