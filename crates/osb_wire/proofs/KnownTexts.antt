-- Each text that is learned stays beside its number, so no two have one.
use Rattle.std.proofs.Common.{◌≡◌, ℕ, ◌==◌, Bool, true, false, cond, List, [], ◌∷◌, ◌++◌, All, Option, Some, None, Result, Ok, Err}
use Rattle.std.proofs.Common.{refl, sym, ap, ◌∙◌, subst, arith}
use Rattle.std.specs.Prelude.{codes, option_to_list}
use Rattle.std.specs.Str.{bytes_eq}
use Rattle.std.proofs.lemmas.Slice.Eq.{bytes_eq-Decides}
use Rattle.std.proofs.lemmas.List.Elements.{All-nil, All-cons, All-append, All-weaker}
use Rattle.serde_json.specs.Data.{Items, no_items, item}
use Rattle.osb_json.specs.Members.{text_at}
use Rattle.osb_wire.specs.Bodies.{and_then}
use Rattle.osb_wire.specs.CatalogueRules.{Known, known_text, learn_beside, learn_numbered, learn_text, learn_if, learn_ids}
use Rattle.osb_wire.specs.CatalogueRules.{learn_list, learn_plans, services_judged, IsKnown, id_texts, id_texts_in, plan_texts, plans_of}
use Rattle.osb_wire.specs.IdTexts.{number_of}
use Rattle.osb_wire.specs.SoldDocuments.{AreInjective, texts_of}
use Rattle.osb_wire.specs.declared.catalogue_rules.Endpoints.{Endpoints}
use Rattle.osb_wire.specs.declared.catalogue_rules.RuleFault.{RuleFault}
use Rattle.osb_wire.specs.declared.catalogue_rules.RuleFault.TheVariants.{SameNumber}

-- what is known stays known
abbrev pub Keeps : Known → Known → Type 0
Keeps known more = (n : ℕ) (t : List ℕ) → known_text n known ≡ Some t → known_text n more ≡ Some t

keeps_refl : (known : Known) → Keeps known known
keeps_refl known n t h = h

keeps_trans : (a b c : Known) → Keeps a b → Keeps b c → Keeps a c
keeps_trans a b c h k n t e = k n t (h n t e)

-- one more at the end
stays_at : (b : Bool) (x t : List ℕ) (rest more : Option (List ℕ)) → (rest ≡ Some t → more ≡ Some t)
    → cond b (Some x) rest ≡ Some t → cond b (Some x) more ≡ Some t
stays_at true x t rest more h e = e
stays_at false x t rest more h e = h e

stays : (known more : Known) → Keeps known (known ++ more)
stays [] more n t h = absurd (cc)
stays (e ∷ es) more n t h = stays_at (e.0 == n) e.1 t (known_text n es) (known_text n (es ++ more)) (stays es more n t) h

lands_at : (b : Bool) (x t : List ℕ) (rest more : Option (List ℕ)) → (rest ≡ None → more ≡ Some t)
    → cond b (Some x) rest ≡ None → cond b (Some x) more ≡ Some t
lands_at true x t rest more h e = absurd (cc)
lands_at false x t rest more h e = h e

here : (n : ℕ) (t : List ℕ) → cond (n == n) (Some t) None ≡ Some t
here n t = grind arith

lands : (known : Known) (n : ℕ) (t : List ℕ) → known_text n known ≡ None → known_text n (known ++ (n, t) ∷ []) ≡ Some t
lands [] n t h = here n t
lands (e ∷ es) n t h =
    lands_at (e.0 == n) e.1 t (known_text n es) (known_text n (es ++ (n, t) ∷ [])) (lands es n t) h

-- ---- a text that is learned

pub record Learned (known more : Known) (text : List ℕ) : Type 0 where
  pub keeps : Keeps known more
  pub is : IsKnown more text

same_text : (b : Bool) (x text : List ℕ) (known more : Known) (fault : RuleFault) → bytes_eq x text ≡ b
    → cond b (Ok known) (Err fault) ≡ Ok more → (x ≡ text) × (known ≡ more)
same_text true x text known more fault is h = ((bytes_eq-Decides x text).0 is, cc)
same_text false x text known more fault is h = absurd (cc)

beside : (known more : Known) (text : List ℕ) (n : ℕ) (found : Option (List ℕ)) → known_text n known ≡ found
    → learn_beside known text n found ≡ Ok more
    → Keeps known more × (known_text n more ≡ Some text)
beside known more text n None is h =
    let same : known ++ (n, text) ∷ [] ≡ more = cc in
    (subst (Keeps known) same (stays known ((n, text) ∷ [])), ap (known_text n) (sym same) ∙ lands known n text is)
beside known more text n (Some x) is h =
    let both = same_text (bytes_eq x text) x text known more SameNumber refl h in
    (subst (Keeps known) both.1 (keeps_refl known), ap (known_text n) (sym both.1) ∙ is ∙ ap Some both.0)

same_number : (n m : ℕ) (o : Option ℕ) → o ≡ Some n → o ≡ Some m → n ≡ m
same_number n m o is e = cc

no_number : (m : ℕ) (o : Option ℕ) → o ≡ None → o ≡ Some m → ⊥
no_number m o is e = cc

abbrev known_ok : Known → Result Known RuleFault
known_ok known = Ok known

abbrev both_ok : Known → Known → Result (Known × Known) RuleFault
both_ok services plans = Ok (services, plans)

same_known : (known more : Known) → known_ok known ≡ Ok more → known ≡ more
same_known known more h = cc

numbered : (known more : Known) (text : List ℕ) (o : Option ℕ) → number_of text ≡ o → learn_numbered known text o ≡ Ok more
    → Learned known more text
numbered known more text None is h = record {
  keeps = subst (Keeps known) (same_known known more h) (keeps_refl known);
  is = λ n e. absurd (no_number n (number_of text) is e);
}
numbered known more text (Some n) is h =
    let both = beside known more text n (known_text n known) refl h in
    record {
      keeps = both.0;
      is = λ m e. subst (λ k. known_text k more ≡ Some text) (same_number n m (number_of text) is e) both.1;
    }

pub learned : (known more : Known) (text : List ℕ) → learn_text known text ≡ Ok more → Learned known more text
learned known more text h = numbered known more text (number_of text) refl h

-- ---- texts that are learned one after another

pub record AllLearned (known more : Known) (texts : List (List ℕ)) : Type 0 where
  pub keeps : Keeps known more
  pub all : All (IsKnown more) texts

nothing_learned : (known more : Known) → known_ok known ≡ Ok more → AllLearned known more []
nothing_learned known more h =
    record { keeps = subst (Keeps known) (same_known known more h) (keeps_refl known); all = All-nil (IsKnown more) }

later : (known more : Known) (text : List ℕ) → Keeps known more → IsKnown known text → IsKnown more text
later known more text keeps is n e = keeps n text (is n e)

then_learned : (known more : Known) (first rest : List (List ℕ)) (step : Known → Result Known RuleFault)
    (r : Result Known RuleFault) → ((m : Known) → r ≡ Ok m → AllLearned known m first)
    → ((m : Known) → step m ≡ Ok more → AllLearned m more rest) → and_then step r ≡ Ok more
    → AllLearned known more (first ++ rest)
then_learned known more first rest step (Ok m) one two h =
    let a = one m refl in
    let b = two m h in
    record {
      keeps = keeps_trans known m more a.keeps b.keeps;
      all = All-append (IsKnown more) first rest
          (All-weaker (IsKnown m) (IsKnown more) (λ t k. later m more t b.keeps k) first a.all) b.all;
    }
then_learned known more first rest step (Err fault) one two h = absurd (cc)

if_learned : (known more : Known) (o : Option (List ℕ)) → learn_if known o ≡ Ok more → AllLearned known more (option_to_list o)
if_learned known more None h = nothing_learned known more h
if_learned known more (Some text) h =
    let one = learned known more text h in
    record { keeps = one.keeps; all = All-cons (IsKnown more) text [] one.is (All-nil (IsKnown more)) }

ids_learned : (known more : Known) (ds : Items) → learn_ids known ds ≡ Ok more → AllLearned known more (id_texts ds)
ids_learned known more no_items h = nothing_learned known more h
ids_learned known more (item d ds) h =
    then_learned known more (option_to_list (text_at (codes "id") d)) (id_texts ds) (λ m. learn_ids m ds)
    (learn_if known (text_at (codes "id") d)) (λ m e. if_learned known m (text_at (codes "id") d) e)
    (λ m e. ids_learned m more ds e) h

list_learned : (known more : Known) (o : Option Items) → learn_list known o ≡ Ok more → AllLearned known more (id_texts_in o)
list_learned known more None h = nothing_learned known more h
list_learned known more (Some ds) h = ids_learned known more ds h

plans_learned : (known more : Known) (ds : Items) → learn_plans known ds ≡ Ok more → AllLearned known more (plan_texts ds)
plans_learned known more no_items h = nothing_learned known more h
plans_learned known more (item d ds) h =
    then_learned known more (id_texts_in (plans_of d)) (plan_texts ds) (λ m. learn_plans m ds)
    (learn_list known (plans_of d)) (λ m e. list_learned known m (plans_of d) e)
    (λ m e. plans_learned m more ds e) h

-- ---- what the rules allow

both_of : (a b : Result Known RuleFault) (s p : Known)
    → and_then (λ services. and_then (λ plans. Ok (services, plans)) b) a ≡ both_ok s p
    → (a ≡ Ok s) × (b ≡ Ok p)
both_of (Ok x) (Ok y) s p h =
    let e : (x, y) ≡ (s, p) = cc in
    (ap (λ (q : Known × Known). Ok q.0) e, ap (λ (q : Known × Known). Ok q.1) e)
both_of (Ok x) (Err fault) s p h = absurd (cc)
both_of (Err fault) b s p h = absurd (cc)

allowed : (v : Result (Unit {0}) RuleFault) (a b : Result Known RuleFault) (s p : Known)
    → and_then (λ _. and_then (λ services. and_then (λ plans. Ok (services, plans)) b) a) v ≡ both_ok s p
    → (a ≡ Ok s) × (b ≡ Ok p)
allowed (Ok t) a b s p h = both_of a b s p h
allowed (Err fault) a b s p h = absurd (cc)

pub services_known : (serves : Endpoints) (ds : Items) (s p : Known) → texts_of serves ds ≡ Ok (s, p)
    → All (IsKnown s) (id_texts ds)
services_known serves ds s p h =
    (ids_learned [] s ds (allowed (services_judged serves [] ds) (learn_ids [] ds) (learn_plans [] ds) s p h).0).all

pub plans_known : (serves : Endpoints) (ds : Items) (s p : Known) → texts_of serves ds ≡ Ok (s, p)
    → All (IsKnown p) (plan_texts ds)
plans_known serves ds s p h =
    (plans_learned [] p ds (allowed (services_judged serves [] ds) (learn_ids [] ds) (learn_plans [] ds) s p h).1).all

one_text : (o : Option (List ℕ)) (s t : List ℕ) → o ≡ Some s → o ≡ Some t → s ≡ t
one_text o s t a b = cc

pub injective : (known : Known) (texts : List (List ℕ)) → All (IsKnown known) texts → AreInjective texts
injective known texts all =
    All-weaker (IsKnown known) (λ s. All (λ t. (n : ℕ) → number_of s ≡ Some n → number_of t ≡ Some n → s ≡ t) texts)
    (λ s knows_s. All-weaker (IsKnown known) (λ t. (n : ℕ) → number_of s ≡ Some n → number_of t ≡ Some n → s ≡ t)
    (λ t knows_t. λ n is_s is_t. one_text (known_text n known) s t (knows_s n is_s) (knows_t n is_t)) texts all) texts all
