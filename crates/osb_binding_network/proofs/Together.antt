-- An instance and a binding that can come about together go together.
use Rattle.std.proofs.Common.{◌≡◌, ⊎_elim, ℕ, Bool, true, false, arith, refl, sym, ap, subst}
use Rattle.std.specs.Prelude.{Option, Some, None, IsSome, IsSomeAnd, ◌&&◌, ◌==◌}
use Rattle.std.proofs.lemmas.Bool.Decides.{nat_tests}
use Rattle.osb_message.specs.declared.messages.Request.{Request}
use Rattle.osb_broker.specs.declared.row.BrokerRow.{BrokerRow}
use Rattle.osb_broker.specs.declared.row.Phase.{Phase}
use Rattle.osb_platform.specs.declared.state.State.{State}
use Rattle.osb_platform.specs.declared.state.State.TheVariants.{Ready, Gone}
use Rattle.osb_instance.specs.Begin.{is_held, is_there, is_there_by}
use Rattle.osb_instance.specs.Fits as fits
use Rattle.osb_instance.specs.Held.{Held, nothing_held}
use Rattle.osb_instance.specs.Recorded.{Recorded, is_gone_in, is_ready_in}
use Rattle.osb_network.specs.declared.resource.Resource.{Resource}
use Rattle.osb_network.specs.declared.resource.Resource.TheVariants.{Absent, Whole}
use Rattle.osb_network.specs.declared.order.Order.{Order}
use Rattle.osb_network.specs.Agreement.{Agrees, IsNowhere, IsThere}
use Rattle.osb_network.specs.Cell.{Cell, IsPossible, IsPossibleWith}
use Rattle.osb_network.specs.Possible.{IsKeptAs, row_of}
use Rattle.osb_binding_network.specs.declared.rules.Rules.{Rules}
use Rattle.osb_binding_network.specs.Allowed.{at_peace, at_peace_by, is_at_rest, is_ready}
use Rattle.osb_binding_network.specs.Related.{IsRelated}
use Rattle.osb_binding_network.specs.Together.{IsAtRest, IsSomewhere, HoldsAtPeace, GoTogetherBy, GoTogetherWhole, GoTogether}
use Rattle.osb_binding_network.proofs.Kept.{none_held}

pub by_cases : (P : Type 0) (x : Bool) → (x ≡ true → P) → (x ≡ false → P) → P
by_cases P true on off = on refl
by_cases P false on off = off refl

pub both : (x : Bool) → x ≡ true → x ≡ false → ⊥
both true e f = cc
both false e f = cc

-- ---- what the tests say

gone_at : (s : State) → is_gone_in s ≡ true → s ≡ Gone
gone_at Gone e = refl
gone_at s e = cc

ready_at : (s : State) → is_ready_in s ≡ true → s ≡ Ready
ready_at Ready e = refl
ready_at s e = cc

phase_at : (ph : Phase) → fits.is_ready ph ≡ true → ph ≡ Phase.Ready
phase_at Phase.Ready e = refl
phase_at ph e = cc

rest_is_not_ready : (x : Option Recorded) → IsAtRest x → is_ready x ≡ true → ⊥
rest_is_not_ready None rest e = cc
rest_is_not_ready (Some rec) rest e =
    ⊎_elim (λ n. cc)
    (λ gone. (let f : is_ready_in Gone ≡ true = subst (λ s. is_ready_in s ≡ true) gone e in cc)) rest

-- ---- what a life that is at rest, or ready, has

pub nowhere_by : (c : Cell) (x : Option Recorded) → c.recorded ≡ x → Agrees c → is_at_rest x ≡ true → IsNowhere c
nowhere_by c None e agrees rest = agrees.unknown e
nowhere_by c (Some rec) e agrees rest = agrees.gone rec e (gone_at rec.row.state rest)

nowhere_at : (c : Cell) (x : Option Recorded) → c.recorded ≡ x → Agrees c → IsAtRest x → IsNowhere c
nowhere_at c None e agrees rest = agrees.unknown e
nowhere_at c (Some rec) e agrees rest = ⊎_elim (λ n. cc) (λ gone. agrees.gone rec e gone) rest

abbrev pub IsWholly : Cell → Type 0
IsWholly c = HoldsAtPeace c.held × (c.resource ≡ Whole)

peace : (h : Held) (b : BrokerRow) → h.row ≡ Some b → b.phase ≡ Phase.Ready → h.work ≡ None → HoldsAtPeace h
peace h b e ready work =
    (subst (λ x. IsSomeAnd x (λ row. row.phase ≡ Phase.Ready)) (sym e) ready, work)

pub there_by : (c : Cell) (x : Option Recorded) → c.recorded ≡ x → Agrees c → is_ready x ≡ true → IsWholly c
there_by c None e agrees ready = cc
there_by c (Some rec) e agrees ready =
    let there : IsThere c rec = agrees.ready rec e (ready_at rec.row.state ready) in (
      peace c.held (record { service = rec.row.service; plan = rec.row.plan; phase = Phase.Ready }) there.1 refl there.2,
      there.0,
    )

-- ---- somewhere

some_none : {X : Type 0} (x : Option X) → x ≡ None → IsSome x → ⊥
some_none None e some = cc
some_none (Some y) e some = cc

elsewhere : (c : Cell) → IsNowhere c → IsSomewhere c → ⊥
elsewhere c nowhere some =
    ⊎_elim (λ t. t nowhere.0)
    (λ h. ⊎_elim (λ r. some_none c.held.row nowhere.1 r) (λ w. some_none c.held.work nowhere.2 w) h) some

absent_by : (o : Order) (b : Option BrokerRow) (w : Option Request) (x v : Bool) (t : Resource) → IsKeptAs o b w x v t
    → b ≡ None → w ≡ None → t ≡ Absent
absent_by o None None x false t kept e f = kept
absent_by o None None x true t kept e f = absurd kept
absent_by o (Some b) w x v t kept e f = cc
absent_by o None (Some q) x v t kept e f = cc

absent_in : (c : Cell) (x : Option Recorded) → IsPossibleWith c x → c.held.row ≡ None → c.held.work ≡ None
    → c.resource ≡ Absent
absent_in c None h row work = h.resource
absent_in c (Some rec) h row work =
    absent_by c.order c.held.row c.held.work c.held.tombstone c.held.waiting c.resource h.parts.kept.0 row work

unheld_nowhere : (c : Cell) → IsPossible c → is_held c.held ≡ false → IsNowhere c
unheld_nowhere c possible e =
    let none = none_held c.held.row c.held.work e in
    (absent_in c c.recorded possible none.0 none.1, none.0, none.1)

pub peace_by : (b : Option BrokerRow) (w : Option Request) → at_peace_by b w ≡ true
    → IsSomeAnd b (λ row. row.phase ≡ Phase.Ready) × (w ≡ None)
peace_by None w e = cc
peace_by (Some b) None e = (phase_at b.phase e, refl)
peace_by (Some b) (Some q) e = cc

peace_is_held : (h : Held) → HoldsAtPeace h → h.row ≡ None → ⊥
peace_is_held h at e =
    let f : IsSomeAnd None (λ (row : BrokerRow). row.phase ≡ Phase.Ready) =
    subst (λ x. IsSomeAnd x (λ row. row.phase ≡ Phase.Ready)) e at.0 in f

-- ---- by the platform's rules

ready_where : (r : Rules) (i b : Cell) → IsRelated r i b → Agrees b → r.platform ≡ true → IsSomewhere b
    → is_ready i.recorded ≡ true
ready_where r i b related agrees p some =
    by_cases (is_ready i.recorded ≡ true) (is_at_rest b.recorded)
    (λ rest. absurd (elsewhere b (nowhere_by b b.recorded refl agrees rest) some))
    (related.platform p)

by_platform : (r : Rules) (i b : Cell) → IsRelated r i b → Agrees i → Agrees b → r.platform ≡ true
    → GoTogetherBy i b
by_platform r i b related ai ab p = record {
  gone = λ rest.
      by_cases (IsNowhere b) (is_at_rest b.recorded) (nowhere_by b b.recorded refl ab)
      (λ on. absurd (rest_is_not_ready i.recorded rest (related.platform p on)));
  held = λ some. (there_by i i.recorded refl ai (ready_where r i b related ab p some)).0;
}

ready_of : (x : Option Recorded) → IsSomeAnd x (λ r. r.row.state ≡ Ready) → is_at_rest x ≡ false
ready_of None e = absurd e
ready_of (Some rec) e = ap is_gone_in e

whole : (r : Rules) (i b : Cell) → IsRelated r i b → Agrees i → Agrees b → r.platform ≡ true → GoTogetherWhole i b
whole r i b related ai ab p = record {
  whole = λ some. (there_by i i.recorded refl ai (ready_where r i b related ab p some)).1;
  ready = λ ready. there_by i i.recorded refl ai (related.platform p (ready_of b.recorded ready));
}

-- ---- by the broker's rules

there_where : (r : Rules) (i b : Cell) → IsRelated r i b → IsPossible b → r.broker ≡ true → IsSomewhere b
    → at_peace i.held ≡ true
there_where r i b related possible p some =
    by_cases (at_peace i.held ≡ true) (is_held b.held) (related.broker p)
    (λ un. absurd (elsewhere b (unheld_nowhere b possible un) some))

by_broker : (r : Rules) (i b : Cell) → IsRelated r i b → Agrees i → IsPossible b → r.broker ≡ true → GoTogetherBy i b
by_broker r i b related ai possible p = record {
  gone = λ rest.
      by_cases (IsNowhere b) (is_held b.held)
      (λ held. absurd (peace_is_held i.held (peace_by i.held.row i.held.work (related.broker p held))
      (nowhere_at i i.recorded refl ai rest).1))
      (unheld_nowhere b possible);
  held = λ some. peace_by i.held.row i.held.work (there_where r i b related possible p some);
}

pub together : (r : Rules) (i b : Cell) → IsRelated r i b → Agrees i → Agrees b → IsPossible b → GoTogether r i b
together r i b related ai ab possible = record {
  by = λ either. ⊎_elim (by_platform r i b related ai ab) (by_broker r i b related ai possible) either;
  whole = whole r i b related ai ab;
}

-- ---- the plan of what is there

same_number : (n : ℕ) → (n == n) ≡ true
same_number n = grind (arith, nat_tests)

also : (a b : Bool) → a ≡ true → b ≡ true → (a && b) ≡ true
also true b e f = f
also false b e f = cc

same_as : (n m : ℕ) → n ≡ m → (n == m) ≡ true
same_as n m e = subst (λ k. (n == k) ≡ true) e (same_number n)

row_there : (o : Order) (b : BrokerRow) → b ≡ row_of o b.phase → fits.is_ready b.phase ≡ true
    → is_there_by (Some b) None o.service o.plan ≡ true
row_there o b same ready =
    also (fits.is_ready b.phase) _ ready
    (also (b.service == o.service) (b.plan == o.plan)
    (same_as b.service o.service (ap (λ (x : BrokerRow). x.service) same))
    (same_as b.plan o.plan (ap (λ (x : BrokerRow). x.plan) same)))

there_in : (o : Order) (b : Option BrokerRow) (w : Option Request) (x v : Bool) (t : Resource) → IsKeptAs o b w x v t
    → at_peace_by b w ≡ true → is_there_by b w o.service o.plan ≡ true
there_in o None w x v t kept e = cc
there_in o (Some b) (Some q) x v t kept e = cc
there_in o (Some b) None false false t kept e = row_there o b kept.same e
there_in o (Some b) None false true t kept e = row_there o b kept.0.same e
there_in o (Some b) None true v t kept e = absurd kept

nothing_there : (h : Held) → h ≡ nothing_held → at_peace h ≡ true → ⊥
nothing_there h e f = let g : at_peace nothing_held ≡ true = subst (λ (x : Held). at_peace x ≡ true) e f in cc

-- what is at peace has the ordered plan
pub there_at_peace : (c : Cell) (r : Option Recorded) → IsPossibleWith c r → at_peace c.held ≡ true
    → is_there c.held c.order.service c.order.plan ≡ true
there_at_peace c None h e = absurd (nothing_there c.held h.held e)
there_at_peace c (Some rec) h e =
    there_in c.order c.held.row c.held.work c.held.tombstone c.held.waiting c.resource h.parts.kept.0 e
