-- What a Fetch brings in a fault-free round.
use Rattle.std.proofs.Common.{◌≡◌, ℕ, Bool, true, false, arith, refl, sym, ◌∙◌, ap, subst}
use Rattle.std.specs.Prelude.{Option, Some, None, List, [], ◌∷◌, ◌++◌, ◌+◌, ◌-◌, ◌&&◌, ◌==◌, length, slice_get, is_none}
use Rattle.std.specs.Prelude.{if◌then◌else◌, Result, Ok, Err, OnOk, OnErr}
use Rattle.osb_message.specs.declared.messages.Answer.{Answer}
use Rattle.osb_message.specs.declared.messages.Kind.{Kind}
use Rattle.osb_message.specs.declared.messages.Request.{Request}
use Rattle.osb_platform.specs.State.{is_polling}
use Rattle.osb_instance.specs.Held.{Held}
use Rattle.osb_instance.specs.Recorded.{Recorded}
use Rattle.osb_network.specs.declared.event.Event.{Event}
use Rattle.osb_network.specs.declared.event.Given.{Given}
use Rattle.osb_network.specs.Cell.{Cell, IsPossible}
use Rattle.osb_network.specs.Steps.{cell_step}
use Rattle.osb_network.proofs.Agreements.{agrees}
use Rattle.osb_network.proofs.Kept.{kept_step}
use Rattle.osb_binding_network.specs.Allowed.{is_ready, makes_ready, needs_fetch, needs_fetch_by}
use Rattle.osb_binding_network.specs.Binding.{BindingCell, fetch_arrived, holds_ready, is_fetchable, lived, taken_with}
use Rattle.osb_binding_network.specs.Well.{IsWell}
use Rattle.osb_binding_network.proofs.Credentials.{at_length, length_push, take_given_is, taken, taken_holds, taken_out}
use Rattle.osb_binding_network.proofs.Credentials.{well_fetch, well_lived, well_taken}
use Rattle.osb_binding_network.proofs.Quiet.{take_given_held}
use Rattle.osb_binding_network.proofs.Together.{there_by}

first_of : (a b : Bool) → (a && b) ≡ true → a ≡ true
first_of true b e = refl
first_of false b e = cc

second_of : (a b : Bool) → (a && b) ≡ true → b ≡ true
second_of true b e = e
second_of false b e = cc

also : (a b : Bool) → a ≡ true → b ≡ true → (a && b) ≡ true
also true b e f = f
also false b e f = cc

-- ---- a Fetch that is needed is answered with credentials

ready_out : (rec : Recorded) (out : Option Kind) (a : Answer) → makes_ready out rec.row.state a ≡ true
    → is_ready (taken_out rec out a) ≡ true
ready_out rec None a e = cc
ready_out rec (Some k) a e = e

ready_if : (x : Bool) (rec : Recorded) (out : Option Kind) (a : Answer) → x ≡ true
    → makes_ready out rec.row.state a ≡ true → is_ready (if x then taken_out rec out a else Some rec) ≡ true
ready_if true rec out a e f = ready_out rec out a f
ready_if false rec out a e f = cc

ready_taken : (g : Option Given) (r : Option Recorded) → needs_fetch_by g r ≡ true → is_ready (taken r g) ≡ true
ready_taken None None e = cc
ready_taken None (Some rec) e = cc
ready_taken (Some x) None e = cc
ready_taken (Some x) (Some rec) e =
    let two = second_of (is_polling rec.row.state) _ e in
    ready_if (x.attempt == rec.attempt) rec rec.row.out x.answer (first_of (x.attempt == rec.attempt) _ two)
    (second_of (x.attempt == rec.attempt) _ two)

becomes_ready : (c : Cell) (at : ℕ) → needs_fetch c at ≡ true → is_ready (cell_step c (Event.Take at)).recorded ≡ true
becomes_ready c at e =
    ap is_ready (take_given_is c (slice_get c.given at)) ∙ ready_taken (slice_get c.given at) c.recorded e

no_work : (w : Option Request) → w ≡ None → is_none w ≡ true
no_work None e = refl
no_work (Some q) e = cc

pub fetchable : (c : Cell) (at : ℕ) → IsPossible c → needs_fetch c at ≡ true → is_fetchable c.held ≡ true
fetchable c at h e =
    let ready = becomes_ready c at e in
    let next : Cell = cell_step c (Event.Take at) in
    let there = there_by next next.recorded refl (agrees next (kept_step c (Event.Take at) h)) ready in
    also (holds_ready c.held) (is_none c.held.work) (taken_holds c at h ready)
    (no_work c.held.work
    (ap (λ (x : Held). x.work) (sym (take_given_held c (slice_get c.given at))) ∙ there.0.1))

-- ---- and it is taken

arrived_by : (x : Bool) (c : BindingCell) → x ≡ true
    → (if x then record c { fetched = c.fetched ++ c.row ∷ [] } else c)
    ≡ record c { fetched = c.fetched ++ c.row ∷ [] }
arrived_by true c e = refl
arrived_by false c e = cc

latest : (xs : List ℕ) (x : ℕ) → slice_get (xs ++ x ∷ []) (length (xs ++ x ∷ []) - 1) ≡ Some x
latest xs x =
    let e : length (xs ++ x ∷ []) ≡ length xs + 1 = length_push xs x in
    let n : length (xs ++ x ∷ []) - 1 ≡ length xs = omega arith in
    ap (slice_get (xs ++ x ∷ [])) n ∙ at_length xs x

taken_life : (x : Bool) (c d : BindingCell) → x ≡ true → (if x then c else d).life ≡ c.life
taken_life true c d e = refl
taken_life false c d e = cc

taken_by : (c : BindingCell) (at row : ℕ) (x : Option ℕ) → x ≡ Some row → needs_fetch c.life at ≡ true
    → (taken_with c at x).life ≡ cell_step c.life (Event.Take at)
taken_by c at row None e n = cc
taken_by c at row (Some y) e n = taken_life (needs_fetch c.life at) _ c n

pub fetched_life : (c d n : BindingCell) (at of : ℕ) → IsPossible c.life → needs_fetch c.life at ≡ true
    → d ≡ fetch_arrived c → of ≡ length d.fetched - 1 → n ≡ taken_with d at (slice_get d.fetched of)
    → n.life ≡ cell_step c.life (Event.Take at)
fetched_life c d n at of h e arrived last taken =
    let m : BindingCell = record c { fetched = c.fetched ++ c.row ∷ [] } in
    let is : d ≡ m = arrived ∙ arrived_by (is_fetchable c.life.held) c (fetchable c.life at h e) in
    ap (λ (x : BindingCell). x.life) taken
    ∙ ap (λ (k : ℕ). (taken_with d at (slice_get d.fetched k)).life) last
    ∙ ap (λ (x : BindingCell). (taken_with x at (slice_get x.fetched (length x.fetched - 1))).life) is
    ∙ taken_by m at c.row (slice_get m.fetched (length m.fetched - 1)) (latest c.fetched c.row) e

either_life : (x : Bool) (c d : BindingCell) → c.life ≡ d.life → (if x then c else d).life ≡ d.life
either_life true c d e = e
either_life false c d e = refl

pub arrived_life : (c d : BindingCell) → d ≡ fetch_arrived c → d.life ≡ c.life
arrived_life c d e =
    ap (λ (x : BindingCell). x.life) e ∙ either_life (is_fetchable c.life.held) _ c refl

pub fetched_well : (c d n : BindingCell) (at of : ℕ) → d ≡ fetch_arrived c
    → n ≡ taken_with d at (slice_get d.fetched of) → IsWell c → IsWell n
fetched_well c d n at of arrived taken h =
    subst IsWell (sym taken)
    (well_taken d at of (slice_get d.fetched of) refl (subst IsWell (sym arrived) (well_fetch c h)))

pub arrived_well : (c d : BindingCell) → d ≡ fetch_arrived c → IsWell c → IsWell d
arrived_well c d e h = subst IsWell (sym e) (well_fetch c h)

-- after an event of the life, or where memory ran out
pub lived_well : {T E : Type 0} (x : Result T E) (c n : BindingCell) (e : Event) (v : ℕ) → OnOk x (n ≡ lived c e v)
    → OnErr x (n ≡ c) → IsWell c → IsWell n
lived_well (Ok y) c n e v ok err h = subst IsWell (sym ok) (well_lived c e v h)
lived_well (Err y) c n e v ok err h = subst IsWell (sym err) h

-- ---- no tombstone is deleted, and the binding can be fetched if it could be

pub same_in : {A : Type 0} (part : BindingCell → A) (t : Bool) (a c : BindingCell) → part a ≡ part c
    → part (if t then a else c) ≡ part c
same_in part true a c e = e
same_in part false a c e = refl

pub taken_forgotten : (c : BindingCell) (at : ℕ) (x : Option ℕ) → (taken_with c at x).forgotten ≡ c.forgotten
taken_forgotten c at None = refl
taken_forgotten c at (Some x) = same_in (λ (x : BindingCell). x.forgotten) (needs_fetch c.life at) _ c refl

pub fetched_forgotten : (c d n : BindingCell) (at of : ℕ) → d ≡ fetch_arrived c
    → n ≡ taken_with d at (slice_get d.fetched of) → n.forgotten ≡ c.forgotten
fetched_forgotten c d n at of arrived taken =
    ap (λ (x : BindingCell). x.forgotten) taken ∙ taken_forgotten d at (slice_get d.fetched of)
    ∙ ap (λ (x : BindingCell). x.forgotten) arrived ∙ same_in (λ (x : BindingCell). x.forgotten) (is_fetchable c.life.held) _ c refl

taken_retrievable : (c : BindingCell) (at : ℕ) (x : Option ℕ) → (taken_with c at x).retrievable ≡ c.retrievable
taken_retrievable c at None = refl
taken_retrievable c at (Some x) = same_in (λ (x : BindingCell). x.retrievable) (needs_fetch c.life at) _ c refl

pub fetched_retrievable : (c d n : BindingCell) (at of : ℕ) → d ≡ fetch_arrived c
    → n ≡ taken_with d at (slice_get d.fetched of) → n.retrievable ≡ c.retrievable
fetched_retrievable c d n at of arrived taken =
    ap (λ (x : BindingCell). x.retrievable) taken ∙ taken_retrievable d at (slice_get d.fetched of)
    ∙ ap (λ (x : BindingCell). x.retrievable) arrived ∙ same_in (λ (x : BindingCell). x.retrievable) (is_fetchable c.life.held) _ c refl
