-- Whatever happens, if the platform records `ready` it records the credentials that the resource has.
use Rattle.std.proofs.Common.{◌≡◌, ℕ, zero, suc, Bool, true, false, refl, sym, ap, subst, ◌∙◌, inl, ⊎_elim, ◌<◌, ◌≤◌, arith}
use Rattle.std.specs.Prelude.{Option, Some, None, IsSomeAnd, List, [], ◌∷◌, length, slice_get, ◌&&◌, ◌==◌, ◌+◌, not, nat_lt}
use Rattle.std.specs.Prelude.{if◌then◌else◌, ◌++◌, is_none, Result, Ok, Err, OnOk, OnErr}
use Rattle.std.proofs.lemmas.Bool.Decides.{nat_tests}
use Rattle.osb_message.specs.declared.messages.Answer.{Answer}
use Rattle.osb_message.specs.declared.messages.Kind.{Kind}
use Rattle.osb_message.specs.declared.messages.Request.{Request}
use Rattle.osb_broker.specs.declared.row.BrokerRow.{BrokerRow}
use Rattle.osb_broker.specs.declared.row.Phase.{Phase}
use Rattle.osb_broker.specs.Finished.{is_running, is_running_in}
use Rattle.osb_platform.specs.declared.state.State.{State}
use Rattle.osb_platform.specs.declared.state.State.TheVariants.{Wanted, Polling, Ready, Unsettled}
use Rattle.osb_platform.specs.PlatformRow.{in_state}
use Rattle.osb_platform.specs.State.{state_after, is_polling}
use Rattle.osb_instance.specs.declared.record.Sent.{Sent}
use Rattle.osb_instance.specs.declared.work.Begun.{Begun}
use Rattle.osb_instance.specs.declared.work.Begun.TheVariants.{Answered}
use Rattle.osb_instance.specs.Begin.{begun, is_operating}
use Rattle.osb_instance.specs.Fits as fits
use Rattle.osb_instance.specs.Held.{Held, nothing_held}
use Rattle.osb_instance.specs.Recorded.{Recorded, is_ready_in}
use Rattle.osb_network.specs.declared.event.Event.{Event}
use Rattle.osb_network.specs.declared.event.Given.{Given}
use Rattle.osb_network.specs.declared.order.Order.{Order}
use Rattle.osb_network.specs.declared.resource.Resource.{Resource}
use Rattle.osb_network.specs.Cell.{Cell, IsPossible, IsPossibleWith, IsGivenOf}
use Rattle.osb_network.specs.Possible.{HoldsReady, IsBefore, IsEarly, IsEarlyAs, HeldByState}
use Rattle.osb_network.specs.Each.{Each}
use Rattle.osb_network.specs.Steps.{arrive, arrived, cell_step, take, take_out, take_given, next_recorded, sent_as}
use Rattle.osb_network.specs.Truth.{is_under_way, is_under_way_by}
use Rattle.osb_network.proofs.Agreements.{agrees}
use Rattle.osb_network.proofs.CellParts.{all_get}
use Rattle.osb_network.proofs.Kept.{arrives_sent, kept_step, possible_empty}
use Rattle.osb_binding_network.specs.declared.event.BindingEvent.{BindingEvent}
use Rattle.osb_binding_network.specs.Allowed.{at_peace_by, is_ready, needs_fetch, needs_fetch_by, of_binding}
use Rattle.osb_binding_network.proofs.Kept.{no_waiting}
use Rattle.osb_binding_network.specs.Binding.{BindingCell, CredentialsAgree, answers_after, binding_step, empty_binding}
use Rattle.osb_binding_network.specs.Binding.{fetch_arrived, forgot, holds_ready, holds_ready_by, is_fetchable, lived}
use Rattle.osb_binding_network.specs.Binding.{lived_if, recorded_after, resource_after, row_after, taken_with, told_at}
use Rattle.osb_binding_network.specs.Well.{IsCredited, IsEarlyIn, IsFetched, IsWell}
use Rattle.osb_binding_network.proofs.Ended.{tombstone_stays}
use Rattle.osb_binding_network.proofs.Quiet.{quiet, take_given_held}
use Rattle.osb_binding_network.proofs.Records.{is_take, changes, get_pushed, grows, keeps_given, IsOrdered, IsSent, IsMoved}
use Rattle.osb_binding_network.proofs.Together.{both, by_cases, there_by}

-- ---- what is recorded ready is held

holds_at : (b : Option BrokerRow) → IsSomeAnd b (λ row. row.phase ≡ Phase.Ready) → holds_ready_by b ≡ true
holds_at None e = absurd e
holds_at (Some b) e = ap fits.is_ready e

ready_holds : (c : Cell) → IsPossible c → is_ready c.recorded ≡ true → holds_ready c.held ≡ true
ready_holds c h r = holds_at c.held.row (there_by c c.recorded refl (agrees c h) r).0.0

-- also what an answer would make so
pub taken_holds : (c : Cell) (at : ℕ) → IsPossible c → is_ready (cell_step c (Event.Take at)).recorded ≡ true
    → holds_ready c.held ≡ true
taken_holds c at h r =
    ap (λ (x : Held). holds_ready_by x.row) (sym (take_given_held c (slice_get c.given at)))
    ∙ ready_holds (cell_step c (Event.Take at)) (kept_step c (Event.Take at) h) r

-- ---- a row that is ready stands still until a Deprovision was sent

early_at : (c : Cell) (r : Recorded) → HeldByState c.order r.row.state c.held c.resource → IsBefore r.row.state
    → (s : State) → r.row.state ≡ s → IsEarly c.held c.resource
early_at c r holds b Wanted e = subst (λ s. HeldByState c.order s c.held c.resource) e holds
early_at c r holds b Polling e = (subst (λ s. HeldByState c.order s c.held c.resource) e holds).0
early_at c r holds b Ready e = (subst (λ s. HeldByState c.order s c.held c.resource) e holds).0
early_at c r holds b Unsettled e = subst (λ s. HeldByState c.order s c.held c.resource) e holds
early_at c r holds b s e = absurd (subst IsBefore e b)

rests : (ph : Phase) (v : Bool) → fits.is_ready ph ≡ true → (is_running_in ph && not v) ≡ false
rests Phase.Ready v e = refl
rests ph v e = cc

-- no work is pending, and nothing operates or waits
record IsIdle (h : Held) : Type 0 where
  pub work : h.work ≡ None
  pub operating : is_operating h ≡ false

idle_parts : (b : Option BrokerRow) (w : Option Request) (x v : Bool) (t : Resource) → IsEarlyAs b w x t
    → holds_ready_by b ≡ true → (w ≡ None) × ((is_running b && not v) ≡ false)
idle_parts None w x v t early e = cc
idle_parts (Some b) None false v t early e = (refl, rests b.phase v e)
idle_parts (Some b) None true v t early e = absurd early
idle_parts (Some b) (Some q) x v t early e = absurd early

nothing_ready : (h : Held) → h ≡ nothing_held → holds_ready h ≡ true → ⊥
nothing_ready h e f = let g : holds_ready nothing_held ≡ true = subst (λ (x : Held). holds_ready x ≡ true) e f in cc

idle : (c : Cell) (r : Option Recorded) → IsPossibleWith c r → IsEarlyIn r → holds_ready c.held ≡ true
    → IsIdle c.held
idle c None h early e = absurd (nothing_ready c.held h.held e)
idle c (Some rec) h early e =
    let p = idle_parts c.held.row c.held.work c.held.tombstone c.held.waiting c.resource
    (early_at c rec h.parts.holds early rec.row.state refl) e in
    record { work = p.0; operating = p.1 }

not_under_way : (w : Option Request) (h : Held) → w ≡ None → is_operating h ≡ false → is_under_way_by w h ≡ false
not_under_way None h e f = f
not_under_way (Some q) h e f = cc

still : (h : Held) → IsIdle h → is_under_way h ≡ false
still h i = not_under_way h.work h i.work i.operating

not_changed : (x : Bool) (a b : ℕ) → x ≡ false → (if x then a else b) ≡ b
not_changed true a b e = cc
not_changed false a b e = refl

resource_same : (h : Held) (e : Event) (x t : ℕ) → is_under_way h ≡ false → resource_after h e x t ≡ t
resource_same h (Event.Work u) x t is = not_changed (is_under_way h) x t is
resource_same h e x t is = refl

back : (c : Cell) (e : Event) → IsPossible c → IsEarlyIn (cell_step c e).recorded → IsEarlyIn c.recorded
back c e h early =
    ⊎_elim (λ same. subst IsEarlyIn same early) (λ more.
    ⊎_elim (λ (o : IsOrdered c (cell_step c e)). subst IsEarlyIn (sym o.was) tt) (λ more.
    ⊎_elim (λ (s : IsSent c (cell_step c e)). subst IsEarlyIn (sym s.was) (subst IsEarlyIn s.now early))
    (λ (m : IsMoved c e (cell_step c e)). subst IsEarlyIn (sym m.was) (m.back (subst IsEarlyIn m.now early)))
    more) more) (changes c e h)

phase_ready : (ph : Phase) → fits.is_ready ph ≡ true → ph ≡ Phase.Ready
phase_ready Phase.Ready e = refl
phase_ready ph e = cc

at_peace_of : (b : Option BrokerRow) (w : Option Request) → holds_ready_by b ≡ true → w ≡ None
    → at_peace_by b w ≡ true
at_peace_of None w e f = cc
at_peace_of (Some b) None e f = e
at_peace_of (Some b) (Some q) e f = cc

changed : (x : Bool) (a b : ℕ) → x ≡ true → (if x then a else b) ≡ a
changed true a b e = refl
changed false a b e = cc

row_kept : (h : Held) (t r : ℕ) → holds_ready h ≡ true → row_after h t r ≡ r
row_kept h t r e = changed (holds_ready h) r t e

by_row : (x : Bool) (r t : ℕ) → (x ≡ true → r ≡ t) → (if x then r else t) ≡ t
by_row true r t f = f refl
by_row false r t f = refl

early_after : (c : BindingCell) (e : Event) (x : ℕ) → IsCredited c → IsEarlyIn (cell_step c.life e).recorded
    → (lived c e x).row ≡ (lived c e x).resource
early_after c e x h early =
    by_row (holds_ready c.life.held) c.row (resource_after c.life.held e x c.resource) (λ ready.
    (let was : IsEarlyIn c.life.recorded = back c.life e h.possible early in
    h.early was ready
    ∙ sym (resource_same c.life.held e x c.resource
    (still c.life.held (idle c.life c.life.recorded h.possible was ready)))))

not_below : (n m : ℕ) → nat_lt n m ≡ false → n < m → ⊥
not_below n m e l = grind (arith, nat_tests)

-- ---- an answer that is taken, as the record alone sees it

abbrev pub taken_out : Recorded → Option Kind → Answer → Option Recorded
taken_out rec None a = Some rec
taken_out rec (Some k) a =
    Some (record { row = in_state (state_after rec.row.state k a) rec.row; attempt = rec.attempt })

abbrev pub taken_of : Option Recorded → ℕ → Answer → Option Recorded
taken_of None n a = None
taken_of (Some rec) n a = if n == rec.attempt then taken_out rec rec.row.out a else Some rec

abbrev pub taken : Option Recorded → Option Given → Option Recorded
taken r None = r
taken r (Some g) = taken_of r g.attempt g.answer

take_out_is : (c : Cell) (rec : Recorded) (out : Option Kind) (a : Answer) → c.recorded ≡ Some rec
    → (take_out c rec out a).recorded ≡ taken_out rec out a
take_out_is c rec None a e = e
take_out_is c rec (Some k) a e = refl

either_is : (x : Bool) (a c : Cell) (r s : Option Recorded) → a.recorded ≡ r → c.recorded ≡ s
    → (if x then a else c).recorded ≡ (if x then r else s)
either_is true a c r s e f = e
either_is false a c r s e f = f

take_is : (c : Cell) (r : Option Recorded) (n : ℕ) (a : Answer) → c.recorded ≡ r
    → (take c r n a).recorded ≡ taken_of r n a
take_is c None n a e = e
take_is c (Some rec) n a e =
    either_is (n == rec.attempt) (take_out c rec rec.row.out a) c (taken_out rec rec.row.out a) (Some rec)
    (take_out_is c rec rec.row.out a e) e

pub take_given_is : (c : Cell) (g : Option Given) → (take_given c g).recorded ≡ taken c.recorded g
take_given_is c None = refl
take_given_is c (Some g) = take_is c c.recorded g.attempt g.answer refl

-- where nothing is out, none is taken
same_either : (x : Bool) (r : Option Recorded) → (if x then r else r) ≡ r
same_either true r = refl
same_either false r = refl

resting : (rec : Recorded) (g : Option Given) → rec.row.out ≡ None → taken (Some rec) g ≡ Some rec
resting rec None e = refl
resting rec (Some g) e =
    ap (λ (o : Option Kind). if g.attempt == rec.attempt then taken_out rec o g.answer else Some rec) e
    ∙ same_either (g.attempt == rec.attempt) (Some rec)

-- nor one to an earlier request
other_number : (x : Bool) (r s : Option Recorded) → x ≡ false → (if x then r else s) ≡ s
other_number true r s e = cc
other_number false r s e = refl

is_later : (n m : ℕ) → n ≤ m → (n == m + 1) ≡ false
is_later n m l = grind (arith, nat_tests)

earlier : (rec : Recorded) (k : Kind) (g : Option Given) → ((x : Given) → g ≡ Some x → x.attempt ≤ rec.attempt)
    → taken (Some (next_recorded rec k)) g ≡ Some (next_recorded rec k)
earlier rec k None l = refl
earlier rec k (Some x) l =
    other_number (x.attempt == rec.attempt + 1) _ (Some (next_recorded rec k)) (is_later x.attempt rec.attempt (l x refl))

-- the answers that were given are to no later request
numbered : (c : Cell) (r : Option Recorded) (rec : Recorded) (at : ℕ) (x : Given) → IsPossibleWith c r → r ≡ Some rec
    → slice_get c.given at ≡ Some x → x.attempt ≤ rec.attempt
numbered c r rec at x h e f =
    let p = subst (IsPossibleWith c) e h in
    (all_get (IsGivenOf c.order rec.row.state rec.row.out rec.attempt c.held) c.given at x p.parts.all_given f).numbered

none_given : (c : Cell) (r : Option Recorded) (at : ℕ) → IsPossibleWith c r → r ≡ None → at < length c.given → ⊥
none_given c r at h e l =
    let p = subst (IsPossibleWith c) e h in
    let z : length c.given ≡ 0 = ap length p.given in absurd (omega arith)

not_ready : (r s : Option Recorded) → is_ready r ≡ false → s ≡ r → is_ready s ≡ true → ⊥
not_ready r s e same f = both (is_ready r) (ap is_ready (sym same) ∙ f) e

-- an answer that would make the record ready now would have before
abbrev WouldBefore : Cell → ℕ → Type 0
WouldBefore c at = (is_ready c.recorded ≡ false) × (is_ready (cell_step c (Event.Take at)).recorded ≡ true)

would : (c a : Cell) (e : Event) (at : ℕ) → a ≡ cell_step c e → IsPossible c → at < length c.given
    → slice_get a.given at ≡ slice_get c.given at
    → is_ready a.recorded ≡ false → is_ready (taken a.recorded (slice_get a.given at)) ≡ true → WouldBefore c at
would c a e at is h l given unready ready =
    let change = changes c e h in
    ⊎_elim
    (λ same. (let here : a.recorded ≡ c.recorded = ap (λ (x : Cell). x.recorded) is ∙ same in (
      ap is_ready (sym here) ∙ unready,
      ap is_ready (take_given_is c (slice_get c.given at))
          ∙ ap (λ r. is_ready (taken r (slice_get c.given at))) (sym here)
          ∙ ap (λ g. is_ready (taken a.recorded g)) (sym given) ∙ ready,
    ))) (λ more.
    ⊎_elim (λ (o : IsOrdered c (cell_step c e)). absurd (none_given c c.recorded at h o.was l)) (λ more.
    ⊎_elim
    (λ (s : IsSent c (cell_step c e)).
    (let now : a.recorded ≡ Some (next_recorded s.recorded s.kind) = ap (λ (x : Cell). x.recorded) is ∙ s.now in
    absurd (not_ready a.recorded (taken a.recorded (slice_get a.given at)) unready
    (ap (λ r. taken r (slice_get a.given at)) now
    ∙ earlier s.recorded s.kind (slice_get a.given at)
    (λ x f. numbered c c.recorded s.recorded at x h s.was (sym given ∙ f))
    ∙ sym now) ready)))
    (λ (m : IsMoved c e (cell_step c e)).
    (let now : a.recorded
    ≡ Some (record { row = in_state m.state m.recorded.row; attempt = m.recorded.attempt })
    = ap (λ (x : Cell). x.recorded) is ∙ m.now in
    absurd (not_ready a.recorded (taken a.recorded (slice_get a.given at)) unready
    (ap (λ r. taken r (slice_get a.given at)) now
    ∙ resting (record { row = in_state m.state m.recorded.row; attempt = m.recorded.attempt }) (slice_get a.given at) refl
    ∙ sym now) ready)))
    more) more) change

is_below : (n m : ℕ) → nat_lt n m ≡ true → n < m
is_below n m e = grind (arith, nat_tests)

-- ---- the credentials of the answers

pub length_push : {X : Type 0} (xs : List X) (x : X) → length (xs ++ x ∷ []) ≡ length xs + 1
length_push [] x = refl
length_push (y ∷ ys) x = let e : length (ys ++ x ∷ []) ≡ length ys + 1 = length_push ys x in omega arith

pub at_length : {X : Type 0} (xs : List X) (x : X) → slice_get (xs ++ x ∷ []) (length xs) ≡ Some x
at_length [] x = refl
at_length (y ∷ ys) x = at_length ys x

same_length : (n m : ℕ) → m ≡ n → nat_lt n m ≡ false
same_length n m e = grind (arith, nat_tests)

one_longer : (n m : ℕ) → m ≡ n + 1 → nat_lt n m ≡ true
one_longer n m e = grind (arith, nat_tests)

-- what the answers have after an event
record IsTold (c : BindingCell) (e : Event) (row : ℕ) (answers : List ℕ) : Type 0 where
  pub counted : length answers ≡ length (cell_step c.life e).given
  pub before : (at : ℕ) → at < length c.life.given → slice_get answers at ≡ slice_get c.answers at
  pub last : (at : ℕ) (g : Given) → slice_get (cell_step c.life e).given at ≡ Some g
      → (at < length c.life.given → ⊥) → slice_get answers at ≡ Some row

inside : {X : Type 0} (xs : List X) (at : ℕ) (x : X) → slice_get xs at ≡ Some x → at < length xs
inside [] at x e = cc
inside (y ∷ ys) zero x e = omega arith
inside (y ∷ ys) (suc at) x e = let l : at < length ys = inside ys at x e in omega arith

told_same : (c : BindingCell) (e : Event) (row : ℕ) → IsCredited c → (cell_step c.life e).given ≡ c.life.given
    → IsTold c e row (answers_after (nat_lt (length c.life.given) (length (cell_step c.life e).given)) c.answers row)
told_same c e row h same =
    let short : nat_lt (length c.life.given) (length (cell_step c.life e).given) ≡ false =
    same_length (length c.life.given) (length (cell_step c.life e).given) (ap length same) in
    subst (λ (x : Bool). IsTold c e row (answers_after x c.answers row)) (sym short)
    (record {
      counted = h.counted ∙ sym (ap length same);
      before = λ at l. refl;
      last = λ at g is out. absurd (out (inside c.life.given at g (ap (λ xs. slice_get xs at) (sym same) ∙ is)));
    })

at_end : (n m at : ℕ) → m ≡ n + 1 → at < m → (at < n → ⊥) → at ≡ n
at_end n m at e l out =
    by_cases (at ≡ n) (nat_lt at n) (λ t. absurd (out (is_below at n t))) (λ t. grind (arith, nat_tests))

told_more : (c : BindingCell) (e : Event) (row : ℕ) (g : Given) → IsCredited c
    → (cell_step c.life e).given ≡ c.life.given ++ g ∷ []
    → IsTold c e row (answers_after (nat_lt (length c.life.given) (length (cell_step c.life e).given)) c.answers row)
told_more c e row g h more =
    let n : length (cell_step c.life e).given ≡ length c.life.given + 1 =
    ap length more ∙ length_push c.life.given g in
    let long : nat_lt (length c.life.given) (length (cell_step c.life e).given) ≡ true =
    one_longer (length c.life.given) (length (cell_step c.life e).given) n in
    subst (λ (x : Bool). IsTold c e row (answers_after x c.answers row)) (sym long)
    (record {
      counted = length_push c.answers row ∙ ap (λ k. k + 1) h.counted ∙ sym n;
      before = λ at l. get_pushed c.answers row at (subst (λ k. at < k) (sym h.counted) l);
      last = λ at x is out. ap (slice_get (c.answers ++ row ∷ []))
          (at_end (length c.life.given) (length (cell_step c.life e).given) at n
          (inside (cell_step c.life e).given at x is) out ∙ sym h.counted)
          ∙ at_length c.answers row;
    })

told_all : (c : BindingCell) (e : Event) (row : ℕ) → IsCredited c
    → IsTold c e row (answers_after (nat_lt (length c.life.given) (length (cell_step c.life e).given)) c.answers row)
told_all c e row h =
    ⊎_elim (told_same c e row h) (λ more. told_more c e row more.0 h more.1) (grows c.life e)

-- an answer that is taken was given
was_given : (c : Cell) (at : ℕ) (g : Option Given) → is_ready c.recorded ≡ false
    → is_ready (take_given c g).recorded ≡ true → slice_get c.given at ≡ g
    → (x : Given) × (slice_get c.given at ≡ Some x)
was_given c at None unready ready e = absurd (both (is_ready c.recorded) ready unready)
was_given c at (Some x) unready ready e = (x, e)

told_after : (c : BindingCell) (e : Event) (x at : ℕ) → IsCredited c → is_ready (cell_step c.life e).recorded ≡ false
    → is_ready (cell_step (cell_step c.life e) (Event.Take at)).recorded ≡ true
    → slice_get (lived c e x).answers at ≡ Some (lived c e x).row
told_after c e x at h unready ready =
    let t : ℕ = resource_after c.life.held e x c.resource in
    let row : ℕ = row_after c.life.held t c.row in
    let all = told_all c e row h in
    by_cases (slice_get (lived c e x).answers at ≡ Some row) (nat_lt at (length c.life.given))
    (λ below. (let l : at < length c.life.given = is_below at (length c.life.given) below in
    let was : WouldBefore c.life at =
    would c.life (cell_step c.life e) e at refl h.possible l (keeps_given c.life e at l) unready
    (ap is_ready (sym (take_given_is (cell_step c.life e) (slice_get (cell_step c.life e).given at))) ∙ ready) in
    all.before at l ∙ h.told at was.0 was.1
    ∙ ap Some (sym (row_kept c.life.held t c.row (taken_holds c.life at h.possible was.1)))))
    (λ above. (let g = was_given (cell_step c.life e) at (slice_get (cell_step c.life e).given at) unready ready refl in
    all.last at g.0 g.1 (λ l. not_below at (length c.life.given) above l)))

-- ---- the record becomes ready by an answer alone

becomes_ready : (c : Cell) (e : Event) → IsPossible c → is_ready c.recorded ≡ false
    → is_ready (cell_step c e).recorded ≡ true → is_take e ≡ false → ⊥
becomes_ready c e h unready ready no_take =
    ⊎_elim (λ same. not_ready c.recorded (cell_step c e).recorded unready same ready) (λ more.
    ⊎_elim (λ (o : IsOrdered c (cell_step c e)). both _ (ap is_ready (sym o.now) ∙ ready) o.wanted) (λ more.
    ⊎_elim (λ (s : IsSent c (cell_step c e)).
    both _ (ap is_ready (sym s.now) ∙ ready) (ap is_ready (sym s.was) ∙ unready))
    (λ (m : IsMoved c e (cell_step c e)).
    both _ (m.ready no_take (ap is_ready (sym m.now) ∙ ready)) (ap is_ready (sym m.was) ∙ unready))
    more) more) (changes c e h)

recorded_same : (was is : Bool) (e : Event) (answers : List ℕ) (r : ℕ) → was ≡ true
    → recorded_after was is e answers r ≡ r
recorded_same true is e answers r w = refl
recorded_same false is e answers r w = cc

recorded_taken : (was is : Bool) (at : ℕ) (answers : List ℕ) (r row : ℕ) → was ≡ false → is ≡ true
    → slice_get answers at ≡ Some row → recorded_after was is (Event.Take at) answers r ≡ row
recorded_taken false true at answers r row w i e = ap (λ o. told_at o r) e
recorded_taken true is at answers r row w i e = cc
recorded_taken false false at answers r row w i e = cc

recorded_new : (c : BindingCell) (e : Event) (t : ℕ) → IsCredited c → is_ready c.life.recorded ≡ false
    → is_ready (cell_step c.life e).recorded ≡ true
    → recorded_after (is_ready c.life.recorded) (is_ready (cell_step c.life e).recorded) e c.answers c.recorded
    ≡ row_after c.life.held t c.row
recorded_new c (Event.Take at) t h unready ready =
    recorded_taken (is_ready c.life.recorded) (is_ready (cell_step c.life (Event.Take at)).recorded) at c.answers
    c.recorded c.row unready ready (h.told at unready ready)
    ∙ sym (row_kept c.life.held t c.row (taken_holds c.life at h.possible ready))
recorded_new c e t h unready ready = absurd (becomes_ready c.life e h.possible unready ready refl)

ready_after : (c : BindingCell) (e : Event) (t : ℕ) → IsCredited c → is_ready (cell_step c.life e).recorded ≡ true
    → recorded_after (is_ready c.life.recorded) (is_ready (cell_step c.life e).recorded) e c.answers c.recorded
    ≡ row_after c.life.held t c.row
ready_after c e t h ready =
    by_cases
    (recorded_after (is_ready c.life.recorded) (is_ready (cell_step c.life e).recorded) e c.answers c.recorded
    ≡ row_after c.life.held t c.row) (is_ready c.life.recorded)
    (λ was. recorded_same (is_ready c.life.recorded) (is_ready (cell_step c.life e).recorded) e c.answers c.recorded was
    ∙ h.ready was ∙ sym (row_kept c.life.held t c.row (ready_holds c.life h.possible was)))
    (λ unready. recorded_new c e t h unready ready)

-- ---- any event of the life

credited_kept : (c : BindingCell) (e : Event) (x : ℕ) → IsCredited c → IsCredited (lived c e x)
credited_kept c e x h = record {
  possible = kept_step c.life e h.possible;
  early = λ early ready. early_after c e x h early;
  counted = (told_all c e (row_after c.life.held (resource_after c.life.held e x c.resource) c.row) h).counted;
  told = λ at unready ready. told_after c e x at h unready ready;
  ready = λ ready. ready_after c e (resource_after c.life.held e x c.resource) h ready;
}

-- ---- what a Fetch brings

ready_of_row : (g h : Held) → g.row ≡ h.row → holds_ready h ≡ true → holds_ready g ≡ true
ready_of_row g h e r = ap holds_ready_by e ∙ r

row_at : (b : Option BrokerRow) → holds_ready_by b ≡ true → IsSomeAnd b (λ row. row.phase ≡ Phase.Ready)
row_at None e = cc
row_at (Some b) e = phase_ready b.phase e

-- a row that is ready doesn't wait
not_waiting : (c : Cell) (r : Option Recorded) → IsPossibleWith c r → holds_ready c.held ≡ true → c.held.work ≡ None
    → c.held.waiting ≡ false
not_waiting c r h e w = no_waiting c r h (inl (at_peace_of c.held.row c.held.work e w))

arrived_is : (c : Cell) (x : Sent) (g : Held) (b : Begun) → (arrived c x g b).held ≡ g
arrived_is c x g (Answered a) = refl
arrived_is c x g (Begun.Work w) = refl

-- a request that arrives leaves a row that is ready, until an Unbind was sent
arrive_stays : (c : Cell) (n : ℕ) (x : Option Sent) (r : Option Recorded) → sent_as c.sent n ≡ x → IsPossibleWith c r
    → IsEarlyIn r → holds_ready c.held ≡ true → holds_ready (arrive c x).held ≡ true
arrive_stays c n None r e h early ready = ready
arrive_stays c n (Some x) None e h early ready = absurd (nothing_ready c.held h.held ready)
arrive_stays c n (Some x) (Some rec) e h early ready =
    let o = c.order in
    let p : Held × Begun = begun o.mode o.first_poll c.held x.request o.attributes in
    let step = arrives_sent c n x rec e h in
    let after : HoldsReady p.0 =
    step.later.ready early (early_at c rec h.parts.holds early rec.row.state refl) (row_at c.held.row ready) in
    ap holds_ready (arrived_is c x p.0 p.1) ∙ holds_at p.0.row after

-- a row that is ready stays so until an Unbind was sent
ready_stays : (c : Cell) (e : Event) → IsPossible c → IsEarlyIn c.recorded → holds_ready c.held ≡ true
    → holds_ready (cell_step c e).held ≡ true
ready_stays c (Event.Arrive n) h early r = arrive_stays c n (sent_as c.sent n) c.recorded refl h early r
ready_stays c e h early r =
    let i : IsIdle c.held = idle c c.recorded h early r in
    ready_of_row (cell_step c e).held c.held
    (quiet c e i.work i.operating (not_waiting c c.recorded h r i.work) refl).0 r

each_more : (P Q : ℕ → Type 0) (xs : List ℕ) → ((x : ℕ) → P x → Q x) → Each P xs → Each Q xs
each_more P Q [] f h = tt
each_more P Q (x ∷ xs) f h = (f x h.0, each_more P Q xs f h.1)

each_push : (P : ℕ → Type 0) (xs : List ℕ) (x : ℕ) → Each P xs → P x → Each P (xs ++ x ∷ [])
each_push P [] x h p = (p, tt)
each_push P (y ∷ ys) x h p = (h.0, each_push P ys x h.1 p)

fetched_kept : (c : BindingCell) (e : Event) (x : ℕ) → IsCredited c → IsFetched c → IsFetched (lived c e x)
fetched_kept c e x h f = λ early.
    let was : IsEarlyIn c.life.recorded = back c.life e h.possible early in
    let t : ℕ = resource_after c.life.held e x c.resource in
    each_more (λ y. (holds_ready c.life.held ≡ true) × (y ≡ c.row))
    (λ y. (holds_ready (cell_step c.life e).held ≡ true) × (y ≡ row_after c.life.held t c.row))
    c.fetched
    (λ y p. (ready_stays c.life e h.possible was p.0, p.1 ∙ sym (row_kept c.life.held t c.row p.0)))
    (f was)

-- ---- all that can happen

pub well_lived : (c : BindingCell) (e : Event) (x : ℕ) → IsWell c → IsWell (lived c e x)
well_lived c e x h = record {
  credited = credited_kept c e x h.credited;
  fetched = fetched_kept c e x h.credited h.fetched;
  forgotten = λ gone. tombstone_stays c.life e (h.forgotten gone);
}

well_lived_if : (c : BindingCell) (e : Option Event) (x : ℕ) → IsWell c → IsWell (lived_if c e x)
well_lived_if c None x h = h
well_lived_if c (Some e) x h = well_lived c e x h

well_if : (t : Bool) (a c : BindingCell) → (t ≡ true → IsWell a) → IsWell c → IsWell (if t then a else c)
well_if true a c f h = f refl
well_if false a c f h = h

first_of : (a b : Bool) → (a && b) ≡ true → a ≡ true
first_of true b e = refl
first_of false b e = cc

second_of : (a b : Bool) → (a && b) ≡ true → b ≡ true
second_of true b e = e
second_of false b e = cc

pub well_fetch : (c : BindingCell) → IsWell c → IsWell (fetch_arrived c)
well_fetch c h =
    well_if (is_fetchable c.life.held) (record c { fetched = c.fetched ++ c.row ∷ [] }) c
    (λ t. record {
      credited = record {
        possible = h.credited.possible;
        early = h.credited.early;
        counted = h.credited.counted;
        told = h.credited.told;
        ready = h.credited.ready;
      };
      fetched = λ early.
          each_push (λ y. (holds_ready c.life.held ≡ true) × (y ≡ c.row)) c.fetched c.row (h.fetched early)
          (first_of (holds_ready c.life.held) (is_none c.life.held.work) t, refl);
      forgotten = h.forgotten;
    })
    h

well_forgot : (ended : Bool) (c : BindingCell) → IsWell c → IsWell (forgot ended c)
well_forgot ended c h =
    well_if (ended && c.life.held.tombstone) (record c { forgotten = true }) c
    (λ t. record {
      credited = record {
        possible = h.credited.possible;
        early = h.credited.early;
        counted = h.credited.counted;
        told = h.credited.told;
        ready = h.credited.ready;
      };
      fetched = h.fetched;
      forgotten = λ gone. second_of ended c.life.held.tombstone t;
    })
    h

polling_before : (s : State) → is_polling s ≡ true → IsBefore s
polling_before Polling e = tt
polling_before s e = cc

polled_early : (g : Option Given) (r : Option Recorded) → needs_fetch_by g r ≡ true → IsEarlyIn r
polled_early None None e = cc
polled_early None (Some rec) e = cc
polled_early (Some x) None e = cc
polled_early (Some x) (Some rec) e = polling_before rec.row.state (first_of (is_polling rec.row.state) _ e)

-- an answer to a Poll that is taken together with a Fetch's
pub well_taken : (c : BindingCell) (at of : ℕ) (x : Option ℕ) → slice_get c.fetched of ≡ x → IsWell c
    → IsWell (taken_with c at x)
well_taken c at of None e h = h
well_taken c at of (Some x) e h =
    well_if (needs_fetch c.life at) _ c (λ t.
    (let early = polled_early (slice_get c.life.given at) c.life.recorded t in
    let is = all_get (λ y. (holds_ready c.life.held ≡ true) × (y ≡ c.row)) c.fetched of x (h.fetched early) e in
    let next = credited_kept c (Event.Take at) 0 h.credited in
    record {
      credited = record {
        possible = next.possible;
        early = next.early;
        counted = next.counted;
        told = next.told;
        ready = λ r. is.1 ∙ sym (row_kept c.life.held c.resource c.row is.0);
      };
      fetched = fetched_kept c (Event.Take at) 0 h.credited h.fetched;
      forgotten = λ gone. tombstone_stays c.life (Event.Take at) (h.forgotten gone);
    }))
    h

pub well_step : (create work ended : Bool) (c : BindingCell) (e : BindingEvent) → IsWell c
    → IsWell (binding_step create work ended c e)
well_step create work ended c (BindingEvent.Life e x) h =
    well_lived_if c (of_binding create work c.forgotten c.retrievable c.life e) x h
well_step create work ended c BindingEvent.Fetch h = well_fetch c h
well_step create work ended c (BindingEvent.TakeFetched at of) h = well_taken c at of (slice_get c.fetched of) refl h
well_step create work ended c BindingEvent.Forget h = well_forgot ended c h

pub well_empty : (o : Order) (retrievable : Bool) → IsWell (empty_binding o retrievable)
well_empty o retrievable = record {
  credited = record {
    possible = possible_empty o;
    early = λ e r. cc;
    counted = refl;
    told = λ at u r. cc;
    ready = λ r. cc;
  };
  fetched = λ early. tt;
  forgotten = λ gone. cc;
}

before_at : (s : State) → is_ready_in s ≡ true → IsBefore s
before_at Ready e = tt
before_at s e = cc

ready_early : (r : Option Recorded) → is_ready r ≡ true → IsEarlyIn r
ready_early None e = tt
ready_early (Some rec) e = before_at rec.row.state e

pub credentials_agree : (c : BindingCell) → IsCredited c → CredentialsAgree c
credentials_agree c h = λ r. (
  (there_by c.life c.life.recorded refl (agrees c.life h.possible) r).1,
  h.ready r ∙ h.early (ready_early c.life.recorded r) (ready_holds c.life h.possible r),
)

-- after a step, or where it is refused for want of memory
pub well_after : {T E : Type 0} (x : Result T E) (create work ended : Bool) (c n : BindingCell) (e : BindingEvent)
    → OnOk x (n ≡ binding_step create work ended c e) → OnErr x (n ≡ c) → IsWell c → IsWell n
well_after (Ok v) create work ended c n e ok err h = subst IsWell (sym ok) (well_step create work ended c e h)
well_after (Err v) create work ended c n e ok err h = subst IsWell (sym err) h
