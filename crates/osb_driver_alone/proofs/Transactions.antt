-- What each transaction of a driver is in `AnyPlatform`.
use Rattle.std.proofs.Common.{◌≡◌, ◌⊎◌, inl, inr, ℕ, Bool, true, false, refl, sym, ap, subst, ◌∙◌, [], ◌∷◌}
use Rattle.std.specs.Prelude.{⊤, Option, Some, None, IfSome, ◌&&◌, not, if◌then◌else◌, is_none}
use Rattle.osb_message.specs.Plans.{Catalogue}
use Rattle.osb_message.specs.declared.catalogue.Mode.{Mode}
use Rattle.osb_message.specs.declared.messages.Answer.{Answer}
use Rattle.osb_message.specs.declared.messages.Request.{Request}
use Rattle.osb_broker.specs.Answers.{mode_of}
use Rattle.osb_instance.specs.Begin.{begins, begun, busy, finished_held, given_up, is_operating, worked}
use Rattle.osb_instance.specs.Held.{Held}
use Rattle.osb_instance.specs.declared.digest.Digest.{Digest}
use Rattle.osb_instance.specs.declared.outcome.WorkOutcome.{WorkOutcome}
use Rattle.osb_instance.specs.declared.record.Sent.{Sent}
use Rattle.osb_instance.specs.declared.work.Begun.{Begun}
use Rattle.osb_instance.specs.declared.work.Begun.TheVariants.{Answered}
use Rattle.osb_network.specs.AnyPlatform.{AnyCell, any_steps, heard, is_sure_end, reported}
use Rattle.osb_network.specs.Steps.{cell_steps}
use Rattle.osb_network.specs.Truth.{is_true_end, is_true_finish_of, is_under_way}
use Rattle.osb_network.specs.declared.any_platform.BrokerEvent.{BrokerEvent}
use Rattle.osb_network.specs.declared.event.Event.{Event}
use Rattle.osb_network.specs.declared.resource.Resource.{Resource}
use Rattle.osb_driver.specs.Driver.{after, answered as answered_tx, end, finish, finish_by, first, first_by, nothing}
use Rattle.osb_driver.specs.Driver.{repeated, resume}
use Rattle.osb_driver.specs.Driver.{take_up_by}
use Rattle.osb_driver.specs.World as broker
use Rattle.osb_driver.specs.World.{IsAtEnd, IsTidy, Knows, begin_of, first_of, is_owner}
use Rattle.osb_driver.specs.declared.driver.Permit.{Permit}
use Rattle.osb_driver.specs.declared.driver.Stage.{Stage}
use Rattle.osb_driver.specs.declared.driver.Task.{Task}
use Rattle.osb_driver.specs.declared.driver.Transaction.{Transaction}
use Rattle.osb_driver.proofs.Busy.{answered_work, busy_same, due_pending, waiting_idle, worked_idle}
use Rattle.osb_driver.proofs.Kept.{end_tx}
use Rattle.osb_driver.proofs.Moves.{can_end_so}
use Rattle.osb_driver_alone.specs.declared.world.Asked.{Asked}
use Rattle.osb_driver_alone.specs.World.{WorldState, answered, asked_as, asked_by, attributes_with, events_of, mode_with, seen}
use Rattle.osb_driver_alone.proofs.Events.{IsReady, IsStep, arrive_step, arrived_any, begun_idle, end_any, end_step}
use Rattle.osb_driver_alone.proofs.Events.{finish_step, free, give_up_step, net, no_step, put_off_any, put_off_step}
use Rattle.osb_driver_alone.proofs.Events.{sure_is_true}
use Rattle.osb_driver_alone.proofs.Requests.{sent_by, sent_is}

-- the same, whose row and resource are the cell's
abbrev pub normal : WorldState → WorldState
normal s = record {
  cell = s.cell;
  asked = s.asked;
  worker = s.worker;
  given = s.given;
  row = s.cell.held;
  owner = s.owner;
  resource = s.cell.resource;
  holder = s.holder;
  drivers = s.drivers;
}

-- what a driver knows of the end of its work: it is sure
abbrev pub IsSureAt : Catalogue → Held → Resource → Stage → Type 0
IsSureAt cat h t (Stage.End out before) =
    (q : Request) → h.work ≡ Some q → is_sure_end (mode_of cat q) h.row q.kind out t ≡ true
IsSureAt cat h t stage = ⊤

abbrev pub IsSureIn : AnyCell → Stage → Type 0
IsSureIn c stage = IsSureAt c.catalogue c.held c.resource stage

-- what is sure stays sure
abbrev pub StaysSure : AnyCell → AnyCell → Type 0
StaysSure c x = (stage : Stage) → IsSureIn c stage → IsSureIn x stage

pub sure_elsewhere : (c : AnyCell) (stage : Stage) → (IsAtEnd stage → ⊥) → IsSureIn c stage
sure_elsewhere c (Stage.End out before) n = absurd (n tt)
sure_elsewhere c (Stage.Finish ok) n = tt
sure_elsewhere c (Stage.Work task) n = tt
sure_elsewhere c Stage.Unsure n = tt
sure_elsewhere c Stage.TryLock n = tt
sure_elsewhere c (Stage.Begin locked) n = tt
sure_elsewhere c Stage.AwaitLock n = tt
sure_elsewhere c (Stage.Answer answer) n = tt
sure_elsewhere c Stage.Done n = tt

none_some : (q : Request) → None ≡ Some q → ⊥
none_some q e = cc

-- nothing is claimed once no work is pending
pub sure_idle : (c : AnyCell) (stage : Stage) → c.held.work ≡ None → IsSureIn c stage
sure_idle c (Stage.End out before) e = λ q f. absurd (none_some q (sym e ∙ f))
sure_idle c (Stage.Finish ok) e = tt
sure_idle c (Stage.Work task) e = tt
sure_idle c Stage.Unsure e = tt
sure_idle c Stage.TryLock e = tt
sure_idle c (Stage.Begin locked) e = tt
sure_idle c Stage.AwaitLock e = tt
sure_idle c (Stage.Answer answer) e = tt
sure_idle c Stage.Done e = tt

-- ---- what is so of a transaction

-- the work of a driver is what is held
abbrev pub IsTask : Held → Stage → Type 0
IsTask h (Stage.Work (Task.Pending r)) = h.work ≡ Some r
IsTask h (Stage.Work Task.Operation) = (h.work ≡ None) × (is_operating h ≡ true)
IsTask h stage = ⊤

-- of a driver whose number the row has, or hasn't
pub record IsGood (s : WorldState) (own : Bool) (m : Option Mode) (a : Digest) (attempt : Option ℕ) (stage : Stage)
    (tx : Transaction) : Type 0 where
  pub step : IsStep s m (cell_steps (net s m a) (broker.events_of tx.effect attempt))
      (any_steps s.cell (events_of s (broker.events_of tx.effect attempt)))
      (answered s (broker.events_of tx.effect attempt))
  pub quiet : IsAtEnd tx.stage → ⊥
  pub begins : tx.takes_over ≡ true → IsAtEnd stage → ⊥
  pub sure : tx.takes_over ≡ false → StaysSure s.cell (any_steps s.cell (events_of s (broker.events_of tx.effect attempt)))
  pub works : IsTask (any_steps s.cell (events_of s (broker.events_of tx.effect attempt))).held tx.stage
  pub busy : (is_under_way s.cell.held ≡ true
      → (any_steps s.cell (events_of s (broker.events_of tx.effect attempt))).held ≡ s.cell.held)
      ⊎ ((own ≡ true) × IsAtEnd stage)

untrue : false ≡ true → ⊥
untrue e = cc

true_false : true ≡ false → ⊥
true_false e = cc

nothing_good : (s : WorldState) (o : Bool) (m : Option Mode) (a : Digest) (n : Option ℕ) (stage : Stage) (row : Held)
    (next : Stage) → IsReady s m → (IsAtEnd next → ⊥) → IsTask s.cell.held next → IsGood s o m a n stage (nothing row next)
nothing_good s o m a n stage row next ready q works = record {
  step = no_step s m a ready;
  quiet = q;
  begins = λ e. absurd (untrue e);
  sure = λ e st k. k;
  works = works;
  busy = inl (λ on. refl);
}

-- ---- the first transaction of a request

-- what is pending stays sure while a request is answered
still_by : (w : Option Request) (cat : Catalogue) (t : Resource) (m : Option Mode) (f : Bool) (h : Held) (r : Request) (d : Digest)
    (y : Answer) (c : AnyCell) → h.work ≡ w → (begun m f h r d).1 ≡ Answered y → c.catalogue ≡ cat → c.resource ≡ t
    → c.held ≡ (begun m f h r d).0 → (stage : Stage) → IsSureAt cat h t stage → IsSureIn c stage
still_by None cat t m f h r d y c e b is_cat is_t is stage k =
    sure_idle c stage (ap (λ (x : Held). x.work) is ∙ (answered_work m f h r d y b ∙ e))
still_by (Some q) cat t m f h r d y c e b is_cat is_t is stage k =
    subst (λ (z : Catalogue). IsSureAt z c.held c.resource stage) (sym is_cat)
    (subst (λ (z : Resource). IsSureAt cat c.held z stage) (sym is_t)
    (subst (λ (z : Held). IsSureAt cat z t stage) (sym (is ∙ begun_idle q m f h r d e)) k))

abbrev pub mode_for : WorldState → Option Asked → Option Mode
mode_for s x = mode_with s.cell.catalogue s.cell.held.work x

arrive_sure : (s : WorldState) (n : ℕ) (x : Asked) (y : Answer) → asked_as s.asked n ≡ Some x
    → (begun (mode_for s (Some x)) s.cell.first_poll s.cell.held x.request x.attributes).1 ≡ Answered y
    → StaysSure s.cell (any_steps s.cell (events_of s (Event.Arrive n ∷ [])))
arrive_sure s n x y found e stage k =
    let m = mode_for s (Some x) in
    let b = begun m s.cell.first_poll s.cell.held x.request x.attributes in
    let is = arrived_any s n x b found (sym (free s.cell.catalogue s.cell.first_poll s.cell.held x)) in
    subst (λ (c : AnyCell). IsSureIn c stage) (sym is)
    (still_by s.cell.held.work s.cell.catalogue s.cell.resource m s.cell.first_poll s.cell.held x.request x.attributes y
    (record s.cell { held = b.0; told = reported b.1 x.request.kind (heard x.request.kind s.cell.told) }) refl e refl refl
    refl stage k)

abbrev begun_for : WorldState → Asked → Held × Begun
begun_for s x = begun (mode_for s (Some x)) s.cell.first_poll s.cell.held x.request x.attributes

-- what is held once it has come
arrive_held : (s : WorldState) (n : ℕ) (x : Asked) → asked_as s.asked n ≡ Some x
    → (any_steps s.cell (events_of s (Event.Arrive n ∷ []))).held ≡ (begun_for s x).0
arrive_held s n x found =
    ap (λ (c : AnyCell). c.held)
    (arrived_any s n x (begun_for s x) found (sym (free s.cell.catalogue s.cell.first_poll s.cell.held x)))

arrive_busy : (s : WorldState) (n : ℕ) (x : Asked) → asked_as s.asked n ≡ Some x → IsTidy s.cell.held
    → is_under_way s.cell.held ≡ true
    → (any_steps s.cell (events_of s (Event.Arrive n ∷ []))).held ≡ s.cell.held
arrive_busy s n x found held on =
    arrive_held s n x found
    ∙ busy_same (mode_for s (Some x)) s.cell.first_poll s.cell.held x.request x.attributes held on

arrive_good : (s : WorldState) (o : Bool) (n : ℕ) (x : Asked) (locked l : Bool) (b : Begun) → asked_as s.asked n ≡ Some x
    → IsTidy s.cell.held → IsReady s (mode_for s (Some x)) → (begun_for s x).1 ≡ b
    → IsGood s o (mode_for s (Some x)) x.attributes (Some n) (Stage.Begin l)
    (first_by locked false s.cell.held x.request (begun_for s x).0 b)
arrive_good s o n x locked l (Answered y) found held ready e = record {
  step = arrive_step s n x found ready;
  quiet = λ z. z;
  begins = λ z. absurd (untrue z);
  sure = λ z. arrive_sure s n x y found e;
  works = tt;
  busy = inl (arrive_busy s n x found held);
}
arrive_good s o n x true l (Begun.Work w) found held ready e = record {
  step = arrive_step s n x found ready;
  quiet = λ z. z;
  begins = λ z st. st;
  sure = λ z. absurd (true_false z);
  works = ap (λ (h : Held). h.work) (arrive_held s n x found)
      ∙ due_pending (mode_for s (Some x)) s.cell.first_poll s.cell.held x.request x.attributes w e;
  busy = inl (arrive_busy s n x found held);
}
arrive_good s o n x false l (Begun.Work w) found held ready e =
    nothing_good s o (mode_for s (Some x)) x.attributes (Some n) (Stage.Begin l) s.cell.held Stage.AwaitLock ready (λ z. z) tt

put_off_good : (s : WorldState) (o : Bool) (m : Option Mode) (a : Digest) (n : ℕ) (x : Asked) (l : Bool)
    → asked_as s.asked n ≡ Some x → IsReady s m
    → IsGood s o m a (Some n) (Stage.Begin l) (answered_tx s.cell.held (busy x.request.kind) true)
put_off_good s o m a n x l found ready = record {
  step = put_off_step s m a n x found ready;
  quiet = λ z. z;
  begins = λ z. absurd (untrue z);
  sure = λ z stage k. subst (λ (c : AnyCell). IsSureIn c stage) (sym (put_off_any s n x found)) k;
  works = tt;
  busy = inl (λ on. ap (λ (c : AnyCell). c.held) (put_off_any s n x found));
}

abbrev begun_unless : Bool → WorldState → Asked → Held × Begun
begun_unless put_off s x =
    if put_off then (s.cell.held, Answered (busy x.request.kind)) else begun_for s x

first_good : (s : WorldState) (o : Bool) (n : ℕ) (x : Asked) (locked own put_off : Bool) → asked_as s.asked n ≡ Some x
    → IsTidy s.cell.held → IsReady s (mode_for s (Some x))
    → IsGood s o (mode_for s (Some x)) x.attributes (Some n) (Stage.Begin locked)
    (first locked own put_off s.cell.held x.request (begun_unless put_off s x))
first_good s o n x locked true put_off found held ready =
    nothing_good s o (mode_for s (Some x)) x.attributes (Some n) (Stage.Begin locked) s.cell.held Stage.Done ready (λ z. z) tt
first_good s o n x locked false true found held ready =
    put_off_good s o (mode_for s (Some x)) x.attributes n x locked found ready
first_good s o n x locked false false found held ready =
    arrive_good s o n x locked locked (begun_for s x).1 found held ready refl

-- a request that has come
asked_good : (s : WorldState) (at : ℕ) (may : Permit) (n : ℕ) (x : Option Asked) (locked : Bool)
    → asked_as s.asked n ≡ x → IsTidy s.cell.held → IsReady s (mode_for s x)
    → IfSome (first_of (seen (normal s) (mode_for s x) (attributes_with x)) at may locked (sent_by n x))
    (IsGood s (is_owner s.owner at) (mode_for s x) (attributes_with x) (Some n) (Stage.Begin locked))
asked_good s at may n None locked found held ready = tt
asked_good s at may n (Some x) locked found held ready =
    first_good s (is_owner s.owner at) n x locked (is_owner s.owner at)
    (not may.begin && begins (mode_for s (Some x)) s.cell.held x.request x.attributes) found held ready

-- ---- the first transaction of a take-up

take_up_good : (s : WorldState) (own : Bool) (m : Option Mode) (a : Digest) (n : Option ℕ) (l : Bool) (w : Option Request)
    (o v : Bool) → s.cell.held.work ≡ w → is_operating s.cell.held ≡ o → (v ≡ true → s.cell.held.waiting ≡ true)
    → IsTidy s.cell.held → IsReady s m → IsGood s own m a n (Stage.Begin l) (take_up_by w o v s.cell.held)
take_up_good s own m a n l (Some q) o v e f wait held ready = record {
  step = no_step s m a ready;
  quiet = λ z. z;
  begins = λ z st. st;
  sure = λ z. absurd (true_false z);
  works = e;
  busy = inl (λ on. refl);
}
take_up_good s own m a n l None true v e f wait held ready = record {
  step = no_step s m a ready;
  quiet = λ z. z;
  begins = λ z st. st;
  sure = λ z. absurd (true_false z);
  works = (e, f);
  busy = inl (λ on. refl);
}
take_up_good s own m a n l None false true e f wait held ready =
    let is = ap (λ (x : Bool). if x then record s.cell { held = given_up s.cell.held } else s.cell) (wait refl) in
    record {
      step = give_up_step s m a (wait refl) ready;
      quiet = λ z. z;
      begins = λ z. absurd (untrue z);
      sure = λ z stage k. subst (λ (c : AnyCell). IsSureIn c stage) (sym is)
          (sure_idle (record s.cell { held = given_up s.cell.held }) stage e);
      works = tt;
      busy = inl (λ on. absurd (untrue (waiting_idle s.cell.held held (wait refl) on)));
    }
take_up_good s own m a n l None false false e f wait held ready =
    nothing_good s own m a n (Stage.Begin l) s.cell.held Stage.Done ready (λ z. z) tt

and_first : (a b : Bool) → a && b ≡ true → a ≡ true
and_first true b e = refl
and_first false b e = cc

begin_good : (s : WorldState) (at : ℕ) (may : Permit) (n : Option ℕ) (x : Option Asked) (locked : Bool) → asked_by s n ≡ x
    → IsTidy s.cell.held → IsReady s (mode_for s x)
    → IfSome (begin_of (seen (normal s) (mode_for s x) (attributes_with x)) at may n locked)
    (IsGood s (is_owner s.owner at) (mode_for s x) (attributes_with x) n (Stage.Begin locked))
begin_good s at may None x locked found held ready =
    take_up_good s (is_owner s.owner at) (mode_for s x) (attributes_with x) None locked s.cell.held.work
    (is_operating s.cell.held) (s.cell.held.waiting && may.give_up) refl refl
    (λ e. and_first s.cell.held.waiting may.give_up e) held ready
begin_good s at may (Some n) x locked found held ready =
    let m = mode_for s x in
    let a = attributes_with x in
    subst (λ (y : Option Sent). IfSome (first_of (seen (normal s) m a) at may locked y)
    (IsGood s (is_owner s.owner at) m a (Some n) (Stage.Begin locked))) (sym (sent_is s.asked n ∙ ap (sent_by n) found))
    (asked_good s at may n x locked found held ready)

-- ---- the others

resume_good : (s : WorldState) (o : Bool) (m : Option Mode) (a : Digest) (n : Option ℕ) (own : Bool) (w : Option Request)
    → s.cell.held.work ≡ w → IsReady s m → IsGood s o m a n Stage.Unsure (resume own s.cell.held w)
resume_good s o m a n false w e ready =
    nothing_good s o m a n Stage.Unsure s.cell.held (Stage.Begin true) ready (λ z. z) tt
resume_good s o m a n true None e ready = nothing_good s o m a n Stage.Unsure s.cell.held Stage.Done ready (λ z. z) tt
resume_good s o m a n true (Some q) e ready =
    nothing_good s o m a n Stage.Unsure s.cell.held (Stage.Work (Task.Pending q)) ready (λ z. z) e

repeated_good : (s : WorldState) (o : Bool) (m : Option Mode) (a : Digest) (n : Option ℕ) (stage : Stage)
    (before : Option Answer) → IsReady s m → IsGood s o m a n stage (repeated s.cell.held before)
repeated_good s o m a n stage None ready = nothing_good s o m a n stage s.cell.held Stage.Done ready (λ z. z) tt
repeated_good s o m a n stage (Some y) ready =
    nothing_good s o m a n stage s.cell.held (Stage.Answer y) ready (λ z. z) tt

after_task : (h : Held) (n : Option ℕ) (y : Answer) → IsTask h (after n y)
after_task h None y = tt
after_task h (Some n) y = tt

after_quiet : (n : Option ℕ) (y : Answer) → IsAtEnd (after n y) → ⊥
after_quiet None y e = e
after_quiet (Some n) y e = e

ending_good : (s : WorldState) (m : Option Mode) (a : Digest) (n : Option ℕ) (out : WorkOutcome) (before : Option Answer)
    (q : Request) → s.cell.held.work ≡ Some q → IsReady s m → IsSureIn s.cell (Stage.End out before)
    → IsGood s true m a n (Stage.End out before) (end n true m s.cell.held out before (Some q))
ending_good s m a n out before q e ready sure =
    let t = sure q e in
    let same = ready.pending q e in
    let true_end = subst (λ (k : Option Mode). is_true_end k q.kind out s.cell.resource ≡ true) (sym same)
    (sure_is_true (mode_of s.cell.catalogue q) s.cell.held.row q.kind out s.cell.resource t) in
    subst (λ (tx : Transaction). IsGood s true m a n (Stage.End out before) tx)
    (sym (end_tx n m s.cell.held out before q (can_end_so m q out s.cell.resource true_end)))
    (record {
      step = end_step s m a q out e same t;
      quiet = after_quiet n (worked m s.cell.held q out).1;
      begins = λ z. absurd (untrue z);
      sure = λ z stage k. sure_idle (any_steps s.cell (BrokerEvent.End out ∷ [])) stage
          (ap (λ (c : AnyCell). c.held.work) (end_any s q out e t)
          ∙ worked_idle (mode_of s.cell.catalogue q) s.cell.held q out);
      works = after_task (any_steps s.cell (BrokerEvent.End out ∷ [])).held n (worked m s.cell.held q out).1;
      busy = inr (refl, tt);
    })

end_good : (s : WorldState) (m : Option Mode) (a : Digest) (n : Option ℕ) (out : WorkOutcome) (before : Option Answer)
    (w : Option Request) → s.cell.held.work ≡ w → IsReady s m → IsSureIn s.cell (Stage.End out before)
    → IsGood s true m a n (Stage.End out before) (end n true m s.cell.held out before w)
end_good s m a n out before None e ready sure = repeated_good s true m a n (Stage.End out before) before ready
end_good s m a n out before (Some q) e ready sure = ending_good s m a n out before q e ready sure

ends_good : (s : WorldState) (m : Option Mode) (a : Digest) (n : Option ℕ) (out : WorkOutcome) (before : Option Answer)
    (own : Bool) → (own ≡ true → IsSureIn s.cell (Stage.End out before)) → IsReady s m
    → IsGood s own m a n (Stage.End out before) (end n own m s.cell.held out before s.cell.held.work)
ends_good s m a n out before false k ready =
    nothing_good s false m a n (Stage.End out before) s.cell.held Stage.Done ready (λ z. z) tt
ends_good s m a n out before true k ready =
    end_good s m a n out before s.cell.held.work refl ready (k refl)

three_true : (a b c : Bool) → a ≡ true → b ≡ true → c ≡ true → (a && b && c) ≡ true
three_true true true true e f g = refl
three_true true true false e f g = cc
three_true true false c e f g = cc
three_true false b c e f g = cc

two_true : (a b : Bool) → a ≡ true → b ≡ true → (a && b) ≡ true
two_true true b e f = f
two_true false b e f = cc

-- what the driver knows at the end of an operation
abbrev pub KnowsFinish : WorldState → Bool → Type 0
KnowsFinish s ok =
    (s.cell.held.work ≡ None) × ((is_operating s.cell.held ≡ true)
    × (is_true_finish_of s.cell.held.row ok s.cell.resource ≡ true))

finishing_good : (s : WorldState) (m : Option Mode) (a : Digest) (n : Option ℕ) (ok : Bool) → KnowsFinish s ok → IsReady s m
    → IsGood s true m a n (Stage.Finish ok) (finish_by true s.cell.held ok)
finishing_good s m a n ok k ready =
    let one = three_true (is_none s.cell.held.work) (is_operating s.cell.held)
    (is_true_finish_of s.cell.held.row ok s.cell.resource) (ap is_none k.0) k.1.0 k.1.1 in
    let two = two_true (is_operating s.cell.held) (is_true_finish_of s.cell.held.row ok s.cell.resource) k.1.0 k.1.1 in
    let is = ap (λ (x : Bool). if x then record s.cell { held = finished_held s.cell.held ok } else s.cell) two in
    record {
      step = finish_step s m a ok one two ready;
      quiet = λ z. z;
      begins = λ z. absurd (untrue z);
      sure = λ z stage st. subst (λ (c : AnyCell). IsSureIn c stage) (sym is)
          (sure_idle (record s.cell { held = finished_held s.cell.held ok }) stage k.0);
      works = tt;
      busy = inr (refl, tt);
    }

finish_good : (s : WorldState) (m : Option Mode) (a : Digest) (n : Option ℕ) (ok own : Bool)
    → (own ≡ true → KnowsFinish s ok) → IsReady s m
    → IsGood s own m a n (Stage.Finish ok) (finish own s.cell.held ok)
finish_good s m a n ok false k ready =
    nothing_good s false m a n (Stage.Finish ok) s.cell.held Stage.Done ready (λ z. z) tt
finish_good s m a n ok true k ready =
    subst (λ (x : Bool). IsGood s true m a n (Stage.Finish ok) (finish_by x s.cell.held ok)) (sym (k refl).1.0)
    (finishing_good s m a n ok (k refl) ready)

-- what a driver knows that writes an end
pub record KnowsIts (s : WorldState) (at : ℕ) (stage : Stage) : Type 0 where
  pub sure : is_owner s.owner at ≡ true → IsSureIn s.cell stage
  pub finishes : is_owner s.owner at ≡ true → (ok : Bool) → stage ≡ Stage.Finish ok → KnowsFinish s ok

pub transaction_good : (s : WorldState) (at : ℕ) (may : Permit) (n : Option ℕ) (stage : Stage) (x : Option Asked)
    → asked_by s n ≡ x → KnowsIts s at stage → IsTidy s.cell.held → IsReady s (mode_for s x)
    → IfSome (broker.transaction_of (seen (normal s) (mode_for s x) (attributes_with x)) at may n stage)
    (IsGood s (is_owner s.owner at) (mode_for s x) (attributes_with x) n stage)
transaction_good s at may n (Stage.Begin locked) x found k held ready = begin_good s at may n x locked found held ready
transaction_good s at may n Stage.Unsure x found k held ready =
    resume_good s (is_owner s.owner at) (mode_for s x) (attributes_with x) n (is_owner s.owner at) s.cell.held.work refl
    ready
transaction_good s at may n (Stage.End out before) x found k held ready =
    ends_good s (mode_for s x) (attributes_with x) n out before (is_owner s.owner at) k.sure ready
transaction_good s at may n (Stage.Finish ok) x found k held ready =
    finish_good s (mode_for s x) (attributes_with x) n ok (is_owner s.owner at) (λ e. k.finishes e ok refl) ready
transaction_good s at may n Stage.TryLock x found k held ready = tt
transaction_good s at may n Stage.AwaitLock x found k held ready = tt
transaction_good s at may n (Stage.Work task) x found k held ready = tt
transaction_good s at may n (Stage.Answer answer) x found k held ready = tt
transaction_good s at may n Stage.Done x found k held ready = tt
