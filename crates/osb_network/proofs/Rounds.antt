-- A fault-free round brings an instance nearer to where nothing is due, and three settle it.
use Rattle.std.proofs.Common.{◌≡◌, ◌≢◌, ℕ, Bool, true, false, arith, refl, sym, ◌∙◌, ap, subst, ◌≤◌}
use Rattle.std.specs.Prelude.{◌+◌, ◌-◌, ◌==◌, ◌&&◌, not, IsSomeAnd, if◌then◌else◌, is_some, nat_lt, length, slice_get, ⊤}
use Rattle.std.specs.Prelude.{Option, Some, None, IsSome, IfSome, Result, Ok, Err, OnOk, List, [], ◌∷◌, ◌++◌}
use Rattle.std.proofs.lemmas.Bool.Decides.{nat_tests}
use Rattle.osb_message.specs.declared.catalogue.Mode.{Mode}
use Rattle.osb_message.specs.declared.catalogue.Mode.TheVariants.{Sync, Async}
use Rattle.osb_message.specs.declared.messages.Answer.{Answer}
use Rattle.osb_message.specs.declared.messages.Kind.{Kind}
use Rattle.osb_message.specs.declared.messages.Kind.TheVariants.{Provision, Poll, Deprovision}
use Rattle.osb_message.specs.declared.messages.Request.{Request}
use Rattle.osb_broker.specs.declared.outcome.Outcome.TheVariants as table
use Rattle.osb_instance.specs.declared.digest.Digest.{Digest}
use Rattle.osb_instance.specs.declared.outcome.WorkOutcome.TheVariants.{Done}
use Rattle.osb_broker.specs.declared.row.BrokerRow.{BrokerRow}
use Rattle.osb_broker.specs.declared.row.Phase.{Phase}
use Rattle.osb_broker.specs.Finished.{finished, finished_in, is_running_in}
use Rattle.osb_broker.specs.Poll.{own_poll}
use Rattle.osb_platform.specs.declared.state.State.{State}
use Rattle.osb_platform.specs.declared.state.State.TheVariants.{Wanted, Polling, Ready, Cleaning}
use Rattle.osb_platform.specs.declared.state.State.TheVariants.{CleaningPolling, Gone, Unsettled}
use Rattle.osb_platform.specs.PlatformRow.{in_state}
use Rattle.osb_platform.specs.State.{after_timeout, due, state_after, state_after_poll}
use Rattle.osb_instance.specs.declared.record.Sent.{Sent}
use Rattle.osb_instance.specs.declared.work.Begun.{Begun}
use Rattle.osb_instance.specs.declared.work.Begun.TheVariants.{Answered}
use Rattle.osb_instance.specs.Begin.{begun, worked}
use Rattle.osb_instance.specs.Held.{Held}
use Rattle.osb_instance.specs.Recorded.{Recorded}
use Rattle.osb_network.specs.declared.event.Event.{Event}
use Rattle.osb_network.specs.declared.event.Given.{Given}
use Rattle.osb_network.specs.declared.order.Order.{Order}
use Rattle.osb_network.specs.declared.resource.Resource.{Resource}
use Rattle.osb_network.specs.Cell.{Cell, IsNumbered, IsPossible, IsPossibleRecord}
use Rattle.osb_network.specs.Possible.{IsBefore, IsBrokerStep, IsInDeletion, IsKept, IsKeptAs, IsLeavingAs, IsRow}
use Rattle.osb_network.specs.Possible.{HeldByState, attributes_of, refuses, request_of, row_of}
use Rattle.osb_network.specs.Settling.{after_free, after_round, exchanged, good_of, good_resource, number_out, operated_well, settled_cell}
use Rattle.osb_network.specs.Settling.{with_answer, with_arrival, with_good, worked_well}
use Rattle.osb_network.specs.Settling.{HasNumbers, IsSettled, IsSettledIn, ThreeRoundsSettle}
use Rattle.osb_network.specs.Steps.{arrive, arrived, cell_step, end, ended, give_up, has_number, next_recorded, send, send_due}
use Rattle.osb_network.specs.Steps.{sent_as, take, take_given, take_out, with_given, with_sent, with_state}
use Rattle.osb_network.specs.Truth.{is_true_end, is_under_way, is_under_way_by}
use Rattle.osb_network.proofs.Arrivals.{arrives, begun_is_now, begun_now, held, held_as, order, row_held, waiting_held}
use Rattle.osb_network.proofs.Kept.{answered_with, arrive_recorded, end_recorded, kept_step, with_rec}

-- ---- what a step leaves of a cell

of_either : {X : Type 0} (f : Cell → X) (x : Bool) (a c : Cell) → f a ≡ f c → f (if x then a else c) ≡ f c
of_either f true a c e = e
of_either f false a c e = refl

good_keeps : {X : Type 0} (f : Cell → X) (c : Cell) → ((t : Resource) → f (record c { resource = t }) ≡ f c)
    → f (with_good c) ≡ f c
good_keeps f c e =
    let t : Resource = good_resource c.held.work c.held.row in
    of_either f (is_under_way c.held) (record c { resource = t }) c (e t)

if_true : {X : Type 0} (x : Bool) (a c : X) → x ≡ true → (if x then a else c) ≡ a
if_true true a c e = refl
if_true false a c e = cc

if_false : {X : Type 0} (x : Bool) (a c : X) → x ≡ false → (if x then a else c) ≡ c
if_false true a c e = cc
if_false false a c e = refl

-- ---- the pending work ends well

end_none : (c : Cell) (w : Option Request) → w ≡ None → end c w Done ≡ c
end_none c None e = refl
end_none c (Some q) e = cc

idle_worked : (c : Cell) → c.held.work ≡ None → worked_well c ≡ with_good c
idle_worked c e =
    end_none (with_good c) (with_good c).held.work (good_keeps (λ (d : Cell). d.held.work) c (λ t. refl) ∙ e)

true_good : (m : Option Mode) (k : Kind) → k ≢ Poll → is_true_end m k Done (good_of k) ≡ true
true_good (Some Sync) Provision n = refl
true_good (Some Async) Provision n = refl
true_good None Provision n = refl
true_good (Some Sync) Deprovision n = refl
true_good (Some Async) Deprovision n = refl
true_good None Deprovision n = refl
true_good m Poll n = absurd (n refl)

abbrev made_good : Cell → Kind → Cell
made_good c k = record c { resource = good_of k }

good_made : (c : Cell) (q : Request) → c.held.work ≡ Some q → with_good c ≡ made_good c q.kind
good_made c q e =
    λ i. if is_under_way_by (e i) c.held then record c { resource = good_resource (e i) c.held.row } else c

abbrev after_work : Cell → Request → Cell
after_work c q =
    let after = worked c.order.mode c.held q Done in ended (made_good c q.kind) after.0 after.1 c.worker

work_done : (c : Cell) (q : Request) → c.held.work ≡ Some q → q.kind ≢ Poll → worked_well c ≡ after_work c q
work_done c q e n =
    ap (λ (d : Cell). end d d.held.work Done) (good_made c q e)
    ∙ (λ i. end (made_good c q.kind) (e i) Done)
    ∙ if_true (is_true_end c.order.mode q.kind Done (good_of q.kind)) (after_work c q) (made_good c q.kind)
    (true_good c.order.mode q.kind n)

ended_held : (c : Cell) (g : Held) (a : Answer) (w : Option ℕ) → (ended c g a w).held ≡ g
ended_held c g a None = refl
ended_held c g a (Some n) = refl

-- no Poll is ever work
work_kinds : (o : Order) (b : Option BrokerRow) (w : Option Request) (x v : Bool) (t : Resource) → IsKeptAs o b w x v t
    → IfSome w (λ q. q.kind ≢ Poll)
work_kinds o b None x v t kept = tt
work_kinds o None (Some q) false false t kept =
    λ e. (let f : q.kind ≡ Provision = ap (λ (r : Request). r.kind) kept.0 in cc)
work_kinds o (Some b) (Some q) false false t kept =
    λ e. (let f : q.kind ≡ Deprovision = ap (λ (r : Request). r.kind) kept.0 in cc)
work_kinds o None (Some q) true v t kept = absurd kept
work_kinds o None (Some q) false true t kept = absurd kept
work_kinds o (Some b) (Some q) true v t kept = absurd kept
work_kinds o (Some b) (Some q) false true t kept = absurd kept

no_work_after : (c : Cell) (w : Option Request) → c.held.work ≡ w → IfSome w (λ q. q.kind ≢ Poll)
    → (worked_well c).held.work ≡ None
no_work_after c None e k =
    ap (λ (d : Cell). d.held.work) (idle_worked c e) ∙ good_keeps (λ (d : Cell). d.held.work) c (λ t. refl) ∙ e
no_work_after c (Some q) e k =
    ap (λ (d : Cell). d.held.work) (work_done c q e k)
    ∙ ap (λ (h : Held). h.work) (ended_held (made_good c q.kind) _ _ c.worker)

worked_recorded : (c : Cell) → (worked_well c).recorded ≡ c.recorded
worked_recorded c =
    end_recorded (with_good c) (with_good c).held.work Done ∙ good_keeps (λ (d : Cell). d.recorded) c (λ t. refl)

-- ---- the operation that runs ends well

abbrev at : Cell → Option BrokerRow → Bool → Bool → Digest → Cell
at c b x v d = record c { held = record { row = b; work = None; tombstone = x; waiting = v; attributes = d } }

-- the row after it; one that waits for its first Poll stays
abbrev operated_row : Bool → Option BrokerRow → Option BrokerRow
operated_row true b = b
operated_row false b = finished b true

record IsOperated (c : Cell) (b : Option BrokerRow) (v : Bool) : Type 0 where
  pub row : (operated_well c).held.row ≡ operated_row v b
  pub work : (operated_well c).held.work ≡ None
  pub waiting : (operated_well c).held.waiting ≡ v

operated_in : (c : Cell) (s p : ℕ) (h : Phase) (x v : Bool) (d : Digest)
    → IsOperated (at c (Some (record { service = s; plan = p; phase = h })) x v d)
    (Some (record { service = s; plan = p; phase = h })) v
operated_in c s p Phase.Making x true d = record { row = refl; work = refl; waiting = refl }
operated_in c s p Phase.Deleting x true d = record { row = refl; work = refl; waiting = refl }
operated_in c s p Phase.Ready x true d = record { row = refl; work = refl; waiting = refl }
operated_in c s p Phase.Failed x true d = record { row = refl; work = refl; waiting = refl }
operated_in c s p Phase.DeleteFailed x true d = record { row = refl; work = refl; waiting = refl }
operated_in c s p Phase.Making x false d = record { row = refl; work = refl; waiting = refl }
operated_in c s p Phase.Deleting x false d = record { row = refl; work = refl; waiting = refl }
operated_in c s p Phase.Ready x false d = record { row = refl; work = refl; waiting = refl }
operated_in c s p Phase.Failed x false d = record { row = refl; work = refl; waiting = refl }
operated_in c s p Phase.DeleteFailed x false d = record { row = refl; work = refl; waiting = refl }

operated_at : (c : Cell) (b : Option BrokerRow) (x v : Bool) (d : Digest) → IsOperated (at c b x v d) b v
operated_at c None x true d = record { row = refl; work = refl; waiting = refl }
operated_at c None x false d = record { row = refl; work = refl; waiting = refl }
operated_at c (Some b) x v d = operated_in c b.service b.plan b.phase x v d

operated : (c : Cell) → c.held.work ≡ None → IsOperated c c.held.row c.held.waiting
operated c e =
    let same : at c c.held.row c.held.tombstone c.held.waiting c.held.attributes ≡ c =
    λ i. record c {
      held = record {
        row = c.held.row;
        work = sym e i;
        tombstone = c.held.tombstone;
        waiting = c.held.waiting;
        attributes = c.held.attributes;
      };
    } in
    subst (λ (d : Cell). IsOperated d c.held.row c.held.waiting) same
    (operated_at c c.held.row c.held.tombstone c.held.waiting c.held.attributes)

operated_recorded : (c : Cell) → (operated_well c).recorded ≡ c.recorded
operated_recorded c =
    of_either (λ (d : Cell). d.recorded) _ _ (with_good c) refl ∙ good_keeps (λ (d : Cell). d.recorded) c (λ t. refl)

abbrev IsQuiet : Option BrokerRow → Bool → Type 0
IsQuiet b v = IfSome b (λ row. (is_running_in row.phase && not v) ≡ false)

quiet_waiting : (x : Bool) → (x && not true) ≡ false
quiet_waiting true = refl
quiet_waiting false = refl

quiet_in : (s p : ℕ) (h : Phase) → IsQuiet (finished_in h (record { service = s; plan = p; phase = h }) true) false
quiet_in s p Phase.Making = refl
quiet_in s p Phase.Deleting = tt
quiet_in s p Phase.Ready = refl
quiet_in s p Phase.Failed = refl
quiet_in s p Phase.DeleteFailed = refl

quiet_after : (b : Option BrokerRow) (v : Bool) → IsQuiet (operated_row v b) v
quiet_after None true = tt
quiet_after None false = tt
quiet_after (Some b) true = quiet_waiting (is_running_in b.phase)
quiet_after (Some b) false = quiet_in b.service b.plan b.phase

deleted_after : (b : Option BrokerRow) → IfSome b (λ row. row.phase ≡ Phase.Deleting) → finished b true ≡ None
deleted_after None h = refl
deleted_after (Some b) h = ap (λ p. finished_in p b true) h

abbrev IsReadyRow : Option BrokerRow → Type 0
IsReadyRow b = IsSomeAnd b (λ row. row.phase ≡ Phase.Ready)

made_after : (b : Option BrokerRow) → IsSomeAnd b (λ row. row.phase ≡ Phase.Making) → IsReadyRow (finished b true)
made_after None h = absurd h
made_after (Some b) h = subst (λ (p : Phase). IsReadyRow (finished_in p b true)) (sym h) refl

-- ---- what is out is given up

abbrev pub resting : Recorded → State → Recorded
resting rec s = record { row = in_state s rec.row; attempt = rec.attempt }

given_up_out : (c : Cell) (rec : Recorded) (out : Option Kind) → rec.row.out ≡ out → c.recorded ≡ Some rec
    → (out ≡ None → after_timeout rec.row.state ≡ rec.row.state)
    → (if is_some out then with_state c rec (after_timeout rec.row.state) else c).recorded
    ≡ Some (resting rec (after_timeout rec.row.state))
given_up_out c rec (Some k) o e rests = refl
given_up_out c rec None o e rests =
    e ∙ (λ i. Some (record {
      row = record {
        service = rec.row.service;
        plan = rec.row.plan;
        state = sym (rests refl) i;
        out = o i;
      };
      attempt = rec.attempt;
    }))

stays : (s : State) → s ≢ Wanted → after_timeout s ≡ s
stays Wanted n = absurd (n refl)
stays s n = refl

pub given_up : (c : Cell) (rec : Recorded) → c.recorded ≡ Some rec → IsPossibleRecord c rec
    → (cell_step c Event.Timeout).recorded ≡ Some (resting rec (after_timeout rec.row.state))
given_up c rec e h =
    (λ i. (give_up c (e i)).recorded)
    ∙ given_up_out c rec rec.row.out refl e
    (λ n. stays rec.row.state (λ w. (let f = h.sound.wanted w in cc)))

-- ---- a request is done and answered

-- what is held and answered once what was begun is done
abbrev done_as : Begun → Held → Option Mode → Request → Held × Answer
done_as (Answered a) h m q = (h, a)
done_as (Begun.Work w) h m q = worked m h q Done

-- what was begun is done by the fault-free round: there is no work, or that of the request
abbrev IsRight : Begun → Held → Request → Type 0
IsRight (Answered a) h q = h.work ≡ None
IsRight (Begun.Work w) h q = (h.work ≡ Some q) × (q.kind ≢ Poll)

-- a cell in which a request was done and answered
record IsDone (c d : Cell) (n : ℕ) (p : Held × Answer) : Type 0 where
  pub recorded : d.recorded ≡ c.recorded
  pub held : d.held ≡ p.0
  pub given : d.given ≡ c.given ++ record { attempt = n; answer = p.1 } ∷ []

done_by : (b : Begun) (h : Held) (c : Cell) (y : Sent) → IsRight b h y.request
    → IsDone c (worked_well (arrived c y h b)) y.attempt (done_as b h c.order.mode y.request)
done_by (Begun.Work w) h c y right =
    let d : Cell = record c { held = h; worker = Some y.attempt } in
    let e : worked_well d ≡ after_work d y.request = work_done d y.request right.0 right.1 in
    record {
      recorded = ap (λ (d : Cell). d.recorded) e;
      held = ap (λ (d : Cell). d.held) e;
      given = ap (λ (d : Cell). d.given) e;
    }
done_by (Answered a) h c y right =
    let d : Cell = with_given (record c { held = h }) y.attempt a in
    let e : worked_well d ≡ with_good d = idle_worked d right in
    record {
      recorded = ap (λ (d : Cell). d.recorded) e ∙ good_keeps (λ (d : Cell). d.recorded) d (λ t. refl);
      held = ap (λ (d : Cell). d.held) e ∙ good_keeps (λ (d : Cell). d.held) d (λ t. refl);
      given = ap (λ (d : Cell). d.given) e ∙ good_keeps (λ (d : Cell). d.given) d (λ t. refl);
    }

abbrev begins : Order → Held → Kind → Held × Begun
begins o h k = begun o.mode o.first_poll h (request_of o k) o.attributes

-- what is held and answered once a request of the kind was done
abbrev exch : Order → Held → Kind → Held × Answer
exch o h k = done_as (begins o h k).1 (begins o h k).0 o.mode (request_of o k)

done : (c : Cell) (k : Kind) (n : ℕ)
    → IsRight (begins c.order c.held k).1 (begins c.order c.held k).0 (request_of c.order k)
    → IsDone c (worked_well (arrive c (Some (record { request = request_of c.order k; attempt = n })))) n
    (exch c.order c.held k)
done c k n right =
    done_by (begins c.order c.held k).1 (begins c.order c.held k).0 c
    (record { request = request_of c.order k; attempt = n }) right

-- what the broker begins with a request is right
right_by : (o : Order) (s : State) (k : Kind) (h g : Held) (t : Resource) (b : Begun) → h.work ≡ None
    → IsBrokerStep o s k h t g b → ((a : Answer) → b ≡ Answered a → g.work ≡ h.work) → IsRight b g (request_of o k)
right_by o s k h g t (Answered a) idle step same = same a refl ∙ idle
right_by o s k h g t (Begun.Work w) idle step same = (
  step.told,
  subst (λ (z : Option Request). IfSome z (λ q. q.kind ≢ Poll)) step.told
      (work_kinds o g.row g.work g.tombstone g.waiting t step.kept.0),
)

right_of : (o : Order) (s : State) (k : Kind) (h : Held) (t : Resource) → (k ≡ Deprovision → IsBefore s → ⊥)
    → IsKept o h t → HeldByState o s h t → h.work ≡ None
    → IsRight (begins o h k).1 (begins o h k).0 (request_of o k)
right_of o s k h t late kept holds idle =
    right_by o s k h (begins o h k).0 t (begins o h k).1 idle (arrives o k s h t late kept holds)
    (λ a is. answered_with o.mode o.first_poll h (request_of o k) o.attributes a is)

-- ---- the latest of a list

length_push : {X : Type 0} (xs : List X) (x : X) → length (xs ++ x ∷ []) ≡ length xs + 1
length_push [] x = refl
length_push (y ∷ ys) x = let e : length (ys ++ x ∷ []) ≡ length ys + 1 = length_push ys x in omega arith

at_length : {X : Type 0} (xs : List X) (x : X) → slice_get (xs ++ x ∷ []) (length xs) ≡ Some x
at_length [] x = refl
at_length (y ∷ ys) x = at_length ys x

latest : {X : Type 0} (xs : List X) (x : X) → slice_get (xs ++ x ∷ []) (length (xs ++ x ∷ []) - 1) ≡ Some x
latest xs x =
    let e : length (xs ++ x ∷ []) ≡ length xs + 1 = length_push xs x in
    let n : length (xs ++ x ∷ []) - 1 ≡ length xs = omega arith in
    ap (slice_get (xs ++ x ∷ [])) n ∙ at_length xs x

counted : (n : ℕ) (xs : List Sent) (i : ℕ) → IsNumbered n xs i → n + length xs ≡ i
counted n [] i h = let e : n ≡ i = h in omega arith
counted n (x ∷ xs) i h = let e : n + 1 + length xs ≡ i = counted (n + 1) xs i h.1 in omega arith

found : (xs : List Sent) (i : ℕ) (y : Sent) → IsNumbered 0 xs i → sent_as (xs ++ y ∷ []) (i + 1) ≡ Some y
found xs i y h =
    let e : 0 + length xs ≡ i = counted 0 xs i h in
    let n : i + 1 - 1 ≡ length xs = omega arith in
    let z : (i + 1 == 0) ≡ false = grind (arith, nat_tests) in
    if_false (i + 1 == 0) None (slice_get (xs ++ y ∷ []) (i + 1 - 1)) z
    ∙ ap (slice_get (xs ++ y ∷ [])) n ∙ at_length xs y

-- ---- the request that is due is sent, done and answered

sent_is : (c : Cell) (rec : Recorded) (k : Kind) → c.recorded ≡ Some rec → rec.row.out ≡ None
    → due rec.row.state ≡ Some k → has_number rec ≡ true
    → cell_step c Event.Send ≡ with_sent c (next_recorded rec k) k
sent_is c rec k e out d room =
    (λ i. send c (e i)) ∙ (λ i. send_due c rec (out i) (d i))
    ∙ if_true (has_number rec) (with_sent c (next_recorded rec k) k) c room

same_number : (n : ℕ) → (n == n) ≡ true
same_number n = grind (arith, nat_tests)

answered_is : (d : Cell) (rec : Recorded) (k : Kind) (xs : List Given) (a : Answer) → d.recorded ≡ Some rec
    → rec.row.out ≡ Some k → d.given ≡ xs ++ record { attempt = rec.attempt; answer = a } ∷ []
    → with_answer d ≡ with_state d rec (state_after rec.row.state k a)
answered_is d rec k xs a e out given =
    let g : Given = record { attempt = rec.attempt; answer = a } in
    let last : slice_get d.given (length d.given - 1) ≡ Some g =
    (λ i. slice_get (given i) (length (given i) - 1)) ∙ latest xs g in
    ap (take_given d) last ∙ (λ i. take d (e i) rec.attempt a)
    ∙ if_true (rec.attempt == rec.attempt) (take_out d rec rec.row.out a) d (same_number rec.attempt)
    ∙ (λ i. take_out d rec (out i) a)

abbrev later : Cell → Recorded → Kind → Recorded
later c rec k = record {
  row = in_state (state_after rec.row.state k (exch c.order c.held k).1) rec.row;
  attempt = rec.attempt + 1;
}

record IsExchanged (c d : Cell) (rec : Recorded) (k : Kind) : Type 0 where
  pub recorded : d.recorded ≡ Some (later c rec k)
  pub held : d.held ≡ (exch c.order c.held k).0

late_due : (s : State) (k : Kind) → due s ≡ Some k → k ≡ Deprovision → IsBefore s → ⊥
late_due Cleaning k e f b = b
late_due CleaningPolling k e f b = b
late_due Gone k e f b = b
late_due s k e f b = cc

exchange : (c : Cell) (rec : Recorded) (k : Kind) → c.recorded ≡ Some rec → rec.row.out ≡ None
    → due rec.row.state ≡ Some k → has_number rec ≡ true → IsNumbered 0 c.sent rec.attempt
    → IsRight (begins c.order c.held k).1 (begins c.order c.held k).0 (request_of c.order k)
    → IsExchanged c (exchanged c) rec k
exchange c rec k e out d room numbered right =
    let y : Sent = record { request = request_of c.order k; attempt = rec.attempt + 1 } in
    let next : Recorded = next_recorded rec k in
    let p : Held × Answer = exch c.order c.held k in
    let sent : Cell = with_sent c next k in
    let one : IsDone sent (worked_well (arrive sent (Some y))) (rec.attempt + 1) p = done sent k (rec.attempt + 1) right in
    let two : IsDone sent (worked_well (with_arrival sent)) (rec.attempt + 1) p =
    subst (λ (o : Option Sent). IsDone sent (worked_well (arrive sent o)) (rec.attempt + 1) p)
    (sym (found c.sent rec.attempt y numbered)) one in
    let last : Cell = worked_well (with_arrival (cell_step c Event.Send)) in
    let three : IsDone sent last (rec.attempt + 1) p =
    subst (λ (z : Cell). IsDone sent (worked_well (with_arrival z)) (rec.attempt + 1) p)
    (sym (sent_is c rec k e out d room)) two in
    let is : with_answer last ≡ with_state last next (state_after rec.row.state k p.1) =
    answered_is last next k c.given p.1 three.recorded refl three.given in
    record {
      recorded = ap (λ (z : Cell). z.recorded) is;
      held = ap (λ (z : Cell). z.held) is ∙ three.held;
    }

-- ---- where nothing is due

unsent : (c : Cell) (rec : Recorded) → c.recorded ≡ Some rec → rec.row.out ≡ None → due rec.row.state ≡ None
    → cell_step c Event.Send ≡ c
unsent c rec e out d = (λ i. send c (e i)) ∙ (λ i. send_due c rec (out i) (d i))

arrive_keeps : (c : Cell) (n : ℕ) → (cell_step c (Event.Arrive n)).recorded ≡ c.recorded
arrive_keeps c n = arrive_recorded c (sent_as c.sent n)

untaken : (d : Cell) (rec : Recorded) (g : Option Given) → d.recorded ≡ Some rec → rec.row.out ≡ None
    → (take_given d g).recorded ≡ Some rec
untaken d rec None e out = e
untaken d rec (Some g) e out =
    (λ i. (take d (e i) g.attempt g.answer).recorded)
    ∙ of_either (λ (z : Cell). z.recorded) (g.attempt == rec.attempt) (take_out d rec rec.row.out g.answer) d
    (λ i. (take_out d rec (out i) g.answer).recorded)
    ∙ e

unexchanged : (c : Cell) (rec : Recorded) → c.recorded ≡ Some rec → rec.row.out ≡ None → due rec.row.state ≡ None
    → (exchanged c).recorded ≡ Some rec
unexchanged c rec e out d =
    let sent : Cell = cell_step c Event.Send in
    let last : Cell = worked_well (with_arrival sent) in
    untaken last rec (slice_get last.given (length last.given - 1))
    (worked_recorded (with_arrival sent) ∙ arrive_keeps sent (number_out sent.recorded)
    ∙ ap (λ (z : Cell). z.recorded) (unsent c rec e out d) ∙ e)
    out

-- ---- how near an instance is to where nothing is due

-- it is gone, or a deletion is polled that runs or has ended
abbrev pub IsEnding : State → Held → Type 0
IsEnding CleaningPolling h = (h.work ≡ None) × (h.waiting ≡ false) × IfSome h.row (λ row. row.phase ≡ Phase.Deleting)
IsEnding Gone h = ⊤
IsEnding s h = ⊥

-- it is cleaned up, or it is nearer to its end
abbrev pub IsEndingInTwo : State → Held → Type 0
IsEndingInTwo Cleaning h = ⊤
IsEndingInTwo s h = IsEnding s h

pub ending_in_two : (s : State) (h : Held) → IsEnding s h → IsEndingInTwo s h
ending_in_two Cleaning h n = tt
ending_in_two s h n = n

-- one round more settles it, if that: nothing is due, or a deletion is polled that runs or has ended
abbrev IsInOne : State → Held → Type 0
IsInOne CleaningPolling h = IsEnding CleaningPolling h
IsInOne s h = IsSettledIn s

ending_too : (s : State) (h : Held) → IsEnding s h → IsInOne s h
ending_too CleaningPolling h n = n
ending_too Gone h n = tt
ending_too s h n = absurd n

-- two rounds more, if that: it is cleaned up, a making is polled that runs, or it is nearer
abbrev IsInTwo : State → Held → Type 0
IsInTwo Cleaning h = ⊤
IsInTwo Polling h = (h.work ≡ None) × (h.waiting ≡ false) × IsSomeAnd h.row (λ row. row.phase ≡ Phase.Making)
IsInTwo s h = IsInOne s h

in_two_too : (s : State) (h : Held) → IsInOne s h → IsInTwo s h
in_two_too Cleaning h n = tt
in_two_too Polling h n = absurd n
in_two_too s h n = n

ending_in_two_too : (s : State) (h : Held) → IsEndingInTwo s h → IsInTwo s h
ending_in_two_too Cleaning h n = tt
ending_in_two_too s h n = in_two_too s h (ending_too s h n)

-- so near, and with so many numbers left
abbrev pub IsNear : (State → Held → Type 0) → ℕ → Cell → Type 0
IsNear near n c =
    IfSome c.recorded (λ rec. near rec.row.state c.held × (rec.attempt + n ≤ 18446744073709551615))

near_by : (near : State → Held → Type 0) (n : ℕ) (c : Cell) (rec : Recorded) → c.recorded ≡ Some rec
    → near rec.row.state c.held → rec.attempt + n ≤ 18446744073709551615 → IsNear near n c
near_by near n c rec e is room =
    subst (λ (r : Option Recorded). IfSome r (λ rec. near rec.row.state c.held
    × (rec.attempt + n ≤ 18446744073709551615))) (sym e) (is, room)

-- so near after a request of the kind
abbrev After : (State → Held → Type 0) → Order → State → Kind → Held → Type 0
After near o s k h = near (state_after s k (exch o h k).1) (exch o h k).0

near_exchanged : (near : State → Held → Type 0) (n : ℕ) (c d : Cell) (rec : Recorded) (k : Kind) (s : State)
    → IsExchanged c d rec k → rec.row.state ≡ s → rec.attempt + (n + 1) ≤ 18446744073709551615
    → After near c.order s k c.held → IsNear near n d
near_exchanged near n c d rec k s x e room is =
    let p : Held × Answer = exch c.order c.held k in
    near_by near n d (later c rec k) x.recorded
    (subst (near (state_after rec.row.state k p.1)) (sym x.held)
    (subst (λ (s : State). near (state_after s k p.1) p.0) (sym e) is))
    (omega arith)

-- ---- the tables, for what nothing runs on

-- the same of what is held of an order, whose requests conflict with nothing
abbrev pub After_now : (State → Held → Type 0) → Order → State → Kind → Held → Type 0
After_now near o s k h =
    near (state_after s k (done_as (begun_now o h k).1 (begun_now o h k).0 o.mode (request_of o k)).1)
    (done_as (begun_now o h k).1 (begun_now o h k).0 o.mode (request_of o k)).0

is_held_as : (o : Order) (h : Held) (t : Resource) → IsKept o h t → h.work ≡ None
    → h ≡ held_as o h.row None h.tombstone h.waiting
is_held_as o h t kept e = λ i. record {
  row = h.row;
  work = e i;
  tombstone = h.tombstone;
  waiting = h.waiting;
  attributes = (kept.1 ∙ ap (attributes_of o h.row) e) i;
}

after_of : (near : State → Held → Type 0) (o : Order) (s : State) (k : Kind) (h : Held) (t : Resource) → IsKept o h t
    → h.work ≡ None → After_now near o s k (held_as o h.row None h.tombstone h.waiting) → After near o s k h
after_of near o s k h t kept e is =
    subst (λ (g : Held). After near o s k g) (sym (is_held_as o h t kept e))
    (subst (λ (p : Held × Begun). near (state_after s k (done_as p.1 p.0 o.mode (request_of o k)).1)
    (done_as p.1 p.0 o.mode (request_of o k)).0) (sym (begun_is_now o k h.row None h.tombstone h.waiting)) is)

abbrev Cleaned : Order → Held → Type 0
Cleaned o h = After_now IsEnding o Cleaning Deprovision h

cleaned_sync : (i v p : ℕ) (a f : Bool) (d : Digest) (h : Phase) → (is_running_in h && not false) ≡ false
    → Cleaned (order i v p (Some Sync) a f d) (row_held (order i v p (Some Sync) a f d) h)
cleaned_sync i v p a f d Phase.Making off = cc
cleaned_sync i v p a f d Phase.Deleting off = cc
cleaned_sync i v p a f d Phase.Ready off = simp (same_number v, same_number p) tt
cleaned_sync i v p a f d Phase.Failed off = simp (same_number v, same_number p) tt
cleaned_sync i v p a f d Phase.DeleteFailed off = simp (same_number v, same_number p) tt

cleaned_async : (i v p : ℕ) (a f : Bool) (d : Digest) (h : Phase) → (is_running_in h && not false) ≡ false
    → Cleaned (order i v p (Some Async) a f d) (row_held (order i v p (Some Async) a f d) h)
cleaned_async i v p a f d Phase.Making off = cc
cleaned_async i v p a f d Phase.Deleting off = cc
cleaned_async i v p a f d Phase.Ready off = simp (same_number v, same_number p) (refl, refl, refl)
cleaned_async i v p a f d Phase.Failed off = simp (same_number v, same_number p) (refl, refl, refl)
cleaned_async i v p a f d Phase.DeleteFailed off = simp (same_number v, same_number p) (refl, refl, refl)

cleaned_by : (i v p : ℕ) (m : Option Mode) (a f : Bool) (d : Digest) (h : Phase) → refuses m a ≡ false
    → (is_running_in h && not false) ≡ false → Cleaned (order i v p m a f d) (row_held (order i v p m a f d) h)
cleaned_by i v p None a f d h taken off = cc
cleaned_by i v p (Some Sync) a f d h taken off = cleaned_sync i v p a f d h off
cleaned_by i v p (Some Async) a f d h taken off = cleaned_async i v p a f d h off

cleaned_waiting : (i v p : ℕ) (m : Option Mode) (a f : Bool) (d : Digest)
    → IsRow (order i v p m a f d) (row_of (order i v p m a f d) Phase.Making)
    → Cleaned (order i v p m a f d) (waiting_held (order i v p m a f d))
cleaned_waiting i v p None a f d row = let e = row.taken in cc
cleaned_waiting i v p (Some Sync) a f d row = let e = row.ready refl in cc
cleaned_waiting i v p (Some Async) a f d row = simp (same_number v, same_number p) tt

-- what is polled
polled_by : (near : State → Held → Type 0) (i v p : ℕ) (m : Option Mode) (a f : Bool) (d : Digest) (s : State)
    (h : Phase) → near (state_after_poll s (own_poll h table.Done)) (row_held (order i v p m a f d) h)
    → After_now near (order i v p m a f d) s Poll (row_held (order i v p m a f d) h)
polled_by near i v p m a f d s h is = simp (same_number v, same_number p) is

polled_making : (h : Phase) (g : Held) → (is_running_in h && not false) ≡ false
    → IsInTwo (state_after_poll Polling (own_poll h table.Done)) g
polled_making Phase.Making g off = cc
polled_making Phase.Deleting g off = cc
polled_making h g off = tt

polled_deleting : (h : Phase) (g : Held) → (is_running_in h && not false) ≡ false
    → IsEndingInTwo (state_after_poll CleaningPolling (own_poll h table.Done)) g
polled_deleting Phase.Making g off = cc
polled_deleting Phase.Deleting g off = cc
polled_deleting h g off = tt

polled_waiting : (i v p : ℕ) (m : Option Mode) (a f : Bool) (d : Digest)
    → After_now IsInTwo (order i v p m a f d) Polling Poll (waiting_held (order i v p m a f d))
polled_waiting i v p m a f d = simp (same_number v, same_number p) (refl, refl, refl)

-- what is kept without work, case by case
cleaned : (o : Order) (b : Option BrokerRow) (x v : Bool) (t : Resource) → IsKeptAs o b None x v t → IsQuiet b v
    → Cleaned o (held_as o b None x v)
cleaned o None true false t kept off = tt
cleaned o None false false t kept off = tt
cleaned o None x true t kept off = absurd kept
cleaned o (Some b) true v t kept off = absurd kept
cleaned o (Some b) false false t kept off =
    subst (λ (r : BrokerRow). Cleaned o (held o (Some r) None false)) (sym kept.same)
    (cleaned_by o.id o.service o.plan o.mode o.accepts o.first_poll o.attributes b.phase kept.taken off)
cleaned o (Some b) false true t kept off =
    let is : b ≡ row_of o Phase.Making = kept.0.same ∙ ap (row_of o) kept.1 in
    subst (λ (r : BrokerRow). Cleaned o (held_as o (Some r) None false true)) (sym is)
    (cleaned_waiting o.id o.service o.plan o.mode o.accepts o.first_poll o.attributes (subst (IsRow o) is kept.0))

polled_row : (o : Order) (b : Option BrokerRow) (x v : Bool) (t : Resource) → IsKeptAs o b None x v t → IsQuiet b v
    → IsSome b → After_now IsInTwo o Polling Poll (held_as o b None x v)
polled_row o None x v t kept off some = cc
polled_row o (Some b) true v t kept off some = absurd kept
polled_row o (Some b) false false t kept off some =
    subst (λ (r : BrokerRow). After_now IsInTwo o Polling Poll (held o (Some r) None false)) (sym kept.same)
    (polled_by IsInTwo o.id o.service o.plan o.mode o.accepts o.first_poll o.attributes Polling b.phase
    (polled_making b.phase _ off))
polled_row o (Some b) false true t kept off some =
    let is : b ≡ row_of o Phase.Making = kept.0.same ∙ ap (row_of o) kept.1 in
    subst (λ (r : BrokerRow). After_now IsInTwo o Polling Poll (held_as o (Some r) None false true)) (sym is)
    (polled_waiting o.id o.service o.plan o.mode o.accepts o.first_poll o.attributes)

not_leaving : (p : Phase) → p ≡ Phase.Making → IsInDeletion p → ⊥
not_leaving Phase.Deleting e l = cc
not_leaving Phase.DeleteFailed e l = cc
not_leaving p e l = l

polled_end : (o : Order) (b : Option BrokerRow) (x v : Bool) (t : Resource) → IsKeptAs o b None x v t → IsQuiet b v
    → IsLeavingAs b x → After_now IsEndingInTwo o CleaningPolling Poll (held_as o b None x v)
polled_end o None true false t kept off leaves = tt
polled_end o None false false t kept off leaves = tt
polled_end o None x true t kept off leaves = absurd kept
polled_end o (Some b) true v t kept off leaves = absurd kept
polled_end o (Some b) false false t kept off leaves =
    subst (λ (r : BrokerRow). After_now IsEndingInTwo o CleaningPolling Poll (held o (Some r) None false))
    (sym kept.same)
    (polled_by IsEndingInTwo o.id o.service o.plan o.mode o.accepts o.first_poll o.attributes CleaningPolling b.phase
    (polled_deleting b.phase _ off))
polled_end o (Some b) false true t kept off leaves = absurd (not_leaving b.phase kept.1 leaves)

-- the deletion has ended
gone_now : (near : State → Held → Type 0) (o : Order) (x v : Bool) (t : Resource) → IsKeptAs o None None x v t
    → ((h : Held) → near Gone h) → After_now near o CleaningPolling Poll (held_as o None None x v)
gone_now near o true false t kept is = is _
gone_now near o false false t kept is = is _
gone_now near o x true t kept is = absurd kept

gone : (near : State → Held → Type 0) (o : Order) (b : Option BrokerRow) (x v : Bool) (t : Resource)
    → IsKeptAs o b None x v t → ((h : Held) → near Gone h) → b ≡ None
    → After_now near o CleaningPolling Poll (held_as o b None x v)
gone near o None x v t kept is e = gone_now near o x v t kept is
gone near o (Some b) x v t kept is e = cc

-- the making has ended
ready_by : (i v p : ℕ) (m : Option Mode) (a f : Bool) (d : Digest)
    → After_now IsInOne (order i v p m a f d) Polling Poll (row_held (order i v p m a f d) Phase.Ready)
ready_by i v p m a f d = simp (same_number v, same_number p) tt

made : (o : Order) (b : Option BrokerRow) (x v : Bool) (t : Resource) → IsKeptAs o b None x v t → IsReadyRow b
    → After_now IsInOne o Polling Poll (held_as o b None x v)
made o None x v t kept ready = absurd ready
made o (Some b) true v t kept ready = absurd kept
made o (Some b) false false t kept ready =
    let is : b ≡ row_of o Phase.Ready = kept.same ∙ ap (row_of o) ready in
    subst (λ (r : BrokerRow). After_now IsInOne o Polling Poll (held o (Some r) None false)) (sym is)
    (ready_by o.id o.service o.plan o.mode o.accepts o.first_poll o.attributes)
made o (Some b) false true t kept ready = (let e : Phase.Making ≡ Phase.Ready = sym kept.1 ∙ ready in cc)

-- ---- the second half of a round, from a cell in which nothing is out and nothing under way

pub record IsCalm (c : Cell) (rec : Recorded) : Type 0 where
  pub recorded : c.recorded ≡ Some rec
  pub possible : IsPossibleRecord c rec
  pub out : rec.row.out ≡ None
  pub idle : c.held.work ≡ None
  pub quiet : IsQuiet c.held.row c.held.waiting

has_room : (i n : ℕ) → i + (n + 1) ≤ 18446744073709551615 → nat_lt i 18446744073709551615 ≡ true
has_room i n h = grind (arith, nat_tests)

-- what the broker keeps, without work
kept_idle : (c : Cell) (rec : Recorded) → IsCalm c rec
    → IsKeptAs c.order c.held.row None c.held.tombstone c.held.waiting c.resource
kept_idle c rec calm =
    subst (λ (w : Option Request). IsKeptAs c.order c.held.row w c.held.tombstone c.held.waiting c.resource) calm.idle
    calm.possible.parts.kept.0

exchanges : (c : Cell) (rec : Recorded) (k : Kind) (n : ℕ) → IsCalm c rec → due rec.row.state ≡ Some k
    → rec.attempt + (n + 1) ≤ 18446744073709551615 → IsExchanged c (exchanged c) rec k
exchanges c rec k n calm d room =
    exchange c rec k calm.recorded calm.out d (has_room rec.attempt n room) calm.possible.numbered
    (right_of c.order rec.row.state k c.held c.resource (late_due rec.row.state k d) calm.possible.parts.kept
    calm.possible.parts.holds calm.idle)

-- so near by a table
pub nears : (near : State → Held → Type 0) (n : ℕ) (c : Cell) (rec : Recorded) (k : Kind) (s : State) → IsCalm c rec
    → rec.row.state ≡ s → due s ≡ Some k → rec.attempt + (n + 1) ≤ 18446744073709551615
    → After_now near c.order s k (held_as c.order c.held.row None c.held.tombstone c.held.waiting)
    → IsNear near n (exchanged c)
nears near n c rec k s calm e d room is =
    near_exchanged near n c (exchanged c) rec k s (exchanges c rec k n calm (ap due e ∙ d) room) e room
    (after_of near c.order s k c.held c.resource calm.possible.parts.kept calm.idle is)

pub rests : (near : State → Held → Type 0) (n : ℕ) (c : Cell) (rec : Recorded) → IsCalm c rec
    → due rec.row.state ≡ None → near rec.row.state (exchanged c).held
    → rec.attempt + (n + 1) ≤ 18446744073709551615 → IsNear near n (exchanged c)
rests near n c rec calm d is room =
    near_by near n (exchanged c) rec (unexchanged c rec calm.recorded calm.out d) is (omega arith)

holds_in : (c : Cell) (rec : Recorded) (s : State) → IsCalm c rec → rec.row.state ≡ s
    → HeldByState c.order s c.held c.resource
holds_in c rec s calm e =
    subst (λ (s : State). HeldByState c.order s c.held c.resource) e calm.possible.parts.holds

-- a Deprovision is done
pub deprovisioned : (c : Cell) (rec : Recorded) → IsCalm c rec
    → After_now IsEnding c.order Cleaning Deprovision (held_as c.order c.held.row None c.held.tombstone c.held.waiting)
deprovisioned c rec calm =
    cleaned c.order c.held.row c.held.tombstone c.held.waiting c.resource (kept_idle c rec calm) calm.quiet

-- a deletion is polled
pub polled_on : (c : Cell) (rec : Recorded) → IsCalm c rec → rec.row.state ≡ CleaningPolling
    → After_now IsEndingInTwo c.order CleaningPolling Poll
    (held_as c.order c.held.row None c.held.tombstone c.held.waiting)
polled_on c rec calm e =
    polled_end c.order c.held.row c.held.tombstone c.held.waiting c.resource (kept_idle c rec calm) calm.quiet
    (holds_in c rec CleaningPolling calm e)

-- a deletion is polled that has ended
pub polled_gone : (near : State → Held → Type 0) (c : Cell) (rec : Recorded) → IsCalm c rec
    → ((h : Held) → near Gone h) → c.held.row ≡ None
    → After_now near c.order CleaningPolling Poll (held_as c.order c.held.row None c.held.tombstone c.held.waiting)
polled_gone near c rec calm is none =
    gone near c.order c.held.row c.held.tombstone c.held.waiting c.resource (kept_idle c rec calm) is none

first : (c : Cell) (rec : Recorded) (n : ℕ) (s : State) → rec.row.state ≡ s → IsCalm c rec
    → rec.attempt + (n + 1) ≤ 18446744073709551615 → IsNear IsInTwo n (exchanged c)
first c rec n Wanted e calm room = (let f = calm.possible.sound.wanted e in let g = calm.out in cc)
first c rec n Polling e calm room =
    nears IsInTwo n c rec Poll Polling calm e refl room
    (polled_row c.order c.held.row c.held.tombstone c.held.waiting c.resource (kept_idle c rec calm) calm.quiet
    (holds_in c rec Polling calm e).1.1)
first c rec n Cleaning e calm room =
    nears IsInTwo n c rec Deprovision Cleaning calm e refl room
    (in_two_too _ _ (ending_too _ _ (deprovisioned c rec calm)))
first c rec n CleaningPolling e calm room =
    nears IsInTwo n c rec Poll CleaningPolling calm e refl room
    (ending_in_two_too _ _ (polled_on c rec calm e))
first c rec n s e calm room =
    rests IsInTwo n c rec calm (ap due e) (subst (λ s. IsInTwo s (exchanged c).held) (sym e) tt) room

second : (c : Cell) (rec : Recorded) (n : ℕ) (s : State) → rec.row.state ≡ s → IsCalm c rec
    → (s ≡ CleaningPolling → c.held.row ≡ None) → (s ≡ Polling → IsReadyRow c.held.row)
    → rec.attempt + (n + 1) ≤ 18446744073709551615 → IsNear IsInOne n (exchanged c)
second c rec n Wanted e calm ends ready room = (let f = calm.possible.sound.wanted e in let g = calm.out in cc)
second c rec n Polling e calm ends ready room =
    nears IsInOne n c rec Poll Polling calm e refl room
    (made c.order c.held.row c.held.tombstone c.held.waiting c.resource (kept_idle c rec calm) (ready refl))
second c rec n Cleaning e calm ends ready room =
    nears IsInOne n c rec Deprovision Cleaning calm e refl room (ending_too _ _ (deprovisioned c rec calm))
second c rec n CleaningPolling e calm ends ready room =
    nears IsInOne n c rec Poll CleaningPolling calm e refl room (polled_gone IsInOne c rec calm (λ h. tt) (ends refl))
second c rec n s e calm ends ready room =
    rests IsInOne n c rec calm (ap due e) (subst (λ s. IsInOne s (exchanged c).held) (sym e) tt) room

abbrev Settles : State → Held → Type 0
Settles s h = IsSettledIn s

third : (c : Cell) (rec : Recorded) (n : ℕ) (s : State) → rec.row.state ≡ s → IsCalm c rec
    → (s ≡ CleaningPolling → c.held.row ≡ None) → s ≢ Polling → s ≢ Cleaning
    → rec.attempt + (n + 1) ≤ 18446744073709551615 → IsNear Settles n (exchanged c)
third c rec n Wanted e calm ends not_polling not_cleaning room =
    (let f = calm.possible.sound.wanted e in let g = calm.out in cc)
third c rec n Polling e calm ends not_polling not_cleaning room = absurd (not_polling refl)
third c rec n Cleaning e calm ends not_polling not_cleaning room = absurd (not_cleaning refl)
third c rec n CleaningPolling e calm ends not_polling not_cleaning room =
    nears Settles n c rec Poll CleaningPolling calm e refl room (polled_gone Settles c rec calm (λ h. tt) (ends refl))
third c rec n s e calm ends not_polling not_cleaning room =
    rests Settles n c rec calm (ap due e) (subst (λ s. Settles s (exchanged c).held) (sym e) tt) room

-- ---- the first half of a round

kept_worked : (c : Cell) → IsPossible c → IsPossible (worked_well c)
kept_worked c h = kept_step (with_good c) (Event.End Done) (kept_step c (Event.Work _) h)

kept_operated : (c : Cell) → IsPossible c → IsPossible (operated_well c)
kept_operated c h = kept_step (with_good c) (Event.Finish true) (kept_step c (Event.Work _) h)

-- what nothing is out of, once pending work and operation have ended
abbrev pub calmed : Cell → Cell
calmed c = operated_well (worked_well c)

pub calm_after : (one : Cell) (rest : Recorded) → one.recorded ≡ Some rest → rest.row.out ≡ None → IsPossible one
    → IsCalm (calmed one) rest
calm_after one rest here out possible =
    let two : Cell = worked_well one in
    let idle : two.held.work ≡ None =
    no_work_after one one.held.work refl
    (work_kinds one.order one.held.row one.held.work one.held.tombstone one.held.waiting one.resource
    (with_rec one one.recorded rest possible here).parts.kept.0) in
    let last : IsOperated two two.held.row two.held.waiting = operated two idle in
    let recorded : (calmed one).recorded ≡ Some rest = operated_recorded two ∙ worked_recorded one ∙ here in
    record {
      recorded = recorded;
      possible = with_rec (calmed one) (calmed one).recorded rest (kept_operated two (kept_worked one possible)) recorded;
      out = out;
      idle = last.work;
      quiet = subst (λ (b : Option BrokerRow). IsQuiet b (calmed one).held.waiting) (sym last.row)
          (subst (IsQuiet (operated_row two.held.waiting two.held.row)) (sym last.waiting)
          (quiet_after two.held.row two.held.waiting));
    }

-- once what is out was given up
given_up_calm : (c : Cell) (rec : Recorded) → c.recorded ≡ Some rec → IsPossible c
    → IsCalm (calmed (cell_step c Event.Timeout)) (resting rec (after_timeout rec.row.state))
given_up_calm c rec e h =
    calm_after (cell_step c Event.Timeout) (resting rec (after_timeout rec.row.state))
    (given_up c rec e (with_rec c c.recorded rec h e)) refl (kept_step c Event.Timeout h)

-- ---- a round, from any cell that can come about

never_taken : (d : Cell) (g : Option Given) → d.recorded ≡ None → (take_given d g).recorded ≡ None
never_taken d None e = e
never_taken d (Some g) e = (λ i. (take d (e i) g.attempt g.answer).recorded) ∙ e

pub timeout_held : (c : Cell) (r : Option Recorded) → (give_up c r).held ≡ c.held
timeout_held c None = refl
timeout_held c (Some rec) = of_either (λ (z : Cell). z.held) (is_some rec.row.out) (with_state c rec _) c refl

pub unrecorded : (one : Cell) → one.recorded ≡ None → (after_free one).recorded ≡ None
unrecorded one e =
    let calm : (calmed one).recorded ≡ None = operated_recorded (worked_well one) ∙ worked_recorded one ∙ e in
    let sent : Cell = cell_step (calmed one) Event.Send in
    let last : Cell = worked_well (with_arrival sent) in
    let here : last.recorded ≡ None =
    worked_recorded (with_arrival sent) ∙ arrive_keeps sent (number_out sent.recorded)
    ∙ (λ i. (send (calmed one) (calm i)).recorded) ∙ calm in
    never_taken last (slice_get last.given (length last.given - 1)) here

abbrev pub HasRoom : ℕ → Option Recorded → Type 0
HasRoom n r = IfSome r (λ rec. rec.attempt + n ≤ 18446744073709551615)

pub none_near : (near : State → Held → Type 0) (n : ℕ) (c : Cell) → c.recorded ≡ None → IsNear near n c
none_near near n c e =
    subst (λ (r : Option Recorded). IfSome r (λ rec. near rec.row.state c.held
    × (rec.attempt + n ≤ 18446744073709551615))) (sym e) tt

-- what was never recorded stays so
pub timeout_none : (c : Cell) → c.recorded ≡ None → (cell_step c Event.Timeout).recorded ≡ None
timeout_none c e = (λ i. (give_up c (e i)).recorded) ∙ e

never_recorded : (c : Cell) → c.recorded ≡ None → (after_round c).recorded ≡ None
never_recorded c e = unrecorded (cell_step c Event.Timeout) (timeout_none c e)

first_round : (n : ℕ) (c : Cell) (r : Option Recorded) → c.recorded ≡ r → IsPossible c → HasRoom (n + 1) r
    → IsNear IsInTwo n (after_round c)
first_round n c None e h room = none_near IsInTwo n (after_round c) (never_recorded c e)
first_round n c (Some rec) e h room =
    first (calmed (cell_step c Event.Timeout)) (resting rec (after_timeout rec.row.state)) n _ refl
    (given_up_calm c rec e h) room

-- what runs has ended by the second half
operated_after : (c one : Cell) → one.held ≡ c.held → c.held.work ≡ None → c.held.waiting ≡ false
    → (calmed one).held.row ≡ finished c.held.row true
operated_after c one same idle off =
    let free : one.held.work ≡ None = ap (λ (h : Held). h.work) same ∙ idle in
    let two : (worked_well one).held ≡ c.held =
    ap (λ (d : Cell). d.held) (idle_worked one free) ∙ good_keeps (λ (d : Cell). d.held) one (λ t. refl) ∙ same in
    (operated (worked_well one) (ap (λ (h : Held). h.work) two ∙ idle)).row
    ∙ ap (λ (h : Held). operated_row h.waiting h.row) two ∙ ap (λ (v : Bool). operated_row v c.held.row) off

pub deleted : (c one : Cell) → one.held ≡ c.held → c.held.work ≡ None → c.held.waiting ≡ false
    → IfSome c.held.row (λ row. row.phase ≡ Phase.Deleting) → (calmed one).held.row ≡ None
deleted c one same idle off deleting = operated_after c one same idle off ∙ deleted_after c.held.row deleting

ends_in : (c : Cell) (s : State) → IsInTwo s c.held → after_timeout s ≡ CleaningPolling
    → (calmed (cell_step c Event.Timeout)).held.row ≡ None
ends_in c Wanted near e = cc
ends_in c Cleaning near e = cc
ends_in c CleaningPolling near e =
    deleted c (cell_step c Event.Timeout) (timeout_held c c.recorded) near.0 near.1 near.2
ends_in c Polling near e = cc
ends_in c Ready near e = cc
ends_in c Gone near e = cc
ends_in c Unsettled near e = cc

ready_in : (c : Cell) (s : State) → IsInTwo s c.held → after_timeout s ≡ Polling
    → IsReadyRow (calmed (cell_step c Event.Timeout)).held.row
ready_in c Wanted near e = cc
ready_in c Cleaning near e = cc
ready_in c CleaningPolling near e = cc
ready_in c Polling near e =
    subst IsReadyRow
    (sym (operated_after c (cell_step c Event.Timeout) (timeout_held c c.recorded) near.0 near.1))
    (made_after c.held.row near.2)
ready_in c Ready near e = cc
ready_in c Gone near e = cc
ready_in c Unsettled near e = cc

polls_no_more : (s : State) (h : Held) → IsInOne s h → after_timeout s ≢ Polling
polls_no_more Polling h near = absurd near
polls_no_more Wanted h near = absurd near
polls_no_more s h near = λ e. cc

cleans_no_more : (s : State) (h : Held) → IsInOne s h → after_timeout s ≢ Cleaning
cleans_no_more Cleaning h near = absurd near
cleans_no_more Wanted h near = absurd near
cleans_no_more s h near = λ e. cc

abbrev pub NearBy : (State → Held → Type 0) → ℕ → Held → Option Recorded → Type 0
NearBy near n h r = IfSome r (λ rec. near rec.row.state h × (rec.attempt + n ≤ 18446744073709551615))

second_round : (n : ℕ) (c : Cell) (r : Option Recorded) → c.recorded ≡ r → IsPossible c
    → NearBy IsInTwo (n + 1) c.held r → IsNear IsInOne n (after_round c)
second_round n c None e h near = none_near IsInOne n (after_round c) (never_recorded c e)
second_round n c (Some rec) e h near =
    second (calmed (cell_step c Event.Timeout)) (resting rec (after_timeout rec.row.state)) n _ refl
    (given_up_calm c rec e h)
    (ends_in c rec.row.state near.0) (ready_in c rec.row.state near.0) near.1

third_round : (n : ℕ) (c : Cell) (r : Option Recorded) → c.recorded ≡ r → IsPossible c
    → NearBy IsInOne (n + 1) c.held r → IsNear Settles n (after_round c)
third_round n c None e h near = none_near Settles n (after_round c) (never_recorded c e)
third_round n c (Some rec) e h near =
    let two : IsInTwo rec.row.state c.held = in_two_too rec.row.state c.held near.0 in
    third (calmed (cell_step c Event.Timeout)) (resting rec (after_timeout rec.row.state)) n _ refl
    (given_up_calm c rec e h)
    (ends_in c rec.row.state two) (polls_no_more rec.row.state c.held near.0)
    (cleans_no_more rec.row.state c.held near.0) near.1

settled_by : (n : ℕ) (h : Held) (r : Option Recorded) → NearBy Settles n h r
    → IfSome r (λ rec. IsSettledIn rec.row.state)
settled_by n h None near = tt
settled_by n h (Some rec) near = near.0

room_by : (n : ℕ) (h : Held) (r : Option Recorded) → NearBy Settles n h r → HasRoom n r
room_by n h None near = tt
room_by n h (Some rec) near = near.1

pub kept_free : (one : Cell) → IsPossible one → IsPossible (after_free one)
kept_free one h =
    let sent : Cell = cell_step (calmed one) Event.Send in
    let last : Cell = worked_well (with_arrival sent) in
    let calm : IsPossible (calmed one) = kept_operated (worked_well one) (kept_worked one h) in
    let arrived : IsPossible (with_arrival sent) =
    kept_step sent (Event.Arrive (number_out sent.recorded)) (kept_step (calmed one) Event.Send calm) in
    kept_step last (Event.Take (length last.given - 1)) (kept_worked (with_arrival sent) arrived)

kept_round : (c : Cell) → IsPossible c → IsPossible (after_round c)
kept_round c h = kept_free (cell_step c Event.Timeout) (kept_step c Event.Timeout h)

-- three of them settle the instance, and take three numbers at most
settles : (n : ℕ) (c : Cell) → IsPossible c → HasRoom (n + 1 + 1 + 1) c.recorded
    → NearBy Settles n (settled_cell c).held (settled_cell c).recorded
settles n c h room =
    let d : Cell = after_round c in
    let e : Cell = after_round d in
    let kept : IsPossible d = kept_round c h in
    third_round n e e.recorded refl (kept_round d kept)
    (second_round (n + 1) d d.recorded refl kept (first_round (n + 1 + 1) c c.recorded refl h room))

pub three_rounds_settle : ThreeRoundsSettle
three_rounds_settle c h room = settled_by 0 (settled_cell c).held (settled_cell c).recorded (settles 0 c h room)

-- what they leave can come about, and if there were five numbers, there are two
pub kept_settled : (c : Cell) → IsPossible c → IsPossible (settled_cell c)
kept_settled c h = kept_round (after_round (after_round c)) (kept_round (after_round c) (kept_round c h))

pub settled_with_two : (c : Cell) → IsPossible c → HasNumbers 5 c → IsSettled (settled_cell c) × HasNumbers 2 (settled_cell c)
settled_with_two c h room =
    let near = settles 2 c h room in (
      settled_by 2 (settled_cell c).held (settled_cell c).recorded near,
      room_by 2 (settled_cell c).held (settled_cell c).recorded near,
    )

pub settled_if : {T E : Type 0} (r : Result T E) (c n : Cell) → OnOk r (n ≡ settled_cell c) → IsPossible c → HasNumbers 3 c
    → OnOk r (IsSettled n)
settled_if (Ok x) c n ok h room = subst IsSettled (sym ok) (three_rounds_settle c h room)
settled_if (Err x) c n ok h room = tt

pub three_cells : (round : Cell → Cell) (a b c d : Cell) → b ≡ round a → c ≡ round b → d ≡ round c
    → d ≡ round (round (round a))
three_cells round a b c d one two three = three ∙ ap round two ∙ ap (λ (x : Cell). round (round x)) one
