-- An answer that a driver comes to is that of its event, or was given before.
use Rattle.std.proofs.Common.{◌≡◌, inl, inr, ℕ, Bool, true, false, refl, ap, ◌∙◌, List, []}
use Rattle.std.specs.Prelude.{Option, Some, None, IfSome, ◌&&◌, not, if◌then◌else◌, slice_get}
use Rattle.osb_broker.specs.Answers.{mode_of}
use Rattle.osb_driver.specs.Driver.{end_of, finish_by as finish_held_by, first_by as first_by_instance}
use Rattle.osb_driver.specs.Driver.{nothing as nothing_held_tx, resume as resume_held}
use Rattle.osb_driver.specs.World.{IsRepeated, is_owner}
use Rattle.osb_driver.specs.declared.driver.Permit.{Permit}
use Rattle.osb_driver.specs.declared.driver.Stage.{Stage}
use Rattle.osb_driver.specs.declared.driver.Task.{Task}
use Rattle.osb_instance.specs.Begin.{begins, busy, can_end, is_operating}
use Rattle.osb_instance.specs.Held.{Held}
use Rattle.osb_instance.specs.declared.digest.Digest.{Digest}
use Rattle.osb_instance.specs.declared.outcome.WorkOutcome.{WorkOutcome}
use Rattle.osb_instance.specs.declared.work.Begun.{Begun}
use Rattle.osb_instance.specs.declared.work.Begun.TheVariants.{Answered}
use Rattle.osb_message.specs.declared.catalogue.Mode.{Mode}
use Rattle.osb_message.specs.declared.messages.Answer.{Answer}
use Rattle.osb_message.specs.declared.messages.Request.{Request}
use Rattle.osb_network.specs.declared.event.Given.{Given}
use Rattle.osb_update.specs.Begun.{begun, is_under_way}
use Rattle.osb_update.specs.Ended.{finished, worked_by}
use Rattle.osb_update.specs.declared.holding.UpdateHolding.{UpdateHolding}
use Rattle.osb_update.specs.declared.phase.UpdateBegun.{UpdateBegun}
use Rattle.osb_update.specs.declared.phase.UpdateOutcome.{UpdateOutcome}
use Rattle.osb_update.specs.declared.phase.UpdatePhase.{UpdatePhase}
use Rattle.osb_update.specs.declared.request.Allowed.{Allowed}
use Rattle.osb_update.specs.declared.request.Update.{Update}
use Rattle.osb_update.specs.declared.settings.Settings.{Settings}
use Rattle.osb_update_driver.proofs.Ends.{ending}
use Rattle.osb_update_driver.proofs.Kept.{GoesIn, normal, owner_knows}
use Rattle.osb_update_driver.proofs.Rows.{at_phase, due, tx_by}
use Rattle.osb_update_driver.proofs.Transactions.{plain_of}
use Rattle.osb_update_driver.specs.Driver.{end_by, end_instance, end_update, finish_by, finish_instance}
use Rattle.osb_update_driver.specs.Driver.{finish_update, first_instance, first_instance_by, first_update}
use Rattle.osb_update_driver.specs.Driver.{of_instance, repeated, resume_by, task_of, update_by, with_held}
use Rattle.osb_update_driver.specs.World.{AreTold, IsTold, IsToldIn, Knows, KnowsEnd, KnowsUpdateEnd, WorldState}
use Rattle.osb_update_driver.specs.World.{answer_of, arrival_answer, asked_by, begin_of, begun_answer, end_answer}
use Rattle.osb_update_driver.specs.World.{events_of, first_of, mode_to, transaction_of, update_answer}
use Rattle.osb_update_driver.specs.declared.driver.UpdateAsked.{UpdateAsked}
use Rattle.osb_update_driver.specs.declared.driver.UpdateStage.{UpdateStage}
use Rattle.osb_update_driver.specs.declared.driver.UpdateTask.{UpdateTask}
use Rattle.osb_update_driver.specs.declared.driver.UpdateTransaction.{UpdateTransaction}
use Rattle.osb_update_network.specs.AnyPlatform.{UpdatedCell, asked_by as settings_by, in_place, is_new, mode_of_work}
use Rattle.osb_update_network.specs.AnyPlatform.{pending_to}
use Rattle.osb_update_network.specs.declared.event.UpdateEvent.{UpdateEvent}

-- ---- an Update arrives

update_tells : (c : UpdatedCell) (g : List Given) (n : ℕ) (l may : Bool) (allowed : Allowed) (u : Update) (b :
    UpdateBegun)
    → (begun c.instance.held allowed c.change u).1 ≡ b
    → IsTold c g (Some (UpdateAsked.Update u)) (Some n)
    (update_by b may l c.instance.held c.change (begun c.instance.held allowed c.change u).0 allowed).stage
    (events_of (update_by b may l c.instance.held c.change (begun c.instance.held allowed c.change u).0 allowed).effect
    (Some (UpdateAsked.Update u)))
update_tells c g n l may allowed u (UpdateBegun.Answered y) e = ap update_answer e
update_tells c g n l may allowed u UpdateBegun.MaintenanceInfoConflict e = e
update_tells c g n l false allowed u (UpdateBegun.Work mode to) e = inr (refl, tt)
update_tells c g n false true allowed u (UpdateBegun.Work mode to) e = tt
update_tells c g n true true allowed u (UpdateBegun.Work mode to) e = tt

update_told : (c : UpdatedCell) (g : List Given) (n : ℕ) (own l may : Bool) (allowed : Allowed) (u : Update)
    → IsTold c g (Some (UpdateAsked.Update u)) (Some n) (first_update l own may c.instance.held c.change allowed
    u).stage
    (events_of (first_update l own may c.instance.held c.change allowed u).effect (Some (UpdateAsked.Update u)))
update_told c g n true l may allowed u = tt
update_told c g n false l may allowed u =
    update_tells c g n l may allowed u (begun c.instance.held allowed c.change u).1 refl

-- ---- a request of the instance arrives

abbrev let_to : Held × Begun → Begun
let_to x = x.1

-- its answer, by whether an update is under way, and whether it would begin something
abbrev let_answer : Bool → Bool → UpdatedCell → Request → Digest → Option Answer
let_answer u y c r d =
    begun_answer
    (let_to (if not (not false && not u) && y then (c.instance.held, Answered (busy r.kind)) else due c r d))

abbrev TellsOf : UpdateTransaction → UpdatedCell → List Given → ℕ → Request → Digest → Digest → Digest → Type 0
TellsOf tx c g n r d p v =
    IsTold c g (Some (UpdateAsked.Instance r d p v)) (Some n) tx.stage (events_of tx.effect (Some (UpdateAsked.Instance
    r d p v)))

due_tells : (b : Begun) (c : UpdatedCell) (g : List Given) (n : ℕ) (l new : Bool) (r : Request) (d p v : Digest)
    (asked : Settings) → answer_of c (UpdateEvent.Arrive r d p v) ≡ begun_answer (due c r d).1 → (due c r d).1 ≡ b
    → TellsOf (with_held (first_by_instance l false c.instance.held r (due c r d).0 b) new c.change asked) c g n r d p v
due_tells (Answered y) c g n l true r d p v asked k e = k ∙ ap begun_answer e
due_tells (Answered y) c g n l false r d p v asked k e = k ∙ ap begun_answer e
due_tells (Begun.Work w) c g n true new r d p v asked k e = tt
due_tells (Begun.Work w) c g n false new r d p v asked k e = tt

tells_by : (u y may new l : Bool) (c : UpdatedCell) (g : List Given) (n : ℕ) (r : Request) (d p v : Digest)
    (asked : Settings) → answer_of c (UpdateEvent.Arrive r d p v) ≡ let_answer u y c r d
    → TellsOf (tx_by u y may new l c r d asked) c g n r d p v
tells_by u true false new l c g n r d p v asked k = refl
tells_by true true true true l c g n r d p v asked k = k
tells_by true true true false l c g n r d p v asked k = k
tells_by false true true new l c g n r d p v asked k = due_tells (due c r d).1 c g n l new r d p v asked k refl
tells_by true false false new l c g n r d p v asked k = due_tells (due c r d).1 c g n l new r d p v asked k refl
tells_by true false true new l c g n r d p v asked k = due_tells (due c r d).1 c g n l new r d p v asked k refl
tells_by false false false new l c g n r d p v asked k = due_tells (due c r d).1 c g n l new r d p v asked k refl
tells_by false false true new l c g n r d p v asked k = due_tells (due c r d).1 c g n l new r d p v asked k refl

abbrev first_by_place : Option Answer → Bool → Bool → UpdatedCell → Request → Digest → Digest → Digest
    → UpdateTransaction
first_by_place o l may c r d p v =
    first_instance_by o l may (mode_of c.instance.catalogue r) c.instance.first_poll c.instance.held c.change r d
    (settings_by r p v)

place_tells : (o : Option Answer) (l may : Bool) (c : UpdatedCell) (g : List Given) (n : ℕ) (r : Request) (d p v :
    Digest)
    → in_place r.kind c.change c.instance.held (settings_by r p v) ≡ o
    → TellsOf (first_by_place o l may c r d p v) c g n r d p v
place_tells (Some y) l may c g n r d p v e = ap (λ (z : Option Answer). arrival_answer z c r d) e
place_tells None l may c g n r d p v e =
    tells_by (is_under_way c.change.phase) (begins (mode_of c.instance.catalogue r) c.instance.held r d) may
    (is_new r.kind c.instance.held) l c g n r d p v (settings_by r p v)
    (ap (λ (z : Option Answer). arrival_answer z c r d) e)

request_told : (c : UpdatedCell) (g : List Given) (n : ℕ) (own l may : Bool) (r : Request) (d p v : Digest)
    → TellsOf (first_instance l own may (mode_of c.instance.catalogue r) c.instance.first_poll c.instance.held c.change
    r d
    (settings_by r p v)) c g n r d p v
request_told c g n true l may r d p v = tt
request_told c g n false l may r d p v =
    place_tells (in_place r.kind c.change c.instance.held (settings_by r p v)) l may c g n r d p v refl

-- ---- a driver that doesn't know whether its first transaction was committed

resume_held_told : (c : UpdatedCell) (g : List Given) (x : Option UpdateAsked) (a : Option ℕ) (own : Bool) (w : Option
    Request)
    (es : List UpdateEvent)
    → IsTold c g x a (of_instance (resume_held own c.instance.held w) c.change).stage es
resume_held_told c g x None own w es = tt
resume_held_told c g x (Some n) false w es = tt
resume_held_told c g x (Some n) true None es = tt
resume_held_told c g x (Some n) true (Some q) es = tt

resume_told : (c : UpdatedCell) (g : List Given) (x : Option UpdateAsked) (a : Option ℕ) (own : Bool) (t : Option
    UpdateTask)
    (es : List UpdateEvent) → IsTold c g x a (resume_by t own c.instance.held c.change).stage es
resume_told c g x None true (Some t) es = tt
resume_told c g x (Some n) true (Some t) es = tt
resume_told c g x a false (Some t) es = resume_held_told c g x a false c.instance.held.work es
resume_told c g x a own None es = resume_held_told c g x a own c.instance.held.work es

-- ---- the end of work

ending_told : (can : Bool) (c : UpdatedCell) (g : List Given) (n : ℕ) (out : WorkOutcome) (q : Request)
    (asked : Option UpdateAsked) → c.instance.held.work ≡ Some q
    → IsTold c g asked (Some n)
    (of_instance (if can then ending c (Some n) q out else nothing_held_tx c.instance.held Stage.Done) c.change).stage
    (events_of
    (of_instance (if can then ending c (Some n) q out else nothing_held_tx c.instance.held Stage.Done) c.change).effect
    asked)
ending_told true c g n out q asked e = ap (λ (w : Option Request). end_answer c w out) e
ending_told false c g n out q asked e = tt

end_by_told : (c : UpdatedCell) (g : List Given) (n : ℕ) (out : WorkOutcome) (x : Option Answer)
    (asked : Option UpdateAsked) (w : Option Request) → c.instance.held.work ≡ w
    → KnowsEnd (plain_of c) g (Some n) out x w
    → IsTold c g asked (Some n)
    (of_instance (end_of (Some n) (mode_of_work c.instance.catalogue w) c.instance.held out x w) c.change).stage
    (events_of
    (of_instance (end_of (Some n) (mode_of_work c.instance.catalogue w) c.instance.held out x w) c.change).effect asked)
end_by_told c g n out None asked None e k = tt
end_by_told c g n out (Some y) asked None e k = inl k
end_by_told c g n out x asked (Some q) e k = ending_told (can_end q.kind out) c g n out q asked e

end_told : (c : UpdatedCell) (m : Settings
    → Mode) (g : List Given) (a : Option ℕ) (out : WorkOutcome) (x : Option Answer)
    (asked : Option UpdateAsked) (own : Bool)
    → (own ≡ true → Knows (plain_of c) m g a (UpdateStage.Instance (Stage.End out x)))
    → IsTold c g asked a
    (end_instance a own (mode_of_work c.instance.catalogue c.instance.held.work) c.instance.held c.change out x).stage
    (events_of
    (end_instance a own (mode_of_work c.instance.catalogue c.instance.held.work) c.instance.held c.change out x).effect
    asked)
end_told c m g None out x asked own k = tt
end_told c m g (Some n) out x asked false k = tt
end_told c m g (Some n) out x asked true k = end_by_told c g n out x asked c.instance.held.work refl (k refl)

finish_told : (c : UpdatedCell) (g : List Given) (x : Option UpdateAsked) (a : Option ℕ) (ok own runs : Bool) (es : List
    UpdateEvent)
    → IsTold c g x a (of_instance (if own then finish_held_by runs c.instance.held ok else nothing_held_tx
    c.instance.held Stage.Done) c.change).stage es
finish_told c g x None ok own runs es = tt
finish_told c g x (Some n) ok true true es = tt
finish_told c g x (Some n) ok true false es = tt
finish_told c g x (Some n) ok false runs es = tt

finish_instance_told : (c : UpdatedCell) (g : List Given) (x : Option UpdateAsked) (a : Option ℕ) (ok own : Bool) (es :
    List UpdateEvent)
    → IsTold c g x a (finish_instance own c.instance.held c.change ok).stage es
finish_instance_told c g x a ok true es = finish_told c g x a ok true (is_operating c.instance.held) es
finish_instance_told c g x a ok false es = finish_told c g x a ok false true es

abbrev UpdateTells : UpdatedCell → (Settings → Mode) → List Given → ℕ → UpdateOutcome → Option Answer
    → Option UpdateAsked → Type 0
UpdateTells c m g n out x asked =
    KnowsUpdateEnd (plain_of c) m g (Some n) out x (pending_to c.change.phase)
    → IsTold c g asked (Some n)
    (end_by (worked_by c.change.phase (mode_to m (pending_to c.change.phase)) c.change out) (Some n)
    (mode_to m (pending_to c.change.phase)) c.instance.held c.change out x).stage
    (events_of
    (end_by (worked_by c.change.phase (mode_to m (pending_to c.change.phase)) c.change out) (Some n)
    (mode_to m (pending_to c.change.phase)) c.instance.held c.change out x).effect asked)

repeated_told : (c : UpdatedCell) (g : List Given) (n : ℕ) (x : Option UpdateAsked) (y : Option Answer)
    → IsRepeated g (Some n) y
    → IsTold c g x (Some n) (UpdateStage.Instance (repeated y)) []
repeated_told c g n x None k = tt
repeated_told c g n x (Some y) k = inl k

update_ends_told : (p : UpdatePhase) (c : UpdatedCell) (m : Settings → Mode) (g : List Given) (n : ℕ)
    (out : UpdateOutcome) (x : Option Answer) (asked : Option UpdateAsked)
    → UpdateTells (at_phase c p) m g n out x asked
update_ends_told UpdatePhase.Settled c m g n out x asked k =
    repeated_told (at_phase c UpdatePhase.Settled) g n asked x k
update_ends_told UpdatePhase.Failed c m g n out x asked k =
    repeated_told (at_phase c UpdatePhase.Failed) g n asked x k
update_ends_told (UpdatePhase.Updating to) c m g n out x asked k =
    repeated_told (at_phase c (UpdatePhase.Updating to)) g n asked x k
update_ends_told (UpdatePhase.Pending to) c m g n out x asked k = refl
update_ends_told (UpdatePhase.Mending to) c m g n out x asked k = refl

update_end_told : (c : UpdatedCell) (m : Settings → Mode) (g : List Given) (a : Option ℕ) (out : UpdateOutcome)
    (x : Option Answer) (asked : Option UpdateAsked) (own : Bool)
    → (own ≡ true → Knows (plain_of c) m g a (UpdateStage.End out x))
    → IsTold c g asked a (end_update a own (mode_to m (pending_to c.change.phase)) c.instance.held c.change out x).stage
    (events_of (end_update a own (mode_to m (pending_to c.change.phase)) c.instance.held c.change out x).effect asked)
update_end_told c m g None out x asked own k = tt
update_end_told c m g (Some n) out x asked false k = tt
update_end_told c m g (Some n) out x asked true k = update_ends_told c.change.phase c m g n out x asked (k refl)

update_finish_by_told : (o : Option UpdateHolding) (c : UpdatedCell) (g : List Given) (x : Option UpdateAsked) (n : ℕ)
    (ok : Bool)
    (es : List UpdateEvent) → IsTold c g x (Some n) (finish_by o c.instance.held c.change ok).stage es
update_finish_by_told None c g x n ok es = tt
update_finish_by_told (Some h) c g x n ok es = tt

update_finish_told : (c : UpdatedCell) (g : List Given) (x : Option UpdateAsked) (a : Option ℕ) (ok own : Bool) (es :
    List UpdateEvent)
    → IsTold c g x a (finish_update own c.instance.held c.change ok).stage es
update_finish_told c g x None ok own es = tt
update_finish_told c g x (Some n) ok true es = update_finish_by_told (finished c.change ok) c g x n ok es
update_finish_told c g x (Some n) ok false es = tt

-- ---- any transaction

first_told : (s : WorldState) (at : ℕ) (permit : Permit) (allowed : Allowed) (n : ℕ) (l : Bool) (x : Option UpdateAsked)
    → IfSome (first_of (normal s) at permit allowed l x)
    (λ tx. IsTold s.cell s.given x (Some n) tx.stage (events_of tx.effect x))
first_told s at permit allowed n l None = tt
first_told s at permit allowed n l (Some (UpdateAsked.Instance r d p v)) =
    request_told s.cell s.given n (is_owner s.owner at) l permit.begin r d p v
first_told s at permit allowed n l (Some (UpdateAsked.Update u)) =
    update_told s.cell s.given n (is_owner s.owner at) l permit.begin allowed u

begin_told : (s : WorldState) (at : ℕ) (permit : Permit) (allowed : Allowed) (a : Option ℕ) (l : Bool)
    → IfSome (begin_of (normal s) at permit allowed a l) (IsToldIn (normal s) a)
begin_told s at permit allowed None l = tt
begin_told s at permit allowed (Some n) l = first_told s at permit allowed n l (slice_get s.asked n)

told_of : (s : WorldState) (at : ℕ) (permit : Permit) (allowed : Allowed) (a : Option ℕ) (stage : UpdateStage)
    → (is_owner s.owner at ≡ true → Knows (plain_of s.cell) s.modes s.given a stage)
    → IfSome (transaction_of (normal s) at permit allowed a stage) (IsToldIn (normal s) a)
told_of s at permit allowed a (UpdateStage.Instance Stage.TryLock) k = tt
told_of s at permit allowed a (UpdateStage.Instance (Stage.Begin l)) k = begin_told s at permit allowed a l
told_of s at permit allowed a (UpdateStage.Instance Stage.AwaitLock) k = tt
told_of s at permit allowed a (UpdateStage.Instance (Stage.Work (Task.Pending r))) k = tt
told_of s at permit allowed a (UpdateStage.Instance (Stage.Work Task.Operation)) k = tt
told_of s at permit allowed a (UpdateStage.Instance (Stage.End out x)) k =
    end_told s.cell s.modes s.given a out x (asked_by s a) (is_owner s.owner at) k
told_of s at permit allowed a (UpdateStage.Instance (Stage.Finish ok)) k =
    finish_instance_told s.cell s.given (asked_by s a) a ok (is_owner s.owner at) _
told_of s at permit allowed a (UpdateStage.Instance Stage.Unsure) k =
    resume_told s.cell s.given (asked_by s a) a (is_owner s.owner at) (task_of s.cell.change.phase) _
told_of s at permit allowed a (UpdateStage.Instance (Stage.Answer y)) k = tt
told_of s at permit allowed a (UpdateStage.Instance Stage.Done) k = tt
told_of s at permit allowed a (UpdateStage.Work (UpdateTask.Pending to)) k = tt
told_of s at permit allowed a (UpdateStage.Work (UpdateTask.Operation to)) k = tt
told_of s at permit allowed a (UpdateStage.End outcome x) k =
    update_end_told s.cell s.modes s.given a outcome x (asked_by s a) (is_owner s.owner at) k
told_of s at permit allowed a (UpdateStage.Finish ok) k =
    update_finish_told s.cell s.given (asked_by s a) a ok (is_owner s.owner at) _
told_of s at permit allowed a UpdateStage.Conflict k = tt

pub told_normal : (s : WorldState) → GoesIn s → AreTold (normal s)
told_normal s g at permit allowed d is =
    told_of s at permit allowed d.attempt d.stage (λ o. owner_knows s at d is g o)
