-- Whatever happens, the pending work is that of the request of the driver whose number the row has.
use Rattle.std.proofs.Common.{◌≡◌, ◌⊎◌, inl, inr, ℕ, Bool, true, false, refl, sym, ap, subst, ◌∙◌, ⊎_elim, List, []}
use Rattle.std.proofs.Common.{◌∷◌, ◌++◌}
use Rattle.std.specs.Prelude.{Option, Some, None, IfSome, IsSomeAnd, ◌||◌, ◌&&◌, if◌then◌else◌, slice_get}
use Rattle.osb_broker.specs.Answers.{mode_of}
use Rattle.osb_driver.specs.Driver.{after, end as end_held, finish_by as finish_held_by}
use Rattle.osb_driver.specs.Driver.{first_by as first_by_instance, missed_at_once, nothing as nothing_held_tx}
use Rattle.osb_driver.specs.Driver.{resume as resume_held, take_up_by as take_up_held}
use Rattle.osb_driver.specs.World.{is_owner}
use Rattle.osb_driver.specs.declared.driver.Effect.{Effect}
use Rattle.osb_driver.specs.declared.driver.Permit.{Permit}
use Rattle.osb_driver.specs.declared.driver.Stage.{Stage}
use Rattle.osb_driver.specs.declared.driver.Task.{Task}
use Rattle.osb_driver.specs.declared.driver.Transaction.{Transaction}
use Rattle.osb_driver.specs.declared.world.Commit.{Commit}
use Rattle.osb_instance.specs.Begin.{begins, can_end, is_operating, worked}
use Rattle.osb_instance.specs.Held.{Held}
use Rattle.osb_instance.specs.declared.digest.Digest.{Digest}
use Rattle.osb_instance.specs.declared.outcome.WorkOutcome.{WorkOutcome}
use Rattle.osb_instance.specs.declared.work.Begun.{Begun}
use Rattle.osb_instance.specs.declared.work.Begun.TheVariants.{Answered}
use Rattle.osb_message.specs.declared.catalogue.Mode.{Mode}
use Rattle.osb_message.specs.declared.messages.Answer.{Answer}
use Rattle.osb_message.specs.declared.messages.Request.{Request}
use Rattle.osb_network.proofs.PartWay.{none}
use Rattle.osb_network.specs.AnyPlatform.{creates_by, is_less}
use Rattle.osb_network.specs.declared.event.Given.{Given}
use Rattle.osb_network.specs.declared.resource.Resource.{Resource}
use Rattle.osb_update.specs.Begun.{begun, is_under_way}
use Rattle.osb_update.specs.Ended.{finished, worked as worked_holding}
use Rattle.osb_update.specs.declared.holding.UpdateHolding.{UpdateHolding}
use Rattle.osb_update.specs.declared.phase.UpdateBegun.{UpdateBegun}
use Rattle.osb_update.specs.declared.phase.UpdateOutcome.{UpdateOutcome}
use Rattle.osb_update.specs.declared.request.Allowed.{Allowed}
use Rattle.osb_update.specs.declared.request.Update.{Update}
use Rattle.osb_update.specs.declared.settings.Settings.{Settings}
use Rattle.osb_update_driver.proofs.Ends.{task_busy}
use Rattle.osb_update_driver.proofs.Kept.{GoesIn, IsGoodOf, IsStep, good_of, normal, owner_knows, step_normal}
use Rattle.osb_update_driver.proofs.Moves.{idle_phase}
use Rattle.osb_update_driver.proofs.Owned.{Shrinks, asked_shrunk, idle_shrinks, own_come, own_more, own_push, own_put}
use Rattle.osb_update_driver.proofs.Owned.{same_shrinks}
use Rattle.osb_update_driver.proofs.Rows.{due, tx_by}
use Rattle.osb_update_driver.proofs.Transactions.{IsGood, never, plain_of}
use Rattle.osb_update_driver.specs.Driver.{at_stage, end_by, end_update, finish_by, finish_instance, finish_update}
use Rattle.osb_update_driver.specs.Driver.{first_instance, first_instance_by, first_update, of_instance, resume_by}
use Rattle.osb_update_driver.specs.Driver.{take_up_by, task_of, unsure, update_by, with_held}
use Rattle.osb_update_driver.specs.World.{HasWork, IsOwn, IsOwnWork, IsTask, IsWorkOf, WorldState, asked_by}
use Rattle.osb_update_driver.specs.World.{at_holder, begin_of, driver_at, events_of, finished_by, first_of, give_up}
use Rattle.osb_update_driver.specs.World.{give_up_by, is_busy, is_mending, lock, lock_by, miss, miss_by, mode_to}
use Rattle.osb_update_driver.specs.World.{or_over, transact, transacted, transaction_of, update_finished_by}
use Rattle.osb_update_driver.specs.World.{update_worked_by, with_stage, with_transaction, with_work, work_by}
use Rattle.osb_update_driver.specs.World.{work_events, worked_by, world_step, written}
use Rattle.osb_update_driver.specs.declared.driver.UpdateAsked.{UpdateAsked}
use Rattle.osb_update_driver.specs.declared.driver.UpdateDriver.{UpdateDriver}
use Rattle.osb_update_driver.specs.declared.driver.UpdateStage.{UpdateStage}
use Rattle.osb_update_driver.specs.declared.driver.UpdateTask.{UpdateTask}
use Rattle.osb_update_driver.specs.declared.driver.UpdateTransaction.{UpdateTransaction}
use Rattle.osb_update_driver.specs.declared.world.UpdateHappening.{UpdateHappening}
use Rattle.osb_update_network.proofs.Available.{clash, rests, rests as rests_now}
use Rattle.osb_update_network.proofs.Promised.{always}
use Rattle.osb_update_network.specs.AnyPlatform.{UpdatedCell, asked_by as settings_by, in_place, is_new, may_end}
use Rattle.osb_update_network.specs.AnyPlatform.{may_end_update, may_finish_to, mode_of_work, pending_to}
use Rattle.osb_update_network.specs.AnyPlatform.{updated_applies, updated_step, updated_steps}
use Rattle.osb_update_network.specs.Promises.{IsUpdated}
use Rattle.osb_update_network.specs.declared.event.UpdateEvent.{UpdateEvent}
use Rattle.std.specs.Prelude.{length}

-- ---- what a first transaction comes to

-- the work of this request
abbrev IsStageOf : UpdateAsked → UpdateStage → Type 0
IsStageOf (UpdateAsked.Instance r a p v) stage = stage ≡ UpdateStage.Instance (Stage.Work (Task.Pending r))
IsStageOf (UpdateAsked.Update u) stage = (to : Settings) × (stage ≡ UpdateStage.Work (UpdateTask.Pending to))

record Comes (x : UpdateAsked) (tx : UpdateTransaction) : Type 0 where
  pub takes : tx.takes_over ≡ true → IsStageOf x tx.stage
  pub rests : tx.takes_over ≡ false → HasWork tx.stage → ⊥

no_takes : (A : Type 0) → false ≡ true → A
no_takes A e = absurd (clash false e refl)

quiet_comes : (x : UpdateAsked) (tx : UpdateTransaction) → tx.takes_over ≡ false → (HasWork tx.stage → ⊥) → Comes x tx
quiet_comes x tx e n = record { takes = λ t. absurd (clash tx.takes_over t e); rests = λ t w. n w }

due_comes : (b : Begun) (c : UpdatedCell) (l new : Bool) (r : Request) (d p v : Digest) (asked : Settings)
    → Comes (UpdateAsked.Instance r d p v)
    (with_held (first_by_instance l false c.instance.held r (due c r d).0 b) new c.change asked)
due_comes (Answered y) c l new r d p v asked = quiet_comes (UpdateAsked.Instance r d p v) _ refl (λ w. w)
due_comes (Begun.Work k) c false new r d p v asked = quiet_comes (UpdateAsked.Instance r d p v) _ refl (λ w. w)
due_comes (Begun.Work k) c true new r d p v asked =
    record { takes = λ t. refl; rests = λ t w. clash true refl t }

comes_by : (u y may new l : Bool) (c : UpdatedCell) (r : Request) (d p v : Digest) (asked : Settings)
    → Comes (UpdateAsked.Instance r d p v) (tx_by u y may new l c r d asked)
comes_by u true false new l c r d p v asked = quiet_comes (UpdateAsked.Instance r d p v) _ refl (λ w. w)
comes_by true true true new l c r d p v asked = quiet_comes (UpdateAsked.Instance r d p v) _ refl (λ w. w)
comes_by false true true new l c r d p v asked = due_comes (due c r d).1 c l new r d p v asked
comes_by true false false new l c r d p v asked = due_comes (due c r d).1 c l new r d p v asked
comes_by true false true new l c r d p v asked = due_comes (due c r d).1 c l new r d p v asked
comes_by false false false new l c r d p v asked = due_comes (due c r d).1 c l new r d p v asked
comes_by false false true new l c r d p v asked = due_comes (due c r d).1 c l new r d p v asked

place_comes : (o : Option Answer) (l may : Bool) (c : UpdatedCell) (r : Request) (d p v : Digest)
    → Comes (UpdateAsked.Instance r d p v)
    (first_instance_by o l may (mode_of c.instance.catalogue r) c.instance.first_poll c.instance.held c.change r d
    (settings_by r p v))
place_comes (Some y) l may c r d p v = quiet_comes (UpdateAsked.Instance r d p v) _ refl (λ w. w)
place_comes None l may c r d p v =
    comes_by (is_under_way c.change.phase) (begins (mode_of c.instance.catalogue r) c.instance.held r d) may
    (is_new r.kind c.instance.held) l c r d p v (settings_by r p v)

request_comes : (c : UpdatedCell) (own l may : Bool) (r : Request) (d p v : Digest)
    → Comes (UpdateAsked.Instance r d p v)
    (first_instance l own may (mode_of c.instance.catalogue r) c.instance.first_poll c.instance.held c.change r d
    (settings_by r p v))
request_comes c true l may r d p v = quiet_comes (UpdateAsked.Instance r d p v) _ refl (λ w. w)
request_comes c false l may r d p v =
    place_comes (in_place r.kind c.change c.instance.held (settings_by r p v)) l may c r d p v

update_comes_by : (b : UpdateBegun) (c : UpdatedCell) (l may : Bool) (h : UpdateHolding) (allowed : Allowed) (u :
    Update)
    → Comes (UpdateAsked.Update u) (update_by b may l c.instance.held c.change h allowed)
update_comes_by (UpdateBegun.Answered y) c l may h allowed u =
    quiet_comes (UpdateAsked.Update u) _ refl (λ w. w)
update_comes_by UpdateBegun.MaintenanceInfoConflict c l may h allowed u =
    quiet_comes (UpdateAsked.Update u) _ refl (λ w. w)
update_comes_by (UpdateBegun.Work mode to) c l false h allowed u = quiet_comes (UpdateAsked.Update u) _ refl (λ w. w)
update_comes_by (UpdateBegun.Work mode to) c false true h allowed u = quiet_comes (UpdateAsked.Update u) _ refl (λ w. w)
update_comes_by (UpdateBegun.Work mode to) c true true h allowed u =
    record { takes = λ t. (to, refl); rests = λ t w. clash true refl t }

update_comes : (c : UpdatedCell) (own l may : Bool) (allowed : Allowed) (u : Update)
    → Comes (UpdateAsked.Update u) (first_update l own may c.instance.held c.change allowed u)
update_comes c true l may allowed u = quiet_comes (UpdateAsked.Update u) _ refl (λ w. w)
update_comes c false l may allowed u =
    update_comes_by (begun c.instance.held allowed c.change u).1 c l may (begun c.instance.held allowed c.change u).0
    allowed u

-- ---- any transaction

record OwnTx (own : Bool) (x : Option UpdateAsked) (a : Option ℕ) (stage : UpdateStage) (tx : UpdateTransaction)
    : Type 0 where
  pub left : own ≡ true → (tx.takes_over ≡ false) ⊎ (a ≡ None)
  pub takes : tx.takes_over ≡ true → (a ≡ None) ⊎ IsSomeAnd x (λ y. IsStageOf y tx.stage)
  pub rests : tx.takes_over ≡ false → HasWork tx.stage → HasWork stage

left_tx : (own : Bool) (x : Option UpdateAsked) (a : Option ℕ) (stage : UpdateStage) (tx : UpdateTransaction)
    → tx.takes_over ≡ false
    → (HasWork tx.stage → HasWork stage) → OwnTx own x a stage tx
left_tx own x a stage tx e k =
    record { left = λ o. inl e; takes = λ t. absurd (clash tx.takes_over t e); rests = λ t w. k w }

request_left : (c : UpdatedCell) (own l may : Bool) (r : Request) (d p v : Digest) → own ≡ true
    → (first_instance l own may (mode_of c.instance.catalogue r) c.instance.first_poll c.instance.held c.change r d
    (settings_by r p v)).takes_over ≡ false
request_left c true l may r d p v e = refl
request_left c false l may r d p v e = no_takes _ e

update_left : (c : UpdatedCell) (own l may : Bool) (allowed : Allowed) (u : Update) → own ≡ true
    → (first_update l own may c.instance.held c.change allowed u).takes_over ≡ false
update_left c true l may allowed u e = refl
update_left c false l may allowed u e = no_takes _ e

first_own : (s : WorldState) (at : ℕ) (permit : Permit) (allowed : Allowed) (n : ℕ) (l : Bool) (x : Option UpdateAsked)
    → IfSome (first_of (normal s) at permit allowed l x)
    (OwnTx (is_owner s.owner at) x (Some n) (UpdateStage.Instance (Stage.Begin l)))
first_own s at permit allowed n l None = tt
first_own s at permit allowed n l (Some (UpdateAsked.Instance r d p v)) =
    let k = request_comes s.cell (is_owner s.owner at) l permit.begin r d p v in
    record {
      left = λ o. inl (request_left s.cell (is_owner s.owner at) l permit.begin r d p v o);
      takes = λ t. inr (k.takes t);
      rests = λ t w. k.rests t w;
    }
first_own s at permit allowed n l (Some (UpdateAsked.Update u)) =
    let k = update_comes s.cell (is_owner s.owner at) l permit.begin allowed u in
    record {
      left = λ o. inl (update_left s.cell (is_owner s.owner at) l permit.begin allowed u o);
      takes = λ t. inr (k.takes t);
      rests = λ t w. k.rests t w;
    }

take_up_held_own : (own l : Bool) (w : Option Request) (o v : Bool) (h : Held) (change : UpdateHolding)
    → OwnTx own None None (UpdateStage.Instance (Stage.Begin l)) (of_instance (take_up_held w o v h) change)
take_up_held_own own l (Some q) o v h change =
    record { left = λ o. inr refl; takes = λ t. inl refl; rests = λ t w. absurd (clash true refl t) }
take_up_held_own own l None true v h change =
    record { left = λ o. inr refl; takes = λ t. inl refl; rests = λ t w. absurd (clash true refl t) }
take_up_held_own own l None false true h change =
    record { left = λ o. inr refl; takes = λ t. inl refl; rests = λ t w. w }
take_up_held_own own l None false false h change =
    record { left = λ o. inr refl; takes = λ t. inl refl; rests = λ t w. w }

take_up_own : (own l may : Bool) (t : Option UpdateTask) (h : Held) (change : UpdateHolding)
    → OwnTx own None None (UpdateStage.Instance (Stage.Begin l)) (take_up_by t may h change)
take_up_own own l may (Some t) h change =
    record { left = λ o. inr refl; takes = λ t. inl refl; rests = λ t w. absurd (clash true refl t) }
take_up_own own l may None h change =
    take_up_held_own own l h.work (is_operating h) (h.waiting && may) h change

begin_own : (s : WorldState) (at : ℕ) (permit : Permit) (allowed : Allowed) (a : Option ℕ) (l : Bool)
    → IfSome (begin_of (normal s) at permit allowed a l)
    (OwnTx (is_owner s.owner at) (asked_by s a) a (UpdateStage.Instance (Stage.Begin l)))
begin_own s at permit allowed None l =
    take_up_own (is_owner s.owner at) l permit.give_up (task_of s.cell.change.phase) s.cell.instance.held s.cell.change
begin_own s at permit allowed (Some n) l = first_own s at permit allowed n l (slice_get s.asked n)

resume_takes : (own : Bool) (t : Option UpdateTask) (h : Held) (change : UpdateHolding) (w : Option Request)
    → (of_instance (resume_held own h w) change).takes_over ≡ false
resume_takes false t h change w = refl
resume_takes true t h change None = refl
resume_takes true t h change (Some q) = refl

resume_by_takes : (own : Bool) (t : Option UpdateTask) (h : Held) (change : UpdateHolding)
    → (resume_by t own h change).takes_over ≡ false
resume_by_takes true (Some t) h change = refl
resume_by_takes false (Some t) h change = resume_takes false (Some t) h change h.work
resume_by_takes own None h change = resume_takes own None h change h.work

end_takes_if : (b : Bool) (r : Transaction) (h : Held) (change : UpdateHolding) → r.takes_over ≡ false
    → (of_instance (if b then r else nothing_held_tx h Stage.Done) change).takes_over ≡ false
end_takes_if true r h change e = e
end_takes_if false r h change e = refl

end_takes : (a : Option ℕ) (own : Bool) (m : Option Mode) (h : Held) (change : UpdateHolding) (out : WorkOutcome)
    (x : Option Answer) (w : Option Request) → (of_instance (end_held a own m h out x w) change).takes_over ≡ false
end_takes a false m h change out x w = refl
end_takes a true m h change out None None = refl
end_takes a true m h change out (Some y) None = refl
end_takes a true m h change out x (Some q) =
    end_takes_if (can_end q.kind out) (record {
      row = (worked m h q out).0;
      takes_over = false;
      stage = after a (worked m h q out).1;
      effect = Effect.End out;
    }) h change refl

finish_own_by : (mine : Bool) (x : Option UpdateAsked) (a : Option ℕ) (ok own runs : Bool) (h : Held) (change :
    UpdateHolding)
    → OwnTx mine x a (UpdateStage.Instance (Stage.Finish ok))
    (of_instance (if own then finish_held_by runs h ok else nothing_held_tx h Stage.Done) change)
finish_own_by mine x a ok true true h change = left_tx mine x a (UpdateStage.Instance (Stage.Finish ok)) _ refl (λ w. w)
finish_own_by mine x a ok true false h change =
    left_tx mine x a (UpdateStage.Instance (Stage.Finish ok)) _ refl (λ w. w)
finish_own_by mine x a ok false runs h change =
    left_tx mine x a (UpdateStage.Instance (Stage.Finish ok)) _ refl (λ w. w)

finish_own : (mine : Bool) (x : Option UpdateAsked) (a : Option ℕ) (ok own : Bool) (h : Held) (change : UpdateHolding)
    → OwnTx mine x a (UpdateStage.Instance (Stage.Finish ok)) (finish_instance own h change ok)
finish_own mine x a ok true h change = finish_own_by mine x a ok true (is_operating h) h change
finish_own mine x a ok false h change = finish_own_by mine x a ok false true h change

update_end_takes_by : (o : Option (UpdateHolding × Answer)) (a : Option ℕ) (mode : Mode) (h : Held)
    (change : UpdateHolding) (out : UpdateOutcome) (x : Option Answer)
    → (end_by o a mode h change out x).takes_over ≡ false
update_end_takes_by None a mode h change out x = refl
update_end_takes_by (Some y) a mode h change out x = refl

update_end_takes : (a : Option ℕ) (own : Bool) (mode : Mode) (h : Held) (change : UpdateHolding) (out : UpdateOutcome)
    (x : Option Answer) → (end_update a own mode h change out x).takes_over ≡ false
update_end_takes a false mode h change out x = refl
update_end_takes a true mode h change out x = update_end_takes_by (worked_holding mode change out) a mode h change out x

update_finish_own_by : (mine : Bool) (x : Option UpdateAsked) (a : Option ℕ) (ok : Bool) (o : Option UpdateHolding) (h :
    Held)
    (change : UpdateHolding) → OwnTx mine x a (UpdateStage.Finish ok) (finish_by o h change ok)
update_finish_own_by mine x a ok None h change = left_tx mine x a (UpdateStage.Finish ok) _ refl (λ w. w)
update_finish_own_by mine x a ok (Some y) h change = left_tx mine x a (UpdateStage.Finish ok) _ refl (λ w. w)

update_finish_own : (mine : Bool) (x : Option UpdateAsked) (a : Option ℕ) (ok own : Bool) (h : Held) (change :
    UpdateHolding)
    → OwnTx mine x a (UpdateStage.Finish ok) (finish_update own h change ok)
update_finish_own mine x a ok true h change = update_finish_own_by mine x a ok (finished change ok) h change
update_finish_own mine x a ok false h change = left_tx mine x a (UpdateStage.Finish ok) _ refl (λ w. w)

own_tx : (s : WorldState) (at : ℕ) (permit : Permit) (allowed : Allowed) (a : Option ℕ) (stage : UpdateStage)
    → IfSome (transaction_of (normal s) at permit allowed a stage) (OwnTx (is_owner s.owner at) (asked_by s a) a stage)
own_tx s at permit allowed a (UpdateStage.Instance Stage.TryLock) = tt
own_tx s at permit allowed a (UpdateStage.Instance (Stage.Begin l)) = begin_own s at permit allowed a l
own_tx s at permit allowed a (UpdateStage.Instance Stage.AwaitLock) = tt
own_tx s at permit allowed a (UpdateStage.Instance (Stage.Work (Task.Pending r))) = tt
own_tx s at permit allowed a (UpdateStage.Instance (Stage.Work Task.Operation)) = tt
own_tx s at permit allowed a (UpdateStage.Instance (Stage.End out x)) =
    left_tx (is_owner s.owner at) (asked_by s a) a (UpdateStage.Instance (Stage.End out x)) _
    (end_takes a (is_owner s.owner at) (mode_of_work s.cell.instance.catalogue s.cell.instance.held.work)
    s.cell.instance.held s.cell.change out x s.cell.instance.held.work) (λ w. tt)
own_tx s at permit allowed a (UpdateStage.Instance (Stage.Finish ok)) =
    finish_own (is_owner s.owner at) (asked_by s a) a ok (is_owner s.owner at) s.cell.instance.held s.cell.change
own_tx s at permit allowed a (UpdateStage.Instance Stage.Unsure) =
    left_tx (is_owner s.owner at) (asked_by s a) a (UpdateStage.Instance Stage.Unsure) _
    (resume_by_takes (is_owner s.owner at) (task_of s.cell.change.phase) s.cell.instance.held s.cell.change) (λ w. tt)
own_tx s at permit allowed a (UpdateStage.Instance (Stage.Answer y)) = tt
own_tx s at permit allowed a (UpdateStage.Instance Stage.Done) = tt
own_tx s at permit allowed a (UpdateStage.Work (UpdateTask.Pending to)) = tt
own_tx s at permit allowed a (UpdateStage.Work (UpdateTask.Operation to)) = tt
own_tx s at permit allowed a (UpdateStage.End outcome x) =
    left_tx (is_owner s.owner at) (asked_by s a) a (UpdateStage.End outcome x) _
    (update_end_takes a (is_owner s.owner at) (mode_to s.modes (pending_to s.cell.change.phase)) s.cell.instance.held
    s.cell.change outcome x) (λ w. tt)
own_tx s at permit allowed a (UpdateStage.Finish ok) =
    update_finish_own (is_owner s.owner at) (asked_by s a) a ok (is_owner s.owner at) s.cell.instance.held s.cell.change
own_tx s at permit allowed a UpdateStage.Conflict = tt

begin_unsure : (x l : Bool) → x ≡ false
    → HasWork (UpdateStage.Instance (if x then Stage.Unsure else Stage.Begin l)) → ⊥
begin_unsure true l e w = clash true refl e
begin_unsure false l e w = w

unsure_own_some : (n : ℕ) (s : UpdateStage) (tx : UpdateTransaction) → tx.takes_over ≡ false
    → HasWork (unsure (Some n) s tx) → HasWork s
unsure_own_some n (UpdateStage.Instance Stage.TryLock) tx e w = w
unsure_own_some n (UpdateStage.Instance (Stage.Begin l)) tx e w = begin_unsure tx.takes_over l e w
unsure_own_some n (UpdateStage.Instance Stage.AwaitLock) tx e w = w
unsure_own_some n (UpdateStage.Instance (Stage.Work (Task.Pending r))) tx e w = tt
unsure_own_some n (UpdateStage.Instance (Stage.Work Task.Operation)) tx e w = w
unsure_own_some n (UpdateStage.Instance (Stage.End out x)) tx e w = tt
unsure_own_some n (UpdateStage.Instance (Stage.Finish ok)) tx e w = w
unsure_own_some n (UpdateStage.Instance Stage.Unsure) tx e w = tt
unsure_own_some n (UpdateStage.Instance (Stage.Answer y)) tx e w = w
unsure_own_some n (UpdateStage.Instance Stage.Done) tx e w = w
unsure_own_some n (UpdateStage.Work (UpdateTask.Pending to)) tx e w = tt
unsure_own_some n (UpdateStage.Work (UpdateTask.Operation to)) tx e w = w
unsure_own_some n (UpdateStage.End outcome x) tx e w = tt
unsure_own_some n (UpdateStage.Finish ok) tx e w = w
unsure_own_some n UpdateStage.Conflict tx e w = w

unsure_own : (a : Option ℕ) (s : UpdateStage) (tx : UpdateTransaction) → tx.takes_over ≡ false
    → HasWork (unsure a s tx) → HasWork s
unsure_own None s tx e w = absurd w
unsure_own (Some n) s tx e w = unsure_own_some n s tx e w

-- ---- a driver takes over

some_same : (q r : Request) → Some q ≡ Some r → q ≡ r
some_same q r e = cc

some_none : (q : Request) → Some q ≡ None → ⊥
some_none q e = cc

working_rests : (e : UpdatedCell) (r : Request) → IsUpdated e → e.instance.held.work ≡ Some r
    → is_under_way e.change.phase ≡ true → ⊥
working_rests e r h w u = some_none r (sym w ∙ rests_now e.instance.held (h.there u))

work_is_own : (x : UpdateAsked) (e : UpdatedCell) (stage : UpdateStage) → IsUpdated e → IsStageOf x stage
    → IsTask (plain_of e) stage → IsWorkOf (plain_of e) x
work_is_own (UpdateAsked.Instance r a p v) e stage h is task =
    let w = subst (IsTask (plain_of e)) is task in (
      λ q f. some_same q r (sym f ∙ w),
      idle_phase e.change.phase (never (is_under_way e.change.phase) (λ u. working_rests e r h w u)),
    )
work_is_own (UpdateAsked.Update u) e stage h is task =
    rests_now e.instance.held
    (h.there (task_busy e.change.phase (UpdateTask.Pending is.0) (subst (IsTask (plain_of e)) is.1 task)))

taken_own : (xs : List UpdateAsked) (a : Option ℕ) (e : UpdatedCell) (stage : UpdateStage) (x : Option UpdateAsked)
    → IsUpdated e → IsSomeAnd x (λ y. IsStageOf y stage) → IsTask (plain_of e) stage
    → IsSomeAnd x (IsWorkOf (plain_of e))
taken_own xs a e stage None h is task = absurd is
taken_own xs a e stage (Some x) h is task = work_is_own x e stage h is task

takes_own : (s : WorldState) (a : Option ℕ) (e : UpdatedCell) (stage : UpdateStage) → IsUpdated e
    → (a ≡ None) ⊎ IsSomeAnd (asked_by s a) (λ y. IsStageOf y stage) → IsTask (plain_of e) stage
    → IsOwnWork s.asked (plain_of e) a
takes_own s a e stage h (inl is) task = subst (IsOwnWork s.asked (plain_of e)) (sym is) tt
takes_own s None e stage h (inr is) task = absurd is
takes_own s (Some n) e stage h (inr is) task = taken_own s.asked (Some n) e stage (slice_get s.asked n) h is task

shrinks_by : (b : Bool) (c : UpdatedCell) (m : Settings → Mode) (g : List Given) (own : Bool) (a : Option ℕ)
    (stage : UpdateStage) (tx : UpdateTransaction) (e : UpdatedCell) → is_busy c ≡ b → IsGood c m g own a stage tx e
    → tx.takes_over ≡ false → Shrinks (plain_of c) (plain_of e)
shrinks_by true c m g own a stage tx e b k t =
    ⊎_elim (λ same. same_shrinks (plain_of c) (plain_of e) same) (λ z. k.ends z.0 z.1) (k.busy b)
shrinks_by false c m g own a stage tx e b k t = idle_shrinks (plain_of c) (plain_of e) (k.idle b t)

-- ---- each step

abbrev pub OwnIn : WorldState → Type 0
OwnIn s = IsOwn s.asked (plain_of s.cell) (driver_at s.drivers s.owner)

quiet_own : (s : WorldState) (at : ℕ) (d : UpdateDriver) (stage : UpdateStage) → slice_get s.drivers at ≡ Some d
    → (HasWork stage → ⊥) → OwnIn s → OwnIn (with_stage (normal s) at d.attempt stage)
quiet_own s at d stage is n o =
    own_put s.asked (plain_of s.cell) s.drivers at (at_stage d.attempt stage) d s.owner is n o

written_own : (s : WorldState) (at : ℕ) (d : UpdateDriver) (tx : UpdateTransaction) (next : UpdateStage)
    → slice_get s.drivers at ≡ Some d → IsUpdated s.cell → IsGoodOf s at d.attempt d.stage tx
    → OwnTx (is_owner s.owner at) (asked_by s d.attempt) d.attempt d.stage tx
    → (tx.takes_over ≡ false → HasWork next → HasWork d.stage) → OwnIn s
    → OwnIn (written (normal s) at d.attempt tx next)
written_own s at d tx next is h good k rests o =
    let es = events_of tx.effect (asked_by s d.attempt) in
    own_come s.asked (plain_of s.cell) (plain_of (updated_steps s.cell es)) s.drivers at d next s.owner tx.takes_over is
    (λ t w. takes_own s d.attempt (updated_steps s.cell es) tx.stage (always s.cell es h) (k.takes t) good.task)
    (λ t z w. rests t w)
    (λ t. shrinks_by (is_busy s.cell) s.cell s.modes s.given (is_owner s.owner at) d.attempt d.stage tx
    (updated_steps s.cell es) refl good t) o

left_own : (s : WorldState) (at : ℕ) (d : UpdateDriver) (next : UpdateStage) → slice_get s.drivers at ≡ Some d
    → (is_owner s.owner at ≡ true → HasWork next → HasWork d.stage) → OwnIn s
    → OwnIn (with_stage (normal s) at d.attempt next)
left_own s at d next is rests o =
    own_come s.asked (plain_of s.cell) (plain_of s.cell) s.drivers at d next s.owner false is
    (λ t w. absurd (clash false t refl)) (λ t z w. rests z w)
    (λ t. same_shrinks (plain_of s.cell) (plain_of s.cell) refl) o

lock_by_own : (s : WorldState) (at : ℕ) (d : UpdateDriver) (stage : UpdateStage) → slice_get s.drivers at ≡ Some d
    → OwnIn s
    → OwnIn (lock_by (normal s) at d.attempt stage)
lock_by_own s at d (UpdateStage.Instance Stage.TryLock) is o =
    quiet_own s at d (UpdateStage.Instance (Stage.Begin true)) is (λ w. w) o
lock_by_own s at d (UpdateStage.Instance (Stage.Begin l)) is o = o
lock_by_own s at d (UpdateStage.Instance Stage.AwaitLock) is o =
    quiet_own s at d (UpdateStage.Instance (Stage.Begin true)) is (λ w. w) o
lock_by_own s at d (UpdateStage.Instance (Stage.Work (Task.Pending r))) is o = o
lock_by_own s at d (UpdateStage.Instance (Stage.Work Task.Operation)) is o = o
lock_by_own s at d (UpdateStage.Instance (Stage.End out x)) is o = o
lock_by_own s at d (UpdateStage.Instance (Stage.Finish ok)) is o = o
lock_by_own s at d (UpdateStage.Instance Stage.Unsure) is o = o
lock_by_own s at d (UpdateStage.Instance (Stage.Answer y)) is o = o
lock_by_own s at d (UpdateStage.Instance Stage.Done) is o = o
lock_by_own s at d (UpdateStage.Work (UpdateTask.Pending to)) is o = o
lock_by_own s at d (UpdateStage.Work (UpdateTask.Operation to)) is o = o
lock_by_own s at d (UpdateStage.End outcome x) is o = o
lock_by_own s at d (UpdateStage.Finish ok) is o = o
lock_by_own s at d UpdateStage.Conflict is o = o

lock_own : (s : WorldState) (at : ℕ) (d : Option UpdateDriver) (l : Option ℕ) → slice_get s.drivers at ≡ d → OwnIn s
    → OwnIn (lock (normal s) at d l)
lock_own s at d (Some l) is o = o
lock_own s at None None is o = o
lock_own s at (Some d) None is o = lock_by_own s at d d.stage is o

missed_rests : (a : Option ℕ) → HasWork (UpdateStage.Instance (missed_at_once a)) → ⊥
missed_rests None w = w
missed_rests (Some n) w = w

miss_by_own : (s : WorldState) (at : ℕ) (d : UpdateDriver) (stage : UpdateStage) → slice_get s.drivers at ≡ Some d
    → OwnIn s
    → OwnIn (miss_by (normal s) at d.attempt stage)
miss_by_own s at d (UpdateStage.Instance Stage.TryLock) is o =
    quiet_own s at d (UpdateStage.Instance (missed_at_once d.attempt)) is (missed_rests d.attempt) o
miss_by_own s at d (UpdateStage.Instance (Stage.Begin l)) is o = o
miss_by_own s at d (UpdateStage.Instance Stage.AwaitLock) is o = o
miss_by_own s at d (UpdateStage.Instance (Stage.Work (Task.Pending r))) is o = o
miss_by_own s at d (UpdateStage.Instance (Stage.Work Task.Operation)) is o = o
miss_by_own s at d (UpdateStage.Instance (Stage.End out x)) is o = o
miss_by_own s at d (UpdateStage.Instance (Stage.Finish ok)) is o = o
miss_by_own s at d (UpdateStage.Instance Stage.Unsure) is o = o
miss_by_own s at d (UpdateStage.Instance (Stage.Answer y)) is o = o
miss_by_own s at d (UpdateStage.Instance Stage.Done) is o = o
miss_by_own s at d (UpdateStage.Work (UpdateTask.Pending to)) is o = o
miss_by_own s at d (UpdateStage.Work (UpdateTask.Operation to)) is o = o
miss_by_own s at d (UpdateStage.End outcome x) is o = o
miss_by_own s at d (UpdateStage.Finish ok) is o = o
miss_by_own s at d UpdateStage.Conflict is o = o

miss_own : (s : WorldState) (at : ℕ) (d : Option UpdateDriver) → slice_get s.drivers at ≡ d → OwnIn s
    → OwnIn (miss (normal s) at d)
miss_own s at None is o = o
miss_own s at (Some d) is o = miss_by_own s at d d.stage is o

give_up_by_own : (s : WorldState) (at : ℕ) (d : UpdateDriver) (stage : UpdateStage) → slice_get s.drivers at ≡ Some d
    → OwnIn s
    → OwnIn (give_up_by (normal s) at d.attempt stage)
give_up_by_own s at d (UpdateStage.Instance Stage.TryLock) is o =
    quiet_own s at d (UpdateStage.Instance Stage.Done) is (λ w. w) o
give_up_by_own s at d (UpdateStage.Instance (Stage.Begin l)) is o =
    quiet_own s at d (UpdateStage.Instance Stage.Done) is (λ w. w) o
give_up_by_own s at d (UpdateStage.Instance Stage.AwaitLock) is o =
    quiet_own s at d (UpdateStage.Instance Stage.Done) is (λ w. w) o
give_up_by_own s at d (UpdateStage.Instance (Stage.Work (Task.Pending r))) is o = o
give_up_by_own s at d (UpdateStage.Instance (Stage.Work Task.Operation)) is o = o
give_up_by_own s at d (UpdateStage.Instance (Stage.End out x)) is o =
    quiet_own s at d (UpdateStage.Instance Stage.Done) is (λ w. w) o
give_up_by_own s at d (UpdateStage.Instance (Stage.Finish ok)) is o =
    quiet_own s at d (UpdateStage.Instance Stage.Done) is (λ w. w) o
give_up_by_own s at d (UpdateStage.Instance Stage.Unsure) is o =
    quiet_own s at d (UpdateStage.Instance Stage.Done) is (λ w. w) o
give_up_by_own s at d (UpdateStage.Instance (Stage.Answer y)) is o =
    quiet_own s at d (UpdateStage.Instance Stage.Done) is (λ w. w) o
give_up_by_own s at d (UpdateStage.Instance Stage.Done) is o =
    quiet_own s at d (UpdateStage.Instance Stage.Done) is (λ w. w) o
give_up_by_own s at d (UpdateStage.Work (UpdateTask.Pending to)) is o = o
give_up_by_own s at d (UpdateStage.Work (UpdateTask.Operation to)) is o = o
give_up_by_own s at d (UpdateStage.End outcome x) is o =
    quiet_own s at d (UpdateStage.Instance Stage.Done) is (λ w. w) o
give_up_by_own s at d (UpdateStage.Finish ok) is o = quiet_own s at d (UpdateStage.Instance Stage.Done) is (λ w. w) o
give_up_by_own s at d UpdateStage.Conflict is o = quiet_own s at d (UpdateStage.Instance Stage.Done) is (λ w. w) o

give_up_own : (s : WorldState) (at : ℕ) (d : Option UpdateDriver) → slice_get s.drivers at ≡ d → OwnIn s
    → OwnIn (give_up (normal s) at d)
give_up_own s at None is o = o
give_up_own s at (Some d) is o = give_up_by_own s at d d.stage is o

unsure_left_own : (a : Option ℕ) (stage : UpdateStage) (tx : UpdateTransaction) → (tx.takes_over ≡ false) ⊎ (a ≡ None)
    → HasWork (unsure a stage tx) → HasWork stage
unsure_left_own a stage tx (inl e) w = unsure_own a stage tx e w
unsure_left_own a stage tx (inr e) w = absurd (subst (λ (x : Option ℕ). HasWork (unsure x stage tx)) e w)

commit_own : (commit : Commit) (s : WorldState) (at : ℕ) (d : UpdateDriver) (tx : UpdateTransaction)
    → slice_get s.drivers at ≡ Some d → IsUpdated s.cell → IsGoodOf s at d.attempt d.stage tx
    → OwnTx (is_owner s.owner at) (asked_by s d.attempt) d.attempt d.stage tx → OwnIn s
    → OwnIn (transacted commit (normal s) at d.attempt tx (unsure d.attempt d.stage tx))
commit_own Commit.Returned s at d tx is h good k o =
    written_own s at d tx tx.stage is h good k (λ t w. k.rests t w) o
commit_own Commit.Failed s at d tx is h good k o = quiet_own s at d (UpdateStage.Instance Stage.Done) is (λ w. w) o
commit_own (Commit.Unsure true) s at d tx is h good k o =
    written_own s at d tx (unsure d.attempt d.stage tx) is h good k (λ t w. unsure_own d.attempt d.stage tx t w) o
commit_own (Commit.Unsure false) s at d tx is h good k o =
    left_own s at d (unsure d.attempt d.stage tx) is (λ z w. unsure_left_own d.attempt d.stage tx (k.left z) w) o

tx_own : (commit : Commit) (s : WorldState) (at : ℕ) (d : UpdateDriver) (tx : Option UpdateTransaction)
    → slice_get s.drivers at ≡ Some d → IsUpdated s.cell → IfSome tx (IsGoodOf s at d.attempt d.stage)
    → IfSome tx (OwnTx (is_owner s.owner at) (asked_by s d.attempt) d.attempt d.stage) → OwnIn s
    → OwnIn (with_transaction (normal s) at d.attempt d.stage commit tx)
tx_own commit s at d None is h good k o = o
tx_own commit s at d (Some tx) is h good k o = commit_own commit s at d tx is h good k o

transact_own : (s : WorldState) (at : ℕ) (permit : Permit) (allowed : Allowed) (commit : Commit)
    (d : Option UpdateDriver) → slice_get s.drivers at ≡ d → IsUpdated s.cell → GoesIn s → OwnIn s
    → OwnIn (transact (normal s) at permit allowed commit d)
transact_own s at permit allowed commit None is h g o = o
transact_own s at permit allowed commit (Some d) is h g o =
    tx_own commit s at d (transaction_of (normal s) at permit allowed d.attempt d.stage) is h
    (good_of s at permit allowed d.attempt d.stage h (λ z. owner_knows s at d is g z))
    (own_tx s at permit allowed d.attempt d.stage) o

-- its work changes nothing of the row
work_own_if : (b : Bool) (s : WorldState) (t : Resource) (z : Option Settings) (e : UpdateEvent) (es : List UpdateEvent)
    → IsStep (normal s) es (if b then with_work (normal s) t z e else normal s) → OwnIn s
    → OwnIn (if b then with_work (normal s) t z e else normal s)
work_own_if true s t z e es k o =
    λ w. asked_shrunk s.asked (plain_of s.cell) (plain_of (updated_step s.cell e)) (driver_at s.drivers s.owner).attempt (
      inl (ap (λ (x : Held). x.work) (sym k.instance)),
      inl (ap (λ (x : UpdateHolding). pending_to x.phase) (sym
          k.change)),
    )
    (o w)
work_own_if false s t z e es k o = o

work_own : (s : WorldState) (t : Resource) (z : Option Settings) (stage : UpdateStage)
    → IsStep (normal s) (work_events (normal s) t z stage) (work_by (normal s) t z stage) → OwnIn s
    → OwnIn (work_by (normal s) t z stage)
work_own s t z (UpdateStage.Instance Stage.TryLock) k o = o
work_own s t z (UpdateStage.Instance (Stage.Begin l)) k o = o
work_own s t z (UpdateStage.Instance Stage.AwaitLock) k o = o
work_own s t z (UpdateStage.Instance (Stage.Work (Task.Pending r))) k o =
    work_own_if (creates_by (Some r) s.cell.instance.held.row || is_less s.cell.instance.resource t) s t z
    (UpdateEvent.Work t z) _ k o
work_own s t z (UpdateStage.Instance (Stage.Work Task.Operation)) k o =
    work_own_if (creates_by None s.cell.instance.held.row || is_less s.cell.instance.resource t) s t z
    (UpdateEvent.Work t z) _ k o
work_own s t z (UpdateStage.Instance (Stage.End out x)) k o = o
work_own s t z (UpdateStage.Instance (Stage.Finish ok)) k o = o
work_own s t z (UpdateStage.Instance Stage.Unsure) k o = o
work_own s t z (UpdateStage.Instance (Stage.Answer y)) k o = o
work_own s t z (UpdateStage.Instance Stage.Done) k o = o
work_own s t z (UpdateStage.Work (UpdateTask.Pending to)) k o =
    work_own_if true s s.cell.instance.resource z (UpdateEvent.UpdateWork z) _ k o
work_own s t z (UpdateStage.Work (UpdateTask.Operation to)) k o =
    work_own_if true s s.cell.instance.resource z (UpdateEvent.UpdateWork z) _ k o
work_own s t z (UpdateStage.End outcome x) k o = o
work_own s t z (UpdateStage.Finish ok) k o = o
work_own s t z UpdateStage.Conflict k o = o

own_if : (b : Bool) (s n : WorldState) → OwnIn n → OwnIn s → OwnIn (if b then n else s)
own_if true s n k o = k
own_if false s n k o = o

holder_own_at : (s : WorldState) (does : ℕ → Option ℕ → UpdateStage → WorldState) (at : ℕ) (y : Option UpdateDriver)
    → slice_get s.drivers at ≡ y
    → ((d : UpdateDriver) → slice_get s.drivers at ≡ Some d → OwnIn (does at d.attempt d.stage))
    → OwnIn (does at None (UpdateStage.Instance Stage.Done)) → OwnIn (does at (or_over y).attempt (or_over y).stage)
holder_own_at s does at None e some none = none
holder_own_at s does at (Some d) e some none = some d e

holder_own : (s : WorldState) (does : ℕ → Option ℕ → UpdateStage → WorldState) (x : Option ℕ)
    → ((at : ℕ) (d : UpdateDriver) → slice_get s.drivers at ≡ Some d → OwnIn (does at d.attempt d.stage))
    → ((at : ℕ) → OwnIn (does at None (UpdateStage.Instance Stage.Done))) → OwnIn s
    → OwnIn (at_holder (normal s) does x)
holder_own s does None some none o = o
holder_own s does (Some at) some none o = holder_own_at s does at (slice_get s.drivers at) refl (some at) (none at)

worked_own : (s : WorldState) (at : ℕ) (d : UpdateDriver) (k : WorkOutcome) (stage : UpdateStage)
    → slice_get s.drivers at ≡ Some d
    → d.stage ≡ stage → OwnIn s → OwnIn (worked_by (normal s) at d.attempt k stage)
worked_own s at d k (UpdateStage.Instance Stage.TryLock) is e o = o
worked_own s at d k (UpdateStage.Instance (Stage.Begin l)) is e o = o
worked_own s at d k (UpdateStage.Instance Stage.AwaitLock) is e o = o
worked_own s at d k (UpdateStage.Instance (Stage.Work (Task.Pending r))) is e o =
    own_if (may_end (Some r) (plain_of s.cell) k) (normal s) _
    (left_own s at d (UpdateStage.Instance (Stage.End k None)) is (λ z w. subst HasWork (sym e) tt) o) o
worked_own s at d k (UpdateStage.Instance (Stage.Work Task.Operation)) is e o = o
worked_own s at d k (UpdateStage.Instance (Stage.End out x)) is e o = o
worked_own s at d k (UpdateStage.Instance (Stage.Finish ok)) is e o = o
worked_own s at d k (UpdateStage.Instance Stage.Unsure) is e o = o
worked_own s at d k (UpdateStage.Instance (Stage.Answer y)) is e o = o
worked_own s at d k (UpdateStage.Instance Stage.Done) is e o = o
worked_own s at d k (UpdateStage.Work (UpdateTask.Pending to)) is e o = o
worked_own s at d k (UpdateStage.Work (UpdateTask.Operation to)) is e o = o
worked_own s at d k (UpdateStage.End outcome x) is e o = o
worked_own s at d k (UpdateStage.Finish ok) is e o = o
worked_own s at d k UpdateStage.Conflict is e o = o

finished_own : (s : WorldState) (at : ℕ) (d : UpdateDriver) (k : Bool) (stage : UpdateStage)
    → slice_get s.drivers at ≡ Some d
    → d.stage ≡ stage → OwnIn s → OwnIn (finished_by (normal s) at d.attempt k stage)
finished_own s at d k (UpdateStage.Instance Stage.TryLock) is e o = o
finished_own s at d k (UpdateStage.Instance (Stage.Begin l)) is e o = o
finished_own s at d k (UpdateStage.Instance Stage.AwaitLock) is e o = o
finished_own s at d k (UpdateStage.Instance (Stage.Work (Task.Pending r))) is e o = o
finished_own s at d k (UpdateStage.Instance (Stage.Work Task.Operation)) is e o =
    own_if (updated_applies (plain_of s.cell) (UpdateEvent.Finish k)) (normal s) _
    (quiet_own s at d (UpdateStage.Instance (Stage.Finish k)) is (λ w. w) o) o
finished_own s at d k (UpdateStage.Instance (Stage.End out x)) is e o = o
finished_own s at d k (UpdateStage.Instance (Stage.Finish ok)) is e o = o
finished_own s at d k (UpdateStage.Instance Stage.Unsure) is e o = o
finished_own s at d k (UpdateStage.Instance (Stage.Answer y)) is e o = o
finished_own s at d k (UpdateStage.Instance Stage.Done) is e o = o
finished_own s at d k (UpdateStage.Work (UpdateTask.Pending to)) is e o = o
finished_own s at d k (UpdateStage.Work (UpdateTask.Operation to)) is e o = o
finished_own s at d k (UpdateStage.End outcome x) is e o = o
finished_own s at d k (UpdateStage.Finish ok) is e o = o
finished_own s at d k UpdateStage.Conflict is e o = o

update_worked_own : (s : WorldState) (at : ℕ) (d : UpdateDriver) (k : UpdateOutcome) (stage : UpdateStage)
    → slice_get s.drivers at ≡ Some d
    → d.stage ≡ stage → OwnIn s → OwnIn (update_worked_by (normal s) at d.attempt k stage)
update_worked_own s at d k (UpdateStage.Instance Stage.TryLock) is e o = o
update_worked_own s at d k (UpdateStage.Instance (Stage.Begin l)) is e o = o
update_worked_own s at d k (UpdateStage.Instance Stage.AwaitLock) is e o = o
update_worked_own s at d k (UpdateStage.Instance (Stage.Work (Task.Pending r))) is e o = o
update_worked_own s at d k (UpdateStage.Instance (Stage.Work Task.Operation)) is e o = o
update_worked_own s at d k (UpdateStage.Instance (Stage.End out x)) is e o = o
update_worked_own s at d k (UpdateStage.Instance (Stage.Finish ok)) is e o = o
update_worked_own s at d k (UpdateStage.Instance Stage.Unsure) is e o = o
update_worked_own s at d k (UpdateStage.Instance (Stage.Answer y)) is e o = o
update_worked_own s at d k (UpdateStage.Instance Stage.Done) is e o = o
update_worked_own s at d k (UpdateStage.Work (UpdateTask.Pending to)) is e o =
    own_if (may_end_update (is_mending s.cell.change.phase) to (s.modes to) k (plain_of s.cell)) (normal s) _
    (left_own s at d (UpdateStage.End k None) is (λ z w. subst HasWork (sym e) tt) o) o
update_worked_own s at d k (UpdateStage.Work (UpdateTask.Operation to)) is e o = o
update_worked_own s at d k (UpdateStage.End outcome x) is e o = o
update_worked_own s at d k (UpdateStage.Finish ok) is e o = o
update_worked_own s at d k UpdateStage.Conflict is e o = o

update_finished_own : (s : WorldState) (at : ℕ) (d : UpdateDriver) (k : Bool) (stage : UpdateStage)
    → slice_get s.drivers at ≡ Some d
    → d.stage ≡ stage → OwnIn s → OwnIn (update_finished_by (normal s) at d.attempt k stage)
update_finished_own s at d k (UpdateStage.Instance Stage.TryLock) is e o = o
update_finished_own s at d k (UpdateStage.Instance (Stage.Begin l)) is e o = o
update_finished_own s at d k (UpdateStage.Instance Stage.AwaitLock) is e o = o
update_finished_own s at d k (UpdateStage.Instance (Stage.Work (Task.Pending r))) is e o = o
update_finished_own s at d k (UpdateStage.Instance (Stage.Work Task.Operation)) is e o = o
update_finished_own s at d k (UpdateStage.Instance (Stage.End out x)) is e o = o
update_finished_own s at d k (UpdateStage.Instance (Stage.Finish ok)) is e o = o
update_finished_own s at d k (UpdateStage.Instance Stage.Unsure) is e o = o
update_finished_own s at d k (UpdateStage.Instance (Stage.Answer y)) is e o = o
update_finished_own s at d k (UpdateStage.Instance Stage.Done) is e o = o
update_finished_own s at d k (UpdateStage.Work (UpdateTask.Pending to)) is e o = o
update_finished_own s at d k (UpdateStage.Work (UpdateTask.Operation to)) is e o =
    own_if (may_finish_to to k (plain_of s.cell)) (normal s) _
    (quiet_own s at d (UpdateStage.Finish k) is (λ w. w) o) o
update_finished_own s at d k (UpdateStage.End outcome x) is e o = o
update_finished_own s at d k (UpdateStage.Finish ok) is e o = o
update_finished_own s at d k UpdateStage.Conflict is e o = o

pub own_normal : (s : WorldState) (h : UpdateHappening) → IsUpdated s.cell → GoesIn s → OwnIn s
    → OwnIn (world_step (normal s) h)
own_normal s (UpdateHappening.Ask x) u g o =
    own_push (s.asked ++ x ∷ []) (plain_of s.cell) s.drivers
    (at_stage (Some (length s.asked)) (UpdateStage.Instance Stage.TryLock)) s.owner (λ w. w)
    (own_more s.asked (x ∷ []) (plain_of s.cell) (driver_at s.drivers s.owner) o)
own_normal s UpdateHappening.TakeUp u g o =
    own_push s.asked (plain_of s.cell) s.drivers (at_stage None (UpdateStage.Instance Stage.TryLock)) s.owner (λ w. w) o
own_normal s (UpdateHappening.GetLock at) u g o = lock_own s at (slice_get s.drivers at) s.holder refl o
own_normal s (UpdateHappening.MissLock at) u g o = miss_own s at (slice_get s.drivers at) refl o
own_normal s (UpdateHappening.Transact at permit allowed commit) u g o =
    transact_own s at permit allowed commit (slice_get s.drivers at) refl u g o
own_normal s (UpdateHappening.Work t r) u g o =
    work_own s t r (driver_at s.drivers s.holder).stage (step_normal s (UpdateHappening.Work t r) u g) o
own_normal s (UpdateHappening.Worked k) u g o =
    holder_own s (λ at a stage. worked_by (normal s) at a k stage) s.holder
    (λ at d is. worked_own s at d k d.stage is refl o) (λ at. o) o
own_normal s (UpdateHappening.Finished ok) u g o =
    holder_own s (λ at a stage. finished_by (normal s) at a ok stage) s.holder
    (λ at d is. finished_own s at d ok d.stage is refl o) (λ at. o) o
own_normal s (UpdateHappening.UpdateWorked k) u g o =
    holder_own s (λ at a stage. update_worked_by (normal s) at a k stage) s.holder
    (λ at d is. update_worked_own s at d k d.stage is refl o) (λ at. o) o
own_normal s (UpdateHappening.UpdateFinished ok) u g o =
    holder_own s (λ at a stage. update_finished_by (normal s) at a ok stage) s.holder
    (λ at d is. update_finished_own s at d ok d.stage is refl o) (λ at. o) o
own_normal s (UpdateHappening.GiveUp at) u g o = give_up_own s at (slice_get s.drivers at) refl o
own_normal s UpdateHappening.LoseLock u g o = o
own_normal s UpdateHappening.ForgetNumber u g o = λ w. absurd w
