-- What the other transactions are of `AnyPlatform`: of a take-up, of a driver that is unsure, and at the end of work.
use Rattle.std.proofs.Common.{◌≡◌, inl, inr, ℕ, Bool, true, false, refl, sym, ap, subst, ◌∙◌, List, [], ◌∷◌}
use Rattle.std.specs.Prelude.{Option, Some, None, ◌&&◌, ◌||◌, if◌then◌else◌}
use Rattle.osb_broker.specs.Answers.{mode_of}
use Rattle.osb_broker.specs.declared.row.BrokerRow.{BrokerRow}
use Rattle.osb_driver.proofs.Busy.{waiting_idle, worked_idle}
use Rattle.osb_driver.proofs.Moves.{given_last, given_more}
use Rattle.osb_driver.specs.Driver.{after, end_of, finish_by as finish_held_by, nothing as nothing_held_tx}
use Rattle.osb_driver.specs.Driver.{repeated as repeated_held, resume as resume_held, take_up_by as take_up_held}
use Rattle.osb_driver.specs.World.{IsRepeated}
use Rattle.osb_driver.specs.declared.driver.Effect.{Effect}
use Rattle.osb_driver.specs.declared.driver.Stage.{Stage}
use Rattle.osb_driver.specs.declared.driver.Task.{Task}
use Rattle.osb_driver.specs.declared.driver.Transaction.{Transaction}
use Rattle.osb_instance.specs.Begin.{can_end, finished_held, given_up, is_operating, worked}
use Rattle.osb_instance.specs.Held.{Held}
use Rattle.osb_instance.specs.declared.outcome.WorkOutcome.{WorkOutcome}
use Rattle.osb_message.specs.declared.catalogue.Mode.{Mode}
use Rattle.osb_message.specs.declared.catalogue.Mode.TheVariants.{Async, Sync}
use Rattle.osb_message.specs.declared.messages.Answer.{Answer}
use Rattle.osb_message.specs.declared.messages.Kind.{Kind}
use Rattle.osb_message.specs.declared.messages.Kind.TheVariants.{Deprovision, Poll, Provision}
use Rattle.osb_message.specs.declared.messages.Request.{Request}
use Rattle.osb_network.specs.AnyPlatform.{AnyCell, any_end, any_end_of, any_step, is_sure_end, may_end_with}
use Rattle.osb_network.specs.AnyPlatform.{may_finish, reported}
use Rattle.osb_network.specs.Truth.{is_true_finish_of, is_under_way as instance_under_way}
use Rattle.osb_network.specs.declared.any_platform.BrokerEvent.{BrokerEvent}
use Rattle.osb_network.specs.declared.event.Given.{Given}
use Rattle.osb_network.specs.declared.resource.Resource.{Resource}
use Rattle.osb_update.specs.Begun.{in_phase, is_available, is_under_way}
use Rattle.osb_update.specs.Ended.{ended, finished_by, settled_with, worked_by}
use Rattle.osb_update.specs.declared.holding.UpdateHolding.{UpdateHolding}
use Rattle.osb_update.specs.declared.phase.UpdateOutcome.{UpdateOutcome}
use Rattle.osb_update.specs.declared.phase.UpdatePhase.{UpdatePhase}
use Rattle.osb_update.specs.declared.settings.Settings.{Settings}
use Rattle.osb_update_driver.proofs.Moves.{end_work, idle_now}
use Rattle.osb_update_driver.proofs.Requests.{is_tidy}
use Rattle.osb_update_driver.proofs.Rows.{at_phase}
use Rattle.osb_update_driver.proofs.Transactions.{IsGood, nothing_good, plain_of, still_good}
use Rattle.osb_update_driver.specs.Driver.{end_by, end_instance, end_update, finish_by, finish_instance}
use Rattle.osb_update_driver.specs.Driver.{finish_update, nothing, of_instance, remembered, repeated, resume_by}
use Rattle.osb_update_driver.specs.Driver.{take_up_by, task_of, unsure}
use Rattle.osb_update_driver.specs.World.{IsAtEnd, IsAtWork, IsTask, Knows, KnowsEnd, KnowsUpdateEnd, events_of}
use Rattle.osb_update_driver.specs.World.{is_busy, mode_to, told_in}
use Rattle.osb_update_driver.specs.declared.driver.UpdateAsked.{UpdateAsked}
use Rattle.osb_update_driver.specs.declared.driver.UpdateEffect.{UpdateEffect}
use Rattle.osb_update_driver.specs.declared.driver.UpdateStage.{UpdateStage}
use Rattle.osb_update_driver.specs.declared.driver.UpdateTask.{UpdateTask}
use Rattle.osb_update_driver.specs.declared.driver.UpdateTransaction.{UpdateTransaction}
use Rattle.osb_update_network.proofs.Available.{and_both, clash}
use Rattle.osb_update_network.specs.AnyPlatform.{UpdatedCell, end_by as end_cell_by, ended_with, finished_to}
use Rattle.osb_update_network.specs.AnyPlatform.{is_right, may_end, may_end_update, may_finish_in, mode_of_work}
use Rattle.osb_update_network.specs.AnyPlatform.{pending_to, update_end_of, updated_step, updated_steps}
use Rattle.osb_update_network.specs.AnyPlatform.{with_change_after}
use Rattle.osb_update_network.specs.Promises.{IsUpdated}
use Rattle.osb_update_network.specs.Reported.{by_answer}
use Rattle.osb_update_network.specs.declared.event.UpdateEvent.{UpdateEvent}
use Rattle.osb_update_network.specs.declared.reported.Reported.{Reported}

-- ---- a take-up

abbrev with_any : UpdatedCell → AnyCell → UpdatedCell
with_any c i = record {
  instance = i;
  change = c.change;
  settings = c.settings;
  before = c.before;
  reported = c.reported;
}

abbrev with_ended : UpdatedCell → AnyCell → Reported → UpdatedCell
with_ended c i reported = record {
  instance = i;
  change = c.change;
  settings = c.settings;
  before = c.before;
  reported = reported;
}

both_not : (x y : Bool) → (x ≡ true → ⊥) → y ≡ false → (x || y) ≡ true → ⊥
both_not true y n f b = n refl
both_not false y n f b = clash y b f

pub task_busy : (p : UpdatePhase) (t : UpdateTask) → task_of p ≡ Some t → is_under_way p ≡ true
task_busy UpdatePhase.Settled t e = cc
task_busy UpdatePhase.Failed t e = cc
task_busy (UpdatePhase.Pending to) t e = refl
task_busy (UpdatePhase.Updating to) t e = refl
task_busy (UpdatePhase.Mending to) t e = refl

no_task : (p : UpdatePhase) → task_of p ≡ None → is_under_way p ≡ false
no_task UpdatePhase.Settled e = refl
no_task UpdatePhase.Failed e = refl
no_task (UpdatePhase.Pending to) e = cc
no_task (UpdatePhase.Updating to) e = cc
no_task (UpdatePhase.Mending to) e = cc

taken_good : (c : UpdatedCell) (m : Settings → Mode) (g : List Given) (own : Bool) (a : Option ℕ) (l : Bool)
    (tx : UpdateTransaction) → tx.instance ≡ c.instance.held → tx.change ≡ c.change → IsTask (plain_of c) tx.stage
    → IsAtWork tx.stage → tx.takes_over ≡ true
    → IsGood c m g own a (UpdateStage.Instance (Stage.Begin l)) tx c
taken_good c m g own a l tx i h task works takes = record {
  instance = i;
  change = h;
  resource = refl;
  has = refl;
  quiet = λ e. end_work tx.stage e works;
  task = task;
  works = λ w. inr takes;
  begins = λ t e. e;
  busy = λ b. inl refl;
  idle = λ b t. idle_now (plain_of c) b;
  ends = λ o e. absurd e;
  again = λ o e. absurd e;
  before = λ o e. absurd e;
}

given_plain : (c : UpdatedCell) → c.instance.held.waiting ≡ true
    → updated_step c UpdateEvent.GiveUpWaiting
    ≡ record {
      instance = record {
        catalogue = c.instance.catalogue;
        first_poll = c.instance.first_poll;
        held = given_up c.instance.held;
        resource = c.instance.resource;
        told = c.instance.told;
      };
      change = c.change;
      settings = c.settings;
      before = c.before;
      reported = c.reported;
    }
given_plain c e =
    ap (λ (x : Bool). with_any c (if x then record c.instance { held = given_up c.instance.held } else c.instance)) e

waiting_not : (c : UpdatedCell) → IsUpdated c → c.instance.held.waiting ≡ true → is_under_way c.change.phase ≡ false
    → is_busy c ≡ true → ⊥
waiting_not c h w p b =
    both_not (instance_under_way c.instance.held) (is_under_way c.change.phase)
    (λ on. clash false (waiting_idle c.instance.held (is_tidy c.instance h.alone) w on) refl) p b

take_up_instance : (c : UpdatedCell) (m : Settings → Mode) (g : List Given) (own : Bool) (a : Option ℕ) (l : Bool)
    (asked : Option UpdateAsked) (w : Option Request) (o v : Bool) → IsUpdated c → c.instance.held.work ≡ w
    → is_operating c.instance.held ≡ o → (v ≡ true → c.instance.held.waiting ≡ true)
    → is_under_way c.change.phase ≡ false
    → IsGood c m g own a (UpdateStage.Instance (Stage.Begin l))
    (of_instance (take_up_held w o v c.instance.held) c.change)
    (updated_steps c (events_of (of_instance (take_up_held w o v c.instance.held) c.change).effect asked))
take_up_instance c m g own a l asked (Some q) o v h e f wait p =
    taken_good c m g own a l _ refl refl e tt refl
take_up_instance c m g own a l asked None true v h e f wait p =
    taken_good c m g own a l _ refl refl (e, f) tt refl
take_up_instance c m g own a l asked None false true h e f wait p =
    let is = given_plain c (wait refl) in
    subst (λ (x : UpdatedCell). IsGood c m g own a (UpdateStage.Instance (Stage.Begin l))
    (of_instance (take_up_held None false true c.instance.held) c.change) x) (sym is)
    (record {
      instance = refl;
      change = refl;
      resource = refl;
      has = refl;
      quiet = λ z. z;
      task = tt;
      works = λ z. absurd z;
      begins = λ t z. z;
      busy = λ b. absurd (waiting_not c h (wait refl) p b);
      idle = λ b t. (e, (idle_now c b).1);
      ends = λ z k. absurd k;
      again = λ z k. absurd k;
      before = λ z k. absurd k;
    })
take_up_instance c m g own a l asked None false false h e f wait p =
    still_good c c m g own a l _ refl refl refl tt refl

and_first : (x y : Bool) → (x && y) ≡ true → x ≡ true
and_first true y e = refl
and_first false y e = cc

pub take_up_good : (c : UpdatedCell) (m : Settings → Mode) (g : List Given) (own : Bool) (a : Option ℕ) (l may : Bool)
    (asked : Option UpdateAsked) (t : Option UpdateTask) → IsUpdated c → task_of c.change.phase ≡ t
    → IsGood c m g own a (UpdateStage.Instance (Stage.Begin l)) (take_up_by t may c.instance.held c.change)
    (updated_steps c (events_of (take_up_by t may c.instance.held c.change).effect asked))
take_up_good c m g own a l may asked (Some t) h e = taken_good c m g own a l _ refl refl e tt refl
take_up_good c m g own a l may asked None h e =
    take_up_instance c m g own a l asked c.instance.held.work (is_operating c.instance.held)
    (c.instance.held.waiting && may) h refl refl (λ z. and_first c.instance.held.waiting may z)
    (no_task c.change.phase e)

-- ---- a driver that doesn't know whether its first transaction was committed

unsure_good : (c : UpdatedCell) (m : Settings → Mode) (g : List Given) (own : Bool) (a : Option ℕ) (next : UpdateStage)
    → (IsAtEnd next → ⊥) → IsTask (plain_of c) next → (IsAtWork next → own ≡ true)
    → IsGood c m g own a (UpdateStage.Instance Stage.Unsure) (nothing c.instance.held c.change next) c
unsure_good c m g own a next quiet task works =
    nothing_good c m g own a (UpdateStage.Instance Stage.Unsure) next (λ o e. e) quiet task works

resume_instance : (c : UpdatedCell) (m : Settings → Mode) (g : List Given) (a : Option ℕ) (asked : Option UpdateAsked)
    (own : Bool) (w : Option Request) → c.instance.held.work ≡ w
    → IsGood c m g own a (UpdateStage.Instance Stage.Unsure) (of_instance (resume_held own c.instance.held w) c.change)
    (updated_steps c (events_of (of_instance (resume_held own c.instance.held w) c.change).effect asked))
resume_instance c m g a asked false w e =
    unsure_good c m g false a (UpdateStage.Instance (Stage.Begin true)) (λ z. z) tt (λ z. absurd z)
resume_instance c m g a asked true None e =
    unsure_good c m g true a (UpdateStage.Instance Stage.Done) (λ z. z) tt (λ z. absurd z)
resume_instance c m g a asked true (Some q) e =
    unsure_good c m g true a (UpdateStage.Instance (Stage.Work (Task.Pending q))) (λ z. z) e (λ z. refl)

pub resume_good : (c : UpdatedCell) (m : Settings → Mode) (g : List Given) (a : Option ℕ) (asked : Option UpdateAsked)
    (own : Bool) (t : Option UpdateTask) → task_of c.change.phase ≡ t
    → IsGood c m g own a (UpdateStage.Instance Stage.Unsure) (resume_by t own c.instance.held c.change)
    (updated_steps c (events_of (resume_by t own c.instance.held c.change).effect asked))
resume_good c m g a asked true (Some t) e =
    unsure_good c m g true a (UpdateStage.Work t) (λ z. z) e (λ z. refl)
resume_good c m g a asked false (Some t) e = resume_instance c m g a asked false c.instance.held.work refl
resume_good c m g a asked own None e = resume_instance c m g a asked own c.instance.held.work refl

-- ---- the last transaction of the pending work of the instance

after_quiet : (n : Option ℕ) (y : Answer) → IsAtEnd (UpdateStage.Instance (after n y)) → ⊥
after_quiet None y e = e
after_quiet (Some n) y e = e

after_task : (c : UpdatedCell) (n : Option ℕ) (y : Answer) → IsTask c (UpdateStage.Instance (after n y))
after_task c None y = tt
after_task c (Some n) y = tt

after_rests : (n : Option ℕ) (y : Answer) → IsAtWork (UpdateStage.Instance (after n y)) → ⊥
after_rests None y w = w
after_rests (Some n) y w = w

-- an earlier try was committed
repeated_again : (c : UpdatedCell) (m : Settings → Mode) (g : List Given) (a : Option ℕ) (out : WorkOutcome)
    (x : Option Answer) → c.instance.held.work ≡ None → IsRepeated g a x
    → IsGood c m g true a (UpdateStage.Instance (Stage.End out x))
    (nothing c.instance.held c.change (UpdateStage.Instance (repeated x))) c
repeated_again c m g None out x e k = absurd k
repeated_again c m g (Some n) out None e k = absurd k
repeated_again c m g (Some n) out (Some y) e k = record {
  instance = refl;
  change = refl;
  resource = refl;
  has = refl;
  quiet = λ z. z;
  task = tt;
  works = λ z. absurd z;
  begins = λ t z. absurd (clash false t refl);
  busy = λ b. inl refl;
  idle = λ b t. idle_now (plain_of c) b;
  ends = λ o z. (inl refl, inl refl);
  again = λ o z. subst (KnowsEnd (plain_of c) (told_in g (Some n) (UpdateStage.Instance (Stage.Answer y))) (Some n) out
      (Some y)) (sym e) (given_more g (record { attempt = n; answer = y } ∷ []) n y k);
  before = λ o z. subst (KnowsEnd (plain_of c) g (Some n) out (Some y)) (sym e) k;
}

no_work_end : (c : UpdatedCell) (m : Settings → Mode) (g : List Given) (a : Option ℕ) (out : WorkOutcome)
    (x : Option Answer) (asked : Option UpdateAsked) → c.instance.held.work ≡ None → IsRepeated g a x
    → IsGood c m g true a (UpdateStage.Instance (Stage.End out x))
    (of_instance (repeated_held c.instance.held x) c.change)
    (updated_steps c (events_of (of_instance (repeated_held c.instance.held x) c.change).effect asked))
no_work_end c m g a out None asked e k = repeated_again c m g a out None e k
no_work_end c m g a out (Some y) asked e k = repeated_again c m g a out (Some y) e k

sure_can_end : (m : Option Mode) (b : Option BrokerRow) (k : Kind) (out : WorkOutcome) (t : Resource)
    → is_sure_end m b k out t ≡ true → can_end k out ≡ true
sure_can_end m b Provision out t e = refl
sure_can_end m b Poll (WorkOutcome.Refused x) t e = cc
sure_can_end m b Poll WorkOutcome.Done t e = refl
sure_can_end m b Poll WorkOutcome.Before t e = refl
sure_can_end m b Poll WorkOutcome.After t e = refl
sure_can_end m b Deprovision (WorkOutcome.Refused x) t e = cc
sure_can_end m b Deprovision WorkOutcome.Done t e = refl
sure_can_end m b Deprovision WorkOutcome.Before t e = refl
sure_can_end m b Deprovision WorkOutcome.After t e = refl

right_plain : (x : Bool) (k : Kind) (c : UpdatedCell) → is_right x k (plain_of c) ≡ is_right x k c
right_plain false k c = refl
right_plain true Provision c = refl
right_plain true Poll c = refl
right_plain true Deprovision c = refl

two_true : (x y : Bool) → x ≡ true → y ≡ true → (x && y) ≡ true
two_true true y e f = f
two_true false y e f = cc

-- the cell once the work of this request has ended
abbrev ended_cell : UpdatedCell → Request → WorkOutcome → Reported → UpdatedCell
ended_cell c q out reported = record {
  instance = any_end_of c.instance q out;
  change = c.change;
  settings = c.settings;
  before = c.before;
  reported = reported;
}

abbrev worked_now : UpdatedCell → Request → WorkOutcome → Held × Answer
worked_now c q out = worked (mode_of c.instance.catalogue q) c.instance.held q out

abbrev said : UpdatedCell → Request → WorkOutcome → Reported
said c q out =
    by_answer q.kind c.instance.told.leaving (worked_now c q out).1 c.change.settings c.reported

end_is : (c : UpdatedCell) (q : Request) (out : WorkOutcome) → c.instance.held.work ≡ Some q
    → is_right (is_available (worked_now c q out).0) q.kind c ≡ true
    → is_sure_end (mode_of c.instance.catalogue q) c.instance.held.row q.kind out c.instance.resource ≡ true
    → updated_step c (UpdateEvent.End out) ≡ ended_cell c q out (said c q out)
end_is c q out e right sure =
    let applies = two_true (is_right (is_available (worked_now c q out).0) q.kind c)
    (may_end_with c.instance c.instance.held.work out) right
    (subst (λ (w : Option Request). may_end_with c.instance w out ≡ true) (sym e) sure) in
    ap (λ (w : Option Request). end_cell_by w c out) e
    ∙ (ap (λ (b : Bool). if b then ended_with (worked_now c q out).1 q.kind c out else c) applies
    ∙ (ap (λ (w : Option Request). with_ended c (any_end c.instance w out) (said c q out)) e
    ∙ ap (λ (b : Bool). with_ended c (if b then any_end_of c.instance q out else c.instance) (said c q out)) sure))

ended_again : (c d : UpdatedCell) (m : Settings → Mode) (g : List Given) (a : Option ℕ) (out : WorkOutcome)
    (x : Option Answer) (tx : UpdateTransaction) (y : Answer) → tx.stage ≡ UpdateStage.Instance (after a y)
    → d.instance.held.work ≡ None
    → Knows d m (told_in g a tx.stage) a (unsure a (UpdateStage.Instance (Stage.End out x)) tx)
ended_again c d m g None out x tx y is e = tt
ended_again c d m g (Some n) out x tx y is e =
    subst (λ (s : UpdateStage). KnowsEnd d (told_in g (Some n) s) (Some n) out (remembered s x) d.instance.held.work)
    (sym is)
    (subst (KnowsEnd d (told_in g (Some n) (UpdateStage.Instance (Stage.Answer y))) (Some n) out (Some y)) (sym e)
    (given_last g n y))

before_again : (c : UpdatedCell) (m : Settings → Mode) (g : List Given) (a : Option ℕ) (out : WorkOutcome)
    (x : Option Answer) (tx : UpdateTransaction) (q : Request) → c.instance.held.work ≡ Some q
    → may_end (Some q) c out ≡ true → Knows c m g a (unsure a (UpdateStage.Instance (Stage.End out x)) tx)
before_again c m g None out x tx q e k = tt
before_again c m g (Some n) out x tx q e k =
    subst (KnowsEnd c g (Some n) out (remembered tx.stage x)) (sym e) k

abbrev pub ending : UpdatedCell → Option ℕ → Request → WorkOutcome → Transaction
ending c a q out = record {
  row = (worked_now c q out).0;
  takes_over = false;
  stage = after a (worked_now c q out).1;
  effect = Effect.End out;
}

ending_good : (c : UpdatedCell) (m : Settings → Mode) (g : List Given) (a : Option ℕ) (out : WorkOutcome)
    (x : Option Answer) (q : Request) (said : Reported) → c.instance.held.work ≡ Some q
    → may_end (Some q) (plain_of c) out ≡ true
    → IsGood c m g true a (UpdateStage.Instance (Stage.End out x)) (of_instance (ending c a q out) c.change)
    (ended_cell c q out said)
ending_good c m g a out x q said e k = record {
  instance = refl;
  change = refl;
  resource = refl;
  has = refl;
  quiet = after_quiet a (worked_now c q out).1;
  task = after_task (plain_of (ended_cell c q out said)) a (worked_now c q out).1;
  works = λ w. absurd (after_rests a (worked_now c q out).1 w);
  begins = λ t z. absurd (clash false t refl);
  busy = λ b. inr (refl, tt);
  idle = λ b t. (
    worked_idle (mode_of c.instance.catalogue q) c.instance.held q out,
    (idle_now (plain_of c) b).1,
  );
  ends = λ o z. (
    inr (worked_idle (mode_of c.instance.catalogue q) c.instance.held q out),
    inl refl,
  );
  again = λ o z. ended_again c (plain_of (ended_cell c q out said)) m g a out x (of_instance (ending c a q out)
      c.change)
      (worked_now c q out).1 refl (worked_idle (mode_of c.instance.catalogue q) c.instance.held q out);
  before = λ o z. before_again (plain_of c) m g a out x (of_instance (ending c a q out) c.change) q e k;
}

work_end : (c : UpdatedCell) (m : Settings → Mode) (g : List Given) (a : Option ℕ) (out : WorkOutcome)
    (x : Option Answer) (asked : Option UpdateAsked) (q : Request) → c.instance.held.work ≡ Some q
    → may_end (Some q) (plain_of c) out ≡ true
    → IsGood c m g true a (UpdateStage.Instance (Stage.End out x))
    (of_instance (end_of a (mode_of c.instance.catalogue q) c.instance.held out x (Some q)) c.change)
    (updated_steps c (events_of
    (of_instance (end_of a (mode_of c.instance.catalogue q) c.instance.held out x (Some q)) c.change).effect asked))
work_end c m g a out x asked q e k =
    let both = and_both (is_right (is_available (worked_now c q out).0) q.kind (plain_of c))
    (may_end_with (plain_of c).instance c.instance.held.work out) k in
    let sure = subst (λ (w : Option Request). may_end_with (plain_of c).instance w out ≡ true) e both.1 in
    let right = sym (right_plain (is_available (worked_now c q out).0) q.kind c) ∙ both.0 in
    let can = sure_can_end (mode_of c.instance.catalogue q) c.instance.held.row q.kind out c.instance.resource sure in
    subst (λ (b : Bool). IsGood c m g true a (UpdateStage.Instance (Stage.End out x))
    (of_instance (if b then ending c a q out else nothing_held_tx c.instance.held Stage.Done) c.change)
    (updated_steps c (events_of
    (of_instance (if b then ending c a q out else nothing_held_tx c.instance.held Stage.Done) c.change).effect asked)))
    (sym can)
    (subst (λ (d : UpdatedCell). IsGood c m g true a (UpdateStage.Instance (Stage.End out x))
    (of_instance (ending c a q out) c.change) d) (sym (end_is c q out e right sure))
    (ending_good c m g a out x q (said c q out) e k))

end_by_work : (c : UpdatedCell) (m : Settings → Mode) (g : List Given) (a : Option ℕ) (out : WorkOutcome)
    (x : Option Answer) (asked : Option UpdateAsked) (w : Option Request) → c.instance.held.work ≡ w
    → KnowsEnd (plain_of c) g a out x w
    → IsGood c m g true a (UpdateStage.Instance (Stage.End out x))
    (of_instance (end_of a (mode_of_work c.instance.catalogue w) c.instance.held out x w) c.change)
    (updated_steps c (events_of
    (of_instance (end_of a (mode_of_work c.instance.catalogue w) c.instance.held out x w) c.change).effect asked))
end_by_work c m g a out x asked None e k = no_work_end c m g a out x asked e k
end_by_work c m g a out x asked (Some q) e k = work_end c m g a out x asked q e k

-- a driver of another number does nothing
not_own : (c : UpdatedCell) (m : Settings → Mode) (g : List Given) (a : Option ℕ) (stage : UpdateStage)
    → IsGood c m g false a stage (nothing c.instance.held c.change (UpdateStage.Instance Stage.Done)) c
not_own c m g a stage =
    nothing_good c m g false a stage (UpdateStage.Instance Stage.Done) (λ o e. clash false o refl) (λ z. z) tt
    (λ w. absurd w)

pub end_good : (c : UpdatedCell) (m : Settings
    → Mode) (g : List Given) (a : Option ℕ) (out : WorkOutcome) (x : Option Answer)
    (asked : Option UpdateAsked) (own : Bool)
    → (own ≡ true → Knows (plain_of c) m g a (UpdateStage.Instance (Stage.End out x)))
    → IsGood c m g own a (UpdateStage.Instance (Stage.End out x))
    (end_instance a own (mode_of_work c.instance.catalogue c.instance.held.work) c.instance.held c.change out x)
    (updated_steps c (events_of
    (end_instance a own (mode_of_work c.instance.catalogue c.instance.held.work) c.instance.held c.change out x).effect
    asked))
end_good c m g a out x asked false k = not_own c m g a (UpdateStage.Instance (Stage.End out x))
end_good c m g a out x asked true k = end_by_work c m g a out x asked c.instance.held.work refl (k refl)

-- ---- the last transaction of its operation

unsure_finish : (a : Option ℕ) (ok : Bool) (tx : UpdateTransaction) (c : UpdatedCell) (m : Settings → Mode)
    (g : List Given) → Knows c m g a (unsure a (UpdateStage.Instance (Stage.Finish ok)) tx)
unsure_finish None ok tx c m g = tt
unsure_finish (Some n) ok tx c m g = tt

abbrev finished_cell : UpdatedCell → Bool → UpdatedCell
finished_cell c ok = record {
  instance = record {
    catalogue = c.instance.catalogue;
    first_poll = c.instance.first_poll;
    held = finished_held c.instance.held ok;
    resource = c.instance.resource;
    told = c.instance.told;
  };
  change = c.change;
  settings = c.settings;
  before = c.before;
  reported = c.reported;
}

finish_is : (c : UpdatedCell) (ok : Bool)
    → is_right (is_available (finished_held c.instance.held ok)) Provision c ≡ true → may_finish c.instance ok ≡ true
    → updated_step c (UpdateEvent.Finish ok) ≡ finished_cell c ok
finish_is c ok right may =
    ap (λ (b : Bool). if b then with_any c (any_step c.instance (BrokerEvent.Finish ok)) else c)
    (two_true (is_right (is_available (finished_held c.instance.held ok)) Provision c) (may_finish c.instance ok) right
    may)
    ∙ ap (λ (b : Bool). with_any c
    (if b then record c.instance { held = finished_held c.instance.held ok } else c.instance)) may

finishing_good : (c : UpdatedCell) (m : Settings → Mode) (g : List Given) (a : Option ℕ) (ok : Bool)
    → IsGood c m g true a (UpdateStage.Instance (Stage.Finish ok))
    (of_instance (finish_held_by true c.instance.held ok) c.change) (finished_cell c ok)
finishing_good c m g a ok = record {
  instance = refl;
  change = refl;
  resource = refl;
  has = refl;
  quiet = λ z. z;
  task = tt;
  works = λ w. absurd w;
  begins = λ t z. absurd (clash false t refl);
  busy = λ b. inr (refl, tt);
  idle = λ b t. idle_now (plain_of c) b;
  ends = λ o z. (inl refl, inl refl);
  again = λ o z. unsure_finish a ok (of_instance (finish_held_by true c.instance.held ok) c.change)
      (plain_of (finished_cell c ok)) m (told_in g a (UpdateStage.Instance Stage.Done));
  before = λ o z. unsure_finish a ok (of_instance (finish_held_by true c.instance.held ok) c.change) (plain_of c) m g;
}

pub finish_good : (c : UpdatedCell) (m : Settings → Mode) (g : List Given) (a : Option ℕ) (ok : Bool)
    (asked : Option UpdateAsked) (own : Bool)
    → (own ≡ true → Knows (plain_of c) m g a (UpdateStage.Instance (Stage.Finish ok)))
    → IsGood c m g own a (UpdateStage.Instance (Stage.Finish ok)) (finish_instance own c.instance.held c.change ok)
    (updated_steps c (events_of (finish_instance own c.instance.held c.change ok).effect asked))
finish_good c m g a ok asked false k = not_own c m g a (UpdateStage.Instance (Stage.Finish ok))
finish_good c m g a ok asked true k =
    let both = and_both (is_right (is_available (finished_held c.instance.held ok)) Provision (plain_of c))
    (may_finish (plain_of c).instance ok) (k refl) in
    let right = sym (right_plain (is_available (finished_held c.instance.held ok)) Provision c) ∙ both.0 in
    let runs = (and_both (is_operating c.instance.held)
    (is_true_finish_of c.instance.held.row ok c.instance.resource) both.1).0 in
    subst (λ (b : Bool). IsGood c m g true a (UpdateStage.Instance (Stage.Finish ok))
    (of_instance (finish_held_by b c.instance.held ok) c.change)
    (updated_steps c (events_of (of_instance (finish_held_by b c.instance.held ok) c.change).effect asked))) (sym runs)
    (subst (λ (d : UpdatedCell). IsGood c m g true a (UpdateStage.Instance (Stage.Finish ok))
    (of_instance (finish_held_by true c.instance.held ok) c.change) d) (sym (finish_is c ok right both.1))
    (finishing_good c m g a ok))

-- ---- the last transaction of the pending work of an update

repeated_update : (c : UpdatedCell) (m : Settings → Mode) (g : List Given) (a : Option ℕ) (out : UpdateOutcome)
    (x : Option Answer) → pending_to c.change.phase ≡ None → IsRepeated g a x
    → IsGood c m g true a (UpdateStage.End out x)
    (nothing c.instance.held c.change (UpdateStage.Instance (repeated x))) c
repeated_update c m g None out x e k = absurd k
repeated_update c m g (Some n) out None e k = absurd k
repeated_update c m g (Some n) out (Some y) e k = record {
  instance = refl;
  change = refl;
  resource = refl;
  has = refl;
  quiet = λ z. z;
  task = tt;
  works = λ z. absurd z;
  begins = λ t z. absurd (clash false t refl);
  busy = λ b. inl refl;
  idle = λ b t. idle_now (plain_of c) b;
  ends = λ o z. (inl refl, inl refl);
  again = λ o z. subst (KnowsUpdateEnd (plain_of c) m (told_in g (Some n) (UpdateStage.Instance (Stage.Answer y))) (Some
      n)
      out (Some y)) (sym e) (given_more g (record { attempt = n; answer = y } ∷ []) n y k);
  before = λ o z. subst (KnowsUpdateEnd (plain_of c) m g (Some n) out (Some y)) (sym e) k;
}

ended_idle : (mode : Mode) (h : UpdateHolding) (out : UpdateOutcome) (to : Settings) (failed : Bool)
    → pending_to (ended mode h out to failed).0.phase ≡ None
ended_idle Sync h UpdateOutcome.Done to failed = refl
ended_idle Async h UpdateOutcome.Done to failed = refl
ended_idle Sync h UpdateOutcome.After to failed = refl
ended_idle Async h UpdateOutcome.After to failed = refl
ended_idle mode h UpdateOutcome.Before to true = refl
ended_idle mode h UpdateOutcome.Before to false = refl
ended_idle mode h UpdateOutcome.Failed to failed = refl
ended_idle mode h (UpdateOutcome.Refused r) to true = refl
ended_idle mode h (UpdateOutcome.Refused r) to false = refl

update_again : (d : UpdatedCell) (m : Settings → Mode) (g : List Given) (a : Option ℕ) (out : UpdateOutcome)
    (x : Option Answer) (tx : UpdateTransaction) (y : Answer) → tx.stage ≡ UpdateStage.Instance (after a y)
    → pending_to d.change.phase ≡ None
    → Knows d m (told_in g a tx.stage) a (unsure a (UpdateStage.End out x) tx)
update_again d m g None out x tx y is e = tt
update_again d m g (Some n) out x tx y is e =
    subst (λ (s : UpdateStage). KnowsUpdateEnd d m (told_in g (Some n) s) (Some n) out (remembered s x)
    (pending_to d.change.phase)) (sym is)
    (subst (KnowsUpdateEnd d m (told_in g (Some n) (UpdateStage.Instance (Stage.Answer y))) (Some n) out (Some y)) (sym
    e)
    (given_last g n y))

update_before : (c : UpdatedCell) (m : Settings → Mode) (g : List Given) (a : Option ℕ) (out : UpdateOutcome)
    (x : Option Answer) (tx : UpdateTransaction) (w : Settings × Bool) → pending_to c.change.phase ≡ Some w
    → may_end_update w.1 w.0 (m w.0) out c ≡ true → Knows c m g a (unsure a (UpdateStage.End out x) tx)
update_before c m g None out x tx w e k = tt
update_before c m g (Some n) out x tx w e k =
    subst (KnowsUpdateEnd c m g (Some n) out (remembered tx.stage x)) (sym e) k

abbrev update_ending : UpdatedCell → Option ℕ → Mode → UpdateOutcome → Settings → Bool → UpdateTransaction
update_ending c a mode out to failed = record {
  instance = c.instance.held;
  change = (ended mode c.change out to failed).0;
  takes_over = false;
  stage = UpdateStage.Instance (after a (ended mode c.change out to failed).1);
  effect = UpdateEffect.End mode out;
}

update_ending_good : (c : UpdatedCell) (m : Settings → Mode) (g : List Given) (a : Option ℕ) (out : UpdateOutcome)
    (x : Option Answer) (to : Settings) (failed : Bool) → pending_to c.change.phase ≡ Some (to, failed)
    → may_end_update failed to (m to) out c ≡ true
    → IsGood c m g true a (UpdateStage.End out x) (update_ending c a (m to) out to failed)
    (if may_end_update failed to (m to) out c then update_end_of failed to (m to) out c else c)
update_ending_good c m g a out x to failed e k =
    subst (λ (b : Bool). IsGood c m g true a (UpdateStage.End out x) (update_ending c a (m to) out to failed)
    (if b then update_end_of failed to (m to) out c else c)) (sym k)
    (record {
      instance = refl;
      change = refl;
      resource = refl;
      has = refl;
      quiet = after_quiet a (ended (m to) c.change out to failed).1;
      task = after_task (plain_of (update_end_of failed to (m to) out c)) a (ended (m to) c.change out to failed).1;
      works = λ w. absurd (after_rests a (ended (m to) c.change out to failed).1 w);
      begins = λ t z. absurd (clash false t refl);
      busy = λ b. inr (refl, tt);
      idle = λ b t. ((idle_now (plain_of c) b).0, ended_idle (m to) c.change out to failed);
      ends = λ o z. (inl refl, inr (ended_idle (m to) c.change out to failed));
      again = λ o z. update_again (plain_of (update_end_of failed to (m to) out c)) m g a out x
          (update_ending c a (m to) out to failed) (ended (m to) c.change out to failed).1 refl
          (ended_idle (m to) c.change out to failed);
      before = λ o z. update_before (plain_of c) m g a out x (update_ending c a (m to) out to failed) (to, failed) e k;
    })

abbrev UpdateEnds : UpdatedCell → (Settings → Mode) → List Given → Option ℕ → UpdateOutcome → Option Answer
    → Option UpdateAsked → Type 0
UpdateEnds c m g a out x asked =
    KnowsUpdateEnd (plain_of c) m g a out x (pending_to c.change.phase)
    → IsGood c m g true a (UpdateStage.End out x)
    (end_by (worked_by c.change.phase (mode_to m (pending_to c.change.phase)) c.change out) a
    (mode_to m (pending_to c.change.phase)) c.instance.held c.change out x)
    (updated_steps c (events_of
    (end_by (worked_by c.change.phase (mode_to m (pending_to c.change.phase)) c.change out) a
    (mode_to m (pending_to c.change.phase)) c.instance.held c.change out x).effect asked))

update_ends : (p : UpdatePhase) (c : UpdatedCell) (m : Settings → Mode) (g : List Given) (a : Option ℕ)
    (out : UpdateOutcome) (x : Option Answer) (asked : Option UpdateAsked) → UpdateEnds (at_phase c p) m g a out x asked
update_ends UpdatePhase.Settled c m g a out x asked k =
    repeated_update (at_phase c UpdatePhase.Settled) m g a out x refl k
update_ends UpdatePhase.Failed c m g a out x asked k =
    repeated_update (at_phase c UpdatePhase.Failed) m g a out x refl k
update_ends (UpdatePhase.Updating to) c m g a out x asked k =
    repeated_update (at_phase c (UpdatePhase.Updating to)) m g a out x refl k
update_ends (UpdatePhase.Pending to) c m g a out x asked k =
    update_ending_good (at_phase c (UpdatePhase.Pending to)) m g a out x to false refl k
update_ends (UpdatePhase.Mending to) c m g a out x asked k =
    update_ending_good (at_phase c (UpdatePhase.Mending to)) m g a out x to true refl k

pub update_end_good : (c : UpdatedCell) (m : Settings → Mode) (g : List Given) (a : Option ℕ) (out : UpdateOutcome)
    (x : Option Answer) (asked : Option UpdateAsked) (own : Bool)
    → (own ≡ true → Knows (plain_of c) m g a (UpdateStage.End out x))
    → IsGood c m g own a (UpdateStage.End out x)
    (end_update a own (mode_to m (pending_to c.change.phase)) c.instance.held c.change out x)
    (updated_steps c (events_of
    (end_update a own (mode_to m (pending_to c.change.phase)) c.instance.held c.change out x).effect asked))
update_end_good c m g a out x asked false k = not_own c m g a (UpdateStage.End out x)
update_end_good c m g a out x asked true k = update_ends c.change.phase c m g a out x asked (k refl)

-- ---- the last transaction of its operation

update_unsure_finish : (a : Option ℕ) (ok : Bool) (tx : UpdateTransaction) (c : UpdatedCell) (m : Settings → Mode)
    (g : List Given) → Knows c m g a (unsure a (UpdateStage.Finish ok) tx)
update_unsure_finish None ok tx c m g = tt
update_unsure_finish (Some n) ok tx c m g = tt

abbrev update_finishing : UpdatedCell → UpdateHolding → Bool → UpdateTransaction
update_finishing c h ok = record {
  instance = c.instance.held;
  change = h;
  takes_over = false;
  stage = UpdateStage.Instance Stage.Done;
  effect = UpdateEffect.Finish ok;
}

update_finishing_good : (c : UpdatedCell) (m : Settings → Mode) (g : List Given) (a : Option ℕ) (ok : Bool)
    (h : UpdateHolding) → pending_to h.phase ≡ None
    → IsGood c m g true a (UpdateStage.Finish ok) (update_finishing c h ok) (with_change_after c h c.reported)
update_finishing_good c m g a ok h e = record {
  instance = refl;
  change = refl;
  resource = refl;
  has = refl;
  quiet = λ z. z;
  task = tt;
  works = λ w. absurd w;
  begins = λ t z. absurd (clash false t refl);
  busy = λ b. inr (refl, tt);
  idle = λ b t. ((idle_now (plain_of c) b).0, e);
  ends = λ o z. (inl refl, inr e);
  again = λ o z. update_unsure_finish a ok (update_finishing c h ok) (plain_of (with_change_after c h c.reported)) m
      (told_in g a (UpdateStage.Instance Stage.Done));
  before = λ o z. update_unsure_finish a ok (update_finishing c h ok) (plain_of c) m g;
}

abbrev UpdateFinishes : UpdatedCell → (Settings → Mode) → List Given → Option ℕ → Bool → Option UpdateAsked → Type 0
UpdateFinishes c m g a ok asked =
    may_finish_in c.change.phase ok (plain_of c) ≡ true
    → IsGood c m g true a (UpdateStage.Finish ok)
    (finish_by (finished_by c.change.phase c.change ok) c.instance.held c.change ok)
    (updated_steps c (events_of (finish_by (finished_by c.change.phase c.change ok) c.instance.held c.change ok).effect
    asked))

update_finishes : (p : UpdatePhase) (c : UpdatedCell) (m : Settings → Mode) (g : List Given) (a : Option ℕ) (ok : Bool)
    (asked : Option UpdateAsked) → UpdateFinishes (at_phase c p) m g a ok asked
update_finishes UpdatePhase.Settled c m g a ok asked k = cc
update_finishes UpdatePhase.Failed c m g a ok asked k = cc
update_finishes (UpdatePhase.Pending to) c m g a ok asked k = cc
update_finishes (UpdatePhase.Mending to) c m g a ok asked k = cc
update_finishes (UpdatePhase.Updating to) c m g a true asked k =
    let b = at_phase c (UpdatePhase.Updating to) in
    subst (λ (x : Bool). IsGood b m g true a (UpdateStage.Finish true) (update_finishing b (settled_with b.change to)
    true)
    (if x then finished_to to true b else b)) (sym k)
    (update_finishing_good b m g a true (settled_with b.change to) refl)
update_finishes (UpdatePhase.Updating to) c m g a false asked k =
    let b = at_phase c (UpdatePhase.Updating to) in
    update_finishing_good b m g a false (in_phase b.change UpdatePhase.Failed) refl

pub update_finish_good : (c : UpdatedCell) (m : Settings → Mode) (g : List Given) (a : Option ℕ) (ok : Bool)
    (asked : Option UpdateAsked) (own : Bool) → (own ≡ true → Knows (plain_of c) m g a (UpdateStage.Finish ok))
    → IsGood c m g own a (UpdateStage.Finish ok) (finish_update own c.instance.held c.change ok)
    (updated_steps c (events_of (finish_update own c.instance.held c.change ok).effect asked))
update_finish_good c m g a ok asked false k = not_own c m g a (UpdateStage.Finish ok)
update_finish_good c m g a ok asked true k = update_finishes c.change.phase c m g a ok asked (k refl)
