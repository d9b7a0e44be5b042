-- What an event makes of the instance itself: one event of its own, or nothing. What doesn't apply changes nothing.
use Rattle.std.proofs.Common.{◌≡◌, Bool, true, false, refl, sym, subst, inl, inr, ap, ◌∙◌}
use Rattle.std.specs.Prelude.{Option, Some, None, if◌then◌else◌, ⊤}
use Rattle.std.specs.Prelude.{Ok}
use Rattle.osb_message.specs.declared.catalogue.Mode.{Mode}
use Rattle.osb_message.specs.declared.messages.Answer.{Answer}
use Rattle.osb_message.specs.declared.messages.Kind.TheVariants.{Provision}
use Rattle.osb_message.specs.declared.messages.Request.{Request}
use Rattle.osb_broker.specs.Answers.{mode_of}
use Rattle.osb_instance.specs.Begin.{finished_held, given_up, worked}
use Rattle.osb_instance.specs.declared.digest.Digest.{Digest}
use Rattle.osb_instance.specs.declared.outcome.WorkOutcome.{WorkOutcome}
use Rattle.osb_network.specs.AnyPlatform.{AnyCell, StaysGone, any_end, any_end_of, any_step, may_become, may_finish}
use Rattle.osb_network.specs.Steps.{step_of}
use Rattle.osb_network.specs.declared.any_platform.BrokerEvent.{BrokerEvent}
use Rattle.osb_network.specs.declared.step.Step.{Step}
use Rattle.osb_network.proofs.Gone.{gone_after}
use Rattle.osb_update.specs.Begun.{is_available, is_under_way}
use Rattle.osb_update.specs.declared.phase.UpdateOutcome.{UpdateOutcome}
use Rattle.osb_update.specs.declared.phase.UpdatePhase.{UpdatePhase}
use Rattle.osb_update.specs.declared.settings.Settings.{Settings}
use Rattle.osb_update_network.specs.AnyPlatform.{UpdatedCell, arrive_by, asked_by, handled, in_place, is_new, let_in, made_with}
use Rattle.osb_update_network.specs.AnyPlatform.{end_by, ended_with, finished_to, may_end, may_end_update, may_finish_in}
use Rattle.osb_update_network.specs.AnyPlatform.{may_finish_to, may_go_on, may_update_end, pending_to, update_end_by}
use Rattle.osb_update_network.specs.AnyPlatform.{update_end_of, update_finish_by, update_work, updated_applies, updated_step}
use Rattle.osb_update_network.specs.AnyPlatform.{with_instance}
use Rattle.osb_update_network.specs.Promises.{IsStepOf}
use Rattle.osb_update_network.specs.declared.event.UpdateEvent.{UpdateEvent}

-- ---- one event

made_step : (x : Bool) (c : UpdatedCell) (r : Request) (d : Digest) (asked : Settings)
    → IsStepOf c.instance (handled (made_with x c asked) (mode_of c.instance.catalogue r) r d asked).instance
made_step true c r d asked =
    inr (let_in (made_with true c asked).change.phase (mode_of c.instance.catalogue r) c.instance.held r d, refl)
made_step false c r d asked = inr (let_in c.change.phase (mode_of c.instance.catalogue r) c.instance.held r d, refl)

arrives : (o : Option Answer) (x : Bool) (c : UpdatedCell) (r : Request) (d : Digest) (asked : Settings)
    → x ≡ is_new r.kind c.instance.held → IsStepOf c.instance (arrive_by o c r d asked).instance
arrives (Some a) x c r d asked e = inr (BrokerEvent.PutOff r.kind, refl)
arrives None x c r d asked e = made_step (is_new r.kind c.instance.held) c r d asked

step_if : (x : Bool) (i : AnyCell) (e : BrokerEvent) (c d : UpdatedCell) → c.instance ≡ any_step i e → d.instance ≡ i
    → IsStepOf i (if x then c else d).instance
step_if true i e c d is same = inr (e, is)
step_if false i e c d is same = inl same

same_if : (x : Bool) (i : AnyCell) (c d : UpdatedCell) → c.instance ≡ i → d.instance ≡ i
    → (if x then c else d).instance ≡ i
same_if true i c d e f = e
same_if false i c d e f = f

ends_by : (w : Option Request) (c : UpdatedCell) (oc : WorkOutcome) → IsStepOf c.instance (end_by w c oc).instance
ends_by None c oc = inl refl
ends_by (Some q) c oc =
    step_if _ c.instance (BrokerEvent.End oc) _ c refl refl

update_ends : (w : Option (Settings × Bool)) (c : UpdatedCell) (mode : Mode) (oc : UpdateOutcome)
    → (update_end_by w mode oc c).instance ≡ c.instance
update_ends None c mode oc = refl
update_ends (Some w) c mode oc = same_if _ c.instance _ c refl refl

finished_same : (to : Settings) (ok : Bool) (c : UpdatedCell) → (update_finish_by (UpdatePhase.Updating to) ok c).instance ≡ c.instance
finished_same to true c = same_if _ c.instance _ c refl refl
finished_same to false c = refl

update_finishes : (p : UpdatePhase) (c : UpdatedCell) (ok : Bool) → (update_finish_by p ok c).instance ≡ c.instance
update_finishes (UpdatePhase.Updating to) c ok = finished_same to ok c
update_finishes UpdatePhase.Settled c ok = refl
update_finishes UpdatePhase.Failed c ok = refl
update_finishes (UpdatePhase.Pending to) c ok = refl
update_finishes (UpdatePhase.Mending to) c ok = refl

pub one_event : (c : UpdatedCell) (e : UpdateEvent) → IsStepOf c.instance (updated_step c e).instance
one_event c (UpdateEvent.Arrive r d parameters version) =
    arrives (in_place r.kind c.change c.instance.held (asked_by r parameters version)) (is_new r.kind c.instance.held) c r d
    (asked_by r parameters version) refl
one_event c (UpdateEvent.PutOff k) = inr (BrokerEvent.PutOff k, refl)
one_event c (UpdateEvent.End oc) = ends_by c.instance.held.work c oc
one_event c (UpdateEvent.Finish ok) = step_if _ c.instance (BrokerEvent.Finish ok) _ c refl refl
one_event c UpdateEvent.GiveUpWaiting = inr (BrokerEvent.GiveUpWaiting, refl)
one_event c (UpdateEvent.Work t r) = step_if _ c.instance (BrokerEvent.Work t) _ c refl refl
one_event c UpdateEvent.Crash = inr (BrokerEvent.Crash, refl)
one_event c (UpdateEvent.Update allowed asked) = inl refl
one_event c (UpdateEvent.UpdateEnd mode oc) = inl (update_ends (pending_to c.change.phase) c mode oc)
one_event c (UpdateEvent.UpdateFinish ok) = inl (update_finishes c.change.phase c ok)
one_event c (UpdateEvent.UpdateWork r) = inl (same_if (is_under_way c.change.phase) c.instance _ c refl refl)
one_event c UpdateEvent.Fetch = inl refl

-- ---- what was reported gone stays so

step_gone : (i : AnyCell) (e : BrokerEvent) → StaysGone i (any_step i e)
step_gone i e = gone_after ⊤ ⊤ (Ok tt) i (any_step i e) e refl tt

pub stays_gone : (before after : AnyCell) → IsStepOf before after → StaysGone before after
stays_gone before after (inl same) = λ gone. subst (λ (i : AnyCell). i.told.gone ≡ true) (sym same) gone
stays_gone before after (inr step) = λ gone. subst (λ (i : AnyCell). i.told.gone ≡ true) (sym step.1) (step_gone before step.0 gone)

-- ---- the plans stay

record SellsAlike (before after : AnyCell) : Type 0 where
  pub plans : after.catalogue ≡ before.catalogue
  pub first : after.first_poll ≡ before.first_poll

sells : (i : AnyCell) → SellsAlike i i
sells i = record { plans = refl; first = refl }

sells_if : (x : Bool) (i a b : AnyCell) → SellsAlike i a → SellsAlike i b → SellsAlike i (if x then a else b)
sells_if true i a b f g = f
sells_if false i a b f g = g

sells_end : (i : AnyCell) (w : Option Request) (oc : WorkOutcome) → SellsAlike i (any_end i w oc)
sells_end i None oc = sells i
sells_end i (Some q) oc = sells_if _ i (any_end_of i q oc) i (record { plans = refl; first = refl }) (sells i)

sells_step : (i : AnyCell) (e : BrokerEvent) → SellsAlike i (any_step i e)
sells_step i (BrokerEvent.Arrive r d) = record { plans = refl; first = refl }
sells_step i (BrokerEvent.PutOff k) = record { plans = refl; first = refl }
sells_step i (BrokerEvent.End oc) = sells_end i i.held.work oc
sells_step i (BrokerEvent.Finish ok) =
    sells_if (may_finish i ok) i (record i { held = finished_held i.held ok }) i (record { plans = refl; first = refl }) (sells i)
sells_step i BrokerEvent.GiveUpWaiting =
    sells_if i.held.waiting i (record i { held = given_up i.held }) i (record { plans = refl; first = refl }) (sells i)
sells_step i (BrokerEvent.Work t) =
    sells_if (may_become i t) i (record i { resource = t }) i (record { plans = refl; first = refl }) (sells i)
sells_step i BrokerEvent.Crash = sells i

sells_alike : (before after : AnyCell) → IsStepOf before after → SellsAlike before after
sells_alike before after (inl same) = subst (λ (i : AnyCell). SellsAlike before i) (sym same) (sells before)
sells_alike before after (inr step) = subst (λ (i : AnyCell). SellsAlike before i) (sym step.1) (sells_step before step.0)

pub same_plans : (before after : AnyCell) → IsStepOf before after → before.catalogue ≡ after.catalogue
same_plans before after step = sym (sells_alike before after step).plans

pub same_rule : (before after : AnyCell) → IsStepOf before after → before.first_poll ≡ after.first_poll
same_rule before after step = sym (sells_alike before after step).first

-- ---- an event that doesn't apply changes nothing

same_cell : (x : Bool) (a c : UpdatedCell) → x ≡ false → (if x then a else c) ≡ c
same_cell true a c e = cc
same_cell false a c e = refl

same_any : (x : Bool) (a i : AnyCell) → x ≡ false → (if x then a else i) ≡ i
same_any true a i e = cc
same_any false a i e = refl

end_skipped : (w : Option Request) (c : UpdatedCell) (oc : WorkOutcome) → may_end w c oc ≡ false → end_by w c oc ≡ c
end_skipped None c oc e = refl
end_skipped (Some q) c oc e =
    let g = worked (mode_of c.instance.catalogue q) c.instance.held q oc in
    same_cell (may_go_on (is_available g.0) q.kind c (BrokerEvent.End oc)) (ended_with g.1 q.kind c oc) c e

update_end_skipped : (w : Option (Settings × Bool)) (c : UpdatedCell) (mode : Mode) (oc : UpdateOutcome)
    → may_update_end w mode oc c ≡ false → update_end_by w mode oc c ≡ c
update_end_skipped None c mode oc e = refl
update_end_skipped (Some w) c mode oc e =
    same_cell (may_end_update w.1 w.0 mode oc c) (update_end_of w.1 w.0 mode oc c) c e

update_finish_skipped : (p : UpdatePhase) (c : UpdatedCell) (ok : Bool) → may_finish_in p ok c ≡ false
    → update_finish_by p ok c ≡ c
update_finish_skipped (UpdatePhase.Updating to) c ok e = same_cell (may_finish_to to ok c) (finished_to to ok c) c e
update_finish_skipped UpdatePhase.Settled c ok e = refl
update_finish_skipped UpdatePhase.Failed c ok e = refl
update_finish_skipped (UpdatePhase.Pending to) c ok e = refl
update_finish_skipped (UpdatePhase.Mending to) c ok e = refl

pub skipped : (c : UpdatedCell) (e : UpdateEvent) → updated_applies c e ≡ false → updated_step c e ≡ c
skipped c (UpdateEvent.Arrive r d parameters version) e = cc
skipped c (UpdateEvent.PutOff k) e = cc
skipped c (UpdateEvent.End oc) e = end_skipped c.instance.held.work c oc e
skipped c (UpdateEvent.Finish ok) e =
    same_cell (may_go_on (is_available (finished_held c.instance.held ok)) Provision c (BrokerEvent.Finish ok))
    (with_instance c (BrokerEvent.Finish ok) c.settings) c e
skipped c UpdateEvent.GiveUpWaiting e =
    ap (λ (i : AnyCell). record {
      instance = i;
      change = c.change;
      settings = c.settings;
      before = c.before;
      reported = c.reported;
    }) (same_any c.instance.held.waiting (record c.instance { held = given_up c.instance.held }) c.instance e)
skipped c (UpdateEvent.Work t r) e =
    same_cell (may_become c.instance t) (with_instance c (BrokerEvent.Work t) r) c e
skipped c UpdateEvent.Crash e = cc
skipped c (UpdateEvent.Update allowed asked) e = cc
skipped c (UpdateEvent.UpdateEnd mode oc) e = update_end_skipped (pending_to c.change.phase) c mode oc e
skipped c (UpdateEvent.UpdateFinish ok) e = update_finish_skipped c.change.phase c ok e
skipped c (UpdateEvent.UpdateWork r) e = same_cell (is_under_way c.change.phase) (update_work c r) c e
skipped c UpdateEvent.Fetch e = cc

not_skipped : (x : Bool) → Step.Skipped ≡ step_of x → x ≡ false
not_skipped false e = refl
not_skipped true e = cc

pub skipped_step : (s : Step) (c : UpdatedCell) (e : UpdateEvent) → s ≡ step_of (updated_applies c e) → s ≡ Step.Skipped
    → updated_step c e ≡ c
skipped_step s c e is skip = skipped c e (not_skipped (updated_applies c e) (sym skip ∙ is))
