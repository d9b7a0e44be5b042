-- What a transaction of an update leaves is what its event leaves.
use Rattle.std.proofs.Common.{◌≡◌, ◌∙◌, ℕ, Bool, true, false, refl, sym, subst}
use Rattle.std.specs.Prelude.{Option, Some, None, ◌&&◌, ◌||◌, not, is_some, if◌then◌else◌}
use Rattle.osb_message.specs.declared.catalogue.Mode.{Mode}
use Rattle.osb_message.specs.declared.messages.Answer.{Answer}
use Rattle.osb_message.specs.declared.messages.Request.{Request}
use Rattle.osb_broker.specs.Answers.{mode_of}
use Rattle.osb_driver.specs.Driver.{first as first_instances, first_by as first_by_instance}
use Rattle.osb_driver.specs.declared.driver.Effect.{Effect}
use Rattle.osb_instance.specs.Begin.{begins, begun as begun_held, busy as busy_held, is_operating}
use Rattle.osb_instance.specs.Held.{Held}
use Rattle.osb_instance.specs.declared.digest.Digest.{Digest}
use Rattle.osb_instance.specs.declared.work.Begun.{Begun}
use Rattle.osb_instance.specs.declared.work.Begun.TheVariants.{Answered}
use Rattle.osb_network.specs.AnyPlatform.{any_step}
use Rattle.osb_network.specs.declared.any_platform.BrokerEvent.{BrokerEvent}
use Rattle.osb_update.specs.Begun.{begun, is_available, is_under_way}
use Rattle.osb_update.specs.Ended.{worked, finished, worked_by}
use Rattle.osb_update.specs.declared.holding.UpdateHolding.{UpdateHolding}
use Rattle.osb_update.specs.declared.phase.UpdateBegun.{UpdateBegun}
use Rattle.osb_update.specs.declared.phase.UpdateOutcome.{UpdateOutcome}
use Rattle.osb_update.specs.declared.phase.UpdatePhase.{UpdatePhase}
use Rattle.osb_update.specs.declared.request.Allowed.{Allowed}
use Rattle.osb_update.specs.declared.request.Update.{Update}
use Rattle.osb_update.specs.declared.settings.Settings.{Settings}
use Rattle.osb_update_network.specs.AnyPlatform.{UpdatedCell, finished_to, may_end_update, may_finish_in, may_finish_to}
use Rattle.osb_update_network.specs.AnyPlatform.{may_update_end, pending_to, update_end_of}
use Rattle.osb_update_network.specs.AnyPlatform.{arrive_by, asked_by, handled, in_place, is_new, made_with, provisioned}
use Rattle.osb_update_network.specs.AnyPlatform.{put_off}
use Rattle.osb_update_network.proofs.Available.{clash}
use Rattle.osb_update_network.proofs.Kept.{unheld_new}
use Rattle.osb_update_driver.specs.Driver.{end_by, finish_by, first_instance_by, update_by, with_held}
use Rattle.osb_update_driver.specs.Rows.{AnswersEnd, AnswersFirst, IsAnsweredBy, IsEndedBy}
use Rattle.osb_update_driver.specs.Rows.{IsRowOf, KeepsEnd, KeepsFinish, KeepsFirst, KeepsRequest, TakesUpAll, after_by}
use Rattle.osb_update_driver.specs.Rows.{after_update, after_work}
use Rattle.osb_update_driver.specs.declared.driver.UpdateEffect.{UpdateEffect}
use Rattle.osb_update_driver.specs.declared.driver.UpdateTransaction.{UpdateTransaction}

true_is_false : true ≡ false → ⊥
true_is_false e = cc

never : (x : Bool) → (x ≡ true → ⊥) → x ≡ false
never true n = absurd (n refl)
never false n = refl

-- ---- an Update that arrives

row_is : (cell : UpdatedCell) (tx : UpdateTransaction) → tx.instance ≡ cell.instance.held → tx.change ≡ cell.change
    → IsRowOf cell tx
row_is cell tx e f = record { instance = e; change = f }

first_by : (cell : UpdatedCell) (locked may : Bool) (allowed : Allowed) (asked : Update) (g : UpdateBegun)
    → IsRowOf
    (after_update (update_by g may locked cell.instance.held cell.change
    (begun cell.instance.held allowed cell.change asked).0 allowed).effect cell asked)
    (update_by g may locked cell.instance.held cell.change (begun cell.instance.held allowed cell.change asked).0
    allowed)
first_by cell locked may allowed asked (UpdateBegun.Answered answer) = record { instance = refl; change = refl }
first_by cell locked may allowed asked UpdateBegun.MaintenanceInfoConflict = record { instance = refl; change = refl }
first_by cell locked false allowed asked (UpdateBegun.Work mode to) = record { instance = refl; change = refl }
first_by cell false true allowed asked (UpdateBegun.Work mode to) = record { instance = refl; change = refl }
first_by cell true true allowed asked (UpdateBegun.Work mode to) = record { instance = refl; change = refl }

pub keeps_first : KeepsFirst
keeps_first cell locked true may allowed asked = record { instance = refl; change = refl }
keeps_first cell locked false may allowed asked =
    first_by cell locked may allowed asked (begun cell.instance.held allowed cell.change asked).1

-- ---- the end of its work

-- of a cell with this phase
abbrev pub at_phase : UpdatedCell → UpdatePhase → UpdatedCell
at_phase c phase = record {
  instance = c.instance;
  change = record { settings = c.change.settings; number = c.change.number; phase = phase };
  settings = c.settings;
  before = c.before;
  reported = c.reported;
}

end_if : (b : Bool) (failed : Bool) (to : Settings) (mode : Mode) (outcome : UpdateOutcome) (c : UpdatedCell) → b ≡ true
    → (if b then update_end_of failed to mode outcome c else c) ≡ update_end_of failed to mode outcome c
end_if true failed to mode outcome c e = refl
end_if false failed to mode outcome c e = cc

finish_if : (b ok : Bool) (to : Settings) (c : UpdatedCell) → b ≡ true
    → (if b then finished_to to ok c else c) ≡ finished_to to ok c
finish_if true ok to c e = refl
finish_if false ok to c e = cc

row_by : (a b : UpdatedCell) (tx : UpdateTransaction) → a ≡ b → IsRowOf b tx → IsRowOf a tx
row_by a b tx e h = subst (λ (x : UpdatedCell). IsRowOf x tx) (sym e) h

end_at : (c : UpdatedCell) (phase : UpdatePhase) (attempt : Option ℕ) (mode : Mode) (outcome : UpdateOutcome)
    (before : Option Answer)
    → may_update_end (pending_to phase) mode outcome (at_phase c phase) ≡ true
    → IsRowOf
    (after_work (end_by (worked_by phase mode (at_phase c phase).change outcome) attempt mode c.instance.held
    (at_phase c phase).change outcome before).effect (at_phase c phase))
    (end_by (worked_by phase mode (at_phase c phase).change outcome) attempt mode c.instance.held (at_phase c
    phase).change
    outcome before)
end_at c UpdatePhase.Settled attempt mode outcome before e = cc
end_at c UpdatePhase.Failed attempt mode outcome before e = cc
end_at c (UpdatePhase.Updating to) attempt mode outcome before e = cc
end_at c (UpdatePhase.Pending to) attempt mode outcome before e =
    row_by _ (update_end_of false to mode outcome (at_phase c (UpdatePhase.Pending to))) _
    (end_if (may_end_update false to mode outcome (at_phase c (UpdatePhase.Pending to))) false to mode outcome
    (at_phase c (UpdatePhase.Pending to)) e)
    (record { instance = refl; change = refl })
end_at c (UpdatePhase.Mending to) attempt mode outcome before e =
    row_by _ (update_end_of true to mode outcome (at_phase c (UpdatePhase.Mending to))) _
    (end_if (may_end_update true to mode outcome (at_phase c (UpdatePhase.Mending to))) true to mode outcome
    (at_phase c (UpdatePhase.Mending to)) e)
    (record { instance = refl; change = refl })

pub keeps_end : KeepsEnd
keeps_end c attempt false mode outcome before e = record { instance = refl; change = refl }
keeps_end c attempt true mode outcome before e = end_at c c.change.phase attempt mode outcome before e

-- ---- the end of its operation

finish_at : (c : UpdatedCell) (phase : UpdatePhase) (ok : Bool)
    → may_finish_in phase ok (at_phase c phase) ≡ true
    → IsRowOf
    (after_work (finish_by (finished (at_phase c phase).change ok) c.instance.held (at_phase c phase).change ok).effect
    (at_phase c phase))
    (finish_by (finished (at_phase c phase).change ok) c.instance.held (at_phase c phase).change ok)
finish_at c UpdatePhase.Settled ok e = cc
finish_at c UpdatePhase.Failed ok e = cc
finish_at c (UpdatePhase.Pending to) ok e = cc
finish_at c (UpdatePhase.Mending to) ok e = cc
finish_at c (UpdatePhase.Updating to) true e =
    row_by _ (finished_to to true (at_phase c (UpdatePhase.Updating to))) _
    (finish_if (may_finish_to to true (at_phase c (UpdatePhase.Updating to))) true to (at_phase c (UpdatePhase.Updating
    to)) e)
    (record { instance = refl; change = refl })
finish_at c (UpdatePhase.Updating to) false e = record { instance = refl; change = refl }

pub keeps_finish : KeepsFinish
keeps_finish c false ok e = record { instance = refl; change = refl }
keeps_finish c true ok e = finish_at c c.change.phase ok e

-- ---- one at a time

idle : (under : Bool) (work : Option Request) (operating waiting : Bool)
    → (under && (is_some work || (operating || waiting))) ≡ false → under ≡ true
    → (work ≡ None) × (operating ≡ false)
idle false work operating waiting e u = cc
idle true (Some request) operating waiting e u = cc
idle true None true waiting e u = cc
idle true None false waiting e u = (refl, refl)

pub takes_up_all : TakesUpAll
takes_up_all c one under =
    idle (is_under_way c.change.phase) c.instance.held.work (is_operating c.instance.held) c.instance.held.waiting one
    under

-- ---- a request of the instance

-- the cell once a request has arrived that isn't answered in place, by whether an update is under way, whether the
-- request would begin something, and whether it is a Provision that finds nothing
abbrev pub arrived : Bool → Bool → Bool → UpdatedCell → Request → Digest → Settings → UpdatedCell
arrived u y true c r d asked = record {
  instance = any_step c.instance (BrokerEvent.Arrive r d);
  change = provisioned asked;
  settings = c.settings;
  before = c.before;
  reported = c.reported;
}
arrived u y false c r d asked = record {
  instance = any_step c.instance (if u && y then BrokerEvent.PutOff r.kind else BrokerEvent.Arrive r d);
  change = c.change;
  settings = c.settings;
  before = c.before;
  reported = c.reported;
}

abbrev pub due : UpdatedCell → Request → Digest → Held × Begun
due c r d = begun_held (mode_of c.instance.catalogue r) c.instance.first_poll c.instance.held r d

-- of a request that may begin what it would, or would begin nothing
picked : (g : Begun) (u y new locked : Bool) (c : UpdatedCell) (r : Request) (d : Digest) (asked : Settings)
    → (u && y) ≡ false
    → IsRowOf
    (after_by (with_held (first_by_instance locked false c.instance.held r (due c r d).0 g) new c.change asked).effect
    (arrived u y new c r d asked) (put_off c r.kind) c)
    (with_held (first_by_instance locked false c.instance.held r (due c r d).0 g) new c.change asked)
picked (Answered a) true true new locked c r d asked e = cc
picked (Answered a) true false true locked c r d asked e = record { instance = refl; change = refl }
picked (Answered a) true false false locked c r d asked e = record { instance = refl; change = refl }
picked (Answered a) false y true locked c r d asked e = record { instance = refl; change = refl }
picked (Answered a) false y false locked c r d asked e = record { instance = refl; change = refl }
picked (Begun.Work w) u y new false c r d asked e = record { instance = refl; change = refl }
picked (Begun.Work w) true true new true c r d asked e = cc
picked (Begun.Work w) true false true true c r d asked e = record { instance = refl; change = refl }
picked (Begun.Work w) true false false true c r d asked e = record { instance = refl; change = refl }
picked (Begun.Work w) false y true true c r d asked e = record { instance = refl; change = refl }
picked (Begun.Work w) false y false true c r d asked e = record { instance = refl; change = refl }

-- what comes of the request, and its transaction
abbrev pub let_by : Bool → Bool → Bool → UpdatedCell → Request → Digest → Held × Begun
let_by u y may c r d =
    if not (not (not may) && not u) && y then (c.instance.held, Answered (busy_held r.kind)) else due c r d

abbrev pub tx_by : Bool → Bool → Bool → Bool → Bool → UpdatedCell → Request → Digest → Settings → UpdateTransaction
tx_by u y may new locked c r d asked =
    with_held (first_instances locked false (not may && y) c.instance.held r (let_by u y may c r d)) new c.change asked

by_cases : (u y may new locked : Bool) (c : UpdatedCell) (r : Request) (d : Digest) (asked : Settings)
    → (new ≡ true → u ≡ false)
    → IsRowOf
    (after_by (tx_by u y may new locked c r d asked).effect (arrived u y new c r d asked) (put_off c r.kind) c)
    (tx_by u y may new locked c r d asked)
by_cases u true false new locked c r d asked idle = record { instance = refl; change = refl }
by_cases true true true true locked c r d asked idle = absurd (true_is_false (idle refl))
by_cases true true true false locked c r d asked idle = record { instance = refl; change = refl }
by_cases false true true new locked c r d asked idle = picked (due c r d).1 false true new locked c r d asked refl
by_cases true false false new locked c r d asked idle = picked (due c r d).1 true false new locked c r d asked refl
by_cases true false true new locked c r d asked idle = picked (due c r d).1 true false new locked c r d asked refl
by_cases false false false new locked c r d asked idle = picked (due c r d).1 false false new locked c r d asked refl
by_cases false false true new locked c r d asked idle = picked (due c r d).1 false false new locked c r d asked refl

-- the cell is as it arrives in `osb_update_network`
abbrev pub IsSameRow : UpdatedCell → UpdatedCell → Type 0
IsSameRow a b = (a.instance.held ≡ b.instance.held) × (a.change ≡ b.change)

as_arrived : (new y : Bool) (c : UpdatedCell) (r : Request) (d : Digest) (asked : Settings)
    → y ≡ begins (mode_of c.instance.catalogue r) c.instance.held r d
    → IsSameRow (handled (made_with new c asked) (mode_of c.instance.catalogue r) r d asked)
    (arrived (is_under_way c.change.phase) (begins (mode_of c.instance.catalogue r) c.instance.held r d) new c r d
    asked)
as_arrived true y c r d asked e = (refl, refl)
as_arrived false y c r d asked e = (refl, refl)

moved : (effect : UpdateEffect) (a b p c : UpdatedCell) (tx : UpdateTransaction) → IsSameRow a b
    → IsRowOf (after_by effect b p c) tx → IsRowOf (after_by effect a p c) tx
moved (UpdateEffect.Instance Effect.Arrive) a b p c tx s h =
    record { instance = h.instance ∙ sym s.0; change = h.change ∙ sym s.1 }
moved (UpdateEffect.Instance Effect.PutOff) a b p c tx s h = h
moved (UpdateEffect.Instance Effect.Nothing) a b p c tx s h = h
moved (UpdateEffect.Instance (Effect.End outcome)) a b p c tx s h = h
moved (UpdateEffect.Instance (Effect.Finish ok)) a b p c tx s h = h
moved (UpdateEffect.Instance Effect.GiveUpWaiting) a b p c tx s h = h
moved (UpdateEffect.Update allowed) a b p c tx s h = h
moved (UpdateEffect.End mode outcome) a b p c tx s h = h
moved (UpdateEffect.Finish ok) a b p c tx s h = h

by_place : (o : Option Answer) (locked may : Bool) (c : UpdatedCell) (r : Request) (d : Digest) (asked : Settings)
    → (is_under_way c.change.phase ≡ true → is_available c.instance.held ≡ true)
    → IsRowOf
    (after_by (first_instance_by o locked may (mode_of c.instance.catalogue r) c.instance.first_poll c.instance.held
    c.change
    r d asked).effect (arrive_by o c r d asked) (put_off c r.kind) c)
    (first_instance_by o locked may (mode_of c.instance.catalogue r) c.instance.first_poll c.instance.held c.change r d
    asked)
by_place (Some a) locked may c r d asked there = record { instance = refl; change = refl }
by_place None locked may c r d asked there =
    let y = begins (mode_of c.instance.catalogue r) c.instance.held r d in
    let u = is_under_way c.change.phase in
    let new = is_new r.kind c.instance.held in
    moved (tx_by u y may new locked c r d asked).effect
    (handled (made_with new c asked) (mode_of c.instance.catalogue r) r d asked) (arrived u y new c r d asked)
    (put_off c r.kind) c (tx_by u y may new locked c r d asked) (as_arrived new y c r d asked refl)
    (by_cases u y may new locked c r d asked
    (λ n. never u (λ z. clash (is_available c.instance.held) (there z) (unheld_new r.kind c.instance.held (sym n)))))

pub keeps_request : KeepsRequest
keeps_request c locked true may r d parameters version there = record { instance = refl; change = refl }
keeps_request c locked false may r d parameters version there =
    by_place (in_place r.kind c.change c.instance.held (asked_by r parameters version)) locked may c r d
    (asked_by r parameters version) there

-- ---- the answers

answers_by : (g : UpdateBegun) (locked may : Bool) (held : Held) (change after : UpdateHolding) (allowed : Allowed)
    → IsAnsweredBy (update_by g may locked held change after allowed).effect g
    (update_by g may locked held change after allowed).stage
answers_by (UpdateBegun.Answered answer) locked may held change after allowed = refl
answers_by UpdateBegun.MaintenanceInfoConflict locked may held change after allowed = tt
answers_by (UpdateBegun.Work mode to) locked false held change after allowed = refl
answers_by (UpdateBegun.Work mode to) false true held change after allowed = tt
answers_by (UpdateBegun.Work mode to) true true held change after allowed = tt

pub answers_first : AnswersFirst
answers_first c locked true may allowed asked = tt
answers_first c locked false may allowed asked =
    answers_by (begun c.instance.held allowed c.change asked).1 locked may c.instance.held c.change
    (begun c.instance.held allowed c.change asked).0 allowed

ends_by : (o : Option (UpdateHolding × Answer)) (attempt : Option ℕ) (mode : Mode) (held : Held) (change :
    UpdateHolding)
    (outcome : UpdateOutcome) (before : Option Answer)
    → IsEndedBy (end_by o attempt mode held change outcome before).effect o before
    (end_by o attempt mode held change outcome before).stage
ends_by (Some after) None mode held change outcome before = tt
ends_by (Some after) (Some attempt) mode held change outcome before = refl
ends_by None attempt mode held change outcome None = tt
ends_by None attempt mode held change outcome (Some answer) = refl

pub answers_end : AnswersEnd
answers_end c attempt false mode outcome before = tt
answers_end c attempt true mode outcome before =
    ends_by (worked mode c.change outcome) attempt mode c.instance.held c.change outcome before
