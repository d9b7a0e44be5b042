-- An event of the updates leaves the instance itself as it is.
use Rattle.std.proofs.Common.{◌≡◌, ℕ, Bool, true, false, refl, ap, ◌∙◌}
use Rattle.std.specs.Prelude.{Option, Some, None, if◌then◌else◌, ◌||◌, not, is_some, slice_get, Result, Ok, Err, OnOk, OnErr}
use Rattle.osb_message.specs.declared.catalogue.Mode.{Mode}
use Rattle.osb_message.specs.declared.messages.Answer.{Answer}
use Rattle.osb_update.specs.Begun.{begun, is_under_way}
use Rattle.osb_update.specs.Ended.{ended}
use Rattle.osb_update.specs.Recorded as platform
use Rattle.osb_update.specs.Recorded.{is_polling, may_fetch, may_send}
use Rattle.osb_update.specs.Reported.{polled}
use Rattle.osb_update.specs.declared.holding.UpdateHolding.{UpdateHolding}
use Rattle.osb_update.specs.declared.phase.UpdateBegun.{UpdateBegun}
use Rattle.osb_update.specs.declared.phase.UpdateOutcome.{UpdateOutcome}
use Rattle.osb_update.specs.declared.phase.UpdatePhase.{UpdatePhase}
use Rattle.osb_update.specs.declared.record.UpdateRecord.{UpdateRecord}
use Rattle.osb_update.specs.declared.request.Allowed.{Allowed}
use Rattle.osb_update.specs.declared.settings.Settings.{Settings}
use Rattle.osb_update.specs.declared.state.UpdateSent.{UpdateSent}
use Rattle.osb_update_sides.specs.Agreement.{is_of_update}
use Rattle.osb_update_sides.specs.Cell.{UpdatesCell}
use Rattle.osb_update_sides.specs.Steps.{arrive, arrive_as, end_answered, end_by, end_to, finish_by, is_at, is_out, may_ask, may_end}
use Rattle.osb_update_sides.specs.Steps.{may_live, may_stop, may_take_anothers, poll_answered, put_off, sends, take, update_begun, update_of, updates_step}
use Rattle.osb_update_sides.specs.declared.asked.Asked.{Asked}
use Rattle.osb_update_sides.specs.declared.asked.UpdateAsked.{UpdateAsked}
use Rattle.osb_update_sides.specs.declared.event.UpdatesEvent.{UpdatesEvent}
use Rattle.osb_update_sides.specs.declared.given.UpdateGiven.{UpdateGiven}
use Rattle.osb_update_sides.specs.declared.life.Life.{Life}

-- what is seen of the instance, and the service
abbrev frame : UpdatesCell → Life × ℕ
frame c = (c.life, c.service)

same_if : (x : Bool) (a c : UpdatesCell) → frame a ≡ frame c → frame (if x then a else c) ≡ frame c
same_if true a c e = e
same_if false a c e = refl

sends_same : (c : UpdatesCell) (o : Option (UpdateRecord × UpdateSent)) → frame (sends c o) ≡ frame c
sends_same c None = refl
sends_same c (Some after) = refl

take_same : (c : UpdatesCell) (o : Option UpdateGiven) → frame (take c o) ≡ frame c
take_same c None = refl
take_same c (Some g) = same_if (is_out c.recorded g.attempt) _ c refl

begun_same : (c : UpdatesCell) (n : ℕ) (held : UpdateHolding) (b : UpdateBegun) → frame (update_begun c n held b) ≡ frame c
begun_same c n held (UpdateBegun.Answered answer) = refl
begun_same c n held UpdateBegun.MaintenanceInfoConflict = refl
begun_same c n held (UpdateBegun.Work mode to) = refl

poll_same : (c : UpdatesCell) (n : ℕ) (o : Option Answer) → frame (poll_answered c n o) ≡ frame c
poll_same c n None = refl
poll_same c n (Some answer) = refl

asked_same : (asked : Asked) (c : UpdatesCell) (n : ℕ) (allowed : Allowed) (accepts : Bool)
    → frame (arrive_as asked c n allowed accepts) ≡ frame c
asked_same (Asked.Update names) c n allowed accepts =
    let after = begun c.life.holding allowed c.held (update_of c.service names n accepts) in
    begun_same c n after.0 after.1
asked_same Asked.Poll c n allowed accepts = poll_same c n (polled c.life.holding c.held.phase)
asked_same Asked.Fetch c n allowed accepts = refl

arrive_same : (c : UpdatesCell) (o : Option UpdateAsked) (allowed : Allowed) (accepts : Bool)
    → frame (arrive c o allowed accepts) ≡ frame c
arrive_same c None allowed accepts = refl
arrive_same c (Some x) allowed accepts = asked_same x.asked c x.attempt allowed accepts

put_off_same : (c : UpdatesCell) (o : Option UpdateAsked) → frame (put_off c o) ≡ frame c
put_off_same c None = refl
put_off_same c (Some x) = refl

answered_same : (c : UpdatesCell) (held : UpdateHolding) (answer : Answer) (worker : Option ℕ)
    → frame (end_answered c held answer worker) ≡ frame c
answered_same c held answer None = refl
answered_same c held answer (Some n) = refl

end_to_same : (c : UpdatesCell) (mode : Mode) (outcome : UpdateOutcome) (to : Settings) (failed : Bool)
    → frame (end_to c mode outcome to failed) ≡ frame c
end_to_same c mode outcome to failed =
    let after = ended mode c.held outcome to failed in
    same_if (may_end c mode outcome to failed) (end_answered c after.0 after.1 c.worker) c
    (answered_same c after.0 after.1 c.worker)

end_same : (p : UpdatePhase) (c : UpdatesCell) (mode : Mode) (outcome : UpdateOutcome)
    → frame (end_by p c mode outcome) ≡ frame c
end_same (UpdatePhase.Pending to) c mode outcome = end_to_same c mode outcome to false
end_same (UpdatePhase.Mending to) c mode outcome = end_to_same c mode outcome to true
end_same UpdatePhase.Settled c mode outcome = refl
end_same UpdatePhase.Failed c mode outcome = refl
end_same (UpdatePhase.Updating to) c mode outcome = refl

finish_same : (p : UpdatePhase) (c : UpdatesCell) (ok : Bool) → frame (finish_by p c ok) ≡ frame c
finish_same (UpdatePhase.Updating to) c ok = same_if (not ok || is_at c.settings to) _ c refl
finish_same UpdatePhase.Settled c ok = refl
finish_same UpdatePhase.Failed c ok = refl
finish_same (UpdatePhase.Pending to) c ok = refl
finish_same (UpdatePhase.Mending to) c ok = refl

same_frame : (c : UpdatesCell) (e : UpdatesEvent) → is_of_update e ≡ true → frame (updates_step c e) ≡ frame c
same_frame c (UpdatesEvent.Update to) u = same_if (may_ask c (not (is_polling c.recorded.state))) _ c refl
same_frame c UpdatesEvent.Send u =
    same_if (may_ask c (may_send c.recorded.state)) (sends c (platform.sent c.recorded)) c
    (sends_same c (platform.sent c.recorded))
same_frame c UpdatesEvent.Fetch u = same_if (may_ask c (may_fetch c.recorded.state)) _ c refl
same_frame c UpdatesEvent.Stop u = same_if (may_stop c) _ c refl
same_frame c UpdatesEvent.Timeout u = same_if (is_some c.recorded.out) _ c refl
same_frame c (UpdatesEvent.Take at) u = take_same c (slice_get c.given at)
same_frame c (UpdatesEvent.TakeAnothers answer) u = same_if (may_take_anothers c answer) _ c refl
same_frame c (UpdatesEvent.Arrive at allowed accepts) u = arrive_same c (slice_get c.sent at) allowed accepts
same_frame c (UpdatesEvent.PutOff at) u = put_off_same c (slice_get c.sent at)
same_frame c (UpdatesEvent.End mode outcome) u = end_same c.held.phase c mode outcome
same_frame c (UpdatesEvent.Finish ok) u = finish_same c.held.phase c ok
same_frame c (UpdatesEvent.Work settings) u = same_if (is_under_way c.held.phase) _ c refl
same_frame c UpdatesEvent.Crash u = refl
same_frame c (UpdatesEvent.Live life settings) u = cc

pub life_of : (c : UpdatesCell) (e : UpdatesEvent) → is_of_update e ≡ true → (updates_step c e).life ≡ c.life
life_of c e u = ap (λ (x : Life × ℕ). x.0) (same_frame c e u)

service_if : (x : Bool) (a c : UpdatesCell) → a.service ≡ c.service → (if x then a else c).service ≡ c.service
service_if true a c e = e
service_if false a c e = refl

service_of : (c : UpdatesCell) (e : UpdatesEvent) → (updates_step c e).service ≡ c.service
service_of c (UpdatesEvent.Live life settings) = service_if (may_live c life settings) _ c refl
service_of c e = ap (λ (x : Life × ℕ). x.1) (same_frame c e refl)

-- after a step, or if it is refused for want of memory
pub life_after : (T E : Type 0) (r : Result T E) (c n : UpdatesCell) (e : UpdatesEvent) → OnOk r (n ≡ updates_step c e)
    → OnErr r (n ≡ c) → is_of_update e ≡ true → n.life ≡ c.life
life_after T E (Ok x) c n e ok err u = ap (λ (y : UpdatesCell). y.life) ok ∙ life_of c e u
life_after T E (Err x) c n e ok err u = ap (λ (y : UpdatesCell). y.life) err

pub service_after : (T E : Type 0) (r : Result T E) (c n : UpdatesCell) (e : UpdatesEvent) → OnOk r (n ≡ updates_step c e)
    → OnErr r (n ≡ c) → n.service ≡ c.service
service_after T E (Ok x) c n e ok err = ap (λ (y : UpdatesCell). y.service) ok ∙ service_of c e
service_after T E (Err x) c n e ok err = ap (λ (y : UpdatesCell). y.service) err
