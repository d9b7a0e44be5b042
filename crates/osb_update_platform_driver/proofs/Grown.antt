-- What was sent and given stays so, at its place; and an event of the broker leaves what the platform records.
use Rattle.std.proofs.Common.{◌≡◌, ℕ, zero, suc, Bool, true, false, refl, List, [], ◌∷◌, ◌++◌}
use Rattle.std.specs.Prelude.{Option, Some, None, ◌||◌, not, if◌then◌else◌, is_some, slice_get}
use Rattle.osb_message.specs.declared.catalogue.Mode.{Mode}
use Rattle.osb_message.specs.declared.messages.Answer.{Answer}
use Rattle.osb_update.specs.Begun.{begun, is_under_way}
use Rattle.osb_update.specs.Ended.{ended}
use Rattle.osb_update.specs.Recorded as platform
use Rattle.osb_update.specs.Recorded.{is_polling, may_fetch, may_send}
use Rattle.osb_update.specs.Reported.{polled}
use Rattle.osb_update.specs.declared.holding.UpdateHolding.{UpdateHolding}
use Rattle.osb_update.specs.declared.phase.UpdateBegun.{UpdateBegun}
use Rattle.osb_update.specs.declared.phase.UpdateOutcome.{UpdateOutcome}
use Rattle.osb_update.specs.declared.phase.UpdatePhase.{UpdatePhase}
use Rattle.osb_update.specs.declared.record.UpdateRecord.{UpdateRecord}
use Rattle.osb_update.specs.declared.request.Allowed.{Allowed}
use Rattle.osb_update.specs.declared.settings.Settings.{Settings}
use Rattle.osb_update.specs.declared.state.UpdateSent.{UpdateSent}
use Rattle.osb_update_sides.specs.Cell.{UpdatesCell}
use Rattle.osb_update_sides.specs.Steps.{arrive, arrive_as, asked_by, end_answered, end_by, end_to, finish_by, is_at}
use Rattle.osb_update_sides.specs.Steps.{is_out, may_ask}
use Rattle.osb_update_sides.specs.Steps.{may_end, may_live, may_stop, may_take_anothers, poll_answered, put_off, sends}
use Rattle.osb_update_sides.specs.Steps.{take}
use Rattle.osb_update_sides.specs.Steps.{update_begun, update_of, updates_step, updates_steps, with_given, with_sent}
use Rattle.osb_update_sides.specs.declared.asked.Asked.{Asked}
use Rattle.osb_update_sides.specs.declared.asked.UpdateAsked.{UpdateAsked}
use Rattle.osb_update_sides.specs.declared.event.UpdatesEvent.{UpdatesEvent}
use Rattle.osb_update_sides.specs.declared.given.Said.{Said}
use Rattle.osb_update_sides.specs.declared.given.UpdateGiven.{UpdateGiven}
use Rattle.osb_update_platform_driver.specs.declared.driver.PlatformUpdateStage.{PlatformUpdateStage}
use Rattle.osb_update_platform_driver.specs.declared.world.UpdateSource.{UpdateSource}
use Rattle.osb_update_platform_driver.specs.World.{IsFrom, KnowsAt, WasSent, is_outside}

-- ---- places

get_left : {X : Type 0} (xs : List X) (y : X) (at : ℕ) (x : X) → slice_get xs at ≡ Some x
    → slice_get (xs ++ y ∷ []) at ≡ Some x
get_left [] y at x e = cc
get_left (z ∷ xs) y zero x e = e
get_left (z ∷ xs) y (suc at) x e = get_left xs y at x e

pub at_end : {X : Type 0} (xs : List X) (x : X) → (at : ℕ) × (slice_get (xs ++ x ∷ []) at ≡ Some x)
at_end [] x = (0, refl)
at_end (y ∷ xs) x = let e = at_end xs x in (suc e.0, e.1)

-- all that was sent and given before is where it was
abbrev HasAll : {X : Type 0} → List X → List X → Type 0
HasAll {X} xs ys = (at : ℕ) (x : X) → slice_get xs at ≡ Some x → slice_get ys at ≡ Some x

pub record Grows (c n : UpdatesCell) : Type 0 where
  pub given : HasAll c.given n.given
  pub sent : HasAll c.sent n.sent

same : (c : UpdatesCell) → Grows c c
same c = record { given = λ at x is. is; sent = λ at x is. is }

grows_if : (b : Bool) (c x : UpdatesCell) → Grows c x → Grows c (if b then x else c)
grows_if true c x grow = grow
grows_if false c x grow = same c

-- ---- events of the broker

record IsBeyond (c n : UpdatesCell) : Type 0 where
  recorded : n.recorded ≡ c.recorded
  grows : Grows c n

still : (c : UpdatesCell) → IsBeyond c c
still c = record { recorded = refl; grows = same c }

held_so : (c : UpdatesCell) (held : UpdateHolding) (worker : Option ℕ) (settings : Option Settings)
    → IsBeyond c (record c { held = held; worker = worker; settings = settings })
held_so c held worker settings =
    record { recorded = refl; grows = record { given = λ at x is. is; sent = λ at x is. is } }

answers : (c : UpdatesCell) (held : UpdateHolding) (worker : Option ℕ) (n : ℕ) (said : Said)
    → IsBeyond c (with_given (record c { held = held; worker = worker }) n said)
answers c held worker n said = record {
  recorded = refl;
  grows = record { given = get_left c.given (record { attempt = n; said = said }); sent = λ at x is. is };
}

beyond_if : (b : Bool) (c x : UpdatesCell) → IsBeyond c x → IsBeyond c (if b then x else c)
beyond_if true c x h = h
beyond_if false c x h = still c

beyond_begun : (c : UpdatesCell) (n : ℕ) (held : UpdateHolding) (b : UpdateBegun) → IsBeyond c (update_begun c n held b)
beyond_begun c n held (UpdateBegun.Answered answer) = answers c held c.worker n (Said.Answer answer)
beyond_begun c n held UpdateBegun.MaintenanceInfoConflict = answers c held c.worker n _
beyond_begun c n held (UpdateBegun.Work mode to) = held_so c held (Some n) c.settings

beyond_poll : (c : UpdatesCell) (n : ℕ) (o : Option Answer) → IsBeyond c (poll_answered c n o)
beyond_poll c n None = still c
beyond_poll c n (Some answer) = answers c c.held c.worker n (Said.Answer answer)

beyond_asked : (asked : Asked) (c : UpdatesCell) (n : ℕ) (allowed : Allowed) (accepts : Bool)
    → IsBeyond c (arrive_as asked c n allowed accepts)
beyond_asked (Asked.Update names) c n allowed accepts =
    let after = begun c.life.holding allowed c.held (update_of c.service names n accepts) in
    beyond_begun c n after.0 after.1
beyond_asked Asked.Poll c n allowed accepts = beyond_poll c n (polled c.life.holding c.held.phase)
beyond_asked Asked.Fetch c n allowed accepts = answers c c.held c.worker n _

beyond_arrive : (c : UpdatesCell) (o : Option UpdateAsked) (allowed : Allowed) (accepts : Bool)
    → IsBeyond c (arrive c o allowed accepts)
beyond_arrive c None allowed accepts = still c
beyond_arrive c (Some x) allowed accepts = beyond_asked x.asked c x.attempt allowed accepts

beyond_put_off : (c : UpdatesCell) (o : Option UpdateAsked) → IsBeyond c (put_off c o)
beyond_put_off c None = still c
beyond_put_off c (Some x) = answers c c.held c.worker x.attempt _

beyond_answered : (c : UpdatesCell) (held : UpdateHolding) (answer : Answer) (worker : Option ℕ)
    → IsBeyond c (end_answered c held answer worker)
beyond_answered c held answer None = held_so c held c.worker c.settings
beyond_answered c held answer (Some n) = answers c held None n (Said.Answer answer)

beyond_end_to : (c : UpdatesCell) (mode : Mode) (outcome : UpdateOutcome) (to : Settings) (failed : Bool)
    → IsBeyond c (end_to c mode outcome to failed)
beyond_end_to c mode outcome to failed =
    let after = ended mode c.held outcome to failed in
    beyond_if (may_end c mode outcome to failed) c (end_answered c after.0 after.1 c.worker)
    (beyond_answered c after.0 after.1 c.worker)

beyond_end : (p : UpdatePhase) (c : UpdatesCell) (mode : Mode) (outcome : UpdateOutcome)
    → IsBeyond c (end_by p c mode outcome)
beyond_end (UpdatePhase.Pending to) c mode outcome = beyond_end_to c mode outcome to false
beyond_end (UpdatePhase.Mending to) c mode outcome = beyond_end_to c mode outcome to true
beyond_end UpdatePhase.Settled c mode outcome = still c
beyond_end UpdatePhase.Failed c mode outcome = still c
beyond_end (UpdatePhase.Updating to) c mode outcome = still c

beyond_finish : (p : UpdatePhase) (c : UpdatesCell) (ok : Bool) → IsBeyond c (finish_by p c ok)
beyond_finish (UpdatePhase.Updating to) c ok =
    beyond_if (not ok || is_at c.settings to) c _ (held_so c _ c.worker c.settings)
beyond_finish UpdatePhase.Settled c ok = still c
beyond_finish UpdatePhase.Failed c ok = still c
beyond_finish (UpdatePhase.Pending to) c ok = still c
beyond_finish (UpdatePhase.Mending to) c ok = still c

beyond : (c : UpdatesCell) (e : UpdatesEvent) → is_outside e ≡ true → IsBeyond c (updates_step c e)
beyond c (UpdatesEvent.Arrive at allowed accepts) out = beyond_arrive c (slice_get c.sent at) allowed accepts
beyond c (UpdatesEvent.PutOff at) out = beyond_put_off c (slice_get c.sent at)
beyond c (UpdatesEvent.End mode outcome) out = beyond_end c.held.phase c mode outcome
beyond c (UpdatesEvent.Finish ok) out = beyond_finish c.held.phase c ok
beyond c (UpdatesEvent.Work settings) out =
    beyond_if (is_under_way c.held.phase) c _ (held_so c c.held c.worker settings)
beyond c UpdatesEvent.Crash out = held_so c c.held None c.settings
beyond c e out = cc

-- such an event leaves what the platform records
pub unrecorded : (c : UpdatesCell) (e : UpdatesEvent) → is_outside e ≡ true
    → (updates_step c e).recorded ≡ c.recorded
unrecorded c e out = (beyond c e out).recorded

-- ---- events of the platform, and of the instance

kept_so : (c : UpdatesCell) (r : UpdateRecord) → Grows c (record c { recorded = r })
kept_so c r = record { given = λ at x is. is; sent = λ at x is. is }

sent_so : (c : UpdatesCell) (after : UpdateRecord × UpdateSent) → Grows c (with_sent c after)
sent_so c after = record { given = λ at x is. is; sent = get_left c.sent (asked_by after.1) }

grows_sends : (c : UpdatesCell) (o : Option (UpdateRecord × UpdateSent)) → Grows c (sends c o)
grows_sends c None = same c
grows_sends c (Some after) = sent_so c after

grows_take : (c : UpdatesCell) (o : Option UpdateGiven) → Grows c (take c o)
grows_take c None = same c
grows_take c (Some g) = grows_if (is_out c.recorded g.attempt) c _ (kept_so c _)

grows_step : (c : UpdatesCell) (e : UpdatesEvent) → Grows c (updates_step c e)
grows_step c (UpdatesEvent.Update to) = grows_if (may_ask c (not (is_polling c.recorded.state))) c _
    (sent_so c (platform.updated c.recorded to))
grows_step c UpdatesEvent.Send =
    grows_if (may_ask c (may_send c.recorded.state)) c (sends c (platform.sent c.recorded))
    (grows_sends c (platform.sent c.recorded))
grows_step c UpdatesEvent.Fetch =
    grows_if (may_ask c (may_fetch c.recorded.state)) c _ (sent_so c (platform.fetch_sent c.recorded))
grows_step c UpdatesEvent.Stop = grows_if (may_stop c) c _ (kept_so c _)
grows_step c UpdatesEvent.Timeout = grows_if (is_some c.recorded.out) c _ (kept_so c _)
grows_step c (UpdatesEvent.Take at) = grows_take c (slice_get c.given at)
grows_step c (UpdatesEvent.TakeAnothers answer) = grows_if (may_take_anothers c answer) c _ (kept_so c _)
grows_step c (UpdatesEvent.Live life settings) =
    grows_if (may_live c life settings) c _ (record { given = λ at x is. is; sent = λ at x is. is })
grows_step c e = (beyond c e refl).grows

pub grows_steps : (c : UpdatesCell) (es : List UpdatesEvent) → Grows c (updates_steps c es)
grows_steps c [] = same c
grows_steps c (e ∷ es) =
    let one = grows_step c e in
    let more = grows_steps (updates_step c e) es in
    record {
      given = λ at x is. more.given at x (one.given at x is);
      sent = λ at x is. more.sent at x (one.sent at x is);
    }

-- ---- what drivers know

from_grows : (c n : UpdatesCell) (k : ℕ) (said : Option Said) (source : UpdateSource) → Grows c n
    → IsFrom c.given k said source → IsFrom n.given k said source
from_grows c n k None UpdateSource.Nowhere grow from = tt
from_grows c n k (Some said) (UpdateSource.Given at) grow from = grow.given at _ from
from_grows c n k (Some said) (UpdateSource.Another answer) grow from = from
from_grows c n k None (UpdateSource.Given at) grow from = absurd from
from_grows c n k None (UpdateSource.Another answer) grow from = absurd from
from_grows c n k (Some said) UpdateSource.Nowhere grow from = absurd from

was_grows : (c n : UpdatesCell) (k : ℕ) → Grows c n → WasSent c.sent k → WasSent n.sent k
was_grows c n k grow was = record { at = was.at; asked = was.asked; is = grow.sent was.at _ was.is }

pub knows_on : (c n : UpdatesCell) (stage : PlatformUpdateStage) (source : UpdateSource) → Grows c n
    → KnowsAt c stage source → KnowsAt n stage source
knows_on c n (PlatformUpdateStage.Take k said) source grow is =
    (was_grows c n k grow is.0, from_grows c n k said source grow is.1)
knows_on c n (PlatformUpdateStage.Send sent) source grow is = (is.0, grow.sent is.0 (asked_by sent) is.1)
knows_on c n PlatformUpdateStage.Claim source grow is = tt
knows_on c n (PlatformUpdateStage.Unsure k) source grow is = tt
knows_on c n PlatformUpdateStage.Done source grow is = tt
