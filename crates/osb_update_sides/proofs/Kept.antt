-- Whatever happens, what can come about goes on, and what can come about agrees.
use Rattle.std.proofs.Common.{◌≡◌, ℕ, Bool, true, false, refl, sym, subst, arith}
use Rattle.std.specs.Prelude.{Option, Some, None, List, [], ◌∷◌, Result, Ok, Err, OnOk, OnErr}
use Rattle.osb_update.specs.Begun.{is_available}
use Rattle.osb_update.specs.declared.settings.Settings.{Settings}
use Rattle.osb_update.specs.declared.state.UpdateState.{UpdateState}
use Rattle.osb_update_sides.specs.Agreement.{AgreesOnSettings}
use Rattle.osb_update_sides.specs.Cell.{UpdatesCell, no_updates}
use Rattle.osb_update_sides.specs.Life.{implies, is_kept_by, is_ready, is_ready_by}
use Rattle.osb_update_sides.specs.Possible.{HasDone, HeldByState, IsPossible}
use Rattle.osb_update_sides.specs.Steps.{updates_step, updates_steps}
use Rattle.osb_update_sides.specs.declared.event.UpdatesEvent.{UpdatesEvent}
use Rattle.osb_update_sides.proofs.Arrivals.{arrive_kept, put_off_kept}
use Rattle.osb_update_sides.proofs.Ends.{crash_kept, end_kept, finish_kept, live_kept, work_kept}
use Rattle.osb_update_sides.proofs.Platform.{and_left, fetch_kept, send_kept, stop_kept, timeout_kept, update_kept}
use Rattle.osb_update_sides.proofs.Taken.{take_anothers_kept, take_kept}
use Rattle.osb_instance.specs.Recorded.{Recorded}
use Rattle.osb_platform.specs.declared.state.State.{State}
use Rattle.osb_instance.specs.Recorded.{is_ready_in}
use Rattle.osb_update_sides.specs.Life.{is_kept_in}

pub kept : (c : UpdatesCell) (e : UpdatesEvent) → IsPossible c → IsPossible (updates_step c e)
kept c (UpdatesEvent.Update to) h = update_kept c to h
kept c UpdatesEvent.Send h = send_kept c h
kept c UpdatesEvent.Fetch h = fetch_kept c h
kept c UpdatesEvent.Stop h = stop_kept c h
kept c UpdatesEvent.Timeout h = timeout_kept c h
kept c (UpdatesEvent.Take at) h = take_kept c at h
kept c (UpdatesEvent.TakeAnothers answer) h = take_anothers_kept c answer h
kept c (UpdatesEvent.Arrive at allowed accepts) h = arrive_kept c at allowed accepts h
kept c (UpdatesEvent.PutOff at) h = put_off_kept c at h
kept c (UpdatesEvent.End mode outcome) h = end_kept c mode outcome h
kept c (UpdatesEvent.Finish ok) h = finish_kept c ok h
kept c (UpdatesEvent.Work settings) h = work_kept c settings h
kept c UpdatesEvent.Crash h = crash_kept c h
kept c (UpdatesEvent.Live life settings) h = live_kept c life settings h

pub at_first : (service : ℕ) (settings : Settings) → IsPossible (no_updates service settings)
at_first service settings = record {
  lives = refl;
  record_can_be = refl;
  numbers = record { latest = omega arith; judged = omega arith; update = tt };
  works = tt;
  holds = record { there = λ u. cc; row = λ on s. cc; other = tt };
  recorded = λ k. record { judged = refl; settled = refl; settings = refl };
  all_sent = tt;
  all_given = tt;
}

pub always : (c : UpdatesCell) (events : List UpdatesEvent) → IsPossible c → IsPossible (updates_steps c events)
always c [] h = h
always c (e ∷ events) h = always (updates_step c e) events (kept c e h)

-- ---- the agreement

ready_counts : (s : State) → is_ready_in s ≡ true → is_kept_in s ≡ true
ready_counts State.Ready e = refl
ready_counts s e = cc

counts : (r : Option Recorded) → is_ready_by r ≡ true → is_kept_by r ≡ true
counts None e = cc
counts (Some r) e = ready_counts r.row.state e

serves : (x y : Bool) → implies x y ≡ true → x ≡ true → y ≡ true
serves true y e f = e
serves false y e f = cc

pub agrees : (c : UpdatesCell) → IsPossible c → AgreesOnSettings c
agrees c h = λ on s.
    let done : HasDone c.recorded.number c.held c.recorded.settings =
    subst (λ (x : UpdateState). HeldByState x c.recorded.settings c.recorded.number c.held (is_ready c.life)) s
    (h.recorded (counts c.life.recorded on)) in
    let there = serves (is_ready c.life) (is_available c.life.holding)
    (and_left (implies (is_ready c.life) (is_available c.life.holding)) _ h.lives) on in
    record {
      available = there;
      settled = done.settled;
      held = done.settings;
      resource = subst (λ (x : Settings). c.settings ≡ Some x) done.settings (h.holds.row there done.settled);
      judged = done.judged;
    }

pub agrees_always : (service : ℕ) (settings : Settings) (events : List UpdatesEvent)
    → AgreesOnSettings (updates_steps (no_updates service settings) events)
agrees_always service settings events =
    agrees _ (always (no_updates service settings) events (at_first service settings))

-- after a step, or if it is refused for want of memory
pub possible_after : (T E : Type 0) (r : Result T E) (c n : UpdatesCell) (e : UpdatesEvent)
    → OnOk r (n ≡ updates_step c e) → OnErr r (n ≡ c) → IsPossible c → IsPossible n
possible_after T E (Ok x) c n e ok err h = subst IsPossible (sym ok) (kept c e h)
possible_after T E (Err x) c n e ok err h = subst IsPossible (sym err) h
