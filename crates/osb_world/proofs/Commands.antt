-- The events of the platform's own: Create, Remove, Expire, Send, Timeout and Restart keep a cell possible.
use Rattle.std.proofs.Common.{◌≡◌, ℕ, Bool, true, refl, sym, subst, ap}
use Rattle.std.specs.Prelude.{Option, Some, None, IfSome, option_map, is_some, is_none, ◌&&◌}
use Rattle.osb_message.specs.declared.messages.Answer.{Answer}
use Rattle.osb_message.specs.declared.messages.Kind.{Kind}
use Rattle.osb_message.specs.declared.messages.Request.{Request}
use Rattle.osb_message.specs.declared.catalogue.Mode.{Mode}
use Rattle.osb_broker.specs.declared.row.BrokerRow.{BrokerRow}
use Rattle.osb_message.specs.Plans.{Catalogue}
use Rattle.osb_platform.specs.declared.row.PlatformRow.{PlatformRow}
use Rattle.osb_platform.specs.declared.state.State.{State}
use Rattle.osb_platform.specs.declared.state.State.TheVariants.{Wanted, Cleaning}
use Rattle.osb_platform.specs.PlatformRow.{request_for, is_idle_in, in_state, can_send, cleaned_up, timed_out}
use Rattle.osb_platform.specs.PlatformRow.{restarted}
use Rattle.osb_platform.specs.State.{due, after_timeout, after_restart}
use Rattle.osb_event.specs.declared.event.Event.{Event}
use Rattle.osb_world.specs.Possible.{IsPossible, IsPossibleParts, IsPossibleRow, IsRowOf, OutByState, HeldByState}
use Rattle.osb_world.specs.Possible.{mode_at}
use Rattle.osb_world.specs.Steps.{changed_cell, closed}
use Rattle.osb_world.proofs.Possibility.{cell, row_in, idle, quiet, and_first}

pub kept_create : (cat : Catalogue) (id named service plan : ℕ) (accepts : Bool) (p : Option PlatformRow)
    (b : Option BrokerRow)
    (o : Option Request) (t : Option Answer) → named ≡ id → is_none p ≡ true → IsPossibleParts cat id p b o t
    → IsPossible cat id (changed_cell cat (cell p b o t) (Event.Create named service plan accepts))
kept_create cat id named service plan accepts None b o t is on h = rw (h.0, h.2) (record {
  travels = λ f. refl;
  request = record { same_id = is; same_service = refl; same_plan = refl };
  kind = refl;
  sent = refl;
  same = tt;
  holds = tt;
  answer = tt;
})
kept_create cat id named service plan accepts (Some row) b o t is on h = cc

-- an instance with nothing out is cleaned up
cleaned : (cat : Catalogue) (id service plan : ℕ) (s : State) (out : Option Kind) (b : Option BrokerRow)
    (o : Option Request)
    (t : Option Answer) → is_none out ≡ true → IsPossibleRow cat id (row_in service plan s out) b o t
    → IsPossibleRow cat id (row_in service plan Cleaning None) b o t
cleaned cat id service plan s None b o t on h =
    let (none, nothing) = quiet cat id service plan s b o t h in
    rw (none, nothing) (idle cat id service plan Cleaning b tt h.same tt)
cleaned cat id service plan s (Some k) b o t on h = cc

pub kept_cleaned_up : (cat : Catalogue) (id : ℕ) (states : State → Bool) (p : Option PlatformRow) (b : Option BrokerRow)
    (o : Option Request) (t : Option Answer)
    → is_idle_in states p ≡ true → IsPossibleParts cat id p b o t → IsPossible cat id (cell (cleaned_up p) b o t)
kept_cleaned_up cat id states None b o t on h = h
kept_cleaned_up cat id states (Some row) b o t on h =
    cleaned cat id row.service row.plan row.state row.out b o t (and_first _ _ on) h

-- in a state where a request is due, it may be out
out_due : (s : State) (r : Request) → due s ≡ Some r.kind → r.accepts_incomplete ≡ true → OutByState s (Some r)
out_due Wanted r e f = cc
out_due s r e f = (e, f)

held_due : (mode : Option Mode) (s : State) (b : Option BrokerRow) (r : Request) → due s ≡ Some r.kind
    → HeldByState mode s b None
    → HeldByState mode s b (Some r)
held_due mode Wanted b r e h = cc
held_due mode s b r e h = h

-- an instance with nothing out is sent the request that is due
sent_due : (cat : Catalogue) (id named service plan : ℕ) (s : State) (d : Option Kind) (b : Option BrokerRow) → named
    ≡ id → due s ≡ d
    → is_some d ≡ true → IfSome b (IsRowOf cat service plan) → HeldByState (mode_at cat service plan) s b None
    → IsPossibleRow cat id (row_in service plan s d) b (option_map (request_for named (row_in service plan s None)) d)
    None
sent_due cat id named service plan s None b is e on same holds = cc
sent_due cat id named service plan s (Some k) b is e on same holds = record {
  travels = λ f. refl;
  request = record { same_id = is; same_service = refl; same_plan = refl };
  kind = refl;
  sent = out_due s _ e refl;
  same = same;
  holds = held_due _ s b _ e holds;
  answer = tt;
}

sent_parts : (cat : Catalogue) (id named service plan : ℕ) (s : State) (out : Option Kind) (b : Option BrokerRow)
    (o : Option Request)
    (t : Option Answer) → named ≡ id → (is_none out && is_some (due s)) ≡ true
    → IsPossibleRow cat id (row_in service plan s out) b o t
    → IsPossibleRow cat id (row_in service plan s (due s)) b
    (option_map (request_for named (row_in service plan s out)) (due s)) t
sent_parts cat id named service plan s None b o t is on h =
    let (none, nothing) = quiet cat id service plan s b o t h in
    rw nothing
    (sent_due cat id named service plan s (due s) b is refl on h.same
    (subst (HeldByState (mode_at cat service plan) s b) none h.holds))
sent_parts cat id named service plan s (Some k) b o t is on h = cc

pub kept_send : (cat : Catalogue) (id named : ℕ) (p : Option PlatformRow) (b : Option BrokerRow) (o : Option Request)
    (t : Option Answer)
    → named ≡ id → can_send p ≡ true → IsPossibleParts cat id p b o t
    → IsPossible cat id (changed_cell cat (cell p b o t) (Event.Send named))
kept_send cat id named None b o t is on h = cc
kept_send cat id named (Some row) b o t is on h =
    sent_parts cat id named row.service row.plan row.state row.out b o t is on h

-- with nothing out any more, after a timeout
nothing_due : (s : State) → OutByState (after_timeout s) None
nothing_due Wanted = tt
nothing_due s = tt

still_held : (mode : Option Mode) (s : State) (b : Option BrokerRow) (o : Option Request) → HeldByState mode s b o
    → HeldByState mode (after_timeout s) b None
still_held mode Wanted b o h = tt
still_held mode s b o h = h

pub kept_timeout : (cat : Catalogue) (id : ℕ) (p : Option PlatformRow) (b : Option BrokerRow) (o : Option Request)
    (t : Option Answer)
    → IsPossibleParts cat id p b o t → IsPossible cat id (closed (cell p b o t) (timed_out p))
kept_timeout cat id None b o t h = (h.0, refl, refl)
kept_timeout cat id (Some row) b o t h =
    idle cat id row.service row.plan (after_timeout row.state) b (nothing_due row.state) h.same
    (still_held _ row.state b o h.holds)

-- a restart leaves of a record what a timeout leaves
restart-timeout : (s : State) → after_restart s ≡ after_timeout s
restart-timeout Wanted = refl
restart-timeout s = refl

restarted-timed_out : (p : Option PlatformRow) → restarted p ≡ timed_out p
restarted-timed_out None = refl
restarted-timed_out (Some row) = ap (λ s. Some (in_state s row)) (restart-timeout row.state)

pub kept_restart : (cat : Catalogue) (id : ℕ) (p : Option PlatformRow) (b : Option BrokerRow) (o : Option Request)
    (t : Option Answer)
    → IsPossibleParts cat id p b o t → IsPossible cat id (closed (cell p b o t) (restarted p))
kept_restart cat id p b o t h =
    subst (λ row. IsPossible cat id (closed (cell p b o t) row)) (sym (restarted-timed_out p))
    (kept_timeout cat id p b o t h)
