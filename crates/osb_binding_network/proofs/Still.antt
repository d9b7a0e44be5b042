-- What the platform records stays while nothing is due and nothing is out.
use Rattle.std.proofs.Common.{◌≡◌, ℕ, Bool, true, false, refl}
use Rattle.std.specs.Prelude.{Option, Some, None, IfSome, ⊤, ◌&&◌, ◌==◌, if◌then◌else◌, is_some, is_none, slice_get}
use Rattle.osb_message.specs.declared.messages.Answer.{Answer}
use Rattle.osb_message.specs.declared.messages.Kind.{Kind}
use Rattle.osb_platform.specs.declared.state.State.{State}
use Rattle.osb_platform.specs.declared.state.State.TheVariants.{Ready, Gone}
use Rattle.osb_platform.specs.State.{due, after_timeout, is_polling, is_removable}
use Rattle.osb_platform.specs.Statuses.{is_within}
use Rattle.osb_instance.specs.Recorded.{Recorded, is_deleting, is_gone_in, is_ready_in}
use Rattle.osb_network.specs.declared.event.Event.{Event}
use Rattle.osb_network.specs.declared.event.Given.{Given}
use Rattle.osb_network.specs.Cell.{Cell, IsPossibleWith}
use Rattle.osb_network.specs.Possible.{sent_in}
use Rattle.osb_network.specs.Steps.{cell_step, create, send, send_due, clean_up, give_up, take, take_out, take_given}
use Rattle.osb_network.specs.Steps.{take_garbled, take_gateway, unreadable, with_state, sent_as, can_finish, end_unknown}
use Rattle.osb_network.specs.Truth.{is_under_way}
use Rattle.osb_instance.specs.Begin.{finished_held, given_up}
use Rattle.osb_network.proofs.Kept.{if_recorded, arrive_recorded, put_off_recorded, end_recorded}
use Rattle.osb_binding_network.specs.Allowed.{is_at_rest, is_ready}

-- the platform polls neither a making nor a deletion
abbrev pub PollsNothing : State → Type 0
PollsNothing s = (is_polling s ≡ false) × (is_deleting s ≡ false)

-- nothing is out, and nothing is due
abbrev pub IsStill : Option Recorded → Type 0
IsStill None = ⊤
IsStill (Some rec) = (rec.row.out ≡ None) × (due rec.row.state ≡ None) × PollsNothing rec.row.state

-- whether the event makes something due: an order or a removal
abbrev pub moves : Event → Option Recorded → Bool
moves Event.Create None = true
moves Event.Remove (Some rec) = is_removable rec.row.state
moves e r = false

create_still : (c : Cell) (r : Option Recorded) → moves Event.Create r ≡ false → (create c r).recorded ≡ c.recorded
create_still c None e = cc
create_still c (Some rec) e = refl

send_due_still : (c : Cell) (rec : Recorded) (out next : Option Kind) → next ≡ None
    → (send_due c rec out next).recorded ≡ c.recorded
send_due_still c rec None None e = refl
send_due_still c rec None (Some k) e = cc
send_due_still c rec (Some j) next e = refl

send_still : (c : Cell) (r : Option Recorded) → IsStill r → (send c r).recorded ≡ c.recorded
send_still c None h = refl
send_still c (Some rec) h = send_due_still c rec rec.row.out (due rec.row.state) h.1

passed_over : (x y : Bool) (a c : Cell) → y ≡ false → (if x && y then a else c).recorded ≡ c.recorded
passed_over true true a c e = cc
passed_over true false a c e = refl
passed_over false y a c e = refl

clean_up_still : (states : State → Bool) (c : Cell) (r : Option Recorded)
    → IfSome r (λ rec. states rec.row.state ≡ false) → (clean_up states c r).recorded ≡ c.recorded
clean_up_still states c None h = refl
clean_up_still states c (Some rec) h = passed_over (is_none rec.row.out) (states rec.row.state) _ c h

not_out : (out : Option Kind) (a c : Cell) → out ≡ None → (if is_some out then a else c).recorded ≡ c.recorded
not_out None a c e = refl
not_out (Some k) a c e = cc

give_up_still : (c : Cell) (r : Option Recorded) → IsStill r → (give_up c r).recorded ≡ c.recorded
give_up_still c None h = refl
give_up_still c (Some rec) h = not_out rec.row.out (with_state c rec (after_timeout rec.row.state)) c h.0

take_out_still : (c : Cell) (rec : Recorded) (out : Option Kind) (a : Answer) → out ≡ None
    → (take_out c rec out a).recorded ≡ c.recorded
take_out_still c rec None a e = refl
take_out_still c rec (Some k) a e = cc

take_still : (c : Cell) (r : Option Recorded) (n : ℕ) (a : Answer) → IsStill r → (take c r n a).recorded ≡ c.recorded
take_still c None n a h = refl
take_still c (Some rec) n a h =
    if_recorded (n == rec.attempt) (take_out c rec rec.row.out a) c (take_out_still c rec rec.row.out a h.0)

take_given_still : (c : Cell) (g : Option Given) → IsStill c.recorded → (take_given c g).recorded ≡ c.recorded
take_given_still c None h = refl
take_given_still c (Some g) h = take_still c c.recorded g.attempt g.answer h

take_garbled_still : (c : Cell) (g : Option Given) → IsStill c.recorded → (take_garbled c g).recorded ≡ c.recorded
take_garbled_still c None h = refl
take_garbled_still c (Some g) h = take_still c c.recorded g.attempt (unreadable g.answer.status) h

take_gateway_still : (c : Cell) (r : Option Recorded) (n : ℕ) → IsStill r → (take_gateway c r n).recorded ≡ c.recorded
take_gateway_still c None n h = refl
take_gateway_still c (Some rec) n h =
    if_recorded (is_within 500 599 n) (take_out c rec rec.row.out (unreadable n)) c
    (take_out_still c rec rec.row.out (unreadable n) h.0)

not_polling : (r : Option Recorded) → IsStill r → IfSome r (λ rec. PollsNothing rec.row.state)
not_polling None h = tt
not_polling (Some rec) h = h.2

polls_no_making : (r : Option Recorded) → IsStill r → IfSome r (λ rec. is_polling rec.row.state ≡ false)
polls_no_making None h = tt
polls_no_making (Some rec) h = (not_polling (Some rec) h).0

polls_no_deletion : (r : Option Recorded) → IsStill r → IfSome r (λ rec. is_deleting rec.row.state ≡ false)
polls_no_deletion None h = tt
polls_no_deletion (Some rec) h = (not_polling (Some rec) h).1

not_removable : (r : Option Recorded) → moves Event.Remove r ≡ false → IfSome r (λ rec. is_removable rec.row.state ≡ false)
not_removable None e = tt
not_removable (Some rec) e = e

unknown_still : (c : Cell) (w : Option ℕ) → (end_unknown c w).recorded ≡ c.recorded
unknown_still c None = refl
unknown_still c (Some n) = refl

-- whatever happens but an order or a removal
pub still_recorded : (c : Cell) (e : Event) → IsStill c.recorded → moves e c.recorded ≡ false
    → (cell_step c e).recorded ≡ c.recorded
still_recorded c Event.Create h m = create_still c c.recorded m
still_recorded c Event.Send h m = send_still c c.recorded h
still_recorded c Event.Expire h m = clean_up_still is_polling c c.recorded (polls_no_making c.recorded h)
still_recorded c Event.Retry h m = clean_up_still is_deleting c c.recorded (polls_no_deletion c.recorded h)
still_recorded c Event.Remove h m = clean_up_still is_removable c c.recorded (not_removable c.recorded m)
still_recorded c Event.Timeout h m = give_up_still c c.recorded h
still_recorded c (Event.Arrive n) h m = arrive_recorded c (sent_as c.sent n)
still_recorded c (Event.PutOff n) h m = put_off_recorded c (sent_as c.sent n)
still_recorded c (Event.Take at) h m = take_given_still c (slice_get c.given at) h
still_recorded c (Event.TakeGarbled at) h m = take_garbled_still c (slice_get c.given at) h
still_recorded c (Event.TakeGateway n) h m = take_gateway_still c c.recorded n h
still_recorded c (Event.End oc) h m = end_recorded c c.held.work oc
still_recorded c Event.EndUnknown h m = unknown_still c c.worker
still_recorded c (Event.Finish ok) h m =
    if_recorded (can_finish c ok) (record c { held = finished_held c.held ok }) c refl
still_recorded c (Event.Work u) h m = if_recorded (is_under_way c.held) (record c { resource = u }) c refl
still_recorded c Event.GiveUpWaiting h m =
    if_recorded c.held.waiting (record c { held = given_up c.held }) c refl
still_recorded c Event.CrashBroker h m = refl
still_recorded c Event.CrashPlatform h m = refl

-- so it is of what is recorded `ready`, `gone` or not at all
ready_in : (s : State) (out : Option Kind) → IfSome out (λ k. sent_in s ≡ Some k) → is_ready_in s ≡ true
    → (out ≡ None) × (due s ≡ None) × PollsNothing s
ready_in Ready None is e = (refl, refl, (refl, refl))
ready_in Ready (Some k) is e = cc
ready_in s out is e = cc

gone_in : (s : State) (out : Option Kind) → IfSome out (λ k. sent_in s ≡ Some k) → is_gone_in s ≡ true
    → (out ≡ None) × (due s ≡ None) × PollsNothing s
gone_in Gone None is e = (refl, refl, (refl, refl))
gone_in Gone (Some k) is e = cc
gone_in s out is e = cc

pub ready_still : (c : Cell) (r : Option Recorded) → IsPossibleWith c r → is_ready r ≡ true → IsStill r
ready_still c None h e = tt
ready_still c (Some rec) h e = ready_in rec.row.state rec.row.out h.parts.is_out e

pub rest_still : (c : Cell) (r : Option Recorded) → IsPossibleWith c r → is_at_rest r ≡ true → IsStill r
rest_still c None h e = tt
rest_still c (Some rec) h e = gone_in rec.row.state rec.row.out h.parts.is_out e
