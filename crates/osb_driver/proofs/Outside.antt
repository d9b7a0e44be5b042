-- An event of the platform, or of the network between, leaves the broker's side as it was.
use Rattle.std.proofs.Common.{◌≡◌, ℕ, Bool, true, false, refl}
use Rattle.std.specs.Prelude.{Option, Some, None, ◌==◌, ◌&&◌, if◌then◌else◌, is_none, is_some, slice_get}
use Rattle.osb_message.specs.declared.messages.Answer.{Answer}
use Rattle.osb_message.specs.declared.messages.Kind.{Kind}
use Rattle.osb_platform.specs.State.{after_timeout, due, is_polling, is_removable}
use Rattle.osb_platform.specs.Statuses.{is_within}
use Rattle.osb_platform.specs.declared.state.State.{State}
use Rattle.osb_platform.specs.declared.state.State.TheVariants.{Cleaning}
use Rattle.osb_instance.specs.Recorded.{Recorded, is_deleting}
use Rattle.osb_network.specs.declared.event.Event.{Event}
use Rattle.osb_network.specs.declared.event.Given.{Given}
use Rattle.osb_network.specs.Cell.{Cell}
use Rattle.osb_network.specs.Steps.{cell_step, clean_up, create, give_up, has_number, next_recorded, send, send_due, take}
use Rattle.osb_network.specs.Steps.{take_garbled, take_gateway, take_given, take_out, unreadable, with_sent, with_state}
use Rattle.osb_driver.specs.World.{is_outside, side_of}

same_if : (x : Bool) (a b c : Cell) → side_of a ≡ side_of c → side_of b ≡ side_of c
    → side_of (if x then a else b) ≡ side_of c
same_if true a b c e f = e
same_if false a b c e f = f

of_create : (c : Cell) (r : Option Recorded) → side_of (create c r) ≡ side_of c
of_create c None = refl
of_create c (Some r) = refl

of_send_due : (c : Cell) (r : Recorded) (out next : Option Kind) → side_of (send_due c r out next) ≡ side_of c
of_send_due c r None (Some k) = same_if (has_number r) (with_sent c (next_recorded r k) k) c c refl refl
of_send_due c r None None = refl
of_send_due c r (Some j) next = refl

of_send : (c : Cell) (r : Option Recorded) → side_of (send c r) ≡ side_of c
of_send c None = refl
of_send c (Some r) = of_send_due c r r.row.out (due r.row.state)

of_clean_up : (states : State → Bool) (c : Cell) (r : Option Recorded) → side_of (clean_up states c r) ≡ side_of c
of_clean_up states c None = refl
of_clean_up states c (Some r) =
    same_if (is_none r.row.out && states r.row.state) (with_state c r Cleaning) c c refl refl

of_give_up : (c : Cell) (r : Option Recorded) → side_of (give_up c r) ≡ side_of c
of_give_up c None = refl
of_give_up c (Some r) = same_if (is_some r.row.out) (with_state c r (after_timeout r.row.state)) c c refl refl

of_take_out : (c : Cell) (r : Recorded) (out : Option Kind) (a : Answer) → side_of (take_out c r out a) ≡ side_of c
of_take_out c r None a = refl
of_take_out c r (Some k) a = refl

of_take : (c : Cell) (r : Option Recorded) (n : ℕ) (a : Answer) → side_of (take c r n a) ≡ side_of c
of_take c None n a = refl
of_take c (Some r) n a =
    same_if (n == r.attempt) (take_out c r r.row.out a) c c (of_take_out c r r.row.out a) refl

of_take_given : (c : Cell) (g : Option Given) → side_of (take_given c g) ≡ side_of c
of_take_given c None = refl
of_take_given c (Some g) = of_take c c.recorded g.attempt g.answer

of_take_garbled : (c : Cell) (g : Option Given) → side_of (take_garbled c g) ≡ side_of c
of_take_garbled c None = refl
of_take_garbled c (Some g) = of_take c c.recorded g.attempt (unreadable g.answer.status)

of_take_gateway : (c : Cell) (r : Option Recorded) (n : ℕ) → side_of (take_gateway c r n) ≡ side_of c
of_take_gateway c None n = refl
of_take_gateway c (Some r) n =
    same_if (is_within 500 599 n) (take_out c r r.row.out (unreadable n)) c c
    (of_take_out c r r.row.out (unreadable n)) refl

pub outside_same : (c : Cell) (e : Event) → is_outside e ≡ true → side_of (cell_step c e) ≡ side_of c
outside_same c Event.Create e = of_create c c.recorded
outside_same c Event.Send e = of_send c c.recorded
outside_same c Event.Expire e = of_clean_up is_polling c c.recorded
outside_same c Event.Retry e = of_clean_up is_deleting c c.recorded
outside_same c Event.Remove e = of_clean_up is_removable c c.recorded
outside_same c Event.Timeout e = of_give_up c c.recorded
outside_same c (Event.Take at) e = of_take_given c (slice_get c.given at)
outside_same c (Event.TakeGarbled at) e = of_take_garbled c (slice_get c.given at)
outside_same c (Event.TakeGateway status) e = of_take_gateway c c.recorded status
outside_same c Event.CrashPlatform e = refl
outside_same c (Event.Arrive attempt) e = cc
outside_same c (Event.PutOff attempt) e = cc
outside_same c (Event.End outcome) e = cc
outside_same c Event.EndUnknown e = cc
outside_same c (Event.Finish ok) e = cc
outside_same c Event.GiveUpWaiting e = cc
outside_same c (Event.Work resource) e = cc
outside_same c Event.CrashBroker e = cc
