-- Of an event that doesn't apply, the reason that is told is so.
use Rattle.std.proofs.Common.{◌≡◌, Bool, true, false, refl}
use Rattle.std.specs.Prelude.{Option, Some, None, ◌&&◌, is_none, is_some, IsSome, IsTrue, if◌then◌else◌}
use Rattle.osb_broker.specs.declared.row.BrokerRow.{BrokerRow}
use Rattle.osb_event.specs.declared.event.Event.{Event}
use Rattle.osb_message.specs.declared.messages.Answer.{Answer}
use Rattle.osb_message.specs.declared.messages.Kind.{Kind}
use Rattle.osb_message.specs.declared.messages.Request.{Request}
use Rattle.osb_platform.specs.State.{due, is_polling, is_removable}
use Rattle.osb_platform.specs.declared.row.PlatformRow.{PlatformRow}
use Rattle.osb_trace.specs.Reasons.{reason_of, IsReason, IsSpoken}
use Rattle.osb_trace.specs.declared.reason.Reason.{Reason}
use Rattle.osb_trace.specs.declared.reason.Reason.TheVariants.{Busy, NothingDue, NotPolling, NotRemovable}
use Rattle.osb_world.specs.Steps.{applies}
use Rattle.osb_world.specs.declared.cell.Cell.{Cell}

none_is : {A : Type 0} (o : Option A) → is_some o ≡ false → o ≡ None
none_is None lacks = refl
none_is (Some a) lacks = cc

either : (P : Reason → Type 0) (b : Bool) (one other : Reason) → (b ≡ true → P one) → (b ≡ false → P other)
    → P (if b then one else other)
either P true one other f g = f refl
either P false one other f g = g refl

-- where the state alone would allow it, a request is out
is_out : (out : Option Kind) (allowed : Bool) → (is_none out && allowed) ≡ false → allowed ≡ true → IsSome out
is_out None allowed off on = cc
is_out (Some kind) allowed off on = refl

is_busy : (out : Option Kind) (allowed : Bool) → (is_none out && allowed) ≡ false → allowed ≡ true
    → IsSome out × IsTrue allowed
is_busy out allowed off on = (is_out out allowed off on, on)

none_out : (out : Option Request) (within : Bool) → (is_some out && within) ≡ false → IsTrue within → out ≡ None
none_out None within off spoken = refl
none_out (Some request) within off spoken = cc

-- the cell of these parts
abbrev cell_of : Option PlatformRow → Option BrokerRow → Option Request → Option Answer → Cell
cell_of p b o t = record { platform = p; broker = b; out = o; travelling = t }

abbrev known : PlatformRow → Option BrokerRow → Option Request → Option Answer → Cell
known row b o t = cell_of (Some row) b o t

known_so : (row : PlatformRow) (b : Option BrokerRow) (o : Option Request) (t : Option Answer) (e : Event)
    → applies (known row b o t) e ≡ false
    → IsSpoken e
    → IsReason (known row b o t) e
    (reason_of (known row b o t) e)
known_so row b o t (Event.Create id service plan accepts) off spoken = refl
known_so row b o t (Event.Remove id) off spoken =
    either (IsReason (known row b o t) (Event.Remove id)) (is_removable row.state) Busy
    NotRemovable (is_busy row.out _ off) (λ not. not)
known_so row b o t (Event.Send id) off spoken =
    either (IsReason (known row b o t) (Event.Send id)) (is_some (due row.state)) Busy
    NothingDue (is_busy row.out _ off) (none_is (due row.state))
known_so row b o t (Event.Deliver id outcome) off spoken = none_is o off
known_so row b o t (Event.Repeat id outcome) off spoken = none_is t off
known_so row b o t (Event.Lose id) off spoken = none_is t off
known_so row b o t (Event.Garble id) off spoken = none_is t off
known_so row b o t (Event.Gateway id status) off spoken = none_out o _ off spoken
known_so row b o t (Event.Answer id) off spoken = none_is t off
known_so row b o t (Event.Timeout id) off spoken = none_is o off
known_so row b o t (Event.Expire id) off spoken =
    either (IsReason (known row b o t) (Event.Expire id)) (is_polling row.state) Busy
    NotPolling (is_busy row.out _ off) (λ not. not)
known_so row b o t (Event.Finish id ok) off spoken = off
known_so row b o t Event.Restart off spoken = cc

-- the parts of a cell
so_of : (p : Option PlatformRow) (b : Option BrokerRow) (o : Option Request) (t : Option Answer) (e : Event)
    → applies (cell_of p b o t) e ≡ false
    → IsSpoken e
    → IsReason (cell_of p b o t) e
    (reason_of (cell_of p b o t) e)
so_of None b o t e off spoken = refl
so_of (Some row) b o t e off spoken = known_so row b o t e off spoken

pub reason_so : (cell : Cell) (event : Event) → applies cell event ≡ false → IsSpoken event
    → IsReason cell event (reason_of cell event)
reason_so cell event off spoken =
    so_of cell.platform cell.broker cell.out cell.travelling event off spoken
