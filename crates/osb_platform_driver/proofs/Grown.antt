-- What was sent and given stays so, at its place, and the order stays the same.
use Rattle.std.proofs.Common.{◌≡◌, ◌⊎◌, ℕ, zero, suc, Bool, true, false, inl, inr, refl, sym, ap, subst, ◌∙◌}
use Rattle.std.proofs.Common.{List, [], ◌∷◌, ◌++◌}
use Rattle.std.specs.Prelude.{Option, Some, None, IsSome, IsSomeAnd, ◌-◌, ◌==◌, ◌&&◌, if◌then◌else◌, is_none, is_some, slice_get}
use Rattle.osb_message.specs.declared.messages.Answer.{Answer}
use Rattle.osb_message.specs.declared.messages.Kind.{Kind}
use Rattle.osb_message.specs.declared.messages.Request.{Request}
use Rattle.osb_platform.specs.declared.state.State.{State}
use Rattle.osb_platform.specs.State.{due, is_polling, is_removable}
use Rattle.osb_platform.specs.Statuses.{is_within}
use Rattle.osb_instance.specs.declared.outcome.WorkOutcome.{WorkOutcome}
use Rattle.osb_instance.specs.declared.record.Sent.{Sent}
use Rattle.osb_instance.specs.declared.work.Begun.{Begun}
use Rattle.osb_instance.specs.declared.work.Begun.TheVariants.{Answered}
use Rattle.osb_instance.specs.Begin.{begun, busy, worked}
use Rattle.osb_instance.specs.Held.{Held}
use Rattle.osb_instance.specs.Recorded.{Recorded, is_deleting}
use Rattle.osb_network.specs.Cell.{Cell}
use Rattle.osb_network.specs.Steps.{arrive, arrived, can_finish, cell_step, cell_steps, clean_up, create, end, end_unknown, ended}
use Rattle.osb_network.specs.Steps.{give_up, has_number, put_off, send, send_due, sent_as, take, take_garbled, take_gateway}
use Rattle.osb_network.specs.Steps.{take_given, take_out, unknown, unreadable}
use Rattle.osb_network.specs.Truth.{is_true_end, is_under_way}
use Rattle.osb_network.specs.declared.event.Event.{Event}
use Rattle.osb_network.specs.declared.event.Given.{Given}
use Rattle.osb_platform_driver.specs.declared.driver.Stage.{Stage}
use Rattle.osb_platform_driver.specs.declared.world.Source.{Source}
use Rattle.osb_platform_driver.specs.World.{IsFrom, IsGarbledOf, KnowsAt}

-- the same order; no answer more was given, or one; no request more was sent, or one
abbrev IsLater : Cell → Cell → Type 0
IsLater c n =
    (n.order ≡ c.order) × ((n.given ≡ c.given) ⊎ ((x : Given) × (n.given ≡ c.given ++ x ∷ [])))
    × ((n.sent ≡ c.sent) ⊎ ((x : Sent) × (n.sent ≡ c.sent ++ x ∷ [])))

later_if : (b : Bool) (c x y : Cell) → IsLater c x → IsLater c y → IsLater c (if b then x else y)
later_if true c x y p q = p
later_if false c x y p q = q

same : (c : Cell) → IsLater c c
same c = (refl, inl refl, inl refl)

later_create : (c : Cell) (r : Option Recorded) → IsLater c (create c r)
later_create c None = (refl, inl refl, inr (_, refl))
later_create c (Some r) = (refl, inl refl, inl refl)

later_due : (c : Cell) (r : Recorded) (out next : Option Kind) → IsLater c (send_due c r out next)
later_due c r None None = (refl, inl refl, inl refl)
later_due c r None (Some kind) = later_if (has_number r) c _ c (refl, inl refl, inr (_, refl)) (refl, inl refl, inl refl)
later_due c r (Some k) None = (refl, inl refl, inl refl)
later_due c r (Some k) (Some kind) = (refl, inl refl, inl refl)

later_send : (c : Cell) (r : Option Recorded) → IsLater c (send c r)
later_send c None = (refl, inl refl, inl refl)
later_send c (Some r) = later_due c r r.row.out (due r.row.state)

later_clean : (states : State → Bool) (c : Cell) (r : Option Recorded) → IsLater c (clean_up states c r)
later_clean states c None = (refl, inl refl, inl refl)
later_clean states c (Some r) = later_if (is_none r.row.out && states r.row.state) c _ c (refl, inl refl, inl refl) (refl, inl refl, inl refl)

later_give_up : (c : Cell) (r : Option Recorded) → IsLater c (give_up c r)
later_give_up c None = (refl, inl refl, inl refl)
later_give_up c (Some r) = later_if (is_some r.row.out) c _ c (refl, inl refl, inl refl) (refl, inl refl, inl refl)

later_out : (c : Cell) (r : Recorded) (out : Option Kind) (a : Answer) → IsLater c (take_out c r out a)
later_out c r None a = (refl, inl refl, inl refl)
later_out c r (Some kind) a = (refl, inl refl, inl refl)

later_take : (c : Cell) (r : Option Recorded) (n : ℕ) (a : Answer) → IsLater c (take c r n a)
later_take c None n a = (refl, inl refl, inl refl)
later_take c (Some r) n a = later_if (n == r.attempt) c _ c (later_out c r r.row.out a) (refl, inl refl, inl refl)

later_given : (c : Cell) (g : Option Given) → IsLater c (take_given c g)
later_given c None = (refl, inl refl, inl refl)
later_given c (Some g) = later_take c c.recorded g.attempt g.answer

later_garbled : (c : Cell) (g : Option Given) → IsLater c (take_garbled c g)
later_garbled c None = (refl, inl refl, inl refl)
later_garbled c (Some g) = later_take c c.recorded g.attempt (unreadable g.answer.status)

later_gateway : (c : Cell) (r : Option Recorded) (s : ℕ) → IsLater c (take_gateway c r s)
later_gateway c None s = (refl, inl refl, inl refl)
later_gateway c (Some r) s =
    later_if (is_within 500 599 s) c _ c (later_out c r r.row.out (unreadable s)) (refl, inl refl, inl refl)

later_arrived : (c : Cell) (sent : Sent) (h : Held) (b : Begun) → IsLater c (arrived c sent h b)
later_arrived c sent h (Answered a) = (refl, inr (record { attempt = sent.attempt; answer = a }, refl), inl refl)
later_arrived c sent h (Begun.Work w) = (refl, inl refl, inl refl)

later_arrive : (c : Cell) (sent : Option Sent) → IsLater c (arrive c sent)
later_arrive c None = (refl, inl refl, inl refl)
later_arrive c (Some sent) =
    let after = begun c.order.mode c.order.first_poll c.held sent.request c.order.attributes in
    later_arrived c sent after.0 after.1

later_put_off : (c : Cell) (sent : Option Sent) → IsLater c (put_off c sent)
later_put_off c None = (refl, inl refl, inl refl)
later_put_off c (Some sent) = (refl, inr (record { attempt = sent.attempt; answer = busy sent.request.kind }, refl), inl refl)

later_ended : (c : Cell) (h : Held) (a : Answer) (w : Option ℕ) → IsLater c (ended c h a w)
later_ended c h a None = (refl, inl refl, inl refl)
later_ended c h a (Some n) = (refl, inr (record { attempt = n; answer = a }, refl), inl refl)

later_end : (c : Cell) (r : Option Request) (out : WorkOutcome) → IsLater c (end c r out)
later_end c None out = (refl, inl refl, inl refl)
later_end c (Some r) out =
    let after = worked c.order.mode c.held r out in
    later_if (is_true_end c.order.mode r.kind out c.resource) c _ c (later_ended c after.0 after.1 c.worker) (refl, inl refl, inl refl)

later_unknown : (c : Cell) (w : Option ℕ) → IsLater c (end_unknown c w)
later_unknown c None = (refl, inl refl, inl refl)
later_unknown c (Some n) = (refl, inr (record { attempt = n; answer = unknown }, refl), inl refl)

later_step : (c : Cell) (e : Event) → IsLater c (cell_step c e)
later_step c Event.Create = later_create c c.recorded
later_step c Event.Send = later_send c c.recorded
later_step c Event.Expire = later_clean is_polling c c.recorded
later_step c Event.Retry = later_clean is_deleting c c.recorded
later_step c Event.Remove = later_clean is_removable c c.recorded
later_step c Event.Timeout = later_give_up c c.recorded
later_step c (Event.Arrive n) = later_arrive c (sent_as c.sent n)
later_step c (Event.PutOff n) = later_put_off c (sent_as c.sent n)
later_step c (Event.Take at) = later_given c (slice_get c.given at)
later_step c (Event.TakeGarbled at) = later_garbled c (slice_get c.given at)
later_step c (Event.TakeGateway s) = later_gateway c c.recorded s
later_step c (Event.End out) = later_end c c.held.work out
later_step c Event.EndUnknown = later_unknown c c.worker
later_step c (Event.Finish ok) = later_if (can_finish c ok) c _ c (refl, inl refl, inl refl) (refl, inl refl, inl refl)
later_step c Event.GiveUpWaiting = later_if c.held.waiting c _ c (refl, inl refl, inl refl) (refl, inl refl, inl refl)
later_step c (Event.Work t) = later_if (is_under_way c.held) c _ c (refl, inl refl, inl refl) (refl, inl refl, inl refl)
later_step c Event.CrashBroker = (refl, inl refl, inl refl)
later_step c Event.CrashPlatform = (refl, inl refl, inl refl)

-- ---- places

get_left : {X : Type 0} (xs : List X) (y : X) (at : ℕ) (x : X) → slice_get xs at ≡ Some x → slice_get (xs ++ y ∷ []) at ≡ Some x
get_left [] y at x e = cc
get_left (z ∷ xs) y zero x e = e
get_left (z ∷ xs) y (suc at) x e = get_left xs y at x e

abbrev HasAll : {X : Type 0} → List X → List X → Type 0
HasAll {X} xs ys = (at : ℕ) (x : X) → slice_get xs at ≡ Some x → slice_get ys at ≡ Some x

has_all : {X : Type 0} (xs ys : List X) → (ys ≡ xs) ⊎ ((x : X) × (ys ≡ xs ++ x ∷ [])) → HasAll xs ys
has_all xs ys (inl e) at x is = ap (λ (zs : List _). slice_get zs at) e ∙ is
has_all xs ys (inr more) at x is = ap (λ (zs : List _). slice_get zs at) more.1 ∙ get_left xs more.0 at x is

-- all that was sent and given before is where it was
pub record Grows (c n : Cell) : Type 0 where
  pub order : n.order ≡ c.order
  pub given : HasAll c.given n.given
  pub sent : HasAll c.sent n.sent

pub grows_steps : (c : Cell) (es : List Event) → Grows c (cell_steps c es)
grows_steps c [] = record { order = refl; given = λ at x is. is; sent = λ at x is. is }
grows_steps c (e ∷ es) =
    let n = cell_step c e in
    let one = later_step c e in
    let more = grows_steps n es in
    record {
      order = more.order ∙ one.0;
      given = λ at x is. more.given at x (has_all c.given n.given one.1 at x is);
      sent = λ at x is. more.sent at x (has_all c.sent n.sent one.2 at x is);
    }

-- ---- what drivers know

number_grows : (b : Bool) (c n : Cell) (at : ℕ) (x : Sent) → Grows c n
    → (if b then None else slice_get c.sent at) ≡ Some x → (if b then None else slice_get n.sent at) ≡ Some x
number_grows true c n at x grow is = is
number_grows false c n at x grow is = grow.sent at x is

garbled_grows : (c n : Cell) (at k : ℕ) (a : Answer) (o : Option Given) → Grows c n → slice_get c.given at ≡ o
    → IsSomeAnd o (IsGarbledOf k a) → IsSomeAnd (slice_get n.given at) (IsGarbledOf k a)
garbled_grows c n at k a None grow e is = absurd is
garbled_grows c n at k a (Some g) grow e is =
    subst (λ (o : Option Given). IsSomeAnd o (IsGarbledOf k a)) (sym (grow.given at g e)) is

from_grows : (c n : Cell) (k : ℕ) (a : Option Answer) (source : Source) → Grows c n → IsFrom c.given k a source
    → IsFrom n.given k a source
from_grows c n k None Source.Nowhere grow from = tt
from_grows c n k (Some a) (Source.Given at) grow from = grow.given at _ from
from_grows c n k (Some a) (Source.Garbled at) grow from = garbled_grows c n at k a (slice_get c.given at) grow refl from
from_grows c n k (Some a) (Source.Gateway s) grow from = from
from_grows c n k None (Source.Given at) grow from = absurd from
from_grows c n k None (Source.Garbled at) grow from = absurd from
from_grows c n k None (Source.Gateway s) grow from = absurd from
from_grows c n k (Some a) Source.Nowhere grow from = absurd from

pub nothing : false ≡ true → ⊥
nothing e = cc

some_number : (b : Bool) (c n : Cell) (at : ℕ) (o : Option Sent) → Grows c n
    → (if b then None else slice_get c.sent at) ≡ o → IsSome o → IsSome (if b then None else slice_get n.sent at)
some_number b c n at None grow e some = absurd (nothing some)
some_number b c n at (Some x) grow e some = subst IsSome (sym (number_grows b c n at x grow e)) refl

pub knows_on : (c n : Cell) (stage : Stage) (source : Source) → Grows c n → KnowsAt c stage source → KnowsAt n stage source
knows_on c n (Stage.Take k a) source grow is =
    (some_number (k == 0) c n (k - 1) (sent_as c.sent k) grow refl is.0, from_grows c n k a source grow is.1)
knows_on c n (Stage.Send sent) source grow is =
    number_grows (sent.attempt == 0) c n (sent.attempt - 1) sent grow is
knows_on c n Stage.Claim source grow is = tt
knows_on c n (Stage.Unsure k) source grow is = tt
knows_on c n Stage.Done source grow is = tt
