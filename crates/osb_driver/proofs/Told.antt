-- An answer that a driver comes to is the one that the network has given to its request.
use Rattle.std.proofs.Common.{◌≡◌, ℕ, Bool, true, false, inl, inr, refl, sym, ap, subst, ◌∙◌, [], ◌∷◌, ◌++◌}
use Rattle.std.specs.Prelude.{Option, Some, None, IfSome, slice_get}
use Rattle.osb_message.specs.declared.messages.Answer.{Answer}
use Rattle.osb_message.specs.declared.messages.Request.{Request}
use Rattle.osb_instance.specs.declared.outcome.WorkOutcome.{WorkOutcome}
use Rattle.osb_instance.specs.declared.record.Sent.{Sent}
use Rattle.osb_instance.specs.declared.work.Begun.{Begun}
use Rattle.osb_instance.specs.declared.work.Begun.TheVariants.{Answered}
use Rattle.osb_instance.specs.Begin.{busy, is_operating, worked}
use Rattle.osb_instance.specs.Held.{Held}
use Rattle.osb_network.specs.Cell.{Cell}
use Rattle.osb_network.specs.Steps.{arrived, cell_steps, sent_as}
use Rattle.osb_network.specs.declared.event.Event.{Event}
use Rattle.osb_driver.specs.Driver.{end, finish, finish_by, first, first_by as first_tx, resume}
use Rattle.osb_driver.specs.declared.driver.Driver.{Driver}
use Rattle.osb_driver.specs.declared.driver.Permit.{Permit}
use Rattle.osb_driver.specs.declared.driver.Stage.{Stage}
use Rattle.osb_driver.specs.World.{AreGiven, AreNumbered, IsGiven, IsGivenBy}
use Rattle.osb_driver.specs.World.{Knows, KnowsEnd, WorldState, begin_of, events_of, first_of, is_owner, side_of}
use Rattle.osb_driver.specs.World.{transaction_of}
use Rattle.osb_driver.proofs.Kept.{arrived_is, begun_now, begun_unless, effect_of, end_is, end_tx, ended_given, is_normal, is_put_off}
use Rattle.osb_driver.proofs.Kept.{normal, number_of, owner_is, owner_knows, put_off_is, GoesIn}
use Rattle.osb_driver.proofs.Moves.{can_end_so}

done_given : (b c : Cell) (a : Option ℕ) → IsGiven b c a Stage.Done
done_given b c None = tt
done_given b c (Some n) = tt

-- at once
given_at : (c : Cell) (n : ℕ) (sent : Sent) (x : Held) (a : Answer) → sent.attempt ≡ n
    → (arrived c sent x (Answered a)).given ≡ c.given ++ record { attempt = n; answer = a } ∷ []
given_at c n sent x a e = ap (λ (k : ℕ). c.given ++ record { attempt = k; answer = a } ∷ []) e

first_given : (c : Cell) (n : ℕ) (sent : Sent) (locked put_off : Bool) (x : Held) (b : Begun) → sent.attempt ≡ n
    → cell_steps c (events_of (effect_of put_off b) (Some n)) ≡ arrived c sent x b
    → IsGivenBy c (Some n) (first_tx locked put_off c.held sent.request x b)
first_given c n sent locked put_off x (Answered a) num eq =
    inl (ap (λ (y : Cell). y.given) eq ∙ given_at c n sent x a num)
first_given c n sent true put_off x (Begun.Work w) num eq = tt
first_given c n sent false put_off x (Begun.Work w) num eq = tt

begun_given : (s : WorldState) (locked o put_off : Bool) (n : ℕ) (sent : Sent) → sent_as s.cell.sent n ≡ Some sent
    → AreNumbered s.cell
    → IsGivenBy s.cell (Some n)
    (first locked o put_off s.cell.held sent.request (begun_unless put_off s sent.request))
begun_given s locked true put_off n sent found num = tt
begun_given s locked false true n sent found num =
    first_given s.cell n sent locked true s.cell.held (Answered (busy sent.request.kind)) (number_of s.cell n sent num found)
    (put_off_is s.cell (Some n) n sent refl found)
begun_given s locked false false n sent found num =
    let b = begun_now s sent.request in
    first_given s.cell n sent locked false b.0 b.1 (number_of s.cell n sent num found)
    (arrived_is s.cell (Some n) n sent b.0 b.1 refl found refl)

sent_given : (s : WorldState) (at : ℕ) (may : Permit) (locked : Bool) (n : ℕ) (x : Option Sent) → sent_as s.cell.sent n ≡ x
    → AreNumbered s.cell → IfSome (first_of (normal s) at may locked x) (IsGivenBy s.cell (Some n))
sent_given s at may locked n None found num = tt
sent_given s at may locked n (Some sent) found num =
    begun_given s locked (is_owner s.owner at) (is_put_off s may sent.request) n sent found num

begin_given : (s : WorldState) (at : ℕ) (may : Permit) (a : Option ℕ) (locked : Bool) → AreNumbered s.cell
    → IfSome (begin_of (normal s) at may a locked) (IsGivenBy s.cell a)
begin_given s at may None locked num = tt
begin_given s at may (Some n) locked num = sent_given s at may locked n (sent_as s.cell.sent n) refl num

resume_given : (c : Cell) (a : Option ℕ) (o : Bool) (x : Held) (w : Option Request) → IsGivenBy c a (resume o x w)
resume_given c None false x w = tt
resume_given c None true x None = tt
resume_given c None true x (Some r) = tt
resume_given c (Some n) false x w = tt
resume_given c (Some n) true x None = tt
resume_given c (Some n) true x (Some r) = tt

-- by the end of work
end_given : (s : WorldState) (n : ℕ) (out : WorkOutcome) (before : Option Answer) (w : Option Request)
    → s.cell.held.work ≡ w → KnowsEnd (side_of s.cell) (Some n) out before w
    → IsGivenBy s.cell (Some n) (end (Some n) true s.cell.order.mode s.cell.held out before w)
end_given s n out None None e k = absurd k
end_given s n out (Some x) None e k = inr k
end_given s n out before (Some r) e k =
    let x = worked s.cell.order.mode s.cell.held r out in
    subst (IsGivenBy s.cell (Some n))
    (sym (end_tx (Some n) s.cell.order.mode s.cell.held out before r
    (can_end_so s.cell.order.mode r out s.cell.resource k.0)))
    (inl (ap (λ (y : Cell). y.given) (end_is s.cell out r e k.0)
    ∙ ended_given s.cell x.0 x.1 n s.cell.worker k.1))

owned_given : (s : WorldState) (a : Option ℕ) (out : WorkOutcome) (before : Option Answer)
    → Knows (side_of s.cell) a (Stage.End out before)
    → IsGivenBy s.cell a (end a true s.cell.order.mode s.cell.held out before s.cell.held.work)
owned_given s None out before k = tt
owned_given s (Some n) out before k = end_given s n out before s.cell.held.work refl k

ends_given : (s : WorldState) (at : ℕ) (d : Driver) (out : WorkOutcome) (before : Option Answer) (o : Bool)
    → slice_get s.drivers at ≡ Some d → d.stage ≡ Stage.End out before → is_owner s.owner at ≡ o → GoesIn s
    → IsGivenBy s.cell d.attempt (end d.attempt o s.cell.order.mode s.cell.held out before s.cell.held.work)
ends_given s at d out before false is st o g = done_given s.cell s.cell d.attempt
ends_given s at d out before true is st o g =
    owned_given s d.attempt out before (owner_knows s at d (Stage.End out before) is st (owner_is s.owner at o) g)

finish_given : (c : Cell) (a : Option ℕ) (o : Bool) (x : Held) (ok : Bool) → IsGivenBy c a (finish_by o x ok)
finish_given c a true x ok = done_given c (cell_steps c (Event.Finish ok ∷ [])) a
finish_given c a false x ok = done_given c c a

finishes_given : (c : Cell) (a : Option ℕ) (o : Bool) (x : Held) (ok : Bool) → IsGivenBy c a (finish o x ok)
finishes_given c a false x ok = done_given c c a
finishes_given c a true x ok = finish_given c a (is_operating x) x ok

transaction_given : (s : WorldState) (at : ℕ) (may : Permit) (d : Driver) (stage : Stage) → slice_get s.drivers at ≡ Some d
    → d.stage ≡ stage → AreNumbered s.cell → GoesIn s
    → IfSome (transaction_of (normal s) at may d.attempt stage) (IsGivenBy s.cell d.attempt)
transaction_given s at may d (Stage.Begin locked) is st num g = begin_given s at may d.attempt locked num
transaction_given s at may d Stage.Unsure is st num g =
    resume_given s.cell d.attempt (is_owner s.owner at) s.cell.held s.cell.held.work
transaction_given s at may d (Stage.End out before) is st num g =
    ends_given s at d out before (is_owner s.owner at) is st refl g
transaction_given s at may d (Stage.Finish ok) is st num g =
    finishes_given s.cell d.attempt (is_owner s.owner at) s.cell.held ok
transaction_given s at may d Stage.TryLock is st num g = tt
transaction_given s at may d Stage.AwaitLock is st num g = tt
transaction_given s at may d (Stage.Work task) is st num g = tt
transaction_given s at may d (Stage.Answer answer) is st num g = tt
transaction_given s at may d Stage.Done is st num g = tt

abbrev IsGivenAt : WorldState → ℕ → Permit → Driver → Type 0
IsGivenAt s at may d = IfSome (transaction_of s at may d.attempt d.stage) (IsGivenBy s.cell d.attempt)

pub are_given : AreGiven
are_given s num sound at may d is =
    subst (λ (x : WorldState). IsGivenAt x at may d) (is_normal s sound.row sound.resource)
    (transaction_given s at may d d.stage is refl num sound.goes)
