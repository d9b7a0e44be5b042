-- No rule stops or puts off what happens in a fault-free round, if the platform keeps its rules.
use Rattle.std.proofs.Common.{◌≡◌, ℕ, Bool, true, false, refl, ap, ◌∙◌}
use Rattle.std.specs.Prelude.{Option, Some, None, IsSomeAnd, ◌||◌, not, if◌then◌else◌, is_some}
use Rattle.osb_message.specs.declared.messages.Kind.{Kind}
use Rattle.osb_message.specs.declared.messages.Request.{Request}
use Rattle.osb_broker.specs.declared.row.BrokerRow.{BrokerRow}
use Rattle.osb_broker.specs.declared.row.Phase.{Phase}
use Rattle.osb_instance.specs.Begin.{is_held, is_there}
use Rattle.osb_instance.specs.Fits as fits
use Rattle.osb_instance.specs.Held.{Held}
use Rattle.osb_instance.specs.Recorded.{Recorded}
use Rattle.osb_network.specs.declared.event.Event.{Event}
use Rattle.osb_network.specs.Agreement.{IsNowhere}
use Rattle.osb_network.specs.Cell.{Cell, IsPossible}
use Rattle.osb_network.specs.Settling.{number_out}
use Rattle.osb_network.proofs.Agreements.{agrees}
use Rattle.osb_binding_network.specs.declared.rules.Rules.{Rules}
use Rattle.osb_binding_network.specs.Allowed.{at_peace_by, begins, is_at_rest, is_ready, may_bind, may_work}
use Rattle.osb_binding_network.specs.Related.{IsRelated}
use Rattle.osb_binding_network.specs.Together.{HoldsAtPeace}
use Rattle.osb_binding_network.proofs.Still.{IsStill, ready_still, rest_still}
use Rattle.osb_binding_network.proofs.Together.{by_cases, both, nowhere_by, there_at_peace, there_by}

-- nothing is out: the number that no request has
none_out : (out : Option Kind) (n : ℕ) → out ≡ None → (if is_some out then n else 0) ≡ 0
none_out None n e = refl
none_out (Some k) n e = cc

pub number_none : (r : Option Recorded) → IsStill r → number_out r ≡ 0
number_none None h = refl
number_none (Some rec) h = none_out rec.row.out rec.attempt h.0

still_begins : (c : Cell) → IsStill c.recorded → begins c (number_out c.recorded) ≡ false
still_begins c h = ap (begins c) (number_none c.recorded h)

-- what is out begins nothing, or may
abbrev IsLet : Bool → Cell → Type 0
IsLet work c = (work || not (begins c (number_out c.recorded))) ≡ true

idle_let : (work begun : Bool) → begun ≡ false → (work || not begun) ≡ true
idle_let true begun e = refl
idle_let false false e = refl
idle_let false true e = cc

may_let : (work begun : Bool) → work ≡ true → (work || not begun) ≡ true
may_let true begun e = refl
may_let false begun e = cc

not_held : (h : Held) → h.row ≡ None → h.work ≡ None → is_held h ≡ false
not_held h row work =
    ap (λ (b : Option BrokerRow). is_some b || is_some h.work) row ∙ ap (λ (w : Option Request). is_some w) work

unless_held : (keeps held : Bool) → held ≡ false → (not keeps || not held) ≡ true
unless_held true false e = refl
unless_held false held e = refl
unless_held true true e = cc

where_there : (keeps there : Bool) → there ≡ true → (not keeps || there) ≡ true
where_there true true e = refl
where_there false there e = refl
where_there true false e = cc

peace_at : (b : Option BrokerRow) (w : Option Request) → IsSomeAnd b (λ row. row.phase ≡ Phase.Ready) → w ≡ None
    → at_peace_by b w ≡ true
peace_at None w at e = absurd at
peace_at (Some b) None at e = ap fits.is_ready at
peace_at (Some b) (Some q) at e = cc

-- of the instance: what is ready has nothing out, and else this binding is at rest
pub works_unless_ready : (r : Rules) (i b : Cell) → IsRelated r i b → IsPossible b → r.platform ≡ true
    → is_ready i.recorded ≡ false → may_work r b ≡ true
works_unless_ready r i b related possible p unready =
    by_cases (may_work r b ≡ true) (is_at_rest b.recorded)
    (λ rest. (let nowhere : IsNowhere b = nowhere_by b b.recorded refl (agrees b possible) rest in
    unless_held r.broker (is_held b.held) (not_held b.held nowhere.1 nowhere.2)))
    (λ on. absurd (both (is_ready i.recorded) (related.platform p on) unready))

pub lets_instance : (i : Cell) (work : Bool) → IsPossible i → (is_ready i.recorded ≡ false → work ≡ true)
    → IsLet work i
lets_instance i work possible may =
    by_cases (IsLet work i) (is_ready i.recorded)
    (λ ready. idle_let work (begins i (number_out i.recorded)) (still_begins i (ready_still i i.recorded possible ready)))
    (λ unready. may_let work (begins i (number_out i.recorded)) (may unready))

-- of the binding: what is at rest has nothing out, and else the instance is there
pub lets_binding : (r : Rules) (i b : Cell) → IsRelated r i b → IsPossible i → IsPossible b → r.platform ≡ true
    → IsLet (may_bind r i) b
lets_binding r i b related possible bound p =
    by_cases (IsLet (may_bind r i) b) (is_at_rest b.recorded)
    (λ rest. idle_let (may_bind r i) (begins b (number_out b.recorded)) (still_begins b (rest_still b b.recorded bound rest)))
    (λ on. (let at : HoldsAtPeace i.held = (there_by i i.recorded refl (agrees i possible) (related.platform p on)).0 in
    may_let (may_bind r i) (begins b (number_out b.recorded))
    (where_there r.broker (is_there i.held i.order.service i.order.plan)
    (there_at_peace i i.recorded possible (peace_at i.held.row i.held.work at.0 at.1)))))

pub arrives_if : (work begun : Bool) (n : ℕ) → (work || not begun) ≡ true
    → (if work || not begun then Event.Arrive n else Event.PutOff n) ≡ Event.Arrive n
arrives_if true begun n e = refl
arrives_if false false n e = refl
arrives_if false true n e = cc
