-- Cells that can come about: their parts as variables, what changes under the same request, and what
-- holds with nothing out.
use Rattle.std.proofs.Common.{◌≡◌, ℕ, Bool, true, false, arith, refl, sym, subst}
use Rattle.std.specs.Prelude.{Option, Some, None, IsSome, IfSome, ◌==◌, ◌&&◌, if◌then◌else◌}
use Rattle.std.specs.FinMap as map
use Rattle.std.proofs.lemmas.Bool.Decides.{nat_tests}
use Rattle.osb_message.specs.declared.messages.Answer.{Answer}
use Rattle.osb_message.specs.declared.messages.Kind.{Kind}
use Rattle.osb_message.specs.declared.messages.Request.{Request}
use Rattle.osb_broker.specs.declared.row.BrokerRow.{BrokerRow}
use Rattle.osb_message.specs.Plans.{Catalogue}
use Rattle.osb_broker.specs.Answers.{same_plan}
use Rattle.osb_platform.specs.declared.row.PlatformRow.{PlatformRow}
use Rattle.osb_platform.specs.declared.state.State.{State}
use Rattle.osb_world.specs.declared.cell.Cell.{Cell}
use Rattle.osb_world.specs.Possible.{IsPossible, IsPossibleRow, IsRequestOf, IsRowOf, OutByState, HeldByState}
use Rattle.osb_world.specs.Possible.{TravelsByState, mode_at}

abbrev pub cell : Option PlatformRow → Option BrokerRow → Option Request → Option Answer → Cell
cell p b o t = record { platform = p; broker = b; out = o; travelling = t }

abbrev pub row_in : ℕ → ℕ → State → Option Kind → PlatformRow
row_in service plan s out = record { service = service; plan = plan; state = s; out = out }

abbrev pub request_of : Kind → ℕ → ℕ → ℕ → Bool → Request
request_of k id service plan accepts = record {
  kind = k;
  id = id;
  service = service;
  plan = plan;
  accepts_incomplete =
      accepts;
}

-- a step keeps a cell possible if the change does, where the event applies
pub kept_if : (cat : Catalogue) (id : ℕ) (x : Bool) (changed c : Cell) → (x ≡ true → IsPossible cat id changed)
    → IsPossible cat id c
    → IsPossible cat id (if x then changed else c)
kept_if cat id true changed c on h = on refl
kept_if cat id false changed c on h = h

pub and_first : (x y : Bool) → (x && y) ≡ true → x ≡ true
and_first true y e = refl
and_first false y e = e

pub same_id : (named id : ℕ) → (named == id) ≡ true → named ≡ id
same_id named id e = grind (arith, nat_tests)

-- another row of the broker's, and another answer, while the record and the request out stay
pub moved_on : (cat : Catalogue) (id : ℕ) (row : PlatformRow) (b c : Option BrokerRow) (o : Option Request)
    (t u : Option Answer)
    → IsPossibleRow cat id row b o t → (IsSome u → IsSome o) → IfSome c (IsRowOf cat row.service row.plan)
    → HeldByState (mode_at cat row.service row.plan) row.state c o
    → IfSome u (TravelsByState (mode_at cat row.service row.plan) row.state c o) → IsPossibleRow cat id row c o u
moved_on cat id row b c o t u h travels same holds answer =
    record {
      travels = travels;
      request = h.request;
      kind = h.kind;
      sent = h.sent;
      same = same;
      holds = holds;
      answer =
          answer;
    }

-- with nothing out
pub idle : (cat : Catalogue) (id service plan : ℕ) (s : State) (b : Option BrokerRow) → OutByState s None
    → IfSome b (IsRowOf cat service plan) → HeldByState (mode_at cat service plan) s b None
    → IsPossibleRow cat id (row_in service plan s None) b None None
idle cat id service plan s b sent same holds =
    record { travels = λ f. f; request = tt; kind = refl; sent = sent; same = same; holds = holds; answer = tt }

-- where the record has no request out, none is out and nothing travels
pub quiet : (cat : Catalogue) (id service plan : ℕ) (s : State) (b : Option BrokerRow) (o : Option Request)
    (t : Option Answer)
    → IsPossibleRow cat id (row_in service plan s None) b o t → (o ≡ None) × (t ≡ None)
quiet cat id service plan s b None None h = (refl, refl)
quiet cat id service plan s b None (Some a) h = let f = h.travels refl in cc
quiet cat id service plan s b (Some r) t h = let f = h.kind in cc

-- a request is known by what holds of it
same_request : (id service plan : ℕ) (k : Kind) (r : Request) → r.kind ≡ k → IsRequestOf id service plan r
    → r ≡ request_of k id service plan r.accepts_incomplete
same_request id service plan k r e h =
    λ i. record {
      kind = e i;
      id = h.same_id i;
      service = h.same_service i;
      plan = h.same_plan i;
      accepts_incomplete = r.accepts_incomplete;
    }

pub as_request : (P : Request → Type 0) (id service plan : ℕ) (k : Kind) (r : Request) → r.kind ≡ k
    → IsRequestOf id service plan r
    → P (request_of k id service plan r.accepts_incomplete) → P r
as_request P id service plan k r e of h = subst P (sym (same_request id service plan k r e of)) h

-- the broker's row is of the request's plan
pub is_same_plan : (service plan : ℕ) (k : Kind) (id : ℕ) (accepts : Bool) (b : BrokerRow) → b.service ≡ service
    → b.plan ≡ plan
    → same_plan b (request_of k id service plan accepts) ≡ true
is_same_plan service plan k id accepts b e f = grind (arith, nat_tests)

-- the mode of the broker's row is that of the recorded plan
pub mode_is : (cat : Catalogue) (service plan : ℕ) (b : BrokerRow) → IsRowOf cat service plan b
    → map.get cat (b.service, b.plan) ≡ map.get cat (service, plan)
mode_is cat service plan b h = λ i. map.get cat (h.same_service i, h.same_plan i)

pub on_sale : (cat : Catalogue) (service plan : ℕ) (b : BrokerRow) → IsRowOf cat service plan b
    → IsSome (map.get cat (service, plan))
on_sale cat service plan b h = subst IsSome (mode_is cat service plan b h) h.held.on_sale
