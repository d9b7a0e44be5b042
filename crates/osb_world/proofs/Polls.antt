-- What the broker answers to a Poll that is out.
use Rattle.std.proofs.Common.{◌≡◌, ℕ, Bool, arith, refl}
use Rattle.std.specs.Prelude.{Option, Some, None, IfSome}
use Rattle.osb_message.specs.declared.catalogue.Mode.{Mode}
use Rattle.osb_message.specs.declared.messages.Kind.TheVariants.{Poll}
use Rattle.osb_message.specs.declared.messages.Request.{Request}
use Rattle.osb_broker.specs.declared.outcome.Outcome.{Outcome}
use Rattle.osb_broker.specs.declared.outcome.Outcome.TheVariants.{Done}
use Rattle.osb_broker.specs.declared.row.BrokerRow.{BrokerRow}
use Rattle.osb_broker.specs.declared.row.Phase.{Phase}
use Rattle.osb_message.specs.Plans.{Catalogue}
use Rattle.osb_broker.specs.Poll.{polled, own_poll}
use Rattle.osb_platform.specs.declared.state.State.TheVariants.{Polling}
use Rattle.osb_world.specs.Possible.{IsRowOf, IsInDeletion, TravelsByState, IsPolledInDeletion}
use Rattle.osb_world.proofs.Possibility.{request_of, is_same_plan}

-- success is told of a row that is ready
told_making : (mode : Option Mode) (p : Phase) (outcome : Outcome) (b : BrokerRow) (o : Option Request) → b.phase ≡ p
    → TravelsByState mode Polling (Some b) o (own_poll p outcome)
told_making mode Phase.Ready Done b o e = λ n s. e
told_making mode p Done b o e = λ n s. cc
told_making mode p outcome b o e = λ n. absurd (omega arith)

pub polled_making : (cat : Catalogue) (id service plan : ℕ) (accepts : Bool) (mode : Option Mode) (outcome : Outcome)
    (b : Option BrokerRow)
    (o : Option Request) → IfSome b (IsRowOf cat service plan)
    → TravelsByState mode Polling b o (polled b (request_of Poll id service plan accepts) outcome)
polled_making cat id service plan accepts mode outcome None o same = λ n. absurd (omega arith)
polled_making cat id service plan accepts mode outcome (Some b) o same =
    rw (is_same_plan service plan Poll id accepts b same.same_service same.same_plan)
    (told_making mode b.phase outcome b o refl)

-- success is never told of a row that is deleted
told_deleting : (p : Phase) (outcome : Outcome) (b : BrokerRow) → IsInDeletion p
    → IsPolledInDeletion (Some b) (own_poll p outcome)
told_deleting Phase.Deleting Done b begun = record { deleted = λ n. absurd (omega arith); never = λ n s. cc }
told_deleting Phase.DeleteFailed Done b begun = record { deleted = λ n. absurd (omega arith); never = λ n s. cc }
told_deleting p Done b begun = absurd begun
told_deleting p outcome b begun = record { deleted = λ n. absurd (omega arith); never = λ n. absurd (omega arith) }

pub polled_deleting : (cat : Catalogue) (id service plan : ℕ) (accepts : Bool) (outcome : Outcome)
    (b : Option BrokerRow)
    → IfSome b (IsRowOf cat service plan) → IfSome b (λ row. IsInDeletion row.phase)
    → IsPolledInDeletion b (polled b (request_of Poll id service plan accepts) outcome)
polled_deleting cat id service plan accepts outcome None same begun =
    record { deleted = λ n. refl; never = λ n. absurd (omega arith) }
polled_deleting cat id service plan accepts outcome (Some b) same begun =
    rw (is_same_plan service plan Poll id accepts b same.same_service same.same_plan)
    (told_deleting b.phase outcome b begun)
