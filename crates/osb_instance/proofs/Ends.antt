-- A Deprovision is answered with 410 only where there is no row.
use Rattle.std.proofs.Common.{◌≡◌, ◌≢◌, Bool, true, false, arith, refl}
use Rattle.std.specs.Prelude.{Option, Some, None, IsSome, if◌then◌else◌}
use Rattle.osb_message.specs.declared.catalogue.Mode.{Mode}
use Rattle.osb_message.specs.declared.catalogue.Mode.TheVariants.{Sync, Async}
use Rattle.osb_message.specs.declared.messages.Kind.{Kind}
use Rattle.osb_message.specs.declared.messages.Kind.TheVariants.{Provision, Poll, Deprovision}
use Rattle.osb_message.specs.declared.messages.Request.{Request}
use Rattle.osb_broker.specs.declared.outcome.Outcome.TheVariants.{Done}
use Rattle.osb_broker.specs.declared.row.BrokerRow.{BrokerRow}
use Rattle.osb_broker.specs.declared.row.Phase.{Phase}
use Rattle.osb_broker.specs.Answers.{Handled, same_plan}
use Rattle.osb_broker.specs.Deprovision.{deprovision_at, own_deprovision, accepted_deprovision}
use Rattle.osb_broker.specs.Decided.{decided_as}
use Rattle.osb_instance.specs.declared.work.Begun.TheVariants.{Answered}
use Rattle.osb_broker.specs.Finished.{in_phase}
use Rattle.osb_instance.specs.Begin.{IsAnsweredBy, ends, failed_row}

abbrev IsThere : Handled → Type 0
IsThere h = h.answer.status ≢ 410

there_if : (x : Bool) (f g : Handled) → IsThere f → IsThere g → IsThere (if x then f else g)
there_if true f g p q = p
there_if false f g p q = q

there_accepted : (m : Mode) (b : BrokerRow) (p : Phase) → IsThere (accepted_deprovision m b p Done)
there_accepted m b Phase.Making e = absurd (omega arith)
there_accepted m b Phase.Deleting e = absurd (omega arith)
there_accepted Sync b p e = absurd (omega arith)
there_accepted Async b p e = absurd (omega arith)

there_own : (m : Option Mode) (b : BrokerRow) (r : Request) → IsThere (own_deprovision m b r Done)
there_own None b r = λ e. absurd (omega arith)
there_own (Some Sync) b r = there_accepted Sync b b.phase
there_own (Some Async) b r =
    there_if r.accepts_incomplete _ _ (there_accepted Async b b.phase) (λ e. absurd (omega arith))

pub there : (m : Option Mode) (b : BrokerRow) (r : Request) → IsThere (deprovision_at m (Some b) r Done)
there m b r = there_if (same_plan b r) _ _ (there_own m b r) (λ e. absurd (omega arith))

pub gone_ends : (k : Kind) (m : Option Mode) (b : Option BrokerRow) (r : Request)
    → IsAnsweredBy (Answered (decided_as k m b r Done).answer) k 410 → ends k b ≡ true
gone_ends Provision m b r h = absurd h
gone_ends Poll m b r h = absurd h
gone_ends Deprovision m None r h = refl
gone_ends Deprovision m (Some b) r h = absurd (there m b r h)

pub failed_there : (m : Option Mode) (b : Option BrokerRow) (r : Request) → IsSome b
    → (deprovision_at m (failed_row b) r Done).answer.status ≢ 410
failed_there m None r h = let e : false ≡ true = h in cc
failed_there m (Some b) r h = there m (in_phase b Phase.Failed) r
