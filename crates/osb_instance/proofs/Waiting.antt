-- A Provision whose work waits for the first Poll makes a row in `making`.
use Rattle.std.proofs.Common.{◌≡◌, ◌≢◌, Bool, true, false, refl, subst}
use Rattle.std.specs.Prelude.{Option, Some, None, IsSome, IsSomeAnd, if◌then◌else◌}
use Rattle.osb_message.specs.declared.catalogue.Mode.{Mode}
use Rattle.osb_message.specs.declared.catalogue.Mode.TheVariants.{Sync, Async}
use Rattle.osb_message.specs.declared.messages.ErrorCode.TheVariants.{AsyncRequired}
use Rattle.osb_message.specs.declared.messages.Kind.{Kind}
use Rattle.osb_message.specs.declared.messages.Kind.TheVariants.{Provision, Poll, Deprovision}
use Rattle.osb_message.specs.declared.messages.Request.{Request}
use Rattle.osb_broker.specs.declared.outcome.Outcome.{Outcome}
use Rattle.osb_broker.specs.declared.outcome.Outcome.TheVariants.{Done}
use Rattle.osb_broker.specs.declared.row.BrokerRow.{BrokerRow}
use Rattle.osb_broker.specs.declared.row.Phase.{Phase}
use Rattle.osb_broker.specs.Answers.{Handled, error, row_and_answer}
use Rattle.osb_broker.specs.Decided.{decided, decided_as}
use Rattle.osb_broker.specs.Provision.{accepted_provision}
use Rattle.osb_instance.specs.declared.work.Work.{Work}
use Rattle.osb_instance.specs.Begin.{waits_for_poll}
use Rattle.osb_instance.specs.Due.{work_due}
use Rattle.osb_instance.proofs.Dues.{due_is_work}

abbrev pub IsMaking : Option BrokerRow → Type 0
IsMaking row = IsSomeAnd row (λ r. r.phase ≡ Phase.Making)

-- a table that tells by the outcome
abbrev Tells : (Outcome → Handled) → Type 0
Tells table = (o : Outcome) × (table o ≢ table Done)

no : false ≡ true → ⊥
no e = cc

first_making : (x : Bool) (r : Request)
    → Tells (λ o. if x then accepted_provision Async None r o else row_and_answer None (error 422 AsyncRequired))
    → IsMaking (if x then accepted_provision Async None r Done else row_and_answer None (error 422 AsyncRequired)).row
first_making true r h = refl
first_making false r h = absurd (h.1 refl)

making_as : (f : Bool) (k : Kind) (m : Option Mode) (b : Option BrokerRow) (r : Request) → waits_for_poll k m f ≡ true
    → Tells (decided_as k m b r) → IsMaking (decided_as k m b r Done).row
making_as f Provision (Some Async) None r w h = first_making r.accepts_incomplete r h
making_as f Provision (Some Async) (Some b) r w h = absurd (h.1 refl)
making_as f Poll m b r w h = absurd (no w)
making_as f Deprovision m b r w h = absurd (no w)
making_as f Provision None b r w h = absurd (no w)
making_as f Provision (Some Sync) b r w h = absurd (no w)

some_is : (w : Work) (x : Option Work) → Some w ≡ x → IsSome x
some_is w x e = subst IsSome e refl

pub put_off_row : (f : Bool) (m : Option Mode) (b : Option BrokerRow) (r : Request) (w : Work)
    → waits_for_poll r.kind m f ≡ true → Some w ≡ work_due m b r → IsMaking (decided m b r Done).row
put_off_row f m b r w e is = making_as f r.kind m b r e (due_is_work m b r (some_is w _ is)).1
