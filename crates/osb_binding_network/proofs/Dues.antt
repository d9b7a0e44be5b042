-- Of what kind a request is whose work is due: a Provision without a row, and a Deprovision with one.
use Rattle.std.proofs.Common.{◌≡◌, ℕ, Bool, true, false, arith, refl, sym, ap, ◌∙◌}
use Rattle.std.specs.Prelude.{Option, Some, None, ◌&&◌, ◌==◌, not, if◌then◌else◌, is_some, is_none}
use Rattle.std.proofs.lemmas.Bool.Decides.{nat_tests}
use Rattle.osb_message.specs.declared.catalogue.Mode.{Mode}
use Rattle.osb_message.specs.declared.catalogue.Mode.TheVariants.{Sync, Async}
use Rattle.osb_message.specs.declared.messages.Kind.{Kind}
use Rattle.osb_message.specs.declared.messages.Kind.TheVariants.{Provision, Poll, Deprovision}
use Rattle.osb_message.specs.declared.messages.Request.{Request}
use Rattle.osb_broker.specs.declared.outcome.Outcome.TheVariants.{Done, Before}
use Rattle.osb_broker.specs.declared.row.BrokerRow.{BrokerRow}
use Rattle.osb_broker.specs.Decided.{decided_as}
use Rattle.osb_instance.specs.declared.record.Sent.{Sent}
use Rattle.osb_instance.specs.declared.work.Work.{Work}
use Rattle.osb_instance.specs.Begin.{conflicts, is_provision}
use Rattle.osb_instance.specs.Due.{work_due, work_of}
use Rattle.osb_network.specs.Cell.{Cell}
use Rattle.osb_network.specs.Steps.{sent_as}
use Rattle.osb_binding_network.specs.Allowed.{begins, begins_by}

same_number : (n : ℕ) → (n == n) ≡ true
same_number n = grind (arith, nat_tests)

nothing_due : (x : Bool) (w : Option Work) → x ≡ true → is_some (if not x then w else None) ≡ true → ⊥
nothing_due true w e f = cc
nothing_due false w e f = cc

no_work : (x : Bool) → is_some {T = Work} (if x then None else None) ≡ true → ⊥
no_work true e = cc
no_work false e = cc

abbrev DueAs : Kind → Option Mode → Option BrokerRow → Request → Type 0
DueAs k m b r =
    is_some (if not ((decided_as k m b r Before).answer.status == (decided_as k m b r Done).answer.status)
    then work_of k m else None) ≡ true

-- without a row it is a Provision
made : (k : Kind) (m : Option Mode) (r : Request) → DueAs k m None r → k ≡ Provision
made Provision m r e = refl
made Poll m r e =
    absurd (no_work (not ((decided_as Poll m None r Before).answer.status == (decided_as Poll m None r Done).answer.status))
    e)
made Deprovision m r e = absurd (nothing_due true (work_of Deprovision m) refl e)

-- with a row it is a Deprovision
unmade : (k : Kind) (m : Option Mode) (b : BrokerRow) (r : Request) → DueAs k m (Some b) r → k ≡ Deprovision
unmade Deprovision m b r e = refl
unmade Poll m b r e =
    absurd (no_work
    (not ((decided_as Poll m (Some b) r Before).answer.status == (decided_as Poll m (Some b) r Done).answer.status)) e)
unmade Provision None b r e = absurd (nothing_due true None refl e)
unmade Provision (Some Sync) b r e =
    absurd (nothing_due _ (work_of Provision (Some Sync))
    (same_number (decided_as Provision (Some Sync) (Some b) r Done).answer.status) e)
unmade Provision (Some Async) b r e =
    absurd (nothing_due _ (work_of Provision (Some Async))
    (same_number (decided_as Provision (Some Async) (Some b) r Done).answer.status) e)

pub made_by : (m : Option Mode) (b : Option BrokerRow) (r : Request) → is_some (work_due m b r) ≡ true → b ≡ None
    → r.kind ≡ Provision
made_by m None r e n = made r.kind m r e
made_by m (Some b) r e n = cc

pub unmade_by : (m : Option Mode) (b : Option BrokerRow) (r : Request) → is_some (work_due m b r) ≡ true → (b ≡ None → ⊥)
    → r.kind ≡ Deprovision
unmade_by m None r e n = absurd (n refl)
unmade_by m (Some b) r e n = unmade r.kind m b r e

-- ---- of a cell

second : (a b : Bool) → (a && b) ≡ true → b ≡ true
second true b e = e
second false b e = cc

pub due : (c : Cell) (n : ℕ) (x : Sent) → sent_as c.sent n ≡ Some x → begins c n ≡ true
    → is_some (work_due c.order.mode c.held.row x.request) ≡ true
due c n x e b =
    second (not c.held.waiting) _ (second (not (c.held.tombstone && is_provision x.request.kind)) _
    (second (is_none c.held.work) _ (second (not (conflicts c.held x.request c.order.attributes)) _
    (ap (begins_by c) (sym e) ∙ b))))
