-- A cell that can come about agrees.
use Rattle.std.proofs.Common.{◌≡◌, Bool, true, false, refl, sym, ◌∙◌, ap, subst}
use Rattle.std.specs.Prelude.{Option, Some, None, IsSomeAnd}
use Rattle.osb_message.specs.declared.messages.Request.{Request}
use Rattle.osb_broker.specs.declared.row.BrokerRow.{BrokerRow}
use Rattle.osb_broker.specs.declared.row.Phase.{Phase}
use Rattle.osb_platform.specs.declared.state.State.TheVariants.{Ready}
use Rattle.osb_platform.specs.declared.state.State.TheVariants.{Gone}
use Rattle.osb_instance.specs.Held.{Held}
use Rattle.osb_network.specs.declared.resource.Resource.{Resource}
use Rattle.osb_network.specs.declared.resource.Resource.TheVariants.{Absent, Whole}
use Rattle.osb_network.specs.declared.order.Order.{Order}
use Rattle.osb_network.specs.Possible.{row_of}
use Rattle.osb_network.specs.Possible.{IsKeptAs, IsEarlyAs}
use Rattle.osb_network.specs.Possible.{HeldByState}
use Rattle.std.specs.Prelude.{List}
use Rattle.osb_instance.specs.Recorded.{Recorded}
use Rattle.osb_network.specs.declared.event.Event.{Event}
use Rattle.osb_network.specs.Cell.{Cell, empty_cell, IsPossibleRecord}
use Rattle.osb_network.specs.Cell.{IsUntouched, IsPossibleWith, IsPossible}
use Rattle.osb_network.specs.Steps.{cell_step, cell_steps}
use Rattle.osb_network.specs.Agreement.{Agrees, IsNowhere, IsThere}
use Rattle.std.specs.Prelude.{Result, Ok, Err, OnOk, OnErr}
use Rattle.osb_network.proofs.Kept.{kept_step, kept_steps, possible_empty}

ready_parts : (o : Order) (b : Option BrokerRow) (w : Option Request) (x v : Bool) (t : Resource) → IsKeptAs o b w x v t
    → IsEarlyAs b w x t → IsSomeAnd b (λ row. row.phase ≡ Phase.Ready)
    → (t ≡ Whole) × (b ≡ Some (row_of o Phase.Ready)) × (w ≡ None)
ready_parts o None w x v t kept early ready = absurd ready
ready_parts o (Some b) None false false t kept early ready =
    (early.1 ready, (λ i. Some (kept.same i)) ∙ (λ i. Some (row_of o (ready i))), refl)
ready_parts o (Some b) None false true t kept early ready =
    (early.1 ready, (λ i. Some (kept.0.same i)) ∙ (λ i. Some (row_of o (ready i))), refl)
ready_parts o (Some b) (Some q) x v t kept early ready = absurd early
ready_parts o (Some b) None true v t kept early ready = absurd early

there : (c : Cell) (rec : Recorded) → IsPossibleRecord c rec → rec.row.state ≡ Ready → IsThere c rec
there c rec h e =
    let s : HeldByState c.order Ready c.held c.resource =
    subst (λ s. HeldByState c.order s c.held c.resource) e h.parts.holds in
    let p = ready_parts c.order c.held.row c.held.work c.held.tombstone c.held.waiting c.resource h.parts.kept.0 s.0 s.1 in
    (p.0, p.1 ∙ (λ i. Some (record { service = sym h.service i; plan = sym h.plan i; phase = Phase.Ready })), p.2)

gone_parts : (o : Order) (b : Option BrokerRow) (w : Option Request) (x v : Bool) (t : Resource) → IsKeptAs o b w x v t
    → b ≡ None → w ≡ None → t ≡ Absent
gone_parts o None None x false t kept e f = kept
gone_parts o None None x true t kept e f = absurd kept
gone_parts o (Some b) w x v t kept e f = cc
gone_parts o None (Some q) x v t kept e f = cc

nowhere : (c : Cell) (rec : Recorded) → IsPossibleRecord c rec → rec.row.state ≡ Gone → IsNowhere c
nowhere c rec h e =
    let s : HeldByState c.order Gone c.held c.resource =
    subst (λ s. HeldByState c.order s c.held c.resource) e h.parts.holds in
    (gone_parts c.order c.held.row c.held.work c.held.tombstone c.held.waiting c.resource h.parts.kept.0 s.0 s.1, s.0, s.1)

untouched : (c : Cell) → IsUntouched c → IsNowhere c
untouched c h = (h.resource, ap (λ (x : Held). x.row) h.held, ap (λ (x : Held). x.work) h.held)

pub agrees : (c : Cell) → IsPossible c → Agrees c
agrees c h = record {
  ready = λ rec e is. there c rec (subst (IsPossibleWith c) e h) is;
  gone = λ rec e is. nowhere c rec (subst (IsPossibleWith c) e h) is;
  unknown = λ e. untouched c (subst (IsPossibleWith c) e h);
}

pub agrees_always : (o : Order) (events : List Event) → Agrees (cell_steps (empty_cell o) events)
agrees_always o events = agrees _ (kept_steps (empty_cell o) events (possible_empty o))

-- after a step, or where it is refused for want of memory
pub possible_after : (T E : Type 0) (r : Result T E) (c n : Cell) (e : Event) → OnOk r (n ≡ cell_step c e)
    → OnErr r (n ≡ c) → IsPossible c → IsPossible n
possible_after T E (Ok x) c n e ok err h = subst IsPossible (sym ok) (kept_step c e h)
possible_after T E (Err x) c n e ok err h = subst IsPossible (sym err) h
