-- In a cell that can come about, platform and broker agree.
use Rattle.std.proofs.Common.{◌≡◌, ℕ, ◌∙◌, subst, ap}
use Rattle.std.specs.Prelude.{Option, Some, None, IfSome}
use Rattle.osb_message.specs.declared.messages.Answer.{Answer}
use Rattle.osb_message.specs.declared.messages.Request.{Request}
use Rattle.osb_broker.specs.declared.row.BrokerRow.{BrokerRow}
use Rattle.osb_broker.specs.declared.row.Phase.{Phase}
use Rattle.osb_message.specs.Plans.{Catalogue}
use Rattle.osb_platform.specs.declared.row.PlatformRow.{PlatformRow}
use Rattle.osb_world.specs.declared.cell.Cell.{Cell}
use Rattle.osb_world.specs.Agreement.{Agrees}
use Rattle.osb_world.specs.Possible.{IsPossible, IsPossibleParts, IsRowOf, HeldByState, HoldsReady, mode_at}
use Rattle.osb_world.proofs.Possibility.{cell}

held_whole : (cat : Catalogue) (service plan : ℕ) (b : Option BrokerRow) → IfSome b (IsRowOf cat service plan)
    → HoldsReady b
    → b ≡ Some (record { service = service; plan = plan; phase = Phase.Ready })
held_whole cat service plan None same ready = absurd ready
held_whole cat service plan (Some b) same ready =
    λ i. Some (record { service = same.same_service i; plan = same.same_plan i; phase = ready i })

agrees_parts : (cat : Catalogue) (id : ℕ) (p : Option PlatformRow) (b : Option BrokerRow) (o : Option Request)
    (t : Option Answer)
    → IsPossibleParts cat id p b o t → Agrees (cell p b o t)
agrees_parts cat id None b o t h = record { ready = λ row e. cc; gone = λ row e. cc; unknown = λ e. h.0 }
agrees_parts cat id (Some own) b o t h = record {
  ready = λ row e is.
      let f : own ≡ row = cc in
      subst (λ (r : PlatformRow). b ≡ Some (record { service = r.service; plan = r.plan; phase = Phase.Ready })) f
      (held_whole cat own.service own.plan b h.same
      (subst (λ s. HeldByState (mode_at cat own.service own.plan) s b o) (ap (λ (r : PlatformRow). r.state) f
      ∙ is) h.holds));
  gone = λ row e is.
      let f : own ≡ row = cc in
      subst (λ s. HeldByState (mode_at cat own.service own.plan) s b o) (ap (λ (r : PlatformRow). r.state) f
      ∙ is) h.holds;
  unknown = λ e. cc;
}

pub agrees : (cat : Catalogue) (id : ℕ) (c : Cell) → IsPossible cat id c → Agrees c
agrees cat id c h = agrees_parts cat id c.platform c.broker c.out c.travelling h
