use Rattle.std.proofs.Common.{◌≡◌, ◌∙◌, subst}
use Rattle.osb_update_network.specs.AnyPlatform.{UpdatedCell, update, update_by}
use Rattle.osb_update_network.proofs.Bodies.{comes}
use Rattle.osb_update_network.proofs.parts.Parts.update.Goals as goal

pub returns : goal.returns
returns c = record {
  cell = c.update_by.ensures.cell
      ∙ subst
      (λ (u : UpdatedCell). update_by c.begin-change.result.0 c.begin-change.result.1 u c.with-to.result
      ≡ update u c.args.allowed c.args.update.now)
      c.self.view_is
      (comes
      (record {
        instance = c.self.inside.instance;
        change = c.self.inside.change;
        settings = c.self.inside.settings;
        before = c.self.inside.before;
        reported = c.self.inside.reported;
      })
      c.holding.result c.args.allowed c.args.update.now c.begin-change.result c.with-to.result
      c.begin-change.ensures.begun c.holding.ensures.held c.with-to.ensures.changed);
}
