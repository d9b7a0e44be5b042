use Rattle.osb_binding_network.proofs.Fetches.{lived_well}
use Rattle.osb_binding_network.proofs.binding_parts.BindingParts.lives.Goals as goal

pub returns-in_err-live-clause-well : goal.returns-in_err-live-clause-well
returns-in_err-live-clause-well c =
    lived_well c.live.result c.args.self.now c.live.new.self c.args.event c.args.chosen c.live.ensures.cell
    c.live.ensures.err

pub returns-clause-well : goal.returns-clause-well
returns-clause-well c =
    lived_well c.live.result c.args.self.now c.live.new.self c.args.event c.args.chosen c.live.ensures.cell
    c.live.ensures.err
