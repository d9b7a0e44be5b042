use Rattle.std.proofs.Common.{◌∙◌}
use Rattle.serde_json.proofs.Views.{view-Object}
use Rattle.osb_platform.proofs.SavedRows.{object_of_rows}
use Rattle.osb_platform.proofs.saving.instances_value.Goals as goal

pub returns-clause-value : goal.returns-clause-value
returns-clause-value c =
    view-Object c.loop-id.members
    ∙ object_of_rows c.args.rows.now c.loop-id.id-iterator _ c.loop-id.invariant.built c.in-None.ensures.steps.0
    c.loop-id.invariant.readable
