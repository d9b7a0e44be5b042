use Rattle.std.proofs.Common.{◌≡◌, subst}
use Rattle.std.specs.Prelude.{Option, Some}
use Rattle.osb_instance.specs.HoldingText.{held_of, some_row_in, some_row_value}
use Rattle.osb_instance.specs.declared.phase.HoldingRow.{HoldingRow}
use Rattle.osb_instance.proofs.HoldingBack.{holding_reads}
use Rattle.osb_instance.proofs.holding_text.holding_value.Goals as goal

pub returns-in-Ok-json-10-clause-named : goal.returns-in-Ok-json-10-clause-named
returns-in-Ok-json-10-clause-named c = λ sound.
    holding_reads c.args.version (held_of c.args.parts.now) c.in_ok-attributes.ensures.named
    (subst (λ (row : Option HoldingRow). some_row_in (some_row_value row) ≡ Some row) c.shown_row.ensures.row
    c.in_ok-row.ensures.named)
    c.in_ok-work.ensures.named sound
