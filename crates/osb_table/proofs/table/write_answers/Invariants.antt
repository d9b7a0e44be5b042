-- The lines so far are those of the answers so far.
use Rattle.std.proofs.Common.{take}
use Rattle.std.specs.Io.KnownBytes.{Appends}
use Rattle.std.specs.List.{flat_map}
use Rattle.osb_table.specs.MitigationTable.{answer_line}
use Rattle.osb_table.proofs.table.write_answers.Given as goal

abbrev pub invariant-loop-name : goal.invariant-loop-name
invariant-loop-name g l =
    Appends (g.W.Write.contents l.initial.output.device) (g.W.Write.contents l.output.device)
    (flat_map (λ a. answer_line (a.0.now, record { status = a.1; body = a.2 })) (take l.name-index l.shown))
