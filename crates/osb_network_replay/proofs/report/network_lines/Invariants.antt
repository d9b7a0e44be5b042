-- The lines so far and those of the instances that are left are those of all.
use Rattle.std.proofs.Common.{◌≡◌, ◌++◌}
use Rattle.std.specs.List.{flat_map}
use Rattle.osb_network_replay.specs.Report.{network_lines, service_lines}
use Rattle.osb_network_replay.proofs.report.network_lines.Given as goal

abbrev pub invariant-loop-id : goal.invariant-loop-id
invariant-loop-id l =
    l.text.items ++ flat_map (λ s. service_lines s.0 s.1) l.id-iterator ≡ network_lines l.network
