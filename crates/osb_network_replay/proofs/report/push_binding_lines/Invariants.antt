-- The lines so far and those of the bindings that are left are those of all.
use Rattle.std.proofs.Common.{◌≡◌, ◌++◌}
use Rattle.std.specs.List.{flat_map}
use Rattle.osb_network_replay.specs.Report.{binding_line, binding_lines}
use Rattle.osb_network_replay.proofs.report.push_binding_lines.Given as goal

abbrev pub invariant-loop-binding_id : goal.invariant-loop-binding_id
invariant-loop-binding_id l =
    l.text.items ++ flat_map (λ b. binding_line l.id b.0 b.1) l.binding_id-iterator
    ≡ l.initial.text.items ++ binding_lines l.id l.service.bindings
