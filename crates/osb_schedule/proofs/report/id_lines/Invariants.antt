-- The lines so far and those of the records that are left are those of all records.
use Rattle.std.proofs.Common.{◌≡◌, ◌++◌}
use Rattle.std.specs.FinMap.{entries}
use Rattle.std.specs.List.{flat_map}
use Rattle.osb_world.specs.Views.{records_of}
use Rattle.osb_schedule.proofs.Reporting.{record_line}
use Rattle.osb_schedule.proofs.report.id_lines.Given as goal

abbrev pub invariant-loop-id : goal.invariant-loop-id
invariant-loop-id l =
    l.text.items ++ flat_map (record_line l.world) l.id-iterator
    ≡ flat_map (record_line l.world) (entries (records_of l.world))
