use Rattle.std.proofs.Common.{◌≡◌}
use Rattle.std.specs.FinMap.{entries}
use Rattle.std.specs.List.{AllByRecursion}
use Rattle.serde_json.specs.Data.{no_members}
use Rattle.serde_json.specs.View.{members_view}
use Rattle.osb_platform.specs.SavedRecord.{IsReadable}
use Rattle.osb_platform.proofs.SavedRows.{put_rows}
use Rattle.osb_platform.proofs.saving.instances_value.Given as goal

abbrev pub invariant-loop-id : goal.invariant-loop-id
invariant-loop-id l = record {
  built : put_rows (members_view l.members.entries) l.id-iterator ≡ put_rows no_members (entries l.rows);
  readable : AllByRecursion IsReadable l.id-iterator → AllByRecursion IsReadable (entries l.rows);
}
