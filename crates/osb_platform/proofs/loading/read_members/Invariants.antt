use Rattle.std.proofs.Common.{◌≡◌, true, option_map}
use Rattle.std.specs.FinMap.{empty}
use Rattle.serde_json.specs.View.{members_view}
use Rattle.osb_platform.specs.SavedRecord.{are_named_by_ids, entries_named}
use Rattle.osb_platform.proofs.LoadedRows.{insert_rows}
use Rattle.osb_platform.proofs.loading.read_members.Given as goal

abbrev pub invariant-loop-name : goal.invariant-loop-name
invariant-loop-name l = record {
  built : option_map (insert_rows l.rows) (entries_named (members_view l.name-iterator))
      ≡ option_map (insert_rows empty) (entries_named (members_view l.members.entries));
  named : are_named_by_ids (members_view l.name-iterator) ≡ true;
}
