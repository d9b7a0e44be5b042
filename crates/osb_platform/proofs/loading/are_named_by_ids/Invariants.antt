use Rattle.std.proofs.Common.{◌≡◌}
use Rattle.serde_json.specs.View.{members_view}
use Rattle.osb_platform.specs.SavedRecord.{are_named_by_ids}
use Rattle.osb_platform.proofs.loading.are_named_by_ids.Given as goal

abbrev pub invariant-loop-name : goal.invariant-loop-name
invariant-loop-name l = are_named_by_ids (members_view l.name-iterator)
    ≡ are_named_by_ids (members_view l.members.entries)
