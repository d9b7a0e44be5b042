use Rattle.std.proofs.Common.{◌≡◌, ◌++◌, drop}
use Rattle.json.specs.Tree.{MembersHaveNumbers, members_tokens}
use Rattle.json.specs.Value.{members_view}
use Rattle.osb_wire.specs.JsonTexts.{kept}
use Rattle.osb_wire.proofs.json_texts.write_kept.Given as goal

abbrev pub invariant-loop-member : goal.invariant-loop-member
invariant-loop-member l = record {
  before : l.writer.before ≡ l.initial.writer.before;
  numbers : MembersHaveNumbers (members_view (drop l.member-index l.members.items));
  left : l.writer.tokens ++ members_tokens (kept l.which (members_view (drop l.member-index l.members.items)))
      ≡ l.initial.writer.tokens ++ members_tokens (kept l.which (members_view l.members.items));
}
