use Rattle.std.proofs.Common.{◌≡◌, ◌++◌, drop}
use Rattle.json.specs.Tree.{MembersHaveNumbers, members_tokens}
use Rattle.json.specs.Value.{members_view}
use Rattle.osb_update_wire.specs.Catalogues.{without}
use Rattle.osb_update_wire.proofs.served.write_others.Given as goal

abbrev pub invariant-loop-member : goal.invariant-loop-member
invariant-loop-member l = record {
  before : l.writer.before ≡ l.initial.writer.before;
  numbers : MembersHaveNumbers (members_view (drop l.member-index l.members.items));
  left : l.writer.tokens ++ members_tokens (without (members_view (drop l.member-index l.members.items)))
      ≡ l.initial.writer.tokens ++ members_tokens (without (members_view l.members.items));
}
