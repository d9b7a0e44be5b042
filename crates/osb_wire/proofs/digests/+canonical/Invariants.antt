use Rattle.std.proofs.Common.{◌≡◌, drop}
use Rattle.json.specs.Json.{no_members}
use Rattle.json.specs.Value.{items_view, members_view}
use Rattle.json.proofs.Trees.{items_before}
use Rattle.osb_wire.specs.Digests.{ascending, canonical_items}
use Rattle.osb_wire.proofs.digests.+canonical.Given as goal

abbrev pub invariant-canonical_items-loop-item : goal.invariant-canonical_items-loop-item
invariant-canonical_items-loop-item l =
    items_before l.made.items (canonical_items (items_view (drop l.item-index l.items.items)))
    ≡ canonical_items (items_view l.items.items)

abbrev pub invariant-ascending-loop-member : goal.invariant-ascending-loop-member
invariant-ascending-loop-member l =
    ascending (members_view (drop l.member-index l.members.items)) (members_view l.made.entries)
    ≡ ascending (members_view l.members.items) no_members
