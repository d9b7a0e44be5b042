use Rattle.std.proofs.Common.{ap, arith, length, get_or, ◌≡◌, ◌<◌, ◌-◌}
use Rattle.std.proofs.lemmas.Bool.Decides.{nat_tests}
use Rattle.osb_in_flight.specs.Entries.{id_of}
use Rattle.osb_in_flight.proofs.message_list.rises.Goals as goal

-- the last entry is the highest of those that ascend
pub returns-in-Some-clause-above : goal.returns-in-Some-clause-above
returns-in-Some-clause-above c above i d inside =
    let entries = c.args.entries.now in
    let end = length entries - 1 in
    let last : c.in-Some.last.now.id < c.args.id = grind (arith, nat_tests, above, c.lt.ensures) in
    grind (
      arith,
      last,
      c.in-Some.ensures.item.3.1 d,
      c.requires.ascending (omega arith) i end d,
      λ (same : i ≡ end). ap (λ n. id_of (get_or entries n d)) same,
    )
