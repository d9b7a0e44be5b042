use Rattle.std.proofs.Common.{arith, refl, ◌≡◌, length}
use Rattle.std.proofs.lemmas.Grind.{common_steps}
use Rattle.osb_in_flight.specs.Entries.{id_of, messages_of}
use Rattle.osb_in_flight.proofs.Keys.{rows-push}
use Rattle.osb_in_flight.proofs.Indexes.{indexed-above, indexed-placed}
use Rattle.osb_in_flight.proofs.message_list.add.Goals as goal

-- the id is above all others
pub returns-then-rises-clause-indexed : goal.returns-then-rises-clause-indexed
returns-then-rises-clause-indexed c =
    let long : c.len.result ≡ length c.push.new.self.items = grind (arith, common_steps, c.len.ensures) in
    rw (long, c.in_ok-push.ensures.items, c.in_ok-reserve.ensures.items)
    (indexed-above c.args.entries.now.items c.args.ascending.now c.args.places.now c.requires.indexed
    record { id = c.args.id; messages = c.args.messages } c.requires.absent
    (rw (← c.in_ok-reserve.ensures.items, ← c.deref.ensures.value) (c.if-rises.ensures.ascending refl))
    (rw (← c.in_ok-reserve.ensures.items, ← c.deref.ensures.value) (c.if-rises.ensures.above refl)))

pub returns-then-rises-clause-ok : goal.returns-then-rises-clause-ok
returns-then-rises-clause-ok c =
    rw (c.in_ok-push.ensures.items, c.in_ok-reserve.ensures.items)
    (rows-push id_of messages_of c.args.entries.now.items c.args.id c.requires.absent
    record { id = c.args.id; messages = c.args.messages } refl)

-- its place is written down
pub returns-clause-indexed : goal.returns-clause-indexed
returns-clause-indexed c =
    let long : c.len-2.result ≡ length c.args.entries.now.items =
    grind (arith, common_steps, c.len-2.ensures, c.in_ok-reserve.ensures.items) in
    rw (c.in_ok-push-2.ensures.items, c.in_ok-reserve.ensures.items, c.in_ok-insert.ensures.ok, long)
    (indexed-placed c.args.entries.now.items c.args.ascending.now c.args.places.now c.requires.indexed
    record { id = c.args.id; messages = c.args.messages } c.requires.absent)

pub returns-clause-ok : goal.returns-clause-ok
returns-clause-ok c =
    rw (c.in_ok-push-2.ensures.items, c.in_ok-reserve.ensures.items)
    (rows-push id_of messages_of c.args.entries.now.items c.args.id c.requires.absent
    record { id = c.args.id; messages = c.args.messages } refl)
