use Rattle.std.proofs.Common.{◌≡◌, Some, rules}
use Rattle.serde_json.specs.Read.{read}
use Rattle.serde_json.specs.View.{view}
use Rattle.osb_c_wire.proofs.Members.{members_read, shallow}
use Rattle.osb_c_wire.proofs.bodies.read_members.Goals as goal

pub returns-in-Object-clause-members : goal.returns-in-Object-clause-members
returns-in-Object-clause-members c =
    let reads : Some (view c.in-Some.value) ≡ read c.args.text.now = search rules in
    members_read c.args.text.now c.in-Some.value c.in-Object.members reads c.in-Object.is

pub returns-in-Object-clause-shallow : goal.returns-in-Object-clause-shallow
returns-in-Object-clause-shallow c =
    let reads : Some (view c.in-Some.value) ≡ read c.args.text.now = search rules in
    shallow c.args.text.now c.in-Some.value c.in-Object.members reads c.in-Object.is
