use Rattle.std.proofs.Common.{◌≡◌, true, rules}
use Rattle.osb_wire.specs.HeaderValues.{is_number}
use Rattle.osb_wire.proofs.Seconds.{seconds_told, seconds_too_many}
use Rattle.osb_wire.proofs.headers.retry_after.Goals as goal

pub returns-in-Ok : goal.returns-in-Ok
returns-in-Ok c =
    let number : is_number c.args.value.now ≡ true = search rules in
    record { seconds = seconds_told _ c.args.value.now _ c.in-Ok.seconds c.in-Ok.is number c.parse.ensures.value.0 }

pub returns-in-Err : goal.returns-in-Err
returns-in-Err c =
    let number : is_number c.args.value.now ≡ true = search rules in
    record { seconds = seconds_too_many _ c.args.value.now _ c.in-Err.field-0 c.in-Err.is number c.parse.ensures.value.0 }
