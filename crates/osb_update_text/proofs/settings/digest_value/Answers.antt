use Rattle.std.proofs.Common.{rules, ◌≡◌, length}
use Rattle.hex.specs.Hex.{IsBytes}
use Rattle.osb_instance.proofs.HoldingBack.{digest_reads}
use Rattle.osb_update_text.proofs.settings.digest_value.Goals as goal

pub returns-clause-named : goal.returns-clause-named
returns-clause-named c =
    let bytes : IsBytes c.args.digest.bytes = search rules in
    let many : length c.args.digest.bytes ≡ 32 = search rules in
    digest_reads c.args.digest bytes many
