use Rattle.std.proofs.Common.{sym, arith, true≢false}
use Rattle.std.proofs.lemmas.Grind.{common_steps}
use Rattle.osb_message.proofs.IdLemmas.{nothing_read, read_id}
use Rattle.osb_message.proofs.ids.Id.from_bytes.Goals as goal

pub returns-in-Ok : goal.returns-in-Ok
returns-in-Ok g c =
    let read = read_id c.args.text.now _ (omega arith) c.in-Ok.ensures.bytes in
    record { reads = grind (arith, common_steps) }

pub returns-in-Err : goal.returns-in-Err
returns-in-Err g c = record {
  reads = nothing_read _ (omega arith) (λ u e. absurd (true≢false (sym (c.in-Err.ensures.ok.1 (u, e)))));
}
