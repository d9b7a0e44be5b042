-- The lines, and the rounds where they are asked for.
use Rattle.std.proofs.Common.{◌≡◌, true, rules, subst, OnOk, List, ℕ}
use Rattle.std.proofs.lemmas.Result.{on_ok_weaker}
use Rattle.std.specs.Io.KnownBytes.{append_known, Appends}
use Rattle.osb_lines.specs.Lines.{lines}
use Rattle.osb_lines.specs.Schedule.{catalogue_in, events_in}
use Rattle.osb_trace.proofs.Endings.{traced_plain, traced_settled}
use Rattle.osb_trace.proofs.tracing.tell_all.Goals as goal
use Rattle.osb_trace.specs.Settling.{IsSettlingTold}

pub returns-then-not-settle-clause-ok : goal.returns-then-not-settle-clause-ok
returns-then-not-settle-clause-ok g c =
    let (bytes, whole, ran, written) = c.in_ok-run.ensures.ok in (
      bytes,
      whole,
      traced_plain c.args.teller.now.instance c.args.settle bytes _ _ (search rules) written,
    )

pub returns-clause-ok : goal.returns-clause-ok
returns-clause-ok g c =
    let (bytes, whole, ran, written) = c.in_ok-run.ensures.ok in
    let instance = c.args.teller.now.instance in
    let first = append_known (g.W.Write.contents c.args.writer.now.device) c.args.teller.now.buffer in
    let middle = append_known (g.W.Write.contents c.tell_lines.new.writer.device) c.tell_lines.new.teller.buffer in
    let last = append_known (g.W.Write.contents c.tell_settling.new.writer.device) c.tell_settling.new.teller.buffer in
    let asked : c.args.settle ≡ true = search rules in
    let told = subst
    (λ instance. OnOk c.tell_settling.result ((text : List ℕ)
    × IsSettlingTold instance true (catalogue_in (lines bytes)) (events_in (lines bytes)) text
    × Appends middle last text)) c.tell_lines.ensures.instance (c.tell_settling.ensures.told (lines bytes) ran) in
    on_ok_weaker c.tell_settling.result
    (λ (text, rounds, passed). (
      bytes,
      whole,
      traced_settled instance c.args.settle bytes text first middle last asked written rounds passed,
    )) told
