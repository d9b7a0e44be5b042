-- The header, the lines that line feeds end, and the last one.
use Rattle.std.proofs.Common.{◌∷◌, [], ◌++◌, ◌∙◌, true, false, sym, subst, List, ℕ}
use Rattle.std.proofs.lemmas.Result.{err_from_is_err_and}
use Rattle.std.specs.Io.KnownBytes.{append_known}
use Rattle.osb_lines.specs.Lines.{lines}
use Rattle.osb_lines.specs.Reading.{IsLast}
use Rattle.osb_run.specs.Run.{HasRun}
use Rattle.osb_trace.proofs.Endings.{stopped_last, stopped_whole, told_held, writes}
use Rattle.osb_trace.proofs.Pieces.{HasToldAll}
use Rattle.osb_trace.proofs.tracing.tell_lines.Goals.{then-branch+in_ok-tell, else-branch}
use Rattle.osb_trace.proofs.tracing.tell_lines.Goals as goal
use Rattle.osb_trace.specs.Heard.{HasTraced}
use Rattle.osb_trace.specs.Passing.{IsWhyStopped, TellsMore}
use Rattle.osb_trace.specs.Telling.{IsLineTold}
use Rattle.osb_trace.specs.declared.tracer.Tracer.{Tracer}

pub returns-in_err-tell_input-clause-fault : goal.returns-in_err-tell_input-clause-fault
returns-in_err-tell_input-clause-fault g c =
    let residual = c.from_residual-in_err-tell_input in
    let p = err_from_is_err_and residual.result residual.ensures.1 in
    let middle = append_known (g.W.Write.contents c.tell_header.new.writer.device) c.tell_header.new.self.buffer in
    let last = append_known (g.W.Write.contents c.tell_input.new.writer.device) c.tell_input.new.teller.buffer in
    rw (p.1, p.2)
    (stopped_whole c.args.teller.now.instance _ _ _ middle last c.tell_input.new.input.refused
    c.tell_input.new.writer.refused c.in_err-tell_input.field-0.0 c.in_ok-tell_header.ensures.told
    (subst
    (λ instance. IsWhyStopped instance (g.R.Read.remaining c.args.reader.now.device)
    (g.R.Read.remaining c.tell_input.new.input.device) c.tell_input.new.input.refused middle last
    c.tell_input.new.writer.refused c.in_err-tell_input.field-0.0) c.tell_header.ensures.instance
    c.in_err-tell_input.ensures.fault))

pub returns-in_err-take_last-clause-fault : goal.returns-in_err-take_last-clause-fault
returns-in_err-take_last-clause-fault g c =
    let residual = c.from_residual-in_err-take_last in
    let p = err_from_is_err_and residual.result residual.ensures.1 in
    let (bytes, consumed, at_end, all) = c.in_ok-tell_input.ensures.ok in
    let (ended, read, tells) = all in
    let middle = append_known (g.W.Write.contents c.tell_header.new.writer.device) c.tell_header.new.self.buffer in
    let last = append_known (g.W.Write.contents c.tell_input.new.writer.device) c.tell_input.new.teller.buffer in
    rw (p.1, p.2)
    (stopped_last c.args.teller.now.instance _ _ _ middle last c.tell_input.new.input.refused
    c.tell_input.new.writer.refused bytes c.tell_input.new.lines c.in_err-take_last.field-0.0
    c.in_ok-tell_header.ensures.told consumed at_end
    (subst (λ instance. HasToldAll instance bytes c.tell_input.new.lines middle last) c.tell_header.ensures.instance all)
    (c.in_err-take_last.ensures.refused bytes (ended, read)))

pub returns-clause-ok : goal.returns-clause-ok
returns-clause-ok g c =
    let (bytes, consumed, at_end, all) = c.in_ok-tell_input.ensures.ok in
    let (ended, read, tells_by) = all in
    let instance = c.args.teller.now.instance in
    let first = append_known (g.W.Write.contents c.args.writer.now.device) c.args.teller.now.buffer in
    let middle = append_known (g.W.Write.contents c.tell_header.new.writer.device) c.tell_header.new.self.buffer in
    let now = append_known (g.W.Write.contents c.tell_input.new.writer.device) c.tell_input.new.teller.buffer in
    let last = append_known (g.W.Write.contents c.if-branch.writer.device) c.if-branch.teller.buffer in
    let tells : TellsMore instance [] ended middle now =
    subst (λ instance. TellsMore instance [] ended middle now) c.tell_header.ensures.instance tells_by in
    let (is_last, faultless, traced) = c.in_ok-take_last.ensures.good bytes ended read in
    let told : TellsMore instance [] (lines bytes) middle last = elim c.if-branch.branch [
      | then-branch+in_ok-tell w ↦
          let held : IsLast bytes ended true = rw w.if-branch.true at is_last in
          let (line, same) = held in
          let here : HasTraced (ended ++ line ∷ []) w.sink.result.now =
          subst (λ (p : List (List ℕ) × Tracer). HasTraced p.0 p.1) (λ i. (same i, sym w.sink.ensures.sink i)) traced in
          let (text, is_told, passed) = w.in_ok-tell.ensures.told ended line here in
          rw (w.teller-is, w.writer-is)
          (told_held instance bytes ended line text middle now _ same tells
          (subst (λ instance. IsLineTold instance ended line text)
          (c.tell_input.ensures.instance ∙ c.tell_header.ensures.instance) is_told) passed)
      | else-branch w ↦
          let none : IsLast bytes ended false = rw w.if-branch.false at is_last in
          rw (w.teller-is, w.writer-is) (subst (λ all. TellsMore instance [] all middle now) (sym none) tells)
    ] in (
      bytes,
      record { consumed = consumed; at_end = at_end; faultless = faultless },
      subst (λ (tracer : Tracer). HasRun (lines bytes) tracer.run) (sym c.into_sink-run.ensures.sink) traced.ran,
      writes instance (lines bytes) first middle last c.in_ok-tell_header.ensures.told told,
    )
