-- The line that was made is told of what was heard.
use Rattle.std.proofs.Common.{◌≡◌, ◌++◌, ◌∷◌, [], sym, ap, ◌∙◌, subst, true, OnOk}
use Rattle.std.proofs.lemmas.Result.{on_ok_weaker}
use Rattle.std.specs.Io.KnownBytes.{append_known, Appends}
use Rattle.osb_lines.proofs.Reading.{on_ok_both}
use Rattle.osb_lines.specs.Schedule.{catalogue_in, events_in}
use Rattle.osb_trace.proofs.Lines.{told_event_line, told_restart_line}
use Rattle.osb_trace.proofs.Telling.{when_ok}
use Rattle.osb_trace.specs.Columns.{columns}
use Rattle.osb_trace.specs.Telling.{asked_columns, is_asked, said_step, told_restart, IsLineTold}
use Rattle.osb_trace.proofs.teller.Teller.tell.Goals.{in-Event+else-not-is_asked, in-Restart}
use Rattle.osb_trace.proofs.teller.Teller.tell.Goals as goal
use Rattle.osb_world.specs.Events.{cell_after}

pub returns-clause-told : goal.returns-clause-told
returns-clause-told g c = λ earlier line traced.
    let instance = c.args.self.now.instance in
    let tracer = c.args.tracer.now in
    let found = c.match-tracer in
    let cat = catalogue_in (earlier ++ line ∷ []) in
    let events = events_in (earlier ++ line ∷ []) in
    let made : OnOk found.made (IsLineTold instance earlier line found.self.line.items
    × (found.self.buffer ≡ c.args.self.now.buffer)) = elim found.branch [
      | in-Event+else-not-is_asked w ↦
          let id = w.in-Event.id in
          let event = w.in-Event.event in
          let step = w.in-Event.step in
          let after = w.cell.result in
          let call = w.make_event_line-made in
          let asked : is_asked instance id ≡ true = sym w.is_asked.ensures.asked ∙ w.if-not-is_asked.false in
          rw (w.made-is, w.self-is)
          (on_ok_weaker call.result
          (λ is. (
            subst (IsLineTold instance earlier line)
                (sym (is ∙ ap (λ head. head ++ said_step step after event ++ 9 ∷ columns after) w.as_slice.ensures.value))
                (told_event_line instance earlier line tracer id event step after traced w.in-Event.is asked
                (w.cell.ensures.cell cat events traced.ran)),
            call.ensures.buffer,
          )) call.ensures.line)
      | in-Restart w ↦
          let changed = w.in-Restart.changed in
          let call = w.make_restart_line-made in
          let told = asked_columns instance (λ id. cell_after cat id events) in
          rw (w.made-is, w.self-is)
          (on_ok_weaker call.result
          (λ is. (
            subst (IsLineTold instance earlier line)
                (sym (is ∙ ap (λ head. told_restart head changed told) w.as_slice-in-Restart.ensures.value))
                (told_restart_line instance earlier line tracer changed traced w.in-Restart.is),
            call.ensures.buffer,
          )) (call.ensures.line cat events traced.ran))
    ] in
    on_ok_weaker c.push_line.result
    (λ (passed, ok). let (told, same) = when_ok _ found.made ok made in (
      found.self.line.items,
      told,
      subst
          (λ buffer. Appends (append_known (g.W.Write.contents c.args.writer.now.device) buffer)
          (append_known (g.W.Write.contents c.push_line.new.writer.device) c.push_line.new.self.buffer)
          found.self.line.items) same passed,
    )) (on_ok_both _ _ c.push_line.result c.push_line.ensures.told c.push_line.ensures.made)
