-- The created instances are those that are recorded, and each has the cell after all events.
use Rattle.std.proofs.Common.{◌≡◌, refl, subst}
use Rattle.std.proofs.lemmas.Result.{on_ok_weaker}
use Rattle.std.specs.Io.KnownBytes.{append_known, Appends}
use Rattle.osb_lines.specs.Schedule.{catalogue_in, events_in}
use Rattle.osb_run.proofs.Outs.{created_of}
use Rattle.osb_trace.proofs.settling.tell_settling.Goals as goal
use Rattle.osb_trace.specs.Settling.{told_each}
use Rattle.osb_world.specs.Events.{cell_after}
use Rattle.osb_world.specs.Views.{catalogue_of, cell_at}

pub returns-clause-told : goal.returns-clause-told
returns-clause-told g c = λ lines ran.
    let cat = catalogue_in lines in
    let events = events_in lines in
    let instance = c.args.teller.now.instance in
    let world = c.end-world.result.world in
    let ids = c.in-Ok.ids.items in
    let after = (c.end-world.ensures.ended lines ran).world in
    let same : told_each instance (catalogue_of world) (cell_at world) c.as_slice.result.now
    ≡ told_each instance cat (λ id. cell_after cat id events) ids =
    (λ i. told_each instance (after.0 i) (λ id. after.1 id i) (c.as_slice.ensures.value i)) in
    on_ok_weaker c.tell_each.result
    (λ told. (
      told_each instance cat (λ id. cell_after cat id events) ids,
      (ids, created_of cat events world ids after c.in-Ok.ensures.ascending c.in-Ok.ensures.recorded, refl),
      subst
          (Appends (append_known (g.W.Write.contents c.args.writer.now.device) c.args.teller.now.buffer)
          (append_known (g.W.Write.contents c.tell_each.new.writer.device) c.tell_each.new.teller.buffer)) same told,
    )) c.tell_each.ensures.told
