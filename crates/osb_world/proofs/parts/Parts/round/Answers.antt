-- What holds of every world holds after each of the five steps.
use Rattle.std.proofs.Common.{◌≡◌, true}
use Rattle.std.specs.Prelude.{Result, Ok, Err, IsOk}
use Rattle.osb_message.specs.declared.memory.Memory.{Memory}
use Rattle.osb_broker.specs.declared.outcome.Outcome.TheVariants.{Done}
use Rattle.osb_event.specs.declared.event.Event.{Event}
use Rattle.osb_world.specs.declared.step.Step.{Step}
use Rattle.osb_world.specs.Views.{IsSound}
use Rattle.osb_world.proofs.Rounds.{own, free_delivery}
use Rattle.osb_world.proofs.Sound.{sound_step}
use Rattle.osb_world.proofs.parts.Parts.round.Goals as goal

never_err : (result : Result Step Memory) (memory : Memory) → IsOk result → result ≡ Err memory → ⊥
never_err (Ok step) memory ok e = cc
never_err (Err other) memory ok e = cc

pub finish-requires : goal.finish-requires
finish-requires c = record {
  sound = sound_step _ _ c.args.id (Event.Timeout c.args.id) (own c.args.id) c.requires.sound c.timeout.ensures.cells
      c.timeout.ensures.placed;
}

pub send-requires : goal.send-requires
send-requires c =
    let out : IsSound c.timeout.new.self =
    sound_step _ _ c.args.id (Event.Timeout c.args.id) (own c.args.id) c.requires.sound c.timeout.ensures.cells
    c.timeout.ensures.placed in
    record {
      sound = sound_step _ _ c.args.id (Event.Finish c.args.id true) (own c.args.id) out c.finish.ensures.cells
          c.finish.ensures.placed;
    }

pub deliver-requires : goal.deliver-requires
deliver-requires c =
    let out : IsSound c.timeout.new.self =
    sound_step _ _ c.args.id (Event.Timeout c.args.id) (own c.args.id) c.requires.sound c.timeout.ensures.cells
    c.timeout.ensures.placed in
    let ended : IsSound c.finish.new.self =
    sound_step _ _ c.args.id (Event.Finish c.args.id true) (own c.args.id) out c.finish.ensures.cells
    c.finish.ensures.placed in
    record {
      sound = sound_step _ _ c.args.id (Event.Send c.args.id) (own c.args.id) ended c.send.ensures.cells
          c.send.ensures.placed;
    }

pub unreachable-requires : goal.unreachable-requires
unreachable-requires c =
    let free = free_delivery _ _ _ _ c.args.id c.requires.sound c.timeout.ensures.cells c.finish.ensures.cells
    c.send.ensures.cells in
    never_err c.deliver.result c.in_default.field-0 (c.deliver.ensures.no_memory free) c.in_default.is

pub answer-requires : goal.answer-requires
answer-requires c =
    let out : IsSound c.timeout.new.self =
    sound_step _ _ c.args.id (Event.Timeout c.args.id) (own c.args.id) c.requires.sound c.timeout.ensures.cells
    c.timeout.ensures.placed in
    let ended : IsSound c.finish.new.self =
    sound_step _ _ c.args.id (Event.Finish c.args.id true) (own c.args.id) out c.finish.ensures.cells
    c.finish.ensures.placed in
    let sent : IsSound c.send.new.self =
    sound_step _ _ c.args.id (Event.Send c.args.id) (own c.args.id) ended c.send.ensures.cells c.send.ensures.placed in
    record {
      sound = sound_step _ _ c.args.id (Event.Deliver c.args.id Done) (own c.args.id) sent c.in-Ok.ensures.cells
          c.deliver.ensures.placed;
    }

pub returns-clause-sound : goal.returns-clause-sound
returns-clause-sound c =
    let out : IsSound c.timeout.new.self =
    sound_step _ _ c.args.id (Event.Timeout c.args.id) (own c.args.id) c.requires.sound c.timeout.ensures.cells
    c.timeout.ensures.placed in
    let ended : IsSound c.finish.new.self =
    sound_step _ _ c.args.id (Event.Finish c.args.id true) (own c.args.id) out c.finish.ensures.cells
    c.finish.ensures.placed in
    let sent : IsSound c.send.new.self =
    sound_step _ _ c.args.id (Event.Send c.args.id) (own c.args.id) ended c.send.ensures.cells c.send.ensures.placed in
    let delivered : IsSound c.deliver.new.self =
    sound_step _ _ c.args.id (Event.Deliver c.args.id Done) (own c.args.id) sent c.in-Ok.ensures.cells
    c.deliver.ensures.placed in
    sound_step _ _ c.args.id (Event.Answer c.args.id) (own c.args.id) delivered c.answer.ensures.cells
    c.answer.ensures.placed
