use Rattle.std.proofs.Common.{◌≡◌, false, Ok, subst}
use Rattle.osb_world.specs.declared.step.Step.{Step}
use Rattle.osb_world.specs.Events.{applies_at}
use Rattle.osb_world.specs.Views.{WorldState, cell_at}
use Rattle.osb_world.proofs.Sound.{skipped, skips_free, sound_after}
use Rattle.osb_world.proofs.world.World.step.Goals as goal

pub invariant_of-self : goal.invariant_of-self
invariant_of-self c = let e = c.step.ensures in
    sound_after c.self.inside.parts c.step.new.self c.args.event c.step.result c.self.invariant e.cells e.err
    e.catalogue e.placed

pub returns-clause-not_applied : goal.returns-clause-not_applied
returns-clause-not_applied c =
    let e = c.step.ensures in
    subst (λ (world : WorldState). applies_at (cell_at world) c.args.event ≡ false → c.step.result
    ≡ Ok Step.Skipped) c.self.view_is
    (λ off. skipped c.step.result _ e.step (e.no_memory (skips_free _ _ c.args.event off)) off)
