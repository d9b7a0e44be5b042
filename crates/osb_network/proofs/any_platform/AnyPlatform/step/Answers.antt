use Rattle.std.proofs.Common.{subst}
use Rattle.osb_network.specs.AnyPlatform.{AnyCell, StaysGone}
use Rattle.osb_network.proofs.Alone.{alone_after, promised}
use Rattle.osb_network.proofs.Gone.{gone_after}
use Rattle.osb_network.proofs.any_platform.AnyPlatform.step.Goals as goal

pub invariant_of-self : goal.invariant_of-self
invariant_of-self c =
    alone_after _ _ c.step.result c.self.inside.parts c.step.new.self c.args.event c.step.ensures.cell
    c.step.ensures.err c.self.invariant

pub returns-clause-promised : goal.returns-clause-promised
returns-clause-promised c = promised _ (invariant_of-self c)

pub returns-clause-stays_gone : goal.returns-clause-stays_gone
returns-clause-stays_gone c =
    subst (λ (a : AnyCell). StaysGone a c.step.new.self) c.self.view_is
    (gone_after _ _ c.step.result c.self.inside.parts c.step.new.self c.args.event c.step.ensures.cell
    c.step.ensures.err)
