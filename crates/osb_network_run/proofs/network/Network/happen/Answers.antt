-- The instance has taken its step, and the others are as before.
use Rattle.std.proofs.Common.{◌≡◌, OnErr, OnOk, subst}
use Rattle.std.specs.FinMap.{from_entries}
use Rattle.std.specs.Ordering.{nat_cmp}
use Rattle.osb_network_run.specs.Network.{Services, with_event}
use Rattle.osb_network_run.proofs.Stepping.{happened, nothing_happened}
use Rattle.osb_network_run.proofs.network.Network.happen.Goals as goal

pub returns-clause-network : goal.returns-clause-network
returns-clause-network c =
    subst
    (λ (s : Services). OnOk c.step_at.result
    (from_entries {R = nat_cmp} c.step_at.new.services.entries ≡ with_event s c.args.id c.args.event))
    c.self.view_is
    (happened c.step_at.result c.self.inside.services c.step_at.new.services c.args.id c.args.event
    c.step_at.ensures.here c.step_at.ensures.others)

pub returns-clause-err : goal.returns-clause-err
returns-clause-err c =
    subst
    (λ (s : Services). OnErr c.step_at.result (from_entries {R = nat_cmp} c.step_at.new.services.entries ≡ s))
    c.self.view_is
    (nothing_happened c.step_at.result c.self.inside.services c.step_at.new.services c.args.id c.step_at.ensures.err
    c.step_at.ensures.others)
