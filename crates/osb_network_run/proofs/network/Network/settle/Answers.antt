-- The instances are those of the map, also if memory ran out.
use Rattle.std.proofs.Common.{◌∙◌, subst}
use Rattle.std.proofs.lemmas.Result.{on_err_weaker, on_ok_weaker}
use Rattle.std.specs.FinMap.{from_entries}
use Rattle.std.specs.Ordering.{nat_cmp}
use Rattle.osb_network.proofs.PartWay.{left}
use Rattle.osb_network_run.specs.Network.{Services}
use Rattle.osb_network_run.specs.Settling.{SettlesEach, SettlesPartly}
use Rattle.osb_network_run.proofs.Each.{each_settled, tree_ids}
use Rattle.osb_network_run.proofs.Partly.{network_partly, network_same}
use Rattle.osb_network_run.proofs.network.Network.settle.Goals as goal

pub returns : goal.returns
returns c =
    let old = c.self.inside.services in
    let new = c.settle_each.new.services in
    let listed = c.as_slice.ensures.value
    ∙ tree_ids old c.in_ok-ids.ids.items c.in_ok-ids.ensures.ordered c.in_ok-ids.ensures.keys in
    record {
      settled = on_ok_weaker c.settle_each.result
          (λ done. subst (λ (s : Services). SettlesEach s (from_entries {R = nat_cmp} new.entries)) c.self.view_is
          (each_settled old new c.as_slice.result.now listed done)) c.settle_each.ensures.settled;
      err = on_err_weaker c.settle_each.result
          (λ each. subst (λ (s : Services). SettlesPartly s (from_entries {R = nat_cmp} new.entries)) c.self.view_is
          (network_partly old new each)) c.settle_each.ensures.err;
    }

pub returns-in_err-ids-clause-err : goal.returns-in_err-ids-clause-err
returns-in_err-ids-clause-err c = left _ (network_same c.args.self.now)
