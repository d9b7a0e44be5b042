-- What is recorded is settled, or nothing where that isn't asked for.
use Rattle.std.proofs.Common.{◌≡◌, true, false, rules, subst}
use Rattle.osb_schedule.specs.Report.{AreSettled}
use Rattle.osb_schedule.proofs.Reporting.{all_settled, none_settled}
use Rattle.osb_schedule.proofs.report.settle_all.Goals as goal

pub returns-then-not-asked : goal.returns-then-not-asked
returns-then-not-asked c =
    let unasked : c.args.asked ≡ false = search rules in
    record { settled = none_settled c.args.asked c.args.world.now unasked }

pub returns : goal.returns
returns c =
    let ids = c.in_ok-ids.ids.items in
    let asked : c.args.asked ≡ true = search rules in
    record {
      settled = all_settled c.args.asked ids c.args.world.now c.settle_each.new.world asked
          c.in_ok-ids.ensures.recorded
          (subst (λ listed. AreSettled listed c.args.world.now c.settle_each.new.world)
          c.as_slice.ensures.value c.settle_each.ensures.settled);
    }
