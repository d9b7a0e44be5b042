use Rattle.std.proofs.Common.{◌≡◌, true, false, sym, subst}
use Rattle.std.specs.Prelude.{None}
use Rattle.osb_instance.specs.Fits.{fits}
use Rattle.osb_instance.specs.Held.{Held}
use Rattle.osb_instance.proofs.Fitting.{worked_fits}
use Rattle.osb_instance.proofs.holding.Holding.ended.Goals as goal

pub returns-clause-fits : goal.returns-clause-fits
returns-clause-fits c = λ h.
    let held = c.self.inside in
    let before = subst (λ (x : Held). fits c.args.mode x ≡ true) (sym c.self.view_is) h in
    subst (λ b. fits c.args.mode (record {
      row = b;
      work = None;
      tombstone = c.ends-tombstone.result;
      waiting = false;
      attributes = c.kept_attributes.result;
    }) ≡ true) (sym c.decide-after.ensures.row)
    (worked_fits c.args.mode (record {
      row = held.row;
      work = held.work;
      tombstone = held.tombstone;
      waiting = held.waiting;
      attributes = held.attributes;
    }) c.args.request.now c.args.outcome c.ends-tombstone.result false c.kept_attributes.result before)
