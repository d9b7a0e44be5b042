use Rattle.std.proofs.Common.{◌∙◌, refl, sym, ap, subst}
use Rattle.std.specs.Prelude.{Option, Some}
use Rattle.osb_instance.specs.declared.work.Work.{Work}
use Rattle.osb_driver.specs.Driver.{at_stage}
use Rattle.osb_driver.specs.declared.driver.Stage.{Stage}
use Rattle.osb_driver.specs.declared.worker.Worker.{Worker}
use Rattle.osb_c_instance.specs.Holdings.{IsPlain, held_of}
use Rattle.osb_c_instance.specs.declared.holdings.OsbHolding.{OsbHolding}
use Rattle.osb_c_driver.specs.Drivers.{IsPlainDriver, IsWorked, can_be, driver_of}
use Rattle.osb_c_driver.specs.Transactions.{work_at}
use Rattle.osb_c_driver.specs.Workers.{worker_for}
use Rattle.osb_c_driver.specs.declared.drivers.OsbDriver.{OsbDriver}
use Rattle.osb_c_driver.proofs.Possible.{unsure_kept}
use Rattle.osb_c_driver.proofs.transactions.write.Goals as goal

pub returns : goal.returns
returns c = record {
  written = λ was can. record {
    row = ap (λ (h : OsbHolding). held_of h) c.with_effect.ensures.holding ∙ c.held_out.ensures.held;
    number = c.with_effect.ensures.number ∙ c.number_after.ensures.number;
    committed =
        subst (λ (d : OsbDriver). IsWorked (at_stage c.args.read.attempt c.args.written.now.stage)
        (worker_for (work_at c.args.mode c.args.written.now.row c.args.written.now.stage)) d)
        (sym c.with_effect.ensures.committed)
        (subst (λ (w : Worker). IsWorked (at_stage c.args.read.attempt c.args.written.now.stage) w c.worked.result)
        (c.worker_for-worker.ensures.worker ∙ ap (λ (w : Option Work). worker_for w) c.work_at.ensures.work)
        (c.worked.ensures.worked c.args.read was refl can c.worker_for-worker.ensures.can));
    unsure =
        ap (λ (d : OsbDriver). driver_of d) c.with_effect.ensures.unsure
        ∙ c.moved.ensures.moved c.args.read was refl
        (ap (λ (s : Stage). can_be c.args.read.attempt s) c.unsure.ensures.stage
        ∙ unsure_kept c.args.read.attempt c.args.read.stage c.args.written.now)
        ∙ ap (λ (s : Stage). Some (at_stage c.args.read.attempt s)) c.unsure.ensures.stage;
    numbers = (
      ap (λ (d : OsbDriver). d.number) c.with_effect.ensures.committed ∙ c.worked.ensures.number,
      ap (λ (d : OsbDriver). d.number) c.with_effect.ensures.unsure ∙ c.moved.ensures.number,
    );
    effect = c.with_effect.ensures.effect;
    writes = (
      λ h. c.writes.ensures.writes.0 (sym c.with_effect.ensures.writes ∙ h),
      λ h. c.with_effect.ensures.writes ∙ c.writes.ensures.writes.1 h,
    );
    plain = (
      subst (λ (h : OsbHolding). IsPlain h) (sym c.with_effect.ensures.holding) c.held_out.ensures.plain,
      subst (λ (d : OsbDriver). IsPlainDriver d) (sym c.with_effect.ensures.committed)
          (c.worked.ensures.plain c.worker_for-worker.ensures.can),
      subst (λ (d : OsbDriver). IsPlainDriver d) (sym c.with_effect.ensures.unsure) c.moved.ensures.plain,
      c.with_effect.ensures.plain,
    );
  };
}
