use Rattle.std.proofs.Common.{◌≡◌, [], drop, map}
use Rattle.serde_json.specs.View.{items_view}
use Rattle.osb_wire.specs.CatalogueRules.{plans_judged}
use Rattle.osb_wire.proofs.catalogue_rules.judge_plans.Given as goal

abbrev pub invariant-loop-plan : goal.invariant-loop-plan
invariant-loop-plan l = record {
  left : plans_judged l.serves (map (λ name. name.now) l.names.items) (items_view (drop l.plan-index l.plans.items))
      ≡ plans_judged l.serves [] (items_view l.plans.items);
}
