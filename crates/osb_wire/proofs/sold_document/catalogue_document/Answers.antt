use Rattle.std.proofs.Common.{◌≡◌, ℕ, List, All, Some, sym, ap, subst, rules}
use Rattle.serde_json.specs.View.{items_view}
use Rattle.osb_wire.specs.CatalogueRules.{IsKnown, id_texts_in}
use Rattle.osb_wire.specs.SoldDocuments.{services_in, known_of, plan_texts_of}
use Rattle.osb_wire.proofs.KnownTexts.{services_known, plans_known, injective}
use Rattle.osb_wire.proofs.sold_document.catalogue_document.Goals as goal

pub returns-clause-services : goal.returns-clause-services
returns-clause-services c =
    let ds = items_view c.in-Some-and_then.services.now.items in
    let known = known_of c.judge_texts.new.service_texts.items in
    let found : services_in c.args.text.now ≡ Some ds = search rules in
    subst (λ (texts : List (List ℕ)). All (IsKnown known) texts) (sym (ap id_texts_in found))
    (services_known c.args.serves ds known (known_of c.judge_texts.new.plan_texts.items) c.in-Ok-judge_texts.ensures.ok)

pub returns-clause-plans : goal.returns-clause-plans
returns-clause-plans c =
    let ds = items_view c.in-Some-and_then.services.now.items in
    let known = known_of c.judge_texts.new.plan_texts.items in
    let found : services_in c.args.text.now ≡ Some ds = search rules in
    subst (λ (texts : List (List ℕ)). All (IsKnown known) texts) (sym (ap plan_texts_of found))
    (plans_known c.args.serves ds (known_of c.judge_texts.new.service_texts.items) known c.in-Ok-judge_texts.ensures.ok)

pub returns-clause-injective : goal.returns-clause-injective
returns-clause-injective c = (
  injective (known_of c.judge_texts.new.service_texts.items) _ (returns-clause-services c),
  injective (known_of c.judge_texts.new.plan_texts.items) _ (returns-clause-plans c),
)
