use Rattle.std.proofs.Common.{◌≡◌, ◌∙◌, [], ◌∷◌, ◌++◌, ap, drop, take, ◌+◌, sym}
use Rattle.std.proofs.lemmas.List.{drop_more, take_more}
use Rattle.std.specs.FinMap.{get}
use Rattle.osb_network.specs.Many.{stepped_through, ArePartWay}
use Rattle.osb_network.proofs.Many.{one_further, one_more, same_everywhere}
use Rattle.osb_network.proofs.PartWay.{left}
use Rattle.osb_network.proofs.network.Network.steps.Goals as goal

pub loop-named-preserved : goal.loop-named-preserved
loop-named-preserved c =
    let events = c.args.events.now in
    let index = c.loop-named.named-index in
    let named = c.named-item.result in
    let more = drop (index + 1) events in
    let head : drop index events ≡ named ∷ more =
    drop_more events index named c.loop-named-test.true ∙ ap (λ n. n ∷ more) (sym c.named-item.is) in
    let so_far : take (index + 1) events ≡ take index events ++ named ∷ [] =
    take_more events index named c.loop-named-test.true
    ∙ ap (λ n. take index events ++ n ∷ []) (sym c.named-item.is) in
    record {
      left = λ id.
          one_more id named more (get c.loop-named.self) (get c.step.new.self) c.in_ok-step.ensures.here
          c.in_ok-step.ensures.others
          ∙ ap (λ left. stepped_through id left (get c.loop-named.self id)) (sym head)
          ∙ c.loop-named.invariant.left id;
      past = λ id.
          one_further id named (take index events) (get c.args.self.now) (get c.loop-named.self) (get c.step.new.self)
          c.in_ok-step.ensures.here c.in_ok-step.ensures.others (c.loop-named.invariant.past id)
          ∙ ap (λ past. stepped_through id past (get c.args.self.now id)) (sym so_far);
    }

pub returns-in_err-step-clause-err : goal.returns-in_err-step-clause-err
returns-in_err-step-clause-err c =
    let part : ArePartWay c.args.events.now (get c.args.self.now) (get c.step.new.self) = (
      c.loop-named.named-index,
      c.loop-named-test.true,
      λ id.
          same_everywhere id c.named-item.result.id (get c.loop-named.self) (get c.step.new.self)
          c.in_err-step.ensures.err c.in_err-step.ensures.others
          ∙ c.loop-named.invariant.past id,
    ) in
    left _ part
