use Rattle.std.proofs.Common.{◌≡◌, ℕ, List, Err, sym, ◌∙◌, subst}
use Rattle.osb_wire.specs.Targets as targets
use Rattle.osb_wire.specs.declared.refusal.Refusal.TheVariants.{NoSuchTarget}
use Rattle.osb_binding_wire.specs.Places as places
use Rattle.osb_binding_wire.specs.declared.refusal.BindingRefusal.TheVariants.{Refused}
use Rattle.osb_binding_wire.proofs.NoTargets.{no_instance, no_binding}
use Rattle.osb_binding_wire.proofs.target.read_target.Goals as goal

pub returns-clause-no_instance : goal.returns-clause-no_instance
returns-clause-no_instance c = λ none method.
    subst (λ (path : List ℕ). targets.instance_in c.args.prefix.now method path ≡ Err NoSuchTarget)
    c.split_query.ensures.path
    (no_instance c.args.prefix.now method c.split_query.result.0.now (sym c.path_target.ensures.target ∙ none))

pub returns-clause-no_binding : goal.returns-clause-no_binding
returns-clause-no_binding c = λ none method.
    subst (λ (path : List ℕ). places.place_in c.args.prefix.now method path ≡ Err (Refused NoSuchTarget))
    c.split_query.ensures.path
    (no_binding c.args.prefix.now method c.split_query.result.0.now (sym c.path_target.ensures.target ∙ none))
