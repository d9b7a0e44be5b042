use Rattle.std.proofs.Common.{◌≡◌}
use Rattle.std.specs.BTreeMap.{values}
use Rattle.osb_binding_network.specs.Service.{every}
use Rattle.osb_binding_network.specs.Allowed.{may_remove}
use Rattle.osb_binding_network.proofs.service.all_may_remove.Given as goal

-- what is left tells all
abbrev pub invariant-loop-binding : goal.invariant-loop-binding
invariant-loop-binding l =
    every (λ b. may_remove l.rules b) l.binding-iterator ≡ every (λ b. may_remove l.rules b) (values l.bindings)
