-- Which requests are put off: a Bind while its instance isn't there, and a Deprovision while a binding is held. No rule
-- looks at the kind, since nothing else can begin then.
use Rattle.std.specs.Prelude.{◌≡◌, ℕ, true, Some}
use Rattle.osb_message.specs.declared.messages.Kind.TheVariants.{Provision, Deprovision}
use Rattle.osb_instance.specs.declared.record.Sent.{Sent}
use Rattle.osb_instance.specs.Begin.{is_held, is_there}
use Rattle.osb_network.specs.Cell.{Cell}
use Rattle.osb_network.specs.Steps.{sent_as}
use Rattle.osb_binding_network.specs.declared.rules.Rules.{Rules}
use Rattle.osb_binding_network.specs.Allowed.{begins}

pub record PutsOffRightly (rules : Rules) (one other : Cell) : Type 0 where
  -- of the instance, with its binding
  pub instance : (n : ℕ) (sent : Sent) → rules.broker ≡ true → sent_as one.sent n ≡ Some sent
      → begins one n ≡ true → is_held other.held ≡ true → sent.request.kind ≡ Deprovision
  -- of the binding
  pub binding : (n : ℕ) (sent : Sent) → rules.broker ≡ true → sent_as other.sent n ≡ Some sent
      → begins other n ≡ true → (is_there one.held one.order.service one.order.plan ≡ true → ⊥)
      → sent.request.kind ≡ Provision
