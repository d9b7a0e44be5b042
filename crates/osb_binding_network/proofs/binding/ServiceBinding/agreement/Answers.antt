use Rattle.std.proofs.Common.{subst}
use Rattle.osb_binding_network.specs.Binding.{CredentialsAgree}
use Rattle.osb_binding_network.proofs.Credentials.{credentials_agree}
use Rattle.osb_binding_network.proofs.binding.ServiceBinding.agreement.Goals as goal

pub returns-clause-credentials : goal.returns-clause-credentials
returns-clause-credentials c =
    subst CredentialsAgree c.self.view_is (credentials_agree c.self.inside.parts c.self.invariant.credited)
