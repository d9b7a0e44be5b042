use Rattle.std.proofs.Common.{subst}
use Rattle.std.specs.Prelude.{◌↔◌, Contains, IsSome}
use Rattle.std.specs.FinMap.{get}
use Rattle.std.proofs.lemmas.Result.{IfOk-weaker}
use Rattle.osb_platform.proofs.Ascending.{keys_recorded}
use Rattle.osb_platform.proofs.platform.Platform.ids.Goals as goal

pub returns-clause-recorded : goal.returns-clause-recorded
returns-clause-recorded c =
    IfOk-weaker c.ids.result _ _
    (λ ids h q. subst (λ m. Contains ids.items q ↔ IsSome (get m q)) c.self.view_is
    (keys_recorded c.self.inside.rows ids.items h q))
    c.ids.ensures.keys
