-- The transaction of a driver in the world is the one of the program's call.
use Rattle.std.proofs.Common.{◌≡◌, ℕ, Bool, refl, ap}
use Rattle.std.specs.Prelude.{Option, Some, None}
use Rattle.osb_driver.specs.World.{is_owner}
use Rattle.osb_driver.specs.declared.driver.Permit.{Permit}
use Rattle.osb_driver.specs.declared.driver.Stage.{Stage}
use Rattle.osb_driver.specs.declared.driver.Task.{Task}
use Rattle.osb_update.specs.declared.request.Allowed.{Allowed}
use Rattle.osb_update_driver.specs.Driver.{transaction}
use Rattle.osb_update_driver.specs.World.{IsAskedBy, RunsItsOwn, WorldState, begin_of, first_of, terms_at}
use Rattle.osb_update_driver.specs.declared.driver.UpdateAsked.{UpdateAsked}
use Rattle.osb_update_driver.specs.declared.driver.UpdateStage.{UpdateStage}
use Rattle.osb_update_driver.specs.declared.driver.UpdateTask.{UpdateTask}

begin_own : (s : WorldState) (at : ℕ) (permit : Permit) (allowed : Allowed) (a : Option ℕ) (l : Bool) (x : UpdateAsked)
    → IsAskedBy s a x
    → begin_of s at permit allowed a l
    ≡ transaction a (UpdateStage.Instance (Stage.Begin l)) (is_owner s.owner at) permit
    (terms_at s (UpdateStage.Instance (Stage.Begin l)) x allowed) s.instance s.change x
begin_own s at permit allowed None l x is = refl
begin_own s at permit allowed (Some n) l x is = ap (first_of s at permit allowed l) is

pub runs_its_own : RunsItsOwn
runs_its_own s at permit allowed a (UpdateStage.Instance Stage.TryLock) q is = refl
runs_its_own s at permit allowed a (UpdateStage.Instance (Stage.Begin l)) q is = begin_own s at permit allowed a l q is
runs_its_own s at permit allowed a (UpdateStage.Instance Stage.AwaitLock) q is = refl
runs_its_own s at permit allowed a (UpdateStage.Instance (Stage.Work (Task.Pending r))) q is = refl
runs_its_own s at permit allowed a (UpdateStage.Instance (Stage.Work Task.Operation)) q is = refl
runs_its_own s at permit allowed a (UpdateStage.Instance (Stage.End out x)) q is = refl
runs_its_own s at permit allowed a (UpdateStage.Instance (Stage.Finish ok)) q is = refl
runs_its_own s at permit allowed a (UpdateStage.Instance Stage.Unsure) q is = refl
runs_its_own s at permit allowed a (UpdateStage.Instance (Stage.Answer y)) q is = refl
runs_its_own s at permit allowed a (UpdateStage.Instance Stage.Done) q is = refl
runs_its_own s at permit allowed a (UpdateStage.Work (UpdateTask.Pending to)) q is = refl
runs_its_own s at permit allowed a (UpdateStage.Work (UpdateTask.Operation to)) q is = refl
runs_its_own s at permit allowed a (UpdateStage.End outcome x) q is = refl
runs_its_own s at permit allowed a (UpdateStage.Finish ok) q is = refl
runs_its_own s at permit allowed a UpdateStage.Conflict q is = refl
