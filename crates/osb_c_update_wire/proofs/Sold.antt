-- What is said of a plan that is sold, as it crosses.
use Rattle.std.proofs.Common.{◌≡◌, ℕ, Bool, not, ◌&&◌, if◌then◌else◌, List, Option, Some, None, refl}
use Rattle.osb_instance.specs.declared.outcome.Rejection.TheVariants.{UnprocessableEntity}
use Rattle.osb_message.specs.declared.catalogue.Mode.{Mode}
use Rattle.osb_update.specs.declared.request.Allowed.{Allowed}
use Rattle.osb_wire.specs.Maintenance.{conflicts}
use Rattle.osb_update_wire.specs.Catalogues as catalogues
use Rattle.osb_update_wire.specs.Catalogues.{Sold, mode_by}
use Rattle.osb_update_wire.specs.declared.catalogue.PlanUpdates.{PlanUpdates}
use Rattle.osb_c_update_wire.specs.Catalogues as crossed
use Rattle.osb_c_update_wire.specs.declared.catalogues.OsbPlanUpdates.{OsbPlanUpdates}

-- of a plan that isn't
pub nothing_of : (sold : Option Sold) → catalogues.IsSaidIf None sold → crossed.IsSaidIf crossed.nothing_said sold
nothing_of None h = refl
nothing_of (Some sold) h = absurd h

-- and of one that is
pub said_of : (u : OsbPlanUpdates) (of : PlanUpdates) → ((s : Sold) → catalogues.IsSaidOf of s → crossed.IsSaidOf u s)
    → (sold : Option Sold) → catalogues.IsSaidIf (Some of) sold → crossed.IsSaidIf u sold
said_of u of crosses None h = absurd h
said_of u of crosses (Some sold) h = crosses sold h

-- the version
pub version_of : (found : Option PlanUpdates) (sold : Option Sold) → catalogues.IsSaidIf found sold
    → crossed.version_read found ≡ crossed.version_sold sold
version_of None None h = refl
version_of None (Some sold) h = absurd h
version_of (Some of) None h = absurd h
version_of (Some of) (Some sold) h = h.version

-- whether the plan that is held can be changed
may : (held : Option PlanUpdates) (sold : Option Sold) → catalogues.IsSaidIf held sold
    → catalogues.may_leave held ≡ crossed.may_leave sold
may None None h = refl
may None (Some sold) h = absurd h
may (Some of) None h = absurd h
may (Some of) (Some sold) h = h.updateable

module _ (leaves : Bool) (named : Option (List ℕ)) (otherwise : Mode) where
  -- whether an Update is allowed, by what was read and by what is sold
  allowed_to : (one other : Bool) (of : PlanUpdates) (sold : Sold) → one ≡ other → catalogues.IsSaidOf of sold
      → catalogues.allowed_to leaves one named otherwise of ≡ crossed.allowed_to leaves other named otherwise sold
  allowed_to one other of sold may_be h = λ i.
      if leaves && not (may_be i) then Allowed.Rejected UnprocessableEntity
      else (if conflicts (h.version i) named then Allowed.MaintenanceInfoConflict
      else Allowed.Mode (mode_by (h.asynchronous i) otherwise))

  pub allowed_of : (held asked : Option PlanUpdates) (h a : Option Sold) → catalogues.IsSaidIf held h
      → catalogues.IsSaidIf asked a
      → catalogues.allowed held asked leaves named otherwise ≡ crossed.allowed_by h a leaves named otherwise
  allowed_of held None h None is also = refl
  allowed_of held None h (Some a) is also = absurd also
  allowed_of held (Some of) h None is also = absurd also
  allowed_of held (Some of) h (Some a) is also =
      allowed_to (catalogues.may_leave held) (crossed.may_leave h) of a (may held h is) also
