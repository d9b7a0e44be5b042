-- The number of each refusal stands for it alone.
use Rattle.std.proofs.Common.{◌≡◌, Some, refl}
use Rattle.osb_wire.specs.declared.refusal.Refusal.{Refusal}
use Rattle.osb_wire.specs.declared.refusal.Refusal.TheVariants.{NoSuchTarget, NoSuchMethod, BadVersion, TooLong, BadInstance, Repeated}
use Rattle.osb_wire.specs.declared.refusal.Refusal.TheVariants.{BadService, BadPlan, BadAcceptsIncomplete, NotAnObject, BadOrganization, BadSpace}
use Rattle.osb_update_wire.specs.declared.refusal.UpdateRefusal.{UpdateRefusal}
use Rattle.osb_update_wire.specs.declared.refusal.UpdateRefusal.TheVariants.{BadNumber, Refused}
use Rattle.osb_c_types.specs.Status.{code}
use Rattle.osb_c_update_wire.specs.Refusals.{refusal_of, refusal_status}

pub numbered : (refusal : UpdateRefusal) → refusal_of (code (refusal_status refusal)) ≡ Some refusal
numbered BadNumber = refl
numbered (Refused NoSuchTarget) = refl
numbered (Refused NoSuchMethod) = refl
numbered (Refused BadVersion) = refl
numbered (Refused TooLong) = refl
numbered (Refused BadInstance) = refl
numbered (Refused Repeated) = refl
numbered (Refused BadService) = refl
numbered (Refused BadPlan) = refl
numbered (Refused BadAcceptsIncomplete) = refl
numbered (Refused NotAnObject) = refl
numbered (Refused BadOrganization) = refl
numbered (Refused BadSpace) = refl
numbered (Refused Refusal.Memory) = refl
