-- The number of each refusal stands for it alone.
use Rattle.std.proofs.Common.{◌≡◌, Some, refl}
use Rattle.osb_wire.specs.declared.refusal.Refusal.{Refusal}
use Rattle.osb_wire.specs.declared.refusal.Refusal.TheVariants.{NoSuchTarget, NoSuchMethod, BadVersion, TooLong, BadInstance, Repeated}
use Rattle.osb_wire.specs.declared.refusal.Refusal.TheVariants.{BadService, BadPlan, BadAcceptsIncomplete, NotAnObject, BadOrganization, BadSpace}
use Rattle.osb_binding_wire.specs.declared.refusal.BindingRefusal.{BindingRefusal}
use Rattle.osb_binding_wire.specs.declared.refusal.BindingRefusal.TheVariants.{BadBinding, Refused}
use Rattle.osb_c_types.specs.Status.{code}
use Rattle.osb_c_binding_wire.specs.Refusals.{refusal_of, refusal_status}

pub numbered : (refusal : BindingRefusal) → refusal_of (code (refusal_status refusal)) ≡ Some refusal
numbered BadBinding = refl
numbered (Refused NoSuchTarget) = refl
numbered (Refused NoSuchMethod) = refl
numbered (Refused BadVersion) = refl
numbered (Refused TooLong) = refl
numbered (Refused BadInstance) = refl
numbered (Refused Repeated) = refl
numbered (Refused BadService) = refl
numbered (Refused BadPlan) = refl
numbered (Refused BadAcceptsIncomplete) = refl
numbered (Refused NotAnObject) = refl
numbered (Refused BadOrganization) = refl
numbered (Refused BadSpace) = refl
numbered (Refused Refusal.Memory) = refl
