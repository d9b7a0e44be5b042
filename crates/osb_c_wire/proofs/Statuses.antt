-- The statuses of refusals, and of texts that are written.
use Rattle.std.proofs.Common.{◌≡◌, ◌≢◌, ℕ, ◌⊎◌, [], ◌∷◌, IsTrue, refl, ap, ◌∙◌, ⊎_elim, arith}
use Rattle.osb_c_types.specs.Status.{code, is_one_of}
use Rattle.osb_c_types.specs.declared.status.Status.{Status}
use Rattle.osb_c_types.specs.declared.status.Status.TheVariants.{Done, TooSmall, NotUtf8, RefusedTarget, RefusedMethod}
use Rattle.osb_c_types.specs.declared.status.Status.TheVariants.{RefusedLength, RefusedInstance, RefusedRepeated}
use Rattle.osb_c_types.specs.declared.status.Status.TheVariants.{RefusedService, RefusedPlan, RefusedAcceptsIncomplete}
use Rattle.osb_c_types.specs.declared.status.Status.TheVariants.{RefusedBody, RefusedOrganization, RefusedSpace}
use Rattle.osb_c_wire.specs.Refusals.{refusal_status}
use Rattle.osb_wire.specs.declared.refusal.Refusal.{Refusal}
use Rattle.osb_wire.specs.declared.refusal.Refusal.TheVariants.{NoSuchTarget, NoSuchMethod, BadVersion, TooLong, BadInstance, Repeated}
use Rattle.osb_wire.specs.declared.refusal.Refusal.TheVariants.{BadService, BadPlan, BadAcceptsIncomplete, NotAnObject, BadOrganization, BadSpace}

-- one of the statuses with which a request is read
abbrev pub IsOfReceiving : ℕ → Type 0
IsOfReceiving n =
    IsTrue (is_one_of
    (Done ∷ NotUtf8 ∷ RefusedTarget ∷ RefusedMethod ∷ RefusedInstance ∷ RefusedLength ∷ RefusedRepeated ∷ RefusedService
    ∷ RefusedPlan ∷ RefusedAcceptsIncomplete ∷ RefusedBody ∷ RefusedOrganization ∷ RefusedSpace ∷ TooSmall
    ∷ Status.Memory ∷ []) n)

pub status_of_receiving : (fault : Refusal) → fault ≢ BadVersion → IsOfReceiving (code (refusal_status fault))
status_of_receiving NoSuchTarget h = refl
status_of_receiving NoSuchMethod h = refl
status_of_receiving BadVersion h = absurd (h refl)
status_of_receiving TooLong h = refl
status_of_receiving BadInstance h = refl
status_of_receiving Repeated h = refl
status_of_receiving BadService h = refl
status_of_receiving BadPlan h = refl
status_of_receiving BadAcceptsIncomplete h = refl
status_of_receiving NotAnObject h = refl
status_of_receiving BadOrganization h = refl
status_of_receiving BadSpace h = refl
status_of_receiving Refusal.Memory h = refl

-- a text that was written, by the number of the status
pub was_done : (status : Status) (n : ℕ) → (status ≡ Done) ⊎ (status ≡ TooSmall) → n ≡ code status → n ≡ 0 → status ≡ Done
was_done status n which is done =
    ⊎_elim (λ h. h) (λ h. let e : n ≡ 17 = is ∙ ap code h in absurd (omega arith)) which
