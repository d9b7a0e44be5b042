-- Why a text names no holding of updates: never since its members can't come about together, for any parts make one.
use Rattle.std.proofs.Common.{◌≡◌, ℕ, Bool, true, false, inl, inr, refl, List}
use Rattle.std.specs.Prelude.{◌⊎◌, [], ◌∷◌, Option, Some, None, Ok, Err, IsTrue, is_some, if◌then◌else◌}
use Rattle.serde_json.specs.Data.{Data}
use Rattle.serde_json.specs.Find.{as_object}
use Rattle.serde_json.specs.Read.{read}
use Rattle.osb_instance.specs.Frame.{and_then, as_an_object, has_version, of_version}
use Rattle.osb_instance.specs.declared.faults.TextFault.{TextFault}
use Rattle.osb_update.specs.declared.holding.UpdateHolding.{UpdateHolding}
use Rattle.osb_update_text.specs.HoldingText.{has_names, holding_in, holding_named, holding_of, holding_or, version}
use Rattle.osb_c_types.specs.Status.{code, is_one_of}
use Rattle.osb_c_types.specs.declared.status.Status.{Status}
use Rattle.osb_c_instance.specs.TextStatus.{text_status}

members : (b : Bool) (o : Option UpdateHolding)
    → (if b then holding_or o else Err TextFault.BadOuter) ≡ Err TextFault.Impossible → ⊥
members true None e = cc
members true (Some h) e = cc
members false o e = cc

numbered : (b : Bool) (d : Data)
    → and_then holding_of (if b then Ok d else Err TextFault.BadVersion) ≡ Err TextFault.Impossible → ⊥
numbered true d e = members (has_names d) (holding_named d) e
numbered false d e = cc

an_object : (b : Bool) (d : Data)
    → and_then holding_of (and_then (of_version version) (if b then Ok d else Err TextFault.NotAnObject))
    ≡ Err TextFault.Impossible → ⊥
an_object true d e = numbered (has_version version d) d e
an_object false d e = cc

of_reading : (o : Option Data)
    → and_then holding_of (and_then (of_version version) (as_an_object o)) ≡ Err TextFault.Impossible → ⊥
of_reading None e = cc
of_reading (Some d) e = an_object (is_some (as_object d)) d e

pub never_impossible : (text : List ℕ) → holding_in text ≡ Err TextFault.Impossible → ⊥
never_impossible text e = of_reading (read text) e

fault_there : (text : List ℕ) → (TextFault.Impossible ≡ TextFault.Memory) ⊎ (holding_in text ≡ Err TextFault.Impossible) → ⊥
fault_there text (inl e) = cc
fault_there text (inr e) = never_impossible text e

-- the status of a fault is one of those that the call returns
pub fault_status_named : (text : List ℕ) (fault : TextFault)
    → (fault ≡ TextFault.Memory) ⊎ (holding_in text ≡ Err fault)
    → IsTrue (is_one_of (Status.Done ∷ Status.NotUtf8 ∷ Status.NotJson ∷ Status.NotAnObject ∷ Status.BadVersion
    ∷ Status.BadOuter ∷ Status.BadMember ∷ Status.Memory ∷ []) (code (text_status fault)))
fault_status_named text TextFault.NotJson h = refl
fault_status_named text TextFault.NotAnObject h = refl
fault_status_named text TextFault.BadVersion h = refl
fault_status_named text TextFault.BadOuter h = refl
fault_status_named text TextFault.BadMember h = refl
fault_status_named text TextFault.Impossible h = absurd (fault_there text h)
fault_status_named text TextFault.Memory h = refl
