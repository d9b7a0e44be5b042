-- What a request asks of an instance that exists, as it crosses.
use Rattle.std.specs.Prelude.{◌≡◌, ℕ, Bool, true, false, List, if◌then◌else◌, Option, Some, None}
use Rattle.osb_instance.specs.Held.{no_attributes}
use Rattle.osb_instance.specs.declared.digest.Digest.{Digest}
use Rattle.osb_update_wire.specs.declared.asked.UpdateAsked.{UpdateAsked}
use Rattle.osb_c_types.specs.Ids.{number_of, zero_id}
use Rattle.osb_c_instance.specs.Holdings.{digest_of}
use Rattle.osb_c_update.specs.Requests.{update_of}
use Rattle.osb_c_update.specs.declared.requests.OsbUpdate.{OsbUpdate}
use Rattle.osb_c_update.specs.declared.settings.OsbChange.{OsbChange}
use Rattle.osb_c_wire.specs.Asked.{id_if}
use Rattle.osb_c_update_wire.specs.declared.asking.OsbUpdateAsked.{OsbUpdateAsked}

-- the Fetch of an instance, or an Update
abbrev pub asked_as : Bool → OsbUpdateAsked → UpdateAsked
asked_as true a = UpdateAsked.Fetch (number_of a.id) (id_if a.has_service a.service) (id_if a.has_plan a.plan)
asked_as false a = UpdateAsked.Update (number_of a.id) (update_of a.update)

-- what is asked
abbrev pub asked_of : OsbUpdateAsked → UpdateAsked
asked_of a = asked_as a.is_fetch a

-- a digest, which counts if a flag says so
abbrev pub digest_if : Bool → List ℕ → Option Digest
digest_if has bytes = if has then Some (digest_of bytes) else None

-- what stands in the place of an Update, and of the settings that it names
abbrev pub zero_change : OsbChange
zero_change =
    record {
      plan = zero_id;
      parameters = no_attributes.bytes;
      version = no_attributes.bytes;
      has_plan = false;
      has_parameters = false;
      has_version = false;
    }

abbrev pub zero_update : OsbUpdate
zero_update = record { service = zero_id; change = zero_change; number = 0; accepts_incomplete = false }

-- a setting that doesn't count is zeroes
pub record IsPlainChange (c : OsbChange) : Type 0 where
  pub plan : c.has_plan ≡ false → c.plan ≡ zero_id
  pub parameters : c.has_parameters ≡ false → c.parameters ≡ no_attributes.bytes
  pub version : c.has_version ≡ false → c.version ≡ no_attributes.bytes

-- what doesn't count is zeroes: so what asks the same are equal structs
pub record IsPlainAsked (a : OsbUpdateAsked) : Type 0 where
  pub service : a.has_service ≡ false → a.service ≡ zero_id
  pub plan : a.has_plan ≡ false → a.plan ≡ zero_id
  pub change : IsPlainChange a.update.change
  pub update : a.is_fetch ≡ true → a.update ≡ zero_update
  pub fetch : a.is_fetch ≡ false → (a.has_service ≡ false) × (a.has_plan ≡ false)
