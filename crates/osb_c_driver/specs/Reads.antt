-- What the calls of transactions were given.
use Rattle.std.specs.Prelude.{ℕ, Bool, true, ◌==◌, ◌&&◌, List, Option, Some, None, IsSomeAnd}
use Rattle.std.specs.Str.{bytes_eq}
use Rattle.osb_message.specs.declared.catalogue.Mode.{Mode}
use Rattle.osb_message.specs.declared.messages.Request.{Request}
use Rattle.osb_instance.specs.Fits.{fits}
use Rattle.osb_instance.specs.Held.{Held}
use Rattle.osb_driver.specs.Driver.{transaction}
use Rattle.osb_driver.specs.declared.driver.Driver.{Driver}
use Rattle.osb_driver.specs.declared.driver.Permit.{Permit}
use Rattle.osb_driver.specs.declared.driver.Stage.{Stage}
use Rattle.osb_driver.specs.declared.driver.Transaction.{Transaction}
use Rattle.osb_binding.specs.Requests.{binding_request}
use Rattle.osb_binding_driver.specs.Driver.{binding_transaction}
use Rattle.osb_c_types.specs.Ids.{number_of}
use Rattle.osb_c_types.specs.Modes.{mode_of}
use Rattle.osb_c_types.specs.Requests.{request_of}
use Rattle.osb_c_instance.specs.Holdings.{digest_of, held_of}
use Rattle.osb_c_instance.specs.declared.holdings.OsbHolding.{OsbHolding}
use Rattle.osb_c_driver.specs.Drivers.{driver_of}
use Rattle.osb_c_driver.specs.declared.drivers.OsbDriver.{OsbDriver}
use Rattle.osb_c_driver.specs.declared.readings.OsbReading.{OsbReading}

-- whether the row has the driver's number
abbrev pub is_owner : OsbDriver → List ℕ → Bool
is_owner d number = bytes_eq d.number number

-- ---- whether the row fits

-- the pending work is of the id, if some is pending
abbrev pub has_id : ℕ → Option Request → Bool
has_id id None = true
has_id id (Some request) = request.id == id

-- the holding fits the mode of its plan, and its pending work is of the row's id
abbrev pub is_fit : OsbReading → Option Mode → Held → Bool
is_fit r row_mode held = fits row_mode held && has_id (number_of r.id) held.work

-- ---- the transaction

-- a request begins by the mode of its own plan
abbrev pub mode_at : Option ℕ → Stage → Option Mode → Option Mode → Option Mode
mode_at (Some attempt) (Stage.Begin locked) row_mode mode = mode
mode_at attempt stage row_mode mode = row_mode

abbrev pub mode_for : Driver → Option Mode → Option Mode → Option Mode
mode_for d row_mode mode = mode_at d.attempt d.stage row_mode mode

abbrev pub permit_of : OsbReading → Permit
permit_of r = record { begin = r.may_begin; give_up = r.may_give_up }

-- the transaction of an instance's driver, by what else crossed
abbrev pub transaction_of : Driver → Bool → Permit → Option Mode → OsbReading → Held → Request → Option Transaction
transaction_of d is_owner permit mode r held asked =
    transaction d.attempt d.stage is_owner permit mode r.first_poll held asked (digest_of r.attributes)

-- that of a binding's. It doesn't depend on the id of the instance.
abbrev pub binding_transaction_of : Driver → Bool → Option Mode → OsbReading → Held → Held → Request → Option Transaction
binding_transaction_of d is_owner mode r held instance asked =
    binding_transaction d.attempt d.stage is_owner r.may_give_up mode r.first_poll held instance
    (binding_request 0 asked) (digest_of r.attributes)

-- ---- all of it

-- what was read: the holding, the modes and the request all stand for something, of which this holds
abbrev pub IsRead : OsbReading → (Held → Option Mode → Option Mode → Request → Type 0) → Type 0
IsRead r P =
    IsSomeAnd (held_of r.holding) (λ held. IsSomeAnd (mode_of r.row_mode) (λ row_mode.
    IsSomeAnd (mode_of r.mode) (λ mode. IsSomeAnd (request_of r.request) (λ asked. P held row_mode mode asked))))

-- the driver, too
abbrev pub IsGiven : OsbDriver → OsbReading → (Driver → Held → Option Mode → Option Mode → Request → Type 0) → Type 0
IsGiven d r P =
    IsSomeAnd (driver_of d) (λ driver. IsRead r (λ held row_mode mode asked. P driver held row_mode mode asked))

-- likewise, with the holding of the binding's instance
abbrev pub IsGivenOf : OsbDriver → OsbReading → OsbHolding → (Driver → Held → Held → Option Mode → Option Mode → Request → Type 0) → Type 0
IsGivenOf d r i P =
    IsSomeAnd (driver_of d) (λ driver. IsSomeAnd (held_of i) (λ instance.
    IsRead r (λ held row_mode mode asked. P driver held instance row_mode mode asked)))
