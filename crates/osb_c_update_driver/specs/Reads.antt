-- What the call of transactions was given.
use Rattle.std.specs.Prelude.{ℕ, Bool, if◌then◌else◌}
use Rattle.std.specs.Prelude.{Option, Some, option_map, IsSomeAnd, IsSome}
use Rattle.osb_message.specs.declared.catalogue.Mode.{Mode}
use Rattle.osb_message.specs.declared.messages.Request.{Request}
use Rattle.osb_instance.specs.Held.{Held}
use Rattle.osb_driver.specs.declared.driver.Stage.{Stage}
use Rattle.osb_update.specs.declared.holding.UpdateHolding.{UpdateHolding}
use Rattle.osb_update.specs.declared.request.Allowed.{Allowed}
use Rattle.osb_update_driver.specs.Driver.{transaction}
use Rattle.osb_update_driver.specs.declared.driver.UpdateAsked.{UpdateAsked}
use Rattle.osb_update_driver.specs.declared.driver.UpdateDriver.{UpdateDriver}
use Rattle.osb_update_driver.specs.declared.driver.UpdateStage.{UpdateStage}
use Rattle.osb_update_driver.specs.declared.driver.UpdateTerms.{UpdateTerms}
use Rattle.osb_update_driver.specs.declared.driver.UpdateTransaction.{UpdateTransaction}
use Rattle.osb_c_types.specs.Modes.{mode_of}
use Rattle.osb_c_types.specs.Requests.{request_of}
use Rattle.osb_c_instance.specs.Holdings.{digest_of, held_of}
use Rattle.osb_c_driver.specs.Reads as instances
use Rattle.osb_c_driver.specs.Reads.{permit_of}
use Rattle.osb_c_update.specs.Holdings.{holding_of}
use Rattle.osb_c_update.specs.Outcomes.{way_of}
use Rattle.osb_c_update.specs.Requests.{allowed_of, update_of}
use Rattle.osb_c_update_driver.specs.Drivers.{driver_of}
use Rattle.osb_c_update_driver.specs.declared.drivers.OsbUpdateDriver.{OsbUpdateDriver}
use Rattle.osb_c_update_driver.specs.declared.readings.Given.{Given}
use Rattle.osb_c_update_driver.specs.declared.readings.OsbUpdateReading.{OsbUpdateReading}

-- ---- what is asked for

abbrev pub asked_as : OsbUpdateReading → Request → UpdateAsked
asked_as r request =
    UpdateAsked.Instance request (digest_of r.reading.attributes) (digest_of r.parameters) (digest_of r.version)

-- the Update, or the request of the instance, if the number of its kind stands for one
abbrev pub asked_of : OsbUpdateReading → Option UpdateAsked
asked_of r =
    if r.is_update then Some (UpdateAsked.Update (update_of r.update))
    else option_map (asked_as r) (request_of r.reading.request)

-- ---- whether the row fits

-- the holding fits the mode of its plan, and its pending work is of the row's id
abbrev pub is_fit : OsbUpdateReading → Given → Bool
is_fit r g = instances.is_fit r.reading g.row_mode g.instance

-- ---- the transaction

-- a request begins by the mode of its own plan
abbrev pub mode_at : Option ℕ → UpdateStage → Option Mode → Option Mode → Option Mode
mode_at attempt (UpdateStage.Instance stage) row_mode mode = instances.mode_at attempt stage row_mode mode
mode_at attempt stage row_mode mode = row_mode

abbrev pub mode_for : UpdateDriver → Given → Option Mode
mode_for d g = mode_at d.attempt d.stage g.row_mode g.mode

-- an Update begins by what the catalogue has for it
abbrev pub way_in : Allowed → Mode → Mode
way_in (Allowed.Mode mode) way = mode
way_in allowed way = way

abbrev pub way_at : Option ℕ → UpdateStage → Allowed → Mode → Mode
way_at (Some attempt) (UpdateStage.Instance (Stage.Begin locked)) allowed way = way_in allowed way
way_at attempt stage allowed way = way

abbrev pub way_for : UpdateDriver → Given → Mode
way_for d g = way_at d.attempt d.stage g.allowed g.update_mode

abbrev pub terms_of : UpdateDriver → OsbUpdateReading → Given → UpdateTerms
terms_of d r g = record {
  mode = mode_for d g;
  first_poll = r.reading.first_poll;
  allowed = g.allowed;
  update_mode = g.update_mode;
}

-- the transaction of a driver, by what else crossed
abbrev pub transaction_of : UpdateDriver → Bool → OsbUpdateReading → Given → Option UpdateTransaction
transaction_of d is_owner r g =
    transaction d.attempt d.stage is_owner (permit_of r.reading) (terms_of d r g) g.instance g.change g.asked

-- ---- all of it

abbrev pub given_as : Held → UpdateHolding → Option Mode → Option Mode → Mode → UpdateAsked → Allowed → Given
given_as instance change row_mode mode way asked allowed = record {
  instance = instance;
  change = change;
  row_mode = row_mode;
  mode = mode;
  update_mode = way;
  asked = asked;
  allowed = allowed;
}

-- what was read: all of it stands for something, of which this holds
abbrev pub IsRead : OsbUpdateReading → (Given → Type 0) → Type 0
IsRead r P =
    IsSomeAnd (held_of r.reading.holding) (λ i. IsSomeAnd (holding_of r.change) (λ h.
    IsSomeAnd (mode_of r.reading.row_mode) (λ row_mode. IsSomeAnd (mode_of r.reading.mode) (λ mode.
    IsSomeAnd (way_of r.update_mode) (λ way. IsSomeAnd (asked_of r) (λ asked.
    IsSomeAnd (allowed_of r.allowed) (λ allowed. P (given_as i h row_mode mode way asked allowed))))))))

-- the driver, too
abbrev pub IsGiven : OsbUpdateDriver → OsbUpdateReading → (UpdateDriver → Given → Type 0) → Type 0
IsGiven d r P = IsSomeAnd (driver_of d) (λ driver. IsRead r (λ g. P driver g))

-- ---- what stands for something, one after the other

abbrev pub HasHoldings : OsbUpdateDriver → OsbUpdateReading → Type 0
HasHoldings d r = IsSome (driver_of d) × IsSome (held_of r.reading.holding) × IsSome (holding_of r.change)

abbrev pub HasModes : OsbUpdateDriver → OsbUpdateReading → Type 0
HasModes d r =
    HasHoldings d r × IsSome (mode_of r.reading.row_mode) × IsSome (mode_of r.reading.mode)
    × IsSome (way_of r.update_mode)
