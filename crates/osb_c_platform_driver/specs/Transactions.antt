-- What a transaction of a driver comes to, as it crosses.
use Rattle.std.specs.Prelude.{◌≡◌, ◌≢◌, ◌↔◌, ◌⊎◌, ℕ, Bool, true, false, List, Option, Some}
use Rattle.osb_instance.specs.Recorded.{Recorded}
use Rattle.osb_binding_platform_driver.specs.Driver.{at}
use Rattle.osb_binding_platform_driver.specs.declared.driver.PlatformDriver.{PlatformDriver}
use Rattle.osb_binding_platform_driver.specs.declared.transactions.PlatformTransaction.{PlatformTransaction}
use Rattle.osb_c_types.specs.Ids.{zero_id}
use Rattle.osb_c_instance.specs.declared.records.OsbRecord.{OsbRecord}
use Rattle.osb_c_platform_driver.specs.Drivers.{IsPlainDriver, can_be, driver_of}
use Rattle.osb_c_platform_driver.specs.Readings.{clean_up_code, some_recorded_of}
use Rattle.osb_c_platform_driver.specs.declared.drivers.OsbPlatformDriver.{OsbPlatformDriver}
use Rattle.osb_c_platform_driver.specs.declared.transactions.OsbPlatformTransaction.{OsbPlatformTransaction}

-- what stands in the place of a record that isn't there
abbrev pub zero_record : OsbRecord
zero_record = record { service = zero_id; plan = zero_id; attempt = 0; state = 0; out = 0 }

-- the number that the row has then
abbrev pub number_after : Bool → List ℕ → List ℕ → List ℕ
number_after true own number = own
number_after false own number = number

-- the driver can be at each of the stages that follow
abbrev pub CanFollow : Bool → PlatformTransaction → Type 0
CanFollow is_binding tx =
    (can_be is_binding tx.stage ≡ true) × (can_be is_binding tx.unsure ≡ true) × (can_be is_binding tx.failed ≡ true)

-- what the driver that crossed as `own` writes to the row that it has read, what it did, and what follows
pub record IsWritten (own : OsbPlatformDriver) (d : PlatformDriver) (recorded : Option Recorded) (before : List ℕ) (tx : PlatformTransaction) (t : OsbPlatformTransaction) : Type 0 where
  pub row : some_recorded_of t.has_record t.record ≡ Some tx.recorded
  pub number : t.number ≡ number_after tx.takes_over own.number before
  -- something is written exactly if the record changes, or the driver takes the row over
  pub writes : (t.writes ≡ true) ↔ ((tx.takes_over ≡ true) ⊎ (tx.recorded ≢ recorded))
  -- the driver once the commit has returned, if nobody knows whether it was committed, and if it wasn't
  pub committed : driver_of t.committed ≡ Some (at d tx.stage)
  pub unsure : driver_of t.unsure ≡ Some (at d tx.unsure)
  pub failed : driver_of t.failed ≡ Some (at d tx.failed)
  pub numbers : (t.committed.number ≡ own.number) × (t.unsure.number ≡ own.number) × (t.failed.number ≡ own.number)
  pub cleans_up : t.cleans_up ≡ clean_up_code tx.cleans_up
  pub times_out : t.times_out ≡ tx.times_out
  pub sends : t.sends ≡ tx.takes_over
  pub takes : t.takes ≡ tx.takes
  pub plain : IsPlainDriver t.committed × IsPlainDriver t.unsure × IsPlainDriver t.failed × (t.has_record ≡ false → t.record ≡ zero_record)
