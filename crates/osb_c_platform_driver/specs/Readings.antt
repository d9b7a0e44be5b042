-- What a transaction reads, as it crosses.
use Rattle.std.specs.Prelude.{ℕ, Bool, true, false, ◌==◌, if◌then◌else◌, List}
use Rattle.std.specs.Prelude.{Option, Some, None, option_map, option_and_then, IsSomeAnd}
use Rattle.std.specs.Str.{bytes_eq}
use Rattle.osb_instance.specs.Recorded.{Recorded}
use Rattle.osb_platform_driver.specs.declared.driver.CleanUp.{CleanUp}
use Rattle.osb_binding_platform_driver.specs.declared.driver.PlatformDriver.{PlatformDriver}
use Rattle.osb_binding_platform_driver.specs.declared.transactions.PlatformReading.{PlatformReading}
use Rattle.osb_c_types.specs.Ids.{number_of}
use Rattle.osb_c_instance.specs.Records.{recorded_of}
use Rattle.osb_c_instance.specs.declared.records.OsbRecord.{OsbRecord}
use Rattle.osb_c_platform_driver.specs.Drivers.{driver_of}
use Rattle.osb_c_platform_driver.specs.declared.drivers.OsbPlatformDriver.{OsbPlatformDriver}
use Rattle.osb_c_platform_driver.specs.declared.readings.OsbPlatformReading.{OsbPlatformReading}

-- the wish to clean up: a number that stands for none is no wish
abbrev pub clean_up_of : ℕ → Option CleanUp
clean_up_of code =
    if code == 1 then Some CleanUp.Expire
    else (if code == 2 then Some CleanUp.Retry
    else (if code == 3 then Some CleanUp.Remove
    else None))

abbrev pub clean_up_code : Option CleanUp → ℕ
clean_up_code None = 0
clean_up_code (Some CleanUp.Expire) = 1
clean_up_code (Some CleanUp.Retry) = 2
clean_up_code (Some CleanUp.Remove) = 3

-- a record that crossed, or none: if there is one, it has to be such as a call gives
abbrev pub some_recorded_of : Bool → OsbRecord → Option (Option Recorded)
some_recorded_of false r = Some None
some_recorded_of true r = option_map Some (recorded_of r)

-- whether the row has the driver's number
abbrev pub is_owner : OsbPlatformDriver → List ℕ → Bool
is_owner d number = bytes_eq d.number number

-- what crossed, with these records
abbrev pub reading_as : Bool → OsbPlatformReading → Option Recorded → Option Recorded → PlatformReading
reading_as own r recorded instance = record {
  recorded = recorded;
  is_owner = own;
  instance = instance;
  all_gone = r.all_gone;
  wishes = record { create = r.create; clean_up = clean_up_of r.clean_up; send = r.send };
  id = number_of r.id;
  service = number_of r.service;
  plan = number_of r.plan;
  accepts = r.accepts_incomplete;
  retrievable = r.retrievable;
}

abbrev pub reading_beside : Bool → OsbPlatformReading → Option Recorded → Option PlatformReading
reading_beside own r recorded = option_map (reading_as own r recorded) (some_recorded_of r.has_instance r.instance)

-- what crossed, if both records are such as a call gives
abbrev pub reading_of : Bool → OsbPlatformReading → Option PlatformReading
reading_of own r = option_and_then (reading_beside own r) (some_recorded_of r.has_record r.record)

-- the driver and the reading that crossed both stand for something, of which this holds
abbrev pub IsGiven : OsbPlatformDriver → OsbPlatformReading → (PlatformDriver → PlatformReading → Type 0) → Type 0
IsGiven d r P = IsSomeAnd (driver_of d) (λ driver. IsSomeAnd (reading_of (is_owner d r.number) r) (λ read. P driver read))
