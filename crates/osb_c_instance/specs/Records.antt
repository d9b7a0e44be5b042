-- What a platform records of one instance, as it crosses.
use Rattle.std.specs.Prelude.{ℕ, Option, option_map, option_and_then}
use Rattle.osb_platform.specs.declared.row.PlatformRow.{PlatformRow}
use Rattle.osb_instance.specs.Recorded.{Recorded}
use Rattle.osb_instance.specs.RecordText.{possible}
use Rattle.osb_c_types.specs.Rows.{record_of}
use Rattle.osb_c_types.specs.declared.rows.OsbPlatformRow.{OsbPlatformRow}
use Rattle.osb_c_instance.specs.declared.records.OsbRecord.{OsbRecord}

-- its row
abbrev pub row_in : OsbRecord → OsbPlatformRow
row_in r = record { service = r.service; plan = r.plan; state = r.state; out = r.out }

-- the record of the row, with this number, if it can come about
abbrev pub numbered : ℕ → PlatformRow → Option Recorded
numbered attempt row = possible (record { row = row; attempt = attempt })

-- the record that crossed, if a call gives such a one: its numbers stand for something, and together they can come
-- about
abbrev pub recorded_of : OsbRecord → Option Recorded
recorded_of r = option_and_then (numbered r.attempt) (record_of (row_in r))

-- the platform's row that crossed, if a platform gives such a one: that of a record whose latest request is its first
abbrev pub platform_row_of : OsbPlatformRow → Option PlatformRow
platform_row_of r = option_map (λ recorded. recorded.row) (option_and_then (numbered 1) (record_of r))
