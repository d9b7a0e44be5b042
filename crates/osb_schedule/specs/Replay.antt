-- What a replay has written.
use Rattle.std.specs.Prelude.{ℕ, List, Option}
use Rattle.std.specs.Io.KnownBytes.{Appends}
use Rattle.osb_options.specs.declared.options.Options.{Options}
use Rattle.osb_schedule.specs.Report.{IsReport}

-- the writer has got the report of these bytes, and nothing else
abbrev pub WritesReport : Options → Option (List ℕ) → Option (List ℕ) → List ℕ → Type 0
WritesReport options before after bytes = (text : List ℕ) × IsReport options bytes text × Appends before after text
