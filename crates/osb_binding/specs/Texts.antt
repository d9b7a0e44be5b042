-- The texts of a binding's record and holding, which are this project's choice: those of an instance, each format with
-- a number of its own.
use Rattle.std.specs.Prelude.{ℕ, List, Result}
use Rattle.osb_instance.specs.Held.{Held}
use Rattle.osb_instance.specs.HoldingText.{holding_in_of, holding_text_of}
use Rattle.osb_instance.specs.RecordText.{record_in_of, record_text_of}
use Rattle.osb_instance.specs.Recorded.{Recorded}
use Rattle.osb_instance.specs.declared.faults.TextFault.{TextFault}

-- the number of the format of a binding's record
abbrev pub record_version : ℕ
record_version = 1

-- the number of the format of a binding's holding
abbrev pub holding_version : ℕ
holding_version = 1

abbrev pub binding_record_text : Recorded → List ℕ
binding_record_text r = record_text_of record_version r

-- the record that a text names, or the first fault
abbrev pub binding_record_in : List ℕ → Result Recorded TextFault
binding_record_in text = record_in_of record_version text

abbrev pub binding_holding_text : Held → List ℕ
binding_holding_text held = holding_text_of holding_version held

-- the holding that a text names, or the first fault
abbrev pub binding_holding_in : List ℕ → Result Held TextFault
binding_holding_in text = holding_in_of holding_version text
