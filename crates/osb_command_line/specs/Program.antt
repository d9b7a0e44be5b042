-- What the program does of what it is asked for (this project's choice).
use Rattle.std.specs.Prelude.{◌≡◌, Bool, false, Err, IsTrue, List, ℕ, Ok, Option, Result, ⊤}
use Rattle.std.specs.Io.KnownBytes.{Appends}
use Rattle.osb_device.specs.Device.{Device}
use Rattle.osb_language.specs.Conversions.{exit_status}
use Rattle.osb_table.specs.MitigationTable.{table_text}
use Rattle.osb_lines.specs.Reads as reads
use Rattle.osb_lines.specs.Reads.{ReadsWhole}
use Rattle.osb_network_replay.specs.Replay.{IsReplayed, IsWhyUnreplayed}
use Rattle.osb_schedule.specs.Replay.{WritesReport}
use Rattle.osb_trace.specs.Trace.{IsWhyUntold, TellsTrace}
use Rattle.osb_language.specs.declared.replay_fault.ReplayFault.{ReplayFault}
use Rattle.osb_language.specs.declared.replay_fault.ReplayFault.TheVariants.{Write}
use Rattle.osb_words.specs.declared.command_line.Asked.{Asked}
use Rattle.osb_words.specs.declared.command_line.Asked.TheVariants.{Network, Replay, Table, Trace}

-- what was asked for is done: the reader had these bytes left, before and after, and the writer held those
abbrev pub IsDone : Asked → Option (List ℕ) → Option (List ℕ) → Option (List ℕ) → Option (List ℕ) → Type 0
IsDone (Replay options) left left_after held held_after =
    (bytes : List ℕ) × ReadsWhole left left_after bytes × WritesReport options held held_after bytes
IsDone Table left left_after held held_after = Appends held held_after table_text
IsDone (Trace options) left left_after held held_after =
    (bytes : List ℕ) × ReadsWhole left left_after bytes
    × TellsTrace options.instance options.settle held held_after bytes
IsDone (Network options) left left_after held held_after = IsReplayed options left left_after held held_after

-- none of the devices that were asked has refused
abbrev pub IsAnswered : Asked → Bool → Bool → Type 0
IsAnswered (Replay options) input_refused output_refused = (input_refused ≡ false) × (output_refused ≡ false)
IsAnswered Table input_refused output_refused = output_refused ≡ false
IsAnswered (Trace options) input_refused output_refused = (input_refused ≡ false) × (output_refused ≡ false)
IsAnswered (Network options) input_refused output_refused = (input_refused ≡ false) × (output_refused ≡ false)

-- what a fault says of what was read and written, and of which device refused
abbrev pub IsWhyUndone
    : Asked → Option (List ℕ) → Option (List ℕ) → Bool → Option (List ℕ) → Option (List ℕ) → Bool → ReplayFault
    → Type 0
IsWhyUndone (Replay options) left left_after input_refused held held_after output_refused fault =
    reads.IsWhyUnread left left_after input_refused output_refused fault
IsWhyUndone Table left left_after input_refused held held_after output_refused fault =
    (fault ≡ Write) × IsTrue output_refused
IsWhyUndone (Trace options) left left_after input_refused held held_after output_refused fault =
    IsWhyUntold options.instance left left_after input_refused held held_after output_refused fault
IsWhyUndone (Network options) left left_after input_refused held held_after output_refused fault =
    IsWhyUnreplayed left left_after input_refused output_refused fault

-- nothing is written where what was asked for isn't done, but for a trace, which is written as it goes
abbrev pub IsUnwritten : {W : Type 0} → Asked → Device W → Device W → Type 0
IsUnwritten (Trace options) old new = ⊤
IsUnwritten asked old new = new ≡ old

-- the status that the program ends with: 0 where what was asked for is done
abbrev pub ending : Result ⊤ ReplayFault → ℕ
ending (Ok done) = 0
ending (Err fault) = exit_status fault
