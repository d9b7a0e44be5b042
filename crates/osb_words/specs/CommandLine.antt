-- The command line (this project's choice): the command, as `clap` defines commands, and what words ask for.
use Rattle.std.specs.Prelude.{◌≡◌, ◌≢◌, ◌⊎◌, Bool, true, false, List, [], ℕ, Option, Some, None, option_map, codes}
use Rattle.std.specs.Prelude.{if◌then◌else◌, ⊤}
use Rattle.std.specs.Str.{bytes_eq}
use Rattle.std.specs.Option.{option_map_or}
use Rattle.clap.specs.Faults.{fault_of}
use Rattle.clap.specs.Kinds.{IsAmong}
use Rattle.clap.specs.Walk.{Row, Rule, Text, first_of, one_of}
use Rattle.clap.specs.Simple.{App, new_app, new_rule, on_top, subcommand_of, with_rule, with_subcommand}
use Rattle.clap.specs.declared.builder.action.ArgAction.TheVariants.{Set, SetTrue}
use Rattle.clap.specs.declared.error.kind.ErrorKind.{ErrorKind}
use Rattle.clap.specs.declared.error.kind.ErrorKind.TheVariants.{DisplayHelp, OutOfMemory}
use Rattle.osb_options.specs.declared.options.NetworkOptions.{NetworkOptions}
use Rattle.osb_options.specs.declared.options.Options.{Options}
use Rattle.osb_message.specs.IdText.{id_of}
use Rattle.osb_words.specs.declared.command_line.Asked.{Asked}
use Rattle.osb_words.specs.declared.command_line.Asked.TheVariants.{Network, Replay, Table, Trace}
use Rattle.osb_words.specs.declared.command_line.WordsFault.{WordsFault}
use Rattle.osb_words.specs.declared.command_line.WordsFault.TheVariants.{Help, Refused, Memory}

-- ---- the command

-- an option without a value
abbrev pub flag : Text → Rule
flag name = record (new_rule name) { long = Some name; action = Some SetTrue }

abbrev pub replay_command : App
replay_command = with_rule (with_rule (new_app (codes "replay")) (flag (codes "settle"))) (flag (codes "saved"))

-- an option with a value
abbrev pub valued : Text → Rule
valued name = record (new_rule name) { long = Some name; action = Some Set; value_names = 1 }

abbrev pub trace_command : App
trace_command = with_rule (with_rule (new_app (codes "trace")) (valued (codes "instance"))) (flag (codes "settle"))

abbrev pub network_command : App
network_command =
    with_rule (with_rule (with_rule (new_app (codes "network")) (flag (codes "settle"))) (flag (codes "trace")))
    (valued (codes "instance"))

abbrev pub table_command : App
table_command = new_app (codes "table")

-- a subcommand is required
abbrev pub program : App
program = on_top (λ top. record top { subcommand_required = true }) (new_app (codes "osb-replay"))

-- with the commands for schedules of one broker
abbrev pub replaying : App
replaying = with_subcommand (with_subcommand program replay_command.top) trace_command.top

abbrev pub command : App
command = with_subcommand (with_subcommand replaying network_command.top) table_command.top

-- ---- what words ask for

-- whether the option was given
abbrev pub is_set : Text → List Row → Bool
is_set name rows = option_map_or (λ value. bytes_eq value (codes "true")) (one_of name rows) false

abbrev pub options_of : List Row → Options
options_of rows = record { settle = is_set (codes "settle") rows; saved = is_set (codes "saved") rows }

-- the instance that is asked for, if one is; none of both where what stands for it is no id
abbrev pub instance_named : Option Text → Option (Option ℕ)
instance_named None = Some None
instance_named (Some text) = option_map (λ id. Some id) (id_of text)

abbrev pub trace_of : List Row → Option Asked
trace_of rows =
    option_map (λ instance. Trace (record { instance = instance; settle = is_set (codes "settle") rows }))
    (instance_named (first_of (codes "instance") rows))

-- the report or the trace that is asked for: `--settle` goes with a report alone, and `--instance` with a trace
abbrev pub network_options : Bool → Bool → Option ℕ → Option NetworkOptions
network_options settle true instance = if settle then None else Some (NetworkOptions.Trace instance)
network_options settle false None = Some (NetworkOptions.Report settle)
network_options settle false (Some id) = None

abbrev pub network_by : Bool → Bool → Option (Option ℕ) → Option Asked
network_by settle trace None = None
network_by settle trace (Some instance) = option_map (λ o. Network o) (network_options settle trace instance)

abbrev pub network_of : List Row → Option Asked
network_of rows =
    network_by (is_set (codes "settle") rows) (is_set (codes "trace") rows)
    (instance_named (first_of (codes "instance") rows))

-- what a subcommand with its matches asks for
abbrev pub asked_of : Option (Text × List Row) → Option Asked
asked_of None = None
asked_of (Some (name, rows)) =
    if bytes_eq name (codes "replay") then Some (Replay (options_of rows)) else
    (if bytes_eq name (codes "trace") then trace_of rows else
    (if bytes_eq name (codes "network") then network_of rows else
    (if bytes_eq name (codes "table") then Some Table else None)))

-- what the words ask for: by the subcommand and the matches that the command has on them
abbrev pub asked_words : List Text → Option Asked
asked_words words = asked_of (subcommand_of command words)

-- ---- why nothing is done

-- the fault that an error of a kind is told as; memory can run out on the way
abbrev pub IsTold : ErrorKind → WordsFault → Type 0
IsTold kind (Help text) = kind ≡ DisplayHelp
IsTold kind (Refused text) = (kind ≢ DisplayHelp) × (kind ≢ OutOfMemory)
IsTold kind Memory = ⊤

-- the command has an error on the words that is no call for help
abbrev pub HasMistake : List Text → Type 0
HasMistake words = (kind : ErrorKind) × IsAmong kind (fault_of command words) × (kind ≢ DisplayHelp)

-- help is given where the words call for it; they are refused for a mistake, or where they have none and ask for
-- nothing
abbrev pub IsWordsFault : List Text → WordsFault → Type 0
IsWordsFault words (Help text) = IsAmong DisplayHelp (fault_of command words)
IsWordsFault words (Refused text) =
    HasMistake words ⊎ ((fault_of command words ≡ []) × (asked_words words ≡ None))
IsWordsFault words Memory = ⊤

-- a fault that is no call for help
abbrev pub IsNoHelp : WordsFault → Type 0
IsNoHelp (Help text) = ⊥
IsNoHelp (Refused text) = ⊤
IsNoHelp Memory = ⊤
