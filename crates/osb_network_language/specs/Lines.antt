-- What a line of a network schedule says (this project's choice, as is the whole language).
use Rattle.std.specs.Prelude.{ℕ, List, [], ◌∷◌, Option, Some, None, Result, Ok, Err, if◌then◌else◌, length, nat_lt}
use Rattle.std.specs.Str.Lines.{strip_carriage_return}
use Rattle.osb_language.specs.Fields.{and_then}
use Rattle.osb_language.specs.Language.{begins_comment, is_ascii}
use Rattle.osb_language.specs.Limits.{longest_line}
use Rattle.osb_language.specs.Words.{words_in}
use Rattle.osb_language.specs.declared.fault.LineFault.{LineFault}
use Rattle.osb_language.specs.declared.fault.LineFault.TheVariants.{LineTooLong, NotAscii}
use Rattle.osb_network_language.specs.Verbs.{event_as}
use Rattle.osb_network_language.specs.declared.event.NetworkEvent.{NetworkEvent}

-- what the words say: nothing without a word or in a comment
abbrev pub spelled : List (List ℕ) → Result (Option NetworkEvent) LineFault
spelled [] = Ok None
spelled (first ∷ words) =
    if begins_comment first then Ok None else and_then (event_as first words) (λ event. Ok (Some event))

-- what a line says, without its line feed; one carriage return at its end is dropped
unfoldable pub network_line : List ℕ → Result (Option NetworkEvent) LineFault
network_line bytes =
    if nat_lt longest_line (length bytes) then Err LineTooLong else
    (if is_ascii bytes then spelled (words_in (strip_carriage_return bytes)) else Err NotAscii)
