-- What a line of a schedule says.
use Rattle.std.specs.Prelude.{ℕ, Bool, List, [], ◌∷◌, ◌==◌, if◌then◌else◌, Result, Ok, Err, codes, length, nat_le}
use Rattle.std.specs.Prelude.{nat_lt, slice_index}
use Rattle.std.specs.List.{list_all}
use Rattle.std.specs.Str.{bytes_eq}
use Rattle.std.specs.Str.Lines.{strip_carriage_return}
use Rattle.osb_broker.specs.declared.outcome.Outcome.{Outcome}
use Rattle.osb_event.specs.declared.event.Event.{Event}
use Rattle.osb_event.specs.declared.event.Event.TheVariants as Happens
use Rattle.osb_language.specs.declared.fault.LineFault.{LineFault}
use Rattle.osb_language.specs.declared.fault.LineFault.TheVariants.{LineTooLong, NotAscii, UnknownWord}
use Rattle.osb_language.specs.declared.line.Line.{Line}
use Rattle.osb_language.specs.Limits.{longest_line}
use Rattle.osb_language.specs.Fields.{and_then, choice, consents, endings, four_fields, id_field, modes, no_fields}
use Rattle.osb_language.specs.Fields.{one_field}
use Rattle.osb_language.specs.Fields.{outcomes, status_field, three_fields, two_fields}
use Rattle.osb_language.specs.Words.{words_in}

-- an event of an instance alone
abbrev pub of_id : (ℕ → Event) → List (List ℕ) → Result Event LineFault
of_id event words = and_then (one_field id_field words) (λ id. Ok (event id))

-- an event of an instance, and of how the work behind its request goes
abbrev pub of_outcome : (ℕ → Outcome → Event) → List (List ℕ) → Result Event LineFault
of_outcome event words = and_then (two_fields id_field (choice outcomes) words) (λ p. Ok (event p.0 p.1))

abbrev pub create_as : List (List ℕ) → Result Event LineFault
create_as words =
    and_then (four_fields id_field id_field id_field (choice consents) words)
    (λ p. Ok (Happens.Create p.0 p.1 p.2 p.3.0))

abbrev pub finish_as : List (List ℕ) → Result Event LineFault
finish_as words = and_then (two_fields id_field (choice endings) words) (λ p. Ok (Happens.Finish p.0 p.1.0))

abbrev pub gateway_as : List (List ℕ) → Result Event LineFault
gateway_as words = and_then (two_fields id_field status_field words) (λ p. Ok (Happens.Gateway p.0 p.1.0))

abbrev pub plan_as : List (List ℕ) → Result Line LineFault
plan_as words = and_then (three_fields id_field id_field (choice modes) words) (λ p. Ok (Line.Plan p.0 p.1 p.2))

-- the lines that are events: the first word of each, the fields that follow it, and what happens
abbrev pub event_as : List ℕ → List (List ℕ) → Result Event LineFault
event_as first words =
    if bytes_eq first (codes "create") then create_as words else
    (if bytes_eq first (codes "remove") then of_id (λ id. Happens.Remove id) words else
    (if bytes_eq first (codes "send") then of_id (λ id. Happens.Send id) words else
    (if bytes_eq first (codes "deliver") then of_outcome (λ id outcome. Happens.Deliver id outcome) words else
    (if bytes_eq first (codes "repeat") then of_outcome (λ id outcome. Happens.Repeat id outcome) words else
    (if bytes_eq first (codes "lose") then of_id (λ id. Happens.Lose id) words else
    (if bytes_eq first (codes "garble") then of_id (λ id. Happens.Garble id) words else
    (if bytes_eq first (codes "gateway") then gateway_as words else
    (if bytes_eq first (codes "answer") then of_id (λ id. Happens.Answer id) words else
    (if bytes_eq first (codes "timeout") then of_id (λ id. Happens.Timeout id) words else
    (if bytes_eq first (codes "expire") then of_id (λ id. Happens.Expire id) words else
    (if bytes_eq first (codes "finish") then finish_as words else
    (if bytes_eq first (codes "restart") then and_then (no_fields words) (λ none. Ok Happens.Restart) else
    Err UnknownWord))))))))))))

-- all lines: a plan, or an event
abbrev pub spelled_as : List ℕ → List (List ℕ) → Result Line LineFault
spelled_as first words =
    if bytes_eq first (codes "plan") then plan_as words else
    and_then (event_as first words) (λ event. Ok (Line.Event event))

-- a first word that begins with # makes a comment
abbrev pub begins_comment : List ℕ → Bool
begins_comment word = slice_index word 0 == 35

-- what the words say
abbrev pub spelled : List (List ℕ) → Result Line LineFault
spelled [] = Ok Line.Nothing
spelled (first ∷ words) = if begins_comment first then Ok Line.Nothing else spelled_as first words

abbrev pub is_ascii : List ℕ → Bool
is_ascii bytes = list_all (λ byte. nat_le byte 127) bytes

-- what a line says, without its line feed; one carriage return at its end is dropped
unfoldable pub line_of : List ℕ → Result Line LineFault
line_of bytes =
    if nat_lt longest_line (length bytes) then Err LineTooLong else
    (if is_ascii bytes then spelled (words_in (strip_carriage_return bytes)) else Err NotAscii)
