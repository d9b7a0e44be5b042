-- How lines are spelled: for each line its first word, and what follows it.
use Rattle.std.specs.Prelude.{◌≡◌, ◌≤◌, ◌<◌, ℕ, Bool, true, false, List, [], ◌∷◌, Some, codes, length, IsTrue, ⊤}
use Rattle.std.specs.Fmt.{decimal}
use Rattle.std.specs.Str.Lines.{strip_carriage_return}
use Rattle.osb_message.specs.IdText.{id_of}
use Rattle.osb_message.specs.declared.catalogue.Mode.{Mode}
use Rattle.osb_message.specs.declared.catalogue.Mode.TheVariants.{Sync, Async}
use Rattle.osb_broker.specs.declared.outcome.Outcome.{Outcome}
use Rattle.osb_broker.specs.declared.outcome.Outcome.TheVariants.{Done, Before, After}
use Rattle.osb_event.specs.declared.event.Event.{Event}
use Rattle.osb_event.specs.declared.event.Event.TheVariants as Happens
use Rattle.osb_language.specs.declared.line.Line.{Line}
use Rattle.osb_language.specs.Limits.{longest_line}
use Rattle.osb_language.specs.Language.{begins_comment, is_ascii}
use Rattle.osb_language.specs.Words.{IsSpacedOut}

-- what a word spells: an id, in either case, just this word, or a status from 500 to 599, in decimal
pub data Field : Type 0 where
  an_id : (id : ℕ) → Field
  the_word : (word : List ℕ) → Field
  a_status : (status : ℕ) → Field

abbrev pub mode_word : Mode → List ℕ
mode_word Sync = codes "sync"
mode_word Async = codes "async"

abbrev pub outcome_word : Outcome → List ℕ
outcome_word Done = codes "done"
outcome_word Before = codes "before"
outcome_word After = codes "after"

abbrev pub accepts_word : Bool → List ℕ
accepts_word true = codes "yes"
accepts_word false = codes "no"

abbrev pub ending_word : Bool → List ℕ
ending_word true = codes "ok"
ending_word false = codes "fail"

-- the first word of an event, and what follows it
abbrev pub event_row : Event → List ℕ × List Field
event_row (Happens.Create id service plan accepts) =
    (codes "create", an_id id ∷ an_id service ∷ an_id plan ∷ the_word (accepts_word accepts) ∷ [])
event_row (Happens.Remove id) = (codes "remove", an_id id ∷ [])
event_row (Happens.Send id) = (codes "send", an_id id ∷ [])
event_row (Happens.Deliver id outcome) = (codes "deliver", an_id id ∷ the_word (outcome_word outcome) ∷ [])
event_row (Happens.Repeat id outcome) = (codes "repeat", an_id id ∷ the_word (outcome_word outcome) ∷ [])
event_row (Happens.Lose id) = (codes "lose", an_id id ∷ [])
event_row (Happens.Garble id) = (codes "garble", an_id id ∷ [])
event_row (Happens.Gateway id status) = (codes "gateway", an_id id ∷ a_status status ∷ [])
event_row (Happens.Answer id) = (codes "answer", an_id id ∷ [])
event_row (Happens.Timeout id) = (codes "timeout", an_id id ∷ [])
event_row (Happens.Expire id) = (codes "expire", an_id id ∷ [])
event_row (Happens.Finish id ok) = (codes "finish", an_id id ∷ the_word (ending_word ok) ∷ [])
event_row Happens.Restart = (codes "restart", [])

-- the same of a plan
abbrev pub plan_row : ℕ → ℕ → Mode → List ℕ × List Field
plan_row service plan mode = (codes "plan", an_id service ∷ an_id plan ∷ the_word (mode_word mode) ∷ [])

abbrev pub IsField : Field → List ℕ → Type 0
IsField (an_id id) word = id_of word ≡ Some id
IsField (the_word spelled) word = word ≡ spelled
IsField (a_status status) word = (500 ≤ status) × (status < 600) × (word ≡ decimal status)

-- the words are these fields, one for one
abbrev pub AreFields : List Field → List (List ℕ) → Type 0
AreFields [] [] = ⊤
AreFields [] (word ∷ words) = ⊥
AreFields (field ∷ fields) [] = ⊥
AreFields (field ∷ fields) (word ∷ words) = IsField field word × AreFields fields words

abbrev pub IsRow : List ℕ × List Field → List ℕ → List (List ℕ) → Type 0
IsRow row first words = (first ≡ row.0) × AreFields row.1 words

-- the words spell the line: no word, or a comment, says nothing, and the others are a row of the table
abbrev pub Spells : List (List ℕ) → Line → Type 0
Spells [] said = said ≡ Line.Nothing
Spells (first ∷ words) Line.Nothing = IsTrue (begins_comment first)
Spells (first ∷ words) (Line.Plan service plan mode) = IsRow (plan_row service plan mode) first words
Spells (first ∷ words) (Line.Event event) = IsRow (event_row event) first words

-- a line says this: it is short enough and ASCII, and the words that it is spaced out as, one carriage
-- return at its end dropped, spell it
pub record Says (bytes : List ℕ) (said : Line) : Type 0 where
  pub short : length bytes ≤ longest_line
  pub ascii : IsTrue (is_ascii bytes)
  pub words : List (List ℕ)
  pub spaced : IsSpacedOut (strip_carriage_return bytes) words
  pub spelled : Spells words said
