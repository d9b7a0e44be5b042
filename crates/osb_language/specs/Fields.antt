-- What stands in a line after its first word.
use Rattle.std.specs.Prelude.{ℕ, ◌+◌, ◌-◌, ◌*◌, true, false, ◌&&◌, List, [], ◌∷◌, ◌==◌, if◌then◌else◌, Result, Ok, Err}
use Rattle.std.specs.Prelude.{codes, ok_or}
use Rattle.std.specs.Char.{is_ascii_digit}
use Rattle.std.specs.Str.{bytes_eq}
use Rattle.osb_message.specs.IdText.{id_of}
use Rattle.osb_message.specs.declared.catalogue.Mode.{Mode}
use Rattle.osb_message.specs.declared.catalogue.Mode.TheVariants.{Sync, Async}
use Rattle.osb_broker.specs.declared.outcome.Outcome.{Outcome}
use Rattle.osb_broker.specs.declared.outcome.Outcome.TheVariants.{Done, Before, After}
use Rattle.osb_language.specs.declared.fault.LineFault.{LineFault}
use Rattle.osb_language.specs.declared.fault.LineFault.TheVariants.{BadChoice, BadId, WordCount}
use Rattle.osb_language.specs.declared.fields.Accepts.{Accepts}
use Rattle.osb_language.specs.declared.fields.EndsWell.{EndsWell}
use Rattle.osb_language.specs.declared.fields.GatewayStatus.{GatewayStatus}

-- an id, in its text form
abbrev pub id_field : List ℕ → Result ℕ LineFault
id_field word = ok_or (id_of word) BadId

-- one of some choices, each a word and what it stands for
abbrev pub choice : {A : Type 0} → List (List ℕ × A) → List ℕ → Result A LineFault
choice [] word = Err BadChoice
choice (one ∷ more) word = if bytes_eq word one.0 then Ok one.1 else choice more word

-- how a plan works
abbrev pub modes : List (List ℕ × Mode)
modes = (codes "sync", Sync) ∷ (codes "async", Async) ∷ []

-- how the work behind a request goes
abbrev pub outcomes : List (List ℕ × Outcome)
outcomes = (codes "done", Done) ∷ (codes "before", Before) ∷ (codes "after", After) ∷ []

-- whether a Provision accepts an asynchronous operation
abbrev pub consents : List (List ℕ × Accepts)
consents = (codes "yes", record { 0 = true }) ∷ (codes "no", record { 0 = false }) ∷ []

-- whether an operation ends well
abbrev pub endings : List (List ℕ × EndsWell)
endings = (codes "ok", record { 0 = true }) ∷ (codes "fail", record { 0 = false }) ∷ []

-- one of the hundred words 500 to 599
abbrev pub status_field : List ℕ → Result GatewayStatus LineFault
status_field (hundreds ∷ tens ∷ ones ∷ []) =
    if (hundreds == 53) && is_ascii_digit tens && is_ascii_digit ones
    then Ok (record { 0 = 500 + 10 * (tens - 48) + (ones - 48) })
    else Err BadChoice
status_field word = Err BadChoice

-- a value, and what is made of it; the first fault counts
abbrev pub and_then : {A B : Type 0} → Result A LineFault → (A → Result B LineFault) → Result B LineFault
and_then (Ok value) next = next value
and_then (Err fault) next = Err fault

-- no more words, or as many as there are fields, each read as its field says, from the left
abbrev pub no_fields : List (List ℕ) → Result Unit LineFault
no_fields [] = Ok tt
no_fields words = Err WordCount

abbrev pub one_field : {A : Type 0} → (List ℕ → Result A LineFault) → List (List ℕ) → Result A LineFault
one_field field (word ∷ []) = field word
one_field field words = Err WordCount

abbrev pub two_fields : {A B : Type 0} → (List ℕ → Result A LineFault) → (List ℕ → Result B LineFault) → List (List ℕ)
    → Result (A × B) LineFault
two_fields first second (a ∷ b ∷ []) = and_then (first a) (λ x. and_then (second b) (λ y. Ok (x, y)))
two_fields first second words = Err WordCount

abbrev pub three_fields : {A B C : Type 0} → (List ℕ → Result A LineFault) → (List ℕ → Result B LineFault)
    → (List ℕ → Result C LineFault)
    → List (List ℕ) → Result (A × B × C) LineFault
three_fields first second third (a ∷ b ∷ c ∷ []) =
    and_then (first a) (λ x. and_then (second b) (λ y. and_then (third c) (λ z. Ok (x, y, z))))
three_fields first second third words = Err WordCount

abbrev pub four_fields : {A B C D : Type 0} → (List ℕ → Result A LineFault) → (List ℕ → Result B LineFault)
    → (List ℕ → Result C LineFault)
    → (List ℕ → Result D LineFault) → List (List ℕ) → Result (A × B × C × D) LineFault
four_fields first second third fourth (a ∷ b ∷ c ∷ d ∷ []) =
    and_then (first a) (λ w.
    and_then (second b) (λ x. and_then (third c) (λ y. and_then (fourth d) (λ z. Ok (w, x, y, z)))))
four_fields first second third fourth words = Err WordCount
