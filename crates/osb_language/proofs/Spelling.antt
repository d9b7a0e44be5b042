-- What is read of a line is what its words spell.
use Rattle.std.proofs.Common.{◌≡◌, ◌≤◌, ◌<◌, ◌↔◌, ℕ, zero, suc, ◌+◌, ◌-◌, ◌*◌, ◌/◌, ◌%◌, Bool, true, false, ◌&&◌, List}
use Rattle.std.proofs.Common.{[], ◌∷◌, length, inl, inr, refl, ap, sym, subst, ◌∙◌, arith}
use Rattle.std.proofs.lemmas.Bool.{and_parts, cases_eq}
use Rattle.std.proofs.lemmas.Bool.Decides.{nat_tests}
use Rattle.std.proofs.lemmas.Slice.Eq.{bytes_eq-Decides}
use Rattle.std.specs.Prelude.{Option, Some, None, Result, Ok, Err, ◌==◌, codes, if◌then◌else◌, nat_le, nat_lt, ok_or}
use Rattle.std.specs.Char.{is_ascii_digit}
use Rattle.std.specs.Fmt.{decimal, digits}
use Rattle.std.specs.Str.{bytes_eq}
use Rattle.std.specs.Str.Lines.{strip_carriage_return}
use Rattle.osb_message.specs.IdText.{id_of}
use Rattle.osb_message.specs.declared.catalogue.Mode.{Mode}
use Rattle.osb_message.specs.declared.catalogue.Mode.TheVariants.{Sync, Async}
use Rattle.osb_broker.specs.declared.outcome.Outcome.{Outcome}
use Rattle.osb_broker.specs.declared.outcome.Outcome.TheVariants.{Done, Before, After}
use Rattle.osb_event.specs.declared.event.Event.{Event}
use Rattle.osb_event.specs.declared.event.Event.TheVariants as Happens
use Rattle.osb_language.specs.declared.fault.LineFault.{LineFault}
use Rattle.osb_language.specs.declared.fault.LineFault.TheVariants.{BadChoice, BadId}
use Rattle.osb_language.specs.declared.fields.Accepts.{Accepts}
use Rattle.osb_language.specs.declared.fields.EndsWell.{EndsWell}
use Rattle.osb_language.specs.declared.fields.GatewayStatus.{GatewayStatus}
use Rattle.osb_language.specs.declared.line.Line.{Line}
use Rattle.osb_language.specs.Fields.{and_then, choice, consents, endings, four_fields, id_field, modes, no_fields}
use Rattle.osb_language.specs.Fields.{one_field, outcomes, status_field, three_fields, two_fields}
use Rattle.osb_language.specs.Language.{begins_comment, event_as, is_ascii, line_of, spelled, spelled_as}
use Rattle.osb_language.specs.Spelling.{a_status, accepts_word, an_id, ending_word, event_row, mode_word, outcome_word}
use Rattle.osb_language.specs.Spelling.{the_word, AreFields, Field, IsField, IsRow, Says, Spells}
use Rattle.osb_language.specs.Words.{words_in}
use Rattle.osb_language.specs.declared.limits.TheConstants.{LONGEST_LINE}
use Rattle.osb_language.proofs.Splitting.{spaced-words, words-only}

-- ---- what is spelled is read

id-reads : (id : ℕ) (word : List ℕ) → id_of word ≡ Some id → id_field word ≡ Ok id
id-reads id word is = ap (λ found. ok_or found BadId) is

mode-reads : (mode : Mode) (word : List ℕ) → word ≡ mode_word mode → choice modes word ≡ Ok mode
mode-reads Sync word is = ap (choice modes) is
mode-reads Async word is = ap (choice modes) is

outcome-reads : (outcome : Outcome) (word : List ℕ) → word ≡ outcome_word outcome → choice outcomes word ≡ Ok outcome
outcome-reads Done word is = ap (choice outcomes) is
outcome-reads Before word is = ap (choice outcomes) is
outcome-reads After word is = ap (choice outcomes) is

accepts-reads : (accepts : Bool) (word : List ℕ) → word ≡ accepts_word accepts
    → choice consents word ≡ Ok (record { 0 = accepts })
accepts-reads true word is = ap (choice consents) is
accepts-reads false word is = ap (choice consents) is

ending-reads : (ok : Bool) (word : List ℕ) → word ≡ ending_word ok → choice endings word ≡ Ok (record { 0 = ok })
ending-reads true word is = ap (choice endings) is
ending-reads false word is = ap (choice endings) is

-- ---- the hundred statuses

-- their words, by the two digits that follow the 5
status_word : ℕ → List ℕ
status_word k = 53 ∷ (48 + k / 10) ∷ (48 + k % 10) ∷ []

all_below : ℕ → (ℕ → Bool) → Bool
all_below zero test = true
all_below (suc n) test = test n && all_below n test

below-all : (n : ℕ) (test : ℕ → Bool) → all_below n test ≡ true → (k : ℕ) → k < n → test k ≡ true
unfolding all_below
below-all zero test all k below = absurd (omega arith)
below-all (suc n) test all k below =
    let parts : (test n ≡ true) × (all_below n test ≡ true) = and_parts (test n) (all_below n test) all in
    elim (cases_eq k n) [
      | inl same ↦ ap test same ∙ parts.0
      | inr other ↦ below-all n test parts.1 k (omega (arith, other))
    ]

hundred : all_below 100 (λ k. bytes_eq (decimal (500 + k)) (status_word k)) ≡ true
unfolding all_below status_word digits
hundred = refl

decimal-status : (k : ℕ) → k < 100 → decimal (500 + k) ≡ status_word k
decimal-status k below = (bytes_eq-Decides (decimal (500 + k)) (status_word k)).0 (below-all 100 _ hundred k below)

decimal-three : (k : ℕ) → k < 100 → decimal (500 + k) ≡ 53 ∷ (48 + k / 10) ∷ (48 + k % 10) ∷ []
unfolding status_word
decimal-three k below = decimal-status k below

digit-below : (d : ℕ) → d < 10 → is_ascii_digit (48 + d) ≡ true
digit-below d below = grind (arith, nat_tests)

word-reads : (k : ℕ) → k < 100 → status_field (status_word k) ≡ Ok (record { 0 = 500 + k })
unfolding status_word
word-reads k below =
    let tens : is_ascii_digit (48 + k / 10) ≡ true = digit-below (k / 10) (omega arith) in
    let ones : is_ascii_digit (48 + k % 10) ≡ true = digit-below (k % 10) (omega arith) in
    let sum : 500 + 10 * (48 + k / 10 - 48) + (48 + k % 10 - 48) ≡ 500 + k = omega arith in
    rw (tens, ones) (ap (λ n. Ok (record { 0 = n })) sum)

status-reads : (status : ℕ) (word : List ℕ) → IsField (a_status status) word
    → status_field word ≡ Ok (record { 0 = status })
status-reads status word (least, most, is) =
    let k = status - 500 in
    let same : 500 + (status - 500) ≡ status = omega arith in
    let below : status - 500 < 100 = omega arith in
    ap status_field (is ∙ ap decimal (sym same) ∙ decimal-status k below) ∙ word-reads k below
    ∙ ap (λ n. Ok (record { 0 = n })) same

status-parts : (h t o : ℕ) → ((h == 53) && is_ascii_digit t && is_ascii_digit o) ≡ true → (h ≡ 53) × (48 ≤ t) × (t ≤ 57)
    × (48 ≤ o) × (o ≤ 57)
status-parts h t o test =
    let a : ((h == 53) && is_ascii_digit t ≡ true) × (is_ascii_digit o ≡ true) = and_parts _ _ test in
    let b : ((h == 53) ≡ true) × (is_ascii_digit t ≡ true) = and_parts _ _ a.0 in
    let c : (nat_le 48 t ≡ true) × (nat_le t 57 ≡ true) = and_parts _ _ b.1 in
    let d : (nat_le 48 o ≡ true) × (nat_le o 57 ≡ true) = and_parts _ _ a.1 in
    let b0 = b.0 in
    let c0 = c.0 in
    let c1 = c.1 in
    let d0 = d.0 in
    let d1 = d.1 in (
      grind (arith, nat_tests),
      grind (arith, nat_tests),
      grind (arith, nat_tests),
      grind (arith, nat_tests),
      grind (arith, nat_tests),
    )

none-reads : (words : List (List ℕ)) → AreFields [] words → no_fields words ≡ Ok tt
none-reads [] are = refl
none-reads (word ∷ words) are = absurd are

one-reads : (id : ℕ) (words : List (List ℕ)) → AreFields (an_id id ∷ []) words → one_field id_field words ≡ Ok id
one-reads id [] are = absurd are
one-reads id (word ∷ []) (is, last) = id-reads id word is
one-reads id (word ∷ more ∷ words) (is, last) = absurd last

two-reads : {A : Type 0} (read : List ℕ → Result A LineFault) (value : A) (spelling : List ℕ)
    → ((word : List ℕ) → word ≡ spelling → read word ≡ Ok value)
    → (id : ℕ) (words : List (List ℕ)) → AreFields (an_id id ∷ the_word spelling ∷ []) words
    → two_fields id_field read words ≡ Ok (id, value)
two-reads read value spelling reads id [] are = absurd are
two-reads read value spelling reads id (a ∷ []) (is, none) = absurd none
two-reads read value spelling reads id (a ∷ b ∷ []) (is, (said, last)) = rw (id-reads id a is, reads b said) refl
two-reads read value spelling reads id (a ∷ b ∷ c ∷ words) (is, (said, last)) = absurd last

gateway-reads : (id status : ℕ) (words : List (List ℕ)) → AreFields (an_id id ∷ a_status status ∷ []) words
    → two_fields id_field status_field words ≡ Ok (id, record { 0 = status })
gateway-reads id status [] are = absurd are
gateway-reads id status (a ∷ []) (is, none) = absurd none
gateway-reads id status (a ∷ b ∷ []) (is, (said, last)) = rw (id-reads id a is, status-reads status b said) refl
gateway-reads id status (a ∷ b ∷ c ∷ words) (is, (said, last)) = absurd last

three-reads : (service plan : ℕ) (mode : Mode) (words : List (List ℕ))
    → AreFields (an_id service ∷ an_id plan ∷ the_word (mode_word mode) ∷ []) words
    → three_fields id_field id_field (choice modes) words ≡ Ok (service, plan, mode)
three-reads service plan mode [] are = absurd are
three-reads service plan mode (a ∷ []) (is, none) = absurd none
three-reads service plan mode (a ∷ b ∷ []) (is, (too, none)) = absurd none
three-reads service plan mode (a ∷ b ∷ c ∷ []) (is, (too, (said, last))) =
    rw (id-reads service a is, id-reads plan b too, mode-reads mode c said) refl
three-reads service plan mode (a ∷ b ∷ c ∷ d ∷ words) (is, (too, (said, last))) = absurd last

four-reads : (id service plan : ℕ) (accepts : Bool) (words : List (List ℕ))
    → AreFields (an_id id ∷ an_id service ∷ an_id plan ∷ the_word (accepts_word accepts) ∷ []) words
    → four_fields id_field id_field id_field (choice consents) words ≡ Ok (id, service, plan, record { 0 = accepts })
four-reads id service plan accepts [] are = absurd are
four-reads id service plan accepts (a ∷ []) (is, none) = absurd none
four-reads id service plan accepts (a ∷ b ∷ []) (is, (too, none)) = absurd none
four-reads id service plan accepts (a ∷ b ∷ c ∷ []) (is, (too, (three, none))) = absurd none
four-reads id service plan accepts (a ∷ b ∷ c ∷ d ∷ []) (is, (too, (three, (said, last)))) =
    rw (id-reads id a is, id-reads service b too, id-reads plan c three, accepts-reads accepts d said) refl
four-reads id service plan accepts (a ∷ b ∷ c ∷ d ∷ e ∷ words) (is, (too, (three, (said, last)))) = absurd last

event-reads : (event : Event) (words : List (List ℕ)) → AreFields (event_row event).1 words
    → event_as (event_row event).0 words ≡ Ok event
event-reads (Happens.Create id service plan accepts) words are =
    ap (λ read. and_then read (λ p. Ok (Happens.Create p.0 p.1 p.2 p.3.0)))
    (four-reads id service plan accepts words are)
event-reads (Happens.Remove id) words are =
    ap (λ read. and_then read (λ n. Ok (Happens.Remove n))) (one-reads id words are)
event-reads (Happens.Send id) words are = ap (λ read. and_then read (λ n. Ok (Happens.Send n))) (one-reads id words are)
event-reads (Happens.Deliver id outcome) words are =
    ap (λ read. and_then read (λ p. Ok (Happens.Deliver p.0 p.1)))
    (two-reads (choice outcomes) outcome (outcome_word outcome) (outcome-reads outcome) id words are)
event-reads (Happens.Repeat id outcome) words are =
    ap (λ read. and_then read (λ p. Ok (Happens.Repeat p.0 p.1)))
    (two-reads (choice outcomes) outcome (outcome_word outcome) (outcome-reads outcome) id words are)
event-reads (Happens.Lose id) words are = ap (λ read. and_then read (λ n. Ok (Happens.Lose n))) (one-reads id words are)
event-reads (Happens.Garble id) words are =
    ap (λ read. and_then read (λ n. Ok (Happens.Garble n))) (one-reads id words are)
event-reads (Happens.Gateway id status) words are =
    ap (λ read. and_then read (λ p. Ok (Happens.Gateway p.0 p.1.0))) (gateway-reads id status words are)
event-reads (Happens.Answer id) words are =
    ap (λ read. and_then read (λ n. Ok (Happens.Answer n))) (one-reads id words are)
event-reads (Happens.Timeout id) words are =
    ap (λ read. and_then read (λ n. Ok (Happens.Timeout n))) (one-reads id words are)
event-reads (Happens.Expire id) words are =
    ap (λ read. and_then read (λ n. Ok (Happens.Expire n))) (one-reads id words are)
event-reads (Happens.Finish id ok) words are =
    ap (λ read. and_then read (λ p. Ok (Happens.Finish p.0 p.1.0)))
    (two-reads (choice endings) (record { 0 = ok }) (ending_word ok) (ending-reads ok) id words are)
event-reads Happens.Restart words are = ap (λ read. and_then read (λ u. Ok Happens.Restart)) (none-reads words are)

-- no event begins with # or is a plan
event-first : (event : Event) (words : List (List ℕ))
    → spelled ((event_row event).0 ∷ words) ≡ and_then (event_as (event_row event).0 words)
    (λ said. Ok (Line.Event said))
event-first (Happens.Create id service plan accepts) words = refl
event-first (Happens.Remove id) words = refl
event-first (Happens.Send id) words = refl
event-first (Happens.Deliver id outcome) words = refl
event-first (Happens.Repeat id outcome) words = refl
event-first (Happens.Lose id) words = refl
event-first (Happens.Garble id) words = refl
event-first (Happens.Gateway id status) words = refl
event-first (Happens.Answer id) words = refl
event-first (Happens.Timeout id) words = refl
event-first (Happens.Expire id) words = refl
event-first (Happens.Finish id ok) words = refl
event-first Happens.Restart words = refl

pub spells-reads : (words : List (List ℕ)) (said : Line) → Spells words said → spelled words ≡ Ok said
spells-reads [] said is = ap Ok (sym is)
spells-reads (first ∷ words) Line.Nothing marked = rw marked refl
spells-reads (first ∷ words) (Line.Plan service plan mode) (is, are) =
    subst (λ word. spelled (word ∷ words) ≡ Ok (Line.Plan service plan mode)) (sym is)
    (ap (λ read. and_then read (λ p. Ok (Line.Plan p.0 p.1 p.2))) (three-reads service plan mode words are))
spells-reads (first ∷ words) (Line.Event event) (is, are) =
    subst (λ word. spelled (word ∷ words) ≡ Ok (Line.Event event)) (sym is)
    (event-first event words ∙ ap (λ read. and_then read (λ said. Ok (Line.Event said))) (event-reads event words are))

-- ---- what is read is spelled

abbrev done : {A : Type 0} → A → Result A LineFault
done value = Ok value

ok-inv : {A : Type 0} (a b : A) → done a ≡ done b → a ≡ b
ok-inv a b e = cc

then-inv : {A B : Type 0} (read : Result A LineFault) (next : A → Result B LineFault) (made : B)
    → and_then read next ≡ Ok made
    → (value : A) × (read ≡ Ok value) × (next value ≡ Ok made)
then-inv (Ok value) next made e = (value, refl, e)
then-inv (Err fault) next made e = absurd (cc)

if-inv : {A : Type 0} (b : Bool) (x y : Result A LineFault) (value : A) (P : Type 0) → (if b then x else y) ≡ Ok value
    → (b ≡ true → x ≡ Ok value → P) → (b ≡ false → y ≡ Ok value → P) → P
if-inv true x y value P e on_true on_false = on_true refl e
if-inv false x y value P e on_true on_false = on_false refl e

is_word : (first word : List ℕ) → bytes_eq first word ≡ true → first ≡ word
is_word first word is = (bytes_eq-Decides first word).0 is

found-id : (found : Option ℕ) (id : ℕ) → ok_or found BadId ≡ Ok id → found ≡ Some id
found-id (Some n) id e = ap Some (ok-inv n id e)
found-id None id e = absurd (cc)

id-spells : (word : List ℕ) (id : ℕ) → id_field word ≡ Ok id → id_of word ≡ Some id
id-spells word id e = found-id (id_of word) id e

-- each choice has the word of what it stands for
abbrev Agree : {A : Type 0} → (A → List ℕ) → List (List ℕ × A) → Type 0
Agree word_of [] = Unit {0}
Agree word_of (one ∷ more) = (one.0 ≡ word_of one.1) × Agree word_of more

choice-spells : {A : Type 0} (word_of : A → List ℕ) (choices : List (List ℕ × A)) → Agree word_of choices
    → (value : A) (word : List ℕ) → choice choices word ≡ Ok value → word ≡ word_of value
choice-spells word_of [] agree value word e = absurd (cc)
choice-spells word_of (one ∷ more) (same, later) value word e =
    if-inv (bytes_eq word one.0) (Ok one.1) (choice more word) value (word ≡ word_of value) e
    (λ is made. is_word word one.0 is ∙ same ∙ ap word_of (ok-inv one.1 value made))
    (λ other rest. choice-spells word_of more later value word rest)

one-spells : (words : List (List ℕ)) (id : ℕ) → one_field id_field words ≡ Ok id → AreFields (an_id id ∷ []) words
one-spells [] id e = absurd (cc)
one-spells (word ∷ []) id e = (id-spells word id e, tt)
one-spells (word ∷ more ∷ words) id e = absurd (cc)

two-spells : {A : Type 0} (read : List ℕ → Result A LineFault) (word_of : A → List ℕ)
    → ((value : A) (word : List ℕ) → read word ≡ Ok value → word ≡ word_of value)
    → (words : List (List ℕ)) (p : ℕ × A) → two_fields id_field read words ≡ Ok p
    → AreFields (an_id p.0 ∷ the_word (word_of p.1) ∷ []) words
two-spells read word_of spells [] p e = absurd (cc)
two-spells read word_of spells (a ∷ []) p e = absurd (cc)
two-spells {A} read word_of spells (a ∷ b ∷ []) p e =
    let (x, is, later) = then-inv (id_field a) (λ x. and_then (read b) (λ y. Ok (x, y))) p e in
    let (y, too, made) = then-inv (read b) (λ y. Ok (x, y)) p later in
    subst (λ (q : ℕ × A). AreFields (an_id q.0 ∷ the_word (word_of q.1) ∷ []) (a ∷ b ∷ [])) (ok-inv (x, y) p made)
    (id-spells a x is, (spells y b too, tt))
two-spells read word_of spells (a ∷ b ∷ c ∷ words) p e = absurd (cc)

-- 5 and two digits are a status in decimal
digits-spell : (h t o : ℕ) (status : GatewayStatus) → status_field (h ∷ t ∷ o ∷ []) ≡ Ok status
    → IsField (a_status status.0) (h ∷ t ∷ o ∷ [])
digits-spell h t o status e =
    if-inv ((h == 53) && is_ascii_digit t && is_ascii_digit o) (Ok (record { 0 = 500 + 10 * (t - 48) + (o - 48) }))
    (Err BadChoice) status
    (IsField (a_status status.0) (h ∷ t ∷ o ∷ [])) e
    (λ test made.
    let (five, tens0, tens9, ones0, ones9) = status-parts h t o test in
    let k = 10 * (t - 48) + (o - 48) in
    let below : 10 * (t - 48) + (o - 48) < 100 = omega arith in
    let sum : 500 + 10 * (t - 48) + (o - 48) ≡ 500 + (10 * (t - 48) + (o - 48)) = omega arith in
    let number : 500 + (10 * (t - 48) + (o - 48)) ≡ status.0 = sym sum
    ∙ ap (λ (s : GatewayStatus). s.0) (ok-inv (record { 0 = 500 + 10 * (t - 48) + (o - 48) }) status made) in
    let tens : t ≡ 48 + (10 * (t - 48) + (o - 48)) / 10 = omega arith in
    let ones : o ≡ 48 + (10 * (t - 48) + (o - 48)) % 10 = omega arith in
    let word : h ∷ t ∷ o ∷ [] ≡ 53 ∷ (48 + (10 * (t - 48) + (o - 48)) / 10) ∷ (48 + (10 * (t - 48) + (o - 48)) %
    10) ∷ [] = λ i. five i ∷ tens i ∷ ones i ∷ [] in
    (omega arith, omega arith, word ∙ sym (decimal-three k below) ∙ ap decimal number))
    (λ other no. absurd (cc))

status-spells : (status : GatewayStatus) (word : List ℕ) → status_field word ≡ Ok status
    → IsField (a_status status.0) word
status-spells status [] e = absurd (cc)
status-spells status (h ∷ []) e = absurd (cc)
status-spells status (h ∷ t ∷ []) e = absurd (cc)
status-spells status (h ∷ t ∷ o ∷ []) e = digits-spell h t o status e
status-spells status (h ∷ t ∷ o ∷ more ∷ word) e = absurd (cc)

gateway-spells : (words : List (List ℕ)) (p : ℕ × GatewayStatus) → two_fields id_field status_field words ≡ Ok p
    → AreFields (an_id p.0 ∷ a_status p.1.0 ∷ []) words
gateway-spells [] p e = absurd (cc)
gateway-spells (a ∷ []) p e = absurd (cc)
gateway-spells (a ∷ b ∷ []) p e =
    let (x, is, later) = then-inv (id_field a) (λ x. and_then (status_field b) (λ y. Ok (x, y))) p e in
    let (y, too, made) = then-inv (status_field b) (λ y. Ok (x, y)) p later in
    subst (λ (q : ℕ × GatewayStatus). AreFields (an_id q.0 ∷ a_status q.1.0 ∷ []) (a ∷ b ∷ [])) (ok-inv (x, y) p made)
    (id-spells a x is, (status-spells y b too, tt))
gateway-spells (a ∷ b ∷ c ∷ words) p e = absurd (cc)

three-spells : (words : List (List ℕ)) (p : ℕ × ℕ × Mode) → three_fields id_field id_field (choice modes) words ≡ Ok p
    → AreFields (an_id p.0 ∷ an_id p.1 ∷ the_word (mode_word p.2) ∷ []) words
three-spells [] p e = absurd (cc)
three-spells (a ∷ []) p e = absurd (cc)
three-spells (a ∷ b ∷ []) p e = absurd (cc)
three-spells (a ∷ b ∷ c ∷ []) p e =
    let (x, is, later) = then-inv (id_field a)
    (λ x. and_then (id_field b) (λ y. and_then (choice modes c) (λ z. Ok (x, y, z)))) p e in
    let (y, too, last) = then-inv (id_field b) (λ y. and_then (choice modes c) (λ z. Ok (x, y, z))) p later in
    let (z, three, made) = then-inv (choice modes c) (λ z. Ok (x, y, z)) p last in
    subst (λ (q : ℕ × ℕ × Mode). AreFields (an_id q.0 ∷ an_id q.1 ∷ the_word (mode_word q.2) ∷ []) (a ∷ b ∷ c ∷ []))
    (ok-inv (x, y, z) p made)
    (id-spells a x is, (id-spells b y too, (choice-spells mode_word modes (refl, (refl, tt)) z c three, tt)))
three-spells (a ∷ b ∷ c ∷ d ∷ words) p e = absurd (cc)

four-spells : (words : List (List ℕ)) (p : ℕ × ℕ × ℕ × Accepts)
    → four_fields id_field id_field id_field (choice consents) words ≡ Ok p
    → AreFields (an_id p.0 ∷ an_id p.1 ∷ an_id p.2 ∷ the_word (accepts_word p.3.0) ∷ []) words
four-spells [] p e = absurd (cc)
four-spells (a ∷ []) p e = absurd (cc)
four-spells (a ∷ b ∷ []) p e = absurd (cc)
four-spells (a ∷ b ∷ c ∷ []) p e = absurd (cc)
four-spells (a ∷ b ∷ c ∷ d ∷ []) p e =
    let (w, is, rest) = then-inv (id_field a)
    (λ w. and_then (id_field b) (λ x. and_then (id_field c) (λ y. and_then (choice consents d) (λ z. Ok (w, x, y, z)))))
    p e in
    let (x, too, later) = then-inv (id_field b)
    (λ x. and_then (id_field c) (λ y. and_then (choice consents d) (λ z. Ok (w, x, y, z)))) p rest in
    let (y, three, last) = then-inv (id_field c) (λ y. and_then (choice consents d) (λ z. Ok (w, x, y, z))) p later in
    let (z, four, made) = then-inv (choice consents d) (λ z. Ok (w, x, y, z)) p last in
    subst (λ (q : ℕ × ℕ × ℕ × Accepts). AreFields
    (an_id q.0 ∷ an_id q.1 ∷ an_id q.2 ∷ the_word (accepts_word q.3.0) ∷ []) (a ∷ b ∷ c ∷ d ∷ []))
    (ok-inv (w, x, y, z) p made) (
      id-spells a w is,
      (
        id-spells b x too,
        (
          id-spells c y three,
          (
            choice-spells (λ (s : Accepts). accepts_word s.0) consents (refl, (refl, tt)) z d four,
            tt,
          ),
        ),
      ),
    )
four-spells (a ∷ b ∷ c ∷ d ∷ f ∷ words) p e = absurd (cc)

id-row : (make : ℕ → Event) (word first : List ℕ) (words : List (List ℕ)) (event : Event)
    → ((id : ℕ) → event_row (make id) ≡ (word, an_id id ∷ []))
    → bytes_eq first word ≡ true → and_then (one_field id_field words) (λ id. Ok (make id)) ≡ Ok event
    → IsRow (event_row event) first words
id-row make word first words event row is e =
    let (id, read, made) = then-inv (one_field id_field words) (λ id. Ok (make id)) event e in
    subst (λ (said : Event). IsRow (event_row said) first words) (ok-inv (make id) event made)
    (subst (λ (r : List ℕ × List Field). IsRow r first words) (sym (row id))
    (is_word first word is, one-spells words id read))

outcome-row : (make : ℕ → Outcome → Event) (word first : List ℕ) (words : List (List ℕ)) (event : Event)
    → ((id : ℕ) (outcome : Outcome)
    → event_row (make id outcome) ≡ (word, an_id id ∷ the_word (outcome_word outcome) ∷ []))
    → bytes_eq first word ≡ true
    → and_then (two_fields id_field (choice outcomes) words) (λ p. Ok (make p.0 p.1)) ≡ Ok event
    → IsRow (event_row event) first words
outcome-row make word first words event row is e =
    let (p, read, made) = then-inv (two_fields id_field (choice outcomes) words) (λ p. Ok (make p.0 p.1)) event e in
    subst (λ (said : Event). IsRow (event_row said) first words) (ok-inv (make p.0 p.1) event made)
    (subst (λ (r : List ℕ × List Field). IsRow r first words) (sym (row p.0 p.1)) (
      is_word first word is,
      two-spells (choice outcomes) outcome_word
          (choice-spells outcome_word outcomes (refl, (refl, (refl, tt)))) words p read,
    ))

finish-row : (first : List ℕ) (words : List (List ℕ)) (event : Event) → bytes_eq first (codes "finish") ≡ true
    → and_then (two_fields id_field (choice endings) words) (λ p. Ok (Happens.Finish p.0 p.1.0)) ≡ Ok event
    → IsRow (event_row event) first words
finish-row first words event is e =
    let (p, read, made) = then-inv (two_fields id_field (choice endings) words)
    (λ p. Ok (Happens.Finish p.0 p.1.0)) event e in
    subst (λ (said : Event). IsRow (event_row said) first words) (ok-inv (Happens.Finish p.0 p.1.0) event made) (
      is_word first (codes "finish") is,
      two-spells (choice endings) (λ (s : EndsWell). ending_word s.0)
          (choice-spells (λ (s : EndsWell). ending_word s.0) endings (refl, (refl, tt))) words p read,
    )

gateway-row : (first : List ℕ) (words : List (List ℕ)) (event : Event) → bytes_eq first (codes "gateway") ≡ true
    → and_then (two_fields id_field status_field words) (λ p. Ok (Happens.Gateway p.0 p.1.0)) ≡ Ok event
    → IsRow (event_row event) first words
gateway-row first words event is e =
    let (p, read, made) = then-inv (two_fields id_field status_field words)
    (λ p. Ok (Happens.Gateway p.0 p.1.0)) event e in
    subst (λ (said : Event). IsRow (event_row said) first words) (ok-inv (Happens.Gateway p.0 p.1.0) event made)
    (is_word first (codes "gateway") is, gateway-spells words p read)

create-row : (first : List ℕ) (words : List (List ℕ)) (event : Event) → bytes_eq first (codes "create") ≡ true
    → and_then (four_fields id_field id_field id_field (choice consents) words)
    (λ p. Ok (Happens.Create p.0 p.1 p.2 p.3.0)) ≡ Ok event
    → IsRow (event_row event) first words
create-row first words event is e =
    let (p, read, made) = then-inv (four_fields id_field id_field id_field (choice consents) words)
    (λ p. Ok (Happens.Create p.0 p.1 p.2 p.3.0)) event e in
    subst (λ (said : Event). IsRow (event_row said) first words) (ok-inv (Happens.Create p.0 p.1 p.2 p.3.0) event made)
    (is_word first (codes "create") is, four-spells words p read)

restart-row : (first : List ℕ) (words : List (List ℕ)) (event : Event) → bytes_eq first (codes "restart") ≡ true
    → and_then (no_fields words) (λ u. Ok Happens.Restart) ≡ Ok event → IsRow (event_row event) first words
restart-row first [] event is e =
    subst (λ (said : Event). IsRow (event_row said) first []) (ok-inv Happens.Restart event e)
    (is_word first (codes "restart") is, tt)
restart-row first (word ∷ words) event is e = absurd (cc)

event-spells : (first : List ℕ) (words : List (List ℕ)) (event : Event) → event_as first words ≡ Ok event
    → IsRow (event_row event) first words
event-spells first words event e0 =
    if-inv (bytes_eq first (codes "create")) _ _ event (IsRow (event_row event) first words) e0
    (λ is read. create-row first words event is read) (λ other e1.
    if-inv (bytes_eq first (codes "remove")) _ _ event (IsRow (event_row event) first words) e1
    (λ is read. id-row (λ id. Happens.Remove id) (codes "remove") first words event (λ id. refl) is read) (λ other e2.
    if-inv (bytes_eq first (codes "send")) _ _ event (IsRow (event_row event) first words) e2
    (λ is read. id-row (λ id. Happens.Send id) (codes "send") first words event (λ id. refl) is read) (λ other e3.
    if-inv (bytes_eq first (codes "deliver")) _ _ event (IsRow (event_row event) first words) e3
    (λ is read. outcome-row (λ id outcome. Happens.Deliver id outcome) (codes "deliver") first words event
    (λ id outcome. refl) is read) (λ other e4.
    if-inv (bytes_eq first (codes "repeat")) _ _ event (IsRow (event_row event) first words) e4
    (λ is read. outcome-row (λ id outcome. Happens.Repeat id outcome) (codes "repeat") first words event
    (λ id outcome. refl) is read) (λ other e5.
    if-inv (bytes_eq first (codes "lose")) _ _ event (IsRow (event_row event) first words) e5
    (λ is read. id-row (λ id. Happens.Lose id) (codes "lose") first words event (λ id. refl) is read) (λ other e6.
    if-inv (bytes_eq first (codes "garble")) _ _ event (IsRow (event_row event) first words) e6
    (λ is read. id-row (λ id. Happens.Garble id) (codes "garble") first words event (λ id. refl) is read) (λ other e7.
    if-inv (bytes_eq first (codes "gateway")) _ _ event (IsRow (event_row event) first words) e7
    (λ is read. gateway-row first words event is read) (λ other g7.
    if-inv (bytes_eq first (codes "answer")) _ _ event (IsRow (event_row event) first words) g7
    (λ is read. id-row (λ id. Happens.Answer id) (codes "answer") first words event (λ id. refl) is read) (λ other e8.
    if-inv (bytes_eq first (codes "timeout")) _ _ event (IsRow (event_row event) first words) e8
    (λ is read. id-row (λ id. Happens.Timeout id) (codes "timeout") first words event (λ id. refl) is read) (λ other e9.
    if-inv (bytes_eq first (codes "expire")) _ _ event (IsRow (event_row event) first words) e9
    (λ is read. id-row (λ id. Happens.Expire id) (codes "expire") first words event (λ id. refl) is read) (λ other e10.
    if-inv (bytes_eq first (codes "finish")) _ _ event (IsRow (event_row event) first words) e10
    (λ is read. finish-row first words event is read) (λ other e11.
    if-inv (bytes_eq first (codes "restart")) _ _ event (IsRow (event_row event) first words) e11
    (λ is read. restart-row first words event is read) (λ other e12.
    absurd (cc))))))))))))))

as-spells : (first : List ℕ) (words : List (List ℕ)) (said : Line) → spelled_as first words ≡ Ok said
    → begins_comment first ≡ false → Spells (first ∷ words) said
as-spells first words said e plain =
    if-inv (bytes_eq first (codes "plan")) _ _ said (Spells (first ∷ words) said) e
    (λ is read.
    let (p, fields, made) = then-inv (three_fields id_field id_field (choice modes) words)
    (λ p. Ok (Line.Plan p.0 p.1 p.2)) said read in
    subst (Spells (first ∷ words)) (ok-inv (Line.Plan p.0 p.1 p.2) said made)
    (is_word first (codes "plan") is, three-spells words p fields))
    (λ other read.
    let (event, happens, made) = then-inv (event_as first words) (λ event. Ok (Line.Event event)) said read in
    subst (Spells (first ∷ words)) (ok-inv (Line.Event event) said made) (event-spells first words event happens))

reads-spells : (words : List (List ℕ)) (said : Line) → spelled words ≡ Ok said → Spells words said
reads-spells [] said e = sym (ok-inv Line.Nothing said e)
reads-spells (first ∷ words) said e =
    if-inv (begins_comment first) (Ok Line.Nothing) (spelled_as first words) said (Spells (first ∷ words) said) e
    (λ marked is. subst (Spells (first ∷ words)) (ok-inv Line.Nothing said is) marked)
    (λ plain read. as-spells first words said read plain)

-- ---- a line says what is read of it, and nothing else

line-says : (bytes : List ℕ) (said : Line) → line_of bytes ≡ Ok said → Says bytes said
unfolding line_of
line-says bytes said e =
    if-inv (nat_lt LONGEST_LINE (length bytes)) _ _ said (Says bytes said) e (λ long no. absurd (cc))
    (λ within e1. if-inv (is_ascii bytes) _ _ said (Says bytes said) e1
    (λ plain e2. record {
      short = grind (arith, nat_tests);
      ascii = plain;
      words = words_in (strip_carriage_return bytes);
      spaced = spaced-words (strip_carriage_return bytes);
      spelled = reads-spells (words_in (strip_carriage_return bytes)) said e2;
    }) (λ other no. absurd (cc)))

says-line : (bytes : List ℕ) (said : Line) → Says bytes said → line_of bytes ≡ Ok said
unfolding line_of
says-line bytes said says =
    let short : length bytes ≤ LONGEST_LINE = says.short in
    let within : nat_lt LONGEST_LINE (length bytes) ≡ false = grind (arith, nat_tests) in
    let ascii : is_ascii bytes ≡ true = says.ascii in
    let cut : words_in (strip_carriage_return bytes) ≡ says.words =
    words-only says.words (strip_carriage_return bytes) says.spaced in
    rw (within, ascii, cut) (spells-reads says.words said says.spelled)

pub line_of-words : (bytes : List ℕ) → length bytes ≤ LONGEST_LINE → is_ascii bytes ≡ true
    → line_of bytes ≡ spelled (words_in (strip_carriage_return bytes))
unfolding line_of
line_of-words bytes short ascii =
    let within : nat_lt LONGEST_LINE (length bytes) ≡ false = grind (arith, nat_tests) in
    rw (within, ascii) refl

pub says_iff : (bytes : List ℕ) (read : Result Line LineFault) → read ≡ line_of bytes → (said : Line)
    → (read ≡ Ok said) ↔ Says bytes said
says_iff bytes read exact said =
    ((λ e. line-says bytes said (sym exact ∙ e)), (λ says. exact ∙ says-line bytes said says))
