-- An answer comes back from the body that is written for it.
use Rattle.std.proofs.Common.{◌≡◌, ℕ, Bool, true, false, not, ◌&&◌, ◌||◌, ◌==◌, cond, List, [], ◌∷◌, Option, None, Some}
use Rattle.std.proofs.Common.{refl, ap, ◌∙◌, IsUtf8, true≢false, sym}
use Rattle.std.specs.Prelude.{is_some, length, nat_le, option_and_then}
use Rattle.std.specs.List.{list_any, list_all}
use Rattle.std.specs.Str.{chars}
use Rattle.std.proofs.lemmas.Bool.{cond_both, eqb-true}
use Rattle.serde_json.specs.Data.{Data, Members, object}
use Rattle.serde_json.specs.Read.{read}
use Rattle.serde_json.proofs.OnLiterals.{serde_json_on_literals}
use Rattle.osb_message.specs.declared.messages.Answer.{Answer}
use Rattle.osb_message.specs.declared.messages.Body.{Body}
use Rattle.osb_message.specs.declared.messages.Body.TheVariants.{Malformed, Empty, State, Error}
use Rattle.osb_message.specs.declared.messages.ErrorCode.TheVariants.{AsyncRequired, ConcurrencyError, Other}
use Rattle.osb_message.specs.declared.messages.LastState.TheVariants.{InProgress, Succeeded, Failed}
use Rattle.osb_message.specs.declared.messages.Kind.{Kind}
use Rattle.osb_message.specs.declared.messages.Kind.TheVariants.{Provision, Poll, Deprovision}
use Rattle.osb_wire.specs.Answers.{code_named, state_in, error_in, is_success, success_statuses, body_of, answer_of_object, answer_in}
use Rattle.osb_wire.specs.Answers.{longest_operation, if_short, operation_at, operation_in}
use Rattle.osb_wire.specs.Bodies.{value_in, if_object, object_in}
use Rattle.osb_wire.specs.WrittenAnswers.{reason, operation_members, plain_value, body_value, is_readable, fits, is_carried, refused_statuses, is_given}
use Rattle.osb_wire.proofs.BodyValues.{value_in_text}

-- ---- what is written of a body is read as it

reason_is_other : (status : ℕ) → code_named (reason status) ≡ Other
reason_is_other status =
    let P = λ (word : List ℕ). code_named word ≡ Other in
    cond_both (status == 400) _ _ P (λ _. refl)
    (λ _. cond_both (status == 404) _ _ P (λ _. refl)
    (λ _. cond_both (status == 405) _ _ P (λ _. refl)
    (λ _. cond_both (status == 409) _ _ P (λ _. refl)
    (λ _. cond_both (status == 410) _ _ P (λ _. refl)
    (λ _. cond_both (status == 412) _ _ P (λ _. refl)
    (λ _. cond_both (status == 413) _ _ P (λ _. refl)
    (λ _. cond_both (status == 422) _ _ P (λ _. refl)
    (λ _. cond_both (status == 500) _ _ P (λ _. refl)
    (λ _. cond_both (status == 503) _ _ P (λ _. refl) (λ _. refl))))))))))

alike : (b : Bool) (x : Body) → cond b x x ≡ x
alike true x = refl
alike false x = refl

where_not : (b : Bool) (x y : Body) → not b ≡ true → cond b x y ≡ y
where_not true x y h = absurd (true≢false (sym h))
where_not false x y h = refl

-- what an answer says that says no more than its status
no_state : (status : ℕ) (operation : Option (List ℕ)) → state_in (object (operation_members status operation)) ≡ Empty
no_state status None = refl
no_state status (Some text) =
    cond_both (status == 202) _ _ (λ (ms : Members). state_in (object ms) ≡ Empty) (λ _. refl) (λ _. refl)

no_error : (status : ℕ) (operation : Option (List ℕ)) → error_in (object (operation_members status operation)) ≡ Empty
no_error status None = refl
no_error status (Some text) =
    cond_both (status == 202) _ _ (λ (ms : Members). error_in (object ms) ≡ Empty) (λ _. refl) (λ _. refl)

same_body : (kind : Kind) (status : ℕ) (operation told : Option (List ℕ)) (body : Body) → fits kind status body ≡ true
    → body_of kind status (option_and_then if_object (body_value status operation told body)) ≡ body
same_body kind status operation told Malformed h = refl
same_body Provision status operation told Empty h = rw (no_error status (option_and_then if_short operation)) (alike (is_success status) Empty)
same_body Poll status operation told Empty h =
    rw (no_error status (option_and_then if_short operation), no_state status (option_and_then if_short operation)) (alike (status == 200) Empty)
same_body Deprovision status operation told Empty h = rw (no_error status (option_and_then if_short operation)) (alike (is_success status) Empty)
same_body Poll status operation told (State InProgress) h = rw h refl
same_body Poll status operation told (State Succeeded) h = rw h refl
same_body Poll status operation None (State Failed) h = rw h refl
same_body Poll status operation (Some text) (State Failed) h = rw h refl
same_body Provision status operation told (State state) h = absurd (true≢false (sym h))
same_body Deprovision status operation told (State state) h = absurd (true≢false (sym h))
same_body Provision status operation told (Error AsyncRequired) h = where_not (is_success status) _ _ h
same_body Provision status operation told (Error ConcurrencyError) h = where_not (is_success status) _ _ h
same_body Provision status operation told (Error Other) h = where_not (is_success status) _ _ h ∙ ap Error (reason_is_other status)
same_body Deprovision status operation told (Error AsyncRequired) h = where_not (is_success status) _ _ h
same_body Deprovision status operation told (Error ConcurrencyError) h = where_not (is_success status) _ _ h
same_body Deprovision status operation told (Error Other) h = where_not (is_success status) _ _ h ∙ ap Error (reason_is_other status)
same_body Poll status operation told (Error AsyncRequired) h = where_not (status == 200) _ _ h
same_body Poll status operation told (Error ConcurrencyError) h = where_not (status == 200) _ _ h
same_body Poll status operation told (Error Other) h = where_not (status == 200) _ _ h ∙ ap Error (reason_is_other status)

is_object_if_readable : (status : ℕ) (operation told : Option (List ℕ)) (body : Body)
    → is_some (option_and_then if_object (body_value status operation told body)) ≡ is_readable body
is_object_if_readable status operation told Malformed = refl
is_object_if_readable status operation told Empty = refl
is_object_if_readable status operation told (State InProgress) = refl
is_object_if_readable status operation told (State Succeeded) = refl
is_object_if_readable status operation None (State Failed) = refl
is_object_if_readable status operation (Some text) (State Failed) = refl
is_object_if_readable status operation told (Error code) = refl

abbrev response : ℕ → Body → Answer
response status body = record { status = status; body = body }

sure : (u v : Bool) (status : ℕ) (found body : Body) → (not u && v) ≡ true → (v ≡ true → found ≡ body)
    → cond u None (Some (response status found)) ≡ Some (response status body)
sure true v status found body h same = absurd (true≢false (sym h))
sure false v status found body h same = ap (λ b. Some (response status b)) (same h)

carried_object : (kind : Kind) (a : Answer) (operation told : Option (List ℕ)) → is_carried kind a ≡ true
    → answer_of_object kind a.status (option_and_then if_object (body_value a.status operation told a.body)) ≡ Some a
carried_object kind a operation told h =
    let readable = is_object_if_readable a.status operation told a.body in
    rw readable (sure _ _ a.status _ a.body h (same_body kind a.status operation told a.body))

-- ---- the texts

reads_nothing : read [] ≡ None
unfolding serde_json_on_literals
reads_nothing = refl

no_value : value_in [] ≡ None
no_value = value_in_text [] ([], (refl, refl)) ∙ reads_nothing

pub carried_nothing : (kind : Kind) (a : Answer) (operation told : Option (List ℕ)) (text : List ℕ)
    → None ≡ body_value a.status operation told a.body → text ≡ [] → is_carried kind a ≡ true
    → answer_in kind a.status text ≡ Some a
carried_nothing kind a operation told text none empty h =
    let object = ap (option_and_then if_object) (ap value_in empty ∙ no_value ∙ none) in
    ap (answer_of_object kind a.status) object ∙ carried_object kind a operation told h

pub carried_text : (kind : Kind) (a : Answer) (operation told : Option (List ℕ)) (d : Data) (text : List ℕ)
    → Some d ≡ body_value a.status operation told a.body → IsUtf8 text → read text ≡ Some d → is_carried kind a ≡ true
    → answer_in kind a.status text ≡ Some a
carried_text kind a operation told d text value utf8 reads h =
    let object = ap (option_and_then if_object) (value_in_text text utf8 ∙ reads ∙ value) in
    ap (answer_of_object kind a.status) object ∙ carried_object kind a operation told h

-- the text reads as the object that is meant
same_object : (status : ℕ) (operation told : Option (List ℕ)) (body : Body)
    → option_and_then if_object (body_value status operation told body) ≡ body_value status operation told body
same_object status operation told Malformed = refl
same_object status operation told Empty = refl
same_object status operation told (State InProgress) = refl
same_object status operation told (State Succeeded) = refl
same_object status operation None (State Failed) = refl
same_object status operation (Some text) (State Failed) = refl
same_object status operation told (Error code) = refl

pub object_of_nothing : (status : ℕ) (operation told : Option (List ℕ)) (body : Body) (text : List ℕ)
    → None ≡ body_value status operation told body → text ≡ [] → object_in text ≡ body_value status operation told body
object_of_nothing status operation told body text none empty =
    ap (option_and_then if_object) (ap value_in empty ∙ no_value ∙ none) ∙ same_object status operation told body

pub object_of_text : (status : ℕ) (operation told : Option (List ℕ)) (body : Body) (d : Data) (text : List ℕ)
    → Some d ≡ body_value status operation told body → IsUtf8 text → read text ≡ Some d
    → object_in text ≡ body_value status operation told body
object_of_text status operation told body d text value utf8 reads =
    ap (option_and_then if_object) (value_in_text text utf8 ∙ reads ∙ value) ∙ same_object status operation told body

-- the operation of an empty 202
operation_of_plain : (operation : Option (List ℕ))
    → operation_at (plain_value 202 operation) ≡ option_and_then if_short operation
operation_of_plain None = refl
operation_of_plain (Some text) =
    cond_both (nat_le (length (chars text)) longest_operation) (Some text) None
    (λ short. operation_at (object (operation_members 202 short)) ≡ short) (λ fits. rw fits refl) (λ _. refl)

pub carried_operation : (status : ℕ) (body : Body) (operation told : Option (List ℕ)) (d : Data) (text : List ℕ)
    → Some d ≡ body_value status operation told body → IsUtf8 text → read text ≡ Some d → status ≡ 202 → body ≡ Empty
    → operation_in text ≡ option_and_then if_short operation
carried_operation status body operation told d text value utf8 reads accepted empty =
    let plain = value ∙ (λ i. body_value (accepted i) operation told (empty i)) in
    let object = ap (option_and_then if_object) (value_in_text text utf8 ∙ reads ∙ plain) in
    ap (option_and_then operation_at) object ∙ operation_of_plain operation

-- ---- what a broker gives

-- a test that each of these numbers passes
tested_at : (P : ℕ → Bool) (n x : ℕ) (listed all same passes : Bool) → (n == x) ≡ same → P x ≡ passes
    → (same || listed) ≡ true → (passes && all) ≡ true → (listed ≡ true → all ≡ true → P n ≡ true) → P n ≡ true
tested_at P n x listed all true true is passed h k later = ap P (eqb-true n x is) ∙ passed
tested_at P n x listed all same false is passed h k later = absurd (true≢false (sym k))
tested_at P n x listed all false true is passed h k later = later h k

tested : (P : ℕ → Bool) (xs : List ℕ) (n : ℕ) → list_any (λ x. n == x) xs ≡ true → list_all P xs ≡ true → P n ≡ true
tested P [] n h all = absurd (true≢false (sym h))
tested P (x ∷ xs) n h all = tested_at P n x _ _ (n == x) (P x) refl refl h all (tested P xs n)

neither : (x y : Bool) → ((x && false) || (y && false)) ≡ true → ⊥
neither true true h = true≢false (sym h)
neither true false h = true≢false (sym h)
neither false true h = true≢false (sym h)
neither false false h = true≢false (sym h)

the_first : (x y : Bool) → ((x && true) || (y && false)) ≡ true → x ≡ true
the_first true y h = refl
the_first false true h = absurd (true≢false (sym h))
the_first false false h = absurd (true≢false (sym h))

the_second : (x y : Bool) → ((x && false) || (y && true)) ≡ true → y ≡ true
the_second x true h = refl
the_second true false h = absurd (true≢false (sym h))
the_second false false h = absurd (true≢false (sym h))

carried_by : (kind : Kind) (body : Body) (statuses : List ℕ) (status : ℕ) → list_any (λ s. status == s) statuses ≡ true
    → list_all (λ s. is_carried kind (response s body)) statuses ≡ true → is_carried kind (response status body) ≡ true
carried_by kind body statuses status = tested (λ s. is_carried kind (response s body)) statuses status

given_response : (kind : Kind) (status : ℕ) (body : Body) → is_given kind (response status body) ≡ true
    → is_carried kind (response status body) ≡ true
given_response Provision status Malformed h = absurd (neither _ _ h)
given_response Provision status Empty h = carried_by Provision Empty success_statuses status (the_first _ _ h) refl
given_response Provision status (State state) h = absurd (neither _ _ h)
given_response Provision status (Error code) h = carried_by Provision (Error code) refused_statuses status (the_second _ _ h) refl
given_response Deprovision status Malformed h = absurd (neither _ _ h)
given_response Deprovision status Empty h =
    carried_by Deprovision Empty success_statuses status (the_first _ _ h) refl
given_response Deprovision status (State state) h = absurd (neither _ _ h)
given_response Deprovision status (Error code) h = carried_by Deprovision (Error code) refused_statuses status (the_second _ _ h) refl
given_response Poll status Malformed h = absurd (neither _ _ h)
given_response Poll status Empty h = absurd (neither _ _ h)
given_response Poll status (State state) h = the_first _ _ h
given_response Poll status (Error code) h = carried_by Poll (Error code) refused_statuses status (the_second _ _ h) refl

pub given_is_carried : (kind : Kind) (a : Answer) → is_given kind a ≡ true → is_carried kind a ≡ true
given_is_carried kind a h = given_response kind a.status a.body h
