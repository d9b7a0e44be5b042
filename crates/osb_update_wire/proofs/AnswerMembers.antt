-- What stands in the body of a success or of a failure, and what is read from it.
use Rattle.std.proofs.Common.{◌≡◌, ◌≢◌, ℕ, ◌≤◌, Bool, true, false, ◌==◌, cond, List, Option, None, Some, Ordering, Less, Equal, Greater, IsUtf8, refl, sym, ap, ◌∙◌, subst, arith, true≢false, nat_cmp}
use Rattle.std.specs.Prelude.{codes, length, nat_le, max, option_map, option_and_then}
use Rattle.std.specs.Cmp.Lexicographic.{slice_cmp}
use Rattle.std.specs.Ordering.{match_ordering}
use Rattle.std.specs.Str.{chars}
use Rattle.std.proofs.lemmas.Bool.{cond_both, eqb-true}
use Rattle.serde_json.specs.Data.{Data, boolean, string, object, Members, no_members, member, put, depth, members_depth}
use Rattle.serde_json.specs.Find.{get_member, as_str, as_bool}
use Rattle.serde_json.specs.Read.{read, max_depth}
use Rattle.serde_json.proofs.Views.{get_member-put, get_member-put_other}
use Rattle.osb_json.specs.Members.{text_at, flag_at}
use Rattle.osb_message.specs.declared.messages.Answer.{Answer}
use Rattle.osb_message.specs.declared.messages.Body.{Body}
use Rattle.osb_message.specs.declared.messages.Body.TheVariants.{Malformed, Empty, State, Error}
use Rattle.osb_message.specs.declared.messages.Kind.{Kind}
use Rattle.osb_message.specs.declared.messages.Kind.TheVariants.{Provision, Poll, Deprovision}
use Rattle.osb_message.specs.declared.messages.LastState.TheVariants.{InProgress, Succeeded, Failed}
use Rattle.osb_wire.specs.Answers.{answer_in, answer_of_object, body_of_object, if_short, longest_operation, is_success, operation_at, operation_in}
use Rattle.osb_wire.specs.Bodies.{if_object, object_in}
use Rattle.osb_wire.specs.Details.{flag_in, text_in}
use Rattle.osb_wire.specs.WrittenAnswers.{body_value}
use Rattle.osb_wire.proofs.BodyValues.{value_in_text}
use Rattle.osb_wire.proofs.ProvisionsBack.{apart}
use Rattle.osb_update_wire.specs.Answers.{put_if, operation_given, with_operation, with_address, success_members, success_value, metadata_in, CanBeRead, with_flags, flagged, failure_value}

-- ---- a member that is there if it has a value

same_if : (k : List ℕ) (o : Option Data) (ms : Members) → get_member k ms ≡ None → get_member k (put_if k o ms) ≡ o
same_if k None ms h = h
same_if k (Some d) ms h = get_member-put k d ms

other_if : (q k : List ℕ) (o : Option Data) (ms : Members) → q ≢ k → get_member q (put_if k o ms) ≡ get_member q ms
other_if q k None ms other = refl
other_if q k (Some d) ms other = get_member-put_other q k d ms other

text_of : (o : Option (List ℕ)) → option_and_then as_str (option_map string o) ≡ o
text_of None = refl
text_of (Some text) = refl

flag_of : (o : Option Bool) → option_and_then as_bool (option_map boolean o) ≡ o
flag_of None = refl
flag_of (Some says) = refl

-- ---- of a success

module _ (operation url : Option (List ℕ)) (metadata : Option Data) where
  pub operation_kept : text_at (codes "operation") (object (success_members operation url metadata)) ≡ operation
  operation_kept =
      ap (option_and_then as_str)
      (other_if (codes "operation") (codes "metadata") metadata (with_address operation url) (apart _ _ refl)
      ∙ other_if (codes "operation") (codes "dashboard_url") (option_map string url) (with_operation operation) (apart _ _ refl)
      ∙ same_if (codes "operation") (option_map string operation) no_members refl)
      ∙ text_of operation

  pub address_kept : text_at (codes "dashboard_url") (object (success_members operation url metadata)) ≡ url
  address_kept =
      ap (option_and_then as_str)
      (other_if (codes "dashboard_url") (codes "metadata") metadata (with_address operation url) (apart _ _ refl)
      ∙ same_if (codes "dashboard_url") (option_map string url) (with_operation operation)
      (other_if (codes "dashboard_url") (codes "operation") (option_map string operation) no_members (apart _ _ refl)))
      ∙ text_of url

short_again : (text : List ℕ) → option_and_then if_short (if_short text) ≡ if_short text
short_again text =
    cond_both (nat_le (length (chars text)) longest_operation) _ _ (λ (o : Option (List ℕ)). option_and_then if_short o ≡ o)
    (λ e. rw e refl) (λ _. refl)

short_twice : (b : Bool) (o : Option (List ℕ))
    → option_and_then if_short (cond b (option_and_then if_short o) None) ≡ cond b (option_and_then if_short o) None
short_twice false o = refl
short_twice true None = refl
short_twice true (Some text) = short_again text

pub given_is_short : (status : ℕ) (operation : Option (List ℕ))
    → option_and_then if_short (operation_given status operation) ≡ operation_given status operation
given_is_short status operation = short_twice (status == 202) operation

module _ (status : ℕ) (d : Data) where
  abbrev Succeeds : ℕ → Type 0
  Succeeds s = answer_of_object Provision s (Some d) ≡ Some record { status = s; body = Empty }

  success_by : (b200 b201 b202 : Bool) → (status == 200) ≡ b200 → (status == 201) ≡ b201 → (status == 202) ≡ b202
      → is_success status ≡ true → Succeeds status
  success_by true b201 b202 h200 h201 h202 h = subst Succeeds (sym (eqb-true status 200 h200)) refl
  success_by false true b202 h200 h201 h202 h = subst Succeeds (sym (eqb-true status 201 h201)) refl
  success_by false false true h200 h201 h202 h = subst Succeeds (sym (eqb-true status 202 h202)) refl
  success_by false false false h200 h201 h202 h =
      let none : is_success status ≡ false = rw (h200, h201, h202) refl in
      absurd (true≢false (sym h ∙ none))

  pub success_answer : is_success status ≡ true → Succeeds status
  success_answer = success_by (status == 200) (status == 201) (status == 202) refl refl refl

-- ---- of a failure

depth_at : (o : Ordering) (k l : List ℕ) (d e : Data) (ms : Members)
    → members_depth (put k d ms) ≤ max (depth d) (members_depth ms)
    → members_depth (match_ordering o (member k d (member l e ms)) (member l d ms) (member l e (put k d ms)))
    ≤ max (depth d) (members_depth (member l e ms))
depth_at Less k l d e ms later = omega arith
depth_at Equal k l d e ms later = omega arith
depth_at Greater k l d e ms later = omega (arith, later)

depth_put : (k : List ℕ) (d : Data) (ms : Members) → members_depth (put k d ms) ≤ max (depth d) (members_depth ms)
depth_put k d no_members = omega arith
depth_put k d (member l e ms) = depth_at (slice_cmp nat_cmp k l) k l d e ms (depth_put k d ms)

flag_depth : (k : List ℕ) (o : Option Bool) (ms : Members) → members_depth ms ≤ 0
    → members_depth (put_if k (option_map boolean o) ms) ≤ 0
flag_depth k None ms h = h
flag_depth k (Some says) ms h = omega (arith, h, depth_put k (boolean says) ms)

-- an object that has neither flag, and in which nothing nests
pub record IsPlain (ms : Members) : Type 0 where
  pub flat : members_depth ms ≤ 0
  pub usable : get_member (codes "instance_usable") ms ≡ None
  pub repeatable : get_member (codes "update_repeatable") ms ≡ None

-- the body of an answer, if it has one
abbrev pub IsBody : Option Data → Type 0
IsBody None = Unit {0}
IsBody (Some d) = (ms : Members) × (d ≡ object ms) × IsPlain ms

pub told_body : (status : ℕ) (told : Option (List ℕ)) (body : Body) → IsBody (body_value status None told body)
told_body status told Malformed = tt
told_body status told Empty = (_, refl, record { flat = omega arith; usable = refl; repeatable = refl })
told_body status told (State InProgress) = (_, refl, record { flat = omega arith; usable = refl; repeatable = refl })
told_body status told (State Succeeded) = (_, refl, record { flat = omega arith; usable = refl; repeatable = refl })
told_body status None (State Failed) = (_, refl, record { flat = omega arith; usable = refl; repeatable = refl })
told_body status (Some text) (State Failed) = (_, refl, record { flat = omega arith; usable = refl; repeatable = refl })
told_body status told (Error code) = (_, refl, record { flat = omega arith; usable = refl; repeatable = refl })

module _ (usable repeatable : Option Bool) (ms : Members) where
  other_than_flags : (name : List ℕ) → name ≢ codes "instance_usable" → name ≢ codes "update_repeatable"
      → get_member name (with_flags usable repeatable ms) ≡ get_member name ms
  other_than_flags name not_usable not_repeatable =
      other_if name (codes "update_repeatable") (option_map boolean repeatable)
      (put_if (codes "instance_usable") (option_map boolean usable) ms) not_repeatable
      ∙ other_if name (codes "instance_usable") (option_map boolean usable) ms not_usable

  state_same : get_member (codes "state") (with_flags usable repeatable ms) ≡ get_member (codes "state") ms
  state_same = other_than_flags (codes "state") (apart _ _ refl) (apart _ _ refl)

  error_same : get_member (codes "error") (with_flags usable repeatable ms) ≡ get_member (codes "error") ms
  error_same = other_than_flags (codes "error") (apart _ _ refl) (apart _ _ refl)

  body_same : (kind : Kind) (status : ℕ)
      → body_of_object kind status (object (with_flags usable repeatable ms)) ≡ body_of_object kind status (object ms)
  body_same Provision status = rw error_same refl
  body_same Deprovision status = rw error_same refl
  body_same Poll status = rw (state_same, error_same) refl

  pub answer_same : (kind : Kind) (status : ℕ)
      → answer_of_object kind status (Some (object (with_flags usable repeatable ms)))
      ≡ answer_of_object kind status (Some (object ms))
  answer_same Provision status = rw (body_same Provision status) refl
  answer_same Deprovision status = rw (body_same Deprovision status) refl
  answer_same Poll status = rw (body_same Poll status) refl

  pub flags_depth : IsPlain ms → depth (object (with_flags usable repeatable ms)) ≤ max_depth
  flags_depth plain =
      let first = flag_depth (codes "instance_usable") usable ms plain.flat in
      let both = flag_depth (codes "update_repeatable") repeatable (put_if (codes "instance_usable") (option_map boolean usable) ms) first in
      omega (arith, both)

  pub usable_kept : IsPlain ms → flag_at (codes "instance_usable") (object (with_flags usable repeatable ms)) ≡ usable
  usable_kept plain =
      ap (option_and_then as_bool)
      (other_if (codes "instance_usable") (codes "update_repeatable") (option_map boolean repeatable)
      (put_if (codes "instance_usable") (option_map boolean usable) ms) (apart _ _ refl)
      ∙ same_if (codes "instance_usable") (option_map boolean usable) ms plain.usable)
      ∙ flag_of usable

  pub repeatable_kept : IsPlain ms → flag_at (codes "update_repeatable") (object (with_flags usable repeatable ms)) ≡ repeatable
  repeatable_kept plain =
      ap (option_and_then as_bool)
      (same_if (codes "update_repeatable") (option_map boolean repeatable)
      (put_if (codes "instance_usable") (option_map boolean usable) ms)
      (other_if (codes "update_repeatable") (codes "instance_usable") (option_map boolean usable) ms (apart _ _ refl)
      ∙ plain.repeatable))
      ∙ flag_of repeatable

module _ (a : Answer) (told : Option (List ℕ)) (usable repeatable : Option Bool) (text : List ℕ) (d made : Data)
    (utf8 : IsUtf8 text) (value : Some d ≡ body_value a.status None told a.body)
    (is_made : made ≡ flagged usable repeatable d) (reads : depth made ≤ max_depth → read text ≡ Some made)
  where
    body : IsBody (Some d)
    body = subst IsBody (sym value) (told_body a.status told a.body)

    made_is : made ≡ object (with_flags usable repeatable body.0)
    made_is = is_made ∙ ap (flagged usable repeatable) body.1

    object_is : object_in text ≡ Some (object (with_flags usable repeatable body.0))
    object_is =
        ap (option_and_then if_object)
        (value_in_text text utf8
        ∙ reads (subst (λ (m : Data). depth m ≤ max_depth) (sym made_is) (flags_depth usable repeatable body.0 body.2))
        ∙ ap Some made_is)

    pub failure_whole : object_in text ≡ failure_value a told usable repeatable
    failure_whole =
        object_is ∙ ap (λ (e : Data). Some (flagged usable repeatable e)) (sym body.1)
        ∙ ap (option_map (flagged usable repeatable)) value

    pub failure_answer : (kind : Kind) → answer_of_object kind a.status (body_value a.status None told a.body) ≡ Some a
        → answer_in kind a.status text ≡ Some a
    failure_answer kind carried =
        ap (answer_of_object kind a.status) object_is ∙ answer_same usable repeatable body.0 kind a.status
        ∙ ap (λ (e : Data). answer_of_object kind a.status (Some e)) (sym body.1)
        ∙ ap (answer_of_object kind a.status) value ∙ carried

    pub failure_usable : flag_in (codes "instance_usable") text ≡ usable
    failure_usable =
        ap (option_and_then (flag_at (codes "instance_usable"))) object_is ∙ usable_kept usable repeatable body.0 body.2

    pub failure_repeatable : flag_in (codes "update_repeatable") text ≡ repeatable
    failure_repeatable =
        ap (option_and_then (flag_at (codes "update_repeatable"))) object_is ∙ repeatable_kept usable repeatable body.0 body.2

module _ (status : ℕ) (operation url metadata : Option (List ℕ)) (text : List ℕ) (made : Data) (utf8 : IsUtf8 text)
    (is_made : made ≡ success_value status operation url metadata) (reads : depth made ≤ max_depth → read text ≡ Some made)
    (shallow : CanBeRead (success_value status operation url metadata))
  where
    pub success_whole : object_in text ≡ Some (success_value status operation url metadata)
    success_whole =
        ap (option_and_then if_object)
        (value_in_text text utf8 ∙ reads (subst (λ (m : Data). depth m ≤ max_depth) (sym is_made) shallow) ∙ ap Some is_made)

    pub success_told : is_success status ≡ true
        → answer_in Provision status text ≡ Some record { status = status; body = Empty }
    success_told h =
        ap (answer_of_object Provision status) success_whole
        ∙ success_answer status (success_value status operation url metadata) h

    pub success_operation : operation_in text ≡ operation_given status operation
    success_operation =
        ap (option_and_then operation_at) success_whole
        ∙ ap (option_and_then if_short) (operation_kept (operation_given status operation) url (metadata_in metadata))
        ∙ given_is_short status operation

    pub success_address : text_in (codes "dashboard_url") text ≡ url
    success_address =
        ap (option_and_then (text_at (codes "dashboard_url"))) success_whole
        ∙ address_kept (operation_given status operation) url (metadata_in metadata)
