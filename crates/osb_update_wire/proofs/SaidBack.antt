-- What is said of an instance comes back from the text that is written of it.
use Rattle.std.proofs.Common.{◌≡◌, ◌≢◌, ℕ, ◌<◌, ◌^◌, ◌==◌, Bool, true, false, not, cond, List, Option, None, Some, IsUtf8, bytes_eq, length, refl, ap, ◌∙◌, arith, rules}
use Rattle.std.specs.Prelude.{codes, nat_lt, option_map, option_and_then}
use Rattle.std.specs.Char.{is_ascii_digit}
use Rattle.std.specs.Fmt.{decimal}
use Rattle.std.specs.List.{list_all}
use Rattle.std.specs.Str.{is_utf8}
use Rattle.std.specs.Str.Parse.{digits_value}
use Rattle.std.proofs.lemmas.Bool.{ne_eqb}
use Rattle.std.proofs.lemmas.Bool.Decides.{nat_tests}
use Rattle.std.proofs.lemmas.Fmt.{digits_decimal, digits_value-decimal, decimal_nonempty}
use Rattle.std.proofs.lemmas.Str.Parse.{IsNumeralModel, numerals_by_value}
use Rattle.json.specs.Find.{get_member, later_or, as_str}
use Rattle.json.specs.Json.{Json, string, Members, no_members, document}
use Rattle.json.specs.Tree.{HasNumbers, MembersHaveNumbers}
use Rattle.json.proofs.Numbered.{document-HasNumbers}
use Rattle.json.proofs.Printed.Decimals.{IsNumber-decimal}
use Rattle.json.proofs.Printed.Trees.{document-print}
use Rattle.osb_wire.specs.HeaderValues.{is_number, seconds_in}
use Rattle.osb_wire.specs.JsonTexts.{json_in}
use Rattle.osb_wire.proofs.JsonBodies.{json_text}
use Rattle.osb_update_wire.specs.Patches.{number_at, if_positive, if_object, object_in}
use Rattle.osb_update_wire.specs.Said.{Said, value_if, with_if, version_object, number_value, decimal_number, from_number, from_service, from_plan, from_parameters, from_metadata, from_version, from_address, members_of, object_of, said_text, CanBeRead}
use Rattle.osb_update_wire.specs.Versions.{text_at, version_at}

-- ---- each number's text is a number

abbrev pub HasNumbersIf : Option Json → Type 0
HasNumbersIf None = Unit {0}
HasNumbersIf (Some j) = HasNumbers j

numbers_in : (text : List ℕ) (j : Json) → json_in text ≡ Some j → HasNumbers j
unfolding json_in
numbers_in text j =
    elim (is_utf8 text) as (λ b. cond b (document text) None ≡ Some j → HasNumbers j) [
      | true ↦ λ e. document-HasNumbers text j e
      | false ↦ λ e. absurd (cc)
    ]

value_by : (text : List ℕ) (o : Option Json) → json_in text ≡ o → HasNumbersIf o
value_by text None e = tt
value_by text (Some j) e = numbers_in text j e

pub value_has : (text : Option (List ℕ)) → HasNumbersIf (value_if text)
value_has None = tt
value_has (Some text) = value_by text (json_in text) refl

string_has : (o : Option (List ℕ)) → HasNumbersIf (option_map string o)
string_has None = tt
string_has (Some text) = tt

version_has : (o : Option (List ℕ)) → HasNumbersIf (option_map version_object o)
version_has None = tt
version_has (Some text) = (tt, tt)

number_by : (n : ℕ) (zero : Bool) → n < 2 ^ 64 → HasNumbersIf (cond zero None (Some (decimal_number n)))
number_by n true h = tt
number_by n false h = IsNumber-decimal n h

with_has : (name : List ℕ) (o : Option Json) (ms : Members) → HasNumbersIf o → MembersHaveNumbers ms
    → MembersHaveNumbers (with_if name o ms)
with_has name None ms h hs = hs
with_has name (Some j) ms h hs = (h, hs)

pub said_has : (s : Said) → HasNumbersIf s.context → HasNumbersIf s.metadata → HasNumbersIf s.parameters
    → s.number < 2 ^ 64 → HasNumbers (object_of s)
said_has s context metadata parameters small =
    with_has (codes "context") s.context (from_address s) context
    (with_has (codes "dashboard_url") (option_map string s.dashboard_url) (from_version s) (string_has s.dashboard_url)
    (with_has (codes "maintenance_info") (option_map version_object s.version) (from_metadata s) (version_has s.version)
    (with_has (codes "metadata") s.metadata (from_parameters s) metadata
    (with_has (codes "parameters") s.parameters (from_plan s) parameters
    (with_has (codes "plan_id") (option_map string s.plan) (from_service s) (string_has s.plan)
    (with_has (codes "service_id") (Some (string s.service)) (from_number s) tt
    (with_has (codes "x-osb-update") (number_value s.number) no_members (number_by s.number (s.number == 0) small) tt)))))))

-- ---- the object comes back

pub object_back : (s : Said) (text : List ℕ) → IsUtf8 text → text ≡ said_text s → HasNumbers (object_of s) → CanBeRead s
    → json_in text ≡ Some (object_of s)
object_back s text utf8 is numbers shallow =
    json_text text utf8 ∙ ap document is ∙ document-print (object_of s) numbers shallow

pub whole_back : (s : Said) (text : List ℕ) → json_in text ≡ Some (object_of s) → object_in text ≡ Some (object_of s)
whole_back s text h = ap (option_and_then if_object) h

-- ---- and its members

later_none : (o : Option Json) → later_or o None ≡ o
later_none None = refl
later_none (Some j) = refl

other : (name k : List ℕ) (o : Option Json) (ms : Members) → bytes_eq k name ≡ false
    → get_member name (with_if k o ms) ≡ get_member name ms
other name k None ms h = refl
other name k (Some j) ms h = rw h (later_none (get_member name ms))

same : (k : List ℕ) (o : Option Json) (ms : Members) → bytes_eq k k ≡ true → get_member k ms ≡ None
    → get_member k (with_if k o ms) ≡ o
same k None ms is none = none
same k (Some j) ms is none = rw (none, is) refl

string_of : (o : Option (List ℕ)) → option_and_then as_str (option_map string o) ≡ o
string_of None = refl
string_of (Some text) = refl

version_of : (o : Option (List ℕ)) → option_and_then (text_at (codes "version")) (option_map version_object o) ≡ o
version_of None = refl
version_of (Some text) = refl

module _ (s : Said) where
  abbrev under : List ℕ → Option Json
  under name = get_member name (members_of s)

  to_version : (name : List ℕ) → bytes_eq (codes "context") name ≡ false → bytes_eq (codes "dashboard_url") name ≡ false
      → under name ≡ get_member name (from_version s)
  to_version name a b =
      other name (codes "context") s.context (from_address s) a
      ∙ other name (codes "dashboard_url") (option_map string s.dashboard_url) (from_version s) b

  to_parameters : (name : List ℕ) → bytes_eq (codes "maintenance_info") name ≡ false → bytes_eq (codes "metadata") name ≡ false
      → get_member name (from_version s) ≡ get_member name (from_parameters s)
  to_parameters name a b =
      other name (codes "maintenance_info") (option_map version_object s.version) (from_metadata s) a
      ∙ other name (codes "metadata") s.metadata (from_parameters s) b

  pub number_under : under (codes "x-osb-update") ≡ number_value s.number
  number_under =
      let name = codes "x-osb-update" in
      to_version name refl refl ∙ to_parameters name refl refl
      ∙ other name (codes "parameters") s.parameters (from_plan s) refl
      ∙ other name (codes "plan_id") (option_map string s.plan) (from_service s) refl
      ∙ other name (codes "service_id") (Some (string s.service)) (from_number s) refl
      ∙ same name (number_value s.number) no_members refl refl

  after_service : (name : List ℕ) → bytes_eq (codes "x-osb-update") name ≡ false → get_member name (from_number s) ≡ None
  after_service name a = other name (codes "x-osb-update") (number_value s.number) no_members a

  pub service_under : text_at (codes "service_id") (object_of s) ≡ Some s.service
  service_under =
      let name = codes "service_id" in
      ap (option_and_then as_str)
      (to_version name refl refl ∙ to_parameters name refl refl
      ∙ other name (codes "parameters") s.parameters (from_plan s) refl
      ∙ other name (codes "plan_id") (option_map string s.plan) (from_service s) refl
      ∙ same name (Some (string s.service)) (from_number s) refl (after_service name refl))

  after_plan : (name : List ℕ) → bytes_eq (codes "service_id") name ≡ false → bytes_eq (codes "x-osb-update") name ≡ false
      → get_member name (from_service s) ≡ None
  after_plan name a b =
      other name (codes "service_id") (Some (string s.service)) (from_number s) a ∙ after_service name b

  pub plan_under : under (codes "plan_id") ≡ option_map string s.plan
  plan_under =
      let name = codes "plan_id" in
      to_version name refl refl ∙ to_parameters name refl refl
      ∙ other name (codes "parameters") s.parameters (from_plan s) refl
      ∙ same name (option_map string s.plan) (from_service s) refl (after_plan name refl refl)

  pub plan_text : text_at (codes "plan_id") (object_of s) ≡ s.plan
  plan_text = ap (option_and_then as_str) plan_under ∙ string_of s.plan

  pub parameters_under : under (codes "parameters") ≡ s.parameters
  parameters_under =
      let name = codes "parameters" in
      to_version name refl refl ∙ to_parameters name refl refl
      ∙ same name s.parameters (from_plan s) refl
      (other name (codes "plan_id") (option_map string s.plan) (from_service s) refl ∙ after_plan name refl refl)

  pub version_under : version_at (object_of s) ≡ s.version
  version_under =
      let name = codes "maintenance_info" in
      ap (option_and_then (text_at (codes "version")))
      (to_version name refl refl
      ∙ same name (option_map version_object s.version) (from_metadata s) refl
      (other name (codes "metadata") s.metadata (from_parameters s) refl
      ∙ other name (codes "parameters") s.parameters (from_plan s) refl
      ∙ other name (codes "plan_id") (option_map string s.plan) (from_service s) refl ∙ after_plan name refl refl))
      ∙ version_of s.version

-- ---- a number comes back from its digits

own : IsNumeralModel (λ ds. list_all is_ascii_digit ds ≡ true) (digits_value 10)
own = numerals_by_value _ (search rules)

below : (n m : ℕ) → n < m → nat_lt n m ≡ true
below n m h = grind (arith, nat_tests)

some : (n : ℕ) → 0 < n → not (n == 0) ≡ true
some n h = grind (arith, nat_tests)

is_number_decimal : (n : ℕ) → n < 2 ^ 64 → is_number (decimal n) ≡ true
is_number_decimal n h = rw (some (length (decimal n)) (decimal_nonempty n h), digits_decimal own n h) refl

pub seconds_back : (n : ℕ) → n < 2 ^ 64 → seconds_in (decimal n) ≡ Some n
seconds_back n h = rw (is_number_decimal n h, digits_value-decimal own n h, below n (2 ^ 64) h) refl

pub number_back : (n : ℕ) → n ≢ 0 → n < 2 ^ 64 → number_at (decimal_number n) ≡ Some n
number_back n there h = ap (option_and_then if_positive) (seconds_back n h) ∙ rw (ne_eqb n 0 there) refl

pub number_value_back : (n : ℕ) → n ≢ 0 → number_value n ≡ Some (decimal_number n)
number_value_back n there = rw (ne_eqb n 0 there) refl
