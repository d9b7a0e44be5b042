-- What `get_one` says of a flag.
use Rattle.std.proofs.Common.{◌≡◌, Bool, true, false, Option, Some, None, codes, refl, ap, ◌∙◌, is_some, true≢false}
use Rattle.std.specs.Bool.{MatchBool}
use Rattle.std.specs.Option.{option_map_or}
use Rattle.std.specs.Str.{bytes_eq}
use Rattle.std.specs.Str.Parse.{true_text, false_text}
use Rattle.std.proofs.lemmas.Slice.Eq.{bytes_eq-Decides}
use Rattle.clap.specs.Matches.{one_text}
use Rattle.clap.specs.Walk.{Text, rows_of}
use Rattle.clap.specs.declared.parser.matches.Found.{Found}
use Rattle.clap.proofs.WalkLemmas.{one_text-rows}
use Rattle.osb_words.specs.CommandLine.{is_set}

abbrev reads_true : Option Text → Bool
reads_true o = option_map_or (λ t. bytes_eq t (codes "true")) o false

some_case : (o : Option Text) (v : Bool) → ((t : Text) → o ≡ Some t → MatchBool v (t ≡ true_text) (t ≡ false_text))
    → (o ≡ None → Some v ≡ None) → v ≡ reads_true o
some_case None v h none = absurd (true≢false (ap is_some (none refl)))
some_case (Some t) true h none = let is = h t refl in rw is refl
some_case (Some t) false h none = let is = h t refl in rw is refl

not_true : (b : Bool) (t : Text) → bytes_eq t true_text ≡ b → (t ≡ true_text → ⊥) → false ≡ b
not_true true t e other = absurd (other ((bytes_eq-Decides t true_text).0 e))
not_true false t e other = refl

none_case : (o : Option Text) → ((t : Text) → o ≡ Some t → t ≡ true_text → ⊥) → false ≡ reads_true o
none_case None h = refl
none_case (Some t) h = not_true (bytes_eq t true_text) t refl (h t refl)

pub flag_some : (f : Found) (name : Text) (v : Bool)
    → ((t : Text) → one_text f name ≡ Some t → MatchBool v (t ≡ true_text) (t ≡ false_text))
    → (one_text f name ≡ None → Some v ≡ None) → v ≡ is_set name (rows_of f)
flag_some f name v h none = some_case (one_text f name) v h none ∙ ap reads_true (one_text-rows f name)

pub flag_none : (f : Found) (name : Text) → ((t : Text) → one_text f name ≡ Some t → t ≡ true_text → ⊥) → false
    ≡ is_set name (rows_of f)
flag_none f name h = none_case (one_text f name) h ∙ ap reads_true (one_text-rows f name)
