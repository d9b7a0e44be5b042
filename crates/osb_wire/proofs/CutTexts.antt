-- A text that is printed with a precision has no more characters.
use Rattle.std.proofs.Common.{◌≡◌, ℕ, ◌-◌, List, ◌++◌, ap, ◌∙◌, arith}
use Rattle.std.specs.Fmt.{padded, take_chars, char_count, fill_text, format_spec}
use Rattle.std.proofs.lemmas.List.{append-nil}

pub cut_padded : (text : List ℕ) → padded (format_spec 32 0 0 0 1000) text ≡ take_chars 1000 text
unfolding padded
cut_padded text =
    let shown = take_chars 1000 text in
    let none : (0 - char_count shown) - 0 ≡ 0 = omega arith in
    ap (λ n. shown ++ fill_text (format_spec 32 0 0 0 1000) n) none ∙ append-nil shown
