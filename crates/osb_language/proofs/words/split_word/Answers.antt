-- The first word is what stands before the first blank, once the blanks in front are passed.
use Rattle.std.proofs.Common.{◌≡◌, ◌<◌, length, sym, ap, ◌∙◌, ◌∷◌, arith, true, false, eqb}
use Rattle.std.proofs.lemmas.Bool.Decides.{nat_tests}
use Rattle.osb_language.specs.Words.{words_in}
use Rattle.osb_language.proofs.Splitting.{nil_of_length, words-none, words-cut}
use Rattle.osb_language.proofs.words.split_word.Goals as goal

pub returns-then-is_empty : goal.returns-then-is_empty
returns-then-is_empty c =
    let rest = c.skip_blanks-rest.result.now in
    let test : eqb (length rest) 0 ≡ true = sym c.is_empty.ensures ∙ c.if-is_empty.true in
    let none : length rest ≡ 0 = grind (arith, nat_tests) in
    record { words = sym c.skip_blanks-rest.ensures.same ∙ ap words_in (nil_of_length rest none) ∙ words-none }

pub returns : goal.returns
returns c =
    let rest = c.skip_blanks-rest.result.now in
    let test : eqb (length rest) 0 ≡ false = sym c.is_empty.ensures ∙ c.if-is_empty.false in
    let some : 0 < length rest = grind (arith, nat_tests) in
    let word = c.word_length.ensures in
    record {
      words = sym c.skip_blanks-rest.ensures.same
          ∙ words-cut rest c.word_length.result some
          (c.skip_blanks-rest.ensures.begins some) word.within word.run word.stop
          ∙ (λ i. sym c.split_at.ensures.front i ∷ words_in (sym c.split_at.ensures.back i));
    }
