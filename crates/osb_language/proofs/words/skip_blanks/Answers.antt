-- The blank that is passed makes no word.
use Rattle.std.proofs.Common.{◌≡◌, ◌<◌, length, ap, sym, ◌∙◌, arith, false, eqb}
use Rattle.std.proofs.lemmas.Bool.Decides.{nat_tests}
use Rattle.std.proofs.lemmas.List.{take_rest}
use Rattle.osb_language.specs.Words.{words_in}
use Rattle.osb_language.proofs.Splitting.{words-drop}
use Rattle.osb_language.proofs.words.skip_blanks.Goals as goal

pub loop-rest-preserved : goal.loop-rest-preserved
loop-rest-preserved c =
    let rest = c.loop-rest.rest.now in
    let test : eqb (length rest) 0 ≡ false = sym c.is_empty.ensures ∙ c.loop-rest-test.true in
    let some : 0 < length rest = grind (arith, nat_tests) in
    ap words_in (take_rest rest 1) ∙ words-drop rest some (sym c.is_blank.ensures.blank ∙ c.if-is_blank.true)
    ∙ c.loop-rest.invariant
