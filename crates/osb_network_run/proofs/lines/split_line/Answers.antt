-- The text is split at its first line feed, or has none.
use Rattle.std.proofs.Common.{◌≡◌, ◌<◌, ◌+◌, ◌∷◌, length, take, drop, sym, ap, ◌∙◌, subst, arith, eqb, false}
use Rattle.std.proofs.lemmas.Bool.Decides.{nat_tests}
use Rattle.std.proofs.lemmas.List.{take_all, take_rest}
use Rattle.osb_language.proofs.Splitting.{nil_of_length}
use Rattle.osb_lines.specs.Lines.{ended_lines, lines}
use Rattle.osb_lines.proofs.Cutting.{cut_at, held_line, lines_at_feed, unended_before}
use Rattle.osb_network_run.proofs.lines.split_line.Goals as goal

pub returns-in-Some-clause-line : goal.returns-in-Some-clause-line
returns-in-Some-clause-line c =
    let text = c.args.text.now in
    let feed = c.in-Some.feed in
    let first = unended_before text feed (λ k below. c.in-Some.ensures.0.before k (omega arith) below) in
    ap lines (sym (cut_at text feed c.in-Some.ensures.0.high c.in-Some.ensures.1))
    ∙ lines_at_feed (take feed text) (drop (feed + 1) text) first
    ∙ ap (λ rest. take feed text ∷ lines rest) (sym (take_rest text (feed + 1)))

pub returns-in-None-clause-line : goal.returns-in-None-clause-line
returns-in-None-clause-line c =
    let text = c.args.text.now in
    let test : eqb (length text) 0 ≡ false = sym c.is_empty.ensures ∙ c.if-is_empty.false in
    let some : 0 < length text = grind (arith, nat_tests) in
    let whole = take_all (length text) text (omega arith) in
    let unended : ended_lines text ≡ 0 = subst (λ all. ended_lines all ≡ 0) whole
    (unended_before text (length text) (λ k below. c.in-None.ensures k (omega arith) below)) in
    let front = c.split_at.ensures.front ∙ whole in
    let short = c.split_at.ensures.back_len in
    let none : length c.split_at.result.1.now ≡ 0 = omega arith in
    let back = nil_of_length c.split_at.result.1.now none in
    held_line text some unended ∙ (λ i. sym front i ∷ lines (sym back i))
