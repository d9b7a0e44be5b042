-- The first word comes without a space, and in the end no word is left.
use Rattle.std.proofs.Common.{◌++◌, sym, ap, ◌∙◌, append_assoc, append-nil}
use Rattle.osb_language.specs.Words.{words_in}
use Rattle.osb_trace.specs.Telling.{joined, spaced}
use Rattle.osb_trace.proofs.line.push_words.Goals as goal

pub loop-word-init : goal.loop-word-init
loop-word-init c =
    let before = c.args.text.now.items in
    let rest = spaced (words_in c.in-Some.after.now) in
    ap (λ text. text ++ rest) c.in_ok-extend_from_slice.ensures.items
    ∙ append_assoc before c.in-Some.first.now rest
    ∙ ap (λ words. before ++ joined words) (sym c.in-Some.ensures.words)

pub returns : goal.returns
returns c =
    let text = c.loop-word.text.items in
    record {
      added = sym (append-nil text)
          ∙ ap (λ words. text ++ spaced words) (sym c.in_default-split_word.ensures.words) ∙ c.loop-word.invariant;
    }
