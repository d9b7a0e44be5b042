-- The words so far and those that are left are all words.
use Rattle.std.proofs.Common.{◌≡◌, ◌++◌, length}
use Rattle.osb_language.specs.Words.{words_in}
use Rattle.osb_trace.specs.Telling.{joined, spaced}
use Rattle.osb_trace.proofs.line.push_words.Given as goal

abbrev pub invariant-loop-word : goal.invariant-loop-word
invariant-loop-word l = l.text.items ++ spaced (words_in l.rest) ≡ l.fn.text.items ++ joined (words_in l.line)

abbrev pub decreases-loop-word : goal.decreases-loop-word
decreases-loop-word l = length (words_in l.rest)
