-- Blanks before a line make no words.
use Rattle.std.proofs.Common.{◌≡◌, length}
use Rattle.osb_language.specs.Words.{words_in}
use Rattle.osb_language.proofs.words.skip_blanks.Given as goal

abbrev pub invariant-loop-rest : goal.invariant-loop-rest
invariant-loop-rest l = words_in l.rest ≡ words_in l.line

abbrev pub decreases-loop-rest : goal.decreases-loop-rest
decreases-loop-rest l = length l.rest
