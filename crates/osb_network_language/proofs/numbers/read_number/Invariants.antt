-- The digits that are left, after the number so far, are all digits.
use Rattle.std.proofs.Common.{◌≡◌, length}
use Rattle.osb_network_language.specs.Numbers.{number_from}
use Rattle.osb_network_language.proofs.numbers.read_number.Given as goal

abbrev pub invariant-loop-rest : goal.invariant-loop-rest
invariant-loop-rest l = number_from l.number l.rest ≡ number_from 0 l.word

abbrev pub decreases-loop-rest : goal.decreases-loop-rest
decreases-loop-rest l = length l.rest
