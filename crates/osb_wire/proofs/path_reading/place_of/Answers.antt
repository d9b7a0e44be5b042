use Rattle.std.proofs.Common.{ℕ, ◌==◌, length, sym, arith, rules}
use Rattle.std.proofs.lemmas.List.Sums.{position_or_len_is}
use Rattle.osb_wire.proofs.path_reading.place_of.Goals as goal

pub returns-in-Some-clause-place : goal.returns-in-Some-clause-place
returns-in-Some-clause-place c =
    sym (position_or_len_is (λ (b : ℕ). b == c.args.byte) c.args.text.now c.in-Some.place 0 (search rules) (search rules)
    (search rules))

pub returns-in-None-clause-place : goal.returns-in-None-clause-place
returns-in-None-clause-place c =
    sym (position_or_len_is (λ (b : ℕ). b == c.args.byte) c.args.text.now (length c.args.text.now) 0 (omega arith)
    (search rules) (search rules))
