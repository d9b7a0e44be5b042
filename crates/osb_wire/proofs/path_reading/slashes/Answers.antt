use Rattle.std.proofs.Common.{ℕ, ◌==◌, not, length, sym, arith, rules}
use Rattle.std.proofs.lemmas.List.Sums.{position_or_len_is}
use Rattle.osb_wire.proofs.path_reading.slashes.Goals as goal

pub returns-in-Some-clause-slashes : goal.returns-in-Some-clause-slashes
returns-in-Some-clause-slashes c =
    sym (position_or_len_is (λ (b : ℕ). not (b == 47)) c.args.path.now c.in-Some.place 0 (search rules) (search rules)
    (search rules))

pub returns-in-None-clause-slashes : goal.returns-in-None-clause-slashes
returns-in-None-clause-slashes c =
    sym (position_or_len_is (λ (b : ℕ). not (b == 47)) c.args.path.now (length c.args.path.now) 0 (omega arith)
    (search rules) (search rules))
