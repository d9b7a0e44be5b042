-- The end of the input ends the held line, if there is one.
use Rattle.std.proofs.Common.{◌≡◌, ◌<◌, arith, sym, ◌∙◌, length, inl, inr}
use Rattle.std.proofs.lemmas.Bool.{cases_lt, false≢true}
use Rattle.std.proofs.lemmas.Result.{err_from_is_err_and}
use Rattle.osb_lines.proofs.Reading.{none_held, last_good, refused_end}
use Rattle.osb_lines.proofs.line_reader.LineReader.take_last.Goals as goal

pub returns-then-not-holds-clause-good : goal.returns-then-not-holds-clause-good
returns-then-not-holds-clause-good g c = λ bytes ended so_far.
    let held = c.args.self.now.held in
    let empty : length held ≡ 0 = elim (cases_lt 0 (length held)) [
      | inl some ↦ absurd (false≢true (sym c.if-not-holds.true ∙ c.holds.ensures.holds.1 some))
      | inr none ↦ omega arith
    ] in
    none_held g.S.Sink.has_taken bytes c.args.self.now ended so_far empty

pub returns-in_err-take_held-clause-refused : goal.returns-in_err-take_held-clause-refused
returns-in_err-take_held-clause-refused g c = λ bytes (ended, so_far).
    let p = err_from_is_err_and c.from_residual.result c.from_residual.ensures.1 in
    let some : 0 < length c.args.self.now.held = c.holds.ensures.holds.0 c.if-not-holds.false in
    rw (p.1, p.2) (refused_end g.S.Sink.has_taken bytes c.args.self.now ended _ so_far some
    (c.in_err-take_held.ensures.refused ended so_far.took))

pub returns-clause-good : goal.returns-clause-good
returns-clause-good g c = λ bytes ended so_far.
    let some : 0 < length c.args.self.now.held = c.holds.ensures.holds.0 c.if-not-holds.false in
    let good = c.in_ok-take_held.ensures.good ended so_far.took so_far.number in
    last_good g.S.Sink.has_taken bytes c.args.self.now ended c.take_held.new.self.sink so_far some good.0 good.1
