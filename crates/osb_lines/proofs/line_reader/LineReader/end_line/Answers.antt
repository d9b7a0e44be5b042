-- A line feed ends the line that its last part makes whole.
use Rattle.std.proofs.Common.{false, ◌≡◌, ◌+◌, ◌<◌, ◌∷◌, ◌++◌, length, length-take, refl, sym, subst, arith}
use Rattle.std.proofs.lemmas.Result.{on_ok_weaker, IfErr-weaker}
use Rattle.osb_language.proofs.Splitting.{nil_of_length}
use Rattle.osb_lines.specs.Reading.{with_line, RefusesAt, HasReadAs}
use Rattle.osb_lines.specs.Sink.{IsLineFault}
use Rattle.osb_lines.specs.Schedule.{said_fault}
use Rattle.osb_lines.specs.Limits.{most_lines}
use Rattle.osb_lines.proofs.Reading.{on_ok_both, held_more, held_whole, good_feed, refused_feed}
use Rattle.osb_lines.proofs.line_reader.LineReader.end_line.Goals as goal

pub returns-then-self-eq0-clause-good : goal.returns-then-self-eq0-clause-good
returns-then-self-eq0-clause-good g c = λ bytes ended so_far.
    let old = c.args.self.now in
    let part = c.args.part.now in
    let (few, room) = c.in_ok-judge_part.ensures.room in
    let empty : length old.held ≡ 0 = rw (← c.self.view_is) (simp length-take (omega arith)) in
    let line = held_whole g.S.Sink.has_taken bytes part old ended so_far few c.requires.unended room (nil_of_length old.held empty) in
    on_ok_weaker c.take_in_place.result
    (λ given. (
      part,
      good_feed g.S.Sink.has_taken (bytes ++ part) (with_line old part) c.take_in_place.new.self ended line few
          given.0.0 given.0.1 given.1.0 given.1.1,
    ))
    (on_ok_both _ _ c.take_in_place.result (c.take_in_place.ensures.good ended so_far.took so_far.number) c.take_in_place.ensures.next)

pub returns-then-self-eq0-clause-refused : goal.returns-then-self-eq0-clause-refused
returns-then-self-eq0-clause-refused g c = λ bytes more (ended, so_far).
    let old = c.args.self.now in
    let part = c.args.part.now in
    let (few, room) = c.in_ok-judge_part.ensures.room in
    let empty : length old.held ≡ 0 = rw (← c.self.view_is) (simp length-take (omega arith)) in
    let line = held_whole g.S.Sink.has_taken bytes part old ended so_far few c.requires.unended room (nil_of_length old.held empty) in
    IfErr-weaker c.take_in_place.result (IsLineFault (old.ended + 1) (said_fault ended part))
    (RefusesAt old.ended (bytes ++ part ++ 10 ∷ more) false)
    (λ fault own. refused_feed g.S.Sink.has_taken (bytes ++ part) more (with_line old part) ended fault line few own)
    (c.take_in_place.ensures.refused ended so_far.took)

pub returns-clause-good : goal.returns-clause-good
returns-clause-good g c = λ bytes ended so_far.
    let old = c.args.self.now in
    let part = c.args.part.now in
    let (few, room) = c.in_ok-judge_part.ensures.room in
    let line = subst (λ reader. HasReadAs g.S.Sink.has_taken (bytes ++ part) reader ended) (sym c.append.ensures.held)
    (held_more g.S.Sink.has_taken bytes part old ended so_far few c.requires.unended room) in
    let late : c.append.new.self.ended < most_lines = rw c.append.ensures.held few in
    on_ok_weaker c.take_held.result
    (λ given. (
      c.append.new.self.held,
      good_feed g.S.Sink.has_taken (bytes ++ part) c.append.new.self c.take_held.new.self ended line late given.0.0
          given.0.1 given.1.0 given.1.1,
    ))
    (on_ok_both _ _ c.take_held.result (c.take_held.ensures.good ended line.took line.number) c.take_held.ensures.next)

pub returns-clause-refused : goal.returns-clause-refused
returns-clause-refused g c = λ bytes more (ended, so_far).
    let old = c.args.self.now in
    let part = c.args.part.now in
    let (few, room) = c.in_ok-judge_part.ensures.room in
    let line = subst (λ reader. HasReadAs g.S.Sink.has_taken (bytes ++ part) reader ended) (sym c.append.ensures.held)
    (held_more g.S.Sink.has_taken bytes part old ended so_far few c.requires.unended room) in
    let late : c.append.new.self.ended < most_lines = rw c.append.ensures.held few in
    let same : c.append.new.self.ended ≡ old.ended = rw c.append.ensures.held refl in
    IfErr-weaker c.take_held.result
    (IsLineFault (c.append.new.self.ended + 1) (said_fault ended c.append.new.self.held))
    (RefusesAt old.ended (bytes ++ part ++ 10 ∷ more) false)
    (λ fault own. subst (λ n. RefusesAt n (bytes ++ part ++ 10 ∷ more) false fault) same
    (refused_feed g.S.Sink.has_taken (bytes ++ part) more c.append.new.self ended fault line late own))
    (c.take_held.ensures.refused ended line.took)
