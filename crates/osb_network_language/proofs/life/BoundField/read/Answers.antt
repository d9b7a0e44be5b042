-- The word has as many bytes as two ids with a slash between.
use Rattle.std.proofs.Common.{◌≡◌, ◌≤◌, length, take, sym, ap, ◌∙◌, arith}
use Rattle.std.proofs.lemmas.Bool.Decides.{nat_tests}
use Rattle.std.proofs.lemmas.List.{length-take-le, take_rest}
use Rattle.std.specs.Prelude.{slice_index}
use Rattle.osb_network_language.specs.Lives.{pair_of}
use Rattle.osb_network_language.proofs.life.BoundField.read.Goals as goal

pub slice_bounds-read_pair-end : goal.slice_bounds-read_pair-end
slice_bounds-read_pair-end c =
    let test = c.if-word-ne-PAIR_LENGTH.false in
    let long : length c.args.word.now ≡ 73 = grind (arith, nat_tests) in
    let within : 36 ≤ length c.args.word.now = omega arith in
    sym (length-take-le 36 c.args.word.now within)

pub returns : goal.returns
returns c =
    let test = c.if-word-ne-PAIR_LENGTH.false in
    let long : length c.args.word.now ≡ 73 = grind (arith, nat_tests) in
    let word = c.args.word.now in
    let read = c.read_pair.ensures.pair
    ∙ ap (pair_of (take 36 word) (slice_index word 36)) (take_rest word 37) in
    record { field = rw long read }
