-- The first byte after the blanks tells a comment from other lines.
use Rattle.std.proofs.Common.{sym, ap, ◌∙◌}
use Rattle.osb_language.specs.Language.{spelled}
use Rattle.osb_language.specs.Words.{words_in}
use Rattle.osb_language.proofs.Splitting.{spelled_comment, spelled_plain}
use Rattle.osb_language.proofs.line.read_words.Goals as goal

pub returns-then-begins_comment : goal.returns-then-begins_comment
returns-then-begins_comment c =
    let rest = c.skip_blanks-rest.result.now in
    let marked = sym c.begins_comment.ensures.comment ∙ c.if-begins_comment.true in
    record {
      line = sym (spelled_comment rest c.skip_blanks-rest.ensures.begins marked)
          ∙ ap spelled c.skip_blanks-rest.ensures.same;
    }

pub returns-in-Some : goal.returns-in-Some
returns-in-Some c =
    let rest = c.skip_blanks-rest.result.now in
    let first = c.in-Some.first.now in
    let words = words_in c.in-Some.words.now in
    let other = sym c.begins_comment.ensures.comment ∙ c.if-begins_comment.false in
    record {
      line = c.read_spelled.ensures.line
          ∙ sym (spelled_plain rest first words c.skip_blanks-rest.ensures.begins other c.in-Some.ensures.words)
          ∙ ap spelled c.skip_blanks-rest.ensures.same;
    }
