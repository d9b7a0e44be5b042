-- A part comes too late, or makes the line too long.
use Rattle.std.proofs.Common.{◌≡◌, ◌+◌, ◌<◌, ◌++◌, refl, append_assoc, length, rules}
use Rattle.osb_language.specs.Limits.{longest_line}
use Rattle.osb_lines.specs.Limits.{most_lines}
use Rattle.osb_lines.proofs.Reading.{refused_long, refused_many}
use Rattle.osb_lines.proofs.line_reader.LineReader.judge_part.Goals as goal

pub returns-then-is_full-clause-refused : goal.returns-then-is_full-clause-refused
returns-then-is_full-clause-refused g c = λ bytes more so_far some.
    let all : c.args.self.now.ended ≡ most_lines = c.is_full.ensures.full c.if-is_full.true in
    rw c.refusal.ensures.line (
      refl,
      rw (append_assoc bytes c.args.part.now more)
          (refused_many g.S.Sink.has_taken bytes (c.args.part.now ++ more) c.args.self.now so_far all some),
    )

pub returns-then-not-fits-clause-refused : goal.returns-then-not-fits-clause-refused
returns-then-not-fits-clause-refused g c = λ bytes more so_far some.
    let few = c.is_full.ensures.room c.if-is_full.false in
    let long : longest_line < length c.args.self.now.held + length c.args.part.now = search rules in
    rw c.refusal-then-not-fits.ensures.line (
      refl,
      refused_long g.S.Sink.has_taken bytes c.args.part.now more c.args.self.now so_far few c.requires.unended
          long,
    )
