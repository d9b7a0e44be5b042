-- What is read is what the line says.
use Rattle.std.proofs.Common.{◌≡◌, ◌≤◌, length, rules, true, sym, ap, ◌∙◌, arith}
use Rattle.osb_language.specs.Language.{is_ascii, spelled}
use Rattle.osb_language.specs.Words.{words_in}
use Rattle.osb_language.specs.declared.limits.TheConstants.{LONGEST_LINE}
use Rattle.osb_language.proofs.Spelling.{line_of-words, says_iff}
use Rattle.osb_language.proofs.line.read_line.Goals as goal

pub returns-clause-says : goal.returns-clause-says
returns-clause-says c =
    let short : length c.args.line.now ≤ LONGEST_LINE = omega arith in
    let ascii : is_ascii c.args.line.now ≡ true = search rules in
    says_iff c.args.line.now c.read_words.result
    (c.read_words.ensures.line ∙ ap (λ bytes. spelled (words_in bytes)) c.without_carriage_return.ensures.front
    ∙ sym (line_of-words c.args.line.now short ascii))
