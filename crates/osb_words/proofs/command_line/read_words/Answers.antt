-- An error of the command is told as what it is, and words without one that ask for nothing are refused.
use Rattle.std.proofs.Common.{sym}
use Rattle.std.specs.Prelude.{map, string_bytes}
use Rattle.osb_words.proofs.Explaining.{explained, refused_unasked, unasked}
use Rattle.osb_words.proofs.command_line.read_words.Goals as goal

pub returns-clause-fault : goal.returns-clause-fault
returns-clause-fault c =
    explained _ _ c.in-Err.error c.fault_by.result c.in-Ok.ensures.shape c.in-Err.ensures.kinds c.fault_by.ensures.kind

pub returns-in-Ok-try_get_matches_from-clause-fault : goal.returns-in-Ok-try_get_matches_from-clause-fault
returns-in-Ok-try_get_matches_from-clause-fault c =
    refused_unasked (map string_bytes c.args.words.now) c.not_asked.result c.not_asked.ensures.no_help
    (unasked _ _ _ _ c.in-Ok.ensures.shape c.in-Ok-try_get_matches_from.ensures.kinds
    c.in-Ok-try_get_matches_from.ensures.matches (sym c.in-None.ensures.asked))
