-- What is read is the option's value, or false where it has none.
use Rattle.clap.specs.Words.{found_of}
use Rattle.osb_words.proofs.Flags.{flag_some, flag_none}
use Rattle.osb_words.proofs.command_line.read_flag.Goals as goal

pub returns-in-Some : goal.returns-in-Some
returns-in-Some c =
    record {
      value = flag_some (found_of c.args.matches.now) c.args.name.now c.in-Some.value c.in-Some.ensures.value
          c.in-Some.ensures.none;
    }

pub returns-in-None : goal.returns-in-None
returns-in-None c =
    record {
      value = flag_none (found_of c.args.matches.now) c.args.name.now (λ t e. (c.in-None.ensures.value t e).1.0);
    }
