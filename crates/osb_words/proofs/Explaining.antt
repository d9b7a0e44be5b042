-- An error of the command explains the fault that it is told as.
use Rattle.std.proofs.Common.{◌≡◌, true, List, [], Option, None, refl, sym, ap, ◌∙◌, inl, inr, ◌⊎◌, subst}
use Rattle.clap.specs.Faults.{fault_of, is_simple_and_free}
use Rattle.clap.specs.Kinds.{HasKind, IsAmong}
use Rattle.clap.specs.Simple.{App, is_simple, subcommand_of}
use Rattle.clap.specs.Values.{kind_of}
use Rattle.clap.specs.Walk.{Row, Text}
use Rattle.clap.specs.declared.error.Error.{Error}
use Rattle.clap.specs.declared.error.kind.ErrorKind.{ErrorKind}
use Rattle.clap.specs.declared.error.kind.ErrorKind.TheVariants.{OutOfMemory}
use Rattle.osb_words.specs.CommandLine.{asked_of, asked_words, command, IsNoHelp, IsTold}
use Rattle.osb_words.specs.CommandLine.{IsWordsFault}
use Rattle.osb_words.specs.declared.command_line.WordsFault.{WordsFault}
use Rattle.osb_words.specs.declared.command_line.WordsFault.TheVariants.{Help, Refused, Memory}

command_is_free : is_simple_and_free command ≡ true
command_is_free = refl

command_is_simple : is_simple command ≡ true
command_is_simple = refl

of_kind : (words : List Text) (kind : ErrorKind) (fault : WordsFault) → IsTold kind fault
    → (kind ≡ OutOfMemory) ⊎ IsAmong kind (fault_of command words) → IsWordsFault words fault
of_kind words kind (Help text) told (inl memory) = cc
of_kind words kind (Help text) told (inr among) = subst (λ k. IsAmong k (fault_of command words)) told among
of_kind words kind (Refused text) told (inl memory) = absurd (told.1 memory)
of_kind words kind (Refused text) told (inr among) = inl (kind, among, told.0)
of_kind words kind Memory told among = tt

-- the command that was made is the one that is meant
pub explained : (made : App) (words : List Text) (e : Error) (fault : WordsFault) → made ≡ command
    → (is_simple_and_free made ≡ true → HasKind (fault_of made words) e) → IsTold (kind_of e) fault
    → IsWordsFault words fault
explained made words e fault is kinds told =
    of_kind words (kind_of e) fault told
    (subst (λ a. HasKind (fault_of a words) e) is (kinds (ap is_simple_and_free is ∙ command_is_free)))

-- words on which the command has no error, and whose matches ask for nothing
pub unasked : (made : App) (words : List Text) (found : Option (Text × List Row)) (R : Type 0) → made ≡ command
    → (is_simple_and_free made ≡ true → fault_of made words ≡ [])
    → (is_simple made ≡ true → R × (found ≡ subcommand_of made words)) → asked_of found ≡ None
    → (fault_of command words ≡ []) × (asked_words words ≡ None)
unasked made words found R is kinds matched nothing = (
  subst (λ a. fault_of a words ≡ []) is (kinds (ap is_simple_and_free is ∙ command_is_free)),
  ap asked_of (sym ((matched (ap is_simple is ∙ command_is_simple)).1 ∙ ap (λ a. subcommand_of a words) is)) ∙ nothing,
)

-- words that ask for nothing are refused
pub refused_unasked : (words : List Text) (fault : WordsFault) → IsNoHelp fault
    → (fault_of command words ≡ []) × (asked_words words ≡ None) → IsWordsFault words fault
refused_unasked words (Help text) none why = absurd none
refused_unasked words (Refused text) none why = inr why
refused_unasked words Memory none why = tt
