-- What stands for the instance is the option's first value.
use Rattle.std.proofs.Common.{◌≡◌, None, Some, ap, codes, sym, ◌∙◌, Bor, ℕ, List}
use Rattle.std.specs.Prelude.{option_map}
use Rattle.clap.proofs.WalkLemmas.{first_value-rows}
use Rattle.clap.specs.Words.{found_of, first_of, rows_of}
use Rattle.osb_words.proofs.command_line.read_instance.Goals as goal
use Rattle.osb_words.specs.CommandLine.{instance_named}

pub returns-in_default : goal.returns-in_default
returns-in_default c =
    let found = found_of c.args.matches.now in
    let none : first_of (codes "instance") (rows_of found) ≡ None =
    sym (first_value-rows found (codes "instance")) ∙ sym c.get_str.ensures
    ∙ ap (option_map (λ (text : Bor (List ℕ)). text.now)) c.in_default.is in
    record { instance = sym (ap instance_named none) }

pub returns-in-Ok : goal.returns-in-Ok
returns-in-Ok c =
    let found = found_of c.args.matches.now in
    let some : first_of (codes "instance") (rows_of found) ≡ Some c.in-Some.text.now =
    sym (first_value-rows found (codes "instance")) ∙ sym c.get_str.ensures
    ∙ ap (option_map (λ (text : Bor (List ℕ)). text.now)) c.in-Some.is in
    record { instance = sym (ap instance_named some ∙ ap (option_map (λ id. Some id)) c.in-Ok.ensures.reads) }

pub returns-in-Err : goal.returns-in-Err
returns-in-Err c =
    let found = found_of c.args.matches.now in
    let some : first_of (codes "instance") (rows_of found) ≡ Some c.in-Some.text.now =
    sym (first_value-rows found (codes "instance")) ∙ sym c.get_str.ensures
    ∙ ap (option_map (λ (text : Bor (List ℕ)). text.now)) c.in-Some.is in
    record { instance = sym (ap instance_named some ∙ ap (option_map (λ id. Some id)) c.in-Err.ensures.reads) }
