use Rattle.std.proofs.Common.{◌<◌, ◌^◌, ◌∙◌, ap, arith}
use Rattle.osb_message.specs.IdText.{id_of_lower}
use Rattle.osb_message.proofs.IdLemmas.{same_text, lower_reads}
use Rattle.osb_message.proofs.ids.Id.text_in.Goals as goal

pub returns-clause-text : goal.returns-clause-text
returns-clause-text g c = let same = same_text c.args.self.now in cc

pub returns-clause-reads : goal.returns-clause-reads
returns-clause-reads g c =
    let fits : c.args.self.now < 2 ^ 128 = omega arith in
    ap id_of_lower (returns-clause-text g c) ∙ lower_reads c.args.self.now fits
