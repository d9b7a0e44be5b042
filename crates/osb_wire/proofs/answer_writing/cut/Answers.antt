use Rattle.osb_wire.proofs.CutTexts.{cut_padded}
use Rattle.osb_wire.proofs.answer_writing.cut.Goals as goal

pub returns : goal.returns
returns c =
    let h = rw (c.laid_out.ensures, cut_padded) at c.format.ensures.ok in
    record { text = h }
