-- What is told is the reason of the definition, and that is so.
use Rattle.std.proofs.Common.{◌∙◌, subst, sym}
use Rattle.std.specs.Prelude.{Option}
use Rattle.std.specs.Option.{option_map_or}
use Rattle.osb_platform.specs.declared.row.PlatformRow.{PlatformRow}
use Rattle.osb_trace.specs.Reasons.{known_reason, IsReason}
use Rattle.osb_trace.specs.declared.reason.Reason.{Reason}
use Rattle.osb_trace.specs.declared.reason.Reason.TheVariants.{Unknown}
use Rattle.osb_trace.proofs.Skipped.{reason_so}
use Rattle.osb_trace.proofs.reason.reason_of.Goals as goal

pub returns-in-Some-clause-so : goal.returns-in-Some-clause-so
returns-in-Some-clause-so c = λ off spoken.
    let of : Option PlatformRow → Reason = λ held. option_map_or (λ row. known_reason row c.args.event) held Unknown in
    subst (IsReason c.args.cell.now c.args.event) ((λ i. of (c.in-Some.is i)) ∙ sym c.known_reason.ensures.reason)
    (reason_so c.args.cell.now c.args.event off spoken)

pub returns-in-None-clause-so : goal.returns-in-None-clause-so
returns-in-None-clause-so c = λ off spoken.
    let of : Option PlatformRow → Reason = λ held. option_map_or (λ row. known_reason row c.args.event) held Unknown in
    subst (IsReason c.args.cell.now c.args.event) (λ i. of (c.in-None.is i))
    (reason_so c.args.cell.now c.args.event off spoken)
