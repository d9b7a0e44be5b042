use Rattle.std.proofs.Common.{rules, ◌≡◌, ◌∙◌, ap}
use Rattle.std.specs.Prelude.{Option, Some, IfSome, is_some, if◌then◌else◌, option_map, None}
use Rattle.osb_message.specs.declared.messages.Request.{Request}
use Rattle.osb_instance.specs.Held.{IsHeldSound}
use Rattle.osb_instance.specs.declared.digest.Digest.{Digest}
use Rattle.osb_instance.specs.declared.phase.HoldingRow.{HoldingRow}
use Rattle.osb_c_instance.specs.RowNumbers.{row_of}
use Rattle.osb_c_types.specs.Requests.{request_of}
use Rattle.osb_c_instance.proofs.Crosses.{held_crosses, row_crosses, work_crosses}
use Rattle.osb_c_instance.proofs.holdings.held_out.Goals as goal

pub returns-clause-held : goal.returns-clause-held
returns-clause-held c =
    let sound : IsHeldSound c.args.held = search rules in
    held_crosses c.args.held (record {
      row = c.some_row_out.result;
      work = c.some_request_out.result;
      has_row = c.is_some-has_row.result;
      has_work = c.is_some-has_work.result;
      has_tombstone = c.has_tombstone.result;
      attributes = c.attributes.result.bytes;
    }) sound
    (row_crosses c.row-row.result c.some_row_out.result c.is_some-has_row.result c.is_some-has_row.ensures
    c.some_row_out.ensures.row ∙ ap Some c.row-row.ensures.row)
    (work_crosses c.work-work.result c.some_request_out.result c.is_some-has_work.result c.is_some-has_work.ensures
    c.some_request_out.ensures.request ∙ ap Some c.work-work.ensures.work)
    c.has_tombstone.ensures.tombstone c.attributes.ensures.attributes
