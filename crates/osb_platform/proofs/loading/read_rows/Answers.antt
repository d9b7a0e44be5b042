use Rattle.std.proofs.Common.{ap, option_map, rules, sym, ◌∙◌}
use Rattle.std.specs.FinMap.{from_entries}
use Rattle.std.proofs.lemmas.Result.{IfOk-weaker}
use Rattle.serde_json.specs.View.{view}
use Rattle.osb_platform.proofs.LoadedRows.{named_rows}
use Rattle.osb_platform.proofs.loading.read_rows.Goals as goal

pub returns-clause-rows : goal.returns-clause-rows
returns-clause-rows c =
    IfOk-weaker c.read_members.result _ _
    (λ rows h. (
      from_entries h.0,
      named_rows c.args.text.now _ _ h.0 (sym c.in-Ok.ensures.value ∙ ap (option_map view) c.in-Some.is) c.in_ok-members.ensures.ok
          (search rules) h.1,
      h.2,
    ))
    c.read_members.ensures.rows
