use Rattle.std.proofs.Common.{◌≡◌, [], ◌∷◌, ◌++◌, Some, rules, ap, ◌∙◌}
use Rattle.std.specs.Prelude.{codes, option_map}
use Rattle.json.specs.Json.{string}
use Rattle.json.specs.Token.{end_object}
use Rattle.osb_update_wire.specs.Said.{said_of, tokens_if, number_value}
use Rattle.osb_update_wire.proofs.SaidTokens.{ids_tokens}
use Rattle.osb_update_wire.proofs.said.write_ids.Goals as goal

pub returns-clause-ok : goal.returns-clause-ok
returns-clause-ok c =
    let w = c.args.writer.now.tokens in
    let s = said_of c.args.texts.now in
    let plan = tokens_if (codes "plan_id") (option_map string s.plan) in
    let service = tokens_if (codes "service_id") (Some (string s.service)) in
    let number = tokens_if (codes "x-osb-update") (number_value s.number) in
    let first : c.write_string.new.writer.tokens ≡ w ++ plan = search rules in
    let second : c.write_string-2.new.writer.tokens ≡ c.write_string.new.writer.tokens ++ service = search rules in
    let third : c.write_number.new.writer.tokens ≡ c.write_string-2.new.writer.tokens ++ number = search rules in
    let fourth : c.end_object.new.self.tokens ≡ c.write_number.new.writer.tokens ++ end_object ∷ [] = search rules in
    fourth ∙ ap (λ ts. ts ++ end_object ∷ []) third ∙ ap (λ ts. (ts ++ number) ++ end_object ∷ []) second
    ∙ ap (λ ts. ((ts ++ service) ++ number) ++ end_object ∷ []) first ∙ ids_tokens w s
