-- Only a Bind and a Deprovision are ever put off.
use Rattle.std.proofs.Common.{◌≡◌, true}
use Rattle.std.specs.Prelude.{Option, Some, None}
use Rattle.osb_message.specs.declared.messages.Kind.TheVariants.{Provision}
use Rattle.osb_message.specs.declared.messages.Request.{Request}
use Rattle.osb_broker.specs.declared.row.BrokerRow.{BrokerRow}
use Rattle.osb_instance.specs.Begin.{is_held}
use Rattle.osb_network.specs.Cell.{Cell, IsPossible}
use Rattle.osb_binding_network.specs.declared.rules.Rules.{Rules}
use Rattle.osb_binding_network.specs.Allowed.{at_peace_by}
use Rattle.osb_binding_network.specs.PutOff.{PutsOffRightly}
use Rattle.osb_binding_network.specs.Related.{IsRelated}
use Rattle.osb_binding_network.proofs.Dues.{due, made_by, unmade_by}
use Rattle.osb_binding_network.proofs.Kept.{none_held}
use Rattle.osb_binding_network.proofs.Together.{by_cases, there_at_peace}

has_row : (b : Option BrokerRow) (w : Option Request) → at_peace_by b w ≡ true → b ≡ None → ⊥
has_row None w e f = cc
has_row (Some b) w e f = cc

pub puts_off_rightly : (r : Rules) (i b : Cell) → IsRelated r i b → IsPossible i → PutsOffRightly r i b
puts_off_rightly r i b related possible = record {
  instance = λ n x p e begun held.
      unmade_by i.order.mode i.held.row x.request (due i n x e begun)
      (has_row i.held.row i.held.work (related.broker p held));
  binding = λ n x p e begun no_instance.
      by_cases (x.request.kind ≡ Provision) (is_held b.held)
      (λ held. absurd (no_instance (there_at_peace i i.recorded possible (related.broker p held))))
      (λ un. made_by b.order.mode b.held.row x.request (due b n x e begun) (none_held b.held.row b.held.work un).0);
}
