-- What of an instance and a binding can come about together, by what they see of each other: a line for each side that
-- keeps its rules.
use Rattle.std.specs.Prelude.{◌≡◌, true, false}
use Rattle.osb_instance.specs.Begin.{is_held}
use Rattle.osb_network.specs.Cell.{Cell}
use Rattle.osb_binding_network.specs.declared.rules.Rules.{Rules}
use Rattle.osb_binding_network.specs.Allowed.{at_peace, is_at_rest, is_ready}

pub record IsRelated (rules : Rules) (instance binding : Cell) : Type 0 where
  -- a binding that is recorded, and not `gone`, has its instance recorded `ready`
  pub platform : rules.platform ≡ true → is_at_rest binding.recorded ≡ false → is_ready instance.recorded ≡ true
  -- a binding that is held has its instance there: by its row, which has the ordered plan
  pub broker : rules.broker ≡ true → is_held binding.held ≡ true → at_peace instance.held ≡ true
