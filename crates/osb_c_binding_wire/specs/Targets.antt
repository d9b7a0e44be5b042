-- The numbers of what targets name.
use Rattle.std.specs.Prelude.{ℕ, Option, Some, None}
use Rattle.osb_binding_wire.specs.declared.target.Target.{Target}
use Rattle.osb_binding_wire.specs.declared.target.Target.TheVariants.{Catalogue, Instance, InstanceOperation, Binding, BindingOperation}

abbrev pub target_code : Target → ℕ
target_code Catalogue = 1
target_code Instance = 2
target_code InstanceOperation = 3
target_code Binding = 4
target_code BindingOperation = 5

-- 0 stands for none
abbrev pub code_or_none : Option Target → ℕ
code_or_none None = 0
code_or_none (Some target) = target_code target
