-- A reader or a writer, and whether it has refused.
use Rattle.std.specs.Prelude.{Bool}

pub record Device (D : Type 0) : Type 0 where
  pub device : D
  pub refused : Bool
