-- An instance and a binding of it go together.
use Rattle.std.specs.Prelude.{◌≡◌, ◌≢◌, ◌⊎◌, true, Option, None, IsSome, IsSomeAnd}
use Rattle.osb_broker.specs.declared.row.Phase.TheVariants as Phase
use Rattle.osb_platform.specs.declared.state.State.TheVariants as State
use Rattle.osb_instance.specs.Held.{Held}
use Rattle.osb_instance.specs.Recorded.{Recorded}
use Rattle.osb_network.specs.declared.resource.Resource.TheVariants.{Absent, Whole}
use Rattle.osb_network.specs.Agreement.{IsNowhere}
use Rattle.osb_network.specs.Cell.{Cell}
use Rattle.osb_binding_network.specs.declared.rules.Rules.{Rules}

-- the platform records nothing, or `gone`
abbrev pub IsAtRest : Option Recorded → Type 0
IsAtRest recorded = (recorded ≡ None) ⊎ IsSomeAnd recorded (λ r. r.row.state ≡ State.Gone)

-- there is something of it: a resource, a row or work
abbrev pub IsSomewhere : Cell → Type 0
IsSomewhere cell = (cell.resource ≢ Absent) ⊎ (IsSome cell.held.row ⊎ IsSome cell.held.work)

-- the broker holds it, complete, and does no work
abbrev pub HoldsAtPeace : Held → Type 0
HoldsAtPeace held = IsSomeAnd held.row (λ row. row.phase ≡ Phase.Ready) × (held.work ≡ None)

-- what holds if either side keeps its rules
pub record GoTogetherBy (instance binding : Cell) : Type 0 where
  -- an instance that is gone has no binding
  pub gone : IsAtRest instance.recorded → IsNowhere binding
  -- a binding has its instance: there is something of a binding only while the broker holds its instance
  pub held : IsSomewhere binding → HoldsAtPeace instance.held

-- what holds if the platform keeps its rules
pub record GoTogetherWhole (instance binding : Cell) : Type 0 where
  -- there is something of a binding only while its instance is there, whole
  pub whole : IsSomewhere binding → instance.resource ≡ Whole
  -- and a binding that is recorded `ready` has its instance there, whole
  pub ready : IsSomeAnd binding.recorded (λ r. r.row.state ≡ State.Ready)
      → HoldsAtPeace instance.held × (instance.resource ≡ Whole)

pub record GoTogether (rules : Rules) (instance binding : Cell) : Type 0 where
  pub by : (rules.platform ≡ true) ⊎ (rules.broker ≡ true) → GoTogetherBy instance binding
  pub whole : rules.platform ≡ true → GoTogetherWhole instance binding
