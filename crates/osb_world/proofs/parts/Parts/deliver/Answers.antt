-- The messages that are written over stay where they were.
use Rattle.std.proofs.Common.{ℕ, sym, subst, ⊎_elim}
use Rattle.std.proofs.lemmas.Bool.{cases_eq}
use Rattle.std.specs.FinMap as map
use Rattle.std.specs.Ordering.{nat_cmp}
use Rattle.std.specs.Prelude.{IsSome, refl}
use Rattle.osb_message.proofs.Maps.{get-insert_same, get-insert_other}
use Rattle.osb_in_flight.specs.declared.messages.Messages.{Messages}
use Rattle.osb_world.specs.Views.{IsPlaced}
use Rattle.osb_world.proofs.parts.Parts.deliver.Goals as goal

still_there : (rows : map.FinMap nat_cmp Messages) (id : ℕ) (value : Messages) (other : ℕ) → IsSome (map.get rows other)
    → IsSome (map.get (map.insert rows id value) other)
still_there rows id value other there =
    ⊎_elim (λ same. subst (λ q. IsSome (map.get (map.insert rows id value) q)) (sym same) (rw get-insert_same refl))
    (λ apart. subst IsSome (sym (get-insert_other rows id value other apart)) there) (cases_eq other id)

pub returns-clause-placed : goal.returns-clause-placed
returns-clause-placed c = λ id known.
    let placed = subst IsPlaced (sym c.self.view_is) c.requires.sound.placed in
    rw c.replace.ensures.replaced (still_there c.self.inside.messages c.args.id _ id (placed id known))
