-- What the rules of a catalogue say of a list.
use Rattle.std.proofs.Common.{◌≡◌, List, [], ◌∷◌, length, true, false, ◌==◌, Some, Err, refl, sym, ◌∙◌, true≢false, arith}
use Rattle.std.proofs.lemmas.Bool.{ne_eqb}
use Rattle.serde_json.specs.View.{items_view}
use Rattle.serde_json.specs.declared.value.Value.{Value}
use Rattle.osb_wire.specs.CatalogueRules.{plans_given, plans_judged}
use Rattle.osb_wire.specs.declared.catalogue_rules.Endpoints.{Endpoints}
use Rattle.osb_wire.specs.declared.catalogue_rules.RuleFault.TheVariants.{NoPlan}

pub none_given : (serves : Endpoints) (vs : List Value) → (length vs == 0) ≡ true
    → plans_given serves (Some (items_view vs)) ≡ Err NoPlan
none_given serves [] h = refl
none_given serves (v ∷ vs) h = absurd (true≢false (sym h ∙ ne_eqb (length (v ∷ vs)) 0 (omega arith)))

pub some_given : (serves : Endpoints) (vs : List Value) → (length vs == 0) ≡ false
    → plans_given serves (Some (items_view vs)) ≡ plans_judged serves [] (items_view vs)
some_given serves [] h = absurd (true≢false h)
some_given serves (v ∷ vs) h = refl

pub ruleset given_steps = (none_given, some_given)
