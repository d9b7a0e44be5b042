-- An event of a binding, its credentials among what happens: its life goes on as the rules let it.
use Rattle.std.proofs.Common.{◌≡◌, ℕ, Bool, true, false, refl, sym, subst}
use Rattle.std.specs.Prelude.{Option, Some, None, ◌&&◌, if◌then◌else◌, slice_get}
use Rattle.osb_network.specs.declared.event.Event.{Event}
use Rattle.osb_network.specs.Cell.{Cell, IsPossible}
use Rattle.osb_binding_network.specs.declared.event.BindingEvent.{BindingEvent}
use Rattle.osb_binding_network.specs.declared.rules.Rules.{Rules}
use Rattle.osb_binding_network.specs.Allowed.{happened, may_bind, may_create, needs_fetch, of_binding}
use Rattle.osb_binding_network.specs.Binding.{BindingCell, binding_step, is_fetchable, lived_if}
use Rattle.osb_binding_network.specs.Binding.{taken_with}
use Rattle.osb_binding_network.specs.Related.{IsRelated}
use Rattle.osb_binding_network.proofs.Kept.{kept_binding, kept_take}

lived_life : (c : BindingCell) (e : Option Event) (x : ℕ) → (lived_if c e x).life ≡ happened c.life e
lived_life c None x = refl
lived_life c (Some e) x = refl

of_either : (t : Bool) (a c : BindingCell) → a.life ≡ c.life → (if t then a else c).life ≡ c.life
of_either true a c e = e
of_either false a c e = refl

related_life : (r : Rules) (i d e : Cell) → d ≡ e → IsRelated r i e → IsRelated r i d
related_life r i d e is h = subst (λ c. IsRelated r i c) (sym is) h

related_either : (r : Rules) (i : Cell) (t : Bool) (a c : BindingCell) → IsRelated r i a.life → IsRelated r i c.life
    → IsRelated r i (if t then a else c).life
related_either r i true a c h k = h
related_either r i false a c h k = k

kept_taken : (r : Rules) (i : Cell) (b : BindingCell) (at : ℕ) (x : Option ℕ) → IsPossible b.life
    → IsRelated r i b.life → IsRelated r i (taken_with b at x).life
kept_taken r i b at None possible related = related
kept_taken r i b at (Some x) possible related =
    related_either r i (needs_fetch b.life at) _ b (kept_take r i b.life at possible related) related

pub kept_step_binding : (r : Rules) (i : Cell) (b : BindingCell) (create work ended : Bool) (e : BindingEvent)
    → (create ≡ true → may_create r i ≡ true) → (work ≡ true → may_bind r i ≡ true) → IsPossible b.life
    → IsRelated r i b.life → IsRelated r i (binding_step create work ended b e).life
kept_step_binding r i b create work ended (BindingEvent.Life e x) may_come may possible related =
    related_life r i _ _ (lived_life b (of_binding create work b.forgotten b.retrievable b.life e) x)
    (kept_binding r i b.life create work b.forgotten b.retrievable e may_come may possible related)
kept_step_binding r i b create work ended BindingEvent.Fetch may_come may possible related =
    related_life r i _ _ (of_either (is_fetchable b.life.held) _ b refl) related
kept_step_binding r i b create work ended (BindingEvent.TakeFetched at of) may_come may possible related =
    kept_taken r i b at (slice_get b.fetched of) possible related
kept_step_binding r i b create work ended BindingEvent.Forget may_come may possible related =
    related_life r i _ _ (of_either (ended && b.life.held.tombstone) _ b refl) related
