-- What an instance becomes is what its updates may see of it.
use Rattle.std.proofs.Common.{◌≡◌, ℕ, Bool, true, false, refl, sym, subst, ap, ◌∙◌}
use Rattle.std.specs.Prelude.{Option, Some, None, ◌&&◌, not, is_none, is_some, if◌then◌else◌}
use Rattle.std.proofs.lemmas.Bool.Decides.{Decides-eqb}
use Rattle.osb_message.specs.declared.messages.Request.{Request}
use Rattle.osb_broker.specs.declared.row.BrokerRow.{BrokerRow}
use Rattle.osb_broker.specs.declared.row.Phase.{Phase}
use Rattle.osb_instance.specs.Fits.{is_ready as is_ready_phase}
use Rattle.osb_instance.specs.Held.{Held}
use Rattle.osb_instance.specs.Recorded.{Recorded, is_ready_in}
use Rattle.osb_platform.specs.declared.state.State.{State}
use Rattle.osb_network.specs.Agreement.{IsThere}
use Rattle.osb_network.specs.Cell.{Cell, IsPossible, IsPossibleWith}
use Rattle.osb_network.specs.Possible.{IsKeptAs}
use Rattle.osb_network.specs.declared.order.Order.{Order}
use Rattle.osb_network.specs.declared.resource.Resource.{Resource}
use Rattle.osb_network.proofs.Agreements.{agrees}
use Rattle.osb_update.specs.Begun.{is_available, is_available_by, is_under_way}
use Rattle.osb_update.specs.Recorded.{can_be_with}
use Rattle.osb_update.specs.declared.holding.UpdateHolding.{UpdateHolding}
use Rattle.osb_update.specs.declared.phase.UpdatePhase.{UpdatePhase}
use Rattle.osb_update.specs.declared.settings.Settings.{Settings}
use Rattle.osb_update.specs.declared.state.UpdateKind.{UpdateKind}
use Rattle.osb_update.specs.declared.state.UpdateState.{UpdateState}
use Rattle.osb_update.proofs.Same.{same_settings}
use Rattle.osb_update_sides.specs.Cell.{UpdatesCell}
use Rattle.osb_update_sides.specs.Life.{goes_on, has_service, implies, is_kept, is_kept_by, is_life, is_ready, is_ready_by}
use Rattle.osb_update_sides.specs.Possible as sides
use Rattle.osb_update_sides.specs.Possible.{HeldByState}
use Rattle.osb_update_sides.specs.Steps.{is_at, is_settled, may_live, settings_left}
use Rattle.osb_update_sides.specs.declared.life.Life.{Life}
use Rattle.osb_update_service.specs.Steps.{followed, settings_then}
use Rattle.osb_update_service.specs.Tied.{IsTied, life_of}
use Rattle.osb_update_service.proofs.Went.{Went}

implied : (x y : Bool) → (x ≡ true → y ≡ true) → implies x y ≡ true
implied true y f = f refl
implied false y f = refl

both : (x y : Bool) → x ≡ true → y ≡ true → (x && y) ≡ true
both true y e f = f
both false y e f = cc

left : (x y : Bool) → (x && y) ≡ true → x ≡ true
left true y e = refl
left false y e = cc

right : (x y : Bool) → (x && y) ≡ true → y ≡ true
right true y e = e
right false y e = cc

-- ---- both sides agree on the instance itself

ready_is : (s : State) → is_ready_in s ≡ true → s ≡ State.Ready
ready_is State.Ready e = refl
ready_is s e = cc

there_by : (b : Option BrokerRow) (q : Option Request) (row : BrokerRow) → b ≡ Some row → row.phase ≡ Phase.Ready → q ≡ None
    → is_available_by b q ≡ true
there_by b q row e p w =
    subst (λ (x : Option BrokerRow). is_available_by x q ≡ true) (sym e)
    (subst (λ (x : Option Request). is_available_by (Some row) x ≡ true) (sym w)
    (subst (λ (x : Phase). is_ready_phase x ≡ true) (sym p) refl))

ready_there : (o : Option Recorded) (a : Cell) → a.recorded ≡ o → IsPossible a → is_ready_by o ≡ true
    → is_available a.held ≡ true
ready_there None a e h on = cc
ready_there (Some rec) a e h on =
    let t : IsThere a rec = (agrees a h).ready rec e (ready_is rec.row.state on) in
    there_by a.held.row a.held.work _ t.1 refl t.2

serves_by : (order : Order) (b : Option BrokerRow) (q : Option Request) (x v : Bool) (t : Resource)
    → IsKeptAs order b q x v t → is_available_by b q ≡ true → has_service b order.service ≡ true
serves_by order None None x v t h on = cc
serves_by order None (Some q) x v t h on = cc
serves_by order (Some b) (Some q) x v t h on = cc
serves_by order (Some b) None false false t h on =
    (Decides-eqb b.service order.service).1 (ap (λ (r : BrokerRow). r.service) h.same)
serves_by order (Some b) None false true t h on =
    (Decides-eqb b.service order.service).1 (ap (λ (r : BrokerRow). r.service) h.0.same)
serves_by order (Some b) None true v t h on = absurd h

none_by : (q : Option Request) → is_available_by None q ≡ true → ⊥
none_by None e = cc
none_by (Some q) e = cc

none_there : (held : Held) → held.row ≡ None → is_available held ≡ true → ⊥
none_there held e on =
    let x : is_available_by None held.work ≡ true =
    subst (λ (b : Option BrokerRow). is_available_by b held.work ≡ true) e on in none_by held.work x

serves_with : (o : Option Recorded) (a : Cell) → IsPossibleWith a o → is_available a.held ≡ true
    → has_service a.held.row a.order.service ≡ true
serves_with None a h on = absurd (none_there a.held (ap (λ (x : Held). x.row) h.held) on)
serves_with (Some rec) a h on =
    serves_by a.order a.held.row a.held.work a.held.tombstone a.held.waiting a.resource h.parts.kept.0 on

life_is : (service : ℕ) (a : Cell) → service ≡ a.order.service → IsPossible a → is_life service (life_of a) ≡ true
life_is service a e h =
    both (implies (is_ready_by a.recorded) (is_available a.held)) _
    (implied (is_ready_by a.recorded) (is_available a.held) (λ on. ready_there a.recorded a refl h on))
    (implied (is_available a.held) (has_service a.held.row service)
    (λ on. subst (λ (x : ℕ). has_service a.held.row x ≡ true) (sym e) (serves_with a.recorded a h on)))

-- ---- how it goes on

goes_on_by : (r w : Bool) (c a : Cell) → Went r w c a → goes_on (life_of c) (life_of a) ≡ true
goes_on_by r w c a g =
    both (implies (is_kept_by a.recorded) (is_kept_by c.recorded)) _
    (implied (is_kept_by a.recorded) (is_kept_by c.recorded) g.recorded.kept)
    (implied (is_ready_by c.recorded && is_kept_by a.recorded) (is_ready_by a.recorded)
    (λ x. g.recorded.ready (left (is_ready_by c.recorded) _ x) (right (is_ready_by c.recorded) _ x)))

-- what has a request out is of an instance that is recorded `ready`
out_ready : (out : Option UpdateKind) (s : UpdateState) (n : ℕ) (before : Settings) (number : ℕ) (held : UpdateHolding)
    (ready : Bool) → can_be_with out s n ≡ true → is_some out ≡ true → HeldByState s before number held ready
    → ready ≡ true
out_ready None s n before number held ready e f h = cc
out_ready (Some k) (UpdateState.Updating aim) n before number held ready e f h = h.is_ready
out_ready (Some k) (UpdateState.Polling aim) n before number held ready e f h = h.0.is_ready
out_ready (Some k) (UpdateState.Unsure aim) n before number held ready e f h = h.is_ready
out_ready (Some UpdateKind.Update) UpdateState.Settled n before number held ready e f h = cc
out_ready (Some UpdateKind.Poll) UpdateState.Settled n before number held ready e f h = cc
out_ready (Some UpdateKind.Fetch) UpdateState.Settled n before number held ready e f h = cc

none_not : (o : Option UpdateKind) → is_some o ≡ true → is_none o ≡ false
none_not None e = cc
none_not (Some k) e = refl

negated : (x : Bool) → x ≡ true → not x ≡ false
negated true e = refl
negated false e = cc

waits : (u : UpdatesCell) (c a : Cell) → sides.IsPossible u → u.life ≡ life_of c
    → Went (is_none u.recorded.out) (not (is_under_way u.held.phase)) c a
    → (is_kept u.life && is_some u.recorded.out) ≡ true → is_kept_by a.recorded ≡ true
waits u c a h e g x =
    let k = left (is_kept u.life) _ x in
    let out = right (is_kept u.life) _ x in
    let on = out_ready u.recorded.out u.recorded.state u.recorded.attempt u.recorded.settings u.recorded.number u.held
    (is_ready u.life) h.record_can_be out (h.recorded k) in
    subst (λ (o : Option Recorded). is_kept_by o ≡ true)
    (sym (g.recorded.stays (subst (λ (l : Life). is_ready l ≡ true) e on) (none_not u.recorded.out out)))
    (subst (λ (l : Life). is_kept l ≡ true) e k)

stays_there : (u : UpdatesCell) (c a : Cell) → sides.IsPossible u → u.life ≡ life_of c
    → Went (is_none u.recorded.out) (not (is_under_way u.held.phase)) c a → is_under_way u.held.phase ≡ true
    → is_available a.held ≡ true
stays_there u c a h e g x =
    g.available (subst (λ (l : Life). is_available l.holding ≡ true) e (h.holds.there x))
    (negated (is_under_way u.held.phase) x)

-- the settings of a settled row
at : (o : Option Settings) (s : Settings) → o ≡ Some s → is_at o s ≡ true
at o s e = subst (λ (x : Option Settings). is_at x s ≡ true) (sym e) ((same_settings s s).1 refl)

left_at : (x : Bool) (u : UpdatesCell) (after : Option Settings) → (x ≡ true → u.settings ≡ Some u.held.settings)
    → after ≡ Some u.held.settings → is_at (if x then u.settings else after) u.held.settings ≡ true
left_at true u after f e = at u.settings u.held.settings (f refl)
left_at false u after f e = at after u.held.settings e

settled_phase : (p : UpdatePhase) → is_settled p ≡ true → p ≡ UpdatePhase.Settled
settled_phase UpdatePhase.Settled e = refl
settled_phase p e = cc

then_by : (x : Bool) (p : UpdatePhase) (u : UpdatesCell) (settings : Option Settings) → x ≡ true
    → p ≡ UpdatePhase.Settled → settings_then x p u settings ≡ Some u.held.settings
then_by true UpdatePhase.Settled u settings e f = refl
then_by true p u settings e f = cc
then_by false p u settings e f = cc

has_then : (u : UpdatesCell) (a : Cell) (settings : Option Settings) → sides.IsPossible u
    → (is_available a.held && is_settled u.held.phase) ≡ true
    → is_at (settings_left u (settings_then (is_available a.held) u.held.phase u settings)) u.held.settings ≡ true
has_then u a settings h x =
    let p = settled_phase u.held.phase (right (is_available a.held) _ x) in
    left_at (is_available u.life.holding) u _ (λ on. h.holds.row on p)
    (then_by (is_available a.held) u.held.phase u settings (left (is_available a.held) _ x) p)

-- so the updates follow
pub may_follow : (u : UpdatesCell) (c a : Cell) (settings : Option Settings) → sides.IsPossible u → IsTied c u
    → IsPossible a → Went (is_none u.recorded.out) (not (is_under_way u.held.phase)) c a
    → may_live u (life_of a) (settings_then (is_available a.held) u.held.phase u settings) ≡ true
may_follow u c a settings h t p g =
    both (is_life u.service (life_of a)) _
    (life_is u.service a (t.service ∙ ap (λ (o : Order). o.service) (sym g.order)) p)
    (both (goes_on u.life (life_of a)) _
    (subst (λ (l : Life). goes_on l (life_of a) ≡ true) (sym t.life)
    (goes_on_by (is_none u.recorded.out) (not (is_under_way u.held.phase)) c a g))
    (both (implies (is_kept u.life && is_some u.recorded.out) (is_kept_by a.recorded)) _
    (implied (is_kept u.life && is_some u.recorded.out) (is_kept_by a.recorded) (waits u c a h t.life g))
    (both (implies (is_under_way u.held.phase) (is_available a.held)) _
    (implied (is_under_way u.held.phase) (is_available a.held) (stays_there u c a h t.life g))
    (implied (is_available a.held && is_settled u.held.phase) _ (has_then u a settings h)))))

-- and see what the instance has become
lives_if : (x : Bool) (a b : UpdatesCell) (c : Cell) → x ≡ true → IsTied c a → IsTied c (if x then a else b)
lives_if true a b c e t = t
lives_if false a b c e t = cc

pub follows : (u : UpdatesCell) (c a : Cell) (settings : Option Settings) → sides.IsPossible u → IsTied c u
    → IsPossible a → Went (is_none u.recorded.out) (not (is_under_way u.held.phase)) c a
    → IsTied a (followed u a settings)
follows u c a settings h t p g =
    lives_if (may_live u (life_of a) (settings_then (is_available a.held) u.held.phase u settings)) _ u a
    (may_follow u c a settings h t p g)
    (record { service = t.service ∙ ap (λ (o : Order). o.service) (sym g.order); life = refl })
