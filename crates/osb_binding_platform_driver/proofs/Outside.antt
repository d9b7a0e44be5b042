-- What happens at the broker, or in the network between, leaves the rows and the drivers of a platform as they were.
use Rattle.std.proofs.Common.{◌≡◌, ℕ, Bool, true, false, refl, sym, ap, ◌∙◌, List, [], ◌∷◌}
use Rattle.std.specs.Prelude.{⊤, Option, Some, None, ◌&&◌, ◌||◌, not, if◌then◌else◌, slice_get}
use Rattle.osb_network.specs.Cell.{Cell}
use Rattle.osb_network.specs.Steps.{cell_step, sent_as}
use Rattle.osb_network.specs.declared.event.Event.{Event}
use Rattle.osb_binding_network.specs.declared.event.BindingEvent.{BindingEvent}
use Rattle.osb_binding_network.specs.Allowed.{begins, happened as let_happen, is_bind, is_ready, needs_fetch, of_binding, of_instance}
use Rattle.osb_binding_network.specs.Binding.{BindingCell, binding_step, is_fetchable, lived_if, recorded_after, taken_with}
use Rattle.osb_platform_driver.specs.declared.world.Happening.{Happening}
use Rattle.osb_platform_driver.specs.World.{IsSound, WorldState, is_outside, with_cell}
use Rattle.osb_platform_driver.proofs.Grown.{grows_steps}
use Rattle.osb_platform_driver.proofs.Sound.{stays_sound}
use Rattle.osb_binding_platform_driver.specs.ServiceWorld.{Place, is_outside_binding, world_of}
use Rattle.osb_binding_platform_driver.proofs.Events.{recorded_same}
use Rattle.osb_binding_platform_driver.proofs.Fits.{IsFit, IsMore, fits_on, get_left, more_lived}
use Rattle.osb_binding_platform_driver.proofs.Network.{binding_steps}

-- ---- an event from outside stays one

abbrev pub IsLetOutside : Option Event → Type 0
IsLetOutside None = ⊤
IsLetOutside (Some e) = is_outside e ≡ true

work_let : (x : Bool) (n : ℕ) → is_outside (if x then Event.Arrive n else Event.PutOff n) ≡ true
work_let true n = refl
work_let false n = refl

bind_let : (x y : Bool) (n : ℕ)
    → is_outside (if x then Event.PutOff n else (if y then Event.Arrive n else Event.PutOff n)) ≡ true
bind_let true y n = refl
bind_let false y n = work_let y n

pub instance_let : (remove work : Bool) (c : Cell) (e : Event) → is_outside e ≡ true
    → IsLetOutside (of_instance remove work c e)
instance_let remove work c (Event.Arrive n) out = work_let (work || not (begins c n)) n
instance_let remove work c (Event.PutOff n) out = refl
instance_let remove work c (Event.End o) out = refl
instance_let remove work c Event.EndUnknown out = refl
instance_let remove work c (Event.Finish ok) out = refl
instance_let remove work c Event.GiveUpWaiting out = refl
instance_let remove work c (Event.Work t) out = refl
instance_let remove work c Event.CrashBroker out = refl
instance_let remove work c Event.Create out = cc
instance_let remove work c Event.Send out = cc
instance_let remove work c Event.Expire out = cc
instance_let remove work c Event.Retry out = cc
instance_let remove work c Event.Remove out = cc
instance_let remove work c Event.Timeout out = cc
instance_let remove work c (Event.Take at) out = cc
instance_let remove work c (Event.TakeGarbled at) out = cc
instance_let remove work c (Event.TakeGateway status) out = cc
instance_let remove work c Event.CrashPlatform out = cc

binding_let : (create work forgotten retrievable : Bool) (c : Cell) (e : Event) → is_outside e ≡ true
    → IsLetOutside (of_binding create work forgotten retrievable c e)
binding_let create work forgotten retrievable c (Event.Arrive n) out =
    let bind = is_bind (sent_as c.sent n) in
    bind_let (forgotten && bind) ((work || not bind) || not (begins c n)) n
binding_let create work forgotten retrievable c (Event.PutOff n) out = refl
binding_let create work forgotten retrievable c (Event.End o) out = refl
binding_let create work forgotten retrievable c Event.EndUnknown out = refl
binding_let create work forgotten retrievable c (Event.Finish ok) out = refl
binding_let create work forgotten retrievable c Event.GiveUpWaiting out = refl
binding_let create work forgotten retrievable c (Event.Work t) out = refl
binding_let create work forgotten retrievable c Event.CrashBroker out = refl
binding_let create work forgotten retrievable c Event.Create out = cc
binding_let create work forgotten retrievable c Event.Send out = cc
binding_let create work forgotten retrievable c Event.Expire out = cc
binding_let create work forgotten retrievable c Event.Retry out = cc
binding_let create work forgotten retrievable c Event.Remove out = cc
binding_let create work forgotten retrievable c Event.Timeout out = cc
binding_let create work forgotten retrievable c (Event.Take at) out = cc
binding_let create work forgotten retrievable c (Event.TakeGarbled at) out = cc
binding_let create work forgotten retrievable c (Event.TakeGateway status) out = cc
binding_let create work forgotten retrievable c Event.CrashPlatform out = cc

-- it changes no credentials that the network's platform records
still : (e : Event) (answers : List ℕ) (r : ℕ) → is_outside e ≡ true → recorded_after false true e answers r ≡ r
still (Event.Arrive n) answers r out = refl
still (Event.PutOff n) answers r out = refl
still (Event.End o) answers r out = refl
still Event.EndUnknown answers r out = refl
still (Event.Finish ok) answers r out = refl
still Event.GiveUpWaiting answers r out = refl
still (Event.Work t) answers r out = refl
still Event.CrashBroker answers r out = refl
still Event.Create answers r out = refl
still Event.Send answers r out = refl
still Event.Expire answers r out = refl
still Event.Retry answers r out = refl
still Event.Remove answers r out = refl
still Event.Timeout answers r out = refl
still (Event.Take at) answers r out = cc
still (Event.TakeGarbled at) answers r out = refl
still (Event.TakeGateway status) answers r out = refl
still Event.CrashPlatform answers r out = refl

-- ---- the drivers' side stays as it was

chosen : (x : Bool) (w v : WorldState) → x ≡ true → IsSound (if x then v else w) → IsSound v
chosen true w v e h = h
chosen false w v e h = cc

pub sound_let : (c : Cell) (p : Place) (o : Option Event) → IsLetOutside o → IsSound (world_of c p)
    → IsSound (world_of (let_happen c o) p)
sound_let c p None out h = h
sound_let c p (Some e) out h =
    chosen (is_outside e) (world_of c p) (with_cell (world_of c p) e) out
    (stays_sound (world_of c p) (Happening.Outside e) h)

fit_on : (b n : BindingCell) (p : Place) → IsSound (world_of n.life p) → n.recorded ≡ b.recorded → IsMore b n → IsFit b p
    → IsFit n p
fit_on b n p life same more h = record {
  life = life;
  credentials = h.credentials ∙ ap (λ (v : ℕ). if is_ready p.row then Some v else None) (sym same);
  fits = λ k y is. fits_on b n p.row p.row y.stage y.source y.credentials y.fetched more (λ out. refl) (h.fits k y is);
}

lived_fit : (b : BindingCell) (p : Place) (o : Option Event) (x : ℕ) → IsLetOutside o → IsFit b p
    → IsFit (lived_if b o x) p
lived_fit b p None x out h = h
lived_fit b p (Some e) x out h =
    fit_on b (lived_if b (Some e) x) p (sound_let b.life p (Some e) out h.life)
    (recorded_same e b.answers b.recorded (is_ready b.life.recorded) (is_ready (cell_step b.life e).recorded)
    (still e b.answers b.recorded out)) (more_lived b (Some e) x) h

fit_if : (x : Bool) (b n : BindingCell) (p : Place) → IsFit n p → IsFit b p → IsFit (if x then n else b) p
fit_if true b n p on h = on
fit_if false b n p on h = h

pub outside_fit : (create work end : Bool) (b : BindingCell) (p : Place) (e : BindingEvent)
    → is_outside_binding e ≡ true → IsFit b p → IsFit (binding_step create work end b e) p
outside_fit create work end b p (BindingEvent.Life e x) out h =
    lived_fit b p (of_binding create work b.forgotten b.retrievable b.life e) x
    (binding_let create work b.forgotten b.retrievable b.life e out) h
outside_fit create work end b p BindingEvent.Fetch out h =
    fit_if (is_fetchable b.life.held) b _ p
    (fit_on b _ p h.life refl (record { answers = λ at x is. is; fetched = get_left b.fetched b.row }) h) h
outside_fit create work end b p (BindingEvent.TakeFetched at from) out h = cc
outside_fit create work end b p BindingEvent.Forget out h =
    fit_if (end && b.life.held.tombstone) b _ p
    (fit_on b _ p h.life refl (record { answers = λ at x is. is; fetched = λ at x is. is }) h) h

-- ---- the order stays the same

pub order_let : (c : Cell) (o : Option Event) → (let_happen c o).order ≡ c.order
order_let c None = refl
order_let c (Some e) = (grows_steps c (e ∷ [])).order

order_if : (x : Bool) (b n : BindingCell) → n.life.order ≡ b.life.order → (if x then n else b).life.order ≡ b.life.order
order_if true b n e = e
order_if false b n e = refl

order_lived : (b : BindingCell) (o : Option Event) (x : ℕ) → (lived_if b o x).life.order ≡ b.life.order
order_lived b None x = refl
order_lived b (Some e) x = (grows_steps b.life (e ∷ [])).order

order_taken : (b : BindingCell) (at : ℕ) (o : Option ℕ) → (taken_with b at o).life.order ≡ b.life.order
order_taken b at None = refl
order_taken b at (Some v) = order_if (needs_fetch b.life at) b _ (order_lived b (Some (Event.Take at)) 0)

pub order_step : (create work end : Bool) (b : BindingCell) (e : BindingEvent)
    → (binding_step create work end b e).life.order ≡ b.life.order
order_step create work end b (BindingEvent.Life e x) =
    order_lived b (of_binding create work b.forgotten b.retrievable b.life e) x
order_step create work end b BindingEvent.Fetch = order_if (is_fetchable b.life.held) b _ refl
order_step create work end b (BindingEvent.TakeFetched at from) = order_taken b at (slice_get b.fetched from)
order_step create work end b BindingEvent.Forget = order_if (end && b.life.held.tombstone) b _ refl

pub order_steps : (create work end : Bool) (b : BindingCell) (es : List BindingEvent)
    → (binding_steps create work end b es).life.order ≡ b.life.order
order_steps create work end b [] = refl
order_steps create work end b (e ∷ es) =
    order_steps create work end (binding_step create work end b e) es ∙ order_step create work end b e
