-- What happens to an instance, and to a binding: none or one event of the network's.
use Rattle.std.proofs.Common.{◌≡◌, ◌≢◌, ◌⊎◌, ℕ, Bool, true, false, inl, inr, refl, sym, ap, subst, ◌∙◌, List, [], ◌∷◌}
use Rattle.std.specs.Prelude.{Option, Some, None, ◌&&◌, ◌||◌, not, if◌then◌else◌, slice_get}
use Rattle.osb_instance.specs.declared.record.Sent.{Sent}
use Rattle.osb_instance.specs.Held.{Held}
use Rattle.osb_network.specs.Cell.{Cell}
use Rattle.osb_network.specs.Steps.{cell_step, cell_steps, sent_as}
use Rattle.osb_network.specs.declared.event.Event.{Event}
use Rattle.osb_binding_network.specs.Allowed.{begins as begins_at, begins_by, happened as let_happen, is_bind, of_binding}
use Rattle.osb_binding_network.specs.Allowed.{of_instance}
use Rattle.osb_binding_network.specs.Binding.{BindingCell, lived, lived_if}
use Rattle.osb_driver.proofs.Always.{CanBe, can_step}
use Rattle.osb_driver.proofs.Runs.{are_runs}
use Rattle.osb_driver.specs.declared.driver.Driver.{Driver}
use Rattle.osb_driver.specs.declared.driver.Permit.{Permit}
use Rattle.osb_driver.specs.declared.world.Happening.{Happening}
use Rattle.osb_driver.specs.World.{WorldState, driver_at, driver_events, happened, is_at_work, is_outside, with_cell, world_step}
use Rattle.osb_binding_driver.specs.ServiceWorld.{Place, at_binding, at_instance, binds, binds_by, events, lived_all}
use Rattle.osb_binding_driver.specs.ServiceWorld.{outside_of, stepped, world_of}
use Rattle.osb_binding_driver.proofs.Lives.{Arrives, LetsAll, Passes, attempt_of, passes_driver, passes_work, waits}

-- ---- one life

-- nothing has happened, or an event as it is let
abbrev pub IsLifeStep : (Event → Option Event) → Cell → Cell → Type 0
IsLifeStep lets c n = (n ≡ c) ⊎ ((e : Event) × (n ≡ let_happen c (lets e)))

life_by : (lets : Event → Option Event) (c n : Cell) (es : List Event) → n ≡ cell_steps c es → Passes lets es
    → IsLifeStep lets c n
life_by lets c n [] eq p = inl eq
life_by lets c n (e ∷ []) eq p = inr (e, eq ∙ sym (ap (let_happen c) p))
life_by lets c n (e ∷ f ∷ more) eq p = absurd p

outside_if : (lets : Event → Option Event) (x : Bool) (w : WorldState) (e f : Event) → lets e ≡ Some f
    → IsLifeStep lets w.cell (if x then with_cell w f else w).cell
outside_if lets true w e f eq = inr (e, sym (ap (let_happen w.cell) eq))
outside_if lets false w e f eq = inl refl

outside_life : (lets : Event → Option Event) (w : WorldState) (e : Event) (o : Option Event) → lets e ≡ o
    → IsLifeStep lets w.cell (stepped w (outside_of o)).cell
outside_life lets w e None eq = inl refl
outside_life lets w e (Some f) eq = outside_if lets (is_outside f) w e f eq

-- ---- a request that isn't put off

arrive_as : (x work begun : Bool) (n : ℕ) → (not (x && work) && begun) ≡ false
    → (if work || not begun then Event.Arrive n else Event.PutOff n) ≡ Event.Arrive n
arrive_as x true begun n late = refl
arrive_as true false false n late = refl
arrive_as false false false n late = refl
arrive_as true false true n late = cc
arrive_as false false true n late = cc

arrives_let : (x work : Bool) (c : Cell) (row : Held) (n : ℕ) (sent : Sent) → row ≡ c.held
    → sent_as c.sent n ≡ Some sent → waits (x && work) c row sent.request ≡ false
    → (if work || not (begins_at c n) then Event.Arrive n else Event.PutOff n) ≡ Event.Arrive n
arrives_let x work c row n sent same found late =
    ap (λ (y : Bool). if work || not y then Event.Arrive n else Event.PutOff n) (ap (begins_by c) found)
    ∙ arrive_as x work (begins_by c (Some sent)) n
    (sym (ap (λ (h : Held). waits (x && work) c h sent.request) same) ∙ late)

-- ---- an instance

instance_lets : (remove work : Bool) (c : Cell) → LetsAll (of_instance remove work c)
instance_lets remove work c = record {
  put_off = λ n. refl;
  end = λ out. refl;
  finish = λ ok. refl;
  give_up = refl;
  work = λ t. refl;
}

instance_arrives : (remove work x : Bool) (c : Cell) (row : Held) (a : Option ℕ) → row ≡ c.held
    → Arrives (of_instance remove work c) (x && work) c row a
instance_arrives remove work x c row a same n sent e found late =
    ap Some (arrives_let x work c row n sent same found late)

pub instance_life : (remove work : Bool) (w : WorldState) (h : Happening) → w.row ≡ w.cell.held
    → IsLifeStep (of_instance remove work w.cell) w.cell (stepped w (at_instance remove work w.cell h)).cell
instance_life remove work w (Happening.Outside e) same =
    outside_life (of_instance remove work w.cell) w e (of_instance remove work w.cell e) refl
instance_life remove work w (Happening.Transact at permit commit) same =
    let may : Permit = record { begin = permit.begin && work; give_up = permit.give_up } in
    life_by (of_instance remove work w.cell) w.cell _ (driver_events w at may commit (slice_get w.drivers at))
    (are_runs w (Happening.Transact at may commit))
    (passes_driver (of_instance remove work w.cell) w at may commit (slice_get w.drivers at)
    (instance_lets remove work w.cell)
    (instance_arrives remove work permit.begin w.cell w.row (attempt_of (slice_get w.drivers at)) same))
instance_life remove work w (Happening.Work t) same =
    life_by (of_instance remove work w.cell) w.cell _ (happened w (Happening.Work t)) (are_runs w (Happening.Work t))
    (passes_work (of_instance remove work w.cell) (is_at_work (driver_at w.drivers w.holder).stage) t
    (instance_lets remove work w.cell))
instance_life remove work w (Happening.Arrive n) same = inl (are_runs w (Happening.Arrive n))
instance_life remove work w Happening.TakeUp same = inl (are_runs w Happening.TakeUp)
instance_life remove work w (Happening.GetLock at) same = inl (are_runs w (Happening.GetLock at))
instance_life remove work w (Happening.MissLock at) same = inl (are_runs w (Happening.MissLock at))
instance_life remove work w (Happening.Worked out) same = inl (are_runs w (Happening.Worked out))
instance_life remove work w (Happening.Finished ok) same = inl (are_runs w (Happening.Finished ok))
instance_life remove work w (Happening.GiveUp at) same = inl (are_runs w (Happening.GiveUp at))
instance_life remove work w Happening.LoseLock same = inl (are_runs w Happening.LoseLock)
instance_life remove work w Happening.ForgetNumber same = inl (are_runs w Happening.ForgetNumber)

pub can_stepped : (w : WorldState) (o : Option Happening) → CanBe w → CanBe (stepped w o)
can_stepped w None can = can
can_stepped w (Some h) can = can_step w h can

-- ---- a binding

binding_lets : (create work forgotten retrievable : Bool) (c : Cell)
    → LetsAll (of_binding create work forgotten retrievable c)
binding_lets create work forgotten retrievable c = record {
  put_off = λ n. refl;
  end = λ out. refl;
  finish = λ ok. refl;
  give_up = refl;
  work = λ t. refl;
}

binds_as : (c : Cell) (d : Option Driver) (n : ℕ) → attempt_of d ≡ Some n → binds c d ≡ is_bind (sent_as c.sent n)
binds_as c None n e = cc
binds_as c (Some d) n e = ap (binds_by c) e

-- one whose tombstone is there
present : (forgotten : Bool) (z : Bool) (n : ℕ) (e : Event) → forgotten ≡ false
    → (if forgotten && z then Event.PutOff n else e) ≡ e
present true z n e there = cc
present false z n e there = refl

binding_arrives : (create work forgotten retrievable x : Bool) (c : Cell) (row : Held) (d : Option Driver)
    → row ≡ c.held → forgotten ≡ false
    → Arrives (of_binding create work forgotten retrievable c) (x && (work || not (binds c d))) c row (attempt_of d)
binding_arrives create work forgotten retrievable x c row d same there n sent e found late =
    let bind = is_bind (sent_as c.sent n) in
    ap Some (present forgotten bind n _ there
    ∙ arrives_let x (work || not bind) c row n sent same found
    (sym (ap (λ (y : Bool). waits (x && (work || not y)) c row sent.request) (binds_as c d n e)) ∙ late))

abbrev pub IsBindingStep : (Event → Option Event) → BindingCell → ℕ → BindingCell → Type 0
IsBindingStep lets b x n = (n ≡ b) ⊎ ((e : Event) × (n ≡ lived_if b (lets e) x))

lived_by : (lets : Event → Option Event) (b : BindingCell) (es : List Event) (x : ℕ) → Passes lets es
    → IsBindingStep lets b x (lived_all b es x)
lived_by lets b [] x p = inl refl
lived_by lets b (e ∷ []) x p = inr (e, sym (ap (λ (o : Option Event). lived_if b o x) p))
lived_by lets b (e ∷ f ∷ more) x p = absurd p

outside_lived_if : (lets : Event → Option Event) (y : Bool) (b : BindingCell) (e f : Event) (x : ℕ) → lets e ≡ Some f
    → IsBindingStep lets b x (lived_all b (if y then f ∷ [] else []) x)
outside_lived_if lets true b e f x eq = inr (e, sym (ap (λ (o : Option Event). lived_if b o x) eq))
outside_lived_if lets false b e f x eq = inl refl

outside_lived : (lets : Event → Option Event) (b : BindingCell) (k : Place) (e : Event) (x : ℕ) (o : Option Event)
    → lets e ≡ o → IsBindingStep lets b x (lived_all b (events (world_of b.life k) (outside_of o)) x)
outside_lived lets b k e x None eq = inl refl
outside_lived lets b k e x (Some f) eq = outside_lived_if lets (is_outside f) b e f x eq

pub binding_lives : (create work : Bool) (b : BindingCell) (k : Place) (h : Happening) (x : ℕ) → k.row ≡ b.life.held
    → b.forgotten ≡ false
    → IsBindingStep (of_binding create work b.forgotten b.retrievable b.life) b x
    (lived_all b (events (world_of b.life k) (at_binding create work b (world_of b.life k) h)) x)
binding_lives create work b k (Happening.Outside e) x same there =
    outside_lived (of_binding create work b.forgotten b.retrievable b.life) b k e x
    (of_binding create work b.forgotten b.retrievable b.life e) refl
binding_lives create work b k (Happening.Transact at permit commit) x same there =
    let lets = of_binding create work b.forgotten b.retrievable b.life in
    let w = world_of b.life k in
    let d = slice_get k.drivers at in
    let may : Permit = record { begin = permit.begin && (work || not (binds b.life d)); give_up = permit.give_up } in
    lived_by lets b (driver_events w at may commit d) x
    (passes_driver lets w at may commit d (binding_lets create work b.forgotten b.retrievable b.life)
    (binding_arrives create work b.forgotten b.retrievable permit.begin b.life k.row d same there))
binding_lives create work b k (Happening.Work t) x same there =
    let lets = of_binding create work b.forgotten b.retrievable b.life in
    lived_by lets b (happened (world_of b.life k) (Happening.Work t)) x
    (passes_work lets (is_at_work (driver_at k.drivers k.holder).stage) t
    (binding_lets create work b.forgotten b.retrievable b.life))
binding_lives create work b k (Happening.Arrive n) x same there = inl refl
binding_lives create work b k Happening.TakeUp x same there = inl refl
binding_lives create work b k (Happening.GetLock at) x same there = inl refl
binding_lives create work b k (Happening.MissLock at) x same there = inl refl
binding_lives create work b k (Happening.Worked out) x same there = inl refl
binding_lives create work b k (Happening.Finished ok) x same there = inl refl
binding_lives create work b k (Happening.GiveUp at) x same there = inl refl
binding_lives create work b k Happening.LoseLock x same there = inl refl
binding_lives create work b k Happening.ForgetNumber x same there = inl refl

lived_life : (b : BindingCell) (es : List Event) (x : ℕ) → (lived_all b es x).life ≡ cell_steps b.life es
lived_life b [] x = refl
lived_life b (e ∷ es) x = lived_life (lived b e x) es x

stepped_cell : (w : WorldState) (o : Option Happening) → (stepped w o).cell ≡ cell_steps w.cell (events w o)
stepped_cell w None = refl
stepped_cell w (Some h) = are_runs w h

-- the life of a binding and its world go together
pub same_life : (b : BindingCell) (k : Place) (o : Option Happening) (x : ℕ)
    → (stepped (world_of b.life k) o).cell ≡ (lived_all b (events (world_of b.life k) o) x).life
same_life b k o x =
    stepped_cell (world_of b.life k) o ∙ sym (lived_life b (events (world_of b.life k) o) x)

pub lived_forgotten : (b : BindingCell) (es : List Event) (x : ℕ) → (lived_all b es x).forgotten ≡ b.forgotten
lived_forgotten b [] x = refl
lived_forgotten b (e ∷ es) x = lived_forgotten (lived b e x) es x
