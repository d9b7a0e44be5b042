-- Whatever happens to an instance, from the beginning: platform, row and resource agree.
use Rattle.std.proofs.Common.{◌≡◌, Bool, true, false, refl, sym, ap, subst, ◌∙◌, List, [], ◌∷◌, ◌++◌}
use Rattle.std.specs.Prelude.{Option, Some, None}
use Rattle.osb_broker.specs.declared.row.BrokerRow.{BrokerRow}
use Rattle.osb_message.specs.declared.messages.Request.{Request}
use Rattle.osb_instance.specs.Held.{Held, nothing_held}
use Rattle.osb_instance.specs.Recorded.{Recorded}
use Rattle.osb_network.specs.Agreement.{Agrees}
use Rattle.osb_network.specs.Cell.{Cell, IsPossible, IsPossibleWith, empty_cell}
use Rattle.osb_network.specs.Possible.{IsKeptAs}
use Rattle.osb_network.specs.Steps.{cell_step, cell_steps}
use Rattle.osb_network.specs.declared.event.Event.{Event}
use Rattle.osb_network.specs.declared.order.Order.{Order}
use Rattle.osb_network.specs.declared.resource.Resource.{Resource}
use Rattle.osb_network.proofs.Agreements.{agrees}
use Rattle.osb_network.proofs.Kept.{kept_steps, possible_empty}
use Rattle.osb_network.proofs.Numbers.{sent_numbered}
use Rattle.osb_driver.specs.declared.world.Happening.{Happening}
use Rattle.osb_driver.specs.World.{AlwaysAgrees, AreGivenIn, IsRun, IsSound, IsTidy, WorldState, empty_world, happened, world_step, world_steps}
use Rattle.osb_driver.proofs.Kept.{stays_sound}
use Rattle.osb_driver.proofs.Runs.{are_runs}
use Rattle.osb_driver.proofs.Told.{are_given}

tidy_tombstone : (o : Order) (b : Option BrokerRow) (w : Option Request) (x v : Bool) (t : Resource)
    → IsKeptAs o b w x v t → x ≡ true → b ≡ None
tidy_tombstone o None w x v t k e = refl
tidy_tombstone o (Some b) None true v t k e = absurd k
tidy_tombstone o (Some b) (Some q) true v t k e = absurd k
tidy_tombstone o (Some b) w false v t k e = cc

tidy_waiting : (o : Order) (b : Option BrokerRow) (w : Option Request) (x v : Bool) (t : Resource)
    → IsKeptAs o b w x v t → v ≡ true → w ≡ None
tidy_waiting o b None x v t k e = refl
tidy_waiting o None (Some q) true true t k e = absurd k
tidy_waiting o None (Some q) false true t k e = absurd k
tidy_waiting o (Some b) (Some q) true true t k e = absurd k
tidy_waiting o (Some b) (Some q) false true t k e = absurd k
tidy_waiting o b (Some q) x false t k e = cc

tidy_nothing : IsTidy nothing_held
tidy_nothing = record { tombstone = λ e. refl; waiting = λ e. refl }

tidy_with : (c : Cell) (r : Option Recorded) → IsPossibleWith c r → IsTidy c.held
tidy_with c None h = subst IsTidy (sym h.held) tidy_nothing
tidy_with c (Some rec) h = record {
  tombstone = tidy_tombstone c.order c.held.row c.held.work c.held.tombstone c.held.waiting c.resource h.parts.kept.0;
  waiting = tidy_waiting c.order c.held.row c.held.work c.held.tombstone c.held.waiting c.resource h.parts.kept.0;
}

-- a world that can come about
pub record CanBe (s : WorldState) : Type 0 where
  pub sound : IsSound s
  pub possible : IsPossible s.cell

-- each happening is a run
run_of : (s : WorldState) (h : Happening) → IsRun s.cell (world_step s h).cell
run_of s h = (happened s h, are_runs s h)

by_run : (c n : Cell) → IsRun c n → IsPossible c → IsPossible n
by_run c n run h = subst IsPossible (sym run.1) (kept_steps c run.0 h)

pub can_step : (s : WorldState) (h : Happening) → CanBe s → CanBe (world_step s h)
can_step s h can = record {
  sound = stays_sound s h (subst IsTidy (sym can.sound.row) (tidy_with s.cell s.cell.recorded can.possible))
      (sent_numbered s.cell can.possible) can.sound;
  possible = by_run s.cell (world_step s h).cell (run_of s h) can.possible;
}

can_steps : (s : WorldState) (hs : List Happening) → CanBe s → CanBe (world_steps s hs)
can_steps s [] can = can
can_steps s (h ∷ hs) can = can_steps (world_step s h) hs (can_step s h can)

pub empty_sound : (o : Order) → IsSound (empty_world o)
empty_sound o = record {
  row = refl;
  resource = refl;
  goes = record { owned = tt; works = λ w. absurd w; apart = λ e w. w };
}

pub can_begin : (o : Order) → CanBe (empty_world o)
can_begin o = record {
  sound = empty_sound o;
  possible = possible_empty o;
}

appended : (c : Cell) (xs ys : List Event) → cell_steps (cell_steps c xs) ys ≡ cell_steps c (xs ++ ys)
appended c [] ys = refl
appended c (x ∷ xs) ys = appended (cell_step c x) xs ys

joined : (a b c : Cell) → IsRun a b → IsRun b c → IsRun a c
joined a b c p q =
    (p.0 ++ q.0, q.1 ∙ (ap (λ (x : Cell). cell_steps x q.0) p.1 ∙ appended a p.0 q.0))

runs_through : (c : Cell) (s : WorldState) (hs : List Happening) → IsRun c s.cell → IsRun c (world_steps s hs).cell
runs_through c s [] run = run
runs_through c s (h ∷ hs) run =
    runs_through c (world_step s h) hs (joined c s.cell (world_step s h).cell run (run_of s h))

pub answers_given : (s : WorldState) → CanBe s → AreGivenIn s
answers_given s can = are_given s (sent_numbered s.cell can.possible) can.sound

agrees_in : (s : WorldState) → CanBe s → Agrees (record s.cell { held = s.row; resource = s.resource })
agrees_in s can =
    subst (λ (x : Held). Agrees (record s.cell { held = x; resource = s.resource })) (sym can.sound.row)
    (subst (λ (x : Resource). Agrees (record s.cell { held = s.cell.held; resource = x })) (sym can.sound.resource)
    (agrees s.cell can.possible))

pub always_agrees : AlwaysAgrees
always_agrees o hs =
    let s = world_steps (empty_world o) hs in
    let can = can_steps (empty_world o) hs (can_begin o) in
    record {
      sound = can.sound;
      run = runs_through (empty_cell o) (empty_world o) hs ([], refl);
      given = answers_given s can;
      agrees = agrees_in s can;
    }
