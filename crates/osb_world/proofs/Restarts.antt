-- Which cells a restart changes.
use Rattle.std.proofs.Common.{◌≡◌, ◌≢◌, ℕ, true, false, List, [], ◌∷◌, ◌++◌, refl, sym, ap, ◌∙◌, subst}
use Rattle.std.proofs.lemmas.Bool.{false≢true}
use Rattle.std.specs.Prelude.{Option, Some, None, is_some, option_map, IsSome, ◌↔◌}
use Rattle.osb_message.specs.Plans.{Catalogue}
use Rattle.osb_message.specs.declared.messages.Answer.{Answer}
use Rattle.osb_message.specs.declared.messages.Request.{Request}
use Rattle.osb_broker.specs.declared.row.BrokerRow.{BrokerRow}
use Rattle.osb_platform.specs.PlatformRow.{restarted, restarted_row}
use Rattle.osb_platform.specs.declared.row.PlatformRow.{PlatformRow}
use Rattle.osb_platform.specs.declared.state.State.{State}
use Rattle.osb_platform.specs.declared.state.State.TheVariants.{Wanted, Polling, Ready, Cleaning}
use Rattle.osb_platform.specs.declared.state.State.TheVariants.{CleaningPolling, Gone, Unsettled}
use Rattle.osb_event.specs.declared.event.Event.{Event}
use Rattle.osb_world.specs.Events.{cell_after}
use Rattle.osb_world.specs.Possible.{IsPossible, IsPossibleParts, OutByState}
use Rattle.osb_world.specs.Steps.{cell_step, closed}
use Rattle.osb_world.specs.declared.cell.Cell.{Cell}
use Rattle.osb_world.proofs.Following.{cell_after-more}
use Rattle.osb_world.proofs.Sound.{possible_after}

-- a record of which nothing is out is as it was
same_row : (service plan : ℕ) (state : State) → OutByState state None
    → restarted_row (record { service = service; plan = plan; state = state; out = None })
    ≡ record { service = service; plan = plan; state = state; out = None }
same_row service plan Wanted sent = absurd sent
same_row service plan Polling sent = refl
same_row service plan Ready sent = refl
same_row service plan Cleaning sent = refl
same_row service plan CleaningPolling sent = refl
same_row service plan Gone sent = refl
same_row service plan Unsettled sent = refl

none_travels : (o : Option Request) (t : Option Answer) → o ≡ None → (IsSome t → IsSome o) → t ≡ None
none_travels o None e out = refl
none_travels o (Some answer) e out = let some : is_some o ≡ true = out refl in cc

no_kind : (row : PlatformRow) (o : Option Request) → o ≡ None → row.out ≡ option_map (λ request. request.kind) o
    → row.out ≡ None
no_kind row o e kind = kind ∙ ap (option_map (λ request. request.kind)) e

-- a cell that can come about, of which nothing is out, is as it was
same_parts : (cat : Catalogue) (id : ℕ) (p : Option PlatformRow) (b : Option BrokerRow) (o : Option Request)
    (t : Option Answer)
    → IsPossibleParts cat id p b o t → o ≡ None
    → closed (record { platform = p; broker = b; out = o; travelling = t }) (restarted p)
    ≡ record { platform = p; broker = b; out = o; travelling = t }
same_parts cat id None b o t (held, out, travels) e =
    λ i. record { platform = None; broker = b; out = sym e i; travelling = sym travels i }
same_parts cat id (Some row) b o t h e =
    let kind : row.out ≡ None = no_kind row o e h.kind in
    let travels : t ≡ None = none_travels o t e h.travels in
    let rest = same_row row.service row.plan row.state (subst (OutByState row.state) e h.sent) in
    let same : restarted_row row ≡ row =
    rest ∙ (λ i. record { service = row.service; plan = row.plan; state = row.state; out = sym kind i }) in
    λ i. record { platform = Some (same i); broker = b; out = sym e i; travelling = sym travels i }

some_if : (o : Option Request) → (o ≡ None → ⊥) → IsSome o
some_if None not = absurd (not refl)
some_if (Some request) not = refl

-- a restart changes a cell that can come about exactly where a request is out
restart_changes : (cat : Catalogue) (id : ℕ) (c : Cell) → IsPossible cat id c
    → IsSome c.out ↔ (cell_step cat c Event.Restart ≢ c)
restart_changes cat id c h = (
  λ out same.
      let none : is_some c.out ≡ false = ap (λ (d : Cell). is_some d.out) (sym same) in false≢true (sym none ∙ out),
  λ changed. some_if c.out (λ e. changed (same_parts cat id c.platform c.broker c.out c.travelling h e)),
)

-- and so it does after any events
pub restart_after : (cat : Catalogue) (id : ℕ) (events : List Event)
    → IsSome (cell_after cat id events).out
    ↔ (cell_after cat id (events ++ Event.Restart ∷ []) ≢ cell_after cat id events)
restart_after cat id events =
    let before = cell_after cat id events in
    subst (λ (after : Cell). IsSome before.out ↔ (after ≢ before)) (sym (cell_after-more cat id events Event.Restart))
    (restart_changes cat id before (possible_after cat id events))
