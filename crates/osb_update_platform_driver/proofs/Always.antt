-- Whatever happens, from the beginning: what happens is a run, and the row, what the broker holds and the resource
-- agree.
use Rattle.std.proofs.Common.{◌≡◌, ℕ, Bool, true, false, refl, sym, ap, subst, ◌∙◌, List, [], ◌∷◌, ◌++◌}
use Rattle.std.specs.Prelude.{Option, Some, None, ◌==◌, if◌then◌else◌, slice_get}
use Rattle.osb_instance.specs.Recorded.{Recorded}
use Rattle.osb_platform_driver.specs.World.{is_owner}
use Rattle.osb_platform_driver.specs.declared.world.Commit.{Commit}
use Rattle.osb_update.specs.declared.record.UpdateRecord.{UpdateRecord}
use Rattle.osb_update.specs.declared.settings.Settings.{Settings}
use Rattle.osb_update_sides.specs.Agreement.{AgreesOnSettings}
use Rattle.osb_update_sides.specs.Cell.{UpdatesCell, no_updates}
use Rattle.osb_update_sides.specs.Steps.{may_be_anothers, updates_steps}
use Rattle.osb_update_sides.specs.declared.event.UpdatesEvent.{UpdatesEvent}
use Rattle.osb_update_sides.specs.declared.given.Said.{Said}
use Rattle.osb_update_sides.specs.declared.given.UpdateGiven.{UpdateGiven}
use Rattle.osb_update_sides.proofs.Kept.{agrees, at_first}
use Rattle.osb_update_platform_driver.specs.Driver.{resume, take}
use Rattle.osb_update_platform_driver.specs.declared.driver.PlatformUpdateStage.{PlatformUpdateStage}
use Rattle.osb_update_platform_driver.specs.declared.driver.PlatformUpdateTransaction.{PlatformUpdateTransaction}
use Rattle.osb_update_platform_driver.specs.declared.driver.PlatformUpdateWishes.{PlatformUpdateWishes}
use Rattle.osb_update_platform_driver.specs.declared.world.PlatformUpdateHappening.{PlatformUpdateHappening}
use Rattle.osb_update_platform_driver.specs.declared.world.UpdateExchange.{UpdateExchange}
use Rattle.osb_update_platform_driver.specs.declared.world.UpdateSource.{UpdateSource}
use Rattle.osb_update_platform_driver.specs.World.{AlwaysAgrees, AreRuns, IsRun, IsSound, WorldState, answer_by}
use Rattle.osb_update_platform_driver.specs.World.{answer_from}
use Rattle.osb_update_platform_driver.specs.World.{answer_step, as_committed, claim_by, claim_events, claim_in}
use Rattle.osb_update_platform_driver.specs.World.{claim_step, claimed_by}
use Rattle.osb_update_platform_driver.specs.World.{claimed_events, committed_events, empty_world, given_to, happened}
use Rattle.osb_update_platform_driver.specs.World.{is_outside}
use Rattle.osb_update_platform_driver.specs.World.{lived, may_live_in, recorded_in, resume_events, take_by, take_events}
use Rattle.osb_update_platform_driver.specs.World.{take_step}
use Rattle.osb_update_platform_driver.specs.World.{taken_by, taken_events, taking, transacted, with_cell, world_step}
use Rattle.osb_update_platform_driver.specs.World.{world_steps}
use Rattle.osb_update_platform_driver.proofs.Rows.{steps_on}
use Rattle.osb_update_platform_driver.proofs.Sound.{stays_sound}

-- ---- runs

-- the network's updates after these events, and the settings of the Provision as they were
abbrev IsAfter : WorldState → List UpdatesEvent → WorldState → Type 0
IsAfter s es t = (t.cell ≡ updates_steps s.cell es) × (t.first ≡ s.first)

event_run : (x : Bool) (s t : WorldState) (e : UpdatesEvent) → IsAfter s (e ∷ []) t
    → IsAfter s (if x then e ∷ [] else []) (if x then t else s)
event_run true s t e after = after
event_run false s t e after = (refl, refl)

commit_run : (commit : Commit) (s : WorldState) (at : ℕ) (tx : PlatformUpdateTransaction) (es : List UpdatesEvent)
    (source : UpdateSource) → IsAfter s (committed_events commit es) (transacted commit s at tx es source)
commit_run Commit.Returned s at tx es source = (refl, refl)
commit_run Commit.Failed s at tx es source = (refl, refl)
commit_run (Commit.Unsure true) s at tx es source = (refl, refl)
commit_run (Commit.Unsure false) s at tx es source = (refl, refl)

claim_run : (s : WorldState) (at : ℕ) (w : PlatformUpdateWishes) (commit : Commit) (stage : PlatformUpdateStage)
    → IsAfter s (claimed_events s w commit stage) (claim_by s at w commit stage)
claim_run s at w commit PlatformUpdateStage.Claim =
    commit_run commit s at (claim_in s w) (claim_events w s.instance) UpdateSource.Nowhere
claim_run s at w commit (PlatformUpdateStage.Send n) = (refl, refl)
claim_run s at w commit (PlatformUpdateStage.Take n said) = (refl, refl)
claim_run s at w commit (PlatformUpdateStage.Unsure n) = (refl, refl)
claim_run s at w commit PlatformUpdateStage.Done = (refl, refl)

claims_run : (s : WorldState) (at : ℕ) (w : PlatformUpdateWishes) (commit : Commit) (x : Option UpdateExchange)
    → IsAfter s (claimed_by s w commit x) (claim_step s at w commit x)
claims_run s at w commit None = (refl, refl)
claims_run s at w commit (Some x) = claim_run s at w commit x.driver.stage

take_run : (s : WorldState) (at : ℕ) (commit : Commit) (source : UpdateSource) (stage : PlatformUpdateStage)
    → IsAfter s (taken_events s at commit source stage) (take_by s at commit source stage)
take_run s at commit source (PlatformUpdateStage.Take n said) =
    commit_run commit s at (take n said s.change) (take_events s.cell.recorded n source) source
take_run s at commit source (PlatformUpdateStage.Unsure n) =
    let own = is_owner s.owner at in
    commit_run commit s at (resume own n s.change) (resume_events own s.cell.recorded n) UpdateSource.Nowhere
take_run s at commit source PlatformUpdateStage.Claim = (refl, refl)
take_run s at commit source (PlatformUpdateStage.Send n) = (refl, refl)
take_run s at commit source PlatformUpdateStage.Done = (refl, refl)

takes_run : (s : WorldState) (at : ℕ) (commit : Commit) (x : Option UpdateExchange)
    → IsAfter s (taken_by s at commit x) (take_step s at commit x)
takes_run s at commit None = (refl, refl)
takes_run s at commit (Some x) = take_run s at commit x.source x.driver.stage

stage_run : (x : Bool) (s t : WorldState) → IsAfter s [] t → IsAfter s [] (if x then t else s)
stage_run true s t after = after
stage_run false s t after = (refl, refl)

given_run : (s : WorldState) (at n place : ℕ) (g : Option UpdateGiven) → IsAfter s [] (given_to s at n place g)
given_run s at n place None = (refl, refl)
given_run s at n place (Some g) =
    stage_run (g.attempt == n) s (taking s at n (Some g.said) (UpdateSource.Given place)) (refl, refl)

from_run : (s : WorldState) (at n : ℕ) (source : UpdateSource) → IsAfter s [] (answer_from s at n source)
from_run s at n UpdateSource.Nowhere = (refl, refl)
from_run s at n (UpdateSource.Given place) = given_run s at n place (slice_get s.cell.given place)
from_run s at n (UpdateSource.Another answer) =
    stage_run (may_be_anothers answer) s
    (taking s at n (Some (Said.Answer answer)) (UpdateSource.Another answer)) (refl, refl)

answer_run : (s : WorldState) (at : ℕ) (source : UpdateSource) (stage : PlatformUpdateStage)
    → IsAfter s [] (answer_by s at source stage)
answer_run s at source (PlatformUpdateStage.Send sent) = from_run s at sent.attempt source
answer_run s at source PlatformUpdateStage.Claim = (refl, refl)
answer_run s at source (PlatformUpdateStage.Take n said) = (refl, refl)
answer_run s at source (PlatformUpdateStage.Unsure n) = (refl, refl)
answer_run s at source PlatformUpdateStage.Done = (refl, refl)

answers_run : (s : WorldState) (at : ℕ) (source : UpdateSource) (x : Option UpdateExchange)
    → IsAfter s [] (answer_step s at source x)
answers_run s at source None = (refl, refl)
answers_run s at source (Some x) = answer_run s at source x.driver.stage

step_run : (s : WorldState) (happening : PlatformUpdateHappening)
    → IsAfter s (happened s happening) (world_step s happening)
step_run s (PlatformUpdateHappening.Outside e) = event_run (is_outside e) s (with_cell s e) e (refl, refl)
step_run s (PlatformUpdateHappening.Live life settings t) =
    event_run (may_live_in s life settings t) s (lived s life settings t) (UpdatesEvent.Live life settings) (refl, refl)
step_run s PlatformUpdateHappening.Begin = (refl, refl)
step_run s (PlatformUpdateHappening.Claim at w commit) = claims_run s at w commit (slice_get s.exchanges at)
step_run s (PlatformUpdateHappening.Answer at source) = answers_run s at source (slice_get s.exchanges at)
step_run s (PlatformUpdateHappening.Take at commit) = takes_run s at commit (slice_get s.exchanges at)

pub are_runs : AreRuns
are_runs s happening = (step_run s happening).0

-- ---- from the beginning

joined : (a b c : UpdatesCell) → IsRun a b → IsRun b c → IsRun a c
joined a b c p q = (p.0 ++ q.0, q.1 ∙ (ap (λ (x : UpdatesCell). updates_steps x q.0) p.1 ∙ sym (steps_on a p.0 q.0)))

all_sound : (s : WorldState) (hs : List PlatformUpdateHappening) → IsSound s → IsSound (world_steps s hs)
all_sound s [] h = h
all_sound s (x ∷ xs) h = all_sound (world_step s x) xs (stays_sound s x h)

all_run : (c : UpdatesCell) (s : WorldState) (hs : List PlatformUpdateHappening) → IsRun c s.cell
    → IsRun c (world_steps s hs).cell
all_run c s [] run = run
all_run c s (x ∷ xs) run =
    all_run c (world_step s x) xs (joined c s.cell (world_step s x).cell run (happened s x, are_runs s x))

agrees_in : (s : WorldState) → IsSound s → AgreesOnSettings (as_committed s)
agrees_in s h =
    subst
    (λ (x : Option Recorded). AgreesOnSettings (record s.cell {
      life = record s.cell.life { recorded = x };
      recorded = recorded_in s.first s.change;
    }))
    (sym h.instance)
    (subst (λ (x : UpdateRecord). AgreesOnSettings (record s.cell { recorded = x })) (sym h.change)
    (agrees s.cell h.possible))

first_sound : (service : ℕ) (first : Settings) → IsSound (empty_world service first)
first_sound service first = record {
  instance = refl;
  change = refl;
  possible = at_first service first;
  knows = λ at x is. cc;
  owns = λ at x is. cc;
}

all_first : (s : WorldState) (hs : List PlatformUpdateHappening) → (world_steps s hs).first ≡ s.first
all_first s [] = refl
all_first s (x ∷ xs) = all_first (world_step s x) xs ∙ (step_run s x).1

pub always_agrees : AlwaysAgrees
always_agrees service first hs =
    let s = world_steps (empty_world service first) hs in
    let sound = all_sound (empty_world service first) hs (first_sound service first) in
    let run : IsRun (no_updates service first) s.cell =
    all_run (no_updates service first) (empty_world service first) hs ([], refl) in
    record {
      sound = sound;
      run = run;
      provision = all_first (empty_world service first) hs;
      agrees = agrees_in s sound;
    }
