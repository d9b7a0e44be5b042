-- Whatever happens to an instance, from the beginning: the row, what the broker holds and the resource agree.
use Rattle.std.proofs.Common.{◌≡◌, Bool, true, false, refl, sym, ap, subst, ◌∙◌, List, [], ◌∷◌, ◌++◌, ℕ}
use Rattle.std.specs.Prelude.{Option, Some, None, if◌then◌else◌, ◌==◌, slice_get}
use Rattle.osb_platform.specs.Statuses.{is_within}
use Rattle.osb_instance.specs.Recorded.{Recorded}
use Rattle.osb_network.specs.Agreement.{Agrees}
use Rattle.osb_network.specs.Cell.{Cell, empty_cell}
use Rattle.osb_network.specs.Steps.{cell_step, cell_steps}
use Rattle.osb_network.specs.declared.event.Event.{Event}
use Rattle.osb_network.specs.declared.event.Given.{Given}
use Rattle.osb_network.proofs.Agreements.{agrees}
use Rattle.osb_network.proofs.Kept.{possible_empty}
use Rattle.osb_platform_driver.specs.Driver.{resume, take}
use Rattle.osb_platform_driver.specs.declared.driver.Stage.{Stage}
use Rattle.osb_platform_driver.specs.declared.driver.Transaction.{Transaction}
use Rattle.osb_platform_driver.specs.declared.driver.Wishes.{Wishes}
use Rattle.osb_platform_driver.specs.declared.world.Commit.{Commit}
use Rattle.osb_platform_driver.specs.declared.world.Exchange.{Exchange}
use Rattle.osb_platform_driver.specs.declared.world.Happening.{Happening}
use Rattle.osb_platform_driver.specs.declared.world.Source.{Source}
use Rattle.osb_platform_driver.specs.World.{AlwaysAgrees, AreRuns, IsRun, IsSound, WorldState, answer_by, answer_from, answer_step}
use Rattle.osb_platform_driver.specs.World.{claim_by, claim_events, claim_of, claim_step, claimed_by, claimed_events}
use Rattle.osb_platform_driver.specs.World.{committed_events, empty_world, garbled_to, given_to, happened, is_outside, is_owner, resume_events, take_by}
use Rattle.osb_platform_driver.specs.World.{take_events, take_step, taken_by, taken_events, transacted, with_cell, world_step}
use Rattle.osb_platform_driver.specs.World.{world_steps}
use Rattle.osb_platform_driver.proofs.Rows.{steps_on}
use Rattle.osb_platform_driver.proofs.Sound.{stays_sound}

-- ---- runs

event_run : (x : Bool) (s t : WorldState) (e : Event) → t.cell ≡ cell_step s.cell e
    → (if x then t else s).cell ≡ cell_steps s.cell (if x then e ∷ [] else [])
event_run true s t e same = same
event_run false s t e same = refl

commit_run : (commit : Commit) (s : WorldState) (at : ℕ) (tx : Transaction) (es : List Event) (source : Source)
    → (transacted commit s at tx es source).cell ≡ cell_steps s.cell (committed_events commit es)
commit_run Commit.Returned s at tx es source = refl
commit_run Commit.Failed s at tx es source = refl
commit_run (Commit.Unsure true) s at tx es source = refl
commit_run (Commit.Unsure false) s at tx es source = refl

claim_run : (s : WorldState) (at : ℕ) (w : Wishes) (commit : Commit) (stage : Stage)
    → (claim_by s at w commit stage).cell ≡ cell_steps s.cell (claimed_events s.cell w commit stage)
claim_run s at w commit Stage.Claim =
    commit_run commit s at (claim_of s.cell.order w s.row) (claim_events w s.cell.recorded) Source.Nowhere
claim_run s at w commit (Stage.Send n) = refl
claim_run s at w commit (Stage.Take n a) = refl
claim_run s at w commit (Stage.Unsure n) = refl
claim_run s at w commit Stage.Done = refl

claims_run : (s : WorldState) (at : ℕ) (w : Wishes) (commit : Commit) (x : Option Exchange)
    → (claim_step s at w commit x).cell ≡ cell_steps s.cell (claimed_by s.cell w commit x)
claims_run s at w commit None = refl
claims_run s at w commit (Some x) = claim_run s at w commit x.driver.stage

take_run : (s : WorldState) (at : ℕ) (commit : Commit) (source : Source) (stage : Stage)
    → (take_by s at commit source stage).cell ≡ cell_steps s.cell (taken_events s at commit source stage)
take_run s at commit source (Stage.Take n a) =
    commit_run commit s at (take n a s.row) (take_events s.cell.recorded n source) source
take_run s at commit source (Stage.Unsure n) =
    let own = is_owner s.owner at in
    commit_run commit s at (resume own n s.row) (resume_events own s.cell.recorded n) Source.Nowhere
take_run s at commit source Stage.Claim = refl
take_run s at commit source (Stage.Send n) = refl
take_run s at commit source Stage.Done = refl

takes_run : (s : WorldState) (at : ℕ) (commit : Commit) (x : Option Exchange)
    → (take_step s at commit x).cell ≡ cell_steps s.cell (taken_by s at commit x)
takes_run s at commit None = refl
takes_run s at commit (Some x) = take_run s at commit x.source x.driver.stage

stage_run : (x : Bool) (s t : WorldState) → t.cell ≡ s.cell → (if x then t else s).cell ≡ s.cell
stage_run true s t e = e
stage_run false s t e = refl

given_run : (s : WorldState) (at n place : ℕ) (g : Option Given) → (given_to s at n place g).cell ≡ s.cell
given_run s at n place None = refl
given_run s at n place (Some g) = stage_run (g.attempt == n) s _ refl

garbled_run : (s : WorldState) (at n place : ℕ) (g : Option Given) → (garbled_to s at n place g).cell ≡ s.cell
garbled_run s at n place None = refl
garbled_run s at n place (Some g) = stage_run (g.attempt == n) s _ refl

from_run : (s : WorldState) (at n : ℕ) (source : Source) → (answer_from s at n source).cell ≡ s.cell
from_run s at n Source.Nowhere = refl
from_run s at n (Source.Given place) = given_run s at n place (slice_get s.cell.given place)
from_run s at n (Source.Garbled place) = garbled_run s at n place (slice_get s.cell.given place)
from_run s at n (Source.Gateway status) = stage_run (is_within 500 599 status) s _ refl

answer_run : (s : WorldState) (at : ℕ) (source : Source) (stage : Stage) → (answer_by s at source stage).cell ≡ s.cell
answer_run s at source (Stage.Send sent) = from_run s at sent.attempt source
answer_run s at source Stage.Claim = refl
answer_run s at source (Stage.Take n a) = refl
answer_run s at source (Stage.Unsure n) = refl
answer_run s at source Stage.Done = refl

answers_run : (s : WorldState) (at : ℕ) (source : Source) (x : Option Exchange) → (answer_step s at source x).cell ≡ s.cell
answers_run s at source None = refl
answers_run s at source (Some x) = answer_run s at source x.driver.stage

pub are_runs : AreRuns
are_runs s (Happening.Outside e) = event_run (is_outside e) s (with_cell s e) e refl
are_runs s Happening.Begin = refl
are_runs s (Happening.Claim at w commit) = claims_run s at w commit (slice_get s.exchanges at)
are_runs s (Happening.Answer at source) = answers_run s at source (slice_get s.exchanges at)
are_runs s (Happening.Take at commit) = takes_run s at commit (slice_get s.exchanges at)

-- ---- from the beginning

joined : (a b c : Cell) → IsRun a b → IsRun b c → IsRun a c
joined a b c p q = (p.0 ++ q.0, q.1 ∙ (ap (λ (x : Cell). cell_steps x q.0) p.1 ∙ sym (steps_on a p.0 q.0)))

all_sound : (s : WorldState) (hs : List Happening) → IsSound s → IsSound (world_steps s hs)
all_sound s [] h = h
all_sound s (x ∷ xs) h = all_sound (world_step s x) xs (stays_sound s x h)

all_run : (c : Cell) (s : WorldState) (hs : List Happening) → IsRun c s.cell → IsRun c (world_steps s hs).cell
all_run c s [] run = run
all_run c s (x ∷ xs) run =
    all_run c (world_step s x) xs (joined c s.cell (world_step s x).cell run (happened s x, are_runs s x))

agrees_in : (s : WorldState) → IsSound s → Agrees (record s.cell { recorded = s.row })
agrees_in s h =
    subst (λ (x : Option Recorded). Agrees (record s.cell { recorded = x })) (sym h.row) (agrees s.cell h.possible)

pub always_agrees : AlwaysAgrees
always_agrees o hs =
    let s = world_steps (empty_world o) hs in
    let sound = all_sound (empty_world o) hs (record { row = refl; possible = possible_empty o; knows = λ at x is. cc; owns = λ at x is. cc }) in
    let run : IsRun (empty_cell o) s.cell = all_run (empty_cell o) (empty_world o) hs ([], refl) in
    record { sound = sound; run = run; agrees = agrees_in s sound }
