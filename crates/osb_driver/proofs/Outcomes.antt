-- A worker's outcome is true of what exists and of what is on disk.
use Rattle.std.proofs.Common.{◌≡◌, Bool, true, false, refl, sym, subst, List, [], ◌∷◌}
use Rattle.std.specs.Prelude.{⊤, Option, Some, None}
use Rattle.osb_message.specs.declared.catalogue.Mode.{Mode}
use Rattle.osb_message.specs.declared.messages.Kind.{Kind}
use Rattle.osb_instance.specs.declared.outcome.Rejection.{Rejection}
use Rattle.osb_instance.specs.declared.outcome.WorkOutcome.{WorkOutcome}
use Rattle.osb_network.specs.Truth.{is_true_end}
use Rattle.osb_network.specs.declared.resource.Resource.{Resource}
use Rattle.osb_network.specs.declared.resource.Resource.TheVariants.{Absent, Part, Whole}
use Rattle.osb_driver.specs.Backend.{BackendState, EndsTruly, HasEndedTruly, backend_step, backend_steps, begun}
use Rattle.osb_driver.specs.Worker.{IsTrueOf, found, nothing_made}
use Rattle.osb_driver.specs.declared.backend.BackendEvent.{BackendEvent}
use Rattle.osb_driver.specs.declared.worker.Look.{Look}
use Rattle.osb_driver.specs.declared.worker.WorkerStage.{WorkerStage}

-- ---- the outcomes are true

whole_part : Whole ≡ Part → ⊥
whole_part e = cc

absent_part : Absent ≡ Part → ⊥
absent_part e = cc

not_both : true ≡ false → ⊥
not_both e = cc

made_whole : (mode : Option Mode) → is_true_end mode Kind.Provision WorkOutcome.Done Whole ≡ true
made_whole None = refl
made_whole (Some Mode.Sync) = refl
made_whole (Some Mode.Async) = refl

deleted_whole : (mode : Option Mode) → is_true_end mode Kind.Deprovision WorkOutcome.Done Absent ≡ true
deleted_whole None = refl
deleted_whole (Some Mode.Sync) = refl
deleted_whole (Some Mode.Async) = refl

left_whole : (mode : Option Mode) → is_true_end mode Kind.Deprovision WorkOutcome.Before Whole ≡ true
left_whole None = refl
left_whole (Some Mode.Sync) = refl
left_whole (Some Mode.Async) = refl

is_made : IsTrueOf true WorkOutcome.Done Whole
is_made = record { work = made_whole; alone = λ m r. made_whole m; operation = refl; whole = whole_part }

is_unmade : (rejection : Option Rejection) → IsTrueOf true (nothing_made rejection) Absent
is_unmade None = record { work = λ m. refl; alone = λ m r. refl; operation = refl; whole = absent_part }
is_unmade (Some r) = record { work = λ m. refl; alone = λ m r. refl; operation = refl; whole = absent_part }

is_deleted : IsTrueOf false WorkOutcome.Done Absent
is_deleted = record { work = deleted_whole; alone = λ m r. deleted_whole m; operation = refl; whole = absent_part }

is_left : IsTrueOf false WorkOutcome.Before Whole
is_left = record { work = left_whole; alone = λ m r. refl; operation = refl; whole = whole_part }

-- ---- what stays so

-- nothing goes on, and what exists is on disk
pub record IsStill (state : BackendState) : Type 0 where
  pub disk : state.disk ≡ state.there
  pub rests : state.hangs ≡ false

pub record IsTrueEnd (creates : Bool) (state : BackendState) (outcome : WorkOutcome) : Type 0 where
  pub truth : IsTrueOf creates outcome state.there
  pub still : IsStill state

-- once its first look has returned, a worker knows that nothing goes on; each later look finds all of it on disk
abbrev KnowsLook : BackendState → Look → Type 0
KnowsLook s Look.First = ⊤
KnowsLook s look = IsStill s

abbrev Knows : Bool → BackendState → WorkerStage → Type 0
Knows c s (WorkerStage.Look look) = KnowsLook s look
Knows c s (WorkerStage.Sync look) = ⊤
Knows c s WorkerStage.Try = s.hangs ≡ false
Knows c s WorkerStage.Undo = s.hangs ≡ false
Knows c s (WorkerStage.Ended outcome) = IsTrueEnd c s outcome
Knows c s WorkerStage.Unknown = ⊤

pub record Goes (creates : Bool) (state : BackendState) : Type 0 where
  pub same : state.worker.creates ≡ creates
  pub knows : Knows creates state state.worker.stage

-- a look that isn't the first one
abbrev IsLater : Look → Type 0
IsLater Look.First = ⊥
IsLater look = ⊤

-- the state in its parts
abbrev of_parts : Bool → Option Rejection → WorkerStage → Resource → Resource → Bool → BackendState
of_parts c r st t d h =
    record { worker = record { creates = c; rejection = r; stage = st }; there = t; disk = d; hangs = h }

same_goes : (c : Bool) (r : Option Rejection) (st : WorkerStage) (t d : Resource) (h : Bool)
    → Knows c (of_parts c r st t d h) st → Goes c (of_parts c r st t d h)
same_goes c r st t d h k = record { same = refl; knows = k }

change_goes : (c : Bool) (r : Option Rejection) (st : WorkerStage) (t d : Resource) (h : Bool) (n : Resource)
    → Knows c (of_parts c r st t d h) st → Goes c (backend_step (of_parts c r st t d h) (BackendEvent.Change n))
change_goes c r WorkerStage.Try t d h n k = record { same = refl; knows = k }
change_goes c r WorkerStage.Undo t d h n k = record { same = refl; knows = k }
change_goes c r (WorkerStage.Look Look.First) t d true n k = record { same = refl; knows = tt }
change_goes c r (WorkerStage.Look Look.Again) t d true n k = absurd (not_both k.rests)
change_goes c r (WorkerStage.Look Look.Tried) t d true n k = absurd (not_both k.rests)
change_goes c r (WorkerStage.Look Look.Undone) t d true n k = absurd (not_both k.rests)
change_goes c r (WorkerStage.Sync look) t d true n k = record { same = refl; knows = tt }
change_goes c r (WorkerStage.Ended outcome) t d true n k = absurd (not_both k.still.rests)
change_goes c r WorkerStage.Unknown t d true n k = record { same = refl; knows = tt }
change_goes c r (WorkerStage.Look look) t d false n k = same_goes c r (WorkerStage.Look look) t d false k
change_goes c r (WorkerStage.Sync look) t d false n k = same_goes c r (WorkerStage.Sync look) t d false k
change_goes c r (WorkerStage.Ended outcome) t d false n k = same_goes c r (WorkerStage.Ended outcome) t d false k
change_goes c r WorkerStage.Unknown t d false n k = same_goes c r WorkerStage.Unknown t d false k

-- a call that returns leaves all on disk, or is followed by a sync
return_goes : (c : Bool) (r : Option Rejection) (st : WorkerStage) (t d : Resource) (h : Bool)
    (ok : Bool) (rejection : Option Rejection) (on : Bool) → Knows c (of_parts c r st t d h) st
    → Goes c (backend_step (of_parts c r st t d h) (BackendEvent.Return ok rejection on))
return_goes c r WorkerStage.Try t d true ok rejection on k = absurd (not_both k)
return_goes c r WorkerStage.Undo t d true ok rejection on k = absurd (not_both k)
return_goes c r WorkerStage.Try t d false true rejection on k =
    record { same = refl; knows = record { disk = refl; rests = refl } }
return_goes c r WorkerStage.Undo t d false true rejection on k =
    record { same = refl; knows = record { disk = refl; rests = refl } }
return_goes c r WorkerStage.Try t d false false rejection on k = record { same = refl; knows = tt }
return_goes c r WorkerStage.Undo t d false false rejection on k = record { same = refl; knows = tt }
return_goes c r (WorkerStage.Look look) t d h ok rejection on k = same_goes c r (WorkerStage.Look look) t d h k
return_goes c r (WorkerStage.Sync look) t d h ok rejection on k = same_goes c r (WorkerStage.Sync look) t d h k
return_goes c r (WorkerStage.Ended outcome) t d h ok rejection on k = same_goes c r (WorkerStage.Ended outcome) t d h k
return_goes c r WorkerStage.Unknown t d h ok rejection on k = same_goes c r WorkerStage.Unknown t d h k

rest_goes : (c : Bool) (r : Option Rejection) (st : WorkerStage) (t d : Resource) (h : Bool)
    → Knows c (of_parts c r st t d h) st → Goes c (backend_step (of_parts c r st t d h) BackendEvent.Rest)
rest_goes c r (WorkerStage.Look Look.First) t d h k = record { same = refl; knows = tt }
rest_goes c r (WorkerStage.Look Look.Again) t d h k =
    record { same = refl; knows = record { disk = k.disk; rests = refl } }
rest_goes c r (WorkerStage.Look Look.Tried) t d h k =
    record { same = refl; knows = record { disk = k.disk; rests = refl } }
rest_goes c r (WorkerStage.Look Look.Undone) t d h k =
    record { same = refl; knows = record { disk = k.disk; rests = refl } }
rest_goes c r (WorkerStage.Sync look) t d h k = record { same = refl; knows = tt }
rest_goes c r WorkerStage.Try t d h k = record { same = refl; knows = refl }
rest_goes c r WorkerStage.Undo t d h k = record { same = refl; knows = refl }
rest_goes c r (WorkerStage.Ended outcome) t d h k = record {
  same = refl;
  knows = record { truth = k.truth; still = record { disk = k.still.disk; rests = refl } };
}
rest_goes c r WorkerStage.Unknown t d h k = record { same = refl; knows = tt }

-- what a look makes of a worker when nothing goes on
found_first : (c : Bool) (r : Option Rejection) (t d : Resource)
    → Knows c (of_parts c r (found c Look.First t r) t d false) (found c Look.First t r)
found_first true r Whole d = tt
found_first true r Absent d = refl
found_first true r Part d = refl
found_first false r Whole d = refl
found_first false r Absent d = tt
found_first false r Part d = refl

ends : (c : Bool) (r : Option Rejection) (t d : Resource) (outcome : WorkOutcome) → d ≡ t → IsTrueOf c outcome t
    → IsTrueEnd c (of_parts c r (WorkerStage.Ended outcome) t d false) outcome
ends c r t d outcome e true_of = record { truth = true_of; still = record { disk = e; rests = refl } }

found_later : (c : Bool) (r : Option Rejection) (look : Look) (t d : Resource) → d ≡ t → IsLater look
    → Knows c (of_parts c r (found c look t r) t d false) (found c look t r)
found_later c r Look.First t d e l = absurd l
found_later true r Look.Again Whole d e l = ends true r Whole d WorkOutcome.Done e is_made
found_later true r Look.Again Absent d e l = refl
found_later true r Look.Again Part d e l = refl
found_later true r Look.Tried Whole d e l = ends true r Whole d WorkOutcome.Done e is_made
found_later true r Look.Tried Absent d e l = ends true r Absent d (nothing_made r) e (is_unmade r)
found_later true r Look.Tried Part d e l = refl
found_later true r Look.Undone Whole d e l = ends true r Whole d WorkOutcome.Done e is_made
found_later true r Look.Undone Absent d e l = ends true r Absent d (nothing_made r) e (is_unmade r)
found_later true r Look.Undone Part d e l = tt
found_later false r Look.Again Absent d e l = ends false r Absent d WorkOutcome.Done e is_deleted
found_later false r Look.Again Whole d e l = refl
found_later false r Look.Again Part d e l = refl
found_later false r Look.Tried Absent d e l = ends false r Absent d WorkOutcome.Done e is_deleted
found_later false r Look.Tried Whole d e l = ends false r Whole d WorkOutcome.Before e is_left
found_later false r Look.Tried Part d e l = tt
found_later false r Look.Undone Absent d e l = ends false r Absent d WorkOutcome.Done e is_deleted
found_later false r Look.Undone Whole d e l = ends false r Whole d WorkOutcome.Before e is_left
found_later false r Look.Undone Part d e l = tt

look_goes : (c : Bool) (r : Option Rejection) (st : WorkerStage) (t d : Resource) (h : Bool)
    → Knows c (of_parts c r st t d h) st → Goes c (backend_step (of_parts c r st t d h) BackendEvent.Look)
look_goes c r st t d true k = same_goes c r st t d true k
look_goes c r (WorkerStage.Look Look.First) t d false k = record { same = refl; knows = found_first c r t d }
look_goes c r (WorkerStage.Look Look.Again) t d false k =
    record { same = refl; knows = found_later c r Look.Again t d k.disk tt }
look_goes c r (WorkerStage.Look Look.Tried) t d false k =
    record { same = refl; knows = found_later c r Look.Tried t d k.disk tt }
look_goes c r (WorkerStage.Look Look.Undone) t d false k =
    record { same = refl; knows = found_later c r Look.Undone t d k.disk tt }
look_goes c r (WorkerStage.Sync look) t d false k = same_goes c r (WorkerStage.Sync look) t d false k
look_goes c r WorkerStage.Try t d false k = same_goes c r WorkerStage.Try t d false k
look_goes c r WorkerStage.Undo t d false k = same_goes c r WorkerStage.Undo t d false k
look_goes c r (WorkerStage.Ended outcome) t d false k = same_goes c r (WorkerStage.Ended outcome) t d false k
look_goes c r WorkerStage.Unknown t d false k = same_goes c r WorkerStage.Unknown t d false k

on_disk : (c : Bool) (r : Option Rejection) (look : Look) (t : Resource)
    → KnowsLook (of_parts c r (WorkerStage.Look look) t t false) look
on_disk c r Look.First t = tt
on_disk c r Look.Again t = record { disk = refl; rests = refl }
on_disk c r Look.Tried t = record { disk = refl; rests = refl }
on_disk c r Look.Undone t = record { disk = refl; rests = refl }

sync_goes : (c : Bool) (r : Option Rejection) (st : WorkerStage) (t d : Resource) (h : Bool)
    → Knows c (of_parts c r st t d h) st → Goes c (backend_step (of_parts c r st t d h) BackendEvent.Sync)
sync_goes c r (WorkerStage.Sync look) t d true k = same_goes c r (WorkerStage.Sync look) t d true k
sync_goes c r (WorkerStage.Sync look) t d false k = record { same = refl; knows = on_disk c r look t }
sync_goes c r (WorkerStage.Look look) t d h k = same_goes c r (WorkerStage.Look look) t d h k
sync_goes c r WorkerStage.Try t d h k = same_goes c r WorkerStage.Try t d h k
sync_goes c r WorkerStage.Undo t d h k = same_goes c r WorkerStage.Undo t d h k
sync_goes c r (WorkerStage.Ended outcome) t d h k = same_goes c r (WorkerStage.Ended outcome) t d h k
sync_goes c r WorkerStage.Unknown t d h k = same_goes c r WorkerStage.Unknown t d h k

fail_goes : (c : Bool) (r : Option Rejection) (st : WorkerStage) (t d : Resource) (h : Bool)
    → Knows c (of_parts c r st t d h) st → Goes c (backend_step (of_parts c r st t d h) BackendEvent.Fail)
fail_goes c r WorkerStage.Try t d h k = same_goes c r WorkerStage.Try t d h k
fail_goes c r WorkerStage.Undo t d h k = same_goes c r WorkerStage.Undo t d h k
fail_goes c r (WorkerStage.Look look) t d h k = record { same = refl; knows = tt }
fail_goes c r (WorkerStage.Sync look) t d h k = record { same = refl; knows = tt }
fail_goes c r (WorkerStage.Ended outcome) t d h k = same_goes c r (WorkerStage.Ended outcome) t d h k
fail_goes c r WorkerStage.Unknown t d h k = record { same = refl; knows = tt }

kill_goes : (c : Bool) (r : Option Rejection) (st : WorkerStage) (t d : Resource) (h : Bool)
    → Knows c (of_parts c r st t d h) st → Goes c (backend_step (of_parts c r st t d h) BackendEvent.Kill)
kill_goes c r (WorkerStage.Ended outcome) t d h k = same_goes c r (WorkerStage.Ended outcome) t d h k
kill_goes c r (WorkerStage.Look look) t d h k = record { same = refl; knows = tt }
kill_goes c r (WorkerStage.Sync look) t d h k = record { same = refl; knows = tt }
kill_goes c r WorkerStage.Try t d h k = record { same = refl; knows = tt }
kill_goes c r WorkerStage.Undo t d h k = record { same = refl; knows = tt }
kill_goes c r WorkerStage.Unknown t d h k = record { same = refl; knows = tt }

power_cut_goes : (c : Bool) (r : Option Rejection) (st : WorkerStage) (t d : Resource) (h : Bool) (n : Resource)
    → Knows c (of_parts c r st t d h) st → Goes c (backend_step (of_parts c r st t d h) (BackendEvent.PowerCut n))
power_cut_goes c r (WorkerStage.Ended outcome) t d h n k = same_goes c r (WorkerStage.Ended outcome) t d h k
power_cut_goes c r (WorkerStage.Look look) t d h n k = record { same = refl; knows = tt }
power_cut_goes c r (WorkerStage.Sync look) t d h n k = record { same = refl; knows = tt }
power_cut_goes c r WorkerStage.Try t d h n k = record { same = refl; knows = tt }
power_cut_goes c r WorkerStage.Undo t d h n k = record { same = refl; knows = tt }
power_cut_goes c r WorkerStage.Unknown t d h n k = record { same = refl; knows = tt }

step_goes : (c : Bool) (r : Option Rejection) (st : WorkerStage) (t d : Resource) (h : Bool) (event : BackendEvent)
    → Knows c (of_parts c r st t d h) st → Goes c (backend_step (of_parts c r st t d h) event)
step_goes c r st t d h (BackendEvent.Change n) k = change_goes c r st t d h n k
step_goes c r st t d h (BackendEvent.Return ok rejection on) k = return_goes c r st t d h ok rejection on k
step_goes c r st t d h BackendEvent.Rest k = rest_goes c r st t d h k
step_goes c r st t d h BackendEvent.Look k = look_goes c r st t d h k
step_goes c r st t d h BackendEvent.Sync k = sync_goes c r st t d h k
step_goes c r st t d h BackendEvent.Fail k = fail_goes c r st t d h k
step_goes c r st t d h BackendEvent.Kill k = kill_goes c r st t d h k
step_goes c r st t d h (BackendEvent.PowerCut n) k = power_cut_goes c r st t d h n k

goes_step : (c : Bool) (s : BackendState) (event : BackendEvent) → Goes c s → Goes c (backend_step s event)
goes_step c s event g =
    subst (λ c. Goes c (backend_step s event)) g.same
    (step_goes s.worker.creates s.worker.rejection s.worker.stage s.there s.disk s.hangs event
    (subst (λ c. Knows c s s.worker.stage) (sym g.same) g.knows))

goes_steps : (c : Bool) (s : BackendState) (events : List BackendEvent) → Goes c s → Goes c (backend_steps s events)
goes_steps c s [] g = g
goes_steps c s (event ∷ more) g = goes_steps c (backend_step s event) more (goes_step c s event g)

knows_end : (c : Bool) (s : BackendState) (st : WorkerStage) → Knows c s st → HasEndedTruly c s st
knows_end c s (WorkerStage.Ended outcome) k = (k.truth, (k.still.disk, k.still.rests))
knows_end c s (WorkerStage.Look look) k = tt
knows_end c s (WorkerStage.Sync look) k = tt
knows_end c s WorkerStage.Try k = tt
knows_end c s WorkerStage.Undo k = tt
knows_end c s WorkerStage.Unknown k = tt

pub ends_truly : EndsTruly
ends_truly c t d h events =
    let s = backend_steps (begun c t d h) events in
    knows_end c s s.worker.stage
    (goes_steps c (begun c t d h) events (record { same = refl; knows = tt })).knows
