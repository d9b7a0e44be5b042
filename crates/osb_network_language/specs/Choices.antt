-- The choices of the language: each word, and what it stands for (this project's choice).
use Rattle.std.specs.Prelude.{ℕ, Bool, true, false, List, [], ◌∷◌, Some, None, Result, Ok, codes}
use Rattle.osb_instance.specs.declared.outcome.Rejection.TheVariants.{BadRequest, UnprocessableEntity}
use Rattle.osb_instance.specs.declared.outcome.WorkOutcome.{WorkOutcome}
use Rattle.osb_instance.specs.declared.outcome.WorkOutcome.TheVariants.{Done, Before, After, Refused}
use Rattle.osb_language.specs.declared.fault.LineFault.{LineFault}
use Rattle.osb_message.specs.declared.catalogue.Mode.TheVariants.{Sync, Async}
use Rattle.osb_network.specs.declared.event.Event.TheVariants as Happens
use Rattle.osb_network.specs.declared.resource.Resource.TheVariants.{Absent, Part, Whole}
use Rattle.osb_network_language.specs.declared.choices.Becomes.{Becomes}
use Rattle.osb_network_language.specs.declared.choices.Crashes.{Crashes}
use Rattle.osb_network_language.specs.declared.choices.Ends.{Ends}
use Rattle.osb_network_language.specs.declared.choices.FirstPoll.{FirstPoll}
use Rattle.osb_network_language.specs.declared.choices.Kept.{Kept}
use Rattle.osb_network_language.specs.declared.choices.PlanMode.{PlanMode}
use Rattle.osb_network_language.specs.declared.choices.Retrievable.{Retrievable}

-- how a plan works, or none if it isn't on sale
abbrev pub plan_modes : List (List ℕ × PlanMode)
plan_modes =
    (codes "sync", record { 0 = Some Sync }) ∷ (codes "async", record { 0 = Some Async })
    ∷ (codes "none", record { 0 = None }) ∷ []

-- whether the broker has the rule of the first Poll
abbrev pub first_polls : List (List ℕ × FirstPoll)
first_polls = (codes "first-poll", record { 0 = true }) ∷ (codes "at-once", record { 0 = false }) ∷ []

-- whether the broker serves a Fetch of a binding
abbrev pub fetches : List (List ℕ × Retrievable)
fetches = (codes "fetch", record { 0 = true }) ∷ (codes "no-fetch", record { 0 = false }) ∷ []

abbrev pub sides : Bool → Bool → Kept
sides platform broker = record { 0 = record { platform = platform; broker = broker } }

abbrev pub kept_by : Bool → Bool → Result Kept LineFault
kept_by platform broker = Ok (sides platform broker)

-- which side keeps the rules
abbrev pub rules : List (List ℕ × Kept)
rules =
    (codes "both", sides true true) ∷ (codes "platform", sides true false)
    ∷ (codes "broker", sides false true) ∷ (codes "none", sides false false) ∷ []

-- what there is of the resource
abbrev pub resources : List (List ℕ × Becomes)
resources =
    (codes "absent", record { 0 = Absent }) ∷ (codes "part", record { 0 = Part })
    ∷ (codes "whole", record { 0 = Whole }) ∷ []

abbrev pub ending : WorkOutcome → Ends
ending outcome = record { 0 = Happens.End outcome }

abbrev pub ends_as : WorkOutcome → Result Ends LineFault
ends_as outcome = Ok (ending outcome)

-- how the pending work ends
abbrev pub endings : List (List ℕ × Ends)
endings =
    (codes "done", ending Done) ∷ (codes "before", ending Before) ∷ (codes "after", ending After)
    ∷ (codes "refused-400", ending (Refused BadRequest)) ∷ (codes "refused-422", ending (Refused UnprocessableEntity))
    ∷ (codes "unknown", record { 0 = Happens.EndUnknown }) ∷ []

-- which side crashes
abbrev pub crashes : List (List ℕ × Crashes)
crashes =
    (codes "broker", record { 0 = Happens.CrashBroker }) ∷ (codes "platform", record { 0 = Happens.CrashPlatform }) ∷ []
