-- What a line adds to a schedule that stands in memory.
use Rattle.std.proofs.Common.{◌≡◌, ℕ, List, [], ◌∷◌, ◌++◌, sym, ◌∙◌}
use Rattle.std.specs.Prelude.{Result}
use Rattle.osb_language.specs.declared.fault.LineFault.{LineFault}
use Rattle.osb_language.specs.declared.line.Line.{Line}
use Rattle.osb_language.specs.Language.{line_of}
use Rattle.osb_lines.specs.declared.schedule.Schedule.{Schedule}
use Rattle.osb_lines.specs.Schedule.{event_in, fault_after, said_fault, with_plan, IsScheduleOf}
use Rattle.osb_lines.proofs.Adding.{catalogue-more, events-more, said-as}

-- the fault of what it says
pub schedule_fault : (earlier : List (List ℕ)) (line : List ℕ) (said : Result Line LineFault) (schedule : Schedule)
    → IsScheduleOf earlier schedule → line_of line ≡ said
    → said_fault earlier line ≡ fault_after schedule.catalogue schedule.events.items said
schedule_fault earlier line said schedule told says =
    said-as earlier line said says ∙ sym (λ i. fault_after (told.catalogue i) (told.events i) said)

-- one line more
pub schedule_more : (earlier : List (List ℕ)) (line : List ℕ) (said : Result Line LineFault) (old new : Schedule)
    → IsScheduleOf earlier old
    → line_of line ≡ said → new.catalogue ≡ with_plan old.catalogue said
    → new.events.items ≡ old.events.items ++ event_in said
    → IsScheduleOf (earlier ++ line ∷ []) new
schedule_more earlier line said old new told says catalogue events = record {
  catalogue = catalogue ∙ (λ i. with_plan (told.catalogue i) (sym says i)) ∙ sym (catalogue-more earlier line);
  events = events ∙ (λ i. told.events i ++ event_in (sym says i)) ∙ sym (events-more earlier line);
}
