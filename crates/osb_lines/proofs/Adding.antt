-- What one more line adds to the plans and the events of those before it.
use Rattle.std.proofs.Common.{◌≡◌, ℕ, List, [], ◌∷◌, ◌++◌, ap, ◌∙◌, append-nil}
use Rattle.std.proofs.lemmas.List.Concat.{flat_map-append}
use Rattle.std.proofs.lemmas.List.Sums.{fold-append}
use Rattle.std.specs.Prelude.{Result}
use Rattle.std.specs.FinMap as map
use Rattle.osb_language.specs.declared.fault.LineFault.{LineFault}
use Rattle.osb_language.specs.declared.line.Line.{Line}
use Rattle.osb_language.specs.Language.{line_of}
use Rattle.osb_lines.specs.Schedule.{catalogue_in, event_in, events_in, fault_after, said_fault, with_plan}

-- the plans
pub catalogue-more : (earlier : List (List ℕ)) (line : List ℕ)
    → catalogue_in (earlier ++ line ∷ []) ≡ with_plan (catalogue_in earlier) (line_of line)
catalogue-more earlier line = fold-append (λ cat line. with_plan cat (line_of line)) map.empty earlier (line ∷ [])

-- the events
pub events-more : (earlier : List (List ℕ)) (line : List ℕ)
    → events_in (earlier ++ line ∷ []) ≡ events_in earlier ++ event_in (line_of line)
events-more earlier line =
    flat_map-append (λ line. event_in (line_of line)) earlier (line ∷ [])
    ∙ ap (λ events. events_in earlier ++ events) (append-nil (event_in (line_of line)))

-- the fault of a line is that of what it says
pub said-as : (earlier : List (List ℕ)) (line : List ℕ) (said : Result Line LineFault) → line_of line ≡ said
    → said_fault earlier line ≡ fault_after (catalogue_in earlier) (events_in earlier) said
unfolding said_fault
said-as earlier line said e = ap (fault_after (catalogue_in earlier) (events_in earlier)) e
