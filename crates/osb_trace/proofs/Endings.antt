-- How a telling ends: with the last line, with a fault, or with the rounds.
use Rattle.std.proofs.Common.{◌≡◌, ℕ, ◌+◌, Bool, true, false, List, [], ◌∷◌, ◌++◌, length, take, refl, sym, ap, ◌∙◌, subst}
use Rattle.std.proofs.Common.{append-nil}
use Rattle.std.proofs.KnownBytes.{Appends-trans}
use Rattle.std.specs.Prelude.{Option}
use Rattle.std.specs.Io.KnownBytes.{Appends, Consumes, IsAtEnd}
use Rattle.osb_language.specs.Conversions.{replay_fault}
use Rattle.osb_language.specs.declared.replay_fault.ReplayFault.{ReplayFault}
use Rattle.osb_language.specs.declared.replay_fault.ReplayFault.TheVariants.{Schedule, Read, Write, Memory}
use Rattle.osb_language.specs.declared.replay_fault.ScheduleFault.{ScheduleFault}
use Rattle.osb_language.specs.declared.replay_fault.ScheduleFault.TheVariants as Found
use Rattle.osb_lines.specs.Faults.{IsFirstFault}
use Rattle.osb_lines.specs.Lines.{lines}
use Rattle.osb_lines.specs.Reading.{Reading, RefusesAt}
use Rattle.osb_lines.specs.Schedule.{catalogue_in, events_in}
use Rattle.osb_trace.proofs.Pieces.{ended_first, HasToldAll}
use Rattle.osb_trace.proofs.Telling.{tells_one}
use Rattle.osb_trace.specs.Columns.{header}
use Rattle.osb_trace.specs.Passing.{IsWhyStopped, TellsMore}
use Rattle.osb_trace.specs.Settling.{IsSettlingTold}
use Rattle.osb_trace.specs.Telling.{IsLineTold}
use Rattle.osb_trace.specs.Trace.{IsWhyUntold, TellsTrace, WritesLines}
use Rattle.osb_trace.specs.declared.tracer.Tracer.{Tracer}

-- after the header
pub writes : (instance : Option ℕ) (all : List (List ℕ)) (first middle last : Option (List ℕ))
    → Appends first middle header → TellsMore instance [] all middle last → WritesLines instance first last all
writes instance all first middle last front tells =
    (tells.text, tells.told, Appends-trans first middle last header tells.text front tells.passed)

-- the input wasn't told whole
pub stopped_whole : (instance : Option ℕ) (unread left first middle last : Option (List ℕ))
    (input_refused output_refused : Bool) (fault : ReplayFault)
    → Appends first middle header → IsWhyStopped instance unread left input_refused middle last output_refused fault
    → IsWhyUntold instance unread left input_refused first last output_refused fault
stopped_whole instance unread left first middle last input_refused output_refused (Schedule line fault) front
    (bytes, ended, n, number, reads, tells) =
    (bytes, ended, n, number, reads, writes instance (take n (lines bytes)) first middle last front tells)
stopped_whole instance unread left first middle last input_refused output_refused Read front (bytes, part, refused, tells) =
    (bytes, part, refused, writes instance _ first middle last front tells)
stopped_whole instance unread left first middle last input_refused output_refused Write front why = why
stopped_whole instance unread left first middle last input_refused output_refused Memory front why = tt

-- the last line has a fault
pub stopped_last : (instance : Option ℕ) (unread left first middle last : Option (List ℕ))
    (input_refused output_refused : Bool) (bytes : List ℕ) (reader : Reading Tracer) (fault : ScheduleFault)
    → Appends first middle header → Consumes unread left bytes → IsAtEnd left
    → HasToldAll instance bytes reader middle last → RefusesAt reader.ended bytes true fault
    → IsWhyUntold instance unread left input_refused first last output_refused (replay_fault fault)
stopped_last instance unread left first middle last input_refused output_refused bytes reader (Found.At line fault) front
    consumed at_end (ended, read, tells) (number, here) =
    let are_first : take (length ended) (lines bytes) ≡ ended =
    rw (append-nil bytes) at (ended_first bytes [] ended reader.held read.split) in (
      bytes,
      true,
      length ended,
      number ∙ ap (λ n. n + 1) read.number,
      record {
        consumed = consumed;
        at_end = λ stop. at_end;
        first = subst (λ n. IsFirstFault bytes true n fault) read.number here;
      },
      writes instance (take (length ended) (lines bytes)) first middle last front
          (subst (λ all. TellsMore instance [] all middle last) (sym are_first) tells),
    )
stopped_last instance unread left first middle last input_refused output_refused bytes reader Found.Memory front consumed
    at_end told here = tt

-- the last line is told, where one was held
pub told_held : (instance : Option ℕ) (bytes : List ℕ) (ended : List (List ℕ)) (line text : List ℕ)
    (first middle last : Option (List ℕ))
    → lines bytes ≡ ended ++ line ∷ [] → TellsMore instance [] ended first middle
    → IsLineTold instance ended line text → Appends middle last text
    → TellsMore instance [] (lines bytes) first last
told_held instance bytes ended line text first middle last all tells told passed =
    subst (λ all. TellsMore instance [] all first last) (sym all)
    (tells_one instance [] ended line text first middle last tells told passed)

-- no rounds are asked for
none_settled : (instance : Option ℕ) (settle : Bool) (bytes : List ℕ) → settle ≡ false
    → IsSettlingTold instance settle (catalogue_in (lines bytes)) (events_in (lines bytes)) []
none_settled instance settle bytes unasked = rw unasked refl

pub traced_plain : (instance : Option ℕ) (settle : Bool) (bytes : List ℕ) (first last : Option (List ℕ))
    → settle ≡ false → WritesLines instance first last (lines bytes) → TellsTrace instance settle first last bytes
traced_plain instance settle bytes first last unasked (told, events, written) = record {
  told = told;
  settled = [];
  events = events;
  rounds = none_settled instance settle bytes unasked;
  written = subst (Appends first last) (sym (append-nil (header ++ told))) written;
}

-- the rounds are told too
pub traced_settled : (instance : Option ℕ) (settle : Bool) (bytes text : List ℕ) (first middle last : Option (List ℕ))
    → settle ≡ true → WritesLines instance first middle (lines bytes)
    → IsSettlingTold instance true (catalogue_in (lines bytes)) (events_in (lines bytes)) text
    → Appends middle last text → TellsTrace instance settle first last bytes
traced_settled instance settle bytes text first middle last asked (told, events, written) rounds passed = record {
  told = told;
  settled = text;
  events = events;
  rounds = rw asked rounds;
  written = Appends-trans first middle last (header ++ told) text written passed;
}
