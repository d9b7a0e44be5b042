-- What is told of a piece of the input joins what was told before.
use Rattle.std.proofs.Common.{◌≡◌, ℕ, ◌+◌, ◌≤◌, Bool, false, List, [], ◌∷◌, ◌++◌, length, length-take, take, drop}
use Rattle.std.proofs.Common.{refl, sym, ap, ◌∙◌, subst, append_assoc, append-nil, arith, take-append-drop, Some, None, IsTrue}
use Rattle.std.proofs.KnownBytes.{Appends-trans}
use Rattle.std.proofs.lemmas.Bool.{false≢true}
use Rattle.std.proofs.lemmas.List.{length-append, take_at}
use Rattle.std.specs.Prelude.{Option}
use Rattle.std.specs.Io.KnownBytes.{append_known, Appends, Consumes}
use Rattle.osb_language.specs.Conversions.{replay_fault}
use Rattle.osb_language.specs.declared.replay_fault.ReplayFault.{ReplayFault}
use Rattle.osb_language.specs.declared.replay_fault.ReplayFault.TheVariants.{Schedule, Read, Write, Memory}
use Rattle.osb_language.specs.declared.replay_fault.ScheduleFault.{ScheduleFault}
use Rattle.osb_language.specs.declared.replay_fault.ScheduleFault.TheVariants as Found
use Rattle.osb_lines.specs.Faults.{IsFirstFault}
use Rattle.osb_lines.specs.Lines.{ended_lines, lines}
use Rattle.osb_lines.specs.Reading.{most_read, Reading, EndedAs, HasReadAs, HasTakenNext, RefusesAt}
use Rattle.osb_lines.specs.Reads.{ReadsPart}
use Rattle.osb_trace.proofs.Telling.{tells_both, tells_one}
use Rattle.osb_trace.specs.Heard.{HasTraced}
use Rattle.osb_trace.specs.Passing.{HasTold, IsUntold, IsWhyStopped, IsWhyStuck, TellsMore}
use Rattle.osb_trace.specs.Telling.{IsLineTold}
use Rattle.osb_trace.specs.declared.tracer.Tracer.{Tracer}

-- ---- one piece

-- the front of the piece is taken and told
pub record ToldFront (instance : Option ℕ) (piece rest : List ℕ) (old new : Reading Tracer)
    (before after : Option (List ℕ)) : Type 0 where
  pub front : List ℕ
  pub all : front ++ rest ≡ piece
  pub told : (bytes : List ℕ) (ended : List (List ℕ)) → HasReadAs HasTraced bytes old ended
      → HasTold instance (bytes ++ front) new ended before after
  pub moved : most_read old + length front ≤ most_read new

-- the sink's last line can be told
abbrev pub CanTell : Option ℕ → Reading Tracer → Option (List ℕ) → Option (List ℕ) → Type 0
CanTell instance reader then after =
    (earlier : List (List ℕ)) (line : List ℕ) → HasTraced (earlier ++ line ∷ []) reader.sink
    → (text : List ℕ) × IsLineTold instance earlier line text × Appends then after text

pub told_next : (instance : Option ℕ) (piece rest : List ℕ) (count : ℕ) (old now new : Reading Tracer)
    (before then after : Option (List ℕ))
    → ToldFront instance piece rest old now before then → count ≤ length rest
    → ((bytes : List ℕ) (ended : List (List ℕ)) → HasReadAs HasTraced bytes now ended
    → (line : List ℕ) × HasReadAs HasTraced (bytes ++ take count rest) new (ended ++ line ∷ []))
    → CanTell instance new then after → most_read now + count ≤ most_read new
    → ToldFront instance piece (drop count rest) old new before after
told_next instance piece rest count old now new before then after so_far within next tell moved = record {
  front = so_far.front ++ take count rest;
  all = append_assoc so_far.front (take count rest) (drop count rest)
      ∙ ap (λ tail. so_far.front ++ tail) (take-append-drop count rest) ∙ so_far.all;
  told = λ bytes ended read.
      let (more, here, tells) = so_far.told bytes ended read in
      let (line, taken) = next (bytes ++ so_far.front) (ended ++ more) here in
      let (text, is_told, passed) = tell (ended ++ more) line taken.took in (
        more ++ line ∷ [],
        subst (λ all. HasReadAs HasTraced all new (ended ++ (more ++ line ∷ [])))
            (append_assoc bytes so_far.front (take count rest))
            (subst (HasReadAs HasTraced ((bytes ++ so_far.front) ++ take count rest) new)
            (append_assoc ended more (line ∷ [])) taken),
        tells_one instance ended more line text before then after tells is_told passed,
      );
  moved =
      let long : length (take count rest) ≡ count = simp length-take (omega arith) in
      let front = length-append so_far.front (take count rest) in
      let before = so_far.moved in
      omega arith;
}

-- a piece without a line feed is taken whole
pub told_whole : (instance : Option ℕ) (piece rest : List ℕ) (old now new : Reading Tracer)
    (before after : Option (List ℕ)) (taken : Option ℕ)
    → ToldFront instance piece rest old now before after → ((count : ℕ) → taken ≡ Some count → ⊥)
    → ((bytes : List ℕ) (ended : List (List ℕ)) → HasReadAs HasTraced bytes now ended
    → HasTakenNext HasTraced bytes rest ended new taken)
    → (bytes : List ℕ) (ended : List (List ℕ)) → HasReadAs HasTraced bytes old ended
    → HasTold instance (bytes ++ piece) new ended before after
told_whole instance piece rest old now new before after None so_far none next bytes ended read =
    let (more, here, tells) = so_far.told bytes ended read in
    let whole : (bytes ++ so_far.front) ++ rest ≡ bytes ++ piece =
    append_assoc bytes so_far.front rest ∙ ap (λ tail. bytes ++ tail) so_far.all in (
      more,
      subst (λ all. HasReadAs HasTraced all new (ended ++ more)) whole (next (bytes ++ so_far.front) (ended ++ more) here),
      tells,
    )
told_whole instance piece rest old now new before after (Some count) so_far none next bytes ended read =
    absurd (none count refl)

-- the lines that have ended are the first of all
pub ended_first : (bytes more : List ℕ) (ended : List (List ℕ)) (rest : List ℕ) → EndedAs bytes ended rest
    → take (length ended) (lines (bytes ++ more)) ≡ ended
ended_first bytes more ended rest split = rw (split.cut more) (take_at ended (lines (rest ++ more)) (length ended) refl)

-- a fault of the line that follows
stuck_at : (instance : Option ℕ) (bytes rest : List ℕ) (ended more : List (List ℕ)) (now : Reading Tracer)
    (before after : Option (List ℕ)) (refused : Bool) (fault : ScheduleFault)
    → HasReadAs HasTraced bytes now (ended ++ more) → TellsMore instance ended more before after
    → RefusesAt now.ended (bytes ++ rest) false fault
    → IsWhyStuck instance (bytes ++ rest) ended before after refused (replay_fault fault)
stuck_at instance bytes rest ended more now before after refused (Found.At line fault) read tells (number, first) = (
  more,
  number ∙ ap (λ n. n + 1) read.number,
  subst (λ n. IsFirstFault (bytes ++ rest) false n fault) read.number first,
  ended_first bytes rest (ended ++ more) now.held read.split,
  tells,
)
stuck_at instance bytes rest ended more now before after refused Found.Memory read tells first = tt

pub stuck_in : (instance : Option ℕ) (piece rest : List ℕ) (old now : Reading Tracer) (before after : Option (List ℕ))
    (refused : Bool) (fault : ScheduleFault)
    → ToldFront instance piece rest old now before after
    → ((bytes : List ℕ) (ended : List (List ℕ)) → HasReadAs HasTraced bytes now ended
    → RefusesAt now.ended (bytes ++ rest) false fault)
    → (bytes : List ℕ) (ended : List (List ℕ)) → HasReadAs HasTraced bytes old ended
    → IsWhyStuck instance (bytes ++ piece) ended before after refused (replay_fault fault)
stuck_in instance piece rest old now before after refused fault so_far refuses bytes ended read =
    let (more, here, tells) = so_far.told bytes ended read in
    let whole : (bytes ++ so_far.front) ++ rest ≡ bytes ++ piece =
    append_assoc bytes so_far.front rest ∙ ap (λ tail. bytes ++ tail) so_far.all in
    subst (λ all. IsWhyStuck instance all ended before after refused (replay_fault fault)) whole
    (stuck_at instance (bytes ++ so_far.front) rest ended more now before after refused fault here tells
    (refuses (bytes ++ so_far.front) (ended ++ more) here))

-- ---- one piece after another

-- what was told of the lines so far
abbrev pub HasToldAll : Option ℕ → List ℕ → Reading Tracer → Option (List ℕ) → Option (List ℕ) → Type 0
HasToldAll instance bytes reader before after = HasTold instance bytes reader [] before after

-- the piece after them
pub told_then : (instance : Option ℕ) (bytes piece : List ℕ) (old new : Reading Tracer) (first then last : Option (List ℕ))
    → HasToldAll instance bytes old first then
    → ((ended : List (List ℕ)) → HasReadAs HasTraced bytes old ended
    → HasTold instance (bytes ++ piece) new ended then last)
    → HasToldAll instance (bytes ++ piece) new first last
told_then instance bytes piece old new first then last (ended, read, tells) next =
    let (more, all, told) = next ended read in (ended ++ more, all, tells_both instance [] ended more first then last tells told)

-- the reader refused after these bytes
pub stopped_reading : (instance : Option ℕ) (unread left before after : Option (List ℕ)) (input_refused output_refused : Bool)
    (bytes : List ℕ) (reader : Reading Tracer)
    → ReadsPart unread left bytes → IsTrue input_refused → HasToldAll instance bytes reader before after
    → IsWhyStopped instance unread left input_refused before after output_refused Read
stopped_reading instance unread left before after input_refused output_refused bytes reader part refused (ended, read, tells) =
    let first : take (ended_lines bytes) (lines bytes) ≡ ended =
    ap (λ n. take n (lines bytes)) read.split.count
    ∙ rw (append-nil bytes) at (ended_first bytes [] ended reader.held read.split) in
    (bytes, part, refused, subst (λ told. TellsMore instance [] told before after) (sym first) tells)

stopped_by : (instance : Option ℕ) (unread left first then last : Option (List ℕ)) (input_refused output_refused : Bool)
    (bytes : List ℕ) (ended : List (List ℕ)) (fault : ReplayFault)
    → Consumes unread left bytes → TellsMore instance [] ended first then
    → IsWhyStuck instance bytes ended then last output_refused fault
    → IsWhyStopped instance unread left input_refused first last output_refused fault
stopped_by instance unread left first then last input_refused output_refused bytes ended (Schedule line fault) consumed tells
    (more, number, here, are_first, told) = (
      bytes,
      false,
      length (ended ++ more),
      number,
      record { consumed = consumed; at_end = λ stop. absurd (false≢true stop); first = here },
      subst (λ all. TellsMore instance [] all first last) (sym are_first)
          (tells_both instance [] ended more first then last tells told),
    )
stopped_by instance unread left first then last input_refused output_refused bytes ended Read consumed tells why = absurd why
stopped_by instance unread left first then last input_refused output_refused bytes ended Write consumed tells why = why
stopped_by instance unread left first then last input_refused output_refused bytes ended Memory consumed tells why = tt

-- the piece after them has a fault, or wasn't told
pub stopped_in : (instance : Option ℕ) (unread left first then last : Option (List ℕ)) (input_refused output_refused : Bool)
    (bytes : List ℕ) (reader : Reading Tracer) (more : List ℕ) (fault : ReplayFault)
    → Consumes unread left (bytes ++ more) → HasToldAll instance bytes reader first then
    → ((ended : List (List ℕ)) → HasReadAs HasTraced bytes reader ended
    → IsWhyStuck instance (bytes ++ more) ended then last output_refused fault)
    → IsWhyStopped instance unread left input_refused first last output_refused fault
stopped_in instance unread left first then last input_refused output_refused bytes reader more fault consumed (ended, read, tells)
    stuck = stopped_by instance unread left first then last input_refused output_refused (bytes ++ more) ended fault consumed
    tells (stuck ended read)

-- what is passed on stays told
append_none : (known : Option (List ℕ)) → append_known known [] ≡ known
append_none None = refl
append_none (Some bytes) = ap Some (append-nil bytes)

pub passed_on : (instance : Option ℕ) (bytes : List ℕ) (reader : Reading Tracer) (first then last : Option (List ℕ))
    (buffer : List ℕ)
    → HasToldAll instance bytes reader first then → Appends then last [] → buffer ≡ []
    → HasToldAll instance bytes reader first (append_known last buffer)
passed_on instance bytes reader first then last buffer (ended, read, tells) passed empty =
    let same : append_known last buffer ≡ last = ap (append_known last) empty ∙ append_none last in (
      ended,
      read,
      record {
        text = tells.text;
        told = tells.told;
        passed = subst (λ after. Appends first after tells.text) (sym same)
            (rw (append-nil tells.text) at (Appends-trans first then last tells.text [] tells.passed passed));
      },
    )
