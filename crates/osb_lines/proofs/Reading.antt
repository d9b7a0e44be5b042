-- What more bytes do to what is known of the bytes so far.
use Rattle.std.proofs.Common.{below_more, ◌≡◌, ℕ, ◌+◌, ◌<◌, ◌≤◌, ◌⊎◌, inl, inr, Bool, true, false, List, [], ◌∷◌}
use Rattle.std.proofs.Common.{◌++◌, length, length-take, take, drop, Some, None, refl, sym, ap, ◌∙◌, subst, append_assoc, append-nil}
use Rattle.std.proofs.Common.{take-append-drop}
use Rattle.std.proofs.Common.{arith, IsTrue}
use Rattle.std.proofs.lemmas.Grind.{common_steps}
use Rattle.std.proofs.lemmas.List.{take_at, get_or_at, take-append-le, get_or_append_left, length-append}
use Rattle.std.proofs.lemmas.Bool.Decides.{nat_tests}
use Rattle.std.proofs.lemmas.Bool.{cases_lt, false≢true}
use Rattle.osb_language.specs.declared.fault.LineFault.{LineFault}
use Rattle.osb_language.specs.declared.fault.LineFault.TheVariants.{LineTooLong, TooManyLines}
use Rattle.std.specs.Prelude.{Option, Result, Ok, Err, OnOk}
use Rattle.osb_language.specs.Limits.{longest_line}
use Rattle.osb_language.proofs.Splitting.{nil_of_length}
use Rattle.osb_lines.specs.Limits.{most_lines}
use Rattle.osb_lines.specs.Lines.{lines, ended_lines, line_at}
use Rattle.osb_lines.specs.Faults.{fault_of, IsJudged, HasNoFault, IsFirstFault}
use Rattle.osb_lines.specs.Schedule.{said_fault}
use Rattle.osb_lines.specs.Sink.{IsLineFault}
use Rattle.osb_lines.specs.Reading.{Reading, most_read, with_line, EndedAs, HasReadAs, HasRead, HasTakenNext, IsLast, Refuses}
use Rattle.osb_lines.specs.Reading.{RefusesAt}
use Rattle.osb_language.specs.declared.replay_fault.ScheduleFault.{ScheduleFault}
use Rattle.osb_language.specs.declared.replay_fault.ScheduleFault.TheVariants.{At, Memory}
use Rattle.osb_lines.proofs.Cutting.{lines_at_feed, front_line, held_line, some_line, unended_both}

pub on_ok_both : {T E : Type 0} (P Q : Type 0) (r : Result T E) → OnOk r P → OnOk r Q → OnOk r (P × Q)
on_ok_both P Q (Ok x) p q = (p, q)
on_ok_both P Q (Err e) p q = tt

-- a line that is neither too late nor too long has the fault of what it says
pub fault_said : (ended : List (List ℕ)) (line : List ℕ) → length ended < most_lines → length line ≤ longest_line
    → fault_of ended line ≡ said_fault ended line
fault_said ended line few short = grind (arith, nat_tests)

pub fault_long : (ended : List (List ℕ)) (line : List ℕ) → length ended < most_lines → longest_line < length line
    → fault_of ended line ≡ Some LineTooLong
fault_long ended line few long = grind (arith, nat_tests)

pub fault_many : (ended : List (List ℕ)) (line : List ℕ) → length ended ≡ most_lines
    → fault_of ended line ≡ Some TooManyLines
fault_many ended line many = grind (arith, nat_tests)

-- the line after those without a fault has this fault and is judged, so it is the first
pub fault_in : (bytes : List ℕ) (ended : List (List ℕ)) (line : List ℕ) (after : List (List ℕ)) (fault : LineFault)
    (stop : Bool)
    → lines bytes ≡ ended ++ line ∷ after
    → ((n : ℕ) → n < length ended → fault_of (take n ended) (line_at ended n) ≡ None) → fault_of ended line ≡ Some fault
    → (length ended < ended_lines bytes) ⊎ IsTrue stop ⊎ (longest_line < length line) ⊎ (length ended ≡ most_lines)
    → IsFirstFault bytes stop (length ended) fault
fault_in bytes ended line after fault stop all faultless here judged =
    let at : line_at (lines bytes) (length ended) ≡ line = rw all (get_or_at ended line after [] (length ended) refl) in
    record {
      judged = (rw all (simp length-append (omega arith)), rw at judged);
      at_line = rw (
        all,
        take_at ended (line ∷ after) (length ended) refl,
        get_or_at ended line after [] (length ended) refl,
      ) here;
      none_before = λ k below.
          let within : k ≤ length ended = omega arith in
          rw (all, take-append-le k ended (line ∷ after) within, get_or_append_left ended (line ∷ after) [] k below)
          (faultless k below);
    }

-- the same after the ended lines
pub first_fault : (bytes more : List ℕ) (ended : List (List ℕ)) (rest line : List ℕ) (after : List (List ℕ))
    (fault : LineFault) (stop : Bool)
    → EndedAs bytes ended rest → lines (rest ++ more) ≡ line ∷ after → fault_of ended line ≡ Some fault
    → (length ended < ended_lines (bytes ++ more)) ⊎ IsTrue stop ⊎ (longest_line < length line)
    ⊎ (length ended ≡ most_lines)
    → IsFirstFault (bytes ++ more) stop (length ended) fault
first_fault bytes more ended rest line after fault stop so_far next here judged =
    fault_in (bytes ++ more) ended line after fault stop
    (so_far.cut more ∙ ap (λ tail. ended ++ tail) next) so_far.faultless here judged

pub faultless_more : (ended : List (List ℕ)) (line : List ℕ)
    → ((n : ℕ) → n < length ended → fault_of (take n ended) (line_at ended n) ≡ None) → fault_of ended line ≡ None
    → (n : ℕ) → n < length ended + 1 → fault_of (take n (ended ++ line ∷ [])) (line_at (ended ++ line ∷ []) n) ≡ None
faultless_more ended line before here =
    below_more _ (length ended)
    (λ n below. let within : n ≤ length ended = omega arith in
    rw (take-append-le n ended (line ∷ []) within, get_or_append_left ended (line ∷ []) [] n below) (before n below))
    (rw (take_at ended (line ∷ []) (length ended) refl, get_or_at ended line [] [] (length ended) refl) here)

pub ended_feed : (bytes : List ℕ) (ended : List (List ℕ)) (rest : List ℕ) → EndedAs bytes ended rest
    → fault_of ended rest ≡ None
    → EndedAs (bytes ++ 10 ∷ []) (ended ++ rest ∷ []) []
ended_feed bytes ended rest so_far good = record {
  cut = λ more. rw (append_assoc bytes (10 ∷ []) more, append_assoc ended (rest ∷ []) (lines more))
      (so_far.cut (10 ∷ more) ∙ ap (λ tail. ended ++ tail) (lines_at_feed rest more so_far.unended));
  count = let after = so_far.count in grind (arith, common_steps);
  unended = refl;
  faultless = λ n below. faultless_more ended rest so_far.faultless good n
      (let long = length-append ended (rest ∷ []) in omega arith);
}

lines_so_far : (bytes : List ℕ) (ended : List (List ℕ)) (rest : List ℕ) → EndedAs bytes ended rest
    → lines bytes ≡ ended ++ lines rest
lines_so_far bytes ended rest so_far = rw (append-nil bytes, append-nil rest) at (so_far.cut [])

pub faultless_all : (bytes : List ℕ) (all : List (List ℕ)) (stop : Bool) → lines bytes ≡ all
    → ((n : ℕ) → n < length all → fault_of (take n all) (line_at all n) ≡ None) → HasNoFault bytes stop
faultless_all bytes all stop same each = λ n judged. rw same (each n (rw same at judged.0))

judged_sooner : (bytes : List ℕ) (n : ℕ) → IsJudged bytes false n → IsJudged bytes true n
judged_sooner bytes n (within, why) = (within, inr (inl refl))

-- the line of a fault has a number
pub refused_somewhere : (n : ℕ) (bytes : List ℕ) (stop : Bool) (fault : ScheduleFault) → RefusesAt n bytes stop fault
    → Refuses bytes stop fault
refused_somewhere n bytes stop (At line fault) (number, first) = (n, number, first)
refused_somewhere n bytes stop Memory first = tt

-- a fault that shows before the end is the first at the end too
pub refused_sooner : (bytes : List ℕ) (fault : ScheduleFault) → Refuses bytes false fault → Refuses bytes true fault
refused_sooner bytes (At line fault) (n, number, first) = (
  n,
  number,
  record { judged = judged_sooner bytes n first.judged; at_line = first.at_line; none_before = first.none_before },
)
refused_sooner bytes Memory first = tt

-- what came before, what is passed, and the rest
pub passed_rest : (bytes front rest piece : List ℕ) → front ++ rest ≡ piece → (bytes ++ front) ++ rest ≡ bytes ++ piece
passed_rest bytes front rest piece all = append_assoc bytes front rest ∙ ap (λ tail. bytes ++ tail) all

-- ---- a reader, and what its sink has taken

module _ {S : Type 0} (T : List (List ℕ) → S → Type 0) where
  -- a line feed ends the held line, which has a fault
  pub refused_said : (bytes more : List ℕ) (reader : Reading S) (ended : List (List ℕ)) (fault : LineFault)
      → HasReadAs T bytes reader ended → reader.ended < most_lines
      → said_fault ended reader.held ≡ Some fault → IsFirstFault (bytes ++ 10 ∷ more) false reader.ended fault
  refused_said bytes more reader ended fault so_far few said =
      let split = so_far.split in
      let below : length ended < most_lines = omega (arith, so_far.number) in
      let here : fault_of ended reader.held ≡ Some fault =
      fault_said ended reader.held below so_far.room ∙ said in
      let due : length ended < ended_lines (bytes ++ 10 ∷ more) = let count = split.count in
      grind (arith, common_steps) in
      subst (λ n. IsFirstFault (bytes ++ 10 ∷ more) false n fault) (sym so_far.number)
      (first_fault bytes (10 ∷ more) ended reader.held reader.held (lines more) fault false split
      (lines_at_feed reader.held more split.unended) here (inl due))

  -- a line feed ends the held line, which has none
  pub good_feed : (bytes : List ℕ) (old new : Reading S) (ended : List (List ℕ)) → HasReadAs T bytes old ended
      → old.ended < most_lines
      → said_fault ended old.held ≡ None → T (ended ++ old.held ∷ []) new.sink → new.held ≡ []
      → new.ended ≡ old.ended + 1
      → HasReadAs T (bytes ++ 10 ∷ []) new (ended ++ old.held ∷ [])
  good_feed bytes old new ended so_far few said took held number =
      let below : length ended < most_lines = omega (arith, so_far.number) in
      let here : fault_of ended old.held ≡ None = fault_said ended old.held below so_far.room ∙ said in
      let longer = length-append ended (old.held ∷ []) in
      let empty : length new.held ≡ 0 = ap length held in
      record {
        split = subst (EndedAs (bytes ++ 10 ∷ []) (ended ++ old.held ∷ [])) (sym held)
            (ended_feed bytes ended old.held so_far.split here);
        number = omega (arith, so_far.number);
        took = took;
        room = omega arith;
        few = omega (arith, so_far.number);
        within = λ some. absurd (omega arith);
      }

  -- more of the line under construction
  pub held_more : (bytes part : List ℕ) (reader : Reading S) (ended : List (List ℕ)) → HasReadAs T bytes reader ended
      → reader.ended < most_lines
      → ended_lines part ≡ 0 → length reader.held + length part ≤ longest_line
      → HasReadAs T (bytes ++ part) (with_line reader (reader.held ++ part)) ended
  held_more bytes part reader ended so_far few unended room =
      let split = so_far.split in
      let longer = length-append reader.held part in
      record {
        split = record {
          cut = λ more. rw (append_assoc bytes part more, append_assoc reader.held part more) (split.cut (part ++ more));
          count = let before = split.count in grind (arith, common_steps);
          unended = unended_both reader.held part split.unended unended;
          faultless = split.faultless;
        };
        number = so_far.number;
        took = so_far.took;
        room = omega arith;
        few = so_far.few;
        within = λ _. few;
      }

  -- the same where nothing was held
  pub held_whole : (bytes part : List ℕ) (reader : Reading S) (ended : List (List ℕ)) → HasReadAs T bytes reader ended
      → reader.ended < most_lines
      → ended_lines part ≡ 0 → length reader.held + length part ≤ longest_line → reader.held ≡ []
      → HasReadAs T (bytes ++ part) (with_line reader part) ended
  held_whole bytes part reader ended so_far few unended room none =
      subst (λ front. HasReadAs T (bytes ++ part) (with_line reader (front ++ part)) ended) none
      (held_more bytes part reader ended so_far few unended room)

  -- more than a line may have
  pub refused_long : (bytes part more : List ℕ) (reader : Reading S) → HasRead T bytes reader → reader.ended < most_lines
      → ended_lines part ≡ 0 → longest_line < length reader.held + length part
      → IsFirstFault (bytes ++ part ++ more) false reader.ended LineTooLong
  refused_long bytes part more reader (ended, so_far) few unended long =
      let split = so_far.split in
      let below : length ended < most_lines = omega (arith, so_far.number) in
      let longer = length-append reader.held part in
      let (line, after, next, within) =
      front_line (reader.held ++ part) more (omega arith) (unended_both reader.held part split.unended unended) in
      let over : longest_line < length line = omega arith in
      subst (λ n. IsFirstFault (bytes ++ part ++ more) false n LineTooLong) (sym so_far.number)
      (rw (append_assoc bytes part more)
      (first_fault bytes (part ++ more) ended reader.held line after LineTooLong false split (rw append_assoc at next)
      (fault_long ended line below over) (inr (inr (inl over)))))

  -- a byte after the last line that there may be
  pub refused_many : (bytes more : List ℕ) (reader : Reading S) → HasRead T bytes reader → reader.ended ≡ most_lines
      → 0 < length more
      → IsFirstFault (bytes ++ more) false reader.ended TooManyLines
  refused_many bytes more reader (ended, so_far) all some =
      let split = so_far.split in
      let many : length ended ≡ most_lines = omega (arith, so_far.number) in
      let empty : length reader.held ≡ 0 = elim (cases_lt 0 (length reader.held)) [
        | inl held ↦ let few = so_far.within held in absurd (omega arith)
        | inr none ↦ omega arith
      ] in
      let (line, after, next) = some_line more some in
      subst (λ n. IsFirstFault (bytes ++ more) false n TooManyLines) (sym so_far.number)
      (first_fault bytes more ended reader.held line after TooManyLines false split
      (rw (nil_of_length reader.held empty) next) (fault_many ended line many) (inr (inr (inr many))))

  -- nothing is held, so every line has ended
  pub none_held : (bytes : List ℕ) (reader : Reading S) (ended : List (List ℕ)) → HasReadAs T bytes reader ended
      → length reader.held ≡ 0
      → IsLast bytes ended false × HasNoFault bytes true × T (lines bytes) reader.sink
  none_held bytes reader ended so_far empty =
      let all : lines bytes ≡ ended =
      lines_so_far bytes ended reader.held so_far.split
      ∙ ap (λ rest. ended ++ lines rest) (nil_of_length reader.held empty) ∙ append-nil ended in (
        all,
        faultless_all bytes ended true all so_far.split.faultless,
        subst (λ all. T all reader.sink) (sym all) so_far.took,
      )

  -- what is held is the last line
  pub last_good : (bytes : List ℕ) (reader : Reading S) (ended : List (List ℕ)) (sink : S) → HasReadAs T bytes reader ended
      → 0 < length reader.held
      → said_fault ended reader.held ≡ None → T (ended ++ reader.held ∷ []) sink
      → IsLast bytes ended true × HasNoFault bytes true × T (lines bytes) sink
  last_good bytes reader ended sink so_far some said took =
      let split = so_far.split in
      let below : length ended < most_lines = let few = so_far.within some in omega (arith, so_far.number) in
      let here : fault_of ended reader.held ≡ None = fault_said ended reader.held below so_far.room ∙ said in
      let all : lines bytes ≡ ended ++ reader.held ∷ [] =
      lines_so_far bytes ended reader.held split
      ∙ ap (λ tail. ended ++ tail) (held_line reader.held some split.unended) in
      let longer = length-append ended (reader.held ∷ []) in (
        (reader.held, all),
        faultless_all bytes (ended ++ reader.held ∷ []) true all
            (λ n below. faultless_more ended reader.held split.faultless here n (omega arith)),
        subst (λ all. T all sink) (sym all) took,
      )

  pub last_refused : (bytes : List ℕ) (reader : Reading S) (ended : List (List ℕ)) (fault : LineFault)
      → HasReadAs T bytes reader ended → 0 < length reader.held
      → said_fault ended reader.held ≡ Some fault → IsFirstFault bytes true reader.ended fault
  last_refused bytes reader ended fault so_far some said =
      let split = so_far.split in
      let below : length ended < most_lines = let few = so_far.within some in omega (arith, so_far.number) in
      let here : fault_of ended reader.held ≡ Some fault =
      fault_said ended reader.held below so_far.room ∙ said in
      let next : lines (reader.held ++ []) ≡ reader.held ∷ [] =
      rw (append-nil reader.held) (held_line reader.held some split.unended) in
      rw so_far.number
      (rw (append-nil bytes) at (first_fault bytes [] ended reader.held reader.held [] fault true split next here
      (inr (inl refl))))

  -- the held part isn't judged before the end: it is short, and isn't line 100001
  held_unjudged : (bytes : List ℕ) (reader : Reading S) (ended : List (List ℕ)) → HasReadAs T bytes reader ended
      → 0 < length reader.held
      → IsJudged bytes false (length ended) → ⊥
  held_unjudged bytes reader ended so_far some judged =
      let split = so_far.split in
      let all : lines bytes ≡ ended ++ reader.held ∷ [] =
      lines_so_far bytes ended reader.held split
      ∙ ap (λ tail. ended ++ tail) (held_line reader.held some split.unended) in
      let at : line_at (lines bytes) (length ended) ≡ reader.held =
      rw all (get_or_at ended reader.held [] [] (length ended) refl) in
      elim judged.1 [
        | inl below ↦ omega (arith, split.count)
        | inr more ↦ elim more [
          | inl stop ↦ false≢true stop
          | inr last ↦ elim last [
            | inl long ↦ let short : length (line_at (lines bytes) (length ended)) ≤ longest_line = rw at so_far.room in
                omega arith
            | inr many ↦ let few = so_far.within some in omega (arith, so_far.number)
          ]
        ]
      ]

  -- no line that is judged before the end has a fault
  pub none_so_far : (bytes : List ℕ) (reader : Reading S) → HasRead T bytes reader → HasNoFault bytes false
  none_so_far bytes reader (ended, so_far) n judged =
      let split = so_far.split in
      elim (cases_lt 0 (length reader.held)) [
        | inr none ↦ faultless_all bytes ended false (lines_so_far bytes ended reader.held split
            ∙ ap (λ rest. ended ++ lines rest) (nil_of_length reader.held (omega arith))
            ∙ append-nil ended) split.faultless n judged
        | inl some ↦
            let all : lines bytes ≡ ended ++ reader.held ∷ [] =
            lines_so_far bytes ended reader.held split
            ∙ ap (λ tail. ended ++ tail) (held_line reader.held some split.unended) in
            elim (cases_lt n (length ended)) [
              | inl below ↦
                  let within : n ≤ length ended = omega arith in
                  rw (
                    all,
                    take-append-le n ended (reader.held ∷ []) within,
                    get_or_append_left ended (reader.held ∷ []) [] n below,
                  ) (split.faultless n below)
              | inr over ↦
                  let longer = length-append ended (reader.held ∷ []) in
                  let inside = rw all at judged.0 in
                  let here : n ≡ length ended = omega arith in
                  absurd (held_unjudged bytes reader ended so_far some (subst (IsJudged bytes false) here judged))
            ]
      ]

  -- the held line's own fault, where a line feed ends it
  pub refused_feed : (bytes more : List ℕ) (reader : Reading S) (ended : List (List ℕ)) (fault : ScheduleFault)
      → HasReadAs T bytes reader ended → reader.ended < most_lines
      → IsLineFault (reader.ended + 1) (said_fault ended reader.held) fault
      → RefusesAt reader.ended (bytes ++ 10 ∷ more) false fault
  refused_feed bytes more reader ended (At line found) so_far few (number, own) =
      (number, refused_said bytes more reader ended found so_far few own)
  refused_feed bytes more reader ended Memory so_far few own = tt

  -- the held line's own fault, where the input ends it
  pub refused_end : (bytes : List ℕ) (reader : Reading S) (ended : List (List ℕ)) (fault : ScheduleFault)
      → HasReadAs T bytes reader ended → 0 < length reader.held
      → IsLineFault (reader.ended + 1) (said_fault ended reader.held) fault → RefusesAt reader.ended bytes true fault
  refused_end bytes reader ended (At line found) so_far some (number, own) =
      (number, last_refused bytes reader ended found so_far some own)
  refused_end bytes reader ended Memory so_far some own = tt

  -- the reader has most_read this much of the piece
  pub record Passed (piece rest : List ℕ) (old new : Reading S) : Type 0 where
    pub front : List ℕ
    pub all : front ++ rest ≡ piece
    pub read : (bytes : List ℕ) → HasRead T bytes old → HasRead T (bytes ++ front) new
    pub moved : most_read old + length front ≤ most_read new

  -- the piece up to its first line feed is passed
  pub passed_next : (piece rest : List ℕ) (count : ℕ) (old now new : Reading S) → Passed piece rest old now
      → count ≤ length rest
      → ((bytes : List ℕ) → HasRead T bytes now → HasRead T (bytes ++ take count rest) new)
      → most_read now + count ≤ most_read new
      → Passed piece (drop count rest) old new
  passed_next piece rest count old now new before within read moved = record {
    front = before.front ++ take count rest;
    all = append_assoc before.front (take count rest) (drop count rest)
        ∙ ap (λ tail. before.front ++ tail) (take-append-drop count rest) ∙ before.all;
    read = λ bytes so_far. subst (λ all. HasRead T all new) (append_assoc bytes before.front (take count rest))
        (read (bytes ++ before.front) (before.read bytes so_far));
    moved =
        let long : length (take count rest) ≡ count = simp length-take (omega arith) in
        let front = length-append before.front (take count rest) in
        let so_far = before.moved in
        omega arith;
  }

  -- a piece without a line feed is taken whole
  pub taken_whole : (bytes piece : List ℕ) (old new : Reading S) (taken : Option ℕ)
      → ((count : ℕ) → taken ≡ Some count → ⊥)
      → ((bytes : List ℕ) (ended : List (List ℕ)) → HasReadAs T bytes old ended → HasTakenNext T bytes piece ended new taken)
      → HasRead T bytes old → HasRead T (bytes ++ piece) new
  taken_whole bytes piece old new None none read (ended, so_far) = (ended, read bytes ended so_far)
  taken_whole bytes piece old new (Some count) none read so_far = absurd (none count refl)
