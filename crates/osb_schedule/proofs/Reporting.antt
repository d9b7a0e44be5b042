-- What the lines have left is what the report says.
use Rattle.std.proofs.Common.{◌≡◌, ◌≢◌, ◌<◌, ℕ, ◌+◌, ◌-◌, Bool, true, false, List, ◌++◌, length, get_or, refl, sym, ap}
use Rattle.std.proofs.Common.{◌∙◌, subst, arith, below_more}
use Rattle.std.proofs.lemmas.Grind.{get_or_default_zero}
use Rattle.std.proofs.lemmas.List.{append-nil}
use Rattle.std.proofs.lemmas.Bool.{false≢true}
use Rattle.std.specs.Prelude.{Some, is_some, IsSome, Contains, ◌↔◌, [], ◌∷◌, codes, map}
use Rattle.std.specs.declared.cmp.Ordering.TheVariants.{Less}
use Rattle.std.specs.FinMap.{FinMap, entries, find, get, get-entries, keys}
use Rattle.std.specs.List.{flat_map, list_any, AllByRecursion}
use Rattle.std.specs.List.Sorted.{IsStrictlySortedBy}
use Rattle.std.specs.Ordering.{nat_cmp}
use Rattle.std.proofs.lemmas.Bool.Decides.{nat_tests}
use Rattle.osb_platform.proofs.Ascending.{keys_ascend, keys_recorded}
use Rattle.osb_platform.specs.declared.row.PlatformRow.{PlatformRow}
use Rattle.osb_platform.specs.State.{state_word}
use Rattle.osb_message.specs.Plans.{Catalogue}
use Rattle.osb_world.specs.declared.cell.Cell.{Cell}
use Rattle.osb_event.specs.declared.event.Event.{Event}
use Rattle.osb_world.specs.Settling.{settled_cell}
use Rattle.osb_world.specs.Views.{WorldState, catalogue_of, cell_at, records_of}
use Rattle.osb_options.specs.declared.options.Options.{Options}
use Rattle.osb_run.specs.declared.run.Ended.{Ended}
use Rattle.osb_lines.specs.Lines.{lines}
use Rattle.osb_world.specs.Counts.{applied_count}
use Rattle.osb_run.specs.Created.{creates}
use Rattle.osb_schedule.specs.Report.{broker_word, count_line, id_line, instance_line}
use Rattle.osb_schedule.specs.Report.{record_word, reported_cell, saved_line, settled_as, AreSettled, IsReport}
use Rattle.osb_schedule.specs.Report.{IsSettledAs}
use Rattle.osb_run.specs.Run.{IsEndOf, IsWorldAfter}
use Rattle.osb_lines.specs.Schedule.{catalogue_in, events_in}
use Rattle.osb_run.proofs.Ascending.{apart}
use Rattle.osb_run.proofs.Outs.{some_is}
use Rattle.osb_run.proofs.Runs.{recorded, settled_records}

-- the cell of an id that is recorded, or isn't, after settling where that is asked for
settled_as-records : (settle : Bool) (cat : Catalogue) (q : ℕ) (cell : Cell)
    → is_some (settled_as settle cat q cell).platform ≡ is_some cell.platform
unfolding settled_as
settled_as-records true cat q cell = settled_records cat q cell
settled_as-records false cat q cell = refl

cells_by : (settle : Bool) (cat : Catalogue) (events : List Event) (old new : WorldState) (q : ℕ)
    (b : Bool) → list_any (creates q) events ≡ b → is_some (cell_at old q).platform ≡ b
    → IsWorldAfter cat events old → IsSettledAs settle old new
    → (cell_at new q ≡ reported_cell settle cat events q) × (is_some (cell_at new q).platform ≡ b)
cells_by settle cat events old new q true created known after done =
    let settled = done.settled q known in (
      rw created (settled ∙ (λ i. settled_as settle (after.0 i) q (after.1 q i))),
      ap (λ (cell : Cell). is_some cell.platform) settled ∙ settled_as-records settle _ q (cell_at old q) ∙ known,
    )
cells_by settle cat events old new q false created known after done =
    let kept = done.others q (λ recorded. false≢true (sym known ∙ recorded)) in
    (rw created (kept ∙ after.1 q), ap (λ (cell : Cell). is_some cell.platform) kept ∙ known)

pub reported : (options : Options) (bytes : List ℕ) (ended : Ended) (world : WorldState) (text : List ℕ)
    → IsEndOf (lines bytes) ended → IsSettledAs options.settle ended.world world
    → text ≡ flat_map (λ id. id_line id (cell_at world id)) (keys (records_of world))
    ++ count_line (codes "applied") ended.applied
    ++ count_line (codes "skipped") ended.skipped ++ saved_line options.saved (records_of world)
    → IsReport options bytes text
reported options bytes ended world text told done is_text =
    let cat = catalogue_in (lines bytes) in
    let events = events_in (lines bytes) in
    let ids = keys (records_of world) in
    let known : (q : ℕ) → is_some (cell_at ended.world q).platform ≡ list_any (creates q) events =
    λ q. ap (λ (cell : Cell). is_some cell.platform) (told.world.1 q) ∙ recorded cat q events in
    let both : (q : ℕ) → (cell_at world q ≡ reported_cell options.settle cat events q)
    × (is_some (cell_at world q).platform ≡ list_any (creates q) events) =
    λ q. cells_by options.settle cat events ended.world world q _ refl (known q) told.world done in
    let cells : (q : ℕ) → cell_at world q ≡ reported_cell options.settle cat events q = λ q. (both q).0 in
    let saved = saved_line options.saved (records_of world) in
    let applied : ended.applied ≡ applied_count cat events = told.counts.applied in
    let all : ended.applied + ended.skipped ≡ length events = told.counts.all in
    let skipped : ended.skipped ≡ length events - applied_count cat events = omega arith in
    record {
      ids = ids;
      rows = records_of world;
      created = record {
        ascending = keys_ascend nat_cmp (records_of world);
        created = λ q.
            let listed = keys_recorded (records_of world) ids refl q in
            let created = some_is (cell_at world q).platform (list_any (creates q) events) (both q).1 in
            ((λ inside. created.0 (listed.0 inside)), (λ yes. listed.1 (created.1 yes)));
      };
      recorded = λ q. ap (λ (cell : Cell). cell.platform) (cells q);
      written = is_text
          ∙ (λ i. flat_map (λ id. id_line id (cells id i)) ids ++ count_line (codes "applied") (applied i) ++ count_line
          (codes "skipped") (skipped i) ++ saved);
    }

-- ---- a line for each record

-- the line of a record
abbrev pub record_line : WorldState → ℕ × PlatformRow → List ℕ
record_line world entry = instance_line entry.0 (state_word entry.1.state) (broker_word (cell_at world entry.0).broker)

-- an entry below them all hides none of them
still_found : (e : ℕ × PlatformRow) (all es : List (ℕ × PlatformRow))
    → AllByRecursion (λ k. nat_cmp e.0 k ≡ Less) (map (λ x. x.0) es)
    → AllByRecursion (λ x. find nat_cmp x.0 all ≡ Some x.1) es
    → AllByRecursion (λ x. find nat_cmp x.0 (e ∷ all) ≡ Some x.1) es
still_found e all [] above found = tt
still_found e all (x ∷ es) above found =
    (grind (arith, nat_tests, above.0, found.0), still_found e all es above.1 found.1)

-- where the keys ascend, each entry is found at its key
each_found : (es : List (ℕ × PlatformRow)) → IsStrictlySortedBy nat_cmp (map (λ x. x.0) es)
    → AllByRecursion (λ x. find nat_cmp x.0 es ≡ Some x.1) es
unfolding IsStrictlySortedBy
each_found [] ascending = tt
each_found (e ∷ es) ascending =
    (grind (arith, nat_tests), still_found e es es ascending.0 (each_found es ascending.1))

-- the lines of the records are those of their cells
lines_by : (world : WorldState) (es : List (ℕ × PlatformRow))
    → AllByRecursion (λ e. (cell_at world e.0).platform ≡ Some e.1) es
    → flat_map (record_line world) es ≡ flat_map (λ id. id_line id (cell_at world id)) (map (λ e. e.0) es)
lines_by world [] all = refl
lines_by world (e ∷ es) all =
    (λ i. instance_line e.0 (record_word (sym all.0 i)) (broker_word (cell_at world e.0).broker)
    ++ lines_by world es all.1 i)

found_in : (rows : FinMap nat_cmp PlatformRow) (es : List (ℕ × PlatformRow))
    → AllByRecursion (λ e. find nat_cmp e.0 (entries rows) ≡ Some e.1) es
    → AllByRecursion (λ e. get rows e.0 ≡ Some e.1) es
found_in rows [] found = tt
found_in rows (e ∷ es) found = (get-entries rows e.0 ∙ found.0, found_in rows es found.1)

lines_of_records : (world : WorldState)
    → flat_map (record_line world) (entries (records_of world))
    ≡ flat_map (λ id. id_line id (cell_at world id)) (keys (records_of world))
lines_of_records world =
    let rows = records_of world in
    lines_by world (entries rows) (found_in rows (entries rows) (each_found (entries rows) (keys_ascend nat_cmp rows)))

-- once no record is left, all lines are written
pub all_written : (world : WorldState) (text : List ℕ) (left : List (ℕ × PlatformRow)) → left ≡ []
    → text ++ flat_map (record_line world) left ≡ flat_map (record_line world) (entries (records_of world))
    → text ≡ flat_map (λ id. id_line id (cell_at world id)) (keys (records_of world))
all_written world text left none so_far =
    sym (append-nil text) ∙ ap (λ es. text ++ flat_map (record_line world) es) (sym none)
    ∙ so_far ∙ lines_of_records world

-- ---- settling one instance after another

-- nothing is settled where that isn't asked for
pub none_settled : (asked : Bool) (world : WorldState) → asked ≡ false → IsSettledAs asked world world
unfolding settled_as
none_settled asked world unasked = record { settled = λ q inside. rw unasked refl; others = λ q outside. refl }

-- the first n of these ids are settled, and every other cell is as it was
pub record IsSettledSoFar (ids : List ℕ) (n : ℕ) (old new : WorldState) : Type 0 where
  pub settled : (k : ℕ) → k < n → cell_at new (get_or ids k 0) ≡ settled_cell (catalogue_of old) (get_or ids k 0)
      (cell_at old (get_or ids k 0))
  pub others : (q : ℕ) → ((k : ℕ) → k < n → get_or ids k 0 ≢ q) → cell_at new q ≡ cell_at old q
  pub catalogue : catalogue_of new ≡ catalogue_of old

-- one instance more
pub settled_more : (ids : List ℕ) (n id : ℕ) (old now new : WorldState) → IsStrictlySortedBy nat_cmp ids
    → n < length ids → id ≡ get_or ids n 0
    → IsSettledSoFar ids n old now → cell_at new id ≡ settled_cell (catalogue_of now) id (cell_at now id)
    → ((q : ℕ) → q ≢ id → cell_at new q ≡ cell_at now q) → catalogue_of new ≡ catalogue_of now
    → IsSettledSoFar ids (n + 1) old new
settled_more ids n id old now new ascending inside is so_far here others same =
    let next = get_or ids n 0 in
    let before : cell_at now next ≡ cell_at old next =
    so_far.others next (λ k below. apart ids k n ascending below inside) in
    record {
      settled = below_more _ n (λ k below. others (get_or ids k 0) (λ e. apart ids k n ascending below inside (e ∙ is))
          ∙ so_far.settled k below)
          (subst (λ i. cell_at new i ≡ settled_cell (catalogue_of now) i (cell_at now i)) is here
          ∙ (λ i. settled_cell (so_far.catalogue i) next (before i)));
      others = λ q none. others q (λ e. none n (omega arith) (sym (e ∙ is)))
          ∙ so_far.others q (λ k below. none k (omega arith));
      catalogue = same ∙ so_far.catalogue;
    }

-- all of them are settled
pub each_settled : (ids : List ℕ) (n : ℕ) (old new : WorldState) → n ≡ length ids → IsSettledSoFar ids n old new
    → AreSettled ids old new
each_settled ids n old new all done = record {
  settled = λ q (k, below, at).
      let same : get_or ids k 0 ≡ q = sym (get_or_default_zero ids k q below) ∙ at in
      subst (λ id. cell_at new id ≡ settled_cell (catalogue_of old) id (cell_at old id)) same
      (done.settled k (subst (λ m. k < m) (sym all) below));
  others = λ q outside.
      done.others q
      (λ k below same. let inside : k < length ids = subst (λ m. k < m) all below in
      outside (k, inside, get_or_default_zero ids k q inside ∙ same));
}

-- they were all that is recorded
pub all_settled : (asked : Bool) (ids : List ℕ) (old new : WorldState) → asked ≡ true
    → ((q : ℕ) → Contains ids q ↔ IsSome (cell_at old q).platform) → AreSettled ids old new
    → IsSettledAs asked old new
unfolding settled_as
all_settled asked ids old new told listed done = record {
  settled = λ q recorded. rw told (done.settled q ((listed q).1 recorded));
  others = λ q unrecorded. done.others q (λ inside. unrecorded ((listed q).0 inside));
}
