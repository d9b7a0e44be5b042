-- One instance after another is settled, and its rounds are told.
use Rattle.std.proofs.Common.{◌≡◌, ◌≢◌, ◌<◌, ◌+◌, ℕ, Bool, true, false, List, [], ◌∷◌, ◌++◌, length, take, get_or, refl}
use Rattle.std.proofs.Common.{sym, ap, ◌∙◌, subst, arith, append_assoc, append-nil}
use Rattle.std.proofs.KnownBytes.{Appends-trans}
use Rattle.std.specs.Prelude.{Option, map, if◌then◌else◌}
use Rattle.std.specs.Io.KnownBytes.{Appends}
use Rattle.std.specs.List.Sorted.{IsStrictlySortedBy}
use Rattle.std.specs.Ordering.{nat_cmp}
use Rattle.osb_event.specs.declared.event.Event.{Event}
use Rattle.osb_message.specs.Plans.{Catalogue}
use Rattle.osb_run.proofs.Ascending.{apart}
use Rattle.osb_trace.specs.Settling.{round_events, round_head, spelled, told_each, told_round, told_rounds, told_steps, HasCell}
use Rattle.osb_trace.specs.Telling.{is_asked, said_step, step_word, told_event}
use Rattle.osb_trace.specs.declared.settling.RoundEvent.{RoundEvent}
use Rattle.osb_world.specs.Events.{cell_steps}
use Rattle.osb_world.specs.Settling.{after_round, fault_free_round, settled_cell}
use Rattle.osb_world.specs.Steps.{applies, cell_step, changed_cell}
use Rattle.osb_world.specs.Views.{WorldState, catalogue_of, cell_at, step_of}
use Rattle.osb_world.specs.declared.cell.Cell.{Cell}

-- ---- an event

-- what is said of a skipped event is said by the cell that it has left as it was
said_by : (cat : Catalogue) (cell : Cell) (event : Event) (b : Bool) → applies cell event ≡ b
    → said_step (step_of b) (if b then changed_cell cat cell event else cell) event ≡ said_step (step_of b) cell event
said_by cat cell event true e = refl
said_by cat cell event false e = refl

pub said_after : (cat : Catalogue) (cell : Cell) (event : Event)
    → said_step (step_of (applies cell event)) (cell_step cat cell event) event ≡ step_word cell event
said_after cat cell event = said_by cat cell event (applies cell event) refl

-- ---- the events of a round

abbrev steps : Catalogue → Cell → List RoundEvent → Cell
steps cat cell events = cell_steps cat cell (map (λ (of : RoundEvent). of.event) events)

steps_more : (cat : Catalogue) (cell : Cell) (events : List RoundEvent) (of : RoundEvent)
    → steps cat cell (events ++ of ∷ []) ≡ cell_step cat (steps cat cell events) of.event
steps_more cat cell [] of = refl
steps_more cat cell (first ∷ events) of = steps_more cat (cell_step cat cell first.event) events of

-- the line of an event of a round
abbrev pub told_of_round : ℕ → Catalogue → ℕ → Cell → RoundEvent → List ℕ
told_of_round number cat id cell of =
    told_event (round_head number (spelled id of).0) of.event cell (cell_step cat cell of.event)

told_more : (number : ℕ) (cat : Catalogue) (id : ℕ) (cell : Cell) (events : List RoundEvent) (of : RoundEvent)
    → told_steps number cat cell (map (spelled id) (events ++ of ∷ []))
    ≡ told_steps number cat cell (map (spelled id) events) ++ told_of_round number cat id (steps cat cell events) of
told_more number cat id cell [] of = append-nil (told_of_round number cat id cell of)
told_more number cat id cell (first ∷ events) of =
    ap (λ rest. told_of_round number cat id cell first ++ rest)
    (told_more number cat id (cell_step cat cell first.event) events of)
    ∙ sym (append_assoc (told_of_round number cat id cell first)
    (told_steps number cat (cell_step cat cell first.event) (map (spelled id) events)) _)

-- what came next joins what came before
pub has_then : (f : Catalogue → Cell → Cell) (old now new : WorldState) (id : ℕ) (cell : Cell)
    → HasCell old now id cell → HasCell now new id (f (catalogue_of now) (cell_at now id))
    → HasCell old new id (f (catalogue_of old) cell)
has_then f old now new id cell first second = record {
  here = second.here ∙ (λ i. f (first.catalogue i) (first.here i));
  others = λ other apart. second.others other apart ∙ first.others other apart;
  catalogue = second.catalogue ∙ first.catalogue;
}

-- these events of a round have happened, and are told
pub record IsRoundSoFar (id number : ℕ) (events : List RoundEvent) (old new : WorldState)
    (before after : Option (List ℕ)) : Type 0 where
  pub world : HasCell old new id (steps (catalogue_of old) (cell_at old id) events)
  pub told : Appends before after (told_steps number (catalogue_of old) (cell_at old id) (map (spelled id) events))

pub more_of_round : (id number : ℕ) (events : List RoundEvent) (of : RoundEvent) (old now new : WorldState)
    (before middle after : Option (List ℕ))
    → IsRoundSoFar id number events old now before middle
    → HasCell now new id (cell_step (catalogue_of now) (cell_at now id) of.event)
    → Appends middle after (told_of_round number (catalogue_of now) id (cell_at now id) of)
    → IsRoundSoFar id number (events ++ of ∷ []) old new before after
more_of_round id number events of old now new before middle after so_far stepped told =
    let cat = catalogue_of old in
    let cell = cell_at old id in
    let reached = steps cat cell events in
    let here : Appends middle after (told_of_round number cat id reached of) =
    subst (Appends middle after) (λ i. told_of_round number (so_far.world.catalogue i) id (so_far.world.here i) of) told in
    record {
      world = subst (HasCell old new id) (sym (steps_more cat cell events of))
          (has_then (λ cat cell. cell_step cat cell of.event) old now new id reached so_far.world stepped);
      told = subst (Appends before after) (sym (told_more number cat id cell events of))
          (Appends-trans before middle after _ _ so_far.told here);
    }

-- the events are those that are spelled
pairs : (id : ℕ) (events : List RoundEvent)
    → map (λ (of : RoundEvent). of.event) events ≡ map (λ (s : List ℕ × Event). s.1) (map (spelled id) events)
pairs id [] = refl
pairs id (of ∷ events) = ap (λ rest. of.event ∷ rest) (pairs id events)

pub events_as : (id : ℕ) (events : List RoundEvent) → map (spelled id) events ≡ round_events id
    → map (λ (of : RoundEvent). of.event) events ≡ fault_free_round id
events_as id events same = pairs id events ∙ ap (map (λ (s : List ℕ × Event). s.1)) same

-- ---- three rounds

pub three_rounds : (id : ℕ) (old first second : WorldState) (before one two after : Option (List ℕ))
    → HasCell old first id (after_round (catalogue_of old) id (cell_at old id))
    → HasCell first second id (after_round (catalogue_of first) id (cell_at first id))
    → Appends before one (told_round 1 (catalogue_of old) id (cell_at old id))
    → Appends one two (told_round 2 (catalogue_of first) id (cell_at first id))
    → Appends two after (told_round 3 (catalogue_of second) id (cell_at second id))
    → Appends before after (told_rounds (catalogue_of old) id (cell_at old id))
three_rounds id old first second before one two after stepped again told more last =
    let cat = catalogue_of old in
    let once = after_round cat id (cell_at old id) in
    let twice = has_then (λ cat cell. after_round cat id cell) old first second id once stepped again in
    let next : Appends one two (told_round 2 cat id once) =
    subst (Appends one two) (λ i. told_round 2 (stepped.catalogue i) id (stepped.here i)) more in
    let end : Appends two after (told_round 3 cat id (after_round cat id once)) =
    subst (Appends two after) (λ i. told_round 3 (twice.catalogue i) id (twice.here i)) last in
    Appends-trans before two after _ _ (Appends-trans before one two _ _ told next) end

-- ---- one instance after another

-- the rounds of the first n of these ids are told, and no other cell has changed
pub record AreToldSoFar (instance : Option ℕ) (ids : List ℕ) (n : ℕ) (old new : WorldState)
    (before after : Option (List ℕ)) : Type 0 where
  pub told : Appends before after (told_each instance (catalogue_of old) (cell_at old) (take n ids))
  pub others : (q : ℕ) → ((k : ℕ) → k < n → get_or ids k 0 ≢ q) → cell_at new q ≡ cell_at old q
  pub catalogue : catalogue_of new ≡ catalogue_of old

-- the rounds of one, where it is asked for
abbrev told_one_of : Option ℕ → Catalogue → (ℕ → Cell) → ℕ → List ℕ
told_one_of instance cat cells id = if is_asked instance id then told_rounds cat id (cells id) else []

pub told_each-more : (instance : Option ℕ) (cat : Catalogue) (cells : ℕ → Cell) (ids : List ℕ) (id : ℕ)
    → told_each instance cat cells (ids ++ id ∷ []) ≡ told_each instance cat cells ids ++ told_one_of instance cat cells id
told_each-more instance cat cells [] id = append-nil _
told_each-more instance cat cells (first ∷ ids) id =
    ap (λ rest. told_one_of instance cat cells first ++ rest) (told_each-more instance cat cells ids id)
    ∙ sym (append_assoc (told_one_of instance cat cells first) (told_each instance cat cells ids) _)

-- one instance more that is asked for
pub asked_more : (instance : Option ℕ) (ids : List ℕ) (n : ℕ) (old now new : WorldState)
    (before middle after : Option (List ℕ))
    → IsStrictlySortedBy nat_cmp ids → n < length ids → take (n + 1) ids ≡ take n ids ++ get_or ids n 0 ∷ []
    → is_asked instance (get_or ids n 0) ≡ true
    → AreToldSoFar instance ids n old now before middle
    → HasCell now new (get_or ids n 0)
    (settled_cell (catalogue_of now) (get_or ids n 0) (cell_at now (get_or ids n 0)))
    → Appends middle after (told_rounds (catalogue_of now) (get_or ids n 0) (cell_at now (get_or ids n 0)))
    → AreToldSoFar instance ids (n + 1) old new before after
asked_more instance ids n old now new before middle after ascending inside one wanted so_far stepped told =
    let id = get_or ids n 0 in
    let untouched : cell_at now id ≡ cell_at old id = so_far.others id (λ k below. apart ids k n ascending below inside) in
    let here : Appends middle after (told_one_of instance (catalogue_of old) (cell_at old) id) =
    rw wanted (subst (Appends middle after) (λ i. told_rounds (so_far.catalogue i) id (untouched i)) told) in
    record {
      told = subst (λ ids. Appends before after (told_each instance (catalogue_of old) (cell_at old) ids)) (sym one)
          (subst (Appends before after) (sym (told_each-more instance (catalogue_of old) (cell_at old) (take n ids) id))
          (Appends-trans before middle after _ _ so_far.told here));
      others = λ q none. stepped.others q (λ same. none n (omega arith) (sym same))
          ∙ so_far.others q (λ k below. none k (omega arith));
      catalogue = stepped.catalogue ∙ so_far.catalogue;
    }

-- one more that isn't
pub unasked_more : (instance : Option ℕ) (ids : List ℕ) (n : ℕ) (old now : WorldState) (before after : Option (List ℕ))
    → take (n + 1) ids ≡ take n ids ++ get_or ids n 0 ∷ []
    → is_asked instance (get_or ids n 0) ≡ false
    → AreToldSoFar instance ids n old now before after
    → AreToldSoFar instance ids (n + 1) old now before after
unasked_more instance ids n old now before after one unasked so_far =
    let id = get_or ids n 0 in
    let same : told_each instance (catalogue_of old) (cell_at old) (take (n + 1) ids)
    ≡ told_each instance (catalogue_of old) (cell_at old) (take n ids) =
    ap (told_each instance (catalogue_of old) (cell_at old)) one
    ∙ told_each-more instance (catalogue_of old) (cell_at old) (take n ids) id
    ∙ rw unasked (append-nil _) in
    record {
      told = subst (Appends before after) (sym same) so_far.told;
      others = λ q none. so_far.others q (λ k below. none k (omega arith));
      catalogue = so_far.catalogue;
    }
