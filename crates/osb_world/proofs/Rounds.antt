-- A fault-free round brings an instance nearer to where nothing is due, and three settle it.
use Rattle.std.proofs.Common.{◌≡◌, ℕ, true, false, arith, refl, sym, ap, ◌∙◌, subst}
use Rattle.std.specs.Prelude.{Option, Some, None, IsSome, IfSome, [], ◌∷◌, ◌==◌, ⊤}
use Rattle.std.proofs.lemmas.Bool.Decides.{nat_tests}
use Rattle.osb_message.specs.declared.catalogue.Mode.{Mode}
use Rattle.osb_message.specs.declared.catalogue.Mode.TheVariants.{Sync, Async}
use Rattle.osb_message.specs.declared.messages.Answer.{Answer}
use Rattle.osb_message.specs.declared.messages.Kind.TheVariants.{Poll, Deprovision}
use Rattle.osb_message.specs.declared.messages.Request.{Request}
use Rattle.osb_broker.specs.declared.outcome.Outcome.TheVariants.{Done}
use Rattle.osb_broker.specs.declared.row.BrokerRow.{BrokerRow}
use Rattle.osb_broker.specs.declared.row.Phase.{Phase}
use Rattle.osb_message.specs.Plans.{Catalogue}
use Rattle.osb_broker.specs.Answers.{same_plan}
use Rattle.osb_broker.specs.Deprovision.{deprovision_at, accepted_deprovision}
use Rattle.osb_broker.specs.Finished.{finished, finished_in, is_running_in}
use Rattle.osb_broker.specs.Poll.{own_poll}
use Rattle.osb_platform.specs.declared.row.PlatformRow.{PlatformRow}
use Rattle.osb_platform.specs.declared.state.State.{State}
use Rattle.osb_platform.specs.declared.state.State.TheVariants.{Wanted, Polling, Cleaning, CleaningPolling}
use Rattle.osb_platform.specs.State.{after_timeout, state_after_poll, state_after_deprovision}
use Rattle.osb_world.specs.declared.cell.Cell.{Cell}
use Rattle.osb_event.specs.declared.event.Event.{Event}
use Rattle.osb_world.specs.Events.{cell_steps}
use Rattle.osb_world.specs.Possible.{IsPossible, IsPossibleRow, OutByState}
use Rattle.osb_world.specs.Settling.{after_round, settled_cell, IsSettled, IsSettledIn, ThreeRoundsSettle}
use Rattle.osb_world.specs.Steps.{cell_step, takes_memory}
use Rattle.osb_world.specs.Views.{WorldState, catalogue_of, cell_at, IsSound, IsStepOf}
use Rattle.osb_world.proofs.Possibility.{cell, row_in, request_of, is_same_plan, on_sale}
use Rattle.osb_world.proofs.Kept.{kept_step}

-- one round more settles the instance, if that: nothing is due, or a deletion is polled that runs or has
-- ended well
abbrev IsInOne : State → Option BrokerRow → Type 0
IsInOne CleaningPolling b = IfSome b (λ row. row.phase ≡ Phase.Deleting)
IsInOne s b = IsSettledIn s

-- two rounds more, if that: it is cleaned up, or nearer
abbrev IsInTwo : State → Option BrokerRow → Type 0
IsInTwo Cleaning b = ⊤
IsInTwo s b = IsInOne s b

abbrev Is : (State → Option BrokerRow → Type 0) → Cell → Type 0
Is near c = IfSome c.platform (λ row. near row.state c.broker)

-- ---- the first two events: what is out is given up, and what runs ends well

abbrev resting : ℕ → ℕ → State → Option BrokerRow → Cell
resting service plan s b = cell (Some (row_in service plan s None)) b None None

stays : (s : State) → OutByState s None → after_timeout s ≡ s
stays Wanted sent = absurd sent
stays s sent = refl

given_up : (cat : Catalogue) (id : ℕ) (row : PlatformRow) (b : Option BrokerRow) (o : Option Request)
    (t : Option Answer)
    → IsPossibleRow cat id row b o t
    → cell_step cat (cell (Some row) b o t) (Event.Timeout id)
    ≡ resting row.service row.plan (after_timeout row.state) b
given_up cat id row b (Some r) t h = refl
given_up cat id row b None (Some a) h = let f = h.travels refl in cc
given_up cat id row b None None h =
    λ i. cell (Some (row_in row.service row.plan (sym (stays row.state h.sent) i) (h.kind i))) b None None

ended_in : (cat : Catalogue) (id service plan : ℕ) (s : State) (a c : ℕ) (p : Phase)
    → cell_step cat (resting service plan s (Some (record { service = a; plan = c; phase = p }))) (Event.Finish id true)
    ≡ resting service plan s (finished_in p (record { service = a; plan = c; phase = p }) true)
ended_in cat id service plan s a c Phase.Making = refl
ended_in cat id service plan s a c p = refl

ended : (cat : Catalogue) (id service plan : ℕ) (s : State) (b : Option BrokerRow)
    → cell_step cat (resting service plan s b) (Event.Finish id true) ≡ resting service plan s (finished b true)
ended cat id service plan s None = refl
ended cat id service plan s (Some b) = ended_in cat id service plan s b.service b.plan b.phase

abbrev IsQuiet : Option BrokerRow → Type 0
IsQuiet b = IfSome b (λ row. is_running_in row.phase ≡ false)

quiet_in : (a c : ℕ) (p : Phase) → IsQuiet (finished_in p (record { service = a; plan = c; phase = p }) true)
quiet_in a c Phase.Making = refl
quiet_in a c Phase.Deleting = tt
quiet_in a c p = refl

quiet_after : (b : Option BrokerRow) → IsQuiet (finished b true)
quiet_after None = tt
quiet_after (Some b) = quiet_in b.service b.plan b.phase

deleted_after : (b : Option BrokerRow) → IfSome b (λ row. row.phase ≡ Phase.Deleting) → finished b true ≡ None
deleted_after None h = refl
deleted_after (Some b) h = ap (λ p. finished_in p b true) h

-- ---- the other three: the request that is due is sent, delivered and answered

abbrev exchanged : Catalogue → ℕ → Cell → Cell
exchanged cat id c = cell_steps cat c (Event.Send id ∷ Event.Deliver id Done ∷ Event.Answer id ∷ [])

accepted : (m : Mode) (b : BrokerRow) (p : Phase) → is_running_in p ≡ false
    → IsInOne (state_after_deprovision (accepted_deprovision m b p Done).answer) (accepted_deprovision m b p Done).row
accepted m b Phase.Making off = cc
accepted m b Phase.Deleting off = cc
accepted Sync b p off = tt
accepted Async b p off = refl

deletion_begins : (mode : Option Mode) (b : BrokerRow) (r : Request) → IsSome mode → same_plan b r ≡ true
    → r.accepts_incomplete ≡ true
    → is_running_in b.phase ≡ false
    → IsInOne (state_after_deprovision (deprovision_at mode (Some b) r Done).answer)
    (deprovision_at mode (Some b) r Done).row
deletion_begins None b r known same accepts off = cc
deletion_begins (Some Sync) b r known same accepts off = rw same (accepted Sync b b.phase off)
deletion_begins (Some Async) b r known same accepts off = rw (same, accepts) (accepted Async b b.phase off)

cleaned : (cat : Catalogue) (id service plan : ℕ) (b : Option BrokerRow) → IsQuiet b
    → IsPossibleRow cat id (row_in service plan Cleaning None) b None None
    → Is IsInOne (exchanged cat id (resting service plan Cleaning b))
cleaned cat id service plan None off h = tt
cleaned cat id service plan (Some b) off h =
    deletion_begins _ b (request_of Deprovision id service plan true) (on_sale cat service plan b h.same)
    (is_same_plan service plan Deprovision id true b h.same.same_service h.same.same_plan) refl off

polled_making : (b : Option BrokerRow) (p : Phase) → is_running_in p ≡ false
    → IsInTwo (state_after_poll Polling (own_poll p Done)) b
polled_making b Phase.Making off = cc
polled_making b Phase.Deleting off = cc
polled_making b p off = tt

polled_deleting : (b : Option BrokerRow) (p : Phase) → is_running_in p ≡ false
    → IsInTwo (state_after_poll CleaningPolling (own_poll p Done)) b
polled_deleting b Phase.Making off = cc
polled_deleting b Phase.Deleting off = cc
polled_deleting b p off = tt

in_two_too : (s : State) (b : Option BrokerRow) → IsInOne s b → IsInTwo s b
in_two_too Cleaning b h = tt
in_two_too s b h = h

nearer : (p : Option PlatformRow) (b : Option BrokerRow) → IfSome p (λ row. IsInOne row.state b)
    → IfSome p (λ row. IsInTwo row.state b)
nearer None b h = tt
nearer (Some row) b h = in_two_too row.state b h

in_two : (cat : Catalogue) (id service plan : ℕ) (s : State) (b : Option BrokerRow) → IsQuiet b
    → IsPossibleRow cat id (row_in service plan s None) b None None
    → Is IsInTwo (exchanged cat id (resting service plan s b))
in_two cat id service plan Wanted b off h = absurd h.sent
in_two cat id service plan Polling None off h = absurd h.holds.0
in_two cat id service plan Polling (Some b) off h =
    rw (is_same_plan service plan Poll id true b h.same.same_service h.same.same_plan)
    (polled_making (Some b) b.phase off)
in_two cat id service plan Cleaning b off h =
    let c : Cell = exchanged cat id (resting service plan Cleaning b) in
    nearer c.platform c.broker (cleaned cat id service plan b off h)
in_two cat id service plan CleaningPolling None off h = tt
in_two cat id service plan CleaningPolling (Some b) off h =
    rw (is_same_plan service plan Poll id true b h.same.same_service h.same.same_plan)
    (polled_deleting (Some b) b.phase off)
in_two cat id service plan s b off h = tt

in_one : (cat : Catalogue) (id service plan : ℕ) (s : State) (b : Option BrokerRow) → IsInTwo s b
    → IsPossibleRow cat id (row_in service plan (after_timeout s) None) (finished b true) None None
    → Is IsInOne (exchanged cat id (resting service plan (after_timeout s) (finished b true)))
in_one cat id service plan Wanted b near h = absurd near
in_one cat id service plan Polling b near h = absurd near
in_one cat id service plan Cleaning b near h = cleaned cat id service plan (finished b true) (quiet_after b) h
in_one cat id service plan CleaningPolling b near h = rw (deleted_after b near) tt
in_one cat id service plan s b near h = tt

in_none : (cat : Catalogue) (id service plan : ℕ) (s : State) (b : Option BrokerRow) → IsInOne s b
    → IsSettled (exchanged cat id (resting service plan (after_timeout s) (finished b true)))
in_none cat id service plan Wanted b near = absurd near
in_none cat id service plan Polling b near = absurd near
in_none cat id service plan Cleaning b near = absurd near
in_none cat id service plan CleaningPolling b near = rw (deleted_after b near) tt
in_none cat id service plan s b near = tt

-- ---- a round, from any cell that can come about

pub own : (id : ℕ) → (id == id) ≡ true
own id = grind (arith, nat_tests)

round_is : (cat : Catalogue) (id : ℕ) (row : PlatformRow) (b : Option BrokerRow) (o : Option Request)
    (t : Option Answer)
    → IsPossibleRow cat id row b o t
    → after_round cat id (cell (Some row) b o t)
    ≡ exchanged cat id (resting row.service row.plan (after_timeout row.state) (finished b true))
round_is cat id row b o t h =
    ap (λ (c : Cell). exchanged cat id (cell_step cat c (Event.Finish id true))) (given_up cat id row b o t h)
    ∙ ap (exchanged cat id) (ended cat id row.service row.plan (after_timeout row.state) b)

kept_ended : (cat : Catalogue) (id : ℕ) (row : PlatformRow) (b : Option BrokerRow) (o : Option Request)
    (t : Option Answer)
    → IsPossibleRow cat id row b o t
    → IsPossibleRow cat id (row_in row.service row.plan (after_timeout row.state) None) (finished b true) None None
kept_ended cat id row b o t h =
    subst (IsPossible cat id) (ended cat id row.service row.plan (after_timeout row.state) b)
    (kept_step cat id (resting row.service row.plan (after_timeout row.state) b) (Event.Finish id true) (own id)
    (subst (IsPossible cat id) (given_up cat id row b o t h)
    (kept_step cat id (cell (Some row) b o t) (Event.Timeout id) (own id) h)))

first_round : (cat : Catalogue) (id : ℕ) (p : Option PlatformRow) (b : Option BrokerRow) (o : Option Request)
    (t : Option Answer)
    → IsPossible cat id (cell p b o t) → Is IsInTwo (after_round cat id (cell p b o t))
first_round cat id None b o t h = rw (h.0, h.1, h.2) tt
first_round cat id (Some row) b o t h =
    subst (Is IsInTwo) (sym (round_is cat id row b o t h))
    (in_two cat id row.service row.plan (after_timeout row.state) (finished b true) (quiet_after b)
    (kept_ended cat id row b o t h))

second_round : (cat : Catalogue) (id : ℕ) (p : Option PlatformRow) (b : Option BrokerRow) (o : Option Request)
    (t : Option Answer)
    → IsPossible cat id (cell p b o t) → Is IsInTwo (cell p b o t) → Is IsInOne (after_round cat id (cell p b o t))
second_round cat id None b o t h near = rw (h.0, h.1, h.2) tt
second_round cat id (Some row) b o t h near =
    subst (Is IsInOne) (sym (round_is cat id row b o t h))
    (in_one cat id row.service row.plan row.state b near (kept_ended cat id row b o t h))

third_round : (cat : Catalogue) (id : ℕ) (p : Option PlatformRow) (b : Option BrokerRow) (o : Option Request)
    (t : Option Answer)
    → IsPossible cat id (cell p b o t) → Is IsInOne (cell p b o t) → IsSettled (after_round cat id (cell p b o t))
third_round cat id None b o t h near = rw (h.0, h.1, h.2) tt
third_round cat id (Some row) b o t h near =
    subst IsSettled (sym (round_is cat id row b o t h)) (in_none cat id row.service row.plan row.state b near)

pub kept_round : (cat : Catalogue) (id : ℕ) (c : Cell) → IsPossible cat id c → IsPossible cat id (after_round cat id c)
kept_round cat id c h =
    kept_step cat id _ (Event.Answer id) (own id)
    (kept_step cat id _ (Event.Deliver id Done) (own id)
    (kept_step cat id _ (Event.Send id) (own id)
    (kept_step cat id _ (Event.Finish id true) (own id) (kept_step cat id c (Event.Timeout id) (own id) h))))

-- three of them settle the instance
pub three_rounds_settle : ThreeRoundsSettle
three_rounds_settle cat id c h =
    let d : Cell = after_round cat id c in
    let e : Cell = after_round cat id d in
    let kept : IsPossible cat id d = kept_round cat id c h in
    third_round cat id e.platform e.broker e.out e.travelling (kept_round cat id d kept)
    (second_round cat id d.platform d.broker d.out d.travelling kept
    (first_round cat id c.platform c.broker c.out c.travelling h))

-- ---- the delivery takes no memory: what is sent after the Timeout is no Provision

sent_free : (cat : Catalogue) (id service plan : ℕ) (s : State) (b : Option BrokerRow) → OutByState s None
    → takes_memory cat (cell_step cat (resting service plan s b) (Event.Send id)) (Event.Deliver id Done) ≡ false
sent_free cat id service plan Wanted b sent = absurd sent
sent_free cat id service plan s None sent = refl
sent_free cat id service plan s (Some b) sent = refl

free_parts : (cat : Catalogue) (id : ℕ) (p : Option PlatformRow) (b : Option BrokerRow) (o : Option Request)
    (t : Option Answer)
    → IsPossible cat id (cell p b o t)
    → takes_memory cat (cell_steps cat (cell p b o t) (Event.Timeout id ∷ Event.Finish id true ∷ Event.Send id ∷ []))
    (Event.Deliver id Done)
    ≡ false
free_parts cat id None b o t h = rw (h.0, h.1) refl
free_parts cat id (Some row) b o t h =
    let service = row.service in
    let plan = row.plan in
    ap (λ (c : Cell). takes_memory cat (cell_step cat (cell_step cat c (Event.Finish id true)) (Event.Send id))
    (Event.Deliver id Done))
    (given_up cat id row b o t h)
    ∙ ap (λ (c : Cell). takes_memory cat (cell_step cat c (Event.Send id)) (Event.Deliver id Done))
    (ended cat id service plan (after_timeout row.state) b)
    ∙ sent_free cat id service plan (after_timeout row.state) (finished b true) (kept_ended cat id row b o t h).sent

-- so it is in a world that has come as far
pub free_delivery : (start out ended now : WorldState) (id : ℕ) → IsSound start
    → IsStepOf start out id (Event.Timeout id)
    → IsStepOf out ended id (Event.Finish id true) → IsStepOf ended now id (Event.Send id)
    → takes_memory (catalogue_of now) (cell_at now id) (Event.Deliver id Done) ≡ false
free_delivery start out ended now id sound timeout finish send =
    let catalogue : catalogue_of ended ≡ catalogue_of start = finish.catalogue ∙ timeout.catalogue in
    let cell : cell_at ended id
    ≡ cell_steps (catalogue_of start) (cell_at start id) (Event.Timeout id ∷ Event.Finish id true ∷ []) =
    finish.here ∙ (λ i. cell_step (timeout.catalogue i) (timeout.here i) (Event.Finish id true)) in
    let c : Cell = cell_at start id in
    (λ i. takes_memory (send.catalogue i) (send.here i) (Event.Deliver id Done))
    ∙ (λ i. takes_memory (catalogue i) (cell_step (catalogue i) (cell i) (Event.Send id)) (Event.Deliver id Done))
    ∙ free_parts (catalogue_of start) id c.platform c.broker c.out c.travelling (sound.possible id)

-- ---- three rounds of a world

pub settled_after : (start first second third : WorldState) (id : ℕ)
    → cell_at first id ≡ after_round (catalogue_of start) id (cell_at start id)
    → cell_at second id ≡ after_round (catalogue_of first) id (cell_at first id)
    → cell_at third id ≡ after_round (catalogue_of second) id (cell_at second id)
    → catalogue_of first ≡ catalogue_of start → catalogue_of second ≡ catalogue_of first
    → cell_at third id ≡ settled_cell (catalogue_of start) id (cell_at start id)
settled_after start first second third id one two three same_one same_two =
    let same : catalogue_of second ≡ catalogue_of start = same_two ∙ same_one in
    let cell : cell_at second id
    ≡ after_round (catalogue_of start) id (after_round (catalogue_of start) id (cell_at start id)) =
    two ∙ (λ i. after_round (same_one i) id (one i)) in
    three ∙ (λ i. after_round (same i) id (cell i))
