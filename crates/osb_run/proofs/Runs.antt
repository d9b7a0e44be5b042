-- Which ids have a record after a list of events.
use Rattle.std.proofs.Common.{◌≡◌, ℕ, Bool, true, false, ◌||◌, List, [], ◌∷◌, refl, sym, ◌∙◌, ap}
use Rattle.std.specs.Prelude.{Option, Some, None, is_some, is_none, if◌then◌else◌, option_map}
use Rattle.std.specs.List.{list_any}
use Rattle.std.proofs.Math.Bool.{or-false, or-true, or_assoc}
use Rattle.osb_message.specs.declared.messages.Answer.{Answer}
use Rattle.osb_message.specs.declared.messages.Request.{Request}
use Rattle.osb_broker.specs.declared.outcome.Outcome.{Outcome}
use Rattle.osb_broker.specs.declared.outcome.Outcome.TheVariants.{Done}
use Rattle.osb_message.specs.Plans.{Catalogue}
use Rattle.osb_platform.specs.declared.row.PlatformRow.{PlatformRow}
use Rattle.osb_world.specs.declared.cell.Cell.{Cell}
use Rattle.osb_event.specs.declared.event.Event.{Event}
use Rattle.osb_world.specs.Cell.{empty_cell}
use Rattle.osb_world.specs.Events.{cell_after, cell_steps, events_of, is_of, next_cell}
use Rattle.osb_world.specs.Steps.{applies, cell_step, changed_cell, delivered, repeated, taken}
use Rattle.osb_world.specs.Settling.{after_round, settled_cell}
use Rattle.osb_run.specs.Created.{creates}

-- one event more at the front
stepped_by : (cat : Catalogue) (q : ℕ) (c : Cell) (e : Event) (es : List Event) (b : Bool) → is_of q e ≡ b
    → cell_steps cat c (events_of q (e ∷ es)) ≡ cell_steps cat (next_cell cat q c e) (events_of q es)
stepped_by cat q c e es true m = rw m refl
stepped_by cat q c e es false m = rw m refl

cell_steps-events_of : (cat : Catalogue) (q : ℕ) (c : Cell) (e : Event) (es : List Event)
    → cell_steps cat c (events_of q (e ∷ es)) ≡ cell_steps cat (next_cell cat q c e) (events_of q es)
cell_steps-events_of cat q c e es = stepped_by cat q c e es _ refl

-- a record is made by a Create, and never goes
same_mapped : {A : Type 0} (f : A → A) (p : Option A) → is_some (option_map f p) ≡ is_some p
same_mapped f None = refl
same_mapped f (Some row) = refl

create_records : (p : Option PlatformRow) (row : PlatformRow) (made c : Cell) → c.platform ≡ p
    → made.platform ≡ Some row
    → is_some (if is_none p then made else c).platform ≡ true
create_records None row made c e f = ap is_some f
create_records (Some old) row made c e f = ap is_some e

deliver_records : (cat : Catalogue) (c : Cell) (outcome : Outcome) (o : Option Request)
    → is_some (delivered cat c outcome o).platform ≡ is_some c.platform
deliver_records cat c outcome None = refl
deliver_records cat c outcome (Some r) = refl

repeat_records : (cat : Catalogue) (c : Cell) (outcome : Outcome) (o : Option Request)
    → is_some (repeated cat c outcome o).platform ≡ is_some c.platform
repeat_records cat c outcome None = refl
repeat_records cat c outcome (Some r) = refl

answer_records : (c : Cell) (o : Option Request) (t : Option Answer)
    → is_some (taken c o t).platform ≡ is_some c.platform
answer_records c None t = refl
answer_records c (Some r) None = refl
answer_records c (Some r) (Some a) = same_mapped _ c.platform

either_records : (b : Bool) (made c : Cell) → is_some made.platform ≡ is_some c.platform
    → is_some (if b then made else c).platform ≡ is_some c.platform
either_records true made c e = e
either_records false made c e = refl

keeps : (cat : Catalogue) (c : Cell) (e : Event) → is_some (changed_cell cat c e).platform ≡ is_some c.platform
    → is_some (cell_step cat c e).platform ≡ is_some c.platform
keeps cat c e same = either_records (applies c e) (changed_cell cat c e) c same

unchanged : (cat : Catalogue) (c : Cell) (e : Event) → is_some (changed_cell cat c e).platform ≡ is_some c.platform
    → is_some (cell_step cat c e).platform ≡ (is_some c.platform || false)
unchanged cat c e same = keeps cat c e same ∙ sym (or-false _)

records : (cat : Catalogue) (q : ℕ) (c : Cell) (e : Event) → is_of q e ≡ true
    → is_some (cell_step cat c e).platform ≡ (is_some c.platform || creates q e)
records cat q c (Event.Create id service plan accepts) m =
    rw m (create_records c.platform _ (changed_cell cat c (Event.Create id service plan accepts)) c refl refl
    ∙ sym (or-true _))
records cat q c (Event.Remove id) m = unchanged cat c (Event.Remove id) (same_mapped _ c.platform)
records cat q c (Event.Send id) m = unchanged cat c (Event.Send id) (same_mapped _ c.platform)
records cat q c (Event.Deliver id outcome) m =
    unchanged cat c (Event.Deliver id outcome) (deliver_records cat c outcome c.out)
records cat q c (Event.Repeat id outcome) m =
    unchanged cat c (Event.Repeat id outcome) (repeat_records cat c outcome c.out)
records cat q c (Event.Answer id) m = unchanged cat c (Event.Answer id) (answer_records c c.out c.travelling)
records cat q c (Event.Timeout id) m = unchanged cat c (Event.Timeout id) (same_mapped _ c.platform)
records cat q c (Event.Expire id) m = unchanged cat c (Event.Expire id) (same_mapped _ c.platform)
records cat q c Event.Restart m = unchanged cat c Event.Restart (same_mapped _ c.platform)
records cat q c e m = unchanged cat c e refl

creates_none : (q : ℕ) (e : Event) → is_of q e ≡ false → creates q e ≡ false
creates_none q (Event.Create id service plan accepts) m = m
creates_none q e m = refl

next_records : (cat : Catalogue) (q : ℕ) (c : Cell) (e : Event) (b : Bool) → is_of q e ≡ b
    → is_some (next_cell cat q c e).platform ≡ (is_some c.platform || creates q e)
next_records cat q c e true m = rw m (records cat q c e m)
next_records cat q c e false m = rw (m, creates_none q e m) (sym (or-false _))

recorded_from : (cat : Catalogue) (q : ℕ) (es : List Event) (c : Cell)
    → is_some (cell_steps cat c (events_of q es)).platform ≡ (is_some c.platform || list_any (creates q) es)
recorded_from cat q [] c = sym (or-false _)
recorded_from cat q (e ∷ es) c =
    ap (λ (d : Cell). is_some d.platform) (cell_steps-events_of cat q c e es)
    ∙ recorded_from cat q es (next_cell cat q c e)
    ∙ ap (λ b. b || list_any (creates q) es) (next_records cat q c e _ refl)
    ∙ or_assoc (is_some c.platform) (creates q e) (list_any (creates q) es)

-- an id has a record exactly where some Create names it
pub recorded : (cat : Catalogue) (q : ℕ) (events : List Event)
    → is_some (cell_after cat q events).platform ≡ list_any (creates q) events
recorded cat q events = recorded_from cat q events empty_cell

-- settling makes no record, and takes none away
round_records : (cat : Catalogue) (q : ℕ) (c : Cell) → is_some (after_round cat q c).platform ≡ is_some c.platform
round_records cat q c =
    let given_up = cell_step cat c (Event.Timeout q) in
    let finished = cell_step cat given_up (Event.Finish q true) in
    let sent = cell_step cat finished (Event.Send q) in
    let delivered_to = cell_step cat sent (Event.Deliver q Done) in
    keeps cat delivered_to (Event.Answer q) (answer_records delivered_to delivered_to.out delivered_to.travelling)
    ∙ keeps cat sent (Event.Deliver q Done) (deliver_records cat sent Done sent.out)
    ∙ keeps cat finished (Event.Send q) (same_mapped _ finished.platform)
    ∙ keeps cat given_up (Event.Finish q true) refl
    ∙ keeps cat c (Event.Timeout q) (same_mapped _ c.platform)

pub settled_records : (cat : Catalogue) (q : ℕ) (c : Cell)
    → is_some (settled_cell cat q c).platform ≡ is_some c.platform
settled_records cat q c =
    let once = after_round cat q c in
    round_records cat q (after_round cat q once) ∙ round_records cat q once ∙ round_records cat q c
