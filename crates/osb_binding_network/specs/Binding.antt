-- A binding with its credentials: one more life, whose resource has credentials, a number. The row that is ready keeps
-- them, the answer to a Bind carries the row's, and so does that to a Fetch. The platform records the credentials of the
-- answer that makes its record `ready`; if that is a Poll's, which carries none, it takes the answer only together with
-- a Fetch's. All of this is this project's choice.
use Rattle.std.specs.Prelude.{◌≡◌, ℕ, Bool, true, false, ◌&&◌, if◌then◌else◌, nat_lt, Option, Some, None}
use Rattle.std.specs.Prelude.{List, [], ◌∷◌, ◌++◌, length, is_none, slice_get}
use Rattle.osb_broker.specs.declared.row.BrokerRow.{BrokerRow}
use Rattle.osb_instance.specs.Fits as fits
use Rattle.osb_instance.specs.Held.{Held, nothing_held}
use Rattle.osb_network.specs.declared.event.Event.{Event}
use Rattle.osb_network.specs.declared.order.Order.{Order}
use Rattle.osb_network.specs.declared.resource.Resource.TheVariants.{Whole}
use Rattle.osb_network.specs.Cell.{Cell, empty_cell}
use Rattle.osb_network.specs.Steps.{cell_step}
use Rattle.osb_network.specs.Truth.{is_under_way}
use Rattle.osb_binding_network.specs.declared.event.BindingEvent.{BindingEvent}
use Rattle.osb_binding_network.specs.Allowed.{is_ready, needs_fetch, of_binding}

pub record BindingCell : Type 0 where
  pub life : Cell
  -- whether it can be fetched
  pub retrievable : Bool
  -- whether the broker has deleted its tombstone
  pub forgotten : Bool
  -- the credentials: those of the resource, those beside the row, and those that the platform records
  pub resource : ℕ
  pub row : ℕ
  pub recorded : ℕ
  -- those of each answer that was given, and of each Fetch's
  pub answers : List ℕ
  pub fetched : List ℕ

-- of a binding that nothing has happened to
abbrev pub empty_binding : Order → Bool → BindingCell
empty_binding order retrievable =
    record {
      life = empty_cell order;
      retrievable = retrievable;
      forgotten = false;
      resource = 0;
      row = 0;
      recorded = 0;
      answers = [];
      fetched = [];
    }

abbrev pub holds_ready_by : Option BrokerRow → Bool
holds_ready_by None = false
holds_ready_by (Some row) = fits.is_ready row.phase

abbrev pub holds_ready : Held → Bool
holds_ready held = holds_ready_by held.row

-- ---- an event of the life

-- the resource's credentials: chosen anew each time that the resource changes
abbrev pub resource_after : Held → Event → ℕ → ℕ → ℕ
resource_after held (Event.Work resource) chosen before = if is_under_way held then chosen else before
resource_after held event chosen before = before

-- a row that is ready keeps its credentials; one that becomes so takes the resource's
abbrev pub row_after : Held → ℕ → ℕ → ℕ
row_after held resource before = if holds_ready held then before else resource

-- an answer that was given carries the row's
abbrev pub answers_after : Bool → List ℕ → ℕ → List ℕ
answers_after true answers row = answers ++ row ∷ []
answers_after false answers row = answers

-- the credentials of the answer at a place, or those that are recorded
abbrev pub told_at : Option ℕ → ℕ → ℕ
told_at None before = before
told_at (Some told) before = told

-- what the platform records once it has taken the answer, by whether the record was `ready` and is
abbrev pub recorded_after : Bool → Bool → Event → List ℕ → ℕ → ℕ
recorded_after false true (Event.Take at) answers before = told_at (slice_get answers at) before
recorded_after was is event answers before = before

-- the binding once its life has become this
abbrev pub lived_to : BindingCell → Cell → Event → ℕ → ℕ → BindingCell
lived_to c life event resource row =
    record {
      life = life;
      retrievable = c.retrievable;
      forgotten = c.forgotten;
      resource = resource;
      row = row;
      recorded = recorded_after (is_ready c.life.recorded) (is_ready life.recorded) event c.answers c.recorded;
      answers = answers_after (nat_lt (length c.life.given) (length life.given)) c.answers row;
      fetched = c.fetched;
    }

-- the binding after an event of its life, which chooses these credentials if it changes the resource
abbrev pub lived : BindingCell → Event → ℕ → BindingCell
lived c event chosen =
    let resource = resource_after c.life.held event chosen c.resource in
    lived_to c (cell_step c.life event) event resource (row_after c.life.held resource c.row)

abbrev pub lived_if : BindingCell → Option Event → ℕ → BindingCell
lived_if c None chosen = c
lived_if c (Some event) chosen = lived c event chosen

-- ---- the credentials of a binding that was polled

-- whether a Fetch is answered with credentials: a row is ready and no work is pending
abbrev pub is_fetchable : Held → Bool
is_fetchable held = holds_ready held && is_none held.work

-- a Fetch arrives at the broker, for the first time or again, in time or late: it changes nothing at the broker
abbrev pub fetch_arrived : BindingCell → BindingCell
fetch_arrived c = if is_fetchable c.life.held then record c { fetched = c.fetched ++ c.row ∷ [] } else c

-- a Poll's answer is taken with what a Fetch has brought
abbrev pub taken_with : BindingCell → ℕ → Option ℕ → BindingCell
taken_with c at None = c
taken_with c at (Some credentials) =
    if needs_fetch c.life at
    then (let next = lived c (Event.Take at) 0 in record next { recorded = credentials })
    else c

-- ---- a tombstone that is deleted

-- the broker may delete it once that of the instance is there (`ended`)
abbrev pub forgot : Bool → BindingCell → BindingCell
forgot ended c = if ended && c.life.held.tombstone then record c { forgotten = true } else c

-- ---- any event

-- the binding after an event, if it may be created (`create`), if something may begin (`work`), and if its instance has
-- ended (`ended`)
abbrev pub binding_step : Bool → Bool → Bool → BindingCell → BindingEvent → BindingCell
binding_step create work ended c (BindingEvent.Life event chosen) =
    lived_if c (of_binding create work c.forgotten c.retrievable c.life event) chosen
binding_step create work ended c BindingEvent.Fetch = fetch_arrived c
binding_step create work ended c (BindingEvent.TakeFetched at fetched) = taken_with c at (slice_get c.fetched fetched)
binding_step create work ended c BindingEvent.Forget = forgot ended c

-- where the platform records `ready`, the resource is there, whole, and the platform records its credentials
abbrev pub CredentialsAgree : BindingCell → Type 0
CredentialsAgree c = is_ready c.life.recorded ≡ true → (c.life.resource ≡ Whole) × (c.recorded ≡ c.resource)

-- what the broker holds: nothing, once it has deleted the tombstone
abbrev pub held_now : BindingCell → Held
held_now c = if c.forgotten then nothing_held else c.life.held
