-- The lines that let something happen: the first word of each, what follows it, and what happens (this project's
-- choice, as is the whole language).
use Rattle.std.specs.Prelude.{ℕ, List, Option, Some, None, Result, Ok, Err, if◌then◌else◌, codes}
use Rattle.std.specs.Str.{bytes_eq}
use Rattle.osb_binding_network.specs.declared.event.BindingEvent.{BindingEvent}
use Rattle.osb_binding_network.specs.declared.event.ServiceEvent.{ServiceEvent}
use Rattle.osb_language.specs.Fields.{and_then, choice, endings, one_field, status_field, three_fields, two_fields}
use Rattle.osb_language.specs.declared.fault.LineFault.{LineFault}
use Rattle.osb_language.specs.declared.fault.LineFault.TheVariants.{UnknownWord}
use Rattle.osb_network.specs.declared.event.Event.{Event}
use Rattle.osb_network.specs.declared.event.Event.TheVariants as Happens
use Rattle.osb_network.specs.declared.resource.Resource.TheVariants.{Whole}
use Rattle.osb_network_language.specs.Choices as choices
use Rattle.osb_network_language.specs.Lives.{binding_field, happens, life_field}
use Rattle.osb_network_language.specs.Numbers.{number_field, place_field}
use Rattle.osb_network_language.specs.Orders.{binding_as, instance_as}
use Rattle.osb_network_language.specs.declared.event.NetworkEvent.{NetworkEvent}
use Rattle.osb_network_language.specs.declared.life.Bound.{Bound}

-- an event of a life alone
abbrev pub plain_as : Event → List (List ℕ) → Result NetworkEvent LineFault
plain_as event words = and_then (one_field life_field words) (λ life. Ok (happens life event))

-- an event of a life, and of what a second word stands for
abbrev pub with_field : {A : Type 0} → (List ℕ → Result A LineFault) → (A → Event) → List (List ℕ)
    → Result NetworkEvent LineFault
with_field field event words = and_then (two_fields life_field field words) (λ p. Ok (happens p.0 (event p.1)))

-- the events of a life and a number
abbrev pub numbered_as : List ℕ → List (List ℕ) → Result NetworkEvent LineFault
numbered_as first words =
    if bytes_eq first (codes "arrive") then with_field number_field (λ n. Happens.Arrive n.0) words else
    (if bytes_eq first (codes "put-off") then with_field number_field (λ n. Happens.PutOff n.0) words else
    (if bytes_eq first (codes "take") then with_field place_field (λ n. Happens.Take n.0) words else
    (if bytes_eq first (codes "garble") then with_field place_field (λ n. Happens.TakeGarbled n.0) words else
    (if bytes_eq first (codes "gateway") then with_field status_field (λ s. Happens.TakeGateway s.0) words else
    Err UnknownWord))))

-- the events of a life and a choice
abbrev pub chosen_as : List ℕ → List (List ℕ) → Result NetworkEvent LineFault
chosen_as first words =
    if bytes_eq first (codes "work") then with_field (choice choices.resources) (λ r. Happens.Work r.0) words else
    (if bytes_eq first (codes "end") then with_field (choice choices.endings) (λ e. e.0) words else
    (if bytes_eq first (codes "finish") then with_field (choice endings) (λ e. Happens.Finish e.0) words else
    (if bytes_eq first (codes "crash") then with_field (choice choices.crashes) (λ c. c.0) words else
    numbered_as first words)))

-- what happens to a binding
abbrev pub bound_event : Bound → BindingEvent → Result NetworkEvent LineFault
bound_event bound event = Ok (NetworkEvent.Happening bound.instance (ServiceEvent.Binding bound.id event))

abbrev pub issue_as : List (List ℕ) → Result NetworkEvent LineFault
issue_as words =
    and_then (two_fields binding_field number_field words)
    (λ p. bound_event p.0 (BindingEvent.Life (Happens.Work Whole) p.1.0))

abbrev pub take_fetched_as : List (List ℕ) → Result NetworkEvent LineFault
take_fetched_as words =
    and_then (three_fields binding_field place_field place_field words)
    (λ p. bound_event p.0 (BindingEvent.TakeFetched p.1.0 p.2.0))

-- the events of a binding alone
abbrev pub bound_as : List ℕ → List (List ℕ) → Result NetworkEvent LineFault
bound_as first words =
    if bytes_eq first (codes "issue") then issue_as words else
    (if bytes_eq first (codes "fetch")
    then and_then (one_field binding_field words) (λ b. bound_event b BindingEvent.Fetch) else
    (if bytes_eq first (codes "forget")
    then and_then (one_field binding_field words) (λ b. bound_event b BindingEvent.Forget) else
    (if bytes_eq first (codes "take-fetched") then take_fetched_as words else
    chosen_as first words)))

-- the events that a life alone follows
abbrev pub plain_event : List ℕ → Option Event
plain_event first =
    if bytes_eq first (codes "create") then Some Happens.Create else
    (if bytes_eq first (codes "send") then Some Happens.Send else
    (if bytes_eq first (codes "expire") then Some Happens.Expire else
    (if bytes_eq first (codes "retry") then Some Happens.Retry else
    (if bytes_eq first (codes "remove") then Some Happens.Remove else
    (if bytes_eq first (codes "timeout") then Some Happens.Timeout else
    (if bytes_eq first (codes "give-up-waiting") then Some Happens.GiveUpWaiting else
    None))))))

abbrev pub other_as : Option Event → List ℕ → List (List ℕ) → Result NetworkEvent LineFault
other_as (Some event) first words = plain_as event words
other_as None first words = bound_as first words

-- all lines that let something happen
abbrev pub event_as : List ℕ → List (List ℕ) → Result NetworkEvent LineFault
event_as first words =
    if bytes_eq first (codes "instance") then instance_as words else
    (if bytes_eq first (codes "binding") then binding_as words else
    other_as (plain_event first) first words)
