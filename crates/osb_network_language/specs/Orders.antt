-- The lines that take an instance or a binding in (this project's choice, as is the whole language).
use Rattle.std.specs.Prelude.{ℕ, List, [], ◌∷◌, Result, Ok, Err}
use Rattle.osb_binding_network.specs.declared.event.ServiceEvent.{ServiceEvent}
use Rattle.osb_instance.specs.Held.{no_attributes}
use Rattle.osb_language.specs.Fields.{and_then, choice, consents, id_field}
use Rattle.osb_language.specs.declared.fault.LineFault.{LineFault}
use Rattle.osb_language.specs.declared.fault.LineFault.TheVariants.{WordCount}
use Rattle.osb_network_language.specs.Choices.{fetches, first_polls, plan_modes, rules}
use Rattle.osb_network_language.specs.Lives.{binding_field}
use Rattle.osb_network_language.specs.declared.event.NetworkEvent.{NetworkEvent}

-- an instance with these words, in their order; the first fault counts
abbrev pub instance_of : List ℕ → List ℕ → List ℕ → List ℕ → List ℕ → List ℕ → List ℕ → Result NetworkEvent LineFault
instance_of id service plan mode accepts poll kept =
    and_then (id_field id) (λ i.
    and_then (id_field service) (λ s.
    and_then (id_field plan) (λ p.
    and_then (choice plan_modes mode) (λ m.
    and_then (choice consents accepts) (λ a.
    and_then (choice first_polls poll) (λ f.
    and_then (choice rules kept) (λ r.
    Ok (NetworkEvent.Instance (record {
      id = i;
      service = s;
      plan = p;
      mode = m.0;
      accepts = a.0;
      first_poll = f.0;
      attributes = no_attributes;
    }) r.0))))))))

-- instance ID SERVICE PLAN MODE ACCEPTS POLL RULES
abbrev pub instance_as : List (List ℕ) → Result NetworkEvent LineFault
instance_as (id ∷ service ∷ plan ∷ mode ∷ accepts ∷ poll ∷ kept ∷ []) =
    instance_of id service plan mode accepts poll kept
instance_as words = Err WordCount

-- a binding with these words
abbrev pub binding_of : List ℕ → List ℕ → List ℕ → List ℕ → List ℕ → Result NetworkEvent LineFault
binding_of bound mode accepts poll fetch =
    and_then (binding_field bound) (λ b.
    and_then (choice plan_modes mode) (λ m.
    and_then (choice consents accepts) (λ a.
    and_then (choice first_polls poll) (λ f.
    and_then (choice fetches fetch) (λ r.
    Ok (NetworkEvent.Happening b.instance (ServiceEvent.Order (record {
      id = b.id;
      mode = m.0;
      accepts = a.0;
      first_poll = f.0;
      attributes = no_attributes;
      retrievable = r.0;
    }))))))))

-- binding ID/BINDING MODE ACCEPTS POLL FETCH
abbrev pub binding_as : List (List ℕ) → Result NetworkEvent LineFault
binding_as (bound ∷ mode ∷ accepts ∷ poll ∷ fetch ∷ []) = binding_of bound mode accepts poll fetch
binding_as words = Err WordCount
