-- The object of a binding in answers (sections Binding and Fetching a Service Binding).
use Rattle.std.specs.Prelude.{ℕ, Bool, false, ◌||◌, ◌==◌, if◌then◌else◌, List, Option, None, option_map}
use Rattle.osb_message.specs.declared.messages.Kind.{Kind}
use Rattle.osb_message.specs.declared.messages.Kind.TheVariants.{Provision, Poll, Deprovision}
use Rattle.osb_wire.specs.Bodies.{object_in}

-- the text that a body is, where it is an object of JSON
abbrev pub object_text : List ℕ → Option (List ℕ)
object_text body = option_map (λ _. body) (object_in body)

-- whether an answer to a request of a kind has the binding's object
abbrev pub has_object : Kind → ℕ → Bool
has_object Provision status = (status == 200) || (status == 201)
has_object Poll status = false
has_object Deprovision status = false

-- the object that an answer to a request of a kind has
abbrev pub bound_in : Kind → ℕ → List ℕ → Option (List ℕ)
bound_in kind status body = if has_object kind status then object_text body else None

-- the object that an answer to a Fetch has
abbrev pub fetched_in : ℕ → List ℕ → Option (List ℕ)
fetched_in status body = if status == 200 then object_text body else None
