-- The answer to a binding's request, as the platform takes it. A 202 to a Bind whose credentials can't be fetched is
-- cleaned up, since nobody can ever have them: this project's choice.
use Rattle.std.specs.Prelude.{Bool, true, false, not, ◌&&◌, ◌==◌, Option, Some}
use Rattle.osb_message.specs.declared.messages.Answer.{Answer}
use Rattle.osb_message.specs.declared.messages.Kind.{Kind}
use Rattle.osb_message.specs.declared.messages.Kind.TheVariants.{Provision}

abbrev pub is_bind : Option Kind → Bool
is_bind (Some Provision) = true
is_bind out = false

-- whether the answer to what is out promises credentials that can't be fetched
abbrev pub is_useless : Bool → Option Kind → Answer → Bool
is_useless retrievable out answer = not retrievable && (is_bind out && answer.status == 202)
