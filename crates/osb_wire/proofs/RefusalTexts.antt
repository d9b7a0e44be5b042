-- The text of each refusal's body is that of its object, and reads as it.
use Rattle.std.proofs.Common.{◌≡◌, ℕ, List, Some, refl}
use Rattle.std.specs.Prelude.{codes}
use Rattle.std.specs.Str.{is_utf8, chars}
use Rattle.serde_json.specs.Written.{compact_text}
use Rattle.serde_json.proofs.OnLiterals.{serde_json_on_literals}
use Rattle.osb_wire.specs.Bodies.{value_in, object_in}
use Rattle.osb_message.specs.declared.messages.Kind.{Kind}
use Rattle.osb_message.specs.declared.messages.Kind.TheVariants.{Provision, Poll, Deprovision}
use Rattle.osb_wire.specs.Answers.{answer_of_object}
use Rattle.osb_wire.specs.Refusals.{status_of, object_of, taken_for}
use Rattle.osb_wire.specs.declared.refusal.Refusal.{Refusal}
use Rattle.osb_wire.specs.declared.refusal.Refusal.TheVariants.{NoSuchTarget, NoSuchMethod, BadVersion, TooLong, BadInstance, Repeated}
use Rattle.osb_wire.specs.declared.refusal.Refusal.TheVariants.{BadService, BadPlan, BadAcceptsIncomplete, NotAnObject, BadOrganization, BadSpace, Memory}

-- it is the text of the refusal's object, and reads as it
abbrev pub IsTextOf : Refusal → List ℕ → Type 0
IsTextOf refusal text = (text ≡ compact_text (object_of refusal)) × (object_in text ≡ Some (object_of refusal))

pub no_such_target : IsTextOf NoSuchTarget (codes "{\"description\":\"There is no such target.\",\"error\":\"NotFound\"}")
unfolding serde_json_on_literals value_in is_utf8 chars
no_such_target = (refl, refl)

pub no_such_method : IsTextOf NoSuchMethod (codes "{\"description\":\"The target has no such method.\",\"error\":\"MethodNotAllowed\"}")
unfolding serde_json_on_literals value_in is_utf8 chars
no_such_method = (refl, refl)

pub bad_version : IsTextOf BadVersion (codes "{\"description\":\"The version must be 2.0 or a later 2.x.\",\"error\":\"PreconditionFailed\"}")
unfolding serde_json_on_literals value_in is_utf8 chars
bad_version = (refl, refl)

pub too_long : IsTextOf TooLong (codes "{\"description\":\"The body is too long.\",\"error\":\"ContentTooLarge\"}")
unfolding serde_json_on_literals value_in is_utf8 chars
too_long = (refl, refl)

pub bad_instance : IsTextOf BadInstance (codes "{\"description\":\"The instance id must be UTF-8 of 1 to 255 bytes, and no dot segment.\",\"error\":\"BadRequest\"}")
unfolding serde_json_on_literals value_in is_utf8 chars
bad_instance = (refl, refl)

pub repeated : IsTextOf Repeated (codes "{\"description\":\"A parameter stands twice.\",\"error\":\"BadRequest\"}")
unfolding serde_json_on_literals value_in is_utf8 chars
repeated = (refl, refl)

pub bad_service : IsTextOf BadService (codes "{\"description\":\"service_id must be a string of 1 to 255 bytes.\",\"error\":\"BadRequest\"}")
unfolding serde_json_on_literals value_in is_utf8 chars
bad_service = (refl, refl)

pub bad_plan : IsTextOf BadPlan (codes "{\"description\":\"plan_id must be a string of 1 to 255 bytes.\",\"error\":\"BadRequest\"}")
unfolding serde_json_on_literals value_in is_utf8 chars
bad_plan = (refl, refl)

pub bad_accepts_incomplete : IsTextOf BadAcceptsIncomplete (codes "{\"description\":\"accepts_incomplete must be true or false.\",\"error\":\"BadRequest\"}")
unfolding serde_json_on_literals value_in is_utf8 chars
bad_accepts_incomplete = (refl, refl)

pub not_an_object : IsTextOf NotAnObject (codes "{\"description\":\"The body must be a JSON object.\",\"error\":\"BadRequest\"}")
unfolding serde_json_on_literals value_in is_utf8 chars
not_an_object = (refl, refl)

pub bad_organization : IsTextOf BadOrganization (codes "{\"description\":\"organization_guid must be a string that is not empty.\",\"error\":\"BadRequest\"}")
unfolding serde_json_on_literals value_in is_utf8 chars
bad_organization = (refl, refl)

pub bad_space : IsTextOf BadSpace (codes "{\"description\":\"space_guid must be a string that is not empty.\",\"error\":\"BadRequest\"}")
unfolding serde_json_on_literals value_in is_utf8 chars
bad_space = (refl, refl)

pub memory : IsTextOf Memory (codes "{\"description\":\"The broker has no memory left.\",\"error\":\"ServiceUnavailable\"}")
unfolding serde_json_on_literals value_in is_utf8 chars
memory = (refl, refl)

-- what a platform takes each for
pub taken_so : (kind : Kind) (refusal : Refusal)
    → answer_of_object kind (status_of refusal) (Some (object_of refusal)) ≡ taken_for kind refusal
taken_so Provision NoSuchTarget = refl
taken_so Provision NoSuchMethod = refl
taken_so Provision BadVersion = refl
taken_so Provision TooLong = refl
taken_so Provision BadInstance = refl
taken_so Provision Repeated = refl
taken_so Provision BadService = refl
taken_so Provision BadPlan = refl
taken_so Provision BadAcceptsIncomplete = refl
taken_so Provision NotAnObject = refl
taken_so Provision BadOrganization = refl
taken_so Provision BadSpace = refl
taken_so Provision Memory = refl
taken_so Poll NoSuchTarget = refl
taken_so Poll NoSuchMethod = refl
taken_so Poll BadVersion = refl
taken_so Poll TooLong = refl
taken_so Poll BadInstance = refl
taken_so Poll Repeated = refl
taken_so Poll BadService = refl
taken_so Poll BadPlan = refl
taken_so Poll BadAcceptsIncomplete = refl
taken_so Poll NotAnObject = refl
taken_so Poll BadOrganization = refl
taken_so Poll BadSpace = refl
taken_so Poll Memory = refl
taken_so Deprovision NoSuchTarget = refl
taken_so Deprovision NoSuchMethod = refl
taken_so Deprovision BadVersion = refl
taken_so Deprovision TooLong = refl
taken_so Deprovision BadInstance = refl
taken_so Deprovision Repeated = refl
taken_so Deprovision BadService = refl
taken_so Deprovision BadPlan = refl
taken_so Deprovision BadAcceptsIncomplete = refl
taken_so Deprovision NotAnObject = refl
taken_so Deprovision BadOrganization = refl
taken_so Deprovision BadSpace = refl
taken_so Deprovision Memory = refl
