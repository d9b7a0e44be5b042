-- What an answer says.
use Rattle.std.specs.Prelude.{Bool, true, false, ◌&&◌, ◌||◌, ◌==◌}
use Rattle.osb_message.specs.declared.messages.Answer.{Answer}
use Rattle.osb_message.specs.declared.messages.Body.{Body}
use Rattle.osb_message.specs.declared.messages.Body.TheVariants.{Empty, State}
use Rattle.osb_message.specs.declared.messages.Kind.{Kind}
use Rattle.osb_message.specs.declared.messages.Kind.TheVariants.{Provision, Poll, Deprovision}

-- whether the body can be read, and nothing in it is
abbrev pub is_empty : Body → Bool
is_empty Empty = true
is_empty body = false

-- whether the body is the state of a last operation
abbrev pub is_state : Body → Bool
is_state (State state) = true
is_state body = false

-- whether an answer to a request of a kind has a status of success and a body that can be read whole; a
-- last operation that failed is read whole too (sections Provisioning, Polling Last Operation for Service
-- Instances, Deprovisioning; that nothing else in a body is read is this project's choice)
abbrev pub well_formed : Kind → Answer → Bool
well_formed Provision a = (a.status == 200 || a.status == 201 || a.status == 202) && is_empty a.body
well_formed Poll a = (a.status == 200) && is_state a.body
well_formed Deprovision a = (a.status == 200 || a.status == 201 || a.status == 202) && is_empty a.body
