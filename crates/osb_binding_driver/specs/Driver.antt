-- What a driver of a binding does with what it reads: its own row, and that of its instance.
use Rattle.std.specs.Prelude.{ℕ, Bool, not, ◌&&◌, if◌then◌else◌, Option, Some, None}
use Rattle.osb_message.specs.declared.catalogue.Mode.{Mode}
use Rattle.osb_instance.specs.Begin.{begins, is_provision}
use Rattle.osb_instance.specs.Held.{Held}
use Rattle.osb_instance.specs.declared.digest.Digest.{Digest}
use Rattle.osb_binding.specs.Begun.{binding_begun, is_forgotten, may_begin}
use Rattle.osb_binding.specs.Requests.{life_request}
use Rattle.osb_binding.specs.declared.request.BindingRequest.{BindingRequest}
use Rattle.osb_driver.specs.Driver.{first, take_up, transaction}
use Rattle.osb_driver.specs.declared.driver.Permit.{Permit}
use Rattle.osb_driver.specs.declared.driver.Stage.{Stage}
use Rattle.osb_driver.specs.declared.driver.Transaction.{Transaction}

-- what the instance lets a transaction of a binding do
abbrev pub permit : Held → BindingRequest → Bool → Permit
permit instance request may_give_up = record { begin = may_begin instance request; give_up = may_give_up }

-- whether a request is put off: a Bind that comes after the end of the instance, when nothing is kept of the binding,
-- or a Bind that would begin something while the instance isn't there
abbrev pub is_put_off : Held → Option Mode → Held → BindingRequest → Digest → Bool
is_put_off instance mode row request attributes =
    if is_forgotten instance row
    then is_provision request.kind
    else (not (may_begin instance request) && begins mode row (life_request request) attributes)

abbrev pub begin : Option ℕ → Bool → Bool → Bool → Option Mode → Bool → Held → Held → BindingRequest → Digest → Transaction
begin None locked is_owner may_give_up mode first_poll row instance request attributes = take_up may_give_up row
begin (Some attempt) locked is_owner may_give_up mode first_poll row instance request attributes =
    first locked is_owner (is_put_off instance mode row request attributes) row (life_request request)
    (binding_begun instance mode first_poll row request attributes)

-- the transaction of a binding's driver
abbrev pub binding_transaction : Option ℕ → Stage → Bool → Bool → Option Mode → Bool → Held → Held → BindingRequest → Digest → Option Transaction
binding_transaction attempt (Stage.Begin locked) is_owner may_give_up mode first_poll row instance request attributes =
    Some (begin attempt locked is_owner may_give_up mode first_poll row instance request attributes)
binding_transaction attempt stage is_owner may_give_up mode first_poll row instance request attributes =
    transaction attempt stage is_owner (permit instance request may_give_up) mode first_poll row (life_request request)
    attributes
