-- When the broker's worker tells the truth of the resource.
use Rattle.std.specs.Prelude.{Bool, true, false, Option, Some, None}
use Rattle.osb_message.specs.declared.catalogue.Mode.{Mode}
use Rattle.osb_message.specs.declared.catalogue.Mode.TheVariants.{Sync}
use Rattle.osb_message.specs.declared.messages.Kind.{Kind}
use Rattle.osb_message.specs.declared.messages.Kind.TheVariants.{Provision, Deprovision}
use Rattle.osb_broker.specs.declared.row.BrokerRow.{BrokerRow}
use Rattle.osb_broker.specs.declared.row.Phase.{Phase}
use Rattle.osb_message.specs.declared.messages.Request.{Request}
use Rattle.osb_instance.specs.declared.outcome.WorkOutcome.{WorkOutcome}
use Rattle.osb_instance.specs.declared.outcome.WorkOutcome.TheVariants.{Before, Refused}
use Rattle.osb_instance.specs.Begin.{is_operating}
use Rattle.osb_instance.specs.Held.{Held}
use Rattle.osb_network.specs.declared.resource.Resource.{Resource}
use Rattle.osb_network.specs.declared.resource.Resource.TheVariants.{Absent, Whole}

abbrev pub is_absent : Resource → Bool
is_absent Absent = true
is_absent resource = false

abbrev pub is_whole : Resource → Bool
is_whole Whole = true
is_whole resource = false

-- whether work that is said to have ended so may have left this resource
abbrev pub is_true_end : Option Mode → Kind → WorkOutcome → Resource → Bool
is_true_end mode Provision Before resource = is_absent resource
is_true_end mode Provision (Refused rejection) resource = is_absent resource
is_true_end (Some Sync) Provision outcome resource = is_whole resource
is_true_end mode kind (Refused rejection) resource = false
is_true_end mode Deprovision Before resource = true
is_true_end (Some Sync) Deprovision outcome resource = is_absent resource
is_true_end mode kind outcome resource = true

-- whether an operation of this phase that is said to have ended well, or badly, may have left this resource
abbrev pub is_true_finish : Phase → Bool → Resource → Bool
is_true_finish Phase.Making true resource = is_whole resource
is_true_finish Phase.Deleting true resource = is_absent resource
is_true_finish phase ok resource = true

abbrev pub is_true_finish_of : Option BrokerRow → Bool → Resource → Bool
is_true_finish_of None ok resource = true
is_true_finish_of (Some row) ok resource = is_true_finish row.phase ok resource

-- whether something goes on that may change the resource, in whatever way: pending work, which may also be undone, or an
-- operation that runs
abbrev pub is_under_way_by : Option Request → Held → Bool
is_under_way_by (Some request) held = true
is_under_way_by None held = is_operating held

abbrev pub is_under_way : Held → Bool
is_under_way held = is_under_way_by held.work held
