-- What a broker reports of the settings of an instance, and any platform may believe. What an answer says is the standard's
-- (sections Provisioning, Updating a Service Instance, Polling Last Operation for Service Instances and Fetching a Service
-- Instance); what is made of it is this project's choice.
use Rattle.std.specs.Prelude.{Bool, ◌&&◌, ◌||◌, ◌==◌, nat_le, if◌then◌else◌, Option, Some, None}
use Rattle.osb_message.specs.declared.messages.Answer.{Answer}
use Rattle.osb_message.specs.declared.messages.Kind.{Kind}
use Rattle.osb_message.specs.declared.messages.Kind.TheVariants.{Provision, Poll, Deprovision}
use Rattle.osb_instance.specs.declared.work.Begun.{Begun}
use Rattle.osb_instance.specs.declared.work.Begun.TheVariants.{Answered}
use Rattle.osb_network.specs.AnyPlatform.{is_succeeded}
use Rattle.osb_update.specs.declared.phase.Fetched.{Fetched}
use Rattle.osb_update.specs.declared.phase.UpdateBegun.{UpdateBegun}
use Rattle.osb_update.specs.declared.settings.Settings.{Settings}
use Rattle.osb_update_network.specs.declared.reported.Reported.{Reported}

-- nothing was reported
abbrev pub nothing_reported : Reported
nothing_reported = record { settings = None; accepted = None; before = None }

-- the instance has these settings
abbrev pub has_settings : Settings → Reported → Reported
has_settings settings reported =
    record { settings = Some settings; accepted = reported.accepted; before = reported.before }

-- it will have these settings, once a Poll is answered with `succeeded`
abbrev pub accepts : Settings → Reported → Reported
accepts settings reported =
    record { settings = reported.settings; accepted = Some settings; before = reported.before }

-- ---- requests of the instance itself

-- what was reported counts until a Deprovision arrives
abbrev pub heard : Kind → Reported → Reported
heard Deprovision reported = nothing_reported
heard kind reported = reported

-- a Provision finds nothing: what was accepted before counts no more
abbrev pub made_anew : Reported → Reported
made_anew reported = record { settings = reported.settings; accepted = None; before = reported.before }

-- the last operation has succeeded: the settings that were accepted, or, if none were, those of before
abbrev pub succeeded_with : Option Settings → Option Settings → Option Settings
succeeded_with (Some settings) before = Some settings
succeeded_with None before = before

abbrev pub has_succeeded : Reported → Reported
has_succeeded reported =
    record {
      settings = succeeded_with reported.accepted reported.settings;
      accepted = reported.accepted;
      before = reported.before;
    }

-- an answer to a Provision that asks for these settings
abbrev pub by_provision : Answer → Settings → Reported → Reported
by_provision answer asked reported =
    if answer.status == 200 || answer.status == 201 then has_settings asked reported
    else if answer.status == 202 then accepts asked reported
    else reported

-- an answer to a Poll, while no Deprovision was accepted
abbrev pub by_poll : Answer → Reported → Reported
by_poll answer reported =
    if answer.status == 200 && is_succeeded answer.body then has_succeeded reported else reported

-- an answer to a request of the kind; whether a Deprovision was accepted
abbrev pub by_answer : Kind → Bool → Answer → Settings → Reported → Reported
by_answer Provision leaving answer asked reported = by_provision answer asked reported
by_answer Poll leaving answer asked reported = if leaving then reported else by_poll answer reported
by_answer Deprovision leaving answer asked reported = reported

-- what is reported at once
abbrev pub by_begun : Begun → Kind → Bool → Settings → Reported → Reported
by_begun (Answered answer) kind leaving asked reported = by_answer kind leaving answer asked reported
by_begun (Begun.Work work) kind leaving asked reported = reported

-- ---- Updates

-- the work of an Update begins: what was reported counts no more, unless the Update is rejected in the end
abbrev pub put_aside : Reported → Reported
put_aside reported = record { settings = None; accepted = None; before = reported.settings }

abbrev pub by_update_answer : Answer → Settings → Reported → Reported
by_update_answer answer to reported =
    if answer.status == 200 then has_settings to reported
    else if answer.status == 202 then accepts to reported
    else reported

-- what comes of an Update to these settings
abbrev pub by_update : UpdateBegun → Settings → Reported → Reported
by_update (UpdateBegun.Answered answer) to reported = by_update_answer answer to reported
by_update UpdateBegun.MaintenanceInfoConflict to reported = reported
by_update (UpdateBegun.Work mode goal) to reported = put_aside reported

-- a rejection is an answer with a status from 400 to 499
abbrev pub is_rejection : Answer → Bool
is_rejection answer = nat_le 400 answer.status && nat_le answer.status 499

-- the pending work is rejected: what was reported before it counts again
abbrev pub taken_back : Reported → Reported
taken_back reported = record { settings = reported.before; accepted = reported.accepted; before = None }

-- the answer at the end of the work of an Update to these settings
abbrev pub by_end : Answer → Settings → Reported → Reported
by_end answer to reported =
    if is_rejection answer then taken_back reported else by_update_answer answer to reported

-- what comes of a Fetch
abbrev pub by_fetch : Fetched → Reported → Reported
by_fetch (Fetched.Found settings number) reported = has_settings settings reported
by_fetch (Fetched.Answered answer) reported = reported
