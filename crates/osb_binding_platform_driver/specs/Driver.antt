-- What the driver of an instance that may have bindings, or of a binding, does with what is reported to it, and with what
-- its transactions read.
use Rattle.std.specs.Prelude.{ℕ, Bool, true, false, not, ◌&&◌, ◌||◌, if◌then◌else◌, is_none, is_some}
use Rattle.std.specs.Prelude.{Option, Some, None}
use Rattle.osb_message.specs.declared.messages.Answer.{Answer}
use Rattle.osb_message.specs.declared.messages.Kind.TheVariants.{Poll}
use Rattle.osb_platform.specs.declared.row.PlatformRow.{PlatformRow}
use Rattle.osb_platform.specs.declared.state.State.TheVariants.{Polling}
use Rattle.osb_platform.specs.State.{is_polling}
use Rattle.osb_instance.specs.Recorded.{Recorded}
use Rattle.osb_network.specs.Steps.{has_out, is_out}
use Rattle.osb_platform_driver.specs.Driver.{brought_up, claim, given_up_if, states_of, taken_from}
use Rattle.osb_platform_driver.specs.declared.driver.CleanUp.{CleanUp}
use Rattle.osb_platform_driver.specs.declared.driver.Stage.{Stage}
use Rattle.osb_platform_driver.specs.declared.driver.Transaction.{Transaction}
use Rattle.osb_platform_driver.specs.declared.driver.Wishes.{Wishes}
use Rattle.osb_binding.specs.Answers.{is_useless}
use Rattle.osb_binding_network.specs.Allowed.{is_ready, makes_ready}
use Rattle.osb_binding_platform_driver.specs.declared.driver.PlatformDriver.{PlatformDriver}
use Rattle.osb_binding_platform_driver.specs.declared.driver.PlatformStage.{PlatformStage}
use Rattle.osb_binding_platform_driver.specs.declared.transactions.PlatformReading.{PlatformReading}
use Rattle.osb_binding_platform_driver.specs.declared.transactions.PlatformTransaction.{PlatformTransaction}

-- ---- what is reported

abbrev pub at : PlatformDriver → PlatformStage → PlatformDriver
at driver stage = record { is_binding = driver.is_binding; stage = stage }

abbrev pub new_driver : Bool → PlatformDriver
new_driver is_binding = record { is_binding = is_binding; stage = PlatformStage.Claim }

-- whether an answer to a Poll makes a binding ready that polls
abbrev pub ends_polling : Answer → Bool
ends_polling answer = makes_ready (Some Poll) Polling answer

-- such an answer is taken only together with that to a Fetch
abbrev pub heard : Bool → Bool → ℕ → Option Answer → Bool → PlatformStage
heard is_binding fetches attempt None has_credentials = PlatformStage.Take attempt None false
heard is_binding fetches attempt (Some answer) has_credentials =
    if fetches && ends_polling answer
    then PlatformStage.Fetch attempt answer
    else PlatformStage.Take attempt (Some answer) (is_binding && has_credentials)

abbrev pub answered_at : Bool → Option Answer → Bool → PlatformStage → PlatformStage
answered_at is_binding answer has_credentials (PlatformStage.Send sent fetches) =
    heard is_binding fetches sent.attempt answer has_credentials
answered_at is_binding answer has_credentials stage = stage

abbrev pub answered : Option Answer → Bool → PlatformDriver → PlatformDriver
answered answer has_credentials d = at d (answered_at d.is_binding answer has_credentials d.stage)

abbrev pub fetched_at : Bool → PlatformStage → PlatformStage
fetched_at has_credentials (PlatformStage.Fetch attempt answer) =
    PlatformStage.Take attempt (Some answer) has_credentials
fetched_at has_credentials stage = stage

abbrev pub fetched : Bool → PlatformDriver → PlatformDriver
fetched has_credentials d = at d (fetched_at has_credentials d.stage)

-- ---- the first transaction

-- a removal waits for the bindings of an instance
abbrev pub wish_if : Bool → Option CleanUp → Option CleanUp
wish_if all_gone (Some CleanUp.Remove) = if all_gone then Some CleanUp.Remove else None
wish_if all_gone wish = wish

abbrev pub wishes_of_instance : Bool → Wishes → Wishes
wishes_of_instance all_gone wishes =
    record { create = wishes.create; clean_up = wish_if all_gone wishes.clean_up; send = wishes.send }

-- a binding is created only while its instance is recorded ready, with its instance's service and plan
abbrev pub wishes_of_binding : Option Recorded → Wishes → Wishes
wishes_of_binding instance wishes =
    record { create = wishes.create && is_ready instance; clean_up = wishes.clean_up; send = wishes.send }

abbrev pub service_of_binding : Option Recorded → ℕ → ℕ
service_of_binding None service = service
service_of_binding (Some instance) service = instance.row.service

abbrev pub plan_of_binding : Option Recorded → ℕ → ℕ
plan_of_binding None plan = plan
plan_of_binding (Some instance) plan = instance.row.plan

-- how the record is cleaned up, once what was in flight is given up
abbrev pub cleaned_by : Option CleanUp → Option Recorded → Option CleanUp
cleaned_by None recorded = None
cleaned_by (Some wish) None = None
cleaned_by (Some wish) (Some r) = if states_of wish (brought_up r).row.state then Some wish else None

-- whether a Fetch follows the request in flight: it is of a binding whose record polls for its creation
abbrev pub fetches : Bool → Option Recorded → Bool
fetches is_binding None = false
fetches is_binding (Some r) = is_binding && is_polling r.row.state

abbrev pub after_claim : Bool → Stage → PlatformStage
after_claim fetches Stage.Claim = PlatformStage.Claim
after_claim fetches (Stage.Send sent) = PlatformStage.Send sent fetches
after_claim fetches (Stage.Take attempt answer) = PlatformStage.Take attempt answer false
after_claim fetches (Stage.Unsure attempt) = PlatformStage.Unsure attempt
after_claim fetches Stage.Done = PlatformStage.Done

-- what the first transaction of a driver that is alone does here
abbrev pub claimed : Bool → Option Recorded → Option CleanUp → Transaction → PlatformTransaction
claimed is_binding recorded wish tx =
    let then_fetches = fetches is_binding tx.recorded in
    record {
      recorded = tx.recorded;
      takes_over = tx.takes_over;
      times_out = has_out recorded;
      cleans_up = cleaned_by wish recorded;
      takes = false;
      stage = after_claim then_fetches tx.stage;
      unsure = after_claim then_fetches tx.unsure;
      failed = after_claim then_fetches tx.failed;
    }

abbrev pub claim_of_instance : PlatformReading → PlatformTransaction
claim_of_instance r =
    let wishes = wishes_of_instance r.all_gone r.wishes in
    claimed false r.recorded wishes.clean_up (claim wishes r.id r.service r.plan r.accepts r.recorded)

abbrev pub claim_of_binding : PlatformReading → PlatformTransaction
claim_of_binding r =
    let wishes = wishes_of_binding r.instance r.wishes in
    claimed true r.recorded wishes.clean_up
    (claim wishes r.id (service_of_binding r.instance r.service) (plan_of_binding r.instance r.plan) r.accepts r.recorded)

-- ---- the last transaction

-- whether an answer counts as lost, since nobody would have the binding's credentials
abbrev pub lacks_credentials : Bool → Bool → PlatformRow → Answer → Bool
lacks_credentials retrievable has_credentials row answer =
    is_useless retrievable row.out answer || (not has_credentials && makes_ready row.out row.state answer)

-- the answer that counts
abbrev pub counted : Bool → Bool → Bool → Option Recorded → Option Answer → Option Answer
counted is_binding retrievable has_credentials (Some r) (Some answer) =
    if is_binding && lacks_credentials retrievable has_credentials r.row answer then None else Some answer
counted is_binding retrievable has_credentials recorded answer = answer

-- the last transaction, which is tried again if it isn't surely committed
abbrev pub ended : Option Recorded → Bool → Bool → PlatformStage → PlatformTransaction
ended recorded times_out takes stage = record {
  recorded = recorded;
  takes_over = false;
  times_out = times_out;
  cleans_up = None;
  takes = takes;
  stage = PlatformStage.Done;
  unsure = stage;
  failed = stage;
}

abbrev pub take : Bool → ℕ → Option Answer → Bool → PlatformReading → PlatformTransaction
take is_binding attempt answer has_credentials r =
    let answer_that_counts = counted is_binding r.retrievable has_credentials r.recorded answer in
    let out = is_out r.recorded attempt in
    ended (taken_from attempt answer_that_counts r.recorded) (out && is_none answer_that_counts)
    (out && is_some answer_that_counts) (PlatformStage.Take attempt answer has_credentials)

abbrev pub resume : ℕ → PlatformReading → PlatformTransaction
resume attempt r =
    ended (given_up_if r.is_owner attempt r.recorded) (r.is_owner && is_out r.recorded attempt) false
    (PlatformStage.Unsure attempt)

-- ---- any transaction

abbrev pub claim_of : Bool → PlatformReading → PlatformTransaction
claim_of false r = claim_of_instance r
claim_of true r = claim_of_binding r

abbrev pub transaction_at : Bool → PlatformStage → PlatformReading → Option PlatformTransaction
transaction_at is_binding PlatformStage.Claim r = Some (claim_of is_binding r)
transaction_at is_binding (PlatformStage.Take attempt answer has_credentials) r =
    Some (take is_binding attempt answer has_credentials r)
transaction_at is_binding (PlatformStage.Unsure attempt) r = Some (resume attempt r)
transaction_at is_binding stage r = None

abbrev pub transaction : PlatformDriver → PlatformReading → Option PlatformTransaction
transaction driver r = transaction_at driver.is_binding driver.stage r
