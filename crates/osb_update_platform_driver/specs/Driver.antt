-- What a driver of an instance's updates does with the row that it reads: the record of the instance, and that of its
-- updates.
use Rattle.std.specs.Prelude.{ℕ, Bool, true, false, not, ◌&&◌, ◌==◌, if◌then◌else◌, is_none, is_some, Option, Some}
use Rattle.std.specs.Prelude.{None}
use Rattle.osb_instance.specs.Recorded.{Recorded, is_ready_in}
use Rattle.osb_update.specs.Recorded.{fetch_sent, is_polling, may_fetch, may_send, rested, sent, stopped, updated}
use Rattle.osb_update.specs.declared.record.UpdateRecord.{UpdateRecord}
use Rattle.osb_update.specs.declared.settings.Settings.{Settings}
use Rattle.osb_update.specs.declared.state.UpdateSent.{UpdateSent}
use Rattle.osb_update.specs.declared.state.UpdateState.{UpdateState}
use Rattle.osb_update_sides.specs.Steps.{has_number, said_to}
use Rattle.osb_update_sides.specs.declared.given.Said.{Said}
use Rattle.osb_update_platform_driver.specs.declared.driver.PlatformUpdateDriver.{PlatformUpdateDriver}
use Rattle.osb_update_platform_driver.specs.declared.driver.PlatformUpdateStage.{PlatformUpdateStage}
use Rattle.osb_update_platform_driver.specs.declared.driver.PlatformUpdateTransaction.{PlatformUpdateTransaction}
use Rattle.osb_update_platform_driver.specs.declared.driver.PlatformUpdateWishes.{PlatformUpdateWishes}
use Rattle.osb_update_platform_driver.specs.declared.driver.UpdateWish.{UpdateWish}

abbrev pub new_driver : PlatformUpdateDriver
new_driver = record { stage = PlatformUpdateStage.Claim }

-- ---- the rules between an instance and its updates

-- whether the instance may be cleaned up or removed: no request of an update is out
abbrev pub may_remove : Option UpdateRecord → Bool
may_remove None = true
may_remove (Some r) = is_none r.out

-- whether a request of an update may be sent: the instance is recorded ready, and no request of it is out
abbrev pub may_ask : Option Recorded → Bool
may_ask None = false
may_ask (Some instance) = is_ready_in instance.row.state && is_none instance.row.out

-- ---- the first transaction

-- of an instance of which no Update was sent, with the settings of its Provision
abbrev pub new_record : Settings → UpdateRecord
new_record settings =
    record { settings = settings; number = 0; attempt = 0; state = UpdateState.Settled; out = None }

-- what is out is given up
abbrev pub brought_up : UpdateRecord → UpdateRecord
brought_up r = if is_some r.out then rested r else r

abbrev pub stopped_if : Bool → UpdateRecord → UpdateRecord
stopped_if true r = if is_none r.out && may_send r.state then stopped r else r
stopped_if false r = r

-- the record after the request that is wished, and the request; none if the state doesn't allow it
abbrev pub requested_by : UpdateWish → UpdateRecord → Option (UpdateRecord × UpdateSent)
requested_by (UpdateWish.Update to) r = if not (is_polling r.state) then Some (updated r to) else None
requested_by UpdateWish.Send r = sent r
requested_by UpdateWish.Fetch r = if may_fetch r.state then Some (fetch_sent r) else None

-- the same; none also if a request is out, of an update or of the instance, or the instance isn't recorded ready, or
-- there is no number
abbrev pub requested : Option Recorded → UpdateWish → UpdateRecord → Option (UpdateRecord × UpdateSent)
requested instance wish r =
    if may_ask instance && (is_none r.out && has_number r) then requested_by wish r else None

abbrev pub resting : Option UpdateRecord → PlatformUpdateTransaction
resting change = record {
  change = change;
  takes_over = false;
  stage = PlatformUpdateStage.Done;
  unsure = PlatformUpdateStage.Done;
  failed = PlatformUpdateStage.Done;
}

abbrev pub claimed : UpdateRecord → UpdateSent → PlatformUpdateTransaction
claimed r sent = record {
  change = Some r;
  takes_over = true;
  stage = PlatformUpdateStage.Send sent;
  unsure = PlatformUpdateStage.Unsure sent.attempt;
  failed = PlatformUpdateStage.Done;
}

abbrev pub claimed_by : Option (UpdateRecord × UpdateSent) → Option UpdateRecord → PlatformUpdateTransaction
claimed_by None rest = resting rest
claimed_by (Some after) rest = claimed after.0 after.1

abbrev pub asked : Option Recorded → Option UpdateWish → UpdateRecord → Option UpdateRecord → PlatformUpdateTransaction
asked instance None r rest = resting rest
asked instance (Some wish) r rest = claimed_by (requested instance wish r) rest

abbrev pub claim : PlatformUpdateWishes → Settings → Option Recorded → Option UpdateRecord → PlatformUpdateTransaction
claim wishes first instance None = asked instance wishes.request (new_record first) None
claim wishes first instance (Some r) =
    let after = stopped_if wishes.stop (brought_up r) in asked instance wishes.request after (Some after)

-- ---- the answer, and the last transaction

abbrev pub answered_at : Option Said → PlatformUpdateStage → PlatformUpdateStage
answered_at said (PlatformUpdateStage.Send sent) = PlatformUpdateStage.Take sent.attempt said
answered_at said stage = stage

abbrev pub answered : Option Said → PlatformUpdateDriver → PlatformUpdateDriver
answered said driver = record { stage = answered_at said driver.stage }

abbrev pub taken : ℕ → Option Said → UpdateRecord → UpdateRecord
taken attempt None r = if attempt == r.attempt then brought_up r else r
taken attempt (Some said) r = if attempt == r.attempt then said_to r.out r said else r

abbrev pub taken_from : ℕ → Option Said → Option UpdateRecord → Option UpdateRecord
taken_from attempt said None = None
taken_from attempt said (Some r) = Some (taken attempt said r)

abbrev pub take : ℕ → Option Said → Option UpdateRecord → PlatformUpdateTransaction
take attempt said change = record {
  change = taken_from attempt said change;
  takes_over = false;
  stage = PlatformUpdateStage.Done;
  unsure = PlatformUpdateStage.Take attempt said;
  failed = PlatformUpdateStage.Take attempt said;
}

abbrev pub given_up_if : Bool → ℕ → Option UpdateRecord → Option UpdateRecord
given_up_if false attempt change = change
given_up_if true attempt change = taken_from attempt None change

-- the last transaction of a driver that doesn't know whether its first one was committed
abbrev pub resume : Bool → ℕ → Option UpdateRecord → PlatformUpdateTransaction
resume is_owner attempt change = record {
  change = given_up_if is_owner attempt change;
  takes_over = false;
  stage = PlatformUpdateStage.Done;
  unsure = PlatformUpdateStage.Unsure attempt;
  failed = PlatformUpdateStage.Unsure attempt;
}
