-- What a platform records of the updates of an instance. What an answer says is the standard's (sections Updating a
-- Service Instance, Polling Last Operation for Service Instances and Fetching a Service Instance); the records and the
-- numbers are this project's choice.
use Rattle.std.specs.Prelude.{ℕ, ◌+◌, Bool, true, false, not, ◌&&◌, ◌||◌, ◌==◌, nat_le, if◌then◌else◌}
use Rattle.std.specs.Prelude.{Option, Some, None, [], ◌∷◌}
use Rattle.std.specs.List.{list_any}
use Rattle.osb_message.specs.declared.messages.Answer.{Answer}
use Rattle.osb_message.specs.declared.messages.Body.{Body}
use Rattle.osb_message.specs.declared.messages.ErrorCode.TheVariants.{ConcurrencyError}
use Rattle.osb_message.specs.declared.messages.LastState.TheVariants as LastState
use Rattle.osb_update.specs.Settings.{is_same_settings, named_parts}
use Rattle.osb_update.specs.declared.record.UpdateRecord.{UpdateRecord}
use Rattle.osb_update.specs.declared.settings.Settings.{Settings}
use Rattle.osb_update.specs.declared.state.Aim.{Aim}
use Rattle.osb_update.specs.declared.state.UpdateKind.{UpdateKind}
use Rattle.osb_update.specs.declared.state.UpdateRequest.{UpdateRequest}
use Rattle.osb_update.specs.declared.state.UpdateSent.{UpdateSent}
use Rattle.osb_update.specs.declared.state.UpdateState.{UpdateState}

-- ---- what an answer says

abbrev pub is_empty : Body → Bool
is_empty Body.Empty = true
is_empty body = false

abbrev pub is_malformed : Body → Bool
is_malformed Body.Malformed = true
is_malformed body = false

abbrev pub is_concurrency : Body → Bool
is_concurrency (Body.Error ConcurrencyError) = true
is_concurrency body = false

-- that another operation is in the way: the Update is sent again
abbrev pub says_busy : Answer → Bool
says_busy answer = answer.status == 422 && is_concurrency answer.body

-- what gateways, proxies and servers say of themselves (this project's choice)
abbrev pub may_be_a_gateways : ℕ → Bool
may_be_a_gateways status =
    list_any (λ s. status == s)
    (401 ∷ 403 ∷ 404 ∷ 405 ∷ 407 ∷ 408 ∷ 412 ∷ 413 ∷ 414 ∷ 415 ∷ 429 ∷ 431 ∷ [])

-- that the broker has surely rejected the Update, which changed nothing
abbrev pub says_rejected : Answer → Bool
says_rejected answer =
    nat_le 400 answer.status
    && (nat_le answer.status 499 && (not (is_malformed answer.body) && not (may_be_a_gateways answer.status)))

-- ---- what is recorded after it

-- an Update that was rejected leaves the settings of before, unless another one may have been done
abbrev pub after_rejection : Settings → Aim → Settings × UpdateState
after_rejection settings aim =
    if aim.mixed then (settings, UpdateState.Unsure aim) else (settings, UpdateState.Settled)

abbrev pub after_update : Settings → Aim → Answer → Settings × UpdateState
after_update settings aim answer =
    if answer.status == 200 && is_empty answer.body then (aim.to, UpdateState.Settled)
    else (if answer.status == 202 && is_empty answer.body then (settings, UpdateState.Polling aim)
    else (if says_busy answer then (settings, UpdateState.Updating aim)
    else (if says_rejected answer then after_rejection settings aim
    else (settings, UpdateState.Updating aim))))

abbrev pub after_operation : Settings → Aim → Body → Settings × UpdateState
after_operation settings aim (Body.State LastState.Succeeded) = (aim.to, UpdateState.Settled)
after_operation settings aim (Body.State LastState.Failed) = (settings, UpdateState.Unsure aim)
after_operation settings aim body = (settings, UpdateState.Polling aim)

abbrev pub after_poll : Settings → Aim → Answer → Settings × UpdateState
after_poll settings aim answer =
    if answer.status == 200 then after_operation settings aim answer.body else (settings, UpdateState.Polling aim)

-- the settings and the state after an answer to what is out
abbrev pub after_answer : UpdateState → Option UpdateKind → Settings → Answer → Settings × UpdateState
after_answer (UpdateState.Updating aim) (Some UpdateKind.Update) settings answer = after_update settings aim answer
after_answer (UpdateState.Polling aim) (Some UpdateKind.Poll) settings answer = after_poll settings aim answer
after_answer state out settings answer = (settings, state)

-- the record with these, and nothing out
abbrev pub rests : UpdateRecord → Settings × UpdateState → UpdateRecord
rests r after =
    record { settings = after.0; number = r.number; attempt = r.attempt; state = after.1; out = None }

-- the record after an answer to an Update or a Poll
abbrev pub answered : UpdateRecord → Answer → UpdateRecord
answered r answer = rests r (after_answer r.state r.out r.settings answer)

-- after a timeout
abbrev pub rested : UpdateRecord → UpdateRecord
rested r = rests r (r.settings, r.state)

-- after an answer to a Fetch: the settings and the number that it reports, or none
abbrev pub after_fetch : Option (Settings × ℕ) → UpdateRecord → Settings × UpdateState
after_fetch None r = (r.settings, r.state)
after_fetch (Some found) r = if found.1 == r.number then (found.0, UpdateState.Settled) else (r.settings, r.state)

abbrev pub found : UpdateRecord → Option (Settings × ℕ) → UpdateRecord
found r reported = rests r (after_fetch reported r)

-- ---- what is sent

abbrev pub is_polling : UpdateState → Bool
is_polling (UpdateState.Polling aim) = true
is_polling state = false

-- whether an Update or a Poll is due, and what
abbrev pub may_send : UpdateState → Bool
may_send (UpdateState.Updating aim) = true
may_send (UpdateState.Polling aim) = true
may_send state = false

abbrev pub may_fetch : UpdateState → Bool
may_fetch (UpdateState.Updating aim) = true
may_fetch (UpdateState.Unsure aim) = true
may_fetch state = false

-- whether the answer to what is out is that of an Update or of a Poll, or that of a Fetch
abbrev pub is_asked : Option UpdateKind → Bool
is_asked None = false
is_asked (Some UpdateKind.Fetch) = false
is_asked out = true

abbrev pub is_fetched : Option UpdateKind → Bool
is_fetched (Some UpdateKind.Fetch) = true
is_fetched out = false

abbrev pub aimed_from : Aim → Settings → Aim
aimed_from aim to = record { to = to; mixed = aim.mixed || not (is_same_settings aim.to to) }

-- the aim of an Update to these settings
abbrev pub aimed : UpdateState → Settings → Aim
aimed UpdateState.Settled to = record { to = to; mixed = false }
aimed (UpdateState.Updating aim) to = aimed_from aim to
aimed (UpdateState.Polling aim) to = aimed_from aim to
aimed (UpdateState.Unsure aim) to = aimed_from aim to

-- the record with this request out
abbrev pub sends : UpdateRecord → UpdateKind → ℕ → UpdateRecord
sends r kind attempt =
    record { settings = r.settings; number = r.number; attempt = attempt; state = r.state; out = Some kind }

-- the record with this Update out, whose number is its attempt
abbrev pub updates : UpdateRecord → Aim → ℕ → UpdateRecord
updates r aim attempt =
    record {
      settings = r.settings;
      number = attempt;
      attempt = attempt;
      state = UpdateState.Updating aim;
      out = Some UpdateKind.Update;
    }

abbrev pub update_of : Settings → Aim → ℕ → UpdateSent
update_of settings aim attempt =
    record { request = UpdateRequest.Update (named_parts settings aim.to aim.mixed); attempt = attempt }

-- the record after an Update to chosen settings, and the request
abbrev pub updated : UpdateRecord → Settings → UpdateRecord × UpdateSent
updated r to =
    (updates r (aimed r.state to) (r.attempt + 1), update_of r.settings (aimed r.state to) (r.attempt + 1))

-- the same after the request that is due; none if none is
abbrev pub sent_by : UpdateState → UpdateRecord → Option (UpdateRecord × UpdateSent)
sent_by (UpdateState.Updating aim) r =
    Some (updates r aim (r.attempt + 1), update_of r.settings aim (r.attempt + 1))
sent_by (UpdateState.Polling aim) r =
    Some (
      sends r UpdateKind.Poll (r.attempt + 1),
      record { request = UpdateRequest.Poll r.settings.plan; attempt = r.attempt + 1 },
    )
sent_by state r = None

abbrev pub sent : UpdateRecord → Option (UpdateRecord × UpdateSent)
sent r = sent_by r.state r

-- the same after a Fetch
abbrev pub fetch_sent : UpdateRecord → UpdateRecord × UpdateSent
fetch_sent r =
    (sends r UpdateKind.Fetch (r.attempt + 1), record { request = UpdateRequest.Fetch; attempt = r.attempt + 1 })

-- the state once the update is stopped
abbrev pub stopped_state : UpdateState → UpdateState
stopped_state (UpdateState.Updating aim) = UpdateState.Unsure aim
stopped_state (UpdateState.Polling aim) = UpdateState.Unsure aim
stopped_state state = state

abbrev pub stopped : UpdateRecord → UpdateRecord
stopped r = rests r (r.settings, stopped_state r.state)

-- ---- which records can come about

abbrev pub can_be_out : UpdateState → UpdateKind → Bool
can_be_out (UpdateState.Updating aim) UpdateKind.Update = true
can_be_out (UpdateState.Polling aim) UpdateKind.Poll = true
can_be_out (UpdateState.Updating aim) UpdateKind.Fetch = true
can_be_out (UpdateState.Unsure aim) UpdateKind.Fetch = true
can_be_out state kind = false

abbrev pub can_be_with : Option UpdateKind → UpdateState → ℕ → Bool
can_be_with None state attempt = true
can_be_with (Some kind) state attempt = can_be_out state kind && nat_le 1 attempt

abbrev pub can_be : UpdateRecord → Bool
can_be r = can_be_with r.out r.state r.attempt
