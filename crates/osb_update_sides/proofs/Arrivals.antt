-- A request arrives at the broker: what can come about goes on.
use Rattle.std.proofs.Common.{◌≡◌, ◌≢◌, ◌≤◌, ℕ, Bool, true, false, arith, refl, sym, subst, ap, ◌∙◌, inl, inr, ◌⊎◌}
use Rattle.std.specs.Prelude.{Option, Some, None, IfSome, ◌&&◌, ◌||◌, ◌==◌, not, nat_lt, if◌then◌else◌, slice_get, ◌<◌}
use Rattle.std.proofs.lemmas.Bool.Decides.{nat_tests}
use Rattle.osb_message.specs.declared.catalogue.Mode.{Mode}
use Rattle.osb_message.specs.declared.catalogue.Mode.TheVariants.{Sync, Async}
use Rattle.osb_message.specs.declared.messages.Answer.{Answer}
use Rattle.osb_message.specs.declared.messages.Body.{Body}
use Rattle.osb_message.specs.declared.messages.LastState.{LastState}
use Rattle.osb_message.specs.declared.messages.ErrorCode.TheVariants.{AsyncRequired, Other}
use Rattle.osb_message.specs.declared.messages.Request.{Request}
use Rattle.osb_broker.specs.Answers.{empty, error, last_operation}
use Rattle.osb_broker.specs.declared.row.BrokerRow.{BrokerRow}
use Rattle.osb_instance.specs.Begin.{is_same_digest, rejection_status}
use Rattle.osb_instance.specs.Fits.{is_ready as is_ready_phase}
use Rattle.osb_instance.specs.declared.digest.Digest.{Digest}
use Rattle.osb_instance.specs.declared.outcome.Rejection.{Rejection}
use Rattle.osb_network.proofs.CellParts.{all_get}
use Rattle.osb_update.specs.Begun.{again_by, begun_by, busy, failed_by, fresh_by, is_available, is_available_by, is_pending}
use Rattle.osb_update.specs.Begun.{is_under_way, judged, refusal, settled_by, unavailable_by}
use Rattle.osb_update.specs.Reported.{found_by, last_state}
use Rattle.osb_update.specs.Settings.{chosen_digest, chosen_plan, is_same_settings, named_parts, with_change}
use Rattle.osb_update.specs.declared.holding.UpdateHolding.{UpdateHolding}
use Rattle.osb_update.specs.declared.phase.Fetched.{Fetched}
use Rattle.osb_update.specs.declared.phase.UpdateBegun.{UpdateBegun}
use Rattle.osb_update.specs.declared.phase.UpdatePhase.{UpdatePhase}
use Rattle.osb_update.specs.declared.request.Allowed.{Allowed}
use Rattle.osb_update.specs.declared.settings.Change.{Change}
use Rattle.osb_update.specs.declared.settings.Settings.{Settings}
use Rattle.osb_update.specs.declared.state.Aim.{Aim}
use Rattle.osb_update.specs.declared.state.UpdateKind.{UpdateKind}
use Rattle.osb_update.specs.declared.state.UpdateState.{UpdateState}
use Rattle.osb_update.proofs.Same.{named_asks, same_settings}
use Rattle.osb_update_sides.specs.Cell.{UpdatesCell}
use Rattle.osb_update_sides.specs.Life.{has_service, implies, is_kept, is_life, is_ready}
use Rattle.osb_update_sides.specs.Possible.{GoesTo, HasAccepted, HasDone, HasRejected, HeldByState, IsAimed, IsGivenOf, IsGoing}
use Rattle.osb_update_sides.specs.Possible.{IsNamed, IsNamedFor, IsNumberedBy, IsOne, IsOther, IsPossible, IsSentOf}
use Rattle.osb_update_sides.specs.Possible.{IsPolled, IsUpdated, IsWorker, SaidOf}
use Rattle.osb_update_sides.specs.Steps.{arrive, arrive_as, conflict, poll_answered, put_off, said_by, update_begun, update_of}
use Rattle.osb_update_sides.specs.Steps.{with_given}
use Rattle.osb_update_sides.specs.declared.asked.Asked.{Asked}
use Rattle.osb_update_sides.specs.declared.asked.UpdateAsked.{UpdateAsked}
use Rattle.osb_update_sides.specs.declared.given.Said.{Said}
use Rattle.osb_update_sides.proofs.Later.{IsBrokerStep, IsLater, answers_at, goes_on_at}
use Rattle.osb_update_sides.proofs.Platform.{and_right}

-- ---- a cell goes on

pub gives : (c : UpdatesCell) (n : ℕ) (said : Said) → IsPossible c
    → IsGivenOf (is_kept c.life) c.recorded c.held (record { attempt = n; said = said }) → IsPossible (with_given c n said)
gives c n said h q =
    answers_at (is_kept c.life) (is_ready c.life) (is_available c.life.holding) (is_life c.service c.life) c.recorded c.held
    c.worker c.settings c.sent c.given (record { attempt = n; said = said }) h q

-- the broker holds something else
abbrev pub Holds : UpdatesCell → UpdateHolding → Option ℕ → Option Settings → Type 0
Holds c after worker settings =
    IsBrokerStep (is_kept c.life) (is_ready c.life) (is_available c.life.holding) c.recorded c.held after worker settings

pub held_kept : (c : UpdatesCell) (after : UpdateHolding) (worker : Option ℕ) (settings : Option Settings) → IsPossible c
    → Holds c after worker settings → IsPossible (record c { held = after; worker = worker; settings = settings })
held_kept c after worker settings h b =
    goes_on_at (is_kept c.life) (is_ready c.life) (is_available c.life.holding) (is_life c.service c.life) c.recorded c.held
    after c.worker worker c.settings settings c.sent c.given h b

-- ---- answers that say nothing

pub says_busy_only : (number : ℕ) (held : UpdateHolding) (to : Settings) → IsUpdated number held to busy
says_busy_only number held to = record { done = λ e f. cc; accepted = λ e f. cc; rejected = λ e f. cc }

says_404 : (number : ℕ) (held : UpdateHolding) (to : Settings) → IsUpdated number held to (error 404 Other)
says_404 number held to = record { done = λ e f. cc; accepted = λ e f. cc; rejected = λ e f. cc }

pub says_500 : (number : ℕ) (held : UpdateHolding) (to : Settings) → IsUpdated number held to (error 500 Other)
says_500 number held to = record { done = λ e f. cc; accepted = λ e f. cc; rejected = λ e f. cc }

apart : (a b : ℕ) → a ≡ 200 → b ≡ 202 → a ≡ b → ⊥
apart a b e f g = omega arith

pub says_200 : (number : ℕ) (held : UpdateHolding) (to : Settings) → HasDone number held to
    → IsUpdated number held to (empty 200)
says_200 number held to d = record { done = λ e f. d; accepted = λ e f. absurd (apart 200 202 refl refl e); rejected = λ e f. cc }

pub says_202 : (number : ℕ) (held : UpdateHolding) (to : Settings) → HasAccepted number held to
    → IsUpdated number held to (empty 202)
says_202 number held to d = record { done = λ e f. absurd (apart 200 202 refl refl (sym e)); accepted = λ e f. d; rejected = λ e f. cc }

pub says_rejection : (number : ℕ) (held : UpdateHolding) (to : Settings) (rejection : Rejection)
    → HasRejected number held to → IsUpdated number held to (error (rejection_status rejection) Other)
says_rejection number held to Rejection.BadRequest d =
    record { done = λ e f. cc; accepted = λ e f. cc; rejected = λ e f. d }
says_rejection number held to Rejection.UnprocessableEntity d =
    record { done = λ e f. cc; accepted = λ e f. cc; rejected = λ e f. d }

says_async : (number : ℕ) (held : UpdateHolding) (to : Settings) → HasRejected number held to
    → IsUpdated number held to (error 422 AsyncRequired)
says_async number held to d = record { done = λ e f. cc; accepted = λ e f. cc; rejected = λ e f. d }

-- ---- an answer to an Update

-- to the Update that is out it has to be right
pub said_to_update : (out : Option UpdateKind) (s : UpdateState) (number attempt n : ℕ) (held : UpdateHolding)
    (answer : Answer) → IfSome out (λ kind. UpdateKind.Update ≡ kind) → IsNumberedBy out number attempt → n ≡ attempt
    → ((aim : Aim) → s ≡ UpdateState.Updating aim → n ≡ number → IsUpdated number held aim.to answer)
    → SaidOf out s number held (Said.Answer answer)
said_to_update None s number attempt n held answer k b e f = tt
said_to_update (Some UpdateKind.Update) (UpdateState.Updating aim) number attempt n held answer k b e f =
    f aim refl (e ∙ sym b)
said_to_update (Some UpdateKind.Update) s number attempt n held answer k b e f = tt
said_to_update (Some UpdateKind.Poll) s number attempt n held answer k b e f = cc
said_to_update (Some UpdateKind.Fetch) s number attempt n held answer k b e f = cc

-- an Update arrives that was sent
pub record IsArriving (c : UpdatesCell) (n : ℕ) (names : Change) : Type 0 where
  pub possible : IsPossible c
  pub sent : IsSentOf (is_kept c.life) c.recorded c.held.number (record { attempt = n; asked = Asked.Update names })

-- what it asks for
abbrev pub asks_for : UpdatesCell → Change → Settings
asks_for c names = with_change c.held.settings names

given_to : (c : UpdatesCell) (n : ℕ) (names : Change) (held : UpdateHolding) (answer : Answer) → IsArriving c n names
    → (is_kept c.life ≡ true → (aim : Aim) → c.recorded.state ≡ UpdateState.Updating aim → n ≡ c.recorded.number
    → IsUpdated c.recorded.number held aim.to answer)
    → IsGivenOf (is_kept c.life) c.recorded held (record { attempt = n; said = Said.Answer answer })
given_to c n names held answer h f = record {
  numbered = h.sent.numbered;
  said = λ k e. said_to_update c.recorded.out c.recorded.state c.recorded.number c.recorded.attempt n held answer
      (h.sent.latest e) h.possible.numbers.update e (f k);
}

-- what is left of it
abbrev IsLeft : UpdatesCell → ℕ → UpdateHolding × UpdateBegun → Type 0
IsLeft c n g = IsPossible (update_begun c n g.0 g.1)

-- it is answered, and what is held stays
answered_left : (c : UpdatesCell) (n : ℕ) (names : Change) (answer : Answer) → IsArriving c n names
    → (is_kept c.life ≡ true → (aim : Aim) → c.recorded.state ≡ UpdateState.Updating aim → n ≡ c.recorded.number
    → IsUpdated c.recorded.number c.held aim.to answer)
    → IsLeft c n (c.held, UpdateBegun.Answered answer)
answered_left c n names answer h f =
    gives c n (Said.Answer answer) h.possible (given_to c n names c.held answer h f)

busy_left : (c : UpdatesCell) (n : ℕ) (names : Change) → IsArriving c n names
    → IsLeft c n (c.held, UpdateBegun.Answered busy)
busy_left c n names h =
    answered_left c n names busy h (λ k aim s e. says_busy_only c.recorded.number c.held aim.to)

-- ---- the settings that an Update asks for

plan_again : (before to : ℕ) (x : Bool) → chosen_plan (if (false || not x) then Some to else None) to ≡ to
plan_again before to true = refl
plan_again before to false = refl

digest_again : (to : Digest) (x : Bool) → chosen_digest (if (false || not x) then Some to else None) to ≡ to
digest_again to true = refl
digest_again to false = refl

-- a row that has them already
asks_again : (before to : Settings) → with_change to (named_parts before to false) ≡ to
asks_again before to =
    ap (λ (x : ℕ). record {
      plan = x;
      parameters = chosen_digest (named_parts before to false).parameters to.parameters;
      version = chosen_digest (named_parts before to false).version to.version;
    })
    (plan_again before.plan to.plan (before.plan == to.plan))
    ∙ ap (λ (x : Digest). record {
      plan = to.plan;
      parameters = x;
      version = chosen_digest (named_parts before to false).version to.version;
    })
    (digest_again to.parameters (is_same_digest before.parameters to.parameters))
    ∙ ap (λ (x : Digest). record { plan = to.plan; parameters = to.parameters; version = x })
    (digest_again to.version (is_same_digest before.version to.version))

asks_from : (settings before to : Settings) → (settings ≡ before) ⊎ (settings ≡ to)
    → with_change settings (named_parts before to false) ≡ to
asks_from settings before to (inl e) =
    ap (λ (x : Settings). with_change x (named_parts before to false)) e ∙ named_asks before to false
asks_from settings before to (inr e) =
    ap (λ (x : Settings). with_change x (named_parts before to false)) e ∙ asks_again before to

-- one that may still be judged, if there were no others
asks_one : (aim : Aim) (before : Settings) (number n : ℕ) (held : UpdateHolding) (names : Change) → aim.mixed ≡ false
    → held.number < n → IsOne before held aim.to → IsNamedFor aim before number held.number n names
    → with_change held.settings names ≡ aim.to
asks_one aim before number n held names m l one q =
    ap (λ (x : Change). with_change held.settings x) (q.one m l) ∙ asks_from held.settings before aim.to one.row

-- the latest
asks_latest_by : (mixed : Bool) (aim : Aim) (before : Settings) (held : UpdateHolding) → mixed ≡ aim.mixed
    → (aim.mixed ≡ false → IsOne before held aim.to)
    → with_change held.settings (named_parts before aim.to mixed) ≡ aim.to
asks_latest_by true aim before held e one = refl
asks_latest_by false aim before held e one = asks_from held.settings before aim.to (one (sym e)).row

asks_latest : (aim : Aim) (before : Settings) (number n : ℕ) (held : UpdateHolding) (names : Change) → n ≡ number
    → (aim.mixed ≡ false → IsOne before held aim.to) → IsNamedFor aim before number held.number n names
    → with_change held.settings names ≡ aim.to
asks_latest aim before number n held names e one q =
    ap (λ (x : Change). with_change held.settings x) (q.latest e) ∙ asks_latest_by aim.mixed aim before held refl one

-- ---- states and their aims

abbrev IsAimIn : UpdateState → Aim → Type 0
IsAimIn UpdateState.Settled aim = ⊥
IsAimIn (UpdateState.Updating a) aim = a ≡ aim
IsAimIn (UpdateState.Polling a) aim = a ≡ aim
IsAimIn (UpdateState.Unsure a) aim = a ≡ aim

named_for : (s : UpdateState) (aim : Aim) (before : Settings) (number kept n : ℕ) (names : Change) → IsAimIn s aim
    → IsNamed s before number kept n names → IsNamedFor aim before number kept n names
named_for UpdateState.Settled aim before number kept n names i q = absurd i
named_for (UpdateState.Updating a) aim before number kept n names i q =
    subst (λ (x : Aim). IsNamedFor x before number kept n names) i q
named_for (UpdateState.Polling a) aim before number kept n names i q =
    subst (λ (x : Aim). IsNamedFor x before number kept n names) i q
named_for (UpdateState.Unsure a) aim before number kept n names i q =
    subst (λ (x : Aim). IsNamedFor x before number kept n names) i q

aimed_for : (s : UpdateState) (aim : Aim) (before : Settings) (number : ℕ) (held : UpdateHolding) (ready : Bool)
    → IsAimIn s aim → HeldByState s before number held ready → IsAimed before number held ready aim
aimed_for UpdateState.Settled aim before number held ready i h = absurd i
aimed_for (UpdateState.Updating a) aim before number held ready i h =
    subst (λ (x : Aim). IsAimed before number held ready x) i h
aimed_for (UpdateState.Polling a) aim before number held ready i h =
    subst (λ (x : Aim). IsAimed before number held ready x) i h.0
aimed_for (UpdateState.Unsure a) aim before number held ready i h =
    subst (λ (x : Aim). IsAimed before number held ready x) i h

aim_in : (s : UpdateState) (aim : Aim) → s ≡ UpdateState.Updating aim → IsAimIn s aim
aim_in s aim e = subst (λ (x : UpdateState). IsAimIn x aim) (sym e) refl

-- the latest Update asks for what is aimed at
asks_for_it : (c : UpdatesCell) (n : ℕ) (names : Change) (aim : Aim) → IsArriving c n names → is_kept c.life ≡ true
    → IsAimIn c.recorded.state aim → n ≡ c.recorded.number → asks_for c names ≡ aim.to
asks_for_it c n names aim h k i e =
    asks_latest aim c.recorded.settings c.recorded.number n c.held names e
    (aimed_for c.recorded.state aim c.recorded.settings c.recorded.number c.held (is_ready c.life) i
    (h.possible.recorded k)).one
    (named_for c.recorded.state aim c.recorded.settings c.recorded.number c.held.number n names i (h.sent.update.1 k))

-- and so does any that may still be judged, if there were no others
asks_for_one : (c : UpdatesCell) (n : ℕ) (names : Change) (aim : Aim) → IsArriving c n names → is_kept c.life ≡ true
    → IsAimIn c.recorded.state aim → c.held.number < n → aim.mixed ≡ false → asks_for c names ≡ aim.to
asks_for_one c n names aim h k i l m =
    asks_one aim c.recorded.settings c.recorded.number n c.held names m l
    ((aimed_for c.recorded.state aim c.recorded.settings c.recorded.number c.held (is_ready c.life) i
    (h.possible.recorded k)).one m)
    (named_for c.recorded.state aim c.recorded.settings c.recorded.number c.held.number n names i (h.sent.update.1 k))

-- ---- the Update that was judged last

again_settled : (x : Bool) (c : UpdatesCell) (n : ℕ) (names : Change)
    → x ≡ is_same_settings c.held.settings (asks_for c names) → IsArriving c n names
    → c.held.phase ≡ UpdatePhase.Settled → n ≡ c.held.number
    → IsLeft c n (c.held, UpdateBegun.Answered (if x then empty 200 else error 500 Other))
again_settled true c n names same h p e =
    answered_left c n names (empty 200) h (λ k aim s i. says_200 c.recorded.number c.held aim.to (record {
      judged = sym e ∙ i;
      settled = p;
      settings = (same_settings c.held.settings (asks_for c names)).0 (sym same)
          ∙ asks_for_it c n names aim h k (aim_in c.recorded.state aim s) i;
    }))
again_settled false c n names same h p e =
    answered_left c n names (error 500 Other) h (λ k aim s i. says_500 c.recorded.number c.held aim.to)

going : (p : UpdatePhase) (goal settings to : Settings) → p ≡ UpdatePhase.Updating goal → goal ≡ to → IsGoing p settings to
going p goal settings to e f = subst (λ (x : UpdatePhase). IsGoing x settings to) (sym e) f

again_updating : (x : Bool) (c : UpdatesCell) (n : ℕ) (names : Change) (goal : Settings)
    → x ≡ is_same_settings goal (asks_for c names) → IsArriving c n names
    → c.held.phase ≡ UpdatePhase.Updating goal → n ≡ c.held.number
    → IsLeft c n (c.held, UpdateBegun.Answered (if x then empty 202 else error 500 Other))
again_updating true c n names goal same h p e =
    answered_left c n names (empty 202) h (λ k aim s i. says_202 c.recorded.number c.held aim.to (record {
      judged = sym e ∙ i;
      going = going c.held.phase goal c.held.settings aim.to p
          ((same_settings goal (asks_for c names)).0 (sym same)
          ∙ asks_for_it c n names aim h k (aim_in c.recorded.state aim s) i);
    }))
again_updating false c n names goal same h p e =
    answered_left c n names (error 500 Other) h (λ k aim s i. says_500 c.recorded.number c.held aim.to)

again_left : (p : UpdatePhase) (c : UpdatesCell) (n : ℕ) (names : Change) → IsArriving c n names → c.held.phase ≡ p
    → n ≡ c.held.number → IsLeft c n (c.held, UpdateBegun.Answered (again_by p c.held.settings (asks_for c names)))
again_left UpdatePhase.Failed c n names h p e =
    answered_left c n names (error 500 Other) h (λ k aim s i. says_500 c.recorded.number c.held aim.to)
again_left (UpdatePhase.Pending goal) c n names h p e = busy_left c n names h
again_left (UpdatePhase.Mending goal) c n names h p e = busy_left c n names h
again_left UpdatePhase.Settled c n names h p e =
    again_settled (is_same_settings c.held.settings (asks_for c names)) c n names refl h p e
again_left (UpdatePhase.Updating goal) c n names h p e =
    again_updating (is_same_settings goal (asks_for c names)) c n names goal refl h p e

-- ---- a newer Update

-- everything that was said is of the latest Update, which wasn't judged
later_newer : (number n : ℕ) (before after : UpdateHolding) → before.number < n → n ≤ number
    → IsLater number before after
later_newer number n before after l m = record {
  done = λ to d. (let e : before.number ≡ number = d.judged in absurd (omega arith));
  accepted = λ to d. (let e : before.number ≡ number = d.judged in absurd (omega arith));
}

replaced : (s : UpdateState) (before : Settings) (number : ℕ) (held after : UpdateHolding) (ready : Bool)
    → (held.number ≡ number → ⊥)
    → ((aim : Aim) → IsAimIn s aim → IsAimed before number held ready aim → IsAimed before number after ready aim)
    → HeldByState s before number held ready → HeldByState s before number after ready
replaced UpdateState.Settled before number held after ready differs f h = absurd (differs h.judged)
replaced (UpdateState.Updating aim) before number held after ready differs f h = f aim refl h
replaced (UpdateState.Polling aim) before number held after ready differs f h = absurd (differs h.1.judged)
replaced (UpdateState.Unsure aim) before number held after ready differs f h = f aim refl h

goes_nowhere : (p : UpdatePhase) (to : Settings) → is_under_way p ≡ false → GoesTo p to
goes_nowhere UpdatePhase.Settled to e = tt
goes_nowhere UpdatePhase.Failed to e = tt
goes_nowhere p to e = cc

pending_not : (p : UpdatePhase) → is_under_way p ≡ false → is_pending p ≡ true → ⊥
pending_not UpdatePhase.Settled e f = cc
pending_not UpdatePhase.Failed e f = cc
pending_not p e f = cc

-- without pending work nobody waits for its answer
no_worker : (worker : Option ℕ) (before after : UpdateHolding) → is_under_way before.phase ≡ false
    → IfSome worker (IsWorker before) → IfSome worker (IsWorker after)
no_worker None before after e q = tt
no_worker (Some n) before after e q = absurd (pending_not before.phase e q.1)

-- with the number of the Update
abbrev judged_as : UpdateHolding → ℕ → UpdatePhase → UpdateHolding
judged_as held m phase = record { settings = held.settings; number = m; phase = phase }

not_latest : (number n kept : ℕ) → kept < n → n ≤ number → kept ≡ number → ⊥
not_latest number n kept l m e = omega arith

rises : (kept n m : ℕ) → kept < n → m ≡ n → kept ≤ m
rises kept n m l e = omega arith

within : (number n m : ℕ) → n ≤ number → m ≡ n → m ≤ number
within number n m l e = omega arith

judged_step : (c : UpdatesCell) (n m : ℕ) (names : Change) → IsArriving c n names → c.held.number < n → m ≡ n
    → is_under_way c.held.phase ≡ false → Holds c (judged_as c.held m c.held.phase) c.worker c.settings
judged_step c n m names h l e free = record {
  later = later_newer c.recorded.number n c.held (judged_as c.held m c.held.phase) l h.sent.update.0;
  rises = rises c.held.number n m l e;
  judged = within c.recorded.number n m h.sent.update.0 e;
  works = no_worker c.worker c.held (judged_as c.held m c.held.phase) free h.possible.works;
  holds = record { there = h.possible.holds.there; row = h.possible.holds.row; other = h.possible.holds.other };
  recorded = λ k. replaced c.recorded.state c.recorded.settings c.recorded.number c.held
      (judged_as c.held m c.held.phase) (is_ready c.life) (not_latest c.recorded.number n c.held.number l h.sent.update.0)
      (λ aim i a. record {
        is_ready = a.is_ready;
        one = λ x. record { row = (a.one x).row; goal = (a.one x).goal };
        judged = λ x. goes_nowhere c.held.phase aim.to free;
      }) (h.possible.recorded k);
}

-- it is answered, and its number is kept
judged_left : (c : UpdatesCell) (n m : ℕ) (names : Change) (answer : Answer) → IsArriving c n names → c.held.number < n
    → m ≡ n → is_under_way c.held.phase ≡ false
    → (is_kept c.life ≡ true → (aim : Aim) → c.recorded.state ≡ UpdateState.Updating aim → n ≡ c.recorded.number
    → IsUpdated c.recorded.number (judged_as c.held m c.held.phase) aim.to answer)
    → IsLeft c n (judged_as c.held m c.held.phase, UpdateBegun.Answered answer)
judged_left c n m names answer h l e free f =
    gives (record c { held = judged_as c.held m c.held.phase }) n (Said.Answer answer)
    (held_kept c (judged_as c.held m c.held.phase) c.worker c.settings h.possible (judged_step c n m names h l e free))
    (given_to c n names (judged_as c.held m c.held.phase) answer h f)

-- its work begins
abbrev IsWorkOf : UpdatePhase → Settings → Settings → Type 0
IsWorkOf (UpdatePhase.Pending goal) settings to = (goal ≡ to) × (to ≢ settings)
IsWorkOf (UpdatePhase.Mending goal) settings to = goal ≡ to
IsWorkOf phase settings to = ⊥

works_pending : (p : UpdatePhase) (settings to : Settings) → IsWorkOf p settings to → is_pending p ≡ true
works_pending (UpdatePhase.Pending goal) settings to w = refl
works_pending (UpdatePhase.Mending goal) settings to w = refl
works_pending p settings to w = absurd w

works_not_settled : (p : UpdatePhase) (settings to : Settings) → IsWorkOf p settings to → p ≡ UpdatePhase.Settled → ⊥
works_not_settled (UpdatePhase.Pending goal) settings to w e = cc
works_not_settled (UpdatePhase.Mending goal) settings to w e = cc
works_not_settled p settings to w e = absurd w

works_other : (p : UpdatePhase) (settings to : Settings) → IsWorkOf p settings to → IsOther p settings
works_other (UpdatePhase.Pending goal) settings to w = λ e. w.1 (sym w.0 ∙ e)
works_other (UpdatePhase.Mending goal) settings to w = tt
works_other p settings to w = absurd w

works_to : (p : UpdatePhase) (settings to aim : Settings) → IsWorkOf p settings to → to ≡ aim → GoesTo p aim
works_to (UpdatePhase.Pending goal) settings to aim w e = w.0 ∙ e
works_to (UpdatePhase.Mending goal) settings to aim w e = w ∙ e
works_to p settings to aim w e = absurd w

work_step : (c : UpdatesCell) (n m : ℕ) (names : Change) (p : UpdatePhase) → IsArriving c n names → c.held.number < n
    → m ≡ n → is_available c.life.holding ≡ true → IsWorkOf p c.held.settings (asks_for c names)
    → Holds c (judged_as c.held m p) (Some n) c.settings
work_step c n m names p h l e on w = record {
  later = later_newer c.recorded.number n c.held (judged_as c.held m p) l h.sent.update.0;
  rises = rises c.held.number n m l e;
  judged = within c.recorded.number n m h.sent.update.0 e;
  works = (sym e, works_pending p c.held.settings (asks_for c names) w);
  holds = record {
    there = λ u. on;
    row = λ a s. absurd (works_not_settled p c.held.settings (asks_for c names) w s);
    other = works_other p c.held.settings (asks_for c names) w;
  };
  recorded = λ k. replaced c.recorded.state c.recorded.settings c.recorded.number c.held
      (judged_as c.held m p) (is_ready c.life) (not_latest c.recorded.number n c.held.number l h.sent.update.0)
      (λ aim i a. record {
        is_ready = a.is_ready;
        one = λ x. record {
          row = (a.one x).row;
          goal = works_to p c.held.settings (asks_for c names) aim.to w (asks_for_one c n names aim h k i l x);
        };
        judged = λ x. works_to p c.held.settings (asks_for c names) aim.to w
            (asks_for_it c n names aim h k i (sym e ∙ x));
      }) (h.possible.recorded k);
}

work_left : (c : UpdatesCell) (n m : ℕ) (names : Change) (p : UpdatePhase) (mode : Mode) (to : Settings)
    → IsArriving c n names → c.held.number < n → m ≡ n → is_available c.life.holding ≡ true
    → IsWorkOf p c.held.settings (asks_for c names)
    → IsLeft c n (judged_as c.held m p, UpdateBegun.Work mode to)
work_left c n m names p mode to h l e on w =
    held_kept c (judged_as c.held m p) (Some n) c.settings h.possible (work_step c n m names p h l e on w)

-- over a settled row
settled_free : (p : UpdatePhase) → p ≡ UpdatePhase.Settled → is_under_way p ≡ false
settled_free UpdatePhase.Settled e = refl
settled_free p e = cc

failed_free : (p : UpdatePhase) → p ≡ UpdatePhase.Failed → is_under_way p ≡ false
failed_free UpdatePhase.Failed e = refl
failed_free p e = cc

no_true : (x : Bool) → x ≡ true → x ≡ false → ⊥
no_true true e f = cc
no_true false e f = cc

other_settings : (a b : Settings) → is_same_settings a b ≡ false → a ≡ b → ⊥
other_settings a b differs e = no_true (is_same_settings a b) ((same_settings a b).1 e) differs

has_rejected : (c : UpdatesCell) (n m : ℕ) (names : Change) (aim : Aim) → IsArriving c n names → m ≡ n
    → c.held.phase ≡ UpdatePhase.Settled → is_same_settings c.held.settings (asks_for c names) ≡ false
    → is_kept c.life ≡ true → c.recorded.state ≡ UpdateState.Updating aim → n ≡ c.recorded.number
    → HasRejected c.recorded.number (judged_as c.held m c.held.phase) aim.to
has_rejected c n m names aim h e p differs k s i = record {
  judged = e ∙ i;
  settled = p;
  other = λ same. other_settings c.held.settings (asks_for c names) differs
      (same ∙ sym (asks_for_it c n names aim h k (aim_in c.recorded.state aim s) i));
}

-- what an Update over a settled row leads to, if it asks for other settings
over_settled : (allowed : Allowed) (accepts : Bool) (c : UpdatesCell) (n m : ℕ) (names : Change) → IsArriving c n names
    → c.held.number < n → m ≡ n → is_available c.life.holding ≡ true → c.held.phase ≡ UpdatePhase.Settled
    → is_same_settings c.held.settings (asks_for c names) ≡ false
    → IsLeft c n (settled_by (refusal allowed accepts) (judged_as c.held m c.held.phase) allowed (asks_for c names))
over_settled (Allowed.Rejected rejection) a c n m names h l e on p differs =
    judged_left c n m names (error (rejection_status rejection) Other) h l e (settled_free c.held.phase p)
    (λ k aim s i. says_rejection c.recorded.number (judged_as c.held m c.held.phase) aim.to rejection
    (has_rejected c n m names aim h e p differs k s i))
over_settled Allowed.MaintenanceInfoConflict a c n m names h l e on p differs =
    judged_left c n m names conflict h l e (settled_free c.held.phase p)
    (λ k aim s i. says_rejection c.recorded.number (judged_as c.held m c.held.phase) aim.to Rejection.UnprocessableEntity
    (has_rejected c n m names aim h e p differs k s i))
over_settled (Allowed.Mode Async) false c n m names h l e on p differs =
    judged_left c n m names (error 422 AsyncRequired) h l e (settled_free c.held.phase p)
    (λ k aim s i. says_async c.recorded.number (judged_as c.held m c.held.phase) aim.to
    (has_rejected c n m names aim h e p differs k s i))
over_settled (Allowed.Mode Async) true c n m names h l e on p differs =
    work_left c n m names (UpdatePhase.Pending (asks_for c names)) Async (asks_for c names) h l e on
    (refl, λ same. other_settings c.held.settings (asks_for c names) differs (sym same))
over_settled (Allowed.Mode Sync) false c n m names h l e on p differs =
    work_left c n m names (UpdatePhase.Pending (asks_for c names)) Sync (asks_for c names) h l e on
    (refl, λ same. other_settings c.held.settings (asks_for c names) differs (sym same))
over_settled (Allowed.Mode Sync) true c n m names h l e on p differs =
    work_left c n m names (UpdatePhase.Pending (asks_for c names)) Sync (asks_for c names) h l e on
    (refl, λ same. other_settings c.held.settings (asks_for c names) differs (sym same))

-- and over one that has failed
refused_left : (c : UpdatesCell) (n m : ℕ) (names : Change) → IsArriving c n names → c.held.number < n → m ≡ n
    → c.held.phase ≡ UpdatePhase.Failed
    → IsLeft c n (judged_as c.held m c.held.phase, UpdateBegun.Answered (error 500 Other))
refused_left c n m names h l e p =
    judged_left c n m names (error 500 Other) h l e (failed_free c.held.phase p)
    (λ k aim s i. says_500 c.recorded.number (judged_as c.held m c.held.phase) aim.to)

over_failed : (allowed : Allowed) (accepts : Bool) (c : UpdatesCell) (n m : ℕ) (names : Change) → IsArriving c n names
    → c.held.number < n → m ≡ n → is_available c.life.holding ≡ true → c.held.phase ≡ UpdatePhase.Failed
    → IsLeft c n (failed_by (refusal allowed accepts) (judged_as c.held m c.held.phase) allowed (asks_for c names))
over_failed (Allowed.Rejected rejection) a c n m names h l e on p = refused_left c n m names h l e p
over_failed Allowed.MaintenanceInfoConflict a c n m names h l e on p = refused_left c n m names h l e p
over_failed (Allowed.Mode Async) false c n m names h l e on p = refused_left c n m names h l e p
over_failed (Allowed.Mode Async) true c n m names h l e on p =
    work_left c n m names (UpdatePhase.Mending (asks_for c names)) Async (asks_for c names) h l e on refl
over_failed (Allowed.Mode Sync) false c n m names h l e on p =
    work_left c n m names (UpdatePhase.Mending (asks_for c names)) Sync (asks_for c names) h l e on refl
over_failed (Allowed.Mode Sync) true c n m names h l e on p =
    work_left c n m names (UpdatePhase.Mending (asks_for c names)) Sync (asks_for c names) h l e on refl

settled_left : (x : Bool) (allowed : Allowed) (accepts : Bool) (c : UpdatesCell) (n m : ℕ) (names : Change)
    → x ≡ is_same_settings c.held.settings (asks_for c names) → IsArriving c n names → c.held.number < n → m ≡ n
    → is_available c.life.holding ≡ true → c.held.phase ≡ UpdatePhase.Settled
    → IsLeft c n (if x then (judged_as c.held m c.held.phase, UpdateBegun.Answered (empty 200))
    else settled_by (refusal allowed accepts) (judged_as c.held m c.held.phase) allowed (asks_for c names))
settled_left true allowed a c n m names same h l e on p =
    judged_left c n m names (empty 200) h l e (settled_free c.held.phase p)
    (λ k aim s i. says_200 c.recorded.number (judged_as c.held m c.held.phase) aim.to (record {
      judged = e ∙ i;
      settled = p;
      settings = (same_settings c.held.settings (asks_for c names)).0 (sym same)
          ∙ asks_for_it c n names aim h k (aim_in c.recorded.state aim s) i;
    }))
settled_left false allowed a c n m names same h l e on p = over_settled allowed a c n m names h l e on p (sym same)

-- the number of an Update that has one
number_by : (x : Bool) (kept n : ℕ) → x ≡ false → (if x then kept else n) ≡ n
number_by true kept n e = cc
number_by false kept n e = refl

zero_not : (n : ℕ) → 1 ≤ n → (n == 0) ≡ false
zero_not n l = grind (arith, nat_tests)

updating_left : (x : Bool) (c : UpdatesCell) (n : ℕ) (names : Change) (goal : Settings) → x ≡ false → IsArriving c n names
    → IsLeft c n (c.held, UpdateBegun.Answered (if x && is_same_settings goal (asks_for c names) then empty 202 else busy))
updating_left true c n names goal e h = cc
updating_left false c n names goal e h = busy_left c n names h

fresh_left : (p : UpdatePhase) (allowed : Allowed) (accepts : Bool) (c : UpdatesCell) (n : ℕ) (names : Change)
    → c.held.phase ≡ p → IsArriving c n names → c.held.number < n → is_available c.life.holding ≡ true
    → IsLeft c n (fresh_by p allowed c.held (update_of c.service names n accepts) (asks_for c names))
fresh_left UpdatePhase.Settled allowed a c n names p h l on =
    settled_left (is_same_settings c.held.settings (asks_for c names)) allowed a c n
    (if n == 0 then c.held.number else n) names refl h l
    (number_by (n == 0) c.held.number n (zero_not n h.sent.first)) on p
fresh_left UpdatePhase.Failed allowed a c n names p h l on =
    over_failed allowed a c n (if n == 0 then c.held.number else n) names h l
    (number_by (n == 0) c.held.number n (zero_not n h.sent.first)) on p
fresh_left (UpdatePhase.Updating goal) allowed a c n names p h l on =
    updating_left (n == 0) c n names goal (zero_not n h.sent.first) h
fresh_left (UpdatePhase.Pending goal) allowed a c n names p h l on = busy_left c n names h
fresh_left (UpdatePhase.Mending goal) allowed a c n names p h l on = busy_left c n names h

-- ---- any Update

picks : (P : UpdateHolding × UpdateBegun → Type 0) (x : Bool) (a b : UpdateHolding × UpdateBegun) → (x ≡ true → P a)
    → (x ≡ false → P b) → P (if x then a else b)
picks P true a b f g = f refl
picks P false a b f g = g refl

says_409 : (c : UpdatesCell) (n : ℕ) (names : Change) → IsArriving c n names → n < c.held.number
    → IsLeft c n (c.held, UpdateBegun.Answered (error 409 Other))
says_409 c n names h l =
    answered_left c n names (error 409 Other) h
    (λ k aim s i. (let m : c.held.number ≤ c.recorded.number = h.possible.numbers.judged in absurd (omega arith)))

pub less : (n kept : ℕ) → (not (n == 0) && nat_lt n kept) ≡ true → n < kept
less n kept e = grind (arith, nat_tests)

pub equal : (n kept : ℕ) → (not (n == 0) && n == kept) ≡ true → n ≡ kept
equal n kept e = grind (arith, nat_tests)

newer : (n kept : ℕ) → 1 ≤ n → (not (n == 0) && nat_lt n kept) ≡ false → (not (n == 0) && n == kept) ≡ false → kept < n
newer n kept l e f = grind (arith, nat_tests)

judged_by : (allowed : Allowed) (accepts : Bool) (c : UpdatesCell) (n : ℕ) (names : Change) → IsArriving c n names
    → is_available c.life.holding ≡ true
    → IsLeft c n (judged allowed c.held (update_of c.service names n accepts) (asks_for c names))
judged_by allowed a c n names h on =
    picks (IsLeft c n) (not (n == 0) && nat_lt n c.held.number) _ _
    (λ x. says_409 c n names h (less n c.held.number x))
    (λ x. picks (IsLeft c n) (not (n == 0) && n == c.held.number) _ _
    (λ y. again_left c.held.phase c n names h refl (equal n c.held.number y))
    (λ y. fresh_left c.held.phase allowed a c n names refl h (newer n c.held.number h.sent.first x y) on))

-- an instance that isn't available, or has another service
by_row : (P : Option Answer → Type 0) (x y : Bool) → (x ≡ true → y ≡ true) → P (Some busy) → (x ≡ true → P None)
    → P (if not x then Some busy else (if y then None else Some (error 400 Other)))
by_row P true true f b g = g refl
by_row P true false f b g = let e : false ≡ true = f refl in cc
by_row P false y f b g = b

by_unavailable : (P : Option Answer → Type 0) (row : Option BrokerRow) (work : Option Request) (service : ℕ)
    → (is_available_by row work ≡ true → has_service row service ≡ true) → P (Some (error 404 Other)) → P (Some busy)
    → (is_available_by row work ≡ true → P None) → P (unavailable_by row work service)
by_unavailable P None None service f n b g = n
by_unavailable P (Some row) None service f n b g =
    by_row P (is_ready_phase row.phase) (row.service == service) f b g
by_unavailable P None (Some work) service f n b g = b
by_unavailable P (Some row) (Some work) service f n b g = b

pub serves : (x y : Bool) → implies x y ≡ true → x ≡ true → y ≡ true
serves true y e f = e
serves false y e f = cc

pub has_its_service : (c : UpdatesCell) → IsPossible c → is_available c.life.holding ≡ true
    → has_service c.life.holding.row c.service ≡ true
has_its_service c h =
    serves (is_available c.life.holding) _
    (and_right (implies (is_ready c.life) (is_available c.life.holding)) _ h.lives)

update_left : (allowed : Allowed) (accepts : Bool) (c : UpdatesCell) (n : ℕ) (names : Change) → IsArriving c n names
    → IsPossible (arrive_as (Asked.Update names) c n allowed accepts)
update_left allowed a c n names h =
    by_unavailable (λ o. IsLeft c n (begun_by o allowed c.held (update_of c.service names n a))) c.life.holding.row
    c.life.holding.work c.service (has_its_service c h.possible)
    (answered_left c n names (error 404 Other) h (λ k aim s i. says_404 c.recorded.number c.held aim.to))
    (busy_left c n names h) (λ on. judged_by allowed a c n names h on)

-- ---- a Poll

to_poll : (out : Option UpdateKind) (s : UpdateState) (number : ℕ) (held : UpdateHolding) (answer : Answer)
    → IfSome out (λ kind. UpdateKind.Poll ≡ kind)
    → ((aim : Aim) → s ≡ UpdateState.Polling aim → IsPolled number held aim.to answer)
    → SaidOf out s number held (Said.Answer answer)
to_poll None s number held answer k f = tt
to_poll (Some UpdateKind.Poll) (UpdateState.Polling aim) number held answer k f = f aim refl
to_poll (Some UpdateKind.Poll) s number held answer k f = tt
to_poll (Some UpdateKind.Update) s number held answer k f = cc
to_poll (Some UpdateKind.Fetch) s number held answer k f = cc

succeeded : (p : UpdatePhase) → Body.State (last_state p) ≡ Body.State LastState.Succeeded → p ≡ UpdatePhase.Settled
succeeded UpdatePhase.Settled e = refl
succeeded p e = cc

has_gone : (p : UpdatePhase) (settings to : Settings) → p ≡ UpdatePhase.Settled → IsGoing p settings to → settings ≡ to
has_gone UpdatePhase.Settled settings to e g = g
has_gone p settings to e g = cc

polls : (s : UpdateState) (aim : Aim) (before : Settings) (number : ℕ) (held : UpdateHolding) (ready : Bool)
    → s ≡ UpdateState.Polling aim → HeldByState s before number held ready
    → IsPolled number held aim.to (last_operation (last_state held.phase))
polls s aim before number held ready e h =
    let a : HeldByState (UpdateState.Polling aim) before number held ready =
    subst (λ (x : UpdateState). HeldByState x before number held ready) e h in
    λ x y. record {
      judged = a.1.judged;
      settled = succeeded held.phase y;
      settings = has_gone held.phase held.settings aim.to (succeeded held.phase y) a.1.going;
    }

poll_given : (c : UpdatesCell) (n : ℕ) → IsPossible c
    → IsSentOf (is_kept c.life) c.recorded c.held.number (record { attempt = n; asked = Asked.Poll })
    → IsPossible (with_given c n (Said.Answer (last_operation (last_state c.held.phase))))
poll_given c n h q =
    gives c n (Said.Answer (last_operation (last_state c.held.phase))) h (record {
      numbered = q.numbered;
      said = λ k e. to_poll c.recorded.out c.recorded.state c.recorded.number c.held
          (last_operation (last_state c.held.phase)) (q.latest e)
          (λ aim s. polls c.recorded.state aim c.recorded.settings c.recorded.number c.held (is_ready c.life) s
          (h.recorded k));
    })

poll_left : (x : Bool) (c : UpdatesCell) (n : ℕ) → IsPossible c
    → IsSentOf (is_kept c.life) c.recorded c.held.number (record { attempt = n; asked = Asked.Poll })
    → IsPossible (poll_answered c n (if x then Some (last_operation (last_state c.held.phase)) else None))
poll_left true c n h q = poll_given c n h q
poll_left false c n h q = h

-- ---- a Fetch

to_fetch : (out : Option UpdateKind) (s : UpdateState) (number : ℕ) (held : UpdateHolding) (said : Said)
    → IfSome out (λ kind. UpdateKind.Fetch ≡ kind)
    → ((settings : Settings) (n : ℕ) → said ≡ Said.Found settings n → n ≡ number → HasDone number held settings)
    → SaidOf out s number held said
to_fetch None s number held said k f = tt
to_fetch (Some UpdateKind.Fetch) s number held (Said.Found settings n) k f = f settings n refl
to_fetch (Some UpdateKind.Fetch) s number held (Said.Answer answer) k f = tt
to_fetch (Some UpdateKind.Update) s number held said k f = cc
to_fetch (Some UpdateKind.Poll) s number held said k f = cc

fetch_given : (c : UpdatesCell) (n : ℕ) (said : Said) → IsPossible c
    → IsSentOf (is_kept c.life) c.recorded c.held.number (record { attempt = n; asked = Asked.Fetch })
    → ((settings : Settings) (m : ℕ) → said ≡ Said.Found settings m → m ≡ c.recorded.number
    → HasDone c.recorded.number c.held settings)
    → IsPossible (with_given c n said)
fetch_given c n said h q f =
    gives c n said h (record {
      numbered = q.numbered;
      said = λ k e. to_fetch c.recorded.out c.recorded.state c.recorded.number c.held said (q.latest e) f;
    })

found_settings : (a b : Settings) (n m : ℕ) → Said.Found a n ≡ Said.Found b m → a ≡ b
found_settings a b n m e = cc

found_number : (a b : Settings) (n m : ℕ) → Said.Found a n ≡ Said.Found b m → n ≡ m
found_number a b n m e = cc

found_left : (p : UpdatePhase) (c : UpdatesCell) (n : ℕ) → c.held.phase ≡ p → IsPossible c
    → IsSentOf (is_kept c.life) c.recorded c.held.number (record { attempt = n; asked = Asked.Fetch })
    → IsPossible (with_given c n (said_by (found_by p c.held)))
found_left UpdatePhase.Settled c n p h q =
    fetch_given c n (Said.Found c.held.settings c.held.number) h q (λ settings m e i. record {
      judged = found_number c.held.settings settings c.held.number m e ∙ i;
      settled = p;
      settings = found_settings c.held.settings settings c.held.number m e;
    })
found_left UpdatePhase.Failed c n p h q = fetch_given c n (Said.Answer busy) h q (λ settings m e i. cc)
found_left (UpdatePhase.Pending goal) c n p h q = fetch_given c n (Said.Answer busy) h q (λ settings m e i. cc)
found_left (UpdatePhase.Updating goal) c n p h q = fetch_given c n (Said.Answer busy) h q (λ settings m e i. cc)
found_left (UpdatePhase.Mending goal) c n p h q = fetch_given c n (Said.Answer busy) h q (λ settings m e i. cc)

fetch_left : (x : Bool) (c : UpdatesCell) (n : ℕ) → IsPossible c
    → IsSentOf (is_kept c.life) c.recorded c.held.number (record { attempt = n; asked = Asked.Fetch })
    → IsPossible (with_given c n (said_by (if x then found_by c.held.phase c.held else Fetched.Answered (error 404 Other))))
fetch_left true c n h q = found_left c.held.phase c n refl h q
fetch_left false c n h q = fetch_given c n (Said.Answer (error 404 Other)) h q (λ settings m e i. cc)

-- ---- any request

asked_left : (asked : Asked) (allowed : Allowed) (accepts : Bool) (c : UpdatesCell) (n : ℕ) → IsPossible c
    → IsSentOf (is_kept c.life) c.recorded c.held.number (record { attempt = n; asked = asked })
    → IsPossible (arrive_as asked c n allowed accepts)
asked_left (Asked.Update names) allowed a c n h q =
    update_left allowed a c n names (record { possible = h; sent = q })
asked_left Asked.Poll allowed a c n h q = poll_left (is_available c.life.holding) c n h q
asked_left Asked.Fetch allowed a c n h q = fetch_left (is_available c.life.holding) c n h q

arrive_by : (c : UpdatesCell) (at : ℕ) (o : Option UpdateAsked) (allowed : Allowed) (accepts : Bool)
    → slice_get c.sent at ≡ o → IsPossible c → IsPossible (arrive c o allowed accepts)
arrive_by c at None allowed a e h = h
arrive_by c at (Some x) allowed a e h =
    asked_left x.asked allowed a c x.attempt h
    (all_get (IsSentOf (is_kept c.life) c.recorded c.held.number) c.sent at x h.all_sent e)

pub arrive_kept : (c : UpdatesCell) (at : ℕ) (allowed : Allowed) (accepts : Bool) → IsPossible c
    → IsPossible (arrive c (slice_get c.sent at) allowed accepts)
arrive_kept c at allowed a h = arrive_by c at (slice_get c.sent at) allowed a refl h

-- ---- one that is put off

busy_says : (out : Option UpdateKind) (s : UpdateState) (number : ℕ) (held : UpdateHolding)
    → SaidOf out s number held (Said.Answer busy)
busy_says (Some UpdateKind.Update) (UpdateState.Updating aim) number held = says_busy_only number held aim.to
busy_says (Some UpdateKind.Poll) (UpdateState.Polling aim) number held = λ e f. cc
busy_says out s number held = tt

put_off_by : (c : UpdatesCell) (at : ℕ) (o : Option UpdateAsked) → slice_get c.sent at ≡ o → IsPossible c
    → IsPossible (put_off c o)
put_off_by c at None e h = h
put_off_by c at (Some x) e h =
    gives c x.attempt (Said.Answer busy) h (record {
      numbered = (all_get (IsSentOf (is_kept c.life) c.recorded c.held.number) c.sent at x h.all_sent e).numbered;
      said = λ k same. busy_says c.recorded.out c.recorded.state c.recorded.number c.held;
    })

pub put_off_kept : (c : UpdatesCell) (at : ℕ) → IsPossible c → IsPossible (put_off c (slice_get c.sent at))
put_off_kept c at h = put_off_by c at (slice_get c.sent at) refl h
