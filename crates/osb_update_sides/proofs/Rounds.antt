-- Two rounds without a fault settle the updates of an instance that is recorded `ready`.
use Rattle.std.proofs.Common.{◌≡◌, ◌≤◌, ◌+◌, ◌<◌, ℕ, Bool, true, false, arith, refl, sym, subst, ap, ◌∙◌}
use Rattle.std.specs.Prelude.{◌-◌, ◌==◌, ◌&&◌, ◌||◌, not, if◌then◌else◌, nat_lt, is_some, is_none, slice_get, length}
use Rattle.std.specs.Prelude.{Option, Some, None, IfSome, List, [], ◌∷◌, ◌++◌}
use Rattle.std.proofs.lemmas.Bool.Decides.{nat_tests, Decides-eqb}
use Rattle.osb_message.specs.declared.catalogue.Mode.{Mode}
use Rattle.osb_message.specs.declared.catalogue.Mode.TheVariants.{Sync, Async}
use Rattle.osb_message.specs.declared.messages.Answer.{Answer}
use Rattle.osb_message.specs.declared.messages.ErrorCode.TheVariants.{Other}
use Rattle.osb_message.specs.declared.messages.Request.{Request}
use Rattle.osb_broker.specs.Answers.{empty, error, last_operation}
use Rattle.osb_broker.specs.declared.row.BrokerRow.{BrokerRow}
use Rattle.osb_instance.specs.Fits.{is_ready as is_ready_phase}
use Rattle.osb_update.specs.Begun.{begun, begun_by, busy, fresh_by, is_available, is_available_by, is_pending}
use Rattle.osb_update.specs.Begun.{is_under_way, failed_by, judged, numbered, refusal, settled_by, unavailable_by}
use Rattle.osb_update.specs.Ended.{done, done_status}
use Rattle.osb_update.specs.Recorded as platform
use Rattle.osb_update.specs.Recorded.{may_send}
use Rattle.osb_update.specs.Reported.{last_state, polled}
use Rattle.osb_update.specs.Settings.{is_same_settings, named_parts}
use Rattle.osb_update.specs.declared.holding.UpdateHolding.{UpdateHolding}
use Rattle.osb_update.specs.declared.phase.UpdateBegun.{UpdateBegun}
use Rattle.osb_update.specs.declared.phase.UpdateOutcome.{UpdateOutcome}
use Rattle.osb_update.specs.declared.phase.UpdatePhase.{UpdatePhase}
use Rattle.osb_update.specs.declared.record.UpdateRecord.{UpdateRecord}
use Rattle.osb_update.specs.declared.request.Allowed.{Allowed}
use Rattle.osb_update.specs.declared.request.Update.{Update}
use Rattle.osb_update.specs.declared.settings.Change.{Change}
use Rattle.osb_update.specs.declared.settings.Settings.{Settings}
use Rattle.osb_update.specs.declared.state.Aim.{Aim}
use Rattle.osb_update.specs.declared.state.UpdateKind.{UpdateKind}
use Rattle.osb_update.specs.declared.state.UpdateRequest.{UpdateRequest}
use Rattle.osb_update.specs.declared.state.UpdateSent.{UpdateSent}
use Rattle.osb_update.specs.declared.state.UpdateState.{UpdateState}
use Rattle.osb_update.proofs.Same.{same_settings}
use Rattle.osb_update_sides.specs.Cell.{UpdatesCell}
use Rattle.osb_update_sides.specs.Life.{has_service, implies, is_ready}
use Rattle.osb_update_sides.specs.Possible.{IsPossible}
use Rattle.osb_update_sides.specs.Rounds.{after_round, exchanged, goal_of, operated_well, with_answer, with_arrival}
use Rattle.osb_update_sides.specs.Rounds.{with_good, worked_well, IsJudgedIn, IsSettledIn, OneRoundSettles}
use Rattle.osb_update_sides.specs.Rounds.{TwoRoundsSettle}
use Rattle.osb_update_sides.specs.Steps.{arrive, arrive_as, asked_as, asked_by, end_answered, end_by, end_to, finish_by}
use Rattle.osb_update_sides.specs.Steps.{finished_to, is_at, is_out, is_true_end, may_ask, may_end, poll_answered}
use Rattle.osb_update_sides.specs.Steps.{said_to}
use Rattle.osb_update_sides.specs.Steps.{sends, take, update_begun, update_of, updates_step, with_given, with_record}
use Rattle.osb_update_sides.specs.Steps.{with_sent}
use Rattle.osb_update_sides.specs.declared.asked.Asked.{Asked}
use Rattle.osb_update_sides.specs.declared.asked.UpdateAsked.{UpdateAsked}
use Rattle.osb_update_sides.specs.declared.event.UpdatesEvent.{UpdatesEvent}
use Rattle.osb_update_sides.specs.declared.given.Said.{Said}
use Rattle.osb_update_sides.specs.declared.given.UpdateGiven.{UpdateGiven}
use Rattle.osb_update_sides.proofs.Arrivals.{asks_for, equal, has_its_service, less, serves}
use Rattle.osb_update_sides.proofs.Kept.{kept}
use Rattle.osb_update_sides.proofs.Lives.{life_of}
use Rattle.osb_update_sides.proofs.Platform.{and_left}

of_either : {X : Type 0} (f : UpdatesCell → X) (x : Bool) (a c : UpdatesCell) → f a ≡ f c
    → f (if x then a else c) ≡ f c
of_either f true a c e = e
of_either f false a c e = refl

if_true : {X : Type 0} (x : Bool) (a c : X) → x ≡ true → (if x then a else c) ≡ a
if_true true a c e = refl
if_true false a c e = cc

if_false : {X : Type 0} (x : Bool) (a c : X) → x ≡ false → (if x then a else c) ≡ c
if_false true a c e = cc
if_false false a c e = refl

good_keeps : {X : Type 0} (f : UpdatesCell → X) (c : UpdatesCell)
    → ((s : Option Settings) → f (record c { settings = s }) ≡ f c) → f (with_good c) ≡ f c
good_keeps f c e =
    of_either f (is_under_way c.held.phase) (record c { settings = goal_of c.held.phase }) c (e (goal_of c.held.phase))

-- ---- what the broker does leaves what the platform records

answered_recorded : (c : UpdatesCell) (held : UpdateHolding) (answer : Answer) (worker : Option ℕ)
    → (end_answered c held answer worker).recorded ≡ c.recorded
answered_recorded c held answer None = refl
answered_recorded c held answer (Some n) = refl

end_to_recorded : (c : UpdatesCell) (mode : Mode) (to : Settings) (failed : Bool)
    → (end_to c mode UpdateOutcome.Done to failed).recorded ≡ c.recorded
end_to_recorded c mode to failed =
    of_either (λ (d : UpdatesCell). d.recorded) (may_end c mode UpdateOutcome.Done to failed)
    (end_answered c (done mode c.held to) (empty (done_status mode)) c.worker) c
    (answered_recorded c (done mode c.held to) (empty (done_status mode)) c.worker)

end_recorded : (p : UpdatePhase) (c : UpdatesCell) (mode : Mode)
    → (end_by p c mode UpdateOutcome.Done).recorded ≡ c.recorded
end_recorded (UpdatePhase.Pending to) c mode = end_to_recorded c mode to false
end_recorded (UpdatePhase.Mending to) c mode = end_to_recorded c mode to true
end_recorded UpdatePhase.Settled c mode = refl
end_recorded UpdatePhase.Failed c mode = refl
end_recorded (UpdatePhase.Updating to) c mode = refl

finish_recorded : (p : UpdatePhase) (c : UpdatesCell) → (finish_by p c true).recorded ≡ c.recorded
finish_recorded (UpdatePhase.Updating to) c =
    of_either (λ (d : UpdatesCell). d.recorded) (not true || is_at c.settings to)
    (record c { held = finished_to c.held to true }) c refl
finish_recorded UpdatePhase.Settled c = refl
finish_recorded UpdatePhase.Failed c = refl
finish_recorded (UpdatePhase.Pending to) c = refl
finish_recorded (UpdatePhase.Mending to) c = refl

worked_recorded : (mode : Mode) (c : UpdatesCell) → (worked_well mode c).recorded ≡ c.recorded
worked_recorded mode c =
    end_recorded (with_good c).held.phase (with_good c) mode
    ∙ good_keeps (λ (d : UpdatesCell). d.recorded) c (λ s. refl)

operated_recorded : (c : UpdatesCell) → (operated_well c).recorded ≡ c.recorded
operated_recorded c =
    finish_recorded (with_good c).held.phase (with_good c)
    ∙ good_keeps (λ (d : UpdatesCell). d.recorded) c (λ s. refl)

begun_recorded : (c : UpdatesCell) (n : ℕ) (held : UpdateHolding) (b : UpdateBegun)
    → (update_begun c n held b).recorded ≡ c.recorded
begun_recorded c n held (UpdateBegun.Answered answer) = refl
begun_recorded c n held UpdateBegun.MaintenanceInfoConflict = refl
begun_recorded c n held (UpdateBegun.Work mode to) = refl

poll_recorded : (c : UpdatesCell) (n : ℕ) (o : Option Answer) → (poll_answered c n o).recorded ≡ c.recorded
poll_recorded c n None = refl
poll_recorded c n (Some answer) = refl

asked_recorded : (asked : Asked) (c : UpdatesCell) (n : ℕ) (mode : Mode)
    → (arrive_as asked c n (Allowed.Mode mode) true).recorded ≡ c.recorded
asked_recorded (Asked.Update names) c n mode =
    let after = begun c.life.holding (Allowed.Mode mode) c.held (update_of c.service names n true) in
    begun_recorded c n after.0 after.1
asked_recorded Asked.Poll c n mode = poll_recorded c n (polled c.life.holding c.held.phase)
asked_recorded Asked.Fetch c n mode = refl

arrive_recorded : (c : UpdatesCell) (o : Option UpdateAsked) (mode : Mode)
    → (arrive c o (Allowed.Mode mode) true).recorded ≡ c.recorded
arrive_recorded c None mode = refl
arrive_recorded c (Some x) mode = asked_recorded x.asked c x.attempt mode

-- ---- what is under way goes well

-- the resource has the settings to which it leads
abbrev GoodAt : UpdatePhase → Option Settings → Type 0
GoodAt p settings = IfSome (goal_of p) (λ to. settings ≡ Some to)

good_by : (p : UpdatePhase) (c : UpdatesCell)
    → GoodAt p (if is_under_way p then record c { settings = goal_of p } else c).settings
good_by (UpdatePhase.Pending to) c = refl
good_by (UpdatePhase.Updating to) c = refl
good_by (UpdatePhase.Mending to) c = refl
good_by UpdatePhase.Settled c = tt
good_by UpdatePhase.Failed c = tt

good_held : (c : UpdatesCell) → (with_good c).held ≡ c.held
good_held c = good_keeps (λ (d : UpdatesCell). d.held) c (λ s. refl)

good_now : (c : UpdatesCell) → GoodAt (with_good c).held.phase (with_good c).settings
good_now c =
    subst (λ (h : UpdateHolding). GoodAt h.phase (with_good c).settings) (sym (good_held c)) (good_by c.held.phase c)

same_at : (to : Settings) (s : Option Settings) → s ≡ Some to → is_at s to ≡ true
same_at to s e = ap (λ (x : Option Settings). is_at x to) e ∙ (same_settings to to).1 refl

ends_well : (mode : Mode) (s : Option Settings) (to : Settings) (x : Bool) → s ≡ Some to
    → is_true_end UpdateOutcome.Done mode (is_at s to) x ≡ true
ends_well Sync s to x e = same_at to s e
ends_well Async s to x e = refl

ends_at : (c : UpdatesCell) (mode : Mode) (to : Settings) (failed : Bool) → c.settings ≡ Some to
    → end_to c mode UpdateOutcome.Done to failed
    ≡ end_answered c (done mode c.held to) (empty (done_status mode)) c.worker
ends_at c mode to failed e =
    if_true (may_end c mode UpdateOutcome.Done to failed)
    (end_answered c (done mode c.held to) (empty (done_status mode)) c.worker) c
    (ends_well mode c.settings to (failed || is_at c.settings c.held.settings) e)

answered_held : (c : UpdatesCell) (held : UpdateHolding) (answer : Answer) (worker : Option ℕ)
    → (end_answered c held answer worker).held ≡ held
answered_held c held answer None = refl
answered_held c held answer (Some n) = refl

done_idle : (mode : Mode) (held : UpdateHolding) (to : Settings) → is_pending (done mode held to).phase ≡ false
done_idle Sync held to = refl
done_idle Async held to = refl

ended_idle : (c : UpdatesCell) (mode : Mode) (to : Settings) (failed : Bool) → c.settings ≡ Some to
    → is_pending (end_to c mode UpdateOutcome.Done to failed).held.phase ≡ false
ended_idle c mode to failed e =
    ap (λ (d : UpdatesCell). is_pending d.held.phase) (ends_at c mode to failed e)
    ∙ ap (λ (h : UpdateHolding). is_pending h.phase)
    (answered_held c (done mode c.held to) (empty (done_status mode)) c.worker)
    ∙ done_idle mode c.held to

idle_after : (p : UpdatePhase) (c : UpdatesCell) (mode : Mode) → c.held.phase ≡ p → GoodAt p c.settings
    → is_pending (end_by p c mode UpdateOutcome.Done).held.phase ≡ false
idle_after (UpdatePhase.Pending to) c mode e g = ended_idle c mode to false g
idle_after (UpdatePhase.Mending to) c mode e g = ended_idle c mode to true g
idle_after UpdatePhase.Settled c mode e g = ap is_pending e
idle_after UpdatePhase.Failed c mode e g = ap is_pending e
idle_after (UpdatePhase.Updating to) c mode e g = ap is_pending e

worked_idle : (mode : Mode) (c : UpdatesCell) → is_pending (worked_well mode c).held.phase ≡ false
worked_idle mode c = idle_after (with_good c).held.phase (with_good c) mode refl (good_now c)

free_after : (p : UpdatePhase) (c : UpdatesCell) → c.held.phase ≡ p → is_pending p ≡ false → GoodAt p c.settings
    → is_under_way (finish_by p c true).held.phase ≡ false
free_after (UpdatePhase.Updating to) c e i g =
    ap (λ (d : UpdatesCell). is_under_way d.held.phase)
    (if_true (not true || is_at c.settings to) (record c { held = finished_to c.held to true }) c
    (same_at to c.settings g))
free_after UpdatePhase.Settled c e i g = ap is_under_way e
free_after UpdatePhase.Failed c e i g = ap is_under_way e
free_after (UpdatePhase.Pending to) c e i g = cc
free_after (UpdatePhase.Mending to) c e i g = cc

free_now : (mode : Mode) (c : UpdatesCell) → is_under_way (operated_well (worked_well mode c)).held.phase ≡ false
free_now mode c =
    let w : UpdatesCell = worked_well mode c in
    free_after (with_good w).held.phase (with_good w) refl
    (ap (λ (h : UpdateHolding). is_pending h.phase) (good_held w) ∙ worked_idle mode c) (good_now w)

-- ---- the first half of a round

-- nothing is out, and nothing is under way
record IsCalm (c : UpdatesCell) : Type 0 where
  pub possible : IsPossible c
  pub on : is_ready c.life ≡ true
  pub out : c.recorded.out ≡ None
  pub free : is_under_way c.held.phase ≡ false

abbrev timed_out : UpdatesCell → UpdatesCell
timed_out c = updates_step c UpdatesEvent.Timeout

abbrev calmed : Mode → UpdatesCell → UpdatesCell
calmed mode c = operated_well (worked_well mode (timed_out c))

nothing_out : (o : Option UpdateKind) (c : UpdatesCell) → c.recorded.out ≡ o
    → (if is_some o then with_record c (platform.rested c.recorded) else c).recorded.out ≡ None
nothing_out None c e = e
nothing_out (Some kind) c e = refl

calmed_recorded : (mode : Mode) (c : UpdatesCell) → (calmed mode c).recorded ≡ (timed_out c).recorded
calmed_recorded mode c = operated_recorded (worked_well mode (timed_out c)) ∙ worked_recorded mode (timed_out c)

calmed_state : (mode : Mode) (c : UpdatesCell) → (calmed mode c).recorded.state ≡ c.recorded.state
calmed_state mode c =
    ap (λ (r : UpdateRecord). r.state) (calmed_recorded mode c)
    ∙ of_either (λ (d : UpdatesCell). d.recorded.state) (is_some c.recorded.out)
    (with_record c (platform.rested c.recorded)) c refl

calmed_attempt : (mode : Mode) (c : UpdatesCell) → (calmed mode c).recorded.attempt ≡ c.recorded.attempt
calmed_attempt mode c =
    ap (λ (r : UpdateRecord). r.attempt) (calmed_recorded mode c)
    ∙ of_either (λ (d : UpdatesCell). d.recorded.attempt) (is_some c.recorded.out)
    (with_record c (platform.rested c.recorded)) c refl

good_life : (c : UpdatesCell) → (with_good c).life ≡ c.life
good_life c = good_keeps (λ (d : UpdatesCell). d.life) c (λ s. refl)

worked_life : (mode : Mode) (c : UpdatesCell) → (worked_well mode c).life ≡ c.life
worked_life mode c = life_of (with_good c) (UpdatesEvent.End mode UpdateOutcome.Done) refl ∙ good_life c

calmed_life : (mode : Mode) (c : UpdatesCell) → (calmed mode c).life ≡ c.life
calmed_life mode c =
    life_of (with_good (worked_well mode (timed_out c))) (UpdatesEvent.Finish true) refl
    ∙ good_life (worked_well mode (timed_out c))
    ∙ worked_life mode (timed_out c) ∙ life_of c UpdatesEvent.Timeout refl

kept_good : (c : UpdatesCell) → IsPossible c → IsPossible (with_good c)
kept_good c h = kept c (UpdatesEvent.Work (goal_of c.held.phase)) h

kept_worked : (mode : Mode) (c : UpdatesCell) → IsPossible c → IsPossible (worked_well mode c)
kept_worked mode c h = kept (with_good c) (UpdatesEvent.End mode UpdateOutcome.Done) (kept_good c h)

kept_calmed : (mode : Mode) (c : UpdatesCell) → IsPossible c → IsPossible (calmed mode c)
kept_calmed mode c h =
    kept (with_good (worked_well mode (timed_out c))) (UpdatesEvent.Finish true)
    (kept_good (worked_well mode (timed_out c))
    (kept_worked mode (timed_out c) (kept c UpdatesEvent.Timeout h)))

calm : (mode : Mode) (c : UpdatesCell) → IsPossible c → is_ready c.life ≡ true → IsCalm (calmed mode c)
calm mode c h on = record {
  possible = kept_calmed mode c h;
  on = ap is_ready (calmed_life mode c) ∙ on;
  out = ap (λ (r : UpdateRecord). r.out) (calmed_recorded mode c) ∙ nothing_out c.recorded.out c refl;
  free = free_now mode (timed_out c);
}

-- ---- the last request arrives, and the last answer is taken

length_push : {X : Type 0} (xs : List X) (x : X) → length (xs ++ x ∷ []) ≡ length xs + 1
length_push [] x = refl
length_push (y ∷ ys) x = let e : length (ys ++ x ∷ []) ≡ length ys + 1 = length_push ys x in omega arith

at_length : {X : Type 0} (xs : List X) (x : X) → slice_get (xs ++ x ∷ []) (length xs) ≡ Some x
at_length [] x = refl
at_length (y ∷ ys) x = at_length ys x

latest : {X : Type 0} (xs : List X) (x : X) → slice_get (xs ++ x ∷ []) (length (xs ++ x ∷ []) - 1) ≡ Some x
latest xs x =
    let e : length (xs ++ x ∷ []) ≡ length xs + 1 = length_push xs x in
    let n : length (xs ++ x ∷ []) - 1 ≡ length xs = omega arith in
    ap (slice_get (xs ++ x ∷ [])) n ∙ at_length xs x

arrives : (mode : Mode) (c : UpdatesCell) (after : UpdateRecord × UpdateSent)
    → with_arrival mode (with_sent c after)
    ≡ arrive_as (asked_as after.1.request) (with_sent c after) after.1.attempt (Allowed.Mode mode) true
arrives mode c after =
    ap (λ (o : Option UpdateAsked). arrive (with_sent c after) o (Allowed.Mode mode) true)
    (latest c.sent (asked_by after.1))

taken : (c : UpdatesCell) (xs : List UpdateGiven) (g : UpdateGiven) → c.given ≡ xs ++ g ∷ []
    → is_out c.recorded g.attempt ≡ true → (with_answer c).recorded ≡ said_to c.recorded.out c.recorded g.said
taken c xs g e on =
    ap (λ (l : List UpdateGiven). (take c (slice_get l (length l - 1))).recorded) e
    ∙ ap (λ (o : Option UpdateGiven). (take c o).recorded) (latest xs g)
    ∙ ap (λ (d : UpdatesCell). d.recorded)
    (if_true (is_out c.recorded g.attempt) (with_record c (said_to c.recorded.out c.recorded g.said)) c on)

not_taken : (c : UpdatesCell) (o : Option UpdateGiven) → c.recorded.out ≡ None → (take c o).recorded ≡ c.recorded
not_taken c None e = refl
not_taken c (Some g) e =
    ap (λ (d : UpdatesCell). d.recorded)
    (if_false (is_out c.recorded g.attempt) (with_record c (said_to c.recorded.out c.recorded g.said)) c
    (ap (λ (k : Option UpdateKind). is_some k && g.attempt == c.recorded.attempt) e))

-- the work leaves the answers, or answers its Update
end_given : (p : UpdatePhase) (c : UpdatesCell) (mode : Mode) → is_pending p ≡ false
    → (end_by p c mode UpdateOutcome.Done).given ≡ c.given
end_given (UpdatePhase.Pending to) c mode i = cc
end_given (UpdatePhase.Mending to) c mode i = cc
end_given UpdatePhase.Settled c mode i = refl
end_given UpdatePhase.Failed c mode i = refl
end_given (UpdatePhase.Updating to) c mode i = refl

worked_given : (mode : Mode) (c : UpdatesCell) → is_pending c.held.phase ≡ false
    → (worked_well mode c).given ≡ c.given
worked_given mode c i =
    end_given (with_good c).held.phase (with_good c) mode
    (ap (λ (h : UpdateHolding). is_pending h.phase) (good_held c) ∙ i)
    ∙ good_keeps (λ (d : UpdatesCell). d.given) c (λ s. refl)

abbrev done_answer : Mode → ℕ → UpdateGiven
done_answer mode n = record { attempt = n; said = Said.Answer (empty (done_status mode)) }

ends_answered : (c : UpdatesCell) (mode : Mode) (to : Settings) (failed : Bool) (n : ℕ) → c.worker ≡ Some n
    → c.settings ≡ Some to
    → (end_to c mode UpdateOutcome.Done to failed).given ≡ c.given ++ done_answer mode n ∷ []
ends_answered c mode to failed n w e =
    ap (λ (d : UpdatesCell). d.given) (ends_at c mode to failed e)
    ∙ ap (λ (x : Option ℕ). (end_answered c (done mode c.held to) (empty (done_status mode)) x).given) w

end_answers : (p : UpdatePhase) (c : UpdatesCell) (mode : Mode) (n : ℕ) → is_pending p ≡ true → c.worker ≡ Some n
    → GoodAt p c.settings → (end_by p c mode UpdateOutcome.Done).given ≡ c.given ++ done_answer mode n ∷ []
end_answers (UpdatePhase.Pending to) c mode n i w g = ends_answered c mode to false n w g
end_answers (UpdatePhase.Mending to) c mode n i w g = ends_answered c mode to true n w g
end_answers UpdatePhase.Settled c mode n i w g = cc
end_answers UpdatePhase.Failed c mode n i w g = cc
end_answers (UpdatePhase.Updating to) c mode n i w g = cc

worked_answers : (mode : Mode) (c : UpdatesCell) (n : ℕ) → is_pending c.held.phase ≡ true → c.worker ≡ Some n
    → (worked_well mode c).given ≡ c.given ++ done_answer mode n ∷ []
worked_answers mode c n i w =
    end_answers (with_good c).held.phase (with_good c) mode n
    (ap (λ (h : UpdateHolding). is_pending h.phase) (good_held c) ∙ i)
    (good_keeps (λ (d : UpdatesCell). d.worker) c (λ s. refl) ∙ w) (good_now c)
    ∙ ap (λ (l : List UpdateGiven). l ++ done_answer mode n ∷ [])
    (good_keeps (λ (d : UpdatesCell). d.given) c (λ s. refl))

-- ---- what comes of the request that is due

-- where the platform is then, and how many numbers it has left
record IsNear (near : UpdateState → Type 0) (more : ℕ) (r : UpdateRecord) : Type 0 where
  pub state : near r.state
  pub room : r.attempt + more ≤ 18446744073709551615
  pub out : r.out ≡ None

all_true : (a b d e : Bool) → a ≡ true → b ≡ true → d ≡ true → e ≡ true → (a && (b && (d && e))) ≡ true
all_true true true true true p q r s = refl
all_true true true true false p q r s = cc
all_true true true false e p q r s = cc
all_true true false d e p q r s = cc
all_true false b d e p q r s = cc

third_false : (a b d e : Bool) → d ≡ false → (a && (b && (d && e))) ≡ false
third_false true true d e p = ap (λ (x : Bool). x && e) p
third_false true false d e p = refl
third_false false b d e p = refl

room_left : (n more : ℕ) → n + (more + 1) ≤ 18446744073709551615 → nat_lt n 18446744073709551615 ≡ true
room_left n more l = grind (arith, nat_tests)

less_room : (n more : ℕ) → n + (more + 1) ≤ 18446744073709551615 → n + more ≤ 18446744073709551615
less_room n more l = omega arith

one_room : (n more : ℕ) → n + (more + 1) ≤ 18446744073709551615 → n + 1 + more ≤ 18446744073709551615
one_room n more l = omega arith

sends_now : (c : UpdatesCell) (more : ℕ) (after : UpdateRecord × UpdateSent) → IsCalm c
    → c.recorded.attempt + (more + 1) ≤ 18446744073709551615 → may_send c.recorded.state ≡ true
    → platform.sent c.recorded ≡ Some after → updates_step c UpdatesEvent.Send ≡ with_sent c after
sends_now c more after h l due e =
    if_true (may_ask c (may_send c.recorded.state)) (sends c (platform.sent c.recorded)) c
    (all_true (is_none c.recorded.out) (is_ready c.life) (may_send c.recorded.state)
    (nat_lt c.recorded.attempt 18446744073709551615) (ap (λ (o : Option UpdateKind). is_none o) h.out) h.on due
    (room_left c.recorded.attempt more l))
    ∙ ap (sends c) e

-- the number of what is out
is_same_number : (n : ℕ) → (n == n) ≡ true
is_same_number n = (Decides-eqb n n).1 refl

-- the answer is taken to what is out
answer_taken : (d : UpdatesCell) (r : UpdateRecord) (kind : UpdateKind) (xs : List UpdateGiven) (said : Said)
    → d.recorded ≡ r → r.out ≡ Some kind → d.given ≡ xs ++ record { attempt = r.attempt; said = said } ∷ []
    → (with_answer d).recorded ≡ said_to (Some kind) r said
answer_taken d r kind xs said e k g =
    taken d xs (record { attempt = r.attempt; said = said }) g
    (ap (λ (q : UpdateRecord). is_out q r.attempt) e
    ∙ ap (λ (o : Option UpdateKind). is_some o && r.attempt == r.attempt) k ∙ is_same_number r.attempt)
    ∙ ap (λ (q : UpdateRecord). said_to q.out q said) e
    ∙ ap (λ (o : Option UpdateKind). said_to o r said) k

-- ---- an Update

abbrev updated_to : UpdatesCell → Aim → UpdateRecord × UpdateSent
updated_to c aim = (
  platform.updates c.recorded aim (c.recorded.attempt + 1),
  platform.update_of c.recorded.settings aim (c.recorded.attempt + 1),
)

-- the broker answers 200, or begins the work
abbrev GoesOn : UpdatePhase → UpdateBegun → Type 0
GoesOn p (UpdateBegun.Answered answer) = (answer ≡ empty 200) × (is_pending p ≡ false)
GoesOn p UpdateBegun.MaintenanceInfoConflict = ⊥
GoesOn p (UpdateBegun.Work mode to) = is_pending p ≡ true

abbrev Goes : UpdateHolding × UpdateBegun → Type 0
Goes after = GoesOn after.0.phase after.1

lets : (P : UpdateHolding × UpdateBegun → Type 0) (x y : Bool) (a b c : UpdateHolding × UpdateBegun)
    → (x ≡ true → ⊥) → (y ≡ true → ⊥) → P c → P (if x then a else (if y then b else c))
lets P true y a b c f g h = absurd (f refl)
lets P false true a b c f g h = absurd (g refl)
lets P false false a b c f g h = h

no_refusal : (mode : Mode) → refusal (Allowed.Mode mode) true ≡ None
no_refusal Sync = refl
no_refusal Async = refl

either_goes : (x : Bool) (a b : UpdateHolding × UpdateBegun) → Goes a → Goes b → Goes (if x then a else b)
either_goes true a b f g = f
either_goes false a b f g = g

fresh_goes : (p : UpdatePhase) (mode : Mode) (held : UpdateHolding) (service n : ℕ) (names : Change) (to : Settings)
    → held.phase ≡ p → is_under_way p ≡ false
    → Goes (fresh_by p (Allowed.Mode mode) held (update_of service names n true) to)
fresh_goes UpdatePhase.Settled mode held service n names to e i =
    either_goes (is_same_settings held.settings to) _ _ (refl, ap is_pending e)
    (subst (λ (o : Option UpdateBegun). Goes (settled_by o (numbered held n) (Allowed.Mode mode) to))
    (sym (no_refusal mode)) refl)
fresh_goes UpdatePhase.Failed mode held service n names to e i =
    subst (λ (o : Option UpdateBegun). Goes (failed_by o (numbered held n) (Allowed.Mode mode) to))
    (sym (no_refusal mode)) refl
fresh_goes (UpdatePhase.Pending goal) mode held service n names to e i = cc
fresh_goes (UpdatePhase.Updating goal) mode held service n names to e i = cc
fresh_goes (UpdatePhase.Mending goal) mode held service n names to e i = cc

not_less : (n kept : ℕ) → kept < n → n < kept → ⊥
not_less n kept l m = omega arith

not_equal : (n kept : ℕ) → kept < n → n ≡ kept → ⊥
not_equal n kept l e = omega arith

both_there : (x y : Bool) → x ≡ true → y ≡ true
    → (if not x then Some busy else (if y then None else Some (error 400 Other))) ≡ None
both_there true true e f = refl
both_there true false e f = cc
both_there false y e f = cc

none_missing : (row : Option BrokerRow) (work : Option Request) (service : ℕ) → is_available_by row work ≡ true
    → has_service row service ≡ true → unavailable_by row work service ≡ None
none_missing (Some row) None service a s = both_there (is_ready_phase row.phase) (row.service == service) a s
none_missing (Some row) (Some work) service a s = cc
none_missing None None service a s = cc
none_missing None (Some work) service a s = cc

there_by : (c : UpdatesCell) → IsPossible c → is_ready c.life ≡ true → is_available c.life.holding ≡ true
there_by c h on =
    serves (is_ready c.life) (is_available c.life.holding)
    (and_left (implies (is_ready c.life) (is_available c.life.holding)) _ h.lives) on

newest : (kept number attempt : ℕ) → kept ≤ number → number ≤ attempt → kept < attempt + 1
newest kept number attempt l m = omega arith

update_goes : (mode : Mode) (c : UpdatesCell) (names : Change) → IsCalm c
    → Goes (begun c.life.holding (Allowed.Mode mode) c.held (update_of c.service names (c.recorded.attempt + 1) true))
update_goes mode c names h =
    let n : ℕ = c.recorded.attempt + 1 in
    let there = there_by c h.possible h.on in
    let l : c.held.number < n =
    newest c.held.number c.recorded.number c.recorded.attempt h.possible.numbers.judged h.possible.numbers.latest in
    subst (λ (o : Option Answer). Goes (begun_by o (Allowed.Mode mode) c.held (update_of c.service names n true)))
    (sym (none_missing c.life.holding.row c.life.holding.work c.service there (has_its_service c h.possible there)))
    (lets Goes (not (n == 0) && nat_lt n c.held.number) (not (n == 0) && n == c.held.number) _ _ _
    (λ x. not_less n c.held.number l (less n c.held.number x))
    (λ x. not_equal n c.held.number l (equal n c.held.number x))
    (fresh_goes c.held.phase mode c.held c.service n names (asks_for c names) refl h.free))

-- the record once the answer is taken
near_done : (more : ℕ) (r : UpdateRecord) (aim : Aim) → r.attempt + 1 + more ≤ 18446744073709551615
    → (mode : Mode)
    → IsNear IsJudgedIn more
    (said_to (Some UpdateKind.Update) (platform.updates r aim (r.attempt + 1))
    (Said.Answer (empty (done_status mode))))
near_done more r aim l Sync = record { state = tt; room = l; out = refl }
near_done more r aim l Async = record { state = tt; room = l; out = refl }

update_ends : (mode : Mode) (c : UpdatesCell) (aim : Aim) (more : ℕ) (held : UpdateHolding) (b : UpdateBegun)
    → c.recorded.attempt + 1 + more ≤ 18446744073709551615 → GoesOn held.phase b
    → IsNear IsJudgedIn more (with_answer (worked_well mode
    (update_begun (with_sent c (updated_to c aim)) (c.recorded.attempt + 1) held b))).recorded
update_ends mode c aim more held (UpdateBegun.Answered answer) l g =
    let d : UpdatesCell =
    update_begun (with_sent c (updated_to c aim)) (c.recorded.attempt + 1) held (UpdateBegun.Answered answer) in
    subst (IsNear IsJudgedIn more)
    (sym (answer_taken (worked_well mode d) (updated_to c aim).0 UpdateKind.Update c.given (Said.Answer answer)
    (worked_recorded mode d) refl (worked_given mode d g.1)
    ∙ ap (λ (a : Answer). said_to (Some UpdateKind.Update) (updated_to c aim).0 (Said.Answer a)) g.0))
    (near_done more c.recorded aim l Sync)
update_ends mode c aim more held UpdateBegun.MaintenanceInfoConflict l g = absurd g
update_ends mode c aim more held (UpdateBegun.Work m to) l g =
    let d : UpdatesCell =
    update_begun (with_sent c (updated_to c aim)) (c.recorded.attempt + 1) held (UpdateBegun.Work m to) in
    subst (IsNear IsJudgedIn more)
    (sym (answer_taken (worked_well mode d) (updated_to c aim).0 UpdateKind.Update c.given
    (Said.Answer (empty (done_status mode))) (worked_recorded mode d) refl
    (worked_answers mode d (c.recorded.attempt + 1) g refl)))
    (near_done more c.recorded aim l mode)

due_in : (s : UpdateState) (aim : Aim) → s ≡ UpdateState.Updating aim → may_send s ≡ true
due_in (UpdateState.Updating a) aim e = refl
due_in s aim e = cc

update_exchanged : (mode : Mode) (c : UpdatesCell) (aim : Aim) (more : ℕ) → IsCalm c
    → c.recorded.state ≡ UpdateState.Updating aim → c.recorded.attempt + (more + 1) ≤ 18446744073709551615
    → IsNear IsJudgedIn more (exchanged mode c).recorded
update_exchanged mode c aim more h e l =
    let after : UpdateRecord × UpdateSent = updated_to c aim in
    let names : Change = named_parts c.recorded.settings aim.to aim.mixed in
    let b = begun c.life.holding (Allowed.Mode mode) c.held (update_of c.service names (c.recorded.attempt + 1) true) in
    subst (λ (d : UpdatesCell). IsNear IsJudgedIn more (with_answer (worked_well mode d)).recorded)
    (sym (ap (with_arrival mode) (sends_now c more after h l (due_in c.recorded.state aim e)
    (ap (λ (s : UpdateState). platform.sent_by s c.recorded) e)) ∙ arrives mode c after))
    (update_ends mode c aim more b.0 b.1 (one_room c.recorded.attempt more l) (update_goes mode c names h))

-- ---- a Poll

abbrev polled_for : UpdatesCell → UpdateRecord × UpdateSent
polled_for c = (
  platform.sends c.recorded UpdateKind.Poll (c.recorded.attempt + 1),
  record { request = UpdateRequest.Poll c.recorded.settings.plan; attempt = c.recorded.attempt + 1 },
)

-- what it answers, once nothing is under way
poll_rests : (p : UpdatePhase) (more : ℕ) (r : UpdateRecord) (aim : Aim) → is_under_way p ≡ false
    → r.attempt + 1 + more ≤ 18446744073709551615
    → IsNear IsSettledIn more
    (platform.rests (platform.sends r UpdateKind.Poll (r.attempt + 1))
    (platform.after_answer (UpdateState.Polling aim) (Some UpdateKind.Poll) r.settings (last_operation (last_state p))))
poll_rests UpdatePhase.Settled more r aim i l = record { state = tt; room = l; out = refl }
poll_rests UpdatePhase.Failed more r aim i l = record { state = tt; room = l; out = refl }
poll_rests (UpdatePhase.Pending to) more r aim i l = cc
poll_rests (UpdatePhase.Updating to) more r aim i l = cc
poll_rests (UpdatePhase.Mending to) more r aim i l = cc

poll_said : (p : UpdatePhase) (more : ℕ) (r : UpdateRecord) (aim : Aim) → is_under_way p ≡ false
    → r.state ≡ UpdateState.Polling aim → r.attempt + 1 + more ≤ 18446744073709551615
    → IsNear IsSettledIn more
    (said_to (Some UpdateKind.Poll) (platform.sends r UpdateKind.Poll (r.attempt + 1))
    (Said.Answer (last_operation (last_state p))))
poll_said p more r aim i e l =
    subst (λ (s : UpdateState). IsNear IsSettledIn more
    (platform.rests (platform.sends r UpdateKind.Poll (r.attempt + 1))
    (platform.after_answer s (Some UpdateKind.Poll) r.settings (last_operation (last_state p))))) (sym e)
    (poll_rests p more r aim i l)

not_pending : (p : UpdatePhase) → is_under_way p ≡ false → is_pending p ≡ false
not_pending UpdatePhase.Settled i = refl
not_pending UpdatePhase.Failed i = refl
not_pending (UpdatePhase.Updating to) i = refl
not_pending (UpdatePhase.Pending to) i = cc
not_pending (UpdatePhase.Mending to) i = cc

poll_ends : (mode : Mode) (c : UpdatesCell) (aim : Aim) (more : ℕ) → IsCalm c
    → c.recorded.state ≡ UpdateState.Polling aim → c.recorded.attempt + 1 + more ≤ 18446744073709551615
    → IsNear IsSettledIn more (with_answer (worked_well mode
    (with_given (with_sent c (polled_for c)) (c.recorded.attempt + 1)
    (Said.Answer (last_operation (last_state c.held.phase)))))).recorded
poll_ends mode c aim more h e l =
    let said : Said = Said.Answer (last_operation (last_state c.held.phase)) in
    let d : UpdatesCell = with_given (with_sent c (polled_for c)) (c.recorded.attempt + 1) said in
    subst (IsNear IsSettledIn more)
    (sym (answer_taken (worked_well mode d) (polled_for c).0 UpdateKind.Poll c.given said (worked_recorded mode d) refl
    (worked_given mode d (not_pending c.held.phase h.free))))
    (poll_said c.held.phase more c.recorded aim h.free e l)

polls_in : (s : UpdateState) (aim : Aim) → s ≡ UpdateState.Polling aim → may_send s ≡ true
polls_in (UpdateState.Polling a) aim e = refl
polls_in s aim e = cc

poll_exchanged : (mode : Mode) (c : UpdatesCell) (aim : Aim) (more : ℕ) → IsCalm c
    → c.recorded.state ≡ UpdateState.Polling aim → c.recorded.attempt + (more + 1) ≤ 18446744073709551615
    → IsNear IsSettledIn more (exchanged mode c).recorded
poll_exchanged mode c aim more h e l =
    let after : UpdateRecord × UpdateSent = polled_for c in
    let answer : Answer = last_operation (last_state c.held.phase) in
    subst (λ (d : UpdatesCell). IsNear IsSettledIn more (with_answer (worked_well mode d)).recorded)
    (sym (ap (with_arrival mode) (sends_now c more after h l (polls_in c.recorded.state aim e)
    (ap (λ (s : UpdateState). platform.sent_by s c.recorded) e)) ∙ arrives mode c after
    ∙ ap (poll_answered (with_sent c after) (c.recorded.attempt + 1))
    (if_true (is_available c.life.holding) (Some answer) None (there_by c h.possible h.on))))
    (poll_ends mode c aim more h e (one_room c.recorded.attempt more l))

-- ---- nothing is due

not_sent : (c : UpdatesCell) → may_send c.recorded.state ≡ false → updates_step c UpdatesEvent.Send ≡ c
not_sent c n =
    if_false (may_ask c (may_send c.recorded.state)) (sends c (platform.sent c.recorded)) c
    (third_false (is_none c.recorded.out) (is_ready c.life) (may_send c.recorded.state)
    (nat_lt c.recorded.attempt 18446744073709551615) n)

stays : (mode : Mode) (c : UpdatesCell) → IsCalm c → may_send c.recorded.state ≡ false
    → (exchanged mode c).recorded ≡ c.recorded
stays mode c h n =
    let w : UpdatesCell = worked_well mode (with_arrival mode c) in
    let e : w.recorded ≡ c.recorded =
    worked_recorded mode (with_arrival mode c) ∙ arrive_recorded c (slice_get c.sent (length c.sent - 1)) mode in
    ap (λ (d : UpdatesCell). (with_answer (worked_well mode (with_arrival mode d))).recorded) (not_sent c n)
    ∙ not_taken w (slice_get w.given (length w.given - 1)) (ap (λ (r : UpdateRecord). r.out) e ∙ h.out) ∙ e

rests : (near : UpdateState → Type 0) (mode : Mode) (c : UpdatesCell) (more : ℕ) → IsCalm c
    → may_send c.recorded.state ≡ false → near c.recorded.state
    → c.recorded.attempt + (more + 1) ≤ 18446744073709551615 → IsNear near more (exchanged mode c).recorded
rests near mode c more h n k l =
    subst (IsNear near more) (sym (stays mode c h n))
    (record { state = k; room = less_room c.recorded.attempt more l; out = h.out })

-- ---- a round

settled_too : (s : UpdateState) → IsSettledIn s → IsJudgedIn s
settled_too (UpdateState.Updating aim) k = absurd k
settled_too UpdateState.Settled k = tt
settled_too (UpdateState.Polling aim) k = tt
settled_too (UpdateState.Unsure aim) k = tt

near_too : (more : ℕ) (r : UpdateRecord) → IsNear IsSettledIn more r → IsNear IsJudgedIn more r
near_too more r k = record { state = settled_too r.state k.state; room = k.room; out = k.out }

first : (mode : Mode) (c : UpdatesCell) (more : ℕ) (s : UpdateState) → c.recorded.state ≡ s → IsCalm c
    → c.recorded.attempt + (more + 1) ≤ 18446744073709551615 → IsNear IsJudgedIn more (exchanged mode c).recorded
first mode c more (UpdateState.Updating aim) e h l = update_exchanged mode c aim more h e l
first mode c more (UpdateState.Polling aim) e h l =
    near_too more (exchanged mode c).recorded (poll_exchanged mode c aim more h e l)
first mode c more UpdateState.Settled e h l =
    rests IsJudgedIn mode c more h (ap may_send e) (subst IsJudgedIn (sym e) tt) l
first mode c more (UpdateState.Unsure aim) e h l =
    rests IsJudgedIn mode c more h (ap may_send e) (subst IsJudgedIn (sym e) tt) l

second : (mode : Mode) (c : UpdatesCell) (more : ℕ) (s : UpdateState) → c.recorded.state ≡ s → IsCalm c → IsJudgedIn s
    → c.recorded.attempt + (more + 1) ≤ 18446744073709551615 → IsNear IsSettledIn more (exchanged mode c).recorded
second mode c more (UpdateState.Updating aim) e h k l = absurd k
second mode c more (UpdateState.Polling aim) e h k l = poll_exchanged mode c aim more h e l
second mode c more UpdateState.Settled e h k l =
    rests IsSettledIn mode c more h (ap may_send e) (subst IsSettledIn (sym e) tt) l
second mode c more (UpdateState.Unsure aim) e h k l =
    rests IsSettledIn mode c more h (ap may_send e) (subst IsSettledIn (sym e) tt) l

room_at : (n m more : ℕ) → m ≡ n → n + (more + 1) ≤ 18446744073709551615 → m + (more + 1) ≤ 18446744073709551615
room_at n m more e l = omega arith

first_round : (mode : Mode) (c : UpdatesCell) (more : ℕ) → IsPossible c → is_ready c.life ≡ true
    → c.recorded.attempt + (more + 1) ≤ 18446744073709551615 → IsNear IsJudgedIn more (after_round mode c).recorded
first_round mode c more h on l =
    first mode (calmed mode c) more (calmed mode c).recorded.state refl (calm mode c h on)
    (room_at c.recorded.attempt (calmed mode c).recorded.attempt more (calmed_attempt mode c) l)

second_round : (mode : Mode) (c : UpdatesCell) (more : ℕ) → IsPossible c → is_ready c.life ≡ true
    → IsJudgedIn c.recorded.state → c.recorded.attempt + (more + 1) ≤ 18446744073709551615
    → IsNear IsSettledIn more (after_round mode c).recorded
second_round mode c more h on k l =
    second mode (calmed mode c) more (calmed mode c).recorded.state refl (calm mode c h on)
    (subst IsJudgedIn (sym (calmed_state mode c)) k)
    (room_at c.recorded.attempt (calmed mode c).recorded.attempt more (calmed_attempt mode c) l)

kept_round : (mode : Mode) (c : UpdatesCell) → IsPossible c → IsPossible (after_round mode c)
kept_round mode c h =
    let sent : UpdatesCell = updates_step (calmed mode c) UpdatesEvent.Send in
    let last : UpdatesCell = worked_well mode (with_arrival mode sent) in
    kept last (UpdatesEvent.Take (length last.given - 1))
    (kept_worked mode (with_arrival mode sent)
    (kept sent (UpdatesEvent.Arrive (length sent.sent - 1) (Allowed.Mode mode) true)
    (kept (calmed mode c) UpdatesEvent.Send (kept_calmed mode c h))))

round_life : (mode : Mode) (c : UpdatesCell) → (after_round mode c).life ≡ c.life
round_life mode c =
    let sent : UpdatesCell = updates_step (calmed mode c) UpdatesEvent.Send in
    let last : UpdatesCell = worked_well mode (with_arrival mode sent) in
    life_of last (UpdatesEvent.Take (length last.given - 1)) refl
    ∙ worked_life mode (with_arrival mode sent)
    ∙ life_of sent (UpdatesEvent.Arrive (length sent.sent - 1) (Allowed.Mode mode) true) refl
    ∙ life_of (calmed mode c) UpdatesEvent.Send refl ∙ calmed_life mode c

pub two_rounds_settle : TwoRoundsSettle
two_rounds_settle mode c h on l =
    let near = first_round mode c 1 h on l in
    let last =
    second_round mode (after_round mode c) 0 (kept_round mode c h) (ap is_ready (round_life mode c) ∙ on) near.state
    near.room in
    record { state = last.state; out = last.out }

pub one_round_settles : OneRoundSettles
one_round_settles mode c h on k l =
    let last = second_round mode c 0 h on k l in record { state = last.state; out = last.out }
