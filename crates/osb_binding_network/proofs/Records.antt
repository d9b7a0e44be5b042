-- What an event makes of the platform's record, and of the answers that were given.
use Rattle.std.proofs.Common.{◌≡◌, ℕ, zero, suc, Bool, true, false, refl, ap, ◌∙◌, ◌⊎◌, ⊎_elim, inl, inr, ◌<◌, arith}
use Rattle.std.specs.Prelude.{Option, Some, None, IfSome, List, [], ◌∷◌, ◌++◌, length, slice_get, ◌&&◌, ◌||◌, ◌==◌}
use Rattle.std.specs.Prelude.{if◌then◌else◌, is_some, is_none}
use Rattle.osb_message.specs.declared.messages.Answer.{Answer}
use Rattle.osb_message.specs.declared.messages.Body.{Body}
use Rattle.osb_message.specs.declared.messages.Kind.{Kind}
use Rattle.osb_message.specs.declared.messages.Kind.TheVariants.{Provision, Poll, Deprovision}
use Rattle.osb_message.specs.declared.messages.LastState.TheVariants.{Succeeded, Failed}
use Rattle.osb_message.specs.declared.messages.Request.{Request}
use Rattle.osb_instance.specs.declared.outcome.WorkOutcome.{WorkOutcome}
use Rattle.osb_platform.specs.declared.state.State.{State}
use Rattle.osb_platform.specs.declared.state.State.TheVariants.{Wanted, Polling, Ready, Cleaning, CleaningPolling, Gone, Unsettled}
use Rattle.osb_platform.specs.PlatformRow.{in_state}
use Rattle.osb_platform.specs.State.{due, after_timeout, is_polling, is_removable, state_after, state_after_operation}
use Rattle.osb_platform.specs.State.{says_deleted, says_started, leaves_open}
use Rattle.osb_platform.specs.Statuses.{is_within}
use Rattle.osb_instance.specs.declared.record.Sent.{Sent}
use Rattle.osb_instance.specs.declared.work.Begun.{Begun}
use Rattle.osb_instance.specs.declared.work.Begun.TheVariants.{Answered}
use Rattle.osb_instance.specs.Begin.{finished_held, given_up}
use Rattle.osb_instance.specs.Held.{Held}
use Rattle.osb_instance.specs.Recorded.{Recorded, is_deleting, is_ready_in}
use Rattle.osb_network.specs.declared.event.Event.{Event}
use Rattle.osb_network.specs.declared.event.Given.{Given}
use Rattle.osb_network.specs.Cell.{Cell, IsPossible, IsPossibleWith}
use Rattle.osb_network.specs.Possible.{IsBefore, sent_in}
use Rattle.osb_network.specs.Steps.{cell_step, create, send, send_due, clean_up, give_up, take, take_out, take_given}
use Rattle.osb_network.specs.Steps.{take_garbled, take_gateway, unreadable, with_state, sent_as, can_finish, end_unknown}
use Rattle.osb_network.specs.Steps.{next_recorded, has_number, arrived, arrive, put_off, ended, end}
use Rattle.osb_network.specs.Truth.{is_under_way, is_true_end}
use Rattle.osb_network.proofs.Kept.{if_recorded, arrive_recorded, put_off_recorded, end_recorded}
use Rattle.osb_binding_network.proofs.Together.{both}

-- ---- the record

abbrev pub is_take : Event → Bool
is_take (Event.Take at) = true
is_take e = false

-- ordered
pub record IsOrdered (c a : Cell) : Type 0 where
  pub new : Recorded
  pub was : c.recorded ≡ None
  pub now : a.recorded ≡ Some new
  pub wanted : is_ready_in new.row.state ≡ false

-- the next request is sent
pub record IsSent (c a : Cell) : Type 0 where
  pub recorded : Recorded
  pub kind : Kind
  pub was : c.recorded ≡ Some recorded
  pub now : a.recorded ≡ Some (next_recorded recorded kind)

-- in a state, with nothing out; it becomes ready by an answer alone
pub record IsMoved (c : Cell) (e : Event) (a : Cell) : Type 0 where
  pub recorded : Recorded
  pub state : State
  pub was : c.recorded ≡ Some recorded
  pub now : a.recorded ≡ Some (record { row = in_state state recorded.row; attempt = recorded.attempt })
  pub back : IsBefore state → IsBefore recorded.row.state
  pub ready : is_take e ≡ false → is_ready_in state ≡ true → is_ready_in recorded.row.state ≡ true

abbrev pub Changes : Cell → Event → Cell → Type 0
Changes c e a = (a.recorded ≡ c.recorded) ⊎ (IsOrdered c a ⊎ (IsSent c a ⊎ IsMoved c e a))

if_changes : (t : Bool) (e : Event) (a c : Cell) → Changes c e a → Changes c e (if t then a else c)
if_changes true e a c h = h
if_changes false e a c h = inl refl

moved : (c : Cell) (rec : Recorded) (s : State) (e : Event) → c.recorded ≡ Some rec → (IsBefore s → IsBefore rec.row.state)
    → (is_take e ≡ false → is_ready_in s ≡ true → is_ready_in rec.row.state ≡ true) → Changes c e (with_state c rec s)
moved c rec s e was back ready =
    inr (inr (inr (record { recorded = rec; state = s; was = was; now = refl; back = back; ready = ready })))

create_changes : (c : Cell) (r : Option Recorded) → c.recorded ≡ r → Changes c Event.Create (create c r)
create_changes c None was = inr (inl (record { new = _; was = was; now = refl; wanted = refl }))
create_changes c (Some rec) was = inl refl

send_due_changes : (c : Cell) (rec : Recorded) (out next : Option Kind) → c.recorded ≡ Some rec
    → Changes c Event.Send (send_due c rec out next)
send_due_changes c rec None (Some k) was =
    if_changes (has_number rec) Event.Send _ c
    (inr (inr (inl (record { recorded = rec; kind = k; was = was; now = refl }))))
send_due_changes c rec None None was = inl refl
send_due_changes c rec (Some j) next was = inl refl

send_changes : (c : Cell) (r : Option Recorded) → c.recorded ≡ r → Changes c Event.Send (send c r)
send_changes c None was = inl refl
send_changes c (Some rec) was = send_due_changes c rec rec.row.out (due rec.row.state) was

clean_up_changes : (states : State → Bool) (e : Event) (c : Cell) (r : Option Recorded) → c.recorded ≡ r
    → Changes c e (clean_up states c r)
clean_up_changes states e c None was = inl refl
clean_up_changes states e c (Some rec) was =
    if_changes (is_none rec.row.out && states rec.row.state) e (with_state c rec Cleaning) c
    (moved c rec Cleaning e was (λ b. absurd b) (λ t r. cc))

timeout_back : (s : State) → IsBefore (after_timeout s) → IsBefore s
timeout_back Wanted b = tt
timeout_back s b = b

timeout_ready : (s : State) → is_ready_in (after_timeout s) ≡ true → is_ready_in s ≡ true
timeout_ready Wanted e = cc
timeout_ready s e = e

give_up_changes : (c : Cell) (r : Option Recorded) → c.recorded ≡ r → Changes c Event.Timeout (give_up c r)
give_up_changes c None was = inl refl
give_up_changes c (Some rec) was =
    if_changes (is_some rec.row.out) Event.Timeout (with_state c rec (after_timeout rec.row.state)) c
    (moved c rec _ Event.Timeout was (timeout_back rec.row.state) (λ t r. timeout_ready rec.row.state r))

-- ---- an answer

if_late : (x : Bool) (n m : State) → (IsBefore n → ⊥) → (IsBefore m → ⊥) → IsBefore (if x then n else m) → ⊥
if_late true n m f g b = f b
if_late false n m f g b = g b

operation_late : (b : Body) → IsBefore (state_after_operation CleaningPolling Gone b) → ⊥
operation_late (Body.State Succeeded) h = h
operation_late (Body.State Failed) h = h
operation_late b h = h

answer_back : (s : State) (k : Kind) (a : Answer) → sent_in s ≡ Some k → IsBefore (state_after s k a) → IsBefore s
answer_back Wanted k a is b = tt
answer_back Polling k a is b = tt
answer_back Ready k a is b = tt
answer_back Unsettled k a is b = tt
answer_back Cleaning Deprovision a is b =
    if_late (says_deleted a) Gone (if says_started a then CleaningPolling else Cleaning) (λ h. h)
    (if_late (says_started a) CleaningPolling Cleaning (λ h. h) (λ h. h)) b
answer_back CleaningPolling Poll a is b =
    if_late (a.status == 200) (state_after_operation CleaningPolling Gone a.body)
    (if a.status == 410 then Gone else CleaningPolling) (operation_late a.body)
    (if_late (a.status == 410) Gone CleaningPolling (λ h. h) (λ h. h)) b
answer_back s k a is b = cc

never : (x : Bool) (n m : State) → is_ready_in n ≡ false → is_ready_in m ≡ false → is_ready_in (if x then n else m) ≡ false
never true n m f g = f
never false n m f g = g

never_made : (x : Bool) (m : State) → is_ready_in m ≡ false → is_ready_in (if x && false then Ready else m) ≡ false
never_made true m f = f
never_made false m f = f

-- a body that can't be read makes nothing ready
unread_ready : (s : State) (k : Kind) (n : ℕ) → is_ready_in (state_after s k (unreadable n)) ≡ true
    → is_ready_in s ≡ true
unread_ready s Provision n e =
    absurd (both _ e (never_made (n == 200 || n == 201) _
    (never (says_started (unreadable n)) _ _ refl
    (never (leaves_open (unreadable n)) _ _ refl (never (is_within 400 499 n) Gone Cleaning refl refl)))))
unread_ready s Deprovision n e =
    absurd (both _ e (never (says_deleted (unreadable n)) _ _ refl
    (never (says_started (unreadable n)) CleaningPolling Cleaning refl refl)))
unread_ready Polling Poll n e = absurd (both _ e (never (n == 200) Polling Polling refl refl))
unread_ready CleaningPolling Poll n e =
    absurd (both _ e (never (n == 200) CleaningPolling _ refl (never (n == 410) Gone CleaningPolling refl refl)))
unread_ready s Poll n e = e

take_out_changes : (c : Cell) (rec : Recorded) (out : Option Kind) (a : Answer) (e : Event) → c.recorded ≡ Some rec
    → IfSome out (λ k. sent_in rec.row.state ≡ Some k)
    → (is_take e ≡ false → (k : Kind) → is_ready_in (state_after rec.row.state k a) ≡ true
    → is_ready_in rec.row.state ≡ true)
    → Changes c e (take_out c rec out a)
take_out_changes c rec None a e was is ready = inl refl
take_out_changes c rec (Some k) a e was is ready =
    moved c rec _ e was (answer_back rec.row.state k a is) (λ t. ready t k)

take_changes : (c : Cell) (r : Option Recorded) (n : ℕ) (a : Answer) (e : Event) → c.recorded ≡ r → IsPossibleWith c r
    → (is_take e ≡ false → (s : State) (k : Kind) → is_ready_in (state_after s k a) ≡ true → is_ready_in s ≡ true)
    → Changes c e (take c r n a)
take_changes c None n a e was h ready = inl refl
take_changes c (Some rec) n a e was h ready =
    if_changes (n == rec.attempt) e (take_out c rec rec.row.out a) c
    (take_out_changes c rec rec.row.out a e was h.parts.is_out (λ t. ready t rec.row.state))

take_given_changes : (c : Cell) (g : Option Given) (at : ℕ) → IsPossible c → Changes c (Event.Take at) (take_given c g)
take_given_changes c None at h = inl refl
take_given_changes c (Some g) at h = take_changes c c.recorded g.attempt g.answer (Event.Take at) refl h (λ t. cc)

take_garbled_changes : (c : Cell) (g : Option Given) (at : ℕ) → IsPossible c
    → Changes c (Event.TakeGarbled at) (take_garbled c g)
take_garbled_changes c None at h = inl refl
take_garbled_changes c (Some g) at h =
    take_changes c c.recorded g.attempt (unreadable g.answer.status) (Event.TakeGarbled at) refl h
    (λ t s k. unread_ready s k g.answer.status)

take_gateway_changes : (c : Cell) (r : Option Recorded) (n : ℕ) → c.recorded ≡ r → IsPossibleWith c r
    → Changes c (Event.TakeGateway n) (take_gateway c r n)
take_gateway_changes c None n was h = inl refl
take_gateway_changes c (Some rec) n was h =
    if_changes (is_within 500 599 n) (Event.TakeGateway n) (take_out c rec rec.row.out (unreadable n)) c
    (take_out_changes c rec rec.row.out (unreadable n) (Event.TakeGateway n) was h.parts.is_out
    (λ t k. unread_ready rec.row.state k n))

unknown_same : (c : Cell) (w : Option ℕ) → (end_unknown c w).recorded ≡ c.recorded
unknown_same c None = refl
unknown_same c (Some n) = refl

pub changes : (c : Cell) (e : Event) → IsPossible c → Changes c e (cell_step c e)
changes c Event.Create h = create_changes c c.recorded refl
changes c Event.Send h = send_changes c c.recorded refl
changes c Event.Expire h = clean_up_changes is_polling Event.Expire c c.recorded refl
changes c Event.Retry h = clean_up_changes is_deleting Event.Retry c c.recorded refl
changes c Event.Remove h = clean_up_changes is_removable Event.Remove c c.recorded refl
changes c Event.Timeout h = give_up_changes c c.recorded refl
changes c (Event.Arrive n) h = inl (arrive_recorded c (sent_as c.sent n))
changes c (Event.PutOff n) h = inl (put_off_recorded c (sent_as c.sent n))
changes c (Event.Take at) h = take_given_changes c (slice_get c.given at) at h
changes c (Event.TakeGarbled at) h = take_garbled_changes c (slice_get c.given at) at h
changes c (Event.TakeGateway n) h = take_gateway_changes c c.recorded n refl h
changes c (Event.End oc) h = inl (end_recorded c c.held.work oc)
changes c Event.EndUnknown h = inl (unknown_same c c.worker)
changes c (Event.Finish ok) h = inl (if_recorded (can_finish c ok) (record c { held = finished_held c.held ok }) c refl)
changes c (Event.Work u) h = inl (if_recorded (is_under_way c.held) (record c { resource = u }) c refl)
changes c Event.GiveUpWaiting h =
    inl (if_recorded c.held.waiting (record c { held = given_up c.held }) c refl)
changes c Event.CrashBroker h = inl refl
changes c Event.CrashPlatform h = inl refl

-- ---- the answers that were given

-- no answer more, or one
abbrev pub Grows : Cell → Cell → Type 0
Grows c a = (a.given ≡ c.given) ⊎ ((g : Given) × (a.given ≡ c.given ++ g ∷ []))

if_given : (t : Bool) (a c : Cell) → a.given ≡ c.given → (if t then a else c).given ≡ c.given
if_given true a c e = e
if_given false a c e = refl

if_grows : (t : Bool) (a c : Cell) → Grows c a → Grows c (if t then a else c)
if_grows true a c e = e
if_grows false a c e = inl refl

create_given : (c : Cell) (r : Option Recorded) → (create c r).given ≡ c.given
create_given c None = refl
create_given c (Some rec) = refl

send_due_given : (c : Cell) (rec : Recorded) (out next : Option Kind) → (send_due c rec out next).given ≡ c.given
send_due_given c rec None (Some k) = if_given (has_number rec) _ c refl
send_due_given c rec None None = refl
send_due_given c rec (Some j) next = refl

send_given : (c : Cell) (r : Option Recorded) → (send c r).given ≡ c.given
send_given c None = refl
send_given c (Some rec) = send_due_given c rec rec.row.out (due rec.row.state)

clean_up_given : (states : State → Bool) (c : Cell) (r : Option Recorded) → (clean_up states c r).given ≡ c.given
clean_up_given states c None = refl
clean_up_given states c (Some rec) = if_given (is_none rec.row.out && states rec.row.state) _ c refl

give_up_given : (c : Cell) (r : Option Recorded) → (give_up c r).given ≡ c.given
give_up_given c None = refl
give_up_given c (Some rec) = if_given (is_some rec.row.out) _ c refl

take_out_given : (c : Cell) (rec : Recorded) (out : Option Kind) (a : Answer) → (take_out c rec out a).given ≡ c.given
take_out_given c rec None a = refl
take_out_given c rec (Some k) a = refl

take_given_of : (c : Cell) (r : Option Recorded) (n : ℕ) (a : Answer) → (take c r n a).given ≡ c.given
take_given_of c None n a = refl
take_given_of c (Some rec) n a =
    if_given (n == rec.attempt) (take_out c rec rec.row.out a) c (take_out_given c rec rec.row.out a)

take_given_given : (c : Cell) (g : Option Given) → (take_given c g).given ≡ c.given
take_given_given c None = refl
take_given_given c (Some g) = take_given_of c c.recorded g.attempt g.answer

take_garbled_given : (c : Cell) (g : Option Given) → (take_garbled c g).given ≡ c.given
take_garbled_given c None = refl
take_garbled_given c (Some g) = take_given_of c c.recorded g.attempt (unreadable g.answer.status)

take_gateway_given : (c : Cell) (r : Option Recorded) (n : ℕ) → (take_gateway c r n).given ≡ c.given
take_gateway_given c None n = refl
take_gateway_given c (Some rec) n =
    if_given (is_within 500 599 n) (take_out c rec rec.row.out (unreadable n)) c
    (take_out_given c rec rec.row.out (unreadable n))

arrived_grows : (c : Cell) (x : Sent) (g : Held) (b : Begun) → Grows c (arrived c x g b)
arrived_grows c x g (Answered a) = inr (_, refl)
arrived_grows c x g (Begun.Work w) = inl refl

arrive_grows : (c : Cell) (x : Option Sent) → Grows c (arrive c x)
arrive_grows c None = inl refl
arrive_grows c (Some x) = arrived_grows c x _ _

put_off_grows : (c : Cell) (x : Option Sent) → Grows c (put_off c x)
put_off_grows c None = inl refl
put_off_grows c (Some x) = inr (_, refl)

ended_grows : (c : Cell) (g : Held) (a : Answer) (w : Option ℕ) → Grows c (ended c g a w)
ended_grows c g a None = inl refl
ended_grows c g a (Some n) = inr (_, refl)

end_grows : (c : Cell) (q : Option Request) (oc : WorkOutcome) → Grows c (end c q oc)
end_grows c None oc = inl refl
end_grows c (Some q) oc =
    if_grows (is_true_end c.order.mode q.kind oc c.resource) _ c (ended_grows c _ _ c.worker)

unknown_grows : (c : Cell) (w : Option ℕ) → Grows c (end_unknown c w)
unknown_grows c None = inl refl
unknown_grows c (Some n) = inr (_, refl)

pub grows : (c : Cell) (e : Event) → Grows c (cell_step c e)
grows c Event.Create = inl (create_given c c.recorded)
grows c Event.Send = inl (send_given c c.recorded)
grows c Event.Expire = inl (clean_up_given is_polling c c.recorded)
grows c Event.Retry = inl (clean_up_given is_deleting c c.recorded)
grows c Event.Remove = inl (clean_up_given is_removable c c.recorded)
grows c Event.Timeout = inl (give_up_given c c.recorded)
grows c (Event.Arrive n) = arrive_grows c (sent_as c.sent n)
grows c (Event.PutOff n) = put_off_grows c (sent_as c.sent n)
grows c (Event.Take at) = inl (take_given_given c (slice_get c.given at))
grows c (Event.TakeGarbled at) = inl (take_garbled_given c (slice_get c.given at))
grows c (Event.TakeGateway n) = inl (take_gateway_given c c.recorded n)
grows c (Event.End oc) = end_grows c c.held.work oc
grows c Event.EndUnknown = unknown_grows c c.worker
grows c (Event.Finish ok) = if_grows (can_finish c ok) (record c { held = finished_held c.held ok }) c (inl refl)
grows c Event.GiveUpWaiting = if_grows c.held.waiting (record c { held = given_up c.held }) c (inl refl)
grows c (Event.Work u) = if_grows (is_under_way c.held) (record c { resource = u }) c (inl refl)
grows c Event.CrashBroker = inl refl
grows c Event.CrashPlatform = inl refl

pub get_pushed : {X : Type 0} (xs : List X) (x : X) (at : ℕ) → at < length xs
    → slice_get (xs ++ x ∷ []) at ≡ slice_get xs at
get_pushed [] x at l = absurd (omega arith)
get_pushed (y ∷ ys) x zero l = refl
get_pushed (y ∷ ys) x (suc at) l = get_pushed ys x at (omega arith)

-- what was given stays
pub keeps_given : (c : Cell) (e : Event) (at : ℕ) → at < length c.given
    → slice_get (cell_step c e).given at ≡ slice_get c.given at
keeps_given c e at l =
    ⊎_elim (λ same. ap (λ zs. slice_get zs at) same)
    (λ more. ap (λ zs. slice_get zs at) more.1 ∙ get_pushed c.given more.0 at l) (grows c e)
