-- What a transaction writes is what the network's platform records after its events.
use Rattle.std.proofs.Common.{◌≡◌, ℕ, ◌+◌, Bool, true, false, refl, sym, ap, ◌∙◌, List, [], ◌∷◌, ◌++◌}
use Rattle.std.specs.Prelude.{Option, Some, None, IsSomeAnd, ◌==◌, ◌&&◌, if◌then◌else◌, is_none, is_some, slice_get}
use Rattle.osb_message.specs.declared.messages.Answer.{Answer}
use Rattle.osb_message.specs.declared.messages.Kind.{Kind}
use Rattle.osb_platform.specs.declared.state.State.{State}
use Rattle.osb_platform.specs.declared.state.State.TheVariants.{Cleaning}
use Rattle.osb_platform.specs.State.{after_timeout, due, is_polling, is_removable}
use Rattle.osb_platform.specs.PlatformRow.{request_for}
use Rattle.osb_platform.specs.Statuses.{is_within}
use Rattle.osb_instance.specs.Recorded.{Recorded, is_deleting}
use Rattle.osb_network.specs.Cell.{Cell}
use Rattle.osb_network.specs.Steps.{cell_step, cell_steps, clean_up, create, give_up, has_number, next_recorded, send}
use Rattle.osb_network.specs.Steps.{send_due, take as take_cell, take_garbled, take_gateway, take_given, take_out, unreadable}
use Rattle.osb_network.specs.Steps.{with_sent, with_state as cell_in}
use Rattle.osb_network.specs.declared.event.Event.{Event}
use Rattle.osb_network.specs.declared.event.Given.{Given}
use Rattle.osb_platform_driver.specs.Driver.{brought_up, claimed, cleaned, created_if, resting, resume, sent_by, sent_if, take, taken_from}
use Rattle.osb_platform_driver.specs.Driver.{taken_out, with_state}
use Rattle.osb_platform_driver.specs.declared.driver.CleanUp.{CleanUp}
use Rattle.osb_platform_driver.specs.declared.driver.Wishes.{Wishes}
use Rattle.osb_platform_driver.specs.declared.world.Source.{Source}
use Rattle.osb_platform_driver.specs.World.{IsFrom, IsGarbledOf, claim_events, claim_of, clean_up_events, create_events}
use Rattle.osb_platform_driver.specs.World.{resume_events, send_events, take_events}

pub steps_on : (c : Cell) (xs ys : List Event) → cell_steps c (xs ++ ys) ≡ cell_steps (cell_steps c xs) ys
steps_on c [] ys = refl
steps_on c (x ∷ xs) ys = steps_on (cell_step c x) xs ys

state_if : (b : Bool) (c : Cell) (r : Recorded) (s : State) → c.recorded ≡ Some r
    → (if b then cell_in c r s else c).recorded ≡ Some (if b then with_state s r else r)
state_if true c r s e = refl
state_if false c r s e = e

-- ---- the first transaction

pub up_is : (c : Cell) (r : Recorded) → c.recorded ≡ Some r → (cell_step c Event.Timeout).recorded ≡ Some (brought_up r)
up_is c r e =
    ap (λ (x : Option Recorded). (give_up c x).recorded) e
    ∙ state_if (is_some r.row.out) c r (after_timeout r.row.state) e

pub cleaned_is : (c : Cell) (w : Option CleanUp) (r : Recorded) → c.recorded ≡ Some r
    → (cell_steps c (clean_up_events w)).recorded ≡ Some (cleaned w r)
cleaned_is c None r e = e
cleaned_is c (Some CleanUp.Expire) r e =
    ap (λ (x : Option Recorded). (clean_up is_polling c x).recorded) e
    ∙ state_if (is_none r.row.out && is_polling r.row.state) c r Cleaning e
cleaned_is c (Some CleanUp.Retry) r e =
    ap (λ (x : Option Recorded). (clean_up is_deleting c x).recorded) e
    ∙ state_if (is_none r.row.out && is_deleting r.row.state) c r Cleaning e
cleaned_is c (Some CleanUp.Remove) r e =
    ap (λ (x : Option Recorded). (clean_up is_removable c x).recorded) e
    ∙ state_if (is_none r.row.out && is_removable r.row.state) c r Cleaning e

number_is : (b : Bool) (c : Cell) (id : ℕ) (r : Recorded) (kind : Kind) → has_number r ≡ b → c.recorded ≡ Some r
    → (send_due c r None (Some kind)).recorded ≡ (sent_by id r None (Some kind)).recorded
number_is true c id r kind b e =
    ap (λ (x : Bool). (if x then with_sent c (next_recorded r kind) kind else c).recorded) b
    ∙ sym (ap (λ (x : Bool). (if x
    then claimed (next_recorded r kind) (record { request = request_for id r.row kind; attempt = r.attempt + 1 }) else resting (Some r)).recorded) b)
number_is false c id r kind b e =
    ap (λ (x : Bool). (if x then with_sent c (next_recorded r kind) kind else c).recorded) b ∙ e
    ∙ sym (ap (λ (x : Bool). (if x
    then claimed (next_recorded r kind) (record { request = request_for id r.row kind; attempt = r.attempt + 1 }) else resting (Some r)).recorded) b)

due_is : (c : Cell) (id : ℕ) (r : Recorded) (out next : Option Kind) → c.recorded ≡ Some r
    → (send_due c r out next).recorded ≡ (sent_by id r out next).recorded
due_is c id r None None e = e
due_is c id r None (Some kind) e = number_is (has_number r) c id r kind refl e
due_is c id r (Some k) None e = e
due_is c id r (Some k) (Some kind) e = e

send_is : (c : Cell) (id : ℕ) (s : Bool) (r : Recorded) → c.recorded ≡ Some r
    → (cell_steps c (send_events s)).recorded ≡ (sent_if s id r).recorded
send_is c id false r e = e
send_is c id true r e =
    ap (λ (x : Option Recorded). (send c x).recorded) e ∙ due_is c id r r.row.out (due r.row.state) e

created_is : (c : Cell) (b : Bool) → c.recorded ≡ None
    → (created_if b c.order.id c.order.service c.order.plan c.order.accepts).recorded
    ≡ (cell_steps c (create_events b)).recorded
created_is c false e = sym e
created_is c true e = sym (ap (λ (x : Option Recorded). (create c x).recorded) e)

pub claim_is : (c : Cell) (w : Wishes) (x : Option Recorded) → c.recorded ≡ x
    → (claim_of c.order w x).recorded ≡ (cell_steps c (claim_events w x)).recorded
claim_is c w None e = created_is c w.create e
claim_is c w (Some r) e =
    let up = cell_step c Event.Timeout in
    let clean = cell_steps up (clean_up_events w.clean_up) in
    sym (ap (λ (y : Cell). y.recorded) (steps_on up (clean_up_events w.clean_up) (send_events w.send))
    ∙ send_is clean c.order.id w.send (cleaned w.clean_up (brought_up r))
    (cleaned_is up w.clean_up (brought_up r) (up_is c r e)))

-- ---- the last transaction

timeout_by : (o b : Bool) (c : Cell) (r : Recorded) → is_some r.row.out ≡ o → c.recorded ≡ Some r
    → Some (if b then brought_up r else r) ≡ (cell_steps c (if o && b then Event.Timeout ∷ [] else [])).recorded
timeout_by true true c r o e = sym (up_is c r e)
timeout_by true false c r o e = sym e
timeout_by false true c r o e =
    ap (λ (y : Bool). Some (if y then with_state (after_timeout r.row.state) r else r)) o ∙ sym e
timeout_by false false c r o e = sym e

timeout_is : (c : Cell) (n : ℕ) (x : Option Recorded) → c.recorded ≡ x
    → taken_from n None x ≡ (cell_steps c (take_events x n Source.Nowhere)).recorded
timeout_is c n None e = sym e
timeout_is c n (Some r) e = timeout_by (is_some r.row.out) (n == r.attempt) c r refl e

out_is : (c : Cell) (r : Recorded) (out : Option Kind) (a : Answer) → c.recorded ≡ Some r
    → Some (taken_out r out a) ≡ (take_out c r out a).recorded
out_is c r None a e = sym e
out_is c r (Some kind) a e = refl

attempt_is : (b : Bool) (c : Cell) (r : Recorded) (a : Answer) → c.recorded ≡ Some r
    → Some (if b then taken_out r r.row.out a else r) ≡ (if b then take_out c r r.row.out a else c).recorded
attempt_is true c r a e = out_is c r r.row.out a e
attempt_is false c r a e = sym e

answer_is : (c : Cell) (n : ℕ) (a : Answer) (x : Option Recorded) → c.recorded ≡ x
    → taken_from n (Some a) x ≡ (take_cell c x n a).recorded
answer_is c n a None e = sym e
answer_is c n a (Some r) e = attempt_is (n == r.attempt) c r a e

given_is : (c : Cell) (n : ℕ) (a : Answer) (at : ℕ)
    → slice_get c.given at ≡ Some record { attempt = n; answer = a }
    → taken_from n (Some a) c.recorded ≡ (cell_step c (Event.Take at)).recorded
given_is c n a at is =
    answer_is c n a c.recorded refl ∙ sym (ap (λ (g : Option Given). (take_given c g).recorded) is)

garbled_of : (c : Cell) (n : ℕ) (a : Answer) (o : Option Given) → IsSomeAnd o (IsGarbledOf n a)
    → taken_from n (Some a) c.recorded ≡ (take_garbled c o).recorded
garbled_of c n a None is = absurd is
garbled_of c n a (Some g) is =
    answer_is c n a c.recorded refl
    ∙ ap (λ (k : ℕ). (take_cell c c.recorded k a).recorded) (sym is.0)
    ∙ ap (λ (y : Answer). (take_cell c c.recorded g.attempt y).recorded) is.1

gateway_by : (out : Option Kind) (b : Bool) (c : Cell) (r : Recorded) (s : ℕ) (a : Answer) → r.row.out ≡ out
    → is_within 500 599 s ≡ true → a ≡ unreadable s → c.recorded ≡ Some r
    → Some (if b then taken_out r out a else r)
    ≡ (cell_steps c (if is_some out && b then Event.TakeGateway s ∷ [] else [])).recorded
gateway_by None true c r s a o w is e = sym e
gateway_by None false c r s a o w is e = sym e
gateway_by (Some kind) false c r s a o w is e = sym e
gateway_by (Some kind) true c r s a o w is e =
    ap (λ (y : Answer). Some (taken_out r (Some kind) y)) is
    ∙ sym (ap (λ (x : Option Recorded). (take_gateway c x s).recorded) e
    ∙ ap (λ (x : Bool). (if x then take_out c r r.row.out (unreadable s) else c).recorded) w
    ∙ ap (λ (y : Option Kind). (take_out c r y (unreadable s)).recorded) o)

gateway_is : (c : Cell) (n : ℕ) (a : Answer) (s : ℕ) (x : Option Recorded) → is_within 500 599 s ≡ true
    → a ≡ unreadable s → c.recorded ≡ x
    → taken_from n (Some a) x ≡ (cell_steps c (take_events x n (Source.Gateway s))).recorded
gateway_is c n a s None w is e = sym e
gateway_is c n a s (Some r) w is e = gateway_by r.row.out (n == r.attempt) c r s a refl w is e

pub take_is : (c : Cell) (n : ℕ) (a : Option Answer) (source : Source) → IsFrom c.given n a source
    → (take n a c.recorded).recorded ≡ (cell_steps c (take_events c.recorded n source)).recorded
take_is c n None Source.Nowhere from = timeout_is c n c.recorded refl
take_is c n (Some a) (Source.Given at) from = given_is c n a at from
take_is c n (Some a) (Source.Garbled at) from = garbled_of c n a (slice_get c.given at) from
take_is c n (Some a) (Source.Gateway s) from = gateway_is c n a s c.recorded from.0 from.1 refl
take_is c n None (Source.Given at) from = absurd from
take_is c n None (Source.Garbled at) from = absurd from
take_is c n None (Source.Gateway s) from = absurd from
take_is c n (Some a) Source.Nowhere from = absurd from

pub resume_is : (c : Cell) (o : Bool) (n : ℕ)
    → (resume o n c.recorded).recorded ≡ (cell_steps c (resume_events o c.recorded n)).recorded
resume_is c false n = refl
resume_is c true n = timeout_is c n c.recorded refl
