-- The request that a first transaction gives to send is the network's of its number.
use Rattle.std.proofs.Common.{◌≡◌, ℕ, ◌+◌, Bool, true, false, refl, sym, ap, subst, ◌∙◌, List, [], ◌∷◌, ◌++◌}
use Rattle.std.proofs.Common.{arith}
use Rattle.std.proofs.lemmas.Bool.Decides.{nat_tests}
use Rattle.std.specs.Prelude.{Option, Some, None, ◌-◌, ◌==◌, if◌then◌else◌, length, slice_get}
use Rattle.osb_message.specs.declared.messages.Kind.{Kind}
use Rattle.osb_message.specs.declared.messages.Kind.TheVariants.{Deprovision, Poll, Provision}
use Rattle.osb_message.specs.declared.messages.Request.{Request}
use Rattle.osb_platform.specs.PlatformRow.{request_for}
use Rattle.osb_platform.specs.State.{due}
use Rattle.osb_platform.specs.declared.state.State.{State}
use Rattle.osb_platform.specs.declared.state.State.TheVariants.{Cleaning, CleaningPolling, Gone, Polling, Ready}
use Rattle.osb_platform.specs.declared.state.State.TheVariants.{Unsettled, Wanted}
use Rattle.osb_instance.specs.Recorded.{Recorded}
use Rattle.osb_instance.specs.declared.record.Sent.{Sent}
use Rattle.osb_network.specs.Cell.{Cell, IsNumbered, IsPossible, IsPossibleRecord, IsPossibleWith}
use Rattle.osb_network.specs.Possible.{accepts_in, request_of}
use Rattle.osb_network.specs.Steps.{cell_step, cell_steps, create, has_number, next_recorded, send, send_due, sent_as, with_sent}
use Rattle.osb_network.specs.declared.event.Event.{Event}
use Rattle.osb_network.specs.declared.order.Order.{Order}
use Rattle.osb_network.proofs.Kept.{kept_steps, with_rec}
use Rattle.osb_platform_driver.specs.Driver.{brought_up, claimed, cleaned, created_if, resting, sent_by, sent_if}
use Rattle.osb_platform_driver.specs.declared.driver.Transaction.{Transaction}
use Rattle.osb_platform_driver.specs.declared.driver.Wishes.{Wishes}
use Rattle.osb_platform_driver.specs.declared.world.Source.{Source}
use Rattle.osb_platform_driver.specs.World.{KnowsAt, claim_events, claim_of, clean_up_events, create_events, send_events}
use Rattle.osb_platform_driver.proofs.Grown.{grows_steps}
use Rattle.osb_platform_driver.proofs.Rows.{cleaned_is, steps_on, up_is}

-- what a transaction has to send, once its events have happened
abbrev IsSentIn : Cell → Transaction → Type 0
IsSentIn c tx = KnowsAt c tx.stage Source.Nowhere

-- ---- numbers

pub counted : (n : ℕ) (xs : List Sent) (i : ℕ) → IsNumbered n xs i → n + length xs ≡ i
counted n [] i h = let e : n ≡ i = h in omega arith
counted n (x ∷ xs) i h = let e : n + 1 + length xs ≡ i = counted (n + 1) xs i h.1 in omega arith

at_end : (xs : List Sent) (x : Sent) → slice_get (xs ++ x ∷ []) (length xs) ≡ Some x
at_end [] x = refl
at_end (y ∷ xs) x = at_end xs x

not_none : (b : Bool) (o : Option Sent) → b ≡ false → (if b then None else o) ≡ o
not_none true o e = cc
not_none false o e = refl

found : (xs : List Sent) (i : ℕ) (y : Sent) → IsNumbered 0 xs i → sent_as (xs ++ y ∷ []) (i + 1) ≡ Some y
found xs i y h =
    let e : 0 + length xs ≡ i = counted 0 xs i h in
    let n : i + 1 - 1 ≡ length xs = omega arith in
    let z : (i + 1 == 0) ≡ false = grind (arith, nat_tests) in
    not_none (i + 1 == 0) (slice_get (xs ++ y ∷ []) (i + 1 - 1)) z
    ∙ ap (slice_get (xs ++ y ∷ [])) n ∙ at_end xs y

-- ---- requests

-- a Provision is sent only once, at first
not_first : (s : State) → due s ≡ Some Provision → ⊥
not_first Wanted e = cc
not_first Polling e = cc
not_first Ready e = cc
not_first Cleaning e = cc
not_first CleaningPolling e = cc
not_first Gone e = cc
not_first Unsettled e = cc

accepts : (o : Order) (s : State) (k : Kind) → due s ≡ Some k → accepts_in o k ≡ true
accepts o s Provision e = absurd (not_first s e)
accepts o s Deprovision e = refl
accepts o s Poll e = refl

request_is : (c : Cell) (id : ℕ) (r : Recorded) (k : Kind) → c.order.id ≡ id → IsPossibleRecord c r
    → due r.row.state ≡ Some k → request_of c.order k ≡ request_for id r.row k
request_is c id r k same p d = λ i. record {
  kind = k;
  id = same i;
  service = (sym p.service) i;
  plan = (sym p.plan) i;
  accepts_incomplete = (accepts c.order r.row.state k d) i;
}

-- ---- the requests of a recorded instance

sent_on : (c : Cell) (id : ℕ) (r : Recorded) (k : Kind) → c.order.id ≡ id → IsPossibleRecord c r
    → due r.row.state ≡ Some k
    → sent_as (c.sent ++ record { request = request_of c.order k; attempt = r.attempt + 1 } ∷ []) (r.attempt + 1)
    ≡ Some record { request = request_for id r.row k; attempt = r.attempt + 1 }
sent_on c id r k same p d =
    found c.sent r.attempt (record { request = request_of c.order k; attempt = r.attempt + 1 }) p.numbered
    ∙ ap (λ (q : Request). Some record { request = q; attempt = r.attempt + 1 }) (request_is c id r k same p d)

number_sent : (b : Bool) (c : Cell) (id : ℕ) (r : Recorded) (k : Kind) → c.order.id ≡ id → IsPossibleRecord c r
    → due r.row.state ≡ Some k
    → IsSentIn (if b then with_sent c (next_recorded r k) k else c)
    (if b
    then claimed (next_recorded r k) (record { request = request_for id r.row k; attempt = r.attempt + 1 })
    else resting (Some r))
number_sent true c id r k same p d = sent_on c id r k same p d
number_sent false c id r k same p d = tt

due_sent : (c : Cell) (id : ℕ) (r : Recorded) (out next : Option Kind) → c.order.id ≡ id → IsPossibleRecord c r
    → due r.row.state ≡ next → IsSentIn (send_due c r out next) (sent_by id r out next)
due_sent c id r None None same p d = tt
due_sent c id r None (Some k) same p d = number_sent (has_number r) c id r k same p d
due_sent c id r (Some o) None same p d = tt
due_sent c id r (Some o) (Some k) same p d = tt

send_sent : (c : Cell) (id : ℕ) (b : Bool) (r : Recorded) → c.recorded ≡ Some r → c.order.id ≡ id
    → IsPossibleRecord c r → IsSentIn (cell_steps c (send_events b)) (sent_if b id r)
send_sent c id false r e same p = tt
send_sent c id true r e same p =
    subst (λ (x : Option Recorded). IsSentIn (send c x) (sent_if true id r)) (sym e)
    (due_sent c id r r.row.out (due r.row.state) same p refl)

-- ---- the first request

first_sent : (c : Cell) (xs : List Sent) (y : Sent) → xs ≡ [] → sent_as (xs ++ y ∷ []) 1 ≡ Some y
first_sent c xs y e = subst (λ (zs : List Sent). sent_as (zs ++ y ∷ []) 1 ≡ Some y) (sym e) refl

pub untouched : (c : Cell) (x : Option Recorded) → x ≡ None → IsPossibleWith c x → c.sent ≡ []
untouched c None e p = p.sent
untouched c (Some r) e p = cc

created_sent : (c : Cell) (b : Bool) → c.recorded ≡ None → IsPossible c
    → IsSentIn (cell_steps c (create_events b)) (created_if b c.order.id c.order.service c.order.plan c.order.accepts)
created_sent c false e p = tt
created_sent c true e p =
    subst (λ (x : Option Recorded). IsSentIn (create c x) (created_if true c.order.id c.order.service c.order.plan c.order.accepts))
    (sym e)
    (first_sent c c.sent (record { request = request_of c.order Provision; attempt = 1 }) (untouched c c.recorded e p))

pub claim_sent : (c : Cell) (w : Wishes) (x : Option Recorded) → c.recorded ≡ x → IsPossible c
    → IsSentIn (cell_steps c (claim_events w x)) (claim_of c.order w x)
claim_sent c w None e p = created_sent c w.create e p
claim_sent c w (Some r) e p =
    let up = cell_step c Event.Timeout in
    let events = Event.Timeout ∷ clean_up_events w.clean_up in
    let clean = cell_steps c events in
    let rest = cleaned w.clean_up (brought_up r) in
    let is : clean.recorded ≡ Some rest = cleaned_is up w.clean_up (brought_up r) (up_is c r e) in
    let grown = grows_steps c events in
    subst (λ (y : Cell). IsSentIn y (claim_of c.order w (Some r)))
    (sym (steps_on up (clean_up_events w.clean_up) (send_events w.send)))
    (send_sent clean c.order.id w.send rest is (ap (λ (o : Order). o.id) grown.order)
    (with_rec clean clean.recorded rest (kept_steps c events p) is))
