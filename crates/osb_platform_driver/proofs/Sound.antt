-- Whatever happens, the row is what the network's platform records, and each driver knows what it says of itself.
use Rattle.std.proofs.Common.{◌≡◌, ◌⊎◌, ℕ, zero, suc, ◌+◌, Bool, true, false, inl, inr, refl, sym, ap, subst, ◌∙◌}
use Rattle.std.proofs.Common.{List, [], ◌∷◌, ◌++◌, arith}
use Rattle.std.specs.Prelude.{Option, Some, None, IsSome, IsSomeAnd, ◌==◌, if◌then◌else◌, slice_get, slice_set}
use Rattle.std.proofs.lemmas.Bool.Decides.{nat_tests}
use Rattle.osb_message.specs.declared.messages.Answer.{Answer}
use Rattle.osb_message.specs.declared.messages.Kind.{Kind}
use Rattle.osb_platform.specs.PlatformRow.{request_for, wanted_row}
use Rattle.osb_platform.specs.State.{due}
use Rattle.osb_platform.specs.Statuses.{is_within}
use Rattle.osb_instance.specs.Recorded.{Recorded}
use Rattle.osb_instance.specs.declared.record.Sent.{Sent}
use Rattle.osb_network.specs.Cell.{Cell}
use Rattle.osb_network.specs.Steps.{can_finish, cell_step, cell_steps, end_unknown, has_number, next_recorded, sent_as, unreadable}
use Rattle.osb_network.specs.Truth.{is_under_way}
use Rattle.osb_network.specs.declared.event.Event.{Event}
use Rattle.osb_network.specs.declared.event.Given.{Given}
use Rattle.osb_network.specs.declared.order.Order.{Order}
use Rattle.osb_network.proofs.Kept.{arrive_recorded, end_recorded, if_recorded, kept_step, kept_steps, put_off_recorded}
use Rattle.osb_platform_driver.specs.Driver.{brought_up, claimed, cleaned, created_if, given_up_if, new_driver, resting, resume}
use Rattle.osb_platform_driver.specs.Driver.{sent_by, sent_if, take, taken_from}
use Rattle.osb_platform_driver.specs.declared.driver.Stage.{Stage}
use Rattle.osb_platform_driver.specs.declared.driver.Transaction.{Transaction}
use Rattle.osb_platform_driver.specs.declared.driver.Wishes.{Wishes}
use Rattle.osb_platform_driver.specs.declared.world.Commit.{Commit}
use Rattle.osb_platform_driver.specs.declared.world.Exchange.{Exchange}
use Rattle.osb_platform_driver.specs.declared.world.Happening.{Happening}
use Rattle.osb_platform_driver.specs.declared.world.Source.{Source}
use Rattle.osb_platform_driver.specs.World.{HasInFlight, IsFrom, IsGarbledOf, IsInFlight, IsSound, Knows, KnowsAt, StaysSound}
use Rattle.osb_platform_driver.specs.World.{WorldState, answer_by, answer_from, answer_step, at_stage, claim_by, claim_events}
use Rattle.osb_platform_driver.specs.World.{claim_of, claim_step, garbled_to, given_to, is_outside, is_owner, resume_events}
use Rattle.osb_platform_driver.specs.World.{take_by, take_events, take_step, taking, transacted, with_cell, with_stage}
use Rattle.osb_platform_driver.specs.World.{written}
use Rattle.osb_platform_driver.proofs.Grown.{Grows, grows_steps, knows_on, nothing}
use Rattle.osb_platform_driver.proofs.Numbers.{next_unsent, none_sent, rests, resumed_less, same_attempt, taken_less}
use Rattle.osb_platform_driver.proofs.Rows.{claim_is, resume_is, take_is}
use Rattle.osb_platform_driver.proofs.Sent.{claim_sent}

-- ---- the drivers

abbrev pub AllKnow : Cell → List Exchange → Type 0
AllKnow c xs = (at : ℕ) (x : Exchange) → slice_get xs at ≡ Some x → Knows c x

-- the row has the number of the driver whose request is in flight
abbrev pub AllOwn : Option Recorded → Option ℕ → List Exchange → Type 0
AllOwn row owner xs =
    (at : ℕ) (x : Exchange) → slice_get xs at ≡ Some x → HasInFlight row x.driver.stage → owner ≡ Some at

same_some : {X : Type 0} (x y : X) → Some x ≡ Some y → x ≡ y
same_some x y e = cc

further : (at k : ℕ) (P Q : Type 0) → ((k ≡ at) × P) ⊎ Q → ((suc k ≡ suc at) × P) ⊎ Q
further at k P Q (inl e) = inl (ap suc e.0, e.1)
further at k P Q (inr f) = inr f

put_at : {X : Type 0} (xs : List X) (at k : ℕ) (x : X)
    → ((k ≡ at) × (slice_get (slice_set xs at x) k ≡ Some x)) ⊎ (slice_get (slice_set xs at x) k ≡ slice_get xs k)
put_at [] at k x = inr refl
put_at (y ∷ xs) zero zero x = inl (refl, refl)
put_at (y ∷ xs) zero (suc k) x = inr refl
put_at (y ∷ xs) (suc at) zero x = inr refl
put_at (y ∷ xs) (suc at) (suc k) x = further at k _ _ (put_at xs at k x)

pushed : {X : Type 0} (xs : List X) (k : ℕ) (x : X)
    → (slice_get (xs ++ x ∷ []) k ≡ Some x) ⊎ (slice_get (xs ++ x ∷ []) k ≡ slice_get xs k)
pushed [] zero x = inl refl
pushed [] (suc k) x = inr refl
pushed (y ∷ xs) zero x = inr refl
pushed (y ∷ xs) (suc k) x = pushed xs k x

-- what holds of one that was put there, and of all others, holds of all
either_put : {X : Type 0} (P : ℕ → X → Type 0) (at k : ℕ) (o p : Option X) (x y : X)
    → ((k ≡ at) × (o ≡ Some x)) ⊎ (o ≡ p) → P at x → (p ≡ Some y → P k y) → o ≡ Some y → P k y
either_put P at k o p x y (inl e) new old is =
    subst (λ (j : ℕ). P j y) (sym e.0) (subst (P at) (same_some x y (sym e.1 ∙ is)) new)
either_put P at k o p x y (inr e) new old is = old (sym e ∙ is)

pub all_put : {X : Type 0} (P : ℕ → X → Type 0) (xs : List X) (at : ℕ) (x : X) → P at x
    → ((k : ℕ) (y : X) → slice_get xs k ≡ Some y → P k y) → (k : ℕ) (y : X)
    → slice_get (slice_set xs at x) k ≡ Some y → P k y
all_put P xs at x new old k y is =
    either_put P at k (slice_get (slice_set xs at x) k) (slice_get xs k) x y (put_at xs at k x) new (old k y) is

either_pushed : {X : Type 0} (P : X → Type 0) (o p : Option X) (x y : X) → (o ≡ Some x) ⊎ (o ≡ p) → P x
    → (p ≡ Some y → P y) → o ≡ Some y → P y
either_pushed P o p x y (inl e) new old is = subst P (same_some x y (sym e ∙ is)) new
either_pushed P o p x y (inr e) new old is = old (sym e ∙ is)

pub all_pushed : {X : Type 0} (P : ℕ → X → Type 0) (xs : List X) (x : X) → ((k : ℕ) → P k x)
    → ((k : ℕ) (y : X) → slice_get xs k ≡ Some y → P k y) → (k : ℕ) (y : X)
    → slice_get (xs ++ x ∷ []) k ≡ Some y → P k y
all_pushed P xs x new old k y is =
    either_pushed (P k) (slice_get (xs ++ x ∷ []) k) (slice_get xs k) x y (pushed xs k x) (new k) (old k y) is

all_on : (c n : Cell) (xs : List Exchange) → Grows c n → AllKnow c xs → AllKnow n xs
all_on c n xs grow old k y is = knows_on c n y.driver.stage y.source grow (old k y is)

abbrev own_at : Option Recorded → Option ℕ → ℕ → Exchange → Type 0
own_at row owner at x = HasInFlight row x.driver.stage → owner ≡ Some at

-- ---- transactions

pub stage_sound : (s : WorldState) (at : ℕ) (stage : Stage) (source : Source) → KnowsAt s.cell stage source
    → (HasInFlight s.row stage → s.owner ≡ Some at) → IsSound s → IsSound (with_stage s at stage source)
stage_sound s at stage source new own h = record {
  row = h.row;
  possible = h.possible;
  knows = all_put (λ (k : ℕ) (y : Exchange). Knows s.cell y) s.exchanges at (at_stage stage source) new h.knows;
  owns = all_put (own_at s.row s.owner) s.exchanges at (at_stage stage source) own h.owns;
}

abbrev pub owner_after : WorldState → ℕ → Transaction → Option ℕ
owner_after s at tx = if tx.takes_over then Some at else s.owner

-- what a driver knows and has at the stage after its transaction: once it is committed, and otherwise; and what the other
-- drivers have then
pub record GoesOn (s : WorldState) (n : Cell) (at : ℕ) (tx : Transaction) (source : Source) : Type 0 where
  pub row : tx.recorded ≡ n.recorded
  pub stage : KnowsAt n tx.stage source
  pub unsure : KnowsAt s.cell tx.unsure source
  pub failed : KnowsAt s.cell tx.failed source
  pub others : AllOwn tx.recorded (owner_after s at tx) s.exchanges
  pub stage_owns : HasInFlight tx.recorded tx.stage → owner_after s at tx ≡ Some at
  pub unsure_owns : HasInFlight tx.recorded tx.unsure → owner_after s at tx ≡ Some at
  pub unsure_own : HasInFlight s.row tx.unsure → s.owner ≡ Some at
  pub failed_own : HasInFlight s.row tx.failed → s.owner ≡ Some at

written_sound : (s : WorldState) (at : ℕ) (tx : Transaction) (es : List Event) (source : Source) (stage : Stage)
    → tx.recorded ≡ (cell_steps s.cell es).recorded → KnowsAt (cell_steps s.cell es) stage source
    → (HasInFlight tx.recorded stage → owner_after s at tx ≡ Some at)
    → AllOwn tx.recorded (owner_after s at tx) s.exchanges → IsSound s → IsSound (written s at tx es source stage)
written_sound s at tx es source stage row new own others h =
    let n = cell_steps s.cell es in
    record {
      row = row;
      possible = kept_steps s.cell es h.possible;
      knows = all_put (λ (k : ℕ) (y : Exchange). Knows n y) s.exchanges at (at_stage stage source) new
          (all_on s.cell n s.exchanges (grows_steps s.cell es) h.knows);
      owns = all_put (own_at tx.recorded (owner_after s at tx)) s.exchanges at (at_stage stage source) own others;
    }

pub transacted_sound : (commit : Commit) (s : WorldState) (at : ℕ) (tx : Transaction) (es : List Event) (source : Source)
    → GoesOn s (cell_steps s.cell es) at tx source → IsSound s → IsSound (transacted commit s at tx es source)
transacted_sound Commit.Returned s at tx es source g h =
    written_sound s at tx es source tx.stage g.row g.stage g.stage_owns g.others h
transacted_sound Commit.Failed s at tx es source g h = stage_sound s at tx.failed source g.failed g.failed_own h
transacted_sound (Commit.Unsure true) s at tx es source g h =
    written_sound s at tx es source tx.unsure g.row
    (knows_on s.cell (cell_steps s.cell es) tx.unsure source (grows_steps s.cell es) g.unsure) g.unsure_owns g.others h
transacted_sound (Commit.Unsure false) s at tx es source g h = stage_sound s at tx.unsure source g.unsure g.unsure_own h

-- ---- who has a request in flight

none_out : (stage : Stage) → HasInFlight None stage → ⊥
none_out Stage.Claim out = out
none_out (Stage.Send sent) out = out
none_out (Stage.Take n a) out = out
none_out (Stage.Unsure n) out = out
none_out Stage.Done out = out

-- nothing is in flight of a record with nothing out
at_rest : (r : Recorded) (stage : Stage) → r.row.out ≡ None → HasInFlight (Some r) stage → ⊥
at_rest r Stage.Claim e out = out
at_rest r (Stage.Send sent) e out = nothing (subst IsSome e out.0)
at_rest r (Stage.Take n a) e out = nothing (subst IsSome e out.0)
at_rest r (Stage.Unsure n) e out = out
at_rest r Stage.Done e out = out

-- a driver that has a request in flight has sent it
record WasSent (c : Cell) (row : Option Recorded) : Type 0 where
  attempt : ℕ
  sent : IsSome (sent_as c.sent attempt)
  out : IsInFlight row attempt

was_sent : (c : Cell) (row : Option Recorded) (stage : Stage) (source : Source) → KnowsAt c stage source
    → HasInFlight row stage → WasSent c row
was_sent c row Stage.Claim source k out = absurd out
was_sent c row (Stage.Send sent) source k out =
    record { attempt = sent.attempt; sent = subst IsSome (sym k) refl; out = out }
was_sent c row (Stage.Take n a) source k out = record { attempt = n; sent = k.0; out = out }
was_sent c row (Stage.Unsure n) source k out = absurd out
was_sent c row Stage.Done source k out = absurd out

-- the row changes so that no more is in flight than before
others_keep : (s : WorldState) (after : Option Recorded)
    → ((stage : Stage) → HasInFlight after stage → HasInFlight s.row stage) → IsSound s
    → AllOwn after s.owner s.exchanges
others_keep s after less h k y is out = h.owns k y is (less y.driver.stage out)

-- ---- the first transaction

claim_row : (s : WorldState) (w : Wishes) → IsSound s
    → (claim_of s.cell.order w s.row).recorded ≡ (cell_steps s.cell (claim_events w s.cell.recorded)).recorded
claim_row s w h =
    ap (λ (x : Option Recorded). (claim_of s.cell.order w x).recorded) h.row ∙ claim_is s.cell w s.cell.recorded refl

-- nothing is in flight of the drivers
abbrev pub IsQuiet : Option Recorded → List Exchange → Type 0
IsQuiet row xs = (at : ℕ) (x : Exchange) → slice_get xs at ≡ Some x → HasInFlight row x.driver.stage → ⊥

-- what a first transaction leaves in flight is its own driver's
record IsOwn (s : WorldState) (at : ℕ) (tx : Transaction) : Type 0 where
  unsure : KnowsAt s.cell tx.unsure Source.Nowhere
  failed : KnowsAt s.cell tx.failed Source.Nowhere
  quiet : IsQuiet tx.recorded s.exchanges
  stage_owns : HasInFlight tx.recorded tx.stage → owner_after s at tx ≡ Some at
  unsure_owns : HasInFlight tx.recorded tx.unsure → owner_after s at tx ≡ Some at
  unsure_own : HasInFlight s.row tx.unsure → s.owner ≡ Some at
  failed_own : HasInFlight s.row tx.failed → s.owner ≡ Some at

own_rest : (s : WorldState) (at : ℕ) (after : Option Recorded) → ((stage : Stage) → HasInFlight after stage → ⊥)
    → IsOwn s at (resting after)
own_rest s at after quiet = record {
  unsure = tt;
  failed = tt;
  quiet = λ k y is out. quiet y.driver.stage out;
  stage_owns = λ out. absurd out;
  unsure_owns = λ out. absurd out;
  unsure_own = λ out. absurd out;
  failed_own = λ out. absurd out;
}

own_sent : (s : WorldState) (at : ℕ) (r : Recorded) (sent : Sent)
    → IsQuiet (Some r) s.exchanges → IsOwn s at (claimed r sent)
own_sent s at r sent new = record {
  unsure = tt;
  failed = tt;
  quiet = new;
  stage_owns = λ out. refl;
  unsure_owns = λ out. absurd out;
  unsure_own = λ out. absurd out;
  failed_own = λ out. absurd out;
}

-- a number that nobody has sent before
is_new : (s : WorldState) (r : Recorded) → IsSound s → ((n : ℕ) → IsSome (sent_as s.cell.sent n) → r.attempt ≡ n → ⊥)
    → IsQuiet (Some r) s.exchanges
is_new s r h unsent k y is out =
    let was = was_sent s.cell (Some r) y.driver.stage y.source (h.knows k y is) out in
    unsent was.attempt was.sent was.out.1

own_number : (b : Bool) (s : WorldState) (at id : ℕ) (r : Recorded) (kind : Kind) → r.row.out ≡ None
    → ((n : ℕ) → IsSome (sent_as s.cell.sent n) → r.attempt + 1 ≡ n → ⊥) → IsSound s
    → IsOwn s at (if b
    then claimed (next_recorded r kind) (record { request = request_for id r.row kind; attempt = r.attempt + 1 })
    else resting (Some r))
own_number true s at id r kind e unsent h = own_sent s at (next_recorded r kind) _ (is_new s (next_recorded r kind) h unsent)
own_number false s at id r kind e unsent h = own_rest s at (Some r) (λ stage. at_rest r stage e)

own_by : (s : WorldState) (at id : ℕ) (r : Recorded) (out next : Option Kind) → r.row.out ≡ None
    → ((n : ℕ) → IsSome (sent_as s.cell.sent n) → r.attempt + 1 ≡ n → ⊥) → IsSound s
    → IsOwn s at (sent_by id r out next)
own_by s at id r None None e unsent h = own_rest s at (Some r) (λ stage. at_rest r stage e)
own_by s at id r None (Some kind) e unsent h = own_number (has_number r) s at id r kind e unsent h
own_by s at id r (Some k) None e unsent h = own_rest s at (Some r) (λ stage. at_rest r stage e)
own_by s at id r (Some k) (Some kind) e unsent h = own_rest s at (Some r) (λ stage. at_rest r stage e)

own_if : (s : WorldState) (at id : ℕ) (b : Bool) (r : Recorded) → r.row.out ≡ None
    → ((n : ℕ) → IsSome (sent_as s.cell.sent n) → r.attempt + 1 ≡ n → ⊥) → IsSound s → IsOwn s at (sent_if b id r)
own_if s at id false r e unsent h = own_rest s at (Some r) (λ stage. at_rest r stage e)
own_if s at id true r e unsent h = own_by s at id r r.row.out (due r.row.state) e unsent h

own_created : (s : WorldState) (at : ℕ) (b : Bool) (o : Order) → s.cell.recorded ≡ None → IsSound s
    → IsOwn s at (created_if b o.id o.service o.plan o.accepts)
own_created s at false o e h = own_rest s at None none_out
own_created s at true o e h =
    own_sent s at (record { row = wanted_row o.service o.plan; attempt = 1 }) _
    (is_new s (record { row = wanted_row o.service o.plan; attempt = 1 }) h (λ n some same. none_sent s.cell e h.possible n some))

own_claim : (s : WorldState) (at : ℕ) (w : Wishes) (x : Option Recorded) → s.cell.recorded ≡ x → IsSound s
    → IsOwn s at (claim_of s.cell.order w x)
own_claim s at w None e h = own_created s at w.create s.cell.order e h
own_claim s at w (Some r) e h =
    let rest = cleaned w.clean_up (brought_up r) in
    own_if s at s.cell.order.id w.send rest (rests w.clean_up r)
    (λ n some same. next_unsent s.cell r rest.attempt n e h.possible (same_attempt w.clean_up r) some same) h

claim_owns : (s : WorldState) (at : ℕ) (w : Wishes) → IsSound s → IsOwn s at (claim_of s.cell.order w s.row)
claim_owns s at w h =
    subst (λ (x : Option Recorded). IsOwn s at (claim_of s.cell.order w x)) (sym h.row)
    (own_claim s at w s.cell.recorded refl h)

pub claim_quiet : (s : WorldState) (w : Wishes) → IsSound s → IsQuiet (claim_of s.cell.order w s.row).recorded s.exchanges
claim_quiet s w h = (claim_owns s 0 w h).quiet

pub claim_goes : (s : WorldState) (at : ℕ) (w : Wishes) → IsSound s
    → GoesOn s (cell_steps s.cell (claim_events w s.cell.recorded)) at (claim_of s.cell.order w s.row) Source.Nowhere
claim_goes s at w h =
    let own = claim_owns s at w h in
    let n = cell_steps s.cell (claim_events w s.cell.recorded) in
    record {
      row = claim_row s w h;
      stage = subst (λ (x : Option Recorded). KnowsAt n (claim_of s.cell.order w x).stage Source.Nowhere) (sym h.row)
          (claim_sent s.cell w s.cell.recorded refl h.possible);
      unsure = own.unsure;
      failed = own.failed;
      others = λ k y is out. absurd (own.quiet k y is out);
      stage_owns = own.stage_owns;
      unsure_owns = own.unsure_owns;
      unsure_own = own.unsure_own;
      failed_own = own.failed_own;
    }

claim_sound : (s : WorldState) (at : ℕ) (w : Wishes) (commit : Commit) (stage : Stage) → IsSound s
    → IsSound (claim_by s at w commit stage)
claim_sound s at w commit Stage.Claim h =
    transacted_sound commit s at (claim_of s.cell.order w s.row) (claim_events w s.cell.recorded) Source.Nowhere
    (claim_goes s at w h) h
claim_sound s at w commit (Stage.Send sent) h = h
claim_sound s at w commit (Stage.Take n a) h = h
claim_sound s at w commit (Stage.Unsure n) h = h
claim_sound s at w commit Stage.Done h = h

claims_sound : (s : WorldState) (at : ℕ) (w : Wishes) (commit : Commit) (x : Option Exchange) → IsSound s
    → IsSound (claim_step s at w commit x)
claims_sound s at w commit None h = h
claims_sound s at w commit (Some x) h = claim_sound s at w commit x.driver.stage h

-- ---- the last transaction

take_row : (s : WorldState) (n : ℕ) (a : Option Answer) (source : Source) → IsFrom s.cell.given n a source → IsSound s
    → (take n a s.row).recorded ≡ (cell_steps s.cell (take_events s.cell.recorded n source)).recorded
take_row s n a source from h =
    ap (λ (x : Option Recorded). (take n a x).recorded) h.row ∙ take_is s.cell n a source from

resume_row : (s : WorldState) (o : Bool) (n : ℕ) → IsSound s
    → (resume o n s.row).recorded ≡ (cell_steps s.cell (resume_events o s.cell.recorded n)).recorded
resume_row s o n h = ap (λ (x : Option Recorded). (resume o n x).recorded) h.row ∙ resume_is s.cell o n

-- the answer that counts (`b`) may be another than the driver's (`a`)
pub take_goes : (s : WorldState) (at n : ℕ) (b : Option Answer) (from : Source) (a : Option Answer) (source : Source)
    → IsFrom s.cell.given n b from → KnowsAt s.cell (Stage.Take n a) source
    → (IsInFlight s.row n → s.owner ≡ Some at) → IsSound s
    → GoesOn s (cell_steps s.cell (take_events s.cell.recorded n from)) at
    (record (take n b s.row) { unsure = Stage.Take n a; failed = Stage.Take n a }) source
take_goes s at n b from a source is know own h =
    let less = (λ (stage : Stage). taken_less n b s.row stage) in
    record {
      row = take_row s n b from is h;
      stage = tt;
      unsure = know;
      failed = know;
      others = others_keep s (taken_from n b s.row) less h;
      stage_owns = λ out. absurd out;
      unsure_owns = λ out. own (less (Stage.Take n a) out);
      unsure_own = own;
      failed_own = own;
    }

pub resume_goes : (s : WorldState) (at : ℕ) (o : Bool) (n : ℕ) → IsSound s
    → GoesOn s (cell_steps s.cell (resume_events o s.cell.recorded n)) at (resume o n s.row) Source.Nowhere
resume_goes s at o n h = record {
  row = resume_row s o n h;
  stage = tt;
  unsure = tt;
  failed = tt;
  others = others_keep s (given_up_if o n s.row) (λ stage. resumed_less o n s.row stage) h;
  stage_owns = λ out. absurd out;
  unsure_owns = λ out. absurd out;
  unsure_own = λ out. absurd out;
  failed_own = λ out. absurd out;
}

take_sound : (s : WorldState) (at : ℕ) (commit : Commit) (source : Source) (stage : Stage) → KnowsAt s.cell stage source
    → (HasInFlight s.row stage → s.owner ≡ Some at) → IsSound s → IsSound (take_by s at commit source stage)
take_sound s at commit source (Stage.Take n a) from own h =
    transacted_sound commit s at (take n a s.row) (take_events s.cell.recorded n source) source
    (take_goes s at n a source a source from.1 from own h) h
take_sound s at commit source (Stage.Unsure n) from own h =
    let o = is_owner s.owner at in
    transacted_sound commit s at (resume o n s.row) (resume_events o s.cell.recorded n) Source.Nowhere
    (resume_goes s at o n h) h
take_sound s at commit source Stage.Claim from own h = h
take_sound s at commit source (Stage.Send sent) from own h = h
take_sound s at commit source Stage.Done from own h = h

takes_sound : (s : WorldState) (at : ℕ) (commit : Commit) (x : Option Exchange) → slice_get s.exchanges at ≡ x
    → IsSound s → IsSound (take_step s at commit x)
takes_sound s at commit None is h = h
takes_sound s at commit (Some x) is h =
    take_sound s at commit x.source x.driver.stage (h.knows at x is) (h.owns at x is) h

-- ---- answers

same_number : (k n : ℕ) → (k == n) ≡ true → k ≡ n
same_number k n e = grind (arith, nat_tests)

sound_if : (b : Bool) (s t : WorldState) → (b ≡ true → IsSound t) → IsSound s → IsSound (if b then t else s)
sound_if true s t on h = on refl
sound_if false s t on h = h

-- of a driver whose request was sent
record IsWaiting (s : WorldState) (at n : ℕ) : Type 0 where
  sent : IsSome (sent_as s.cell.sent n)
  own : IsInFlight s.row n → s.owner ≡ Some at

taking_sound : (s : WorldState) (at n : ℕ) (a : Option Answer) (source : Source) → IsFrom s.cell.given n a source
    → IsWaiting s at n → IsSound s → IsSound (with_stage s at (Stage.Take n a) source)
taking_sound s at n a source from wait h = stage_sound s at (Stage.Take n a) source (wait.sent, from) wait.own h

given_sound : (s : WorldState) (at n place : ℕ) (g : Option Given) → slice_get s.cell.given place ≡ g
    → IsWaiting s at n → IsSound s → IsSound (given_to s at n place g)
given_sound s at n place None is wait h = h
given_sound s at n place (Some g) is wait h =
    sound_if (g.attempt == n) s (taking s at n g.answer (Source.Given place))
    (λ e. taking_sound s at n (Some g.answer) (Source.Given place)
    (is ∙ ap (λ (k : ℕ). Some record { attempt = k; answer = g.answer }) (same_number g.attempt n e)) wait h) h

abbrev IsGarbledBy : Option Given → ℕ → Answer → Type 0
IsGarbledBy o n a = IsSomeAnd o (IsGarbledOf n a)

garbled_sound : (s : WorldState) (at n place : ℕ) (g : Option Given) → slice_get s.cell.given place ≡ g
    → IsWaiting s at n → IsSound s → IsSound (garbled_to s at n place g)
garbled_sound s at n place None is wait h = h
garbled_sound s at n place (Some g) is wait h =
    sound_if (g.attempt == n) s (taking s at n (unreadable g.answer.status) (Source.Garbled place))
    (λ e. taking_sound s at n (Some (unreadable g.answer.status)) (Source.Garbled place)
    (subst (λ (o : Option Given). IsGarbledBy o n (unreadable g.answer.status)) (sym is) (same_number g.attempt n e, refl))
    wait h) h

from_sound : (s : WorldState) (at n : ℕ) (source : Source) → IsWaiting s at n → IsSound s
    → IsSound (answer_from s at n source)
from_sound s at n Source.Nowhere wait h = taking_sound s at n None Source.Nowhere tt wait h
from_sound s at n (Source.Given place) wait h = given_sound s at n place (slice_get s.cell.given place) refl wait h
from_sound s at n (Source.Garbled place) wait h = garbled_sound s at n place (slice_get s.cell.given place) refl wait h
from_sound s at n (Source.Gateway status) wait h =
    sound_if (is_within 500 599 status) s (taking s at n (unreadable status) (Source.Gateway status))
    (λ e. taking_sound s at n (Some (unreadable status)) (Source.Gateway status) (e, refl) wait h) h

answer_sound : (s : WorldState) (at : ℕ) (source : Source) (stage : Stage) (before : Source) → KnowsAt s.cell stage before
    → (HasInFlight s.row stage → s.owner ≡ Some at) → IsSound s → IsSound (answer_by s at source stage)
answer_sound s at source (Stage.Send sent) before know own h =
    from_sound s at sent.attempt source (record { sent = subst IsSome (sym know) refl; own = own }) h
answer_sound s at source Stage.Claim before know own h = h
answer_sound s at source (Stage.Take n a) before know own h = h
answer_sound s at source (Stage.Unsure n) before know own h = h
answer_sound s at source Stage.Done before know own h = h

answers_sound : (s : WorldState) (at : ℕ) (source : Source) (x : Option Exchange) → slice_get s.exchanges at ≡ x
    → IsSound s → IsSound (answer_step s at source x)
answers_sound s at source None is h = h
answers_sound s at source (Some x) is h =
    answer_sound s at source x.driver.stage x.source (h.knows at x is) (h.owns at x is) h

-- ---- whatever happens

unknown_same : (c : Cell) (w : Option ℕ) → (end_unknown c w).recorded ≡ c.recorded
unknown_same c None = refl
unknown_same c (Some n) = refl

-- an event of the broker leaves what the platform records
unrecorded : (c : Cell) (e : Event) → is_outside e ≡ true → (cell_step c e).recorded ≡ c.recorded
unrecorded c (Event.Arrive n) e = arrive_recorded c (sent_as c.sent n)
unrecorded c (Event.PutOff n) e = put_off_recorded c (sent_as c.sent n)
unrecorded c (Event.End out) e = end_recorded c c.held.work out
unrecorded c Event.EndUnknown e = unknown_same c c.worker
unrecorded c (Event.Finish ok) e = if_recorded (can_finish c ok) _ c refl
unrecorded c Event.GiveUpWaiting e = if_recorded c.held.waiting _ c refl
unrecorded c (Event.Work t) e = if_recorded (is_under_way c.held) _ c refl
unrecorded c Event.CrashBroker e = refl
unrecorded c Event.Create e = cc
unrecorded c Event.Send e = cc
unrecorded c Event.Expire e = cc
unrecorded c Event.Retry e = cc
unrecorded c Event.Remove e = cc
unrecorded c Event.Timeout e = cc
unrecorded c (Event.Take at) e = cc
unrecorded c (Event.TakeGarbled at) e = cc
unrecorded c (Event.TakeGateway s) e = cc
unrecorded c Event.CrashPlatform e = cc

outside_sound : (s : WorldState) (e : Event) → is_outside e ≡ true → IsSound s → IsSound (with_cell s e)
outside_sound s e out h = record {
  row = h.row ∙ sym (unrecorded s.cell e out);
  possible = kept_step s.cell e h.possible;
  knows = all_on s.cell (cell_step s.cell e) s.exchanges (grows_steps s.cell (e ∷ [])) h.knows;
  owns = h.owns;
}

-- a driver that begins has no request
abbrev new_exchange : Exchange
new_exchange = record { driver = new_driver; source = Source.Nowhere }

pub stays_sound : StaysSound
stays_sound s (Happening.Outside e) h =
    sound_if (is_outside e) s (with_cell s e) (λ out. outside_sound s e out h) h
stays_sound s Happening.Begin h = record {
  row = h.row;
  possible = h.possible;
  knows = all_pushed (λ (k : ℕ) (y : Exchange). Knows s.cell y) s.exchanges new_exchange (λ k. tt) h.knows;
  owns = all_pushed (own_at s.row s.owner) s.exchanges new_exchange (λ k out. absurd out) h.owns;
}
stays_sound s (Happening.Claim at w commit) h = claims_sound s at w commit (slice_get s.exchanges at) h
stays_sound s (Happening.Answer at source) h = answers_sound s at source (slice_get s.exchanges at) refl h
stays_sound s (Happening.Take at commit) h = takes_sound s at commit (slice_get s.exchanges at) refl h
