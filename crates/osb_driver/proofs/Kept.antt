-- Whatever happens, the world stays the network's instance, and what happens is a run of the network.
use Rattle.std.proofs.Common.{◌≡◌, ◌⊎◌, ℕ, ◌+◌, ◌-◌, Bool, true, false, inl, inr, refl, sym, ap, subst, ◌∙◌, arith}
use Rattle.std.proofs.Common.{List, [], ◌∷◌, ◌++◌}
use Rattle.std.specs.Prelude.{Option, Some, None, IfSome, ◌==◌, ◌&&◌, not, if◌then◌else◌, is_none, slice_get, slice_set, IsSomeAnd}
use Rattle.std.proofs.lemmas.Bool.Decides.{nat_tests}
use Rattle.osb_message.specs.declared.catalogue.Mode.{Mode}
use Rattle.osb_message.specs.declared.messages.Answer.{Answer}
use Rattle.osb_message.specs.declared.messages.Request.{Request}
use Rattle.osb_instance.specs.declared.outcome.WorkOutcome.{WorkOutcome}
use Rattle.osb_instance.specs.declared.record.Sent.{Sent}
use Rattle.osb_instance.specs.declared.work.Begun.{Begun}
use Rattle.osb_instance.specs.declared.work.Begun.TheVariants.{Answered}
use Rattle.osb_instance.specs.declared.work.Work.{Work}
use Rattle.osb_instance.specs.Begin.{begins, begun as begun_held, busy, can_end, finished_held, given_up, is_operating, worked}
use Rattle.osb_instance.specs.Held.{Held}
use Rattle.osb_network.specs.Cell.{Cell}
use Rattle.osb_network.specs.Steps.{arrive, arrived, cell_step, cell_steps, can_finish, end as end_cell, ended, put_off, sent_as}
use Rattle.osb_network.specs.Truth.{is_true_end, is_true_finish_of, is_under_way}
use Rattle.osb_network.specs.declared.event.Event.{Event}
use Rattle.osb_network.specs.declared.event.Given.{Given}
use Rattle.osb_network.specs.declared.resource.Resource.{Resource}
use Rattle.osb_driver.specs.Driver.{after, answer_of, arrival, end, finish, finish_by, first, first_by as first_tx, nothing}
use Rattle.osb_driver.specs.Driver.{at_stage, missed_at_once, repeated, resume, take_up, take_up_by, unsure}
use Rattle.osb_driver.specs.declared.driver.Driver.{Driver}
use Rattle.osb_driver.specs.declared.driver.Effect.{Effect}
use Rattle.osb_driver.specs.declared.driver.Permit.{Permit}
use Rattle.osb_driver.specs.declared.driver.Stage.{Stage}
use Rattle.osb_driver.specs.declared.driver.Task.{Task}
use Rattle.osb_driver.specs.declared.driver.Transaction.{Transaction}
use Rattle.osb_driver.specs.declared.world.Commit.{Commit}
use Rattle.osb_driver.specs.declared.world.Happening.{Happening}
use Rattle.osb_driver.specs.World.{AreNumbered, Goes, IsAnswered, IsAtEnd, IsAtWork, IsGivenTo, IsSound}
use Rattle.osb_driver.specs.World.{IsTidy, Knows, KnowsEnd, Side, StaysSound, WorldState, begin_of, begun, come}
use Rattle.osb_driver.specs.World.{driver_at, events_of, first_of, give_up, give_up_by, is_outside, is_owner, lock}
use Rattle.osb_driver.specs.World.{lock_by, miss, miss_by, operated_by, operated_step, or_over, over, side_of, transact}
use Rattle.osb_driver.specs.World.{transacted, transaction_of, with_cell, with_stage, with_transaction, work_by, worked_by}
use Rattle.osb_driver.specs.World.{worked_step, world_step, written}
use Rattle.osb_driver.proofs.Busy.{answered_work, busy_same, due_pending, waiting_idle, worked_idle}
use Rattle.osb_driver.proofs.Moves.{by_operation, by_work, can_end_so, given_last, given_more, given_same, goes_claimed, goes_ended}
use Rattle.osb_driver.proofs.Moves.{goes_held, goes_more, goes_over, goes_quiet, goes_resource}
use Rattle.osb_driver.proofs.Moves.{holder_rests, knows_end, knows_finish, owner_claims, owner_quiet, put_at, quiet_work}
use Rattle.osb_driver.proofs.Moves.{knows_quiet, set_holder, set_owner, IsQuiet}
use Rattle.osb_driver.proofs.Outside.{outside_same}
use Rattle.osb_driver.proofs.Places.{set_at, set_here}

-- ---- the drivers of a world

abbrev pub GoesIn : WorldState → Type 0
GoesIn s = Goes (side_of s.cell) (driver_at s.drivers s.owner) (driver_at s.drivers s.holder)

-- the same, whose row and resource are the cell's
abbrev pub normal : WorldState → WorldState
normal s = record {
  cell = s.cell;
  row = s.cell.held;
  owner = s.owner;
  resource = s.cell.resource;
  holder = s.holder;
  drivers = s.drivers;
}

sound_of : (s : WorldState) → s.row ≡ s.cell.held → s.resource ≡ s.cell.resource → GoesIn s → IsSound s
sound_of s e f g = record { row = e; resource = f; goes = g }

kept_if : (x : Bool) (a b : WorldState) → (x ≡ true → IsSound a) → IsSound b → IsSound (if x then a else b)
kept_if true a b on h = on refl
kept_if false a b on h = h

-- ---- one driver comes to a stage of which nothing is claimed

kept_stage : (s : WorldState) (at : ℕ) (d : Driver) (stage : Stage) → slice_get s.drivers at ≡ Some d → IsQuiet stage → IsSound s
    → IsSound (with_stage s at d.attempt stage)
kept_stage s at d stage is q h = record {
  row = h.row;
  resource = h.resource;
  goes = goes_quiet (side_of s.cell) s.drivers at (at_stage d.attempt stage) d s.owner s.holder is q h.goes;
}

kept_begun : (s : WorldState) (a : Option ℕ) → IsSound s → IsSound (begun s a)
kept_begun s a h = record {
  row = h.row;
  resource = h.resource;
  goes = goes_more (side_of s.cell) s.drivers (at_stage a Stage.TryLock) s.owner s.holder tt h.goes;
}

kept_come : (s : WorldState) (n : ℕ) (x : Option Sent) → IsSound s → IsSound (come s n x)
kept_come s n None h = h
kept_come s n (Some sent) h = kept_begun s (Some n) h

kept_locked : (s : WorldState) (at : ℕ) (d : Driver) → slice_get s.drivers at ≡ Some d → IsSound s
    → IsSound (with_stage (record {
      cell = s.cell;
      row = s.row;
      owner = s.owner;
      resource = s.resource;
      holder = Some at;
      drivers = s.drivers;
    }) at d.attempt (Stage.Begin true))
kept_locked s at d is h =
    let n = at_stage d.attempt (Stage.Begin true) in
    let side = side_of s.cell in
    record {
      row = h.row;
      resource = h.resource;
      goes = set_owner side (driver_at s.drivers s.owner) n _ _ tt (put_at s.drivers at n d s.owner is)
          (subst (λ (y : Driver). Goes side (driver_at s.drivers s.owner) y) (sym (set_here s.drivers at n d is))
          (holder_rests side (driver_at s.drivers s.owner) (driver_at s.drivers s.holder) n (λ w. w) h.goes));
    }

kept_lock_by : (s : WorldState) (at : ℕ) (d : Driver) (stage : Stage) → slice_get s.drivers at ≡ Some d → IsSound s
    → IsSound (lock_by s at d.attempt stage)
kept_lock_by s at d Stage.TryLock is h = kept_locked s at d is h
kept_lock_by s at d Stage.AwaitLock is h = kept_locked s at d is h
kept_lock_by s at d (Stage.Begin locked) is h = h
kept_lock_by s at d (Stage.Work task) is h = h
kept_lock_by s at d (Stage.End outcome before) is h = h
kept_lock_by s at d (Stage.Finish ok) is h = h
kept_lock_by s at d Stage.Unsure is h = h
kept_lock_by s at d (Stage.Answer answer) is h = h
kept_lock_by s at d Stage.Done is h = h

kept_lock : (s : WorldState) (at : ℕ) (d : Option Driver) (l : Option ℕ) → slice_get s.drivers at ≡ d → IsSound s
    → IsSound (lock s at d l)
kept_lock s at d (Some l) is h = h
kept_lock s at None None is h = h
kept_lock s at (Some d) None is h = kept_lock_by s at d d.stage is h

missed_quiet : (a : Option ℕ) → IsQuiet (missed_at_once a)
missed_quiet None = tt
missed_quiet (Some n) = tt

kept_miss_by : (s : WorldState) (at : ℕ) (d : Driver) (stage : Stage) → slice_get s.drivers at ≡ Some d → IsSound s
    → IsSound (miss_by s at d.attempt stage)
kept_miss_by s at d Stage.TryLock is h = kept_stage s at d (missed_at_once d.attempt) is (missed_quiet d.attempt) h
kept_miss_by s at d Stage.AwaitLock is h = h
kept_miss_by s at d (Stage.Begin locked) is h = h
kept_miss_by s at d (Stage.Work task) is h = h
kept_miss_by s at d (Stage.End outcome before) is h = h
kept_miss_by s at d (Stage.Finish ok) is h = h
kept_miss_by s at d Stage.Unsure is h = h
kept_miss_by s at d (Stage.Answer answer) is h = h
kept_miss_by s at d Stage.Done is h = h

kept_miss : (s : WorldState) (at : ℕ) (d : Option Driver) → slice_get s.drivers at ≡ d → IsSound s → IsSound (miss s at d)
kept_miss s at None is h = h
kept_miss s at (Some d) is h = kept_miss_by s at d d.stage is h

kept_give_up_by : (s : WorldState) (at : ℕ) (d : Driver) (stage : Stage) → slice_get s.drivers at ≡ Some d → IsSound s
    → IsSound (give_up_by s at d.attempt stage)
kept_give_up_by s at d (Stage.Work task) is h = h
kept_give_up_by s at d Stage.TryLock is h = kept_stage s at d Stage.Done is tt h
kept_give_up_by s at d Stage.AwaitLock is h = kept_stage s at d Stage.Done is tt h
kept_give_up_by s at d (Stage.Begin locked) is h = kept_stage s at d Stage.Done is tt h
kept_give_up_by s at d (Stage.End outcome before) is h = kept_stage s at d Stage.Done is tt h
kept_give_up_by s at d (Stage.Finish ok) is h = kept_stage s at d Stage.Done is tt h
kept_give_up_by s at d Stage.Unsure is h = kept_stage s at d Stage.Done is tt h
kept_give_up_by s at d (Stage.Answer answer) is h = kept_stage s at d Stage.Done is tt h
kept_give_up_by s at d Stage.Done is h = kept_stage s at d Stage.Done is tt h

kept_give_up : (s : WorldState) (at : ℕ) (d : Option Driver) → slice_get s.drivers at ≡ d → IsSound s
    → IsSound (give_up s at d)
kept_give_up s at None is h = h
kept_give_up s at (Some d) is h = kept_give_up_by s at d d.stage is h

-- ---- a driver comes to a stage of which something is claimed

pub normal_sound : (s : WorldState) → GoesIn s → IsSound (normal s)
normal_sound s g = record { row = refl; resource = refl; goes = g }

pub owner_driver : (s : WorldState) (at : ℕ) (d : Driver) → slice_get s.drivers at ≡ Some d → s.owner ≡ Some at
    → driver_at s.drivers s.owner ≡ d
owner_driver s at d is own = ap (driver_at s.drivers) own ∙ ap or_over is

-- what a driver knows whose number the row has
pub owner_knows : (s : WorldState) (at : ℕ) (d : Driver) (stage : Stage) → slice_get s.drivers at ≡ Some d
    → d.stage ≡ stage → s.owner ≡ Some at → GoesIn s → Knows (side_of s.cell) d.attempt stage
owner_knows s at d stage is st own g =
    subst (Knows (side_of s.cell) d.attempt) st
    (subst (λ (y : Driver). Knows (side_of s.cell) y.attempt y.stage) (owner_driver s at d is own) g.owned)

claims_owner : (s : WorldState) (at : ℕ) (d : Driver) (stage : Stage) → slice_get s.drivers at ≡ Some d
    → (IsAtEnd stage → IsAtEnd d.stage)
    → (Knows (side_of s.cell) d.attempt d.stage → Knows (side_of s.cell) d.attempt stage) → GoesIn s
    → (s.owner ≡ Some at)
    ⊎ (driver_at (slice_set s.drivers at (at_stage d.attempt stage)) s.owner ≡ driver_at s.drivers s.owner)
    → Goes (side_of s.cell) (driver_at (slice_set s.drivers at (at_stage d.attempt stage)) s.owner)
    (driver_at s.drivers s.holder)
claims_owner s at d stage is ends k g (inl own) =
    let n = at_stage d.attempt stage in
    subst (λ (y : Driver). Goes (side_of s.cell) y (driver_at s.drivers s.holder))
    (sym (ap (driver_at (slice_set s.drivers at n)) own ∙ set_here s.drivers at n d is))
    (owner_claims (side_of s.cell) d n (driver_at s.drivers s.holder) ends k
    (subst (λ (y : Driver). Goes (side_of s.cell) y (driver_at s.drivers s.holder)) (owner_driver s at d is own) g))
claims_owner s at d stage is ends k g (inr e) =
    subst (λ (y : Driver). Goes (side_of s.cell) y (driver_at s.drivers s.holder)) (sym e) g

-- one of which no more is claimed than of the stage before
kept_claim : (s : WorldState) (at : ℕ) (d : Driver) (stage : Stage) → slice_get s.drivers at ≡ Some d
    → (IsAtWork stage → ⊥) → (IsAtEnd stage → IsAtEnd d.stage)
    → (Knows (side_of s.cell) d.attempt d.stage → Knows (side_of s.cell) d.attempt stage) → GoesIn s
    → IsSound (with_stage (normal s) at d.attempt stage)
kept_claim s at d stage is rests ends k g =
    let n = at_stage d.attempt stage in
    record {
      row = refl;
      resource = refl;
      goes = set_holder (side_of s.cell) (driver_at (slice_set s.drivers at n) s.owner) (driver_at s.drivers s.holder) n _
          rests (put_at s.drivers at n d s.holder is)
          (claims_owner s at d stage is ends k g (set_at s.drivers at n s.owner));
    }

not_itself : (at : ℕ) → (at == at) ≡ false → ⊥
not_itself at e = grind (arith, nat_tests)

not_owner : (o : Option ℕ) (at : ℕ) → is_owner o at ≡ false → o ≡ Some at → ⊥
not_owner o at e own = not_itself at (sym (ap (λ (x : Option ℕ). is_owner x at) own) ∙ e)

other_owner : (s : WorldState) (at : ℕ) (d n : Driver) → (s.owner ≡ Some at → ⊥) → GoesIn s
    → (s.owner ≡ Some at) ⊎ (driver_at (slice_set s.drivers at n) s.owner ≡ driver_at s.drivers s.owner)
    → Goes (side_of s.cell) (driver_at (slice_set s.drivers at n) s.owner) (driver_at s.drivers s.holder)
other_owner s at d n other g (inl own) = absurd (other own)
other_owner s at d n other g (inr e) =
    subst (λ (y : Driver). Goes (side_of s.cell) y (driver_at s.drivers s.holder)) (sym e) g

-- one of a driver whose number the row hasn't
kept_other : (s : WorldState) (at : ℕ) (d : Driver) (stage : Stage) → slice_get s.drivers at ≡ Some d
    → is_owner s.owner at ≡ false → (IsAtWork stage → ⊥) → GoesIn s → IsSound (with_stage (normal s) at d.attempt stage)
kept_other s at d stage is o rests g =
    let n = at_stage d.attempt stage in
    record {
      row = refl;
      resource = refl;
      goes = set_holder (side_of s.cell) (driver_at (slice_set s.drivers at n) s.owner) (driver_at s.drivers s.holder) n _
          rests (put_at s.drivers at n d s.holder is)
          (other_owner s at d n (not_owner s.owner at o) g (set_at s.drivers at n s.owner));
    }

-- ---- a committed transaction, of a world whose row and resource are the cell's

-- one that writes the driver's number
owned_tx : (s : WorldState) (c : Cell) (at : ℕ) (d : Driver) (stage : Stage) (row : Held)
    → slice_get s.drivers at ≡ Some d → row ≡ c.held → s.cell.resource ≡ c.resource
    → Knows (side_of c) d.attempt stage → (IsAtEnd stage → ⊥) → is_under_way c.held ≡ true
    → IsSound (record {
      cell = c;
      row = row;
      owner = Some at;
      resource = s.cell.resource;
      holder = s.holder;
      drivers = slice_set s.drivers at (at_stage d.attempt stage);
    })
owned_tx s c at d stage row is e f k ends on = record {
  row = e;
  resource = f;
  goes = subst (λ (y : Driver). Goes (side_of c) y (driver_at (slice_set s.drivers at (at_stage d.attempt stage)) s.holder))
      (sym (set_here s.drivers at (at_stage d.attempt stage) d is))
      (goes_claimed (side_of c) (at_stage d.attempt stage) _ k ends on);
}

-- one that leaves the number, and after which its driver claims nothing
quiet_tx : (s : WorldState) (c : Cell) (at : ℕ) (d : Driver) (stage : Stage) (row : Held)
    → slice_get s.drivers at ≡ Some d → row ≡ c.held → s.cell.resource ≡ c.resource → IsQuiet stage
    → Goes (side_of c) (driver_at s.drivers s.owner) (driver_at s.drivers s.holder)
    → IsSound (record {
      cell = c;
      row = row;
      owner = s.owner;
      resource = s.cell.resource;
      holder = s.holder;
      drivers = slice_set s.drivers at (at_stage d.attempt stage);
    })
quiet_tx s c at d stage row is e f q g = record {
  row = e;
  resource = f;
  goes = goes_quiet (side_of c) s.drivers at (at_stage d.attempt stage) d s.owner s.holder is q g;
}

-- the driver whose number the row has was at the end of its work, and nobody works
over_tx : (s : WorldState) (c : Cell) (at : ℕ) (d : Driver) (stage : Stage) (row : Held) → slice_get s.drivers at ≡ Some d
    → s.owner ≡ Some at → row ≡ c.held → s.cell.resource ≡ c.resource → IsAtEnd d.stage → (IsAtWork stage → ⊥)
    → Knows (side_of c) d.attempt stage → GoesIn s
    → IsSound (record {
      cell = c;
      row = row;
      owner = s.owner;
      resource = s.cell.resource;
      holder = s.holder;
      drivers = slice_set s.drivers at (at_stage d.attempt stage);
    })
over_tx s c at d stage row is own e f end_of rests k g =
    let n = at_stage d.attempt stage in
    record {
      row = e;
      resource = f;
      goes = subst (λ (y : Driver). Goes (side_of c) y (driver_at (slice_set s.drivers at n) s.holder))
          (sym (ap (driver_at (slice_set s.drivers at n)) own ∙ set_here s.drivers at n d is))
          (set_holder (side_of c) n (driver_at s.drivers s.holder) n _ rests (put_at s.drivers at n d s.holder is)
          (goes_over (side_of s.cell) (side_of c) (driver_at s.drivers s.owner) n (driver_at s.drivers s.holder)
          (subst (λ (y : Driver). IsAtEnd y.stage) (sym (owner_driver s at d is own)) end_of) rests k g));
    }

-- ---- a transaction, however it goes

abbrev committed : Commit → WorldState → ℕ → Option ℕ → Stage → Transaction → WorldState
committed commit s at a stage tx = transacted commit s at a tx (unsure a stage tx)

kept_commit : (commit : Commit) (s : WorldState) (at : ℕ) (d : Driver) (stage : Stage) (tx : Transaction)
    → slice_get s.drivers at ≡ Some d → IsSound s → IsSound (written s at d.attempt tx tx.stage)
    → IsSound (written s at d.attempt tx (unsure d.attempt stage tx))
    → IsSound (with_stage s at d.attempt (unsure d.attempt stage tx))
    → IsSound (committed commit s at d.attempt stage tx)
kept_commit Commit.Returned s at d stage tx is h returned unsure_written unsure_not = returned
kept_commit Commit.Failed s at d stage tx is h returned unsure_written unsure_not = kept_stage s at d Stage.Done is tt h
kept_commit (Commit.Unsure true) s at d stage tx is h returned unsure_written unsure_not = unsure_written
kept_commit (Commit.Unsure false) s at d stage tx is h returned unsure_written unsure_not = unsure_not

-- one that writes nothing
kept_nothing : (commit : Commit) (s : WorldState) (at : ℕ) (d : Driver) (stage next : Stage)
    → slice_get s.drivers at ≡ Some d → GoesIn s → IsSound (with_stage (normal s) at d.attempt next)
    → IsSound (with_stage (normal s) at d.attempt (unsure d.attempt stage (nothing s.cell.held next)))
    → IsSound (committed commit (normal s) at d.attempt stage (nothing s.cell.held next))
kept_nothing commit s at d stage next is g returned again =
    kept_commit commit (normal s) at d stage (nothing s.cell.held next) is (normal_sound s g) returned again again

-- ---- the first transaction of a request

from_if : (x : Bool) (y : Option Sent) (sent : Sent) → (if x then None else y) ≡ Some sent
    → (x ≡ false) × (y ≡ Some sent)
from_if true y sent e = cc
from_if false y sent e = (refl, e)

one_back : (n : ℕ) → (n == 0) ≡ false → n - 1 + 1 ≡ n
one_back n e = grind (arith, nat_tests)

pub number_of : (c : Cell) (n : ℕ) (sent : Sent) → AreNumbered c → sent_as c.sent n ≡ Some sent → sent.attempt ≡ n
number_of c n sent num e =
    let p = from_if (n == 0) (slice_get c.sent (n - 1)) sent e in num (n - 1) sent p.1 ∙ one_back n p.0

arrives : (c : Cell) (n : ℕ) (sent : Sent) → sent_as c.sent n ≡ Some sent
    → cell_steps c (events_of Effect.Arrive (Some n)) ≡ arrive c (Some sent)
arrives c n sent e = ap (arrive c) e

-- it is answered: what is held may change only while nothing is under way
answered_goes : (c : Cell) (o h : Driver) (sent : Sent) (x : Held) (a : Answer)
    → (is_under_way c.held ≡ true → x ≡ c.held) → x.work ≡ c.held.work → Goes (side_of c) o h
    → Goes (side_of (arrived c sent x (Answered a))) o h
answered_goes c o h sent x a same work g =
    goes_held (side_of c) x (c.given ++ record { attempt = sent.attempt; answer = a } ∷ []) o h same work
    (given_more c.given (record { attempt = sent.attempt; answer = a } ∷ [])) g

answers_of : (a : Option ℕ) (n m : ℕ) → a ≡ Some n → m ≡ n → IfSome a (λ k. Some m ≡ Some k)
answers_of None n m e f = tt
answers_of (Some k) n m e f = ap Some f ∙ sym e

pub cell_is : (c : Cell) (a : Option ℕ) (n : ℕ) (sent : Sent) (after : Cell) → a ≡ Some n → sent_as c.sent n ≡ Some sent
    → arrive c (Some sent) ≡ after → cell_steps c (events_of Effect.Arrive a) ≡ after
cell_is c None n sent after e found eq = cc
cell_is c (Some k) n sent after e found eq =
    ap (λ (x : Option ℕ). cell_steps c (events_of Effect.Arrive x)) e ∙ (arrives c n sent found ∙ eq)

-- the event of a request, by whether it is put off
abbrev pub effect_of : Bool → Begun → Effect
effect_of put_off (Answered a) = arrival put_off
effect_of put_off (Begun.Work w) = Effect.Arrive

pub arrived_is : (c : Cell) (a : Option ℕ) (n : ℕ) (sent : Sent) (x : Held) (b : Begun) → a ≡ Some n
    → sent_as c.sent n ≡ Some sent → arrive c (Some sent) ≡ arrived c sent x b
    → cell_steps c (events_of (effect_of false b) a) ≡ arrived c sent x b
arrived_is c a n sent x (Answered y) e found eq = cell_is c a n sent (arrived c sent x (Answered y)) e found eq
arrived_is c a n sent x (Begun.Work w) e found eq = cell_is c a n sent (arrived c sent x (Begun.Work w)) e found eq

pub put_off_is : (c : Cell) (a : Option ℕ) (n : ℕ) (sent : Sent) → a ≡ Some n → sent_as c.sent n ≡ Some sent
    → cell_steps c (events_of Effect.PutOff a) ≡ arrived c sent c.held (Answered (busy sent.request.kind))
put_off_is c None n sent e found = cc
put_off_is c (Some k) n sent e found =
    ap (λ (x : Option ℕ). cell_steps c (events_of Effect.PutOff x)) e ∙ ap (put_off c) found

-- the stage of a driver that doesn't know of its first transaction
begin_if : (x : Bool) (locked : Bool) → x ≡ false → IsQuiet (if x then Stage.Unsure else Stage.Begin locked)
begin_if true locked e = cc
begin_if false locked e = tt

begins_anew : (a : Option ℕ) (locked : Bool) (tx : Transaction) → tx.takes_over ≡ false
    → IsQuiet (unsure a (Stage.Begin locked) tx)
begins_anew None locked tx e = tt
begins_anew (Some n) locked tx e = begin_if tx.takes_over locked e

begins_unsure : (a : Option ℕ) (n : ℕ) (locked : Bool) (tx : Transaction) → a ≡ Some n → tx.takes_over ≡ true
    → unsure a (Stage.Begin locked) tx ≡ Stage.Unsure
begins_unsure None n locked tx e t = cc
begins_unsure (Some k) n locked tx e t = ap (λ (x : Bool). if x then Stage.Unsure else Stage.Begin locked) t

kept_answered : (s : WorldState) (at : ℕ) (d : Driver) (locked put_off : Bool) (sent : Sent) (x : Held) (a : Answer)
    (stage : Stage)
    → slice_get s.drivers at ≡ Some d
    → (is_under_way s.cell.held ≡ true → x ≡ s.cell.held) → x.work ≡ s.cell.held.work
    → cell_steps s.cell (events_of (arrival put_off) d.attempt) ≡ arrived s.cell sent x (Answered a)
    → IsQuiet stage → GoesIn s
    → IsSound (written (normal s) at d.attempt (first_tx locked put_off s.cell.held sent.request x (Answered a)) stage)
kept_answered s at d locked put_off sent x a stage is same work eq q g =
    subst (λ (c : Cell). IsSound (record {
      cell = c;
      row = x;
      owner = s.owner;
      resource = s.cell.resource;
      holder = s.holder;
      drivers = slice_set s.drivers at (at_stage d.attempt stage);
    })) (sym eq)
    (quiet_tx s (arrived s.cell sent x (Answered a)) at d stage x is refl refl q
    (answered_goes s.cell (driver_at s.drivers s.owner) (driver_at s.drivers s.holder) sent x a same work g))

kept_pending : (s : WorldState) (at : ℕ) (d : Driver) (put_off : Bool) (sent : Sent) (x : Held) (w : Work) (stage : Stage)
    → slice_get s.drivers at ≡ Some d → x.work ≡ Some sent.request
    → cell_steps s.cell (events_of Effect.Arrive d.attempt) ≡ arrived s.cell sent x (Begun.Work w)
    → Knows (side_of (arrived s.cell sent x (Begun.Work w))) d.attempt stage → (IsAtEnd stage → ⊥)
    → IsSound (written (normal s) at d.attempt (first_tx true put_off s.cell.held sent.request x (Begun.Work w)) stage)
kept_pending s at d put_off sent x w stage is due eq k ends =
    subst (λ (c : Cell). IsSound (record {
      cell = c;
      row = x;
      owner = Some at;
      resource = s.cell.resource;
      holder = s.holder;
      drivers = slice_set s.drivers at (at_stage d.attempt stage);
    })) (sym eq)
    (owned_tx s (arrived s.cell sent x (Begun.Work w)) at d stage x is refl refl k ends
    (by_work (Some sent.request) x due refl))

knows_unsure : (side : Side) (a : Option ℕ) (r : Request) → side.held.work ≡ Some r → IsAnswered side.worker a
    → Knows side a Stage.Unsure
knows_unsure side a r e k =
    subst (λ (w : Option Request). IsSomeAnd w (λ q. IsAnswered side.worker a)) (sym e) k

kept_first : (commit : Commit) (s : WorldState) (at : ℕ) (d : Driver) (locked put_off : Bool) (n : ℕ) (sent : Sent)
    (x : Held) (b : Begun)
    → slice_get s.drivers at ≡ Some d → d.attempt ≡ Some n → sent.attempt ≡ n → is_owner s.owner at ≡ false
    → (is_under_way s.cell.held ≡ true → x ≡ s.cell.held)
    → ((y : Answer) → b ≡ Answered y → x.work ≡ s.cell.held.work)
    → ((w : Work) → b ≡ Begun.Work w → x.work ≡ Some sent.request)
    → cell_steps s.cell (events_of (effect_of put_off b) d.attempt) ≡ arrived s.cell sent x b
    → GoesIn s
    → IsSound (committed commit (normal s) at d.attempt (Stage.Begin locked)
    (first_tx locked put_off s.cell.held sent.request x b))
kept_first commit s at d locked put_off n sent x (Answered a) is num same_n o same work due eq g =
    let tx = first_tx locked put_off s.cell.held sent.request x (Answered a) in
    let q = begins_anew d.attempt locked tx refl in
    kept_commit commit (normal s) at d (Stage.Begin locked) tx is (normal_sound s g)
    (kept_answered s at d locked put_off sent x a (Stage.Answer a) is same (work a refl) eq tt g)
    (kept_answered s at d locked put_off sent x a _ is same (work a refl) eq q g)
    (kept_stage (normal s) at d _ is q (normal_sound s g))
kept_first commit s at d true put_off n sent x (Begun.Work w) is num same_n o same work due eq g =
    let tx = first_tx true put_off s.cell.held sent.request x (Begun.Work w) in
    let c = arrived s.cell sent x (Begun.Work w) in
    let k = answers_of d.attempt n sent.attempt num same_n in
    let e = begins_unsure d.attempt n true tx num refl in
    kept_commit commit (normal s) at d (Stage.Begin true) tx is (normal_sound s g)
    (kept_pending s at d put_off sent x w (Stage.Work (Task.Pending sent.request)) is (due w refl) eq (due w refl, k)
    (λ y. y))
    (subst (λ (y : Stage). IsSound (written (normal s) at d.attempt tx y)) (sym e)
    (kept_pending s at d put_off sent x w Stage.Unsure is (due w refl) eq
    (knows_unsure (side_of c) d.attempt sent.request (due w refl) k) (λ y. y)))
    (subst (λ (y : Stage). IsSound (with_stage (normal s) at d.attempt y)) (sym e)
    (kept_other s at d Stage.Unsure is o (λ y. y) g))
kept_first commit s at d false put_off n sent x (Begun.Work w) is num same_n o same work due eq g =
    kept_nothing commit s at d (Stage.Begin false) Stage.AwaitLock is g
    (kept_stage (normal s) at d Stage.AwaitLock is tt (normal_sound s g))
    (kept_stage (normal s) at d _ is (begins_anew d.attempt false (nothing s.cell.held Stage.AwaitLock) refl)
    (normal_sound s g))

abbrev pub begun_now : WorldState → Request → Held × Begun
begun_now s r = begun_held s.cell.order.mode s.cell.order.first_poll s.cell.held r s.cell.order.attributes

abbrev pub begun_unless : Bool → WorldState → Request → Held × Begun
begun_unless put_off s r = if put_off then (s.cell.held, Answered (busy r.kind)) else begun_now s r

-- whether it is put off
abbrev pub is_put_off : WorldState → Permit → Request → Bool
is_put_off s may r = not may.begin && begins s.cell.order.mode s.cell.held r s.cell.order.attributes

-- a request that is put off, and one that isn't
kept_unless : (commit : Commit) (s : WorldState) (at : ℕ) (d : Driver) (locked put_off : Bool) (n : ℕ) (sent : Sent)
    → slice_get s.drivers at ≡ Some d → d.attempt ≡ Some n → sent_as s.cell.sent n ≡ Some sent → IsTidy s.cell.held
    → AreNumbered s.cell → is_owner s.owner at ≡ false → GoesIn s
    → IsSound (committed commit (normal s) at d.attempt (Stage.Begin locked)
    (first locked false put_off s.cell.held sent.request (begun_unless put_off s sent.request)))
kept_unless commit s at d locked true n sent is num found held numbered o g =
    kept_first commit s at d locked true n sent s.cell.held (Answered (busy sent.request.kind)) is num
    (number_of s.cell n sent numbered found) o (λ on. refl) (λ y e. refl) (λ w e. cc)
    (put_off_is s.cell d.attempt n sent num found) g
kept_unless commit s at d locked false n sent is num found held numbered o g =
    let b = begun_now s sent.request in
    kept_first commit s at d locked false n sent b.0 b.1 is num (number_of s.cell n sent numbered found) o
    (busy_same s.cell.order.mode s.cell.order.first_poll s.cell.held sent.request s.cell.order.attributes held)
    (answered_work s.cell.order.mode s.cell.order.first_poll s.cell.held sent.request s.cell.order.attributes)
    (due_pending s.cell.order.mode s.cell.order.first_poll s.cell.held sent.request s.cell.order.attributes)
    (arrived_is s.cell d.attempt n sent b.0 b.1 num found refl) g

kept_firsts : (commit : Commit) (s : WorldState) (at : ℕ) (d : Driver) (locked o put_off : Bool) (n : ℕ) (sent : Sent)
    → slice_get s.drivers at ≡ Some d → d.attempt ≡ Some n → sent_as s.cell.sent n ≡ Some sent → IsTidy s.cell.held
    → AreNumbered s.cell → is_owner s.owner at ≡ o → GoesIn s
    → IsSound (committed commit (normal s) at d.attempt (Stage.Begin locked)
    (first locked o put_off s.cell.held sent.request (begun_unless put_off s sent.request)))
kept_firsts commit s at d locked true put_off n sent is num found held numbered o g =
    kept_nothing commit s at d (Stage.Begin locked) Stage.Done is g
    (kept_stage (normal s) at d Stage.Done is tt (normal_sound s g))
    (kept_stage (normal s) at d _ is (begins_anew d.attempt locked (nothing s.cell.held Stage.Done) refl) (normal_sound s g))
kept_firsts commit s at d locked false put_off n sent is num found held numbered o g =
    kept_unless commit s at d locked put_off n sent is num found held numbered o g

kept_sent : (commit : Commit) (s : WorldState) (at : ℕ) (d : Driver) (may : Permit) (locked : Bool) (n : ℕ) (x : Option Sent)
    → slice_get s.drivers at ≡ Some d → d.attempt ≡ Some n → sent_as s.cell.sent n ≡ x → IsTidy s.cell.held
    → AreNumbered s.cell → GoesIn s
    → IsSound (with_transaction (normal s) at d.attempt (Stage.Begin locked) commit (first_of (normal s) at may locked x))
kept_sent commit s at d may locked n None is num found held numbered g = normal_sound s g
kept_sent commit s at d may locked n (Some sent) is num found held numbered g =
    kept_firsts commit s at d locked (is_owner s.owner at) (is_put_off s may sent.request) n sent is
    num found held numbered refl g

-- ---- the first transaction of a take-up

unsure_none : (a : Option ℕ) (stage : Stage) (tx : Transaction) → a ≡ None → unsure a stage tx ≡ Stage.Done
unsure_none None stage tx e = refl
unsure_none (Some n) stage tx e = cc

quiet_if : (v : Bool) (stage : Stage) → IsQuiet stage → IsQuiet (if v then Stage.Done else stage)
quiet_if true stage q = tt
quiet_if false stage q = q

no_answer : (a w : Option ℕ) → a ≡ None → IfSome a (λ n. w ≡ Some n)
no_answer None w e = tt
no_answer (Some n) w e = cc

abbrev with_given_up : Cell → Cell
with_given_up c = record {
  order = c.order;
  recorded = c.recorded;
  held = given_up c.held;
  worker = c.worker;
  resource = c.resource;
  sent = c.sent;
  given = c.given;
}

gives_up : (c : Cell) → c.held.waiting ≡ true → cell_steps c (Event.GiveUpWaiting ∷ []) ≡ with_given_up c
gives_up c e = ap (λ (x : Bool). if x then with_given_up c else c) e

no_waiting : false ≡ true → ⊥
no_waiting e = cc

-- a driver that takes work over, or is done
knows_or_done : (side : Side) (a : Option ℕ) (task : Task) (v : Bool) → Knows side a (Stage.Work task)
    → Knows side a (if v then Stage.Done else Stage.Work task)
knows_or_done side a task true k = tt
knows_or_done side a task false k = k

not_at_end : (task : Task) (v : Bool) → IsAtEnd (if v then Stage.Done else Stage.Work task) → ⊥
not_at_end task true e = e
not_at_end task false e = e

kept_take_up : (s : WorldState) (at : ℕ) (d : Driver) (lost : Bool) (w : Option Request) (o v : Bool)
    → slice_get s.drivers at ≡ Some d → d.attempt ≡ None → s.cell.held.work ≡ w → is_operating s.cell.held ≡ o
    → (v ≡ true → s.cell.held.waiting ≡ true) → IsTidy s.cell.held → GoesIn s
    → IsSound (written (normal s) at d.attempt (take_up_by w o v s.cell.held)
    (if lost then Stage.Done else (take_up_by w o v s.cell.held).stage))
kept_take_up s at d lost (Some r) o v is num e f x held g =
    owned_tx s s.cell at d _ s.cell.held is refl refl
    (knows_or_done (side_of s.cell) d.attempt (Task.Pending r) lost (e, no_answer d.attempt s.cell.worker num))
    (not_at_end (Task.Pending r) lost) (by_work (Some r) s.cell.held e refl)
kept_take_up s at d lost None true v is num e f x held g =
    owned_tx s s.cell at d _ s.cell.held is refl refl
    (knows_or_done (side_of s.cell) d.attempt Task.Operation lost (e, f)) (not_at_end Task.Operation lost)
    (by_operation s.cell.held e f)
kept_take_up s at d lost None false true is num e f x held g =
    subst (λ (c : Cell). IsSound (record {
      cell = c;
      row = given_up s.cell.held;
      owner = s.owner;
      resource = s.cell.resource;
      holder = s.holder;
      drivers = slice_set s.drivers at (at_stage d.attempt (if lost then Stage.Done else Stage.Done));
    })) (sym (gives_up s.cell (x refl)))
    (quiet_tx s (with_given_up s.cell) at d (if lost then Stage.Done else Stage.Done) (given_up s.cell.held) is refl refl
    (quiet_if lost Stage.Done tt)
    (goes_held (side_of s.cell) (given_up s.cell.held) s.cell.given _ _
    (λ on. absurd (no_waiting (waiting_idle s.cell.held held (x refl) on))) refl (given_same s.cell.given) g))
kept_take_up s at d lost None false false is num e f x held g =
    quiet_tx s s.cell at d (if lost then Stage.Done else Stage.Done) s.cell.held is refl refl
    (quiet_if lost Stage.Done tt) g

and_first : (a b : Bool) → a && b ≡ true → a ≡ true
and_first true b e = refl
and_first false b e = cc

kept_begin : (commit : Commit) (s : WorldState) (at : ℕ) (d : Driver) (may : Permit) (locked : Bool) (a : Option ℕ)
    → slice_get s.drivers at ≡ Some d → d.attempt ≡ a → IsTidy s.cell.held → AreNumbered s.cell → GoesIn s
    → IsSound (with_transaction (normal s) at d.attempt (Stage.Begin locked) commit (begin_of (normal s) at may a locked))
kept_begin commit s at d may locked (Some n) is num held numbered g =
    kept_sent commit s at d may locked n (sent_as s.cell.sent n) is num refl held numbered g
kept_begin commit s at d may locked None is num held numbered g =
    let tx = take_up may.give_up s.cell.held in
    let v = s.cell.held.waiting && may.give_up in
    let x : (v ≡ true → s.cell.held.waiting ≡ true) = (λ e. and_first s.cell.held.waiting may.give_up e) in
    let e = unsure_none d.attempt (Stage.Begin locked) tx num in
    kept_commit commit (normal s) at d (Stage.Begin locked) tx is (normal_sound s g)
    (kept_take_up s at d false s.cell.held.work (is_operating s.cell.held) v is num refl refl x held g)
    (subst (λ (y : Stage). IsSound (written (normal s) at d.attempt tx y)) (sym e)
    (kept_take_up s at d true s.cell.held.work (is_operating s.cell.held) v is num refl refl x held g))
    (subst (λ (y : Stage). IsSound (with_stage (normal s) at d.attempt y)) (sym e)
    (kept_stage (normal s) at d Stage.Done is tt (normal_sound s g)))

-- ---- a driver that doesn't know whether its first transaction was committed

same_number : (k at : ℕ) → (k == at) ≡ true → k ≡ at
same_number k at e = grind (arith, nat_tests)

pub owner_is : (o : Option ℕ) (at : ℕ) → is_owner o at ≡ true → o ≡ Some at
owner_is None at e = cc
owner_is (Some k) at e = ap Some (same_number k at e)

unsure_rests : (a : Option ℕ) (tx : Transaction) → IsAtWork (unsure a Stage.Unsure tx) → ⊥
unsure_rests None tx w = w
unsure_rests (Some n) tx w = w

unsure_ends : (a : Option ℕ) (tx : Transaction) (P : Type 0) → IsAtEnd (unsure a Stage.Unsure tx) → P
unsure_ends None tx P e = absurd e
unsure_ends (Some n) tx P e = absurd e

unsure_knows : (side : Side) (a : Option ℕ) (tx : Transaction) → Knows side a Stage.Unsure
    → Knows side a (unsure a Stage.Unsure tx)
unsure_knows side None tx k = tt
unsure_knows side (Some n) tx k = k

unsure_again : (s : WorldState) (at : ℕ) (d : Driver) (tx : Transaction) → slice_get s.drivers at ≡ Some d
    → d.stage ≡ Stage.Unsure → GoesIn s → IsSound (with_stage (normal s) at d.attempt (unsure d.attempt Stage.Unsure tx))
unsure_again s at d tx is st g =
    kept_claim s at d (unsure d.attempt Stage.Unsure tx) is (unsure_rests d.attempt tx)
    (unsure_ends d.attempt tx (IsAtEnd d.stage))
    (λ k. unsure_knows (side_of s.cell) d.attempt tx (subst (Knows (side_of s.cell) d.attempt) st k)) g

resumed_answers : (w : Option Request) (r : Request) (P : Type 0) → w ≡ Some r → IsSomeAnd w (λ q. P) → P
resumed_answers None r P e k = absurd k
resumed_answers (Some q) r P e k = k

kept_resumed : (s : WorldState) (at : ℕ) (d : Driver) (r : Request) → slice_get s.drivers at ≡ Some d
    → s.owner ≡ Some at → s.cell.held.work ≡ Some r → Knows (side_of s.cell) d.attempt Stage.Unsure
    → IsSound (with_stage (normal s) at d.attempt (Stage.Work (Task.Pending r)))
kept_resumed s at d r is own e k =
    subst (λ (o : Option ℕ). IsSound (record {
      cell = s.cell;
      row = s.cell.held;
      owner = o;
      resource = s.cell.resource;
      holder = s.holder;
      drivers = slice_set s.drivers at (at_stage d.attempt (Stage.Work (Task.Pending r)));
    })) (sym own)
    (owned_tx s s.cell at d (Stage.Work (Task.Pending r)) s.cell.held is refl refl
    (e, resumed_answers s.cell.held.work r (IsAnswered s.cell.worker d.attempt) e k) (λ y. y)
    (by_work (Some r) s.cell.held e refl))

kept_resume : (commit : Commit) (s : WorldState) (at : ℕ) (d : Driver) (o : Bool) (w : Option Request)
    → slice_get s.drivers at ≡ Some d → d.stage ≡ Stage.Unsure → is_owner s.owner at ≡ o → s.cell.held.work ≡ w
    → GoesIn s → IsSound (committed commit (normal s) at d.attempt Stage.Unsure (resume o s.cell.held w))
kept_resume commit s at d false w is st o e g =
    kept_nothing commit s at d Stage.Unsure (Stage.Begin true) is g
    (kept_stage (normal s) at d (Stage.Begin true) is tt (normal_sound s g))
    (unsure_again s at d (nothing s.cell.held (Stage.Begin true)) is st g)
kept_resume commit s at d true None is st o e g =
    kept_nothing commit s at d Stage.Unsure Stage.Done is g
    (kept_stage (normal s) at d Stage.Done is tt (normal_sound s g))
    (unsure_again s at d (nothing s.cell.held Stage.Done) is st g)
kept_resume commit s at d true (Some r) is st o e g =
    let own = owner_is s.owner at o in
    kept_nothing commit s at d Stage.Unsure (Stage.Work (Task.Pending r)) is g
    (kept_resumed s at d r is own e (owner_knows s at d Stage.Unsure is st own g))
    (unsure_again s at d (nothing s.cell.held (Stage.Work (Task.Pending r))) is st g)

-- ---- the last transaction of pending work

ended_held : (c : Cell) (x : Held) (a : Answer) (w : Option ℕ) → x ≡ (ended c x a w).held
ended_held c x a None = refl
ended_held c x a (Some n) = refl

ended_resource : (c : Cell) (x : Held) (a : Answer) (w : Option ℕ) → c.resource ≡ (ended c x a w).resource
ended_resource c x a None = refl
ended_resource c x a (Some n) = refl

pub ended_given : (c : Cell) (x : Held) (a : Answer) (n : ℕ) (w : Option ℕ) → w ≡ Some n
    → (ended c x a w).given ≡ c.given ++ record { attempt = n; answer = a } ∷ []
ended_given c x a n w e = ap (λ (y : Option ℕ). (ended c x a y).given) e

pub end_is : (c : Cell) (out : WorkOutcome) (r : Request) → c.held.work ≡ Some r
    → is_true_end c.order.mode r.kind out c.resource ≡ true
    → cell_steps c (Event.End out ∷ [])
    ≡ ended c (worked c.order.mode c.held r out).0 (worked c.order.mode c.held r out).1 c.worker
end_is c out r e t =
    ap (λ w. end_cell c w out) e
    ∙ ap (λ (x : Bool). if x
    then ended c (worked c.order.mode c.held r out).0 (worked c.order.mode c.held r out).1 c.worker else c) t

after_quiet : (a : Option ℕ) (x : Answer) → IsQuiet (after a x)
after_quiet None x = tt
after_quiet (Some n) x = tt

abbrev pub ending : Option ℕ → Option Mode → Held → WorkOutcome → Request → Transaction
ending a m x out r = record {
  row = (worked m x r out).0;
  takes_over = false;
  stage = after a (worked m x r out).1;
  effect = Effect.End out;
}

pub end_tx : (a : Option ℕ) (m : Option Mode) (x : Held) (out : WorkOutcome) (before : Option Answer) (r : Request)
    → can_end r.kind out ≡ true → end a true m x out before (Some r) ≡ ending a m x out r
end_tx a m x out before r e = ap (λ (y : Bool). if y then ending a m x out r else nothing x Stage.Done) e

-- the stage of a driver that doesn't know of its last transaction
end_rests : (a : Option ℕ) (out : WorkOutcome) (before : Option Answer) (tx : Transaction)
    → IsAtWork (unsure a (Stage.End out before) tx) → ⊥
end_rests None out before tx w = w
end_rests (Some n) out before tx w = w

-- if it writes nothing, it claims what it claimed
abbrev IsAsBefore : Option Answer → Stage → Type 0
IsAsBefore before next = answer_of next before ≡ before

end_knows : (side : Side) (a : Option ℕ) (out : WorkOutcome) (before : Option Answer) (tx : Transaction)
    → IsAsBefore before tx.stage → Knows side a (Stage.End out before)
    → Knows side a (unsure a (Stage.End out before) tx)
end_knows side None out before tx e k = tt
end_knows side (Some n) out before tx e k =
    subst (λ (x : Option Answer). Knows side (Some n) (Stage.End out x)) (sym e) k

end_again : (s : WorldState) (at : ℕ) (d : Driver) (out : WorkOutcome) (before : Option Answer) (tx : Transaction)
    → slice_get s.drivers at ≡ Some d → d.stage ≡ Stage.End out before → IsAsBefore before tx.stage → GoesIn s
    → IsSound (with_stage (normal s) at d.attempt (unsure d.attempt (Stage.End out before) tx))
end_again s at d out before tx is st e g =
    kept_claim s at d (unsure d.attempt (Stage.End out before) tx) is (end_rests d.attempt out before tx)
    (λ y. subst IsAtEnd (sym st) tt)
    (λ k. end_knows (side_of s.cell) d.attempt out before tx e (subst (Knows (side_of s.cell) d.attempt) st k)) g

-- a try that wasn't committed: the work is pending as before
pending_knows : (side : Side) (a : Option ℕ) (out : WorkOutcome) (before : Option Answer) (m : Option Mode) (x : Held)
    (r : Request) → side.held.work ≡ Some r → Knows side a (Stage.End out before)
    → Knows side a (unsure a (Stage.End out before) (ending a m x out r))
pending_knows side None out before m x r e k = tt
pending_knows side (Some n) out before m x r e k =
    let y = Some (worked m x r out).1 in
    subst (KnowsEnd side (Some n) out y) (sym e) (subst (KnowsEnd side (Some n) out before) e k)

-- a try that was committed: it has given its answer
ended_knows : (c : Cell) (a : Option ℕ) (out : WorkOutcome) (before : Option Answer) (r : Request)
    → IsAnswered c.worker a
    → Knows (side_of (ended c (worked c.order.mode c.held r out).0 (worked c.order.mode c.held r out).1 c.worker)) a
    (unsure a (Stage.End out before) (ending a c.order.mode c.held out r))
ended_knows c None out before r k = tt
ended_knows c (Some n) out before r k =
    let after = worked c.order.mode c.held r out in
    let side = side_of (ended c after.0 after.1 c.worker) in
    subst (KnowsEnd side (Some n) out (Some after.1))
    (sym (sym (ap (λ (x : Held). x.work) (ended_held c after.0 after.1 c.worker)) ∙ worked_idle c.order.mode c.held r out))
    (subst (λ (xs : List Given). IsGivenTo xs n after.1) (sym (ended_given c after.0 after.1 n c.worker k))
    (given_last c.given n after.1))

kept_ended : (s : WorldState) (at : ℕ) (d : Driver) (out : WorkOutcome) (before : Option Answer) (r : Request)
    (stage : Stage)
    → slice_get s.drivers at ≡ Some d → d.stage ≡ Stage.End out before → s.owner ≡ Some at
    → s.cell.held.work ≡ Some r → is_true_end s.cell.order.mode r.kind out s.cell.resource ≡ true
    → (IsAtWork stage → ⊥)
    → Knows (side_of (ended s.cell (worked s.cell.order.mode s.cell.held r out).0
    (worked s.cell.order.mode s.cell.held r out).1 s.cell.worker)) d.attempt stage
    → GoesIn s
    → IsSound (written (normal s) at d.attempt (ending d.attempt s.cell.order.mode s.cell.held out r) stage)
kept_ended s at d out before r stage is st own e t rests k g =
    let x = worked s.cell.order.mode s.cell.held r out in
    subst (λ (c : Cell). IsSound (record {
      cell = c;
      row = x.0;
      owner = s.owner;
      resource = s.cell.resource;
      holder = s.holder;
      drivers = slice_set s.drivers at (at_stage d.attempt stage);
    })) (sym (end_is s.cell out r e t))
    (over_tx s (ended s.cell x.0 x.1 s.cell.worker) at d stage x.0 is own (ended_held s.cell x.0 x.1 s.cell.worker)
    (ended_resource s.cell x.0 x.1 s.cell.worker) (subst IsAtEnd (sym st) tt) rests k g)

kept_ending : (commit : Commit) (s : WorldState) (at : ℕ) (d : Driver) (out : WorkOutcome) (before : Option Answer)
    (r : Request)
    → slice_get s.drivers at ≡ Some d → d.stage ≡ Stage.End out before → s.owner ≡ Some at
    → s.cell.held.work ≡ Some r → Knows (side_of s.cell) d.attempt (Stage.End out before)
    → is_true_end s.cell.order.mode r.kind out s.cell.resource ≡ true → IsAnswered s.cell.worker d.attempt → GoesIn s
    → IsSound (committed commit (normal s) at d.attempt (Stage.End out before)
    (end d.attempt true s.cell.order.mode s.cell.held out before (Some r)))
kept_ending commit s at d out before r is st own e k t answered g =
    let m = s.cell.order.mode in
    let tx = ending d.attempt m s.cell.held out r in
    let x = worked m s.cell.held r out in
    let q = after_quiet d.attempt x.1 in
    subst (λ (y : Transaction). IsSound (committed commit (normal s) at d.attempt (Stage.End out before) y))
    (sym (end_tx d.attempt m s.cell.held out before r (can_end_so m r out s.cell.resource t)))
    (kept_commit commit (normal s) at d (Stage.End out before) tx is (normal_sound s g)
    (kept_ended s at d out before r (after d.attempt x.1) is st own e t (quiet_work (after d.attempt x.1) q)
    (knows_quiet (side_of (ended s.cell x.0 x.1 s.cell.worker)) d.attempt (after d.attempt x.1) q) g)
    (kept_ended s at d out before r _ is st own e t (end_rests d.attempt out before tx)
    (ended_knows s.cell d.attempt out before r answered) g)
    (kept_claim s at d (unsure d.attempt (Stage.End out before) tx) is (end_rests d.attempt out before tx)
    (λ y. subst IsAtEnd (sym st) tt)
    (λ y. pending_knows (side_of s.cell) d.attempt out before m s.cell.held r e k) g))

kept_repeated : (commit : Commit) (s : WorldState) (at : ℕ) (d : Driver) (out : WorkOutcome) (before : Option Answer)
    → slice_get s.drivers at ≡ Some d → d.stage ≡ Stage.End out before → GoesIn s
    → IsSound (committed commit (normal s) at d.attempt (Stage.End out before) (repeated s.cell.held before))
kept_repeated commit s at d out None is st g =
    kept_nothing commit s at d (Stage.End out None) Stage.Done is g
    (kept_stage (normal s) at d Stage.Done is tt (normal_sound s g))
    (end_again s at d out None (nothing s.cell.held Stage.Done) is st refl g)
kept_repeated commit s at d out (Some x) is st g =
    kept_nothing commit s at d (Stage.End out (Some x)) (Stage.Answer x) is g
    (kept_stage (normal s) at d (Stage.Answer x) is tt (normal_sound s g))
    (end_again s at d out (Some x) (nothing s.cell.held (Stage.Answer x)) is st refl g)

kept_end : (commit : Commit) (s : WorldState) (at : ℕ) (d : Driver) (out : WorkOutcome) (before : Option Answer)
    (w : Option Request)
    → slice_get s.drivers at ≡ Some d → d.stage ≡ Stage.End out before → s.owner ≡ Some at → s.cell.held.work ≡ w
    → Knows (side_of s.cell) d.attempt (Stage.End out before) → KnowsEnd (side_of s.cell) d.attempt out before w
    → GoesIn s
    → IsSound (committed commit (normal s) at d.attempt (Stage.End out before)
    (end d.attempt true s.cell.order.mode s.cell.held out before w))
kept_end commit s at d out before None is st own e k t g = kept_repeated commit s at d out before is st g
kept_end commit s at d out before (Some r) is st own e k t g =
    kept_ending commit s at d out before r is st own e k t.0 t.1 g

kept_ends : (commit : Commit) (s : WorldState) (at : ℕ) (d : Driver) (out : WorkOutcome) (before : Option Answer) (o : Bool)
    → slice_get s.drivers at ≡ Some d → d.stage ≡ Stage.End out before → is_owner s.owner at ≡ o → GoesIn s
    → IsSound (committed commit (normal s) at d.attempt (Stage.End out before)
    (end d.attempt o s.cell.order.mode s.cell.held out before s.cell.held.work))
kept_ends commit s at d out before false is st o g =
    kept_nothing commit s at d (Stage.End out before) Stage.Done is g
    (kept_stage (normal s) at d Stage.Done is tt (normal_sound s g))
    (end_again s at d out before (nothing s.cell.held Stage.Done) is st refl g)
kept_ends commit s at d out before true is st o g =
    let own = owner_is s.owner at o in
    let k = owner_knows s at d (Stage.End out before) is st own g in
    kept_end commit s at d out before s.cell.held.work is st own refl k k g

-- ---- the last transaction of an operation

unsure_finish : (a : Option ℕ) (ok : Bool) (tx : Transaction) → unsure a (Stage.Finish ok) tx ≡ Stage.Done
unsure_finish None ok tx = refl
unsure_finish (Some n) ok tx = refl

abbrev with_finished : Cell → Bool → Cell
with_finished c ok = record {
  order = c.order;
  recorded = c.recorded;
  held = finished_held c.held ok;
  worker = c.worker;
  resource = c.resource;
  sent = c.sent;
  given = c.given;
}

all_true : (a b c : Bool) → a ≡ true → b ≡ true → c ≡ true → (a && b && c) ≡ true
all_true true true true e f g = refl
all_true true true false e f g = cc
all_true true false c e f g = cc
all_true false b c e f g = cc

can_finish_so : (c : Cell) (ok : Bool) → c.held.work ≡ None → is_operating c.held ≡ true
    → is_true_finish_of c.held.row ok c.resource ≡ true → can_finish c ok ≡ true
can_finish_so c ok e o t = all_true (is_none c.held.work) (is_operating c.held) (is_true_finish_of c.held.row ok c.resource)
    (ap is_none e) o t

abbrev finishing : Held → Bool → Transaction
finishing x ok = record { row = finished_held x ok; takes_over = false; stage = Stage.Done; effect = Effect.Finish ok }

finish_tx : (x : Held) (ok : Bool) → is_operating x ≡ true → finish true x ok ≡ finishing x ok
finish_tx x ok e = ap (λ (y : Bool). finish_by y x ok) e

finish_is : (c : Cell) (ok : Bool) → c.held.work ≡ None → is_operating c.held ≡ true
    → is_true_finish_of c.held.row ok c.resource ≡ true
    → cell_steps c (Event.Finish ok ∷ []) ≡ with_finished c ok
finish_is c ok e o t =
    ap (λ (x : Bool). if x then with_finished c ok else c) (can_finish_so c ok e o t)

kept_finish : (s : WorldState) (at : ℕ) (d : Driver) (ok : Bool)
    → slice_get s.drivers at ≡ Some d → d.stage ≡ Stage.Finish ok → s.owner ≡ Some at → GoesIn s
    → Knows (side_of s.cell) d.attempt (Stage.Finish ok)
    → IsSound (written (normal s) at d.attempt (finishing s.cell.held ok) Stage.Done)
kept_finish s at d ok is st own g k =
    subst (λ (c : Cell). IsSound (record {
      cell = c;
      row = finished_held s.cell.held ok;
      owner = s.owner;
      resource = s.cell.resource;
      holder = s.holder;
      drivers = slice_set s.drivers at (at_stage d.attempt Stage.Done);
    })) (sym (finish_is s.cell ok k.0 k.1.0 k.1.1))
    (over_tx s (with_finished s.cell ok) at d Stage.Done (finished_held s.cell.held ok) is own refl refl
    (subst IsAtEnd (sym st) tt) (λ y. y) tt g)

kept_finishes : (commit : Commit) (s : WorldState) (at : ℕ) (d : Driver) (ok o : Bool)
    → slice_get s.drivers at ≡ Some d → d.stage ≡ Stage.Finish ok → is_owner s.owner at ≡ o → GoesIn s
    → IsSound (committed commit (normal s) at d.attempt (Stage.Finish ok) (finish o s.cell.held ok))
kept_finishes commit s at d ok false is st o g =
    let done = kept_stage (normal s) at d Stage.Done is tt (normal_sound s g) in
    kept_nothing commit s at d (Stage.Finish ok) Stage.Done is g done
    (subst (λ (y : Stage). IsSound (with_stage (normal s) at d.attempt y))
    (sym (unsure_finish d.attempt ok (nothing s.cell.held Stage.Done))) done)
kept_finishes commit s at d ok true is st o g =
    let own = owner_is s.owner at o in
    let k : Knows (side_of s.cell) d.attempt (Stage.Finish ok) = owner_knows s at d (Stage.Finish ok) is st own g in
    let tx = finishing s.cell.held ok in
    let done = kept_finish s at d ok is st own g k in
    let e = unsure_finish d.attempt ok tx in
    subst (λ (y : Transaction). IsSound (committed commit (normal s) at d.attempt (Stage.Finish ok) y))
    (sym (finish_tx s.cell.held ok k.1.0))
    (kept_commit commit (normal s) at d (Stage.Finish ok) tx is (normal_sound s g) done
    (subst (λ (y : Stage). IsSound (written (normal s) at d.attempt tx y)) (sym e) done)
    (subst (λ (y : Stage). IsSound (with_stage (normal s) at d.attempt y)) (sym e)
    (kept_stage (normal s) at d Stage.Done is tt (normal_sound s g))))

-- ---- any transaction

kept_transaction : (commit : Commit) (s : WorldState) (at : ℕ) (may : Permit) (d : Driver) (stage : Stage)
    → slice_get s.drivers at ≡ Some d → d.stage ≡ stage → IsTidy s.cell.held → AreNumbered s.cell → GoesIn s
    → IsSound (with_transaction (normal s) at d.attempt stage commit (transaction_of (normal s) at may d.attempt stage))
kept_transaction commit s at may d (Stage.Begin locked) is st held numbered g =
    kept_begin commit s at d may locked d.attempt is refl held numbered g
kept_transaction commit s at may d Stage.Unsure is st held numbered g =
    kept_resume commit s at d (is_owner s.owner at) s.cell.held.work is st refl refl g
kept_transaction commit s at may d (Stage.End out before) is st held numbered g =
    kept_ends commit s at d out before (is_owner s.owner at) is st refl g
kept_transaction commit s at may d (Stage.Finish ok) is st held numbered g =
    kept_finishes commit s at d ok (is_owner s.owner at) is st refl g
kept_transaction commit s at may d Stage.TryLock is st held numbered g = normal_sound s g
kept_transaction commit s at may d Stage.AwaitLock is st held numbered g = normal_sound s g
kept_transaction commit s at may d (Stage.Work task) is st held numbered g = normal_sound s g
kept_transaction commit s at may d (Stage.Answer answer) is st held numbered g = normal_sound s g
kept_transaction commit s at may d Stage.Done is st held numbered g = normal_sound s g

kept_transact : (commit : Commit) (s : WorldState) (at : ℕ) (may : Permit) (d : Option Driver) → slice_get s.drivers at ≡ d
    → IsTidy s.cell.held → AreNumbered s.cell → GoesIn s → IsSound (transact (normal s) at may commit d)
kept_transact commit s at may None is held numbered g = normal_sound s g
kept_transact commit s at may (Some d) is held numbered g =
    kept_transaction commit s at may d d.stage is refl held numbered g

-- ---- the work

abbrev with_work : Cell → Resource → Cell
with_work c t = record {
  order = c.order;
  recorded = c.recorded;
  held = c.held;
  worker = c.worker;
  resource = t;
  sent = c.sent;
  given = c.given;
}

work_is : (c : Cell) (t : Resource) → is_under_way c.held ≡ true → cell_step c (Event.Work t) ≡ with_work c t
work_is c t on = ap (λ (x : Bool). if x then with_work c t else c) on

kept_work : (s : WorldState) (t : Resource) (stage : Stage) → (driver_at s.drivers s.holder).stage ≡ stage → GoesIn s
    → IsSound (work_by (normal s) t stage)
kept_work s t (Stage.Work task) e g =
    let w : IsAtWork (driver_at s.drivers s.holder).stage = subst IsAtWork (sym e) tt in
    subst (λ (c : Cell). IsSound (record {
      cell = c;
      row = s.cell.held;
      owner = s.owner;
      resource = t;
      holder = s.holder;
      drivers = s.drivers;
    })) (sym (work_is s.cell t (g.works w)))
    (record { row = refl; resource = refl; goes = goes_resource (side_of s.cell) t _ _ w g })
kept_work s t Stage.TryLock e g = normal_sound s g
kept_work s t (Stage.Begin locked) e g = normal_sound s g
kept_work s t Stage.AwaitLock e g = normal_sound s g
kept_work s t (Stage.End outcome before) e g = normal_sound s g
kept_work s t (Stage.Finish ok) e g = normal_sound s g
kept_work s t Stage.Unsure e g = normal_sound s g
kept_work s t (Stage.Answer answer) e g = normal_sound s g
kept_work s t Stage.Done e g = normal_sound s g

-- the driver that has the lock has seen how its work ended
seen_owner : (s : WorldState) (at : ℕ) (d : Driver) (stage : Stage) → slice_get s.drivers at ≡ Some d → s.holder ≡ Some at
    → (IsAtWork stage → ⊥)
    → (Knows (side_of s.cell) d.attempt d.stage → Knows (side_of s.cell) d.attempt stage) → GoesIn s
    → (s.owner ≡ Some at)
    ⊎ (driver_at (slice_set s.drivers at (at_stage d.attempt stage)) s.owner ≡ driver_at s.drivers s.owner)
    → Goes (side_of s.cell) (driver_at (slice_set s.drivers at (at_stage d.attempt stage)) s.owner) (at_stage d.attempt stage)
seen_owner s at d stage is holds rests k g (inl own) =
    let n = at_stage d.attempt stage in
    let t = (subst (λ (y : Driver). Knows (side_of s.cell) y.attempt y.stage) (owner_driver s at d is own) g.owned) in
    subst (λ (y : Driver). Goes (side_of s.cell) y n)
    (sym (ap (driver_at (slice_set s.drivers at n)) own ∙ set_here s.drivers at n d is))
    (goes_ended (side_of s.cell) (driver_at s.drivers s.owner) (driver_at s.drivers s.holder) n rests (k t))
seen_owner s at d stage is holds rests k g (inr e) =
    subst (λ (y : Driver). Goes (side_of s.cell) y (at_stage d.attempt stage)) (sym e)
    (holder_rests (side_of s.cell) (driver_at s.drivers s.owner) (driver_at s.drivers s.holder) (at_stage d.attempt stage)
    rests g)

seen : (s : WorldState) (at : ℕ) (d : Driver) (stage : Stage) → slice_get s.drivers at ≡ Some d → s.holder ≡ Some at
    → (IsAtWork stage → ⊥)
    → (Knows (side_of s.cell) d.attempt d.stage → Knows (side_of s.cell) d.attempt stage) → GoesIn s
    → IsSound (with_stage (normal s) at d.attempt stage)
seen s at d stage is holds rests k g =
    let n = at_stage d.attempt stage in
    record {
      row = refl;
      resource = refl;
      goes = subst (λ (y : Driver). Goes (side_of s.cell) (driver_at (slice_set s.drivers at n) s.owner) y)
          (sym (ap (driver_at (slice_set s.drivers at n)) holds ∙ set_here s.drivers at n d is))
          (seen_owner s at d stage is holds rests k g (set_at s.drivers at n s.owner));
    }

kept_worked : (s : WorldState) (at : ℕ) (d : Driver) (out : WorkOutcome) (stage : Stage) → slice_get s.drivers at ≡ Some d
    → s.holder ≡ Some at → d.stage ≡ stage → GoesIn s → IsSound (worked_by (normal s) at d.attempt out stage)
kept_worked s at d out (Stage.Work (Task.Pending r)) is holds e g =
    kept_if (is_true_end s.cell.order.mode r.kind out s.cell.resource) (with_stage (normal s) at d.attempt (Stage.End out None))
    (normal s)
    (λ t. seen s at d (Stage.End out None) is holds (λ w. w)
    (λ k. knows_end (side_of s.cell) d.attempt r out (subst (Knows (side_of s.cell) d.attempt) e k) t) g)
    (normal_sound s g)
kept_worked s at d out (Stage.Work Task.Operation) is holds e g = normal_sound s g
kept_worked s at d out Stage.TryLock is holds e g = normal_sound s g
kept_worked s at d out (Stage.Begin locked) is holds e g = normal_sound s g
kept_worked s at d out Stage.AwaitLock is holds e g = normal_sound s g
kept_worked s at d out (Stage.End outcome before) is holds e g = normal_sound s g
kept_worked s at d out (Stage.Finish ok) is holds e g = normal_sound s g
kept_worked s at d out Stage.Unsure is holds e g = normal_sound s g
kept_worked s at d out (Stage.Answer answer) is holds e g = normal_sound s g
kept_worked s at d out Stage.Done is holds e g = normal_sound s g

kept_operated : (s : WorldState) (at : ℕ) (d : Driver) (ok : Bool) (stage : Stage) → slice_get s.drivers at ≡ Some d
    → s.holder ≡ Some at → d.stage ≡ stage → GoesIn s → IsSound (operated_by (normal s) at d.attempt ok stage)
kept_operated s at d ok (Stage.Work Task.Operation) is holds e g =
    kept_if (is_true_finish_of s.cell.held.row ok s.cell.resource) (with_stage (normal s) at d.attempt (Stage.Finish ok))
    (normal s)
    (λ t. seen s at d (Stage.Finish ok) is holds (λ w. w)
    (λ k. knows_finish (side_of s.cell) d.attempt ok (subst (Knows (side_of s.cell) d.attempt) e k) t) g)
    (normal_sound s g)
kept_operated s at d ok (Stage.Work (Task.Pending r)) is holds e g = normal_sound s g
kept_operated s at d ok Stage.TryLock is holds e g = normal_sound s g
kept_operated s at d ok (Stage.Begin locked) is holds e g = normal_sound s g
kept_operated s at d ok Stage.AwaitLock is holds e g = normal_sound s g
kept_operated s at d ok (Stage.End outcome before) is holds e g = normal_sound s g
kept_operated s at d ok (Stage.Finish o) is holds e g = normal_sound s g
kept_operated s at d ok Stage.Unsure is holds e g = normal_sound s g
kept_operated s at d ok (Stage.Answer answer) is holds e g = normal_sound s g
kept_operated s at d ok Stage.Done is holds e g = normal_sound s g

worked_found : (s : WorldState) (at : ℕ) (out : WorkOutcome) (x : Option Driver) → slice_get s.drivers at ≡ x
    → s.holder ≡ Some at → GoesIn s → IsSound (worked_by (normal s) at (or_over x).attempt out (or_over x).stage)
worked_found s at out None is holds g = normal_sound s g
worked_found s at out (Some d) is holds g = kept_worked s at d out d.stage is holds refl g

operated_found : (s : WorldState) (at : ℕ) (ok : Bool) (x : Option Driver) → slice_get s.drivers at ≡ x
    → s.holder ≡ Some at → GoesIn s → IsSound (operated_by (normal s) at (or_over x).attempt ok (or_over x).stage)
operated_found s at ok None is holds g = normal_sound s g
operated_found s at ok (Some d) is holds g = kept_operated s at d ok d.stage is holds refl g

kept_worked_step : (s : WorldState) (out : WorkOutcome) (l : Option ℕ) → s.holder ≡ l → GoesIn s
    → IsSound (worked_step (normal s) out l)
kept_worked_step s out None holds g = normal_sound s g
kept_worked_step s out (Some at) holds g = worked_found s at out (slice_get s.drivers at) refl holds g

kept_operated_step : (s : WorldState) (ok : Bool) (l : Option ℕ) → s.holder ≡ l → GoesIn s
    → IsSound (operated_step (normal s) ok l)
kept_operated_step s ok None holds g = normal_sound s g
kept_operated_step s ok (Some at) holds g = operated_found s at ok (slice_get s.drivers at) refl holds g

-- ---- whatever happens

kept_outside : (s : WorldState) (e : Event) → is_outside e ≡ true → GoesIn s → IsSound (with_cell (normal s) e)
kept_outside s e out g =
    let same = outside_same s.cell e out in
    record {
      row = ap (λ (x : Side). x.held) (sym same);
      resource = ap (λ (x : Side). x.resource) (sym same);
      goes = subst (λ (x : Side). Goes x (driver_at s.drivers s.owner) (driver_at s.drivers s.holder)) (sym same) g;
    }

kept_normal : (s : WorldState) (h : Happening) → IsTidy s.cell.held → AreNumbered s.cell → GoesIn s
    → IsSound (world_step (normal s) h)
kept_normal s (Happening.Outside e) held num g =
    kept_if (is_outside e) (with_cell (normal s) e) (normal s) (λ out. kept_outside s e out g) (normal_sound s g)
kept_normal s (Happening.Arrive n) held num g = kept_come (normal s) n (sent_as s.cell.sent n) (normal_sound s g)
kept_normal s Happening.TakeUp held num g = kept_begun (normal s) None (normal_sound s g)
kept_normal s (Happening.GetLock at) held num g =
    kept_lock (normal s) at (slice_get s.drivers at) s.holder refl (normal_sound s g)
kept_normal s (Happening.MissLock at) held num g = kept_miss (normal s) at (slice_get s.drivers at) refl (normal_sound s g)
kept_normal s (Happening.Transact at may commit) held num g =
    kept_transact commit s at may (slice_get s.drivers at) refl held num g
kept_normal s (Happening.Work t) held num g = kept_work s t (driver_at s.drivers s.holder).stage refl g
kept_normal s (Happening.Worked out) held num g = kept_worked_step s out s.holder refl g
kept_normal s (Happening.Finished ok) held num g = kept_operated_step s ok s.holder refl g
kept_normal s (Happening.GiveUp at) held num g =
    kept_give_up (normal s) at (slice_get s.drivers at) refl (normal_sound s g)
kept_normal s Happening.LoseLock held num g = record {
  row = refl;
  resource = refl;
  goes = holder_rests (side_of s.cell) (driver_at s.drivers s.owner) (driver_at s.drivers s.holder) over (λ w. w) g;
}
kept_normal s Happening.ForgetNumber held num g = record {
  row = refl;
  resource = refl;
  goes = owner_quiet (side_of s.cell) (driver_at s.drivers s.owner) over (driver_at s.drivers s.holder) tt g;
}

pub is_normal : (s : WorldState) → s.row ≡ s.cell.held → s.resource ≡ s.cell.resource → normal s ≡ s
is_normal s e f =
    ap (λ (x : Held). record {
      cell = s.cell;
      row = x;
      owner = s.owner;
      resource = s.cell.resource;
      holder = s.holder;
      drivers = s.drivers;
    }) (sym e)
    ∙ ap (λ (x : Resource). record {
      cell = s.cell;
      row = s.row;
      owner = s.owner;
      resource = x;
      holder = s.holder;
      drivers = s.drivers;
    }) (sym f)

-- whatever happens, the world stays the network's instance
pub stays_sound : StaysSound
stays_sound s h held num sound =
    subst (λ (x : WorldState). IsSound (world_step x h)) (is_normal s sound.row sound.resource)
    (kept_normal s h (subst IsTidy sound.row held) num sound.goes)
