-- What happens to one life is an event of it, as the other lives let it happen.
use Rattle.std.proofs.Common.{◌≡◌, ◌⊎◌, ℕ, Bool, true, false, inl, inr, refl, sym, ap, subst, ◌∙◌, List, [], ◌∷◌}
use Rattle.std.specs.Prelude.{⊤, Option, Some, None, ◌&&◌, ◌||◌, not, if◌then◌else◌, slice_get}
use Rattle.osb_message.specs.declared.catalogue.Mode.{Mode}
use Rattle.osb_message.specs.declared.messages.Answer.{Answer}
use Rattle.osb_message.specs.declared.messages.Request.{Request}
use Rattle.osb_instance.specs.declared.outcome.WorkOutcome.{WorkOutcome}
use Rattle.osb_instance.specs.declared.record.Sent.{Sent}
use Rattle.osb_instance.specs.declared.work.Begun.{Begun}
use Rattle.osb_instance.specs.declared.work.Begun.TheVariants.{Answered}
use Rattle.osb_instance.specs.Begin.{begins, begun, busy, can_end, is_operating}
use Rattle.osb_instance.specs.Held.{Held}
use Rattle.osb_network.specs.Cell.{Cell}
use Rattle.osb_network.specs.Steps.{cell_step, cell_steps, sent_as}
use Rattle.osb_network.specs.declared.event.Event.{Event}
use Rattle.osb_network.specs.declared.resource.Resource.{Resource}
use Rattle.osb_binding_network.specs.Allowed.{happened as let_happen}
use Rattle.osb_driver.specs.Driver.{end, end_of, finish, finish_by, first, first_by, resume, take_up, take_up_by}
use Rattle.osb_driver.specs.declared.driver.Driver.{Driver}
use Rattle.osb_driver.specs.declared.driver.Effect.{Effect}
use Rattle.osb_driver.specs.declared.driver.Permit.{Permit}
use Rattle.osb_driver.specs.declared.driver.Stage.{Stage}
use Rattle.osb_driver.specs.declared.driver.Transaction.{Transaction}
use Rattle.osb_driver.specs.declared.world.Commit.{Commit}
use Rattle.osb_driver.specs.declared.world.Happening.{Happening}
use Rattle.osb_driver.specs.World.{WorldState, begin_of, committed_events, driver_events, events_of, first_of, happened}
use Rattle.osb_driver.specs.World.{is_at_work, is_outside, is_owner, transaction_events, transaction_of}

-- none or one event, which happens as it is
abbrev pub Passes : (Event → Option Event) → List Event → Type 0
Passes lets [] = ⊤
Passes lets (event ∷ []) = lets event ≡ Some event
Passes lets (event ∷ next ∷ more) = ⊥

-- what a broker's events are let: all as they are, but for a request that begins something
pub record LetsAll (lets : Event → Option Event) : Type 0 where
  pub put_off : (n : ℕ) → lets (Event.PutOff n) ≡ Some (Event.PutOff n)
  pub end : (out : WorkOutcome) → lets (Event.End out) ≡ Some (Event.End out)
  pub finish : (ok : Bool) → lets (Event.Finish ok) ≡ Some (Event.Finish ok)
  pub give_up : lets Event.GiveUpWaiting ≡ Some Event.GiveUpWaiting
  pub work : (t : Resource) → lets (Event.Work t) ≡ Some (Event.Work t)

-- whether a request is put off, by what the row has
abbrev pub waits : Bool → Cell → Held → Request → Bool
waits may c row request = not may && begins c.order.mode row request c.order.attributes

-- a request that isn't put off arrives as it is
abbrev pub Arrives : (Event → Option Event) → Bool → Cell → Held → Option ℕ → Type 0
Arrives lets may c row a =
    (n : ℕ) (sent : Sent) → a ≡ Some n → sent_as c.sent n ≡ Some sent → waits may c row sent.request ≡ false
    → lets (Event.Arrive n) ≡ Some (Event.Arrive n)

passes_none : (lets : Event → Option Event) (a : Option ℕ) → Passes lets (events_of Effect.Nothing a)
passes_none lets a = tt

passes_put_off : (lets : Event → Option Event) (a : Option ℕ) → LetsAll lets → Passes lets (events_of Effect.PutOff a)
passes_put_off lets None all = tt
passes_put_off lets (Some n) all = all.put_off n

passes_arrive : (lets : Event → Option Event) (a : Option ℕ)
    → ((n : ℕ) → a ≡ Some n → lets (Event.Arrive n) ≡ Some (Event.Arrive n)) → Passes lets (events_of Effect.Arrive a)
passes_arrive lets None arrives = tt
passes_arrive lets (Some n) arrives = arrives n refl

-- the first transaction of a request
passes_first : (lets : Event → Option Event) (a : Option ℕ) (locked : Bool) (row : Held) (request : Request) (x : Held)
    (b : Begun) → ((n : ℕ) → a ≡ Some n → lets (Event.Arrive n) ≡ Some (Event.Arrive n))
    → Passes lets (events_of (first_by locked false row request x b).effect a)
passes_first lets a locked row request x (Answered y) arrives = passes_arrive lets a arrives
passes_first lets a true row request x (Begun.Work w) arrives = passes_arrive lets a arrives
passes_first lets a false row request x (Begun.Work w) arrives = tt

abbrev begun_unless : Bool → Cell → Held → Request → Held × Begun
begun_unless put_off c row request =
    if put_off
    then (row, Answered (busy request.kind))
    else begun c.order.mode c.order.first_poll row request c.order.attributes

passes_unless : (lets : Event → Option Event) (c : Cell) (a : Option ℕ) (locked o put_off : Bool) (row : Held)
    (request : Request) → LetsAll lets
    → (put_off ≡ false → (n : ℕ) → a ≡ Some n → lets (Event.Arrive n) ≡ Some (Event.Arrive n))
    → Passes lets (events_of (first locked o put_off row request (begun_unless put_off c row request)).effect a)
passes_unless lets c a locked true put_off row request all arrives = tt
passes_unless lets c a locked false true row request all arrives = passes_put_off lets a all
passes_unless lets c a locked false false row request all arrives =
    let b = begun c.order.mode c.order.first_poll row request c.order.attributes in
    passes_first lets a locked row request b.0 b.1 (arrives refl)

-- of a transaction, if there is one
abbrev PassesIn : (Event → Option Event) → Option ℕ → Option Transaction → Type 0
PassesIn lets a None = ⊤
PassesIn lets a (Some tx) = Passes lets (events_of tx.effect a)

some_same : (n m : ℕ) → Some n ≡ Some m → n ≡ m
some_same n m e = cc

passes_sent : (lets : Event → Option Event) (s : WorldState) (at : ℕ) (may : Permit) (locked : Bool) (n : ℕ)
    (x : Option Sent) → sent_as s.cell.sent n ≡ x → LetsAll lets → Arrives lets may.begin s.cell s.row (Some n)
    → PassesIn lets (Some n) (first_of s at may locked x)
passes_sent lets s at may locked n None found all arrives = tt
passes_sent lets s at may locked n (Some sent) found all arrives =
    passes_unless lets s.cell (Some n) locked (is_owner s.owner at) (waits may.begin s.cell s.row sent.request) s.row
    sent.request all (λ late m same. subst (λ (k : ℕ). lets (Event.Arrive k) ≡ Some (Event.Arrive k)) (some_same n m same)
    (arrives n sent refl found late))

passes_take_up : (lets : Event → Option Event) (w : Option Request) (o v : Bool) (row : Held) → LetsAll lets
    → Passes lets (events_of (take_up_by w o v row).effect None)
passes_take_up lets (Some r) o v row all = tt
passes_take_up lets None true v row all = tt
passes_take_up lets None false true row all = all.give_up
passes_take_up lets None false false row all = tt

passes_begin : (lets : Event → Option Event) (s : WorldState) (at : ℕ) (may : Permit) (a : Option ℕ) (locked : Bool)
    → LetsAll lets → Arrives lets may.begin s.cell s.row a → PassesIn lets a (begin_of s at may a locked)
passes_begin lets s at may None locked all arrives =
    passes_take_up lets s.row.work (is_operating s.row) (s.row.waiting && may.give_up) s.row all
passes_begin lets s at may (Some n) locked all arrives =
    passes_sent lets s at may locked n (sent_as s.cell.sent n) refl all arrives

passes_resume : (lets : Event → Option Event) (a : Option ℕ) (o : Bool) (row : Held) (w : Option Request)
    → Passes lets (events_of (resume o row w).effect a)
passes_resume lets a false row w = tt
passes_resume lets a true row None = tt
passes_resume lets a true row (Some r) = tt

passes_repeated : (lets : Event → Option Event) (a : Option ℕ) (m : Option Mode) (row : Held) (out : WorkOutcome)
    (before : Option Answer) → Passes lets (events_of (end_of a m row out before None).effect a)
passes_repeated lets a m row out None = tt
passes_repeated lets a m row out (Some x) = tt

passes_if : (lets : Event → Option Event) (a : Option ℕ) (x : Bool) (t u : Transaction)
    → Passes lets (events_of t.effect a) → Passes lets (events_of u.effect a)
    → Passes lets (events_of (if x then t else u).effect a)
passes_if lets a true t u p q = p
passes_if lets a false t u p q = q

passes_end : (lets : Event → Option Event) (a : Option ℕ) (o : Bool) (m : Option Mode) (row : Held) (out : WorkOutcome)
    (before : Option Answer) (w : Option Request) → LetsAll lets
    → Passes lets (events_of (end a o m row out before w).effect a)
passes_end lets a false m row out before w all = tt
passes_end lets a true m row out before None all = passes_repeated lets a m row out before
passes_end lets a true m row out before (Some r) all =
    passes_if lets a (can_end r.kind out) _ _ (all.end out) tt

passes_finish_by : (lets : Event → Option Event) (a : Option ℕ) (x : Bool) (row : Held) (ok : Bool) → LetsAll lets
    → Passes lets (events_of (finish_by x row ok).effect a)
passes_finish_by lets a true row ok all = all.finish ok
passes_finish_by lets a false row ok all = tt

passes_finish : (lets : Event → Option Event) (a : Option ℕ) (o : Bool) (row : Held) (ok : Bool) → LetsAll lets
    → Passes lets (events_of (finish o row ok).effect a)
passes_finish lets a false row ok all = tt
passes_finish lets a true row ok all = passes_finish_by lets a (is_operating row) row ok all

passes_transaction : (lets : Event → Option Event) (s : WorldState) (at : ℕ) (may : Permit) (a : Option ℕ) (stage : Stage)
    → LetsAll lets → Arrives lets may.begin s.cell s.row a → PassesIn lets a (transaction_of s at may a stage)
passes_transaction lets s at may a (Stage.Begin locked) all arrives = passes_begin lets s at may a locked all arrives
passes_transaction lets s at may a Stage.Unsure all arrives =
    passes_resume lets a (is_owner s.owner at) s.row s.row.work
passes_transaction lets s at may a (Stage.End out before) all arrives =
    passes_end lets a (is_owner s.owner at) s.cell.order.mode s.row out before s.row.work all
passes_transaction lets s at may a (Stage.Finish ok) all arrives =
    passes_finish lets a (is_owner s.owner at) s.row ok all
passes_transaction lets s at may a Stage.TryLock all arrives = tt
passes_transaction lets s at may a Stage.AwaitLock all arrives = tt
passes_transaction lets s at may a (Stage.Work task) all arrives = tt
passes_transaction lets s at may a (Stage.Answer answer) all arrives = tt
passes_transaction lets s at may a Stage.Done all arrives = tt

passes_commit : (lets : Event → Option Event) (commit : Commit) (es : List Event) → Passes lets es
    → Passes lets (committed_events commit es)
passes_commit lets Commit.Returned es p = p
passes_commit lets Commit.Failed es p = tt
passes_commit lets (Commit.Unsure true) es p = p
passes_commit lets (Commit.Unsure false) es p = tt

passes_events : (lets : Event → Option Event) (commit : Commit) (a : Option ℕ) (x : Option Transaction)
    → PassesIn lets a x → Passes lets (transaction_events commit a x)
passes_events lets commit a None p = tt
passes_events lets commit a (Some tx) p = passes_commit lets commit (events_of tx.effect a) p

abbrev pub attempt_of : Option Driver → Option ℕ
attempt_of None = None
attempt_of (Some d) = d.attempt

-- what a driver's transaction is happens as it is
pub passes_driver : (lets : Event → Option Event) (s : WorldState) (at : ℕ) (may : Permit) (commit : Commit)
    (d : Option Driver) → LetsAll lets → Arrives lets may.begin s.cell s.row (attempt_of d)
    → Passes lets (driver_events s at may commit d)
passes_driver lets s at may commit None all arrives = tt
passes_driver lets s at may commit (Some d) all arrives =
    passes_events lets commit d.attempt (transaction_of s at may d.attempt d.stage)
    (passes_transaction lets s at may d.attempt d.stage all arrives)

pub passes_work : (lets : Event → Option Event) (x : Bool) (t : Resource) → LetsAll lets
    → Passes lets (if x then Event.Work t ∷ [] else [])
passes_work lets true t all = all.work t
passes_work lets false t all = tt
