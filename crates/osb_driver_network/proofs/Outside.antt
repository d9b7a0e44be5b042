-- What a side brings about is outside of the other side.
use Rattle.std.proofs.Common.{◌≡◌, ℕ, Bool, true, false, refl, List, [], ◌∷◌, ◌++◌}
use Rattle.std.specs.Prelude.{Option, Some, None, ⊤, if◌then◌else◌, slice_get}
use Rattle.osb_instance.specs.Recorded.{Recorded}
use Rattle.osb_network.specs.Cell.{Cell}
use Rattle.osb_network.specs.Steps.{is_out}
use Rattle.osb_network.specs.declared.event.Event.{Event}
use Rattle.osb_driver.specs.World as broker_side
use Rattle.osb_driver.specs.declared.driver.Driver.{Driver}
use Rattle.osb_driver.specs.declared.driver.Effect.{Effect}
use Rattle.osb_driver.specs.declared.driver.Permit.{Permit}
use Rattle.osb_driver.specs.declared.driver.Transaction.{Transaction}
use Rattle.osb_driver.specs.declared.world.Commit.{Commit as BrokerCommit}
use Rattle.osb_driver.specs.declared.world.Happening.{Happening as BrokerHappening}
use Rattle.osb_platform_driver.specs.World as platform_side
use Rattle.osb_platform_driver.specs.declared.driver.CleanUp.{CleanUp}
use Rattle.osb_platform_driver.specs.declared.driver.Stage.{Stage}
use Rattle.osb_platform_driver.specs.declared.driver.Wishes.{Wishes}
use Rattle.osb_platform_driver.specs.declared.world.Commit.{Commit}
use Rattle.osb_platform_driver.specs.declared.world.Exchange.{Exchange}
use Rattle.osb_platform_driver.specs.declared.world.Happening.{Happening}
use Rattle.osb_platform_driver.specs.declared.world.Source.{Source}
use Rattle.osb_driver_network.specs.World.{is_brokers_own, is_platforms_own}

abbrev pub AreAll : (Event → Bool) → List Event → Type 0
AreAll p [] = ⊤
AreAll p (e ∷ es) = (p e ≡ true) × AreAll p es

all_if : (p : Event → Bool) (b : Bool) (xs ys : List Event) → AreAll p xs → AreAll p ys → AreAll p (if b then xs else ys)
all_if p true xs ys x y = x
all_if p false xs ys x y = y

all_on : (p : Event → Bool) (xs ys : List Event) → AreAll p xs → AreAll p ys → AreAll p (xs ++ ys)
all_on p [] ys x y = y
all_on p (e ∷ xs) ys x y = (x.0, all_on p xs ys x.1 y)

-- ---- of the broker

abbrev ToPlatform : List Event → Type 0
ToPlatform es = AreAll platform_side.is_outside es

of_effect : (e : Effect) (n : Option ℕ) → ToPlatform (broker_side.events_of e n)
of_effect Effect.Nothing n = tt
of_effect Effect.Arrive None = tt
of_effect Effect.Arrive (Some n) = (refl, tt)
of_effect Effect.PutOff None = tt
of_effect Effect.PutOff (Some n) = (refl, tt)
of_effect (Effect.End out) n = (refl, tt)
of_effect (Effect.Finish ok) n = (refl, tt)
of_effect Effect.GiveUpWaiting n = (refl, tt)

of_broker_commit : (c : BrokerCommit) (es : List Event) → ToPlatform es → ToPlatform (broker_side.committed_events c es)
of_broker_commit BrokerCommit.Returned es h = h
of_broker_commit BrokerCommit.Failed es h = tt
of_broker_commit (BrokerCommit.Unsure true) es h = h
of_broker_commit (BrokerCommit.Unsure false) es h = tt

of_transaction : (c : BrokerCommit) (n : Option ℕ) (tx : Option Transaction)
    → ToPlatform (broker_side.transaction_events c n tx)
of_transaction c n None = tt
of_transaction c n (Some tx) = of_broker_commit c (broker_side.events_of tx.effect n) (of_effect tx.effect n)

of_driver : (s : broker_side.WorldState) (at : ℕ) (may : Permit) (c : BrokerCommit) (d : Option Driver)
    → ToPlatform (broker_side.driver_events s at may c d)
of_driver s at may c None = tt
of_driver s at may c (Some d) =
    of_transaction c d.attempt (broker_side.transaction_of s at may d.attempt d.stage)

pub of_broker : (s : broker_side.WorldState) (h : BrokerHappening) → is_brokers_own h ≡ true
    → ToPlatform (broker_side.happened s h)
of_broker s (BrokerHappening.Outside e) own = cc
of_broker s (BrokerHappening.Arrive n) own = tt
of_broker s BrokerHappening.TakeUp own = tt
of_broker s (BrokerHappening.GetLock at) own = tt
of_broker s (BrokerHappening.MissLock at) own = tt
of_broker s (BrokerHappening.Transact at may c) own = of_driver s at may c (slice_get s.drivers at)
of_broker s (BrokerHappening.Work t) own =
    all_if platform_side.is_outside (broker_side.is_at_work (broker_side.driver_at s.drivers s.holder).stage)
    (Event.Work t ∷ []) [] (refl, tt) tt
of_broker s (BrokerHappening.Worked out) own = tt
of_broker s (BrokerHappening.Finished ok) own = tt
of_broker s (BrokerHappening.GiveUp at) own = tt
of_broker s BrokerHappening.LoseLock own = tt
of_broker s BrokerHappening.ForgetNumber own = tt

-- ---- of the platform

abbrev ToBroker : List Event → Type 0
ToBroker es = AreAll broker_side.is_outside es

of_clean_up : (w : Option CleanUp) → ToBroker (platform_side.clean_up_events w)
of_clean_up None = tt
of_clean_up (Some CleanUp.Expire) = (refl, tt)
of_clean_up (Some CleanUp.Retry) = (refl, tt)
of_clean_up (Some CleanUp.Remove) = (refl, tt)

of_send : (b : Bool) → ToBroker (platform_side.send_events b)
of_send true = (refl, tt)
of_send false = tt

of_create : (b : Bool) → ToBroker (platform_side.create_events b)
of_create true = (refl, tt)
of_create false = tt

of_claim : (w : Wishes) (r : Option Recorded) → ToBroker (platform_side.claim_events w r)
of_claim w None = of_create w.create
of_claim w (Some r) = (
  refl,
  all_on broker_side.is_outside (platform_side.clean_up_events w.clean_up) (platform_side.send_events w.send)
      (of_clean_up w.clean_up) (of_send w.send),
)

of_take : (r : Option Recorded) (n : ℕ) (source : Source) → ToBroker (platform_side.take_events r n source)
of_take r n Source.Nowhere = all_if broker_side.is_outside (is_out r n) (Event.Timeout ∷ []) [] (refl, tt) tt
of_take r n (Source.Given at) = (refl, tt)
of_take r n (Source.Garbled at) = (refl, tt)
of_take r n (Source.Gateway s) =
    all_if broker_side.is_outside (is_out r n) (Event.TakeGateway s ∷ []) [] (refl, tt) tt

of_commit : (c : Commit) (es : List Event) → ToBroker es → ToBroker (platform_side.committed_events c es)
of_commit Commit.Returned es h = h
of_commit Commit.Failed es h = tt
of_commit (Commit.Unsure true) es h = h
of_commit (Commit.Unsure false) es h = tt

of_claimed : (c : Cell) (w : Wishes) (commit : Commit) (stage : Stage)
    → ToBroker (platform_side.claimed_events c w commit stage)
of_claimed c w commit Stage.Claim = of_commit commit (platform_side.claim_events w c.recorded) (of_claim w c.recorded)
of_claimed c w commit (Stage.Send sent) = tt
of_claimed c w commit (Stage.Take n a) = tt
of_claimed c w commit (Stage.Unsure n) = tt
of_claimed c w commit Stage.Done = tt

of_claimed_by : (c : Cell) (w : Wishes) (commit : Commit) (x : Option Exchange)
    → ToBroker (platform_side.claimed_by c w commit x)
of_claimed_by c w commit None = tt
of_claimed_by c w commit (Some x) = of_claimed c w commit x.driver.stage

of_resume : (own : Bool) (r : Option Recorded) (n : ℕ) → ToBroker (platform_side.resume_events own r n)
of_resume false r n = tt
of_resume true r n = of_take r n Source.Nowhere

of_taken : (s : platform_side.WorldState) (at : ℕ) (commit : Commit) (source : Source) (stage : Stage)
    → ToBroker (platform_side.taken_events s at commit source stage)
of_taken s at commit source (Stage.Take n a) =
    of_commit commit (platform_side.take_events s.cell.recorded n source) (of_take s.cell.recorded n source)
of_taken s at commit source (Stage.Unsure n) =
    let own = platform_side.is_owner s.owner at in
    of_commit commit (platform_side.resume_events own s.cell.recorded n) (of_resume own s.cell.recorded n)
of_taken s at commit source Stage.Claim = tt
of_taken s at commit source (Stage.Send sent) = tt
of_taken s at commit source Stage.Done = tt

of_taken_by : (s : platform_side.WorldState) (at : ℕ) (commit : Commit) (x : Option Exchange)
    → ToBroker (platform_side.taken_by s at commit x)
of_taken_by s at commit None = tt
of_taken_by s at commit (Some x) = of_taken s at commit x.source x.driver.stage

pub of_platform : (s : platform_side.WorldState) (h : Happening) → is_platforms_own h ≡ true
    → ToBroker (platform_side.happened s h)
of_platform s (Happening.Outside e) own = cc
of_platform s Happening.Begin own = tt
of_platform s (Happening.Claim at w commit) own = of_claimed_by s.cell w commit (slice_get s.exchanges at)
of_platform s (Happening.Answer at source) own = tt
of_platform s (Happening.Take at commit) own = of_taken_by s at commit (slice_get s.exchanges at)
