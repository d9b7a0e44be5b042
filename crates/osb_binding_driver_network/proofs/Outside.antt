-- What a platform brings about is outside of the broker.
use Rattle.std.proofs.Common.{◌≡◌, ℕ, Bool, true, false, refl, List, [], ◌∷◌}
use Rattle.std.specs.Prelude.{⊤, Option, Some, None, if◌then◌else◌}
use Rattle.osb_message.specs.declared.messages.Answer.{Answer}
use Rattle.osb_network.specs.Cell.{Cell}
use Rattle.osb_network.specs.declared.event.Event.{Event}
use Rattle.osb_binding_network.specs.declared.event.BindingEvent.{BindingEvent}
use Rattle.osb_binding_network.specs.declared.event.ServiceEvent.{ServiceEvent}
use Rattle.osb_binding_network.specs.Allowed.{needs_fetch}
use Rattle.osb_binding_network.specs.Binding.{BindingCell}
use Rattle.osb_driver.specs.World.{is_outside}
use Rattle.osb_platform_driver.specs.World as alone
use Rattle.osb_platform_driver.specs.declared.driver.Stage.{Stage}
use Rattle.osb_platform_driver.specs.declared.driver.Wishes.{Wishes}
use Rattle.osb_platform_driver.specs.declared.world.Commit.{Commit}
use Rattle.osb_platform_driver.specs.declared.world.Happening.{Happening}
use Rattle.osb_platform_driver.specs.declared.world.Source.{Source}
use Rattle.osb_driver_network.proofs.Outside.{AreAll, of_platform}
use Rattle.osb_binding_platform_driver.specs.Driver.{counted, wishes_of_binding, wishes_of_instance}
use Rattle.osb_binding_platform_driver.specs.ServiceWorld.{Place, PlatformExchange, ServiceWorld, as_binding, as_instance}
use Rattle.osb_binding_platform_driver.specs.ServiceWorld.{binding_events, binding_happened, binding_happens, binding_reading, driver_at, happened}
use Rattle.osb_binding_platform_driver.specs.ServiceWorld.{if_written, instance_events, instance_happens, instance_reading}
use Rattle.osb_binding_platform_driver.specs.ServiceWorld.{lives, taken_events}
use Rattle.osb_binding_platform_driver.specs.declared.driver.PlatformStage.{PlatformStage}
use Rattle.osb_binding_platform_driver.specs.declared.transactions.PlatformReading.{PlatformReading}
use Rattle.osb_binding_platform_driver.specs.declared.world.PlatformHappening.{PlatformHappening}
use Rattle.osb_binding_platform_driver.specs.declared.world.PlatformServiceHappening.{PlatformServiceHappening}
use Rattle.osb_binding_driver_network.specs.World.{is_platforms_own}

-- ---- what the broker sees: it brings about no such event itself, and forgets no tombstone

abbrev pub IsSeenAt : BindingEvent → Type 0
IsSeenAt (BindingEvent.Life e x) = is_outside e ≡ true
IsSeenAt BindingEvent.Forget = ⊥
IsSeenAt e = ⊤

abbrev pub IsSeen : ServiceEvent → Type 0
IsSeen (ServiceEvent.Instance e) = is_outside e ≡ true
IsSeen (ServiceEvent.Order order) = ⊤
IsSeen (ServiceEvent.Binding id e) = IsSeenAt e

abbrev pub AreSeen : List ServiceEvent → Type 0
AreSeen [] = ⊤
AreSeen (e ∷ es) = IsSeen e × AreSeen es

abbrev AreSeenAt : List BindingEvent → Type 0
AreSeenAt [] = ⊤
AreSeenAt (e ∷ es) = IsSeenAt e × AreSeenAt es

abbrev ToBroker : List Event → Type 0
ToBroker es = AreAll is_outside es

seen_instance : (es : List Event) → ToBroker es → AreSeen (as_instance es)
seen_instance [] h = tt
seen_instance (e ∷ es) h = (h.0, seen_instance es h.1)

seen_lives : (es : List Event) → ToBroker es → AreSeenAt (lives es)
seen_lives [] h = tt
seen_lives (e ∷ es) h = (h.0, seen_lives es h.1)

seen_binding : (id : ℕ) (es : List BindingEvent) → AreSeenAt es → AreSeen (as_binding id es)
seen_binding id [] h = tt
seen_binding id (e ∷ es) h = (h.0, seen_binding id es h.1)

-- ---- transactions: their events are those of a driver that is alone

abbrev world : Cell → Stage → Source → alone.WorldState
world c stage source = record { cell = c; row = None; owner = Some 0; exchanges = alone.at_stage stage source ∷ [] }

of_claim : (c : Cell) (w : Wishes) (commit : Commit)
    → ToBroker (alone.committed_events commit (alone.claim_events w c.recorded))
of_claim c w commit = of_platform (world c Stage.Claim Source.Nowhere) (Happening.Claim 0 w commit) refl

of_take : (c : Cell) (n : ℕ) (source : Source) (commit : Commit)
    → ToBroker (alone.committed_events commit (alone.take_events c.recorded n source))
of_take c n source commit = of_platform (world c (Stage.Take n None) source) (Happening.Take 0 commit) refl

of_none : (commit : Commit) → ToBroker (alone.committed_events commit [])
of_none Commit.Returned = tt
of_none Commit.Failed = tt
of_none (Commit.Unsure true) = tt
of_none (Commit.Unsure false) = tt

of_resume : (own : Bool) (c : Cell) (n : ℕ) (commit : Commit)
    → ToBroker (alone.committed_events commit (alone.resume_events own c.recorded n))
of_resume true c n commit = of_take c n Source.Nowhere commit
of_resume false c n commit = of_none commit

of_instance : (c : Cell) (r : PlatformReading) (x : PlatformExchange) (stage : PlatformStage) (commit : Commit)
    → ToBroker (alone.committed_events commit (instance_events c r x stage))
of_instance c r x PlatformStage.Claim commit = of_claim c (wishes_of_instance r.all_gone r.wishes) commit
of_instance c r x (PlatformStage.Take n a has) commit = of_take c n x.source commit
of_instance c r x (PlatformStage.Unsure n) commit = of_resume r.is_owner c n commit
of_instance c r x stage commit = of_none commit

of_instance_at : (s : ServiceWorld) (h : PlatformHappening) (o : Option PlatformExchange)
    → ToBroker (instance_happens s h o)
of_instance_at s (PlatformHappening.Transact at w commit) (Some x) =
    of_instance s.service.instance (instance_reading s at w) x x.stage commit
of_instance_at s h o = tt

-- ---- of a binding

seen_if : (b : Bool) (xs ys : List BindingEvent) → AreSeenAt xs → AreSeenAt ys → AreSeenAt (if b then xs else ys)
seen_if true xs ys x y = x
seen_if false xs ys x y = y

seen_written : (commit : Commit) (es : List BindingEvent) → AreSeenAt es → AreSeenAt (if_written commit es)
seen_written Commit.Returned es h = h
seen_written Commit.Failed es h = tt
seen_written (Commit.Unsure true) es h = h
seen_written (Commit.Unsure false) es h = tt

seen_taken : (b : BindingCell) (x : PlatformExchange) (n : ℕ) (a : Option Answer) (source : Source)
    → AreSeenAt (taken_events b x n a source)
seen_taken b x n None source =
    seen_lives (alone.take_events b.life.recorded n Source.Nowhere) (of_take b.life n Source.Nowhere Commit.Returned)
seen_taken b x n (Some a) (Source.Given at) =
    seen_if (needs_fetch b.life at) (BindingEvent.TakeFetched at x.fetched ∷ []) (BindingEvent.Life (Event.Take at) 0 ∷ [])
    (tt, tt) (refl, tt)
seen_taken b x n (Some a) source =
    seen_lives (alone.take_events b.life.recorded n source) (of_take b.life n source Commit.Returned)

seen_events : (b : BindingCell) (r : PlatformReading) (x : PlatformExchange) (stage : PlatformStage)
    → AreSeenAt (binding_events b r x stage)
seen_events b r x PlatformStage.Claim =
    seen_lives _ (of_claim b.life (wishes_of_binding r.instance r.wishes) Commit.Returned)
seen_events b r x (PlatformStage.Take n a has) =
    seen_taken b x n (counted true r.retrievable has r.recorded a) x.source
seen_events b r x (PlatformStage.Unsure n) = seen_lives _ (of_resume r.is_owner b.life n Commit.Returned)
seen_events b r x stage = tt

seen_happens : (s : ServiceWorld) (b : BindingCell) (p : Place) (h : PlatformHappening) (o : Option PlatformExchange)
    → AreSeenAt (binding_happens s.instance.row b p h o)
seen_happens s b p (PlatformHappening.Transact at w commit) (Some x) =
    seen_written commit _ (seen_events b (binding_reading s.instance.row b p at w) x x.stage)
seen_happens s b p h o = tt

seen_at : (s : ServiceWorld) (h : PlatformHappening) (o : Option BindingCell) (l : Option Place)
    → AreSeenAt (binding_happened s h o l)
seen_at s h (Some b) (Some p) = seen_happens s b p h (driver_at p h)
seen_at s h o l = tt

pub of_platforms : (s : ServiceWorld) (h : PlatformServiceHappening) → is_platforms_own h ≡ true
    → AreSeen (happened s h)
of_platforms s (PlatformServiceHappening.Outside e) own = cc
of_platforms s (PlatformServiceHappening.Order order) own = (tt, tt)
of_platforms s (PlatformServiceHappening.Instance h) own =
    seen_instance _ (of_instance_at s h (driver_at s.instance h))
of_platforms s (PlatformServiceHappening.Binding id h) own = seen_binding id _ (seen_at s h _ _)
