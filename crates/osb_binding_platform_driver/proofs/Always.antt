-- Whatever happens to an instance and its bindings, from the beginning: they agree.
use Rattle.std.proofs.Common.{◌≡◌, ◌≢◌, ⊎_elim, ℕ, Bool, true, false, refl, sym, ap, subst, ◌∙◌, List, [], ◌∷◌, ◌++◌}
use Rattle.std.specs.Prelude.{⊤, Option, Some, None, IfSome, ◌||◌, not, if◌then◌else◌, slice_get}
use Rattle.std.specs.FinMap as map
use Rattle.std.specs.FinMap.Entries.{find}
use Rattle.std.specs.Map.{values_of}
use Rattle.std.specs.Ordering.{nat_cmp, eq_by_cmp}
use Rattle.std.proofs.lemmas.Bool.{cases_eq}
use Rattle.osb_message.specs.declared.messages.Answer.{Answer}
use Rattle.osb_instance.specs.Recorded.{Recorded}
use Rattle.osb_network.specs.Cell.{Cell, IsPossible, empty_cell}
use Rattle.osb_network.specs.Steps.{cell_steps}
use Rattle.osb_network.specs.declared.event.Event.{Event}
use Rattle.osb_network.specs.declared.order.Order.{Order}
use Rattle.osb_network.proofs.Agreements.{agrees}
use Rattle.osb_network.proofs.Kept.{possible_empty, with_rec}
use Rattle.osb_binding_network.specs.declared.event.BindingEvent.{BindingEvent}
use Rattle.osb_binding_network.specs.declared.event.ServiceEvent.{ServiceEvent}
use Rattle.osb_binding_network.specs.declared.order.BindingOrder.{BindingOrder}
use Rattle.osb_binding_network.specs.declared.rules.Rules.{Rules}
use Rattle.osb_binding_network.specs.Agreement.{BindingAgrees}
use Rattle.osb_binding_network.specs.Allowed.{is_at_rest, is_ready, may_bind, may_create, may_remove, may_work, of_instance}
use Rattle.osb_binding_network.specs.Binding.{BindingCell}
use Rattle.osb_binding_network.specs.Possible.{IsOf}
use Rattle.osb_binding_network.specs.Service.{ServiceCells, AreStepped, each_of, life_order, new_service, ordered}
use Rattle.osb_binding_network.proofs.Many.{binding_agrees}
use Rattle.osb_platform_driver.specs.declared.driver.Wishes.{Wishes}
use Rattle.osb_platform_driver.specs.declared.world.Commit.{Commit}
use Rattle.osb_platform_driver.specs.declared.world.Source.{Source}
use Rattle.osb_platform_driver.specs.World.{HasInFlight, IsSound, KnowsAt, claim_events, committed_events, is_owner}
use Rattle.osb_platform_driver.specs.World.{resume_events, take_events}
use Rattle.osb_platform_driver.specs.Driver.{taken_from}
use Rattle.osb_platform_driver.proofs.Sound.{GoesOn, resume_goes, take_goes}
use Rattle.osb_binding_platform_driver.specs.declared.driver.PlatformStage.{PlatformStage}
use Rattle.osb_binding_platform_driver.specs.declared.transactions.PlatformTransaction.{PlatformTransaction}
use Rattle.osb_binding_platform_driver.specs.declared.world.PlatformHappening.{PlatformHappening}
use Rattle.osb_binding_platform_driver.specs.declared.world.PlatformServiceHappening.{PlatformServiceHappening}
use Rattle.osb_binding_platform_driver.specs.Driver.{counted, ended, transaction_at}
use Rattle.osb_binding_platform_driver.specs.Driver.{wishes_of_instance}
use Rattle.osb_binding_platform_driver.specs.ServiceWorld.{AlwaysAgree, IsBindingSound, Place, PlatformExchange}
use Rattle.osb_binding_platform_driver.specs.ServiceWorld.{ServiceWorld, all_gone, answer_source, around_binding, around_instance}
use Rattle.osb_binding_platform_driver.specs.ServiceWorld.{as_binding, as_instance, binding_happens, binding_happened, binding_step_at}
use Rattle.osb_binding_platform_driver.specs.ServiceWorld.{driver_at, empty_service, every_gone, happened}
use Rattle.osb_binding_platform_driver.specs.ServiceWorld.{instance_events, instance_happens, instance_reading, is_outside_binding, is_outside_service}
use Rattle.osb_binding_platform_driver.specs.ServiceWorld.{network_step, network_steps, new_place, place_by, place_step}
use Rattle.osb_binding_platform_driver.specs.ServiceWorld.{service_step, service_steps, stage_of, transacted_if, world_of}
use Rattle.osb_binding_platform_driver.proofs.Events.{claim_let, resume_let, take_let}
use Rattle.osb_binding_platform_driver.proofs.Fits.{IsFit, answer_fit, begun_fit, fetched_fit}
use Rattle.osb_binding_platform_driver.proofs.Lives.{alone, answer_comes, begun_sound, claims_on}
use Rattle.osb_binding_platform_driver.proofs.Lives.{fetched_sound, found_of, heard_sound, transact_sound, waiting}
use Rattle.osb_binding_platform_driver.proofs.Network.{AreLet, Can, after_events, are_stepped, binding_at, binding_steps}
use Rattle.osb_binding_platform_driver.proofs.Network.{bindings_stay, each_by, first_of, found_if, get_here, get_other, instance_at}
use Rattle.osb_binding_platform_driver.proofs.Network.{instance_stays, kept_all, none_at, others_at, second_of}
use Rattle.osb_binding_platform_driver.proofs.Outside.{instance_let, order_let, order_step, order_steps, outside_fit, sound_let}
use Rattle.osb_binding_platform_driver.proofs.Transacts.{HasPlan, exchange_at, transact_fit}

-- ---- a binding

transact_some : (create work end : Bool) (instance : Option Recorded) (b : BindingCell) (p : Place) (at : ℕ) (w : Wishes)
    (commit : Commit) (o : Option PlatformExchange) → slice_get p.exchanges at ≡ o
    → (is_ready instance ≡ true → create ≡ true) → HasPlan instance b.life → IsFit b p
    → IsFit (binding_steps create work end b (binding_happens instance b p (PlatformHappening.Transact at w commit) o))
    (place_by (around_binding instance b p) p (PlatformHappening.Transact at w commit) o)
transact_some create work end instance b p at w commit None is may has fit = fit
transact_some create work end instance b p at w commit (Some x) is may has fit =
    transact_fit commit create work end instance b p at w x may has is fit

answer_some : (instance : Option Recorded) (b : BindingCell) (p : Place) (at : ℕ) (source : Source) (sealed : Bool)
    (o : Option PlatformExchange) → slice_get p.exchanges at ≡ o → IsFit b p
    → IsFit b (place_by (around_binding instance b p) p (PlatformHappening.Answer at source sealed) o)
answer_some instance b p at source sealed None is fit = fit
answer_some instance b p at source sealed (Some x) is fit =
    answer_fit (around_binding instance b p).reading b p at x sealed source is fit

fetched_some : (instance : Option Recorded) (b : BindingCell) (p : Place) (at from : ℕ) (sealed : Bool)
    (o : Option PlatformExchange) → slice_get p.exchanges at ≡ o → IsFit b p
    → IsFit b (place_by (around_binding instance b p) p (PlatformHappening.Fetched at from sealed) o)
fetched_some instance b p at from sealed None is fit = fit
fetched_some instance b p at from sealed (Some x) is fit =
    fetched_fit (around_binding instance b p).reading b p at x from sealed is fit

driver_fit : (create work end : Bool) (instance : Option Recorded) (b : BindingCell) (p : Place) (h : PlatformHappening)
    → (is_ready instance ≡ true → create ≡ true) → HasPlan instance b.life → IsFit b p
    → IsFit (binding_steps create work end b (binding_happens instance b p h (driver_at p h)))
    (place_step (around_binding instance b p) p h)
driver_fit create work end instance b p PlatformHappening.Begin may has fit = begun_fit b p fit
driver_fit create work end instance b p (PlatformHappening.Transact at w commit) may has fit =
    transact_some create work end instance b p at w commit (slice_get p.exchanges at) refl may has fit
driver_fit create work end instance b p (PlatformHappening.Answer at source sealed) may has fit =
    answer_some instance b p at source sealed (slice_get p.exchanges at) refl fit
driver_fit create work end instance b p (PlatformHappening.Fetched at from sealed) may has fit =
    fetched_some instance b p at from sealed (slice_get p.exchanges at) refl fit

-- ---- an instance

let_commit : (remove work : Bool) (commit : Commit) (es : List Event) → AreLet remove work es
    → AreLet remove work (committed_events commit es)
let_commit remove work Commit.Returned es are = are
let_commit remove work Commit.Failed es are = tt
let_commit remove work (Commit.Unsure true) es are = are
let_commit remove work (Commit.Unsure false) es are = tt

no_events : (commit : Commit) (s : ServiceWorld) → IsSound (world_of s.service.instance s.instance)
    → IsSound (world_of (network_steps s.service (as_instance (committed_events commit []))).instance s.instance)
no_events Commit.Returned s h = h
no_events Commit.Failed s h = h
no_events (Commit.Unsure true) s h = h
no_events (Commit.Unsure false) s h = h

counted_all : (retrievable has : Bool) (row : Option Recorded) (a : Option Answer) → counted false retrievable has row a ≡ a
counted_all retrievable has None None = refl
counted_all retrievable has None (Some a) = refl
counted_all retrievable has (Some r) None = refl
counted_all retrievable has (Some r) (Some a) = refl

abbrev remove_of : ServiceCells → Bool
remove_of s = each_of (λ b. may_remove s.rules b) s.bindings

abbrev work_of : ServiceCells → Bool
work_of s = each_of (λ b. may_work s.rules b) s.bindings

instance_commits : (commit : Commit) (s : ServiceWorld) (at : ℕ) (x : PlatformExchange) (tx : PlatformTransaction)
    (es : List Event) → AreLet (remove_of s.service) (work_of s.service) es
    → GoesOn (world_of s.service.instance s.instance) (cell_steps s.service.instance es) at (alone tx) x.source
    → IsSound (world_of s.service.instance s.instance)
    → IsSound (world_of (network_steps s.service (as_instance (committed_events commit es))).instance
    (transacted_if commit s.instance at x (Some tx)))
instance_commits commit s at x tx es are goes h =
    transact_sound commit s.service.instance _ s.instance at x tx es
    (instance_at s.service (committed_events commit es) (let_commit (remove_of s.service) (work_of s.service) commit es are))
    goes h

instance_transacts : (commit : Commit) (s : ServiceWorld) (at : ℕ) (w : Wishes) (stage : PlatformStage) (source : Source)
    (credentials : Option ℕ) (from : ℕ) → (all_gone s.bindings ≡ true → remove_of s.service ≡ true)
    → KnowsAt s.service.instance (stage_of stage) source
    → (HasInFlight s.instance.row (stage_of stage) → s.instance.owner ≡ Some at)
    → IsSound (world_of s.service.instance s.instance)
    → IsSound (world_of (network_steps s.service (as_instance (committed_events commit
    (instance_events s.service.instance (instance_reading s at w) (exchange_at stage source credentials from) stage)))).instance
    (transacted_if commit s.instance at (exchange_at stage (answer_source stage source) credentials from)
    (transaction_at false stage (instance_reading s at w))))
instance_transacts commit s at w PlatformStage.Claim source credentials from gone know own h =
    let c = s.service.instance in
    let wishes = wishes_of_instance (all_gone s.bindings) w in
    instance_commits commit s at (exchange_at PlatformStage.Claim Source.Nowhere credentials from) _
    (claim_events wishes c.recorded)
    (claim_let (remove_of s.service) (work_of s.service) (all_gone s.bindings) w c.recorded gone)
    (claims_on c s.instance at false wishes.clean_up wishes c.order.service c.order.plan (λ e. (refl, refl)) h) h
instance_transacts commit s at w (PlatformStage.Take n a x) source credentials from gone know own h =
    let c = s.service.instance in
    let p = s.instance in
    instance_commits commit s at (exchange_at (PlatformStage.Take n a x) source credentials from) _
    (take_events c.recorded n source) (take_let (remove_of s.service) (work_of s.service) c.recorded n source)
    (subst (λ (y : Option Answer). GoesOn (world_of c p) (cell_steps c (take_events c.recorded n source)) at
    (alone (ended (taken_from n y p.row) false false (PlatformStage.Take n a x))) source)
    (sym (counted_all false x p.row a)) (take_goes (world_of c p) at n a source a source know.1 know own h)) h
instance_transacts commit s at w (PlatformStage.Unsure n) source credentials from gone know own h =
    let c = s.service.instance in
    let o = is_owner s.instance.owner at in
    instance_commits commit s at (exchange_at (PlatformStage.Unsure n) Source.Nowhere credentials from) _
    (resume_events o c.recorded n) (resume_let (remove_of s.service) (work_of s.service) o c.recorded n)
    (resume_goes (world_of c s.instance) at o n h) h
instance_transacts commit s at w (PlatformStage.Send sent f) source credentials from gone know own h = no_events commit s h
instance_transacts commit s at w (PlatformStage.Fetch n a) source credentials from gone know own h = no_events commit s h
instance_transacts commit s at w PlatformStage.Done source credentials from gone know own h = no_events commit s h

instance_transact : (s : ServiceWorld) (at : ℕ) (w : Wishes) (commit : Commit) (o : Option PlatformExchange)
    → slice_get s.instance.exchanges at ≡ o → (all_gone s.bindings ≡ true → remove_of s.service ≡ true)
    → IsSound (world_of s.service.instance s.instance)
    → IsSound (world_of
    (network_steps s.service (as_instance (instance_happens s (PlatformHappening.Transact at w commit) o))).instance
    (place_by (around_instance s) s.instance (PlatformHappening.Transact at w commit) o))
instance_transact s at w commit None is gone h = h
instance_transact s at w commit (Some x) is gone h =
    let there = found_of s.instance.exchanges at x is in
    instance_transacts commit s at w x.stage x.source x.credentials x.fetched gone (h.knows at _ there) (h.owns at _ there) h

instance_answer : (s : ServiceWorld) (at : ℕ) (source : Source) (sealed : Bool) (o : Option PlatformExchange)
    → slice_get s.instance.exchanges at ≡ o → IsSound (world_of s.service.instance s.instance)
    → IsSound (world_of s.service.instance
    (place_by (around_instance s) s.instance (PlatformHappening.Answer at source sealed) o))
instance_answer s at source sealed None is h = h
instance_answer s at source sealed (Some x) is h =
    let c = s.service.instance in
    let there = found_of s.instance.exchanges at x is in
    answer_comes (λ (p : Place). IsSound (world_of c p)) false (instance_reading s) c [] [] s.instance at sealed source x.stage
    (λ sent f e a credentials from comes told. heard_sound c s.instance at false sent f a credentials from comes
    (waiting c s.instance at x.stage x.source sent f e (h.knows at _ there) (h.owns at _ there)) h) h

instance_fetched : (s : ServiceWorld) (at from : ℕ) (sealed : Bool) (o : Option PlatformExchange)
    → slice_get s.instance.exchanges at ≡ o → IsSound (world_of s.service.instance s.instance)
    → IsSound (world_of s.service.instance
    (place_by (around_instance s) s.instance (PlatformHappening.Fetched at from sealed) o))
instance_fetched s at from sealed None is h = h
instance_fetched s at from sealed (Some x) is h =
    let there = found_of s.instance.exchanges at x is in
    fetched_sound false (instance_reading s) s.service.instance [] [] s.instance at x from sealed x.stage
    (h.knows at _ there) (h.owns at _ there) h

instance_sound : (s : ServiceWorld) (h : PlatformHappening) → (all_gone s.bindings ≡ true → remove_of s.service ≡ true)
    → IsSound (world_of s.service.instance s.instance)
    → IsSound (world_of (network_steps s.service (as_instance (instance_happens s h (driver_at s.instance h)))).instance
    (place_step (around_instance s) s.instance h))
instance_sound s PlatformHappening.Begin gone h = begun_sound s.service.instance s.instance h
instance_sound s (PlatformHappening.Transact at w commit) gone h =
    instance_transact s at w commit (slice_get s.instance.exchanges at) refl gone h
instance_sound s (PlatformHappening.Answer at source sealed) gone h =
    instance_answer s at source sealed (slice_get s.instance.exchanges at) refl h
instance_sound s (PlatformHappening.Fetched at from sealed) gone h =
    instance_fetched s at from sealed (slice_get s.instance.exchanges at) refl h

-- ---- a world that can come about

abbrev HasOrder : Order → BindingCell → Type 0
HasOrder order b = (b.life.order.service ≡ order.service) × (b.life.order.plan ≡ order.plan)

abbrev IsFitAt : Order → Option BindingCell → Option Place → Type 0
IsFitAt order None None = ⊤
IsFitAt order (Some b) (Some p) = IsFit b p × HasOrder order b
IsFitAt order b p = ⊥

record CanBe (order : Order) (s : ServiceWorld) : Type 0 where
  service : Can s.service
  instance : IsSound (world_of s.service.instance s.instance)
  ordered : s.service.instance.order ≡ order
  bindings : (id : ℕ) → IsFitAt order (map.get s.service.bindings id) (map.get s.bindings id)

-- ---- what transactions read is what the network's platform records

or_true : (x y : Bool) → y ≡ true → (x || y) ≡ true
or_true true y e = refl
or_true false y e = e

every_found : (q : ℕ) (es : List (ℕ × Place)) → every_gone (values_of es) ≡ true
    → IfSome (find nat_cmp q es) (λ p. is_at_rest p.row ≡ true)
every_found q [] e = tt
every_found q (x ∷ xs) e =
    found_if (eq_by_cmp nat_cmp q x.0) x.1 (find nat_cmp q xs) (λ p. is_at_rest p.row ≡ true) (first_of _ _ e)
    (every_found q xs (second_of _ _ e))

gone_found : (m : map.FinMap nat_cmp Place) (q : ℕ) → all_gone m ≡ true
    → IfSome (map.get m q) (λ p. is_at_rest p.row ≡ true)
gone_found m q e =
    subst (λ o. IfSome o (λ p. is_at_rest p.row ≡ true)) (sym (map.get-entries m q)) (every_found q (map.entries m) e)

rest_at : (order : Order) (r : Rules) (o : Option BindingCell) (l : Option Place) → IsFitAt order o l
    → IfSome l (λ p. is_at_rest p.row ≡ true) → IfSome o (λ b. may_remove r b.life ≡ true)
rest_at order r None l fit h = tt
rest_at order r (Some b) (Some p) fit h = or_true (not r.platform) _ (ap is_at_rest (sym fit.0.life.row) ∙ h)
rest_at order r (Some b) None fit h = absurd fit

removes : (order : Order) (s : ServiceWorld) → CanBe order s → all_gone s.bindings ≡ true → remove_of s.service ≡ true
removes order s can e =
    each_by (λ b. may_remove s.service.rules b) s.service.bindings
    (λ q. rest_at order s.service.rules (map.get s.service.bindings q) (map.get s.bindings q) (can.bindings q)
    (gone_found s.bindings q e))

creates : (order : Order) (s : ServiceWorld) → CanBe order s → is_ready s.instance.row ≡ true
    → may_create s.service.rules s.service.instance ≡ true
creates order s can e = or_true (not s.service.rules.platform) _ (ap is_ready (sym can.instance.row) ∙ e)

plan_by : (order : Order) (i : Cell) (row : Option Recorded) (c : Cell) → row ≡ i.recorded → IsPossible i
    → i.order ≡ order → (c.order.service ≡ order.service) × (c.order.plan ≡ order.plan) → HasPlan row c
plan_by order i None c is possible same has e = cc
plan_by order i (Some r) c is possible same has e =
    let at = with_rec i i.recorded r possible (sym is) in (
      at.service ∙ ap (λ (o : Order). o.service) same ∙ sym has.0,
      at.plan ∙ ap (λ (o : Order). o.plan) same ∙ sym has.1,
    )

-- ---- steps

order_as : (order : Order) (b n : BindingCell) → n.life.order ≡ b.life.order → HasOrder order b → HasOrder order n
order_as order b n e has = (ap (λ (o : Order). o.service) e ∙ has.0, ap (λ (o : Order). o.plan) e ∙ has.1)

-- one binding changes, and what the platform has of it
abbrev FitsIn : Order → map.FinMap nat_cmp BindingCell → map.FinMap nat_cmp Place → Type 0
FitsIn order m l = (q : ℕ) → IsFitAt order (map.get m q) (map.get l q)

fits_at : (order : Order) (m n : map.FinMap nat_cmp BindingCell) (l k : map.FinMap nat_cmp Place) (id : ℕ)
    → IsFitAt order (map.get n id) (map.get k id)
    → ((q : ℕ) → q ≢ id → map.get n q ≡ map.get m q) → ((q : ℕ) → q ≢ id → map.get k q ≡ map.get l q) → FitsIn order m l
    → FitsIn order n k
fits_at order m n l k id here cells places fit q =
    ⊎_elim
    (λ same. subst (λ (z : ℕ). IsFitAt order (map.get n z) (map.get k z)) (sym same) here)
    (λ apart. subst (λ o. IsFitAt order o (map.get k q)) (sym (cells q apart))
    (subst (λ o. IsFitAt order (map.get m q) o) (sym (places q apart)) (fit q)))
    (cases_eq q id)

-- of the drivers of a binding
binding_can : (order : Order) (s : ServiceWorld) (id : ℕ) (h : PlatformHappening) (o : Option BindingCell) (l : Option Place)
    → map.get s.service.bindings id ≡ o → map.get s.bindings id ≡ l → IsFitAt order o l → CanBe order s
    → FitsIn order (network_steps s.service (as_binding id (binding_happened s h o l))).bindings (binding_step_at s id h o l)
binding_can order s id h None l found there fit can = can.bindings
binding_can order s id h (Some b) None found there fit can = can.bindings
binding_can order s id h (Some b) (Some p) found there fit can =
    let i = s.service.instance in
    let es = binding_happens s.instance.row b p h (driver_at p h) in
    let n = after_events s.service b es in
    let k = place_step (around_binding s.instance.row b p) p h in
    let create = may_create s.service.rules i in
    let work = may_bind s.service.rules i in
    fits_at order s.service.bindings (network_steps s.service (as_binding id es)).bindings s.bindings
    (map.insert s.bindings id k) id
    (subst (λ o. IsFitAt order o (map.get (map.insert s.bindings id k) id)) (sym (binding_at s.service id es b found))
    (subst (λ o. IsFitAt order (Some n) o) (sym (get_here s.bindings id k)) (
      driver_fit create work i.held.tombstone s.instance.row b p h (creates order s can)
          (plan_by order i s.instance.row b.life can.instance.row can.instance.possible can.ordered fit.1) fit.0,
      order_as order b n (order_steps create work i.held.tombstone b es) fit.1,
    )))
    (others_at s.service id es) (get_other s.bindings id k) can.bindings

-- an event of a binding from outside
outside_here : (order : Order) (s : ServiceWorld) (id : ℕ) (e : BindingEvent) (o : Option BindingCell) (l : Option Place)
    → map.get s.service.bindings id ≡ o → map.get s.bindings id ≡ l → is_outside_binding e ≡ true → IsFitAt order o l
    → IsFitAt order (map.get (network_step s.service (ServiceEvent.Binding id e)).bindings id) (map.get s.bindings id)
outside_here order s id e None None found there out fit =
    subst (λ o. IsFitAt order o (map.get s.bindings id)) (sym (none_at s.service id e found))
    (subst (λ o. IsFitAt order None o) (sym there) tt)
outside_here order s id e (Some b) (Some p) found there out fit =
    let i = s.service.instance in
    let create = may_create s.service.rules i in
    let work = may_bind s.service.rules i in
    let n = after_events s.service b (e ∷ []) in
    subst (λ o. IsFitAt order o (map.get s.bindings id)) (sym (binding_at s.service id (e ∷ []) b found))
    (subst (λ o. IsFitAt order (Some n) o) (sym there) (
      outside_fit create work i.held.tombstone b p e out fit.0,
      order_as order b n (order_step create work i.held.tombstone b e) fit.1,
    ))
outside_here order s id e None (Some p) found there out fit = absurd fit
outside_here order s id e (Some b) None found there out fit = absurd fit

outside_can : (order : Order) (s : ServiceWorld) (id : ℕ) (e : BindingEvent) → is_outside_binding e ≡ true → CanBe order s
    → FitsIn order (network_step s.service (ServiceEvent.Binding id e)).bindings s.bindings
outside_can order s id e out can =
    fits_at order s.service.bindings (network_step s.service (ServiceEvent.Binding id e)).bindings s.bindings s.bindings id
    (outside_here order s id e (map.get s.service.bindings id) (map.get s.bindings id) refl refl out (can.bindings id))
    (others_at s.service id (e ∷ [])) (λ q apart. refl) can.bindings

-- a binding more
order_at : (order : Order) (s : ServiceWorld) (new : BindingOrder) (o : Option BindingCell) (l : Option Place)
    → s.service.instance.order ≡ order → IsFitAt order o l
    → IsFitAt order (Some (ordered s.service new o)) (Some (new_place l))
order_at order s new None None same fit = (
  record {
    life = record {
      row = refl;
      possible = possible_empty (life_order s.service.instance.order new);
      knows = λ at x is. cc;
      owns = λ at x is. cc;
    };
    credentials = refl;
    fits = λ at x is. cc;
  },
  (ap (λ (x : Order). x.service) same, ap (λ (x : Order). x.plan) same),
)
order_at order s new (Some b) (Some p) same fit = fit
order_at order s new None (Some p) same fit = absurd fit
order_at order s new (Some b) None same fit = absurd fit

order_can : (order : Order) (s : ServiceWorld) (new : BindingOrder) → CanBe order s
    → FitsIn order (network_step s.service (ServiceEvent.Order new)).bindings
    (map.insert s.bindings new.id (new_place (map.get s.bindings new.id)))
order_can order s new can =
    let id = new.id in
    let b = ordered s.service new (map.get s.service.bindings id) in
    let p = new_place (map.get s.bindings id) in
    fits_at order s.service.bindings (map.insert s.service.bindings id b) s.bindings (map.insert s.bindings id p) id
    (subst (λ o. IsFitAt order o (map.get (map.insert s.bindings id p) id)) (sym (get_here s.service.bindings id b))
    (subst (λ o. IsFitAt order (Some b) o) (sym (get_here s.bindings id p))
    (order_at order s new (map.get s.service.bindings id) (map.get s.bindings id) can.ordered (can.bindings id))))
    (get_other s.service.bindings id b) (get_other s.bindings id p) can.bindings

orders_stay : (s : ServiceCells) (es : List Event) → (network_steps s (as_instance es)).instance.order ≡ s.instance.order
orders_stay s [] = refl
orders_stay s (e ∷ es) =
    orders_stay (network_step s (ServiceEvent.Instance e)) es
    ∙ order_let s.instance (of_instance (remove_of s) (work_of s) s.instance e)

-- the places as they were, or a binding more of them
abbrev with_network : ServiceWorld → ServiceCells → ServiceWorld
with_network s n = record { service = n; instance = s.instance; bindings = s.bindings }

event_can : (order : Order) (s : ServiceWorld) (e : ServiceEvent) → is_outside_service e ≡ true → CanBe order s
    → CanBe order (with_network s (network_step s.service e))
event_can order s (ServiceEvent.Instance e) out can = record {
  service = kept_all s.service (ServiceEvent.Instance e ∷ []) can.service;
  instance = sound_let s.service.instance s.instance
      (of_instance (remove_of s.service) (work_of s.service) s.service.instance e)
      (instance_let (remove_of s.service) (work_of s.service) s.service.instance e out) can.instance;
  ordered = order_let s.service.instance (of_instance (remove_of s.service) (work_of s.service) s.service.instance e)
      ∙ can.ordered;
  bindings = can.bindings;
}
event_can order s (ServiceEvent.Order new) out can = cc
event_can order s (ServiceEvent.Binding id e) out can = record {
  service = kept_all s.service (ServiceEvent.Binding id e ∷ []) can.service;
  instance = can.instance;
  ordered = can.ordered;
  bindings = outside_can order s id e out can;
}

event_if : (order : Order) (s : ServiceWorld) (e : ServiceEvent) (x : Bool) → is_outside_service e ≡ x → CanBe order s
    → CanBe order (with_network s (network_steps s.service (if x then e ∷ [] else [])))
event_if order s e true out can = event_can order s e out can
event_if order s e false out can = can

-- ---- whatever happens

step_can : (order : Order) (s : ServiceWorld) (h : PlatformServiceHappening) → CanBe order s
    → CanBe order (service_step s h)
step_can order s (PlatformServiceHappening.Outside e) can = event_if order s e (is_outside_service e) refl can
step_can order s (PlatformServiceHappening.Order new) can = record {
  service = kept_all s.service (ServiceEvent.Order new ∷ []) can.service;
  instance = can.instance;
  ordered = can.ordered;
  bindings = order_can order s new can;
}
step_can order s (PlatformServiceHappening.Instance h) can =
    let es = instance_happens s h (driver_at s.instance h) in
    record {
      service = kept_all s.service (as_instance es) can.service;
      instance = instance_sound s h (removes order s can) can.instance;
      ordered = orders_stay s.service es ∙ can.ordered;
      bindings = subst (λ (m : map.FinMap nat_cmp BindingCell). FitsIn order m s.bindings) (sym (bindings_stay s.service es))
          can.bindings;
    }
step_can order s (PlatformServiceHappening.Binding id h) can =
    let o = map.get s.service.bindings id in
    let l = map.get s.bindings id in
    let es = binding_happened s h o l in
    let stays = instance_stays s.service id es in
    record {
      service = kept_all s.service (as_binding id es) can.service;
      instance = subst (λ (c : Cell). IsSound (world_of c s.instance)) (sym stays) can.instance;
      ordered = ap (λ (c : Cell). c.order) stays ∙ can.ordered;
      bindings = binding_can order s id h o l refl refl (can.bindings id) can;
    }

abbrev IsRun : ServiceCells → ServiceCells → Type 0
IsRun a s = (events : List ServiceEvent) × AreStepped a events s

all_steps : (order : Order) (a : ServiceCells) (s : ServiceWorld) (hs : List PlatformServiceHappening) → CanBe order s
    → IsRun a s.service → CanBe order (service_steps s hs) × IsRun a (service_steps s hs).service
all_steps order a s [] can run = (can, run)
all_steps order a s (h ∷ hs) can run =
    all_steps order a (service_step s h) hs (step_can order s h can)
    (run.0 ++ happened s h, are_stepped a s.service run.0 (happened s h) run.1)

none_found : {X : Type 0} (P : Option X → Type 0) (q : ℕ) → P None → P (map.get (map.empty {X = X} {R = nat_cmp}) q)
none_found P q p = subst P (sym (map.get-empty nat_cmp q)) p

begin_can : (r : Rules) (order : Order) → CanBe order (empty_service r order)
begin_can r order = record {
  service = record {
    possible = possible_empty order;
    each = λ id. none_found (λ o. IfSome o (IsOf r (empty_cell order))) id tt;
  };
  instance = record { row = refl; possible = possible_empty order; knows = λ at x is. cc; owns = λ at x is. cc };
  ordered = refl;
  bindings = λ id. none_found (λ o. IsFitAt order o (map.get (map.empty {X = Place} {R = nat_cmp}) id)) id
      (none_found (λ o. IsFitAt order None o) id tt);
}

sound_at : (order : Order) (o : Option BindingCell) (l : Option Place) → IsFitAt order o l → IsBindingSound o l
sound_at order None None fit = tt
sound_at order (Some b) (Some p) fit = (fit.0.life, fit.0.credentials)
sound_at order None (Some p) fit = fit
sound_at order (Some b) None fit = fit

agree_at : (r : Rules) (i : Cell) (o : Option BindingCell) → IsPossible i → IfSome o (IsOf r i)
    → IfSome o (BindingAgrees r i)
agree_at r i None possible of = tt
agree_at r i (Some b) possible of = binding_agrees r i b possible of

pub always_agree : AlwaysAgree
always_agree r order hs =
    let s = service_steps (empty_service r order) hs in
    let all = all_steps order (new_service r order) (empty_service r order) hs (begin_can r order) ([], refl) in
    let can = all.0 in
    record {
      sound = record {
        instance = can.instance;
        bindings = λ id. sound_at order (map.get s.service.bindings id) (map.get s.bindings id) (can.bindings id);
      };
      run = all.1;
      agrees = record {
        instance = agrees s.service.instance can.service.possible;
        bindings = λ id. agree_at s.service.rules s.service.instance (map.get s.service.bindings id) can.service.possible
            (can.service.each id);
      };
    }
