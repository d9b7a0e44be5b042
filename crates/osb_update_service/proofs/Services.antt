-- How an instance goes on by an event of the instance or of a binding, as its updates and its bindings let it happen.
use Rattle.std.proofs.Common.{false, ◌≡◌, Bool, true, refl, sym, subst}
use Rattle.std.specs.Prelude.{Option, Some, None, not, is_none}
use Rattle.osb_network.specs.Cell.{Cell, IsPossible}
use Rattle.osb_network.specs.declared.event.Event.{Event}
use Rattle.osb_binding_network.specs.Allowed.{happened, may_remove, may_work, of_instance}
use Rattle.osb_binding_network.specs.Happening.{service_applies, service_takes_memory}
use Rattle.osb_network.specs.Steps.{step_of}
use Rattle.osb_network.specs.declared.step.Step.{Step}
use Rattle.osb_binding_network.specs.Service.{ServiceCells, each_of, instance_by, IsStepped}
use Rattle.osb_binding_network.specs.declared.event.ServiceEvent.{ServiceEvent}
use Rattle.osb_update.specs.Begun.{is_available, is_under_way}
use Rattle.osb_update.specs.declared.settings.Settings.{Settings}
use Rattle.osb_update_sides.specs.Cell.{UpdatesCell}
use Rattle.osb_update_sides.specs.Possible as sides
use Rattle.osb_update_sides.specs.Steps.{may_live}
use Rattle.osb_update_service.specs.Steps.{followed, let_instance, let_service, service_event, settings_then, service_asks, service_happens, IsServiceStep}
use Rattle.osb_update_service.specs.Tied.{IsTied, UpdatedCells, life_of}
use Rattle.osb_update_service.proofs.Follows.{follows, may_follow}
use Rattle.osb_update_service.proofs.Went.{let_is, still_is, went, went_same, IsLet, Went}

happened_went : (o : Option Event) (r w x y : Bool) (c : Cell) (e : Event) → IsPossible c → IsLet r w c e
    → of_instance x y c e ≡ o → Went r w c (happened c o)
happened_went None r w x y c e h l i = went_same r w c
happened_went (Some after) r w x y c e h l i = went r w c after h (still_is r w x y c e after l i)

some_same : (a b : ServiceEvent) → Some a ≡ Some b → a ≡ b
some_same a b e = cc

instance_went : (o : Option Event) (u : UpdatesCell) (s : ServiceCells) (before : Event) (after : ServiceEvent)
    → IsPossible s.instance → let_instance u s.instance before ≡ o → service_event o ≡ Some after
    → Went (is_none u.recorded.out) (not (is_under_way u.held.phase)) s.instance (instance_by s after)
instance_went None u s before after h i e = cc
instance_went (Some event) u s before after h i e =
    let r = is_none u.recorded.out in
    let w = not (is_under_way u.held.phase) in
    let x = each_of (λ b. may_remove s.rules b) s.bindings in
    let y = each_of (λ b. may_work s.rules b) s.bindings in
    subst (λ (z : ServiceEvent). Went r w s.instance (instance_by s z)) (some_same (ServiceEvent.Instance event) after e)
    (happened_went (of_instance x y s.instance event) r w x y s.instance event h
    (let_is r w s.instance before event i) refl)

by_service : (u : UpdatesCell) (s : ServiceCells) (before after : ServiceEvent) → IsPossible s.instance
    → let_service u s.instance before ≡ Some after
    → Went (is_none u.recorded.out) (not (is_under_way u.held.phase)) s.instance (instance_by s after)
by_service u s (ServiceEvent.Instance event) after h e =
    instance_went (let_instance u s.instance event) u s event after h refl e
by_service u s before after h e =
    let r = is_none u.recorded.out in
    let w = not (is_under_way u.held.phase) in
    subst (λ (z : ServiceEvent). Went r w s.instance (instance_by s z)) (some_same before after e) (went_same r w s.instance)

-- ---- what a step of both has made

pub stepped : (v : UpdatedCells) (before after : ServiceEvent) (settings : Option Settings) (n : UpdatedCells)
    → let_service v.updates v.service.instance before ≡ Some after → IsStepped v.service after n.service
    → n.updates ≡ followed v.updates n.service.instance settings
    → IsServiceStep v (let_service v.updates v.service.instance before) settings n
stepped v before after settings n e s f =
    subst (λ (o : Option ServiceEvent). IsServiceStep v o settings n) (sym e) (s, f)

-- what a step of an instance with its bindings has made of the instance
pub record Ready (u : UpdatesCell) (s : ServiceCells) (before : ServiceEvent) (after : ServiceEvent) (a : Cell) : Type 0 where
  pub updates : sides.IsPossible u
  pub tied : IsTied s.instance u
  pub old : IsPossible s.instance
  pub new : IsPossible a
  pub lets : let_service u s.instance before ≡ Some after
  pub instance : a ≡ instance_by s after

went_to : (u : UpdatesCell) (s : ServiceCells) (before after : ServiceEvent) (a : Cell) → Ready u s before after a
    → Went (is_none u.recorded.out) (not (is_under_way u.held.phase)) s.instance a
went_to u s before after a h =
    subst (λ (x : Cell). Went (is_none u.recorded.out) (not (is_under_way u.held.phase)) s.instance x) (sym h.instance)
    (by_service u s before after h.old h.lets)

-- its updates may see it
pub may_see : (u : UpdatesCell) (s : ServiceCells) (before after : ServiceEvent) (a : Cell) (settings : Option Settings)
    → Ready u s before after a
    → may_live u (life_of a) (settings_then (is_available a.held) u.held.phase u settings) ≡ true
may_see u s before after a settings h =
    may_follow u s.instance a settings h.updates h.tied h.new (went_to u s before after a h)

-- and have seen it
pub sees : (u n : UpdatesCell) (s : ServiceCells) (before after : ServiceEvent) (a : Cell) (settings : Option Settings)
    → Ready u s before after a → n ≡ followed u a settings → IsTied a n
sees u n s before after a settings h e =
    subst (IsTied a) (sym e)
    (follows u s.instance a settings h.updates h.tied h.new (went_to u s before after a h))

-- whether it has happened
pub happened_by : (v : UpdatedCells) (before after : ServiceEvent) (step : Step)
    → let_service v.updates v.service.instance before ≡ Some after → step ≡ step_of (service_applies v.service after)
    → step ≡ step_of (service_happens v.service (let_service v.updates v.service.instance before))
happened_by v before after step e s =
    subst (λ (o : Option ServiceEvent). step ≡ step_of (service_happens v.service o)) (sym e) s

pub asks_by : (v : UpdatedCells) (before after : ServiceEvent)
    → let_service v.updates v.service.instance before ≡ Some after
    → service_asks v.service (let_service v.updates v.service.instance before) ≡ false
    → service_takes_memory v.service after ≡ false
asks_by v before after e s = subst (λ (o : Option ServiceEvent). service_asks v.service o ≡ false) e s
