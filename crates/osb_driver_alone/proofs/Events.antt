-- What an event of the network is in `AnyPlatform`: what is held, the resource and the answers are the same.
use Rattle.std.proofs.Common.{◌≡◌, ℕ, Bool, true, false, refl, sym, ap, subst, ◌∙◌, List, [], ◌∷◌}
use Rattle.std.specs.Prelude.{Option, Some, None, IsSomeAnd, ◌&&◌, if◌then◌else◌}
use Rattle.osb_message.specs.Plans.{Catalogue}
use Rattle.osb_message.specs.declared.catalogue.Mode.{Mode}
use Rattle.osb_message.specs.declared.catalogue.Mode.TheVariants.{Sync, Async}
use Rattle.osb_message.specs.declared.messages.Answer.{Answer}
use Rattle.osb_message.specs.declared.messages.Kind.{Kind}
use Rattle.osb_message.specs.declared.messages.Kind.TheVariants.{Provision, Poll, Deprovision}
use Rattle.osb_message.specs.declared.messages.Request.{Request}
use Rattle.osb_broker.specs.Answers.{mode_of}
use Rattle.osb_broker.specs.declared.row.BrokerRow.{BrokerRow}
use Rattle.osb_instance.specs.Begin.{begun, begun_with, busy, conflict, conflicts, finished_held, given_up, worked}
use Rattle.osb_instance.specs.Held.{Held}
use Rattle.osb_instance.specs.declared.digest.Digest.{Digest}
use Rattle.osb_instance.specs.declared.outcome.WorkOutcome.{WorkOutcome}
use Rattle.osb_instance.specs.declared.work.Begun.{Begun}
use Rattle.osb_instance.specs.declared.work.Begun.TheVariants.{Answered}
use Rattle.osb_instance.specs.declared.work.Work.{Work}
use Rattle.osb_network.specs.AnyPlatform.{AnyCell, any_end, any_end_of, any_put_off, any_steps, believed, heard}
use Rattle.osb_network.specs.AnyPlatform.{is_sure_end, may_become, may_finish, reported}
use Rattle.osb_network.specs.Cell.{Cell}
use Rattle.osb_network.specs.Steps.{arrive, arrived, can_finish, cell_steps, ended, put_off as put_off_cell}
use Rattle.osb_network.specs.Truth.{is_true_end, is_under_way}
use Rattle.osb_network.specs.declared.any_platform.BrokerEvent.{BrokerEvent}
use Rattle.osb_network.specs.declared.any_platform.Told.{Told}
use Rattle.osb_network.specs.declared.event.Event.{Event}
use Rattle.osb_network.specs.declared.event.Given.{Given}
use Rattle.osb_network.specs.declared.resource.Resource.{Resource}
use Rattle.osb_driver.proofs.Busy.{answered_work, due_pending, worked_idle}
use Rattle.osb_driver.proofs.Kept.{end_is}
use Rattle.osb_driver_alone.specs.declared.world.Asked.{Asked}
use Rattle.osb_driver_alone.specs.World.{IsAsker, WorldState, answer_in, answered, answered_by, arrival, asked_as}
use Rattle.osb_driver_alone.specs.World.{end_answer, event_of, given_to, mode_with, put_off, seen}
use Rattle.osb_driver_alone.proofs.Requests.{sent_by, sent_is}

-- the cell of the network
abbrev pub net : WorldState → Option Mode → Digest → Cell
net s m a = (seen s m a).cell

-- the mode is that of the pending work
abbrev pub IsModeOf : WorldState → Option Mode → Held → Type 0
IsModeOf s m h = (q : Request) → h.work ≡ Some q → m ≡ mode_of s.cell.catalogue q

-- the same step, of the network and of `AnyPlatform`
pub record IsStep (s : WorldState) (m : Option Mode) (c : Cell) (x : AnyCell) (now : List Given) : Type 0 where
  pub held : c.held ≡ x.held
  pub resource : c.resource ≡ x.resource
  pub mode : c.order.mode ≡ m
  pub catalogue : x.catalogue ≡ s.cell.catalogue
  pub pending : IsModeOf s m x.held
  pub asker : IsAsker s.asked x.held c.worker
  pub given : c.given ≡ now

-- what goes before it
pub record IsReady (s : WorldState) (m : Option Mode) : Type 0 where
  pub pending : IsModeOf s m s.cell.held
  pub asker : IsAsker s.asked s.cell.held s.worker

pub no_step : (s : WorldState) (m : Option Mode) (a : Digest) → IsReady s m → IsStep s m (net s m a) s.cell s.given
no_step s m a h = record {
  held = refl;
  resource = refl;
  mode = refl;
  catalogue = refl;
  pending = h.pending;
  asker = h.asker;
  given = refl;
}

-- ---- a request that comes

asker_stays : (xs : List Asked) (h n : Held) (w : Option ℕ) → n.work ≡ h.work → IsAsker xs h w → IsAsker xs n w
asker_stays xs h n None e k = tt
asker_stays xs h n (Some i) e k =
    subst (λ (v : Option Request). IsSomeAnd (asked_as xs i) (λ (x : Asked). v ≡ Some x.request)) (sym e) k

asker_is : (xs : List Asked) (n : ℕ) (x : Asked) (h : Held) → asked_as xs n ≡ Some x → h.work ≡ Some x.request
    → IsAsker xs h (Some n)
asker_is xs n x h e w =
    subst (λ (y : Option Asked). IsSomeAnd y (λ (z : Asked). h.work ≡ Some z.request)) (sym e) w

-- it is answered, or its work begins
arrives_as : (s : WorldState) (m : Option Mode) (a : Digest) (n : ℕ) (x : Asked) (h : Held) (b : Begun) (told : Told)
    → asked_as s.asked n ≡ Some x → IsReady s m
    → ((y : Answer) → b ≡ Answered y → h.work ≡ s.cell.held.work)
    → ((w : Work) → b ≡ Begun.Work w → h.work ≡ Some x.request)
    → ((w : Work) → b ≡ Begun.Work w → m ≡ mode_of s.cell.catalogue x.request)
    → IsStep s m (arrived (net s m a) (record { request = x.request; attempt = n }) h b)
    (record s.cell { held = h; told = told }) (given_to s.given (Some n) (answer_in b))
arrives_as s m a n x h (Answered y) told found ready same due mode = record {
  held = refl;
  resource = refl;
  mode = refl;
  catalogue = refl;
  pending = λ q e. ready.pending q (sym (same y refl) ∙ e);
  asker = asker_stays s.asked s.cell.held h s.worker (same y refl) ready.asker;
  given = refl;
}
arrives_as s m a n x h (Begun.Work w) told found ready same due mode = record {
  held = refl;
  resource = refl;
  mode = refl;
  catalogue = refl;
  pending = λ q e. (let r : Some x.request ≡ Some q = sym (due w refl) ∙ e in
      let i : x.request ≡ q = cc in mode w refl ∙ ap (mode_of s.cell.catalogue) i);
  asker = asker_is s.asked n x h found (due w refl);
  given = refl;
}

idle_if : (x : Bool) (q : Option Request) (m : Option Mode) (f : Bool) (h : Held) (r : Request) (t : Digest) (w : Work)
    → (if x then (h, Answered conflict) else begun_with q m f h r t).1 ≡ Begun.Work w → q ≡ None
idle_if true q m f h r t w e = cc
idle_if false None m f h r t w e = refl
idle_if false (Some q) m f h r t w e = cc

-- work begins only if none is pending
begins_idle : (m : Option Mode) (f : Bool) (h : Held) (r : Request) (t : Digest) (w : Work)
    → (begun m f h r t).1 ≡ Begun.Work w → h.work ≡ None
begins_idle m f h r t w e = idle_if (conflicts h r t) h.work m f h r t w e

same_begun : (x : Bool) (q : Request) (m : Option Mode) (f : Bool) (h : Held) (r : Request) (t : Digest)
    → (if x then (h, Answered conflict) else begun_with (Some q) m f h r t).0 ≡ h
same_begun true q m f h r t = refl
same_begun false q m f h r t = refl

abbrev begun_as : Option Request → Option Mode → Bool → Held → Request → Digest → Held × Begun
begun_as w m f h r t = if conflicts h r t then (h, Answered conflict) else begun_with w m f h r t

-- a request changes nothing while work is pending
pub begun_idle : (q : Request) (m : Option Mode) (f : Bool) (h : Held) (r : Request) (t : Digest) → h.work ≡ Some q
    → (begun m f h r t).0 ≡ h
begun_idle q m f h r t e =
    ap (λ (v : Option Request). (begun_as v m f h r t).0) e ∙ same_begun (conflicts h r t) q m f h r t

pub mode_pending : (cat : Catalogue) (w : Option Request) (x : Option Asked) (q : Request) → w ≡ Some q
    → mode_with cat w x ≡ mode_of cat q
mode_pending cat w x q e = ap (λ (v : Option Request). mode_with cat v x) e

pub mode_idle : (cat : Catalogue) (w : Option Request) (x : Asked) → w ≡ None
    → mode_with cat w (Some x) ≡ mode_of cat x.request
mode_idle cat w x e = ap (λ (v : Option Request). mode_with cat v (Some x)) e

free_by : (cat : Catalogue) (w : Option Request) (f : Bool) (h : Held) (x : Asked) → h.work ≡ w
    → begun (mode_with cat h.work (Some x)) f h x.request x.attributes
    ≡ begun (mode_of cat x.request) f h x.request x.attributes
free_by cat None f h x e =
    ap (λ (m : Option Mode). begun m f h x.request x.attributes) (mode_idle cat h.work x e)
free_by cat (Some q) f h x e =
    ap (λ (v : Option Request). begun_as v (mode_with cat h.work (Some x)) f h x.request x.attributes) e
    ∙ sym (ap (λ (v : Option Request). begun_as v (mode_of cat x.request) f h x.request x.attributes) e)

-- while work is pending, the mode of its plan tells nothing of a request
pub free : (cat : Catalogue) (f : Bool) (h : Held) (x : Asked)
    → begun (mode_with cat h.work (Some x)) f h x.request x.attributes
    ≡ begun (mode_of cat x.request) f h x.request x.attributes
free cat f h x = free_by cat h.work f h x refl

-- as the network has it, and as `AnyPlatform` does
pub arrive_is : (s : WorldState) (m : Option Mode) (a : Digest) (n : ℕ) (x : Asked) → asked_as s.asked n ≡ Some x
    → cell_steps (net s m a) (Event.Arrive n ∷ [])
    ≡ arrive (net s m a) (Some record { request = x.request; attempt = n })
arrive_is s m a n x found = ap (arrive (net s m a)) (sent_is s.asked n ∙ ap (sent_by n) found)

pub arrived_any : (s : WorldState) (n : ℕ) (x : Asked) (b : Held × Begun) → asked_as s.asked n ≡ Some x
    → begun (mode_of s.cell.catalogue x.request) s.cell.first_poll s.cell.held x.request x.attributes ≡ b
    → any_steps s.cell (event_of s (Event.Arrive n))
    ≡ record s.cell { held = b.0; told = reported b.1 x.request.kind (heard x.request.kind s.cell.told) }
arrived_any s n x b found e =
    ap (λ (y : Option Asked). any_steps s.cell (arrival y)) found
    ∙ ap (λ (y : Held × Begun).
    record s.cell { held = y.0; told = reported y.1 x.request.kind (heard x.request.kind s.cell.told) }) e

answered_arrival : (s : WorldState) (n : ℕ) (x : Asked) (b : Held × Begun) → asked_as s.asked n ≡ Some x
    → begun (mode_of s.cell.catalogue x.request) s.cell.first_poll s.cell.held x.request x.attributes ≡ b
    → answered s (Event.Arrive n ∷ []) ≡ given_to s.given (Some n) (answer_in b.1)
answered_arrival s n x b found e =
    ap (λ (y : Option Asked). answered_by s (Event.Arrive n) (arrival y)) found
    ∙ ap (λ (y : Held × Begun). given_to s.given (Some n) (answer_in y.1)) e

step_eq : (s : WorldState) (m : Option Mode) (c d : Cell) (x y : AnyCell) (g k : List Given) → c ≡ d → x ≡ y → g ≡ k
    → IsStep s m d y k → IsStep s m c x g
step_eq s m c d x y g k e f i h =
    subst (λ (z : Cell). IsStep s m z x g) (sym e)
    (subst (λ (z : AnyCell). IsStep s m d z g) (sym f) (subst (λ (z : List Given). IsStep s m d y z) (sym i) h))

pub arrive_step : (s : WorldState) (n : ℕ) (x : Asked) → asked_as s.asked n ≡ Some x
    → IsReady s (mode_with s.cell.catalogue s.cell.held.work (Some x))
    → IsStep s (mode_with s.cell.catalogue s.cell.held.work (Some x))
    (cell_steps (net s (mode_with s.cell.catalogue s.cell.held.work (Some x)) x.attributes) (Event.Arrive n ∷ []))
    (any_steps s.cell (event_of s (Event.Arrive n))) (answered s (Event.Arrive n ∷ []))
arrive_step s n x found ready =
    let m = mode_with s.cell.catalogue s.cell.held.work (Some x) in
    let b = begun m s.cell.first_poll s.cell.held x.request x.attributes in
    let same = sym (free s.cell.catalogue s.cell.first_poll s.cell.held x) in
    step_eq s m _ _ _ _ _ _ (arrive_is s m x.attributes n x found) (arrived_any s n x b found same)
    (answered_arrival s n x b found same)
    (arrives_as s m x.attributes n x b.0 b.1 (reported b.1 x.request.kind (heard x.request.kind s.cell.told)) found ready
    (answered_work m s.cell.first_poll s.cell.held x.request x.attributes)
    (due_pending m s.cell.first_poll s.cell.held x.request x.attributes)
    (λ w e. mode_idle s.cell.catalogue s.cell.held.work x
    (begins_idle m s.cell.first_poll s.cell.held x.request x.attributes w e)))

-- it is put off
pub put_off_any : (s : WorldState) (n : ℕ) (x : Asked) → asked_as s.asked n ≡ Some x
    → any_steps s.cell (event_of s (Event.PutOff n)) ≡ any_put_off s.cell x.request.kind
put_off_any s n x found = ap (λ (y : Option Asked). any_steps s.cell (put_off y)) found

pub put_off_step : (s : WorldState) (m : Option Mode) (a : Digest) (n : ℕ) (x : Asked) → asked_as s.asked n ≡ Some x
    → IsReady s m
    → IsStep s m (cell_steps (net s m a) (Event.PutOff n ∷ []))
    (any_steps s.cell (event_of s (Event.PutOff n))) (answered s (Event.PutOff n ∷ []))
put_off_step s m a n x found ready =
    step_eq s m _ (put_off_cell (net s m a) (Some record { request = x.request; attempt = n })) _
    (any_put_off s.cell x.request.kind) _ (given_to s.given (Some n) (Some (busy x.request.kind)))
    (ap (put_off_cell (net s m a)) (sent_is s.asked n ∙ ap (sent_by n) found)) (put_off_any s n x found)
    (ap (λ (y : Option Asked). answered_by s (Event.PutOff n) (put_off y)) found)
    (record {
      held = refl;
      resource = refl;
      mode = refl;
      catalogue = refl;
      pending = ready.pending;
      asker = ready.asker;
      given = refl;
    })

-- ---- the end of pending work

true_if_sure : (m : Option Mode) (b : Option BrokerRow) (k : Kind) (out : WorkOutcome) (t : Resource)
    → is_sure_end m b k out t ≡ true → is_true_end m k out t ≡ true
true_if_sure m b Provision out t e = e
true_if_sure m b Poll out t e = e
true_if_sure m b Deprovision WorkOutcome.Done t e = e
true_if_sure m b Deprovision WorkOutcome.After t e = e
true_if_sure m b Deprovision (WorkOutcome.Refused j) t e = e
true_if_sure None b Deprovision WorkOutcome.Before t e = refl
true_if_sure (Some Sync) b Deprovision WorkOutcome.Before t e = refl
true_if_sure (Some Async) b Deprovision WorkOutcome.Before t e = refl

pub sure_is_true : (m : Option Mode) (b : Option BrokerRow) (k : Kind) (out : WorkOutcome) (t : Resource)
    → is_sure_end m b k out t ≡ true → is_true_end m k out t ≡ true
sure_is_true m b k out t e = true_if_sure m b k out t e

none_some : (q : Request) → None ≡ Some q → ⊥
none_some q e = cc

ends_as : (s : WorldState) (m : Option Mode) (a : Digest) (h : Held) (y : Answer) (told : Told) (w : Option ℕ)
    → s.worker ≡ w → h.work ≡ None
    → IsStep s m (ended (net s m a) h y w) (record s.cell { held = h; told = told }) (given_to s.given w (Some y))
ends_as s m a h y told None e idle = record {
  held = refl;
  resource = refl;
  mode = refl;
  catalogue = refl;
  pending = λ q f. absurd (none_some q (sym idle ∙ f));
  asker = subst (IsAsker s.asked h) (sym e) tt;
  given = refl;
}
ends_as s m a h y told (Some n) e idle = record {
  held = refl;
  resource = refl;
  mode = refl;
  catalogue = refl;
  pending = λ q f. absurd (none_some q (sym idle ∙ f));
  asker = tt;
  given = refl;
}

abbrev pub ended_any : WorldState → Request → Held × Answer → AnyCell
ended_any s q x = record s.cell { held = x.0; told = believed q.kind x.1 s.cell.told }

abbrev pub IsSure : WorldState → Request → WorkOutcome → Type 0
IsSure s q out = is_sure_end (mode_of s.cell.catalogue q) s.cell.held.row q.kind out s.cell.resource ≡ true

pub end_any : (s : WorldState) (q : Request) (out : WorkOutcome) → s.cell.held.work ≡ Some q → IsSure s q out
    → any_steps s.cell (BrokerEvent.End out ∷ [])
    ≡ ended_any s q (worked (mode_of s.cell.catalogue q) s.cell.held q out)
end_any s q out e sure =
    ap (λ (w : Option Request). any_end s.cell w out) e
    ∙ ap (λ (x : Bool). if x then any_end_of s.cell q out else s.cell) sure

end_answered : (s : WorldState) (q : Request) (out : WorkOutcome) → s.cell.held.work ≡ Some q → IsSure s q out
    → answered s (Event.End out ∷ [])
    ≡ given_to s.given s.worker (Some (worked (mode_of s.cell.catalogue q) s.cell.held q out).1)
end_answered s q out e sure =
    let y = (worked (mode_of s.cell.catalogue q) s.cell.held q out).1 in
    ap (λ (w : Option Request). given_to s.given s.worker (end_answer s.cell w out)) e
    ∙ ap (λ (x : Bool). given_to s.given s.worker (if x then Some y else None)) sure

pub end_step : (s : WorldState) (m : Option Mode) (a : Digest) (q : Request) (out : WorkOutcome)
    → s.cell.held.work ≡ Some q → m ≡ mode_of s.cell.catalogue q → IsSure s q out
    → IsStep s m (cell_steps (net s m a) (Event.End out ∷ [])) (any_steps s.cell (BrokerEvent.End out ∷ []))
    (answered s (Event.End out ∷ []))
end_step s m a q out e same sure =
    let x = worked m s.cell.held q out in
    let to = ap (λ (n : Option Mode). worked n s.cell.held q out) (sym same) in
    step_eq s m _ _ _ _ _ _
    (end_is (net s m a) out q e
    (subst (λ (n : Option Mode). is_true_end n q.kind out s.cell.resource ≡ true) (sym same)
    (sure_is_true (mode_of s.cell.catalogue q) s.cell.held.row q.kind out s.cell.resource sure)))
    (end_any s q out e sure ∙ ap (ended_any s q) to)
    (end_answered s q out e sure ∙ ap (λ (y : Held × Answer). given_to s.given s.worker (Some y.1)) to)
    (ends_as s m a x.0 x.1 (believed q.kind x.1 s.cell.told) s.worker refl (worked_idle m s.cell.held q out))

-- ---- the end of an operation, and of a wait

-- what is held is other, and the pending work is as it was
holds_as : (s : WorldState) (m : Option Mode) (a : Digest) (h : Held) → h.work ≡ s.cell.held.work → IsReady s m
    → IsStep s m (record (net s m a) { held = h }) (record s.cell { held = h }) s.given
holds_as s m a h e ready = record {
  held = refl;
  resource = refl;
  mode = refl;
  catalogue = refl;
  pending = λ q f. ready.pending q (sym e ∙ f);
  asker = asker_stays s.asked s.cell.held h s.worker e ready.asker;
  given = refl;
}

given_none : (xs : List Given) (w : Option ℕ) → given_to xs w None ≡ xs
given_none xs None = refl
given_none xs (Some n) = refl

pub finish_step : (s : WorldState) (m : Option Mode) (a : Digest) (ok : Bool)
    → can_finish (net s m a) ok ≡ true → may_finish s.cell ok ≡ true → IsReady s m
    → IsStep s m (cell_steps (net s m a) (Event.Finish ok ∷ [])) (any_steps s.cell (BrokerEvent.Finish ok ∷ []))
    (answered s (Event.Finish ok ∷ []))
finish_step s m a ok e f ready =
    let h = finished_held s.cell.held ok in
    step_eq s m _ _ _ _ _ _
    (ap (λ (x : Bool). if x then record (net s m a) { held = h } else net s m a) e)
    (ap (λ (x : Bool). if x then record s.cell { held = h } else s.cell) f) (given_none s.given s.worker)
    (holds_as s m a h refl ready)

pub give_up_step : (s : WorldState) (m : Option Mode) (a : Digest) → s.cell.held.waiting ≡ true → IsReady s m
    → IsStep s m (cell_steps (net s m a) (Event.GiveUpWaiting ∷ [])) (any_steps s.cell (BrokerEvent.GiveUpWaiting ∷ []))
    (answered s (Event.GiveUpWaiting ∷ []))
give_up_step s m a e ready =
    let h = given_up s.cell.held in
    step_eq s m _ _ _ _ _ _
    (ap (λ (x : Bool). if x then record (net s m a) { held = h } else net s m a) e)
    (ap (λ (x : Bool). if x then record s.cell { held = h } else s.cell) e) (given_none s.given s.worker)
    (holds_as s m a h refl ready)

-- ---- the work

both_true : (a b : Bool) → a ≡ true → b ≡ true → (a && b) ≡ true
both_true true b e f = f
both_true false b e f = cc

pub work_step : (s : WorldState) (m : Option Mode) (a : Digest) (t : Resource) → is_under_way s.cell.held ≡ true
    → may_become s.cell t ≡ true → IsReady s m
    → IsStep s m (cell_steps (net s m a) (Event.Work t ∷ [])) (any_steps s.cell (BrokerEvent.Work t ∷ []))
    (answered s (Event.Work t ∷ []))
work_step s m a t e f ready =
    step_eq s m _ _ _ _ _ _
    (ap (λ (x : Bool). if x then record (net s m a) { resource = t } else net s m a) e)
    (ap (λ (x : Bool). if x then record s.cell { resource = t } else s.cell) f) (given_none s.given s.worker)
    (record {
      held = refl;
      resource = refl;
      mode = refl;
      catalogue = refl;
      pending = ready.pending;
      asker = ready.asker;
      given = refl;
    })
