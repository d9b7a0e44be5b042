-- What an instance and a binding see of each other goes together, whatever happens to either.
use Rattle.std.proofs.Common.{◌≡◌, ◌⊎◌, inl, inr, ⊎_elim, ℕ, Bool, true, false, refl, sym, ap, subst, ◌∙◌}
use Rattle.std.specs.Prelude.{Option, Some, None, Result, Ok, Err, OnOk, OnErr, ◌||◌, ◌&&◌, not, if◌then◌else◌, is_some}
use Rattle.std.specs.Prelude.{slice_get}
use Rattle.osb_message.specs.declared.messages.Request.{Request}
use Rattle.osb_broker.specs.declared.row.BrokerRow.{BrokerRow}
use Rattle.osb_broker.specs.declared.row.Phase.{Phase}
use Rattle.osb_broker.specs.Finished.{is_running, is_running_in}
use Rattle.osb_platform.specs.declared.state.State.{State}
use Rattle.osb_platform.specs.declared.state.State.TheVariants.{Gone}
use Rattle.osb_platform.specs.State.{is_removable}
use Rattle.osb_message.specs.declared.messages.Kind.TheVariants.{Provision}
use Rattle.osb_instance.specs.declared.record.Sent.{Sent}
use Rattle.osb_instance.specs.Begin.{is_held, is_provision, is_there, is_there_by}
use Rattle.osb_instance.specs.Fits as fits
use Rattle.osb_instance.specs.Held.{Held}
use Rattle.osb_instance.specs.Recorded.{Recorded, is_gone_in}
use Rattle.osb_network.specs.declared.event.Event.{Event}
use Rattle.osb_network.specs.declared.order.Order.{Order}
use Rattle.osb_network.specs.declared.resource.Resource.{Resource}
use Rattle.osb_network.specs.Cell.{Cell, IsPossible, IsPossibleWith}
use Rattle.osb_network.specs.Possible.{IsKeptAs}
use Rattle.osb_network.specs.Steps.{cell_step, sent_as}
use Rattle.osb_binding_network.specs.declared.rules.Rules.{Rules}
use Rattle.osb_binding_network.specs.Allowed.{at_peace, at_peace_by, begins, begins_by, happened, is_at_rest, is_bind}
use Rattle.osb_binding_network.specs.Allowed.{is_ready}
use Rattle.osb_binding_network.specs.Allowed.{let_work, may_bind, may_create, may_remove, may_work, needs_fetch}
use Rattle.osb_binding_network.specs.Allowed.{of_binding, of_instance, takes_useless}
use Rattle.osb_binding_network.specs.Related.{IsRelated}
use Rattle.osb_binding_network.proofs.Dues.{due, made_by}
use Rattle.osb_binding_network.proofs.Still.{moves, still_recorded, ready_still, rest_still}
use Rattle.osb_binding_network.proofs.Quiet.{IsAsBefore, begins_at, quiet}

-- ---- tests

-- a test of a value that is known, by its cases
by_cases : (P : Type 0) (x : Bool) → (x ≡ true → P) → (x ≡ false → P) → P
by_cases P true on off = on refl
by_cases P false on off = off refl

-- what a rule asks, where it is kept
asked : (keeps may : Bool) → (not keeps || may) ≡ true → keeps ≡ true → may ≡ true
asked true true e k = refl
asked true false e k = cc
asked false may e k = cc

first_of : (a b : Bool) → (a && b) ≡ true → a ≡ true
first_of true b e = refl
first_of false b e = cc

refused_by : (x : Bool) → not x ≡ true → x ≡ true → ⊥
refused_by true e f = cc
refused_by false e f = cc

both : (x : Bool) → x ≡ true → x ≡ false → ⊥
both true e f = cc
both false e f = cc

-- ---- what is held

no_work : (b : Option BrokerRow) (w : Option Request) → at_peace_by b w ≡ true → w ≡ None
no_work None w e = cc
no_work (Some b) None e = refl
no_work (Some b) (Some q) e = cc

idle_phase : (ph : Phase) (v : Bool) → fits.is_ready ph ≡ true → (is_running_in ph && not v) ≡ false
idle_phase Phase.Ready v e = refl
idle_phase ph v e = cc

nothing_runs : (b : Option BrokerRow) (w : Option Request) (v : Bool) → at_peace_by b w ≡ true
    → (is_running b && not v) ≡ false
nothing_runs None w v e = cc
nothing_runs (Some b) None v e = idle_phase b.phase v e
nothing_runs (Some b) (Some q) v e = cc

not_making : (ph : Phase) → fits.is_ready ph ≡ true → ph ≡ Phase.Making → ⊥
not_making ph e f = let g : fits.is_ready Phase.Making ≡ true = subst (λ x. fits.is_ready x ≡ true) f e in cc

still_there : (g h : Held) → IsAsBefore g h → at_peace h ≡ true → at_peace g ≡ true
still_there g h same e =
    ap (λ b. at_peace_by b g.work) same.0 ∙ ap (λ w. at_peace_by h.row w) same.1 ∙ e

pub none_held : (b : Option BrokerRow) (w : Option Request) → (is_some b || is_some w) ≡ false → (b ≡ None) × (w ≡ None)
none_held None None e = (refl, refl)
none_held None (Some q) e = cc
none_held (Some b) w e = cc

nothing_runs_in_none : (b : Option BrokerRow) (v : Bool) → b ≡ None → (is_running b && not v) ≡ false
nothing_runs_in_none None v e = refl
nothing_runs_in_none (Some b) v e = cc

still_unheld : (g h : Held) → IsAsBefore g h → is_held h ≡ false → is_held g ≡ false
still_unheld g h same e =
    ap (λ (b : Option BrokerRow). is_some b || is_some g.work) same.0
    ∙ ap (λ (w : Option Request). is_some h.row || is_some w) same.1 ∙ e

-- a row that waits isn't ready, and there is one
waits_not : (o : Order) (b : Option BrokerRow) (w : Option Request) (x v : Bool) (t : Resource) → IsKeptAs o b w x v t
    → at_peace_by b w ≡ true → v ≡ false
waits_not o b w x false t kept e = refl
waits_not o (Some b) None false true t kept e = absurd (not_making b.phase e kept.1)
waits_not o (Some b) None true true t kept e = absurd kept
waits_not o (Some b) (Some q) x true t kept e = cc
waits_not o None w x true t kept e = cc

waits_for_none : (o : Order) (b : Option BrokerRow) (w : Option Request) (x v : Bool) (t : Resource)
    → IsKeptAs o b w x v t → b ≡ None → v ≡ false
waits_for_none o b w x false t kept e = refl
waits_for_none o None None x true t kept e = absurd kept
waits_for_none o None (Some q) false true t kept e = absurd kept
waits_for_none o None (Some q) true true t kept e = absurd kept
waits_for_none o (Some b) w x true t kept e = cc

pub no_waiting : (c : Cell) (r : Option Recorded) → IsPossibleWith c r → (at_peace c.held ≡ true) ⊎ (c.held.row ≡ None)
    → c.held.waiting ≡ false
no_waiting c None h e = ap (λ (x : Held). x.waiting) h.held
no_waiting c (Some rec) h e =
    ⊎_elim
    (λ at. waits_not c.order c.held.row c.held.work c.held.tombstone c.held.waiting c.resource h.parts.kept.0 at)
    (λ none. waits_for_none c.order c.held.row c.held.work c.held.tombstone c.held.waiting c.resource h.parts.kept.0 none)
    e

-- ---- an event of the instance

kept_by_instance : (r : Rules) (i b : Cell) (e : Event) → IsPossible i → IsRelated r i b
    → (r.platform ≡ true → is_at_rest b.recorded ≡ false → moves e i.recorded ≡ false)
    → (r.broker ≡ true → is_held b.held ≡ true → begins_at e i ≡ false) → IsRelated r (cell_step i e) b
kept_by_instance r i b e possible related no_move no_work_begins = record {
  platform = λ p rest.
      let ready : is_ready i.recorded ≡ true = related.platform p rest in
      ap is_ready (still_recorded i e (ready_still i i.recorded possible ready) (no_move p rest)) ∙ ready;
  broker = λ p held.
      let there : at_peace i.held ≡ true = related.broker p held in
      still_there (cell_step i e).held i.held
      (quiet i e (no_work i.held.row i.held.work there) (nothing_runs i.held.row i.held.work i.held.waiting there)
      (no_waiting i i.recorded possible (inl there)) (no_work_begins p held))
      there;
}

ordered : (x : Option Recorded) → is_ready x ≡ true → moves Event.Create x ≡ false
ordered None e = cc
ordered (Some rec) e = refl

kept_remove : (r : Rules) (i b : Cell) (x : Bool) → (x ≡ true → may_remove r b ≡ true) → IsPossible i
    → IsRelated r i b → IsRelated r (happened i (if x then Some Event.Remove else None)) b
kept_remove r i b true may possible related =
    kept_by_instance r i b Event.Remove possible related
    (λ p rest. absurd (both (is_at_rest b.recorded) (asked r.platform (is_at_rest b.recorded) (may refl) p) rest))
    (λ p held. refl)
kept_remove r i b false may possible related = related

kept_arrive : (r : Rules) (i b : Cell) (n : ℕ) (x y : Bool) → (x ≡ true → may_work r b ≡ true) → begins i n ≡ y
    → IsPossible i → IsRelated r i b
    → IsRelated r (cell_step i (if x || not y then Event.Arrive n else Event.PutOff n)) b
kept_arrive r i b n true true may f possible related =
    kept_by_instance r i b (Event.Arrive n) possible related (λ p rest. refl)
    (λ p held. absurd (refused_by (is_held b.held) (asked r.broker (not (is_held b.held)) (may refl) p) held))
kept_arrive r i b n true false may f possible related =
    kept_by_instance r i b (Event.Arrive n) possible related (λ p rest. refl) (λ p held. f)
kept_arrive r i b n false true may f possible related =
    kept_by_instance r i b (Event.PutOff n) possible related (λ p rest. refl) (λ p held. refl)
kept_arrive r i b n false false may f possible related =
    kept_by_instance r i b (Event.Arrive n) possible related (λ p rest. refl) (λ p held. f)

-- it may be removed, and its work may begin, only where this binding lets it: another one may be in the way
pub kept_instance : (r : Rules) (i b : Cell) (remove work : Bool) (e : Event) → (remove ≡ true → may_remove r b ≡ true)
    → (work ≡ true → may_work r b ≡ true) → IsPossible i → IsRelated r i b
    → IsRelated r (happened i (of_instance remove work i e)) b
kept_instance r i b remove work Event.Create may_go may possible related =
    kept_by_instance r i b Event.Create possible related
    (λ p rest. ordered i.recorded (related.platform p rest)) (λ p held. refl)
kept_instance r i b remove work Event.Remove may_go may possible related =
    kept_remove r i b remove may_go possible related
kept_instance r i b remove work (Event.Arrive n) may_go may possible related =
    kept_arrive r i b n work (begins i n) may refl possible related
kept_instance r i b remove work e may_go may possible related =
    kept_by_instance r i b e possible related (λ p rest. refl) (λ p held. refl)

-- ---- an event of the binding

kept_by_binding : (r : Rules) (i b : Cell) (e : Event) → IsPossible b → IsRelated r i b
    → (r.platform ≡ true → is_at_rest b.recorded ≡ true → moves e b.recorded ≡ true → is_ready i.recorded ≡ true)
    → (r.broker ≡ true → begins_at e b ≡ true → at_peace i.held ≡ true) → IsRelated r i (cell_step b e)
kept_by_binding r i b e possible related may_move may_begin = record {
  platform = λ p rest.
      by_cases (is_ready i.recorded ≡ true) (is_at_rest b.recorded)
      (λ was. by_cases (is_ready i.recorded ≡ true) (moves e b.recorded) (may_move p was)
      (λ stays. absurd (both (is_at_rest b.recorded) was
      (ap is_at_rest (sym (still_recorded b e (rest_still b b.recorded possible was) stays)) ∙ rest))))
      (related.platform p);
  broker = λ p held.
      by_cases (at_peace i.held ≡ true) (is_held b.held) (related.broker p)
      (λ was. by_cases (at_peace i.held ≡ true) (begins_at e b) (may_begin p)
      (λ stays. (let none = none_held b.held.row b.held.work was in
      absurd (both (is_held (cell_step b e).held) held
      (still_unheld (cell_step b e).held b.held
      (quiet b e none.1 (nothing_runs_in_none b.held.row b.held.waiting none.0)
      (no_waiting b b.recorded possible (inr none.0)) stays) was)))));
}

gone_stays : (s : State) → is_gone_in s ≡ true → is_removable s ≡ true → ⊥
gone_stays Gone e f = cc
gone_stays s e f = cc

not_removed : (x : Option Recorded) → is_at_rest x ≡ true → moves Event.Remove x ≡ true → ⊥
not_removed None e f = cc
not_removed (Some rec) e f = gone_stays rec.row.state e f

kept_create : (r : Rules) (i b : Cell) (x : Bool) → (x ≡ true → may_create r i ≡ true) → IsPossible b
    → IsRelated r i b → IsRelated r i (happened b (if x then Some Event.Create else None))
kept_create r i b true may possible related =
    kept_by_binding r i b Event.Create possible related
    (λ p rest m. asked r.platform (is_ready i.recorded) (may refl) p) (λ p begun. cc)
kept_create r i b false may possible related = related

peace_by : (b : Option BrokerRow) (w : Option Request) (x y : ℕ) → is_there_by b w x y ≡ true → at_peace_by b w ≡ true
peace_by None w x y e = cc
peace_by (Some b) None x y e = first_of (fits.is_ready b.phase) _ e
peace_by (Some b) (Some q) x y e = cc

pub kept_bind : (r : Rules) (i b : Cell) (n : ℕ) (x y : Bool) → (x ≡ true → may_bind r i ≡ true) → begins b n ≡ y
    → IsPossible b → IsRelated r i b
    → IsRelated r i (cell_step b (if x || not y then Event.Arrive n else Event.PutOff n))
kept_bind r i b n true y may f possible related =
    kept_by_binding r i b (Event.Arrive n) possible related (λ p rest m. cc)
    (λ p begun. peace_by i.held.row i.held.work i.order.service i.order.plan
    (asked r.broker (is_there i.held i.order.service i.order.plan) (may refl) p))
kept_bind r i b n false true may f possible related =
    kept_by_binding r i b (Event.PutOff n) possible related (λ p rest m. cc) (λ p begun. cc)
kept_bind r i b n false false may f possible related =
    kept_by_binding r i b (Event.Arrive n) possible related (λ p rest m. cc)
    (λ p begun. absurd (both (begins b n) begun f))

-- a request that isn't a Bind begins nothing of what isn't held
begins_held : (r : Rules) (i b : Cell) (n : ℕ) (x : Option Sent) → sent_as b.sent n ≡ x → is_bind x ≡ false
    → IsRelated r i b → r.broker ≡ true → begins b n ≡ true → at_peace i.held ≡ true
begins_held r i b n None e other related p begun = absurd (both (begins_by b None) (ap (begins_by b) (sym e) ∙ begun) refl)
begins_held r i b n (Some x) e other related p begun =
    by_cases (at_peace i.held ≡ true) (is_held b.held) (related.broker p)
    (λ un. (let k : x.request.kind ≡ Provision = made_by b.order.mode b.held.row x.request (due b n x e begun)
    (none_held b.held.row b.held.work un).0 in
    absurd (both (is_provision x.request.kind) (ap is_provision k) other)))

kept_unless_bind : (r : Rules) (i b : Cell) (n : ℕ) (x : Option Sent) (work z y : Bool)
    → (work ≡ true → may_bind r i ≡ true) → sent_as b.sent n ≡ x → is_bind x ≡ z → begins b n ≡ y → IsPossible b
    → IsRelated r i b
    → IsRelated r i (cell_step b (if (work || not z) || not y then Event.Arrive n else Event.PutOff n))
kept_unless_bind r i b n x true z y may e bind f possible related =
    kept_bind r i b n true y may f possible related
kept_unless_bind r i b n x false true y may e bind f possible related =
    kept_bind r i b n false y (λ t. cc) f possible related
kept_unless_bind r i b n x false false y may e bind f possible related =
    kept_by_binding r i b (Event.Arrive n) possible related (λ p rest m. cc)
    (λ p begun. begins_held r i b n x e bind related p begun)

kept_let_bind : (r : Rules) (i b : Cell) (n : ℕ) (z : Bool) (e : Event) → IsPossible b → IsRelated r i b
    → IsRelated r i (cell_step b e) → IsRelated r i (cell_step b (if z then Event.PutOff n else e))
kept_let_bind r i b n true e possible related after =
    kept_by_binding r i b (Event.PutOff n) possible related (λ p rest m. cc) (λ p begun. cc)
kept_let_bind r i b n false e possible related after = after

kept_let_take : (r : Rules) (i b : Cell) (at : ℕ) (z y : Bool) → IsPossible b → IsRelated r i b
    → IsRelated r i (happened b (if z then Some Event.Timeout else if y then None else Some (Event.Take at)))
kept_let_take r i b at true y possible related =
    kept_by_binding r i b Event.Timeout possible related (λ p rest m. cc) (λ p begun. cc)
kept_let_take r i b at false true possible related = related
kept_let_take r i b at false false possible related =
    kept_by_binding r i b (Event.Take at) possible related (λ p rest m. cc) (λ p begun. cc)

-- an event of the binding that orders nothing, removes nothing and begins nothing
pub kept_lived : (r : Rules) (i b : Cell) (e : Event) → ((x : Option Recorded) → moves e x ≡ false)
    → ((c : Cell) → begins_at e c ≡ false) → IsPossible b → IsRelated r i b → IsRelated r i (cell_step b e)
kept_lived r i b e orders begun possible related =
    kept_by_binding r i b e possible related
    (λ p rest m. absurd (both (moves e b.recorded) m (orders b.recorded)))
    (λ p begins. absurd (both (begins_at e b) begins (begun b)))

pub kept_take : (r : Rules) (i b : Cell) (at : ℕ) → IsPossible b → IsRelated r i b
    → IsRelated r i (cell_step b (Event.Take at))
kept_take r i b at possible related =
    kept_by_binding r i b (Event.Take at) possible related (λ p rest m. cc) (λ p begun. cc)

-- it may be created, and something of it may begin, only if its instance lets it
pub kept_binding : (r : Rules) (i b : Cell) (create work forgotten retrievable : Bool) (e : Event)
    → (create ≡ true → may_create r i ≡ true) → (work ≡ true → may_bind r i ≡ true) → IsPossible b → IsRelated r i b
    → IsRelated r i (happened b (of_binding create work forgotten retrievable b e))
kept_binding r i b create work x y Event.Create may_come may possible related =
    kept_create r i b create may_come possible related
kept_binding r i b create work x y Event.Remove may_come may possible related =
    kept_by_binding r i b Event.Remove possible related
    (λ p rest m. absurd (not_removed b.recorded rest m)) (λ p begun. cc)
kept_binding r i b create work x y (Event.Arrive n) may_come may possible related =
    kept_let_bind r i b n (x && is_bind (sent_as b.sent n)) (let_work (work || not (is_bind (sent_as b.sent n))) b n)
    possible related
    (kept_unless_bind r i b n (sent_as b.sent n) work (is_bind (sent_as b.sent n)) (begins b n) may refl refl refl possible
    related)
kept_binding r i b create work x y (Event.Take at) may_come may possible related =
    kept_let_take r i b at (takes_useless y (slice_get b.given at) b.recorded) (needs_fetch b at) possible related
kept_binding r i b create work x y e may_come may possible related =
    kept_by_binding r i b e possible related (λ p rest m. cc) (λ p begun. cc)

-- of an instance and a binding that nothing has happened to
pub related_empty : (r : Rules) (i b : Cell) → b.recorded ≡ None → b.held.row ≡ None → b.held.work ≡ None
    → IsRelated r i b
related_empty r i b e row work = record {
  platform = λ p rest. absurd (both (is_at_rest b.recorded) (ap is_at_rest e) rest);
  broker = λ p held. absurd (both (is_held b.held) held
      (ap (λ (x : Option BrokerRow). is_some x || is_some b.held.work) row
      ∙ ap (λ (x : Option Request). is_some x) work));
}

-- after a step, or where it is refused for want of memory
pub instance_after : {T E : Type 0} (x : Result T E) (r : Rules) (i n b : Cell) (f : Event) (o : Option Event) → Some f ≡ o
    → OnOk x (n ≡ cell_step i f) → OnErr x (n ≡ i) → IsRelated r (happened i o) b → IsRelated r i b → IsRelated r n b
instance_after (Ok v) r i n b f o e ok err after before =
    subst (λ c. IsRelated r c b) (sym (ok ∙ ap (happened i) e)) after
instance_after (Err v) r i n b f o e ok err after before = subst (λ c. IsRelated r c b) (sym err) before
