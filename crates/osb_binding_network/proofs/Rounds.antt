-- An instance and its bindings go together through fault-free rounds, if the platform keeps its rules.
use Rattle.std.proofs.Common.{◌≡◌, ℕ, zero, suc, Bool, true, false, refl, sym, ◌∙◌, subst, List, [], ◌∷◌}
use Rattle.std.specs.Prelude.{◌++◌, length, ⊤, Result, Ok, Err, OnOk, OnErr}
use Rattle.osb_instance.specs.declared.outcome.WorkOutcome.TheVariants.{Done}
use Rattle.osb_network.specs.declared.event.Event.{Event}
use Rattle.osb_network.specs.Cell.{Cell, IsPossible}
use Rattle.osb_network.specs.Removing.{removing_events, removing_round_events}
use Rattle.osb_network.specs.Settling.{after_first, arrival, exchange_events, free_events, good_work, latest_answer}
use Rattle.osb_network.specs.Settling.{number_out, operation_events, round_events, settling_events, work_events}
use Rattle.osb_network.specs.Settling.{IsPartWay}
use Rattle.osb_network.specs.Steps.{cell_step}
use Rattle.osb_network.proofs.Kept.{kept_step}
use Rattle.osb_binding_network.specs.declared.rules.Rules.{Rules}
use Rattle.osb_binding_network.specs.Allowed.{begins, may_bind, may_remove, may_work}
use Rattle.osb_binding_network.specs.Related.{IsRelated}
use Rattle.osb_binding_network.proofs.Kept.{kept_bind, kept_binding, kept_instance, kept_lived}
use Rattle.osb_binding_network.proofs.Lets.{arrives_if, lets_binding, lets_instance, works_unless_ready}

-- what can come about, and goes with the other
pub record IsGood (r : Rules) (i b : Cell) : Type 0 where
  pub instance : IsPossible i
  pub binding : IsPossible b
  pub related : IsRelated r i b

-- ---- an event of a round keeps it so

-- of the instance; with `go` the binding lets it be removed
abbrev pub KeepsInstance : Bool → (Cell → Event) → Type 0
KeepsInstance go f =
    (r : Rules) (i b : Cell) → r.platform ≡ true → (go ≡ true → may_remove r b ≡ true) → IsGood r i b
    → IsRelated r (cell_step i (f i)) b

-- of the binding
abbrev pub KeepsBinding : (Cell → Event) → Type 0
KeepsBinding f =
    (r : Rules) (i b : Cell) → r.platform ≡ true → IsGood r i b → IsRelated r i (cell_step b (f b))

instance_timeout : (go : Bool) → KeepsInstance go (λ c. Event.Timeout)
instance_timeout go r i b p may h =
    kept_instance r i b false false Event.Timeout (λ e. cc) (λ e. cc) h.instance h.related

instance_remove : KeepsInstance true (λ c. Event.Remove)
instance_remove r i b p may h = kept_instance r i b true false Event.Remove may (λ e. cc) h.instance h.related

instance_good : (go : Bool) → KeepsInstance go good_work
instance_good go r i b p may h =
    kept_instance r i b false false (good_work i) (λ e. cc) (λ e. cc) h.instance h.related

instance_end : (go : Bool) → KeepsInstance go (λ c. Event.End Done)
instance_end go r i b p may h =
    kept_instance r i b false false (Event.End Done) (λ e. cc) (λ e. cc) h.instance h.related

instance_finish : (go : Bool) → KeepsInstance go (λ c. Event.Finish true)
instance_finish go r i b p may h =
    kept_instance r i b false false (Event.Finish true) (λ e. cc) (λ e. cc) h.instance h.related

instance_send : (go : Bool) → KeepsInstance go (λ c. Event.Send)
instance_send go r i b p may h =
    kept_instance r i b false false Event.Send (λ e. cc) (λ e. cc) h.instance h.related

instance_arrival : (go : Bool) → KeepsInstance go arrival
instance_arrival go r i b p may h =
    subst (λ e. IsRelated r (cell_step i e) b)
    (arrives_if (may_work r b) (begins i (number_out i.recorded)) (number_out i.recorded)
    (lets_instance i (may_work r b) h.instance (works_unless_ready r i b h.related h.binding p)))
    (kept_instance r i b false (may_work r b) (arrival i) (λ e. cc) (λ e. e) h.instance h.related)

instance_answer : (go : Bool) → KeepsInstance go latest_answer
instance_answer go r i b p may h =
    kept_instance r i b false false (latest_answer i) (λ e. cc) (λ e. cc) h.instance h.related

binding_timeout : KeepsBinding (λ c. Event.Timeout)
binding_timeout r i b p h = kept_lived r i b Event.Timeout (λ x. refl) (λ c. refl) h.binding h.related

binding_remove : KeepsBinding (λ c. Event.Remove)
binding_remove r i b p h =
    kept_binding r i b false false false false Event.Remove (λ e. cc) (λ e. cc) h.binding h.related

binding_good : KeepsBinding good_work
binding_good r i b p h = kept_lived r i b (good_work b) (λ x. refl) (λ c. refl) h.binding h.related

binding_end : KeepsBinding (λ c. Event.End Done)
binding_end r i b p h = kept_lived r i b (Event.End Done) (λ x. refl) (λ c. refl) h.binding h.related

binding_finish : KeepsBinding (λ c. Event.Finish true)
binding_finish r i b p h = kept_lived r i b (Event.Finish true) (λ x. refl) (λ c. refl) h.binding h.related

binding_send : KeepsBinding (λ c. Event.Send)
binding_send r i b p h = kept_lived r i b Event.Send (λ x. refl) (λ c. refl) h.binding h.related

binding_arrival : KeepsBinding arrival
binding_arrival r i b p h =
    subst (λ e. IsRelated r i (cell_step b e))
    (arrives_if (may_bind r i) (begins b (number_out b.recorded)) (number_out b.recorded)
    (lets_binding r i b h.related h.instance h.binding p))
    (kept_bind r i b (number_out b.recorded) (may_bind r i) (begins b (number_out b.recorded)) (λ e. e) refl h.binding
    h.related)

binding_answer : KeepsBinding latest_answer
binding_answer r i b p h = kept_lived r i b (latest_answer b) (λ x. refl) (λ c. refl) h.binding h.related

-- ---- a list of them

abbrev pub All : ((Cell → Event) → Type 0) → List (Cell → Event) → Type 0
All P [] = ⊤
All P (f ∷ fs) = P f × All P fs

all_both : (P : (Cell → Event) → Type 0) (xs ys : List (Cell → Event)) → All P xs → All P ys → All P (xs ++ ys)
all_both P [] ys a b = b
all_both P (x ∷ xs) ys a b = (a.0, all_both P xs ys a.1 b)

pub all_thrice : (P : (Cell → Event) → Type 0) (xs : List (Cell → Event)) → All P xs → All P (xs ++ (xs ++ xs))
all_thrice P xs a = all_both P xs (xs ++ xs) a (all_both P xs xs a a)

-- those after the first event of a round
pub all_free : (P : (Cell → Event) → Type 0) → P good_work → P (λ c. Event.End Done) → P (λ c. Event.Finish true)
    → P (λ c. Event.Send) → P arrival → P latest_answer → All P free_events
all_free P good end finish send arrive answer =
    let works : All P work_events = (good, (end, tt)) in
    let operates : All P operation_events = (good, (finish, tt)) in
    let exchanges : All P exchange_events =
    (send, (arrive, all_both P work_events (latest_answer ∷ []) works (answer, tt))) in
    all_both P work_events (operation_events ++ exchange_events) works
    (all_both P operation_events exchange_events operates exchanges)

instance_free : (go : Bool) → All (KeepsInstance go) free_events
instance_free go =
    all_free (KeepsInstance go) (instance_good go) (instance_end go) (instance_finish go) (instance_send go)
    (instance_arrival go) (instance_answer go)

binding_free : All KeepsBinding free_events
binding_free =
    all_free KeepsBinding binding_good binding_end binding_finish binding_send binding_arrival binding_answer

pub instance_settles : All (KeepsInstance false) settling_events
instance_settles = all_thrice (KeepsInstance false) round_events (instance_timeout false, instance_free false)

pub instance_removes : All (KeepsInstance true) removing_events
instance_removes =
    all_thrice (KeepsInstance true) removing_round_events (instance_timeout true, (instance_remove, instance_free true))

pub binding_settles : All KeepsBinding settling_events
binding_settles = all_thrice KeepsBinding round_events (binding_timeout, binding_free)

pub binding_removes : All KeepsBinding removing_events
binding_removes = all_thrice KeepsBinding removing_round_events (binding_timeout, (binding_remove, binding_free))

-- ---- some of them

instance_first : (go : Bool) (r : Rules) (i b : Cell) (n : ℕ) (fs : List (Cell → Event)) → r.platform ≡ true
    → (go ≡ true → may_remove r b ≡ true) → All (KeepsInstance go) fs → IsGood r i b
    → IsRelated r (after_first n fs i) b
instance_first go r i b zero fs p may all h = h.related
instance_first go r i b (suc n) [] p may all h = h.related
instance_first go r i b (suc n) (f ∷ fs) p may all h =
    instance_first go r (cell_step i (f i)) b n fs p may all.1
    (record { instance = kept_step i (f i) h.instance; binding = h.binding; related = all.0 r i b p may h })

binding_first : (r : Rules) (i b : Cell) (n : ℕ) (fs : List (Cell → Event)) → r.platform ≡ true
    → All KeepsBinding fs → IsGood r i b → IsRelated r i (after_first n fs b)
binding_first r i b zero fs p all h = h.related
binding_first r i b (suc n) [] p all h = h.related
binding_first r i b (suc n) (f ∷ fs) p all h =
    binding_first r i (cell_step b (f b)) n fs p all.1
    (record { instance = h.instance; binding = kept_step b (f b) h.binding; related = all.0 r i b p h })

-- what some rounds lead to, by their events
abbrev pub IsByEvents : List (Cell → Event) → (Cell → Cell) → Type 0
IsByEvents fs rounds = (c : Cell) → rounds c ≡ after_first (length fs) fs c

-- after the rounds, or where memory ran out on the way
pub instance_rounds : {T E : Type 0} (x : Result T E) (go : Bool) (fs : List (Cell → Event)) (rounds : Cell → Cell)
    (r : Rules) (i n b : Cell) → IsByEvents fs rounds → All (KeepsInstance go) fs → r.platform ≡ true
    → (go ≡ true → may_remove r b ≡ true) → OnOk x (n ≡ rounds i) → OnErr x (IsPartWay fs i n) → IsGood r i b
    → IsRelated r n b
instance_rounds (Ok v) go fs rounds r i n b by all p may ok err h =
    subst (λ c. IsRelated r c b) (sym (ok ∙ by i)) (instance_first go r i b (length fs) fs p may all h)
instance_rounds (Err v) go fs rounds r i n b by all p may ok err h =
    subst (λ c. IsRelated r c b) (sym err.2) (instance_first go r i b err.0 fs p may all h)

pub binding_rounds : {T E : Type 0} (x : Result T E) (fs : List (Cell → Event)) (rounds : Cell → Cell) (r : Rules)
    (i b n : Cell) → IsByEvents fs rounds → All KeepsBinding fs → r.platform ≡ true → OnOk x (n ≡ rounds b)
    → OnErr x (IsPartWay fs b n) → IsGood r i b → IsRelated r i n
binding_rounds (Ok v) fs rounds r i b n by all p ok err h =
    subst (λ c. IsRelated r i c) (sym (ok ∙ by b)) (binding_first r i b (length fs) fs p all h)
binding_rounds (Err v) fs rounds r i b n by all p ok err h =
    subst (λ c. IsRelated r i c) (sym err.2) (binding_first r i b err.0 fs p all h)
