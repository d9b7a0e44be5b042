-- No rule stops or puts off an event of the rounds, if the platform keeps its rules.
use Rattle.std.proofs.Common.{◌≡◌, ◌⊎◌, inl, inr, ℕ, Bool, true, false, refl, sym, ap, subst, ◌∙◌, List, [], ◌∷◌}
use Rattle.std.proofs.Common.{cond}
use Rattle.std.specs.Prelude.{⊤, Option, Some, None, IfSome, IsSomeAnd, ◌++◌, ◌-◌, ◌&&◌, ◌||◌, ◌==◌, not, if◌then◌else◌}
use Rattle.std.specs.Prelude.{is_none, is_some, length, slice_get}
use Rattle.std.specs.BTreeMap as tree
use Rattle.std.specs.BTreeMap.{BTreeMap}
use Rattle.std.specs.Cmp.{eq_by_cmp_equiv, nat_cmp_total}
use Rattle.std.specs.FinMap as map
use Rattle.std.specs.FinMap.Entries.{find}
use Rattle.std.specs.List as lists
use Rattle.std.specs.Map.{lookup, values_of}
use Rattle.std.specs.Ordering.{eq_by_cmp, nat_cmp}
use Rattle.std.proofs.lemmas.List.Elements.{All-head, All-tail}
use Rattle.std.proofs.lemmas.Map.Keys.{IsDistinct-from_sorted}
use Rattle.std.proofs.lemmas.Map.Views.{All-values_from_lookup}
use Rattle.osb_message.proofs.Maps.{get-tree}
use Rattle.osb_message.specs.declared.messages.Answer.{Answer}
use Rattle.osb_message.specs.declared.messages.Kind.{Kind}
use Rattle.osb_broker.specs.declared.row.BrokerRow.{BrokerRow}
use Rattle.osb_broker.specs.declared.row.Phase.{Phase}
use Rattle.osb_platform.specs.declared.state.State.{State}
use Rattle.osb_platform.specs.declared.state.State.TheVariants.{Cleaning}
use Rattle.osb_platform.specs.State.{after_timeout, due, is_removable}
use Rattle.osb_platform.proofs.Ascending.{keys_ascend}
use Rattle.osb_instance.specs.declared.outcome.WorkOutcome.TheVariants.{Done}
use Rattle.osb_instance.specs.Recorded.{Recorded}
use Rattle.osb_network.specs.declared.event.Event.{Event}
use Rattle.osb_network.specs.declared.event.Given.{Given}
use Rattle.osb_network.specs.Cell.{Cell, IsPossible}
use Rattle.osb_network.specs.Removing.{removing_events, removing_round_events}
use Rattle.osb_network.specs.Settling.{arrival, free_events, good_work, latest_answer, number_out, round_events}
use Rattle.osb_network.specs.Settling.{settling_events}
use Rattle.osb_network.specs.Steps.{can_finish, cell_step, clean_up, give_up, has_number, is_out, next_recorded, send}
use Rattle.osb_network.specs.Steps.{send_due, sent_as, take, take_given, take_out, with_sent, with_state}
use Rattle.osb_network.specs.Truth.{is_under_way}
use Rattle.osb_network.proofs.Agreements.{agrees}
use Rattle.osb_network.proofs.Kept.{arrive_recorded, end_recorded, kept_step}
use Rattle.osb_binding.specs.Answers as answers
use Rattle.osb_binding_network.specs.declared.rules.Rules.{Rules}
use Rattle.osb_binding_network.specs.Allowed.{begins, is_at_rest, is_bind, is_ready, may_bind, may_remove, may_work}
use Rattle.osb_binding_network.specs.Allowed.{needs_fetch, of_instance, takes_useless}
use Rattle.osb_binding_network.specs.Binding.{BindingCell}
use Rattle.osb_binding_network.specs.Possible.{IsOf, IsService}
use Rattle.osb_binding_network.specs.Rounds.{HappenAll, HappensToBinding, HappensToInstance, IsTakenWithFetch}
use Rattle.osb_binding_network.specs.Rounds.{RoundsHappen}
use Rattle.osb_binding_network.specs.Service.{ServiceCells, each_of, every}
use Rattle.osb_binding_network.proofs.Ended.{ended_by}
use Rattle.osb_binding_network.proofs.Fetches.{fetchable}
use Rattle.osb_binding_network.proofs.Lets.{arrives_if, lets_binding, lets_instance, number_none, works_unless_ready}
use Rattle.osb_binding_network.proofs.Many.{every_found}
use Rattle.osb_binding_network.proofs.Rounds.{All, IsGood, KeepsBinding, KeepsInstance, all_free, all_thrice}
use Rattle.osb_binding_network.proofs.Rounds.{binding_removes, binding_settles, instance_removes, instance_settles}
use Rattle.osb_binding_network.proofs.Still.{rest_still}
use Rattle.osb_binding_network.proofs.Together.{by_cases, there_by}

-- ---- what each binding passes, all pass

found : (q : ℕ) (es : List (ℕ × BindingCell)) → find nat_cmp q es ≡ lookup (eq_by_cmp nat_cmp q) es
found q [] = refl
found q (e ∷ es) = ap (cond (eq_by_cmp nat_cmp q e.0) (Some e.1)) (found q es)

get_lookup : (m : map.FinMap nat_cmp BindingCell) (q : ℕ)
    → map.get m q ≡ lookup (eq_by_cmp nat_cmp q) (map.entries m)
get_lookup m q = map.get-entries m q ∙ found q (map.entries m)

also : (a b : Bool) → a ≡ true → b ≡ true → (a && b) ≡ true
also true b e f = f
also false b e f = cc

every_one : (p : Cell → Bool) (bs : List BindingCell) → lists.All (λ b. p b.life ≡ true) bs → every p bs ≡ true
every_one p [] h = refl
every_one p (b ∷ bs) h =
    also (p b.life) (every p bs) (All-head (λ (c : BindingCell). p c.life ≡ true) b bs h)
    (every_one p bs (All-tail (λ (c : BindingCell). p c.life ≡ true) b bs h))

each_one : (p : Cell → Bool) (m : map.FinMap nat_cmp BindingCell)
    → ((id : ℕ) → IfSome (map.get m id) (λ b. p b.life ≡ true)) → each_of p m ≡ true
each_one p m h =
    every_one p (values_of (map.entries m))
    (All-values_from_lookup (eq_by_cmp_equiv nat_cmp_total) (λ (b : BindingCell). p b.life ≡ true) (map.entries m)
    (IsDistinct-from_sorted nat_cmp (map.keys m) (keys_ascend nat_cmp m))
    (λ q. subst (λ o. IfSome o (λ b. p b.life ≡ true)) (get_lookup m q) (h q)))

one_of_each : (p : Cell → Bool) (m : map.FinMap nat_cmp BindingCell) (id : ℕ) → each_of p m ≡ true
    → IfSome (map.get m id) (λ b. p b.life ≡ true)
one_of_each p m id e =
    subst (λ o. IfSome o (λ b. p b.life ≡ true)) (sym (get_lookup m id))
    (every_found p (eq_by_cmp nat_cmp id) (map.entries m) e)

-- ---- an event of the instance

-- it may begin something unless it's ready, and with `go` it may be removed
abbrev LetsInstance : Bool → (Cell → Event) → Type 0
LetsInstance go f =
    (remove work : Bool) (i : Cell) → (go ≡ true → remove ≡ true) → (is_ready i.recorded ≡ false → work ≡ true)
    → IsPossible i → of_instance remove work i (f i) ≡ Some (f i)

instance_timeout : (go : Bool) → LetsInstance go (λ c. Event.Timeout)
instance_timeout go remove work i may free possible = refl

instance_remove : LetsInstance true (λ c. Event.Remove)
instance_remove remove work i may free possible =
    ap (λ (x : Bool). if x then Some Event.Remove else None) (may refl)

instance_good : (go : Bool) → LetsInstance go good_work
instance_good go remove work i may free possible = refl

instance_end : (go : Bool) → LetsInstance go (λ c. Event.End Done)
instance_end go remove work i may free possible = refl

instance_finish : (go : Bool) → LetsInstance go (λ c. Event.Finish true)
instance_finish go remove work i may free possible = refl

instance_send : (go : Bool) → LetsInstance go (λ c. Event.Send)
instance_send go remove work i may free possible = refl

instance_arrival : (go : Bool) → LetsInstance go arrival
instance_arrival go remove work i may free possible =
    ap (λ (e : Event). Some e)
    (arrives_if work (begins i (number_out i.recorded)) (number_out i.recorded) (lets_instance i work possible free))

instance_answer : (go : Bool) → LetsInstance go latest_answer
instance_answer go remove work i may free possible = refl

instance_free : (go : Bool) → All (LetsInstance go) free_events
instance_free go =
    all_free (LetsInstance go) (instance_good go) (instance_end go) (instance_finish go) (instance_send go)
    (instance_arrival go) (instance_answer go)

settles_let : All (LetsInstance false) settling_events
settles_let = all_thrice (LetsInstance false) round_events (instance_timeout false, instance_free false)

removes_let : All (LetsInstance true) removing_events
removes_let =
    all_thrice (LetsInstance true) removing_round_events (instance_timeout true, (instance_remove, instance_free true))

-- ---- the events of the instance

good_next : (go : Bool) (f : Cell → Event) (r : Rules) (i : Cell) (o : Option BindingCell) → r.platform ≡ true
    → (go ≡ true → IfSome o (λ b. may_remove r b.life ≡ true)) → KeepsInstance go f
    → IfSome o (λ b. IsGood r i b.life) → IfSome o (λ b. IsGood r (cell_step i (f i)) b.life)
good_next go f r i None p may keeps good = tt
good_next go f r i (Some b) p may keeps good = record {
  instance = kept_step i (f i) good.instance;
  binding = good.binding;
  related = keeps r i b.life p may good;
}

works_at : (r : Rules) (i : Cell) (o : Option BindingCell) → r.platform ≡ true → is_ready i.recorded ≡ false
    → IfSome o (λ b. IsGood r i b.life) → IfSome o (λ b. may_work r b.life ≡ true)
works_at r i None p unready good = tt
works_at r i (Some b) p unready good = works_unless_ready r i b.life good.related good.binding p unready

instance_happens : (go : Bool) (s : ServiceCells) (fs : List (Cell → Event)) (i : Cell) → s.rules.platform ≡ true
    → (go ≡ true → each_of (λ b. may_remove s.rules b) s.bindings ≡ true) → All (KeepsInstance go) fs
    → All (LetsInstance go) fs → IsPossible i
    → ((id : ℕ) → IfSome (map.get s.bindings id) (λ b. IsGood s.rules i b.life))
    → HappenAll (HappensToInstance s) fs i
instance_happens go s [] i p may keeps lets possible good = tt
instance_happens go s (f ∷ fs) i p may keeps lets possible good = (
  lets.0 (each_of (λ b. may_remove s.rules b) s.bindings) (each_of (λ b. may_work s.rules b) s.bindings) i may
      (λ unready. each_one (λ b. may_work s.rules b) s.bindings
      (λ id. works_at s.rules i (map.get s.bindings id) p unready (good id)))
      possible,
  instance_happens go s fs (cell_step i (f i)) p may keeps.1 lets.1 (kept_step i (f i) possible)
      (λ id. good_next go f s.rules i (map.get s.bindings id) p
      (λ e. one_of_each (λ b. may_remove s.rules b) s.bindings id (may e)) keeps.0 (good id)),
)

-- ---- no Bind is out in the rounds: the first event gives it up, and none is sent

abbrev HasNoBind : Option Recorded → Type 0
HasNoBind None = ⊤
HasNoBind (Some rec) = answers.is_bind rec.row.out ≡ false

given_up_by : (c : Cell) (rec : Recorded) (out : Option Kind) → c.recorded ≡ Some rec → rec.row.out ≡ out
    → HasNoBind (if is_some out then with_state c rec (after_timeout rec.row.state) else c).recorded
given_up_by c rec None e f = subst HasNoBind (sym e) (ap answers.is_bind f)
given_up_by c rec (Some k) e f = refl

given_up : (c : Cell) (r : Option Recorded) → c.recorded ≡ r → HasNoBind (give_up c r).recorded
given_up c None e = subst HasNoBind (sym e) tt
given_up c (Some rec) e = given_up_by c rec rec.row.out e refl

abbrev KeepsNoBind : (Cell → Event) → Type 0
KeepsNoBind f = (c : Cell) → HasNoBind c.recorded → HasNoBind (cell_step c (f c)).recorded

either_none : (x : Bool) (a c : Cell) → HasNoBind a.recorded → HasNoBind c.recorded
    → HasNoBind (if x then a else c).recorded
either_none true a c h k = h
either_none false a c h k = k

same_none : (c d : Cell) → d.recorded ≡ c.recorded → HasNoBind c.recorded → HasNoBind d.recorded
same_none c d e h = subst HasNoBind (sym e) h

none_cleaned_up : (states : State → Bool) (c : Cell) (r : Option Recorded) → HasNoBind c.recorded
    → HasNoBind (clean_up states c r).recorded
none_cleaned_up states c None h = h
none_cleaned_up states c (Some rec) h =
    either_none (is_none rec.row.out && states rec.row.state) (with_state c rec Cleaning) c refl h

no_bind_due : (s : State) → answers.is_bind (due s) ≡ false
no_bind_due State.Wanted = refl
no_bind_due State.Polling = refl
no_bind_due State.Ready = refl
no_bind_due State.Cleaning = refl
no_bind_due State.CleaningPolling = refl
no_bind_due State.Gone = refl
no_bind_due State.Unsettled = refl

none_sent_due : (c : Cell) (rec : Recorded) (out next : Option Kind) → answers.is_bind next ≡ false
    → HasNoBind c.recorded → HasNoBind (send_due c rec out next).recorded
none_sent_due c rec None None e h = h
none_sent_due c rec None (Some k) e h =
    either_none (has_number rec) (with_sent c (next_recorded rec k) k) c e h
none_sent_due c rec (Some j) next e h = h

none_sent : (c : Cell) (r : Option Recorded) → HasNoBind c.recorded → HasNoBind (send c r).recorded
none_sent c None h = h
none_sent c (Some rec) h = none_sent_due c rec rec.row.out (due rec.row.state) (no_bind_due rec.row.state) h

none_taken_out : (c : Cell) (rec : Recorded) (out : Option Kind) (a : Answer) → HasNoBind c.recorded
    → HasNoBind (take_out c rec out a).recorded
none_taken_out c rec None a h = h
none_taken_out c rec (Some k) a h = refl

none_taken : (c : Cell) (r : Option Recorded) (n : ℕ) (a : Answer) → HasNoBind c.recorded
    → HasNoBind (take c r n a).recorded
none_taken c None n a h = h
none_taken c (Some rec) n a h =
    either_none (n == rec.attempt) (take_out c rec rec.row.out a) c (none_taken_out c rec rec.row.out a h) h

none_given : (c : Cell) (g : Option Given) → HasNoBind c.recorded → HasNoBind (take_given c g).recorded
none_given c None h = h
none_given c (Some g) h = none_taken c c.recorded g.attempt g.answer h

none_at_timeout : KeepsNoBind (λ c. Event.Timeout)
none_at_timeout c h = given_up c c.recorded refl

none_at_remove : KeepsNoBind (λ c. Event.Remove)
none_at_remove c h = none_cleaned_up is_removable c c.recorded h

none_at_good : KeepsNoBind good_work
none_at_good c h = either_none (is_under_way c.held) _ c h h

none_at_end : KeepsNoBind (λ c. Event.End Done)
none_at_end c h = same_none c (cell_step c (Event.End Done)) (end_recorded c c.held.work Done) h

none_at_finish : KeepsNoBind (λ c. Event.Finish true)
none_at_finish c h = either_none (can_finish c true) _ c h h

none_at_send : KeepsNoBind (λ c. Event.Send)
none_at_send c h = none_sent c c.recorded h

none_at_arrival : KeepsNoBind arrival
none_at_arrival c h =
    same_none c (cell_step c (arrival c)) (arrive_recorded c (sent_as c.sent (number_out c.recorded))) h

none_at_answer : KeepsNoBind latest_answer
none_at_answer c h = none_given c (slice_get c.given (length c.given - 1)) h

none_free : All KeepsNoBind free_events
none_free =
    all_free KeepsNoBind none_at_good none_at_end none_at_finish none_at_send none_at_arrival none_at_answer

none_settles : All KeepsNoBind settling_events
none_settles = all_thrice KeepsNoBind round_events (none_at_timeout, none_free)

none_removes : All KeepsNoBind removing_events
none_removes = all_thrice KeepsNoBind removing_round_events (none_at_timeout, (none_at_remove, none_free))

-- so no answer to a Bind is taken, and none that would be given up since the binding can't be fetched
never : (a b c : Bool) → (a && (b && (false && c))) ≡ false
never true true c = refl
never true false c = refl
never false b c = refl

none_useless : (t : Bool) (g : Option Given) (r : Option Recorded) → HasNoBind r → takes_useless t g r ≡ false
none_useless t None r h = refl
none_useless t (Some g) None h = refl
none_useless t (Some g) (Some rec) h =
    ap (λ (x : Bool). is_out (Some rec) g.attempt && (not t && (x && g.answer.status == 202))) h
    ∙ never (is_out (Some rec) g.attempt) (not t) (g.answer.status == 202)

-- ---- an event of a binding

abbrev LetsBinding : (Cell → Event) → Type 0
LetsBinding f =
    (s : ServiceCells) (b : BindingCell) (c : Cell) → s.rules.platform ≡ true
    → (b.forgotten ≡ true → s.instance.held.tombstone ≡ true) → IsGood s.rules s.instance c → HasNoBind c.recorded
    → HappensToBinding s b c (f c)

binding_timeout : LetsBinding (λ c. Event.Timeout)
binding_timeout s b c p ended good none = inl refl

binding_remove : LetsBinding (λ c. Event.Remove)
binding_remove s b c p ended good none = inl refl

binding_good : LetsBinding good_work
binding_good s b c p ended good none = inl refl

binding_end : LetsBinding (λ c. Event.End Done)
binding_end s b c p ended good none = inl refl

binding_finish : LetsBinding (λ c. Event.Finish true)
binding_finish s b c p ended good none = inl refl

binding_send : LetsBinding (λ c. Event.Send)
binding_send s b c p ended good none = inl refl

-- nothing is out of a binding whose instance has ended, since it is at rest then
none_bound : (r : Rules) (i c : Cell) → r.platform ≡ true → IsGood r i c → i.held.tombstone ≡ true
    → is_bind (sent_as c.sent (number_out c.recorded)) ≡ false
none_bound r i c p good tombstone =
    by_cases (is_bind (sent_as c.sent (number_out c.recorded)) ≡ false) (is_at_rest c.recorded)
    (λ rest. ap (λ (n : ℕ). is_bind (sent_as c.sent n)) (number_none c.recorded (rest_still c c.recorded good.binding rest)))
    (λ on. absurd (subst (λ (row : Option BrokerRow). IsSomeAnd row (λ x. x.phase ≡ Phase.Ready))
    (ended_by i i.recorded good.instance tombstone).0
    (there_by i i.recorded refl (agrees i good.instance) (good.related.platform p on)).0.0))

-- what is out arrives, if it may begin or begins nothing
bind_arrives : (forgotten bind work begun : Bool) (n : ℕ) → (forgotten ≡ true → bind ≡ false)
    → (work || not begun) ≡ true
    → (if forgotten && bind then Event.PutOff n
    else if (work || not bind) || not begun then Event.Arrive n else Event.PutOff n) ≡ Event.Arrive n
bind_arrives true true work begun n none may = let e : true ≡ false = none refl in cc
bind_arrives true false true begun n none may = refl
bind_arrives true false false begun n none may = refl
bind_arrives false true true begun n none may = refl
bind_arrives false true false begun n none may = arrives_if false begun n may
bind_arrives false false true begun n none may = refl
bind_arrives false false false begun n none may = refl

binding_arrival : LetsBinding arrival
binding_arrival s b c p ended good none =
    inl (ap (λ (e : Event). Some e) (bind_arrives b.forgotten (is_bind (sent_as c.sent (number_out c.recorded)))
    (may_bind s.rules s.instance) (begins c (number_out c.recorded)) (number_out c.recorded)
    (λ forgotten. none_bound s.rules s.instance c p good (ended forgotten))
    (lets_binding s.rules s.instance c good.related good.instance good.binding p)))

answer_by : (c : Cell) (at : ℕ) (x y : Bool) → x ≡ false → needs_fetch c at ≡ y → IsPossible c
    → ((if x then Some Event.Timeout else if y then None else Some (Event.Take at)) ≡ Some (Event.Take at))
    ⊎ IsTakenWithFetch c (Event.Take at)
answer_by c at true y useless fetch possible = cc
answer_by c at false true useless fetch possible = inr (fetch, fetchable c at possible fetch)
answer_by c at false false useless fetch possible = inl refl

binding_answer : LetsBinding latest_answer
binding_answer s b c p ended good none =
    answer_by c (length c.given - 1)
    (takes_useless b.retrievable (slice_get c.given (length c.given - 1)) c.recorded)
    (needs_fetch c (length c.given - 1))
    (none_useless b.retrievable (slice_get c.given (length c.given - 1)) c.recorded none) refl good.binding

binding_free : All LetsBinding free_events
binding_free =
    all_free LetsBinding binding_good binding_end binding_finish binding_send binding_arrival binding_answer

binding_settles_let : All LetsBinding settling_events
binding_settles_let = all_thrice LetsBinding round_events (binding_timeout, binding_free)

binding_removes_let : All LetsBinding removing_events
binding_removes_let = all_thrice LetsBinding removing_round_events (binding_timeout, (binding_remove, binding_free))

-- ---- the events of a binding

binding_happens : (s : ServiceCells) (b : BindingCell) (fs : List (Cell → Event)) (c : Cell)
    → s.rules.platform ≡ true → (b.forgotten ≡ true → s.instance.held.tombstone ≡ true) → All KeepsBinding fs
    → All LetsBinding fs → All KeepsNoBind fs → IsGood s.rules s.instance c → HasNoBind c.recorded
    → HappenAll (HappensToBinding s b) fs c
binding_happens s b [] c p ended keeps lets nones good none = tt
binding_happens s b (f ∷ fs) c p ended keeps lets nones good none = (
  lets.0 s b c p ended good none,
  binding_happens s b fs (cell_step c (f c)) p ended keeps.1 lets.1 nones.1
      (record {
        instance = good.instance;
        binding = kept_step c (f c) good.binding;
        related = keeps.0 s.rules s.instance c p good;
      })
      (nones.0 c none),
)

-- what is out is given up first
binding_at : (s : ServiceCells) (fs : List (Cell → Event)) (o : Option BindingCell) → s.rules.platform ≡ true
    → All KeepsBinding ((λ c. Event.Timeout) ∷ fs) → All LetsBinding fs → All KeepsNoBind fs → IsPossible s.instance
    → IfSome o (IsOf s.rules s.instance)
    → IfSome o (λ b. HappenAll (HappensToBinding s b) ((λ c. Event.Timeout) ∷ fs) b.life)
binding_at s fs None p keeps lets nones possible of = tt
binding_at s fs (Some b) p keeps lets nones possible of =
    let good : IsGood s.rules s.instance b.life =
    record { instance = possible; binding = of.well.credited.possible; related = of.related } in (
      inl refl,
      binding_happens s b fs (cell_step b.life Event.Timeout) p of.ended keeps.1 lets nones
          (record {
            instance = possible;
            binding = kept_step b.life Event.Timeout good.binding;
            related = keeps.0 s.rules s.instance b.life p good;
          })
          (given_up b.life b.life.recorded refl),
    )

-- ---- all of them

good_at : (r : Rules) (i : Cell) (o : Option BindingCell) → IsPossible i → IfSome o (IsOf r i)
    → IfSome o (λ b. IsGood r i b.life)
good_at r i None possible of = tt
good_at r i (Some b) possible of =
    record { instance = possible; binding = of.well.credited.possible; related = of.related }

all_happen : (s : ServiceCells) → s.rules.platform ≡ true → IsPossible s.instance
    → ((id : ℕ) → IfSome (map.get s.bindings id) (IsOf s.rules s.instance)) → RoundsHappen s
all_happen s p possible each =
    let good : (id : ℕ) → IfSome (map.get s.bindings id) (λ b. IsGood s.rules s.instance b.life) =
    λ id. good_at s.rules s.instance (map.get s.bindings id) possible (each id) in
    record {
      settle = instance_happens false s settling_events s.instance p (λ e. cc) instance_settles settles_let possible good;
      remove = λ may.
          instance_happens true s removing_events s.instance p (λ e. may) instance_removes removes_let possible good;
      settle_binding = λ id.
          binding_at s (free_events ++ (round_events ++ round_events)) (map.get s.bindings id) p binding_settles
          binding_settles_let.1 none_settles.1 possible (each id);
      remove_binding = λ id.
          binding_at s ((λ c. Event.Remove) ∷ (free_events ++ (removing_round_events ++ removing_round_events)))
          (map.get s.bindings id) p binding_removes binding_removes_let.1 none_removes.1 possible (each id);
    }

pub rounds_happen : (r : Rules) (i : Cell) (m : BTreeMap ℕ BindingCell) → IsService r i (tree.get nat_cmp m)
    → r.platform ≡ true
    → RoundsHappen (record { rules = r; instance = i; bindings = map.from_entries {R = nat_cmp} m.entries })
rounds_happen r i m h p =
    all_happen (record { rules = r; instance = i; bindings = map.from_entries {R = nat_cmp} m.entries }) p h.possible
    (λ id. subst (λ o. IfSome o (IsOf r i)) (sym (get-tree nat_cmp_total m id)) (h.each id))
