-- What is so of an instance that is available, and of one that isn't.
use Rattle.std.proofs.Common.{◌≡◌, Bool, true, false, refl, sym, subst, ◌∙◌}
use Rattle.std.specs.Prelude.{Option, Some, None, ◌&&◌, ◌||◌, not, is_some}
use Rattle.osb_message.specs.Plans.{Catalogue}
use Rattle.osb_message.specs.declared.messages.Kind.{Kind}
use Rattle.osb_message.specs.declared.messages.Kind.TheVariants.{Provision, Poll, Deprovision}
use Rattle.osb_message.specs.declared.messages.Request.{Request}
use Rattle.osb_broker.specs.declared.row.BrokerRow.{BrokerRow}
use Rattle.osb_broker.specs.declared.row.Phase.{Phase}
use Rattle.osb_broker.specs.Finished.{is_running_in}
use Rattle.osb_instance.specs.Begin.{is_held, is_operating}
use Rattle.osb_instance.specs.Fits.{is_ready}
use Rattle.osb_instance.specs.Held.{Held}
use Rattle.osb_network.specs.AnyPlatform.{AnyCell, IsAlone, IsAloneAs}
use Rattle.osb_network.specs.Truth.{is_under_way as instance_under_way}
use Rattle.osb_network.specs.declared.any_platform.Told.{Told}
use Rattle.osb_network.specs.declared.resource.Resource.{Resource}
use Rattle.osb_network.specs.declared.resource.Resource.TheVariants.{Whole}
use Rattle.osb_update.specs.Begun.{is_available, is_available_by}

pub clash : (x : Bool) → x ≡ true → x ≡ false → ⊥
clash true e f = cc
clash false e f = cc

pub and_both : (a b : Bool) → (a && b) ≡ true → (a ≡ true) × (b ≡ true)
and_both true b e = (refl, e)
and_both false b e = cc

is_ready_now : (p : Phase) → is_ready p ≡ true → p ≡ Phase.Ready
is_ready_now Phase.Ready e = refl
is_ready_now p e = cc

ready_is : (p : Phase) → p ≡ Phase.Ready → is_ready p ≡ true
ready_is Phase.Ready e = refl
ready_is p e = cc

making_is : (p : Phase) → p ≡ Phase.Making → is_ready p ≡ true → ⊥
making_is Phase.Making e f = cc
making_is p e f = cc

-- ---- by the parts of what is held

-- what is so of the resource and of what was reported
record IsSeen (b : Option BrokerRow) (w : Option Request) (v : Bool) (t : Resource) (told : Told) : Type 0 where
  pub whole : is_available_by b w ≡ true → t ≡ Whole
  pub still : is_available_by b w ≡ true → v ≡ false
  pub ready : told.ready ≡ true → is_available_by b w ≡ true

seen_as : (cat : Catalogue) (fp : Bool) (b : Option BrokerRow) (w : Option Request) (x v : Bool) (t : Resource)
    (told : Told) → IsAloneAs cat fp b w x v t told → IsSeen b w v t told
seen_as cat fp None None x false t told h =
    record { whole = λ e. cc; still = λ e. refl; ready = λ e. absurd (clash told.ready e h.ready) }
seen_as cat fp (Some b) None false false t told h =
    record { whole = λ e. h.whole (is_ready_now b.phase e); still = λ e. refl; ready = λ e. ready_is b.phase (h.ready e) }
seen_as cat fp (Some b) None false true t told h =
    record {
      whole = λ e. absurd (making_is b.phase h.making e);
      still = λ e. absurd (making_is b.phase h.making e);
      ready = λ e. absurd (clash told.ready e h.fresh.ready);
    }
seen_as cat fp None (Some q) false false t told h =
    record { whole = λ e. cc; still = λ e. refl; ready = λ e. absurd (clash told.ready e h.fresh.ready) }
seen_as cat fp (Some b) (Some q) false false t told h =
    record { whole = λ e. cc; still = λ e. refl; ready = λ e. absurd (clash told.ready e h.ready) }
seen_as cat fp None None x true t told h = absurd h
seen_as cat fp (Some b) None true v t told h = absurd h
seen_as cat fp None (Some q) true v t told h = absurd h
seen_as cat fp None (Some q) false true t told h = absurd h
seen_as cat fp (Some b) (Some q) true v t told h = absurd h
seen_as cat fp (Some b) (Some q) false true t told h = absurd h

seen : (i : AnyCell) → IsAlone i → IsSeen i.held.row i.held.work i.held.waiting i.resource i.told
seen i h = seen_as i.catalogue i.first_poll i.held.row i.held.work i.held.tombstone i.held.waiting i.resource i.told h

-- ---- of an instance

pub is_whole : (i : AnyCell) → IsAlone i → is_available i.held ≡ true → i.resource ≡ Whole
is_whole i h e = (seen i h).whole e

pub is_still : (i : AnyCell) → IsAlone i → is_available i.held ≡ true → i.held.waiting ≡ false
is_still i h e = (seen i h).still e

pub ready_available : (i : AnyCell) → IsAlone i → i.told.ready ≡ true → is_available i.held ≡ true
ready_available i h e = (seen i h).ready e

rests_by : (b : Option BrokerRow) (w : Option Request) → is_available_by b w ≡ true → w ≡ None
rests_by (Some b) None e = refl
rests_by (Some b) (Some w) e = cc
rests_by None (Some w) e = cc
rests_by None None e = cc

-- no work of it is pending
pub rests : (held : Held) → is_available held ≡ true → held.work ≡ None
rests held e = rests_by held.row held.work e

ready_runs_not : (p : Phase) (v : Bool) → is_ready p ≡ true → (is_running_in p && not v) ≡ false
ready_runs_not Phase.Ready v e = refl
ready_runs_not p v e = cc

operates_not_by : (b : Option BrokerRow) (w : Option Request) (x v : Bool) → is_available_by b w ≡ true
    → (held : Held) → held.row ≡ b → held.waiting ≡ v → is_operating held ≡ false
operates_not_by (Some b) None x v e held r z =
    subst (λ (o : Option BrokerRow). is_operating (record held { row = o }) ≡ false) (sym r)
    (ready_runs_not b.phase held.waiting e)
operates_not_by (Some b) (Some w) x v e held r z = absurd (clash false e refl)
operates_not_by None (Some w) x v e held r z = absurd (clash false e refl)
operates_not_by None None x v e held r z = absurd (clash false e refl)

-- and no operation runs
pub operates_not : (held : Held) → is_available held ≡ true → is_operating held ≡ false
operates_not held e = operates_not_by held.row held.work false held.waiting e held refl refl

some_none : {A : Type 0} (x : A) → Some x ≡ None → ⊥
some_none x e = cc

under_way_by : (w : Option Request) (held : Held) → held.work ≡ w → is_available held ≡ true
    → instance_under_way (record held { work = w }) ≡ false
under_way_by None held r e = operates_not held e
under_way_by (Some w) held r e = absurd (some_none w (sym r ∙ rests held e))

-- nothing goes on that may change the resource
pub under_way_not : (held : Held) → is_available held ≡ true → instance_under_way held ≡ false
under_way_not held e = under_way_by held.work held refl e

held_by : (b : Option BrokerRow) (w : Option Request) → (is_some b || is_some w) ≡ false → is_available_by b w ≡ false
held_by None None e = refl
held_by (Some b) w e = cc
held_by None (Some w) e = cc

pub unheld : (held : Held) → is_held held ≡ false → is_available held ≡ false
unheld held e = held_by held.row held.work e

working_by : (b : Option BrokerRow) (q : Request) → is_available_by b (Some q) ≡ false
working_by None q = refl
working_by (Some b) q = refl

pub working : (held : Held) (q : Request) → held.work ≡ Some q → is_available held ≡ false
working held q e =
    subst (λ (w : Option Request). is_available_by held.row w ≡ false) (sym e) (working_by held.row q)

never : (x : Bool) → (x ≡ true → ⊥) → x ≡ false
never true n = absurd (n refl)
never false n = refl

pub operating : (held : Held) → is_operating held ≡ true → is_available held ≡ false
operating held e = never (is_available held) (λ z. clash (is_operating held) e (operates_not held z))

-- pending work is never that of a Poll
provision_not : (k : Kind) → k ≡ Provision → k ≡ Poll → ⊥
provision_not Provision e z = cc
provision_not k e z = cc

deprovision_not : (k : Kind) → k ≡ Deprovision → k ≡ Poll → ⊥
deprovision_not Deprovision e z = cc
deprovision_not k e z = cc

kind_as : (cat : Catalogue) (fp : Bool) (b : Option BrokerRow) (w : Request) (x v : Bool) (t : Resource) (told : Told)
    → IsAloneAs cat fp b (Some w) x v t told → w.kind ≡ Poll → ⊥
kind_as cat fp None w false false t told h e = provision_not w.kind h.kind e
kind_as cat fp (Some b) w false false t told h e = deprovision_not w.kind h.kind e
kind_as cat fp None w true v t told h e = absurd h
kind_as cat fp None w false true t told h e = absurd h
kind_as cat fp (Some b) w true v t told h e = absurd h
kind_as cat fp (Some b) w false true t told h e = absurd h

pub polls_not : (i : AnyCell) (w : Request) → IsAlone i → i.held.work ≡ Some w → w.kind ≡ Poll → ⊥
polls_not i w h e =
    kind_as i.catalogue i.first_poll i.held.row w i.held.tombstone i.held.waiting i.resource i.told
    (subst (λ (o : Option Request). IsAloneAs i.catalogue i.first_poll i.held.row o i.held.tombstone i.held.waiting
    i.resource i.told) e h)
