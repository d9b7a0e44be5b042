-- The instance's own work and operations: what can come about goes on.
use Rattle.std.proofs.Common.{◌≡◌, Bool, true, false, refl, sym, subst, ◌⊎◌, inl, inr, ⊎_elim, ap, ◌∙◌}
use Rattle.std.specs.Prelude.{Option, Some, None, if◌then◌else◌}
use Rattle.osb_message.specs.declared.messages.Answer.{Answer}
use Rattle.osb_message.specs.declared.messages.Kind.{Kind}
use Rattle.osb_message.specs.declared.messages.Kind.TheVariants.{Provision, Poll, Deprovision}
use Rattle.osb_message.specs.declared.messages.Request.{Request}
use Rattle.osb_broker.specs.Answers.{mode_of}
use Rattle.osb_broker.specs.declared.row.BrokerRow.{BrokerRow}
use Rattle.osb_instance.specs.Begin.{failed_row, finished_held, given_up, is_operating, worked}
use Rattle.osb_instance.specs.Held.{Held}
use Rattle.osb_instance.specs.declared.outcome.WorkOutcome.{WorkOutcome}
use Rattle.osb_network.specs.AnyPlatform.{AnyCell, IsAlone, any_applies, any_end, any_end_of, any_step, believed, may_become, may_end_with, may_finish}
use Rattle.osb_network.specs.Truth.{is_under_way as instance_under_way}
use Rattle.osb_network.specs.declared.any_platform.BrokerEvent.{BrokerEvent}
use Rattle.osb_network.specs.declared.any_platform.Told.{Told}
use Rattle.osb_network.specs.declared.resource.Resource.{Resource}
use Rattle.osb_network.proofs.Alone.{alone_step}
use Rattle.osb_update.specs.Begun.{is_available, is_available_by, is_under_way}
use Rattle.osb_update.specs.declared.phase.UpdatePhase.{UpdatePhase}
use Rattle.osb_update.specs.declared.settings.Settings.{Settings}
use Rattle.osb_update.proofs.Same.{same_settings}
use Rattle.osb_update_network.specs.AnyPlatform.{UpdatedCell, end_by, ended_with, gone_on, is_at, is_failed, is_right, is_unchanged, may_go_on, with_instance}
use Rattle.osb_update_network.specs.Promises.{IsPutAside, IsUpdated}
use Rattle.osb_update_network.specs.Reported.{by_answer}
use Rattle.osb_update_network.proofs.Available.{and_both, clash, is_still, operating, polls_not, ready_available, under_way_not, working}
use Rattle.osb_update_network.proofs.Says.{accepted_same, answer_accepts, answer_before, answer_says}

pub at_is : (r : Option Settings) (s : Settings) → is_at r s ≡ true → r ≡ Some s
at_is None s e = cc
at_is (Some has) s e = ap (λ (x : Settings). Some x) ((same_settings has s).0 e)

unchanged_is : (p : UpdatePhase) (r : Option Settings) (s : Settings) → is_unchanged (is_failed p) r s ≡ true
    → p ≡ UpdatePhase.Settled → r ≡ Some s
unchanged_is UpdatePhase.Settled r s e z = at_is r s e
unchanged_is p r s e z = cc

never : (x : Bool) → (x ≡ true → ⊥) → x ≡ false
never true n = absurd (n refl)
never false n = refl

-- nothing is under way of an instance that isn't available
idle : (c : UpdatedCell) → IsUpdated c → is_available c.instance.held ≡ false → is_under_way c.change.phase ≡ false
idle c h away =
    never (is_under_way c.change.phase) (λ u. clash (is_available c.instance.held) (h.there u) away)

-- and nothing was reported of it
untold : (c : UpdatedCell) (s : Settings) → IsUpdated c → is_available c.instance.held ≡ false
    → c.reported.settings ≡ Some s → ⊥
untold c s h away e = clash (is_available c.instance.held) (h.told s e).0 away

-- an event of an instance that isn't available, which reports nothing of the settings
pub away_kept : (c : UpdatedCell) (e : BrokerEvent) (r : Option Settings) → IsUpdated c
    → is_available c.instance.held ≡ false
    → (is_available (any_step c.instance e).held ≡ true → c.change.phase ≡ UpdatePhase.Settled
    → r ≡ Some c.change.settings)
    → IsUpdated (with_instance c e r)
away_kept c e r h away right = record {
  alone = alone_step c.instance e h.alone;
  there = λ u. absurd (clash (is_under_way c.change.phase) u (idle c h away));
  row = right;
  told = λ s z. absurd (untold c s h away z);
  accepted = h.accepted;
  aside = h.aside;
}

-- ---- an operation ends

is_chosen : (x : Bool) (c d : AnyCell) → x ≡ true → (if x then d else c) ≡ d
is_chosen true c d e = refl
is_chosen false c d e = cc

is_left : (x : Bool) (c d : AnyCell) → x ≡ false → (if x then d else c) ≡ c
is_left false c d e = refl
is_left true c d e = cc

finishes : (i : AnyCell) (ok : Bool) → may_finish i ok ≡ true
    → (any_step i (BrokerEvent.Finish ok)).held ≡ finished_held i.held ok
finishes i ok e =
    ap (λ (x : AnyCell). x.held) (is_chosen (may_finish i ok) i (record i { held = finished_held i.held ok }) e)

finish_right : (x : Bool) (c : UpdatedCell) → is_right x Provision c ≡ true → x ≡ true
    → c.settings ≡ Some c.change.settings
finish_right true c e z = at_is c.settings c.change.settings e
finish_right false c e z = cc

finish_by : (x : Bool) (c : UpdatedCell) (ok : Bool) → IsUpdated c
    → x ≡ may_go_on (is_available (finished_held c.instance.held ok)) Provision c (BrokerEvent.Finish ok)
    → IsUpdated (if x then with_instance c (BrokerEvent.Finish ok) c.settings else c)
finish_by false c ok h e = h
finish_by true c ok h e =
    let two = and_both (is_right (is_available (finished_held c.instance.held ok)) Provision c) (may_finish c.instance ok) (sym e) in
    away_kept c (BrokerEvent.Finish ok) c.settings h
    (operating c.instance.held (and_both (is_operating c.instance.held) _ two.1).0)
    (λ z p. finish_right (is_available (finished_held c.instance.held ok)) c two.0
    (subst (λ (x : Held). is_available x ≡ true) (finishes c.instance ok two.1) z))

pub finish_kept : (c : UpdatedCell) (ok : Bool) → IsUpdated c
    → IsUpdated (gone_on (is_available (finished_held c.instance.held ok)) Provision c (BrokerEvent.Finish ok))
finish_kept c ok h =
    finish_by (may_go_on (is_available (finished_held c.instance.held ok)) Provision c (BrokerEvent.Finish ok)) c ok h refl

-- ---- a row has waited too long

failed_by : (b : Option BrokerRow) (w : Option Request) → is_available_by (failed_row b) w ≡ false
failed_by None None = refl
failed_by None (Some w) = refl
failed_by (Some b) None = refl
failed_by (Some b) (Some w) = refl

give_up_by : (x : Bool) (c : UpdatedCell) → x ≡ c.instance.held.waiting → IsUpdated c
    → (any_step c.instance BrokerEvent.GiveUpWaiting ≡ c.instance)
    ⊎ ((is_available c.instance.held ≡ false)
    × (is_available (any_step c.instance BrokerEvent.GiveUpWaiting).held ≡ false))
give_up_by true c e h =
    inr (
      never (is_available c.instance.held)
          (λ z. clash c.instance.held.waiting (sym e) (is_still c.instance h.alone z)),
      subst (λ (y : AnyCell). is_available y.held ≡ false)
          (sym (is_chosen c.instance.held.waiting c.instance (record c.instance { held = given_up c.instance.held }) (sym e)))
          (failed_by c.instance.held.row c.instance.held.work),
    )
give_up_by false c e h = inl (is_left c.instance.held.waiting c.instance (record c.instance { held = given_up c.instance.held }) (sym e))

same_instance : (c : UpdatedCell) (i : AnyCell) → i ≡ c.instance → IsUpdated c
    → IsUpdated (record {
      instance = i;
      change = c.change;
      settings = c.settings;
      before = c.before;
      reported = c.reported;
    })
same_instance c i e h =
    subst (λ (x : AnyCell). IsUpdated (record {
      instance = x;
      change = c.change;
      settings = c.settings;
      before = c.before;
      reported = c.reported;
    })) (sym e) (record {
      alone = h.alone;
      there = h.there;
      row = h.row;
      told = h.told;
      accepted = h.accepted;
      aside = h.aside;
    })

pub give_up_kept : (c : UpdatedCell) → IsUpdated c
    → IsUpdated (with_instance c BrokerEvent.GiveUpWaiting c.settings)
give_up_kept c h =
    ⊎_elim (λ same. same_instance c (any_step c.instance BrokerEvent.GiveUpWaiting) same h)
    (λ away. away_kept c BrokerEvent.GiveUpWaiting c.settings h away.0
    (λ z. absurd (clash (is_available (any_step c.instance BrokerEvent.GiveUpWaiting).held) z away.1)))
    (give_up_by c.instance.held.waiting c refl h)

pub crash_kept : (c : UpdatedCell) → IsUpdated c → IsUpdated (with_instance c BrokerEvent.Crash c.settings)
crash_kept c h = same_instance c c.instance refl h

-- ---- the work goes on

held_same : (x : Bool) (i : AnyCell) (t : Resource) → (if x then record i { resource = t } else i).held ≡ i.held
held_same true i t = refl
held_same false i t = refl

work_by : (x : Bool) (c : UpdatedCell) (t : Resource) (r : Option Settings) → IsUpdated c → x ≡ may_become c.instance t
    → IsUpdated (if x then with_instance c (BrokerEvent.Work t) r else c)
work_by false c t r h e = h
work_by true c t r h e =
    let away = never (is_available c.instance.held)
    (λ z. clash (instance_under_way c.instance.held) (and_both (instance_under_way c.instance.held) _ (sym e)).0
    (under_way_not c.instance.held z)) in
    away_kept c (BrokerEvent.Work t) r h away
    (λ z. absurd (clash (is_available c.instance.held)
    (subst (λ (y : Held). is_available y ≡ true) (held_same (may_become c.instance t) c.instance t) z) away))

pub work_kept : (c : UpdatedCell) (t : Resource) (r : Option Settings) → IsUpdated c
    → IsUpdated (if may_become c.instance t then with_instance c (BrokerEvent.Work t) r else c)
work_kept c t r h = work_by (may_become c.instance t) c t r h refl

-- ---- the work ends

ends_as : (i : AnyCell) (w : Option Request) (q : Request) (oc : WorkOutcome) → w ≡ Some q → may_end_with i w oc ≡ true
    → any_end i w oc ≡ any_end_of i q oc
ends_as i w q oc e may =
    subst (λ (o : Option Request). may_end_with i o oc ≡ true → any_end i o oc ≡ any_end_of i q oc) (sym e)
    (λ m. is_chosen (may_end_with i (Some q) oc) i (any_end_of i q oc) m) may

right_now : (k : Kind) (c : UpdatedCell) → is_right true k c ≡ true → c.change.phase ≡ UpdatePhase.Settled
    → c.settings ≡ Some c.change.settings
right_now Provision c e p = at_is c.settings c.change.settings e
right_now Poll c e p = unchanged_is c.change.phase c.settings c.change.settings e p
right_now Deprovision c e p = unchanged_is c.change.phase c.settings c.change.settings e p

right_of : (x : Bool) (k : Kind) (c : UpdatedCell) → is_right x k c ≡ true → x ≡ true → is_right true k c ≡ true
right_of true k c e z = e
right_of false k c e z = cc

provision_right : (k : Kind) (c : UpdatedCell) → k ≡ Provision → is_right true k c ≡ true
    → c.settings ≡ Some c.change.settings
provision_right Provision c is e = at_is c.settings c.change.settings e
provision_right k c is e = cc

abbrev ended_as : UpdatedCell → AnyCell → Kind → Answer → UpdatedCell
ended_as c i k a = record {
  instance = i;
  change = c.change;
  settings = c.settings;
  before = c.before;
  reported = by_answer k c.instance.told.leaving a c.change.settings c.reported;
}

end_of : (c : UpdatedCell) (q : Request) (i : AnyCell) (g : Held × Answer) → IsUpdated c → c.instance.held.work ≡ Some q
    → IsAlone i → i.held ≡ g.0 → i.told ≡ believed q.kind g.1 c.instance.told
    → is_right (is_available g.0) q.kind c ≡ true → IsUpdated (ended_as c i q.kind g.1)
end_of c q i g h w alone held told right =
    let away = working c.instance.held q w in
    let rest = λ (z : is_available i.held ≡ true).
    right_of (is_available g.0) q.kind c right (subst (λ (x : Held). is_available x ≡ true) held z) in
    record {
      alone = alone;
      there = λ u. absurd (clash (is_under_way c.change.phase) u (idle c h away));
      row = λ z p. right_now q.kind c (rest z) p;
      told = λ s e. ⊎_elim (λ old. absurd (untold c s h away old))
          (λ fresh.
          let now = ready_available i alone (subst (λ (x : Told). x.ready ≡ true) (sym told) fresh.0) in
          ⊎_elim
          (λ asks. (
            now,
            (
              idle c h away,
              provision_right q.kind c asks.0 (rest now) ∙ ap (λ (x : Settings). Some x) asks.1,
            ),
          ))
          (λ polls. absurd (polls_not c.instance q h.alone w polls.0)) fresh.1)
          (answer_says q.kind c.instance.told.leaving g.1 c.change.settings c.reported c.instance.told s refl e);
      accepted = answer_accepts q.kind c.instance.told.leaving g.1 c.change.phase c.change.settings c.change.settings
          c.reported h.accepted
          (λ is z. accepted_same c.change.phase c.change.settings c.change.settings (idle c h away) refl);
      aside = subst (λ (b : Option Settings). IsPutAside c.change.phase c.change.settings c.before b)
          (sym (answer_before q.kind c.instance.told.leaving g.1 c.change.settings c.reported)) h.aside;
    }

end_if : (x : Bool) (c : UpdatedCell) (q : Request) (oc : WorkOutcome) → IsUpdated c → c.instance.held.work ≡ Some q
    → x ≡ may_go_on (is_available (worked (mode_of c.instance.catalogue q) c.instance.held q oc).0) q.kind c
    (BrokerEvent.End oc)
    → IsUpdated (if x
    then ended_with (worked (mode_of c.instance.catalogue q) c.instance.held q oc).1 q.kind c oc
    else c)
end_if false c q oc h w e = h
end_if true c q oc h w e =
    let g = worked (mode_of c.instance.catalogue q) c.instance.held q oc in
    let two = and_both (is_right (is_available g.0) q.kind c) (any_applies c.instance (BrokerEvent.End oc)) (sym e) in
    let is = ends_as c.instance c.instance.held.work q oc w two.1 in
    subst (λ (i : AnyCell). IsUpdated (ended_as c i q.kind g.1)) (sym is)
    (end_of c q (any_end_of c.instance q oc) g h w
    (subst IsAlone is (alone_step c.instance (BrokerEvent.End oc) h.alone)) refl refl two.0)

end_as : (w : Option Request) (c : UpdatedCell) (oc : WorkOutcome) → IsUpdated c → c.instance.held.work ≡ w
    → IsUpdated (end_by w c oc)
end_as None c oc h e = h
end_as (Some q) c oc h e =
    end_if
    (may_go_on (is_available (worked (mode_of c.instance.catalogue q) c.instance.held q oc).0) q.kind c
    (BrokerEvent.End oc)) c q oc h e refl

pub end_kept : (c : UpdatedCell) (oc : WorkOutcome) → IsUpdated c → IsUpdated (end_by c.instance.held.work c oc)
end_kept c oc h = end_as c.instance.held.work c oc h refl
