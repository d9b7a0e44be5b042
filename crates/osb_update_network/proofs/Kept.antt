-- Whatever any platform does, what can come about goes on: a request of the instance, its work and its operations.
use Rattle.std.proofs.Common.{◌≡◌, Bool, true, false, refl, sym, subst, ◌⊎◌, inl, inr, ⊎_elim, ap, ◌∙◌}
use Rattle.std.specs.Prelude.{Option, Some, None, ◌&&◌, ◌||◌, ◌==◌, not, if◌then◌else◌, is_some}
use Rattle.osb_message.specs.declared.catalogue.Mode.{Mode}
use Rattle.osb_message.specs.declared.messages.Answer.{Answer}
use Rattle.osb_message.specs.declared.messages.Kind.{Kind}
use Rattle.osb_message.specs.declared.messages.Kind.TheVariants.{Provision, Poll, Deprovision}
use Rattle.osb_message.specs.declared.messages.Request.{Request}
use Rattle.osb_message.specs.declared.messages.LastState.{LastState}
use Rattle.osb_broker.specs.Answers.{last_operation, mode_of}
use Rattle.osb_broker.specs.declared.row.BrokerRow.{BrokerRow}
use Rattle.osb_instance.specs.Begin.{begins, begun, begun_with, busy, conflict, conflicts, is_held}
use Rattle.osb_instance.specs.Held.{Held}
use Rattle.osb_instance.specs.declared.digest.Digest.{Digest}
use Rattle.osb_instance.specs.declared.work.Begun.{Begun}
use Rattle.osb_network.specs.AnyPlatform as network
use Rattle.osb_network.specs.AnyPlatform.{AnyCell, IsAlone, any_step}
use Rattle.osb_network.specs.declared.any_platform.BrokerEvent.{BrokerEvent}
use Rattle.osb_network.specs.declared.any_platform.Told.{Told}
use Rattle.osb_network.proofs.Alone.{alone_step}
use Rattle.osb_update.specs.Begun.{is_available, is_available_by, is_under_way}
use Rattle.osb_update.specs.Settings.{is_same_settings}
use Rattle.osb_update.specs.declared.phase.UpdatePhase.{UpdatePhase}
use Rattle.osb_update.specs.declared.settings.Settings.{Settings}
use Rattle.osb_update.proofs.Same.{same_settings}
use Rattle.osb_update_network.specs.AnyPlatform.{UpdatedCell, arrive, arrive_by, handled, in_place, is_new, made_with, poll_in_place, provision_by, provision_in_place, put_off}
use Rattle.osb_update_network.specs.Promises.{IsAcceptedIn, IsPutAside, IsUpdated}
use Rattle.osb_update_network.specs.Reported.{by_begun, heard}
use Rattle.osb_update_network.specs.declared.reported.Reported.{Reported}
use Rattle.osb_update_network.proofs.Available.{clash, ready_available, rests, unheld}
use Rattle.osb_update_network.proofs.Requests.{goes, Goes}
use Rattle.osb_update_network.proofs.Says.{accepted_same, begun_accepts, begun_before_same, begun_says, busy_says}
use Rattle.osb_update_network.proofs.Says.{deprovision_settings, heard_accepted, heard_aside, heard_leaving, heard_settings}
use Rattle.osb_update_network.proofs.Says.{none_some}

-- ---- a request is put off

pub put_off_kept : (c : UpdatedCell) (k : Kind) → IsUpdated c → IsUpdated (put_off c k)
put_off_kept c k h = record {
  alone = alone_step c.instance (BrokerEvent.PutOff k) h.alone;
  there = h.there;
  row = h.row;
  told = λ s e. h.told s (heard_settings k c.reported s e);
  accepted = heard_accepted k c.change.phase c.change.settings c.reported h.accepted;
  aside = heard_aside k c.change.phase c.change.settings c.before c.reported h.aside;
}

-- ---- a request is answered by the instance's table, or its work begins

under_way_not : (p : UpdatePhase) → p ≡ UpdatePhase.Settled → is_under_way p ≡ false
under_way_not UpdatePhase.Settled e = refl
under_way_not p e = cc

-- what a request arrives at: an update that has failed or is under way isn't met by a Provision or a Poll, and a Provision
-- asks for the settings that there are, unless work is pending
record IsMet (c : UpdatedCell) (k : Kind) (asked : Settings) : Type 0 where
  pub settled : (k ≡ Provision) ⊎ (k ≡ Poll) → is_available c.instance.held ≡ true → c.change.phase ≡ UpdatePhase.Settled
  pub asks : k ≡ Provision → (asked ≡ c.change.settings) ⊎ ((w : Request) × (c.instance.held.work ≡ Some w))

-- the cell once the instance has taken the request
abbrev taken : UpdatedCell → AnyCell → Held × Begun → Kind → Settings → UpdatedCell
taken c i g k asked = record {
  instance = i;
  change = c.change;
  settings = c.settings;
  before = c.before;
  reported = by_begun g.1 k c.instance.told.leaving asked (heard k c.reported);
}

asked_now : (c : UpdatedCell) (k : Kind) (asked : Settings) → IsMet c k asked → is_available c.instance.held ≡ true
    → k ≡ Provision → asked ≡ c.change.settings
asked_now c k asked m e is =
    ⊎_elim (λ x. x) (λ x. absurd (none_some x.0 (sym (rests c.instance.held e) ∙ x.1))) (m.asks is)

-- what is newly reported is what the row has
new_report : (c : UpdatedCell) (k : Kind) (asked s : Settings) → IsUpdated c → IsMet c k asked
    → is_available c.instance.held ≡ true
    → ((k ≡ Provision) × (asked ≡ s)) ⊎ ((k ≡ Poll) × ((heard k c.reported).accepted ≡ Some s))
    → (is_under_way c.change.phase ≡ false) × (c.settings ≡ Some s)
new_report c k asked s h m e (inl x) =
    let now = m.settled (inl x.0) e in (
      under_way_not c.change.phase now,
      h.row e now ∙ ap (λ (z : Settings). Some z) (sym (asked_now c k asked m e x.0) ∙ x.1),
    )
new_report c k asked s h m e (inr x) =
    let now = m.settled (inr x.0) e in
    let took = heard_accepted k c.change.phase c.change.settings c.reported h.accepted in
    let is = subst (λ (p : UpdatePhase). IsAcceptedIn p c.change.settings (heard k c.reported).accepted) now took in
    (under_way_not c.change.phase now, h.row e now ∙ ap (λ (z : Settings). Some z) (sym (is s x.1)))

-- a Provision that arrives while work is pending isn't answered with 202
answered_same : (a b : Answer) → Begun.Answered a ≡ Begun.Answered b → a ≡ b
answered_same a b e = cc

busy_202 : (k : Kind) → k ≡ Provision → ((busy k).status == 202) ≡ true → ⊥
busy_202 Provision e z = cc
busy_202 k e z = cc

abbrev given : Held × Begun → Begun
given g = g.1

working_202 : (x : Bool) (k : Kind) (a : Answer) (held : Held) → k ≡ Provision
    → given (if x then (held, Begun.Answered conflict) else (held, Begun.Answered (busy k))) ≡ Begun.Answered a
    → (a.status == 202) ≡ true → ⊥
working_202 true k a held is e z =
    clash false (subst (λ (b : Answer). (b.status == 202) ≡ true) (sym (answered_same conflict a e)) z) refl
working_202 false k a held is e z =
    busy_202 k is (subst (λ (b : Answer). (b.status == 202) ≡ true) (sym (answered_same (busy k) a e)) z)

pending_202 : (o : Option Request) (w : Request) (m : Option Mode) (fp : Bool) (held : Held) (r : Request) (d : Digest)
    (a : Answer) → o ≡ Some w → r.kind ≡ Provision
    → given (if conflicts held r d then (held, Begun.Answered conflict) else begun_with o m fp held r d) ≡ Begun.Answered a
    → (a.status == 202) ≡ true → ⊥
pending_202 None w m fp held r d a i is e z = none_some w i
pending_202 (Some q) w m fp held r d a i is e z = working_202 (conflicts held r d) r.kind a held is e z

never : (x : Bool) → (x ≡ true → ⊥) → x ≡ false
never true n = absurd (n refl)
never false n = refl

-- no update is under way that a Provision meets
idle : (c : UpdatedCell) (k : Kind) (asked : Settings) → IsUpdated c → IsMet c k asked → k ≡ Provision
    → is_under_way c.change.phase ≡ false
idle c k asked h m is =
    never (is_under_way c.change.phase)
    (λ u. clash (is_under_way c.change.phase) u (under_way_not c.change.phase (m.settled (inl is) (h.there u))))

taken_kept : (c : UpdatedCell) (i : AnyCell) (g : Held × Begun) (k : Kind) (asked : Settings) (y : Bool) → IsUpdated c
    → IsMet c k asked → IsAlone i → i.held ≡ g.0
    → i.told ≡ network.reported g.1 k (network.heard k c.instance.told)
    → Goes k c.instance.held g.0 y → (is_under_way c.change.phase ≡ true → y ≡ false)
    → ((w : Request) (a : Answer) → c.instance.held.work ≡ Some w → k ≡ Provision → g.1 ≡ Begun.Answered a
    → (a.status == 202) ≡ true → ⊥)
    → IsUpdated (taken c i g k asked)
taken_kept c i g k asked y h m alone held told goes_on lets no_202 = record {
  alone = alone;
  there = λ u. ⊎_elim
      (λ (same : g.0 ≡ c.instance.held).
      subst (λ (x : Held). is_available x ≡ true) (sym (held ∙ same)) (h.there u))
      (λ away. absurd (clash y (away.1 (h.there u)).0 (lets u))) goes_on;
  row = λ e p. ⊎_elim
      (λ (same : g.0 ≡ c.instance.held). h.row (subst (λ (x : Held). is_available x ≡ true) (held ∙ same) e) p)
      (λ away. absurd (clash (is_available i.held) e (subst (λ (x : Held). is_available x ≡ false) (sym held) away.0)))
      goes_on;
  told = λ s e. ⊎_elim
      (λ (old : (heard k c.reported).settings ≡ Some s).
      let t = h.told s (heard_settings k c.reported s old) in
      ⊎_elim
      (λ (same : g.0 ≡ c.instance.held).
      (subst (λ (x : Held). is_available x ≡ true) (sym (held ∙ same)) t.0, t.1))
      (λ away. absurd (deprovision_settings k c.reported s (away.1 t.0).1 old)) goes_on)
      (λ fresh.
      let e = ready_available i alone (subst (λ (x : Told). x.ready ≡ true) (sym told) fresh.0) in
      ⊎_elim
      (λ (same : g.0 ≡ c.instance.held).
      (e, new_report c k asked s h m (subst (λ (x : Held). is_available x ≡ true) (held ∙ same) e) fresh.1))
      (λ away. absurd (clash (is_available i.held) e (subst (λ (x : Held). is_available x ≡ false) (sym held) away.0)))
      goes_on)
      (begun_says g.1 k c.instance.told.leaving asked (heard k c.reported) (network.heard k c.instance.told) s
      (heard_leaving k c.instance.told) e);
  accepted = begun_accepts g.1 k c.instance.told.leaving c.change.phase c.change.settings asked (heard k c.reported)
      (heard_accepted k c.change.phase c.change.settings c.reported h.accepted)
      (λ is a e z. accepted_same c.change.phase c.change.settings asked (idle c k asked h m is)
      (⊎_elim (λ x. x) (λ w. absurd (no_202 w.0 a w.1 is e z)) (m.asks is)));
  aside = subst (λ (b : Option Settings). IsPutAside c.change.phase c.change.settings c.before b)
      (sym (begun_before_same g.1 k c.instance.told.leaving asked (heard k c.reported)))
      (heard_aside k c.change.phase c.change.settings c.before c.reported h.aside);
}

-- with rule d
abbrev handled_by : Bool → Bool → UpdatedCell → Request → Digest → Settings → UpdatedCell
handled_by u y c r d asked = record {
  instance = any_step c.instance (if u && y then BrokerEvent.PutOff r.kind else BrokerEvent.Arrive r d);
  change = c.change;
  settings = c.settings;
  before = c.before;
  reported = by_begun
      (given (if not (not u) && y
      then (c.instance.held, Begun.Answered (busy r.kind))
      else begun (mode_of c.instance.catalogue r) c.instance.first_poll c.instance.held r d))
      r.kind c.instance.told.leaving asked (heard r.kind c.reported);
}

taken_by : (c : UpdatedCell) (r : Request) (d : Digest) (asked : Settings) → IsUpdated c → IsMet c r.kind asked
    → (is_under_way c.change.phase ≡ true → begins (mode_of c.instance.catalogue r) c.instance.held r d ≡ false)
    → IsUpdated (taken c (any_step c.instance (BrokerEvent.Arrive r d))
    (begun (mode_of c.instance.catalogue r) c.instance.first_poll c.instance.held r d) r.kind asked)
taken_by c r d asked h m lets =
    taken_kept c (any_step c.instance (BrokerEvent.Arrive r d))
    (begun (mode_of c.instance.catalogue r) c.instance.first_poll c.instance.held r d) r.kind asked
    (begins (mode_of c.instance.catalogue r) c.instance.held r d) h m
    (alone_step c.instance (BrokerEvent.Arrive r d) h.alone) refl refl
    (goes c.instance.catalogue c.instance.first_poll (mode_of c.instance.catalogue r) c.instance.held r d
    c.instance.resource c.instance.told h.alone)
    lets
    (λ w a i is e z. pending_202 c.instance.held.work w (mode_of c.instance.catalogue r) c.instance.first_poll
    c.instance.held r d a i is e z)

handled_kept : (u y : Bool) (c : UpdatedCell) (r : Request) (d : Digest) (asked : Settings) → IsUpdated c
    → IsMet c r.kind asked → u ≡ is_under_way c.change.phase
    → y ≡ begins (mode_of c.instance.catalogue r) c.instance.held r d → IsUpdated (handled_by u y c r d asked)
handled_kept true true c r d asked h m i j =
    subst
    (λ (x : Reported). IsUpdated (record {
      instance = any_step c.instance (BrokerEvent.PutOff r.kind);
      change = c.change;
      settings = c.settings;
      before = c.before;
      reported = x;
    }))
    (sym (busy_says r.kind c.instance.told.leaving asked (heard r.kind c.reported))) (put_off_kept c r.kind h)
handled_kept true false c r d asked h m i j = taken_by c r d asked h m (λ z. sym j)
handled_kept false y c r d asked h m i j =
    taken_by c r d asked h m (λ z. absurd (clash (is_under_way c.change.phase) z (sym i)))

-- ---- a request arrives

-- a Provision finds nothing
made_kept : (c : UpdatedCell) (asked : Settings) → is_available c.instance.held ≡ false → IsUpdated c
    → IsUpdated (made_with true c asked)
made_kept c asked away h = record {
  alone = h.alone;
  there = λ u. cc;
  row = λ e p. absurd (clash (is_available c.instance.held) e away);
  told = λ s e. absurd (clash (is_available c.instance.held) (h.told s e).0 away);
  accepted = λ to e. absurd (none_some to e);
  aside = tt;
}

provision_settled : (p : UpdatePhase) → None ≡ provision_by p → p ≡ UpdatePhase.Settled
provision_settled UpdatePhase.Settled e = refl
provision_settled UpdatePhase.Failed e = cc
provision_settled (UpdatePhase.Pending to) e = cc
provision_settled (UpdatePhase.Updating to) e = cc
provision_settled (UpdatePhase.Mending to) e = cc

provision_meets : (x y : Bool) (p : UpdatePhase)
    → None ≡ (if not x then Some conflict else if y then provision_by p else None)
    → (x ≡ true) × (y ≡ true → p ≡ UpdatePhase.Settled)
provision_meets true true p e = (refl, λ z. provision_settled p e)
provision_meets true false p e = (refl, λ z. absurd (clash false z refl))
provision_meets false y p e = cc

polled_not : (x : Bool) (l : LastState) → None ≡ (if x then Some (last_operation l) else None) → x ≡ true → ⊥
polled_not true l e z = cc
polled_not false l e z = cc

poll_meets : (p : UpdatePhase) (held : Held) → None ≡ poll_in_place p held → is_available held ≡ true
    → p ≡ UpdatePhase.Settled
poll_meets UpdatePhase.Settled held e z = refl
poll_meets UpdatePhase.Failed held e z = absurd (polled_not (is_available held) LastState.Failed e z)
poll_meets (UpdatePhase.Pending to) held e z = absurd (polled_not (is_available held) LastState.InProgress e z)
poll_meets (UpdatePhase.Updating to) held e z = absurd (polled_not (is_available held) LastState.InProgress e z)
poll_meets (UpdatePhase.Mending to) held e z = absurd (polled_not (is_available held) LastState.InProgress e z)

row_not : (b : Option BrokerRow) (w : Option Request) → b ≡ None → is_available_by b w ≡ true → ⊥
row_not None w e z = clash false z refl
row_not (Some b) w e z = cc

-- by the row
row_meets : (b : Option BrokerRow) (c : UpdatedCell) (asked : Settings) → c.instance.held.row ≡ b
    → None ≡ provision_in_place b c.change c.instance.held asked → is_available c.instance.held ≡ true
    → c.change.phase ≡ UpdatePhase.Settled
row_meets None c asked i e z = absurd (row_not c.instance.held.row c.instance.held.work i z)
row_meets (Some b) c asked i e z =
    (provision_meets (is_same_settings c.change.settings asked) (is_available c.instance.held) c.change.phase e).1 z

held_asks : (b : Option BrokerRow) (w : Option Request) (c : UpdatedCell) (asked : Settings) → c.instance.held.row ≡ b
    → c.instance.held.work ≡ w → None ≡ provision_in_place b c.change c.instance.held asked
    → false ≡ not (is_some b || is_some w)
    → (asked ≡ c.change.settings) ⊎ ((q : Request) × (c.instance.held.work ≡ Some q))
held_asks (Some b) w c asked i j e f =
    inl (sym ((same_settings c.change.settings asked).0
    (provision_meets (is_same_settings c.change.settings asked) (is_available c.instance.held) c.change.phase e).0))
held_asks None (Some q) c asked i j e f = inr (q, j)
held_asks None None c asked i j e f = cc

-- by the kind
kind_meets : (k : Kind) (c : UpdatedCell) (asked : Settings) → None ≡ in_place k c.change c.instance.held asked
    → false ≡ is_new k c.instance.held → IsMet c k asked
kind_meets Provision c asked e f = record {
  settled = λ k z. row_meets c.instance.held.row c asked refl e z;
  asks = λ k. held_asks c.instance.held.row c.instance.held.work c asked refl refl e f;
}
kind_meets Poll c asked e f = record {
  settled = λ k z. poll_meets c.change.phase c.instance.held e z;
  asks = λ k. cc;
}
kind_meets Deprovision c asked e f = record {
  settled = λ k. ⊎_elim (λ z. cc) (λ z. cc) k;
  asks = λ k. cc;
}

-- a Provision that finds nothing is met by nothing
new_meets : (c : UpdatedCell) (k : Kind) (asked : Settings) → is_available c.instance.held ≡ false
    → IsMet (made_with true c asked) k asked
new_meets c k asked away = record {
  settled = λ i z. absurd (clash (is_available c.instance.held) z away);
  asks = λ i. inl refl;
}

not_both : (x : Bool) → x ≡ true → not x ≡ true → ⊥
not_both true e f = cc
not_both false e f = cc

pub unheld_new : (k : Kind) (held : Held) → true ≡ is_new k held → is_available held ≡ false
unheld_new Provision held e = unheld held (never (is_held held) (λ z. not_both (is_held held) z (sym e)))
unheld_new Poll held e = cc
unheld_new Deprovision held e = cc

arrive_new : (x : Bool) (c : UpdatedCell) (r : Request) (d : Digest) (asked : Settings) → IsUpdated c
    → x ≡ is_new r.kind c.instance.held → None ≡ in_place r.kind c.change c.instance.held asked
    → IsUpdated (handled (made_with x c asked) (mode_of c.instance.catalogue r) r d asked)
arrive_new true c r d asked h i e =
    let away = unheld_new r.kind c.instance.held i in
    handled_kept (is_under_way (made_with true c asked).change.phase)
    (begins (mode_of c.instance.catalogue r) c.instance.held r d) (made_with true c asked) r d asked
    (made_kept c asked away h) (new_meets c r.kind asked away) refl refl
arrive_new false c r d asked h i e =
    handled_kept (is_under_way c.change.phase) (begins (mode_of c.instance.catalogue r) c.instance.held r d) c r d asked h
    (kind_meets r.kind c asked e i) refl refl

arrive_as : (o : Option Answer) (c : UpdatedCell) (r : Request) (d : Digest) (asked : Settings) → IsUpdated c
    → o ≡ in_place r.kind c.change c.instance.held asked → IsUpdated (arrive_by o c r d asked)
arrive_as (Some a) c r d asked h e = put_off_kept c r.kind h
arrive_as None c r d asked h e = arrive_new (is_new r.kind c.instance.held) c r d asked h refl e

pub arrive_kept : (c : UpdatedCell) (r : Request) (d : Digest) (asked : Settings) → IsUpdated c
    → IsUpdated (arrive c r d asked)
arrive_kept c r d asked h = arrive_as (in_place r.kind c.change c.instance.held asked) c r d asked h refl
