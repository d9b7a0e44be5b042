-- What a request of the instance leaves, and what its answer reports, by the calls of `osb_update`.
use Rattle.std.proofs.Common.{◌≡◌, Bool, true, false, refl, sym, subst}
use Rattle.std.specs.Prelude.{Option, Some, None, IfSome, ◌&&◌, not, if◌then◌else◌, ⊤}
use Rattle.osb_message.specs.declared.messages.Answer.{Answer}
use Rattle.osb_message.specs.declared.messages.ErrorCode.TheVariants.{Other}
use Rattle.osb_message.specs.declared.messages.Kind.{Kind}
use Rattle.osb_message.specs.declared.messages.Kind.TheVariants.{Provision, Poll, Deprovision}
use Rattle.osb_message.specs.declared.messages.LastState.{LastState}
use Rattle.osb_message.specs.declared.messages.Request.{Request}
use Rattle.osb_broker.specs.Answers.{error, last_operation, mode_of}
use Rattle.osb_broker.specs.declared.row.BrokerRow.{BrokerRow}
use Rattle.osb_instance.specs.Begin.{begins, begun, begun_if, busy, conflict}
use Rattle.osb_instance.specs.Held.{Held}
use Rattle.osb_instance.specs.declared.digest.Digest.{Digest}
use Rattle.osb_instance.specs.declared.work.Begun.{Begun}
use Rattle.osb_network.specs.AnyPlatform as network
use Rattle.osb_network.specs.AnyPlatform.{AnyCell, any_step, believed}
use Rattle.osb_network.specs.declared.any_platform.BrokerEvent.{BrokerEvent}
use Rattle.osb_network.specs.declared.any_platform.Told.{Told}
use Rattle.osb_update.specs.Begun.{is_available, is_under_way, may_begin}
use Rattle.osb_update.specs.Settings.{is_same_settings}
use Rattle.osb_update.specs.declared.holding.UpdateHolding.{UpdateHolding}
use Rattle.osb_update.specs.declared.phase.UpdatePhase.{UpdatePhase}
use Rattle.osb_update.specs.declared.settings.Settings.{Settings}
use Rattle.osb_update_network.specs.AnyPlatform.{UpdatedCell, arrive_by, asked_by, handled, in_place, is_new, made_with}
use Rattle.osb_update_network.specs.AnyPlatform.{poll_in_place, provision_by, provision_in_place}
use Rattle.osb_update_network.specs.Promises.{AnswersInPlace, KeepsRuleD}
use Rattle.osb_update_network.specs.Reported.{by_answer, heard}
use Rattle.osb_update_network.specs.declared.event.UpdateEvent.{UpdateEvent}
use Rattle.osb_update_network.specs.declared.reported.Reported.{Reported}
use Rattle.osb_update_network.proofs.Available.{clash}
use Rattle.osb_update_network.proofs.Kept.{unheld_new}

some_none : {A : Type 0} (x : A) → Some x ≡ None → ⊥
some_none x e = cc

-- ---- rule d

abbrev left : Held × Begun → Held
left g = g.0

let_in_is : (u y : Bool) (i : AnyCell) (r : Request) (d : Digest)
    → (any_step i (if u && y then BrokerEvent.PutOff r.kind else BrokerEvent.Arrive r d)).held
    ≡ left (if not (not u) && y
    then (i.held, Begun.Answered (busy r.kind))
    else begun (mode_of i.catalogue r) i.first_poll i.held r d)
let_in_is true true i r d = refl
let_in_is true false i r d = refl
let_in_is false y i r d = refl

-- what is held, by whether a Provision finds nothing: then no update is under way before it, either
made_is : (x : Bool) (c : UpdatedCell) (r : Request) (d : Digest) (asked : Settings)
    → (x ≡ true → is_under_way c.change.phase ≡ false)
    → (handled (made_with x c asked) (mode_of c.instance.catalogue r) r d asked).instance.held
    ≡ (begun_if (may_begin false c.change.phase) (mode_of c.instance.catalogue r) c.instance.first_poll c.instance.held r d).0
made_is false c r d asked idle =
    let_in_is (is_under_way c.change.phase) (begins (mode_of c.instance.catalogue r) c.instance.held r d) c.instance r d
made_is true c r d asked idle =
    subst
    (λ (u : Bool). (begun (mode_of c.instance.catalogue r) c.instance.first_poll c.instance.held r d).0
    ≡ left (if not (not u) && begins (mode_of c.instance.catalogue r) c.instance.held r d
    then (c.instance.held, Begun.Answered (busy r.kind))
    else begun (mode_of c.instance.catalogue r) c.instance.first_poll c.instance.held r d))
    (sym (idle refl)) refl

never : (x : Bool) → (x ≡ true → ⊥) → x ≡ false
never true n = absurd (n refl)
never false n = refl

rule_d_by : (o : Option Answer) (c : UpdatedCell) (r : Request) (d : Digest) (asked : Settings)
    → (is_under_way c.change.phase ≡ true → is_available c.instance.held ≡ true) → o ≡ None
    → (arrive_by o c r d asked).instance.held
    ≡ (begun_if (may_begin false c.change.phase) (mode_of c.instance.catalogue r) c.instance.first_poll c.instance.held r d).0
rule_d_by (Some a) c r d asked there e = absurd (some_none a e)
rule_d_by None c r d asked there e =
    made_is (is_new r.kind c.instance.held) c r d asked
    (λ new. never (is_under_way c.change.phase)
    (λ u. clash (is_available c.instance.held) (there u) (unheld_new r.kind c.instance.held (sym new))))

pub rule_d : (c : UpdatedCell) (e : UpdateEvent)
    → (is_under_way c.change.phase ≡ true → is_available c.instance.held ≡ true) → KeepsRuleD c e
rule_d c (UpdateEvent.Arrive r d parameters version) there = λ e.
    rule_d_by (in_place r.kind c.change c.instance.held (asked_by r parameters version)) c r d
    (asked_by r parameters version) there e
rule_d c (UpdateEvent.PutOff k) there = tt
rule_d c (UpdateEvent.End oc) there = tt
rule_d c (UpdateEvent.Finish ok) there = tt
rule_d c UpdateEvent.GiveUpWaiting there = tt
rule_d c (UpdateEvent.Work t r) there = tt
rule_d c UpdateEvent.Crash there = tt
rule_d c (UpdateEvent.Update allowed asked) there = tt
rule_d c (UpdateEvent.UpdateEnd mode oc) there = tt
rule_d c (UpdateEvent.UpdateFinish ok) there = tt
rule_d c (UpdateEvent.UpdateWork r) there = tt
rule_d c UpdateEvent.Fetch there = tt

-- ---- answers in the place of the instance's table

-- what an answer reports is nothing, as if the request were put off
record IsQuiet (k : Kind) (a : Answer) : Type 0 where
  pub told : (told : Told) → believed k (busy k) told ≡ believed k a told
  pub reported : (leaving : Bool) (asked : Settings) (r : Reported) → r ≡ by_answer k leaving a asked r

some_same : {A : Type 0} (x y : A) → Some x ≡ Some y → x ≡ y
some_same x y e = cc

quiet_busy : (a : Answer) → Some a ≡ Some (busy Provision) → IsQuiet Provision a
quiet_busy a e =
    subst (IsQuiet Provision) (some_same (busy Provision) a (sym e))
    (record { told = λ told. refl; reported = λ leaving asked r. refl })

quiet_conflict : IsQuiet Provision conflict
quiet_conflict = record { told = λ told. refl; reported = λ leaving asked r. refl }

quiet_provision : (p : UpdatePhase) (a : Answer) → Some a ≡ provision_by p → IsQuiet Provision a
quiet_provision UpdatePhase.Settled a e = absurd (some_none a e)
quiet_provision UpdatePhase.Failed a e =
    subst (IsQuiet Provision) (some_same (error 500 Other) a (sym e))
    (record { told = λ told. refl; reported = λ leaving asked r. refl })
quiet_provision (UpdatePhase.Pending to) a e = quiet_busy a e
quiet_provision (UpdatePhase.Updating to) a e = quiet_busy a e
quiet_provision (UpdatePhase.Mending to) a e = quiet_busy a e

quiet_in_row : (x y : Bool) (p : UpdatePhase) (a : Answer)
    → Some a ≡ (if not x then Some conflict else if y then provision_by p else None) → IsQuiet Provision a
quiet_in_row false y p a e = subst (IsQuiet Provision) (some_same conflict a (sym e)) quiet_conflict
quiet_in_row true true p a e = quiet_provision p a e
quiet_in_row true false p a e = absurd (some_none a e)

quiet_row : (b : Option BrokerRow) (ch : UpdateHolding) (held : Held) (asked : Settings) (a : Answer)
    → Some a ≡ provision_in_place b ch held asked → IsQuiet Provision a
quiet_row None ch held asked a e = absurd (some_none a e)
quiet_row (Some b) ch held asked a e =
    quiet_in_row (is_same_settings ch.settings asked) (is_available held) ch.phase a e

-- a Poll of an operation that runs or has failed
abbrev not_succeeded : LastState → Type 0
not_succeeded LastState.Succeeded = ⊥
not_succeeded l = ⊤

quiet_told : (x : Bool) (l : LastState) (told : Told) → not_succeeded l
    → network.believed_poll x (busy Poll) told ≡ network.believed_poll x (last_operation l) told
quiet_told true l told n = refl
quiet_told false LastState.InProgress told n = refl
quiet_told false LastState.Failed told n = refl
quiet_told false LastState.Succeeded told n = absurd n

quiet_reported : (x : Bool) (l : LastState) (asked : Settings) (r : Reported) → not_succeeded l
    → r ≡ by_answer Poll x (last_operation l) asked r
quiet_reported true l asked r n = refl
quiet_reported false LastState.InProgress asked r n = refl
quiet_reported false LastState.Failed asked r n = refl
quiet_reported false LastState.Succeeded asked r n = absurd n

quiet_state : (l : LastState) → not_succeeded l → IsQuiet Poll (last_operation l)
quiet_state l n = record {
  told = λ told. quiet_told told.leaving l told n;
  reported = λ leaving asked r. quiet_reported leaving l asked r n;
}

quiet_poll_if : (x : Bool) (l : LastState) (a : Answer) → not_succeeded l
    → Some a ≡ (if x then Some (last_operation l) else None) → IsQuiet Poll a
quiet_poll_if true l a n e = subst (IsQuiet Poll) (some_same (last_operation l) a (sym e)) (quiet_state l n)
quiet_poll_if false l a n e = absurd (some_none a e)

quiet_poll : (p : UpdatePhase) (held : Held) (a : Answer) → Some a ≡ poll_in_place p held → IsQuiet Poll a
quiet_poll UpdatePhase.Settled held a e = absurd (some_none a e)
quiet_poll UpdatePhase.Failed held a e = quiet_poll_if (is_available held) LastState.Failed a tt e
quiet_poll (UpdatePhase.Pending to) held a e = quiet_poll_if (is_available held) LastState.InProgress a tt e
quiet_poll (UpdatePhase.Updating to) held a e = quiet_poll_if (is_available held) LastState.InProgress a tt e
quiet_poll (UpdatePhase.Mending to) held a e = quiet_poll_if (is_available held) LastState.InProgress a tt e

quiet : (k : Kind) (ch : UpdateHolding) (held : Held) (asked : Settings) (a : Answer) → Some a ≡ in_place k ch held asked
    → IsQuiet k a
quiet Provision ch held asked a e = quiet_row held.row ch held asked a e
quiet Poll ch held asked a e = quiet_poll ch.phase held a e
quiet Deprovision ch held asked a e = absurd (some_none a e)

in_place_by : (o : Option Answer) (c : UpdatedCell) (r : Request) (d : Digest) (asked : Settings)
    → o ≡ in_place r.kind c.change c.instance.held asked
    → IfSome o (λ answer. ((arrive_by o c r d asked).instance.told
    ≡ believed r.kind answer (network.heard r.kind c.instance.told))
    × ((arrive_by o c r d asked).reported
    ≡ by_answer r.kind c.instance.told.leaving answer asked (heard r.kind c.reported)))
in_place_by None c r d asked e = tt
in_place_by (Some a) c r d asked e =
    let q = quiet r.kind c.change c.instance.held asked a e in
    (q.told (network.heard r.kind c.instance.told), q.reported c.instance.told.leaving asked (heard r.kind c.reported))

pub answers_in_place : (c : UpdatedCell) (e : UpdateEvent) → AnswersInPlace c e
answers_in_place c (UpdateEvent.Arrive r d parameters version) =
    in_place_by (in_place r.kind c.change c.instance.held (asked_by r parameters version)) c r d
    (asked_by r parameters version) refl
answers_in_place c (UpdateEvent.PutOff k) = tt
answers_in_place c (UpdateEvent.End oc) = tt
answers_in_place c (UpdateEvent.Finish ok) = tt
answers_in_place c UpdateEvent.GiveUpWaiting = tt
answers_in_place c (UpdateEvent.Work t r) = tt
answers_in_place c UpdateEvent.Crash = tt
answers_in_place c (UpdateEvent.Update allowed asked) = tt
answers_in_place c (UpdateEvent.UpdateEnd mode oc) = tt
answers_in_place c (UpdateEvent.UpdateFinish ok) = tt
answers_in_place c (UpdateEvent.UpdateWork r) = tt
answers_in_place c UpdateEvent.Fetch = tt
