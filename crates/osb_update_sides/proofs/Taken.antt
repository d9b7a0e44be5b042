-- The platform takes an answer: what can come about goes on.
use Rattle.std.proofs.Common.{◌≡◌, ℕ, Bool, true, false, arith, refl, sym, subst, inl, inr, ◌⊎◌}
use Rattle.std.specs.Prelude.{Option, Some, None, ◌&&◌, ◌||◌, ◌==◌, not, nat_le, if◌then◌else◌, is_some, slice_get}
use Rattle.std.proofs.lemmas.Bool.Decides.{nat_tests, Decides-eqb}
use Rattle.osb_message.specs.declared.messages.Answer.{Answer}
use Rattle.osb_message.specs.declared.messages.Body.{Body}
use Rattle.osb_message.specs.declared.messages.LastState.{LastState}
use Rattle.osb_network.proofs.CellParts.{all_get}
use Rattle.osb_update.specs.Recorded.{after_answer, after_fetch, after_operation, after_poll, after_update}
use Rattle.osb_update.specs.Recorded.{is_empty, is_malformed, may_be_a_gateways, says_busy, says_rejected}
use Rattle.osb_update.specs.declared.holding.UpdateHolding.{UpdateHolding}
use Rattle.osb_update.specs.declared.settings.Settings.{Settings}
use Rattle.osb_update.specs.declared.state.Aim.{Aim}
use Rattle.osb_update.specs.declared.state.UpdateKind.{UpdateKind}
use Rattle.osb_update.specs.declared.state.UpdateState.{UpdateState}
use Rattle.osb_update_sides.specs.Cell.{UpdatesCell}
use Rattle.osb_update_sides.specs.Life.{is_kept, is_ready}
use Rattle.osb_update_sides.specs.Possible.{HasDone, HasRejected, HeldByState, IsAimed, IsGivenOf}
use Rattle.osb_update_sides.specs.Possible.{IsPolled, IsPossible, IsUpdated, SaidOf}
use Rattle.osb_update_sides.specs.Steps.{is_out, may_be_anothers, may_take_anothers, said_to, take, take_anothers, with_record}
use Rattle.osb_update_sides.specs.declared.given.Said.{Said}
use Rattle.osb_update_sides.specs.declared.given.UpdateGiven.{UpdateGiven}
use Rattle.osb_update_sides.proofs.Platform.{RestsIn, and_left, and_right, kept_if, rests_kept, same_rests}

same : (s : UpdateState) (before : Settings) (number : ℕ) (held : UpdateHolding) (ready : Bool)
    → HeldByState s before number held ready → RestsIn s before number held ready (before, s)
same s before number held ready h = record { holds = h; named = λ n names q. q }

done : (s : UpdateState) (before : Settings) (number : ℕ) (held : UpdateHolding) (ready : Bool) (to : Settings)
    → HasDone number held to → RestsIn s before number held ready (to, UpdateState.Settled)
done s before number held ready to h = record { holds = h; named = λ n names q. tt }

picks : (P : Settings × UpdateState → Type 0) (x : Bool) (a b : Settings × UpdateState) → (x ≡ true → P a)
    → (x ≡ false → P b) → P (if x then a else b)
picks P true a b f g = f refl
picks P false a b f g = g refl

equal : (a b : ℕ) → (a == b) ≡ true → a ≡ b
equal a b e = (Decides-eqb a b).0 e

-- ---- an answer to an Update

-- no Update to other settings may have been done: the settings of before hold
before_holds : (before : Settings) (number : ℕ) (held : UpdateHolding) (to : Settings) → HasRejected number held to
    → (held.settings ≡ before) ⊎ (held.settings ≡ to) → HasDone number held before
before_holds before number held to r (inl e) = record { judged = r.judged; settled = r.settled; settings = e }
before_holds before number held to r (inr e) = absurd (r.other e)

rejected : (m : Bool) (aim : Aim) (before : Settings) (number : ℕ) (held : UpdateHolding) (ready : Bool) → m ≡ aim.mixed
    → IsAimed before number held ready aim → HasRejected number held aim.to
    → RestsIn (UpdateState.Updating aim) before number held ready
    (if m then (before, UpdateState.Unsure aim) else (before, UpdateState.Settled))
rejected true aim before number held ready e h r = record { holds = h; named = λ n names q. q }
rejected false aim before number held ready e h r =
    done (UpdateState.Updating aim) before number held ready before
    (before_holds before number held aim.to r (h.one (sym e)).row)

update_answered : (aim : Aim) (before : Settings) (number : ℕ) (held : UpdateHolding) (ready : Bool) (answer : Answer)
    → IsAimed before number held ready aim → IsUpdated number held aim.to answer
    → RestsIn (UpdateState.Updating aim) before number held ready (after_update before aim answer)
update_answered aim before number held ready answer h u =
    let P = RestsIn (UpdateState.Updating aim) before number held ready in
    picks P (answer.status == 200 && is_empty answer.body) _ _
    (λ x. done (UpdateState.Updating aim) before number held ready aim.to
    (u.done (equal answer.status 200 (and_left (answer.status == 200) _ x)) (and_right (answer.status == 200) _ x)))
    (λ no. picks P (answer.status == 202 && is_empty answer.body) _ _
    (λ x. record {
      holds = (
        h,
        u.accepted (equal answer.status 202 (and_left (answer.status == 202) _ x))
            (and_right (answer.status == 202) _ x),
      );
      named = λ n names q. q;
    })
    (λ not_202. picks P (says_busy answer) _ _
    (λ x. same (UpdateState.Updating aim) before number held ready h)
    (λ not_busy. picks P (says_rejected answer) _ _
    (λ x. rejected aim.mixed aim before number held ready refl h (u.rejected not_busy x))
    (λ other. same (UpdateState.Updating aim) before number held ready h))))

-- ---- an answer to a Poll

operation : (body : Body) (aim : Aim) (before : Settings) (number : ℕ) (held : UpdateHolding) (ready : Bool)
    → HeldByState (UpdateState.Polling aim) before number held ready
    → (body ≡ Body.State LastState.Succeeded → HasDone number held aim.to)
    → RestsIn (UpdateState.Polling aim) before number held ready (after_operation before aim body)
operation (Body.State LastState.Succeeded) aim before number held ready h u =
    done (UpdateState.Polling aim) before number held ready aim.to (u refl)
operation (Body.State LastState.Failed) aim before number held ready h u =
    record { holds = h.0; named = λ n names q. q }
operation body aim before number held ready h u = same (UpdateState.Polling aim) before number held ready h

poll_answered : (aim : Aim) (before : Settings) (number : ℕ) (held : UpdateHolding) (ready : Bool) (answer : Answer)
    → HeldByState (UpdateState.Polling aim) before number held ready → IsPolled number held aim.to answer
    → RestsIn (UpdateState.Polling aim) before number held ready (after_poll before aim answer)
poll_answered aim before number held ready answer h u =
    picks (RestsIn (UpdateState.Polling aim) before number held ready) (answer.status == 200) _ _
    (λ x. operation answer.body aim before number held ready h (u (equal answer.status 200 x)))
    (λ no. same (UpdateState.Polling aim) before number held ready h)

answered : (s : UpdateState) (out : Option UpdateKind) (before : Settings) (number : ℕ) (held : UpdateHolding)
    (ready : Bool) (answer : Answer) → HeldByState s before number held ready
    → SaidOf out s number held (Said.Answer answer)
    → RestsIn s before number held ready (after_answer s out before answer)
answered (UpdateState.Updating aim) (Some UpdateKind.Update) before number held ready answer h u =
    update_answered aim before number held ready answer h u
answered (UpdateState.Polling aim) (Some UpdateKind.Poll) before number held ready answer h u =
    poll_answered aim before number held ready answer h u
answered s out before number held ready answer h u = same s before number held ready h

-- ---- an answer to what is out

found : (s : UpdateState) (before : Settings) (number : ℕ) (held : UpdateHolding) (ready : Bool) (settings : Settings)
    (n : ℕ) → HeldByState s before number held ready → (n ≡ number → HasDone number held settings)
    → RestsIn s before number held ready (if n == number then (settings, UpdateState.Settled) else (before, s))
found s before number held ready settings n h u =
    picks (RestsIn s before number held ready) (n == number) _ _
    (λ x. done s before number held ready settings (u (equal n number x))) (λ no. same s before number held ready h)

said_kept : (out : Option UpdateKind) (c : UpdatesCell) (said : Said) → c.recorded.out ≡ out → IsPossible c
    → (is_kept c.life ≡ true → SaidOf out c.recorded.state c.recorded.number c.held said)
    → IsPossible (with_record c (said_to out c.recorded said))
said_kept None c said e h u = h
said_kept (Some UpdateKind.Fetch) c (Said.Found settings n) e h u =
    rests_kept c (after_fetch (Some (settings, n)) c.recorded) h
    (λ k. (let f = found c.recorded.state c.recorded.settings c.recorded.number c.held (is_ready c.life) settings n
    (h.recorded k) (u k) in record { holds = f.holds; named = f.named }))
said_kept (Some UpdateKind.Fetch) c (Said.Answer answer) e h u =
    rests_kept c (c.recorded.settings, c.recorded.state) h
    (λ k. same_rests c.recorded c.held (is_ready c.life) (h.recorded k))
said_kept (Some UpdateKind.Update) c (Said.Answer answer) e h u =
    rests_kept c (after_answer c.recorded.state c.recorded.out c.recorded.settings answer) h
    (λ k. (let f = answered c.recorded.state c.recorded.out c.recorded.settings c.recorded.number c.held (is_ready c.life)
    answer (h.recorded k)
    (subst (λ (out : Option UpdateKind). SaidOf out c.recorded.state c.recorded.number c.held (Said.Answer answer)) (sym e)
    (u k)) in record { holds = f.holds; named = f.named }))
said_kept (Some UpdateKind.Poll) c (Said.Answer answer) e h u =
    rests_kept c (after_answer c.recorded.state c.recorded.out c.recorded.settings answer) h
    (λ k. (let f = answered c.recorded.state c.recorded.out c.recorded.settings c.recorded.number c.held (is_ready c.life)
    answer (h.recorded k)
    (subst (λ (out : Option UpdateKind). SaidOf out c.recorded.state c.recorded.number c.held (Said.Answer answer)) (sym e)
    (u k)) in record { holds = f.holds; named = f.named }))
said_kept (Some UpdateKind.Update) c (Said.Found settings n) e h u =
    rests_kept c (c.recorded.settings, c.recorded.state) h
    (λ k. same_rests c.recorded c.held (is_ready c.life) (h.recorded k))
said_kept (Some UpdateKind.Poll) c (Said.Found settings n) e h u =
    rests_kept c (c.recorded.settings, c.recorded.state) h
    (λ k. same_rests c.recorded c.held (is_ready c.life) (h.recorded k))

-- one that was given
given_kept : (c : UpdatesCell) (g : UpdateGiven) → IsPossible c → IsGivenOf (is_kept c.life) c.recorded c.held g
    → IsPossible (take c (Some g))
given_kept c g h q =
    kept_if (is_out c.recorded g.attempt) (with_record c (said_to c.recorded.out c.recorded g.said)) c
    (λ out. said_kept c.recorded.out c g.said refl h
    (λ k. q.said k (equal g.attempt c.recorded.attempt (and_right (is_some c.recorded.out) _ out)))) h

take_by : (c : UpdatesCell) (at : ℕ) (o : Option UpdateGiven) → slice_get c.given at ≡ o → IsPossible c
    → IsPossible (take c o)
take_by c at None e h = h
take_by c at (Some g) e h =
    given_kept c g h (all_get (IsGivenOf (is_kept c.life) c.recorded c.held) c.given at g h.all_given e)

pub take_kept : (c : UpdatesCell) (at : ℕ) → IsPossible c → IsPossible (take c (slice_get c.given at))
take_kept c at h = take_by c at (slice_get c.given at) refl h

-- ---- one that may be another's says nothing

no : false ≡ true → ⊥
no e = cc

empty_reads : (b : Body) → is_empty b ≡ true → is_malformed b ≡ false
empty_reads Body.Empty e = refl
empty_reads b e = cc

at_200 : (b : Body) → (is_malformed b || (nat_le 500 200 || may_be_a_gateways 200)) ≡ true → is_empty b ≡ true → ⊥
at_200 Body.Empty e f = cc
at_200 b e f = cc

at_202 : (b : Body) → (is_malformed b || (nat_le 500 202 || may_be_a_gateways 202)) ≡ true → is_empty b ≡ true → ⊥
at_202 Body.Empty e f = cc
at_202 b e f = cc

succeeded : (b : Body) → (is_malformed b || (nat_le 500 200 || may_be_a_gateways 200)) ≡ true
    → b ≡ Body.State LastState.Succeeded → ⊥
succeeded (Body.State s) e f = cc
succeeded b e f = cc

too_great : (n : ℕ) → nat_le 500 n ≡ true → nat_le n 499 ≡ true → ⊥
too_great n e f = grind (arith, nat_tests)

not_both : (x y z a b : Bool) → (x || (y || z)) ≡ true → (a && (b && (not x && not z))) ≡ true
    → (y ≡ true → b ≡ true → ⊥) → ⊥
not_both true y z true true e f g = cc
not_both true y z true false e f g = cc
not_both true y z false b e f g = cc
not_both false true z true true e f g = g refl refl
not_both false true z true false e f g = cc
not_both false true z false b e f g = cc
not_both false false true true true e f g = cc
not_both false false true true false e f g = cc
not_both false false true false b e f g = cc
not_both false false false a b e f g = cc

anothers : (number : ℕ) (held : UpdateHolding) (to : Settings) (answer : Answer) → may_be_anothers answer ≡ true
    → IsUpdated number held to answer
anothers number held to answer e = record {
  done = λ s f. absurd (at_200 answer.body
      (subst (λ (n : ℕ). (is_malformed answer.body || (nat_le 500 n || may_be_a_gateways n)) ≡ true) s e) f);
  accepted = λ s f. absurd (at_202 answer.body
      (subst (λ (n : ℕ). (is_malformed answer.body || (nat_le 500 n || may_be_a_gateways n)) ≡ true) s e) f);
  rejected = λ b r. absurd (not_both (is_malformed answer.body) (nat_le 500 answer.status)
      (may_be_a_gateways answer.status) (nat_le 400 answer.status) (nat_le answer.status 499) e r
      (too_great answer.status));
}

says_nothing : (out : Option UpdateKind) (s : UpdateState) (number : ℕ) (held : UpdateHolding) (answer : Answer)
    → may_be_anothers answer ≡ true → SaidOf out s number held (Said.Answer answer)
says_nothing (Some UpdateKind.Update) (UpdateState.Updating aim) number held answer e =
    anothers number held aim.to answer e
says_nothing (Some UpdateKind.Poll) (UpdateState.Polling aim) number held answer e =
    λ s f. absurd (succeeded answer.body
    (subst (λ (n : ℕ). (is_malformed answer.body || (nat_le 500 n || may_be_a_gateways n)) ≡ true) s e) f)
says_nothing out s number held answer e = tt

pub take_anothers_kept : (c : UpdatesCell) (answer : Answer) → IsPossible c → IsPossible (take_anothers c answer)
take_anothers_kept c answer h =
    kept_if (may_take_anothers c answer) (with_record c (said_to c.recorded.out c.recorded (Said.Answer answer))) c
    (λ may. said_kept c.recorded.out c (Said.Answer answer) refl h
    (λ k. says_nothing c.recorded.out c.recorded.state c.recorded.number c.held answer
    (and_left (may_be_anothers answer) _ may))) h
