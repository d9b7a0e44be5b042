-- The platform sends, takes answers and stops: what can come about goes on.
use Rattle.std.proofs.Common.{◌≡◌, ◌≤◌, ◌+◌, ℕ, Bool, true, false, arith, refl, sym, subst, ap, inl}
use Rattle.std.specs.Prelude.{◌&&◌, ◌||◌, not, nat_le, if◌then◌else◌, is_none, is_some, ◌++◌, ◌∷◌, []}
use Rattle.std.proofs.lemmas.Bool.Decides.{nat_tests}
use Rattle.osb_update.specs.Begun.{is_available}
use Rattle.osb_update.specs.Recorded as platform
use Rattle.osb_update.specs.Recorded.{after_answer, after_fetch, after_operation, after_poll, after_rejection, after_update}
use Rattle.osb_update.specs.Recorded.{aimed, aimed_from, is_empty, is_malformed, is_polling, may_be_a_gateways, may_fetch, may_send}
use Rattle.osb_update.specs.Recorded.{says_busy, says_rejected, sent_by, stopped_state}
use Rattle.osb_update.specs.Settings.{is_same_settings, named_parts}
use Rattle.osb_update.specs.declared.holding.UpdateHolding.{UpdateHolding}
use Rattle.osb_update.specs.declared.phase.UpdatePhase.{UpdatePhase}
use Rattle.osb_update.specs.declared.record.UpdateRecord.{UpdateRecord}
use Rattle.osb_update.specs.declared.settings.Change.{Change}
use Rattle.osb_update.specs.declared.settings.Settings.{Settings}
use Rattle.osb_update.specs.declared.state.Aim.{Aim}
use Rattle.osb_update.specs.declared.state.UpdateKind.{UpdateKind}
use Rattle.osb_update.specs.declared.state.UpdateState.{UpdateState}
use Rattle.osb_update.proofs.Same.{same_settings}
use Rattle.osb_update_sides.specs.Cell.{UpdatesCell}
use Rattle.osb_update_sides.specs.Life.{is_kept, is_life, is_ready}
use Rattle.osb_update_sides.specs.Possible.{GoesTo, HeldByState, IsAimed}
use Rattle.osb_update_sides.specs.Possible.{IsNamed, IsNamedFor, IsOne, IsPossible}
use Rattle.osb_update_sides.specs.Steps.{fetch, may_ask, send, sends, stop}
use Rattle.osb_update_sides.specs.Steps.{timeout, update, with_record, with_sent}
use Rattle.osb_update_sides.specs.declared.asked.Asked.{Asked}
use Rattle.osb_update_sides.proofs.Later.{Asks, Rests, asking, asks_at, rests_at}

pub kept_if : (x : Bool) (a b : UpdatesCell) → (x ≡ true → IsPossible a) → IsPossible b → IsPossible (if x then a else b)
kept_if true a b on h = on refl
kept_if false a b on h = h

pub and_left : (x y : Bool) → (x && y) ≡ true → x ≡ true
and_left true y e = refl
and_left false y e = cc

pub and_right : (x y : Bool) → (x && y) ≡ true → y ≡ true
and_right true y e = e
and_right false y e = cc

or_left : (x y : Bool) → (x || y) ≡ false → x ≡ false
or_left true y e = cc
or_left false y e = refl

or_right : (x y : Bool) → (x || y) ≡ false → y ≡ false
or_right true y e = cc
or_right false y e = e

not_true : (x : Bool) → not x ≡ true → x ≡ false
not_true true e = cc
not_true false e = refl

not_false : (x : Bool) → not x ≡ false → x ≡ true
not_false true e = refl
not_false false e = cc

one_more : (n : ℕ) → nat_le 1 (n + 1) ≡ true
one_more n = grind (arith, nat_tests)

-- ---- an Update is sent

-- nothing is under way in a settled row
pub rests_to : (p : UpdatePhase) (to : Settings) → p ≡ UpdatePhase.Settled → GoesTo p to
rests_to UpdatePhase.Settled to e = tt
rests_to p to e = cc

-- what an Update to this aim needs
record Aims (counts ready : Bool) (r : UpdateRecord) (held : UpdateHolding) (aim : Aim) : Type 0 where
  pub holds : counts ≡ true → IsAimed r.settings (r.attempt + 1) held ready aim
  pub named : counts ≡ true → (attempt : ℕ) (names : Change) → attempt ≤ r.number
      → IsNamed r.state r.settings r.number held.number attempt names
      → IsNamedFor aim r.settings (r.attempt + 1) held.number attempt names

asked_for : (aim : Aim) (before : Settings) (number kept : ℕ)
    → IsNamedFor aim before number kept number (named_parts before aim.to aim.mixed)
asked_for aim before number kept =
    record { one = λ m l. ap (λ (all : Bool). named_parts before aim.to all) m; latest = λ e. refl }

update_asks : (c : UpdatesCell) (aim : Aim) → IsPossible c
    → Aims (is_kept c.life) (is_ready c.life) c.recorded c.held aim
    → IsPossible (with_sent c (
      platform.updates c.recorded aim (c.recorded.attempt + 1),
      platform.update_of c.recorded.settings aim (c.recorded.attempt + 1),
    ))
update_asks c aim h a =
    let l : c.recorded.number ≤ c.recorded.attempt = h.numbers.latest in
    asks_at (is_kept c.life) (is_ready c.life) (is_available c.life.holding) (is_life c.service c.life) c.recorded c.held
    c.worker c.settings c.sent c.given (c.recorded.attempt + 1) (UpdateState.Updating aim) UpdateKind.Update
    (Asked.Update (named_parts c.recorded.settings aim.to aim.mixed)) h
    (record {
      can = one_more c.recorded.attempt;
      more = omega arith;
      less = omega arith;
      update = refl;
      holds = a.holds;
      named = a.named;
      kind_is = refl;
      asks = (omega arith, λ on. asked_for aim c.recorded.settings (c.recorded.attempt + 1) c.held.number);
    })

-- from a settled record
aims_first : (s : UpdateState) (before : Settings) (number attempt : ℕ) (held : UpdateHolding) (ready : Bool)
    (to : Settings) → s ≡ UpdateState.Settled → ready ≡ true → number ≤ attempt
    → HeldByState s before number held ready
    → IsAimed before (attempt + 1) held ready (record { to = to; mixed = false })
aims_first UpdateState.Settled before number attempt held ready to e on l h =
    let k : held.number ≡ number = h.judged in
    record {
      is_ready = on;
      one = λ m. record { row = inl h.settings; goal = rests_to held.phase to h.settled };
      judged = λ same. absurd (omega arith);
    }
aims_first s before number attempt held ready to e on l h = cc

named_first : (s : UpdateState) (before : Settings) (number attempt : ℕ) (held : UpdateHolding) (ready : Bool)
    (to : Settings) (n : ℕ) (names : Change) → s ≡ UpdateState.Settled → number ≤ attempt
    → HeldByState s before number held ready → n ≤ number
    → IsNamedFor (record { to = to; mixed = false }) before (attempt + 1) held.number n names
named_first UpdateState.Settled before number attempt held ready to n names e l h m =
    let k : held.number ≡ number = h.judged in
    record { one = λ x y. absurd (omega arith); latest = λ same. absurd (omega arith) }
named_first s before number attempt held ready to n names e l h m = cc

-- from one that isn't: the same settings again, or others
same_aim : (aim : Aim) (to : Settings) → (aim.mixed || not (is_same_settings aim.to to)) ≡ false → aim.to ≡ to
same_aim aim to e =
    (same_settings aim.to to).0 (not_false (is_same_settings aim.to to) (or_right aim.mixed _ e))

aims_next : (aim : Aim) (before : Settings) (number attempt : ℕ) (held : UpdateHolding) (ready : Bool) (to : Settings)
    → held.number ≤ number → number ≤ attempt → IsAimed before number held ready aim
    → IsAimed before (attempt + 1) held ready (aimed_from aim to)
aims_next aim before number attempt held ready to k l h = record {
  is_ready = h.is_ready;
  one = λ m. subst (λ (x : Settings). IsOne before held x) (same_aim aim to m) (h.one (or_left aim.mixed _ m));
  judged = λ same. absurd (omega arith);
}

named_next : (aim : Aim) (before : Settings) (number attempt kept : ℕ) (to : Settings) (n : ℕ) (names : Change)
    → number ≤ attempt → n ≤ number → IsNamedFor aim before number kept n names
    → IsNamedFor (aimed_from aim to) before (attempt + 1) kept n names
named_next aim before number attempt kept to n names l m h = record {
  one = λ x y. subst (λ (z : Settings). names ≡ named_parts before z false) (same_aim aim to x)
      (h.one (or_left aim.mixed _ x) y);
  latest = λ same. absurd (omega arith);
}

-- the same aim again
aims_again : (aim : Aim) (before : Settings) (number attempt : ℕ) (held : UpdateHolding) (ready : Bool)
    → held.number ≤ number → number ≤ attempt → IsAimed before number held ready aim
    → IsAimed before (attempt + 1) held ready aim
aims_again aim before number attempt held ready k l h =
    record { is_ready = h.is_ready; one = h.one; judged = λ same. absurd (omega arith) }

named_again : (aim : Aim) (before : Settings) (number attempt kept n : ℕ) (names : Change)
    → number ≤ attempt → n ≤ number → IsNamedFor aim before number kept n names
    → IsNamedFor aim before (attempt + 1) kept n names
named_again aim before number attempt kept n names l m h =
    record { one = h.one; latest = λ same. absurd (omega arith) }

aims_to : (s : UpdateState) (before : Settings) (number attempt : ℕ) (held : UpdateHolding) (ready : Bool) (to : Settings)
    → is_polling s ≡ false → ready ≡ true → held.number ≤ number → number ≤ attempt
    → HeldByState s before number held ready → IsAimed before (attempt + 1) held ready (aimed s to)
aims_to UpdateState.Settled before number attempt held ready to e on k l h =
    aims_first UpdateState.Settled before number attempt held ready to refl on l h
aims_to (UpdateState.Updating aim) before number attempt held ready to e on k l h =
    aims_next aim before number attempt held ready to k l h
aims_to (UpdateState.Unsure aim) before number attempt held ready to e on k l h =
    aims_next aim before number attempt held ready to k l h
aims_to (UpdateState.Polling aim) before number attempt held ready to e on k l h = cc

named_to : (s : UpdateState) (before : Settings) (number attempt : ℕ) (held : UpdateHolding) (ready : Bool) (to : Settings)
    (n : ℕ) (names : Change) → is_polling s ≡ false → number ≤ attempt → HeldByState s before number held ready
    → n ≤ number → IsNamed s before number held.number n names
    → IsNamedFor (aimed s to) before (attempt + 1) held.number n names
named_to UpdateState.Settled before number attempt held ready to n names e l h m q =
    named_first UpdateState.Settled before number attempt held ready to n names refl l h m
named_to (UpdateState.Updating aim) before number attempt held ready to n names e l h m q =
    named_next aim before number attempt held.number to n names l m q
named_to (UpdateState.Unsure aim) before number attempt held ready to n names e l h m q =
    named_next aim before number attempt held.number to n names l m q
named_to (UpdateState.Polling aim) before number attempt held ready to n names e l h m q = cc

pub update_kept : (c : UpdatesCell) (to : Settings) → IsPossible c → IsPossible (update c to)
update_kept c to h =
    kept_if (may_ask c (not (is_polling c.recorded.state))) (with_sent c (platform.updated c.recorded to)) c
    (λ may. (let asks = and_right (is_none c.recorded.out) _ may in
    let on = and_left (is_ready c.life) _ asks in
    let free = not_true (is_polling c.recorded.state)
    (and_left (not (is_polling c.recorded.state)) _ (and_right (is_ready c.life) _ asks)) in
    update_asks c (aimed c.recorded.state to) h (record {
      holds = λ k. aims_to c.recorded.state c.recorded.settings c.recorded.number c.recorded.attempt c.held
          (is_ready c.life) to free on h.numbers.judged h.numbers.latest (h.recorded k);
      named = λ k n names m q. named_to c.recorded.state c.recorded.settings c.recorded.number c.recorded.attempt c.held
          (is_ready c.life) to n names free h.numbers.latest (h.recorded k) m q;
    }))) h

-- ---- what is due is sent

-- a request that isn't an Update: the number and the state stay
other_asks : (c : UpdatesCell) (kind : UpdateKind) (asked : Asked) → IsPossible c
    → Asks (is_kept c.life) (is_ready c.life) c.recorded c.held c.recorded.number c.recorded.state kind asked
    → IsPossible (record c { recorded = asking c.recorded c.recorded.number c.recorded.state kind; sent = c.sent ++ record { attempt = c.recorded.attempt + 1; asked = asked } ∷ [] })
other_asks c kind asked h b =
    asks_at (is_kept c.life) (is_ready c.life) (is_available c.life.holding) (is_life c.service c.life) c.recorded c.held
    c.worker c.settings c.sent c.given c.recorded.number c.recorded.state kind asked h b

send_by : (s : UpdateState) (c : UpdatesCell) → c.recorded.state ≡ s → IsPossible c
    → IsPossible (sends c (sent_by s c.recorded))
send_by (UpdateState.Updating aim) c e h =
    update_asks c aim h (record {
      holds = λ k. aims_again aim c.recorded.settings c.recorded.number c.recorded.attempt c.held (is_ready c.life)
          h.numbers.judged h.numbers.latest
          (subst (λ (s : UpdateState). HeldByState s c.recorded.settings c.recorded.number c.held (is_ready c.life)) e
          (h.recorded k));
      named = λ k n names m q. named_again aim c.recorded.settings c.recorded.number c.recorded.attempt c.held.number n names
          h.numbers.latest m
          (subst (λ (s : UpdateState). IsNamed s c.recorded.settings c.recorded.number c.held.number n names) e q);
    })
send_by (UpdateState.Polling aim) c e h =
    let l : c.recorded.number ≤ c.recorded.attempt = h.numbers.latest in
    other_asks c UpdateKind.Poll Asked.Poll h (record {
      can = subst (λ (s : UpdateState). (platform.can_be_out s UpdateKind.Poll && nat_le 1 (c.recorded.attempt + 1)) ≡ true)
          (sym e) (one_more c.recorded.attempt);
      more = omega arith;
      less = omega arith;
      update = tt;
      holds = h.recorded;
      named = λ k n names m q. q;
      kind_is = refl;
      asks = tt;
    })
send_by UpdateState.Settled c e h = h
send_by (UpdateState.Unsure aim) c e h = h

pub send_kept : (c : UpdatesCell) → IsPossible c → IsPossible (send c)
send_kept c h =
    kept_if (may_ask c (may_send c.recorded.state)) (sends c (platform.sent c.recorded)) c
    (λ may. send_by c.recorded.state c refl h) h

fetches : (s : UpdateState) → may_fetch s ≡ true → platform.can_be_out s UpdateKind.Fetch ≡ true
fetches (UpdateState.Updating aim) e = refl
fetches (UpdateState.Unsure aim) e = refl
fetches s e = cc

both : (x y : Bool) → x ≡ true → y ≡ true → (x && y) ≡ true
both true y e f = f
both false y e f = cc

pub fetch_kept : (c : UpdatesCell) → IsPossible c → IsPossible (fetch c)
fetch_kept c h =
    kept_if (may_ask c (may_fetch c.recorded.state)) (with_sent c (platform.fetch_sent c.recorded)) c
    (λ may. (let asks = and_right (is_none c.recorded.out) _ may in
    let due = and_left (may_fetch c.recorded.state) _ (and_right (is_ready c.life) _ asks) in
    let l : c.recorded.number ≤ c.recorded.attempt = h.numbers.latest in
    other_asks c UpdateKind.Fetch Asked.Fetch h (record {
      can = both (platform.can_be_out c.recorded.state UpdateKind.Fetch) _ (fetches c.recorded.state due)
          (one_more c.recorded.attempt);
      more = omega arith;
      less = omega arith;
      update = tt;
      holds = h.recorded;
      named = λ k n names m q. q;
      kind_is = refl;
      asks = tt;
    }))) h

-- ---- nothing is out then

pub rests_kept : (c : UpdatesCell) (after : Settings × UpdateState) → IsPossible c
    → (is_kept c.life ≡ true → Rests c.recorded c.held (is_ready c.life) after)
    → IsPossible (with_record c (platform.rests c.recorded after))
rests_kept c after h b =
    rests_at (is_kept c.life) (is_ready c.life) (is_available c.life.holding) (is_life c.service c.life) c.recorded c.held
    c.worker c.settings c.sent c.given after h b

pub same_rests : (r : UpdateRecord) (held : UpdateHolding) (ready : Bool)
    → HeldByState r.state r.settings r.number held ready → Rests r held ready (r.settings, r.state)
same_rests r held ready h = record { holds = h; named = λ n names q. q }

pub timeout_kept : (c : UpdatesCell) → IsPossible c → IsPossible (timeout c)
timeout_kept c h =
    kept_if (is_some c.recorded.out) (with_record c (platform.rested c.recorded)) c
    (λ some. rests_kept c (c.recorded.settings, c.recorded.state) h
    (λ k. same_rests c.recorded c.held (is_ready c.life) (h.recorded k))) h

-- what is recorded once it rests in a state, by the state before
pub record RestsIn (s : UpdateState) (before : Settings) (number : ℕ) (held : UpdateHolding) (ready : Bool)
    (after : Settings × UpdateState) : Type 0 where
  pub holds : HeldByState after.1 after.0 number held ready
  pub named : (attempt : ℕ) (names : Change) → IsNamed s before number held.number attempt names
      → IsNamed after.1 after.0 number held.number attempt names

stop_in : (s : UpdateState) (before : Settings) (number : ℕ) (held : UpdateHolding) (ready : Bool)
    → HeldByState s before number held ready → RestsIn s before number held ready (before, stopped_state s)
stop_in UpdateState.Settled before number held ready h = record { holds = h; named = λ n names q. q }
stop_in (UpdateState.Updating aim) before number held ready h = record { holds = h; named = λ n names q. q }
stop_in (UpdateState.Polling aim) before number held ready h = record { holds = h.0; named = λ n names q. q }
stop_in (UpdateState.Unsure aim) before number held ready h = record { holds = h; named = λ n names q. q }

pub stop_kept : (c : UpdatesCell) → IsPossible c → IsPossible (stop c)
stop_kept c h =
    kept_if (is_none c.recorded.out && may_send c.recorded.state) (with_record c (platform.stopped c.recorded)) c
    (λ may. rests_kept c (c.recorded.settings, stopped_state c.recorded.state) h
    (λ k. (let s = stop_in c.recorded.state c.recorded.settings c.recorded.number c.held (is_ready c.life) (h.recorded k) in
    record { holds = s.holds; named = s.named }))) h
