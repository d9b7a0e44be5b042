-- What can come about, by its parts: the broker goes on, an answer is given, the platform's record changes.
use Rattle.std.proofs.Common.{◌≡◌, ◌≤◌, ◌+◌, ℕ, Bool, true, arith, refl, sym, ◌∙◌}
use Rattle.std.specs.Prelude.{Option, Some, IfSome, List, [], ◌∷◌, ◌++◌}
use Rattle.osb_network.specs.Each.{Each}
use Rattle.osb_network.proofs.CellParts.{all_more}
use Rattle.osb_update.specs.Recorded.{can_be, rests}
use Rattle.osb_update.specs.declared.holding.UpdateHolding.{UpdateHolding}
use Rattle.osb_update.specs.declared.record.UpdateRecord.{UpdateRecord}
use Rattle.osb_update.specs.declared.settings.Change.{Change}
use Rattle.osb_update.specs.declared.settings.Settings.{Settings}
use Rattle.osb_update.specs.declared.state.Aim.{Aim}
use Rattle.osb_update.specs.declared.state.UpdateKind.{UpdateKind}
use Rattle.osb_update.specs.declared.state.UpdateState.{UpdateState}
use Rattle.osb_update_sides.specs.Possible.{HasAccepted, HasDone, HasRejected, HeldByState, IsGivenOf, IsHeldOf, IsNamed}
use Rattle.osb_update_sides.specs.Possible.{IsNamedFor, IsNumberedBy, IsPossibleAt, IsSentOf, IsUpdateOf, IsWorker}
use Rattle.osb_update_sides.specs.Possible.{SaidOf, kind_of}
use Rattle.osb_update_sides.specs.declared.asked.Asked.{Asked}
use Rattle.osb_update_sides.specs.declared.asked.UpdateAsked.{UpdateAsked}
use Rattle.osb_update_sides.specs.declared.given.Said.{Said}
use Rattle.osb_update_sides.specs.declared.given.UpdateGiven.{UpdateGiven}

pub each_push : {X : Type 0} (P : X → Type 0) (xs : List X) (x : X) → Each P xs → P x → Each P (xs ++ x ∷ [])
each_push P [] x h p = (p, tt)
each_push P (y ∷ ys) x h p = (h.0, each_push P ys x h.1 p)

-- ---- the broker goes on

-- every answer that was given stays true
pub record IsLater (number : ℕ) (before after : UpdateHolding) : Type 0 where
  pub done : (to : Settings) → HasDone number before to → HasDone number after to
  pub accepted : (to : Settings) → HasAccepted number before to → HasAccepted number after to

rejected_later : (number : ℕ) (before after : UpdateHolding) (to : Settings) → IsLater number before after
    → HasRejected number before to → HasRejected number after to
rejected_later number before after to l h =
    let d = l.done before.settings (record { judged = h.judged; settled = h.settled; settings = refl }) in
    record { judged = d.judged; settled = d.settled; other = λ e. h.other (sym d.settings ∙ e) }

pub said_later : (out : Option UpdateKind) (s : UpdateState) (number : ℕ) (before after : UpdateHolding) (said : Said)
    → IsLater number before after → SaidOf out s number before said → SaidOf out s number after said
said_later (Some UpdateKind.Update) (UpdateState.Updating aim) number before after (Said.Answer answer) l h = record {
  done = λ e f. l.done aim.to (h.done e f);
  accepted = λ e f. l.accepted aim.to (h.accepted e f);
  rejected = λ e f. rejected_later number before after aim.to l (h.rejected e f);
}
said_later (Some UpdateKind.Poll) (UpdateState.Polling aim) number before after (Said.Answer answer) l h =
    λ e f. l.done aim.to (h e f)
said_later (Some UpdateKind.Fetch) s number before after (Said.Found settings found) l h = λ e. l.done settings (h e)
said_later out s number before after said l h = tt

-- an Update that may still be judged, once more were judged
for_later : (aim : Aim) (before : Settings) (number kept more attempt : ℕ) (names : Change) → kept ≤ more
    → IsNamedFor aim before number kept attempt names → IsNamedFor aim before number more attempt names
for_later aim before number kept more attempt names rises h =
    record { one = λ m l. h.one m (omega arith); latest = h.latest }

named_later : (s : UpdateState) (before : Settings) (number kept more attempt : ℕ) (names : Change) → kept ≤ more
    → IsNamed s before number kept attempt names → IsNamed s before number more attempt names
named_later UpdateState.Settled before number kept more attempt names rises h = tt
named_later (UpdateState.Updating aim) before number kept more attempt names rises h =
    for_later aim before number kept more attempt names rises h
named_later (UpdateState.Polling aim) before number kept more attempt names rises h =
    for_later aim before number kept more attempt names rises h
named_later (UpdateState.Unsure aim) before number kept more attempt names rises h =
    for_later aim before number kept more attempt names rises h

update_later : (asked : Asked) (counts : Bool) (r : UpdateRecord) (kept more attempt : ℕ) → kept ≤ more
    → IsUpdateOf asked counts r kept attempt → IsUpdateOf asked counts r more attempt
update_later (Asked.Update names) counts r kept more attempt rises h =
    (h.0, λ on. named_later r.state r.settings r.number kept more attempt names rises (h.1 on))
update_later Asked.Poll counts r kept more attempt rises h = tt
update_later Asked.Fetch counts r kept more attempt rises h = tt

sent_later : (counts : Bool) (r : UpdateRecord) (kept more : ℕ) (sent : UpdateAsked) → kept ≤ more
    → IsSentOf counts r kept sent → IsSentOf counts r more sent
sent_later counts r kept more sent rises h = record {
  first = h.first;
  numbered = h.numbered;
  latest = h.latest;
  update = update_later sent.asked counts r kept more sent.attempt rises h.update;
}

-- what the broker holds may go on so
pub record IsBrokerStep (counts ready available : Bool) (r : UpdateRecord) (before after : UpdateHolding)
    (worker : Option ℕ) (settings : Option Settings) : Type 0 where
  pub later : IsLater r.number before after
  pub rises : before.number ≤ after.number
  pub judged : after.number ≤ r.number
  pub works : IfSome worker (IsWorker after)
  pub holds : IsHeldOf available after settings
  pub recorded : counts ≡ true → HeldByState r.state r.settings r.number after ready

pub goes_on_at : (counts ready available life : Bool) (r : UpdateRecord) (before after : UpdateHolding)
    (worker more : Option ℕ) (settings left : Option Settings) (sent : List UpdateAsked) (given : List UpdateGiven)
    → IsPossibleAt counts ready available life r before worker settings sent given
    → IsBrokerStep counts ready available r before after more left
    → IsPossibleAt counts ready available life r after more left sent given
goes_on_at counts ready available life r before after worker more settings left sent given h b = record {
  lives = h.lives;
  record_can_be = h.record_can_be;
  numbers = record { latest = h.numbers.latest; judged = b.judged; update = h.numbers.update };
  works = b.works;
  holds = b.holds;
  recorded = b.recorded;
  all_sent = all_more (IsSentOf counts r before.number) (IsSentOf counts r after.number) sent
      (λ x q. sent_later counts r before.number after.number x b.rises q) h.all_sent;
  all_given = all_more (IsGivenOf counts r before) (IsGivenOf counts r after) given (λ x q. record {
    numbered = q.numbered;
    said = λ on e. said_later r.out r.state r.number before after x.said b.later (q.said on e);
  }) h.all_given;
}

-- an answer more
pub answers_at : (counts ready available life : Bool) (r : UpdateRecord) (held : UpdateHolding) (worker : Option ℕ)
    (settings : Option Settings) (sent : List UpdateAsked) (given : List UpdateGiven) (x : UpdateGiven)
    → IsPossibleAt counts ready available life r held worker settings sent given → IsGivenOf counts r held x
    → IsPossibleAt counts ready available life r held worker settings sent (given ++ x ∷ [])
answers_at counts ready available life r held worker settings sent given x h q = record {
  lives = h.lives;
  record_can_be = h.record_can_be;
  numbers = h.numbers;
  works = h.works;
  holds = h.holds;
  recorded = h.recorded;
  all_sent = h.all_sent;
  all_given = each_push (IsGivenOf counts r held) given x h.all_given q;
}

-- ---- the platform rests

-- the settings and the state that the record has then
pub record Rests (r : UpdateRecord) (held : UpdateHolding) (ready : Bool) (after : Settings × UpdateState) : Type 0 where
  pub holds : HeldByState after.1 after.0 r.number held ready
  pub named : (attempt : ℕ) (names : Change) → IsNamed r.state r.settings r.number held.number attempt names
      → IsNamed after.1 after.0 r.number held.number attempt names

update_rests : (asked : Asked) (counts ready : Bool) (r : UpdateRecord) (held : UpdateHolding) (attempt : ℕ)
    (after : Settings × UpdateState) → (counts ≡ true → Rests r held ready after)
    → IsUpdateOf asked counts r held.number attempt → IsUpdateOf asked counts (rests r after) held.number attempt
update_rests (Asked.Update names) counts ready r held attempt after b h = (h.0, λ on. (b on).named attempt names (h.1 on))
update_rests Asked.Poll counts ready r held attempt after b h = tt
update_rests Asked.Fetch counts ready r held attempt after b h = tt

pub rests_at : (counts ready available life : Bool) (r : UpdateRecord) (held : UpdateHolding) (worker : Option ℕ)
    (settings : Option Settings) (sent : List UpdateAsked) (given : List UpdateGiven) (after : Settings × UpdateState)
    → IsPossibleAt counts ready available life r held worker settings sent given
    → (counts ≡ true → Rests r held ready after)
    → IsPossibleAt counts ready available life (rests r after) held worker settings sent given
rests_at counts ready available life r held worker settings sent given after h b = record {
  lives = h.lives;
  record_can_be = refl;
  numbers = record { latest = h.numbers.latest; judged = h.numbers.judged; update = tt };
  works = h.works;
  holds = h.holds;
  recorded = λ on. (b on).holds;
  all_sent = all_more (IsSentOf counts r held.number) (IsSentOf counts (rests r after) held.number) sent (λ x q. record {
    first = q.first;
    numbered = q.numbered;
    latest = λ e. tt;
    update = update_rests x.asked counts ready r held x.attempt after b q.update;
  }) h.all_sent;
  all_given = all_more (IsGivenOf counts r held) (IsGivenOf counts (rests r after) held) given
      (λ x q. record { numbered = q.numbered; said = λ on e. tt }) h.all_given;
}

-- ---- the platform sends

-- the record with a request out, under the next attempt
abbrev pub asking : UpdateRecord → ℕ → UpdateState → UpdateKind → UpdateRecord
asking r number state kind =
    record { settings = r.settings; number = number; attempt = r.attempt + 1; state = state; out = Some kind }

pub record Asks (counts ready : Bool) (r : UpdateRecord) (held : UpdateHolding) (number : ℕ) (state : UpdateState)
    (kind : UpdateKind) (asked : Asked) : Type 0 where
  pub can : can_be (asking r number state kind) ≡ true
  pub more : r.number ≤ number
  pub less : number ≤ r.attempt + 1
  pub update : IsNumberedBy (Some kind) number (r.attempt + 1)
  pub holds : counts ≡ true → HeldByState state r.settings number held ready
  pub named : counts ≡ true → (attempt : ℕ) (names : Change) → attempt ≤ r.number
      → IsNamed r.state r.settings r.number held.number attempt names
      → IsNamed state r.settings number held.number attempt names
  pub kind_is : kind_of asked ≡ kind
  pub asks : IsUpdateOf asked counts (asking r number state kind) held.number (r.attempt + 1)

update_asks : (asked now : Asked) (counts ready : Bool) (r : UpdateRecord) (held : UpdateHolding) (attempt number : ℕ)
    (state : UpdateState) (kind : UpdateKind) → Asks counts ready r held number state kind now
    → IsUpdateOf asked counts r held.number attempt
    → IsUpdateOf asked counts (asking r number state kind) held.number attempt
update_asks (Asked.Update names) now counts ready r held attempt number state kind b h =
    let l : attempt ≤ r.number = h.0 in
    let m : r.number ≤ number = b.more in
    (omega arith, λ on. b.named on attempt names h.0 (h.1 on))
update_asks Asked.Poll now counts ready r held attempt number state kind b h = tt
update_asks Asked.Fetch now counts ready r held attempt number state kind b h = tt

pub asks_at : (counts ready available life : Bool) (r : UpdateRecord) (held : UpdateHolding) (worker : Option ℕ)
    (settings : Option Settings) (sent : List UpdateAsked) (given : List UpdateGiven) (number : ℕ) (state : UpdateState)
    (kind : UpdateKind) (asked : Asked)
    → IsPossibleAt counts ready available life r held worker settings sent given
    → Asks counts ready r held number state kind asked
    → IsPossibleAt counts ready available life (asking r number state kind) held worker settings
    (sent ++ record { attempt = r.attempt + 1; asked = asked } ∷ []) given
asks_at counts ready available life r held worker settings sent given number state kind asked h b = record {
  lives = h.lives;
  record_can_be = b.can;
  numbers = (let l : held.number ≤ r.number = h.numbers.judged in
      let m : r.number ≤ number = b.more in
      record { latest = b.less; judged = omega arith; update = b.update });
  works = h.works;
  holds = h.holds;
  recorded = b.holds;
  all_sent = each_push (IsSentOf counts (asking r number state kind) held.number) sent
      (record { attempt = r.attempt + 1; asked = asked })
      (all_more (IsSentOf counts r held.number) (IsSentOf counts (asking r number state kind) held.number) sent
      (λ x q. (let l : x.attempt ≤ r.attempt = q.numbered in
      record {
        first = q.first;
        numbered = omega arith;
        latest = λ e. absurd (omega arith);
        update = update_asks x.asked asked counts ready r held x.attempt number state kind b q.update;
      })) h.all_sent)
      (record { first = omega arith; numbered = omega arith; latest = λ e. b.kind_is; update = b.asks });
  all_given = all_more (IsGivenOf counts r held) (IsGivenOf counts (asking r number state kind) held) given
      (λ x q. (let l : x.attempt ≤ r.attempt = q.numbered in
      record { numbered = omega arith; said = λ on e. absurd (omega arith) })) h.all_given;
}
