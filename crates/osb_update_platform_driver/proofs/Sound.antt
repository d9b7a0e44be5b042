-- Whatever happens, the row is what the network's platform records, and each driver knows what it says of itself.
use Rattle.std.proofs.Common.{◌≡◌, ℕ, ◌+◌, ◌≤◌, Bool, true, false, refl, sym, ap, ◌∙◌, List, [], ◌∷◌, arith}
use Rattle.std.proofs.lemmas.Bool.Decides.{nat_tests}
use Rattle.std.specs.Prelude.{Option, Some, None, ◌==◌, if◌then◌else◌, slice_get}
use Rattle.osb_network.proofs.CellParts.{all_get}
use Rattle.osb_platform_driver.specs.World.{is_owner}
use Rattle.osb_platform_driver.specs.declared.world.Commit.{Commit}
use Rattle.osb_platform_driver.proofs.Sound.{all_pushed, all_put}
use Rattle.osb_update.specs.declared.record.UpdateRecord.{UpdateRecord}
use Rattle.osb_update.specs.declared.settings.Settings.{Settings}
use Rattle.osb_update_sides.specs.Agreement.{is_of_update}
use Rattle.osb_update_sides.specs.Cell.{UpdatesCell}
use Rattle.osb_update_sides.specs.Life.{is_kept}
use Rattle.osb_update_sides.specs.Possible.{IsPossible, IsSentOf}
use Rattle.osb_update_sides.specs.Steps.{asked_as, may_be_anothers, updates_step, updates_steps}
use Rattle.osb_update_sides.specs.declared.event.UpdatesEvent.{UpdatesEvent}
use Rattle.osb_update_sides.specs.declared.given.Said.{Said}
use Rattle.osb_update_sides.specs.declared.given.UpdateGiven.{UpdateGiven}
use Rattle.osb_update_sides.specs.declared.life.Life.{Life}
use Rattle.osb_update_sides.proofs.Kept.{always, kept}
use Rattle.osb_update_sides.proofs.Lives.{life_of}
use Rattle.osb_update_platform_driver.specs.Driver.{given_up_if, new_driver, resume, take, taken_from}
use Rattle.osb_update_platform_driver.specs.declared.driver.PlatformUpdateStage.{PlatformUpdateStage}
use Rattle.osb_update_platform_driver.specs.declared.driver.PlatformUpdateTransaction.{PlatformUpdateTransaction}
use Rattle.osb_update_platform_driver.specs.declared.driver.PlatformUpdateWishes.{PlatformUpdateWishes}
use Rattle.osb_update_platform_driver.specs.declared.world.PlatformUpdateHappening.{PlatformUpdateHappening}
use Rattle.osb_update_platform_driver.specs.declared.world.UpdateExchange.{UpdateExchange}
use Rattle.osb_update_platform_driver.specs.declared.world.UpdateSource.{UpdateSource}
use Rattle.osb_update_platform_driver.specs.World.{HasInFlight, IsFrom, IsInFlight, IsSound, Knows, KnowsAt, StaysSound}
use Rattle.osb_update_platform_driver.specs.World.{WasSent}
use Rattle.osb_update_platform_driver.specs.World.{WorldState, answer_by, answer_from, answer_step, at_stage, begun}
use Rattle.osb_update_platform_driver.specs.World.{claim_by}
use Rattle.osb_update_platform_driver.specs.World.{claim_events, claim_in, claim_step, given_to, is_outside, lived}
use Rattle.osb_update_platform_driver.specs.World.{may_live_in}
use Rattle.osb_update_platform_driver.specs.World.{owner_after, owner_if, recorded_in, resume_events, take_by}
use Rattle.osb_update_platform_driver.specs.World.{take_events, take_step}
use Rattle.osb_update_platform_driver.specs.World.{taking, transacted, with_cell, with_stage, written}
use Rattle.osb_update_platform_driver.proofs.Grown.{Grows, grows_steps, knows_on, unrecorded}
use Rattle.osb_update_platform_driver.proofs.Lives.{lives}
use Rattle.osb_update_platform_driver.proofs.Rows.{AreOfUpdate, claim_is, claim_of, life_steps, resume_is, resume_of}
use Rattle.osb_update_platform_driver.proofs.Rows.{resumed_less, take_is, take_of, taken_less}

-- ---- the drivers

abbrev AllKnow : UpdatesCell → List UpdateExchange → Type 0
AllKnow c xs = (at : ℕ) (x : UpdateExchange) → slice_get xs at ≡ Some x → Knows c x

abbrev own_at : Option UpdateRecord → Option ℕ → ℕ → UpdateExchange → Type 0
own_at change owner at x = HasInFlight change x.driver.stage → owner ≡ Some at

-- the row has the number of the driver whose request is in flight
abbrev AllOwn : Option UpdateRecord → Option ℕ → List UpdateExchange → Type 0
AllOwn change owner xs = (at : ℕ) (x : UpdateExchange) → slice_get xs at ≡ Some x → own_at change owner at x

all_on : (c n : UpdatesCell) (xs : List UpdateExchange) → Grows c n → AllKnow c xs → AllKnow n xs
all_on c n xs grow old k y is = knows_on c n y.driver.stage y.source grow (old k y is)

-- ---- transactions

stage_sound : (s : WorldState) (at : ℕ) (stage : PlatformUpdateStage) (source : UpdateSource)
    → KnowsAt s.cell stage source → (HasInFlight s.change stage → s.owner ≡ Some at) → IsSound s
    → IsSound (with_stage s at stage source)
stage_sound s at stage source new own h = record {
  instance = h.instance;
  change = h.change;
  possible = h.possible;
  knows = all_put (λ (k : ℕ) (y : UpdateExchange). Knows s.cell y) s.exchanges at (at_stage stage source) new h.knows;
  owns = all_put (own_at s.change s.owner) s.exchanges at (at_stage stage source) own h.owns;
}

-- what a driver knows and has at the stage after its transaction, once its events have happened and otherwise; and what
-- the other drivers have then
record GoesOn (s : WorldState) (es : List UpdatesEvent) (at : ℕ) (tx : PlatformUpdateTransaction)
    (source : UpdateSource) : Type 0 where
  of : AreOfUpdate es
  change : recorded_in s.first tx.change ≡ (updates_steps s.cell es).recorded
  stage : KnowsAt (updates_steps s.cell es) tx.stage source
  unsure : KnowsAt s.cell tx.unsure source
  failed : KnowsAt s.cell tx.failed source
  others : AllOwn tx.change (owner_after s at tx) s.exchanges
  stage_owns : HasInFlight tx.change tx.stage → owner_after s at tx ≡ Some at
  unsure_owns : HasInFlight tx.change tx.unsure → owner_after s at tx ≡ Some at
  unsure_own : HasInFlight s.change tx.unsure → s.owner ≡ Some at
  failed_own : HasInFlight s.change tx.failed → s.owner ≡ Some at

written_sound : (s : WorldState) (at : ℕ) (tx : PlatformUpdateTransaction) (es : List UpdatesEvent)
    (source : UpdateSource) (stage : PlatformUpdateStage) → GoesOn s es at tx source
    → KnowsAt (updates_steps s.cell es) stage source
    → (HasInFlight tx.change stage → owner_after s at tx ≡ Some at) → IsSound s
    → IsSound (written s at tx es source stage)
written_sound s at tx es source stage g new own h =
    let n = updates_steps s.cell es in
    record {
      instance = h.instance ∙ sym (ap (λ (x : Life). x.recorded) (life_steps s.cell es g.of));
      change = g.change;
      possible = always s.cell es h.possible;
      knows = all_put (λ (k : ℕ) (y : UpdateExchange). Knows n y) s.exchanges at (at_stage stage source) new
          (all_on s.cell n s.exchanges (grows_steps s.cell es) h.knows);
      owns = all_put (own_at tx.change (owner_after s at tx)) s.exchanges at (at_stage stage source) own g.others;
    }

transacted_sound : (commit : Commit) (s : WorldState) (at : ℕ) (tx : PlatformUpdateTransaction) (es : List UpdatesEvent)
    (source : UpdateSource) → GoesOn s es at tx source → IsSound s → IsSound (transacted commit s at tx es source)
transacted_sound Commit.Returned s at tx es source g h =
    written_sound s at tx es source tx.stage g g.stage g.stage_owns h
transacted_sound Commit.Failed s at tx es source g h = stage_sound s at tx.failed source g.failed g.failed_own h
transacted_sound (Commit.Unsure true) s at tx es source g h =
    written_sound s at tx es source tx.unsure g
    (knows_on s.cell (updates_steps s.cell es) tx.unsure source (grows_steps s.cell es) g.unsure) g.unsure_owns h
transacted_sound (Commit.Unsure false) s at tx es source g h = stage_sound s at tx.unsure source g.unsure g.unsure_own h

-- ---- the first transaction

-- a request that was sent has no later attempt than the latest
within : (c : UpdatesCell) (n : ℕ) → WasSent c.sent n → IsPossible c → n ≤ c.recorded.attempt
within c n was p =
    let sent : IsSentOf (is_kept c.life) c.recorded c.held.number (record { attempt = n; asked = was.asked }) =
    all_get (IsSentOf (is_kept c.life) c.recorded c.held.number) c.sent was.at _ p.all_sent was.is in
    sent.numbered

-- so the next attempt is nobody's yet
unsent : (c : UpdatesCell) (n : ℕ) (P : Type 0) → WasSent c.sent n → IsPossible c → n ≡ c.recorded.attempt + 1 → P
unsent c n P was p next =
    let e : n ≤ c.recorded.attempt = within c n was p in
    absurd (omega arith)

-- another driver has nothing in flight then
quiet : (c : UpdatesCell) (change : Option UpdateRecord) (stage : PlatformUpdateStage) (source : UpdateSource)
    (P : Type 0) → ((n : ℕ) → IsInFlight change n → n ≡ c.recorded.attempt + 1) → IsPossible c → KnowsAt c stage source
    → HasInFlight change stage → P
quiet c change (PlatformUpdateStage.Send sent) source P fresh p know out =
    unsent c sent.attempt P (record { at = know.0; asked = asked_as sent.request; is = know.1 }) p
    (fresh sent.attempt out)
quiet c change (PlatformUpdateStage.Take n said) source P fresh p know out = unsent c n P know.0 p (fresh n out)
quiet c change PlatformUpdateStage.Claim source P fresh p know out = absurd out
quiet c change (PlatformUpdateStage.Unsure n) source P fresh p know out = absurd out
quiet c change PlatformUpdateStage.Done source P fresh p know out = absurd out

taken_over : (tx : PlatformUpdateTransaction) (owner : Option ℕ) (at : ℕ) → tx.takes_over ≡ true
    → (if tx.takes_over then Some at else owner) ≡ Some at
taken_over tx owner at e = ap (λ (b : Bool). if b then Some at else owner) e

claim_goes : (s : WorldState) (at : ℕ) (w : PlatformUpdateWishes) → IsSound s
    → GoesOn s (claim_events w s.instance) at (claim_in s w) UpdateSource.Nowhere
claim_goes s at w h =
    let claim = claim_is w s.first s.cell s.instance s.change h.instance h.change in
    record {
      of = claim_of w s.instance;
      change = claim.change;
      stage = claim.stage;
      unsure = (claim.unsure s.cell s.change).0;
      failed = (claim.failed s.cell s.change).0;
      others = λ k y is out.
          quiet s.cell (claim_in s w).change y.driver.stage y.source _ claim.fresh h.possible (h.knows k y is) out;
      stage_owns = λ out. taken_over (claim_in s w) s.owner at (claim.took (claim_in s w).stage refl out);
      unsure_owns = λ out. absurd ((claim.unsure s.cell (claim_in s w).change).1 out);
      unsure_own = λ out. absurd ((claim.unsure s.cell s.change).1 out);
      failed_own = λ out. absurd ((claim.failed s.cell s.change).1 out);
    }

claim_sound : (s : WorldState) (at : ℕ) (w : PlatformUpdateWishes) (commit : Commit) (stage : PlatformUpdateStage)
    → IsSound s → IsSound (claim_by s at w commit stage)
claim_sound s at w commit PlatformUpdateStage.Claim h =
    transacted_sound commit s at (claim_in s w) (claim_events w s.instance) UpdateSource.Nowhere (claim_goes s at w h) h
claim_sound s at w commit (PlatformUpdateStage.Send sent) h = h
claim_sound s at w commit (PlatformUpdateStage.Take n said) h = h
claim_sound s at w commit (PlatformUpdateStage.Unsure n) h = h
claim_sound s at w commit PlatformUpdateStage.Done h = h

claims_sound : (s : WorldState) (at : ℕ) (w : PlatformUpdateWishes) (commit : Commit) (x : Option UpdateExchange)
    → IsSound s → IsSound (claim_step s at w commit x)
claims_sound s at w commit None h = h
claims_sound s at w commit (Some x) h = claim_sound s at w commit x.driver.stage h

-- ---- the last transaction

-- the row changes so that no more is in flight than before
others_keep : (s : WorldState) (after : Option UpdateRecord)
    → ((stage : PlatformUpdateStage) → HasInFlight after stage → HasInFlight s.change stage) → IsSound s
    → AllOwn after s.owner s.exchanges
others_keep s after less h k y is out = h.owns k y is (less y.driver.stage out)

take_goes : (s : WorldState) (at n : ℕ) (said : Option Said) (source : UpdateSource)
    → KnowsAt s.cell (PlatformUpdateStage.Take n said) source → (IsInFlight s.change n → s.owner ≡ Some at) → IsSound s
    → GoesOn s (take_events s.cell.recorded n source) at (take n said s.change) source
take_goes s at n said source know own h =
    let less = (λ (stage : PlatformUpdateStage). taken_less n said s.change stage) in
    record {
      of = take_of s.cell.recorded n source;
      change = take_is s.first s.cell n said source s.change h.change know.1;
      stage = tt;
      unsure = know;
      failed = know;
      others = others_keep s (taken_from n said s.change) less h;
      stage_owns = λ out. absurd out;
      unsure_owns = λ out. own (less (PlatformUpdateStage.Take n said) out);
      unsure_own = own;
      failed_own = own;
    }

resume_goes : (s : WorldState) (at : ℕ) (o : Bool) (n : ℕ) → IsSound s
    → GoesOn s (resume_events o s.cell.recorded n) at (resume o n s.change) UpdateSource.Nowhere
resume_goes s at o n h = record {
  of = resume_of o s.cell.recorded n;
  change = resume_is o s.first s.cell n s.change h.change;
  stage = tt;
  unsure = tt;
  failed = tt;
  others = others_keep s (given_up_if o n s.change) (λ stage. resumed_less o n s.change stage) h;
  stage_owns = λ out. absurd out;
  unsure_owns = λ out. absurd out;
  unsure_own = λ out. absurd out;
  failed_own = λ out. absurd out;
}

take_sound : (s : WorldState) (at : ℕ) (commit : Commit) (source : UpdateSource) (stage : PlatformUpdateStage)
    → KnowsAt s.cell stage source → (HasInFlight s.change stage → s.owner ≡ Some at) → IsSound s
    → IsSound (take_by s at commit source stage)
take_sound s at commit source (PlatformUpdateStage.Take n said) know own h =
    transacted_sound commit s at (take n said s.change) (take_events s.cell.recorded n source) source
    (take_goes s at n said source know own h) h
take_sound s at commit source (PlatformUpdateStage.Unsure n) know own h =
    let o = is_owner s.owner at in
    transacted_sound commit s at (resume o n s.change) (resume_events o s.cell.recorded n) UpdateSource.Nowhere
    (resume_goes s at o n h) h
take_sound s at commit source PlatformUpdateStage.Claim know own h = h
take_sound s at commit source (PlatformUpdateStage.Send sent) know own h = h
take_sound s at commit source PlatformUpdateStage.Done know own h = h

takes_sound : (s : WorldState) (at : ℕ) (commit : Commit) (x : Option UpdateExchange) → slice_get s.exchanges at ≡ x
    → IsSound s → IsSound (take_step s at commit x)
takes_sound s at commit None is h = h
takes_sound s at commit (Some x) is h =
    take_sound s at commit x.source x.driver.stage (h.knows at x is) (h.owns at x is) h

-- ---- answers

same_number : (k n : ℕ) → (k == n) ≡ true → k ≡ n
same_number k n e = grind (arith, nat_tests)

sound_if : (b : Bool) (s t : WorldState) → (b ≡ true → IsSound t) → IsSound s → IsSound (if b then t else s)
sound_if true s t on h = on refl
sound_if false s t on h = h

-- of a driver whose request was sent
record IsWaiting (s : WorldState) (at n : ℕ) : Type 0 where
  sent : WasSent s.cell.sent n
  own : IsInFlight s.change n → s.owner ≡ Some at

taking_sound : (s : WorldState) (at n : ℕ) (said : Option Said) (source : UpdateSource)
    → IsFrom s.cell.given n said source → IsWaiting s at n → IsSound s → IsSound (taking s at n said source)
taking_sound s at n said source from wait h =
    stage_sound s at (PlatformUpdateStage.Take n said) source (wait.sent, from) wait.own h

given_sound : (s : WorldState) (at n place : ℕ) (g : Option UpdateGiven) → slice_get s.cell.given place ≡ g
    → IsWaiting s at n → IsSound s → IsSound (given_to s at n place g)
given_sound s at n place None is wait h = h
given_sound s at n place (Some g) is wait h =
    sound_if (g.attempt == n) s (taking s at n (Some g.said) (UpdateSource.Given place))
    (λ e. taking_sound s at n (Some g.said) (UpdateSource.Given place)
    (is ∙ ap (λ (k : ℕ). Some record { attempt = k; said = g.said }) (same_number g.attempt n e)) wait h) h

from_sound : (s : WorldState) (at n : ℕ) (source : UpdateSource) → IsWaiting s at n → IsSound s
    → IsSound (answer_from s at n source)
from_sound s at n UpdateSource.Nowhere wait h = taking_sound s at n None UpdateSource.Nowhere tt wait h
from_sound s at n (UpdateSource.Given place) wait h =
    given_sound s at n place (slice_get s.cell.given place) refl wait h
from_sound s at n (UpdateSource.Another answer) wait h =
    sound_if (may_be_anothers answer) s (taking s at n (Some (Said.Answer answer)) (UpdateSource.Another answer))
    (λ e. taking_sound s at n (Some (Said.Answer answer)) (UpdateSource.Another answer) (refl, e) wait h) h

answer_sound : (s : WorldState) (at : ℕ) (source : UpdateSource) (stage : PlatformUpdateStage) (before : UpdateSource)
    → KnowsAt s.cell stage before → (HasInFlight s.change stage → s.owner ≡ Some at) → IsSound s
    → IsSound (answer_by s at source stage)
answer_sound s at source (PlatformUpdateStage.Send sent) before know own h =
    from_sound s at sent.attempt source
    (record { sent = record { at = know.0; asked = asked_as sent.request; is = know.1 }; own = own }) h
answer_sound s at source PlatformUpdateStage.Claim before know own h = h
answer_sound s at source (PlatformUpdateStage.Take n said) before know own h = h
answer_sound s at source (PlatformUpdateStage.Unsure n) before know own h = h
answer_sound s at source PlatformUpdateStage.Done before know own h = h

answers_sound : (s : WorldState) (at : ℕ) (source : UpdateSource) (x : Option UpdateExchange)
    → slice_get s.exchanges at ≡ x → IsSound s → IsSound (answer_step s at source x)
answers_sound s at source None is h = h
answers_sound s at source (Some x) is h =
    answer_sound s at source x.driver.stage x.source (h.knows at x is) (h.owns at x is) h

-- ---- whatever happens

of_update : (e : UpdatesEvent) → is_outside e ≡ true → is_of_update e ≡ true
of_update (UpdatesEvent.Live life settings) out = cc
of_update e out = refl

outside_sound : (s : WorldState) (e : UpdatesEvent) → is_outside e ≡ true → IsSound s → IsSound (with_cell s e)
outside_sound s e out h = record {
  instance = h.instance ∙ sym (ap (λ (x : Life). x.recorded) (life_of s.cell e (of_update e out)));
  change = h.change ∙ sym (unrecorded s.cell e out);
  possible = kept s.cell e h.possible;
  knows = all_on s.cell (updates_step s.cell e) s.exchanges (grows_steps s.cell (e ∷ [])) h.knows;
  owns = h.owns;
}

-- a driver of the instance takes over only while no request of an update is in flight
owner_keeps : (t : Bool) (change : Option UpdateRecord) (stage : PlatformUpdateStage) (owner : Option ℕ) (at : ℕ)
    → (t ≡ true → (n : ℕ) → IsInFlight change n → ⊥) → (HasInFlight change stage → owner ≡ Some at)
    → HasInFlight change stage → owner_if t owner ≡ Some at
owner_keeps false change stage owner at rest own out = own out
owner_keeps true change (PlatformUpdateStage.Send sent) owner at rest own out = absurd (rest refl sent.attempt out)
owner_keeps true change (PlatformUpdateStage.Take n said) owner at rest own out = absurd (rest refl n out)
owner_keeps true change PlatformUpdateStage.Claim owner at rest own out = absurd out
owner_keeps true change (PlatformUpdateStage.Unsure n) owner at rest own out = absurd out
owner_keeps true change PlatformUpdateStage.Done owner at rest own out = absurd out

lived_sound : (s : WorldState) (life : Life) (settings : Option Settings) (t : Bool)
    → may_live_in s life settings t ≡ true → IsSound s → IsSound (lived s life settings t)
lived_sound s life settings t may h =
    let event = UpdatesEvent.Live life settings in
    let now = lives s life settings t h may in
    let n = updates_step s.cell event in
    record {
      instance = sym (ap (λ (x : Life). x.recorded) now.is);
      change = h.change ∙ sym now.recorded;
      possible = kept s.cell event h.possible;
      knows = all_on s.cell n s.exchanges (grows_steps s.cell (event ∷ [])) h.knows;
      owns = λ k y is out. owner_keeps t s.change y.driver.stage s.owner k now.rest (h.owns k y is) out;
    }

-- a driver that begins has no request
abbrev new_exchange : UpdateExchange
new_exchange = record { driver = new_driver; source = UpdateSource.Nowhere }

begun_sound : (s : WorldState) → IsSound s → IsSound (begun s)
begun_sound s h = record {
  instance = h.instance;
  change = h.change;
  possible = h.possible;
  knows = all_pushed (λ (k : ℕ) (y : UpdateExchange). Knows s.cell y) s.exchanges new_exchange (λ k. tt) h.knows;
  owns = all_pushed (own_at s.change s.owner) s.exchanges new_exchange (λ k out. absurd out) h.owns;
}

pub stays_sound : StaysSound
stays_sound s (PlatformUpdateHappening.Outside e) h =
    sound_if (is_outside e) s (with_cell s e) (λ out. outside_sound s e out h) h
stays_sound s (PlatformUpdateHappening.Live life settings t) h =
    sound_if (may_live_in s life settings t) s (lived s life settings t)
    (λ may. lived_sound s life settings t may h) h
stays_sound s PlatformUpdateHappening.Begin h = begun_sound s h
stays_sound s (PlatformUpdateHappening.Claim at w commit) h = claims_sound s at w commit (slice_get s.exchanges at) h
stays_sound s (PlatformUpdateHappening.Answer at source) h = answers_sound s at source (slice_get s.exchanges at) refl h
stays_sound s (PlatformUpdateHappening.Take at commit) h = takes_sound s at commit (slice_get s.exchanges at) refl h
