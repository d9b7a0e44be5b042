-- The credentials that a binding's drivers have are those that the network's platform would record.
use Rattle.std.proofs.Common.{◌≡◌, ℕ, zero, suc, Bool, true, false, refl, sym, ap, subst, ◌∙◌, List, [], ◌∷◌, ◌++◌}
use Rattle.std.specs.Prelude.{⊤, Option, Some, None, ◌&&◌, if◌then◌else◌, is_some, nat_lt, length, slice_get}
use Rattle.osb_message.specs.declared.messages.Answer.{Answer}
use Rattle.osb_instance.specs.Recorded.{Recorded}
use Rattle.osb_instance.specs.declared.record.Sent.{Sent}
use Rattle.osb_network.specs.Steps.{cell_step}
use Rattle.osb_network.specs.declared.event.Event.{Event}
use Rattle.osb_binding_network.specs.declared.event.BindingEvent.{BindingEvent}
use Rattle.osb_binding_network.specs.Allowed.{needs_fetch, of_binding}
use Rattle.osb_binding_network.specs.Binding.{BindingCell, answers_after, binding_step, is_fetchable, lived_if, taken_with}
use Rattle.osb_platform_driver.specs.declared.driver.Wishes.{Wishes}
use Rattle.osb_platform_driver.specs.declared.world.Source.{Source}
use Rattle.osb_platform_driver.specs.World.{HasInFlight, IsInFlight, IsSound, KnowsAt}
use Rattle.osb_platform_driver.proofs.Sound.{all_pushed, all_put}
use Rattle.osb_binding_platform_driver.specs.declared.driver.PlatformStage.{PlatformStage}
use Rattle.osb_binding_platform_driver.specs.declared.transactions.PlatformReading.{PlatformReading}
use Rattle.osb_binding_platform_driver.specs.Driver.{answered_at, ends_polling, fetches as must_fetch}
use Rattle.osb_binding_platform_driver.specs.ServiceWorld.{HasCredentials, Place, PlatformExchange, answer_by, fetched_by}
use Rattle.osb_binding_platform_driver.specs.ServiceWorld.{new_exchange, sealed_if, stage_of, with_exchange, world_of}
use Rattle.osb_binding_platform_driver.proofs.Lives.{Comes, Hears, IsGivenAt, IsWaiting, answer_comes, around_of, begun_sound}
use Rattle.osb_binding_platform_driver.proofs.Lives.{exchange_sound, found_of, heard_sound, waiting}
use Rattle.osb_binding_platform_driver.proofs.Network.{binding_steps, first_of, second_of}

-- ---- what was given stays so

abbrev pub HasAll : {X : Type 0} → List X → List X → Type 0
HasAll {X} xs ys = (at : ℕ) (x : X) → slice_get xs at ≡ Some x → slice_get ys at ≡ Some x

pub get_left : {X : Type 0} (xs : List X) (y : X) (at : ℕ) (x : X) → slice_get xs at ≡ Some x
    → slice_get (xs ++ y ∷ []) at ≡ Some x
get_left [] y at x e = cc
get_left (z ∷ xs) y zero x e = e
get_left (z ∷ xs) y (suc at) x e = get_left xs y at x e

all_answers : (x : Bool) (xs : List ℕ) (y : ℕ) → HasAll xs (answers_after x xs y)
all_answers true xs y = get_left xs y
all_answers false xs y = λ at x is. is

-- all answers are where they were
pub record IsMore (b n : BindingCell) : Type 0 where
  pub answers : HasAll b.answers n.answers
  pub fetched : HasAll b.fetched n.fetched

pub as_before : (b : BindingCell) → IsMore b b
as_before b = record { answers = λ at x is. is; fetched = λ at x is. is }

pub more_if : (x : Bool) (b n : BindingCell) → IsMore b n → IsMore b (if x then n else b)
more_if true b n more = more
more_if false b n more = as_before b

pub more_lived : (b : BindingCell) (o : Option Event) (x : ℕ) → IsMore b (lived_if b o x)
more_lived b None x = as_before b
more_lived b (Some e) x = record {
  answers = all_answers (nat_lt (length b.life.given) (length (cell_step b.life e).given)) b.answers _;
  fetched = λ at y is. is;
}

more_taken : (b : BindingCell) (at : ℕ) (o : Option ℕ) → IsMore b (taken_with b at o)
more_taken b at None = as_before b
more_taken b at (Some v) =
    let next = more_lived b (Some (Event.Take at)) 0 in
    more_if (needs_fetch b.life at) b _ (record { answers = next.answers; fetched = next.fetched })

more_step : (create work ended : Bool) (b : BindingCell) (e : BindingEvent) → IsMore b (binding_step create work ended b e)
more_step create work ended b (BindingEvent.Life e x) =
    more_lived b (of_binding create work b.forgotten b.retrievable b.life e) x
more_step create work ended b BindingEvent.Fetch =
    more_if (is_fetchable b.life.held) b _ (record { answers = λ at x is. is; fetched = get_left b.fetched b.row })
more_step create work ended b (BindingEvent.TakeFetched at from) = more_taken b at (slice_get b.fetched from)
more_step create work ended b BindingEvent.Forget =
    more_if (ended && b.life.held.tombstone) b _ (record { answers = λ at x is. is; fetched = λ at x is. is })

pub more_steps : (create work ended : Bool) (b : BindingCell) (es : List BindingEvent)
    → IsMore b (binding_steps create work ended b es)
more_steps create work ended b [] = as_before b
more_steps create work ended b (e ∷ es) =
    let one = more_step create work ended b e in
    let rest = more_steps create work ended (binding_step create work ended b e) es in
    record {
      answers = λ at x is. rest.answers at x (one.answers at x is);
      fetched = λ at x is. rest.fetched at x (one.fetched at x is);
    }

-- ---- what a driver has

-- whether the record polls for its creation
abbrev pub polls : Option Recorded → Bool
polls row = must_fetch true row

-- the credentials v are those that were given with the answer; if the record polls, they are a Fetch's
abbrev pub IsFromEither : BindingCell → Option Recorded → Answer → ℕ → ℕ → ℕ → Type 0
IsFromEither b row a from v at =
    (polls row ≡ false → slice_get b.answers at ≡ Some v)
    × (polls row ≡ true → ends_polling a ≡ true → slice_get b.fetched from ≡ Some v)

abbrev pub FitsAt : BindingCell → Option Recorded → PlatformStage → Source → Option ℕ → ℕ → Type 0
FitsAt b row PlatformStage.Claim source credentials from = credentials ≡ None
FitsAt b row (PlatformStage.Send sent fetches) source credentials from = IsInFlight row sent.attempt → polls row ≡ fetches
FitsAt b row (PlatformStage.Fetch n a) source credentials from =
    (IsInFlight row n → polls row ≡ true) × IsGivenAt source (λ at. ⊤)
FitsAt b row (PlatformStage.Take n (Some a) has) source credentials from =
    (has ≡ is_some credentials)
    × ((v : ℕ) → credentials ≡ Some v → IsGivenAt source (λ at. IsInFlight row n → IsFromEither b row a from v at))
FitsAt b row stage source credentials from = ⊤

abbrev pub Fits : BindingCell → Option Recorded → PlatformExchange → Type 0
Fits b row x = FitsAt b row x.stage x.source x.credentials x.fetched

given_map : (source : Source) (P Q : ℕ → Type 0) → ((at : ℕ) → P at → Q at) → IsGivenAt source P → IsGivenAt source Q
given_map (Source.Given at) P Q f p = f at p
given_map Source.Nowhere P Q f p = absurd p
given_map (Source.Garbled at) P Q f p = absurd p
given_map (Source.Gateway status) P Q f p = absurd p

either_on : (b n : BindingCell) (row after : Option Recorded) (a : Answer) (from v at : ℕ) → IsMore b n → after ≡ row
    → IsFromEither b row a from v at → IsFromEither n after a from v at
either_on b n row after a from v at more same either = (
  λ not. more.answers at v (either.0 (sym (ap polls same) ∙ not)),
  λ does ends. more.fetched from v (either.1 (sym (ap polls same) ∙ does) ends),
)

-- it stays so while its request is in flight
pub fits_on : (b n : BindingCell) (row after : Option Recorded) (stage : PlatformStage) (source : Source)
    (credentials : Option ℕ) (from : ℕ) → IsMore b n → (HasInFlight after (stage_of stage) → after ≡ row)
    → FitsAt b row stage source credentials from → FitsAt n after stage source credentials from
fits_on b n row after PlatformStage.Claim source credentials from more same fit = fit
fits_on b n row after (PlatformStage.Send sent fetches) source credentials from more same fit =
    λ out. ap polls (same out) ∙ fit (subst (λ (x : Option Recorded). IsInFlight x sent.attempt) (same out) out)
fits_on b n row after (PlatformStage.Fetch k a) source credentials from more same fit = (
  λ out. ap polls (same out) ∙ fit.0 (subst (λ (x : Option Recorded). IsInFlight x k) (same out) out),
  fit.1,
)
fits_on b n row after (PlatformStage.Take k (Some a) has) source credentials from more same fit = (
  fit.0,
  λ v is. given_map source (λ (at : ℕ). IsInFlight row k → IsFromEither b row a from v at)
      (λ (at : ℕ). IsInFlight after k → IsFromEither n after a from v at)
      (λ at has out. either_on b n row after a from v at more (same out)
      (has (subst (λ (x : Option Recorded). IsInFlight x k) (same out) out))) (fit.1 v is),
)
fits_on b n row after (PlatformStage.Take k None has) source credentials from more same fit = tt
fits_on b n row after (PlatformStage.Unsure k) source credentials from more same fit = tt
fits_on b n row after PlatformStage.Done source credentials from more same fit = tt

-- ---- a place that can come about

pub record IsFit (b : BindingCell) (p : Place) : Type 0 where
  pub life : IsSound (world_of b.life p)
  pub credentials : HasCredentials b p
  pub fits : (at : ℕ) (x : PlatformExchange) → slice_get p.exchanges at ≡ Some x → Fits b p.row x

pub begun_fit : (b : BindingCell) (p : Place) → IsFit b p
    → IsFit b (record p { exchanges = p.exchanges ++ new_exchange ∷ [] })
begun_fit b p h = record {
  life = begun_sound b.life p h.life;
  credentials = h.credentials;
  fits = all_pushed (λ (k : ℕ) (y : PlatformExchange). Fits b p.row y) p.exchanges new_exchange (λ k. refl) h.fits;
}

exchange_fit : (b : BindingCell) (p : Place) (at : ℕ) (x : PlatformExchange) → IsSound (world_of b.life (with_exchange p at x))
    → Fits b p.row x → IsFit b p → IsFit b (with_exchange p at x)
exchange_fit b p at x life fit h = record {
  life = life;
  credentials = h.credentials;
  fits = all_put (λ (k : ℕ) (y : PlatformExchange). Fits b p.row y) p.exchanges at x fit h.fits;
}

-- ---- answers

clash : (x : Bool) (P : Type 0) → x ≡ true → x ≡ false → P
clash true P e f = cc
clash false P e f = cc

both_true : (x y : Bool) (P : Type 0) → x ≡ true → y ≡ true → (x && y) ≡ false → P
both_true true y P e f g = clash y P f g
both_true false y P e f g = cc

-- the answer to a Poll that ends the polling waits for that to a Fetch
heard_by : (x : Bool) (b : BindingCell) (row : Option Recorded) (n : ℕ) (f : Bool) (a : Answer) (credentials : Option ℕ)
    (source : Source) → (f && ends_polling a) ≡ x → (IsInFlight row n → polls row ≡ f)
    → ((v : ℕ) → credentials ≡ Some v → IsGivenAt source (λ at. slice_get b.answers at ≡ Some v))
    → (ends_polling a ≡ true → IsGivenAt source (λ at. ⊤))
    → FitsAt b row (if x then PlatformStage.Fetch n a else PlatformStage.Take n (Some a) (true && is_some credentials)) source
    credentials 0
heard_by true b row n f a credentials source e fit with ends =
    (λ out. fit out ∙ first_of f (ends_polling a) e, ends (second_of f (ends_polling a) e))
heard_by false b row n f a credentials source e fit with ends = (
  refl,
  λ v is. given_map source (λ (at : ℕ). slice_get b.answers at ≡ Some v)
      (λ (at : ℕ). IsInFlight row n → IsFromEither b row a 0 v at)
      (λ at has out. (
        λ not. has,
        λ does last. both_true f (ends_polling a) (slice_get b.fetched 0 ≡ Some v) (sym (fit out) ∙ does) last e,
      ))
      (with v is),
)

heard_at : (b : BindingCell) (row : Option Recorded) (sent : Sent) (f : Bool) (a : Option Answer) (credentials : Option ℕ)
    (source : Source) → (IsInFlight row sent.attempt → polls row ≡ f) → Comes b.answers a credentials source
    → FitsAt b row (answered_at true a (is_some credentials) (PlatformStage.Send sent f)) source credentials 0
heard_at b row sent f None credentials source fit comes = tt
heard_at b row sent f (Some a) credentials source fit comes =
    heard_by (f && ends_polling a) b row sent.attempt f a credentials source refl fit comes.with (comes.ends a refl)

heard_fit : (b : BindingCell) (p : Place) (at : ℕ) (sent : Sent) (f : Bool) → IsWaiting b.life p at sent.attempt
    → (IsInFlight p.row sent.attempt → polls p.row ≡ f) → IsFit b p
    → Hears (IsFit b) true b.life b.answers p at sent f
heard_fit b p at sent f wait fit h a credentials source from comes =
    exchange_fit b p at _ (heard_sound b.life p at true sent f a credentials source from wait h.life)
    (heard_at b p.row sent f a credentials source fit comes) h

pub answer_fit : (reading : ℕ → Wishes → PlatformReading) (b : BindingCell) (p : Place) (at : ℕ) (x : PlatformExchange)
    (sealed : Bool) (source : Source) → slice_get p.exchanges at ≡ Some x → IsFit b p
    → IsFit b (answer_by (around_of true reading b.life b.answers b.fetched) p at sealed source x.stage)
answer_fit reading b p at x sealed source is h =
    let there = found_of p.exchanges at x is in
    answer_comes (IsFit b) true reading b.life b.answers b.fetched p at sealed source x.stage
    (λ sent f e. heard_fit b p at sent f
    (waiting b.life p at x.stage x.source sent f e (h.life.knows at _ there) (h.life.owns at _ there))
    (subst (λ (stage : PlatformStage). FitsAt b p.row stage x.source x.credentials x.fetched) e (h.fits at x is)) h) h

-- ---- a Fetch's answer

sealed_is : (sealed : Bool) (o : Option ℕ) (v : ℕ) → sealed_if sealed o ≡ Some v → o ≡ Some v
sealed_is true o v e = e
sealed_is false o v e = cc

fetched_at_stage : (reading : ℕ → Wishes → PlatformReading) (b : BindingCell) (p : Place) (at : ℕ) (x : PlatformExchange)
    (from : ℕ) (sealed : Bool) (stage : PlatformStage) → KnowsAt b.life (stage_of stage) x.source
    → (HasInFlight p.row (stage_of stage) → p.owner ≡ Some at)
    → FitsAt b p.row stage x.source x.credentials x.fetched → IsFit b p
    → IsFit b (fetched_by (around_of true reading b.life b.answers b.fetched) p at x from sealed stage)
fetched_at_stage reading b p at x from sealed (PlatformStage.Fetch n a) know own fit h =
    exchange_fit b p at _ (exchange_sound b.life p at _ know own h.life) (
      refl,
      λ v is. given_map x.source (λ (k : ℕ). ⊤) (λ (k : ℕ). IsInFlight p.row n → IsFromEither b p.row a from v k)
          (λ k t out. (
            λ not. clash (polls p.row) (slice_get b.answers k ≡ Some v) (fit.0 out) not,
            λ does ends. sealed_is sealed (slice_get b.fetched from) v is,
          ))
          fit.1,
    ) h
fetched_at_stage reading b p at x from sealed PlatformStage.Claim know own fit h = h
fetched_at_stage reading b p at x from sealed (PlatformStage.Send sent f) know own fit h = h
fetched_at_stage reading b p at x from sealed (PlatformStage.Take n a y) know own fit h = h
fetched_at_stage reading b p at x from sealed (PlatformStage.Unsure n) know own fit h = h
fetched_at_stage reading b p at x from sealed PlatformStage.Done know own fit h = h

pub fetched_fit : (reading : ℕ → Wishes → PlatformReading) (b : BindingCell) (p : Place) (at : ℕ) (x : PlatformExchange)
    (from : ℕ) (sealed : Bool) → slice_get p.exchanges at ≡ Some x → IsFit b p
    → IsFit b (fetched_by (around_of true reading b.life b.answers b.fetched) p at x from sealed x.stage)
fetched_fit reading b p at x from sealed is h =
    let there = found_of p.exchanges at x is in
    fetched_at_stage reading b p at x from sealed x.stage (h.life.knows at _ there) (h.life.owns at _ there) (h.fits at x is) h
