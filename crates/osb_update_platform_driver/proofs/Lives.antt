-- The instance goes on: it waits for a request of an update exactly as the network does, and the row is shared.
use Rattle.std.proofs.Common.{◌≡◌, ℕ, Bool, true, false, refl, sym, ap, subst, ◌∙◌}
use Rattle.std.specs.Prelude.{Option, Some, None, IsSome, IsSomeAnd, not, ◌&&◌, ◌||◌, ◌==◌, if◌then◌else◌, is_none}
use Rattle.std.specs.Prelude.{is_some}
use Rattle.osb_message.specs.declared.messages.Answer.{Answer}
use Rattle.osb_message.specs.declared.messages.Kind.{Kind}
use Rattle.osb_platform.specs.State.{after_timeout, due}
use Rattle.osb_platform.specs.declared.state.State.{State}
use Rattle.osb_instance.specs.Recorded.{Recorded, is_ready_in}
use Rattle.osb_platform_driver.specs.Driver as instances
use Rattle.osb_platform_driver.specs.World as drivers
use Rattle.osb_platform_driver.specs.declared.driver.CleanUp.{CleanUp}
use Rattle.osb_platform_driver.specs.declared.driver.Stage.{Stage}
use Rattle.osb_update.specs.Begun.{is_available, is_under_way}
use Rattle.osb_update.specs.declared.record.UpdateRecord.{UpdateRecord}
use Rattle.osb_update.specs.declared.settings.Settings.{Settings}
use Rattle.osb_update.specs.declared.state.UpdateKind.{UpdateKind}
use Rattle.osb_update.specs.declared.state.UpdateSent.{UpdateSent}
use Rattle.osb_update_sides.specs.Cell.{UpdatesCell}
use Rattle.osb_update_sides.specs.Life.{goes_on, implies, is_kept, is_kept_by, is_life}
use Rattle.osb_update_sides.specs.Steps.{has_number, is_at, is_settled, may_live, settings_left, updates_step}
use Rattle.osb_update_sides.specs.declared.event.UpdatesEvent.{UpdatesEvent}
use Rattle.osb_update_sides.specs.declared.life.Life.{Life}
use Rattle.osb_update_platform_driver.specs.Driver.{asked, claim, claimed_by, may_ask, may_remove, requested_by}
use Rattle.osb_update_platform_driver.specs.Driver.{stopped_if, brought_up}
use Rattle.osb_update_platform_driver.specs.declared.driver.PlatformUpdateWishes.{PlatformUpdateWishes}
use Rattle.osb_update_platform_driver.specs.declared.driver.UpdateWish.{UpdateWish}
use Rattle.osb_update_platform_driver.specs.World.{IsInFlight, IsReadyAtRest, IsSound, KeepsTheDrivers, LeavesTheRow}
use Rattle.osb_update_platform_driver.specs.World.{TakesNothing}
use Rattle.osb_update_platform_driver.specs.World.{TakesOverAtRest, WaitsAsItMust}
use Rattle.osb_update_platform_driver.specs.World.{WorldState, is_agreed, may_live_in, recorded_in}
use Rattle.osb_update_platform_driver.proofs.Rows.{left, nothing}

-- ---- the rule of the row is that of the network

not_out : (o : Option UpdateKind) → is_none o ≡ not (is_some o)
not_out None = refl
not_out (Some kind) = refl

removes : (first : Settings) (x : Option UpdateRecord) (r : UpdateRecord) → recorded_in first x ≡ r
    → may_remove x ≡ not (is_some r.out)
removes first None r e = ap (λ (y : UpdateRecord). not (is_some y.out)) e
removes first (Some x) r e = not_out x.out ∙ ap (λ (y : UpdateRecord). not (is_some y.out)) e

rule_is : (o k l : Bool) → (not o || (implies k l && true)) ≡ implies (k && o) l
rule_is true true true = refl
rule_is true true false = refl
rule_is true false true = refl
rule_is true false false = refl
rule_is false true true = refl
rule_is false true false = refl
rule_is false false true = refl
rule_is false false false = refl

moved : (r a g x : Bool) → (r && (a && (g && x))) ≡ (a && (g && (r && x)))
moved true a g x = refl
moved false true true x = refl
moved false true false x = refl
moved false false g x = refl

pub waits : WaitsAsItMust
waits s life settings h =
    let out = is_some s.cell.recorded.out in
    let after = is_kept_by life.recorded in
    ap (λ (m : Bool). (m || (implies (is_kept_by s.instance) after && true)) && is_agreed s.cell life settings)
    (removes s.first s.change s.cell.recorded h.change)
    ∙ ap
    (λ (x : Option Recorded). (not out || (implies (is_kept_by x) after && true)) && is_agreed s.cell life settings)
    h.instance
    ∙ ap (λ (m : Bool). m && is_agreed s.cell life settings) (rule_is out (is_kept s.cell.life) after)
    ∙ moved (implies (is_kept s.cell.life && out) after) (is_life s.cell.service life) (goes_on s.cell.life life)
    (implies (is_under_way s.cell.held.phase) (is_available life.holding)
    && implies (is_available life.holding && is_settled s.cell.held.phase)
    (is_at (settings_left s.cell settings) s.cell.held.settings))

-- ---- what the network has then

-- a driver that takes over asks for more
weaker : (m k t a : Bool) → ((m || (k && not t)) && a) ≡ true → ((m || (k && true)) && a) ≡ true
weaker true k t a e = e
weaker false true true a e = cc
weaker false true false a e = e
weaker false false t a e = cc

removable : (m k a : Bool) → ((m || (k && false)) && a) ≡ true → m ≡ true
removable true k a e = refl
removable false true a e = cc
removable false false a e = cc

none_and_some : (o : Option UpdateKind) → is_none o ≡ true → IsSome o → ⊥
none_and_some None e some = cc
none_and_some (Some kind) e some = cc

none_in_flight : (x : Option UpdateRecord) → may_remove x ≡ true → (n : ℕ) → IsInFlight x n → ⊥
none_in_flight None e n out = out
none_in_flight (Some r) e n out = none_and_some r.out e out.0

-- the network's instance goes on, and leaves what is recorded of its updates
pub record Lives (s : WorldState) (life : Life) (settings : Option Settings) (t : Bool) : Type 0 where
  pub is : (updates_step s.cell (UpdatesEvent.Live life settings)).life ≡ life
  pub recorded : (updates_step s.cell (UpdatesEvent.Live life settings)).recorded ≡ s.cell.recorded
  pub rest : t ≡ true → (n : ℕ) → IsInFlight s.change n → ⊥

lived_life : (b : Bool) (c : UpdatesCell) (life : Life) (settings : Option Settings) → b ≡ true
    → (if b then record c { life = life; settings = settings } else c).life ≡ life
lived_life true c life settings e = refl
lived_life false c life settings e = cc

lived_record : (b : Bool) (c : UpdatesCell) (life : Life) (settings : Option Settings)
    → (if b then record c { life = life; settings = settings } else c).recorded ≡ c.recorded
lived_record true c life settings = refl
lived_record false c life settings = refl

rest_of : (s : WorldState) (life : Life) (settings : Option Settings) (t : Bool) → may_live_in s life settings t ≡ true
    → t ≡ true → may_remove s.change ≡ true
rest_of s life settings true may e =
    removable (may_remove s.change) (implies (is_kept_by s.instance) (is_kept_by life.recorded))
    (is_agreed s.cell life settings) may
rest_of s life settings false may e = cc

pub lives : (s : WorldState) (life : Life) (settings : Option Settings) (t : Bool) → IsSound s
    → may_live_in s life settings t ≡ true → Lives s life settings t
lives s life settings t h may =
    let applies : may_live s.cell life settings ≡ true =
    sym (waits s life settings h)
    ∙ weaker (may_remove s.change) (implies (is_kept_by s.instance) (is_kept_by life.recorded)) t
    (is_agreed s.cell life settings) may in
    record {
      is = lived_life (may_live s.cell life settings) s.cell life (settings_left s.cell settings) applies;
      recorded = lived_record (may_live s.cell life settings) s.cell life (settings_left s.cell settings);
      rest = λ e. none_in_flight s.change (rest_of s life settings t may e);
    }

-- ---- a driver of updates takes over at rest

right : (x y : Bool) → (x && y) ≡ true → y ≡ true
right true y e = e
right false y e = cc

is_none_out : (o : Option Kind) → is_none o ≡ true → o ≡ None
is_none_out None e = refl
is_none_out (Some kind) e = cc

takes_if : (m b : Bool) (o : Option (UpdateRecord × UpdateSent)) (rest : Option UpdateRecord)
    → (claimed_by (if m && b then o else None) rest).takes_over ≡ true → m ≡ true
takes_if true b o rest e = refl
takes_if false b o rest e = cc

asked_takes : (wish : Option UpdateWish) (instance : Option Recorded) (r : UpdateRecord) (rest : Option UpdateRecord)
    → (asked instance wish r rest).takes_over ≡ true → may_ask instance ≡ true
asked_takes None instance r rest e = cc
asked_takes (Some wish) instance r rest e =
    takes_if (may_ask instance) (is_none r.out && has_number r) (requested_by wish r) rest e

claim_takes : (w : PlatformUpdateWishes) (first : Settings) (instance : Option Recorded) (x : Option UpdateRecord)
    → (claim w first instance x).takes_over ≡ true → may_ask instance ≡ true
claim_takes w first instance None e = asked_takes w.request instance _ None e
claim_takes w first instance (Some r) e =
    let after = stopped_if w.stop (brought_up r) in asked_takes w.request instance after (Some after) e

asks_at_rest : (instance : Option Recorded) → may_ask instance ≡ true → IsSomeAnd instance IsReadyAtRest
asks_at_rest None e = cc
asks_at_rest (Some r) e = (
  left (is_ready_in r.row.state) (is_none r.row.out) e,
  is_none_out r.row.out (right (is_ready_in r.row.state) (is_none r.row.out) e),
)

pub takes_at_rest : TakesOverAtRest
takes_at_rest w first instance x e = asks_at_rest instance (claim_takes w first instance x e)

-- ---- the drivers of the instance

rests_in : (row : Option Recorded) (n : ℕ) → IsSomeAnd row IsReadyAtRest → drivers.IsInFlight row n → ⊥
rests_in None n rest out = absurd rest
rests_in (Some r) n rest out = nothing (subst IsSome rest.1 out.0)

none_flies : (row : Option Recorded) (stage : Stage) → IsSomeAnd row IsReadyAtRest → drivers.HasInFlight row stage → ⊥
none_flies row (Stage.Send sent) rest out = rests_in row sent.attempt rest out
none_flies row (Stage.Take n a) rest out = rests_in row n rest out
none_flies row Stage.Claim rest out = out
none_flies row (Stage.Unsure n) rest out = out
none_flies row Stage.Done rest out = out

pub keeps_the_drivers : KeepsTheDrivers
keeps_the_drivers s owner rest h = record {
  row = h.row;
  possible = h.possible;
  knows = h.knows;
  owns = λ at x is out. absurd (none_flies s.row x.driver.stage rest out);
}

-- ---- a driver of the instance leaves the row

none_due : (s : State) → is_ready_in s ≡ true → due s ≡ None
none_due State.Ready e = refl
none_due s e = cc

if_both : (b : Bool) (x r : Recorded) → x ≡ r → (if b then x else r) ≡ r
if_both true x r e = e
if_both false x r e = refl

-- nothing that is out is given up, or answered
up_same : (r : Recorded) → r.row.out ≡ None → instances.brought_up r ≡ r
up_same r e =
    ap (λ (o : Option Kind). if is_some o then instances.with_state (after_timeout r.row.state) r else r) e

taken_same : (n : ℕ) (a : Option Answer) (r : Recorded) → r.row.out ≡ None → instances.taken n a r ≡ r
taken_same n None r e = if_both (n == r.attempt) (instances.brought_up r) r (up_same r e)
taken_same n (Some a) r e =
    if_both (n == r.attempt) (instances.taken_out r r.row.out a) r
    (ap (λ (o : Option Kind). instances.taken_out r o a) e)

sent_same : (b : Bool) (id : ℕ) (r : Recorded) → r.row.out ≡ None → due r.row.state ≡ None
    → instances.sent_if b id r ≡ instances.resting (Some r)
sent_same false id r e f = refl
sent_same true id r e f =
    ap (λ (o : Option Kind). instances.sent_by id r o (due r.row.state)) e
    ∙ ap (λ (o : Option Kind). instances.sent_by id r None o) f

pub leaves_the_row : LeavesTheRow
leaves_the_row w id service plan accepts r rest clean =
    ap (λ (x : Option CleanUp). instances.sent_if w.send id (instances.cleaned x (instances.brought_up r))) clean
    ∙ ap (λ (x : Recorded). instances.sent_if w.send id x) (up_same r rest.1)
    ∙ sent_same w.send id r rest.1 (none_due r.row.state rest.0)

given_up_same : (o : Bool) (n : ℕ) (r : Recorded) → r.row.out ≡ None → instances.given_up_if o n (Some r) ≡ Some r
given_up_same true n r e = ap Some (taken_same n None r e)
given_up_same false n r e = refl

pub takes_nothing : TakesNothing
takes_nothing n a o r rest = (ap Some (taken_same n a r rest.1), given_up_same o n r rest.1)
