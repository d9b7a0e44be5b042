-- The events of a platform's transactions happen as they are, and only one that takes an answer changes credentials.
use Rattle.std.proofs.Common.{◌≡◌, ℕ, Bool, true, false, refl, ap, ◌∙◌, List, [], ◌∷◌, ◌++◌}
use Rattle.std.specs.Prelude.{⊤, Option, Some, None, if◌then◌else◌}
use Rattle.osb_instance.specs.Recorded.{Recorded}
use Rattle.osb_network.specs.Cell.{Cell}
use Rattle.osb_network.specs.Steps.{cell_step, cell_steps, is_out}
use Rattle.osb_network.specs.declared.event.Event.{Event}
use Rattle.osb_binding_network.specs.Allowed.{is_ready, of_binding}
use Rattle.osb_binding_network.specs.Binding.{BindingCell, lived, lived_if, recorded_after}
use Rattle.osb_platform_driver.specs.declared.driver.CleanUp.{CleanUp}
use Rattle.osb_platform_driver.specs.declared.driver.Wishes.{Wishes}
use Rattle.osb_platform_driver.specs.declared.world.Source.{Source}
use Rattle.osb_platform_driver.specs.World.{claim_events, clean_up_events, create_events, resume_events, send_events, take_events}
use Rattle.osb_binding_platform_driver.specs.Driver.{wish_if, wishes_of_instance}
use Rattle.osb_binding_platform_driver.specs.ServiceWorld.{lives}
use Rattle.osb_binding_platform_driver.proofs.Network.{AreLet, binding_steps}

-- ---- of a binding

pub record Passes (create work : Bool) (e : Event) : Type 0 where
  pub lets : (forgotten retrievable : Bool) (c : Cell) → of_binding create work forgotten retrievable c e ≡ Some e
  pub still : (answers : List ℕ) (r : ℕ) → recorded_after false true e answers r ≡ r

abbrev pub AllPass : Bool → Bool → List Event → Type 0
AllPass create work [] = ⊤
AllPass create work (e ∷ es) = Passes create work e × AllPass create work es

all_on : (create work : Bool) (xs ys : List Event) → AllPass create work xs → AllPass create work ys
    → AllPass create work (xs ++ ys)
all_on create work [] ys x y = y
all_on create work (e ∷ xs) ys x y = (x.0, all_on create work xs ys x.1 y)

all_if : (create work b : Bool) (xs : List Event) → AllPass create work xs → AllPass create work (if b then xs else [])
all_if create work true xs x = x
all_if create work false xs x = tt

pub recorded_same : (e : Event) (answers : List ℕ) (r : ℕ) (was is : Bool) → recorded_after false true e answers r ≡ r
    → recorded_after was is e answers r ≡ r
recorded_same e answers r true is same = refl
recorded_same e answers r false false same = refl
recorded_same e answers r false true same = same

-- the binding after such events
pub record IsLived (b n : BindingCell) (es : List Event) : Type 0 where
  pub life : n.life ≡ cell_steps b.life es
  pub recorded : n.recorded ≡ b.recorded

pub lives_on : (create work ended : Bool) (b : BindingCell) (es : List Event) → AllPass create work es
    → IsLived b (binding_steps create work ended b (lives es)) es
lives_on create work ended b [] all = record { life = refl; recorded = refl }
lives_on create work ended b (e ∷ es) all =
    let one : lived_if b (of_binding create work b.forgotten b.retrievable b.life e) 0 ≡ lived b e 0 =
    ap (λ (o : Option Event). lived_if b o 0) (all.0.lets b.forgotten b.retrievable b.life) in
    let rest = lives_on create work ended (lived_if b (of_binding create work b.forgotten b.retrievable b.life e) 0) es all.1 in
    record {
      life = rest.life ∙ ap (λ (d : BindingCell). cell_steps d.life es) one;
      recorded = rest.recorded ∙ ap (λ (d : BindingCell). d.recorded) one
          ∙ recorded_same e b.answers b.recorded (is_ready b.life.recorded) (is_ready (cell_step b.life e).recorded)
          (all.0.still b.answers b.recorded);
    }

clean_pass : (create work : Bool) (w : Option CleanUp) → AllPass create work (clean_up_events w)
clean_pass create work None = tt
clean_pass create work (Some CleanUp.Expire) =
    (record { lets = λ f r c. refl; still = λ answers r. refl }, tt)
clean_pass create work (Some CleanUp.Retry) =
    (record { lets = λ f r c. refl; still = λ answers r. refl }, tt)
clean_pass create work (Some CleanUp.Remove) =
    (record { lets = λ f r c. refl; still = λ answers r. refl }, tt)

send_pass : (create work send : Bool) → AllPass create work (send_events send)
send_pass create work true = (record { lets = λ f r c. refl; still = λ answers r. refl }, tt)
send_pass create work false = tt

create_pass : (create work b : Bool) → (b ≡ true → create ≡ true) → AllPass create work (create_events b)
create_pass create work true may = (
  record {
    lets = λ f r c. ap (λ (x : Bool). if x then Some Event.Create else None) (may refl);
    still = λ answers r. refl;
  },
  tt,
)
create_pass create work false may = tt

pub claim_pass : (create work : Bool) (w : Wishes) (row : Option Recorded) → (w.create ≡ true → create ≡ true)
    → AllPass create work (claim_events w row)
claim_pass create work w None may = create_pass create work w.create may
claim_pass create work w (Some r) may = (
  record { lets = λ f r c. refl; still = λ answers r. refl },
  all_on create work (clean_up_events w.clean_up) (send_events w.send) (clean_pass create work w.clean_up)
      (send_pass create work w.send),
)

timeout_pass : (create work : Bool) → AllPass create work (Event.Timeout ∷ [])
timeout_pass create work = (record { lets = λ f r c. refl; still = λ answers r. refl }, tt)

pub nowhere_pass : (create work : Bool) (row : Option Recorded) (n : ℕ)
    → AllPass create work (take_events row n Source.Nowhere)
nowhere_pass create work row n = all_if create work (is_out row n) (Event.Timeout ∷ []) (timeout_pass create work)

pub garbled_pass : (create work : Bool) (row : Option Recorded) (n at : ℕ)
    → AllPass create work (take_events row n (Source.Garbled at))
garbled_pass create work row n at = (record { lets = λ f r c. refl; still = λ answers r. refl }, tt)

pub gateway_pass : (create work : Bool) (row : Option Recorded) (n status : ℕ)
    → AllPass create work (take_events row n (Source.Gateway status))
gateway_pass create work row n status =
    all_if create work (is_out row n) (Event.TakeGateway status ∷ [])
    (record { lets = λ f r c. refl; still = λ answers r. refl }, tt)

pub resume_pass : (create work own : Bool) (row : Option Recorded) (n : ℕ)
    → AllPass create work (resume_events own row n)
resume_pass create work true row n = nowhere_pass create work row n
resume_pass create work false row n = tt

-- ---- of an instance

let_on : (remove work : Bool) (xs ys : List Event) → AreLet remove work xs → AreLet remove work ys
    → AreLet remove work (xs ++ ys)
let_on remove work [] ys x y = y
let_on remove work (e ∷ xs) ys x y = (x.0, let_on remove work xs ys x.1 y)

let_if : (remove work b : Bool) (xs : List Event) → AreLet remove work xs → AreLet remove work (if b then xs else [])
let_if remove work true xs x = x
let_if remove work false xs x = tt

remove_let : (remove work gone : Bool) → (gone ≡ true → remove ≡ true)
    → AreLet remove work (clean_up_events (if gone then Some CleanUp.Remove else None))
remove_let remove work true may = (λ c. ap (λ (x : Bool). if x then Some Event.Remove else None) (may refl), tt)
remove_let remove work false may = tt

clean_let : (remove work gone : Bool) (w : Option CleanUp) → (gone ≡ true → remove ≡ true)
    → AreLet remove work (clean_up_events (wish_if gone w))
clean_let remove work gone None may = tt
clean_let remove work gone (Some CleanUp.Expire) may = (λ c. refl, tt)
clean_let remove work gone (Some CleanUp.Retry) may = (λ c. refl, tt)
clean_let remove work gone (Some CleanUp.Remove) may = remove_let remove work gone may

send_let : (remove work send : Bool) → AreLet remove work (send_events send)
send_let remove work true = (λ c. refl, tt)
send_let remove work false = tt

create_let : (remove work b : Bool) → AreLet remove work (create_events b)
create_let remove work true = (λ c. refl, tt)
create_let remove work false = tt

-- a removal happens if each binding is gone
pub claim_let : (remove work gone : Bool) (w : Wishes) (row : Option Recorded) → (gone ≡ true → remove ≡ true)
    → AreLet remove work (claim_events (wishes_of_instance gone w) row)
claim_let remove work gone w None may = create_let remove work w.create
claim_let remove work gone w (Some r) may = (
  λ c. refl,
  let_on remove work (clean_up_events (wish_if gone w.clean_up)) (send_events w.send)
      (clean_let remove work gone w.clean_up may) (send_let remove work w.send),
)

pub take_let : (remove work : Bool) (row : Option Recorded) (n : ℕ) (source : Source)
    → AreLet remove work (take_events row n source)
take_let remove work row n Source.Nowhere = let_if remove work (is_out row n) (Event.Timeout ∷ []) (λ c. refl, tt)
take_let remove work row n (Source.Given at) = (λ c. refl, tt)
take_let remove work row n (Source.Garbled at) = (λ c. refl, tt)
take_let remove work row n (Source.Gateway status) =
    let_if remove work (is_out row n) (Event.TakeGateway status ∷ []) (λ c. refl, tt)

pub resume_let : (remove work own : Bool) (row : Option Recorded) (n : ℕ) → AreLet remove work (resume_events own row n)
resume_let remove work true row n = take_let remove work row n Source.Nowhere
resume_let remove work false row n = tt
