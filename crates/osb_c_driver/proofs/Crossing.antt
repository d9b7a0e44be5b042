-- A driver that crosses comes back, and what holds of the values that crossed.
use Rattle.std.proofs.Common.{◌≡◌, ℕ, Bool, true, false, refl, sym, ap, subst, ◌∙◌, List}
use Rattle.std.specs.Prelude.{Option, Some, None, IsSome, not, option_and_then, if◌then◌else◌, ◌&&◌, IsSomeAnd}
use Rattle.std.specs.Str.{bytes_eq}
use Rattle.osb_message.specs.declared.catalogue.Mode.{Mode}
use Rattle.osb_message.specs.declared.messages.Request.{Request}
use Rattle.osb_instance.specs.Held.{Held}
use Rattle.osb_driver.specs.Driver.{at_stage}
use Rattle.osb_driver.specs.declared.driver.Driver.{Driver}
use Rattle.osb_driver.specs.declared.driver.Stage.{Stage}
use Rattle.osb_c_types.specs.Modes.{mode_of}
use Rattle.osb_c_types.specs.Requests.{request_of}
use Rattle.osb_c_instance.specs.Holdings.{held_of}
use Rattle.osb_c_instance.specs.declared.holdings.OsbHolding.{OsbHolding}
use Rattle.osb_c_instance.proofs.Crossed.{some_and}
use Rattle.osb_driver.specs.declared.worker.Worker.{Worker}
use Rattle.osb_c_driver.specs.Drivers.{IsWorked, IsWorker, attempt_of, can_be, driver_of, is_number, nobody, possible}
use Rattle.osb_c_driver.specs.Drivers.{stage_of}
use Rattle.osb_c_driver.specs.Reads.{IsGiven, IsGivenOf, IsRead, is_owner}
use Rattle.osb_c_driver.specs.Workers.{can_work, has_worker, worker_of}
use Rattle.osb_c_driver.specs.declared.drivers.OsbDriver.{OsbDriver}
use Rattle.osb_c_driver.specs.declared.readings.OsbReading.{OsbReading}

abbrev attempt_in : Option Driver → Option ℕ
attempt_in None = None
attempt_in (Some d) = d.attempt

abbrev can_in : Option Driver → Bool
can_in None = false
can_in (Some d) = can_be d.attempt d.stage

possible_attempt : (a : Option ℕ) (stage : Stage) (c : Bool) (d : Driver)
    → (if c then Some (at_stage a stage) else None) ≡ Some d → d.attempt ≡ a
possible_attempt a stage true d e = sym (ap attempt_in e)
possible_attempt a stage false d e = cc

possible_can : (a : Option ℕ) (stage : Stage) (c : Bool) (d : Driver) → can_be a stage ≡ c
    → (if c then Some (at_stage a stage) else None) ≡ Some d → can_be d.attempt d.stage ≡ true
possible_can a stage true d h e = sym (ap can_in e) ∙ h
possible_can a stage false d h e = cc

crossed_number : (b : Bool) (a : Option ℕ) (stage : Option Stage) (d : Driver)
    → (if b then option_and_then (possible a) stage else None) ≡ Some d → b ≡ true
crossed_number true a stage d e = refl
crossed_number false a stage d e = cc

crossed_attempt : (b : Bool) (a : Option ℕ) (stage : Option Stage) (d : Driver)
    → (if b then option_and_then (possible a) stage else None) ≡ Some d → d.attempt ≡ a
crossed_attempt true a None d e = cc
crossed_attempt true a (Some stage) d e = possible_attempt a stage (can_be a stage) d e
crossed_attempt false a stage d e = cc

crossed_can : (b : Bool) (a : Option ℕ) (stage : Option Stage) (d : Driver)
    → (if b then option_and_then (possible a) stage else None) ≡ Some d → can_be d.attempt d.stage ≡ true
crossed_can true a None d e = cc
crossed_can true a (Some stage) d e = possible_can a stage (can_be a stage) d refl e
crossed_can false a stage d e = cc

-- a driver that crossed can come about
pub driver_can : (o : OsbDriver) (d : Driver) → driver_of o ≡ Some d → can_be d.attempt d.stage ≡ true
driver_can o d e = crossed_can (is_number o.number && has_worker o) (attempt_of o.is_request) (stage_of o) d e

-- no driver has the number of nobody
is_nobody : (b : Bool) → not b ≡ true → b ≡ false
is_nobody true h = cc
is_nobody false h = refl

number_there : (b : Bool) (o : Option Driver) → IsSome (if b then o else None) → b ≡ true
number_there true o h = refl
number_there false o h = cc

both : (a b : Bool) → (a && b) ≡ true → a ≡ true
both true b h = refl
both false b h = cc

pub not_nobody : (d : OsbDriver) (number : List ℕ) (worker : Bool) → (is_number d.number && worker) ≡ true
    → number ≡ nobody → is_owner d number ≡ false
not_nobody d number worker there e =
    ap (λ (n : List ℕ). bytes_eq d.number n) e
    ∙ is_nobody (bytes_eq d.number nobody) (both (is_number d.number) worker there)

pub nobody_owns : (d : OsbDriver) (number : List ℕ) → IsSome (driver_of d) → number ≡ nobody
    → is_owner d number ≡ false
nobody_owns d number there e =
    not_nobody d number (has_worker d) (number_there (is_number d.number && has_worker d)
    (option_and_then (possible (attempt_of d.is_request)) (stage_of d)) there) e

-- the driver that a struct of its members stands for
pub stands : (n : OsbDriver) (d : Driver) → is_number n.number ≡ true → has_worker n ≡ true
    → attempt_of n.is_request ≡ d.attempt → stage_of n ≡ Some d.stage → can_be d.attempt d.stage ≡ true
    → driver_of n ≡ Some d
stands n d number worker attempt stage can =
    ap (λ (b : Bool). if b && has_worker n then option_and_then (possible (attempt_of n.is_request)) (stage_of n)
    else None) number
    ∙ ap (λ (b : Bool). if b then option_and_then (possible (attempt_of n.is_request)) (stage_of n) else None) worker
    ∙ ap (λ (s : Option Stage). option_and_then (possible (attempt_of n.is_request)) s) stage
    ∙ ap (λ (a : Option ℕ). possible a d.stage) attempt
    ∙ ap (λ (b : Bool). if b then Some (at_stage d.attempt d.stage) else None) can

-- a driver of the same number comes back at its next stage
pub moved : (o n : OsbDriver) (before after : Driver) → n.number ≡ o.number → n.is_request ≡ o.is_request
    → has_worker n ≡ true → stage_of n ≡ Some after.stage → driver_of o ≡ Some before
    → after.attempt ≡ before.attempt → can_be after.attempt after.stage ≡ true → driver_of n ≡ Some after
moved o n before after number request worker stage was same can =
    stands n after
    (ap (λ (x : List ℕ). is_number x) number
    ∙ both (is_number o.number) (has_worker o)
    (crossed_number (is_number o.number && has_worker o) (attempt_of o.is_request) (stage_of o) before was))
    worker
    (ap (λ (r : Bool). attempt_of r) request
    ∙ sym (crossed_attempt (is_number o.number && has_worker o) (attempt_of o.is_request) (stage_of o) before was)
    ∙ sym same)
    stage can

-- the same of one that is as it should be
pub moved_as : (o n : OsbDriver) (before after wanted : Driver)
    → ((d : Driver) → driver_of o ≡ Some d → after.attempt ≡ d.attempt → can_be after.attempt after.stage ≡ true
    → driver_of n ≡ Some after)
    → Some before ≡ driver_of o → after ≡ wanted → wanted.attempt ≡ before.attempt
    → can_be wanted.attempt wanted.stage ≡ true → driver_of n ≡ Some wanted
moved_as o n before after wanted moves was is same can =
    moves before (sym was) (ap (λ (d : Driver). d.attempt) is ∙ same)
    (ap (λ (d : Driver). can_be d.attempt d.stage) is ∙ can)
    ∙ ap (λ (d : Driver). Some d) is

pub read : (r : OsbReading) (P : Held → Option Mode → Option Mode → Request → Type 0) (held : Held)
    (row_mode mode : Option Mode) (q : Request) → Some held ≡ held_of r.holding → Some row_mode ≡ mode_of r.row_mode
    → Some mode ≡ mode_of r.mode → Some q ≡ request_of r.request → P held row_mode mode q → IsRead r P
read r P held row_mode mode q e f g h p =
    some_and (held_of r.holding) held
    (λ x. IsSomeAnd (mode_of r.row_mode) (λ y. IsSomeAnd (mode_of r.mode) (λ z.
    IsSomeAnd (request_of r.request) (λ w. P x y z w)))) e
    (some_and (mode_of r.row_mode) row_mode
    (λ y. IsSomeAnd (mode_of r.mode) (λ z. IsSomeAnd (request_of r.request) (λ w. P held y z w))) f
    (some_and (mode_of r.mode) mode (λ z. IsSomeAnd (request_of r.request) (λ w. P held row_mode z w)) g
    (some_and (request_of r.request) q (λ w. P held row_mode mode w) h p)))

pub given : (d : OsbDriver) (r : OsbReading)
    (P : Driver → Held → Option Mode → Option Mode → Request → Type 0) (driver : Driver) (held : Held)
    (row_mode mode : Option Mode) (q : Request) → Some driver ≡ driver_of d → Some held ≡ held_of r.holding
    → Some row_mode ≡ mode_of r.row_mode → Some mode ≡ mode_of r.mode → Some q ≡ request_of r.request
    → P driver held row_mode mode q → IsGiven d r P
given d r P driver held row_mode mode q e f g h k p =
    some_and (driver_of d) driver (λ x. IsRead r (λ y z u w. P x y z u w)) e
    (read r (λ y z u w. P driver y z u w) held row_mode mode q f g h k p)

pub given_of : (d : OsbDriver) (r : OsbReading) (i : OsbHolding)
    (P : Driver → Held → Held → Option Mode → Option Mode → Request → Type 0) (driver : Driver)
    (held instance : Held) (row_mode mode : Option Mode) (q : Request) → Some driver ≡ driver_of d
    → Some held ≡ held_of r.holding → Some instance ≡ held_of i → Some row_mode ≡ mode_of r.row_mode
    → Some mode ≡ mode_of r.mode → Some q ≡ request_of r.request → P driver held instance row_mode mode q
    → IsGivenOf d r i P
given_of d r i P driver held instance row_mode mode q e f j g h k p =
    some_and (driver_of d) driver (λ x. IsSomeAnd (held_of i) (λ v. IsRead r (λ y z u w. P x y v z u w))) e
    (some_and (held_of i) instance (λ v. IsRead r (λ y z u w. P driver y v z u w)) j
    (read r (λ y z u w. P driver y instance z u w) held row_mode mode q f g h k p))

-- what follows for a driver whose worker is as it should be
pub reported : (o n : OsbDriver) (d : Driver) (w wanted : Worker)
    → ((was : Driver) → driver_of o ≡ Some was → d.attempt ≡ was.attempt → can_be d.attempt d.stage ≡ true
    → can_work w ≡ true → IsWorked d w n)
    → Some d ≡ driver_of o → can_be d.attempt d.stage ≡ true → w ≡ wanted → can_work wanted ≡ true
    → IsWorked d wanted n
reported o n d w wanted worked is can same possible =
    subst (λ (x : Worker). IsWorked d x n) same
    (worked d (sym is) refl can (ap (λ (x : Worker). can_work x) same ∙ possible))

pub worker_there : (o : OsbDriver) (d : Driver) (w : Worker) (P : Driver → Worker → Type 0) → Some d ≡ driver_of o
    → Some w ≡ worker_of o → P d w → IsWorker o P
worker_there o d w P e f p =
    some_and (driver_of o) d (λ x. IsSomeAnd (worker_of o) (λ y. P x y)) e
    (some_and (worker_of o) w (λ y. P d y) f p)
