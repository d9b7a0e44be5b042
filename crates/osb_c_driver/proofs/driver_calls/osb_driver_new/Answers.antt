use Rattle.std.proofs.Common.{rules, ◌≡◌, ◌∙◌, ap, true, Bool, List, ℕ}
use Rattle.std.specs.Prelude.{Some, Option}
use Rattle.osb_driver.specs.Driver.{at_stage}
use Rattle.osb_driver.specs.declared.driver.Driver.{Driver}
use Rattle.osb_driver.specs.declared.driver.Stage.{Stage}
use Rattle.osb_c_driver.specs.Drivers.{after_lock, attempt_of, begun, is_number}
use Rattle.osb_c_driver.proofs.Crossing.{stands}
use Rattle.osb_c_driver.proofs.Possible.{begun_attempt, begun_can}
use Rattle.osb_c_driver.proofs.driver_calls.osb_driver_new.Goals as goal

pub returns-clause-new : goal.returns-clause-new
returns-clause-new c =
    let number : is_number c.args.number.now ≡ true = search rules in
    λ done.
    stands c.stage_of_driver.result (begun c.args.is_request c.args.has_lock)
    (ap (λ (n : List ℕ). is_number n) c.stage_of_driver.ensures.number ∙ number)
    c.stage_of_driver.ensures.has_worker
    (ap (λ (r : Bool). attempt_of r) c.stage_of_driver.ensures.request
    ∙ begun_attempt c.args.is_request c.args.has_lock)
    (c.stage_of_driver.ensures.stage
    ∙ ap (λ (d : Driver). Some d.stage) (c.after_lock-begun.ensures.after
    ∙ ap (λ (d : Driver). after_lock c.args.has_lock d) (c.new.ensures.driver
    ∙ ap (λ (a : Option ℕ). at_stage a Stage.TryLock) c.attempt_from.ensures.attempt)))
    (begun_can c.args.is_request c.args.has_lock)
