-- A driver that can come about stays one, whatever is reported to it and whatever it reads.
use Rattle.std.proofs.Common.{◌≡◌, ℕ, Bool, true, false, refl}
use Rattle.std.specs.Prelude.{Option, Some, None, IfSome, IsSome, if◌then◌else◌, ◌&&◌, ◌↔◌}
use Rattle.osb_message.specs.declared.catalogue.Mode.{Mode}
use Rattle.osb_message.specs.declared.messages.Answer.{Answer}
use Rattle.osb_message.specs.declared.messages.Request.{Request}
use Rattle.osb_instance.specs.Begin.{can_end, is_operating}
use Rattle.osb_instance.specs.Held.{Held}
use Rattle.osb_instance.specs.declared.digest.Digest.{Digest}
use Rattle.osb_instance.specs.declared.outcome.WorkOutcome.{WorkOutcome}
use Rattle.osb_instance.specs.declared.work.Begun.{Begun}
use Rattle.osb_instance.specs.declared.work.Begun.TheVariants.{Answered}
use Rattle.osb_driver.specs.Driver.{end, end_of, finish, finish_by, finished, first, first_by, locked, missed}
use Rattle.osb_driver.specs.Driver.{resume, take_up_by, transaction, unsure, worked_by}
use Rattle.osb_driver.specs.declared.driver.Driver.{Driver}
use Rattle.osb_driver.specs.declared.driver.Permit.{Permit}
use Rattle.osb_driver.specs.declared.driver.Stage.{Stage}
use Rattle.osb_driver.specs.declared.driver.Task.{Task}
use Rattle.osb_driver.specs.declared.driver.Transaction.{Transaction}
use Rattle.osb_binding.specs.declared.request.BindingRequest.{BindingRequest}
use Rattle.osb_binding_driver.specs.Driver.{binding_transaction}
use Rattle.osb_binding.specs.Requests.{life_request}
use Rattle.osb_driver.specs.Worker.{is_done}
use Rattle.osb_driver.specs.declared.worker.WorkerStage.{WorkerStage}
use Rattle.osb_c_driver.specs.Drivers.{after_lock, attempt_of, begun, can_be, is_transaction}
use Rattle.osb_c_driver.specs.Workers.{stage_after}

-- ---- what is reported

pub locked_kept : (a : Option ℕ) (stage : Stage) → can_be a stage ≡ true → can_be a (locked stage) ≡ true
locked_kept a Stage.TryLock h = cc
locked_kept (Some n) Stage.AwaitLock h = refl
locked_kept None Stage.AwaitLock h = refl
locked_kept a (Stage.Begin l) h = h
locked_kept a (Stage.Work t) h = h
locked_kept a (Stage.End o b) h = h
locked_kept a (Stage.Finish ok) h = h
locked_kept a Stage.Unsure h = h
locked_kept a (Stage.Answer x) h = h
locked_kept a Stage.Done h = h

pub missed_kept : (a : Option ℕ) (stage : Stage) → can_be a stage ≡ true → can_be a (missed a stage) ≡ true
missed_kept a Stage.TryLock h = cc
missed_kept (Some n) Stage.AwaitLock h = refl
missed_kept None Stage.AwaitLock h = refl
missed_kept a (Stage.Begin l) h = h
missed_kept a (Stage.Work t) h = h
missed_kept a (Stage.End o b) h = h
missed_kept a (Stage.Finish ok) h = h
missed_kept a Stage.Unsure h = h
missed_kept a (Stage.Answer x) h = h
missed_kept a Stage.Done h = h

pub lock_kept : (has : Bool) (d : Driver) → can_be d.attempt d.stage ≡ true
    → can_be (after_lock has d).attempt (after_lock has d).stage ≡ true
lock_kept true d h = locked_kept d.attempt d.stage h
lock_kept false d h = missed_kept d.attempt d.stage h

pub lock_attempt : (has : Bool) (d : Driver) → (after_lock has d).attempt ≡ d.attempt
lock_attempt true d = refl
lock_attempt false d = refl

pub begun_can : (is_request has : Bool) → can_be (begun is_request has).attempt (begun is_request has).stage ≡ true
begun_can true true = refl
begun_can true false = refl
begun_can false true = refl
begun_can false false = refl

pub begun_attempt : (is_request has : Bool) → attempt_of is_request ≡ (begun is_request has).attempt
begun_attempt is_request true = refl
begun_attempt is_request false = refl

pub worked_kept : (o : WorkOutcome) (ok : Bool) (a : Option ℕ) (stage : Stage) → can_be a stage ≡ true
    → can_be a (finished ok (worked_by o stage)) ≡ true
worked_kept o ok (Some n) (Stage.Work (Task.Pending q)) h = refl
worked_kept o ok None (Stage.Work (Task.Pending q)) h = refl
worked_kept o ok (Some n) (Stage.Work Task.Operation) h = cc
worked_kept o ok None (Stage.Work Task.Operation) h = refl
worked_kept o ok a Stage.TryLock h = h
worked_kept o ok a Stage.AwaitLock h = h
worked_kept o ok a (Stage.Begin l) h = h
worked_kept o ok a (Stage.End p b) h = h
worked_kept o ok a (Stage.Finish b) h = h
worked_kept o ok a Stage.Unsure h = h
worked_kept o ok a (Stage.Answer x) h = h
worked_kept o ok a Stage.Done h = h

pub work_kept : (at : WorkerStage) (a : Option ℕ) (stage : Stage) → can_be a stage ≡ true
    → can_be a (stage_after at stage) ≡ true
work_kept (WorkerStage.Ended o) a stage h = worked_kept o (is_done o) a stage h
work_kept (WorkerStage.Look l) a stage h = h
work_kept (WorkerStage.Sync l) a stage h = h
work_kept WorkerStage.Try a stage h = h
work_kept WorkerStage.Undo a stage h = h
work_kept WorkerStage.Unknown a stage h = h

-- ---- what is read

first_by_kept : (n : ℕ) (l put_off : Bool) (row : Held) (q : Request) (after : Held) (begun : Begun)
    → can_be (Some n) (first_by l put_off row q after begun).stage ≡ true
first_by_kept n l put_off row q after (Answered x) = refl
first_by_kept n true put_off row q after (Begun.Work w) = refl
first_by_kept n false put_off row q after (Begun.Work w) = refl

pub first_kept : (n : ℕ) (l own put_off : Bool) (row : Held) (q : Request) (begun : Held × Begun)
    → can_be (Some n) (first l own put_off row q begun).stage ≡ true
first_kept n l true put_off row q begun = refl
first_kept n l false put_off row q begun = first_by_kept n l put_off row q begun.0 begun.1

pub take_up_kept : (work : Option Request) (operating waiting : Bool) (row : Held)
    → can_be None (take_up_by work operating waiting row).stage ≡ true
take_up_kept (Some q) operating waiting row = refl
take_up_kept None true waiting row = refl
take_up_kept None false true row = refl
take_up_kept None false false row = refl

pub resume_kept : (a : Option ℕ) (own : Bool) (row : Held) (work : Option Request)
    → can_be a (resume own row work).stage ≡ true
resume_kept (Some n) false row work = refl
resume_kept None false row work = refl
resume_kept (Some n) true row None = refl
resume_kept None true row None = refl
resume_kept (Some n) true row (Some q) = refl
resume_kept None true row (Some q) = refl

if_kept : (b : Bool) (a : Option ℕ) (t u : Transaction) → can_be a t.stage ≡ true → can_be a u.stage ≡ true
    → can_be a (if b then t else u).stage ≡ true
if_kept true a t u h k = h
if_kept false a t u h k = k

end_of_kept : (a : Option ℕ) (mode : Option Mode) (row : Held) (o : WorkOutcome) (before : Option Answer)
    (work : Option Request) → can_be a (Stage.End o before) ≡ true → can_be a (end_of a mode row o before work).stage ≡ true
end_of_kept (Some n) mode row o None None h = refl
end_of_kept None mode row o None None h = refl
end_of_kept (Some n) mode row o (Some x) None h = refl
end_of_kept None mode row o (Some x) None h = cc
end_of_kept (Some n) mode row o before (Some q) h = if_kept (can_end q.kind o) (Some n) _ _ refl refl
end_of_kept None mode row o before (Some q) h = if_kept (can_end q.kind o) None _ _ refl refl

pub end_kept : (a : Option ℕ) (own : Bool) (mode : Option Mode) (row : Held) (o : WorkOutcome) (before : Option Answer)
    (work : Option Request) → can_be a (Stage.End o before) ≡ true
    → can_be a (end a own mode row o before work).stage ≡ true
end_kept (Some n) false mode row o before work h = refl
end_kept None false mode row o before work h = refl
end_kept a true mode row o before work h = end_of_kept a mode row o before work h

finish_by_kept : (a : Option ℕ) (operating : Bool) (row : Held) (ok : Bool)
    → can_be a (finish_by operating row ok).stage ≡ true
finish_by_kept (Some n) true row ok = refl
finish_by_kept (Some n) false row ok = refl
finish_by_kept None true row ok = refl
finish_by_kept None false row ok = refl

pub finish_kept : (a : Option ℕ) (own : Bool) (row : Held) (ok : Bool) → can_be a (finish own row ok).stage ≡ true
finish_kept (Some n) false row ok = refl
finish_kept None false row ok = refl
finish_kept a true row ok = finish_by_kept a (is_operating row) row ok

pub transaction_kept : (a : Option ℕ) (stage : Stage) (own : Bool) (p : Permit) (mode : Option Mode)
    (first_poll : Bool) (row : Held) (q : Request) (attributes : Digest) → can_be a stage ≡ true
    → IfSome (transaction a stage own p mode first_poll row q attributes) (λ tx. can_be a tx.stage ≡ true)
transaction_kept (Some n) (Stage.Begin l) own p mode first_poll row q attributes h = first_kept n l own _ row q _
transaction_kept None (Stage.Begin l) own p mode first_poll row q attributes h =
    take_up_kept row.work (is_operating row) (row.waiting && p.give_up) row
transaction_kept a Stage.Unsure own p mode first_poll row q attributes h = resume_kept a own row row.work
transaction_kept a (Stage.End o before) own p mode first_poll row q attributes h =
    end_kept a own mode row o before row.work h
transaction_kept a (Stage.Finish ok) own p mode first_poll row q attributes h = finish_kept a own row ok
transaction_kept a Stage.TryLock own p mode first_poll row q attributes h = tt
transaction_kept a Stage.AwaitLock own p mode first_poll row q attributes h = tt
transaction_kept a (Stage.Work t) own p mode first_poll row q attributes h = tt
transaction_kept a (Stage.Answer x) own p mode first_poll row q attributes h = tt
transaction_kept a Stage.Done own p mode first_poll row q attributes h = tt

-- exactly these stages have one
pub transaction_there : (a : Option ℕ) (stage : Stage) (own : Bool) (p : Permit) (mode : Option Mode)
    (first_poll : Bool) (row : Held) (q : Request) (attributes : Digest)
    → IsSome (transaction a stage own p mode first_poll row q attributes) ↔ (is_transaction stage ≡ true)
transaction_there a (Stage.Begin l) own p mode first_poll row q attributes = (λ h. refl, λ h. refl)
transaction_there a Stage.Unsure own p mode first_poll row q attributes = (λ h. refl, λ h. refl)
transaction_there a (Stage.End o before) own p mode first_poll row q attributes = (λ h. refl, λ h. refl)
transaction_there a (Stage.Finish ok) own p mode first_poll row q attributes = (λ h. refl, λ h. refl)
transaction_there a Stage.TryLock own p mode first_poll row q attributes = (λ h. h, λ h. h)
transaction_there a Stage.AwaitLock own p mode first_poll row q attributes = (λ h. h, λ h. h)
transaction_there a (Stage.Work t) own p mode first_poll row q attributes = (λ h. h, λ h. h)
transaction_there a (Stage.Answer x) own p mode first_poll row q attributes = (λ h. h, λ h. h)
transaction_there a Stage.Done own p mode first_poll row q attributes = (λ h. h, λ h. h)

-- ---- the same of a binding's

pub binding_kept : (a : Option ℕ) (stage : Stage) (own give_up : Bool) (mode : Option Mode) (first_poll : Bool)
    (row instance : Held) (r : BindingRequest) (attributes : Digest) → can_be a stage ≡ true
    → IfSome (binding_transaction a stage own give_up mode first_poll row instance r attributes)
    (λ tx. can_be a tx.stage ≡ true)
binding_kept (Some n) (Stage.Begin l) own give_up mode first_poll row instance r attributes h =
    first_kept n l own _ row (life_request r) _
binding_kept None (Stage.Begin l) own give_up mode first_poll row instance r attributes h =
    take_up_kept row.work (is_operating row) (row.waiting && give_up) row
binding_kept a Stage.Unsure own give_up mode first_poll row instance r attributes h = resume_kept a own row row.work
binding_kept a (Stage.End o before) own give_up mode first_poll row instance r attributes h =
    end_kept a own mode row o before row.work h
binding_kept a (Stage.Finish ok) own give_up mode first_poll row instance r attributes h = finish_kept a own row ok
binding_kept a Stage.TryLock own give_up mode first_poll row instance r attributes h = tt
binding_kept a Stage.AwaitLock own give_up mode first_poll row instance r attributes h = tt
binding_kept a (Stage.Work t) own give_up mode first_poll row instance r attributes h = tt
binding_kept a (Stage.Answer x) own give_up mode first_poll row instance r attributes h = tt
binding_kept a Stage.Done own give_up mode first_poll row instance r attributes h = tt

pub binding_there : (a : Option ℕ) (stage : Stage) (own give_up : Bool) (mode : Option Mode) (first_poll : Bool)
    (row instance : Held) (r : BindingRequest) (attributes : Digest)
    → IsSome (binding_transaction a stage own give_up mode first_poll row instance r attributes)
    ↔ (is_transaction stage ≡ true)
binding_there a (Stage.Begin l) own give_up mode first_poll row instance r attributes = (λ h. refl, λ h. refl)
binding_there a Stage.Unsure own give_up mode first_poll row instance r attributes = (λ h. refl, λ h. refl)
binding_there a (Stage.End o before) own give_up mode first_poll row instance r attributes = (λ h. refl, λ h. refl)
binding_there a (Stage.Finish ok) own give_up mode first_poll row instance r attributes = (λ h. refl, λ h. refl)
binding_there a Stage.TryLock own give_up mode first_poll row instance r attributes = (λ h. h, λ h. h)
binding_there a Stage.AwaitLock own give_up mode first_poll row instance r attributes = (λ h. h, λ h. h)
binding_there a (Stage.Work t) own give_up mode first_poll row instance r attributes = (λ h. h, λ h. h)
binding_there a (Stage.Answer x) own give_up mode first_poll row instance r attributes = (λ h. h, λ h. h)
binding_there a Stage.Done own give_up mode first_poll row instance r attributes = (λ h. h, λ h. h)

-- ---- a commit of which nobody knows

unsure_if : (b : Bool) (n : ℕ) (s t : Stage) → can_be (Some n) s ≡ true → can_be (Some n) t ≡ true
    → can_be (Some n) (if b then s else t) ≡ true
unsure_if true n s t h k = h
unsure_if false n s t h k = k

pub unsure_kept : (a : Option ℕ) (stage : Stage) (tx : Transaction) → can_be a (unsure a stage tx) ≡ true
unsure_kept None stage tx = refl
unsure_kept (Some n) (Stage.Begin l) tx = unsure_if tx.takes_over n Stage.Unsure (Stage.Begin l) refl refl
unsure_kept (Some n) Stage.Unsure tx = refl
unsure_kept (Some n) (Stage.End o before) tx = refl
unsure_kept (Some n) (Stage.Finish ok) tx = refl
unsure_kept (Some n) Stage.TryLock tx = refl
unsure_kept (Some n) Stage.AwaitLock tx = refl
unsure_kept (Some n) (Stage.Work t) tx = refl
unsure_kept (Some n) (Stage.Answer x) tx = refl
unsure_kept (Some n) Stage.Done tx = refl
