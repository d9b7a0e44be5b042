use Rattle.std.proofs.Common.{◌∙◌, sym, ap, refl}
use Rattle.std.specs.Prelude.{Option, option_and_then}
use Rattle.osb_driver.specs.Worker.{call_of}
use Rattle.osb_driver.specs.declared.worker.Call.{Call}
use Rattle.osb_driver.specs.declared.worker.Worker.{Worker}
use Rattle.osb_c_driver.specs.Workers.{call_code}
use Rattle.osb_c_driver.proofs.Working.{no_look, with_worker}
use Rattle.osb_c_driver.proofs.workers.with_worker.Goals as goal

pub returns-clause-worker : goal.returns-clause-worker
returns-clause-worker c = λ three can known.
    with_worker
    (record {
      number = c.args.driver.number;
      task = c.args.driver.task;
      answer = c.args.driver.answer;
      rejection = c.rejection_out.result;
      stage = c.args.driver.stage;
      outcome = c.args.driver.outcome;
      call = c.call_out.result;
      look = c.look_of_stage.result;
      is_request = c.args.driver.is_request;
      is_locked = c.args.driver.is_locked;
      is_pending = c.args.driver.is_pending;
      creates = c.args.worker.creates;
      has_answer = c.args.driver.has_answer;
      ok = c.args.driver.ok;
    })
    c.args.worker three can known
    (c.call_out.ensures.code ∙ ap (λ (x : Option Call). call_code x) c.call.ensures.call)
    c.look_of_stage.ensures.code c.rejection_out.ensures.status refl

pub returns-clause-plain : goal.returns-clause-plain
returns-clause-plain c = λ three can known plain.
    let call = c.call_out.ensures.code ∙ ap (λ (x : Option Call). call_code x) c.call.ensures.call in
    record {
      task = plain.task;
      answer = plain.answer;
      numbered = plain.numbered;
      outcome = plain.outcome;
      locked = plain.locked;
      pending = plain.pending;
      answered = plain.answered;
      ok = plain.ok;
      call =
          call
          ∙ sym (ap (λ (x : Option Worker). call_code (option_and_then (λ w. call_of w.creates w.stage) x))
          (returns-clause-worker c three can known));
      look = λ a b.
          c.look_of_stage.ensures.code
          ∙ no_look c.args.worker.creates c.args.worker.stage (λ e. a (call ∙ e)) (λ e. b (call ∙ e));
      rejection = λ other. absurd (other three);
      creates = λ other. absurd (other three);
    }
