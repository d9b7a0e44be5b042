-- The instance is settled first, and then all of its bindings, or some if memory ran out.
use Rattle.std.proofs.Common.{◌∙◌}
use Rattle.osb_network.proofs.PartWay.{left}
use Rattle.osb_network_run.proofs.Each.{ascending_ids, service_settled}
use Rattle.osb_network_run.proofs.Partly.{bindings_kept, bindings_partly, instance_settled}
use Rattle.osb_network_run.proofs.settling.settle_service.Goals as goal

pub settle_bindings-requires : goal.settle_bindings-requires
settle_bindings-requires c = record {
  ascending = ascending_ids c.settle_instance.new.service.bindings c.as_slice.result.now
      (c.as_slice.ensures.value ∙ c.in_ok-ids.ensures.keys);
}

pub returns-clause-settled : goal.returns-clause-settled
returns-clause-settled c =
    service_settled c.args.service.now c.settle_instance.new.service c.settle_bindings.new.service c.as_slice.result.now
    c.in_ok-settle_instance.ensures.rules c.in_ok-settle_instance.ensures.instance
    c.in_ok-settle_instance.ensures.bindings (c.as_slice.ensures.value ∙ c.in_ok-ids.ensures.keys)
    c.in_ok-settle_bindings.ensures.rules c.in_ok-settle_bindings.ensures.instance
    c.in_ok-settle_bindings.ensures.settled c.agreement.ensures.agrees

pub returns-in_err-settle_instance-clause-err : goal.returns-in_err-settle_instance-clause-err
returns-in_err-settle_instance-clause-err c =
    left _
    (bindings_kept c.args.service.now c.settle_instance.new.service c.settle_instance.ensures.rules
    c.in_err-settle_instance.ensures.err c.settle_instance.ensures.bindings)

pub returns-in_err-ids-clause-err : goal.returns-in_err-ids-clause-err
returns-in_err-ids-clause-err c =
    left _
    (bindings_kept c.args.service.now c.settle_instance.new.service c.in_ok-settle_instance.ensures.rules
    (instance_settled c.args.service.now.rules.platform c.args.service.now.instance c.settle_instance.new.service.instance
    c.in_ok-settle_instance.ensures.instance) c.in_ok-settle_instance.ensures.bindings)

pub returns-in_err-settle_bindings-clause-err : goal.returns-in_err-settle_bindings-clause-err
returns-in_err-settle_bindings-clause-err c =
    left _
    (bindings_partly c.args.service.now c.settle_instance.new.service c.settle_bindings.new.service
    c.in_ok-settle_instance.ensures.rules
    (instance_settled c.args.service.now.rules.platform c.args.service.now.instance c.settle_instance.new.service.instance
    c.in_ok-settle_instance.ensures.instance) c.in_ok-settle_instance.ensures.bindings
    c.settle_bindings.ensures.rules c.settle_bindings.ensures.instance c.in_err-settle_bindings.ensures.err)
