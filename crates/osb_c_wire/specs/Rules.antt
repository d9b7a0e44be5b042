-- Why a document's catalogue can't be kept, as a status. That each has one is this project's choice.
use Rattle.osb_wire.specs.declared.catalogue_rules.Endpoints.{Endpoints}
use Rattle.osb_wire.specs.declared.catalogue_rules.RuleFault.{RuleFault}
use Rattle.osb_wire.specs.declared.sold_document.DocumentFault.{DocumentFault}
use Rattle.osb_c_types.specs.declared.status.Status.{Status}
use Rattle.osb_c_types.specs.declared.status.Status.TheVariants.{NoName, NameTwice, NoDescription, NotABoolean}
use Rattle.osb_c_types.specs.declared.status.Status.TheVariants.{NoBindable, NoPlan, BindableUnserved, UpdateUnserved}
use Rattle.osb_c_types.specs.declared.status.Status.TheVariants.{InstancesUnserved, BindingsUnserved, SameNumber, Memory}
use Rattle.osb_c_wire.specs.Catalogues.{document_status}
use Rattle.osb_c_wire.specs.declared.rules.OsbEndpoints.{OsbEndpoints}

-- the endpoints that a broker serves
abbrev pub endpoints_of : OsbEndpoints → Endpoints
endpoints_of e =
    record {
      updating = e.updating;
      bindings = e.bindings;
      fetching_instances = e.fetching_instances;
      fetching_bindings = e.fetching_bindings;
    }

abbrev pub rule_status : RuleFault → Status
rule_status RuleFault.NoName = NoName
rule_status RuleFault.NameTwice = NameTwice
rule_status RuleFault.NoDescription = NoDescription
rule_status RuleFault.NotABoolean = NotABoolean
rule_status RuleFault.NoBindable = NoBindable
rule_status RuleFault.NoPlan = NoPlan
rule_status RuleFault.Bindable = BindableUnserved
rule_status RuleFault.PlanUpdateable = UpdateUnserved
rule_status RuleFault.InstancesRetrievable = InstancesUnserved
rule_status RuleFault.BindingsRetrievable = BindingsUnserved
rule_status RuleFault.SameNumber = SameNumber
rule_status RuleFault.Memory = Memory

-- a fault of the plans, or of the rules
abbrev pub fault_status : DocumentFault → Status
fault_status (DocumentFault.Plans fault) = document_status fault
fault_status (DocumentFault.Rule fault) = rule_status fault
