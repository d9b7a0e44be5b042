-- Why a document names no catalogue, as a status. That each has one is this project's choice.
use Rattle.osb_wire.specs.declared.catalogue_reading.CatalogueFault.{CatalogueFault}
use Rattle.osb_c_types.specs.declared.status.Status.{Status}
use Rattle.osb_c_types.specs.declared.status.Status.TheVariants.{NotJson, NoServices, BadService, NoPlans, BadPlan}
use Rattle.osb_c_types.specs.declared.status.Status.TheVariants.{BadPlanMode, PlanTwice, Memory}

abbrev pub document_status : CatalogueFault → Status
document_status CatalogueFault.NotJson = NotJson
document_status CatalogueFault.NoServices = NoServices
document_status CatalogueFault.BadService = BadService
document_status CatalogueFault.NoPlans = NoPlans
document_status CatalogueFault.BadPlan = BadPlan
document_status CatalogueFault.BadMode = BadPlanMode
document_status CatalogueFault.Repeated = PlanTwice
document_status CatalogueFault.Memory = Memory
