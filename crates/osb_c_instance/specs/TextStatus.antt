-- Why a text names no record, or no holding, as a status. That each has one is this project's choice.
use Rattle.osb_instance.specs.declared.faults.TextFault.{TextFault}
use Rattle.osb_c_types.specs.declared.status.Status.{Status}
use Rattle.osb_c_types.specs.declared.status.Status.TheVariants.{NotJson, NotAnObject, BadVersion, BadOuter, BadMember}
use Rattle.osb_c_types.specs.declared.status.Status.TheVariants.{Impossible, Memory}

abbrev pub text_status : TextFault → Status
text_status TextFault.NotJson = NotJson
text_status TextFault.NotAnObject = NotAnObject
text_status TextFault.BadVersion = BadVersion
text_status TextFault.BadOuter = BadOuter
text_status TextFault.BadMember = BadMember
text_status TextFault.Impossible = Impossible
text_status TextFault.Memory = Memory
