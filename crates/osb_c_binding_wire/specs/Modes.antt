-- Why a document doesn't say how its plans bind, as a status. That each has one is this project's choice.
use Rattle.osb_binding_wire.specs.declared.catalogue.BindingModeFault.{BindingModeFault}
use Rattle.osb_c_types.specs.declared.status.Status.{Status}
use Rattle.osb_c_types.specs.declared.status.Status.TheVariants.{NotABoolean, NotRetrievable}
use Rattle.osb_c_wire.specs.Catalogues.{document_status}

abbrev pub mode_status : BindingModeFault → Status
mode_status (BindingModeFault.Plans fault) = document_status fault
mode_status BindingModeFault.NotABoolean = NotABoolean
mode_status BindingModeFault.NotRetrievable = NotRetrievable
