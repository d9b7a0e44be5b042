-- Requests whose ids have texts of their own, as they cross.
use Rattle.std.specs.Prelude.{◌≡◌, ℕ, List, [], Some}
use Rattle.std.specs.Str.{IsUtf8}
use Rattle.serde_json.specs.Data.{object, Members}
use Rattle.serde_json.specs.Read.{read}
use Rattle.osb_message.specs.declared.messages.Kind.{Kind}
use Rattle.osb_message.specs.declared.messages.Kind.TheVariants.{Provision, Poll, Deprovision}
use Rattle.osb_wire.specs.Provisions.{members_with}
use Rattle.osb_wire.specs.Targets.{Texts}
use Rattle.osb_wire.specs.declared.names.NameFault.{NameFault}
use Rattle.osb_c_types.specs.declared.status.Status.{Status}
use Rattle.osb_c_types.specs.declared.status.Status.TheVariants.{NotInstanceText, NotServiceText, NotPlanText, Memory}

-- the texts of the ids of a request
abbrev pub texts_with : List ℕ → List ℕ → List ℕ → Texts
texts_with instance service plan = record { instance = instance; service = service; plan = plan }

-- each is UTF-8
abbrev pub AreUtf8 : List ℕ → List ℕ → List ℕ → Type 0
AreUtf8 instance service plan = IsUtf8 instance × IsUtf8 service × IsUtf8 plan

-- why a request isn't written, as a status
abbrev pub name_status : NameFault → Status
name_status NameFault.BadInstance = NotInstanceText
name_status NameFault.BadService = NotServiceText
name_status NameFault.BadPlan = NotPlanText
name_status NameFault.Memory = Memory

-- a text is the body of a request of the kind: of a Provision it reads as the object of these members, else it is empty
abbrev pub IsNamedBody : Kind → List ℕ → List ℕ → List ℕ → List ℕ → Members → List ℕ → Type 0
IsNamedBody Provision service plan organization space further text =
    read text ≡ Some (object (members_with service plan organization space further))
IsNamedBody Poll service plan organization space further text = text ≡ []
IsNamedBody Deprovision service plan organization space further text = text ≡ []
