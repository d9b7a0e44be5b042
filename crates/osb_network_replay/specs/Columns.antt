-- The columns of an instance or a binding, each after a separator (this project's choice).
use Rattle.std.specs.Prelude.{ℕ, Bool, true, false, List, [], ◌∷◌, ◌++◌, Option, Some, None, codes}
use Rattle.std.specs.Fmt.{decimal}
use Rattle.osb_broker.specs.declared.row.BrokerRow.{BrokerRow}
use Rattle.osb_instance.specs.Held.{Held}
use Rattle.osb_instance.specs.Recorded.{Recorded}
use Rattle.osb_instance.specs.Rows.{phase_in, phase_word}
use Rattle.osb_message.specs.IdText.{id_text}
use Rattle.osb_message.specs.Words.{kind_word}
use Rattle.osb_message.specs.declared.messages.Kind.{Kind}
use Rattle.osb_message.specs.declared.messages.Request.{Request}
use Rattle.osb_network.specs.declared.resource.Resource.{Resource}
use Rattle.osb_network.specs.declared.resource.Resource.TheVariants.{Absent, Part, Whole}
use Rattle.osb_network_language.specs.declared.event.Life.{Life}
use Rattle.osb_platform.specs.State.{state_word}
use Rattle.osb_network_replay.specs.declared.seen.Seen.{Seen}

-- STATE of the record
abbrev pub state_column : Option Recorded → List ℕ
state_column None = codes "none"
state_column (Some r) = state_word r.row.state

abbrev pub kind_column : Option Kind → List ℕ
kind_column None = codes "-"
kind_column (Some kind) = kind_word kind

-- OUT: the kind of the request that is out
abbrev pub out_column : Option Recorded → List ℕ
out_column None = codes "-"
out_column (Some r) = kind_column r.row.out

-- ATTEMPT of the record
abbrev pub attempt_of : Option Recorded → Option ℕ
attempt_of None = None
attempt_of (Some r) = Some r.attempt

abbrev pub number_column : Option ℕ → List ℕ
number_column None = codes "-"
number_column (Some n) = decimal n

-- PHASE of the row
abbrev pub phase_of_row : Option BrokerRow → Bool → List ℕ
phase_of_row None waiting = codes "none"
phase_of_row (Some row) waiting = phase_word (phase_in row.phase waiting)

abbrev pub phase_column : Held → List ℕ
phase_column held = phase_of_row held.row held.waiting

-- WORK: the kind of the pending work
abbrev pub work_column : Option Request → List ℕ
work_column None = codes "-"
work_column (Some request) = kind_word request.kind

-- TOMBSTONE
abbrev pub tombstone_column : Bool → List ℕ
tombstone_column true = codes "tombstone"
tombstone_column false = codes "-"

-- RESOURCE
abbrev pub resource_column : Resource → List ℕ
resource_column Absent = codes "absent"
resource_column Part = codes "part"
resource_column Whole = codes "whole"

-- the columns that both kinds of lives have
unfoldable pub columns : ℕ → Seen → List ℕ
columns separator seen =
    (separator ∷ state_column seen.recorded_by) ++ (separator ∷ out_column seen.recorded_by)
    ++ (separator ∷ number_column (attempt_of seen.recorded_by)) ++ (separator ∷ phase_column seen.holding)
    ++ (separator ∷ work_column seen.holding.work) ++ (separator ∷ tombstone_column seen.holding.tombstone)
    ++ (separator ∷ resource_column seen.resource)

-- RECORDED and CREDENTIALS
unfoldable pub credentials : ℕ → Seen → List ℕ
credentials separator seen =
    (separator ∷ number_column seen.recorded) ++ (separator ∷ number_column seen.credentials)

abbrev pub binding_text : Option ℕ → List ℕ
binding_text None = []
binding_text (Some id) = 47 ∷ id_text id

-- LIFE: the id of an instance, or those of a binding with a slash between
abbrev pub life_text : Life → List ℕ
life_text life = id_text life.instance ++ binding_text life.binding
