-- The text of the body that tells of another version is that of its object, and reads as it.
use Rattle.std.proofs.Common.{◌≡◌, Some, refl}
use Rattle.std.specs.Prelude.{codes, List, ℕ}
use Rattle.std.specs.Str.{is_utf8, chars}
use Rattle.serde_json.specs.Written.{compact_text}
use Rattle.serde_json.proofs.OnLiterals.{serde_json_on_literals}
use Rattle.osb_wire.specs.Bodies.{value_in, object_in}
use Rattle.osb_wire.specs.Maintenance.{conflict_value}

abbrev pub it : List ℕ
it = codes "{\"description\":\"The plan has another maintenance_info.version.\",\"error\":\"MaintenanceInfoConflict\"}"

pub conflict_text : it ≡ compact_text conflict_value
unfolding serde_json_on_literals value_in is_utf8 chars
conflict_text = refl

pub conflict_reads : object_in it ≡ Some conflict_value
unfolding serde_json_on_literals value_in is_utf8 chars
conflict_reads = refl
