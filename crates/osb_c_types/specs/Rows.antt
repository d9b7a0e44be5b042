-- What a platform records of an instance, as it crosses.
use Rattle.std.specs.Prelude.{Option, option_map, option_and_then}
use Rattle.osb_message.specs.declared.messages.Kind.{Kind}
use Rattle.osb_platform.specs.declared.row.PlatformRow.{PlatformRow}
use Rattle.osb_platform.specs.declared.state.State.{State}
use Rattle.osb_c_types.specs.Ids.{number_of}
use Rattle.osb_c_types.specs.Kinds.{out_of}
use Rattle.osb_c_types.specs.States.{state_of}
use Rattle.osb_c_types.specs.declared.rows.OsbPlatformRow.{OsbPlatformRow}

-- the record in this state and with this request out, with the rest of what crossed
abbrev pub record_as : OsbPlatformRow → State → Option Kind → PlatformRow
record_as r state out = record { service = number_of r.service; plan = number_of r.plan; state = state; out = out }

-- the platform's record that crossed, if its numbers stand for something
abbrev pub record_of : OsbPlatformRow → Option PlatformRow
record_of r = option_and_then (λ state. option_map (record_as r state) (out_of r.out)) (state_of r.state)
