use Rattle.std.proofs.Common.{◌≡◌, ◌++◌, option_map}
use Rattle.std.specs.Prelude.{option_to_list}
use Rattle.std.specs.Cow.{cow_str_bytes}
use Rattle.form_urlencoded.specs.Parse.{pairs_left}
use Rattle.osb_wire.specs.Targets.{texts_of, values_of, parameters_in}
use Rattle.osb_wire.proofs.query_reading.read_value.Given as goal

abbrev pub invariant-loop-pair : goal.invariant-loop-pair
invariant-loop-pair l = record {
  found : option_to_list (option_map cow_str_bytes l.found) ++ values_of l.name (texts_of (pairs_left l.pair-iterator))
      ≡ values_of l.name (parameters_in l.query);
}
