-- An id as two halves of its number.
use Rattle.std.specs.Prelude.{ℕ, ◌+◌, ◌*◌, ◌^◌}
use Rattle.osb_c_types.specs.declared.ids.OsbId.{OsbId}

-- the number of an id
abbrev pub number_of : OsbId → ℕ
number_of id = id.high * 2 ^ 64 + id.low

-- what stands in the place of an id that doesn't count
abbrev pub zero_id : OsbId
zero_id = record { high = 0; low = 0 }
