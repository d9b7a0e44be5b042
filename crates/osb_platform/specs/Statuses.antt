-- A range of statuses. What the statuses in it mean is said where it is used.
use Rattle.std.specs.Prelude.{ℕ, Bool, ◌&&◌, nat_le}

-- whether a status is from one to another, both among them
abbrev pub is_within : ℕ → ℕ → ℕ → Bool
is_within lowest highest status = nat_le lowest status && nat_le status highest
