-- What a request asks of an instance that exists.
use Rattle.std.specs.Prelude.{ℕ}
use Rattle.osb_update_wire.specs.declared.asked.UpdateAsked.{UpdateAsked}

-- the instance that is asked of
abbrev pub instance_of : UpdateAsked → ℕ
instance_of (UpdateAsked.Update id update) = id
instance_of (UpdateAsked.Fetch id service plan) = id
