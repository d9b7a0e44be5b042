-- The numbers that stand for the kinds of requests, and 255 for none.
use Rattle.std.specs.Prelude.{ℕ, ◌==◌, if◌then◌else◌, Option, Some, None, option_map}
use Rattle.osb_message.specs.declared.messages.Kind.{Kind}
use Rattle.osb_message.specs.declared.messages.Kind.TheVariants.{Provision, Poll, Deprovision}

-- the number of a kind
abbrev pub kind_code : Kind → ℕ
kind_code Provision = 0
kind_code Poll = 1
kind_code Deprovision = 2

-- the kind that a number stands for, if it stands for one
abbrev pub kind_of : ℕ → Option Kind
kind_of code =
    if code == 0 then Some Provision
    else (if code == 1 then Some Poll
    else (if code == 2 then Some Deprovision
    else None))

-- the request that is out: none at 255
abbrev pub out_of : ℕ → Option (Option Kind)
out_of code = if code == 255 then Some None else option_map Some (kind_of code)
