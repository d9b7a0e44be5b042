-- The words of the kinds of requests, which are this project's choice.
use Rattle.std.specs.Prelude.{ℕ, List, Option, Some, None, codes, if◌then◌else◌}
use Rattle.std.specs.Str.{bytes_eq}
use Rattle.osb_message.specs.declared.messages.Kind.{Kind}
use Rattle.osb_message.specs.declared.messages.Kind.TheVariants.{Provision, Poll, Deprovision}

abbrev pub kind_word : Kind → List ℕ
kind_word Provision = codes "provision"
kind_word Poll = codes "poll"
kind_word Deprovision = codes "deprovision"

-- the kind whose word this is
abbrev pub kind_named : List ℕ → Option Kind
kind_named word =
    if bytes_eq word (codes "provision") then Some Provision
    else (if bytes_eq word (codes "poll") then Some Poll
    else (if bytes_eq word (codes "deprovision") then Some Deprovision
    else None))
