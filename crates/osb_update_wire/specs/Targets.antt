-- The target of an Update, and that of a Fetch, as they are written.
use Rattle.std.specs.Prelude.{ℕ, Bool, false, List, [], None}
use Rattle.osb_message.specs.declared.messages.Kind.{Kind}
use Rattle.osb_message.specs.declared.messages.Kind.TheVariants.{Provision, Poll}
use Rattle.osb_message.specs.declared.messages.Request.{Request}
use Rattle.osb_wire.specs.Asking.{request_by}
use Rattle.osb_wire.specs.Targets.{Texts, path_of, query_of, with_query}

-- the path of an instance, and the query that a request has
abbrev pub target_of : List ℕ → Request → Texts → List ℕ
target_of prefix r t = with_query (path_of prefix Provision t.instance) (query_of r t None)

-- a request of a kind, of whose ids none counts
abbrev pub request_of : Kind → Bool → Request
request_of kind accepts = request_by kind 0 0 0 accepts

-- an Update has the query of a Provision, which names no ids
abbrev pub update_request : Bool → Request
update_request accepts = request_of Provision accepts

abbrev pub instance_texts : List ℕ → Texts
instance_texts instance = record { instance = instance; service = []; plan = [] }

abbrev pub update_target : List ℕ → List ℕ → Bool → List ℕ
update_target prefix instance accepts = target_of prefix (update_request accepts) (instance_texts instance)

-- and a Fetch that of a Poll that names no operation
abbrev pub fetch_request : Request
fetch_request = request_of Poll false

abbrev pub fetch_target : List ℕ → Texts → List ℕ
fetch_target prefix t = target_of prefix fetch_request t
