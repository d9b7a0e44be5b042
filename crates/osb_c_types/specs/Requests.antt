-- Requests as they cross.
use Rattle.std.specs.Prelude.{Option, option_map}
use Rattle.osb_message.specs.declared.messages.Kind.{Kind}
use Rattle.osb_message.specs.declared.messages.Request.{Request}
use Rattle.osb_c_types.specs.Ids.{number_of}
use Rattle.osb_c_types.specs.Kinds.{kind_of}
use Rattle.osb_c_types.specs.declared.requests.OsbRequest.{OsbRequest}

-- the request of this kind, with the rest of what crossed
abbrev pub request_as : OsbRequest → Kind → Request
request_as r kind =
    record {
      kind = kind;
      id = number_of r.id;
      service = number_of r.service;
      plan = number_of r.plan;
      accepts_incomplete = r.accepts_incomplete;
    }

-- the request that crossed, if its kind is one
abbrev pub request_of : OsbRequest → Option Request
request_of r = option_map (request_as r) (kind_of r.kind)
