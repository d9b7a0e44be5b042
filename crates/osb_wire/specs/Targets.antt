-- The method and the target of a request: which instance it asks of, and its query's parameters.
use Rattle.std.specs.Prelude.{◌≡◌, ℕ, ◌<◌, Bool, true, false, ◌||◌, ◌==◌, if◌then◌else◌, unwrap_or}
use Rattle.std.specs.Prelude.{List, [], ◌∷◌, ◌++◌, codes, map, take, drop, length, All, IsUtf8, Option, Some, None, option_map, option_and_then}
use Rattle.std.specs.Prelude.{Result, Ok, Err}
use Rattle.std.specs.Option.{ok_or}
use Rattle.std.specs.Str.{bytes_eq}
use Rattle.std.specs.Str.Lossy.{utf8_lossy}
use Rattle.form_urlencoded.specs.Form.{split_once, raw_pairs, decode, extend_pairs}
use Rattle.osb_message.specs.IdText.{id_text}
use Rattle.osb_message.specs.declared.messages.Kind.{Kind}
use Rattle.osb_message.specs.declared.messages.Kind.TheVariants.{Provision, Poll, Deprovision}
use Rattle.osb_message.specs.declared.messages.Request.{Request}
use Rattle.osb_wire.specs.Bodies.{and_then}
use Rattle.osb_wire.specs.IdTexts.{number_of}
use Rattle.osb_wire.specs.Paths.{slash_at, plain_path, segment_of, segment_text, segment_number, is_dots}
use Rattle.osb_wire.specs.declared.refusal.Refusal.{Refusal}
use Rattle.osb_wire.specs.declared.refusal.Refusal.TheVariants.{NoSuchTarget, NoSuchMethod, BadInstance, Repeated}
use Rattle.osb_wire.specs.declared.refusal.Refusal.TheVariants.{BadAcceptsIncomplete}

-- ---- what is written

-- a name and a value
abbrev pub Parameter : Type 0
Parameter = List ℕ × List ℕ

-- the path of the instances (section Provisioning)
abbrev pub instances_path : List ℕ
instances_path = codes "/v2/service_instances/"

-- what follows the instance's id in a Poll (section Polling Last Operation for Service Instances)
abbrev pub last_operation : List ℕ
last_operation = codes "/last_operation"

-- the method of a request
abbrev pub method_of : Kind → List ℕ
method_of Provision = codes "PUT"
method_of Poll = codes "GET"
method_of Deprovision = codes "DELETE"

-- the texts of the ids of a request
pub record Texts : Type 0 where
  pub instance : List ℕ
  pub service : List ℕ
  pub plan : List ℕ

-- the texts of ids that are GUIDs in lower case
abbrev pub own_texts : Request → Texts
own_texts r = record { instance = id_text r.id; service = id_text r.service; plan = id_text r.plan }

-- the path of a request, after the broker's prefix, with the text of the instance's id
abbrev pub path_of : List ℕ → Kind → List ℕ → List ℕ
path_of prefix Provision text = prefix ++ (instances_path ++ segment_of text)
path_of prefix Poll text = prefix ++ (instances_path ++ (segment_of text ++ last_operation))
path_of prefix Deprovision text = prefix ++ (instances_path ++ segment_of text)

abbrev pub plan_parameters : List ℕ → List ℕ → List Parameter
plan_parameters service plan = (codes "service_id", service) ∷ (codes "plan_id", plan) ∷ []

-- the service and the plan, which a Provision has in its body
abbrev pub id_parameters : Kind → List ℕ → List ℕ → List Parameter
id_parameters Provision service plan = []
id_parameters Poll service plan = plan_parameters service plan
id_parameters Deprovision service plan = plan_parameters service plan

abbrev pub flag_parameters : Bool → List Parameter
flag_parameters true = (codes "accepts_incomplete", codes "true") ∷ []
flag_parameters false = []

-- what the broker named its operation in the answer that a Poll asks about
abbrev pub operation_parameters : Option (List ℕ) → List Parameter
operation_parameters None = []
operation_parameters (Some text) = (codes "operation", text) ∷ []

abbrev pub parameters_of : Request → Texts → Option (List ℕ) → List Parameter
parameters_of r t operation =
    id_parameters r.kind t.service t.plan ++ (flag_parameters r.accepts_incomplete ++ operation_parameters operation)

abbrev pub query_of : Request → Texts → Option (List ℕ) → List ℕ
query_of r t operation = extend_pairs [] (parameters_of r t operation)

-- a path and a query, with `?` between them where there is a query
abbrev pub with_query : List ℕ → List ℕ → List ℕ
with_query path query = if length query == 0 then path else path ++ (63 ∷ query)

-- the target of a request whose ids have these texts
abbrev pub target_with : List ℕ → Request → Texts → Option (List ℕ) → List ℕ
target_with prefix r t operation = with_query (path_of prefix r.kind t.instance) (query_of r t operation)

-- the target of a request whose ids are GUIDs in lower case
abbrev pub target_text : List ℕ → Request → Option (List ℕ) → List ℕ
target_text prefix r operation = target_with prefix r (own_texts r) operation

-- ---- what is read: the path

-- what follows a front, where a text begins with it
abbrev pub after_front : List ℕ → List ℕ → Option (List ℕ)
after_front front text =
    if bytes_eq (take (length front) text) front then Some (drop (length front) text) else None

-- the segment of an id, and whether its last operation is asked for
abbrev pub Place : Type 0
Place = List ℕ × Bool

abbrev pub place_at : List ℕ → List ℕ → Option Place
place_at text more =
    if length more == 0 then Some (text, false)
    else (if bytes_eq more last_operation then Some (text, true) else None)

abbrev pub place_below : List ℕ → Option Place
place_below rest = place_at (take (slash_at rest) rest) (drop (slash_at rest) rest)

abbrev pub place_if : Option (List ℕ) → Option Place
place_if None = None
place_if (Some rest) = place_below rest

-- what follows the prefix and the path of the instances
abbrev pub below_instances : List ℕ → List ℕ → Option (List ℕ)
below_instances prefix path = option_and_then (after_front instances_path) (after_front prefix path)

-- the place that a path names as it stands, after the broker's prefix
abbrev pub place_as_it_stands : List ℕ → List ℕ → Option Place
place_as_it_stands prefix path = place_if (below_instances prefix path)

abbrev pub place_or : Option Place → Option Place → Option Place
place_or None otherwise = otherwise
place_or (Some place) otherwise = Some place

-- the place that a path names, as it stands or by the plain path that it stands for
abbrev pub place_in : List ℕ → List ℕ → Option Place
place_in prefix path = place_or (place_as_it_stands prefix path) (place_as_it_stands prefix (plain_path path))

-- whether a path is the catalogue's as it stands (section Catalog Management)
abbrev pub is_catalogue_path : List ℕ → List ℕ → Bool
is_catalogue_path prefix path =
    unwrap_or (option_map (λ rest. bytes_eq rest (codes "/v2/catalog")) (after_front prefix path)) false

-- whether a path asks for the catalogue, as it stands or by the plain path that it stands for
abbrev pub asks_for_catalogue : List ℕ → List ℕ → Bool
asks_for_catalogue prefix path = is_catalogue_path prefix path || is_catalogue_path prefix (plain_path path)

-- the text of the instance's id in a path
abbrev pub instance_text : List ℕ → List ℕ → Option (List ℕ)
instance_text prefix path = option_and_then (λ place. segment_text place.0) (place_in prefix path)

-- what is asked for by a method at an instance, or at its last operation
abbrev pub kind_at : List ℕ → Bool → Option Kind
kind_at method true = if bytes_eq method (codes "GET") then Some Poll else None
kind_at method false =
    if bytes_eq method (codes "PUT") then Some Provision
    else (if bytes_eq method (codes "DELETE") then Some Deprovision else None)

abbrev pub instance_named : List ℕ → Option Kind → Result (Kind × ℕ) Refusal
instance_named text None = Err NoSuchMethod
instance_named text (Some kind) = ok_or (option_map (λ id. (kind, id)) (segment_number text)) BadInstance

abbrev pub instance_at : List ℕ → Option Place → Result (Kind × ℕ) Refusal
instance_at method None = Err NoSuchTarget
instance_at method (Some place) = instance_named place.0 (kind_at method place.1)

-- what is asked for, and of which instance; the path is judged first, then the method, then the id
abbrev pub instance_in : List ℕ → List ℕ → List ℕ → Result (Kind × ℕ) Refusal
instance_in prefix method path = instance_at method (place_in prefix path)

-- ---- what is read: the query

-- the text that encoded bytes stand for; what isn't UTF-8 becomes U+FFFD
abbrev pub decoded : Parameter → Parameter
decoded p = (decode p.0, decode p.1)

abbrev pub as_text : Parameter → Parameter
as_text p = (utf8_lossy p.0, utf8_lossy p.1)

abbrev pub texts_of : List Parameter → List Parameter
texts_of raw = map as_text (map decoded raw)

-- the parameters of a query
abbrev pub parameters_in : List ℕ → List Parameter
parameters_in query = texts_of (raw_pairs query)

-- the values of the parameters with a name
abbrev pub values_of : List ℕ → List Parameter → List (List ℕ)
values_of name [] = []
values_of name (p ∷ ps) = if bytes_eq p.0 name then p.1 ∷ values_of name ps else values_of name ps

-- at most one
abbrev pub at_most_one : List (List ℕ) → Result (Option (List ℕ)) Refusal
at_most_one [] = Ok None
at_most_one (value ∷ []) = Ok (Some value)
at_most_one (value ∷ another ∷ more) = Err Repeated

-- the value of the parameter with a name
abbrev pub value_in : List ℕ → List Parameter → Result (Option (List ℕ)) Refusal
value_in name ps = at_most_one (values_of name ps)

-- an id that may be missing, and one that may not
abbrev pub id_given : Refusal → Option (List ℕ) → Result (Option ℕ) Refusal
id_given fault None = Ok None
id_given fault (Some text) = ok_or (option_map Some (number_of text)) fault

abbrev pub id_needed : Refusal → Option (List ℕ) → Result ℕ Refusal
id_needed fault text = ok_or (option_and_then number_of text) fault

abbrev pub flag_given : Option (List ℕ) → Result Bool Refusal
flag_given None = Ok false
flag_given (Some text) =
    if bytes_eq text (codes "true") then Ok true
    else (if bytes_eq text (codes "false") then Ok false else Err BadAcceptsIncomplete)

-- an id in the query
abbrev pub id_in : Refusal → List ℕ → List Parameter → Result (Option ℕ) Refusal
id_in fault name ps = and_then (id_given fault) (value_in name ps)

abbrev pub needed_id_in : Refusal → List ℕ → List Parameter → Result ℕ Refusal
needed_id_in fault name ps = and_then (id_needed fault) (value_in name ps)

-- whether an asynchronous operation is accepted
abbrev pub flag_in : List Parameter → Result Bool Refusal
flag_in ps = and_then flag_given (value_in (codes "accepts_incomplete") ps)

-- the parameters of a target
abbrev pub parameters_of_target : List ℕ → List Parameter
parameters_of_target target = parameters_in ((split_once 63 target).1)

-- the operation that a target names, which is what the broker named it in an answer (section Polling Last
-- Operation for Service Instances)
abbrev pub operation_asked : List ℕ → Result (Option (List ℕ)) Refusal
operation_asked target = value_in (codes "operation") (parameters_of_target target)

-- ---- of a request

-- these are texts of its ids, and that of the instance can stand in a path
pub record AreTextsOf (r : Request) (t : Texts) : Type 0 where
  pub instance : number_of t.instance ≡ Some r.id
  pub service : number_of t.service ≡ Some r.service
  pub plan : number_of t.plan ≡ Some r.plan
  pub segment : is_dots t.instance ≡ false

-- each is UTF-8, and bytes
pub record AreUtf8 (t : Texts) : Type 0 where
  pub instance : IsUtf8 t.instance × All (λ b. b < 256) t.instance
  pub service : IsUtf8 t.service × All (λ b. b < 256) t.service
  pub plan : IsUtf8 t.plan × All (λ b. b < 256) t.plan

-- where there is a text, it is one
abbrev pub IsTextIfAny : Option (List ℕ) → Type 0
IsTextIfAny None = Unit {0}
IsTextIfAny (Some text) = IsUtf8 text × All (λ b. b < 256) text
