-- A holding that crosses comes back.
use Rattle.std.proofs.Common.{◌≡◌, Bool, true, false, refl, sym, ◌∙◌, ap, List, ℕ}
use Rattle.std.specs.Prelude.{Option, Some, None, IfSome, IsNone, is_some, option_map, option_and_then, if◌then◌else◌}
use Rattle.osb_message.specs.declared.messages.Kind.{Kind}
use Rattle.osb_message.specs.declared.messages.Request.{Request}
use Rattle.osb_instance.specs.Held.{Held, IsHeldSound}
use Rattle.osb_instance.specs.HoldingText.{can_be, possible}
use Rattle.osb_instance.specs.Rows.{held_of_parts, held_row}
use Rattle.osb_instance.specs.declared.digest.Digest.{Digest}
use Rattle.osb_instance.specs.declared.phase.HoldingRow.{HoldingRow}
use Rattle.osb_instance.proofs.HoldingBack.{shown, sound_can_be}
use Rattle.osb_c_types.specs.Kinds.{kind_of}
use Rattle.osb_c_types.specs.Requests.{request_as, request_of}
use Rattle.osb_c_types.specs.declared.requests.OsbRequest.{OsbRequest}
use Rattle.osb_c_instance.specs.Holdings.{digest_of, held_as, held_of, work_in}
use Rattle.osb_c_instance.specs.RowNumbers.{row_of}
use Rattle.osb_c_instance.specs.declared.broker_rows.OsbBrokerRow.{OsbBrokerRow}
use Rattle.osb_c_instance.specs.declared.holdings.OsbHolding.{OsbHolding}

pub row_crosses : (o : Option HoldingRow) (z : OsbBrokerRow) (b : Bool) → b ≡ is_some o
    → IfSome o (λ r. row_of z ≡ Some r) → (if b then option_map Some (row_of z) else Some None) ≡ Some o
row_crosses None z true e h = cc
row_crosses None z false e h = refl
row_crosses (Some r) z true e h = ap (option_map Some) h
row_crosses (Some r) z false e h = cc

pub work_crosses : (o : Option Request) (z : OsbRequest) (b : Bool) → b ≡ is_some o
    → IfSome o (λ r. request_of z ≡ Some r) → (if b then option_map Some (request_of z) else Some None) ≡ Some o
work_crosses None z true e h = cc
work_crosses None z false e h = refl
work_crosses (Some r) z true e h = ap (option_map Some) h
work_crosses (Some r) z false e h = cc

-- the parts that cross, in the place of what they stand for
pub held_crosses : (held : Held) (h : OsbHolding) → IsHeldSound held
    → (if h.has_row then option_map Some (row_of h.row) else Some None) ≡ Some (held_row held.row held.waiting)
    → (if h.has_work then option_map Some (request_of h.work) else Some None) ≡ Some held.work
    → h.has_tombstone ≡ held.tombstone → digest_of h.attributes ≡ held.attributes → held_of h ≡ Some held
held_crosses held h sound row work tombstone attributes =
    ap (option_and_then (λ x. option_and_then (held_as h x) (work_in h))) row
    ∙ ap (option_and_then (held_as h (held_row held.row held.waiting))) work
    ∙ (λ i. possible (held_of_parts (held_row held.row held.waiting) held.work (tombstone i) (attributes i)))
    ∙ ap possible (shown held sound)
    ∙ ap (λ (b : Bool). if b then Some held else None) (sound_can_be held sound)

none_of : (o : Option Kind) (f : Kind → Request) (q : Request) → Some q ≡ option_map f o → IsNone o → ⊥
none_of None f q e n = cc
none_of (Some k) f q e n = cc

-- a request that crossed has a kind
pub kind_there : (r : OsbRequest) (q : Request) → Some q ≡ request_of r → IsNone (kind_of r.kind) → ⊥
kind_there r q e n = none_of (kind_of r.kind) (request_as r) q e n
