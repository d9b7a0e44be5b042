-- The first transaction of a request is that of the mode of its own plan.
use Rattle.std.proofs.Common.{◌≡◌, Bool, refl, sym, ap, ◌∙◌}
use Rattle.std.specs.Prelude.{Option, Some, None, ◌&&◌, not, if◌then◌else◌, is_none, is_some}
use Rattle.osb_message.specs.Plans.{Catalogue}
use Rattle.osb_message.specs.declared.catalogue.Mode.{Mode}
use Rattle.osb_message.specs.declared.messages.Request.{Request}
use Rattle.osb_broker.specs.Answers.{mode_of}
use Rattle.osb_instance.specs.Begin.{begins, begun, busy, conflicts, is_provision}
use Rattle.osb_instance.specs.Due.{work_due}
use Rattle.osb_instance.specs.Held.{Held}
use Rattle.osb_instance.specs.declared.digest.Digest.{Digest}
use Rattle.osb_instance.specs.declared.work.Begun.{Begun}
use Rattle.osb_instance.specs.declared.work.Begun.TheVariants.{Answered}
use Rattle.osb_driver.specs.Driver.{first, first_as}
use Rattle.osb_driver.specs.World.{first_of, is_owner}
use Rattle.osb_driver.specs.declared.driver.Transaction.{Transaction}
use Rattle.osb_driver_alone.specs.declared.world.Asked.{Asked}
use Rattle.osb_driver_alone.specs.World.{UseOwnModes, mode_with, seen, seen_by}
use Rattle.osb_driver_alone.proofs.Events.{free, mode_idle}
use Rattle.osb_driver_alone.proofs.Requests.{sent_by, sent_is}

abbrev begins_as : Option Request → Option Mode → Held → Request → Digest → Bool
begins_as w m h r t =
    not (conflicts h r t)
    && (is_none w
    && (not (h.tombstone && is_provision r.kind) && (not h.waiting && is_some (work_due m h.row r))))

begins_by : (cat : Catalogue) (w : Option Request) (h : Held) (x : Asked) → h.work ≡ w
    → begins (mode_with cat h.work (Some x)) h x.request x.attributes
    ≡ begins (mode_of cat x.request) h x.request x.attributes
begins_by cat None h x e =
    ap (λ (m : Option Mode). begins m h x.request x.attributes) (mode_idle cat h.work x e)
begins_by cat (Some q) h x e =
    ap (λ (v : Option Request). begins_as v (mode_with cat h.work (Some x)) h x.request x.attributes) e
    ∙ sym (ap (λ (v : Option Request). begins_as v (mode_of cat x.request) h x.request x.attributes) e)

abbrev first_with : Bool → Bool → Bool → Held → Request → Bool → Held × Begun → Transaction
first_with locked own may h r begins begun =
    first locked own (not may && begins) h r (if not may && begins then (h, Answered (busy r.kind)) else begun)

same_first : (cat : Catalogue) (locked own may f : Bool) (h : Held) (x : Asked)
    → first_as locked own may (mode_with cat h.work (Some x)) f h x.request x.attributes
    ≡ first_as locked own may (mode_of cat x.request) f h x.request x.attributes
same_first cat locked own may f h x =
    let m = mode_with cat h.work (Some x) in
    ap (λ (b : Bool). first_with locked own may h x.request b (begun m f h x.request x.attributes))
    (begins_by cat h.work h x refl)
    ∙ ap (λ (g : Held × Begun).
    first_with locked own may h x.request (begins (mode_of cat x.request) h x.request x.attributes) g) (free cat f h x)

pub use_own_modes : UseOwnModes
use_own_modes s at may n locked x found =
    let e = sent_is s.asked n ∙ ap (sent_by n) found in
    ap (first_of (seen_by s (Some x)) at may locked) e
    ∙ (ap Some (same_first s.cell.catalogue locked (is_owner s.owner at) may.begin s.cell.first_poll s.row x)
    ∙ sym (ap (first_of (seen s (mode_of s.cell.catalogue x.request) x.attributes) at may locked) e))
