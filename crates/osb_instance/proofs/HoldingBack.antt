-- A holding comes back from its text, and what a text names can come about.
use Rattle.std.proofs.Common.{◌≡◌, ◌≤◌, ℕ, ◌*◌, Bool, true, false, refl, ◌∙◌, ap, arith, eq-eqb}
use Rattle.std.specs.Prelude.{List, Option, Some, None, Result, Ok, Err, ◌&&◌, if◌then◌else◌}
use Rattle.std.specs.Prelude.{length, option_map}
use Rattle.std.proofs.lemmas.Slice.Eq.{bytes_eq-Decides}
use Rattle.hex.specs.Hex.{IsBytes, lower_digits}
use Rattle.hex.proofs.HexLemmas.{length-encode_with, decode_of-encode_lower, decode_sized-twice}
use Rattle.osb_broker.specs.declared.row.BrokerRow.{BrokerRow}
use Rattle.osb_broker.specs.declared.row.Phase.{Phase}
use Rattle.osb_message.specs.IdText.{id_text, id_of_lower}
use Rattle.osb_message.specs.declared.messages.Request.{Request}
use Rattle.osb_instance.specs.Frame.{and_then, as_an_object, has_version, object_in, of_version}
use Rattle.osb_instance.specs.Held.{Held, IsHeldSound, no_attributes}
use Rattle.osb_instance.specs.HoldingText.{row_value, row_named, some_row_value, some_row_in}
use Rattle.osb_instance.specs.HoldingText.{work_value, work_named, some_work_value, some_work_in}
use Rattle.osb_instance.specs.HoldingText.{digest_text, digest_in, digest_of, can_be, can_have, is_making}
use Rattle.osb_instance.specs.HoldingText.{holding_value, holding_named, holding_of, holding_by_version, holding_in}
use Rattle.osb_instance.specs.HoldingText.{holding_in_of, first_holding_of, first_version, version}
use Rattle.osb_instance.specs.Rows.{broker_row, held_of_parts, held_row, is_waiting, phase_in, phase_named, phase_word, row_phase}
use Rattle.osb_instance.specs.declared.digest.Digest.{Digest}
use Rattle.osb_instance.specs.declared.phase.HoldingPhase.{HoldingPhase}
use Rattle.osb_instance.specs.declared.phase.HoldingRow.{HoldingRow}
use Rattle.osb_instance.specs.declared.faults.TextFault.{TextFault}
use Rattle.osb_instance.specs.declared.faults.TextFault.TheVariants.{BadVersion}
use Rattle.osb_instance.proofs.RecordBack.{kind_reads}
use Rattle.serde_json.specs.Data.{Data, depth}
use Rattle.serde_json.specs.Read.{read, max_depth}

no : false ≡ true → ⊥
no e = cc

left : (x y : Bool) → (x && y) ≡ true → x ≡ true
left true y h = refl
left false y h = h

right : (x y : Bool) → (x && y) ≡ true → y ≡ true
right true y h = h
right false y h = cc

both : (x y : Bool) → x ≡ true → y ≡ true → (x && y) ≡ true
both true y p q = q
both false y p q = p

-- ---- the parts are read as they were written

phase_reads : (p : HoldingPhase) → phase_named (phase_word p) ≡ Some p
phase_reads HoldingPhase.Waiting = refl
phase_reads p = refl

pub row_reads : (row : HoldingRow) → id_of_lower (id_text row.plan) ≡ Some row.plan
    → id_of_lower (id_text row.service) ≡ Some row.service → row_named (row_value row) ≡ Some row
unfolding row_named
row_reads row plan service = rw (plan, service, phase_reads row.phase) refl

pub work_reads : (r : Request) → id_of_lower (id_text r.id) ≡ Some r.id → id_of_lower (id_text r.plan) ≡ Some r.plan
    → id_of_lower (id_text r.service) ≡ Some r.service → work_named (work_value r) ≡ Some r
unfolding work_named
work_reads r id plan service = rw (id, plan, service, kind_reads r.kind) refl

pub digest_reads : (d : Digest) → IsBytes d.bytes → length d.bytes ≡ 32 → digest_in (digest_text d) ≡ Some d
digest_reads d is len =
    let text : length (digest_text d) ≡ 2 * 32 = length-encode_with lower_digits d.bytes ∙ ap (λ n. 2 * n) len in
    ap digest_of (decode_sized-twice (digest_text d) 32 text ∙ decode_of-encode_lower d.bytes is)

-- ---- a row is shown, and taken back

shown_phase : (p : Phase) (v : Bool) → (v ≡ true → p ≡ Phase.Making)
    → (row_phase (phase_in p v) ≡ p) × (is_waiting (phase_in p v) ≡ v)
shown_phase Phase.Making true h = (refl, refl)
shown_phase Phase.Making false h = (refl, refl)
shown_phase Phase.Ready false h = (refl, refl)
shown_phase Phase.Failed false h = (refl, refl)
shown_phase Phase.Deleting false h = (refl, refl)
shown_phase Phase.DeleteFailed false h = (refl, refl)
shown_phase p true h = let e = h refl in cc

-- the row of the tables comes back from the row that is shown
any_phase : (p : Phase) (v : Bool) → row_phase (phase_in p v) ≡ p
any_phase Phase.Making true = refl
any_phase Phase.Making false = refl
any_phase p v = refl

pub shown_back : (b : Option BrokerRow) (v : Bool) → option_map broker_row (held_row b v) ≡ b
shown_back None v = refl
shown_back (Some b) v =
    ap (λ p. Some (record { service = b.service; plan = b.plan; phase = p })) (any_phase b.phase v)

shown_with : (b : Option BrokerRow) (k : Option Request) (x v : Bool) (a : Digest) → IsHeldSound (record { row = b; work = k; tombstone = x; waiting = v; attributes = a })
    → held_of_parts (held_row b v) k x a ≡ record { row = b; work = k; tombstone = x; waiting = v; attributes = a }
shown_with None k x true a h = absurd (h.waiting refl).0
shown_with None k x false a h = refl
shown_with (Some b) k x v a h =
    let shown = shown_phase b.phase v (λ e. (h.waiting e).0) in
    ap (λ p. record { row = Some record { service = b.service; plan = b.plan; phase = p }; work = k; tombstone = x; waiting = is_waiting (phase_in b.phase v); attributes = a }) shown.0
    ∙ ap (λ z. record { row = Some b; work = k; tombstone = x; waiting = z; attributes = a }) shown.1

pub shown : (held : Held) → IsHeldSound held
    → held_of_parts (held_row held.row held.waiting) held.work held.tombstone held.attributes ≡ held
shown held sound = shown_with held.row held.work held.tombstone held.waiting held.attributes sound

pub holding_reads : (format : ℕ) (held : Held) → digest_in (digest_text held.attributes) ≡ Some held.attributes
    → some_row_in (some_row_value (held_row held.row held.waiting)) ≡ Some (held_row held.row held.waiting)
    → some_work_in (some_work_value held.work) ≡ Some held.work → IsHeldSound held
    → holding_named (holding_value format held) ≡ Some held
unfolding holding_named
holding_reads format held digest row work sound =
    rw (digest, row, work) (ap Some (shown held sound))

-- ---- what can come about

same : (a : Digest) → can_have None None a ≡ true → a ≡ no_attributes
same a h = ap (λ (bytes : List ℕ). record { bytes = bytes }) ((bytes_eq-Decides a.bytes no_attributes.bytes).0 h)

is_same : (a : Digest) → a ≡ no_attributes → can_have None None a ≡ true
is_same a e = (bytes_eq-Decides a.bytes no_attributes.bytes).1 (ap (λ (d : Digest). d.bytes) e)

making : (p : Phase) → is_making p ≡ true → p ≡ Phase.Making
making Phase.Making h = refl
making p h = cc

is_made : (p : Phase) → p ≡ Phase.Making → is_making p ≡ true
is_made Phase.Making h = refl
is_made p h = cc

some_none : {A : Type 0} (x : A) → Some x ≡ None → ⊥
some_none x e = cc

can_be_sound_with : (b : Option BrokerRow) (k : Option Request) (x v : Bool) (a : Digest)
    → can_be (record { row = b; work = k; tombstone = x; waiting = v; attributes = a }) ≡ true → IsHeldSound (record { row = b; work = k; tombstone = x; waiting = v; attributes = a })
can_be_sound_with None None true false a h =
    record { tombstone = λ e. (refl, refl); due = tt; waiting = λ e. absurd (no e); attributes = λ e f. same a h }
can_be_sound_with None None false false a h =
    record { tombstone = λ e. absurd (no e); due = tt; waiting = λ e. absurd (no e); attributes = λ e f. same a h }
can_be_sound_with None None true true a h = absurd (no h)
can_be_sound_with None None false true a h = absurd (no h)
can_be_sound_with None (Some r) true v a h = absurd (no h)
can_be_sound_with None (Some r) false true a h = absurd (no (right _ false h))
can_be_sound_with None (Some r) false false a h =
    record { tombstone = λ e. absurd (no e); due = left _ true h; waiting = λ e. absurd (no e); attributes = λ e f. absurd (some_none r f) }
can_be_sound_with (Some b) k true v a h = absurd (no h)
can_be_sound_with (Some b) None false true a h =
    record {
      tombstone = λ e. absurd (no e);
      due = tt;
      waiting = λ e. (making b.phase (left _ true h), refl);
      attributes = λ e f. absurd (some_none b e);
    }
can_be_sound_with (Some b) None false false a h =
    record { tombstone = λ e. absurd (no e); due = tt; waiting = λ e. absurd (no e); attributes = λ e f. absurd (some_none b e) }
can_be_sound_with (Some b) (Some r) false true a h = absurd (no (right _ false h))
can_be_sound_with (Some b) (Some r) false false a h =
    record { tombstone = λ e. absurd (no e); due = left _ true h; waiting = λ e. absurd (no e); attributes = λ e f. absurd (some_none b e) }

pub can_be_sound : (held : Held) → can_be held ≡ true → IsHeldSound held
can_be_sound held h = can_be_sound_with held.row held.work held.tombstone held.waiting held.attributes h

sound_can_be_with : (b : Option BrokerRow) (k : Option Request) (x v : Bool) (a : Digest)
    → IsHeldSound (record { row = b; work = k; tombstone = x; waiting = v; attributes = a }) → can_be (record { row = b; work = k; tombstone = x; waiting = v; attributes = a }) ≡ true
sound_can_be_with None None true false a h = is_same a (h.attributes refl refl)
sound_can_be_with None None false false a h = is_same a (h.attributes refl refl)
sound_can_be_with None k x true a h = absurd (h.waiting refl).0
sound_can_be_with None (Some r) true false a h = absurd (some_none r (h.tombstone refl).1)
sound_can_be_with None (Some r) false false a h = both _ true h.due refl
sound_can_be_with (Some b) k true v a h = absurd (some_none b (h.tombstone refl).0)
sound_can_be_with (Some b) None false true a h = both _ true (is_made b.phase (h.waiting refl).0) refl
sound_can_be_with (Some b) None false false a h = refl
sound_can_be_with (Some b) (Some r) false true a h = absurd (some_none r (h.waiting refl).1)
sound_can_be_with (Some b) (Some r) false false a h = both _ true h.due refl

pub sound_can_be : (held : Held) → IsHeldSound held → can_be held ≡ true
sound_can_be held h = sound_can_be_with held.row held.work held.tombstone held.waiting held.attributes h

-- ---- the holding that was written is read

shallow_row : (b : Option HoldingRow) → depth (some_row_value b) ≤ 1
shallow_row None = omega arith
shallow_row (Some b) = omega arith

shallow_work : (k : Option Request) → depth (some_work_value k) ≤ 1
shallow_work None = omega arith
shallow_work (Some k) = omega arith

holding_value_read : (format : ℕ) (text : List ℕ) (d : Data) (held : Held) → d ≡ holding_value format held
    → (depth d ≤ max_depth → read text ≡ Some d) → read text ≡ Some (holding_value format held)
holding_value_read format text d held is reads =
    let shallow : depth (holding_value format held) ≤ max_depth =
    omega (arith, shallow_row (held_row held.row held.waiting), shallow_work held.work) in
    reads (rw is shallow) ∙ ap Some is

pub holding_back : (format : ℕ) (text : List ℕ) (d : Data) (held : Held) → d ≡ holding_value format held
    → (depth d ≤ max_depth → read text ≡ Some d) → holding_named (holding_value format held) ≡ Some held
    → IsHeldSound held → holding_in_of format text ≡ Ok held
holding_back format text d held is reads named sound =
    ap (λ found. and_then holding_of (and_then (of_version format) (as_an_object found)))
    (holding_value_read format text d held is reads)
    ∙ rw (eq-eqb format format refl, named, sound_can_be held sound) refl

-- ---- what has the latest number is read among the formats of an instance, too

latest_if : (b : Bool) (d : Data) (others : Result Held TextFault) (held : Held)
    → and_then holding_of (if b then Ok d else Err BadVersion) ≡ Ok held
    → (if b then holding_of d else others) ≡ Ok held
latest_if true d others held e = e
latest_if false d others held e = cc

latest_object : (found : Result Data TextFault) (held : Held)
    → and_then holding_of (and_then (of_version version) found) ≡ Ok held
    → and_then holding_by_version found ≡ Ok held
latest_object (Err fault) held e = cc
latest_object (Ok d) held e =
    latest_if (has_version version d) d (if has_version first_version d then first_holding_of d else Err BadVersion) held e

pub latest : (text : List ℕ) (held : Held) → holding_in_of version text ≡ Ok held → holding_in text ≡ Ok held
latest text held e = latest_object (object_in text) held e
