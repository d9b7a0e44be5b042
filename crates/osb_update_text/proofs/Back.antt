-- What was written of updates is read as it was.
use Rattle.std.proofs.Common.{◌≡◌, ◌≤◌, ℕ, refl, ◌∙◌, ap, arith}
use Rattle.std.specs.Prelude.{List, Option, Some, None, Ok}
use Rattle.osb_message.specs.IdText.{id_text, id_of_lower}
use Rattle.osb_instance.specs.Frame.{and_then, as_an_object, of_version}
use Rattle.osb_instance.specs.HoldingText.{digest_in, digest_text}
use Rattle.osb_update.specs.declared.holding.UpdateHolding.{UpdateHolding}
use Rattle.osb_update.specs.declared.phase.UpdatePhase.{UpdatePhase}
use Rattle.osb_update.specs.declared.record.UpdateRecord.{UpdateRecord}
use Rattle.osb_update.specs.declared.settings.Settings.{Settings}
use Rattle.osb_update.specs.declared.state.UpdateKind.{UpdateKind}
use Rattle.osb_update.specs.declared.state.UpdateState.{UpdateState}
use Rattle.osb_update_text.specs.HoldingText as holding
use Rattle.osb_update_text.specs.HoldingText.{holding_named}
use Rattle.osb_update_text.specs.RecordText as recorded
use Rattle.osb_update_text.specs.RecordText.{record_named}
use Rattle.osb_update_text.specs.SettingsText.{settings_named, settings_value, some_settings_in, some_settings_value}
use Rattle.serde_json.specs.Data.{Data, depth}
use Rattle.serde_json.specs.Read.{read, max_depth}

pub settings_reads : (s : Settings) → digest_in (digest_text s.parameters) ≡ Some s.parameters
    → id_of_lower (id_text s.plan) ≡ Some s.plan → digest_in (digest_text s.version) ≡ Some s.version
    → settings_named (settings_value s) ≡ Some s
unfolding settings_named
settings_reads s parameters plan version = rw (parameters, plan, version) refl

-- ---- a holding

phase_reads : (p : UpdatePhase) → holding.phase_of_parts (Some (holding.phase_word p)) (Some (holding.goal p)) ≡ Some p
phase_reads UpdatePhase.Settled = refl
phase_reads UpdatePhase.Failed = refl
phase_reads (UpdatePhase.Pending to) = refl
phase_reads (UpdatePhase.Updating to) = refl
phase_reads (UpdatePhase.Mending to) = refl

pub holding_reads : (held : UpdateHolding) → settings_named (settings_value held.settings) ≡ Some held.settings
    → some_settings_in (some_settings_value (holding.goal held.phase)) ≡ Some (holding.goal held.phase)
    → holding_named (holding.holding_value held) ≡ Some held
unfolding holding_named
holding_reads held settings to = rw (settings, to, phase_reads held.phase) refl

shallow : (s : Option Settings) → depth (some_settings_value s) ≤ 1
shallow None = omega arith
shallow (Some s) = omega arith

holding_value_read : (text : List ℕ) (d : Data) (held : UpdateHolding) → d ≡ holding.holding_value held
    → (depth d ≤ max_depth → read text ≡ Some d) → read text ≡ Some (holding.holding_value held)
holding_value_read text d held is reads =
    let flat : depth (holding.holding_value held) ≤ max_depth = omega (arith, shallow (holding.goal held.phase)) in
    reads (rw is flat) ∙ ap Some is

pub holding_back : (text : List ℕ) (d : Data) (held : UpdateHolding) → d ≡ holding.holding_value held
    → (depth d ≤ max_depth → read text ≡ Some d) → holding_named (holding.holding_value held) ≡ Some held
    → holding.holding_in text ≡ Ok held
holding_back text d held is reads named =
    ap (λ found. and_then holding.holding_of (and_then (of_version holding.version) (as_an_object found)))
    (holding_value_read text d held is reads)
    ∙ rw named refl

-- ---- a record

state_reads : (s : UpdateState)
    → recorded.state_of_parts (Some (recorded.state_word s)) (Some (recorded.is_mixed s)) (Some (recorded.aimed_at s))
    ≡ Some s
state_reads UpdateState.Settled = refl
state_reads (UpdateState.Updating aim) = refl
state_reads (UpdateState.Polling aim) = refl
state_reads (UpdateState.Unsure aim) = refl

out_reads : (out : Option UpdateKind) → recorded.out_in (recorded.out_value out) ≡ Some out
out_reads None = refl
out_reads (Some UpdateKind.Update) = refl
out_reads (Some UpdateKind.Poll) = refl
out_reads (Some UpdateKind.Fetch) = refl

pub record_reads : (r : UpdateRecord) → settings_named (settings_value r.settings) ≡ Some r.settings
    → some_settings_in (some_settings_value (recorded.aimed_at r.state)) ≡ Some (recorded.aimed_at r.state)
    → record_named (recorded.record_value r) ≡ Some r
unfolding record_named
record_reads r settings to = rw (settings, to, state_reads r.state, out_reads r.out) refl

flat_out : (out : Option UpdateKind) → depth (recorded.out_value out) ≤ 0
flat_out None = omega arith
flat_out (Some k) = omega arith

record_value_read : (text : List ℕ) (d : Data) (r : UpdateRecord) → d ≡ recorded.record_value r
    → (depth d ≤ max_depth → read text ≡ Some d) → read text ≡ Some (recorded.record_value r)
record_value_read text d r is reads =
    let flat : depth (recorded.record_value r) ≤ max_depth =
    omega (arith, flat_out r.out, shallow (recorded.aimed_at r.state)) in
    reads (rw is flat) ∙ ap Some is

pub record_back : (text : List ℕ) (d : Data) (r : UpdateRecord) → d ≡ recorded.record_value r
    → (depth d ≤ max_depth → read text ≡ Some d) → record_named (recorded.record_value r) ≡ Some r
    → recorded.record_in text ≡ recorded.record_or (Some r)
record_back text d r is reads named =
    ap (λ found. and_then recorded.record_of (and_then (of_version recorded.version) (as_an_object found)))
    (record_value_read text d r is reads)
    ∙ rw named refl
