-- When settings are the same, and what an Update asks for.
use Rattle.std.proofs.Common.{◌≡◌, ◌↔◌, ℕ, Bool, true, false, refl, ap, ◌∙◌}
use Rattle.std.specs.Prelude.{List, ◌&&◌, ◌==◌, not, if◌then◌else◌, Some, None, IsTrue}
use Rattle.std.proofs.lemmas.Bool.Decides.{Decides-eqb}
use Rattle.std.proofs.lemmas.Slice.Eq.{bytes_eq-Decides}
use Rattle.osb_instance.specs.Begin.{is_same_digest}
use Rattle.osb_instance.specs.declared.digest.Digest.{Digest}
use Rattle.osb_update.specs.Settings.{chosen_digest, chosen_plan, is_same_settings, named_digest, named_parts}
use Rattle.osb_update.specs.Settings.{named_plan, with_change}
use Rattle.osb_update.specs.declared.settings.Settings.{Settings}

left : (x y : Bool) → (x && y) ≡ true → x ≡ true
left true y h = refl
left false y h = h

right : (x y : Bool) → (x && y) ≡ true → y ≡ true
right true y h = h
right false y h = cc

both : (x y : Bool) → x ≡ true → y ≡ true → (x && y) ≡ true
both true y p q = q
both false y p q = p

equal_digest : (a b : Digest) → is_same_digest a b ≡ true → a ≡ b
equal_digest a b h = ap (λ (bytes : List ℕ). record { bytes = bytes }) ((bytes_eq-Decides a.bytes b.bytes).0 h)

same_digest : (a b : Digest) → a ≡ b → is_same_digest a b ≡ true
same_digest a b e = (bytes_eq-Decides a.bytes b.bytes).1 (ap (λ (d : Digest). d.bytes) e)

equal_parts : (a b : Settings) → a.plan ≡ b.plan → a.parameters ≡ b.parameters → a.version ≡ b.version → a ≡ b
equal_parts a b p d v =
    ap (λ (x : ℕ). record { plan = x; parameters = a.parameters; version = a.version }) p
    ∙ ap (λ (x : Digest). record { plan = b.plan; parameters = x; version = a.version }) d
    ∙ ap (λ (x : Digest). record { plan = b.plan; parameters = b.parameters; version = x }) v

equal : (a b : Settings) → is_same_settings a b ≡ true → a ≡ b
equal a b h =
    let digests = right (a.plan == b.plan) _ h in
    equal_parts a b ((Decides-eqb a.plan b.plan).0 (left (a.plan == b.plan) _ h))
    (equal_digest a.parameters b.parameters (left (is_same_digest a.parameters b.parameters) _ digests))
    (equal_digest a.version b.version (right (is_same_digest a.parameters b.parameters) _ digests))

same : (a b : Settings) → a ≡ b → is_same_settings a b ≡ true
same a b e =
    both (a.plan == b.plan) _ ((Decides-eqb a.plan b.plan).1 (ap (λ (s : Settings). s.plan) e))
    (both (is_same_digest a.parameters b.parameters) _
    (same_digest a.parameters b.parameters (ap (λ (s : Settings). s.parameters) e))
    (same_digest a.version b.version (ap (λ (s : Settings). s.version) e)))

pub same_settings : (a b : Settings) → IsTrue (is_same_settings a b) ↔ (a ≡ b)
same_settings a b = (equal a b, same a b)

-- ---- what an Update asks for

plan_by : (before to : ℕ) (is_same : Bool) → (is_same ≡ true → before ≡ to)
    → chosen_plan (if not is_same then Some to else None) before ≡ to
plan_by before to true h = h refl
plan_by before to false h = refl

plan_asks : (before to : ℕ) (all : Bool) → chosen_plan (named_plan before to all) before ≡ to
plan_asks before to true = refl
plan_asks before to false = plan_by before to (before == to) (Decides-eqb before to).0

digest_by : (before to : Digest) (is_same : Bool) → (is_same ≡ true → before ≡ to)
    → chosen_digest (if not is_same then Some to else None) before ≡ to
digest_by before to true h = h refl
digest_by before to false h = refl

digest_asks : (before to : Digest) (all : Bool) → chosen_digest (named_digest before to all) before ≡ to
digest_asks before to true = refl
digest_asks before to false = digest_by before to (is_same_digest before to) (equal_digest before to)

pub named_asks : (before to : Settings) (all : Bool) → with_change before (named_parts before to all) ≡ to
named_asks before to all =
    equal_parts (with_change before (named_parts before to all)) to (plan_asks before.plan to.plan all)
    (digest_asks before.parameters to.parameters all) (digest_asks before.version to.version all)

pub all_asks : (recorded to before : Settings) → with_change before (named_parts recorded to true) ≡ to
all_asks recorded to before = refl
