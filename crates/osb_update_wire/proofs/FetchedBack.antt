-- The settings and the number that a broker reports come back.
use Rattle.std.proofs.Common.{◌≡◌, ◌≢◌, ℕ, ◌<◌, ◌^◌, List, Some, IsUtf8, ap, ◌∙◌}
use Rattle.std.specs.Prelude.{option_map, option_and_then}
use Rattle.json.specs.Json.{Json}
use Rattle.json.specs.Tree.{HasNumbers}
use Rattle.osb_wire.specs.IdTexts.{number_of}
use Rattle.osb_update_wire.specs.Fetched.{said_of, number_told, told_by, plan_told, parameters_told, reported_of, reported_by, reported_in, settings_by}
use Rattle.osb_update_wire.specs.Patches.{number_at, object_in, parameters_digest}
use Rattle.osb_update_wire.specs.Said.{Said, value_if, object_of, said_text, CanBeRead}
use Rattle.osb_update_wire.specs.Versions.{version_at, digest_or_none}
use Rattle.osb_update_wire.specs.declared.fetched.InstanceTexts.{InstanceTexts}
use Rattle.osb_update_wire.proofs.SaidBack.{value_has, said_has, object_back, whole_back, plan_text, parameters_under, version_under, number_under, number_back, number_value_back}

module _ (t : InstanceTexts) (n : ℕ) (text : List ℕ) (utf8 : IsUtf8 text) (is : text ≡ said_text (said_of t n))
    (small : n < 2 ^ 64) (shallow : CanBeRead (said_of t n))
  where
    abbrev s : Said
    s = said_of t n

    has : HasNumbers (object_of s)
    has = said_has s tt (value_has (option_map (λ m. m.now) t.metadata)) (value_has (option_map (λ p. p.now) t.parameters)) small

    pub fetched_whole : object_in text ≡ Some (object_of s)
    fetched_whole = whole_back s text (object_back s text utf8 is has shallow)

    pub fetched_reported : (plan : ℕ) (parameters : Json) → n ≢ 0 → number_of t.plan.now ≡ Some plan
        → value_if (option_map (λ p. p.now) t.parameters) ≡ Some parameters
        → reported_in 200 text
        ≡ Some (settings_by plan (parameters_digest parameters) (digest_or_none (option_map (λ v. v.now) t.version)), n)
    fetched_reported plan parameters there is_plan is_parameters =
        let number : number_told (object_of s) ≡ Some n =
        ap (option_and_then number_at) (number_under s ∙ number_value_back n there) ∙ number_back n there small in
        let plan_is : plan_told (object_of s) ≡ Some plan = ap (option_and_then number_of) (plan_text s) ∙ is_plan in
        let parameters_are : parameters_told (object_of s) ≡ Some (parameters_digest parameters) =
        ap (option_map parameters_digest) (parameters_under s ∙ is_parameters) in
        let version = digest_or_none (version_at (object_of s)) in
        ap (option_and_then reported_of) fetched_whole
        ∙ ap (λ p. reported_by (told_by p (number_told (object_of s))) (parameters_told (object_of s)) version) plan_is
        ∙ ap (λ m. reported_by (told_by (Some plan) m) (parameters_told (object_of s)) version) number
        ∙ ap (λ p. reported_by (Some (plan, n)) p version) parameters_are
        ∙ ap (λ v. Some (settings_by plan (parameters_digest parameters) (digest_or_none v), n)) (version_under s)
