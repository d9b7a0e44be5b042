-- The version of an instance's maintenance (section Maintenance Info Object), and its digest. That versions are compared
-- by digests, and that an empty text stands for none, is this project's choice.
use Rattle.std.specs.Prelude.{ℕ, ◌==◌, if◌then◌else◌, List, codes, length, Option, Some, None, option_and_then}
use Rattle.json.specs.Find.{get, as_str}
use Rattle.json.specs.Json.{Json}
use Rattle.sha2.specs.Sha256.{sha256}
use Rattle.osb_instance.specs.declared.digest.Digest.{Digest}
use Rattle.osb_wire.specs.Digests.{no_digest}

-- the string that stands under a name
abbrev pub text_at : List ℕ → Json → Option (List ℕ)
text_at name j = option_and_then as_str (get name j)

-- the version that `maintenance_info` names
abbrev pub version_at : Json → Option (List ℕ)
version_at j = option_and_then (text_at (codes "version")) (get (codes "maintenance_info") j)

-- the digest of none
abbrev pub none : Digest
none = record { bytes = no_digest }

-- SHA-256 of the text, and the digest of none of an empty text
abbrev pub version_digest : List ℕ → Digest
version_digest text = if length text == 0 then none else record { bytes = sha256 text }

-- the digest of a version that may be missing
abbrev pub digest_or_none : Option (List ℕ) → Digest
digest_or_none None = none
digest_or_none (Some text) = version_digest text
