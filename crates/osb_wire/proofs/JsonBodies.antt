-- The value that a body is, and the members that are kept of it.
use Rattle.std.proofs.Common.{◌≡◌, ℕ, List, ◌∷◌, ◌++◌, [], None, IsUtf8, true, false, cond, refl, append_assoc}
use Rattle.std.specs.Str.{is_utf8}
use Rattle.std.proofs.lemmas.Str.{IsUtf8-from_is_utf8, is_utf8-from_IsUtf8}
use Rattle.json.specs.Json.{Json, Members, member, document}
use Rattle.json.specs.Token.{Token, key}
use Rattle.json.specs.Tree.{json_tokens, members_tokens}
use Rattle.osb_wire.specs.JsonTexts.{json_in, is_left_out, kept}
use Rattle.osb_wire.specs.declared.json_texts.LeftOut.{LeftOut}

pub json_text : (body : List ℕ) → IsUtf8 body → json_in body ≡ document body
unfolding json_in
json_text body text = rw (is_utf8-from_IsUtf8 body text) refl

-- where the reader refuses, there is none: bytes that aren't UTF-8 have none either
pub json_none : (body : List ℕ) → (IsUtf8 body → document body ≡ None) → json_in body ≡ None
unfolding json_in
json_none body none =
    elim (is_utf8 body) as (λ b. is_utf8 body ≡ b → cond b (document body) None ≡ None) [
      | true ↦ λ e. none (IsUtf8-from_is_utf8 body e)
      | false ↦ λ e. refl
    ]
    refl

pub ruleset json_steps = (json_text, json_none)

pub kept_left_out : (which : LeftOut) (k : List ℕ) (j : Json) (ms : Members) → is_left_out which k ≡ true
    → members_tokens (kept which (member k j ms)) ≡ members_tokens (kept which ms)
kept_left_out which k j ms h = rw h refl

pub kept_one : (which : LeftOut) (k : List ℕ) (j : Json) (ms : Members) → is_left_out which k ≡ false
    → members_tokens (kept which (member k j ms)) ≡ key k ∷ (json_tokens j ++ members_tokens (kept which ms))
kept_one which k j ms h = rw h refl

-- a key and a value that are written, and what is left
pub one_more : (written : List Token) (k : List ℕ) (value left : List Token)
    → ((written ++ key k ∷ []) ++ value) ++ left ≡ written ++ (key k ∷ (value ++ left))
one_more written k value left = simp append_assoc

pub ruleset kept_steps = (kept_left_out, kept_one, one_more)
