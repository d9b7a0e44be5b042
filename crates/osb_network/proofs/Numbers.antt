-- The requests that were sent stand in the order of their numbers.
use Rattle.std.proofs.Common.{◌≡◌, ℕ, suc, zero, arith, ap, sym, ◌∙◌}
use Rattle.std.specs.Prelude.{◌+◌, Option, Some, None, List, [], ◌∷◌, slice_get}
use Rattle.osb_instance.specs.declared.record.Sent.{Sent}
use Rattle.osb_instance.specs.Recorded.{Recorded}
use Rattle.osb_network.specs.Cell.{Cell, IsNumbered, IsPossible, IsPossibleWith}

numbered_from : (n : ℕ) (xs : List Sent) (i at : ℕ) (y : Sent) → IsNumbered n xs i → slice_get xs at ≡ Some y
    → y.attempt ≡ n + at + 1
numbered_from n [] i at y h e = cc
numbered_from n (x ∷ xs) i zero y h e =
    let same : x ≡ y = cc in
    let number : x.attempt ≡ n + 1 = h.0 in
    let is : y.attempt ≡ n + 1 = ap (λ (z : Sent). z.attempt) (sym same) ∙ number in
    omega arith
numbered_from n (x ∷ xs) i (suc at) y h e =
    let is : y.attempt ≡ n + 1 + at + 1 = numbered_from (n + 1) xs i at y h.1 e in omega arith

none_numbered : (xs : List Sent) (at : ℕ) (y : Sent) → xs ≡ [] → slice_get xs at ≡ Some y → y.attempt ≡ at + 1
none_numbered [] at y e f = cc
none_numbered (x ∷ xs) at y e f = cc

numbered_with : (c : Cell) (r : Option Recorded) → IsPossibleWith c r → (at : ℕ) (y : Sent)
    → slice_get c.sent at ≡ Some y → y.attempt ≡ at + 1
numbered_with c None h at y e = none_numbered c.sent at y h.sent e
numbered_with c (Some rec) h at y e =
    let is : y.attempt ≡ 0 + at + 1 = numbered_from 0 c.sent rec.attempt at y h.numbered e in omega arith

pub sent_numbered : (c : Cell) → IsPossible c → (at : ℕ) (y : Sent) → slice_get c.sent at ≡ Some y
    → y.attempt ≡ at + 1
sent_numbered c h = numbered_with c c.recorded h
