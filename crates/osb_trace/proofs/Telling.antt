-- What is told of more lines joins what was told before.
use Rattle.std.proofs.Common.{ℕ, List, [], ◌∷◌, ◌++◌, refl, sym, ap, ◌∙◌, subst, append_assoc}
use Rattle.std.proofs.Common.{append-nil}
use Rattle.std.proofs.KnownBytes.{Appends-trans}
use Rattle.std.proofs.lemmas.Bool.{false≢true}
use Rattle.std.specs.Prelude.{Option, Result, Ok, Err, IsOk, OnOk}
use Rattle.std.specs.Io.KnownBytes.{Appends}
use Rattle.osb_trace.specs.Passing.{TellsMore}
use Rattle.osb_trace.specs.Telling.{IsLineTold, IsTold}

pub told_both : (instance : Option ℕ) (earlier more after : List (List ℕ)) (text rest : List ℕ)
    → IsTold instance earlier more text → IsTold instance (earlier ++ more) after rest
    → IsTold instance earlier (more ++ after) (text ++ rest)
told_both instance earlier [] after text rest none told =
    subst (λ all. IsTold instance earlier after (all ++ rest)) (sym none)
    (subst (λ before. IsTold instance before after rest) (append-nil earlier) told)
told_both instance earlier (line ∷ more) after text rest (first, others, here, later, all) told = (
  first,
  others ++ rest,
  here,
  told_both instance (earlier ++ line ∷ []) more after others rest later
      (subst (λ before. IsTold instance before after rest) (sym (append_assoc earlier (line ∷ []) more)) told),
  ap (λ front. front ++ rest) all ∙ append_assoc first others rest,
)

pub told_one : (instance : Option ℕ) (earlier : List (List ℕ)) (line text : List ℕ)
    → IsLineTold instance earlier line text → IsTold instance earlier (line ∷ []) text
told_one instance earlier line text here = (text, [], here, refl, sym (append-nil text))

pub tells_both : (instance : Option ℕ) (ended more after : List (List ℕ)) (first then last : Option (List ℕ))
    → TellsMore instance ended more first then → TellsMore instance (ended ++ more) after then last
    → TellsMore instance ended (more ++ after) first last
tells_both instance ended more after first then last before later = record {
  text = before.text ++ later.text;
  told = told_both instance ended more after before.text later.text before.told later.told;
  passed = Appends-trans first then last before.text later.text before.passed later.passed;
}

pub tells_one : (instance : Option ℕ) (ended more : List (List ℕ)) (line text : List ℕ)
    (first then last : Option (List ℕ))
    → TellsMore instance ended more first then → IsLineTold instance (ended ++ more) line text
    → Appends then last text
    → TellsMore instance ended (more ++ line ∷ []) first last
tells_one instance ended more line text first then last before here passed =
    tells_both instance ended more (line ∷ []) first then last before
    (record { text = text; told = told_one instance (ended ++ more) line text here; passed = passed })

-- what holds where a call was well, of one that was
pub when_ok : {T E : Type 0} (P : Type 0) (r : Result T E) → IsOk r → OnOk r P → P
when_ok P (Ok x) ok here = here
when_ok P (Err e) ok here = absurd (false≢true ok)
