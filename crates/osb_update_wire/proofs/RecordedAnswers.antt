-- What a platform records after the response to an Update, by its status and the object that its body is.
use Rattle.std.proofs.Common.{◌≡◌, ℕ, Bool, true, false, not, ◌&&◌, ◌||◌, ◌==◌, cond, List, Option, None, Some, refl, sym, ap, ◌∙◌, subst, arith}
use Rattle.std.specs.Prelude.{codes, nat_le, unwrap_or, option_map}
use Rattle.std.proofs.lemmas.Bool.{eqb-true}
use Rattle.serde_json.specs.Data.{Data}
use Rattle.osb_json.specs.Members.{text_at}
use Rattle.osb_message.specs.declared.messages.Answer.{Answer}
use Rattle.osb_message.specs.declared.messages.Body.{Body}
use Rattle.osb_message.specs.declared.messages.Body.TheVariants.{Malformed, Empty, Error}
use Rattle.osb_message.specs.declared.messages.Kind.TheVariants.{Provision}
use Rattle.osb_update.specs.Recorded.{after_update, after_rejection, is_concurrency, is_malformed}
use Rattle.osb_update.specs.declared.settings.Settings.{Settings}
use Rattle.osb_update.specs.declared.state.Aim.{Aim}
use Rattle.osb_update.specs.declared.state.UpdateState.{UpdateState}
use Rattle.osb_wire.specs.Answers.{answer_in, answer_of_object, body_of_object, code_named, error_in, is_a_gateways, may_be_a_gateways}
use Rattle.osb_wire.specs.Bodies.{object_in}
use Rattle.osb_update_wire.specs.Answers.{recorded, recorded_of}

abbrev After : Type 0
After = Settings × UpdateState

-- a response that isn't surely the broker's counts as a timeout
through : (settings : Settings) (aim : Aim) (unsure : Bool) (answer : Answer)
    → recorded settings aim (cond unsure None (Some answer))
    ≡ cond unsure (settings, UpdateState.Updating aim) (after_update settings aim answer)
through settings aim true answer = refl
through settings aim false answer = refl

-- a body that is no object
nothing : (b200 b202 b422 low high gateway : Bool) (done polled rejected again : After)
    → cond ((low && high) && (gateway || true)) again
    (cond (b200 && false) done (cond (b202 && false) polled (cond (b422 && false) again
    (cond (low && (high && (false && not gateway))) rejected again))))
    ≡ again
nothing b200 b202 b422 low high gateway done polled rejected again = grind arith

-- an error
told : (b422 concurrency low high gateway : Bool) (rejected again : After)
    → cond ((low && high) && (gateway || false)) again
    (cond (b422 && concurrency) again (cond (low && (high && (true && not gateway))) rejected again))
    ≡ cond (b422 && concurrency) again (cond ((low && high) && not gateway) rejected again)
told b422 concurrency low high gateway rejected again = grind arith

not_malformed : (o : Option (List ℕ)) → is_malformed (unwrap_or (option_map (λ word. Error (code_named word)) o) Empty) ≡ false
not_malformed None = refl
not_malformed (Some word) = refl

module _ (settings : Settings) (aim : Aim) (status : ℕ) where
  abbrev again : After
  again = (settings, UpdateState.Updating aim)

  abbrev answer_with : Body → Answer
  answer_with body = record { status = status; body = body }

  after_error : (e : Body) → (status == 200) ≡ false → (status == 202) ≡ false → is_malformed e ≡ false
      → after_update settings aim (answer_with e)
      ≡ cond (status == 422 && is_concurrency e) again
      (cond (nat_le 400 status && (nat_le status 499 && (true && not (is_a_gateways status))))
      (after_rejection settings aim) again)
  after_error e h200 h202 hm = rw (h200, h202, hm) refl

  body_is : (d : Data) → (status == 200) ≡ false → (status == 201) ≡ false → (status == 202) ≡ false
      → body_of_object Provision status d ≡ error_in d
  body_is d h200 h201 h202 = rw (h200, h201, h202) refl

  abbrev Same : ℕ → Data → Type 0
  Same s d = recorded settings aim (answer_of_object Provision s (Some d)) ≡ recorded_of settings aim s (Some d)

  of_object : (d : Data) (b200 b201 b202 : Bool) → (status == 200) ≡ b200 → (status == 201) ≡ b201
      → (status == 202) ≡ b202 → Same status d
  of_object d true b201 b202 h200 h201 h202 = subst (λ s. Same s d) (sym (eqb-true status 200 h200)) refl
  of_object d false true b202 h200 h201 h202 = subst (λ s. Same s d) (sym (eqb-true status 201 h201)) refl
  of_object d false false true h200 h201 h202 = subst (λ s. Same s d) (sym (eqb-true status 202 h202)) refl
  of_object d false false false h200 h201 h202 =
      through settings aim (may_be_a_gateways Provision status true) (answer_with (body_of_object Provision status d))
      ∙ ap (λ e. cond (may_be_a_gateways Provision status true) again (after_update settings aim (answer_with e))) (body_is d h200 h201 h202)
      ∙ ap (cond (may_be_a_gateways Provision status true) again)
      (after_error (error_in d) h200 h202 (not_malformed (text_at (codes "error") d)))
      ∙ told (status == 422) (is_concurrency (error_in d)) (nat_le 400 status) (nat_le status 499) (is_a_gateways status) (after_rejection settings aim) again
      ∙ rw (h200, h202) refl

  of_nothing : recorded settings aim (answer_of_object Provision status None) ≡ again
  of_nothing =
      through settings aim (may_be_a_gateways Provision status false) (answer_with Malformed)
      ∙ nothing (status == 200) (status == 202) (status == 422) (nat_le 400 status) (nat_le status 499) (is_a_gateways status)
      (aim.to, UpdateState.Settled) (settings, UpdateState.Polling aim) (after_rejection settings aim) again

  by_object : (o : Option Data)
      → recorded settings aim (answer_of_object Provision status o) ≡ recorded_of settings aim status o
  by_object None = of_nothing
  by_object (Some d) = of_object d (status == 200) (status == 201) (status == 202) refl refl refl

  pub recorded_so : (body : List ℕ)
      → recorded settings aim (answer_in Provision status body) ≡ recorded_of settings aim status (object_in body)
  recorded_so body = by_object (object_in body)
