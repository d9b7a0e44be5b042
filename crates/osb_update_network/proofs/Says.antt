-- What an answer reports of the settings, and of the instance.
use Rattle.std.proofs.Common.{◌≡◌, Bool, true, false, refl, sym, subst, ◌⊎◌, inl, inr, ◌∙◌}
use Rattle.std.specs.Prelude.{Option, Some, None, ◌&&◌, ◌||◌, ◌==◌, if◌then◌else◌}
use Rattle.osb_message.specs.declared.messages.Answer.{Answer}
use Rattle.osb_message.specs.declared.messages.Kind.{Kind}
use Rattle.osb_message.specs.declared.messages.Kind.TheVariants.{Provision, Poll, Deprovision}
use Rattle.osb_instance.specs.Begin.{busy}
use Rattle.osb_instance.specs.declared.work.Begun.{Begun}
use Rattle.osb_network.specs.AnyPlatform as network
use Rattle.osb_network.specs.AnyPlatform.{believed, is_succeeded, told_ready}
use Rattle.osb_network.specs.declared.any_platform.Told.{Told}
use Rattle.osb_update.specs.Begun.{is_under_way}
use Rattle.osb_update.specs.declared.phase.UpdatePhase.{UpdatePhase}
use Rattle.osb_update.specs.declared.settings.Settings.{Settings}
use Rattle.osb_update_network.specs.Promises.{IsAcceptedIn, IsPutAside}
use Rattle.osb_update_network.specs.Reported.{accepts, by_answer, by_begun, has_settings, has_succeeded, heard, succeeded_with}
use Rattle.osb_update_network.specs.declared.reported.Reported.{Reported}

pub some_same : {A : Type 0} (x y : A) → Some x ≡ Some y → x ≡ y
some_same x y e = cc

pub none_some : {A : Type 0} (x : A) → None ≡ Some x → ⊥
none_some x e = cc

-- ---- a request arrives

pub heard_settings : (k : Kind) (r : Reported) (s : Settings) → (heard k r).settings ≡ Some s → r.settings ≡ Some s
heard_settings Provision r s e = e
heard_settings Poll r s e = e
heard_settings Deprovision r s e = absurd (none_some s e)

pub deprovision_settings : (k : Kind) (r : Reported) (s : Settings) → k ≡ Deprovision → (heard k r).settings ≡ Some s → ⊥
deprovision_settings Deprovision r s is e = none_some s e
deprovision_settings k r s is e = cc

pub accepted_none : (p : UpdatePhase) (s : Settings) → IsAcceptedIn p s None
accepted_none UpdatePhase.Settled s = λ to e. absurd (none_some to e)
accepted_none UpdatePhase.Failed s = tt
accepted_none (UpdatePhase.Updating goal) s = λ to e. absurd (none_some to e)
accepted_none (UpdatePhase.Pending goal) s = refl
accepted_none (UpdatePhase.Mending goal) s = refl

pub heard_accepted : (k : Kind) (p : UpdatePhase) (s : Settings) (r : Reported) → IsAcceptedIn p s r.accepted
    → IsAcceptedIn p s (heard k r).accepted
heard_accepted Provision p s r h = h
heard_accepted Poll p s r h = h
heard_accepted Deprovision p s r h = accepted_none p s

aside_none : (p : UpdatePhase) (s : Settings) (b t : Option Settings) → IsPutAside p s b t → IsPutAside p s b None
aside_none (UpdatePhase.Pending goal) s b t h = (h.0, λ told e. absurd (none_some told e))
aside_none UpdatePhase.Settled s b t h = tt
aside_none UpdatePhase.Failed s b t h = tt
aside_none (UpdatePhase.Updating goal) s b t h = tt
aside_none (UpdatePhase.Mending goal) s b t h = tt

pub heard_aside : (k : Kind) (p : UpdatePhase) (s : Settings) (b : Option Settings) (r : Reported)
    → IsPutAside p s b r.before → IsPutAside p s b (heard k r).before
heard_aside Provision p s b r h = h
heard_aside Poll p s b r h = h
heard_aside Deprovision p s b r h = aside_none p s b r.before h

pub heard_leaving : (k : Kind) (told : Told) → told.leaving ≡ (network.heard k told).leaving
heard_leaving Provision told = refl
heard_leaving Poll told = refl
heard_leaving Deprovision told = refl

-- ---- a request is answered

-- settings are reported that were reported before; or the instance is reported ready, by a Provision that asked for them,
-- or by a Poll once they were accepted
abbrev pub Says : Kind → Settings → Reported → Told → Settings → Type 0
Says k asked r told s =
    (r.settings ≡ Some s)
    ⊎ ((told.ready ≡ true) × (((k ≡ Provision) × (asked ≡ s)) ⊎ ((k ≡ Poll) × (r.accepted ≡ Some s))))

provision_says : (x y : Bool) (asked : Settings) (r : Reported) (told : Told) (s : Settings)
    → (if x then has_settings asked r else if y then accepts asked r else r).settings ≡ Some s
    → Says Provision asked r (if x then told_ready told else told) s
provision_says true y asked r told s e = inr (refl, inl (refl, some_same asked s e))
provision_says false true asked r told s e = inl e
provision_says false false asked r told s e = inl e

succeeded_says : (a : Option Settings) (asked : Settings) (r : Reported) (told : Told) (s : Settings) → a ≡ r.accepted
    → succeeded_with a r.settings ≡ Some s → Says Poll asked r (told_ready told) s
succeeded_says None asked r told s i e = inl e
succeeded_says (Some x) asked r told s i e = inr (refl, inr (refl, sym i ∙ e))

poll_says : (x : Bool) (asked : Settings) (r : Reported) (told : Told) (s : Settings)
    → (if x then has_succeeded r else r).settings ≡ Some s → Says Poll asked r (if x then told_ready told else told) s
poll_says true asked r told s e = succeeded_says r.accepted asked r told s refl e
poll_says false asked r told s e = inl e

leaving_says : (x : Bool) (a : Answer) (asked : Settings) (r : Reported) (told : Told) (s : Settings) → x ≡ told.leaving
    → (by_answer Poll x a asked r).settings ≡ Some s → Says Poll asked r (network.believed_poll x a told) s
leaving_says true a asked r told s i e = inl e
leaving_says false a asked r told s i e = poll_says (a.status == 200 && is_succeeded a.body) asked r told s e

pub answer_says : (k : Kind) (x : Bool) (a : Answer) (asked : Settings) (r : Reported) (told : Told) (s : Settings)
    → x ≡ told.leaving → (by_answer k x a asked r).settings ≡ Some s → Says k asked r (believed k a told) s
answer_says Provision x a asked r told s i e =
    provision_says (a.status == 200 || a.status == 201) (a.status == 202) asked r told s e
answer_says Poll x a asked r told s i e =
    subst (λ (y : Bool). Says Poll asked r (network.believed_poll y a told) s) i (leaving_says x a asked r told s i e)
answer_says Deprovision x a asked r told s i e = inl e

pub begun_says : (g : Begun) (k : Kind) (x : Bool) (asked : Settings) (r : Reported) (told : Told) (s : Settings)
    → x ≡ told.leaving → (by_begun g k x asked r).settings ≡ Some s → Says k asked r (network.reported g k told) s
begun_says (Begun.Answered a) k x asked r told s i e = answer_says k x a asked r told s i e
begun_says (Begun.Work w) k x asked r told s i e = inl e

-- ---- what is accepted

pub accepted_same : (p : UpdatePhase) (s asked : Settings) → is_under_way p ≡ false → asked ≡ s
    → IsAcceptedIn p s (Some asked)
accepted_same UpdatePhase.Settled s asked u i = λ to e. sym (some_same asked to e) ∙ i
accepted_same UpdatePhase.Failed s asked u i = tt
accepted_same (UpdatePhase.Updating goal) s asked u i = cc
accepted_same (UpdatePhase.Pending goal) s asked u i = cc
accepted_same (UpdatePhase.Mending goal) s asked u i = cc

provision_accepts : (x y : Bool) (p : UpdatePhase) (s asked : Settings) (r : Reported) → IsAcceptedIn p s r.accepted
    → (y ≡ true → IsAcceptedIn p s (Some asked))
    → IsAcceptedIn p s (if x then has_settings asked r else if y then accepts asked r else r).accepted
provision_accepts true y p s asked r h f = h
provision_accepts false true p s asked r h f = f refl
provision_accepts false false p s asked r h f = h

poll_accepts : (x y : Bool) (p : UpdatePhase) (s : Settings) (r : Reported) → IsAcceptedIn p s r.accepted
    → IsAcceptedIn p s (if x then r else if y then has_succeeded r else r).accepted
poll_accepts true y p s r h = h
poll_accepts false true p s r h = h
poll_accepts false false p s r h = h

pub answer_accepts : (k : Kind) (x : Bool) (a : Answer) (p : UpdatePhase) (s asked : Settings) (r : Reported)
    → IsAcceptedIn p s r.accepted → (k ≡ Provision → (a.status == 202) ≡ true → IsAcceptedIn p s (Some asked))
    → IsAcceptedIn p s (by_answer k x a asked r).accepted
answer_accepts Provision x a p s asked r h f =
    provision_accepts (a.status == 200 || a.status == 201) (a.status == 202) p s asked r h (f refl)
answer_accepts Poll x a p s asked r h f = poll_accepts x (a.status == 200 && is_succeeded a.body) p s r h
answer_accepts Deprovision x a p s asked r h f = h

pub begun_accepts : (g : Begun) (k : Kind) (x : Bool) (p : UpdatePhase) (s asked : Settings) (r : Reported)
    → IsAcceptedIn p s r.accepted
    → (k ≡ Provision → (a : Answer) → g ≡ Begun.Answered a → (a.status == 202) ≡ true → IsAcceptedIn p s (Some asked))
    → IsAcceptedIn p s (by_begun g k x asked r).accepted
begun_accepts (Begun.Answered a) k x p s asked r h f = answer_accepts k x a p s asked r h (λ i. f i a refl)
begun_accepts (Begun.Work w) k x p s asked r h f = h

-- ---- what was put aside stays

provision_before : (x y : Bool) (asked : Settings) (r : Reported)
    → (if x then has_settings asked r else if y then accepts asked r else r).before ≡ r.before
provision_before true y asked r = refl
provision_before false true asked r = refl
provision_before false false asked r = refl

poll_before : (x y : Bool) (r : Reported) → (if x then r else if y then has_succeeded r else r).before ≡ r.before
poll_before true y r = refl
poll_before false true r = refl
poll_before false false r = refl

pub answer_before : (k : Kind) (x : Bool) (a : Answer) (asked : Settings) (r : Reported)
    → (by_answer k x a asked r).before ≡ r.before
answer_before Provision x a asked r = provision_before (a.status == 200 || a.status == 201) (a.status == 202) asked r
answer_before Poll x a asked r = poll_before x (a.status == 200 && is_succeeded a.body) r
answer_before Deprovision x a asked r = refl

pub begun_before_same : (g : Begun) (k : Kind) (x : Bool) (asked : Settings) (r : Reported)
    → (by_begun g k x asked r).before ≡ r.before
begun_before_same (Begun.Answered a) k x asked r = answer_before k x a asked r
begun_before_same (Begun.Work w) k x asked r = refl

-- ---- a request that is put off reports nothing

busy_poll : (x : Bool) (asked : Settings) (r : Reported) → by_answer Poll x (busy Poll) asked r ≡ r
busy_poll true asked r = refl
busy_poll false asked r = refl

pub busy_says : (k : Kind) (x : Bool) (asked : Settings) (r : Reported) → by_answer k x (busy k) asked r ≡ r
busy_says Provision x asked r = refl
busy_says Poll x asked r = busy_poll x asked r
busy_says Deprovision x asked r = refl
