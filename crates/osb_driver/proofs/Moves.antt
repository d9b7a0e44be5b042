-- What is so of the drivers stays so, whatever happens.
use Rattle.std.proofs.Common.{◌≡◌, ◌⊎◌, ℕ, Bool, true, inl, inr, refl, sym, ap, subst, ◌∙◌, List, [], ◌∷◌, ◌++◌}
use Rattle.std.specs.Prelude.{⊤, Option, Some, None, is_some, slice_get, slice_set, IsSomeAnd}
use Rattle.osb_message.specs.declared.catalogue.Mode.{Mode}
use Rattle.osb_message.specs.declared.messages.Answer.{Answer}
use Rattle.osb_message.specs.declared.messages.Kind.{Kind}
use Rattle.osb_message.specs.declared.messages.Kind.TheVariants.{Provision, Poll, Deprovision}
use Rattle.osb_message.specs.declared.messages.Request.{Request}
use Rattle.osb_instance.specs.declared.outcome.WorkOutcome.{WorkOutcome}
use Rattle.osb_instance.specs.Begin.{can_end, is_operating}
use Rattle.osb_instance.specs.Held.{Held}
use Rattle.osb_network.specs.declared.resource.Resource.{Resource}
use Rattle.osb_network.specs.Truth.{is_true_end, is_true_finish_of, is_under_way, is_under_way_by}
use Rattle.osb_driver.specs.declared.driver.Driver.{Driver}
use Rattle.osb_driver.specs.declared.driver.Stage.{Stage}
use Rattle.osb_driver.specs.declared.driver.Task.{Task}
use Rattle.osb_network.specs.declared.event.Given.{Given}
use Rattle.osb_driver.specs.World.{driver_at, Goes, IsAnswered, IsAtEnd, IsAtWork, IsGivenTo, IsRepeated}
use Rattle.osb_driver.specs.World.{Knows, KnowsEnd, Side}
use Rattle.osb_driver.proofs.Places.{push_at, set_at, set_here}

-- ---- a stage of which nothing is claimed

abbrev pub IsQuiet : Stage → Type 0
IsQuiet (Stage.Work task) = ⊥
IsQuiet (Stage.End outcome before) = ⊥
IsQuiet (Stage.Finish ok) = ⊥
IsQuiet Stage.Unsure = ⊥
IsQuiet stage = ⊤

pub knows_quiet : (side : Side) (a : Option ℕ) (s : Stage) → IsQuiet s → Knows side a s
knows_quiet side a (Stage.Work task) q = absurd q
knows_quiet side a (Stage.End outcome before) q = absurd q
knows_quiet side a (Stage.Finish ok) q = absurd q
knows_quiet side a Stage.Unsure q = absurd q
knows_quiet side a Stage.TryLock q = tt
knows_quiet side a (Stage.Begin locked) q = tt
knows_quiet side a Stage.AwaitLock q = tt
knows_quiet side a (Stage.Answer answer) q = tt
knows_quiet side a Stage.Done q = tt

pub quiet_work : (s : Stage) → IsQuiet s → IsAtWork s → ⊥
quiet_work (Stage.Work task) q w = q
quiet_work (Stage.End outcome before) q w = w
quiet_work (Stage.Finish ok) q w = w
quiet_work Stage.Unsure q w = w
quiet_work Stage.TryLock q w = w
quiet_work (Stage.Begin locked) q w = w
quiet_work Stage.AwaitLock q w = w
quiet_work (Stage.Answer answer) q w = w
quiet_work Stage.Done q w = w

pub quiet_end : (s : Stage) → IsQuiet s → IsAtEnd s → ⊥
quiet_end (Stage.Work task) q e = q
quiet_end (Stage.End outcome before) q e = q
quiet_end (Stage.Finish ok) q e = q
quiet_end Stage.Unsure q e = e
quiet_end Stage.TryLock q e = e
quiet_end (Stage.Begin locked) q e = e
quiet_end Stage.AwaitLock q e = e
quiet_end (Stage.Answer answer) q e = e
quiet_end Stage.Done q e = e

end_work : (s : Stage) → IsAtEnd s → IsAtWork s → ⊥
end_work (Stage.Work task) e w = e
end_work (Stage.End outcome before) e w = w
end_work (Stage.Finish ok) e w = w
end_work Stage.Unsure e w = e
end_work Stage.TryLock e w = e
end_work (Stage.Begin locked) e w = e
end_work Stage.AwaitLock e w = e
end_work (Stage.Answer answer) e w = e
end_work Stage.Done e w = e

pub owner_quiet : (side : Side) (o n h : Driver) → IsQuiet n.stage → Goes side o h → Goes side n h
owner_quiet side o n h q g = record {
  owned = knows_quiet side n.attempt n.stage q;
  works = g.works;
  apart = λ e w. quiet_end n.stage q e;
}

-- the driver whose number the row has comes to a stage of which no more is claimed
pub owner_claims : (side : Side) (o n h : Driver) → (IsAtEnd n.stage → IsAtEnd o.stage)
    → (Knows side o.attempt o.stage → Knows side n.attempt n.stage) → Goes side o h → Goes side n h
owner_claims side o n h ends k g = record {
  owned = k g.owned;
  works = g.works;
  apart = λ e w. g.apart (ends e) w;
}

-- the driver that has the lock doesn't work, or doesn't any more
pub holder_rests : (side : Side) (o h n : Driver) → (IsAtWork n.stage → ⊥) → Goes side o h → Goes side o n
holder_rests side o h n q g = record { owned = g.owned; works = λ w. absurd (q w); apart = λ e w. q w }

pub set_owner : (side : Side) (o n x h : Driver) → IsQuiet n.stage → (x ≡ n) ⊎ (x ≡ o) → Goes side o h → Goes side x h
set_owner side o n x h q (inl e) g = subst (λ y. Goes side y h) (sym e) (owner_quiet side o n h q g)
set_owner side o n x h q (inr e) g = subst (λ y. Goes side y h) (sym e) g

pub set_holder : (side : Side) (o h n x : Driver) → (IsAtWork n.stage → ⊥) → (x ≡ n) ⊎ (x ≡ h) → Goes side o h → Goes side o x
set_holder side o h n x q (inl e) g = subst (λ y. Goes side o y) (sym e) (holder_rests side o h n q g)
set_holder side o h n x q (inr e) g = subst (λ y. Goes side o y) (sym e) g

here_or : (xs : List Driver) (at : ℕ) (d e : Driver) (x : Option ℕ) → slice_get xs at ≡ Some e
    → (x ≡ Some at) ⊎ (driver_at (slice_set xs at d) x ≡ driver_at xs x)
    → (driver_at (slice_set xs at d) x ≡ d) ⊎ (driver_at (slice_set xs at d) x ≡ driver_at xs x)
here_or xs at d e x is (inl f) = inl (ap (driver_at (slice_set xs at d)) f ∙ set_here xs at d e is)
here_or xs at d e x is (inr f) = inr f

pub put_at : (xs : List Driver) (at : ℕ) (d e : Driver) (x : Option ℕ) → slice_get xs at ≡ Some e
    → (driver_at (slice_set xs at d) x ≡ d) ⊎ (driver_at (slice_set xs at d) x ≡ driver_at xs x)
put_at xs at d e x is = here_or xs at d e x is (set_at xs at d x)

-- a driver comes to a quiet stage
pub goes_quiet : (side : Side) (xs : List Driver) (at : ℕ) (d e : Driver) (o h : Option ℕ) → slice_get xs at ≡ Some e
    → IsQuiet d.stage → Goes side (driver_at xs o) (driver_at xs h)
    → Goes side (driver_at (slice_set xs at d) o) (driver_at (slice_set xs at d) h)
goes_quiet side xs at d e o h is q g =
    set_owner side (driver_at xs o) d _ _ q (put_at xs at d e o is)
    (set_holder side (driver_at xs o) (driver_at xs h) d _ (quiet_work d.stage q) (put_at xs at d e h is) g)

turned : (A B : Type 0) → A ⊎ B → B ⊎ A
turned A B (inl a) = inr a
turned A B (inr b) = inl b

-- one driver more
pub goes_more : (side : Side) (xs : List Driver) (d : Driver) (o h : Option ℕ) → IsQuiet d.stage
    → Goes side (driver_at xs o) (driver_at xs h) → Goes side (driver_at (xs ++ d ∷ []) o) (driver_at (xs ++ d ∷ []) h)
goes_more side xs d o h q g =
    set_owner side (driver_at xs o) d _ _ q (turned _ _ (push_at xs d o))
    (set_holder side (driver_at xs o) (driver_at xs h) d _ (quiet_work d.stage q) (turned _ _ (push_at xs d h)) g)

-- ---- what is held

pub by_work : (w : Option Request) (h : Held) → h.work ≡ w → is_some w ≡ true → is_under_way h ≡ true
by_work (Some r) h e s = subst (λ x. is_under_way_by x h ≡ true) (sym e) refl
by_work None h e s = cc

pub by_operation : (h : Held) → h.work ≡ None → is_operating h ≡ true → is_under_way h ≡ true
by_operation h e o = subst (λ x. is_under_way_by x h ≡ true) (sym e) o

-- what was given stays given
abbrev pub IsMore : List Given → List Given → Type 0
IsMore before after = (attempt : ℕ) (answer : Answer) → IsGivenTo before attempt answer → IsGivenTo after attempt answer

is_in_left : (xs ys : List Given) (n : ℕ) (x : Answer) → IsGivenTo xs n x → IsGivenTo (xs ++ ys) n x
is_in_left [] ys n x e = absurd e
is_in_left (g ∷ xs) ys n x (inl e) = inl e
is_in_left (g ∷ xs) ys n x (inr e) = inr (is_in_left xs ys n x e)

pub given_more : (xs ys : List Given) → IsMore xs (xs ++ ys)
given_more xs ys n x e = is_in_left xs ys n x e

pub given_same : (xs : List Given) → IsMore xs xs
given_same xs n x e = e

-- the last answer that was given
pub given_last : (xs : List Given) (n : ℕ) (x : Answer)
    → IsGivenTo (xs ++ record { attempt = n; answer = x } ∷ []) n x
given_last [] n x = inl refl
given_last (g ∷ xs) n x = inr (given_last xs n x)

abbrev with_held : Side → Held → List Given → Side
with_held side held given = record {
  mode = side.mode;
  held = held;
  worker = side.worker;
  resource = side.resource;
  given = given;
}

repeated_more : (xs ys : List Given) (a : Option ℕ) (before : Option Answer) → IsMore xs ys → IsRepeated xs a before
    → IsRepeated ys a before
repeated_more xs ys None before more k = absurd k
repeated_more xs ys (Some n) None more k = absurd k
repeated_more xs ys (Some n) (Some x) more k = more n x k

end_more : (side : Side) (n : Held) (xs : List Given) (a : Option ℕ) (out : WorkOutcome) (before : Option Answer)
    (w : Option Request) → IsMore side.given xs → KnowsEnd side a out before w
    → KnowsEnd (with_held side n xs) a out before w
end_more side n xs a out before None more k = repeated_more side.given xs a before more k
end_more side n xs a out before (Some r) more k = k

some_work : (w v : Option Request) (P : Type 0) → w ≡ v → IsSomeAnd v (λ r. P) → IsSomeAnd w (λ r. P)
some_work w v P e k = subst (λ (x : Option Request). IsSomeAnd x (λ r. P)) (sym e) k

-- what is held changes only while nothing is under way, and the pending work stays
pub knows_held : (side : Side) (n : Held) (xs : List Given) (a : Option ℕ) (s : Stage)
    → (is_under_way side.held ≡ true → n ≡ side.held) → n.work ≡ side.held.work → IsMore side.given xs
    → Knows side a s → Knows (with_held side n xs) a s
knows_held side n xs a (Stage.Work (Task.Pending r)) same work more k = (work ∙ k.0, k.1)
knows_held side n xs a (Stage.Work Task.Operation) same work more k =
    (work ∙ k.0, ap is_operating (same (by_operation side.held k.0 k.1)) ∙ k.1)
knows_held side n xs a (Stage.End out before) same work more k =
    subst (KnowsEnd (with_held side n xs) a out before) (sym work)
    (end_more side n xs a out before side.held.work more k)
knows_held side n xs a (Stage.Finish ok) same work more k =
    let e = same (by_operation side.held k.0 k.1.0) in (
      work ∙ k.0,
      (
        ap is_operating e ∙ k.1.0,
        ap (λ (x : Held). is_true_finish_of x.row ok side.resource) e ∙ k.1.1,
      ),
    )
knows_held side n xs a Stage.Unsure same work more k =
    some_work n.work side.held.work (IsAnswered side.worker a) work k
knows_held side n xs a Stage.TryLock same work more k = tt
knows_held side n xs a (Stage.Begin locked) same work more k = tt
knows_held side n xs a Stage.AwaitLock same work more k = tt
knows_held side n xs a (Stage.Answer answer) same work more k = tt
knows_held side n xs a Stage.Done same work more k = tt

pub goes_held : (side : Side) (n : Held) (xs : List Given) (o h : Driver)
    → (is_under_way side.held ≡ true → n ≡ side.held) → n.work ≡ side.held.work → IsMore side.given xs → Goes side o h
    → Goes (with_held side n xs) o h
goes_held side n xs o h same work more g = record {
  owned = knows_held side n xs o.attempt o.stage same work more g.owned;
  works = λ w. subst (λ x. is_under_way x ≡ true) (sym (same (g.works w))) (g.works w);
  apart = g.apart;
}

-- a driver's number is written
pub goes_claimed : (side : Side) (d h : Driver) → Knows side d.attempt d.stage → (IsAtEnd d.stage → ⊥)
    → is_under_way side.held ≡ true → Goes side d h
goes_claimed side d h k ends on = record { owned = k; works = λ w. on; apart = λ e w. ends e }

-- ---- the resource

abbrev with_resource : Side → Resource → Side
with_resource side resource =
    record { mode = side.mode; held = side.held; worker = side.worker; resource = resource; given = side.given }

kept_resource : (side : Side) (t : Resource) (a : Option ℕ) (s : Stage) → (IsAtEnd s → ⊥) → Knows side a s
    → Knows (with_resource side t) a s
kept_resource side t a (Stage.Work (Task.Pending r)) n k = k
kept_resource side t a (Stage.Work Task.Operation) n k = k
kept_resource side t a (Stage.End out before) n k = absurd (n tt)
kept_resource side t a (Stage.Finish ok) n k = absurd (n tt)
kept_resource side t a Stage.Unsure n k = k
kept_resource side t a Stage.TryLock n k = tt
kept_resource side t a (Stage.Begin locked) n k = tt
kept_resource side t a Stage.AwaitLock n k = tt
kept_resource side t a (Stage.Answer answer) n k = tt
kept_resource side t a Stage.Done n k = tt

-- who has the lock works
pub goes_resource : (side : Side) (t : Resource) (o h : Driver) → IsAtWork h.stage → Goes side o h
    → Goes (with_resource side t) o h
goes_resource side t o h w g = record {
  owned = kept_resource side t o.attempt o.stage (λ e. g.apart e w) g.owned;
  works = g.works;
  apart = g.apart;
}

-- ---- the end of work

-- what a driver knows once it has seen how its pending work ended
pub knows_end : (side : Side) (a : Option ℕ) (r : Request) (out : WorkOutcome)
    → Knows side a (Stage.Work (Task.Pending r)) → is_true_end side.mode r.kind out side.resource ≡ true
    → Knows side a (Stage.End out None)
knows_end side a r out k t = subst (KnowsEnd side a out None) (sym k.0) (t, k.1)

-- a driver that has the lock has seen how its work ended: whoever's number the row has
pub goes_ended : (side : Side) (o h n : Driver) → (IsAtWork n.stage → ⊥) → Knows side n.attempt n.stage → Goes side n n
goes_ended side o h n q k = record { owned = k; works = λ w. absurd (q w); apart = λ e w. q w }

-- the driver whose number the row has was at the end of its work, and nobody works
pub goes_over : (side after : Side) (o n h : Driver) → IsAtEnd o.stage → (IsAtWork n.stage → ⊥)
    → Knows after n.attempt n.stage → Goes side o h → Goes after n h
goes_over side after o n h e rests k g = record {
  owned = k;
  works = λ w. absurd (g.apart e w);
  apart = λ x w. g.apart e w;
}

true_can_end : (m : Option Mode) (k : Kind) (out : WorkOutcome) (t : Resource) → is_true_end m k out t ≡ true
    → can_end k out ≡ true
true_can_end m Provision out t e = refl
true_can_end m Poll (WorkOutcome.Refused x) t e = cc
true_can_end m Poll WorkOutcome.Done t e = refl
true_can_end m Poll WorkOutcome.Before t e = refl
true_can_end m Poll WorkOutcome.After t e = refl
true_can_end m Deprovision (WorkOutcome.Refused x) t e = cc
true_can_end m Deprovision WorkOutcome.Done t e = refl
true_can_end m Deprovision WorkOutcome.Before t e = refl
true_can_end m Deprovision WorkOutcome.After t e = refl

pub can_end_so : (m : Option Mode) (r : Request) (out : WorkOutcome) (t : Resource)
    → is_true_end m r.kind out t ≡ true → can_end r.kind out ≡ true
can_end_so m r out t e = true_can_end m r.kind out t e

-- what a driver knows once it has seen how its operation ended
pub knows_finish : (side : Side) (a : Option ℕ) (ok : Bool) → Knows side a (Stage.Work Task.Operation)
    → is_true_finish_of side.held.row ok side.resource ≡ true → Knows side a (Stage.Finish ok)
knows_finish side a ok k t = (k.0, (k.1, t))
