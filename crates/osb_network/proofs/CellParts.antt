-- The parts of a cell that can come about.
use Rattle.std.proofs.Common.{◌≡◌, ℕ, suc, zero, arith, refl, sym, ◌∙◌, subst, ◌≤◌}
use Rattle.std.specs.Prelude.{Option, Some, None, IsSome}
use Rattle.osb_message.specs.declared.messages.Kind.{Kind}
use Rattle.osb_message.specs.declared.messages.Kind.TheVariants.{Deprovision}
use Rattle.osb_message.specs.declared.messages.Request.{Request}
use Rattle.osb_platform.specs.declared.state.State.{State}
use Rattle.osb_platform.specs.declared.state.State.TheVariants.{Wanted, Cleaning}
use Rattle.osb_platform.specs.declared.state.State.TheVariants.{CleaningPolling, Gone}
use Rattle.osb_instance.specs.Held.{Held}
use Rattle.osb_network.specs.declared.resource.Resource.{Resource}
use Rattle.osb_network.specs.declared.order.Order.{Order}
use Rattle.osb_network.specs.Possible.{request_of}
use Rattle.osb_network.specs.Possible.{IsKept}
use Rattle.osb_network.specs.Possible.{IsBefore}
use Rattle.osb_network.specs.Possible.{sent_in, IsLater}
use Rattle.std.specs.Prelude.{List, [], ◌∷◌, ◌++◌, IfSome, slice_get, ◌+◌}
use Rattle.osb_network.specs.Each.{Each}
use Rattle.osb_platform.specs.State.{due}
use Rattle.osb_instance.specs.declared.record.Sent.{Sent}
use Rattle.osb_network.specs.declared.event.Given.{Given}
use Rattle.osb_network.specs.Cell.{IsSentOf, IsGivenOf, IsWorkOf, IsPossibleAt}
use Rattle.osb_network.proofs.Later.{told_later, holds_later}
use Rattle.osb_network.proofs.Taken.{Rests}

pub all_more : {X : Type 0} (P Q : X → Type 0) (xs : List X) → ((x : X) → P x → Q x) → Each P xs → Each Q xs
all_more P Q [] f h = tt
all_more P Q (x ∷ xs) f h = (f x h.0, all_more P Q xs f h.1)

each_push : {X : Type 0} (P : X → Type 0) (xs : List X) (x : X) → Each P xs → P x → Each P (xs ++ x ∷ [])
each_push P [] x h p = (p, tt)
each_push P (y ∷ ys) x h p = (h.0, each_push P ys x h.1 p)

pub all_get : {X : Type 0} (P : X → Type 0) (xs : List X) (i : ℕ) (x : X) → Each P xs → slice_get xs i ≡ Some x → P x
all_get P [] i x h e = cc
all_get P (y ∷ ys) zero x h e = let f : y ≡ x = cc in subst P f h.0
all_get P (y ∷ ys) (suc i) x h e = all_get P ys i x h.1 e

-- what is said of a work, where nothing is out
said_of_none : (w : Option Request) → IfSome w (λ q. IfSome None (λ (k : Kind). q.kind ≡ k))
said_of_none None = tt
said_of_none (Some q) = tt

works_idle : (out : Option Kind) (i : ℕ) (h : Held) (w : Option ℕ) → IfSome w (IsWorkOf out i h)
    → IfSome w (IsWorkOf None i h)
works_idle out i h None p = tt
works_idle out i h (Some n) p = record { numbered = p.numbered; latest = λ e. said_of_none h.work }

-- the platform's state changes, and nothing is out then
pub rests_at : (o : Order) (s n : State) (out : Option Kind) (i : ℕ) (h : Held) (w : Option ℕ) (t : Resource)
    (sent : List Sent) (given : List Given) → IsPossibleAt o s out i h w t sent given → Rests o s h t n
    → IsPossibleAt o n None i h w t sent given
rests_at o s n out i h w t sent given p r = record {
  is_out = tt;
  kept = p.kept;
  holds = r.0;
  all_sent = all_more (IsSentOf o s out i) (IsSentOf o n None i) sent (λ x q. record {
    same = q.same;
    numbered = q.numbered;
    late = λ e b. q.late e (r.1 b);
    latest = λ e. tt;
  }) p.all_sent;
  all_given = all_more (IsGivenOf o s out i h) (IsGivenOf o n None i h) given (λ x q. record {
    numbered = q.numbered;
    told = λ e some. cc;
  }) p.all_given;
  works = works_idle out i h w p.works;
}

-- the next request is sent
sent_due : (s : State) (k : Kind) → due s ≡ Some k → sent_in s ≡ Some k
sent_due Wanted k e = cc
sent_due s k e = e

late_due : (s : State) (k : Kind) → due s ≡ Some k → k ≡ Deprovision → IsBefore s → ⊥
late_due Cleaning k e f b = b
late_due CleaningPolling k e f b = b
late_due Gone k e f b = b
late_due s k e f b = cc

works_next : (out next : Option Kind) (i : ℕ) (h : Held) (w : Option ℕ) → IfSome w (IsWorkOf out i h)
    → IfSome w (IsWorkOf next (i + 1) h)
works_next out next i h None p = tt
works_next out next i h (Some n) p =
    let l : n ≤ i = p.numbered in
    record { numbered = omega arith; latest = λ e. absurd (omega arith) }

sent_next : (o : Order) (s : State) (out next : Option Kind) (i : ℕ) (x : Sent) → IsSentOf o s out i x
    → IsSentOf o s next (i + 1) x
sent_next o s out next i x q =
    let l : x.attempt ≤ i = q.numbered in
    record { same = q.same; numbered = omega arith; late = q.late; latest = λ e. absurd (omega arith) }

given_next : (o : Order) (s : State) (out next : Option Kind) (i : ℕ) (h : Held) (x : Given) → IsGivenOf o s out i h x
    → IsGivenOf o s next (i + 1) h x
given_next o s out next i h x q =
    let l : x.attempt ≤ i = q.numbered in
    record { numbered = omega arith; told = λ e. absurd (omega arith) }

pub sends_at : (o : Order) (s : State) (out : Option Kind) (k : Kind) (i : ℕ) (h : Held) (w : Option ℕ) (t : Resource)
    (sent : List Sent) (given : List Given) → IsPossibleAt o s out i h w t sent given → due s ≡ Some k
    → IsPossibleAt o s (Some k) (i + 1) h w t
    (sent ++ record { request = request_of o k; attempt = i + 1 } ∷ []) given
sends_at o s out k i h w t sent given p e = record {
  is_out = sent_due s k e;
  kept = p.kept;
  holds = p.holds;
  all_sent = each_push (IsSentOf o s (Some k) (i + 1)) sent (record { request = request_of o k; attempt = i + 1 })
      (all_more (IsSentOf o s out i) (IsSentOf o s (Some k) (i + 1)) sent (sent_next o s out (Some k) i) p.all_sent)
      (record { same = refl; numbered = omega arith; late = late_due s k e; latest = λ e. refl });
  all_given = all_more (IsGivenOf o s out i h) (IsGivenOf o s (Some k) (i + 1) h) given
      (given_next o s out (Some k) i h) p.all_given;
  works = works_next out (Some k) i h w p.works;
}

-- the broker goes on
pub goes_on_at : (o : Order) (s : State) (out : Option Kind) (i : ℕ) (h g : Held) (w v : Option ℕ) (t u : Resource)
    (sent : List Sent) (given : List Given) → IsPossibleAt o s out i h w t sent given → IsKept o g u
    → IsLater o s h t g u → IfSome v (IsWorkOf out i g) → IsPossibleAt o s out i g v u sent given
goes_on_at o s out i h g w v t u sent given p kept later works = record {
  is_out = p.is_out;
  kept = kept;
  holds = holds_later o s h t g u p.holds later;
  all_sent = p.all_sent;
  all_given = all_more (IsGivenOf o s out i h) (IsGivenOf o s out i g) given (λ x q. record {
    numbered = q.numbered;
    told = λ e some. told_later o s h t g u x.answer p.holds later (q.told e some);
  }) p.all_given;
  works = works;
}

-- an answer more
pub answers_at : (o : Order) (s : State) (out : Option Kind) (i : ℕ) (h : Held) (w : Option ℕ) (t : Resource)
    (sent : List Sent) (given : List Given) (x : Given) → IsPossibleAt o s out i h w t sent given
    → IsGivenOf o s out i h x → IsPossibleAt o s out i h w t sent (given ++ x ∷ [])
answers_at o s out i h w t sent given x p q = record {
  is_out = p.is_out;
  kept = p.kept;
  holds = p.holds;
  all_sent = p.all_sent;
  all_given = each_push (IsGivenOf o s out i h) given x p.all_given q;
  works = p.works;
}

-- the kind that is out is the one that can be
pub out_kind : (s : State) (out : Option Kind) (k : Kind) → IfSome out (λ j. sent_in s ≡ Some j)
    → IfSome out (λ j. k ≡ j) → IsSome out → sent_in s ≡ Some k
out_kind s None k can is some = cc
out_kind s (Some j) k can is some = can ∙ (λ i. Some (sym is i))
