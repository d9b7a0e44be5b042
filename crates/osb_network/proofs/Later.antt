-- What goes on keeps what is kept and told in a state.
use Rattle.std.proofs.Common.{inl, inr, ⊎_elim}
use Rattle.osb_message.specs.declared.messages.Answer.{Answer}
use Rattle.osb_platform.specs.declared.state.State.{State}
use Rattle.osb_platform.specs.declared.state.State.TheVariants.{Wanted, Polling, Ready, Cleaning}
use Rattle.osb_platform.specs.declared.state.State.TheVariants.{CleaningPolling, Gone, Unsettled}
use Rattle.osb_instance.specs.Held.{Held}
use Rattle.osb_network.specs.declared.resource.Resource.{Resource}
use Rattle.osb_network.specs.declared.order.Order.{Order}
use Rattle.osb_network.specs.Possible.{IsEarly}
use Rattle.osb_network.specs.Possible.{IsBefore, HeldByState}
use Rattle.osb_network.specs.Possible.{ToldByState, IsLater}

pub holds_later : (o : Order) (s : State) (h : Held) (t : Resource) (g : Held) (u : Resource) → HeldByState o s h t
    → IsLater o s h t g u → HeldByState o s g u
holds_later o Wanted h t g u holds l = l.early tt holds
holds_later o Polling h t g u holds l = (l.early tt holds.0, l.made tt holds.0 holds.1)
holds_later o Ready h t g u holds l = (l.early tt holds.0, l.ready tt holds.0 holds.1)
holds_later o Unsettled h t g u holds l = l.early tt holds
holds_later o Cleaning h t g u holds l = tt
holds_later o CleaningPolling h t g u holds l = l.leaving holds
holds_later o Gone h t g u holds l = l.gone holds

pub told_later : (o : Order) (s : State) (h : Held) (t : Resource) (g : Held) (u : Resource) (a : Answer)
    → HeldByState o s h t → IsLater o s h t g u → ToldByState o s h a → ToldByState o s g a
told_later o Wanted h t g u a holds l told = record {
  made = λ z. l.ready tt holds (told.made z);
  started = λ z. l.made tt holds (told.started z);
  refused = λ m n. ⊎_elim (λ e. inl e) (λ e. inr (l.tombstone e)) (told.refused m n);
}
told_later o Polling h t g u a holds l told = λ n b. l.ready tt holds.0 (told n b)
told_later o Cleaning h t g u a holds l told =
    record { deleted = λ z. l.tombstone (told.deleted z); started = λ z. l.leaving (told.started z) }
told_later o CleaningPolling h t g u a holds l told =
    record { deleted = λ z. l.tombstone (told.deleted z); never = told.never }
told_later o s h t g u a holds l told = tt
