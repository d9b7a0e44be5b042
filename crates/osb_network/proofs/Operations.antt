-- Operations that end, and the resource meanwhile.
use Rattle.std.proofs.Common.{◌≡◌, ◌≢◌, Bool, true, false, refl, sym, ◌∙◌, ap, subst}
use Rattle.std.specs.Prelude.{Option, Some, None, ◌&&◌, not}
use Rattle.osb_message.specs.declared.messages.Request.{Request}
use Rattle.osb_broker.specs.declared.row.BrokerRow.{BrokerRow}
use Rattle.osb_broker.specs.declared.row.Phase.{Phase}
use Rattle.osb_platform.specs.declared.state.State.{State}
use Rattle.osb_instance.specs.declared.digest.Digest.{Digest}
use Rattle.osb_instance.specs.Begin.{finished_held, given_up, is_operating}
use Rattle.osb_instance.specs.Held.{Held}
use Rattle.osb_network.specs.declared.resource.Resource.{Resource}
use Rattle.osb_network.specs.declared.resource.Resource.TheVariants.{Absent, Whole}
use Rattle.osb_network.specs.declared.order.Order.{Order}
use Rattle.osb_network.specs.Possible.{row_of, IsBeforeDeletion}
use Rattle.osb_network.specs.Possible.{IsRow, IsKept, IsKeptAs, IsEarlyAs}
use Rattle.osb_network.specs.Possible.{IsLater}
use Rattle.osb_network.specs.Truth.{is_true_finish}
use Rattle.osb_broker.specs.Finished.{is_running, is_running_in}
use Rattle.osb_network.specs.Truth.{is_true_finish_of, is_under_way}
use Rattle.osb_network.proofs.Arrivals.{held, held_as, row_held, waiting_held}
use Rattle.osb_network.proofs.Ends.{absent, whole}

-- what is kept goes on
pub record IsSideStep (o : Order) (s : State) (h : Held) (t : Resource) (g : Held) (u : Resource) : Type 0 where
  pub kept : IsKept o g u
  pub later : IsLater o s h t g u

row_again : (o : Order) (ph : Phase) (new : Phase) → IsRow o (row_of o ph) → ph ≢ Phase.Ready → IsRow o (row_of o new)
row_again o ph new row n = record { same = refl; taken = row.taken; ready = λ e. absurd (n (row.ready e)) }

making_ends : (o : Order) (s : State) (t : Resource) (new : Phase) → IsRow o (row_of o Phase.Making)
    → IsBeforeDeletion new → (new ≡ Phase.Ready → t ≡ Whole)
    → IsSideStep o s (row_held o Phase.Making) t (row_held o new) t
making_ends o s t new row before is = record {
  kept = (row_again o Phase.Making new row (λ e. cc), refl);
  later = record {
    tombstone = λ e. e;
    leaving = λ l. absurd l;
    gone = λ g. let e = g.0 in cc;
    early = λ b e. (before, is);
    ready = λ b e r. cc;
    made = λ b e m. (m.0, refl);
  };
}

deletion_fails : (o : Order) (s : State) (t : Resource) → IsRow o (row_of o Phase.Deleting)
    → IsSideStep o s (row_held o Phase.Deleting) t (row_held o Phase.DeleteFailed) t
deletion_fails o s t row = record {
  kept = (row_again o Phase.Deleting Phase.DeleteFailed row (λ e. cc), refl);
  later = record {
    tombstone = λ e. e;
    leaving = λ l. tt;
    gone = λ g. let e = g.0 in cc;
    early = λ b e. absurd e.0;
    ready = λ b e r. absurd e.0;
    made = λ b e m. absurd e.0;
  };
}

deletion_ends : (o : Order) (s : State) (t : Resource) → t ≡ Absent
    → IsSideStep o s (row_held o Phase.Deleting) t (held o None None true) t
deletion_ends o s t is = record {
  kept = (is, refl);
  later = record {
    tombstone = λ e. refl;
    leaving = λ l. tt;
    gone = λ g. let e = g.0 in cc;
    early = λ b e. absurd e.0;
    ready = λ b e r. absurd e.0;
    made = λ b e m. absurd e.0;
  };
}

finishes_in : (o : Order) (s : State) (t : Resource) (ph : Phase) (ok : Bool) → IsRow o (row_of o ph)
    → is_running (Some (row_of o ph)) ≡ true → is_true_finish ph ok t ≡ true
    → IsSideStep o s (row_held o ph) t (finished_held (row_held o ph) ok) t
finishes_in o s t Phase.Making true row run is = making_ends o s t Phase.Ready row tt (λ e. whole t is)
finishes_in o s t Phase.Making false row run is = making_ends o s t Phase.Failed row tt (λ e. cc)
finishes_in o s t Phase.Deleting true row run is = deletion_ends o s t (absent t is)
finishes_in o s t Phase.Deleting false row run is = deletion_fails o s t row
finishes_in o s t ph ok row run is = cc

and_left : (x y : Bool) → (x && y) ≡ true → x ≡ true
and_left true y e = refl
and_left false y e = e

no_and : (x : Bool) → (x && false) ≡ true → ⊥
no_and true e = cc
no_and false e = cc

finishes_parts : (o : Order) (s : State) (b : Option BrokerRow) (w : Option Request) (x v : Bool) (t : Resource) (ok : Bool)
    → IsKeptAs o b w x v t → w ≡ None → (is_running b && not v) ≡ true → is_true_finish_of b ok t ≡ true
    → IsSideStep o s (held_as o b w x v) t (finished_held (held_as o b w x v) ok) t
finishes_parts o s None w x v t ok kept e run is = cc
finishes_parts o s (Some b) (Some q) x v t ok kept e run is = cc
finishes_parts o s (Some b) None true v t ok kept e run is = absurd kept
finishes_parts o s (Some b) None false true t ok kept e run is = absurd (no_and (is_running_in b.phase) run)
finishes_parts o s (Some b) None false false t ok kept e run is =
    subst (λ (c : BrokerRow). IsSideStep o s (held o (Some c) None false) t (finished_held (held o (Some c) None false) ok) t)
    (sym kept.same)
    (finishes_in o s t b.phase ok (subst (IsRow o) kept.same kept) (and_left (is_running_in b.phase) true run) is)

pub finishes : (o : Order) (s : State) (h : Held) (t : Resource) (ok : Bool) → IsKept o h t → h.work ≡ None
    → is_operating h ≡ true → is_true_finish_of h.row ok t ≡ true → IsSideStep o s h t (finished_held h ok) t
finishes o s h t ok kept e run is =
    subst (λ (d : Digest). IsSideStep o s (record h { attributes = d }) t (finished_held (record h { attributes = d }) ok) t)
    (sym kept.1) (finishes_parts o s h.row h.work h.tombstone h.waiting t ok kept.0 e run is)

-- a row that has waited too long for its first Poll
waited_too_long : (o : Order) (s : State) (t : Resource) → IsRow o (row_of o Phase.Making)
    → IsSideStep o s (waiting_held o) t (row_held o Phase.Failed) t
waited_too_long o s t row = record {
  kept = (row_again o Phase.Making Phase.Failed row (λ e. cc), refl);
  later = record {
    tombstone = λ e. e;
    leaving = λ l. absurd l;
    gone = λ g. let e = g.0 in cc;
    early = λ b e. (tt, λ e. cc);
    ready = λ b e r. cc;
    made = λ b e m. (m.0, refl);
  };
}

never_none : (o : Order) (w : Option Request) (x : Bool) (t : Resource) → IsKeptAs o None w x true t → ⊥
never_none o None x t kept = kept
never_none o (Some q) true t kept = kept
never_none o (Some q) false t kept = kept

never_some : (o : Order) (b : BrokerRow) (q : Request) (x : Bool) (t : Resource) → IsKeptAs o (Some b) (Some q) x true t
    → ⊥
never_some o b q true t kept = kept
never_some o b q false t kept = kept

gives_up_parts : (o : Order) (s : State) (b : Option BrokerRow) (w : Option Request) (x v : Bool) (t : Resource)
    → IsKeptAs o b w x v t → v ≡ true → IsSideStep o s (held_as o b w x v) t (given_up (held_as o b w x v)) t
gives_up_parts o s b w x false t kept e = cc
gives_up_parts o s (Some b) None false true t kept e =
    let is : b ≡ row_of o Phase.Making = kept.0.same ∙ ap (row_of o) kept.1 in
    subst (λ (r : BrokerRow). IsSideStep o s (held_as o (Some r) None false true) t
    (given_up (held_as o (Some r) None false true)) t) (sym is)
    (waited_too_long o s t (subst (IsRow o) is kept.0))
gives_up_parts o s None w x true t kept e = absurd (never_none o w x t kept)
gives_up_parts o s (Some b) None true true t kept e = absurd kept
gives_up_parts o s (Some b) (Some q) x true t kept e = absurd (never_some o b q x t kept)

pub gives_up : (o : Order) (s : State) (h : Held) (t : Resource) → IsKept o h t → h.waiting ≡ true
    → IsSideStep o s h t (given_up h) t
gives_up o s h t kept e =
    subst (λ (d : Digest). IsSideStep o s (record h { attributes = d }) t (given_up (record h { attributes = d })) t)
    (sym kept.1) (gives_up_parts o s h.row h.work h.tombstone h.waiting t kept.0 e)

-- the resource, while there is work or an operation
resource_changes : (o : Order) (s : State) (b : Option BrokerRow) (w : Option Request) (x v : Bool) (t u : Resource)
    → IsKeptAs o b w x v u → (IsEarlyAs b w x t → IsEarlyAs b w x u)
    → IsSideStep o s (held_as o b w x v) t (held_as o b w x v) u
resource_changes o s b w x v t u new early = record {
  kept = (new, refl);
  later = record {
    tombstone = λ e. e;
    leaving = λ l. l;
    gone = λ g. g;
    early = λ b e. early e;
    ready = λ b e r. r;
    made = λ b e m. m;
  };
}

becomes_in : (ph : Phase) (t u : Resource) → is_running_in ph ≡ true → (ph ≡ Phase.Ready → t ≡ Whole) → ph ≡ Phase.Ready
    → u ≡ Whole
becomes_in Phase.Making t u may is e = cc
becomes_in Phase.Deleting t u may is e = cc
becomes_in ph t u may is e = cc

becomes_parts : (o : Order) (s : State) (b : Option BrokerRow) (w : Option Request) (x v : Bool) (t u : Resource)
    → IsKeptAs o b w x v t → is_under_way (held_as o b w x v) ≡ true
    → IsSideStep o s (held_as o b w x v) t (held_as o b w x v) u
becomes_parts o s None None x v t u kept may = cc
becomes_parts o s (Some b) None true v t u kept may = absurd kept
becomes_parts o s (Some b) None false true t u kept may = absurd (no_and (is_running_in b.phase) may)
becomes_parts o s (Some b) None false false t u kept may =
    resource_changes o s (Some b) None false false t u kept
    (λ e. (e.0, becomes_in b.phase t u (and_left (is_running_in b.phase) true may) e.1))
becomes_parts o s None (Some q) true v t u kept may = absurd kept
becomes_parts o s None (Some q) false true t u kept may = absurd kept
becomes_parts o s (Some b) (Some q) true v t u kept may = absurd kept
becomes_parts o s (Some b) (Some q) false true t u kept may = absurd kept
becomes_parts o s None (Some q) false false t u kept may =
    resource_changes o s None (Some q) false false t u kept (λ e. e)
becomes_parts o s (Some b) (Some q) false false t u kept may =
    resource_changes o s (Some b) (Some q) false false t u kept (λ e. e)

pub becomes : (o : Order) (s : State) (h : Held) (t u : Resource) → IsKept o h t → is_under_way h ≡ true
    → IsSideStep o s h t h u
becomes o s h t u kept may =
    subst (λ (d : Digest). IsSideStep o s (record h { attributes = d }) t (record h { attributes = d }) u) (sym kept.1)
    (becomes_parts o s h.row h.work h.tombstone h.waiting t u kept.0
    (subst (λ (d : Digest). is_under_way (record h { attributes = d }) ≡ true) kept.1 may))
