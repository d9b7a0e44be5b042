-- Each table leaves a row whose pair is on sale, and which is ready if its plan is synchronous.
use Rattle.std.proofs.Common.{◌≡◌, ◌≢◌, ℕ, Bool, true, false, arith, refl, sym, ◌∙◌, ap, subst, rules, ⊎_elim}
use Rattle.std.specs.Prelude.{Option, Some, None, IsSome, IfSome, if◌then◌else◌}
use Rattle.std.specs.FinMap as map
use Rattle.std.specs.Ordering.{nat_cmp}
use Rattle.std.proofs.lemmas.Bool.{cases_eq}
use Rattle.std.proofs.lemmas.Bool.Decides.{nat_tests}
use Rattle.osb_message.specs.declared.catalogue.Mode.{Mode}
use Rattle.osb_message.specs.declared.messages.Kind.{Kind}
use Rattle.osb_message.specs.declared.messages.Kind.TheVariants.{Provision, Poll, Deprovision}
use Rattle.osb_message.specs.declared.messages.Request.{Request}
use Rattle.osb_broker.specs.declared.outcome.Outcome.{Outcome}
use Rattle.osb_broker.specs.declared.outcome.Outcome.TheVariants.{Done, Before, After}
use Rattle.osb_broker.specs.declared.row.BrokerRow.{BrokerRow}
use Rattle.osb_broker.specs.declared.row.Phase.{Phase}
use Rattle.osb_message.specs.Plans.{Catalogue}
use Rattle.osb_broker.specs.Answers.{Handled, mode_of, same_plan}
use Rattle.osb_broker.specs.Provision.{provision_at, accepted_provision, first_provision, new_row}
use Rattle.osb_broker.specs.Deprovision.{deprovision_at, own_deprovision, accepted_deprovision, first_deprovision}
use Rattle.osb_broker.specs.Deprovision.{row_after_deletion}
use Rattle.osb_broker.specs.Handled.{handled, handled_as}
use Rattle.osb_broker.specs.Held.{IsHeld, IsHeldAt}

-- what holds of the row that a request leaves, if it leaves one
abbrev Leaves : Catalogue → Handled → Type 0
Leaves cat h = IfSome h.row (IsHeld cat)

by_test : (cat : Catalogue) (x : Bool) (a b : Handled)
    → (x ≡ true → Leaves cat a) → Leaves cat b → Leaves cat (if x then a else b)
by_test cat true a b where_true where_false = where_true refl
by_test cat false a b where_true where_false = where_false

new_held : (cat : Catalogue) (m : Mode) (r : Request) → mode_of cat r ≡ Some m → IsHeld cat (new_row m r)
new_held cat Mode.Sync r e = record { on_sale = subst IsSome (sym e) (search rules); ready = λ x. refl }
new_held cat Mode.Async r e =
    record { on_sale = subst IsSome (sym e) (search rules); ready = λ x. let f = sym e ∙ x in cc }

first_held : (cat : Catalogue) (m : Mode) (r : Request) (o : Outcome)
    → mode_of cat r ≡ Some m → Leaves cat (first_provision m r o)
first_held cat m r Before e = search rules
first_held cat m r After e = new_held cat m r e
first_held cat Mode.Sync r Done e = new_held cat Mode.Sync r e
first_held cat Mode.Async r Done e = new_held cat Mode.Async r e

accepted_held : (cat : Catalogue) (m : Mode) (b : Option BrokerRow) (r : Request) (o : Outcome)
    → mode_of cat r ≡ Some m → IfSome b (IsHeld cat) → Leaves cat (accepted_provision m b r o)
accepted_held cat m None r o e h = first_held cat m r o e
accepted_held cat m (Some b) r o e h = by_test cat (same_plan b r) _ _ (λ _. h) h

provision_held : (cat : Catalogue) (m : Option Mode) (b : Option BrokerRow) (r : Request) (o : Outcome)
    → mode_of cat r ≡ m → IfSome b (IsHeld cat) → Leaves cat (provision_at m b r o)
provision_held cat None b r o e h = h
provision_held cat (Some Mode.Sync) b r o e h = accepted_held cat Mode.Sync b r o e h
provision_held cat (Some Mode.Async) b r o e h =
    by_test cat r.accepts_incomplete _ _ (λ _. accepted_held cat Mode.Async b r o e h) h

-- a row's mode is that of a request for the same service and plan
same_pair : (b : BrokerRow) (r : Request) → same_plan b r ≡ true → (b.service ≡ r.service) × (b.plan ≡ r.plan)
same_pair b r same = (grind (arith, nat_tests), grind (arith, nat_tests))

mode_of_row : (cat : Catalogue) (b : BrokerRow) (r : Request)
    → same_plan b r ≡ true → map.get cat (b.service, b.plan) ≡ mode_of cat r
mode_of_row cat b r same = let e = same_pair b r same in ap (map.get cat) (λ i. (e.0 i, e.1 i))

deletion_held : (cat : Catalogue) (m : Mode) (b : BrokerRow)
    → map.get cat (b.service, b.plan) ≡ Some m → IsHeld cat b → IfSome (row_after_deletion m b) (IsHeld cat)
deletion_held cat Mode.Sync b e h = search rules
deletion_held cat Mode.Async b e h = record { on_sale = h.on_sale; ready = λ x. let f = sym e ∙ x in cc }

first_deletion_held : (cat : Catalogue) (m : Mode) (b : BrokerRow) (o : Outcome)
    → map.get cat (b.service, b.plan) ≡ Some m → IsHeld cat b → Leaves cat (first_deprovision m b o)
first_deletion_held cat m b Before e h = h
first_deletion_held cat m b After e h = deletion_held cat m b e h
first_deletion_held cat Mode.Sync b Done e h = deletion_held cat Mode.Sync b e h
first_deletion_held cat Mode.Async b Done e h = deletion_held cat Mode.Async b e h

accepted_deletion_held : (cat : Catalogue) (m : Mode) (b : BrokerRow) (p : Phase) (o : Outcome)
    → map.get cat (b.service, b.plan) ≡ Some m → IsHeld cat b → Leaves cat (accepted_deprovision m b p o)
accepted_deletion_held cat m b Phase.Making o e h = h
accepted_deletion_held cat m b Phase.Deleting o e h = h
accepted_deletion_held cat m b Phase.Ready o e h = first_deletion_held cat m b o e h
accepted_deletion_held cat m b Phase.Failed o e h = first_deletion_held cat m b o e h
accepted_deletion_held cat m b Phase.DeleteFailed o e h = first_deletion_held cat m b o e h

own_held : (cat : Catalogue) (m : Option Mode) (b : BrokerRow) (r : Request) (o : Outcome)
    → map.get cat (b.service, b.plan) ≡ m → IsHeld cat b → Leaves cat (own_deprovision m b r o)
own_held cat None b r o e h = h
own_held cat (Some Mode.Sync) b r o e h = accepted_deletion_held cat Mode.Sync b b.phase o e h
own_held cat (Some Mode.Async) b r o e h =
    by_test cat r.accepts_incomplete _ _ (λ _. accepted_deletion_held cat Mode.Async b b.phase o e h) h

deprovision_held : (cat : Catalogue) (b : Option BrokerRow) (r : Request) (o : Outcome)
    → IfSome b (IsHeld cat) → Leaves cat (deprovision_at (mode_of cat r) b r o)
deprovision_held cat None r o h = search rules
deprovision_held cat (Some b) r o h =
    by_test cat (same_plan b r) _ _ (λ same. own_held cat _ b r o (mode_of_row cat b r same) h) h

handled_as_held : (cat : Catalogue) (k : Kind) (b : Option BrokerRow) (r : Request) (o : Outcome)
    → IfSome b (IsHeld cat) → Leaves cat (handled_as k cat b r o)
handled_as_held cat Provision b r o h = provision_held cat _ b r o refl h
handled_as_held cat Poll b r o h = h
handled_as_held cat Deprovision b r o h = deprovision_held cat b r o h

pub handled_held : (cat : Catalogue) (b : Option BrokerRow) (r : Request) (o : Outcome)
    → IfSome b (IsHeld cat) → Leaves cat (handled cat b r o)
handled_held cat b r o h = handled_as_held cat r.kind b r o h

-- what holds of each row holds after the row of one instance has changed, if it holds of that row
pub each_held : (cat : Catalogue) (m n : map.FinMap nat_cmp BrokerRow) (k : ℕ)
    → ((q : ℕ) → IsHeldAt cat m q) → IsHeldAt cat n k → ((q : ℕ) → q ≢ k → map.get n q ≡ map.get m q) → (q : ℕ)
    → IsHeldAt cat n q
each_held cat m n k all one others q =
    ⊎_elim
    (λ e. subst (λ i. IsHeldAt cat n i) (sym e) one)
    (λ apart. subst (λ r. IfSome r (IsHeld cat)) (sym (others q apart)) (all q))
    (cases_eq q k)
