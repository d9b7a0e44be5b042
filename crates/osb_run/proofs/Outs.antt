-- How many instances have a request out, by the cells of a world after its events.
use Rattle.std.proofs.Common.{◌≡◌, ℕ, Bool, List, [], refl, sym, ap, ◌∙◌, subst, arith}
use Rattle.std.proofs.lemmas.Bool.{false≢true}
use Rattle.std.proofs.lemmas.List.Kept.{IsStrictlySortedBy-filter}
use Rattle.std.proofs.lemmas.List.Sums.{length-filter}
use Rattle.std.specs.Prelude.{Option, Some, None, is_some, IsSome, IsTrue, Contains, ◌↔◌, count_by}
use Rattle.std.specs.List.{filter, list_any}
use Rattle.std.specs.List.Sorted.{IsStrictlySortedBy}
use Rattle.std.specs.Ordering.{nat_cmp}
use Rattle.osb_event.specs.declared.event.Event.{Event}
use Rattle.osb_message.specs.Plans.{Catalogue}
use Rattle.osb_message.specs.declared.messages.Answer.{Answer}
use Rattle.osb_message.specs.declared.messages.Request.{Request}
use Rattle.osb_broker.specs.declared.row.BrokerRow.{BrokerRow}
use Rattle.osb_platform.specs.declared.row.PlatformRow.{PlatformRow}
use Rattle.osb_run.proofs.Kept.{kept}
use Rattle.osb_run.proofs.Runs.{recorded}
use Rattle.osb_run.specs.Created.{creates, AreCreated}
use Rattle.osb_run.specs.Restart.{IsChangeCount}
use Rattle.osb_run.specs.Run.{IsWorldAfter, IsWorldOf}
use Rattle.osb_world.proofs.Restarts.{restart_after}
use Rattle.osb_world.proofs.Sound.{possible_after}
use Rattle.osb_world.specs.Events.{cell_after}
use Rattle.osb_world.specs.Possible.{IsPossible, IsPossibleParts}
use Rattle.osb_world.specs.Views.{WorldState, cell_at}
use Rattle.osb_world.specs.declared.cell.Cell.{Cell}

pub some_is : {A : Type 0} (o : Option A) (b : Bool) → is_some o ≡ b → IsSome o ↔ IsTrue b
some_is o b e = ((λ some. sym e ∙ some), (λ yes. e ∙ yes))

-- the recorded ids are those that were created
pub created_of : (cat : Catalogue) (events : List Event) (world : WorldState) (ids : List ℕ)
    → IsWorldAfter cat events world → IsStrictlySortedBy nat_cmp ids
    → ((q : ℕ) → Contains ids q ↔ IsSome (cell_at world q).platform)
    → AreCreated events ids
created_of cat events world ids after ascending listed = record {
  ascending = ascending;
  created = λ q.
      let known = ap (λ (cell : Cell). is_some cell.platform) (after.1 q) ∙ recorded cat q events in
      let created = some_is (cell_at world q).platform (list_any (creates q) events) known in
      ((λ inside. created.0 ((listed q).0 inside)), (λ yes. (listed q).1 (created.1 yes)));
}

-- a request is out of an instance that is recorded alone
out_recorded : (cat : Catalogue) (id : ℕ) (p : Option PlatformRow) (b : Option BrokerRow) (o : Option Request)
    (t : Option Answer)
    → IsPossibleParts cat id p b o t → IsSome o → IsSome p
out_recorded cat id None b o t (held, none, travels) out = absurd (false≢true (sym (ap is_some none) ∙ out))
out_recorded cat id (Some row) b o t h out = refl

out_listed : (cat : Catalogue) (id : ℕ) (cell : Cell) → IsPossible cat id cell → IsSome cell.out → IsSome cell.platform
out_listed cat id cell h out = out_recorded cat id cell.platform cell.broker cell.out cell.travelling h out

-- those of the recorded ids whose requests are out are those that a restart changes
pub outs_of : (cat : Catalogue) (events : List Event) (plans : Catalogue) (held : Option WorldState) (world : WorldState)
    (ids : List ℕ) (n : ℕ)
    → IsWorldOf cat events plans held → held ≡ Some world → IsStrictlySortedBy nat_cmp ids
    → ((q : ℕ) → Contains ids q ↔ IsSome (cell_at world q).platform)
    → n ≡ count_by (λ id. is_some (cell_at world id).out) ids
    → IsChangeCount cat events n
outs_of cat events plans held world ids n told is ascending listed counted =
    let after : IsWorldAfter cat events world = rw is at told in
    let out : ℕ → Bool = λ id. is_some (cell_after cat id events).out in (
      filter out ids,
      IsStrictlySortedBy-filter nat_cmp out ids ascending,
      (λ q. (
        (λ inside. (restart_after cat q events).0 ((kept out ids q).0 inside).1),
        (λ changed.
            let is_out = (restart_after cat q events).1 changed in
            let known = out_listed cat q (cell_after cat q events) (possible_after cat q events) is_out in
            (kept out ids q).1 ((listed q).1 (ap (λ (cell : Cell). is_some cell.platform) (after.1 q) ∙ known), is_out)),
      )),
      counted ∙ (λ i. count_by (λ id. is_some (after.1 id i).out) ids) ∙ sym (length-filter out ids),
    )

none_ascend : IsStrictlySortedBy nat_cmp []
unfolding IsStrictlySortedBy
none_ascend = tt

-- before the first event there is none
pub outs_of_none : (cat : Catalogue) (events : List Event) (plans : Catalogue) (held : Option WorldState)
    → IsWorldOf cat events plans held → ((world : WorldState) → held ≡ Some world → ⊥) → IsChangeCount cat events 0
outs_of_none cat events plans None (none, all) absent = subst (λ events. IsChangeCount cat events 0) (sym none) (
  [],
  none_ascend,
  (λ q. (
    (λ (n, inside, at). absurd (omega arith)),
    (λ changed. absurd (false≢true ((restart_after cat q []).1 changed))),
  )),
  refl,
)
outs_of_none cat events plans (Some world) told absent = absurd (absent world refl)
