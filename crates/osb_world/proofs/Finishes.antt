-- A broker's operation that ends keeps a cell possible.
use Rattle.std.proofs.Common.{◌≡◌, ℕ, Bool, true, false, refl, subst}
use Rattle.std.specs.Prelude.{Option, Some, None, IfSome}
use Rattle.osb_message.specs.declared.catalogue.Mode.{Mode}
use Rattle.osb_message.specs.declared.messages.Answer.{Answer}
use Rattle.osb_message.specs.declared.messages.Request.{Request}
use Rattle.osb_broker.specs.declared.row.BrokerRow.{BrokerRow}
use Rattle.osb_broker.specs.declared.row.Phase.{Phase}
use Rattle.osb_message.specs.Plans.{Catalogue}
use Rattle.osb_broker.specs.Finished.{finished_in, is_running, is_running_in, in_phase}
use Rattle.osb_broker.specs.Held.{IsHeld}
use Rattle.osb_platform.specs.declared.row.PlatformRow.{PlatformRow}
use Rattle.osb_platform.specs.declared.state.State.{State}
use Rattle.osb_platform.specs.declared.state.State.TheVariants.{Wanted, Polling, Ready, Cleaning, CleaningPolling, Gone}
use Rattle.osb_platform.specs.declared.state.State.TheVariants.{Unsettled}
use Rattle.osb_event.specs.declared.event.Event.{Event}
use Rattle.osb_world.specs.Possible.{IsPossible, IsPossibleParts, IsRowOf, IsBeforeDeletion, IsInDeletion, HeldByState}
use Rattle.osb_world.specs.Possible.{TravelsByState, mode_at}
use Rattle.osb_world.specs.Steps.{changed_cell}
use Rattle.osb_world.proofs.Possibility.{cell, moved_on}

abbrev in_making : ℕ → ℕ → BrokerRow
in_making service plan = record { service = service; plan = plan; phase = Phase.Making }

abbrev in_deletion : ℕ → ℕ → BrokerRow
in_deletion service plan = record { service = service; plan = plan; phase = Phase.Deleting }

-- a row on which an operation runs is of an asynchronous plan, in whatever phase that ends
in_other_phase : (cat : Catalogue) (service plan : ℕ) (b : BrokerRow) (p : Phase)
    → (b.phase ≡ Phase.Ready → IsHeld cat (in_phase b p))
    → IsRowOf cat service plan b → IsRowOf cat service plan (in_phase b p)
in_other_phase cat service plan b p never h =
    record {
      same_service = h.same_service;
      same_plan = h.same_plan;
      held = record {
        on_sale = h.held.on_sale;
        ready = λ e. (never (h.held.ready e)).ready e;
      };
    }

same_finished : (cat : Catalogue) (service plan a c : ℕ) (p : Phase) (ok : Bool) → is_running_in p ≡ true
    → IsRowOf cat service plan (record { service = a; plan = c; phase = p })
    → IfSome (finished_in p (record { service = a; plan = c; phase = p }) ok) (IsRowOf cat service plan)
same_finished cat service plan a c Phase.Making true on h =
    in_other_phase cat service plan (in_making a c) Phase.Ready (λ e. cc) h
same_finished cat service plan a c Phase.Making false on h =
    in_other_phase cat service plan (in_making a c) Phase.Failed (λ e. cc) h
same_finished cat service plan a c Phase.Deleting true on h = tt
same_finished cat service plan a c Phase.Deleting false on h =
    in_other_phase cat service plan (in_deletion a c) Phase.DeleteFailed (λ e. cc) h
same_finished cat service plan a c p ok on h = cc

-- what goes with a row, and with the answer that travels, goes with the row that the operation leaves
record IsKept (mode : Option Mode) (s : State) (b c : Option BrokerRow) (o : Option Request) : Type 0 where
  holds : HeldByState mode s c o
  travels : (t : Answer) → TravelsByState mode s b o t → TravelsByState mode s c o t

-- a row that was being made
made : (mode : Option Mode) (s : State) (b d : BrokerRow) (o : Option Request) → b.phase ≡ Phase.Making
    → IsBeforeDeletion d.phase
    → HeldByState mode s (Some b) o → IsKept mode s (Some b) (Some d) o
made mode Wanted b d o is before h = record {
  holds = (before, h.1);
  travels = λ t h. record {
    made = λ e. let f = h.made e in cc;
    started = λ e. ((h.started e).0, refl);
    refused =
        h.refused;
  };
}
made mode Polling b d o is before h = record { holds = (before, h.1); travels = λ t h e f. let g = h e f in cc }
made mode Ready b d o is before h = cc
made mode Cleaning b d o is before h = record {
  holds = tt;
  travels = λ t h. record {
    deleted = λ e. let f = h.deleted e in cc;
    started =
        λ e. absurd (subst IsInDeletion is (h.started e));
  };
}
made mode CleaningPolling b d o is before h = absurd (subst IsInDeletion is h)
made mode Gone b d o is before h = cc
made mode Unsettled b d o is before h = cc

-- a row that was being deleted
deleted : (mode : Option Mode) (s : State) (b : BrokerRow) (c : Option BrokerRow) (o : Option Request) → b.phase
    ≡ Phase.Deleting
    → IfSome c (λ row. IsInDeletion row.phase) → HeldByState mode s (Some b) o → IsKept mode s (Some b) c o
deleted mode Wanted b c o is begun h = absurd (subst IsBeforeDeletion is h.0)
deleted mode Polling b c o is begun h = absurd (subst IsBeforeDeletion is h.0)
deleted mode Ready b c o is begun h = cc
deleted mode Cleaning b c o is begun h =
    record { holds = tt; travels = λ t h. record { deleted = λ e. let f = h.deleted e in cc; started = λ e. begun } }
deleted mode CleaningPolling b c o is begun h =
    record { holds = begun; travels = λ t h. record { deleted = λ e. let f = h.deleted e in cc; never = h.never } }
deleted mode Gone b c o is begun h = cc
deleted mode Unsettled b c o is begun h = cc

kept_row : (mode : Option Mode) (s : State) (a c : ℕ) (p : Phase) (ok : Bool) (o : Option Request) → is_running_in p
    ≡ true
    → HeldByState mode s (Some (record { service = a; plan = c; phase = p })) o
    → IsKept mode s (Some (record { service = a; plan = c; phase = p }))
    (finished_in p (record { service = a; plan = c; phase = p }) ok) o
kept_row mode s a c Phase.Making true o on h = made mode s (in_making a c) _ o refl tt h
kept_row mode s a c Phase.Making false o on h = made mode s (in_making a c) _ o refl tt h
kept_row mode s a c Phase.Deleting true o on h = deleted mode s (in_deletion a c) _ o refl tt h
kept_row mode s a c Phase.Deleting false o on h = deleted mode s (in_deletion a c) _ o refl tt h
kept_row mode s a c p ok o on h = cc

travels_on : (mode : Option Mode) (s : State) (b c : Option BrokerRow) (o : Option Request) (t : Option Answer)
    → IsKept mode s b c o
    → IfSome t (TravelsByState mode s b o) → IfSome t (TravelsByState mode s c o)
travels_on mode s b c o None kept h = tt
travels_on mode s b c o (Some t) kept h = kept.travels t h

pub kept_finish : (cat : Catalogue) (id : ℕ) (ok : Bool) (p : Option PlatformRow) (b : Option BrokerRow)
    (o : Option Request)
    (t : Option Answer)
    → is_running b ≡ true → IsPossibleParts cat id p b o t
    → IsPossible cat id (changed_cell cat (cell p b o t) (Event.Finish id ok))
kept_finish cat id ok p None o t on h = cc
kept_finish cat id ok None (Some b) o t on h = let f = h.0 in cc
kept_finish cat id ok (Some row) (Some b) o t on h =
    let kept = kept_row (mode_at cat row.service row.plan) row.state b.service b.plan b.phase ok o on h.holds in
    moved_on cat id row (Some b) _ o t t h h.travels
    (same_finished cat row.service row.plan b.service b.plan b.phase ok on h.same) kept.holds
    (travels_on _ row.state (Some b) _ o t kept h.answer)
