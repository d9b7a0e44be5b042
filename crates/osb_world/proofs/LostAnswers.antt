-- An answer that is lost or garbled on its way, or that a gateway gives, keeps a cell possible.
use Rattle.std.proofs.Common.{◌≡◌, ◌≤◌, ℕ, true, arith, refl}
use Rattle.std.specs.Prelude.{Option, Some, None, is_some, ◌&&◌}
use Rattle.std.proofs.lemmas.Bool.Decides.{nat_tests}
use Rattle.osb_message.specs.declared.catalogue.Mode.{Mode}
use Rattle.osb_message.specs.declared.messages.Answer.{Answer}
use Rattle.osb_message.specs.declared.messages.Request.{Request}
use Rattle.osb_broker.specs.declared.row.BrokerRow.{BrokerRow}
use Rattle.osb_message.specs.Plans.{Catalogue}
use Rattle.osb_platform.specs.declared.row.PlatformRow.{PlatformRow}
use Rattle.osb_platform.specs.declared.state.State.{State}
use Rattle.osb_platform.specs.declared.state.State.TheVariants.{Wanted, Polling, Cleaning, CleaningPolling}
use Rattle.osb_event.specs.declared.event.Event.{Event}
use Rattle.osb_platform.specs.Statuses.{is_within}
use Rattle.osb_world.specs.Possible.{IsPossible, IsPossibleParts, OutByState, TravelsByState}
use Rattle.osb_world.specs.Steps.{changed_cell, unreadable}
use Rattle.osb_world.proofs.Possibility.{cell, moved_on}
use Rattle.osb_world.proofs.Provisions as Provisions
use Rattle.osb_world.proofs.Deprovisions as Deprovisions

pub kept_lose : (cat : Catalogue) (id : ℕ) (p : Option PlatformRow) (b : Option BrokerRow) (o : Option Request)
    (t : Option Answer)
    → IsPossibleParts cat id p b o t → IsPossible cat id (changed_cell cat (cell p b o t) (Event.Lose id))
kept_lose cat id None b o t h = (h.0, h.1, refl)
kept_lose cat id (Some row) b o t h = moved_on cat id row b b o t None h (λ f. cc) h.same h.holds tt

-- no state asks for a body that can be read
garbled_travels : (mode : Option Mode) (s : State) (b : Option BrokerRow) (o : Option Request) (a : Answer)
    → TravelsByState mode s b o a
    → TravelsByState mode s b o (unreadable a.status)
garbled_travels mode Wanted b o a h = record { made = h.made; started = h.started; refused = h.refused }
garbled_travels mode Polling b o a h = λ e f. cc
garbled_travels mode Cleaning b o a h = record { deleted = h.deleted; started = h.started }
garbled_travels mode CleaningPolling b o a h = record { deleted = h.deleted; never = λ e f. cc }
garbled_travels mode s b o a h = h

pub kept_garble : (cat : Catalogue) (id : ℕ) (p : Option PlatformRow) (b : Option BrokerRow) (o : Option Request)
    (t : Option Answer)
    → IsPossibleParts cat id p b o t → IsPossible cat id (changed_cell cat (cell p b o t) (Event.Garble id))
kept_garble cat id p b o None h = h
kept_garble cat id None b o (Some a) h = let f = h.2 in cc
kept_garble cat id (Some row) b o (Some a) h =
    moved_on cat id row b b o (Some a) (Some (unreadable a.status)) h h.travels h.same h.holds
    (garbled_travels _ row.state b o a h.answer)

-- a status of 500 to 599 tells nothing, in any state
gateway_travels : (mode : Option Mode) (s : State) (b : Option BrokerRow) (r : Request) (n : ℕ) → OutByState s (Some r)
    → 500 ≤ n
    → TravelsByState mode s b (Some r) (unreadable n)
gateway_travels mode Wanted b r n sent high = Provisions.told_failed mode b (Some r) n _ high
gateway_travels mode Polling b r n sent high = λ e f. cc
gateway_travels mode Cleaning b r n sent high = Deprovisions.told_failed b n _ (omega arith)
gateway_travels mode CleaningPolling b r n sent high = record { deleted = λ e. absurd (omega arith); never = λ e f. cc }
gateway_travels mode s b r n sent high = let f = sent.0 in cc

is_server_error : (n : ℕ) → is_within 500 599 n ≡ true → 500 ≤ n
is_server_error n h = grind (arith, nat_tests)

pub kept_gateway : (cat : Catalogue) (id status : ℕ) (p : Option PlatformRow) (b : Option BrokerRow)
    (o : Option Request)
    (t : Option Answer) → (is_some o && is_within 500 599 status) ≡ true → IsPossibleParts cat id p b o t
    → IsPossible cat id (changed_cell cat (cell p b o t) (Event.Gateway id status))
kept_gateway cat id status p b None t on h = cc
kept_gateway cat id status None b (Some r) t on h = let f = h.1 in cc
kept_gateway cat id status (Some row) b (Some r) t on h =
    moved_on cat id row b b (Some r) t _ h (λ f. refl) h.same h.holds
    (gateway_travels _ row.state b r status h.sent (is_server_error status on))
