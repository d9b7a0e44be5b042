-- Whatever happens, a cell that can come about becomes one that can come about.
use Rattle.std.proofs.Common.{◌≡◌, ℕ, true, refl}
use Rattle.osb_message.specs.Plans.{Catalogue}
use Rattle.osb_platform.specs.State.{is_polling, is_removable}
use Rattle.osb_world.specs.declared.cell.Cell.{Cell}
use Rattle.osb_event.specs.declared.event.Event.{Event}
use Rattle.osb_world.specs.Cell.{empty_cell}
use Rattle.osb_world.specs.Events.{is_of, next_cell}
use Rattle.osb_world.specs.Possible.{IsPossible}
use Rattle.osb_world.specs.Steps.{applies, changed_cell, cell_step}
use Rattle.osb_world.proofs.Possibility.{kept_if, same_id}
use Rattle.osb_world.proofs.Commands.{kept_create, kept_cleaned_up, kept_send, kept_timeout, kept_restart}
use Rattle.osb_world.proofs.Deliveries.{kept_deliver, kept_repeat}
use Rattle.osb_world.proofs.LostAnswers.{kept_lose, kept_garble, kept_gateway}
use Rattle.osb_world.proofs.TakenAnswers.{kept_answer}
use Rattle.osb_world.proofs.Finishes.{kept_finish}

-- an event of the id that applies
kept_change : (cat : Catalogue) (id : ℕ) (c : Cell) (e : Event) → is_of id e ≡ true → applies c e ≡ true
    → IsPossible cat id c
    → IsPossible cat id (changed_cell cat c e)
kept_change cat id c (Event.Create named service plan accepts) mine on h =
    kept_create cat id named service plan accepts c.platform c.broker c.out c.travelling (same_id named id mine) on h
kept_change cat id c (Event.Remove named) mine on h =
    kept_cleaned_up cat id is_removable c.platform c.broker c.out c.travelling on h
kept_change cat id c (Event.Send named) mine on h =
    kept_send cat id named c.platform c.broker c.out c.travelling (same_id named id mine) on h
kept_change cat id c (Event.Deliver named outcome) mine on h =
    kept_deliver cat id outcome c.platform c.broker c.out c.travelling h
kept_change cat id c (Event.Repeat named outcome) mine on h =
    kept_repeat cat id outcome c.platform c.broker c.out c.travelling h
kept_change cat id c (Event.Lose named) mine on h = kept_lose cat id c.platform c.broker c.out c.travelling h
kept_change cat id c (Event.Garble named) mine on h = kept_garble cat id c.platform c.broker c.out c.travelling h
kept_change cat id c (Event.Gateway named status) mine on h =
    kept_gateway cat id status c.platform c.broker c.out c.travelling on h
kept_change cat id c (Event.Answer named) mine on h = kept_answer cat id c.platform c.broker c.out c.travelling h
kept_change cat id c (Event.Timeout named) mine on h = kept_timeout cat id c.platform c.broker c.out c.travelling h
kept_change cat id c (Event.Expire named) mine on h =
    kept_cleaned_up cat id is_polling c.platform c.broker c.out c.travelling on h
kept_change cat id c (Event.Finish named ok) mine on h =
    kept_finish cat id ok c.platform c.broker c.out c.travelling on h
kept_change cat id c Event.Restart mine on h = kept_restart cat id c.platform c.broker c.out c.travelling h

-- an event of the id
pub kept_step : (cat : Catalogue) (id : ℕ) (c : Cell) (e : Event) → is_of id e ≡ true → IsPossible cat id c
    → IsPossible cat id (cell_step cat c e)
kept_step cat id c e mine h =
    kept_if cat id (applies c e) (changed_cell cat c e) c (λ on. kept_change cat id c e mine on h) h

-- any event
pub kept_next : (cat : Catalogue) (id : ℕ) (c : Cell) (e : Event) → IsPossible cat id c
    → IsPossible cat id (next_cell cat id c e)
kept_next cat id c e h = kept_if cat id (is_of id e) (cell_step cat c e) c (λ mine. kept_step cat id c e mine h) h

pub possible_empty : (cat : Catalogue) (id : ℕ) → IsPossible cat id empty_cell
possible_empty cat id = (refl, refl, refl)
