-- Which instance an event is of.
use Rattle.std.specs.Prelude.{ℕ, Option, Some, None}
use Rattle.osb_event.specs.declared.event.Event.{Event}

-- the instance that an event names; a restart is of every instance, and names none
abbrev pub event_id : Event → Option ℕ
event_id (Event.Create id service plan accepts) = Some id
event_id (Event.Remove id) = Some id
event_id (Event.Send id) = Some id
event_id (Event.Deliver id outcome) = Some id
event_id (Event.Repeat id outcome) = Some id
event_id (Event.Lose id) = Some id
event_id (Event.Garble id) = Some id
event_id (Event.Gateway id status) = Some id
event_id (Event.Answer id) = Some id
event_id (Event.Timeout id) = Some id
event_id (Event.Expire id) = Some id
event_id (Event.Finish id ok) = Some id
event_id Event.Restart = None
