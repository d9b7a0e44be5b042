-- What the broker holds stays while no work is pending, no operation runs, no row waits, and nothing begins.
use Rattle.std.proofs.Common.{◌≡◌, ℕ, Bool, true, false, refl, sym, ap, ◌∙◌}
use Rattle.std.specs.Prelude.{Option, Some, None, ◌&&◌, ◌==◌, not, if◌then◌else◌, is_some, is_none, slice_get}
use Rattle.osb_message.specs.declared.catalogue.Mode.{Mode}
use Rattle.osb_message.specs.declared.messages.Answer.{Answer}
use Rattle.osb_message.specs.declared.messages.Kind.{Kind}
use Rattle.osb_message.specs.declared.messages.Request.{Request}
use Rattle.osb_platform.specs.declared.state.State.{State}
use Rattle.osb_platform.specs.State.{due, is_polling, is_removable}
use Rattle.osb_platform.specs.Statuses.{is_within}
use Rattle.osb_instance.specs.declared.record.Sent.{Sent}
use Rattle.osb_instance.specs.declared.work.Begun.{Begun}
use Rattle.osb_instance.specs.declared.work.Begun.TheVariants.{Answered}
use Rattle.osb_instance.specs.declared.work.Work.{Work}
use Rattle.osb_instance.specs.declared.digest.Digest.{Digest}
use Rattle.osb_instance.specs.declared.outcome.WorkOutcome.{WorkOutcome}
use Rattle.osb_instance.specs.Begin.{begun, begun_by, begun_in, begun_with, begun_work, conflict, conflicts, given_up}
use Rattle.osb_instance.specs.Begin.{is_operating, is_provision, too_late, waits_for_poll}
use Rattle.osb_instance.specs.Begin as instance
use Rattle.osb_instance.specs.Due.{work_due}
use Rattle.osb_instance.specs.Held.{Held}
use Rattle.osb_instance.specs.Recorded.{Recorded, is_deleting}
use Rattle.osb_network.specs.declared.event.Event.{Event}
use Rattle.osb_network.specs.declared.event.Given.{Given}
use Rattle.osb_network.specs.Cell.{Cell}
use Rattle.osb_network.specs.Steps.{cell_step, create, send, send_due, clean_up, give_up, take, take_out, take_given}
use Rattle.osb_network.specs.Steps.{take_garbled, take_gateway, unreadable, sent_as, arrived, arrive, put_off}
use Rattle.osb_network.specs.Steps.{end, end_unknown, has_number}
use Rattle.osb_network.specs.Truth.{is_under_way}
use Rattle.osb_binding_network.specs.Allowed.{begins, begins_by}

-- row and work are as before; a tombstone may have come
abbrev pub IsAsBefore : Held → Held → Type 0
IsAsBefore after before = (after.row ≡ before.row) × (after.work ≡ before.work)

as_before : (g h : Held) → g ≡ h → IsAsBefore g h
as_before g h e = (ap (λ (x : Held). x.row) e, ap (λ (x : Held). x.work) e)

-- ---- what leaves all that is held

pub if_held : (t : Bool) (a c : Cell) → a.held ≡ c.held → (if t then a else c).held ≡ c.held
if_held true a c e = e
if_held false a c e = refl

pub create_held : (c : Cell) (r : Option Recorded) → (create c r).held ≡ c.held
create_held c None = refl
create_held c (Some rec) = refl

send_due_held : (c : Cell) (rec : Recorded) (out next : Option Kind) → (send_due c rec out next).held ≡ c.held
send_due_held c rec None (Some k) = if_held (has_number rec) _ c refl
send_due_held c rec None None = refl
send_due_held c rec (Some j) next = refl

pub send_held : (c : Cell) (r : Option Recorded) → (send c r).held ≡ c.held
send_held c None = refl
send_held c (Some rec) = send_due_held c rec rec.row.out (due rec.row.state)

pub clean_up_held : (states : State → Bool) (c : Cell) (r : Option Recorded) → (clean_up states c r).held ≡ c.held
clean_up_held states c None = refl
clean_up_held states c (Some rec) = if_held (is_none rec.row.out && states rec.row.state) _ c refl

pub give_up_held : (c : Cell) (r : Option Recorded) → (give_up c r).held ≡ c.held
give_up_held c None = refl
give_up_held c (Some rec) = if_held (is_some rec.row.out) _ c refl

take_out_held : (c : Cell) (rec : Recorded) (out : Option Kind) (a : Answer) → (take_out c rec out a).held ≡ c.held
take_out_held c rec None a = refl
take_out_held c rec (Some k) a = refl

take_held : (c : Cell) (r : Option Recorded) (n : ℕ) (a : Answer) → (take c r n a).held ≡ c.held
take_held c None n a = refl
take_held c (Some rec) n a =
    if_held (n == rec.attempt) (take_out c rec rec.row.out a) c (take_out_held c rec rec.row.out a)

pub take_given_held : (c : Cell) (g : Option Given) → (take_given c g).held ≡ c.held
take_given_held c None = refl
take_given_held c (Some g) = take_held c c.recorded g.attempt g.answer

pub take_garbled_held : (c : Cell) (g : Option Given) → (take_garbled c g).held ≡ c.held
take_garbled_held c None = refl
take_garbled_held c (Some g) = take_held c c.recorded g.attempt (unreadable g.answer.status)

pub take_gateway_held : (c : Cell) (r : Option Recorded) (n : ℕ) → (take_gateway c r n).held ≡ c.held
take_gateway_held c None n = refl
take_gateway_held c (Some rec) n =
    if_held (is_within 500 599 n) (take_out c rec rec.row.out (unreadable n)) c
    (take_out_held c rec rec.row.out (unreadable n))

pub put_off_held : (c : Cell) (x : Option Sent) → (put_off c x).held ≡ c.held
put_off_held c None = refl
put_off_held c (Some x) = refl

pub unknown_held : (c : Cell) (w : Option ℕ) → (end_unknown c w).held ≡ c.held
unknown_held c None = refl
unknown_held c (Some n) = refl

-- ---- a request by which nothing begins

-- of a holding, and not of what it is in
abbrev StaysBy : Held → Held × Begun → Type 0
StaysBy h p = (p.0.row ≡ h.row) × (p.0.work ≡ h.work)

none_by : (h : Held) (w : Option Work) (m : Option Mode) (f : Bool) (r : Request) (d : Digest) → h.work ≡ None
    → is_some w ≡ false → StaysBy h (begun_by w m f h r d)
none_by h None m f r d idle e = (refl, sym idle)
none_by h (Some w) m f r d idle e = cc

stays_in : (x : Bool) (h : Held) (m : Option Mode) (f : Bool) (r : Request) (d : Digest) → h.work ≡ None → x ≡ false
    → (not x && is_some (work_due m h.row r)) ≡ false → StaysBy h (begun_in x m f h r d)
stays_in true h m f r d idle e b = cc
stays_in false h m f r d idle e b = none_by h (work_due m h.row r) m f r d idle b

stays_late : (x : Bool) (h : Held) (m : Option Mode) (f : Bool) (r : Request) (d : Digest) → h.work ≡ None
    → h.waiting ≡ false → (not x && (not h.waiting && is_some (work_due m h.row r))) ≡ false
    → StaysBy h (if x then (h, Answered too_late) else begun_in h.waiting m f h r d)
stays_late true h m f r d idle w b = (refl, refl)
stays_late false h m f r d idle w b = stays_in h.waiting h m f r d idle w b

stays_with : (q : Option Request) (h : Held) (m : Option Mode) (f : Bool) (r : Request) (d : Digest) → h.work ≡ None
    → h.waiting ≡ false
    → (is_none q && (not (h.tombstone && is_provision r.kind) && (not h.waiting && is_some (work_due m h.row r)))) ≡ false
    → StaysBy h (begun_with q m f h r d)
stays_with (Some q) h m f r d idle w b = (refl, refl)
stays_with None h m f r d idle w b = stays_late (h.tombstone && is_provision r.kind) h m f r d idle w b

stays_unless : (x : Bool) (h : Held) (m : Option Mode) (f : Bool) (r : Request) (d : Digest) → h.work ≡ None
    → h.waiting ≡ false
    → (not x && (is_none h.work
    && (not (h.tombstone && is_provision r.kind) && (not h.waiting && is_some (work_due m h.row r))))) ≡ false
    → StaysBy h (if x then (h, Answered conflict) else begun_with h.work m f h r d)
stays_unless true h m f r d idle w b = (refl, refl)
stays_unless false h m f r d idle w b = stays_with h.work h m f r d idle w b

-- nothing begins: row and work stay
stays : (h : Held) (m : Option Mode) (f : Bool) (r : Request) (d : Digest) → h.work ≡ None → h.waiting ≡ false
    → instance.begins m h r d ≡ false → StaysBy h (begun m f h r d)
stays h m f r d idle w b = stays_unless (conflicts h r d) h m f r d idle w b

arrived_held : (c : Cell) (x : Sent) (g : Held) (b : Begun) → (arrived c x g b).held ≡ g
arrived_held c x g (Answered a) = refl
arrived_held c x g (Begun.Work w) = refl

arrive_quiet : (c : Cell) (x : Option Sent) → c.held.work ≡ None → c.held.waiting ≡ false → begins_by c x ≡ false
    → IsAsBefore (arrive c x).held c.held
arrive_quiet c None idle w e = (refl, refl)
arrive_quiet c (Some x) idle w e =
    let o = c.order in
    let p : Held × Begun = begun o.mode o.first_poll c.held x.request o.attributes in
    let h : StaysBy c.held p = stays c.held o.mode o.first_poll x.request o.attributes idle w e in (
      ap (λ (g : Held). g.row) (arrived_held c x p.0 p.1) ∙ h.0,
      ap (λ (g : Held). g.work) (arrived_held c x p.0 p.1) ∙ h.1,
    )

-- ---- work and operations, where there are none

end_quiet : (c : Cell) (q : Option Request) (oc : WorkOutcome) → q ≡ None → (end c q oc).held ≡ c.held
end_quiet c None oc e = refl
end_quiet c (Some q) oc e = cc

finish_quiet : (x r t : Bool) (a c : Cell) → r ≡ false → (if x && r && t then a else c).held ≡ c.held
finish_quiet true true t a c e = cc
finish_quiet true false t a c e = refl
finish_quiet false r t a c e = refl

unless_waits : (x : Bool) (a c : Cell) → x ≡ false → (if x then a else c).held ≡ c.held
unless_waits true a c e = cc
unless_waits false a c e = refl

-- whether something begins by the event
abbrev pub begins_at : Event → Cell → Bool
begins_at (Event.Arrive n) c = begins c n
begins_at e c = false

pub quiet : (c : Cell) (e : Event) → c.held.work ≡ None → is_operating c.held ≡ false → c.held.waiting ≡ false
    → begins_at e c ≡ false → IsAsBefore (cell_step c e).held c.held
quiet c Event.Create w r v b = as_before _ _ (create_held c c.recorded)
quiet c Event.Send w r v b = as_before _ _ (send_held c c.recorded)
quiet c Event.Expire w r v b = as_before _ _ (clean_up_held is_polling c c.recorded)
quiet c Event.Retry w r v b = as_before _ _ (clean_up_held is_deleting c c.recorded)
quiet c Event.Remove w r v b = as_before _ _ (clean_up_held is_removable c c.recorded)
quiet c Event.Timeout w r v b = as_before _ _ (give_up_held c c.recorded)
quiet c (Event.Arrive n) w r v b = arrive_quiet c (sent_as c.sent n) w v b
quiet c (Event.PutOff n) w r v b = as_before _ _ (put_off_held c (sent_as c.sent n))
quiet c (Event.Take at) w r v b = as_before _ _ (take_given_held c (slice_get c.given at))
quiet c (Event.TakeGarbled at) w r v b = as_before _ _ (take_garbled_held c (slice_get c.given at))
quiet c (Event.TakeGateway n) w r v b = as_before _ _ (take_gateway_held c c.recorded n)
quiet c (Event.End oc) w r v b = as_before _ _ (end_quiet c c.held.work oc w)
quiet c Event.EndUnknown w r v b = as_before _ _ (unknown_held c c.worker)
quiet c (Event.Finish ok) w r v b = as_before _ _ (finish_quiet (is_none c.held.work) (is_operating c.held) _ _ c r)
quiet c Event.GiveUpWaiting w r v b = as_before _ _ (unless_waits c.held.waiting (record c { held = given_up c.held }) c v)
quiet c (Event.Work u) w r v b = as_before _ _ (if_held (is_under_way c.held) (record c { resource = u }) c refl)
quiet c Event.CrashBroker w r v b = (refl, refl)
quiet c Event.CrashPlatform w r v b = (refl, refl)
