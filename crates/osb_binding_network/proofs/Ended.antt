-- A tombstone stays, whatever happens.
use Rattle.std.proofs.Common.{◌≡◌, ℕ, Bool, true, false, refl, ap, ◌∙◌}
use Rattle.std.specs.Prelude.{Option, Some, None, ◌&&◌, ◌||◌, if◌then◌else◌, is_some, slice_get}
use Rattle.osb_message.specs.declared.catalogue.Mode.{Mode}
use Rattle.osb_message.specs.declared.messages.Answer.{Answer}
use Rattle.osb_message.specs.declared.messages.Kind.{Kind}
use Rattle.osb_message.specs.declared.messages.Kind.TheVariants.{Provision, Poll, Deprovision}
use Rattle.osb_message.specs.declared.messages.Request.{Request}
use Rattle.osb_broker.specs.declared.row.BrokerRow.{BrokerRow}
use Rattle.osb_platform.specs.State.{is_polling, is_removable}
use Rattle.osb_instance.specs.declared.digest.Digest.{Digest}
use Rattle.osb_instance.specs.declared.outcome.WorkOutcome.{WorkOutcome}
use Rattle.osb_instance.specs.declared.record.Sent.{Sent}
use Rattle.osb_instance.specs.declared.work.Begun.{Begun}
use Rattle.osb_instance.specs.declared.work.Begun.TheVariants.{Answered}
use Rattle.osb_instance.specs.declared.work.Work.{Work}
use Rattle.osb_instance.specs.Begin.{begun_by, begun_in, begun_with, begun_work, conflict, conflicts, failed_row}
use Rattle.osb_instance.specs.Begin.{finished_held, given_up, is_provision, names_held, polled_held, too_late}
use Rattle.osb_instance.specs.Begin.{waiting_by, waiting_deprovision, waits_for_poll, worked}
use Rattle.osb_instance.specs.Due.{work_due}
use Rattle.osb_instance.specs.Held.{Held}
use Rattle.osb_instance.specs.Recorded.{Recorded, is_deleting}
use Rattle.osb_network.specs.declared.event.Event.{Event}
use Rattle.osb_network.specs.declared.order.Order.{Order}
use Rattle.osb_network.specs.declared.resource.Resource.{Resource}
use Rattle.osb_network.specs.Cell.{Cell, IsPossibleWith}
use Rattle.osb_network.specs.Possible.{IsKeptAs}
use Rattle.osb_network.specs.Steps.{arrive, arrived, can_finish, cell_step, end, ended, sent_as}
use Rattle.osb_network.specs.Truth.{is_true_end, is_under_way}
use Rattle.osb_binding_network.proofs.Quiet.{clean_up_held, create_held, give_up_held, if_held, put_off_held, send_held}
use Rattle.osb_binding_network.proofs.Quiet.{take_garbled_held, take_gateway_held, take_given_held, unknown_held}

abbrev Has : Held → Type 0
Has h = h.tombstone ≡ true

or_more : (a b : Bool) → a ≡ true → (a || b) ≡ true
or_more true b e = refl
or_more false b e = cc

-- ---- a request

has_polled : (x : Bool) (h : Held) → Has h → Has (if x then polled_held h else h)
has_polled true h e = e
has_polled false h e = e

has_deleted : (x : Bool) (m : Option Mode) (h : Held) (r : Request) → Has h → Has (waiting_deprovision x m h r).0
has_deleted true m h r e = refl
has_deleted false m h r e = e

has_waited : (k : Kind) (m : Option Mode) (h : Held) (r : Request) → Has h → Has (waiting_by k m h r).0
has_waited Provision m h r e = e
has_waited Poll m h r e = has_polled (names_held h.row None r) h e
has_waited Deprovision m h r e = has_deleted (is_some (work_due m (failed_row h.row) r)) m h r e

has_work : (x : Bool) (w : Work) (m : Option Mode) (h : Held) (r : Request) (d : Digest) → Has h
    → Has (begun_work x w m h r d).0
has_work true w m h r d e = e
has_work false w m h r d e = e

has_by : (w : Option Work) (m : Option Mode) (f : Bool) (h : Held) (r : Request) (d : Digest) → Has h
    → Has (begun_by w m f h r d).0
has_by (Some w) m f h r d e = has_work (waits_for_poll r.kind m f) w m h r d e
has_by None m f h r d e = or_more h.tombstone _ e

has_in : (v : Bool) (m : Option Mode) (f : Bool) (h : Held) (r : Request) (d : Digest) → Has h
    → Has (begun_in v m f h r d).0
has_in true m f h r d e = has_waited r.kind m h r e
has_in false m f h r d e = has_by (work_due m h.row r) m f h r d e

has_late : (x : Bool) (m : Option Mode) (f : Bool) (h : Held) (r : Request) (d : Digest) → Has h
    → Has (if x then (h, Answered too_late) else begun_in h.waiting m f h r d).0
has_late true m f h r d e = e
has_late false m f h r d e = has_in h.waiting m f h r d e

has_with : (q : Option Request) (m : Option Mode) (f : Bool) (h : Held) (r : Request) (d : Digest) → Has h
    → Has (begun_with q m f h r d).0
has_with (Some q) m f h r d e = e
has_with None m f h r d e = has_late (h.tombstone && is_provision r.kind) m f h r d e

has_if : (x : Bool) (m : Option Mode) (f : Bool) (h : Held) (r : Request) (d : Digest) → Has h
    → Has (if x then (h, Answered conflict) else begun_with h.work m f h r d).0
has_if true m f h r d e = e
has_if false m f h r d e = has_with h.work m f h r d e

has_arrived : (c : Cell) (x : Sent) (g : Held) (b : Begun) → Has g → Has (arrived c x g b).held
has_arrived c x g (Answered a) e = e
has_arrived c x g (Begun.Work w) e = e

has_arrive : (c : Cell) (x : Option Sent) → Has c.held → Has (arrive c x).held
has_arrive c None e = e
has_arrive c (Some x) e =
    has_arrived c x _ _ (has_if (conflicts c.held x.request c.order.attributes) c.order.mode c.order.first_poll c.held
    x.request c.order.attributes e)

-- ---- an end

has_worked : (m : Option Mode) (h : Held) (q : Request) (oc : WorkOutcome) → Has h → Has (worked m h q oc).0
has_worked m h q WorkOutcome.Done e = or_more h.tombstone _ e
has_worked m h q WorkOutcome.Before e = or_more h.tombstone _ e
has_worked m h q WorkOutcome.After e = or_more h.tombstone _ e
has_worked m h q (WorkOutcome.Refused rejection) e = refl

has_ended : (c : Cell) (g : Held) (a : Answer) (w : Option ℕ) → Has g → Has (ended c g a w).held
has_ended c g a None e = e
has_ended c g a (Some n) e = e

has_either : (x : Bool) (a c : Cell) → Has a.held → Has c.held → Has (if x then a else c).held
has_either true a c e f = e
has_either false a c e f = f

has_end : (c : Cell) (q : Option Request) (oc : WorkOutcome) → Has c.held → Has (end c q oc).held
has_end c None oc e = e
has_end c (Some q) oc e =
    has_either (is_true_end c.order.mode q.kind oc c.resource) _ c
    (has_ended c _ _ c.worker (has_worked c.order.mode c.held q oc e)) e

has_same : (g h : Held) → g ≡ h → Has h → Has g
has_same g h e f = ap (λ (x : Held). x.tombstone) e ∙ f

pub tombstone_stays : (c : Cell) (e : Event) → c.held.tombstone ≡ true → (cell_step c e).held.tombstone ≡ true
tombstone_stays c Event.Create h = has_same _ c.held (create_held c c.recorded) h
tombstone_stays c Event.Send h = has_same _ c.held (send_held c c.recorded) h
tombstone_stays c Event.Expire h = has_same _ c.held (clean_up_held is_polling c c.recorded) h
tombstone_stays c Event.Retry h = has_same _ c.held (clean_up_held is_deleting c c.recorded) h
tombstone_stays c Event.Remove h = has_same _ c.held (clean_up_held is_removable c c.recorded) h
tombstone_stays c Event.Timeout h = has_same _ c.held (give_up_held c c.recorded) h
tombstone_stays c (Event.Arrive n) h = has_arrive c (sent_as c.sent n) h
tombstone_stays c (Event.PutOff n) h = has_same _ c.held (put_off_held c (sent_as c.sent n)) h
tombstone_stays c (Event.Take at) h = has_same _ c.held (take_given_held c (slice_get c.given at)) h
tombstone_stays c (Event.TakeGarbled at) h = has_same _ c.held (take_garbled_held c (slice_get c.given at)) h
tombstone_stays c (Event.TakeGateway n) h = has_same _ c.held (take_gateway_held c c.recorded n) h
tombstone_stays c (Event.End oc) h = has_end c c.held.work oc h
tombstone_stays c Event.EndUnknown h = has_same _ c.held (unknown_held c c.worker) h
tombstone_stays c (Event.Finish ok) h =
    has_either (can_finish c ok) (record c { held = finished_held c.held ok }) c (or_more c.held.tombstone _ h) h
tombstone_stays c Event.GiveUpWaiting h = has_either c.held.waiting (record c { held = given_up c.held }) c h h
tombstone_stays c (Event.Work u) h = has_same _ c.held (if_held (is_under_way c.held) (record c { resource = u }) c refl) h
tombstone_stays c Event.CrashBroker h = h
tombstone_stays c Event.CrashPlatform h = h

-- beside a tombstone there is neither row nor work
nothing_kept : (o : Order) (b : Option BrokerRow) (w : Option Request) (x v : Bool) (t : Resource)
    → IsKeptAs o b w x v t → x ≡ true → (b ≡ None) × (w ≡ None)
nothing_kept o None None x v t kept e = (refl, refl)
nothing_kept o (Some b) None true v t kept e = absurd kept
nothing_kept o (Some b) None false v t kept e = cc
nothing_kept o None (Some q) true v t kept e = absurd kept
nothing_kept o None (Some q) false v t kept e = cc
nothing_kept o (Some b) (Some q) true v t kept e = absurd kept
nothing_kept o (Some b) (Some q) false v t kept e = cc

pub ended_by : (c : Cell) (r : Option Recorded) → IsPossibleWith c r → c.held.tombstone ≡ true
    → (c.held.row ≡ None) × (c.held.work ≡ None)
ended_by c None h e = (ap (λ (x : Held). x.row) h.held, ap (λ (x : Held). x.work) h.held)
ended_by c (Some rec) h e =
    nothing_kept c.order c.held.row c.held.work c.held.tombstone c.held.waiting c.resource h.parts.kept.0 e
