-- What was reported stays reported until it may end, and an Update that is rejected has changed nothing.
use Rattle.std.proofs.Common.{◌≡◌, ℕ, ◌≤◌, Bool, true, false, refl, sym, subst, ap, ◌∙◌, arith}
use Rattle.std.specs.Prelude.{Option, Some, None, ◌&&◌, ◌||◌, ◌==◌, not, nat_lt, if◌then◌else◌}
use Rattle.std.proofs.lemmas.Bool.Decides.{nat_tests}
use Rattle.osb_message.specs.declared.catalogue.Mode.{Mode}
use Rattle.osb_message.specs.declared.catalogue.Mode.TheVariants.{Sync, Async}
use Rattle.osb_message.specs.declared.messages.Answer.{Answer}
use Rattle.osb_message.specs.declared.messages.Kind.{Kind}
use Rattle.osb_message.specs.declared.messages.Kind.TheVariants.{Provision, Poll, Deprovision}
use Rattle.osb_message.specs.declared.messages.Request.{Request}
use Rattle.osb_broker.specs.Answers.{mode_of}
use Rattle.osb_instance.specs.Begin.{begun_if, finished_held, worked}
use Rattle.osb_instance.specs.declared.digest.Digest.{Digest}
use Rattle.osb_instance.specs.declared.outcome.Rejection.{Rejection}
use Rattle.osb_instance.specs.declared.outcome.WorkOutcome.{WorkOutcome}
use Rattle.osb_instance.specs.declared.work.Begun.{Begun}
use Rattle.osb_network.specs.AnyPlatform.{is_succeeded, may_become}
use Rattle.osb_network.specs.declared.any_platform.BrokerEvent.{BrokerEvent}
use Rattle.osb_network.specs.Truth.{is_under_way as instance_under_way}
use Rattle.osb_update.specs.Begun.{begun, begun_by, failed_by, fresh_by, is_available, is_under_way, IsRejected}
use Rattle.osb_update.specs.Begun.{may_begin, refusal, settled_by, unavailable}
use Rattle.osb_update.specs.Ended.{ended}
use Rattle.osb_update.specs.Reported.{fetched}
use Rattle.osb_update.specs.Settings.{is_same_settings, with_change}
use Rattle.osb_update.specs.declared.holding.UpdateHolding.{UpdateHolding}
use Rattle.osb_update.specs.declared.phase.Fetched.{Fetched}
use Rattle.osb_update.specs.declared.phase.UpdateBegun.{UpdateBegun}
use Rattle.osb_update.specs.declared.phase.UpdateOutcome.{UpdateOutcome}
use Rattle.osb_update.specs.declared.phase.UpdatePhase.{UpdatePhase}
use Rattle.osb_update.specs.declared.request.Allowed.{Allowed}
use Rattle.osb_update.specs.declared.request.Update.{Update}
use Rattle.osb_update.specs.declared.settings.Settings.{Settings}
use Rattle.osb_update_network.specs.AnyPlatform.{UpdatedCell, arrive_by, asked_by, end_by, ended_with, handled, in_place, is_new, made_with}
use Rattle.osb_update_network.specs.AnyPlatform.{may_end_update, may_go_on, pending_to, update_end_by, update_end_of, update_finish_by, updated_step, with_instance}
use Rattle.osb_update_network.specs.Promises.{ends_report, is_deprovision, is_work, IsPutAside, IsRejectedEnd, IsUpdated, RejectsTruly, StaysReported}
use Rattle.osb_update_network.specs.Reported.{accepts, by_answer, by_begun, by_fetch, by_update, has_settings, has_succeeded, heard}
use Rattle.osb_update_network.specs.Reported.{is_rejection, succeeded_with}
use Rattle.osb_update_network.specs.declared.event.UpdateEvent.{UpdateEvent}
use Rattle.osb_update_network.specs.declared.reported.Reported.{Reported}
use Rattle.osb_update_network.proofs.Available.{under_way_not}
use Rattle.osb_update_network.proofs.Ends.{at_is}
use Rattle.osb_update_network.proofs.Promised.{kept}
use Rattle.osb_update_network.proofs.Says.{some_same}

-- ---- something stays reported

-- some settings are reported
abbrev Reports : Reported → Type 0
Reports r = (s : Settings) × (r.settings ≡ Some s)

either : (x : Bool) (a b : Reported) → Reports a → Reports b → Reports (if x then a else b)
either true a b f g = f
either false a b f g = g

succeeded : (a : Option Settings) (r : Reported) → Reports r → (s : Settings) × (succeeded_with a r.settings ≡ Some s)
succeeded None r h = h
succeeded (Some s) r h = (s, refl)

poll_reports : (x y : Bool) (r : Reported) → Reports r → Reports (if x then r else if y then has_succeeded r else r)
poll_reports true y r h = h
poll_reports false true r h = succeeded r.accepted r h
poll_reports false false r h = h

answer_reports : (k : Kind) (leaving : Bool) (a : Answer) (asked : Settings) (r : Reported) → Reports r
    → Reports (by_answer k leaving a asked r)
answer_reports Provision leaving a asked r h =
    either (a.status == 200 || a.status == 201) (has_settings asked r) (if a.status == 202 then accepts asked r else r)
    (asked, refl) (either (a.status == 202) (accepts asked r) r h h)
answer_reports Poll leaving a asked r h = poll_reports leaving (a.status == 200 && is_succeeded a.body) r h
answer_reports Deprovision leaving a asked r h = h

begun_reports : (g : Begun) (k : Kind) (leaving : Bool) (asked : Settings) (r : Reported) → Reports r
    → Reports (by_begun g k leaving asked r)
begun_reports (Begun.Answered a) k leaving asked r h = answer_reports k leaving a asked r h
begun_reports (Begun.Work w) k leaving asked r h = h

heard_reports : (k : Kind) (r : Reported) → is_deprovision k ≡ false → Reports r → Reports (heard k r)
heard_reports Provision r e h = h
heard_reports Poll r e h = h
heard_reports Deprovision r e h = cc

update_reports : (g : UpdateBegun) (to : Settings) (r : Reported) → is_work g ≡ false → Reports r
    → Reports (by_update g to r)
update_reports (UpdateBegun.Answered a) to r e h =
    either (a.status == 200) (has_settings to r) (if a.status == 202 then accepts to r else r) (to, refl)
    (either (a.status == 202) (accepts to r) r h h)
update_reports UpdateBegun.MaintenanceInfoConflict to r e h = h
update_reports (UpdateBegun.Work mode goal) to r e h = cc

fetch_reports : (f : Fetched) (r : Reported) → Reports r → Reports (by_fetch f r)
fetch_reports (Fetched.Found settings number) r h = (settings, refl)
fetch_reports (Fetched.Answered a) r h = h

-- and the resource has its settings still
record IsStill (c after : UpdatedCell) : Type 0 where
  pub settings : after.settings ≡ c.settings
  pub reports : Reports after.reported

still_if : (x : Bool) (c a b : UpdatedCell) → IsStill c a → IsStill c b → IsStill c (if x then a else b)
still_if true c a b f g = f
still_if false c a b f g = g

made_still : (x : Bool) (c : UpdatedCell) (r : Request) (d : Digest) (asked : Settings) → is_deprovision r.kind ≡ false
    → Reports c.reported → IsStill c (handled (made_with x c asked) (mode_of c.instance.catalogue r) r d asked)
made_still true c r d asked e h = record {
  settings = refl;
  reports = begun_reports
      (begun_if (may_begin false (made_with true c asked).change.phase) (mode_of c.instance.catalogue r) c.instance.first_poll
      c.instance.held r d).1 r.kind c.instance.told.leaving asked (heard r.kind (made_with true c asked).reported)
      (heard_reports r.kind (made_with true c asked).reported e h);
}
made_still false c r d asked e h = record {
  settings = refl;
  reports = begun_reports
      (begun_if (may_begin false c.change.phase) (mode_of c.instance.catalogue r) c.instance.first_poll c.instance.held r d).1
      r.kind c.instance.told.leaving asked (heard r.kind c.reported) (heard_reports r.kind c.reported e h);
}

arrive_still : (o : Option Answer) (c : UpdatedCell) (r : Request) (d : Digest) (asked : Settings)
    → is_deprovision r.kind ≡ false → Reports c.reported → IsStill c (arrive_by o c r d asked)
arrive_still (Some a) c r d asked e h = record { settings = refl; reports = heard_reports r.kind c.reported e h }
arrive_still None c r d asked e h = made_still (is_new r.kind c.instance.held) c r d asked e h

end_if_still : (x : Bool) (a : Answer) (q : Request) (c : UpdatedCell) (oc : WorkOutcome) → Reports c.reported
    → IsStill c (if x then ended_with a q.kind c oc else c)
end_if_still true a q c oc h = record {
  settings = refl;
  reports = answer_reports q.kind c.instance.told.leaving a c.change.settings c.reported h;
}
end_if_still false a q c oc h = record { settings = refl; reports = h }

end_still : (w : Option Request) (c : UpdatedCell) (oc : WorkOutcome) → Reports c.reported → IsStill c (end_by w c oc)
end_still None c oc h = record { settings = refl; reports = h }
end_still (Some q) c oc h =
    let g = worked (mode_of c.instance.catalogue q) c.instance.held q oc in
    end_if_still (may_go_on (is_available g.0) q.kind c (BrokerEvent.End oc)) g.1 q c oc h

rests_by : (x : Bool) (c a b : UpdatedCell) → x ≡ false → IsStill c b → IsStill c (if x then a else b)
rests_by true c a b e h = cc
rests_by false c a b e h = h

and_false : (x y : Bool) → x ≡ false → (x && y) ≡ false
and_false true y e = cc
and_false false y e = refl

ends_not : (p : UpdatePhase) (c : UpdatedCell) (mode : Mode) (oc : UpdateOutcome) → is_under_way p ≡ false
    → Reports c.reported → IsStill c (update_end_by (pending_to p) mode oc c)
ends_not UpdatePhase.Settled c mode oc u h = record { settings = refl; reports = h }
ends_not UpdatePhase.Failed c mode oc u h = record { settings = refl; reports = h }
ends_not (UpdatePhase.Pending to) c mode oc u h = cc
ends_not (UpdatePhase.Updating to) c mode oc u h = cc
ends_not (UpdatePhase.Mending to) c mode oc u h = cc

finishes_not : (p : UpdatePhase) (c : UpdatedCell) (ok : Bool) → is_under_way p ≡ false
    → Reports c.reported → IsStill c (update_finish_by p ok c)
finishes_not UpdatePhase.Settled c ok u h = record { settings = refl; reports = h }
finishes_not UpdatePhase.Failed c ok u h = record { settings = refl; reports = h }
finishes_not (UpdatePhase.Pending to) c ok u h = cc
finishes_not (UpdatePhase.Updating to) c ok u h = cc
finishes_not (UpdatePhase.Mending to) c ok u h = cc

still : (c : UpdatedCell) (e : UpdateEvent) → is_available c.instance.held ≡ true → is_under_way c.change.phase ≡ false
    → Reports c.reported → ends_report c e ≡ false → IsStill c (updated_step c e)
still c (UpdateEvent.Arrive r d parameters version) on u h e =
    arrive_still (in_place r.kind c.change c.instance.held (asked_by r parameters version)) c r d
    (asked_by r parameters version) e h
still c (UpdateEvent.PutOff k) on u h e = record { settings = refl; reports = heard_reports k c.reported e h }
still c (UpdateEvent.End oc) on u h e = end_still c.instance.held.work c oc h
still c (UpdateEvent.Finish ok) on u h e =
    still_if (may_go_on (is_available (finished_held c.instance.held ok)) Provision c (BrokerEvent.Finish ok)) c
    (with_instance c (BrokerEvent.Finish ok) c.settings) c (record { settings = refl; reports = h })
    (record { settings = refl; reports = h })
still c UpdateEvent.GiveUpWaiting on u h e = record { settings = refl; reports = h }
still c (UpdateEvent.Work t r) on u h e =
    rests_by (may_become c.instance t) c _ c
    (and_false (instance_under_way c.instance.held) _ (under_way_not c.instance.held on))
    (record { settings = refl; reports = h })
still c UpdateEvent.Crash on u h e = record { settings = refl; reports = h }
still c (UpdateEvent.Update allowed asked) on u h e = record {
  settings = refl;
  reports = update_reports (begun c.instance.held allowed c.change asked).1 (with_change c.change.settings asked.change)
      c.reported e h;
}
still c (UpdateEvent.UpdateEnd mode oc) on u h e = ends_not c.change.phase c mode oc u h
still c (UpdateEvent.UpdateFinish ok) on u h e = finishes_not c.change.phase c ok u h
still c (UpdateEvent.UpdateWork r) on u h e =
    rests_by (is_under_way c.change.phase) c _ c u (record { settings = refl; reports = h })
still c UpdateEvent.Fetch on u h e =
    record { settings = refl; reports = fetch_reports (fetched c.instance.held c.change) c.reported h }

pub stays_reported : (c : UpdatedCell) (e : UpdateEvent) → IsUpdated c → StaysReported c e
stays_reported c e h = λ s told ends.
    let t = h.told s told in
    let now = still c e t.0 t.1.0 (s, told) ends in
    let is = ((kept c e h).told now.reports.0 now.reports.1).1.1 in
    now.reports.1 ∙ ap (λ (x : Settings). Some x)
    (some_same now.reports.0 s (sym is ∙ now.settings ∙ t.1.1))

-- ---- an Update is rejected

rejected_not : (n m : ℕ) → 400 ≤ n → n ≤ 499 → m ≤ 299 → (n == m) ≡ false
rejected_not n m a b c = grind (arith, nat_tests)

says_nothing : (x y : Bool) (f g t : Reported) → x ≡ false → y ≡ false → (if x then f else (if y then g else t)) ≡ t
says_nothing false false f g t e z = refl
says_nothing true y f g t e z = cc
says_nothing false true f g t e z = cc

rejected_says : (g : UpdateBegun) (to : Settings) (r : Reported) → IsRejected g → by_update g to r ≡ r
rejected_says (UpdateBegun.Answered a) to r h =
    says_nothing (a.status == 200) (a.status == 202) (has_settings to r) (accepts to r) r
    (rejected_not a.status 200 h.0 h.1 (grind arith)) (rejected_not a.status 202 h.0 h.1 (grind arith))
rejected_says UpdateBegun.MaintenanceInfoConflict to r h = refl
rejected_says (UpdateBegun.Work mode goal) to r h = absurd h

-- the phase stays
abbrev IsStayed : UpdatePhase → UpdateHolding × UpdateBegun → Type 0
IsStayed p g = IsRejected g.1 → g.0.phase ≡ p

picks : (P : UpdateHolding × UpdateBegun → Type 0) (x : Bool) (f g : UpdateHolding × UpdateBegun) → P f → P g
    → P (if x then f else g)
picks P true f g a b = a
picks P false f g a b = b

abbrev held_of : Settings → ℕ → UpdatePhase → UpdateHolding
held_of s n p = record { settings = s; number = n; phase = p }

over_settled : (allowed : Allowed) (a : Bool) (s : Settings) (m : ℕ) (to : Settings)
    → IsStayed UpdatePhase.Settled (settled_by (refusal allowed a) (held_of s m UpdatePhase.Settled) allowed to)
over_settled (Allowed.Rejected rejection) a s m to = λ h. refl
over_settled Allowed.MaintenanceInfoConflict a s m to = λ h. refl
over_settled (Allowed.Mode Async) false s m to = λ h. refl
over_settled (Allowed.Mode Async) true s m to = λ h. absurd h
over_settled (Allowed.Mode Sync) a s m to = λ h. absurd h

over_failed : (allowed : Allowed) (a : Bool) (s : Settings) (m : ℕ) (to : Settings)
    → IsStayed UpdatePhase.Failed (failed_by (refusal allowed a) (held_of s m UpdatePhase.Failed) allowed to)
over_failed (Allowed.Rejected rejection) a s m to = λ h. refl
over_failed Allowed.MaintenanceInfoConflict a s m to = λ h. refl
over_failed (Allowed.Mode Async) false s m to = λ h. refl
over_failed (Allowed.Mode Async) true s m to = λ h. absurd h
over_failed (Allowed.Mode Sync) a s m to = λ h. absurd h

fresh_stayed : (p : UpdatePhase) (allowed : Allowed) (asked : Update) (s : Settings) (n : ℕ) (to : Settings)
    → IsStayed p (fresh_by p allowed (held_of s n p) asked to)
fresh_stayed UpdatePhase.Settled allowed asked s n to =
    picks (IsStayed UpdatePhase.Settled) (is_same_settings s to) _ _ (λ h. refl)
    (over_settled allowed asked.accepts_incomplete s (if asked.number == 0 then n else asked.number) to)
fresh_stayed UpdatePhase.Failed allowed asked s n to =
    over_failed allowed asked.accepts_incomplete s (if asked.number == 0 then n else asked.number) to
fresh_stayed (UpdatePhase.Updating goal) allowed asked s n to = λ h. refl
fresh_stayed (UpdatePhase.Pending goal) allowed asked s n to = λ h. refl
fresh_stayed (UpdatePhase.Mending goal) allowed asked s n to = λ h. refl

begun_stayed : (o : Option Answer) (allowed : Allowed) (asked : Update) (s : Settings) (n : ℕ) (p : UpdatePhase)
    → IsStayed p (begun_by o allowed (held_of s n p) asked)
begun_stayed (Some a) allowed asked s n p = λ h. refl
begun_stayed None allowed asked s n p =
    picks (IsStayed p) (not (asked.number == 0) && nat_lt asked.number n) _ _ (λ h. refl)
    (picks (IsStayed p) (not (asked.number == 0) && asked.number == n) _ _ (λ h. refl)
    (fresh_stayed p allowed asked s n (with_change s asked.change)))

-- the work is rejected
chosen : (x : Bool) (c d : UpdatedCell) → x ≡ true → (if x then d else c) ≡ d
chosen true c d e = refl
chosen false c d e = cc

taken_if : (x : Bool) (f g : Reported) → x ≡ true → (if x then f else g) ≡ f
taken_if true f g e = refl
taken_if false f g e = cc

-- what is left of rejected work
abbrev IsUndone : UpdatedCell → UpdatedCell → Type 0
IsUndone c after =
    (after.settings ≡ c.before)
    × ((after.reported.settings ≡ c.reported.before) × (after.change.phase ≡ UpdatePhase.Settled))

pending_undone : (oc : UpdateOutcome) (mode : Mode) (to : Settings) (c : UpdatedCell)
    → IsPutAside (UpdatePhase.Pending to) c.change.settings c.before c.reported.before
    → may_end_update false to mode oc c ≡ true → is_rejection (ended mode c.change oc to false).1 ≡ true
    → IsUndone c (update_end_of false to mode oc c)
pending_undone UpdateOutcome.Done Sync to c aside e z = cc
pending_undone UpdateOutcome.Done Async to c aside e z = cc
pending_undone UpdateOutcome.After mode to c aside e z = cc
pending_undone UpdateOutcome.Before mode to c aside e z = cc
pending_undone UpdateOutcome.Failed mode to c aside e z = cc
pending_undone (UpdateOutcome.Refused Rejection.BadRequest) mode to c aside e z =
    (at_is c.settings c.change.settings e ∙ sym aside.0, (refl, refl))
pending_undone (UpdateOutcome.Refused Rejection.UnprocessableEntity) mode to c aside e z =
    (at_is c.settings c.change.settings e ∙ sym aside.0, (refl, refl))

mending_not : (oc : UpdateOutcome) (mode : Mode) (to : Settings) (held : UpdateHolding)
    → is_rejection (ended mode held oc to true).1 ≡ true → ⊥
mending_not UpdateOutcome.Done Sync to held z = cc
mending_not UpdateOutcome.Done Async to held z = cc
mending_not UpdateOutcome.After mode to held z = cc
mending_not UpdateOutcome.Before mode to held z = cc
mending_not UpdateOutcome.Failed mode to held z = cc
mending_not (UpdateOutcome.Refused rejection) mode to held z = cc

undone : (p : UpdatePhase) (mode : Mode) (oc : UpdateOutcome) (c : UpdatedCell)
    → IsPutAside p c.change.settings c.before c.reported.before → IsRejectedEnd (pending_to p) mode oc c
    → IsUndone c (update_end_by (pending_to p) mode oc c)
undone (UpdatePhase.Pending to) mode oc c aside r =
    subst (IsUndone c) (sym (chosen (may_end_update false to mode oc c) c (update_end_of false to mode oc c) r.0))
    (pending_undone oc mode to c aside r.0 r.1)
undone (UpdatePhase.Mending to) mode oc c aside r = absurd (mending_not oc mode to c.change r.1)
undone UpdatePhase.Settled mode oc c aside r = absurd r
undone UpdatePhase.Failed mode oc c aside r = absurd r
undone (UpdatePhase.Updating to) mode oc c aside r = absurd r

pub rejects : (c : UpdatedCell) (e : UpdateEvent) → IsUpdated c → RejectsTruly c e
rejects c (UpdateEvent.Update allowed asked) h = λ r. (
  refl,
  (
    ap (λ (x : Reported). x.settings) (rejected_says (begun c.instance.held allowed c.change asked).1
        (with_change c.change.settings asked.change) c.reported r),
    begun_stayed (unavailable c.instance.held asked.service) allowed asked c.change.settings c.change.number c.change.phase r,
  ),
)
rejects c (UpdateEvent.UpdateEnd mode oc) h = λ r. undone c.change.phase mode oc c h.aside r
rejects c (UpdateEvent.Arrive request attributes parameters version) h = tt
rejects c (UpdateEvent.PutOff k) h = tt
rejects c (UpdateEvent.End oc) h = tt
rejects c (UpdateEvent.Finish ok) h = tt
rejects c UpdateEvent.GiveUpWaiting h = tt
rejects c (UpdateEvent.Work t r) h = tt
rejects c UpdateEvent.Crash h = tt
rejects c (UpdateEvent.UpdateFinish ok) h = tt
rejects c (UpdateEvent.UpdateWork r) h = tt
rejects c UpdateEvent.Fetch h = tt
