-- Updates, their work and their operations: what can come about goes on.
use Rattle.std.proofs.Common.{◌≡◌, ℕ, Bool, true, false, refl, sym, subst, ap, ◌∙◌}
use Rattle.std.specs.Prelude.{Option, Some, None, ◌&&◌, ◌==◌, not, nat_lt, if◌then◌else◌}
use Rattle.osb_message.specs.declared.catalogue.Mode.{Mode}
use Rattle.osb_message.specs.declared.catalogue.Mode.TheVariants.{Sync, Async}
use Rattle.osb_message.specs.declared.messages.Answer.{Answer}
use Rattle.osb_message.specs.declared.messages.ErrorCode.TheVariants.{Other}
use Rattle.osb_message.specs.declared.messages.Request.{Request}
use Rattle.osb_broker.specs.Answers.{empty, error}
use Rattle.osb_broker.specs.declared.row.BrokerRow.{BrokerRow}
use Rattle.osb_instance.specs.Fits.{is_ready}
use Rattle.osb_instance.specs.declared.outcome.Rejection.{Rejection}
use Rattle.osb_network.specs.AnyPlatform.{AnyCell}
use Rattle.osb_update.specs.Begun.{again_by, begun_by, busy, failed_by, fresh_by, is_available, is_available_by, is_under_way}
use Rattle.osb_update.specs.Begun.{refusal, settled_by, unavailable, unavailable_by}
use Rattle.osb_update.specs.Reported.{fetched, found_by}
use Rattle.osb_update.specs.Settings.{is_same_settings, with_change}
use Rattle.osb_update.specs.declared.holding.UpdateHolding.{UpdateHolding}
use Rattle.osb_update.specs.declared.phase.Fetched.{Fetched}
use Rattle.osb_update.specs.declared.phase.UpdateBegun.{UpdateBegun}
use Rattle.osb_update.specs.declared.phase.UpdateOutcome.{UpdateOutcome}
use Rattle.osb_update.specs.declared.phase.UpdatePhase.{UpdatePhase}
use Rattle.osb_update.specs.declared.request.Allowed.{Allowed}
use Rattle.osb_update.specs.declared.request.Update.{Update}
use Rattle.osb_update.specs.declared.settings.Settings.{Settings}
use Rattle.osb_update.proofs.Same.{same_settings}
use Rattle.osb_update_network.specs.AnyPlatform.{UpdatedCell, is_at, may_end_update, pending_to, update}
use Rattle.osb_update_network.specs.AnyPlatform.{update_by, update_end_by, update_end_of, update_finish_by, update_work, with_change_after}
use Rattle.osb_update_network.specs.Promises.{IsUpdated}
use Rattle.osb_update_network.specs.Reported.{accepts, by_fetch, has_settings, taken_back}
use Rattle.osb_update_network.specs.declared.reported.Reported.{Reported}
use Rattle.osb_update_network.proofs.Available.{clash}
use Rattle.osb_update_network.proofs.Ends.{at_is}
use Rattle.osb_update_network.proofs.Says.{none_some, some_same}

-- ---- a cell by its parts

abbrev held_of : Settings → ℕ → UpdatePhase → UpdateHolding
held_of s n p = record { settings = s; number = n; phase = p }

abbrev cell : AnyCell → Settings → ℕ → UpdatePhase → Option Settings → Option Settings → Reported → UpdatedCell
cell i s n p r b t = record { instance = i; change = held_of s n p; settings = r; before = b; reported = t }

failed_not : UpdatePhase.Failed ≡ UpdatePhase.Settled → ⊥
failed_not e = cc

pending_not : (to : Settings) → UpdatePhase.Pending to ≡ UpdatePhase.Settled → ⊥
pending_not to e = cc

mending_not : (to : Settings) → UpdatePhase.Mending to ≡ UpdatePhase.Settled → ⊥
mending_not to e = cc

updating_not : (to : Settings) → UpdatePhase.Updating to ≡ UpdatePhase.Settled → ⊥
updating_not to e = cc

settled_waits : (p : UpdatePhase) → is_under_way p ≡ true → p ≡ UpdatePhase.Settled → ⊥
settled_waits UpdatePhase.Settled u e = cc
settled_waits p u e = cc

same_cell : (c : UpdatedCell) → IsUpdated c
    → IsUpdated (cell c.instance c.change.settings c.change.number c.change.phase c.settings c.before c.reported)
same_cell c h =
    record { alone = h.alone; there = h.there; row = h.row; told = h.told; accepted = h.accepted; aside = h.aside }

-- nothing is reported while an update is under way
silent : (c : UpdatedCell) (s : Settings) → IsUpdated c → is_under_way c.change.phase ≡ true
    → c.reported.settings ≡ Some s → ⊥
silent c s h u e = clash (is_under_way c.change.phase) u (h.told s e).1.0

-- ---- an Update arrives

-- what is left of it
abbrev IsLeft : UpdatedCell → Settings → UpdateHolding × UpdateBegun → Type 0
IsLeft c to g = IsUpdated (update_by g.0 g.1 c to)

picks : (P : UpdateHolding × UpdateBegun → Type 0) (x : Bool) (f g : UpdateHolding × UpdateBegun) → (x ≡ true → P f)
    → (x ≡ false → P g) → P (if x then f else g)
picks P true f g a b = a refl
picks P false f g a b = b refl

-- the number doesn't count
renumbered : (i : AnyCell) (s : Settings) (n m : ℕ) (p : UpdatePhase) (r b : Option Settings) (t : Reported)
    → IsUpdated (cell i s n p r b t) → IsUpdated (cell i s m p r b t)
renumbered i s n m p r b t h =
    record { alone = h.alone; there = h.there; row = h.row; told = h.told; accepted = h.accepted; aside = h.aside }

-- what a settled row has may be reported
reports : (i : AnyCell) (s : Settings) (n : ℕ) (r b : Option Settings) (t : Reported) (to : Settings)
    → is_available i.held ≡ true → is_same_settings s to ≡ true → IsUpdated (cell i s n UpdatePhase.Settled r b t)
    → IsUpdated (cell i s n UpdatePhase.Settled r b
    (record { settings = Some to; accepted = t.accepted; before = t.before }))
reports i s n r b t to on same h = record {
  alone = h.alone;
  there = h.there;
  row = h.row;
  told = λ x w. (on, (refl, h.row on refl ∙ ap (λ (z : Settings). Some z) ((same_settings s to).0 same ∙ some_same to x w)));
  accepted = h.accepted;
  aside = h.aside;
}

-- an operation that runs is accepted
accepted : (i : AnyCell) (s : Settings) (n : ℕ) (goal : Settings) (r b : Option Settings) (t : Reported) (to : Settings)
    → is_same_settings goal to ≡ true → IsUpdated (cell i s n (UpdatePhase.Updating goal) r b t)
    → IsUpdated (cell i s n (UpdatePhase.Updating goal) r b
    (record { settings = t.settings; accepted = Some to; before = t.before }))
accepted i s n goal r b t to same h = record {
  alone = h.alone;
  there = h.there;
  row = h.row;
  told = h.told;
  accepted = λ x w. sym (some_same to x w) ∙ sym ((same_settings goal to).0 same);
  aside = h.aside;
}

again_settled : (x : Bool) (i : AnyCell) (s : Settings) (n : ℕ) (r b : Option Settings) (t : Reported) (to : Settings)
    → x ≡ is_same_settings s to → is_available i.held ≡ true → IsUpdated (cell i s n UpdatePhase.Settled r b t)
    → IsLeft (cell i s n UpdatePhase.Settled r b t) to
    (held_of s n UpdatePhase.Settled, UpdateBegun.Answered (if x then empty 200 else error 500 Other))
again_settled true i s n r b t to e on h = reports i s n r b t to on (sym e) h
again_settled false i s n r b t to e on h = h

again_updating : (x : Bool) (i : AnyCell) (s : Settings) (n : ℕ) (goal : Settings) (r b : Option Settings) (t : Reported)
    (to : Settings) → x ≡ is_same_settings goal to → IsUpdated (cell i s n (UpdatePhase.Updating goal) r b t)
    → IsLeft (cell i s n (UpdatePhase.Updating goal) r b t) to
    (held_of s n (UpdatePhase.Updating goal), UpdateBegun.Answered (if x then empty 202 else error 500 Other))
again_updating true i s n goal r b t to e h = accepted i s n goal r b t to (sym e) h
again_updating false i s n goal r b t to e h = h

again_left : (p : UpdatePhase) (i : AnyCell) (s : Settings) (n : ℕ) (r b : Option Settings) (t : Reported) (to : Settings)
    → is_available i.held ≡ true → IsUpdated (cell i s n p r b t)
    → IsLeft (cell i s n p r b t) to (held_of s n p, UpdateBegun.Answered (again_by p s to))
again_left UpdatePhase.Settled i s n r b t to on h =
    again_settled (is_same_settings s to) i s n r b t to refl on h
again_left (UpdatePhase.Updating goal) i s n r b t to on h =
    again_updating (is_same_settings goal to) i s n goal r b t to refl h
again_left UpdatePhase.Failed i s n r b t to on h = h
again_left (UpdatePhase.Pending goal) i s n r b t to on h = h
again_left (UpdatePhase.Mending goal) i s n r b t to on h = h

while_updating : (x y : Bool) (i : AnyCell) (s : Settings) (n : ℕ) (goal : Settings) (r b : Option Settings) (t : Reported)
    (to : Settings) → y ≡ is_same_settings goal to → IsUpdated (cell i s n (UpdatePhase.Updating goal) r b t)
    → IsLeft (cell i s n (UpdatePhase.Updating goal) r b t) to
    (held_of s n (UpdatePhase.Updating goal), UpdateBegun.Answered (if x && y then empty 202 else busy))
while_updating true true i s n goal r b t to e h = accepted i s n goal r b t to (sym e) h
while_updating true false i s n goal r b t to e h = h
while_updating false y i s n goal r b t to e h = h

-- work begins over a settled row: nothing is reported any more, and what was is put aside
begins : (i : AnyCell) (s : Settings) (n m : ℕ) (r b : Option Settings) (t : Reported) (mode : Mode) (to : Settings)
    → is_available i.held ≡ true → IsUpdated (cell i s n UpdatePhase.Settled r b t)
    → IsLeft (cell i s n UpdatePhase.Settled r b t) to (held_of s m (UpdatePhase.Pending to), UpdateBegun.Work mode to)
begins i s n m r b t mode to on h = record {
  alone = h.alone;
  there = λ u. on;
  row = λ e p. absurd (pending_not to p);
  told = λ x w. absurd (none_some x w);
  accepted = refl;
  aside = (h.row on refl, λ x w. some_same x s (sym (h.told x w).1.1 ∙ h.row on refl));
}

-- and over one that has failed
mends : (i : AnyCell) (s : Settings) (n m : ℕ) (r b : Option Settings) (t : Reported) (mode : Mode) (to : Settings)
    → is_available i.held ≡ true → IsUpdated (cell i s n UpdatePhase.Failed r b t)
    → IsLeft (cell i s n UpdatePhase.Failed r b t) to (held_of s m (UpdatePhase.Mending to), UpdateBegun.Work mode to)
mends i s n m r b t mode to on h = record {
  alone = h.alone;
  there = λ u. on;
  row = λ e p. absurd (mending_not to p);
  told = λ x w. absurd (none_some x w);
  accepted = refl;
  aside = tt;
}

over_settled : (allowed : Allowed) (accepts_incomplete : Bool) (i : AnyCell) (s : Settings) (n m : ℕ)
    (r b : Option Settings) (t : Reported) (to : Settings) → is_available i.held ≡ true
    → IsUpdated (cell i s n UpdatePhase.Settled r b t)
    → IsLeft (cell i s n UpdatePhase.Settled r b t) to
    (settled_by (refusal allowed accepts_incomplete) (held_of s m UpdatePhase.Settled) allowed to)
over_settled (Allowed.Rejected Rejection.BadRequest) a i s n m r b t to on h = renumbered i s n m UpdatePhase.Settled r b t h
over_settled (Allowed.Rejected Rejection.UnprocessableEntity) a i s n m r b t to on h =
    renumbered i s n m UpdatePhase.Settled r b t h
over_settled Allowed.MaintenanceInfoConflict a i s n m r b t to on h = renumbered i s n m UpdatePhase.Settled r b t h
over_settled (Allowed.Mode Async) false i s n m r b t to on h = renumbered i s n m UpdatePhase.Settled r b t h
over_settled (Allowed.Mode Async) true i s n m r b t to on h = begins i s n m r b t Async to on h
over_settled (Allowed.Mode Sync) false i s n m r b t to on h = begins i s n m r b t Sync to on h
over_settled (Allowed.Mode Sync) true i s n m r b t to on h = begins i s n m r b t Sync to on h

over_failed : (allowed : Allowed) (accepts_incomplete : Bool) (i : AnyCell) (s : Settings) (n m : ℕ)
    (r b : Option Settings) (t : Reported) (to : Settings) → is_available i.held ≡ true
    → IsUpdated (cell i s n UpdatePhase.Failed r b t)
    → IsLeft (cell i s n UpdatePhase.Failed r b t) to
    (failed_by (refusal allowed accepts_incomplete) (held_of s m UpdatePhase.Failed) allowed to)
over_failed (Allowed.Rejected rejection) a i s n m r b t to on h = renumbered i s n m UpdatePhase.Failed r b t h
over_failed Allowed.MaintenanceInfoConflict a i s n m r b t to on h = renumbered i s n m UpdatePhase.Failed r b t h
over_failed (Allowed.Mode Async) false i s n m r b t to on h = renumbered i s n m UpdatePhase.Failed r b t h
over_failed (Allowed.Mode Async) true i s n m r b t to on h = mends i s n m r b t Async to on h
over_failed (Allowed.Mode Sync) false i s n m r b t to on h = mends i s n m r b t Sync to on h
over_failed (Allowed.Mode Sync) true i s n m r b t to on h = mends i s n m r b t Sync to on h

settled_left : (x : Bool) (allowed : Allowed) (a : Bool) (i : AnyCell) (s : Settings) (n m : ℕ) (r b : Option Settings)
    (t : Reported) (to : Settings) → x ≡ is_same_settings s to → is_available i.held ≡ true
    → IsUpdated (cell i s n UpdatePhase.Settled r b t)
    → IsLeft (cell i s n UpdatePhase.Settled r b t) to
    (if x
    then (held_of s m UpdatePhase.Settled, UpdateBegun.Answered (empty 200))
    else settled_by (refusal allowed a) (held_of s m UpdatePhase.Settled) allowed to)
settled_left true allowed a i s n m r b t to e on h =
    reports i s m r b t to on (sym e) (renumbered i s n m UpdatePhase.Settled r b t h)
settled_left false allowed a i s n m r b t to e on h = over_settled allowed a i s n m r b t to on h

fresh_left : (p : UpdatePhase) (allowed : Allowed) (asked : Update) (i : AnyCell) (s : Settings) (n : ℕ)
    (r b : Option Settings) (t : Reported) (to : Settings) → is_available i.held ≡ true → IsUpdated (cell i s n p r b t)
    → IsLeft (cell i s n p r b t) to (fresh_by p allowed (held_of s n p) asked to)
fresh_left UpdatePhase.Settled allowed asked i s n r b t to on h =
    settled_left (is_same_settings s to) allowed asked.accepts_incomplete i s n
    (if asked.number == 0 then n else asked.number) r b t to refl on h
fresh_left UpdatePhase.Failed allowed asked i s n r b t to on h =
    over_failed allowed asked.accepts_incomplete i s n (if asked.number == 0 then n else asked.number) r b t to on h
fresh_left (UpdatePhase.Updating goal) allowed asked i s n r b t to on h =
    while_updating (asked.number == 0) (is_same_settings goal to) i s n goal r b t to refl h
fresh_left (UpdatePhase.Pending goal) allowed asked i s n r b t to on h = h
fresh_left (UpdatePhase.Mending goal) allowed asked i s n r b t to on h = h

-- of an instance that is available
judged_left : (allowed : Allowed) (asked : Update) (i : AnyCell) (s : Settings) (n : ℕ) (p : UpdatePhase)
    (r b : Option Settings) (t : Reported) → is_available i.held ≡ true → IsUpdated (cell i s n p r b t)
    → IsLeft (cell i s n p r b t) (with_change s asked.change) (begun_by None allowed (held_of s n p) asked)
judged_left allowed asked i s n p r b t on h =
    let to = with_change s asked.change in
    picks (IsLeft (cell i s n p r b t) to) (not (asked.number == 0) && nat_lt asked.number n) _ _ (λ e. h)
    (λ e. picks (IsLeft (cell i s n p r b t) to) (not (asked.number == 0) && asked.number == n) _ _
    (λ e. again_left p i s n r b t to on h) (λ e. fresh_left p allowed asked i s n r b t to on h))

-- lines 1 to 3 report nothing, and line 4 needs an instance that is available
ready_same : (x y : Bool) → (if not x then Some busy else (if y then None else Some (error 400 Other))) ≡ None → x ≡ true
ready_same true y e = refl
ready_same false y e = cc

available_by : (row : Option BrokerRow) (work : Option Request) (service : ℕ) → None ≡ unavailable_by row work service
    → is_available_by row work ≡ true
available_by None None service e = cc
available_by (Some row) None service e = ready_same (is_ready row.phase) (row.service == service) (sym e)
available_by None (Some work) service e = cc
available_by (Some row) (Some work) service e = cc

-- an answer that says nothing of the settings
abbrev IsSilent : Answer → Type 0
IsSilent a = ((a.status == 200) ≡ false) × ((a.status == 202) ≡ false)

ready_silent : (x y : Bool) (a : Answer)
    → Some a ≡ (if not x then Some busy else (if y then None else Some (error 400 Other))) → IsSilent a
ready_silent false y a e = subst IsSilent (some_same busy a (sym e)) (refl, refl)
ready_silent true true a e = cc
ready_silent true false a e = subst IsSilent (some_same (error 400 Other) a (sym e)) (refl, refl)

silent_by : (row : Option BrokerRow) (work : Option Request) (service : ℕ) (a : Answer)
    → Some a ≡ unavailable_by row work service → IsSilent a
silent_by None None service a e = subst IsSilent (some_same (error 404 Other) a (sym e)) (refl, refl)
silent_by (Some row) None service a e = ready_silent (is_ready row.phase) (row.service == service) a e
silent_by None (Some work) service a e = subst IsSilent (some_same busy a (sym e)) (refl, refl)
silent_by (Some row) (Some work) service a e = subst IsSilent (some_same busy a (sym e)) (refl, refl)

says_nothing : (x y : Bool) (f g t : Reported) → x ≡ false → y ≡ false → (if x then f else (if y then g else t)) ≡ t
says_nothing false false f g t e z = refl
says_nothing true y f g t e z = cc
says_nothing false true f g t e z = cc

answered_left : (c : UpdatedCell) (a : Answer) (to : Settings) → IsSilent a → IsUpdated c
    → IsLeft c to (c.change, UpdateBegun.Answered a)
answered_left c a to q h =
    subst (λ (x : Reported). IsUpdated (with_change_after c c.change x))
    (sym (says_nothing (a.status == 200) (a.status == 202) _ _ c.reported q.0 q.1)) (same_cell c h)

update_as : (o : Option Answer) (c : UpdatedCell) (allowed : Allowed) (asked : Update)
    → o ≡ unavailable c.instance.held asked.service → IsUpdated c
    → IsLeft c (with_change c.change.settings asked.change) (begun_by o allowed c.change asked)
update_as (Some a) c allowed asked e h =
    answered_left c a (with_change c.change.settings asked.change)
    (silent_by c.instance.held.row c.instance.held.work asked.service a e) h
update_as None c allowed asked e h =
    judged_left allowed asked c.instance c.change.settings c.change.number c.change.phase c.settings c.before c.reported
    (available_by c.instance.held.row c.instance.held.work asked.service e) (same_cell c h)

pub update_kept : (c : UpdatedCell) (allowed : Allowed) (asked : Update) → IsUpdated c → IsUpdated (update c allowed asked)
update_kept c allowed asked h = update_as (unavailable c.instance.held asked.service) c allowed asked refl h

-- ---- the work ends

-- it is done, and the resource has its settings; or it has started. Nothing was reported or accepted before
settles : (i : AnyCell) (s : Settings) (n : ℕ) (p : UpdatePhase) (r b : Option Settings) (t : Reported) (to : Settings)
    → is_under_way p ≡ true → t.accepted ≡ None → is_at r to ≡ true → IsUpdated (cell i s n p r b t)
    → IsUpdated (cell i to n UpdatePhase.Settled r b t)
settles i s n p r b t to u none e h = record {
  alone = h.alone;
  there = λ w. cc;
  row = λ z w. at_is r to e;
  told = λ x w. absurd (silent (cell i s n p r b t) x h u w);
  accepted = λ x w. absurd (none_some x (sym none ∙ w));
  aside = tt;
}

settles_told : (i : AnyCell) (s : Settings) (n : ℕ) (p : UpdatePhase) (r b : Option Settings) (t : Reported)
    (to : Settings) → is_under_way p ≡ true → t.accepted ≡ None → is_at r to ≡ true → IsUpdated (cell i s n p r b t)
    → IsUpdated (cell i to n UpdatePhase.Settled r b (has_settings to t))
settles_told i s n p r b t to u none e h =
    reports i to n r b t to (h.there u) ((same_settings to to).1 refl) (settles i s n p r b t to u none e h)

starts : (i : AnyCell) (s : Settings) (n : ℕ) (p : UpdatePhase) (r b : Option Settings) (t : Reported) (to : Settings)
    → is_under_way p ≡ true → t.accepted ≡ None → IsUpdated (cell i s n p r b t)
    → IsUpdated (cell i s n (UpdatePhase.Updating to) r b t)
starts i s n p r b t to u none h = record {
  alone = h.alone;
  there = λ w. h.there u;
  row = λ z w. absurd (updating_not to w);
  told = λ x w. absurd (silent (cell i s n p r b t) x h u w);
  accepted = λ x w. absurd (none_some x (sym none ∙ w));
  aside = tt;
}

starts_told : (i : AnyCell) (s : Settings) (n : ℕ) (p : UpdatePhase) (r b : Option Settings) (t : Reported)
    (to : Settings) → is_under_way p ≡ true → t.accepted ≡ None → IsUpdated (cell i s n p r b t)
    → IsUpdated (cell i s n (UpdatePhase.Updating to) r b (accepts to t))
starts_told i s n p r b t to u none h =
    accepted i s n to r b t to ((same_settings to to).1 refl) (starts i s n p r b t to u none h)

-- it has changed nothing
undone : (i : AnyCell) (s : Settings) (n : ℕ) (r b : Option Settings) (t : Reported) (to : Settings)
    → is_at r s ≡ true → IsUpdated (cell i s n (UpdatePhase.Pending to) r b t)
    → IsUpdated (cell i s n UpdatePhase.Settled r b t)
undone i s n r b t to e h = settles i s n (UpdatePhase.Pending to) r b t s refl h.accepted e h

refused : (i : AnyCell) (s : Settings) (n : ℕ) (r b : Option Settings) (t : Reported) (to : Settings)
    → is_at r s ≡ true → IsUpdated (cell i s n (UpdatePhase.Pending to) r b t)
    → IsUpdated (cell i s n UpdatePhase.Settled r b (taken_back t))
refused i s n r b t to e h = record {
  alone = h.alone;
  there = λ u. cc;
  row = λ z p. at_is r s e;
  told = λ x w. (h.there refl, (refl, at_is r s e ∙ ap (λ (z : Settings). Some z) (sym (h.aside.1 x w))));
  accepted = λ x w. absurd (none_some x (sym h.accepted ∙ w));
  aside = tt;
}

-- nobody knows what it has left
fails : (i : AnyCell) (s : Settings) (n : ℕ) (p : UpdatePhase) (r b : Option Settings) (t : Reported)
    → is_under_way p ≡ true → IsUpdated (cell i s n p r b t) → IsUpdated (cell i s n UpdatePhase.Failed r b t)
fails i s n p r b t u h = record {
  alone = h.alone;
  there = λ u. cc;
  row = λ z p. absurd (failed_not p);
  told = λ x w. absurd (silent (cell i s n p r b t) x h u w);
  accepted = tt;
  aside = tt;
}

pending_ends : (oc : UpdateOutcome) (mode : Mode) (to : Settings) (i : AnyCell) (s : Settings) (n : ℕ)
    (r b : Option Settings) (t : Reported) → IsUpdated (cell i s n (UpdatePhase.Pending to) r b t)
    → may_end_update false to mode oc (cell i s n (UpdatePhase.Pending to) r b t) ≡ true
    → IsUpdated (update_end_of false to mode oc (cell i s n (UpdatePhase.Pending to) r b t))
pending_ends UpdateOutcome.Done Sync to i s n r b t h e =
    settles_told i s n (UpdatePhase.Pending to) r b t to refl h.accepted e h
pending_ends UpdateOutcome.Done Async to i s n r b t h e =
    starts_told i s n (UpdatePhase.Pending to) r b t to refl h.accepted h
pending_ends UpdateOutcome.After Sync to i s n r b t h e =
    settles i s n (UpdatePhase.Pending to) r b t to refl h.accepted e h
pending_ends UpdateOutcome.After Async to i s n r b t h e =
    starts i s n (UpdatePhase.Pending to) r b t to refl h.accepted h
pending_ends UpdateOutcome.Before mode to i s n r b t h e = undone i s n r b t to e h
pending_ends UpdateOutcome.Failed mode to i s n r b t h e = fails i s n (UpdatePhase.Pending to) r b t refl h
pending_ends (UpdateOutcome.Refused Rejection.BadRequest) mode to i s n r b t h e = refused i s n r b t to e h
pending_ends (UpdateOutcome.Refused Rejection.UnprocessableEntity) mode to i s n r b t h e =
    refused i s n r b t to e h

-- over a row that had failed, nothing is known unless it is done
mending_ends : (oc : UpdateOutcome) (mode : Mode) (to : Settings) (i : AnyCell) (s : Settings) (n : ℕ)
    (r b : Option Settings) (t : Reported) → IsUpdated (cell i s n (UpdatePhase.Mending to) r b t)
    → may_end_update true to mode oc (cell i s n (UpdatePhase.Mending to) r b t) ≡ true
    → IsUpdated (update_end_of true to mode oc (cell i s n (UpdatePhase.Mending to) r b t))
mending_ends UpdateOutcome.Done Sync to i s n r b t h e =
    settles_told i s n (UpdatePhase.Mending to) r b t to refl h.accepted e h
mending_ends UpdateOutcome.Done Async to i s n r b t h e =
    starts_told i s n (UpdatePhase.Mending to) r b t to refl h.accepted h
mending_ends UpdateOutcome.After Sync to i s n r b t h e =
    settles i s n (UpdatePhase.Mending to) r b t to refl h.accepted e h
mending_ends UpdateOutcome.After Async to i s n r b t h e =
    starts i s n (UpdatePhase.Mending to) r b t to refl h.accepted h
mending_ends UpdateOutcome.Before mode to i s n r b t h e = fails i s n (UpdatePhase.Mending to) r b t refl h
mending_ends UpdateOutcome.Failed mode to i s n r b t h e = fails i s n (UpdatePhase.Mending to) r b t refl h
mending_ends (UpdateOutcome.Refused rejection) mode to i s n r b t h e =
    fails i s n (UpdatePhase.Mending to) r b t refl h

-- if it may end so
chosen : (x : Bool) (c d : UpdatedCell) → (x ≡ true → IsUpdated d) → IsUpdated c → IsUpdated (if x then d else c)
chosen true c d f h = f refl
chosen false c d f h = h

ends_in : (p : UpdatePhase) (oc : UpdateOutcome) (mode : Mode) (i : AnyCell) (s : Settings) (n : ℕ)
    (r b : Option Settings) (t : Reported) → IsUpdated (cell i s n p r b t)
    → IsUpdated (update_end_by (pending_to p) mode oc (cell i s n p r b t))
ends_in (UpdatePhase.Pending to) oc mode i s n r b t h =
    chosen (may_end_update false to mode oc (cell i s n (UpdatePhase.Pending to) r b t)) _ _
    (λ e. pending_ends oc mode to i s n r b t h e) h
ends_in (UpdatePhase.Mending to) oc mode i s n r b t h =
    chosen (may_end_update true to mode oc (cell i s n (UpdatePhase.Mending to) r b t)) _ _
    (λ e. mending_ends oc mode to i s n r b t h e) h
ends_in UpdatePhase.Settled oc mode i s n r b t h = h
ends_in (UpdatePhase.Updating to) oc mode i s n r b t h = h
ends_in UpdatePhase.Failed oc mode i s n r b t h = h

pub update_end_kept : (c : UpdatedCell) (mode : Mode) (oc : UpdateOutcome) → IsUpdated c
    → IsUpdated (update_end_by (pending_to c.change.phase) mode oc c)
update_end_kept c mode oc h =
    ends_in c.change.phase oc mode c.instance c.change.settings c.change.number c.settings c.before c.reported (same_cell c h)

-- ---- the operation ends

finishes_in : (p : UpdatePhase) (ok : Bool) (i : AnyCell) (s : Settings) (n : ℕ) (r b : Option Settings) (t : Reported)
    → IsUpdated (cell i s n p r b t) → IsUpdated (update_finish_by p ok (cell i s n p r b t))
finishes_in (UpdatePhase.Updating to) true i s n r b t h =
    chosen (is_at r to) _ _
    (λ e. record {
      alone = h.alone;
      there = λ u. cc;
      row = λ z p. at_is r to e;
      told = λ x w. absurd (silent (cell i s n (UpdatePhase.Updating to) r b t) x h refl w);
      accepted = h.accepted;
      aside = tt;
    }) h
finishes_in (UpdatePhase.Updating to) false i s n r b t h = fails i s n (UpdatePhase.Updating to) r b t refl h
finishes_in UpdatePhase.Settled ok i s n r b t h = h
finishes_in (UpdatePhase.Pending to) ok i s n r b t h = h
finishes_in UpdatePhase.Failed ok i s n r b t h = h
finishes_in (UpdatePhase.Mending to) ok i s n r b t h = h

pub update_finish_kept : (c : UpdatedCell) (ok : Bool) → IsUpdated c → IsUpdated (update_finish_by c.change.phase ok c)
update_finish_kept c ok h =
    finishes_in c.change.phase ok c.instance c.change.settings c.change.number c.settings c.before c.reported (same_cell c h)

-- ---- the work goes on

work_by : (x : Bool) (c : UpdatedCell) (new : Option Settings) → x ≡ is_under_way c.change.phase → IsUpdated c
    → IsUpdated (if x then update_work c new else c)
work_by true c new e h = record {
  alone = h.alone;
  there = h.there;
  row = λ z p. absurd (settled_waits c.change.phase (sym e) p);
  told = λ x w. absurd (silent c x h (sym e) w);
  accepted = h.accepted;
  aside = h.aside;
}
work_by false c new e h = h

pub update_work_kept : (c : UpdatedCell) (new : Option Settings) → IsUpdated c
    → IsUpdated (if is_under_way c.change.phase then update_work c new else c)
update_work_kept c new h = work_by (is_under_way c.change.phase) c new refl h

-- ---- a Fetch arrives

fetches : (x : Bool) (p : UpdatePhase) (i : AnyCell) (s : Settings) (n : ℕ) (r b : Option Settings) (t : Reported)
    → x ≡ is_available i.held → IsUpdated (cell i s n p r b t)
    → IsUpdated (with_change_after (cell i s n p r b t) (held_of s n p)
    (by_fetch (if x then found_by p (held_of s n p) else Fetched.Answered (error 404 Other)) t))
fetches true UpdatePhase.Settled i s n r b t e h = reports i s n r b t s (sym e) ((same_settings s s).1 refl) h
fetches true UpdatePhase.Failed i s n r b t e h = h
fetches true (UpdatePhase.Pending to) i s n r b t e h = h
fetches true (UpdatePhase.Updating to) i s n r b t e h = h
fetches true (UpdatePhase.Mending to) i s n r b t e h = h
fetches false p i s n r b t e h = h

pub fetch_kept : (c : UpdatedCell) → IsUpdated c
    → IsUpdated (with_change_after c c.change (by_fetch (fetched c.instance.held c.change) c.reported))
fetch_kept c h =
    fetches (is_available c.instance.held) c.change.phase c.instance c.change.settings c.change.number c.settings c.before
    c.reported refl (same_cell c h)
