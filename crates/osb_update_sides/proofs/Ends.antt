-- Work and operations of updates end, and the instance itself goes on: what can come about goes on.
use Rattle.std.proofs.Common.{◌≡◌, ◌≤◌, ℕ, Bool, true, false, arith, refl, sym, subst, ap, ◌∙◌, inl, inr, ◌⊎◌}
use Rattle.std.specs.Prelude.{⊤, Option, Some, None, IfSome, ◌&&◌, ◌||◌, not, if◌then◌else◌, is_some}
use Rattle.osb_message.specs.declared.catalogue.Mode.{Mode}
use Rattle.osb_message.specs.declared.catalogue.Mode.TheVariants.{Sync, Async}
use Rattle.osb_message.specs.declared.messages.Answer.{Answer}
use Rattle.osb_message.specs.declared.messages.ErrorCode.TheVariants.{Other}
use Rattle.osb_broker.specs.Answers.{empty, error}
use Rattle.osb_instance.specs.Begin.{rejection_status}
use Rattle.osb_instance.specs.declared.outcome.Rejection.{Rejection}
use Rattle.osb_network.proofs.CellParts.{all_more}
use Rattle.osb_update.specs.Begun.{in_phase, is_available, is_pending, is_under_way}
use Rattle.osb_update.specs.Ended.{ended, settled_with}
use Rattle.osb_update.specs.declared.holding.UpdateHolding.{UpdateHolding}
use Rattle.osb_update.specs.declared.phase.UpdateOutcome.{UpdateOutcome}
use Rattle.osb_update.specs.declared.phase.UpdatePhase.{UpdatePhase}
use Rattle.osb_update.specs.declared.record.UpdateRecord.{UpdateRecord}
use Rattle.osb_update.specs.declared.settings.Settings.{Settings}
use Rattle.osb_update.specs.declared.state.Aim.{Aim}
use Rattle.osb_update.specs.declared.state.UpdateKind.{UpdateKind}
use Rattle.osb_update.specs.declared.state.UpdateState.{UpdateState}
use Rattle.osb_update.proofs.Same.{same_settings}
use Rattle.osb_update_sides.specs.Cell.{UpdatesCell}
use Rattle.osb_update_sides.specs.Life.{goes_on, implies, is_kept, is_life, is_ready}
use Rattle.osb_update_sides.specs.Possible.{GoesTo, HeldByState, IsAimed, IsGivenOf, IsGoing}
use Rattle.osb_update_sides.specs.Possible.{IsNumberedBy, IsOther, IsPossible, IsUpdateOf, IsSentOf, IsUpdated}
use Rattle.osb_update_sides.specs.Possible.{IsWorker, SaidOf}
use Rattle.osb_update_sides.specs.Steps.{crash, end_answered, end_by, end_to, finish_by, finished_to, is_at, is_settled}
use Rattle.osb_update_sides.specs.Steps.{live, may_end, may_live, settings_left, work}
use Rattle.osb_update_sides.specs.declared.asked.Asked.{Asked}
use Rattle.osb_update_sides.specs.declared.given.Said.{Said}
use Rattle.osb_update_sides.specs.declared.life.Life.{Life}
use Rattle.osb_update_sides.proofs.Later.{IsLater}
use Rattle.osb_update_sides.proofs.Arrivals.{Holds, gives, held_kept, says_200, says_202, says_500, says_rejection}
use Rattle.osb_update_sides.proofs.Platform.{and_left, and_right}

at_is : (r : Option Settings) (s : Settings) → is_at r s ≡ true → r ≡ Some s
at_is None s e = cc
at_is (Some has) s e = ap (λ (x : Settings). Some x) ((same_settings has s).0 e)

-- ---- how what is under way goes on

-- pending work, and an operation that runs; the settings that it is to
abbrev IsTo : UpdatePhase → Settings → Type 0
IsTo (UpdatePhase.Pending goal) to = goal ≡ to
IsTo (UpdatePhase.Mending goal) to = goal ≡ to
IsTo (UpdatePhase.Updating goal) to = goal ≡ to
IsTo phase to = ⊥

not_settled : (p : UpdatePhase) (to : Settings) → IsTo p to → p ≡ UpdatePhase.Settled → ⊥
not_settled (UpdatePhase.Pending goal) to w e = cc
not_settled (UpdatePhase.Mending goal) to w e = cc
not_settled (UpdatePhase.Updating goal) to w e = cc
not_settled p to w e = absurd w

under_way : (p : UpdatePhase) (to : Settings) → IsTo p to → is_under_way p ≡ true
under_way (UpdatePhase.Pending goal) to w = refl
under_way (UpdatePhase.Mending goal) to w = refl
under_way (UpdatePhase.Updating goal) to w = refl
under_way p to w = absurd w

aims_at : (p : UpdatePhase) (to aim : Settings) → IsTo p to → GoesTo p aim → to ≡ aim
aims_at (UpdatePhase.Pending goal) to aim w g = sym w ∙ g
aims_at (UpdatePhase.Mending goal) to aim w g = sym w ∙ g
aims_at (UpdatePhase.Updating goal) to aim w g = sym w ∙ g
aims_at p to aim w g = absurd w

-- of work that isn't an operation nothing was accepted yet
goes : (p : UpdatePhase) (settings to aim : Settings) → IsTo p to → IsGoing p settings aim → to ≡ aim
goes (UpdatePhase.Updating goal) settings to aim w g = sym w ∙ g
goes (UpdatePhase.Pending goal) settings to aim w g = absurd g
goes (UpdatePhase.Mending goal) settings to aim w g = absurd g
goes p settings to aim w g = absurd w

abbrev IsPending : UpdatePhase → Type 0
IsPending (UpdatePhase.Pending goal) = ⊤
IsPending (UpdatePhase.Mending goal) = ⊤
IsPending phase = ⊥

accepts_not : (p : UpdatePhase) (settings aim : Settings) → IsPending p → IsGoing p settings aim → ⊥
accepts_not (UpdatePhase.Pending goal) settings aim w g = g
accepts_not (UpdatePhase.Mending goal) settings aim w g = g
accepts_not p settings aim w g = w

-- what is held then: settled with the settings, or running to them, or failed; or settled as before
abbrev Leads : UpdatePhase → UpdateHolding → Settings → UpdateHolding → Type 0
Leads UpdatePhase.Settled held to after = (after.settings ≡ to) ⊎ (after.settings ≡ held.settings)
Leads UpdatePhase.Failed held to after = after.settings ≡ held.settings
Leads (UpdatePhase.Updating goal) held to after = (goal ≡ to) × (after.settings ≡ held.settings)
Leads phase held to after = ⊥

leads_goes : (p : UpdatePhase) (held after : UpdateHolding) (to aim : Settings) → Leads p held to after → to ≡ aim
    → GoesTo p aim
leads_goes UpdatePhase.Settled held after to aim l e = tt
leads_goes UpdatePhase.Failed held after to aim l e = tt
leads_goes (UpdatePhase.Updating goal) held after to aim l e = l.0 ∙ e
leads_goes p held after to aim l e = absurd l

row_to : (settings before to aim : Settings) (held : Settings) → (settings ≡ to) ⊎ (settings ≡ held) → to ≡ aim
    → (held ≡ before) ⊎ (held ≡ aim) → (settings ≡ before) ⊎ (settings ≡ aim)
row_to settings before to aim held (inl e) t r = inr (e ∙ t)
row_to settings before to aim held (inr e) t (inl r) = inl (e ∙ r)
row_to settings before to aim held (inr e) t (inr r) = inr (e ∙ r)

leads_row : (p : UpdatePhase) (held after : UpdateHolding) (before to aim : Settings) → Leads p held to after → to ≡ aim
    → (held.settings ≡ before) ⊎ (held.settings ≡ aim) → (after.settings ≡ before) ⊎ (after.settings ≡ aim)
leads_row UpdatePhase.Settled held after before to aim l e r =
    row_to after.settings before to aim held.settings l e r
leads_row UpdatePhase.Failed held after before to aim l e r =
    row_to after.settings before to aim held.settings (inr l) e r
leads_row (UpdatePhase.Updating goal) held after before to aim l e r =
    row_to after.settings before to aim held.settings (inr l.1) e r
leads_row p held after before to aim l e r = absurd l

-- by what the platform records
led_aim : (aim : Aim) (before : Settings) (number : ℕ) (held after : UpdateHolding) (ready : Bool) (to : Settings)
    → IsTo held.phase to → after.number ≡ held.number → Leads after.phase held to after
    → IsAimed before number held ready aim → IsAimed before number after ready aim
led_aim aim before number held after ready to w n l h = record {
  is_ready = h.is_ready;
  one = λ m. (let one = h.one m in
      let t = aims_at held.phase to aim.to w one.goal in
      record {
        row = leads_row after.phase held after before to aim.to l t one.row;
        goal = leads_goes after.phase held after to aim.to l t;
      });
  judged = λ e. leads_goes after.phase held after to aim.to l (aims_at held.phase to aim.to w (h.judged (sym n ∙ e)));
}

led : (s : UpdateState) (before : Settings) (number : ℕ) (held after : UpdateHolding) (ready : Bool) (to : Settings)
    → IsTo held.phase to → after.number ≡ held.number → Leads after.phase held to after
    → IsLater number held after → HeldByState s before number held ready → HeldByState s before number after ready
led UpdateState.Settled before number held after ready to w n l later h = absurd (not_settled held.phase to w h.settled)
led (UpdateState.Updating aim) before number held after ready to w n l later h =
    led_aim aim before number held after ready to w n l h
led (UpdateState.Polling aim) before number held after ready to w n l later h =
    (led_aim aim before number held after ready to w n l h.0, later.accepted aim.to h.1)
led (UpdateState.Unsure aim) before number held after ready to w n l later h =
    led_aim aim before number held after ready to w n l h

-- the work or the operation has led there
record IsLed (c : UpdatesCell) (to : Settings) (after : UpdateHolding) (worker : Option ℕ) : Type 0 where
  pub number : after.number ≡ c.held.number
  pub leads : Leads after.phase c.held to after
  pub accepted : (aim : Settings) → IsGoing c.held.phase c.held.settings aim → IsGoing after.phase after.settings aim
  pub row : after.phase ≡ UpdatePhase.Settled → c.settings ≡ Some after.settings
  pub works : IfSome worker (IsWorker after)

leads_other : (p : UpdatePhase) (held after : UpdateHolding) (to : Settings) → Leads p held to after
    → IsOther p after.settings
leads_other UpdatePhase.Settled held after to l = tt
leads_other UpdatePhase.Failed held after to l = tt
leads_other (UpdatePhase.Updating goal) held after to l = tt
leads_other p held after to l = absurd l

led_later : (c : UpdatesCell) (to : Settings) (after : UpdateHolding) (worker : Option ℕ) → IsTo c.held.phase to
    → IsLed c to after worker → IsLater c.recorded.number c.held after
led_later c to after worker w l = record {
  done = λ x d. absurd (not_settled c.held.phase to w d.settled);
  accepted = λ x d. record { judged = l.number ∙ d.judged; going = l.accepted x d.going };
}

same_number : (a b n : ℕ) → a ≡ b → b ≤ n → a ≤ n
same_number a b n e l = omega arith

no_less : (a b : ℕ) → a ≡ b → b ≤ a
no_less a b e = omega arith

led_step : (c : UpdatesCell) (to : Settings) (after : UpdateHolding) (worker : Option ℕ) → IsPossible c
    → IsTo c.held.phase to → IsLed c to after worker → Holds c after worker c.settings
led_step c to after worker h w l = record {
  later = led_later c to after worker w l;
  rises = no_less after.number c.held.number l.number;
  judged = same_number after.number c.held.number c.recorded.number l.number h.numbers.judged;
  works = l.works;
  holds = record {
    there = λ u. h.holds.there (under_way c.held.phase to w);
    row = λ on s. l.row s;
    other = leads_other after.phase c.held after to l.leads;
  };
  recorded = λ k. led c.recorded.state c.recorded.settings c.recorded.number c.held after (is_ready c.life) to w l.number
      l.leads (led_later c to after worker w l) (h.recorded k);
}

-- ---- pending work ends

-- an answer to the Update that is out
record Answers (c : UpdatesCell) (after : UpdateHolding) (answer : Answer) : Type 0 where
  pub says : (aim : Settings) → after.number ≡ c.recorded.number → GoesTo c.held.phase aim
      → IsUpdated c.recorded.number after aim answer

-- the request that is out is an Update, if its work goes on
said_of_work : (out : Option UpdateKind) (s : UpdateState) (before : Settings) (number attempt n : ℕ)
    (held after : UpdateHolding) (ready : Bool) (answer : Answer) (to : Settings) → IsNumberedBy out number attempt
    → number ≤ attempt → held.number ≤ number → n ≡ held.number → n ≡ attempt → after.number ≡ held.number
    → IsTo held.phase to → IsPending held.phase
    → HeldByState s before number held ready
    → ((aim : Settings) → after.number ≡ number → GoesTo held.phase aim → IsUpdated number after aim answer)
    → SaidOf out s number after (Said.Answer answer)
said_of_work (Some UpdateKind.Update) (UpdateState.Updating aim) before number attempt n held after ready answer to b l m e f
    g w p h says =
    let judged : held.number ≡ number = omega arith in
    says aim.to (g ∙ judged) (h.judged judged)
said_of_work (Some UpdateKind.Poll) (UpdateState.Polling aim) before number attempt n held after ready answer to b l m e f
    g w p h says =
    absurd (accepts_not held.phase held.settings aim.to p h.1.going)
said_of_work out s before number attempt n held after ready answer to b l m e f g w p h says = tt

no_more : (n kept number attempt : ℕ) → n ≡ kept → kept ≤ number → number ≤ attempt → n ≤ attempt
no_more n kept number attempt e l m = omega arith

end_left : (worker : Option ℕ) (c : UpdatesCell) (to : Settings) (after : UpdateHolding) (answer : Answer)
    → c.worker ≡ worker → IsPossible c → IsTo c.held.phase to → IsPending c.held.phase → IsLed c to after None
    → Answers c after answer → IsPossible (end_answered c after answer worker)
end_left None c to after answer e h w p l a =
    subst (λ (x : Option ℕ). IsPossible (record c { held = after; worker = x })) (sym e)
    (held_kept c after None c.settings h (led_step c to after None h w l))
end_left (Some n) c to after answer e h w p l a =
    let q : IsWorker c.held n = subst (λ (x : Option ℕ). IfSome x (IsWorker c.held)) e h.works in
    gives (record c { held = after; worker = None }) n (Said.Answer answer)
    (held_kept c after None c.settings h (led_step c to after None h w l))
    (record {
      numbered = no_more n c.held.number c.recorded.number c.recorded.attempt q.0 h.numbers.judged h.numbers.latest;
      said = λ k same. said_of_work c.recorded.out c.recorded.state c.recorded.settings c.recorded.number
          c.recorded.attempt n c.held after (is_ready c.life) answer to h.numbers.update h.numbers.latest h.numbers.judged
          q.0 same l.number w p (h.recorded k) a.says;
    })

-- ---- each outcome

picks : (P : UpdatesCell → Type 0) (x : Bool) (a b : UpdatesCell) → (x ≡ true → P a) → P b → P (if x then a else b)
picks P true a b f g = f refl
picks P false a b f g = g

left_settled : (c : UpdatesCell) (to : Settings) → IsPending c.held.phase → is_at c.settings to ≡ true
    → IsLed c to (settled_with c.held to) None
left_settled c to p at = record {
  number = refl;
  leads = inl refl;
  accepted = λ aim g. absurd (accepts_not c.held.phase c.held.settings aim p g);
  row = λ e. at_is c.settings to at;
  works = tt;
}

left_running : (c : UpdatesCell) (to : Settings) → IsPending c.held.phase
    → IsLed c to (in_phase c.held (UpdatePhase.Updating to)) None
left_running c to p = record {
  number = refl;
  leads = (refl, refl);
  accepted = λ aim g. absurd (accepts_not c.held.phase c.held.settings aim p g);
  row = λ e. cc;
  works = tt;
}

left_before : (c : UpdatesCell) (to : Settings) → IsPending c.held.phase → is_at c.settings c.held.settings ≡ true
    → IsLed c to (in_phase c.held UpdatePhase.Settled) None
left_before c to p at = record {
  number = refl;
  leads = inr refl;
  accepted = λ aim g. absurd (accepts_not c.held.phase c.held.settings aim p g);
  row = λ e. at_is c.settings c.held.settings at;
  works = tt;
}

left_failed : (c : UpdatesCell) (to : Settings) → IsPending c.held.phase
    → IsLed c to (in_phase c.held UpdatePhase.Failed) None
left_failed c to p = record {
  number = refl;
  leads = refl;
  accepted = λ aim g. absurd (accepts_not c.held.phase c.held.settings aim p g);
  row = λ e. cc;
  works = tt;
}

answers_500 : (c : UpdatesCell) (after : UpdateHolding) → Answers c after (error 500 Other)
answers_500 c after = record { says = λ aim n g. says_500 c.recorded.number after aim }

answers_done : (c : UpdatesCell) (to : Settings) → IsTo c.held.phase to → Answers c (settled_with c.held to) (empty 200)
answers_done c to w = record {
  says = λ aim n g. says_200 c.recorded.number (settled_with c.held to) aim
      (record { judged = n; settled = refl; settings = aims_at c.held.phase to aim w g });
}

answers_accepted : (c : UpdatesCell) (to : Settings) → IsTo c.held.phase to
    → Answers c (in_phase c.held (UpdatePhase.Updating to)) (empty 202)
answers_accepted c to w = record {
  says = λ aim n g. says_202 c.recorded.number (in_phase c.held (UpdatePhase.Updating to)) aim
      (record { judged = n; going = aims_at c.held.phase to aim w g });
}

answers_rejected : (c : UpdatesCell) (to : Settings) (rejection : Rejection) → IsTo c.held.phase to
    → (to ≡ c.held.settings → ⊥)
    → Answers c (in_phase c.held UpdatePhase.Settled) (error (rejection_status rejection) Other)
answers_rejected c to rejection w other = record {
  says = λ aim n g. says_rejection c.recorded.number (in_phase c.held UpdatePhase.Settled) aim rejection (record {
    judged = n;
    settled = refl;
    other = λ e. other (aims_at c.held.phase to aim w g ∙ sym e);
  });
}

-- what is needed of the work that ends
record IsWork (c : UpdatesCell) (to : Settings) (failed : Bool) : Type 0 where
  pub possible : IsPossible c
  pub goal : IsTo c.held.phase to
  pub pending : IsPending c.held.phase
  pub other : failed ≡ false → to ≡ c.held.settings → ⊥

ends_with : (c : UpdatesCell) (to : Settings) (failed : Bool) (after : UpdateHolding) (answer : Answer)
    → IsWork c to failed → IsLed c to after None → Answers c after answer
    → IsPossible (end_answered c after answer c.worker)
ends_with c to failed after answer h l a =
    end_left c.worker c to after answer refl h.possible h.goal h.pending l a

ends_as : (outcome : UpdateOutcome) (mode : Mode) (failed : Bool) (c : UpdatesCell) (to : Settings) → IsWork c to failed
    → may_end c mode outcome to failed ≡ true
    → IsPossible (end_answered c (ended mode c.held outcome to failed).0 (ended mode c.held outcome to failed).1 c.worker)
ends_as UpdateOutcome.Done Sync failed c to h may =
    ends_with c to failed _ _ h (left_settled c to h.pending may) (answers_done c to h.goal)
ends_as UpdateOutcome.Done Async failed c to h may =
    ends_with c to failed _ _ h (left_running c to h.pending) (answers_accepted c to h.goal)
ends_as UpdateOutcome.After Sync failed c to h may =
    ends_with c to failed _ _ h (left_settled c to h.pending may) (answers_500 c (settled_with c.held to))
ends_as UpdateOutcome.After Async failed c to h may =
    ends_with c to failed _ _ h (left_running c to h.pending) (answers_500 c (in_phase c.held (UpdatePhase.Updating to)))
ends_as UpdateOutcome.Before mode true c to h may =
    ends_with c to true _ _ h (left_failed c to h.pending) (answers_500 c (in_phase c.held UpdatePhase.Failed))
ends_as UpdateOutcome.Before mode false c to h may =
    ends_with c to false _ _ h (left_before c to h.pending may) (answers_500 c (in_phase c.held UpdatePhase.Settled))
ends_as UpdateOutcome.Failed mode failed c to h may =
    ends_with c to failed _ _ h (left_failed c to h.pending) (answers_500 c (in_phase c.held UpdatePhase.Failed))
ends_as (UpdateOutcome.Refused rejection) mode true c to h may =
    ends_with c to true _ _ h (left_failed c to h.pending) (answers_500 c (in_phase c.held UpdatePhase.Failed))
ends_as (UpdateOutcome.Refused rejection) mode false c to h may =
    ends_with c to false _ _ h (left_before c to h.pending may) (answers_rejected c to rejection h.goal (h.other refl))

end_to_kept : (c : UpdatesCell) (mode : Mode) (outcome : UpdateOutcome) (to : Settings) (failed : Bool)
    → IsWork c to failed → IsPossible (end_to c mode outcome to failed)
end_to_kept c mode outcome to failed h =
    picks IsPossible (may_end c mode outcome to failed) _ c (λ may. ends_as outcome mode failed c to h may) h.possible

end_in : (p : UpdatePhase) (c : UpdatesCell) (mode : Mode) (outcome : UpdateOutcome) → c.held.phase ≡ p → IsPossible c
    → IsPossible (end_by p c mode outcome)
end_in (UpdatePhase.Pending to) c mode outcome e h =
    end_to_kept c mode outcome to false (record {
      possible = h;
      goal = subst (λ (x : UpdatePhase). IsTo x to) (sym e) refl;
      pending = subst IsPending (sym e) tt;
      other = λ f. subst (λ (x : UpdatePhase). IsOther x c.held.settings) e h.holds.other;
    })
end_in (UpdatePhase.Mending to) c mode outcome e h =
    end_to_kept c mode outcome to true (record {
      possible = h;
      goal = subst (λ (x : UpdatePhase). IsTo x to) (sym e) refl;
      pending = subst IsPending (sym e) tt;
      other = λ f. cc;
    })
end_in UpdatePhase.Settled c mode outcome e h = h
end_in UpdatePhase.Failed c mode outcome e h = h
end_in (UpdatePhase.Updating to) c mode outcome e h = h

pub end_kept : (c : UpdatesCell) (mode : Mode) (outcome : UpdateOutcome) → IsPossible c
    → IsPossible (end_by c.held.phase c mode outcome)
end_kept c mode outcome h = end_in c.held.phase c mode outcome refl h

-- ---- an operation ends

waits_not : (worker : Option ℕ) (to : Settings) (held after : UpdateHolding) → held.phase ≡ UpdatePhase.Updating to
    → IfSome worker (IsWorker held) → IfSome worker (IsWorker after)
waits_not None to held after e q = tt
waits_not (Some n) to held after e q =
    let p : false ≡ true = subst (λ (x : UpdatePhase). is_pending x ≡ true) e q.1 in cc

finished_left : (ok : Bool) (c : UpdatesCell) (to : Settings) → c.held.phase ≡ UpdatePhase.Updating to → IsPossible c
    → (not ok || is_at c.settings to) ≡ true → IsPossible (record c { held = finished_to c.held to ok })
finished_left true c to e h at =
    let w = subst (λ (x : UpdatePhase). IsTo x to) (sym e) refl in
    held_kept c (settled_with c.held to) c.worker c.settings h (led_step c to (settled_with c.held to) c.worker h w (record {
      number = refl;
      leads = inl refl;
      accepted = λ aim g. goes c.held.phase c.held.settings to aim w g;
      row = λ s. at_is c.settings to at;
      works = waits_not c.worker to c.held (settled_with c.held to) e h.works;
    }))
finished_left false c to e h at =
    let w = subst (λ (x : UpdatePhase). IsTo x to) (sym e) refl in
    held_kept c (in_phase c.held UpdatePhase.Failed) c.worker c.settings h
    (led_step c to (in_phase c.held UpdatePhase.Failed) c.worker h w (record {
      number = refl;
      leads = refl;
      accepted = λ aim g. tt;
      row = λ s. cc;
      works = waits_not c.worker to c.held (in_phase c.held UpdatePhase.Failed) e h.works;
    }))

finish_in : (p : UpdatePhase) (c : UpdatesCell) (ok : Bool) → c.held.phase ≡ p → IsPossible c
    → IsPossible (finish_by p c ok)
finish_in (UpdatePhase.Updating to) c ok e h =
    picks IsPossible (not ok || is_at c.settings to) _ c (λ at. finished_left ok c to e h at) h
finish_in UpdatePhase.Settled c ok e h = h
finish_in UpdatePhase.Failed c ok e h = h
finish_in (UpdatePhase.Pending to) c ok e h = h
finish_in (UpdatePhase.Mending to) c ok e h = h

pub finish_kept : (c : UpdatesCell) (ok : Bool) → IsPossible c → IsPossible (finish_by c.held.phase c ok)
finish_kept c ok h = finish_in c.held.phase c ok refl h

-- ---- what is under way changes the settings; a crash

same_later : (number : ℕ) (held : UpdateHolding) → IsLater number held held
same_later number held = record { done = λ to d. d; accepted = λ to d. d }

at_least : (n : ℕ) → n ≤ n
at_least n = omega arith

rests_not : (p : UpdatePhase) → is_under_way p ≡ true → p ≡ UpdatePhase.Settled → ⊥
rests_not UpdatePhase.Settled u e = cc
rests_not p u e = cc

pub work_kept : (c : UpdatesCell) (settings : Option Settings) → IsPossible c → IsPossible (work c settings)
work_kept c settings h =
    picks IsPossible (is_under_way c.held.phase) _ c
    (λ u. held_kept c c.held c.worker settings h (record {
      later = same_later c.recorded.number c.held;
      rises = at_least c.held.number;
      judged = h.numbers.judged;
      works = h.works;
      holds = record {
        there = h.holds.there;
        row = λ on s. absurd (rests_not c.held.phase u s);
        other = h.holds.other;
      };
      recorded = h.recorded;
    })) h

pub crash_kept : (c : UpdatesCell) → IsPossible c → IsPossible (crash c)
crash_kept c h =
    held_kept c c.held None c.settings h (record {
      later = same_later c.recorded.number c.held;
      rises = at_least c.held.number;
      judged = h.numbers.judged;
      works = tt;
      holds = h.holds;
      recorded = h.recorded;
    })

-- ---- the instance itself goes on

holds_if : (x y : Bool) → implies x y ≡ true → x ≡ true → y ≡ true
holds_if true y e f = e
holds_if false y e f = cc

both : (x y : Bool) → x ≡ true → y ≡ true → (x && y) ≡ true
both true y e f = f
both false y e f = cc

aim_goes_on : (aim : Aim) (before : Settings) (number : ℕ) (held : UpdateHolding) (ready more : Bool)
    → (ready ≡ true → more ≡ true) → IsAimed before number held ready aim → IsAimed before number held more aim
aim_goes_on aim before number held ready more f h =
    record { is_ready = f h.is_ready; one = h.one; judged = h.judged }

state_goes_on : (s : UpdateState) (before : Settings) (number : ℕ) (held : UpdateHolding) (ready more : Bool)
    → (ready ≡ true → more ≡ true) → HeldByState s before number held ready → HeldByState s before number held more
state_goes_on UpdateState.Settled before number held ready more f h = h
state_goes_on (UpdateState.Updating aim) before number held ready more f h =
    aim_goes_on aim before number held ready more f h
state_goes_on (UpdateState.Polling aim) before number held ready more f h =
    (aim_goes_on aim before number held ready more f h.0, h.1)
state_goes_on (UpdateState.Unsure aim) before number held ready more f h =
    aim_goes_on aim before number held ready more f h

update_goes_on : (asked : Asked) (counts more : Bool) (r : UpdateRecord) (kept attempt : ℕ) → (more ≡ true → counts ≡ true)
    → IsUpdateOf asked counts r kept attempt → IsUpdateOf asked more r kept attempt
update_goes_on (Asked.Update names) counts more r kept attempt f h = (h.0, λ k. h.1 (f k))
update_goes_on Asked.Poll counts more r kept attempt f h = tt
update_goes_on Asked.Fetch counts more r kept attempt f h = tt

settled_is : (p : UpdatePhase) → p ≡ UpdatePhase.Settled → is_settled p ≡ true
settled_is UpdatePhase.Settled e = refl
settled_is p e = cc

live_to : (c : UpdatesCell) (life : Life) (settings : Option Settings) → IsPossible c
    → may_live c life settings ≡ true → IsPossible (record c { life = life; settings = settings_left c settings })
live_to c life settings h may =
    let rest = and_right (is_life c.service life) _ may in
    let goes = and_left (goes_on c.life life) _ rest in
    let rules = and_right (implies (is_kept c.life && is_some c.recorded.out) (is_kept life)) _
    (and_right (goes_on c.life life) _ rest) in
    let counts = λ (k : is_kept life ≡ true).
    holds_if (is_kept life) (is_kept c.life) (and_left (implies (is_kept life) (is_kept c.life)) _ goes) k in
    let stays = λ (k : is_kept life ≡ true) (on : is_ready c.life ≡ true).
    holds_if (is_ready c.life && is_kept life) (is_ready life)
    (and_right (implies (is_kept life) (is_kept c.life)) _ goes) (both (is_ready c.life) (is_kept life) on k) in
    record {
      lives = and_left (is_life c.service life) _ may;
      record_can_be = h.record_can_be;
      numbers = h.numbers;
      works = h.works;
      holds = record {
        there = λ u. holds_if (is_under_way c.held.phase) (is_available life.holding)
            (and_left (implies (is_under_way c.held.phase) (is_available life.holding)) _ rules) u;
        row = λ on s. at_is (settings_left c settings) c.held.settings
            (holds_if (is_available life.holding && is_settled c.held.phase) _
            (and_right (implies (is_under_way c.held.phase) (is_available life.holding)) _ rules)
            (both (is_available life.holding) (is_settled c.held.phase) on (settled_is c.held.phase s)));
        other = h.holds.other;
      };
      recorded = λ k. state_goes_on c.recorded.state c.recorded.settings c.recorded.number c.held (is_ready c.life)
          (is_ready life) (stays k) (h.recorded (counts k));
      all_sent = all_more (IsSentOf (is_kept c.life) c.recorded c.held.number)
          (IsSentOf (is_kept life) c.recorded c.held.number) c.sent (λ x q. record {
            first = q.first;
            numbered = q.numbered;
            latest = q.latest;
            update = update_goes_on x.asked (is_kept c.life) (is_kept life) c.recorded c.held.number x.attempt counts q.update;
          }) h.all_sent;
      all_given = all_more (IsGivenOf (is_kept c.life) c.recorded c.held) (IsGivenOf (is_kept life) c.recorded c.held)
          c.given (λ x q. record { numbered = q.numbered; said = λ k e. q.said (counts k) e }) h.all_given;
    }

pub live_kept : (c : UpdatesCell) (life : Life) (settings : Option Settings) → IsPossible c → IsPossible (live c life settings)
live_kept c life settings h =
    picks IsPossible (may_live c life settings) _ c (λ may. live_to c life settings h may) h
