-- What can come about goes on, and it keeps the promises.
use Rattle.std.proofs.Common.{◌≡◌, Bool, true, false, refl}
use Rattle.std.specs.Prelude.{Option, Some, None, ◌&&◌, ◌||◌, List, [], ◌∷◌, is_some}
use Rattle.osb_message.specs.Plans.{Catalogue}
use Rattle.osb_message.specs.declared.messages.Request.{Request}
use Rattle.osb_instance.specs.Begin.{is_operating}
use Rattle.osb_instance.specs.Held.{Held}
use Rattle.osb_network.proofs.Alone as alone
use Rattle.osb_network.proofs.Alone.{alone_empty}
use Rattle.osb_update.specs.Begun.{is_under_way}
use Rattle.osb_update.specs.declared.settings.Settings.{Settings}
use Rattle.osb_update_network.specs.AnyPlatform.{UpdatedCell, asked_by, updated_empty, updated_step, updated_steps}
use Rattle.osb_update_network.specs.Promises.{is_busy, IsPromised, IsUpdated}
use Rattle.osb_update_network.specs.declared.event.UpdateEvent.{UpdateEvent}
use Rattle.osb_update_network.proofs.Available.{is_still, is_whole, operates_not, rests}
use Rattle.osb_update_network.proofs.Ends.{crash_kept, end_kept, finish_kept, give_up_kept, work_kept}
use Rattle.osb_update_network.proofs.Kept.{arrive_kept, put_off_kept}
use Rattle.osb_update_network.proofs.Says.{none_some}
use Rattle.osb_update_network.proofs.Updates.{fetch_kept, update_end_kept, update_finish_kept, update_kept, update_work_kept}

-- ---- any event

pub kept : (c : UpdatedCell) (e : UpdateEvent) → IsUpdated c → IsUpdated (updated_step c e)
kept c (UpdateEvent.Arrive r d parameters version) h = arrive_kept c r d (asked_by r parameters version) h
kept c (UpdateEvent.PutOff k) h = put_off_kept c k h
kept c (UpdateEvent.End oc) h = end_kept c oc h
kept c (UpdateEvent.Finish ok) h = finish_kept c ok h
kept c UpdateEvent.GiveUpWaiting h = give_up_kept c h
kept c (UpdateEvent.Work t r) h = work_kept c t r h
kept c UpdateEvent.Crash h = crash_kept c h
kept c (UpdateEvent.Update allowed asked) h = update_kept c allowed asked h
kept c (UpdateEvent.UpdateEnd mode oc) h = update_end_kept c mode oc h
kept c (UpdateEvent.UpdateFinish ok) h = update_finish_kept c ok h
kept c (UpdateEvent.UpdateWork r) h = update_work_kept c r h
kept c UpdateEvent.Fetch h = fetch_kept c h

pub at_first : (cat : Catalogue) (fp : Bool) (s : Settings) → IsUpdated (updated_empty cat fp s)
at_first cat fp s = record {
  alone = alone_empty cat fp;
  there = λ u. cc;
  row = λ e p. cc;
  told = λ x e. absurd (none_some x e);
  accepted = λ x e. absurd (none_some x e);
  aside = tt;
}

pub always : (c : UpdatedCell) (events : List UpdateEvent) → IsUpdated c → IsUpdated (updated_steps c events)
always c [] h = h
always c (e ∷ events) h = always (updated_step c e) events (kept c e h)

-- ---- the promises about one moment

none_busy : (w : Option Request) (x y : Bool) → w ≡ None → x ≡ false → y ≡ false → (is_some w || (x || y)) ≡ false
none_busy None false false a b c = refl
none_busy None true y a b c = cc
none_busy None false true a b c = cc
none_busy (Some w) x y a b c = cc

busy_not : (held : Held) → held.work ≡ None → is_operating held ≡ false → held.waiting ≡ false → is_busy held ≡ false
busy_not held w o v = none_busy held.work (is_operating held) held.waiting w o v

not_both : (x y : Bool) → (x ≡ true → y ≡ false) → (x && y) ≡ false
not_both true y f = f refl
not_both false y f = refl

pub promised : (c : UpdatedCell) → IsUpdated c → IsPromised c
promised c h = record {
  instance = alone.promised c.instance h.alone;
  settings = λ s e. let t = h.told s e in (is_whole c.instance h.alone t.0, t.1.1);
  whole = λ e p. (is_whole c.instance h.alone e, h.row e p);
  there = λ u. (h.there u, is_whole c.instance h.alone (h.there u));
  one = not_both (is_under_way c.change.phase) (is_busy c.instance.held)
      (λ u. let e = h.there u in
      busy_not c.instance.held (rests c.instance.held e) (operates_not c.instance.held e) (is_still c.instance h.alone e));
}

pub promised_always : (cat : Catalogue) (fp : Bool) (s : Settings) (events : List UpdateEvent)
    → IsPromised (updated_steps (updated_empty cat fp s) events)
promised_always cat fp s events = promised _ (always (updated_empty cat fp s) events (at_first cat fp s))
