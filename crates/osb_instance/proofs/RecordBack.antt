-- A record comes back from its text, and what a text names can come about.
use Rattle.std.proofs.Common.{◌≡◌, ◌≤◌, ℕ, Bool, true, false, refl, ◌∙◌, ap, arith, eq-eqb}
use Rattle.std.proofs.lemmas.Bool.Decides.{nat_tests}
use Rattle.std.specs.Prelude.{List, Option, Some, None, Ok, ◌&&◌, not}
use Rattle.osb_message.specs.IdText.{id_text, id_of_lower}
use Rattle.osb_message.specs.Words.{kind_word, kind_named}
use Rattle.osb_message.specs.declared.messages.Kind.{Kind}
use Rattle.osb_message.specs.declared.messages.Kind.TheVariants.{Provision, Poll, Deprovision}
use Rattle.osb_platform.proofs.RowText.{word_reads}
use Rattle.osb_platform.specs.PlatformRow.{IsSoundRow}
use Rattle.osb_platform.specs.declared.state.State.{State}
use Rattle.osb_platform.specs.declared.state.State.TheVariants.{Wanted, Polling, Cleaning, CleaningPolling}
use Rattle.osb_instance.specs.Recorded.{Recorded, IsRecordedSound}
use Rattle.osb_instance.specs.Frame.{and_then, as_an_object, of_version}
use Rattle.osb_instance.specs.RecordText.{record_value, record_named, record_of, record_in_of, out_value, out_in}
use Rattle.osb_instance.specs.RecordText.{can_be, can_be_with, can_be_out, can_have, is_wanted}
use Rattle.serde_json.specs.Data.{Data, depth}
use Rattle.serde_json.specs.Read.{read, max_depth}

pub kind_reads : (k : Kind) → kind_named (kind_word k) ≡ Some k
kind_reads Provision = refl
kind_reads k = refl

out_reads : (out : Option Kind) → out_in (out_value out) ≡ Some out
out_reads None = refl
out_reads (Some Provision) = refl
out_reads (Some Poll) = refl
out_reads (Some Deprovision) = refl

pub record_reads : (format : ℕ) (r : Recorded) → id_of_lower (id_text r.row.plan) ≡ Some r.row.plan
    → id_of_lower (id_text r.row.service) ≡ Some r.row.service → record_named (record_value format r) ≡ Some r
unfolding record_named
record_reads format r plan service = rw (plan, service, word_reads r.row.state, out_reads r.row.out) refl

-- ---- what can come about

either_sound : (s : State) (k : Kind) (service plan : ℕ) → can_be_out s k ≡ true
    → IsSoundRow (record { service = service; plan = plan; state = s; out = Some k })
either_sound Wanted Provision service plan h = record { wanted = λ _. refl; others = λ n. absurd (n refl) }
either_sound Polling Poll service plan h = record { wanted = λ e. cc; others = λ _. refl }
either_sound CleaningPolling Poll service plan h = record { wanted = λ e. cc; others = λ _. refl }
either_sound Cleaning Deprovision service plan h = record { wanted = λ e. cc; others = λ _. refl }
either_sound s k service plan h = cc

idle_sound : (s : State) (service plan : ℕ) → not (is_wanted s) ≡ true
    → IsSoundRow (record { service = service; plan = plan; state = s; out = None })
idle_sound Wanted service plan h = cc
idle_sound s service plan h = record { wanted = λ e. cc; others = λ _. tt }

first_of : (x y : Bool) → (x && y) ≡ true → x ≡ true
first_of true y h = refl
first_of false y h = h

second_of : (x y : Bool) → (x && y) ≡ true → y ≡ true
second_of true y h = h
second_of false y h = cc

numbered : (s : State) (n : ℕ) → can_have s n ≡ true → 1 ≤ n
numbered Wanted n h = grind (arith, nat_tests)
numbered s n h = grind (arith, nat_tests)

numbered_first : (s : State) (n : ℕ) → can_have s n ≡ true → s ≡ Wanted → n ≡ 1
numbered_first Wanted n h e = grind (arith, nat_tests)
numbered_first s n h e = cc

never_first : (s : State) (n : ℕ) → not (is_wanted s) ≡ true → s ≡ Wanted → n ≡ 1
never_first Wanted n h e = cc
never_first s n h e = cc

has_number : (s : State) (n : ℕ) → 1 ≤ n → (s ≡ Wanted → n ≡ 1) → can_have s n ≡ true
has_number Wanted n h first = let e = first refl in grind (arith, nat_tests)
has_number s n h first = grind (arith, nat_tests)

can_be_sound_with : (out : Option Kind) (s : State) (n service plan : ℕ) → can_be_with out s n ≡ true
    → IsRecordedSound (record {
      row = record { service = service; plan = plan; state = s; out = out };
      attempt = n;
    })
can_be_sound_with None s n service plan h = record {
  row = idle_sound s service plan h;
  counted = λ e. cc;
  first = never_first s n h;
}
can_be_sound_with (Some k) s n service plan h = record {
  row = either_sound s k service plan (first_of (can_be_out s k) (can_have s n) h);
  counted = λ _. numbered s n (second_of (can_be_out s k) (can_have s n) h);
  first = numbered_first s n (second_of (can_be_out s k) (can_have s n) h);
}

pub can_be_sound : (r : Recorded) → can_be r ≡ true → IsRecordedSound r
can_be_sound r h = can_be_sound_with r.row.out r.row.state r.attempt r.row.service r.row.plan h

can_be_out_sound : (s : State) (k : Kind) (service plan : ℕ)
    → IsSoundRow (record { service = service; plan = plan; state = s; out = Some k }) → can_be_out s k ≡ true
can_be_out_sound Wanted Provision service plan h = refl
can_be_out_sound Wanted k service plan h = let e = h.wanted refl in cc
can_be_out_sound Polling Poll service plan h = refl
can_be_out_sound CleaningPolling Poll service plan h = refl
can_be_out_sound Cleaning Deprovision service plan h = refl
can_be_out_sound s k service plan h = let e = h.others (λ w. cc) in cc

idle_can_be : (s : State) (service plan : ℕ)
    → IsSoundRow (record { service = service; plan = plan; state = s; out = None }) → not (is_wanted s) ≡ true
idle_can_be Wanted service plan h = let e = h.wanted refl in cc
idle_can_be s service plan h = refl

both_of : (x y : Bool) → x ≡ true → y ≡ true → (x && y) ≡ true
both_of true y p q = q
both_of false y p q = p

sound_can_be_with : (out : Option Kind) (s : State) (n service plan : ℕ)
    → IsRecordedSound (record {
      row = record { service = service; plan = plan; state = s; out = out };
      attempt = n;
    })
    → can_be_with out s n ≡ true
sound_can_be_with None s n service plan h = idle_can_be s service plan h.row
sound_can_be_with (Some k) s n service plan h =
    both_of (can_be_out s k) (can_have s n) (can_be_out_sound s k service plan h.row)
    (has_number s n (h.counted refl) h.first)

pub sound_can_be : (r : Recorded) → IsRecordedSound r → can_be r ≡ true
sound_can_be r h = sound_can_be_with r.row.out r.row.state r.attempt r.row.service r.row.plan h

-- ---- the record that was written is read

flat_out : (out : Option Kind) → depth (out_value out) ≤ 0
flat_out None = omega arith
flat_out (Some k) = omega arith

record_value_read : (format : ℕ) (text : List ℕ) (d : Data) (r : Recorded) → d ≡ record_value format r
    → (depth d ≤ max_depth → read text ≡ Some d) → read text ≡ Some (record_value format r)
record_value_read format text d r is reads =
    let flat : depth (record_value format r) ≤ max_depth = omega (arith, flat_out r.row.out) in
    reads (rw is flat) ∙ ap Some is

pub record_back : (format : ℕ) (text : List ℕ) (d : Data) (r : Recorded) → d ≡ record_value format r
    → (depth d ≤ max_depth → read text ≡ Some d) → record_named (record_value format r) ≡ Some r → IsRecordedSound r
    → record_in_of format text ≡ Ok r
record_back format text d r is reads named sound =
    ap (λ found. and_then record_of (and_then (of_version format) (as_an_object found)))
    (record_value_read format text d r is reads)
    ∙ rw (eq-eqb format format refl, named, sound_can_be r sound) refl
