-- A driver that crosses comes back.
use Rattle.std.proofs.Common.{◌≡◌, ℕ, Bool, true, false, refl, sym, ap, ◌∙◌, List}
use Rattle.std.specs.Prelude.{Option, Some, None, IsSome, not, option_and_then, if◌then◌else◌}
use Rattle.std.specs.Str.{bytes_eq}
use Rattle.osb_binding_platform_driver.specs.Driver.{at}
use Rattle.osb_binding_platform_driver.specs.declared.driver.PlatformDriver.{PlatformDriver}
use Rattle.osb_binding_platform_driver.specs.declared.driver.PlatformStage.{PlatformStage}
use Rattle.osb_c_platform_driver.specs.Drivers.{can_be, driver_of, is_number, nobody, possible, stage_of}
use Rattle.osb_c_platform_driver.specs.Readings.{is_owner}
use Rattle.osb_c_platform_driver.specs.declared.drivers.OsbPlatformDriver.{OsbPlatformDriver}

abbrev binding_in : Bool → Option PlatformDriver → Bool
binding_in other None = other
binding_in other (Some d) = d.is_binding

possible_binding : (is_binding : Bool) (stage : PlatformStage) (c : Bool) (d : PlatformDriver)
    → (if c then Some (record { is_binding = is_binding; stage = stage }) else None) ≡ Some d
    → d.is_binding ≡ is_binding
possible_binding is_binding stage true d e = sym (ap (binding_in is_binding) e)
possible_binding is_binding stage false d e = cc

crossed_number : (b is_binding : Bool) (stage : Option PlatformStage) (d : PlatformDriver)
    → (if b then option_and_then (possible is_binding) stage else None) ≡ Some d → b ≡ true
crossed_number true is_binding stage d e = refl
crossed_number false is_binding stage d e = cc

crossed_binding : (b is_binding : Bool) (stage : Option PlatformStage) (d : PlatformDriver)
    → (if b then option_and_then (possible is_binding) stage else None) ≡ Some d → d.is_binding ≡ is_binding
crossed_binding true is_binding None d e = cc
crossed_binding true is_binding (Some stage) d e =
    possible_binding is_binding stage (can_be is_binding stage) d e
crossed_binding false is_binding stage d e = cc

-- no driver has the number of nobody
is_nobody : (b : Bool) → not b ≡ true → b ≡ false
is_nobody true h = cc
is_nobody false h = refl

number_there : (b : Bool) (o : Option PlatformDriver) → IsSome (if b then o else None) → b ≡ true
number_there true o h = refl
number_there false o h = cc

pub nobody_owns : (d : OsbPlatformDriver) (number : List ℕ) → IsSome (driver_of d) → number ≡ nobody
    → is_owner d number ≡ false
nobody_owns d number there e =
    ap (λ (n : List ℕ). bytes_eq d.number n) e
    ∙ is_nobody (bytes_eq d.number nobody)
    (number_there (is_number d.number) (option_and_then (possible d.is_binding) (stage_of d)) there)

-- a driver of the same number comes back at another stage
pub moved : (o n : OsbPlatformDriver) (before : PlatformDriver) (stage : PlatformStage) → n.number ≡ o.number
    → n.is_binding ≡ o.is_binding → stage_of n ≡ Some stage → driver_of o ≡ Some before
    → can_be before.is_binding stage ≡ true → driver_of n ≡ Some (at before stage)
moved o n before stage number binding is was can =
    ap (λ (x : List ℕ). if is_number x then option_and_then (possible n.is_binding) (stage_of n) else None) number
    ∙ ap (λ (b : Bool). if b then option_and_then (possible n.is_binding) (stage_of n) else None)
    (crossed_number (is_number o.number) o.is_binding (stage_of o) before was)
    ∙ ap (λ (b : Bool). option_and_then (possible b) (stage_of n)) binding
    ∙ ap (λ (s : Option PlatformStage). option_and_then (possible o.is_binding) s) is
    ∙ ap (λ (b : Bool). possible b stage)
    (sym (crossed_binding (is_number o.number) o.is_binding (stage_of o) before was))
    ∙ ap (λ (b : Bool). if b then Some (at before stage) else None) can

-- the same of one that is as it should be
pub moved_as : (o n : OsbPlatformDriver) (before after wanted : PlatformDriver)
    → ((d : PlatformDriver) → driver_of o ≡ Some d → can_be d.is_binding after.stage ≡ true
    → driver_of n ≡ Some (at d after.stage))
    → Some before ≡ driver_of o → after ≡ wanted → wanted.is_binding ≡ before.is_binding
    → can_be before.is_binding wanted.stage ≡ true → driver_of n ≡ Some wanted
moved_as o n before after wanted moves was is same can =
    moves before (sym was) (ap (λ (d : PlatformDriver). can_be before.is_binding d.stage) is ∙ can)
    ∙ ap (λ (d : PlatformDriver). Some (at before d.stage)) is
    ∙ ap (λ (b : Bool). Some (at (record { is_binding = b; stage = wanted.stage }) wanted.stage)) (sym same)
