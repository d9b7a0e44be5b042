-- A platform's row that crossed is one that a platform gives exactly where it is sound.
use Rattle.std.proofs.Common.{◌≡◌, true, refl, arith}
use Rattle.osb_platform.specs.PlatformRow.{IsSoundRow}
use Rattle.osb_platform.specs.declared.row.PlatformRow.{PlatformRow}
use Rattle.osb_instance.specs.RecordText.{can_be}
use Rattle.osb_instance.proofs.RecordBack.{can_be_sound, sound_can_be}

-- a row is sound where it is that of a record whose latest request is its first
pub first_is_sound : (row : PlatformRow) → can_be (record { row = row; attempt = 1 }) ≡ true → IsSoundRow row
first_is_sound row h = (can_be_sound (record { row = row; attempt = 1 }) h).row

pub sound_is_first : (row : PlatformRow) → IsSoundRow row → can_be (record { row = row; attempt = 1 }) ≡ true
sound_is_first row h =
    sound_can_be (record { row = row; attempt = 1 })
    (record { row = h; counted = λ _. omega arith; first = λ _. refl })
