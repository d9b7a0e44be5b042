-- A row comes back from what is saved of it.
use Rattle.std.proofs.Common.{◌≡◌, Some, refl}
use Rattle.osb_message.specs.IdText.{id_text, id_of_lower}
use Rattle.osb_platform.specs.PlatformRow.{at_rest}
use Rattle.osb_platform.specs.SavedRecord.{row_value, row_named}
use Rattle.osb_platform.specs.State.{state_word, state_named}
use Rattle.osb_platform.specs.declared.row.PlatformRow.{PlatformRow}
use Rattle.osb_platform.specs.declared.state.State.{State}
use Rattle.osb_platform.specs.declared.state.State.TheVariants.{Wanted}

pub word_reads : (s : State) → state_named (state_word s) ≡ Some s
word_reads Wanted = refl
word_reads s = refl

pub row_reads : (row : PlatformRow) → id_of_lower (id_text row.plan) ≡ Some row.plan → id_of_lower (id_text row.service)
    ≡ Some row.service
    → row_named (row_value row) ≡ Some (at_rest row)
unfolding row_named
row_reads row plan service = rw (plan, service, word_reads row.state) refl
