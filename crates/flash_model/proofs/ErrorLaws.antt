-- A result's number among the rows. Assumes nothing.
use Rattle.std.specs.Prelude.{ℕ, ◌≡◌, false, eqb}
use Rattle.std.proofs.Common.{refl}
use Rattle.flash_model.specs.Partition.{first}
use Rattle.flash_model.specs.declared.FlashError.{FlashError}
use Rattle.flash_model.specs.declared.FlashError.TheVariants.{ImageLength, Magic, PartitionNumber, Version, Sequence, LogicalNumber, NothingThere, BufferLength, Changed, NoFreeSlot, SlotHeader, NoSlot, NoDataBlock}
use Rattle.flash_model.specs.Errors.{error_number}

-- A refusal's number is never that of "done".
pub error-refuses : (e : FlashError) → eqb (error_number e) 0 ≡ false
error-refuses ImageLength = refl
error-refuses Magic = refl
error-refuses PartitionNumber = refl
error-refuses Version = refl
error-refuses Sequence = refl
error-refuses LogicalNumber = refl
error-refuses NothingThere = refl
error-refuses BufferLength = refl
error-refuses Changed = refl
error-refuses NoFreeSlot = refl
error-refuses SlotHeader = refl
error-refuses NoSlot = refl
error-refuses NoDataBlock = refl

-- Rows that a result's error tells give its number, and those that were passed leave it to the later ones.
pub error_first : (e : FlashError) (n later : ℕ) → error_number e ≡ n → first n later ≡ error_number e
error_first e n later q = rw (← q, error-refuses e)

pub passed_first : (n later : ℕ) → 0 ≡ n → first n later ≡ later
passed_first n later q = rw (← q)
