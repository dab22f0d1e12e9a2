-- What the calls' results are as the numbers, values and buffers of the papers.
-- Assumes nothing.
use Rattle.std.specs.Prelude.{ℕ, List, [], ◌∷◌}
use Rattle.std.specs.declared.result.Result.{Result}
use Rattle.std.specs.declared.result.Result.TheVariants.{Ok, Err}
use Rattle.flash_model.specs.declared.FlashError.{FlashError}
use Rattle.flash_model.specs.declared.FlashError.TheVariants.{ImageLength, Magic, PartitionNumber, Version, Sequence, LogicalNumber, NothingThere, BufferLength, Changed, NoFreeSlot, SlotHeader, NoSlot, NoDataBlock}
use Rattle.flash_model.specs.Calls.{Reply, code_answer}

-- The number of each row: document 01's "Numbers the bench will see", and document 02's order 4.
abbrev pub error_number : FlashError → ℕ
error_number ImageLength = 1
error_number Magic = 2
error_number PartitionNumber = 3
error_number Version = 4
error_number Sequence = 5
error_number LogicalNumber = 6
error_number NothingThere = 7
error_number BufferLength = 8
error_number Changed = 9
error_number NoFreeSlot = 40
error_number SlotHeader = 41
error_number NoSlot = 42
error_number NoDataBlock = 43

-- 0 where a call is done, whatever value it gives, else the refusal's number.
abbrev pub result_code : {A : Type 0} → Result A FlashError → ℕ
result_code (Ok x) = 0
result_code (Err e) = error_number e

-- A result that is a number or a refusal, with these buffers.
abbrev pub number_answer : Result ℕ FlashError → List (List ℕ) → Reply
number_answer (Ok n) lent = record { code = 0; values = n ∷ []; buffers = lent }
number_answer (Err e) lent = code_answer (error_number e) lent
