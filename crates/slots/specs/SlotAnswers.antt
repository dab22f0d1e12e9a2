-- What the slot calls' answers are as the papers' numbers, values and buffers.
-- Assumes nothing.
use Rattle.std.specs.Prelude.{ℕ, cond, List, eqb}
use Rattle.std.specs.Prelude.{Option, None, Some}
use Rattle.flash_model.specs.Partition.{contents}
use Rattle.flash_model.specs.Slots.{data_number}
use Rattle.flash_model.specs.Calls.{slot_read_rows, claim_rows, after_pages, calls_made}
use Rattle.flash_model.specs.Calls.{CompoundCall.claim}
use Rattle.flash_pages.specs.Rows.{or_buffer}
use Rattle.slots.specs.declared.searches.Searched.{Searched}
use Rattle.slots.specs.declared.searches.Searched.TheVariants.{Has, Free, Full}

-- ---- past refusals 1 to 5

-- The slot with the product number, else the lowest that is not valid.
abbrev pub searched_of : Option ℕ → Option ℕ → Searched
searched_of (Some slot) free = Has slot
searched_of None (Some slot) = Free slot
searched_of None None = Full

-- What a read leaves in its buffer: "A refusal changes no byte of any buffer."
unfoldable pub data_buffer : List ℕ → ℕ → ℕ → List ℕ → List ℕ
data_buffer image slot block buffer = cond (eqb (slot_read_rows image slot block buffer) 0) (or_buffer (contents image (data_number slot block)) buffer) buffer

-- The image that a claim leaves.
unfoldable pub claimed_image : List ℕ → List ℕ → List ℕ → List ℕ
claimed_image image one other = cond (eqb (claim_rows image one other) 0) (after_pages image (calls_made image (claim 3 one other))) image
