-- The rules of slots are about something: partitions with no valid slot, with one and with all hundred, with any product numbers,
-- on which a claim writes two blocks or one, is refused 40, or finds its own.
-- Assumes nothing.
use Rattle.std.specs.Prelude.{ℕ, ◌≤◌, ◌≡◌, List, ◌∷◌, ◌++◌, ◌≢◌, length, take, drop, replicate}
use Rattle.std.specs.Prelude.{None}
use Rattle.flash_model.specs.Partition.{contents}
use Rattle.flash_model.specs.Calls.{code_of, after}
use Rattle.flash_model.specs.Calls.{WholeCall.slot_find, CompoundCall.claim, Call.on_whole, Call.on_pages}
use Rattle.flash_model.specs.Demands.{LowestFreeBlank, Bytes, Witness}
use Rattle.flash_model.specs.SlotDemands.{MakesValid, HeaderIs, IsSlot, ProductAt, ClaimWritten}

-- Two header blocks that make a slot valid, with this product number.
pub record HeaderFor (product one other : List ℕ) : Type 0 where
  pub one_bytes : Bytes one
  pub other_bytes : Bytes other
  pub one_length : length one ≡ 60
  pub other_length : length other ≡ 60
  pub makes_valid : MakesValid (one ++ other)
  pub product_is : take 10 (drop 2 (one ++ other)) ≡ product

-- No number has contents, so no slot is valid. A claim writes slot 0, whose data blocks are missing then.
pub record BlankPartition (image one other : List ℕ) : Type 0 where
  pub is_partition : Witness 32768 3 image
  pub none_live : (n : ℕ) → contents image n ≡ None
  pub none_valid : (k : ℕ) → IsSlot image k → ⊥
  pub is_claimed : code_of image (on_pages (claim 3 one other)) ≡ 0
  pub is_written : ClaimWritten image one other (after image (on_pages (claim 3 one other))) 0

-- One slot of the hundred is valid. Its product is found; a claim of another product writes a slot, for which it must compact.
pub record OneSlot (image : List ℕ) (slot : ℕ) (product one other new_one new_other : List ℕ) : Type 0 where
  pub is_partition : Witness 32768 3 image
  pub is_valid : HeaderIs image slot (one ++ other)
  pub no_other : (k : ℕ) → IsSlot image k → k ≡ slot
  pub is_found : code_of image (on_whole (slot_find 3 product)) ≡ 0
  pub is_claimed : code_of image (on_pages (claim 3 new_one new_other)) ≡ 0
  pub must_compact : (k : ℕ) → LowestFreeBlank image k → ⊥
  pub written : ℕ
  pub is_written : ClaimWritten image new_one new_other (after image (on_pages (claim 3 new_one new_other))) written

-- No slot is valid, and the second header block stands at slot 0 already. A claim there writes the first; its second save is idle.
pub record SecondThere (image one other : List ℕ) : Type 0 where
  pub is_partition : Witness 32768 3 image
  pub is_written : ClaimWritten image one other (after image (on_pages (claim 3 one other))) 0
  pub first_writes : is_written.between ≢ image
  pub second_idles : after image (on_pages (claim 3 one other)) ≡ is_written.between

-- All hundred are valid, each with a header of its own. Each product is found and may be claimed again; a claim of another is
-- refused 40.
pub record AllSlots (image : List ℕ) (product one other : ℕ → List ℕ) (new_one new_other : List ℕ) : Type 0 where
  pub is_partition : Witness 32768 3 image
  pub all_valid : (slot : ℕ) → slot ≤ 99 → HeaderIs image slot (one slot ++ other slot)
  pub all_found : (slot : ℕ) → slot ≤ 99 → code_of image (on_whole (slot_find 3 (product slot))) ≡ 0
  pub own_claimed : (slot : ℕ) → slot ≤ 99 → code_of image (on_pages (claim 3 (one slot) (other slot))) ≡ 0
  pub new_refused : code_of image (on_pages (claim 3 new_one new_other)) ≡ 40

pub record SlotsNotVacuous : Type 0 where
  pub headers : (product : List ℕ) → length product ≡ 10 → Bytes product → (one : List ℕ) × (other : List ℕ) × HeaderFor product one other
  pub zero_slots : (product one other : List ℕ) → HeaderFor product one other → (image : List ℕ) × BlankPartition image one other
  pub half_idle : (product one other : List ℕ) → HeaderFor product one other → (image : List ℕ) × SecondThere image one other
  pub one_slot : (slot : ℕ) (product one other new new_one new_other : List ℕ) → slot ≤ 99 → HeaderFor product one other
      → HeaderFor new new_one new_other → product ≢ new
      → (image : List ℕ) × OneSlot image slot product one other new_one new_other
  -- the product numbers may be the same or different
  pub all_slots : (product one other : ℕ → List ℕ) (new new_one new_other : List ℕ) → ((slot : ℕ) → slot ≤ 99 → HeaderFor (product slot) (one slot) (other slot))
      → HeaderFor new new_one new_other → ((slot : ℕ) → slot ≤ 99 → product slot ≢ new)
      → (image : List ℕ) × AllSlots image product one other new_one new_other
  -- a hundred different ones, by their first byte
  pub different : (image : List ℕ) × Witness 32768 3 image × ((slot : ℕ) → slot ≤ 99 → ProductAt image slot (slot ∷ replicate 9 0))
