-- What is searched for in a bitmap. Assumes nothing.
use Rattle.std.specs.Prelude.{ℕ, ◌-◌, ◌/◌, ◌%◌, Bool, not, List, eqb, length}
use Rattle.std.specs.Prelude.{Option}
use Rattle.words.specs.Search.{lowest}
use Rattle.flash_model.specs.Measures.{first_bitmap}
use Rattle.flash_model.specs.Bitmap.{bit_weight, bit_of}
use Rattle.flash_model.specs.Partition.{bitmap_of, allocated}

-- The lowest allocated user block from `from` on.
unfoldable pub lowest_allocated : List ℕ → ℕ → Option ℕ
lowest_allocated image from = lowest (allocated image) from (first_bitmap (length image) - from)

-- User block k's bit differs from the one that `byte` has at its place: of 0 a free block's does, of FF an allocated one's.
unfoldable pub differs : List ℕ → ℕ → ℕ → Bool
differs image byte k = not (eqb (bit_of (bitmap_of image) k) (byte / bit_weight k % 2))

-- The lowest such user block from `from` on.
unfoldable pub lowest_differing : List ℕ → ℕ → ℕ → Option ℕ
lowest_differing image byte from = lowest (differs image byte) from (first_bitmap (length image) - from)
