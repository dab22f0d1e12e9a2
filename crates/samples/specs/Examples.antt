-- Worked examples on an image of eight blocks, too short for refusal 1 but not for the rest: M is 7, the capacity 6 and the
-- top number 5. They hold by computation, so that a slip in a definition shows as another value.
-- Assumes nothing.
use Rattle.std.specs.Prelude.{ℕ, ◌≡◌, refl, List, [], ◌∷◌, ◌++◌, map, replicate, set}
use Rattle.words.specs.Lists.{concat, to_list}
use Rattle.words.specs.Words.{word, word_bytes}
use Rattle.checksum.specs.Crc.{shift, shifts, take_byte, crc_from, checksum_of}
use Rattle.flash_model.specs.Measures.{blocks, bitmap_blocks, first_bitmap, capacity, user_blocks, top_number, legal_number, logical_numbers}
use Rattle.flash_model.specs.Bitmap.{bit_byte, bit_place, bit_weight, bit_of, allocated_in, lowest_free_in, cleared, first_cleared}
use Rattle.flash_model.specs.UserBlock.{number, payload, right_checksum, new_block}
use Rattle.flash_model.specs.Partition.{block_at, bitmap_of, allocated, lowest_free, holds, holder, contents, live, used, lowest_live}
use Rattle.flash_model.specs.Update.{before_bitmap, bit_cleared, bits_cleared, append_block, with_block, appended, is_holder, holders, other_holders, rewritten, compacted, page_written, saved, erased}

-- A user block of this number whose page is one byte throughout, a blank one, and an image of six such blocks behind a header
-- block of 07, with this first bitmap byte.
unfoldable pub block_of : ℕ → ℕ → List ℕ
block_of n byte = new_block n (replicate 60 byte)

unfoldable pub blank : List ℕ
blank = replicate 64 255

unfoldable pub image_of : List (List ℕ) → ℕ → List ℕ
image_of bs byte = replicate 64 7 ++ concat bs ++ byte ∷ replicate 63 255

-- The top number, two copies of number 0 with a damaged third above them, one above the top, and a blank block that is free.
unfoldable pub worn : List ℕ
worn = image_of (block_of 5 9 ∷ block_of 0 1 ∷ block_of 0 2 ∷ set (block_of 0 3) 20 4 ∷ block_of 6 8 ∷ blank ∷ []) 0x07

-- `worn` with its last block filled: by any block, and by a new page of number 0.
unfoldable pub worn_with : List ℕ → List ℕ
worn_with last = image_of (block_of 5 9 ∷ block_of 0 1 ∷ block_of 0 2 ∷ set (block_of 0 3) 20 4 ∷ block_of 6 8 ∷ last ∷ []) 0x03

unfoldable pub filled : List ℕ
filled = worn_with (block_of 0 77)

-- The lowest free block has one byte that isn't FF.
unfoldable pub spoiled : List ℕ
spoiled = image_of (block_of 1 1 ∷ set blank 63 254 ∷ blank ∷ blank ∷ blank ∷ blank ∷ []) 0x7F

pub record Example : Type 0 where
  pub defined : List ℕ
  pub worked : List ℕ

abbrev pub example_of : List ℕ → List ℕ → Example
example_of d w = record { defined = d; worked = w }

unfoldable pub all_examples : List Example
all_examples =
    -- the highest copy with a right checksum; nothing above the top number
    example_of (concat (to_list (contents worn 0))) (replicate 60 2)
    ∷ example_of (concat (to_list (contents worn 5))) (replicate 60 9)
    ∷ example_of (concat (to_list (contents worn 6))) []
    ∷ example_of (used worn ∷ live worn ∷ to_list (lowest_live worn 1)) (5 ∷ 2 ∷ 5 ∷ [])
    -- an append; then a compaction, since no block is free; an erase
    ∷ example_of (saved worn 0 (replicate 60 77)) filled
    ∷ example_of (saved filled 0 (replicate 60 78)) (image_of (block_of 5 9 ∷ block_of 0 78 ∷ blank ∷ blank ∷ blank ∷ blank ∷ []) 0x3F)
    ∷ example_of (erased worn) (image_of (block_of 5 9 ∷ block_of 0 2 ∷ blank ∷ blank ∷ blank ∷ blank ∷ []) 0x3F)
    -- a compaction, since the lowest free block is spoiled
    ∷ example_of (saved spoiled 2 (replicate 60 5)) (image_of (block_of 1 1 ∷ block_of 2 5 ∷ blank ∷ blank ∷ blank ∷ blank ∷ []) 0x3F)
    -- idle saves, where else there were an append or a compaction
    ∷ example_of (saved worn 0 (replicate 60 2)) worn
    ∷ example_of (saved filled 5 (replicate 60 9)) filled
    ∷ example_of (saved spoiled 1 (replicate 60 1)) spoiled
    -- not idle: the page but for its last byte; that of an old copy; zeros and FF where nothing is
    ∷ example_of (saved worn 0 (set (replicate 60 2) 59 3)) (worn_with (new_block 0 (set (replicate 60 2) 59 3)))
    ∷ example_of (saved worn 0 (replicate 60 1)) (worn_with (block_of 0 1))
    ∷ example_of (saved worn 3 (replicate 60 0)) (worn_with (block_of 3 0))
    ∷ example_of (saved worn 3 (replicate 60 255)) (worn_with (block_of 3 255))
    ∷ []

pub examples-hold : map (λ (e : Example). e.defined) all_examples ≡ map (λ (e : Example). e.worked) all_examples
unfolding all_examples block_of blank image_of worn worn_with filled spoiled word word_bytes shift shifts take_byte crc_from checksum_of blocks bitmap_blocks first_bitmap capacity user_blocks top_number legal_number logical_numbers bit_byte bit_place bit_weight bit_of allocated_in lowest_free_in cleared first_cleared number payload right_checksum new_block block_at bitmap_of allocated lowest_free holds holder contents live used lowest_live before_bitmap bit_cleared bits_cleared append_block with_block appended is_holder holders other_holders rewritten compacted page_written saved erased
examples-hold = refl
