-- What an image means as a partition: document 01, "Partition measures", from the header on, and refusals 1 to 5 of
-- "Numbers the bench will see". An image is the list of its bytes.
-- Assumes nothing.
use Rattle.std.specs.Prelude.{ℕ, ◌*◌, ◌≡◌, Bool, not, cond, ◌&&◌, List, [], ◌∷◌, eqb, ltb, leb, length, get_or, take, drop}
use Rattle.std.specs.Prelude.{Option, None, option_map}
use Rattle.words.specs.Lists.{keep, is_some}
use Rattle.words.specs.Search.{highest, lowest}
use Rattle.words.specs.Words.{same_bytes}
use Rattle.flash_model.specs.Measures.{legal_size, first_bitmap, capacity, user_blocks, legal_number, logical_numbers}
use Rattle.flash_model.specs.Bitmap.{allocated_in, out_of_sequence, lowest_free_in}
use Rattle.flash_model.specs.UserBlock.{payload, is_copy}

-- "Physical block K is the 64 bytes from K*64."
unfoldable pub block_at : List ℕ → ℕ → List ℕ
block_at image k = take 64 (drop (k * 64) image)

-- "Header: the 16 bytes `KATANA_FLASH____`, then partition number, then version". The magic is document 01's header letters.
unfoldable pub magic : List ℕ
magic = 0x4B ∷ 0x41 ∷ 0x54 ∷ 0x41 ∷ 0x4E ∷ 0x41 ∷ 0x5F ∷ 0x46 ∷ 0x4C ∷ 0x41 ∷ 0x53 ∷ 0x48 ∷ 0x5F ∷ 0x5F ∷ 0x5F ∷ 0x5F ∷ []

unfoldable pub header_number : List ℕ → ℕ
header_number image = get_or image 16 0

unfoldable pub version : List ℕ → ℕ
version image = get_or image 17 0

-- "The last blocks are the bitmap", from M on.
unfoldable pub bitmap_of : List ℕ → List ℕ
bitmap_of image = drop (first_bitmap (length image) * 64) image

unfoldable pub allocated : List ℕ → ℕ → Bool
allocated image k = allocated_in (bitmap_of image) k

unfoldable pub lowest_free : List ℕ → Option ℕ
lowest_free image = lowest_free_in (bitmap_of image) (capacity (length image))

-- ---- refusals

-- A row of the table of numbers: the number is given exactly when its test holds; else the later rows decide.
abbrev pub row : ℕ → Bool → ℕ → ℕ
row refused test later = cond test refused later

-- The first of two numbers that is a refusal.
abbrev pub first : ℕ → ℕ → ℕ
first earlier later = cond (eqb earlier 0) later earlier

-- 1: "image length isn't one of the three"
unfoldable pub length_row : List ℕ → ℕ
length_row image = row 1 (not (legal_size (length image))) 0

-- 2: "the 16 header letters are wrong"; 3: "header number differs from the one named"; 4: "version above 1"
unfoldable pub header_rows : List ℕ → ℕ → ℕ
header_rows image partition =
    row 2 (not (same_bytes (take 16 image) magic))
    (row 3 (not (eqb (header_number image) partition))
    (row 4 (ltb 1 (version image)) 0))

-- 5: "an allocated user block follows a free one"
unfoldable pub sequence_row : List ℕ → ℕ
sequence_row image = row 5 (out_of_sequence (bitmap_of image) (capacity (length image))) 0

-- The rows 1 to 5, for a call that names this partition number; 0 where none applies.
unfoldable pub refusal : List ℕ → ℕ → ℕ
refusal image partition = first (length_row image) (first (header_rows image partition) (sequence_row image))

-- "sound", with 3 judged by the number in the image's own header.
abbrev pub Sound : List ℕ → Type 0
Sound image = refusal image (header_number image) ≡ 0

-- ---- contents

-- Block k has "that number and a right checksum", allocated or not.
abbrev pub copy_at : List ℕ → ℕ → ℕ → Bool
copy_at image n k = is_copy n (block_at image k)

-- User block k is an "allocated user block with that number and a right checksum".
unfoldable pub holds : List ℕ → ℕ → ℕ → Bool
holds image n k = allocated image k && copy_at image n k

-- The highest such block. Blocks with "a number above M-2 count for nothing".
unfoldable pub holder : List ℕ → ℕ → Option ℕ
holder image n = cond (legal_number (length image) n) (highest (holds image n) (capacity (length image))) None

-- "The contents of a logical number are the payload of" that block, "or nothing".
unfoldable pub contents : List ℕ → ℕ → Option (List ℕ)
contents image n = option_map (λ k. payload (block_at image k)) (holder image n)

-- "Live is how many numbers have contents"
unfoldable pub live : List ℕ → ℕ
live image = length (keep (λ n. is_some (contents image n)) (logical_numbers (length image)))

-- "used is how many user blocks are allocated."
unfoldable pub used : List ℕ → ℕ
used image = length (keep (allocated image) (user_blocks (length image)))

-- "Next-live gives the lowest live number not below the one asked."
unfoldable pub lowest_live : List ℕ → ℕ → Option ℕ
lowest_live image start = lowest (λ n. leb start n && is_some (contents image n)) 0 (capacity (length image))
