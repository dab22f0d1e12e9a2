-- The measures of a partition, from its image's length in bytes: document 01, "Partition measures".
-- Assumes nothing.
use Rattle.std.specs.Prelude.{ℕ, ◌+◌, ◌-◌, ◌/◌, Bool, List, [], ◌∷◌, eqb, leb}
use Rattle.words.specs.Lists.{any_of, numbers_from}

-- Refusal 1: "image length isn't one of the three".
unfoldable pub sizes : List ℕ
sizes = 16384 ∷ 32768 ∷ 65536 ∷ []

unfoldable pub legal_size : ℕ → Bool
legal_size size = any_of (eqb size) sizes

-- "Physical block K is the 64 bytes from K*64."
unfoldable pub blocks : ℕ → ℕ
blocks size = size / 64

-- "The last blocks are the bitmap: partition size / 32768 of them, rounded up."
unfoldable pub bitmap_blocks : ℕ → ℕ
bitmap_blocks size = (size + 32767) / 32768

-- "M is the first bitmap block."
unfoldable pub first_bitmap : ℕ → ℕ
first_bitmap size = blocks size - bitmap_blocks size

-- "User blocks are 1..M-1, so capacity is M-1"
unfoldable pub capacity : ℕ → ℕ
capacity size = first_bitmap size - 1

unfoldable pub user_blocks : ℕ → List ℕ
user_blocks size = numbers_from 1 (capacity size)

-- ".. and logical numbers are 0..M-2."
unfoldable pub top_number : ℕ → ℕ
top_number size = first_bitmap size - 2

unfoldable pub legal_number : ℕ → ℕ → Bool
legal_number size n = leb n (top_number size)

unfoldable pub logical_numbers : ℕ → List ℕ
logical_numbers size = numbers_from 0 (capacity size)
