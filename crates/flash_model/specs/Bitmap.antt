-- The bitmap, from its own bytes: document 01, "Partition measures", the paragraph "Bitmap". Blocks are user blocks,
-- numbered from 1. The bits past the last user block are ignored, since nobody asks for them.
-- Assumes nothing.
use Rattle.std.specs.Prelude.{ℕ, zero, suc, ◌-◌, ◌/◌, ◌%◌, ◌^◌, Bool, true, false, not, cond, List, [], ◌∷◌, map, eqb, get_or, set}
use Rattle.std.specs.Prelude.{Option}
use Rattle.words.specs.Lists.{any_of, numbers_from}
use Rattle.words.specs.Search.{lowest}

-- The byte that has block k's bit, the bit's place in it from the low end, and its weight: "the 128-bit of the first byte
-- standing for physical block 1".
unfoldable pub bit_byte : ℕ → ℕ
bit_byte k = (k - 1) / 8

unfoldable pub bit_place : ℕ → ℕ
bit_place k = 7 - (k - 1) % 8

unfoldable pub bit_weight : ℕ → ℕ
bit_weight k = 2 ^ bit_place k

unfoldable pub bit_of : List ℕ → ℕ → ℕ
bit_of bits k = get_or bits (bit_byte k) 0 / bit_weight k % 2

-- "A 1 is free, a 0 allocated."
unfoldable pub allocated_in : List ℕ → ℕ → Bool
allocated_in bits k = eqb (bit_of bits k) 0

-- "no user block is allocated while a lower one is free": that this is broken, of the blocks' states in rising order,
-- each true for allocated.
abbrev pub allocated_after_free : List Bool → Bool
allocated_after_free [] = false
allocated_after_free (true ∷ states) = allocated_after_free states
allocated_after_free (false ∷ states) = any_of (λ state. state) states

-- It is broken among the first n blocks.
unfoldable pub out_of_sequence : List ℕ → ℕ → Bool
out_of_sequence bits n = allocated_after_free (map (allocated_in bits) (numbers_from 1 n))

-- The lowest free one of the first n blocks.
unfoldable pub lowest_free_in : List ℕ → ℕ → Option ℕ
lowest_free_in bits n = lowest (λ k. not (allocated_in bits k)) 1 n

-- Block k's bit is cleared, if it is 1.
unfoldable pub cleared : List ℕ → ℕ → List ℕ
cleared bits k =
    let byte = get_or bits (bit_byte k) 0 in
    set bits (bit_byte k) (cond (allocated_in bits k) byte (byte - bit_weight k))

-- The bits of the blocks 1 to n are cleared.
unfoldable pub first_cleared : List ℕ → ℕ → List ℕ
first_cleared bits zero = bits
first_cleared bits (suc n) = cleared (first_cleared bits n) (suc n)
