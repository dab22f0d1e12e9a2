-- The bits of a byte from its high end, which is the order of the blocks that they stand for: document 01, "leading zeros of a
-- bitmap byte give the first free user block in it". Assumes nothing.
use Rattle.std.specs.Prelude.{ℕ, ◌-◌, ◌*◌, ◌/◌, ◌%◌, ◌^◌, ◌<◌, ◌≡◌, Bool, true, false, eqb}
use Rattle.std.specs.Prelude.{Option}
use Rattle.std.specs.Int.Count.{count_leading_zeros}
use Rattle.words.specs.Search.{lowest}

-- Bit j of a byte from its high end is 1: shifted left by j it is the 128-bit. From j = 8 on no bit is left.
unfoldable pub one_at : ℕ → ℕ → Bool
one_at byte j = eqb (byte * 2 ^ j / 128 % 2) 1

-- Bit z is a byte's highest 1.
pub record HighestOne (byte z : ℕ) : Type 0 where
  pub is_one : one_at byte z ≡ true
  pub none_above : (j : ℕ) → j < z → one_at byte j ≡ false

-- Leading zeros of a byte are the place of its highest 1. A byte of 0 has none, and all its eight bits are leading zeros.
pub record LeadingZerosPlace : Type 0 where
  pub in_zero : ((j : ℕ) → one_at 0 j ≡ false) × (count_leading_zeros 8 0 ≡ 8)
  pub in_others : (byte : ℕ) → 0 < byte → byte < 256 → HighestOne byte (count_leading_zeros 8 byte)

-- The lowest block before `end` whose bit is 1, in a byte that begins with the bit of block `first`.
unfoldable pub lowest_in_byte : ℕ → ℕ → ℕ → Option ℕ
lowest_in_byte byte first end = lowest (λ k. one_at byte (k - first)) first (end - first)
