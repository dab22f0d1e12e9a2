-- Leading zeros of a byte are the place of its highest 1, and so of the lowest block whose bit is 1. Assumes nothing.
use Prim.Native.Nat.{ℕ, ◌+◌, ◌-◌, ◌≤◌, ◌<◌}
use mathlib.Core.Path.{◌≡◌, refl, ap, ◌∙◌}
use mathlib.Core.Bool.{Bool, false, not, ◌||◌}
use Rattle.std.specs.Prelude.{None, Some}
use native.Mathlib.Omega.{arith}
use lib.Count.{count_leading_zeros, leading_of_zero}
use borrow.Author.Tests.{not-false}
use Rattle.words.specs.Lists.{any_of, numbers_from}
use Rattle.words.proofs.Bools.{or-false-left, or-false-right}
use Rattle.words.proofs.JoinLaws.{none-range}
use Rattle.words.proofs.SearchLaws.{lowest-is, lowest-nothing}
use Rattle.flash_bitmap.specs.HighBits.{one_at, HighestOne, LeadingZerosPlace, lowest_in_byte}
use Rattle.flash_bitmap.proofs.HighBitLaws.{zero-none}

-- ---- the test of all bytes, and the rule

abbrev one_there : ℕ → Bool
one_there byte = one_at byte (count_leading_zeros 8 byte)

abbrev one_above : ℕ → Bool
one_above byte = any_of (one_at byte) (numbers_from 0 (count_leading_zeros 8 byte))

all_placed : any_of (λ byte. not (one_there byte) || one_above byte) (numbers_from 1 255) ≡ false
unfolding one_at count_leading_zeros
all_placed = refl

placed : (byte : ℕ) → 0 < byte → byte < 256 → HighestOne byte (count_leading_zeros 8 byte)
placed byte low high =
    let right = none-range (λ b. not (one_there b) || one_above b) 1 255 all_placed byte low (omega arith) in
    record {
      is_one = not-false (one_there byte) (or-false-left (not (one_there byte)) (one_above byte) right);
      none_above = λ j h. none-range (one_at byte) 0 (count_leading_zeros 8 byte) (or-false-right (not (one_there byte)) (one_above byte) right) j (omega arith) (omega arith);
    }

pub leading-zeros-place : LeadingZerosPlace
leading-zeros-place = record { in_zero = (zero-none, leading_of_zero 8); in_others = placed }

-- ---- the lowest block

module _ {byte z : ℕ} (highest : HighestOne byte z) (first end : ℕ) where
  pub lowest-in-byte-at : first + z < end → lowest_in_byte byte first end ≡ Some (first + z)
  unfolding lowest_in_byte
  lowest-in-byte-at h =
      let back : first + z - first ≡ z = omega arith in
      lowest-is (λ k. one_at byte (k - first)) first (end - first) (first + z)
      (record {
        low = omega arith;
        high = omega arith;
        passes = ap (one_at byte) back ∙ highest.is_one;
        none_below = λ j a b. highest.none_above (j - first) (omega arith);
      })

  pub none-before-end : end ≤ first + z → lowest_in_byte byte first end ≡ None
  unfolding lowest_in_byte
  none-before-end h = lowest-nothing (λ k. one_at byte (k - first)) first (end - first) (λ k a b. highest.none_above (k - first) (omega arith))
