-- A block read from the part of an image that it is. Assumes nothing.
use Prim.Native.Nat.{ℕ, ◌+◌, ◌*◌, ◌-◌}
use mathlib.Core.Path.{◌≡◌, refl, ap₂}
use mathlib.Core.List.{List}
use native.Mathlib.Omega.{arith}
use lib.Dec.{eqb}
use lib.ListN.{take, drop}
use Rattle.words.specs.Words.{word}
use Rattle.checksum.specs.Crc.{checksum_of}
use Rattle.flash_model.specs.UserBlock.{number, right_checksum}
use Rattle.flash_model.specs.Partition.{block_at}

pub number_is : (part : List ℕ) → number part ≡ word part 0
unfolding number
number_is part = refl

pub right_is : (part : List ℕ) (a b : ℕ) → a ≡ word part 62 → b ≡ checksum_of (take 62 part) → eqb a b ≡ right_checksum part
unfolding right_checksum
right_is part a b e f = ap₂ eqb e f

-- the 64 bytes from where block k begins are block k
pub block-part : (image : List ℕ) (at k : ℕ) → at ≡ k * 64 → take (at + 64 - at) (drop at image) ≡ block_at image k
unfolding block_at
block-part image at k e =
    let width : at + 64 - at ≡ 64 = omega arith in
    ap₂ (λ (n i : ℕ). take n (drop i image)) width e
