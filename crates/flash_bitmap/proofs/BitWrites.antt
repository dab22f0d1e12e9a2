-- An image with a bitmap bit cleared, as its byte is stored. Assumes nothing.
use Prim.Native.Nat.{ℕ, ◌+◌, ◌*◌, ◌-◌, ◌%◌, ◌^◌, ◌≤◌, ◌<◌}
use mathlib.Core.Path.{◌≡◌, sym, ◌∙◌}
use mathlib.Core.Bool.{false}
use mathlib.Core.List.{List, ◌++◌}
use native.Mathlib.Omega.{arith}
use native.Mathlib.Nat.{mod-eq_of_lt, one-mul}
use lib.ListN.{length, get_or, take, drop, set, take-append-drop}
use lib.Seq.{take-set-le, drop-set-add}
use Rattle.flash_model.specs.Measures.{first_bitmap}
use Rattle.flash_model.specs.Bitmap.{bit_byte, bit_place, bit_weight, bit_of, cleared}
use Rattle.flash_model.specs.Partition.{bitmap_of, allocated}
use Rattle.flash_model.specs.Update.{before_bitmap, bit_cleared}
use Rattle.flash_model.proofs.BitLaws.{bit_le}
use Rattle.flash_model.proofs.BitmapLaws.{free-bit}
use Rattle.flash_measures.specs.HasMeasures.{HasMeasures}
use Rattle.flash_bitmap.proofs.BitReads.{at-is, byte-is}

-- a store behind a front
set-behind : (l : List ℕ) (n i v : ℕ) → take n l ++ set (drop n l) i v ≡ set l (n + i) v
set-behind l n i v =
    sym (sym (take-append-drop n (set l (n + i) v)) ∙ rw (take-set-le n l (n + i) v (omega arith), drop-set-add n l i v))

module _ {image : List ℕ} {size at place : ℕ} (k : ℕ) (o : HasMeasures image size) (a : at ≡ first_bitmap size * 64 + bit_byte k) (p : place ≡ bit_place k)
    (free : allocated image k ≡ false) (byte : get_or image at 0 < 256) where
  weight-le : 2 ^ place ≤ get_or image at 0
  unfolding allocated bit_of bit_weight
  weight-le = bit_le place (get_or image at 0) (rw (← byte-is k o a, p) (free-bit (bitmap_of image) k free))

  weight_is : 1 * 2 ^ place % 256 ≡ 2 ^ place
  weight_is = rw one-mul (mod-eq_of_lt (omega (arith, weight-le)))

  pub bit-fits : 1 * 2 ^ place % 256 ≤ get_or image at 0
  bit-fits = rw weight_is weight-le

  stored : set image at (get_or image at 0 - 2 ^ place) ≡ take (first_bitmap (length image) * 64) image ++ set (bitmap_of image) (bit_byte k) (get_or image at 0 - 2 ^ place)
  unfolding bitmap_of
  stored = sym (set-behind image (first_bitmap (length image) * 64) (bit_byte k) (get_or image at 0 - 2 ^ place) ∙ rw (at-is k o a))

  pub now-clear : set image at (get_or image at 0 - 1 * 2 ^ place % 256) ≡ bit_cleared image k
  unfolding allocated bit_cleared cleared before_bitmap bit_weight
  now-clear = rw (weight_is, free, byte-is k o a, ← p) stored
