-- What an image says at the place of a user block's bit. Assumes nothing.
use Prim.Native.Nat.{ℕ, ◌+◌, ◌*◌, ◌/◌, ◌≤◌, ◌<◌}
use mathlib.Core.Path.{◌≡◌, sym, ap, ◌∙◌}
use mathlib.Core.List.{List}
use native.Mathlib.Omega.{arith}
use lib.ListN.{length, get_or}
use Rattle.flash_model.specs.Measures.{first_bitmap, capacity}
use Rattle.flash_model.specs.Bitmap.{bit_byte, bit_place}
use Rattle.flash_model.specs.Partition.{bitmap_of}
use Rattle.flash_model.proofs.MeasureLaws.{Measured}
use Rattle.flash_model.proofs.ImageLaws.{bitmap-byte}
use Rattle.flash_measures.specs.HasMeasures.{HasMeasures}
use Rattle.flash_measures.proofs.WithinLaws.{measures-known}

pub byte_inside : (size k : ℕ) → Measured size → 1 ≤ k → k ≤ capacity size → first_bitmap size * 64 + bit_byte k < size
unfolding bit_byte
byte_inside size k m lo hi = omega (arith, m.whole, m.first_bitmap_lem, m.bits_enough)

-- the bytes that have a user block's bit
pub bytes_inside : {image : List ℕ} {size : ℕ} → HasMeasures image size → first_bitmap size * 64 + (capacity size + 7) / 8 ≤ length image
bytes_inside o =
    let m = measures-known o in
    omega (arith, o.has_size, m.whole, m.first_bitmap_lem, m.bits_enough)

pub place-low : (k : ℕ) → bit_place k < 8
unfolding bit_place
place-low k = omega arith

module _ {image : List ℕ} {size at : ℕ} (k : ℕ) (o : HasMeasures image size) (a : at ≡ first_bitmap size * 64 + bit_byte k) where
  pub at-inside : 1 ≤ k → k ≤ capacity size → at < length image
  at-inside lo hi = omega (arith, a, o.has_size, byte_inside size k (measures-known o) lo hi)

  pub at-is : first_bitmap (length image) * 64 + bit_byte k ≡ at
  at-is = ap (λ (n : ℕ). first_bitmap n * 64 + bit_byte k) o.has_size ∙ sym a

  pub byte-is : get_or (bitmap_of image) (bit_byte k) 0 ≡ get_or image at 0
  byte-is = bitmap-byte image (bit_byte k) ∙ ap (λ (n : ℕ). get_or image n 0) at-is
