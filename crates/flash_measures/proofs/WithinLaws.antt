-- A user block lies inside the image that the measures are of. Assumes nothing.
use Prim.Native.Nat.{ℕ, ◌+◌, ◌*◌, ◌≤◌, ◌<◌}
use mathlib.Core.List.{List}
use native.Mathlib.Omega.{arith}
use lib.ListN.{length}
use Rattle.flash_model.specs.Measures.{first_bitmap, capacity}
use Rattle.flash_model.proofs.MeasureLaws.{Measured, measures-of}
use Rattle.flash_measures.specs.HasMeasures.{HasMeasures}

pub measures-known : {image : List ℕ} {size : ℕ} → HasMeasures image size → Measured size
measures-known {image} {size} h = measures-of size h.is_legal

pub record Within (image : List ℕ) (size k : ℕ) : Type 0 where
  pub before_bitmap_lem : k < first_bitmap size
  pub inside : k * 64 + 64 ≤ length image
  pub small : k < 65536

pub is_within : {image : List ℕ} {size : ℕ} (k : ℕ) → HasMeasures image size → k ≤ capacity size → Within image size k
is_within k o h =
    let m = measures-known o in
    record {
      before_bitmap_lem = omega (arith, m.first_bitmap_lem);
      inside = omega (arith, o.has_size, m.whole);
      small = omega (arith, m.two_bytes);
    }
