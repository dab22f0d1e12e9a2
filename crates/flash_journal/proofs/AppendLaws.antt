-- A block written, then its bit cleared. Assumes nothing.
use Prim.Native.Nat.{ℕ, ◌≤◌}
use mathlib.Core.Path.{◌≡◌, ap, ◌∙◌}
use mathlib.Core.Bool.{false}
use mathlib.Core.List.{List}
use native.Mathlib.Omega.{arith}
use lib.ListN.{length}
use Rattle.flash_model.specs.Measures.{legal_size, capacity}
use Rattle.flash_model.specs.Bitmap.{allocated_in}
use Rattle.flash_model.specs.Partition.{bitmap_of, allocated}
use Rattle.flash_model.specs.Update.{bit_cleared, with_block, appended}
use Rattle.flash_model.proofs.MeasureLaws.{measures-of}
use Rattle.flash_model.proofs.AppendLaws.{written-bitmap}
use Rattle.flash_measures.specs.HasMeasures.{HasMeasures}

module _ {written : List ℕ} (image new : List ℕ) (k : ℕ) (e : written ≡ with_block image k new) where
  -- what is written before the bitmap leaves the block free
  pub still-free : {size : ℕ} → HasMeasures image size → 1 ≤ k → k ≤ capacity size → length new ≡ 64 → allocated image k ≡ false → allocated written k ≡ false
  unfolding allocated
  still-free o lo hi l free =
      let m = measures-of (length image) (ap legal_size o.has_size ∙ o.is_legal) in
      ap (λ (bits : List ℕ). allocated_in bits k) (ap bitmap_of e ∙ written-bitmap image new k m lo (omega (arith, hi, ap capacity o.has_size)) l) ∙ free

  pub then-cleared : {next : List ℕ} → next ≡ bit_cleared written k → next ≡ appended image k new
  unfolding appended
  then-cleared f = f ∙ ap (λ (l : List ℕ). bit_cleared l k) e
