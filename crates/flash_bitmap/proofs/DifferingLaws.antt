-- The search for a bit that differs from those of a byte: inside one byte of the bitmap, and by a run of its bytes.
-- Assumes nothing.
use Prim.Native.Nat.{ℕ, ◌+◌, ◌*◌, ◌-◌, ◌/◌, ◌%◌, ◌^◌, ◌≤◌, ◌<◌}
use mathlib.Core.Path.{◌≡◌, sym, ap, ◌∙◌}
use mathlib.Core.Bool.{Bool, true, true≢false}
use mathlib.Core.List.{List}
use Rattle.std.specs.Prelude.{None}
use native.Mathlib.Omega.{arith}
use native.Mathlib.Decide.{dec_le}
use native.Mathlib.Nat.{mod-lt, zero-lt-suc}
use lib.Bits.{bit_xor}
use lib.Count.{count_leading_zeros}
use lib.ListN.{length, get_or}
use Rattle.words.specs.Search.{lowest}
use Rattle.words.proofs.LoopLaws.{lowest-end}
use Rattle.flash_model.specs.Measures.{first_bitmap, capacity}
use Rattle.flash_model.specs.Bitmap.{bit_byte, lowest_free_in}
use Rattle.flash_model.specs.Partition.{bitmap_of, allocated, lowest_free}
use Rattle.flash_model.proofs.ImageLaws.{bitmap-byte}
use Rattle.flash_measures.specs.HasMeasures.{HasMeasures}
use Rattle.flash_measures.proofs.WithinLaws.{measures-known}
use Rattle.flash_bitmap.specs.Found.{differs, lowest_differing, lowest_allocated}
use Rattle.flash_bitmap.specs.HighBits.{one_at, lowest_in_byte}
use Rattle.flash_bitmap.specs.EqualRun.{EqualRun}
use Rattle.flash_bitmap.proofs.BitReads.{byte-is}
use Rattle.flash_bitmap.proofs.HighBitLaws.{shifted_one, past-eight, zero-none, differs-one, alike-passed, differs-from-zero, differs-from-ones}
use Rattle.flash_bitmap.proofs.LeadingLaws.{leading-zeros-place}
use Rattle.flash_bitmap.proofs.PassLaws.{lowest-pass, lowest-until}

-- ---- a free block's bit differs from those of 0, an allocated one's from those of FF

pub differing-is-free : (image : List ℕ) → lowest_differing image 0 1 ≡ lowest_free image
unfolding lowest_differing lowest_free lowest_free_in allocated capacity
differing-is-free image = ap (λ (p : ℕ → Bool). lowest p 1 (first_bitmap (length image) - 1)) (λ i k. differs-from-zero image k i)

differing-is-allocated : (image : List ℕ) (from : ℕ) → lowest_differing image 255 from ≡ lowest_allocated image from
unfolding lowest_differing lowest_allocated
differing-is-allocated image from = ap (λ (p : ℕ → Bool). lowest p from (first_bitmap (length image) - from)) (λ i k. differs-from-ones image k i)

-- ---- inside a byte: that of `from`, whose bits from `from` on, where they differ, are the first of `rest`

module _ (image : List ℕ) (byte from rest : ℕ)
    (are : (j : ℕ) → one_at rest j ≡ one_at (bit_xor (get_or (bitmap_of image) (bit_byte from) 0) byte) ((from - 1) % 8 + j)) (one : 1 ≤ from) where
  agrees : (k : ℕ) → from ≤ k → (from - 1) % 8 + (k - from) < 8 → differs image byte k ≡ one_at rest (k - from)
  unfolding bit_byte
  agrees k a b =
      let q : (k - 1) / 8 ≡ (from - 1) / 8 = omega arith in
      let r : (k - 1) % 8 ≡ (from - 1) % 8 + (k - from) = omega arith in
      differs-one image byte k ∙ rw (q, r) (sym (are (k - from)))

  differing-in-byte : 0 < rest → rest < 256 → lowest_differing image byte from ≡ lowest_in_byte rest from (first_bitmap (length image))
  unfolding lowest_differing lowest_in_byte
  differing-in-byte low high =
      let back : from + z - from ≡ z = omega arith in
      lowest-until (differs image byte) (λ k. one_at rest (k - from)) (from + z) from (first_bitmap (length image) - from) (omega arith) (ap (one_at rest) back ∙ there)
      (λ k a b. agrees k a (omega (arith, inside (dec_le 8 ((from - 1) % 8 + z)))))
    where
      z : ℕ
      z = count_leading_zeros 8 rest

      there : one_at rest z ≡ true
      there = (leading-zeros-place.in_others rest low high).is_one

      inside : Dec (8 ≤ (from - 1) % 8 + z) → (from - 1) % 8 + z < 8
      inside (yes h) = absurd (true≢false (sym there ∙ are z ∙ past-eight _ ((from - 1) % 8 + z) h))
      inside (no h) = omega (arith, h)

  none-in-byte : rest ≡ 0 → lowest_differing image byte from ≡ lowest_differing image byte (((from - 1) / 8 + 1) * 8 + 1)
  unfolding lowest_differing
  none-in-byte z =
      lowest-pass (differs image byte) (first_bitmap (length image)) from (((from - 1) / 8 + 1) * 8 + 1) (omega arith)
      (λ k a b. agrees k a (omega arith) ∙ ap (λ (n : ℕ). one_at n (k - from)) z ∙ zero-none (k - from))

-- ---- by a run of the bitmap's bytes, from byte i on

module _ {image : List ℕ} {size end bitmap blocks : ℕ} (o : HasMeasures image size) (e : end ≡ first_bitmap size) (s : bitmap ≡ end * 64) (c : blocks ≡ capacity size)
    (byte i to : ℕ) (run : EqualRun image byte (bitmap + i) (bitmap + (blocks + 7) / 8) to) where
  end_is : first_bitmap (length image) ≡ end
  end_is = ap first_bitmap o.has_size ∙ sym e

  byte_at : (j : ℕ) → get_or (bitmap_of image) j 0 ≡ get_or image (bitmap + j) 0
  byte_at j = bitmap-byte image j ∙ ap (λ (n : ℕ). get_or image (n + j) 0) (ap (λ (n : ℕ). n * 64) end_is ∙ sym s)

  run-passed : lowest_differing image byte (i * 8 + 1) ≡ lowest_differing image byte ((to - bitmap) * 8 + 1)
  unfolding lowest_differing bit_byte
  run-passed =
      lowest-pass (differs image byte) (first_bitmap (length image)) (i * 8 + 1) ((to - bitmap) * 8 + 1) (omega (arith, run.low))
      (λ k a b. alike-passed image byte k (byte_at ((k - 1) / 8) ∙ run.alike (bitmap + (k - 1) / 8) (omega arith) (omega arith)))

  pub run-to-end : to ≡ bitmap + (blocks + 7) / 8 → lowest_differing image byte (i * 8 + 1) ≡ None
  unfolding lowest_differing
  run-to-end t =
      run-passed ∙ lowest-end (differs image byte) ((to - bitmap) * 8 + 1) (first_bitmap (length image)) (omega (arith, end_is, (measures-known o).first_bitmap_lem))

  pub run-to-other : 0 < bit_xor (get_or image to 0) byte → bit_xor (get_or image to 0) byte < 256
      → lowest_differing image byte (i * 8 + 1) ≡ lowest_in_byte (bit_xor (get_or image to 0) byte) ((to - bitmap) * 8 + 1) end
  unfolding bit_byte
  run-to-other low high =
      run-passed ∙ differing-in-byte image byte ((to - bitmap) * 8 + 1) (bit_xor (get_or image to 0) byte) whole (omega arith) low high
      ∙ ap (lowest_in_byte (bit_xor (get_or image to 0) byte) ((to - bitmap) * 8 + 1)) end_is
    where
      back : bitmap + (to - bitmap) ≡ to
      back = omega (arith, run.low)

      place : ((to - bitmap) * 8 + 1 - 1) / 8 ≡ to - bitmap
      place = omega arith

      here : get_or (bitmap_of image) (((to - bitmap) * 8 + 1 - 1) / 8) 0 ≡ get_or image to 0
      here = ap (λ (n : ℕ). get_or (bitmap_of image) n 0) place ∙ byte_at (to - bitmap) ∙ ap (λ (n : ℕ). get_or image n 0) back

      whole : (j : ℕ) → one_at (bit_xor (get_or image to 0) byte) j ≡ one_at (bit_xor (get_or (bitmap_of image) (((to - bitmap) * 8 + 1 - 1) / 8) 0) byte) (((to - bitmap) * 8 + 1 - 1) % 8 + j)
      whole j = let r : ((to - bitmap) * 8 + 1 - 1) % 8 + j ≡ j = omega arith in rw (here, r)

-- ---- the rest of the byte of `from`, shifted left

module _ {image : List ℕ} {size end at : ℕ} (o : HasMeasures image size) (from rest : ℕ) (e : end ≡ first_bitmap size)
    (a : at ≡ first_bitmap size * 64 + bit_byte from) (r : rest ≡ bit_xor (get_or image at 0) 255 * 2 ^ ((from - 1) % 8) % 256) (one : 1 ≤ from) where
  shifted : (j : ℕ) → one_at rest j ≡ one_at (bit_xor (get_or (bitmap_of image) (bit_byte from) 0) 255) ((from - 1) % 8 + j)
  shifted j = rw (r, byte-is from o a) (shifted_one (bit_xor (get_or image at 0) 255) ((from - 1) % 8) j)

  pub allocated-in-byte : 0 < rest → lowest_allocated image from ≡ lowest_in_byte rest from end
  allocated-in-byte low =
      let high : rest < 256 = rw r (mod-lt _ (zero-lt-suc 255)) in
      sym (differing-is-allocated image from) ∙ differing-in-byte image 255 from rest shifted one low high
      ∙ ap (lowest_in_byte rest from) (ap first_bitmap o.has_size ∙ sym e)

  pub allocated-behind : rest ≡ 0 → lowest_allocated image from ≡ lowest_differing image 255 (((from - 1) / 8 + 1) * 8 + 1)
  allocated-behind z = sym (differing-is-allocated image from) ∙ none-in-byte image 255 from rest shifted one z
