-- The append: one more block, and its bit. Assumes nothing.
use Prim.Native.Nat.{ℕ, suc, ◌+◌, ◌*◌, ◌-◌, ◌≤◌, ◌<◌}
use mathlib.Core.Path.{◌≡◌, refl, sym, ap, ◌∙◌}
use mathlib.Core.Bool.{false}
use mathlib.Core.List.{List, [], ◌∷◌, ◌++◌, append_assoc}
use native.Mathlib.Omega.{arith}
use native.Mathlib.Numerals.{one-add}
use native.Mathlib.Decide.{ℕ_discrete, dec_le}
use lib.Dec.{eqb, leb}
use lib.ListN.{length, get_or, take, drop, length-append, length-drop}
use lib.Seq.{take_at, drop_at, drop-append-add, drop-drop, get_or-drop, length-take-le}
use borrow.Author.Tests.{le-leb, lt-leb}
use Rattle.words.proofs.ListLaws.{map_snoc, map_same}
use Rattle.flash_model.specs.Measures.{first_bitmap, capacity}
use Rattle.flash_model.specs.Bitmap.{bit_byte, bit_weight, bit_of, allocated_in, cleared}
use Rattle.flash_model.specs.Partition.{block_at, bitmap_of, allocated}
use Rattle.flash_model.specs.Update.{before_bitmap, bit_cleared, with_block, appended}
use Rattle.flash_model.proofs.MeasureLaws.{Measured}
use Rattle.flash_model.proofs.SequenceLaws.{UpTo}
use Rattle.flash_model.proofs.BitmapLaws.{cleared-length, cleared-byte, cleared-falls, cleared-same, cleared-other}
use Rattle.flash_model.proofs.HolderLaws.{log}
use Rattle.flash_model.proofs.ImageLaws.{same_block, same_front, same_byte, bitmap-byte, made-length, made-bitmap, made-front}

module _ (image new : List ℕ) (k : ℕ) (m : Measured (length image)) (lo : 1 ≤ k) (hi : k ≤ capacity (length image)) (l : length new ≡ 64) where
  fits : k * 64 + 64 ≤ length image
  fits = omega (arith, m.whole)

  -- ---- the block's bytes

  head-length : length (take (k * 64) image ++ new) ≡ k * 64 + 64
  head-length = length-append (take (k * 64) image) new ∙ omega (arith, length-take-le (k * 64) image (omega (arith, fits)))

  written-length : length (with_block image k new) ≡ length image
  unfolding with_block
  written-length =
      length-append (take (k * 64) image ++ new) (drop (k * 64 + 64) image)
      ∙ omega (arith, head-length, length-drop (k * 64 + 64) image, fits)

  written_below : take (k * 64) (with_block image k new) ≡ take (k * 64) image
  unfolding with_block
  written_below =
      let h : k * 64 ≤ length (take (k * 64) image) = omega (arith, length-take-le (k * 64) image (omega (arith, fits))) in
      ap (take (k * 64)) (append_assoc (take (k * 64) image) new (drop (k * 64 + 64) image))
      ∙ take_at (take (k * 64) image) (new ++ drop (k * 64 + 64) image) (k * 64) (length-take-le (k * 64) image (omega (arith, fits)))

  written-block : block_at (with_block image k new) k ≡ new
  unfolding block_at with_block
  written-block =
      let before = take (k * 64) image in
      let e = length-take-le (k * 64) image (omega (arith, fits)) in
      rw (append_assoc, drop_at before (new ++ drop (k * 64 + 64) image) (k * 64) e) (take_at new (drop (k * 64 + 64) image) 64 l)

  written-above : (i : ℕ) → k * 64 + 64 ≤ i → drop i (with_block image k new) ≡ drop i image
  unfolding with_block
  written-above i h =
      let d = i - (k * 64 + 64) in
      let e : length (take (k * 64) image ++ new) + d ≡ i = omega (arith, head-length) in
      let f : k * 64 + 64 + d ≡ i = omega arith in
      ap (λ (j : ℕ). drop j (take (k * 64) image ++ new ++ drop (k * 64 + 64) image)) (sym e)
      ∙ drop-append-add (take (k * 64) image ++ new) (drop (k * 64 + 64) image) d
      ∙ drop-drop d (k * 64 + 64) image ∙ ap (λ (j : ℕ). drop j image) f

  pub written-bitmap : bitmap_of (with_block image k new) ≡ bitmap_of image
  unfolding bitmap_of
  written-bitmap = rw written-length (written-above (first_bitmap (length image) * 64) (omega (arith, m.first_bitmap_lem)))

  -- ---- and its bit

  written : List ℕ
  written = with_block image k new

  measured-written : Measured (length written)
  unfolding written
  measured-written = rw written-length m

  bits : List ℕ
  bits = cleared (bitmap_of written) k

  bits-length : length bits ≡ length (bitmap_of written)
  unfolding bits
  bits-length = cleared-length (bitmap_of written) k

  appended-is : appended image k new ≡ before_bitmap written ++ bits
  unfolding appended bit_cleared bits written
  appended-is = refl

  pub appended-length : length (appended image k new) ≡ length image
  unfolding written
  appended-length = ap length appended-is ∙ made-length written bits measured-written bits-length ∙ written-length

  appended-front : take (first_bitmap (length image) * 64) (appended image k new) ≡ take (first_bitmap (length image) * 64) (with_block image k new)
  unfolding written
  appended-front =
      rw (← written-length) (ap (take (first_bitmap (length (with_block image k new)) * 64)) appended-is ∙ made-front written bits measured-written bits-length)

  pub appended-bitmap : bitmap_of (appended image k new) ≡ cleared (bitmap_of image) k
  unfolding bits written
  appended-bitmap =
      ap bitmap_of appended-is ∙ made-bitmap written bits measured-written bits-length ∙ ap (λ (b : List ℕ). cleared b k) written-bitmap

  bit-inside : bit_byte k < length (bitmap_of image)
  unfolding bit_byte bitmap_of
  bit-inside = omega (arith, length-drop (first_bitmap (length image) * 64) image, m.whole, m.first_bitmap_lem, m.bits_enough)

  pub bit-now : bit_of (bitmap_of (appended image k new)) k ≡ 0
  bit-now = ap (λ (b : List ℕ). bit_of b k) appended-bitmap ∙ cleared-same (bitmap_of image) k bit-inside

  pub bit_falls : allocated image k ≡ false
      → get_or (appended image k new) (first_bitmap (length image) * 64 + bit_byte k) 0 + bit_weight k ≡ get_or image (first_bitmap (length image) * 64 + bit_byte k) 0
  unfolding allocated
  bit_falls e =
      ap (λ (z : ℕ). get_or (appended image k new) (first_bitmap z * 64 + bit_byte k) 0 + bit_weight k) (sym appended-length)
      ∙ ap (λ (z : ℕ). z + bit_weight k) (sym (bitmap-byte (appended image k new) (bit_byte k)) ∙ ap (λ (r : List ℕ). get_or r (bit_byte k) 0) appended-bitmap)
      ∙ cleared-falls (bitmap_of image) k bit-inside e
      ∙ bitmap-byte image (bit_byte k)

  pub bit-other : (j : ℕ) → 1 ≤ j → (j ≡ k → ⊥) → bit_of (bitmap_of (appended image k new)) j ≡ bit_of (bitmap_of image) j
  bit-other j a n = ap (λ (b : List ℕ). bit_of b j) appended-bitmap ∙ cleared-other (bitmap_of image) k bit-inside lo j a n

  -- ---- blocks and bytes

  appended-below : take (k * 64) (appended image k new) ≡ take (k * 64) image
  appended-below =
      same_front (appended image k new) (with_block image k new) (first_bitmap (length image) * 64) (k * 64) appended-front (omega (arith, m.first_bitmap_lem))
      ∙ written_below

  pub appended-header : take 64 (appended image k new) ≡ take 64 image
  appended-header = same_front (appended image k new) image (k * 64) 64 appended-below (omega arith)

  pub appended-block : block_at (appended image k new) k ≡ new
  appended-block =
      same_block (appended image k new) (with_block image k new) (first_bitmap (length image) * 64) k appended-front (omega (arith, m.first_bitmap_lem))
      ∙ written-block

  pub bytes_below : (i : ℕ) → i < k * 64 → get_or (appended image k new) i 0 ≡ get_or image i 0
  bytes_below i h = same_byte (appended image k new) image (k * 64) i appended-below h

  byte-between : (i : ℕ) → k * 64 + 64 ≤ i → i < first_bitmap (length image) * 64 → get_or (appended image k new) i 0 ≡ get_or image i 0
  byte-between i h b =
      let n = k * 64 + 64 in
      let j = i - (k * 64 + 64) in
      let e : k * 64 + 64 + j ≡ i = omega arith in
      same_byte (appended image k new) (with_block image k new) (first_bitmap (length image) * 64) i appended-front b
      ∙ ap (λ (x : ℕ). get_or (with_block image k new) x 0) (sym e)
      ∙ sym (get_or-drop n (with_block image k new) j 0)
      ∙ ap (λ (r : List ℕ). get_or r j 0) (written-above n (omega arith))
      ∙ get_or-drop n image j 0
      ∙ ap (λ (x : ℕ). get_or image x 0) e

  byte-of-bitmap : (j : ℕ) → (j ≡ bit_byte k → ⊥)
      → get_or (appended image k new) (first_bitmap (length image) * 64 + j) 0 ≡ get_or image (first_bitmap (length image) * 64 + j) 0
  byte-of-bitmap j n =
      ap (λ (z : ℕ). get_or (appended image k new) (first_bitmap z * 64 + j) 0) (sym appended-length)
      ∙ sym (bitmap-byte (appended image k new) j)
      ∙ ap (λ (r : List ℕ). get_or r j 0) appended-bitmap
      ∙ cleared-byte (bitmap_of image) k j n
      ∙ bitmap-byte image j

  pub bytes_above : (i : ℕ) → k * 64 + 64 ≤ i → (i ≡ first_bitmap (length image) * 64 + bit_byte k → ⊥) → get_or (appended image k new) i 0 ≡ get_or image i 0
  bytes_above i h n = go (dec_le (first_bitmap (length image) * 64) i)
    where
      go : Dec (first_bitmap (length image) * 64 ≤ i) → get_or (appended image k new) i 0 ≡ get_or image i 0
      go (yes b) =
          let j = i - first_bitmap (length image) * 64 in
          let e : first_bitmap (length image) * 64 + j ≡ i = omega arith in
          let f = byte-of-bitmap j (λ d. n (omega (arith, d))) in
          ap (λ (x : ℕ). get_or (appended image k new) x 0) (sym e) ∙ f ∙ ap (λ (x : ℕ). get_or image x 0) e
      go (no b) = byte-between i h (omega (arith, b))

-- ---- one more block allocated

module _ (image new : List ℕ) (u : ℕ) (m : Measured (length image)) (hi : suc u ≤ capacity (length image)) (l : length new ≡ 64)
    (b : UpTo (allocated image) (capacity (length image)) u) where
  lo : 1 ≤ suc u
  lo = omega arith

  pub appended-up-to : UpTo (allocated (appended image (suc u) new)) (capacity (length image)) (suc u)
  unfolding allocated allocated_in
  appended-up-to j a h = go (ℕ_discrete j (suc u))
    where
      wider : (j ≡ suc u → ⊥) → Dec (j ≤ u) → leb j u ≡ leb j (suc u)
      wider n (yes d) = le-leb j u d ∙ sym (le-leb j (suc u) (omega arith))
      wider n (no d) = lt-leb j u (omega (arith, d)) ∙ sym (lt-leb j (suc u) (omega (arith, d, n)))

      go : Dec (j ≡ suc u) → eqb (bit_of (bitmap_of (appended image (suc u) new)) j) 0 ≡ leb j (suc u)
      go (yes e) = rw (e, bit-now image new (suc u) m lo hi l) (sym (le-leb (suc u) (suc u) (omega arith)))
      go (no n) = rw (bit-other image new (suc u) m lo hi l j a n) (b j a h ∙ wider n (dec_le j u))

  pub appended-log : log (appended image (suc u) new) (suc u) ≡ log image u ++ new ∷ []
  appended-log =
      let image' = appended image (suc u) new in
      let same : log image' u ≡ log image u = map_same (block_at image') (block_at image) 1 u
      (λ k a h. same_block image' image (suc u * 64) k (appended-below image new (suc u) m lo hi l) (omega arith)) in
      map_snoc (block_at image') 1 u ∙ rw (same, one-add u, appended-block image new (suc u) m lo hi l)
