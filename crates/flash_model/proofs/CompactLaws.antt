-- The compaction: the header block, these blocks, and FF but for their bits. Assumes nothing.
use Prim.Native.Nat.{ℕ, suc, ◌+◌, ◌*◌, ◌-◌, ◌≤◌, ◌<◌}
use mathlib.Core.Path.{◌≡◌, refl, sym, ap, ◌∙◌}
use mathlib.Core.List.{List, [], ◌++◌, append_assoc}
use native.Mathlib.Omega.{arith}
use native.Mathlib.Numerals.{one-add}
use mathlib.Core.Bool.{cond}
use lib.Dec.{leb}
use borrow.Author.Tests.{le-leb, lt-leb}
use lib.ListN.{length, get_or, take, drop, replicate, length-append, length-replicate, get_or-replicate}
use lib.Seq.{take_at, drop-append-add, get_or-append-add, length-take-le}
use Rattle.words.specs.Lists.{concat}
use Rattle.words.proofs.ListLaws.{All, concat-length, drop-replicate, range_at}
use Rattle.flash_model.specs.Measures.{first_bitmap, bitmap_blocks, capacity}
use Rattle.flash_model.specs.Bitmap.{bit_of, first_cleared}
use Rattle.flash_model.specs.Partition.{block_at, bitmap_of, allocated}
use Rattle.flash_model.specs.Update.{before_bitmap, bits_cleared, rewritten, compacted}
use Rattle.flash_model.specs.Demands.{CompactedAs}
use Rattle.flash_model.proofs.MeasureLaws.{Measured}
use Rattle.flash_model.proofs.SequenceLaws.{UpTo}
use Rattle.flash_model.proofs.BitmapLaws.{first-length, first_bit, first-allocated}
use Rattle.flash_model.proofs.HolderLaws.{log}
use Rattle.flash_model.proofs.ImageLaws.{same_byte, blocks-of, made-length, made-bitmap, made-front, made-log, made-header}

module _ (image : List ℕ) (kept : List (List ℕ)) (m : Measured (length image)) (room : length kept ≤ capacity (length image)) (l : All (λ b. length b ≡ 64) kept) where
  -- ---- the image before its bits are cleared

  filled : ℕ
  filled = length image - 64 * suc (length kept)

  header_length : length (take 64 image) ≡ 64
  header_length = length-take-le 64 image (omega (arith, m.whole))

  head-length : length (take 64 image ++ concat kept) ≡ 64 * suc (length kept)
  head-length = length-append (take 64 image) (concat kept) ∙ omega (arith, header_length, concat-length 64 kept l)

  rewritten-is : rewritten image kept ≡ take 64 image ++ concat kept ++ replicate filled 255
  unfolding rewritten filled
  rewritten-is = refl

  rewritten-length : length (rewritten image kept) ≡ length image
  unfolding filled
  rewritten-length =
      ap length rewritten-is ∙ length-append (take 64 image ++ concat kept) (replicate filled 255)
      ∙ omega (arith, head-length, length-replicate {A = ℕ} filled 255, m.whole)

  rewritten-bitmap : bitmap_of (rewritten image kept) ≡ replicate (bitmap_blocks (length image) * 64) 255
  unfolding bitmap_of filled
  rewritten-bitmap =
      let head = take 64 image ++ concat kept in
      let d = first_bitmap (length image) * 64 - 64 * suc (length kept) in
      let e : first_bitmap (length image) * 64 ≡ length head + d = omega (arith, head-length, m.first_bitmap_lem) in
      let f : filled - d ≡ bitmap_blocks (length image) * 64 = omega (arith, m.whole, m.first_bitmap_lem) in
      rw rewritten-length
      (ap (drop (first_bitmap (length image) * 64)) rewritten-is
      ∙ ap (λ (n : ℕ). drop n (head ++ replicate filled 255)) e
      ∙ drop-append-add head (replicate filled 255) d
      ∙ drop-replicate d filled 255
      ∙ ap (λ (n : ℕ). replicate n 255) f)

  rewritten-header : take 64 (rewritten image kept) ≡ take 64 image
  rewritten-header =
      ap (take 64) (rewritten-is ∙ append_assoc (take 64 image) (concat kept) (replicate filled 255))
      ∙ take_at (take 64 image) (concat kept ++ replicate filled 255) 64 header_length

  rewritten-log : log (rewritten image kept) (length kept) ≡ kept
  rewritten-log = rw rewritten-is (blocks-of 1 (take 64 image) kept (replicate filled 255) header_length l)

  -- ---- and after it

  base : List ℕ
  base = rewritten image kept

  measured-base : Measured (length base)
  unfolding base
  measured-base = rw rewritten-length m

  bits : List ℕ
  bits = first_cleared (bitmap_of base) (length kept)

  bits-length : length bits ≡ length (bitmap_of base)
  unfolding bits
  bits-length = first-length (bitmap_of base) (length kept)

  compacted-is : compacted image kept ≡ before_bitmap base ++ bits
  unfolding compacted bits_cleared bits base
  compacted-is = refl

  pub compacted-length : length (compacted image kept) ≡ length image
  unfolding base
  compacted-length = ap length compacted-is ∙ made-length base bits measured-base bits-length ∙ rewritten-length

  pub compacted-header : take 64 (compacted image kept) ≡ take 64 image
  unfolding base
  compacted-header = ap (take 64) compacted-is ∙ made-header base bits measured-base bits-length ∙ rewritten-header

  compacted-bitmap : bitmap_of (compacted image kept) ≡ first_cleared (replicate (bitmap_blocks (length image) * 64) 255) (length kept)
  unfolding base bits
  compacted-bitmap =
      ap bitmap_of compacted-is ∙ made-bitmap base bits measured-base bits-length ∙ ap (λ (b : List ℕ). first_cleared b (length kept)) rewritten-bitmap

  -- bits past the last block too
  bit_is : (k : ℕ) → 1 ≤ k → k ≤ bitmap_blocks (length image) * 512 → bit_of (bitmap_of (compacted image kept)) k ≡ cond (leb k (length kept)) 0 1
  bit_is k lo hi =
      ap (λ (b : List ℕ). bit_of b k) compacted-bitmap
      ∙ first_bit (bitmap_blocks (length image) * 64) (length kept) k (omega (arith, m.bits_enough)) lo (omega arith)

  compacted-byte : (i : ℕ) → 64 * suc (length kept) ≤ i → i < first_bitmap (length image) * 64 → get_or (compacted image kept) i 0 ≡ 255
  unfolding base filled
  compacted-byte i lo hi =
      let d = i - 64 * suc (length kept) in
      let e : length (take 64 image ++ concat kept) + d ≡ i = omega (arith, head-length) in
      let f : take (first_bitmap (length image) * 64) (compacted image kept) ≡ take (first_bitmap (length image) * 64) (rewritten image kept) =
      rw (← rewritten-length) (ap (take (first_bitmap (length (rewritten image kept)) * 64)) compacted-is ∙ made-front base bits measured-base bits-length) in
      same_byte (compacted image kept) (rewritten image kept) (first_bitmap (length image) * 64) i f hi
      ∙ ap (λ (r : List ℕ). get_or r i 0) rewritten-is
      ∙ ap (λ (n : ℕ). get_or (take 64 image ++ concat kept ++ replicate filled 255) n 0) (sym e)
      ∙ get_or-append-add (take 64 image ++ concat kept) (replicate filled 255) d 0
      ∙ get_or-replicate {A = ℕ} filled d 255 0 (omega (arith, m.whole, m.first_bitmap_lem))

  pub compacted-up-to : UpTo (allocated (compacted image kept)) (capacity (length image)) (length kept)
  unfolding allocated
  compacted-up-to k lo hi =
      rw compacted-bitmap
      (first-allocated (bitmap_blocks (length image) * 64) (length kept) k (omega (arith, m.bits_enough)) lo (omega (arith, m.bits_enough)))

  pub compacted-log : log (compacted image kept) (length kept) ≡ kept
  unfolding base
  compacted-log =
      ap (λ (r : List ℕ). log r (length kept)) compacted-is
      ∙ made-log base bits measured-base bits-length (length kept) (rw rewritten-length room) ∙ rewritten-log

  pub compacted-as : CompactedAs image kept (compacted image kept)
  compacted-as = record {
    has_room = room;
    same_header = compacted-header;
    blocks_are = λ i h. sym (range_at (block_at (compacted image kept)) 1 (length kept) i [] h ∙ ap (block_at (compacted image kept)) (one-add i))
        ∙ ap (λ (l : List (List ℕ)). get_or l i []) compacted-log;
    rest_blank = compacted-byte;
    bits_cleared_lem = λ k lo hi. bit_is k lo (omega (arith, m.bits_enough)) ∙ rw (le-leb k (length kept) hi);
    bits_set = λ k lo hi. bit_is k (omega arith) hi ∙ rw (lt-leb k (length kept) lo);
    same_length = compacted-length;
  }
