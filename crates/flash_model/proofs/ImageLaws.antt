-- Parts of an image: its blocks, and an image whose bitmap is another. Assumes nothing.
use Prim.Native.Nat.{ℕ, suc, ◌+◌, ◌*◌, ◌≤◌, ◌<◌}
use mathlib.Core.Path.{◌≡◌, refl, sym, ap, ap₂, ◌∙◌}
use mathlib.Core.List.{List, [], ◌∷◌, ◌++◌, map, append_assoc}
use native.Mathlib.Omega.{arith}
use lib.ListN.{length, get_or, take, drop, length-append, length-take, length-drop}
use lib.Seq.{take-take, take_at, drop_at, get_or-take, get_or-drop, length-take-le}
use Rattle.words.specs.Lists.{concat, numbers_from}
use Rattle.words.proofs.ListLaws.{All, part-front, map_same}
use Rattle.flash_model.specs.Measures.{first_bitmap, capacity}
use Rattle.flash_model.specs.Partition.{block_at, bitmap_of}
use Rattle.flash_model.specs.Update.{before_bitmap}
use Rattle.flash_model.proofs.MeasureLaws.{Measured}
use Rattle.flash_model.proofs.HolderLaws.{log}

pub block-length : (image : List ℕ) (k : ℕ) → (k + 1) * 64 ≤ length image → length (block_at image k) ≡ 64
unfolding block_at
block-length image k h = simp (length-take, length-drop) (omega arith)

-- a block is the same where the image's front is
pub same_block : (image other : List ℕ) (m k : ℕ) → take m image ≡ take m other → k * 64 + 64 ≤ m → block_at image k ≡ block_at other k
unfolding block_at
same_block image other m k e h =
    part-front (k * 64) 64 m image h ∙ ap (λ (l : List ℕ). take 64 (drop (k * 64) l)) e ∙ sym (part-front (k * 64) 64 m other h)

pub same_front : (image other : List ℕ) (m n : ℕ) → take m image ≡ take m other → n ≤ m → take n image ≡ take n other
same_front image other m n e h = sym (take-take n m image h) ∙ ap (take n) e ∙ take-take n m other h

pub same_byte : (image other : List ℕ) (m i : ℕ) → take m image ≡ take m other → i < m → get_or image i 0 ≡ get_or other i 0
same_byte image other m i e h = sym (get_or-take m image i 0 h) ∙ ap (λ (l : List ℕ). get_or l i 0) e ∙ get_or-take m other i 0 h

-- a byte of the bitmap
pub bitmap-byte : (image : List ℕ) (i : ℕ) → get_or (bitmap_of image) i 0 ≡ get_or image (first_bitmap (length image) * 64 + i) 0
unfolding bitmap_of
bitmap-byte image i = get_or-drop (first_bitmap (length image) * 64) image i 0

block-at : (a : ℕ) (before b rest : List ℕ) → length before ≡ a * 64 → length b ≡ 64 → block_at (before ++ b ++ rest) a ≡ b
unfolding block_at
block-at a before b rest f l = rw (append_assoc, drop_at before (b ++ rest) (a * 64) f) (take_at b rest 64 l)

-- the blocks of an image that is whole blocks after a front of whole blocks
pub blocks-of : (a : ℕ) (before : List ℕ) (bs : List (List ℕ)) (rest : List ℕ) → length before ≡ a * 64 → All (λ b. length b ≡ 64) bs
    → map (block_at (before ++ concat bs ++ rest)) (numbers_from a (length bs)) ≡ bs
blocks-of a before [] rest f l = refl
blocks-of a before (b ∷ bs) rest f l =
    let e : before ++ (b ++ concat bs) ++ rest ≡ before ++ b ++ concat bs ++ rest = simp append_assoc in
    let g : before ++ b ++ concat bs ++ rest ≡ before ++ b ++ (concat bs ++ rest) = append_assoc (before ++ b) (concat bs) rest in
    let h : block_at (before ++ b ++ concat bs ++ rest) a ≡ b = rw g (block-at a before b (concat bs ++ rest) f l.0) in
    let r : map (block_at (before ++ b ++ concat bs ++ rest)) (numbers_from (suc a) (length bs)) ≡ bs = blocks-of (suc a) (before ++ b) bs rest (length-append before b ∙ omega (arith, l.0)) l.1 in
    ap (λ (image : List ℕ). map (block_at image) (numbers_from a (suc (length bs)))) e ∙ ap₂ (λ (x : List ℕ) (xs : List (List ℕ)). x ∷ xs) h r

-- ---- another bitmap behind the same front

module _ (image bits : List ℕ) (m : Measured (length image)) (l : length bits ≡ length (bitmap_of image)) where
  place_in : first_bitmap (length image) * 64 ≤ length image
  place_in = omega (arith, m.whole, m.first_bitmap_lem)

  front_length : length (before_bitmap image) ≡ first_bitmap (length image) * 64
  unfolding before_bitmap
  front_length = length-take-le (first_bitmap (length image) * 64) image place_in

  pub made-length : length (before_bitmap image ++ bits) ≡ length image
  unfolding bitmap_of
  made-length =
      length-append (before_bitmap image) bits
      ∙ omega (arith, front_length, l, length-drop (first_bitmap (length image) * 64) image, place_in)

  pub made-bitmap : bitmap_of (before_bitmap image ++ bits) ≡ bits
  unfolding bitmap_of
  made-bitmap = rw made-length (drop_at (before_bitmap image) bits (first_bitmap (length image) * 64) front_length)

  pub made-front : take (first_bitmap (length image) * 64) (before_bitmap image ++ bits) ≡ take (first_bitmap (length image) * 64) image
  unfolding before_bitmap
  made-front = take_at (before_bitmap image) bits (first_bitmap (length image) * 64) front_length

  pub made-log : (u : ℕ) → u ≤ capacity (length image) → log (before_bitmap image ++ bits) u ≡ log image u
  made-log u h =
      map_same (block_at (before_bitmap image ++ bits)) (block_at image) 1 u
      (λ k lo hi. same_block (before_bitmap image ++ bits) image (first_bitmap (length image) * 64) k made-front (omega (arith, m.first_bitmap_lem)))

  pub made-header : take 64 (before_bitmap image ++ bits) ≡ take 64 image
  made-header = same_front (before_bitmap image ++ bits) image (first_bitmap (length image) * 64) 64 made-front (omega (arith, m.first_bitmap_lem))
