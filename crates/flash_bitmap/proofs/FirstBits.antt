-- The first bits of a bitmap of FF, cleared by whole bytes and a part of one more. Assumes nothing.
use Prim.Native.Nat.{ℕ, zero, suc, ◌+◌, ◌-◌, ◌*◌, ◌/◌, ◌%◌, ◌^◌, ◌≤◌, ◌<◌}
use mathlib.Core.Path.{◌≡◌, refl, sym, ap, ◌∙◌}
use mathlib.Core.Bool.{Bool, not}
use mathlib.Core.List.{List, ◌++◌, append-nil}
use native.Mathlib.Omega.{arith}
use native.Mathlib.Decide.{ℕ_discrete, dec_le}
use native.Mathlib.Nat.{div-eq_of_lt, lt_of_lt_of_le}
use lib.Dec.{eqb, lit<}
use lib.ListN.{length, get_or, take, drop, set, replicate, length-set, length-append, length-drop, length-replicate, get_or-replicate, get_or-append}
use lib.Seq.{get_or-set_same, get_or-set_other, get_or-append-add, get_or-drop, drop-length, take_all, ext_get_or}
use lib.Pow.{pow_mono}
use borrow.Author.Tests.{eqb-true, lt-leb, not-false}
use borrow.Rule.Slice.PartMut.{mid_of, put_mid, Post-is, mid_len}
use Rattle.std.proofs.lemmas.List.{length-take-le}
use Rattle.words.proofs.JoinLaws.{none-range}
use Rattle.flash_model.specs.Measures.{first_bitmap, capacity}
use Rattle.flash_model.specs.Bitmap.{bit_byte, bit_place, bit_weight, cleared, first_cleared}
use Rattle.flash_model.specs.Partition.{bitmap_of}
use Rattle.flash_model.specs.Update.{before_bitmap, bits_cleared}
use Rattle.flash_model.proofs.BitmapLaws.{cleared-byte, cleared-falls, first-length, first-allocated}
use Rattle.flash_measures.specs.HasMeasures.{HasMeasures}
use Rattle.flash_measures.proofs.WithinLaws.{measures-known}
use Rattle.flash_bitmap.specs.Blank.{IsBlank}

-- byte i of a bitmap of FF whose first n bits are cleared: all of it, some of its high bits, or none
abbrev byte_left : ℕ → ℕ → ℕ
byte_left n i = 255 / 2 ^ (n - 8 * i)

-- a shift by eight or more leaves nothing
all-gone : (k : ℕ) → 8 ≤ k → 255 / 2 ^ k ≡ 0
all-gone k h = div-eq_of_lt (lt_of_lt_of_le (lit< tt) (pow_mono {i = 8} {j = k} h))

-- one shift more takes the highest bit that was left: a test of the eight shifts
one_less : (r : ℕ) → r < 8 → 255 / 2 ^ (r + 1) + 2 ^ (7 - r) ≡ 255 / 2 ^ r
one_less r h =
    eqb-true (255 / 2 ^ (r + 1) + 2 ^ (7 - r)) (255 / 2 ^ r)
    (not-false (eqb (255 / 2 ^ (r + 1) + 2 ^ (7 - r)) (255 / 2 ^ r)) (none-range differs 0 8 refl r (omega arith) (omega arith)))
  where
    differs : ℕ → Bool
    differs r = not (eqb (255 / 2 ^ (r + 1) + 2 ^ (7 - r)) (255 / 2 ^ r))

byte-is : (bytes n i : ℕ) → n ≤ 8 * bytes → i < bytes → get_or (first_cleared (replicate bytes 255) n) i 0 ≡ byte_left n i
unfolding first_cleared
byte-is bytes zero i a h =
    let e : 0 - 8 * i ≡ 0 = omega arith in
    get_or-replicate {A = ℕ} bytes i 255 0 h ∙ rw e
byte-is bytes (suc n) i a h = go (byte-is bytes n i (omega arith) h) (ℕ_discrete i (n / 8)) (dec_le (suc n) (8 * i))
  where
    here : bit_byte (suc n) ≡ n / 8
    here = unfold bit_byte in ap (λ (k : ℕ). k / 8) (omega arith)

    weight : bit_weight (suc n) ≡ 2 ^ (7 - n % 8)
    weight = unfold bit_weight bit_place in ap (λ (k : ℕ). 2 ^ (7 - k % 8)) (omega arith)

    inside : bit_byte (suc n) < length (first_cleared (replicate bytes 255) n)
    inside = omega (arith, here, first-length (replicate bytes 255) n, length-replicate {A = ℕ} bytes 255)

    falls : get_or (cleared (first_cleared (replicate bytes 255) n) (suc n)) (n / 8) 0 + 2 ^ (7 - n % 8) ≡ get_or (first_cleared (replicate bytes 255) n) (n / 8) 0
    falls =
        rw (here, weight) at (cleared-falls (first_cleared (replicate bytes 255) n) (suc n) inside
        (first-allocated bytes n (suc n) (omega arith) (omega arith) a ∙ lt-leb (suc n) n (omega arith)))

    go : get_or (first_cleared (replicate bytes 255) n) i 0 ≡ byte_left n i → Dec (i ≡ n / 8) → Dec (suc n ≤ 8 * i)
        → get_or (cleared (first_cleared (replicate bytes 255) n) (suc n)) i 0 ≡ byte_left (suc n) i
    go ih (yes e) f =
        let r : n - 8 * i ≡ n % 8 = omega (arith, e) in
        let r' : suc n - 8 * i ≡ n % 8 + 1 = omega (arith, e) in
        let was : get_or (first_cleared (replicate bytes 255) n) (n / 8) 0 ≡ 255 / 2 ^ (n % 8) = ap (λ (j : ℕ). get_or (first_cleared (replicate bytes 255) n) j 0) (sym e) ∙ ih ∙ rw r in
        let less = one_less (n % 8) (omega arith) in
        rw (r', e) (omega (arith, falls, was, less))
    go ih (no d) (yes f) =
        let z : n - 8 * i ≡ suc n - 8 * i = omega arith in
        cleared-byte (first_cleared (replicate bytes 255) n) (suc n) i (λ e. d (e ∙ here)) ∙ ih ∙ ap (λ (k : ℕ). 255 / 2 ^ k) z
    go ih (no d) (no f) =
        cleared-byte (first_cleared (replicate bytes 255) n) (suc n) i (λ e. d (e ∙ here)) ∙ ih
        ∙ all-gone (n - 8 * i) (omega (arith, d, f)) ∙ sym (all-gone (suc n - 8 * i) (omega (arith, d, f)))

-- whole bytes made 0, and one more shifted
first-cleared : (bits : List ℕ) (n : ℕ) → n < 8 * length bits → IsBlank bits
    → set (replicate {A = ℕ} (n / 8) 0 ++ drop (n / 8) bits) (n / 8) (255 / 2 ^ (n % 8)) ≡ first_cleared bits n
first-cleared bits n h ff =
    ext_get_or 0 (set front q (255 / 2 ^ (n % 8))) (first_cleared bits n) (length-set front q (255 / 2 ^ (n % 8)) ∙ long ∙ sym (first-length bits n))
    (λ i l. at i (omega (arith, l, length-set front q (255 / 2 ^ (n % 8)), long)) (ℕ_discrete i q) (dec_le q i) ∙ sym (whole i (omega (arith, l, length-set front q (255 / 2 ^ (n % 8)), long))))
  where
    q : ℕ
    q = n / 8

    front : List ℕ
    front = replicate {A = ℕ} q 0 ++ drop q bits

    long : length front ≡ length bits
    long = simp (length-append, length-replicate, length-drop) (omega arith)

    whole : (i : ℕ) → i < length bits → get_or (first_cleared bits n) i 0 ≡ byte_left n i
    whole i l = ap (λ (b : List ℕ). get_or (first_cleared b n) i 0) ff ∙ byte-is (length bits) n i (omega arith) l

    at : (i : ℕ) → i < length bits → Dec (i ≡ q) → Dec (q ≤ i) → get_or (set front q (255 / 2 ^ (n % 8))) i 0 ≡ byte_left n i
    at i l (yes e) d =
        let r : n - 8 * i ≡ n % 8 = omega (arith, e) in
        rw (r, e) (get_or-set_same front q (255 / 2 ^ (n % 8)) 0 (omega (arith, long)))
    at i l (no d) (yes f) =
        let behind : i ≡ length (replicate {A = ℕ} q 0) + (i - q) = omega (arith, length-replicate {A = ℕ} q 0) in
        let past : q + (i - q) ≡ i = omega arith in
        let z : n - 8 * i ≡ 0 = omega (arith, d, f) in
        get_or-set_other front q i (255 / 2 ^ (n % 8)) 0 d ∙ ap (λ (k : ℕ). get_or front k 0) behind
        ∙ get_or-append-add (replicate q 0) (drop q bits) (i - q) 0 ∙ get_or-drop q bits (i - q) 0 ∙ ap (λ (k : ℕ). get_or bits k 0) past
        ∙ ap (λ (b : List ℕ). get_or b i 0) ff ∙ get_or-replicate {A = ℕ} (length bits) i 255 0 l ∙ rw z
    at i l (no d) (no f) =
        let low : i < length (replicate {A = ℕ} q 0) = omega (arith, f, length-replicate {A = ℕ} q 0) in
        get_or-set_other front q i (255 / 2 ^ (n % 8)) 0 d ∙ get_or-append (replicate q 0) (drop q bits) 0 i low
        ∙ get_or-replicate {A = ℕ} q i 0 0 (omega (arith, f)) ∙ sym (all-gone (n - 8 * i) (omega (arith, f)))

-- ---- as the code lends parts

pub part-cleared : {part : List ℕ} (bits : List ℕ) (n : ℕ) → n < 8 * length bits → IsBlank bits → part ≡ replicate (length (take (n / 8) bits)) 0
    → set (part ++ drop (n / 8) bits) (n / 8) (255 / 2 ^ (n % 8)) ≡ first_cleared bits n
part-cleared bits n h ff p = rw (p, length-take-le (n / 8) bits (omega arith)) (first-cleared bits n h ff)

module _ {image : List ℕ} {size first at : ℕ} (o : HasMeasures image size) (f : first ≡ first_bitmap size) (s : at ≡ first * 64) where
  e : at ≡ first_bitmap (length image) * 64
  e = rw (o.has_size, ← f, s)

  pub inside : at ≤ length image
  inside =
      let m = measures-known o in
      omega (arith, o.has_size, m.whole, m.first_bitmap_lem)

  pub bitmap-part : mid_of at (length image - at) image ≡ bitmap_of image
  unfolding bitmap_of
  bitmap-part = take_all (length image - at) (drop at image) (simp length-drop (omega arith)) ∙ ap (λ (n : ℕ). drop n image) e

  pub bits_enough : (n : ℕ) → n ≤ capacity size → n < 8 * length (mid_of at (length image - at) image)
  bits_enough n h =
      let m = measures-known o in
      omega (arith, o.has_size, m.whole, m.first_bitmap_lem, m.bits_enough, mid_len at (length image) image (omega arith))

  pub bits_put : {part : List ℕ} (n : ℕ) → part ≡ first_cleared (mid_of at (length image - at) image) n → put_mid at (length image - at) image part ≡ bits_cleared image n
  unfolding bits_cleared before_bitmap
  bits_put {part} n p =
      rw (Post-is at (length image) image inside, drop-length image, append-nil, p, bitmap-part)
      (ap (λ (k : ℕ). take k image ++ first_cleared (bitmap_of image) n) e)
