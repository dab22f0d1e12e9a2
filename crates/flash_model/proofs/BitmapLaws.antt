-- The bitmap's bits: one cleared, and the first n of a bitmap of FF cleared. Assumes nothing.
use Prim.Native.Nat.{ℕ, zero, suc, ◌+◌, ◌*◌, ◌-◌, ◌/◌, ◌%◌, ◌≤◌, ◌<◌}
use mathlib.Core.Path.{◌≡◌, refl, ap, ◌∙◌}
use mathlib.Core.Bool.{Bool, true, false, cond}
use mathlib.Core.List.{List, map}
use native.Mathlib.Omega.{arith}
use native.Mathlib.Decide.{ℕ_discrete, dec_le}
use lib.Dec.{eqb, leb}
use lib.ListN.{length, get_or, set, replicate, length-set, length-replicate, get_or-replicate}
use lib.Seq.{get_or-set_same, get_or-set_other, set-get_or}
use borrow.Author.Tests.{eqb-true, eqb-false, le-leb, lt-leb}
use Rattle.flash_model.specs.Bitmap.{bit_byte, bit_place, bit_weight, bit_of, allocated_in, cleared, first_cleared}
use Rattle.flash_model.proofs.BitLaws.{bit_le, clear-same, clear-other, ones_below}

-- ---- places of bits

place-lt : (k : ℕ) → bit_place k < 8
unfolding bit_place
place-lt k = omega arith

-- two blocks' bits are not at one place of one byte
places-apart : (j k : ℕ) → 1 ≤ j → 1 ≤ k → bit_byte j ≡ bit_byte k → bit_place j ≡ bit_place k → j ≡ k
unfolding bit_byte bit_place
places-apart j k a b e f = omega arith

-- ---- one bit cleared

pub free-bit : (map : List ℕ) (k : ℕ) → allocated_in map k ≡ false → bit_of map k ≡ 1
unfolding allocated_in bit_of
free-bit map k e = omega (arith, eqb-false (get_or map (bit_byte k) 0 / bit_weight k % 2) 0 e)

zero_bit : (map : List ℕ) (k : ℕ) → allocated_in map k ≡ true → bit_of map k ≡ 0
unfolding allocated_in
zero_bit map k e = eqb-true (bit_of map k) 0 e

module _ (map : List ℕ) (k : ℕ) where
  cleared-allocated : allocated_in map k ≡ true → cleared map k ≡ map
  unfolding cleared
  cleared-allocated e = rw e (set-get_or map (bit_byte k) 0)

  cleared-free : allocated_in map k ≡ false → cleared map k ≡ set map (bit_byte k) (get_or map (bit_byte k) 0 - bit_weight k)
  unfolding cleared
  cleared-free e = rw e

  pub cleared-length : length (cleared map k) ≡ length map
  unfolding cleared
  cleared-length = length-set map (bit_byte k) (cond (allocated_in map k) (get_or map (bit_byte k) 0) (get_or map (bit_byte k) 0 - bit_weight k))

  pub cleared-byte : (i : ℕ) → (i ≡ bit_byte k → ⊥) → get_or (cleared map k) i 0 ≡ get_or map i 0
  unfolding cleared
  cleared-byte i n =
      get_or-set_other map (bit_byte k) i (cond (allocated_in map k) (get_or map (bit_byte k) 0) (get_or map (bit_byte k) 0 - bit_weight k)) 0 n

  module _ (inside : bit_byte k < length map) where
    byte-here : allocated_in map k ≡ false → get_or (cleared map k) (bit_byte k) 0 ≡ get_or map (bit_byte k) 0 - bit_weight k
    byte-here e =
        ap (λ (l : List ℕ). get_or l (bit_byte k) 0) (cleared-free e)
        ∙ get_or-set_same map (bit_byte k) (get_or map (bit_byte k) 0 - bit_weight k) 0 inside

    -- a free block's byte loses the bit's weight
    pub cleared-falls : allocated_in map k ≡ false → get_or (cleared map k) (bit_byte k) 0 + bit_weight k ≡ get_or map (bit_byte k) 0
    cleared-falls e = omega (arith, byte-here e, weight-le e)
      where
        weight-le : allocated_in map k ≡ false → bit_weight k ≤ get_or map (bit_byte k) 0
        weight-le e = unfold bit_weight in bit_le (bit_place k) (get_or map (bit_byte k) 0) (unfold bit_of bit_weight in free-bit map k e)

    pub cleared-same : bit_of (cleared map k) k ≡ 0
    cleared-same = go (allocated_in map k) refl
      where
        go : (t : Bool) → allocated_in map k ≡ t → bit_of (cleared map k) k ≡ 0
        go true e = ap (λ (l : List ℕ). bit_of l k) (cleared-allocated e) ∙ zero_bit map k e
        go false e =
            unfold bit_of bit_weight in
            rw (byte-here e) (clear-same (bit_place k) (get_or map (bit_byte k) 0) (free-bit map k e))

    pub cleared-other : 1 ≤ k → (j : ℕ) → 1 ≤ j → (j ≡ k → ⊥) → bit_of (cleared map k) j ≡ bit_of map j
    cleared-other lo j l n = go (allocated_in map k) refl (ℕ_discrete (bit_byte j) (bit_byte k))
      where
        go : (t : Bool) → allocated_in map k ≡ t → Dec (bit_byte j ≡ bit_byte k) → bit_of (cleared map k) j ≡ bit_of map j
        go true e d = ap (λ (l : List ℕ). bit_of l j) (cleared-allocated e)
        go false e (yes d) =
            unfold bit_of bit_weight in
            rw (d, byte-here e) (clear-other (bit_place j) (bit_place k) (get_or map (bit_byte k) 0) (free-bit map k e) (λ f. n (places-apart j k l lo d f)))
        go false e (no d) =
            unfold bit_of in
            rw (cleared-free e, get_or-set_other map (bit_byte k) (bit_byte j) (get_or map (bit_byte k) 0 - bit_weight k) 0 d)

-- ---- the first n bits of a bitmap of FF cleared

pub first-length : (map : List ℕ) (n : ℕ) → length (first_cleared map n) ≡ length map
unfolding first_cleared
first-length map zero = refl
first-length map (suc n) = cleared-length (first_cleared map n) (suc n) ∙ first-length map n

pub ff-free : (bytes j : ℕ) → bit_byte j < bytes → bit_of (replicate bytes 255) j ≡ 1
unfolding bit_of bit_weight
ff-free bytes j h = rw (get_or-replicate {A = ℕ} bytes (bit_byte j) 255 0 h) (ones_below 8 (bit_place j) (place-lt j))

pub first_bit : (bytes n j : ℕ) → n ≤ 8 * bytes → 1 ≤ j → j ≤ 8 * bytes → bit_of (first_cleared (replicate bytes 255) n) j ≡ cond (leb j n) 0 1
unfolding first_cleared
first_bit bytes zero j a l h = rw (lt-leb j 0 (omega arith)) (ff-free bytes j (unfold bit_byte in omega arith))
first_bit bytes (suc n) j a l h = go (first_bit bytes n j (omega arith) l h) (ℕ_discrete j (suc n)) (dec_le j n)
  where
    inside : bit_byte (suc n) < length (first_cleared (replicate bytes 255) n)
    inside = unfold bit_byte in omega (arith, first-length (replicate bytes 255) n, length-replicate {A = ℕ} bytes 255)

    go : bit_of (first_cleared (replicate bytes 255) n) j ≡ cond (leb j n) 0 1 → Dec (j ≡ suc n) → Dec (j ≤ n)
        → bit_of (cleared (first_cleared (replicate bytes 255) n) (suc n)) j ≡ cond (leb j (suc n)) 0 1
    go ih (yes e) d = rw (e, le-leb (suc n) (suc n) (omega arith)) (cleared-same (first_cleared (replicate bytes 255) n) (suc n) inside)
    go ih (no e) (yes d) =
        cleared-other (first_cleared (replicate bytes 255) n) (suc n) inside (omega arith) j l e ∙ ih
        ∙ rw (le-leb j n d, le-leb j (suc n) (omega arith))
    go ih (no e) (no d) =
        cleared-other (first_cleared (replicate bytes 255) n) (suc n) inside (omega arith) j l e ∙ ih
        ∙ rw (lt-leb j n (omega (arith, d)), lt-leb j (suc n) (omega (arith, d, e)))

pub first-allocated : (bytes n j : ℕ) → n ≤ 8 * bytes → 1 ≤ j → j ≤ 8 * bytes → allocated_in (first_cleared (replicate bytes 255) n) j ≡ leb j n
unfolding allocated_in
first-allocated bytes n j a l h = rw (first_bit bytes n j a l h) (go (leb j n))
  where
    go : (t : Bool) → eqb (cond t 0 1) 0 ≡ t
    go true = refl
    go false = refl
