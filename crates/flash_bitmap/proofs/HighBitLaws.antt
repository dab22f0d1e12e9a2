-- The bits of a byte from its high end: of a byte shifted left, and where a bitmap byte and another byte differ. Assumes
-- nothing.
use Prim.Native.Nat.{ℕ, zero, suc, ◌+◌, ◌-◌, ◌*◌, ◌/◌, ◌%◌, ◌^◌, ◌≤◌, ◌<◌}
use mathlib.Core.Path.{◌≡◌, refl, sym, ap, ◌∙◌}
use mathlib.Core.Bool.{false, not}
use mathlib.Core.List.{List}
use native.Mathlib.Omega.{arith}
use native.Mathlib.Decide.{dec_le}
use native.Mathlib.Nat.{mul_assoc, mul_right_comm, add-mul, mul-div_cancel, mul-div-mul_right, add-mul-div_right, div-add-mod', zero-div, zero-mul, mod-lt, zero-lt-suc}
use lib.Dec.{eqb}
use lib.ListN.{get_or}
use lib.Bits.{bit_xor, xor_shr, xor_mod, xor_add_and, and_le_l, and_le_r}
use lib.Pow.{pow_pos, pow-add}
use borrow.Author.Tests.{eq-eqb}
use Rattle.flash_model.specs.Bitmap.{bit_byte, bit_place, bit_weight, bit_of, allocated_in}
use Rattle.flash_model.specs.Partition.{bitmap_of, allocated}
use Rattle.flash_model.proofs.BitLaws.{ones_below}
use Rattle.flash_bitmap.specs.Found.{differs}
use Rattle.flash_bitmap.specs.HighBits.{one_at}

-- ---- shifted left

-- what is shifted out of a byte has no part in its bits
high-bit-mod : (x j : ℕ) → x % 256 * 2 ^ j / 128 % 2 ≡ x * 2 ^ j / 128 % 2
high-bit-mod x j =
    let parts : x * 2 ^ j ≡ x / 256 * 256 * 2 ^ j + x % 256 * 2 ^ j = ap (λ (n : ℕ). n * 2 ^ j) (sym (div-add-mod' x 256)) ∙ add-mul (x / 256 * 256) (x % 256) (2 ^ j) in
    let a : x * 2 ^ j ≡ x % 256 * 2 ^ j + x / 256 * 2 ^ j * 2 * 128 = omega (arith, parts, mul_right_comm (x / 256) 256 (2 ^ j)) in
    let b : x * 2 ^ j / 128 ≡ x % 256 * 2 ^ j / 128 + x / 256 * 2 ^ j * 2 = rw a (add-mul-div_right (x % 256 * 2 ^ j) (x / 256 * 2 ^ j * 2) (zero-lt-suc 127)) in
    omega arith

pub shifted_one : (x s j : ℕ) → one_at (x * 2 ^ s % 256) j ≡ one_at x (s + j)
unfolding one_at
shifted_one x s j =
    ap (λ (n : ℕ). eqb n 1) (high-bit-mod (x * 2 ^ s) j ∙ ap (λ (n : ℕ). n / 128 % 2) (mul_assoc x (2 ^ s) (2 ^ j) ∙ ap (λ (n : ℕ). x * n) (sym (pow-add 2 s j))))

-- and none is left behind the eighth
pub past-eight : (x j : ℕ) → 8 ≤ j → one_at x j ≡ false
unfolding one_at
past-eight x j h =
    let power : 2 ^ j ≡ 2 ^ (j - 8) * 256 = ap (λ (n : ℕ). 2 ^ n) (omega arith) ∙ pow-add 2 (j - 8) 8 in
    let a : x * 2 ^ j ≡ x * 2 ^ (j - 8) * 2 * 128 = ap (λ (n : ℕ). x * n) power ∙ sym (mul_assoc x (2 ^ (j - 8)) 256) ∙ omega arith in
    let b : x * 2 ^ j / 128 ≡ x * 2 ^ (j - 8) * 2 = rw a (mul-div_cancel (x * 2 ^ (j - 8) * 2) (zero-lt-suc 127)) in
    let c : x * 2 ^ j / 128 % 2 ≡ 0 = omega arith in
    rw c

pub zero-none : (j : ℕ) → one_at 0 j ≡ false
unfolding one_at
zero-none j = rw zero-mul

-- ---- a bitmap byte and another byte

high_bit : (x j : ℕ) → j < 8 → x * 2 ^ j / 128 ≡ x / 2 ^ (7 - j)
high_bit x j h =
    let seven : 7 - j + j ≡ 7 = omega arith in
    let e : 2 ^ (7 - j) * 2 ^ j ≡ 128 = sym (pow-add 2 (7 - j) j) ∙ ap (λ (n : ℕ). 2 ^ n) seven in
    ap (λ (n : ℕ). x * 2 ^ j / n) (sym e) ∙ mul-div-mul_right x (2 ^ (7 - j)) (pow_pos j)

two-bits : (x y : ℕ) → x < 2 → y < 2 → not (eqb x y) ≡ eqb (bit_xor x y) 1
two-bits zero zero a b = refl
two-bits zero (suc zero) a b = refl
two-bits (suc zero) zero a b = refl
two-bits (suc zero) (suc zero) a b = refl
two-bits zero (suc (suc y)) a b = absurd (omega arith)
two-bits (suc zero) (suc (suc y)) a b = absurd (omega arith)
two-bits (suc (suc x)) y a b = absurd (omega arith)

xor-bit : (x y w : ℕ) → bit_xor x y / 2 ^ w % 2 ≡ bit_xor (x / 2 ^ w % 2) (y / 2 ^ w % 2)
xor-bit x y w = rw (xor_shr x y w) (xor_mod (x / 2 ^ w) (y / 2 ^ w) 1)

-- where they differ, their exclusive or has a 1
pub differs-one : (image : List ℕ) (byte k : ℕ) → differs image byte k ≡ one_at (bit_xor (get_or (bitmap_of image) (bit_byte k) 0) byte) ((k - 1) % 8)
unfolding differs one_at bit_of bit_weight bit_place
differs-one image byte k =
    let b = get_or (bitmap_of image) (bit_byte k) 0 in
    let w = 7 - (k - 1) % 8 in
    two-bits (b / 2 ^ w % 2) (byte / 2 ^ w % 2) (mod-lt _ (zero-lt-suc 1)) (mod-lt _ (zero-lt-suc 1))
    ∙ ap (λ (n : ℕ). eqb n 1) (sym (xor-bit b byte w) ∙ ap (λ (n : ℕ). n % 2) (sym (high_bit (bit_xor b byte) ((k - 1) % 8) (omega arith))))

-- another byte differs somewhere
pub xor-pos : (x y : ℕ) → (x ≡ y → ⊥) → 0 < bit_xor x y
xor-pos x y d = go (dec_le 1 (bit_xor x y))
  where
    go : Dec (1 ≤ bit_xor x y) → 0 < bit_xor x y
    go (yes h) = h
    go (no h) = absurd (d (omega (arith, h, xor_add_and x y, and_le_l x y, and_le_r x y)))

pub alike-passed : (image : List ℕ) (byte k : ℕ) → get_or (bitmap_of image) (bit_byte k) 0 ≡ byte → differs image byte k ≡ false
unfolding differs bit_of
alike-passed image byte k e = rw (e, eq-eqb (byte / bit_weight k % 2) (byte / bit_weight k % 2) refl)

-- ---- which blocks differ

pub differs-from-zero : (image : List ℕ) (k : ℕ) → differs image 0 k ≡ not (allocated image k)
unfolding differs allocated allocated_in
differs-from-zero image k = rw zero-div

pub differs-from-ones : (image : List ℕ) (k : ℕ) → differs image 255 k ≡ allocated image k
unfolding differs allocated allocated_in bit_of bit_weight bit_place
differs-from-ones image k =
    rw (ones_below 8 (7 - (k - 1) % 8) (omega arith)) (go (get_or (bitmap_of image) (bit_byte k) 0 / 2 ^ (7 - (k - 1) % 8) % 2) (mod-lt _ (zero-lt-suc 1)))
  where
    go : (n : ℕ) → n < 2 → not (eqb n 1) ≡ eqb n 0
    go zero h = refl
    go (suc zero) h = refl
    go (suc (suc n)) h = absurd (omega arith)
