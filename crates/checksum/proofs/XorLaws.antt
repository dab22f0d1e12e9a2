-- Laws of the exclusive or that `lib.Bits` lacks.
-- Assumes nothing.
use Prim.Native.Nat.{ℕ, zero, suc, ◌+◌, ◌-◌, ◌*◌, ◌/◌, ◌%◌, ◌^◌, ◌<◌}
use mathlib.Core.Path.{◌≡◌, refl, sym, ap, ap₂, ◌∙◌}
use native.Mathlib.Nat.{mod-lt, zero-lt-suc, add-zero, div-add-mod', mod-eq_of_lt}
use native.Mathlib.Omega.{arith}
use lib.Arith.{bin_ind}
use lib.Bits.{bit_xor, bit_and, and_mask, xor_add_and, xor_shr, xor_mod, xor_block}
use lib.Pow.{pow_pos}

-- at single bits, case by case
bit-assoc : (x y z : ℕ) → x < 2 → y < 2 → z < 2 → bit_xor (bit_xor x y) z ≡ bit_xor x (bit_xor y z)
bit-assoc zero y z hx hy hz = refl
bit-assoc (suc zero) zero z hx hy hz = refl
bit-assoc (suc zero) (suc zero) zero hx hy hz = refl
bit-assoc (suc zero) (suc zero) (suc zero) hx hy hz = refl
bit-assoc (suc zero) (suc zero) (suc (suc z)) hx hy hz = absurd (omega arith)
bit-assoc (suc zero) (suc (suc y)) z hx hy hz = absurd (omega arith)
bit-assoc (suc (suc x)) y z hx hy hz = absurd (omega arith)

-- two numbers are equal when their halves and their last digits are
same_digits : (x y : ℕ) → x / 2 ≡ y / 2 → x % 2 ≡ y % 2 → x ≡ y
same_digits x y p q = sym (div-add-mod' x 2) ∙ ap₂ (λ (h d : ℕ). h * 2 + d) p q ∙ div-add-mod' y 2

pub xor_assoc : (a b c : ℕ) → bit_xor (bit_xor a b) c ≡ bit_xor a (bit_xor b c)
xor_assoc a =
    bin_ind (λ (n : ℕ). (b c : ℕ) → bit_xor (bit_xor n b) c ≡ bit_xor n (bit_xor b c)) (λ b c. refl)
    (λ n ih b c.
    same_digits (bit_xor (bit_xor n b) c) (bit_xor n (bit_xor b c))
    (xor_shr (bit_xor n b) c 1 ∙ ap (λ (x : ℕ). bit_xor x (c / 2)) (xor_shr n b 1) ∙ ih (b / 2) (c / 2)
    ∙ ap (bit_xor (n / 2)) (sym (xor_shr b c 1)) ∙ sym (xor_shr n (bit_xor b c) 1))
    (xor_mod (bit_xor n b) c 1 ∙ ap (λ (x : ℕ). bit_xor x (c % 2)) (xor_mod n b 1)
    ∙ bit-assoc (n % 2) (b % 2) (c % 2) (mod-lt n (zero-lt-suc 1)) (mod-lt b (zero-lt-suc 1)) (mod-lt c (zero-lt-suc 1))
    ∙ ap (bit_xor (n % 2)) (sym (xor_mod b c 1)) ∙ sym (xor_mod n (bit_xor b c) 1))) a

-- a shift left passes through
pub xor-shl : (a b k : ℕ) → bit_xor a b * 2 ^ k ≡ bit_xor (a * 2 ^ k) (b * 2 ^ k)
xor-shl a b k =
    sym (ap₂ bit_xor (sym (add-zero (a * 2 ^ k))) (sym (add-zero (b * 2 ^ k))) ∙ xor_block k a b 0 0 (pow_pos k) (pow_pos k)
    ∙ add-zero (bit_xor a b * 2 ^ k))

-- digits turned are those of the difference to all ones
pub xor_ones : (k n : ℕ) → n < 2 ^ k → 2 ^ k - 1 - n ≡ bit_xor n (2 ^ k - 1)
xor_ones k n h =
    let ones = 2 ^ k - 1 in
    let same : bit_and n ones ≡ n = and_mask n k ∙ mod-eq_of_lt h in
    let sum : bit_xor n ones + bit_and n ones * 2 ≡ n + ones = xor_add_and n ones in
    omega arith
