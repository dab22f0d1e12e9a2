-- The remainder of a number of k digits is linear over the exclusive or, and digits put behind a number shift it.
-- Assumes nothing.
use Prim.Native.Nat.{ℕ, zero, suc, ◌+◌, ◌*◌, ◌/◌, ◌%◌, ◌^◌, ◌<◌, ◌≤◌}
use mathlib.Core.Path.{◌≡◌, refl, sym, ap, ap₂, ◌∙◌}
use mathlib.Core.List.{[], ◌∷◌}
use native.Mathlib.Nat.{mod-lt, add-zero, zero-add, add-suc, zero-mul, div-add-mod', lt_of_lt_of_le, pow-suc}
use native.Mathlib.Omega.{arith}
use lib.Dec.{lit<}
use lib.Bits.{bit_xor, xor_lt, xor_shr, xor_mod, xor_zero_l, xor_zero_r, xor_shifted, block_half, block_odd}
use lib.Pow.{pow_pos, pow_mono}
use Rattle.checksum.specs.Crc.{shift, shifts}
use Rattle.checksum.specs.Polynomial.{rem}
use Rattle.checksum.proofs.XorLaws.{xor_assoc}
use Rattle.checksum.proofs.XorSolver.{var, both, solve}
use Rattle.checksum.proofs.ShiftLaws.{shift-lt, shift-xor, shift_small, shifts-lt, shifts-zero}

bit-lt : (n : ℕ) → n % 2 < 65536
bit-lt n = omega arith

pub rem_lt : (k n : ℕ) → rem k n < 65536
unfolding rem
rem_lt zero n = lit< tt
rem_lt (suc k) n = xor_lt 16 (shift (rem k (n / 2))) (n % 2) (shift-lt (rem k (n / 2))) (bit-lt n)

pub rem-xor : (k a b : ℕ) → rem k (bit_xor a b) ≡ bit_xor (rem k a) (rem k b)
unfolding rem
rem-xor zero a b = refl
rem-xor (suc k) a b =
    let x = rem k (a / 2) in
    let y = rem k (b / 2) in
    ap₂ (λ (h d : ℕ). bit_xor (shift (rem k h)) d) (xor_shr a b 1) (xor_mod a b 1)
    ∙ ap (λ (h : ℕ). bit_xor (shift h) (bit_xor (a % 2) (b % 2))) (rem-xor k (a / 2) (b / 2))
    ∙ ap (λ (h : ℕ). bit_xor h (bit_xor (a % 2) (b % 2))) (shift-xor x y (rem_lt k (a / 2)) (rem_lt k (b / 2)))
    ∙ solve (shift x ∷ shift y ∷ a % 2 ∷ b % 2 ∷ [])
    (both (both (var 0) (var 1)) (both (var 2) (var 3))) (both (both (var 0) (var 2)) (both (var 1) (var 3))) refl

pub rem-zero : (k : ℕ) → rem k 0 ≡ 0
unfolding rem shift
rem-zero zero = refl
rem-zero (suc k) = ap (λ (x : ℕ). bit_xor (shift x) 0) (rem-zero k)

half_lt : (k l : ℕ) → l < 2 ^ suc k → l / 2 < 2 ^ k
half_lt k l h = let e : 2 ^ suc k ≡ 2 ^ k * 2 = pow-suc 2 k in omega arith

-- h is followed by the k digits of l
pub rem-cat : (j k h l : ℕ) → l < 2 ^ k → rem (j + k) (h * 2 ^ k + l) ≡ bit_xor (shifts k (rem j h)) (rem k l)
unfolding rem shifts
rem-cat j zero h l lt =
    let None : l ≡ 0 = omega arith in
    let same : h * 1 + l ≡ h = omega arith in
    ap₂ rem (add-zero j) same ∙ sym (xor_zero_r (rem j h))
rem-cat j (suc k) h l lt =
    let x = shifts k (rem j h) in
    let y = rem k (l / 2) in
    ap (λ (w : ℕ). rem w (h * 2 ^ suc k + l)) (add-suc j k)
    ∙ ap₂ (λ (n d : ℕ). bit_xor (shift (rem (j + k) n)) d) (block_half h k l) (block_odd h k l)
    ∙ ap (λ (n : ℕ). bit_xor (shift n) (l % 2)) (rem-cat j k h (l / 2) (half_lt k l lt))
    ∙ ap (λ (n : ℕ). bit_xor n (l % 2)) (shift-xor x y (shifts-lt k (rem j h) (rem_lt j h)) (rem_lt k (l / 2)))
    ∙ xor_assoc (shift x) (shift y) (l % 2)

pub rem-shl : (j k h : ℕ) → rem (j + k) (h * 2 ^ k) ≡ shifts k (rem j h)
rem-shl j k h =
    ap (rem (j + k)) (sym (add-zero (h * 2 ^ k))) ∙ rem-cat j k h 0 (pow_pos k)
    ∙ ap (bit_xor (shifts k (rem j h))) (rem-zero k) ∙ xor_zero_r (shifts k (rem j h))

-- digits that are 0 in front change nothing
pub rem-more : (j k n : ℕ) → n < 2 ^ k → rem (j + k) n ≡ rem k n
rem-more j k n h =
    ap (rem (j + k)) (sym (ap (λ (x : ℕ). x + n) (zero-mul (2 ^ k)) ∙ zero-add n)) ∙ rem-cat j k 0 n h
    ∙ ap (λ (x : ℕ). bit_xor (shifts k x) (rem k n)) (rem-zero j)
    ∙ ap (λ (x : ℕ). bit_xor x (rem k n)) (shifts-zero k) ∙ xor_zero_l (rem k n)

-- up to 16 digits there is nothing to take off
pub rem-small : (k n : ℕ) → k ≤ 16 → n < 2 ^ k → rem k n ≡ n
unfolding rem
rem-small zero n hk h = let e : n ≡ 0 = omega arith in sym e
rem-small (suc k) n hk h =
    let half = half_lt k n h in
    let low : n / 2 < 32768 = lt_of_lt_of_le half (pow_mono {i = k} {j = 15} (omega arith)) in
    ap (λ (x : ℕ). bit_xor (shift x) (n % 2)) (rem-small k (n / 2) (omega arith) half)
    ∙ ap (λ (x : ℕ). bit_xor x (n % 2)) (shift_small (n / 2) low)
    ∙ xor_shifted (n / 2) 1 (n % 2) (mod-lt n (lit< tt)) ∙ div-add-mod' n 2

-- a number of twice k digits in halves
pub halves : (k a : ℕ) → rem (k + k) a ≡ bit_xor (shifts k (rem k (a / 2 ^ k))) (rem k (a % 2 ^ k))
halves k a = ap (rem (k + k)) (sym (div-add-mod' a (2 ^ k))) ∙ rem-cat k k (a / 2 ^ k) (a % 2 ^ k) (mod-lt a (pow_pos k))
