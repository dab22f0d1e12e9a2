-- The shift keeps 16 bits and is linear over the exclusive or; several shifts in turn.
-- Assumes nothing.
use Prim.Native.Nat.{ℕ, zero, suc, ◌+◌, ◌*◌, ◌/◌, ◌%◌, ◌<◌}
use mathlib.Core.Bool.{Bool, true, false, cond}
use mathlib.Core.Path.{◌≡◌, refl, sym, ap, ap₂, ◌∙◌}
use mathlib.Core.List.{[], ◌∷◌}
use native.Mathlib.Nat.{mod-eq_of_lt, mod-lt, zero-add, suc-add, add_comm}
use native.Mathlib.Omega.{arith}
use borrow.Author.Tests.{lt-leb, leb-true, leb-false}
use lib.Dec.{leb, lit<}
use lib.Bits.{bit_xor, xor_lt, xor_shr, xor_mod, xor_zero_r}
use Rattle.checksum.specs.Crc.{shift, shifts}
use Rattle.checksum.proofs.XorLaws.{xor-shl}
use Rattle.checksum.proofs.XorSolver.{var, both, solve}

-- 4129 is added where the top bit falls out
abbrev added : Bool → ℕ → ℕ
added t n = cond t (bit_xor n 4129) n

added-lt : (t : Bool) (n : ℕ) → n < 65536 → added t n < 65536
added-lt true n h = xor_lt 16 n 4129 h (lit< tt)
added-lt false n h = h

pub shift-lt : (n : ℕ) → shift n < 65536
unfolding shift
shift-lt n = added-lt (leb 32768 n) (n * 2 % 65536) (mod-lt (n * 2) (lit< tt))

pub shifts-lt : (k n : ℕ) → n < 65536 → shifts k n < 65536
unfolding shifts
shifts-lt zero n h = h
shifts-lt (suc k) n h = shift-lt (shifts k n)

shift_split : (n : ℕ) → n < 65536 → shift n ≡ bit_xor (n * 2 % 65536) (n / 32768 * 4129)
unfolding shift
shift_split n h = by (leb 32768 n) refl
  where
    by : (t : Bool) → leb 32768 n ≡ t → added t (n * 2 % 65536) ≡ bit_xor (n * 2 % 65536) (n / 32768 * 4129)
    by true e =
        let one : n / 32768 ≡ 1 = omega (arith, leb-true 32768 n e) in
        ap (λ (x : ℕ). bit_xor (n * 2 % 65536) (x * 4129)) (sym one)
    by false e =
        let None : n / 32768 ≡ 0 = omega (arith, leb-false 32768 n e) in
        sym (ap (λ (x : ℕ). bit_xor (n * 2 % 65536) (x * 4129)) None ∙ xor_zero_r (n * 2 % 65536))

bits-times : (x y : ℕ) → x < 2 → y < 2 → bit_xor x y * 4129 ≡ bit_xor (x * 4129) (y * 4129)
bits-times zero y hx hy = refl
bits-times (suc zero) zero hx hy = refl
bits-times (suc zero) (suc zero) hx hy = refl
bits-times (suc zero) (suc (suc y)) hx hy = absurd (omega arith)
bits-times (suc (suc x)) y hx hy = absurd (omega arith)

pub shift-xor : (a b : ℕ) → a < 65536 → b < 65536 → shift (bit_xor a b) ≡ bit_xor (shift a) (shift b)
shift-xor a b ha hb =
    let rest : bit_xor a b * 2 % 65536 ≡ bit_xor (a * 2 % 65536) (b * 2 % 65536) =
    ap (λ (x : ℕ). x % 65536) (xor-shl a b 1) ∙ xor_mod (a * 2) (b * 2) 16 in
    let top : bit_xor a b / 32768 * 4129 ≡ bit_xor (a / 32768 * 4129) (b / 32768 * 4129) =
    ap (λ (x : ℕ). x * 4129) (xor_shr a b 15) ∙ bits-times (a / 32768) (b / 32768) (omega arith) (omega arith) in
    shift_split (bit_xor a b) (xor_lt 16 a b ha hb) ∙ ap₂ bit_xor rest top
    ∙ solve (a * 2 % 65536 ∷ b * 2 % 65536 ∷ a / 32768 * 4129 ∷ b / 32768 * 4129 ∷ [])
    (both (both (var 0) (var 1)) (both (var 2) (var 3))) (both (both (var 0) (var 2)) (both (var 1) (var 3))) refl
    ∙ sym (ap₂ bit_xor (shift_split a ha) (shift_split b hb))

pub shift_small : (n : ℕ) → n < 32768 → shift n ≡ n * 2
unfolding shift
shift_small n h = ap (λ (t : Bool). added t (n * 2 % 65536)) (lt-leb 32768 n h) ∙ mod-eq_of_lt (omega arith)

-- ---- several shifts
pub shifts-xor : (k a b : ℕ) → a < 65536 → b < 65536 → shifts k (bit_xor a b) ≡ bit_xor (shifts k a) (shifts k b)
unfolding shifts
shifts-xor zero a b ha hb = refl
shifts-xor (suc k) a b ha hb =
    ap shift (shifts-xor k a b ha hb) ∙ shift-xor (shifts k a) (shifts k b) (shifts-lt k a ha) (shifts-lt k b hb)

pub shifts-add : (j k n : ℕ) → shifts (j + k) n ≡ shifts j (shifts k n)
unfolding shifts
shifts-add zero k n = ap (λ (x : ℕ). shifts x n) (zero-add k)
shifts-add (suc j) k n = ap (λ (x : ℕ). shifts x n) (suc-add j k) ∙ ap shift (shifts-add j k n)

pub shifts-swap : (j k n : ℕ) → shifts j (shifts k n) ≡ shifts k (shifts j n)
shifts-swap j k n = sym (shifts-add j k n) ∙ ap (λ (x : ℕ). shifts x n) (add_comm j k) ∙ shifts-add k j n

pub shifts-zero : (k : ℕ) → shifts k 0 ≡ 0
unfolding shifts shift
shifts-zero zero = refl
shifts-zero (suc k) = ap shift (shifts-zero k)
