-- A machine word shifted left by its own width, with P taken off until it fits again: a fold, said once over the width.
-- Assumes nothing.
use Prim.Native.Nat.{ℕ, ◌+◌, ◌-◌, ◌*◌, ◌/◌, ◌%◌, ◌^◌, ◌<◌, ◌≤◌}
use mathlib.Core.Path.{◌≡◌, refl, sym, ap, ap₂, ◌∙◌, subst, subst⁻¹}
use mathlib.Core.Logic.{◌⊎◌, inl, inr}
use mathlib.Core.List.{[], ◌∷◌}
use native.Mathlib.Nat.{add_comm, add_assoc, mod-lt, mod-eq_of_lt, lt_of_lt_of_le, div-eq_of_lt, div-add-mod', mul-div-mul_right}
use native.Mathlib.Omega.{arith}
use lib.Dec.{lit≤}
use lib.Bits.{bit_xor, bit_and, and_mask, xor_lt, xor_shr, xor_mod}
use lib.Pow.{shr_le, pow_pos, pow_mono, pow-add, shr-shr, shr_lt}
use Rattle.checksum.specs.Crc.{shifts}
use Rattle.checksum.specs.Polynomial.{rem}
use Rattle.checksum.proofs.XorSolver.{var, both, solve}
use Rattle.checksum.proofs.RemainderLaws.{rem_lt, rem-xor, rem-cat, rem-shl, rem-more}
use Rattle.checksum.proofs.RuleLaws.{Rule, sum-shifts, rule-16, rule-32, rule-64}

-- ---- a word of e + k digits shifted left by k, and kept to its width
pub rem-shl-word : (e k q : ℕ) → q < 2 ^ (e + k)
    → rem (e + k) (q * 2 ^ k % 2 ^ (e + k)) ≡ bit_xor (shifts k (rem (e + k) q)) (shifts (e + k) (rem (e + k) (q / 2 ^ e)))
rem-shl-word e k q h =
    let w = e + k in
    let high = q / 2 ^ e in
    let low = q * 2 ^ k % 2 ^ w in
    let top : q * 2 ^ k / 2 ^ w ≡ high =
    ap (λ (x : ℕ). q * 2 ^ k / x) (pow-add 2 e k) ∙ mul-div-mul_right q (2 ^ e) (pow_pos k) in
    let parts : high * 2 ^ w + low ≡ q * 2 ^ k =
    ap (λ (x : ℕ). x * 2 ^ w + low) (sym top) ∙ div-add-mod' (q * 2 ^ k) (2 ^ w) in
    let small : high < 2 ^ k = shr_lt k e (subst (λ (x : ℕ). q < 2 ^ x) (add_comm e k) h) in
    let all : bit_xor (shifts w (rem k high)) (rem w low) ≡ shifts k (rem w q) =
    sym (rem-cat k w high low (mod-lt (q * 2 ^ k) (pow_pos w))) ∙ ap (rem (k + w)) parts
    ∙ ap (λ (x : ℕ). rem x (q * 2 ^ k)) (add_comm k w) ∙ rem-shl w k q in
    let hi : rem k high ≡ rem w high = sym (rem-more e k high small) in
    solve (shifts w (rem k high) ∷ rem w low ∷ []) (var 1) (both (both (var 0) (var 1)) (var 0)) refl
    ∙ ap₂ bit_xor all (ap (shifts w) hi)

-- ---- the fold of a word a of 4 s digits
module _ (s e a : ℕ) where
  abbrev once : ℕ
  once = bit_xor a (a / 2 ^ s)

  abbrev pub quotient : ℕ
  quotient = bit_xor (bit_xor once (once / 2 ^ (s + s))) (a / 2 ^ e)

  gone : a < 2 ^ (s + s + (s + s)) → (k : ℕ) → s + s + (s + s) ≤ k → a / 2 ^ k ≡ 0
  gone h k le = div-eq_of_lt (lt_of_lt_of_le h (pow_mono le))

  once-shr : (k : ℕ) → once / 2 ^ k ≡ bit_xor (a / 2 ^ k) (a / 2 ^ (s + k))
  once-shr k = xor_shr a (a / 2 ^ s) k ∙ ap (bit_xor (a / 2 ^ k)) (shr-shr a s k)

  quotient-shr : (k : ℕ) → quotient / 2 ^ k
      ≡ bit_xor (bit_xor (bit_xor (a / 2 ^ k) (a / 2 ^ (s + k))) (bit_xor (a / 2 ^ (s + s + k)) (a / 2 ^ (s + (s + s + k))))) (a / 2 ^ (e + k))
  quotient-shr k =
      xor_shr (bit_xor once (once / 2 ^ (s + s))) (a / 2 ^ e) k
      ∙ ap₂ bit_xor
      (xor_shr once (once / 2 ^ (s + s)) k ∙ ap₂ bit_xor (once-shr k) (shr-shr once (s + s) k ∙ once-shr (s + s + k)))
      (shr-shr a e k)

  -- the quotient undoes it
  pub quotient-back : a < 2 ^ (s + s + (s + s)) → s + s ≤ e → bit_xor (bit_xor quotient (quotient / 2 ^ e)) (quotient / 2 ^ s) ≡ a
  quotient-back h le =
      let a1 = a / 2 ^ s in
      let a2 = a / 2 ^ (s + s) in
      let a3 = a / 2 ^ (s + (s + s)) in
      let b0 = a / 2 ^ e in
      let b1 = a / 2 ^ (e + s) in
      let q0 : quotient ≡ bit_xor (bit_xor (bit_xor a a1) (bit_xor a2 a3)) b0 = ap (λ (x : ℕ). bit_xor (bit_xor once x) b0) (once-shr (s + s)) in
      let at : (i j : ℕ) → i ≡ j → a / 2 ^ i ≡ a / 2 ^ j = λ i j p. ap (λ (x : ℕ). a / 2 ^ x) p in
      let qe : quotient / 2 ^ e ≡ bit_xor (bit_xor (bit_xor b0 b1) (bit_xor 0 0)) 0 =
      quotient-shr e
      ∙ ap₂ (λ (x y : ℕ). bit_xor (bit_xor (bit_xor b0 x) y) (a / 2 ^ (e + e))) (at (s + e) (e + s) (add_comm s e))
      (ap₂ bit_xor (gone h (s + s + e) (omega arith)) (gone h (s + (s + s + e)) (omega arith)))
      ∙ ap (bit_xor (bit_xor (bit_xor b0 b1) (bit_xor 0 0))) (gone h (e + e) (omega arith)) in
      let qs : quotient / 2 ^ s ≡ bit_xor (bit_xor (bit_xor a1 a2) (bit_xor a3 0)) b1 =
      quotient-shr s
      ∙ ap₂ (λ (x y : ℕ). bit_xor (bit_xor (bit_xor a1 a2) (bit_xor x y)) b1) (at (s + s + s) (s + (s + s)) (add_assoc s s s))
      (gone h (s + (s + s + s)) (omega arith)) in
      ap₂ bit_xor (ap₂ bit_xor q0 qe) qs
      ∙ solve (a ∷ a1 ∷ a2 ∷ a3 ∷ b0 ∷ b1 ∷ 0 ∷ [])
      (both (both (both (both (both (var 0) (var 1)) (both (var 2) (var 3))) (var 4)) (both (both (both (var 4) (var 5)) (both (var 6) (var 6))) (var 6)))
      (both (both (both (var 1) (var 2)) (both (var 3) (var 6))) (var 5)))
      (var 0) refl

-- the quotient keeps to the width
pub quotient-lt : (w s e a : ℕ) → a < 2 ^ w → quotient s e a < 2 ^ w
quotient-lt w s e a h =
    let once = bit_xor a (a / 2 ^ s) in
    let once-w : once < 2 ^ w = xor_lt w a (a / 2 ^ s) h (omega (arith, shr_le a s)) in
    xor_lt w (bit_xor once (once / 2 ^ (s + s))) (a / 2 ^ e)
    (xor_lt w once (once / 2 ^ (s + s)) once-w (omega (arith, shr_le once (s + s)))) (omega (arith, shr_le a e))

-- and so does the fold
pub fold-lt : (w s e i d a : ℕ) → a < 2 ^ w
    → bit_xor (bit_xor (quotient s e a) (quotient s e a * 2 ^ d % 2 ^ w)) (quotient s e a * 2 ^ i % 2 ^ w) < 2 ^ w
fold-lt w s e i d a h =
    let q = quotient s e a in
    xor_lt w (bit_xor q (q * 2 ^ d % 2 ^ w)) (q * 2 ^ i % 2 ^ w)
    (xor_lt w q (q * 2 ^ d % 2 ^ w) (quotient-lt w s e a h) (mod-lt (q * 2 ^ d) (pow_pos w))) (mod-lt (q * 2 ^ i) (pow_pos w))

-- the fold: what is left of q, q shifted by d and q shifted by i, is w shifts of a
pub fold : (w s e i d : ℕ) → w ≡ s + s + (s + s) → w ≡ e + d → w ≡ s + i → s + s ≤ e → Rule w i d → (a : ℕ) → a < 2 ^ w
    → rem w (bit_xor (bit_xor (quotient s e a) (quotient s e a * 2 ^ d % 2 ^ w)) (quotient s e a * 2 ^ i % 2 ^ w)) ≡ shifts w (rem w a)
fold w s e i d w4 wd wi le known a h =
    let q = quotient s e a in
    let r = rem w q in
    let hw : a < 2 ^ (s + s + (s + s)) = subst (λ (x : ℕ). a < 2 ^ x) w4 h in
    let hq : q < 2 ^ w = quotient-lt w s e a h in
    let by-d : rem w (q * 2 ^ d % 2 ^ w) ≡ bit_xor (shifts d r) (shifts w (rem w (q / 2 ^ e))) =
    subst (λ (x : ℕ). q < 2 ^ x → rem x (q * 2 ^ d % 2 ^ x) ≡ bit_xor (shifts d (rem x q)) (shifts x (rem x (q / 2 ^ e)))) (sym wd) (rem-shl-word e d q) hq in
    let by-i : rem w (q * 2 ^ i % 2 ^ w) ≡ bit_xor (shifts i r) (shifts w (rem w (q / 2 ^ s))) =
    subst (λ (x : ℕ). q < 2 ^ x → rem x (q * 2 ^ i % 2 ^ x) ≡ bit_xor (shifts i (rem x q)) (shifts x (rem x (q / 2 ^ s)))) (sym wi) (rem-shl-word s i q) hq in
    let re = rem w (q / 2 ^ e) in
    let rs = rem w (q / 2 ^ s) in
    rem-xor w (bit_xor q (q * 2 ^ d % 2 ^ w)) (q * 2 ^ i % 2 ^ w)
    ∙ ap₂ bit_xor (rem-xor w q (q * 2 ^ d % 2 ^ w) ∙ ap (bit_xor r) by-d) by-i
    ∙ solve (r ∷ shifts d r ∷ shifts w re ∷ shifts i r ∷ shifts w rs ∷ [])
    (both (both (var 0) (both (var 1) (var 2))) (both (var 3) (var 4)))
    (both (both (both (both (var 3) (var 1)) (var 0)) (var 2)) (var 4)) refl
    ∙ ap (λ (x : ℕ). bit_xor (bit_xor x (shifts w re)) (shifts w rs)) (sym (known r (rem_lt w q)))
    ∙ sym (sum-shifts w r re rs (rem_lt w q) (rem_lt w (q / 2 ^ e)) (rem_lt w (q / 2 ^ s)))
    ∙ ap (shifts w)
    (ap (λ (x : ℕ). bit_xor x rs) (sym (rem-xor w q (q / 2 ^ e))) ∙ sym (rem-xor w (bit_xor q (q / 2 ^ e)) (q / 2 ^ s))
    ∙ ap (rem w) (quotient-back s e a hw le))

-- ---- the fold as the code has it, in a machine word of 64 digits
abbrev folded : ℕ → ℕ → ℕ
folded w a =
    let n = w / 16 in
    let t = bit_xor a (a / 2 ^ (4 * n)) in
    let q = bit_xor (bit_xor t (t / 2 ^ (8 * n))) (a / 2 ^ (11 * n)) in
    bit_and (bit_xor (bit_xor q (q * 2 ^ (5 * n) % 18446744073709551616)) (q * 2 ^ (12 * n) % 18446744073709551616)) (18446744073709551615 / 2 ^ (64 - w))

kept : (w s e i d : ℕ) → w ≡ s + s + (s + s) → w ≡ e + d → w ≡ s + i → s + s ≤ e → Rule w i d → ((x : ℕ) → x % 18446744073709551616 % 2 ^ w ≡ x % 2 ^ w) → (a : ℕ) → a < 2 ^ w
    → rem w (bit_and (bit_xor (bit_xor (quotient s e a) (quotient s e a * 2 ^ d % 18446744073709551616)) (quotient s e a * 2 ^ i % 18446744073709551616)) (2 ^ w - 1)) ≡ shifts w (rem w a)
kept w s e i d w4 wd wi le known low a h =
    let q = quotient s e a in
    let x = q * 2 ^ d % 18446744073709551616 in
    let y = q * 2 ^ i % 18446744073709551616 in
    ap (rem w)
    (and_mask (bit_xor (bit_xor q x) y) w ∙ xor_mod (bit_xor q x) y w
    ∙ ap₂ bit_xor (xor_mod q x w ∙ ap₂ bit_xor (mod-eq_of_lt (quotient-lt w s e a h)) (low (q * 2 ^ d))) (low (q * 2 ^ i)))
    ∙ fold w s e i d w4 wd wi le known a h

abbrev Folds : ℕ → Type 0
Folds w = (a : ℕ) → a < 2 ^ w → rem w (folded w a) ≡ shifts w (rem w a)

pub fold-kept : (w : ℕ) → (w ≡ 16) ⊎ ((w ≡ 32) ⊎ (w ≡ 64)) → Folds w
fold-kept w (inl e) = subst⁻¹ Folds e (kept 16 4 11 12 5 refl refl refl (lit≤ tt) rule-16 (λ x. omega arith))
fold-kept w (inr (inl e)) = subst⁻¹ Folds e (kept 32 8 22 24 10 refl refl refl (lit≤ tt) rule-32 (λ x. omega arith))
fold-kept w (inr (inr e)) = subst⁻¹ Folds e (kept 64 16 44 48 20 refl refl refl (lit≤ tt) rule-64 (λ x. omega arith))
