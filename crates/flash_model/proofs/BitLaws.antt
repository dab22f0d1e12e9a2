-- One bit of a number: b / 2 ^ j % 2. Assumes nothing.
use Prim.Native.Nat.{ℕ, zero, suc, ◌-◌, ◌/◌, ◌%◌, ◌^◌, ◌≤◌, ◌<◌}
use mathlib.Core.Path.{◌≡◌, refl, sym, ap, ◌∙◌}
use native.Mathlib.Omega.{arith}
use native.Mathlib.Nat.{pow-succ', div-div-eq-div-mul, div-eq_of_lt}
use native.Mathlib.Decide.{dec_le}
use lib.Pow.{pow_pos}

abbrev pub bit : ℕ → ℕ → ℕ
bit j b = b / 2 ^ j % 2

pub bit-suc : (j b : ℕ) → bit (suc j) b ≡ bit j (b / 2)
bit-suc j b = rw (pow-succ' 2 j, ← div-div-eq-div-mul b 2 (2 ^ j))

-- a bit that is set is worth at most the number
pub bit_le : (j b : ℕ) → bit j b ≡ 1 → 2 ^ j ≤ b
bit_le j b e = go (dec_le (2 ^ j) b)
  where
    go : Dec (2 ^ j ≤ b) → 2 ^ j ≤ b
    go (yes h) = h
    go (no n) =
        let z : b / 2 ^ j ≡ 0 = div-eq_of_lt (omega arith) in
        let y : (b / 2 ^ j) % 2 ≡ 0 = rw z in
        absurd (omega arith)

halved : (j b : ℕ) → 2 ^ suc j ≤ b → (b - 2 ^ suc j) / 2 ≡ b / 2 - 2 ^ j
halved j b h = omega (arith, pow-succ' 2 j)

pub clear-same : (j b : ℕ) → bit j b ≡ 1 → bit j (b - 2 ^ j) ≡ 0
clear-same zero b e = omega arith
clear-same (suc j) b e =
    bit-suc j (b - 2 ^ suc j) ∙ rw (halved j b (bit_le (suc j) b e)) (clear-same j (b / 2) (sym (bit-suc j b) ∙ e))

pub clear-other : (i j b : ℕ) → bit j b ≡ 1 → (i ≡ j → ⊥) → bit i (b - 2 ^ j) ≡ bit i b
clear-other zero zero b e n = absurd (n refl)
clear-other zero (suc j) b e n =
    let h = bit_le (suc j) b e in
    let p = pow-succ' 2 j in
    omega arith
clear-other (suc i) zero b e n =
    let h : (b - 2 ^ 0) / 2 ≡ b / 2 = omega arith in
    bit-suc i (b - 2 ^ 0) ∙ rw h (sym (bit-suc i b))
clear-other (suc i) (suc j) b e n =
    bit-suc i (b - 2 ^ suc j)
    ∙ rw (halved j b (bit_le (suc j) b e)) (clear-other i j (b / 2) (sym (bit-suc j b) ∙ e) (λ d. n (ap suc d)))
    ∙ sym (bit-suc i b)

-- the bits of a number of ones
pub ones_below : (a j : ℕ) → j < a → bit j (2 ^ a - 1) ≡ 1
ones_below zero j h = absurd (omega arith)
ones_below (suc a) zero h = omega (arith, pow-succ' 2 a, pow_pos a)
ones_below (suc a) (suc j) h =
    let d : (2 ^ suc a - 1) / 2 ≡ 2 ^ a - 1 = omega (arith, pow-succ' 2 a, pow_pos a) in
    bit-suc j (2 ^ suc a - 1) ∙ rw d (ones_below a j (omega arith))
