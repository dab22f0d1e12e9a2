-- How a loop goes through a range: one number more at a time, up to an end. Assumes nothing.
use Prim.Native.Nat.{ℕ, zero, suc, ◌+◌, ◌-◌, ◌≤◌, ◌<◌}
use mathlib.Core.Path.{◌≡◌, ap, ◌∙◌}
use mathlib.Core.Bool.{Bool, true, false}
use mathlib.Core.List.{[], ◌∷◌}
use Rattle.std.specs.Prelude.{None, Some}
use native.Mathlib.Omega.{arith}
use Rattle.words.specs.Lists.{any_of, numbers_from}
use Rattle.words.specs.Search.{highest, lowest}

module _ (p : ℕ → Bool) (k e : ℕ) where
  -- what is left of a range is a number and what is left then
  left-next : k < e → e - k ≡ suc (e - (k + 1))
  left-next h = omega arith

  left-none : e ≤ k → e - k ≡ 0
  left-none h = omega arith

  pub numbers-next : k < e → numbers_from k (e - k) ≡ k ∷ numbers_from (k + 1) (e - (k + 1))
  numbers-next h = ap (numbers_from k) (left-next h) ∙ ap (λ (j : ℕ). k ∷ numbers_from j (e - (k + 1))) (omega arith)

  pub numbers-end : e ≤ k → numbers_from k (e - k) ≡ []
  numbers-end h = ap (numbers_from k) (left-none h)

  pub any_here : k < e → p k ≡ true → any_of p (numbers_from k (e - k)) ≡ true
  any_here h q = ap (any_of p) (numbers-next h) ∙ rw q

  pub any_next : k < e → p k ≡ false → any_of p (numbers_from k (e - k)) ≡ any_of p (numbers_from (k + 1) (e - (k + 1)))
  any_next h q = ap (any_of p) (numbers-next h) ∙ rw q

  pub any-end : e ≤ k → any_of p (numbers_from k (e - k)) ≡ false
  any-end h = ap (any_of p) (numbers-end h)

  pub lowest-here : k < e → p k ≡ true → lowest p k (e - k) ≡ Some k
  lowest-here h q = ap (lowest p k) (left-next h) ∙ rw q

  pub lowest-next : k < e → p k ≡ false → lowest p k (e - k) ≡ lowest p (k + 1) (e - (k + 1))
  lowest-next h q =
      let f : suc k ≡ k + 1 = omega arith in
      ap (lowest p k) (left-next h) ∙ rw q (ap (λ (j : ℕ). lowest p j (e - (k + 1))) f)

  pub lowest-end : e ≤ k → lowest p k (e - k) ≡ None
  lowest-end h = ap (lowest p k) (left-none h)

-- ---- downwards

pub highest-here : (p : ℕ → Bool) (k : ℕ) → 0 < k → p k ≡ true → highest p k ≡ Some k
highest-here p zero h q = absurd (omega arith)
highest-here p (suc k) h q = rw q

pub highest-next : (p : ℕ → Bool) (k : ℕ) → 0 < k → p k ≡ false → highest p k ≡ highest p (k - 1)
highest-next p zero h q = absurd (omega arith)
highest-next p (suc k) h q =
    let e : k ≡ suc k - 1 = omega arith in
    rw q (ap (highest p) e)

pub highest-end : (p : ℕ → Bool) (k : ℕ) → k ≤ 0 → highest p k ≡ None
highest-end p k h =
    let e : k ≡ 0 = omega arith in
    ap (highest p) e
