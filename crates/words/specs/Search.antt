-- Searches over a range of numbers.
-- Assumes nothing.
use Rattle.std.specs.Prelude.{ℕ, zero, suc, Bool, cond}
use Rattle.std.specs.Prelude.{Option, None, Some}

-- The highest of the numbers 1 to n that passes the test, or none.
abbrev pub highest : (ℕ → Bool) → ℕ → Option ℕ
highest p zero = None
highest p (suc n) = cond (p (suc n)) (Some (suc n)) (highest p n)

-- The lowest of the n numbers from k upwards that passes the test, or none.
abbrev pub lowest : (ℕ → Bool) → ℕ → ℕ → Option ℕ
lowest p k zero = None
lowest p k (suc n) = cond (p k) (Some k) (lowest p (suc k) n)
