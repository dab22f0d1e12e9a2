-- The number that several bytes of a run make, big endian.
-- Assumes nothing.
use Rattle.std.specs.Prelude.{ℕ, zero, suc, ◌+◌, ◌/◌, ◌%◌, ◌≡◌, List, get_or}

-- w is the number that the n bytes of s from `at` make, big endian; each of them is below 256
abbrev pub BigMade : ℕ → List ℕ → ℕ → ℕ → Type 0
BigMade zero s at w = w ≡ 0
BigMade (suc n) s at w = BigMade n s at (w / 256) × (get_or s (at + n) 0 ≡ w % 256)

-- the same under a name that tells its arguments
pub record Big (n : ℕ) (s : List ℕ) (at w : ℕ) : Type 0 where
  pub says : BigMade n s at w
