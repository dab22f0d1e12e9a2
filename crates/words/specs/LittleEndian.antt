-- The number that several bytes of a run make, little endian.
-- Assumes nothing.
use Rattle.std.specs.Prelude.{ℕ, zero, suc, ◌+◌, ◌*◌, ◌/◌, ◌%◌, ◌≡◌, List, get_or}

-- w is the number that the n bytes of s from `at` make, little endian; each of them is below 256
abbrev pub LittleMade : ℕ → List ℕ → ℕ → ℕ → Type 0
LittleMade zero s at w = w ≡ 0
LittleMade (suc n) s at w = (get_or s at 0 ≡ w % 256) × LittleMade n s (at + 1) (w / 256)

-- the same under a name that tells its arguments
pub record Little (n : ℕ) (s : List ℕ) (at w : ℕ) : Type 0 where
  pub says : LittleMade n s at w

-- the number that n bytes make that are all b
abbrev pub repeated : ℕ → ℕ → ℕ
repeated b zero = 0
repeated b (suc n) = repeated b n * 256 + b
