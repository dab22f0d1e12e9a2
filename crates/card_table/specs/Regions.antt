-- A row over a range of blocks, and what a test of them tells.
-- Assumes nothing.
use Rattle.std.specs.Prelude.{ℕ, ◌-◌, Bool, ◌≡◌, ◌≤◌, ◌<◌}
use Rattle.words.specs.Search.{lowest}
use Rattle.verdicts.specs.declared.Place.TheVariants.{Block}
use Rattle.verdicts.specs.Rows.{Verdict}
use Rattle.verdicts.specs.Rows.{row_over}

-- A test whose answers these are answers as p at each block of a range.
abbrev pub Tests : (ℕ → Bool → Type 0) → (ℕ → Bool) → ℕ → ℕ → Type 0
Tests answers p from to = (b : ℕ) → from ≤ b → b < to → (r : Bool) → answers b r → r ≡ p b

-- The number at the first block of a range that passes the test p.
unfoldable pub range_row : ℕ → (ℕ → Bool) → ℕ → ℕ → Verdict
range_row n p from to = row_over n Block (lowest p from (to - from))
