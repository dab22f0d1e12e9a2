-- The search for a number's contents, as it goes down the blocks.
-- Assumes nothing.
use Rattle.std.specs.Prelude.{ℕ, zero, suc, ◌-◌, ◌≤◌, ◌<◌, ◌≡◌, Bool, true, false, ◌||◌, List, eqb, Option}
use Rattle.words.specs.Search.{highest}
use Rattle.flash_model.specs.UserBlock.{number}
use Rattle.flash_model.specs.Partition.{block_at, copy_at}

-- The highest of the blocks 1 to k that has the number and a right checksum.
unfoldable pub found_up_to : List ℕ → ℕ → ℕ → Option ℕ
found_up_to image n k = highest (copy_at image n) k

-- One of the blocks k, k - 1 and on, j of them, has the number.
unfoldable pub any_numbered : List ℕ → ℕ → ℕ → ℕ → Bool
any_numbered image n k zero = false
any_numbered image n k (suc j) = any_numbered image n k j || eqb (number (block_at image (k - j))) n

-- The search down from `top` comes to r, which has the number.
pub record NextNumbered (image : List ℕ) (n top r : ℕ) : Type 0 where
  pub below : r ≤ top
  pub same : found_up_to image n top ≡ found_up_to image n r
  pub is_block : 0 < r
  pub has_number : eqb (number (block_at image r)) n ≡ true
