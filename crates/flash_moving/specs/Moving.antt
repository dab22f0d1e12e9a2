-- Blocks of a rising list moved down in place. Assumes nothing.
use Rattle.std.specs.Prelude.{ℕ, suc, ◌+◌, ◌*◌, ◌≤◌, ◌≡◌, List, [], ◌∷◌, ◌++◌, map, length, take}
use Rattle.words.specs.Lists.{concat}
use Rattle.flash_model.specs.Partition.{block_at}

-- The blocks rise, none is below `low`, and each lies within the first `bytes` bytes.
abbrev pub RisingBlocks : ℕ → ℕ → List ℕ → Type 0
RisingBlocks low bytes [] = Unit {0}
RisingBlocks low bytes (k ∷ l) = (low ≤ k) × ((k * 64 + 64 ≤ bytes) × RisingBlocks (suc k) bytes l)

-- The listed blocks stand at 1, 2, 3 and on.
pub record AllMoved (kept image image' : List ℕ) (next : ℕ) : Type 0 where
  pub front_is : take (next * 64) image' ≡ take 64 image ++ concat (map (block_at image) kept)
  pub next_is : next ≡ suc (length kept)
  pub same_length : length image' ≡ length image
