-- A chain that a delete walks along.
-- Assumes nothing.
use Rattle.std.specs.Prelude.{ℕ, ◌≡◌, List}
use Rattle.std.specs.Prelude.{Some}
use Rattle.words.specs.Lists.{Distinct}
use Rattle.card_model.specs.Files.{chain}

-- The chain from block b is there and repeats no block: freeing one of its blocks leaves the rest of it.
pub record SoundChain (table : List ℕ) (left b : ℕ) (blocks : List ℕ) : Type 0 where
  pub is_chain : chain table left b ≡ Some blocks
  pub no_repeat : Distinct blocks
