-- The bytes that an operation names, as tests: what the proofs go by. Assumes nothing.
use Prim.Native.Nat.{ℕ, ◌+◌, ◌*◌}
use mathlib.Core.Path.{◌≡◌}
use mathlib.Core.Bool.{Bool, false, ◌&&◌, ◌||◌}
use mathlib.Core.List.{List}
use lib.Dec.{leb, ltb}
use lib.ListN.{length, get_or}
use Rattle.words.specs.Lists.{any_of}
use Rattle.card_model.specs.Layout.{fat_place, entry_place}

-- Byte k is one of the n bytes from this place on.
unfoldable pub in_part : ℕ → ℕ → ℕ → Bool
in_part at n k = leb at k && ltb k (at + n)

-- The cards are equal but for the named bytes.
pub record SameBut (named : ℕ → Bool) (card after : List ℕ) : Type 0 where
  pub same_length : length after ≡ length card
  pub same_byte : (k : ℕ) → named k ≡ false → get_or after k 0 ≡ get_or card k 0

-- The table entries of these blocks.
unfoldable pub in_links : List ℕ → ℕ → Bool
in_links blocks k = any_of (λ b. in_part (fat_place b) 2 k) blocks

unfoldable pub named_by_delete : List ℕ → ℕ → ℕ → Bool
named_by_delete blocks i k = in_links blocks k || in_part (entry_place i) 32 k

-- The bytes and the table entries of these blocks.
unfoldable pub in_blocks : List ℕ → ℕ → Bool
in_blocks blocks k = any_of (λ b. in_part (b * 512) 512 k || in_part (fat_place b) 2 k) blocks

unfoldable pub named_by_write : List ℕ → ℕ → ℕ → Bool
named_by_write blocks i k = in_blocks blocks k || in_part (entry_place i) 32 k
