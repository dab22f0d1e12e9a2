-- One part of a card is put anew; cards that differ only at named places. A card is the list of its bytes.
-- Assumes nothing.
use Rattle.std.specs.Prelude.{ℕ, ◌+◌, ◌≤◌, ◌<◌, ◌≡◌, List, ◌++◌, length, get_or, take, drop}
use Rattle.words.specs.Words.{word_bytes}
use Rattle.card_model.specs.Layout.{block_place, fat_place, entry_place}

-- The card with these bytes from this place on.
unfoldable pub with_part : List ℕ → ℕ → List ℕ → List ℕ
with_part card at part = take at card ++ (part ++ drop (at + length part) card)

-- The card with this table entry of block b: "two bytes per block".
unfoldable pub with_link : List ℕ → ℕ → ℕ → List ℕ
with_link card b e = with_part card (fat_place b) (word_bytes e)

-- Byte k is one of the n bytes from this place on,
abbrev pub Within : ℕ → ℕ → ℕ → Type 0
Within at n k = (at ≤ k) × (k < at + n)

-- of block b, of the table entry of block b, of directory entry i, or its copy flag.
abbrev pub InBlock : ℕ → ℕ → Type 0
InBlock b k = Within (block_place b) 512 k

abbrev pub InLink : ℕ → ℕ → Type 0
InLink b k = Within (fat_place b) 2 k

abbrev pub InEntry : ℕ → ℕ → Type 0
InEntry i k = Within (entry_place i) 32 k

abbrev pub InFlag : ℕ → ℕ → Type 0
InFlag i k = Within (entry_place i + 1) 1 k

-- "no byte changes that isn't named": the cards are equal but for the bytes at these places.
pub record OnlyAt (place : ℕ → Type 0) (card after : List ℕ) : Type 0 where
  pub same_length : length after ≡ length card
  pub same_byte : (k : ℕ) → (place k → ⊥) → get_or after k 0 ≡ get_or card k 0
