-- Where things lie on a card: document 01, "Card layout". A card is the list of its bytes. Here alone are places in it named:
-- what reads a card speaks of the root block, of the table and of the directory, and what writes one of these places.
-- Assumes nothing.
use Rattle.std.specs.Prelude.{ℕ, ◌+◌, ◌-◌, ◌*◌, ◌/◌, ◌%◌, List, map, take, drop}
use Rattle.words.specs.Lists.{numbers_from}
use Rattle.words.specs.Words.{word}

-- "256 blocks of 512."
unfoldable pub card_length : ℕ
card_length = 256 * 512

-- Where block b begins.
abbrev pub block_place : ℕ → ℕ
block_place b = b * 512

unfoldable pub block_at : List ℕ → ℕ → List ℕ
block_at card b = take 512 (drop (block_place b) card)

-- "root 255"
unfoldable pub root_of : List ℕ → List ℕ
root_of card = block_at card 255

-- "allocation table 254", "two bytes per block": where the entry of a block is.
unfoldable pub fat_place : ℕ → ℕ
fat_place b = 254 * 512 + 2 * b

-- The table: its 256 entries.
unfoldable pub table_of : List ℕ → List ℕ
table_of card = map (λ b. word card (fat_place b)) (numbers_from 0 256)

-- "entry i is in block 253 - i/16 (whole part) at 32*(i mod 16)"
unfoldable pub entry_block : ℕ → ℕ
entry_block i = 253 - i / 16

unfoldable pub entry_byte : ℕ → ℕ
entry_byte i = 32 * (i % 16)

unfoldable pub entry_place : ℕ → ℕ
entry_place i = entry_block i * 512 + entry_byte i

-- "The directory has 208 entries of 32 bytes"
unfoldable pub directory_of : List ℕ → List (List ℕ)
directory_of card = map (λ i. take 32 (drop (entry_place i) card)) (numbers_from 0 208)
