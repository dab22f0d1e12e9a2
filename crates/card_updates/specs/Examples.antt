-- Cards to be written to: one with two data files, an orphan and a damaged block among the free ones, and one whose entry 0 is unused and
-- whose block 199 is free; a file to be written to them.
-- Assumes nothing.
use Rattle.std.specs.Prelude.{ℕ, ◌*◌, List, ◌∷◌, replicate, set}
use Rattle.card_model.specs.Examples.{unused_entry, entry_bytes, card_of}
use Rattle.card_updates.specs.Write.{NewFile}

-- File A is in blocks 0 and 194, file B in 199.
unfoldable pub scattered_entries : List (List ℕ)
scattered_entries = entry_bytes 0x33 0x00 0 0x41 2 0 ∷ entry_bytes 0x33 0xFF 199 0x42 1 0 ∷ replicate 14 unused_entry

-- Block 197 is an orphan that names block 194, and 196 is damaged.
unfoldable pub scattered_users : List ℕ
scattered_users = set (set (set (set (set (replicate 200 0xFFFC) 0 194) 194 0xFFFA) 199 0xFFFA) 197 194) 196 0xFFFF

unfoldable pub scattered_card : List ℕ
scattered_card = card_of scattered_entries scattered_users

-- File A is at entry 1, in blocks 3 and 198.
unfoldable pub open_entries : List (List ℕ)
open_entries = unused_entry ∷ entry_bytes 0x33 0x00 3 0x41 2 0 ∷ replicate 14 unused_entry

unfoldable pub open_users : List ℕ
open_users = set (set (replicate 200 0xFFFC) 3 198) 198 0xFFFA

unfoldable pub open_card : List ℕ
open_card = card_of open_entries open_users

-- A file of this letter as its name and this many blocks, with a flag that is neither 00 nor FF.
unfoldable pub file_of_size : ℕ → ℕ → NewFile
file_of_size letter blocks = record { flag = 0xFE; name = replicate 12 letter; time = replicate 8 0x20; content = replicate (512 * blocks) 0x11 }
