-- A directory entry: document 01, "Card layout", third paragraph, and rows 26 and 29 of the table of numbers. An entry is the
-- list of its 32 bytes, a directory the list of its 208 entries.
-- Assumes nothing.
use Rattle.std.specs.Prelude.{ℕ, Bool, not, cond, ◌&&◌, ◌||◌, List, [], eqb, ltb, leb, get_or, take, drop}
use Rattle.words.specs.Lists.{any_of, numbers_from}
use Rattle.words.specs.Search.{lowest}
use Rattle.words.specs.Words.{word, same_bytes}
use Rattle.verdicts.specs.declared.Place.TheVariants.{Entry}
use Rattle.verdicts.specs.Rows.{Verdict}
use Rattle.verdicts.specs.Rows.{row_over}
use Rattle.card_model.specs.declared.CopyProtection.{CopyProtection}
use Rattle.card_model.specs.declared.CopyProtection.TheVariants.{Protected, Copyable}

-- ---- fields (002, 003: "Directory"; 003's offsets 008 and 00a of the second row are 0x18 and 0x1a)

-- Document 01's type.
unfoldable pub kind : List ℕ → ℕ
kind entry = get_or entry 0 0

-- The copy flag. Request 3 amends document 01's "copy flag 00 or FF": no row looks at it.
unfoldable pub flag : List ℕ → ℕ
flag entry = get_or entry 1 0

-- "FF is protected and anything else may be copied" (request 3; 003: "0xff: Copy Protected", "Other: Copyable")
unfoldable pub is_protected : List ℕ → Bool
is_protected entry = eqb (flag entry) 0xFF

unfoldable pub protection_of : List ℕ → CopyProtection
protection_of entry = cond (is_protected entry) Protected Copyable

unfoldable pub first_block : List ℕ → ℕ
first_block entry = word entry 0x02

-- "Name: 12 bytes from 0x04."
unfoldable pub name_of : List ℕ → List ℕ
name_of entry = take 12 (drop 0x04 entry)

-- "Time: 8 bytes from 0x10, handed on untested."
unfoldable pub time_of : List ℕ → List ℕ
time_of entry = take 8 (drop 0x10 entry)

unfoldable pub size : List ℕ → ℕ
size entry = word entry 0x18

unfoldable pub header_offset : List ℕ → ℕ
header_offset entry = word entry 0x1a

-- "Type 00: unused, whatever follows (003)."
unfoldable pub is_used : List ℕ → Bool
is_used entry = not (eqb (kind entry) 0x00)

-- "type is 33 (data) or CC (game)"
unfoldable pub is_data : List ℕ → Bool
is_data entry = eqb (kind entry) 0x33

unfoldable pub is_game : List ℕ → Bool
is_game entry = eqb (kind entry) 0xCC

-- ---- 26: "bad directory entry", four tests

unfoldable pub wrong_kind : List ℕ → Bool
wrong_kind entry = not (is_data entry || is_game entry)

-- "first block (0x02) below 200"
unfoldable pub wrong_first : List ℕ → Bool
wrong_first entry = not (ltb (first_block entry) 200)

-- "size (0x18) 1..200"
unfoldable pub wrong_size : List ℕ → Bool
wrong_size entry = not (leb 1 (size entry) && leb (size entry) 200)

-- "for data, header offset (0x1a) below the size"
unfoldable pub wrong_offset : List ℕ → Bool
wrong_offset entry = is_data entry && not (ltb (header_offset entry) (size entry))

unfoldable pub wrong_entry : List ℕ → Bool
wrong_entry entry = is_used entry && (wrong_kind entry || (wrong_first entry || (wrong_size entry || wrong_offset entry)))

-- ---- over the directory

-- Entry i.
unfoldable pub entry_at : List (List ℕ) → ℕ → List ℕ
entry_at directory i = get_or directory i []

-- 26, of the first bad entry.
unfoldable pub entry_row : List (List ℕ) → Verdict
entry_row directory = row_over 26 Entry (lowest (λ i. wrong_entry (entry_at directory i)) 0 208)

-- A used entry of this name.
unfoldable pub is_named : List ℕ → List ℕ → Bool
is_named name entry = is_used entry && same_bytes (name_of entry) name

-- 29: "name of an earlier used entry"
unfoldable pub name_taken : List (List ℕ) → ℕ → Bool
name_taken directory i =
    is_used (entry_at directory i) && any_of (λ j. is_named (name_of (entry_at directory i)) (entry_at directory j)) (numbers_from 0 i)

unfoldable pub name_row : List (List ℕ) → Verdict
name_row directory = row_over 29 Entry (lowest (name_taken directory) 0 208)
