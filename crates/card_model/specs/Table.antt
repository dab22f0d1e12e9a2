-- The root block and the table: document 01, "Card layout", first two paragraphs, and rows 21 to 25 of the table of numbers.
-- A table is the list of its 256 entries.
-- Assumes nothing.
use Rattle.std.specs.Prelude.{ℕ, ◌-◌, Bool, true, false, not, cond, ◌&&◌, ◌||◌, List, eqb, ltb, length, get_or, take, replicate}
use Rattle.words.specs.Lists.{keep, numbers_from}
use Rattle.words.specs.Search.{lowest}
use Rattle.words.specs.Words.{word, same_bytes}
use Rattle.verdicts.specs.declared.Place.TheVariants.{Block}
use Rattle.verdicts.specs.Rows.{Verdict}
use Rattle.verdicts.specs.Rows.{row_at, row_over}
use Rattle.card_model.specs.Layout.{table_of}
use Rattle.card_model.specs.declared.Link.{Link}
use Rattle.card_model.specs.declared.Link.TheVariants.{Free, Damaged, Last, Next, Bad}

-- 21: "root bytes 0..15 not all 55", the byte being hexadecimal as in 002 and 003.
unfoldable pub magic_row : List ℕ → Verdict
magic_row root = row_at 21 (Block 255) (not (same_bytes (take 16 root) (replicate 16 0x55)))

-- "Root fields tested: 0x46 = 254, 0x48 = 1, 0x4a = 253, 0x4c = 13, 0x50 = 200"
unfoldable pub right_fields : List ℕ → Bool
right_fields root =
    eqb (word root 0x46) 254
    && eqb (word root 0x48) 1
    && eqb (word root 0x4a) 253
    && eqb (word root 0x4c) 13
    && eqb (word root 0x50) 200

-- 22: "root fields wrong"
unfoldable pub fields_row : List ℕ → Verdict
fields_row root = row_at 22 (Block 255) (not (right_fields root))

-- ---- the table

-- The entry of a block.
unfoldable pub fat_entry : List ℕ → ℕ → ℕ
fat_entry table b = get_or table b 0

-- "FFFC is free, FFFF damaged, FFFA last, and 0 to 199 the next block."
unfoldable pub link_of : ℕ → Link
link_of e =
    cond (eqb e 0xFFFC) Free
    (cond (eqb e 0xFFFF) Damaged
    (cond (eqb e 0xFFFA) Last
    (cond (ltb e 200) (Next e) Bad)))

unfoldable pub link_at : List ℕ → ℕ → Link
link_at table b = link_of (fat_entry table b)

-- "Entries of 255, 254 and 241 are FFFA; each of 253..242 names the block one lower."
unfoldable pub system_entry : ℕ → ℕ
system_entry b = cond (eqb b 255 || (eqb b 254 || eqb b 241)) 0xFFFA (b - 1)

unfoldable pub wrong_system : List ℕ → ℕ → Bool
wrong_system table b = not (eqb (fat_entry table b) (system_entry b))

-- FFFC or FFFF.
abbrev pub free_or_damaged : Link → Bool
free_or_damaged Free = true
free_or_damaged Damaged = true
free_or_damaged Last = false
free_or_damaged (Next n) = false
free_or_damaged Bad = false

abbrev pub is_free : Link → Bool
is_free Free = true
is_free Damaged = false
is_free Last = false
is_free (Next n) = false
is_free Bad = false

abbrev pub is_damaged : Link → Bool
is_damaged Free = false
is_damaged Damaged = true
is_damaged Last = false
is_damaged (Next n) = false
is_damaged Bad = false

-- None of the four classes.
abbrev pub is_bad : Link → Bool
is_bad Free = false
is_bad Damaged = false
is_bad Last = false
is_bad (Next n) = false
is_bad Bad = true

-- How many user blocks have an entry of this class.
abbrev pub count_blocks : List ℕ → (Link → Bool) → ℕ
count_blocks card class = length (keep (λ b. class (link_at (table_of card) b)) (numbers_from 0 200))

-- "hidden blocks are 200..240"
unfoldable pub wrong_hidden : List ℕ → ℕ → Bool
wrong_hidden table b = not (free_or_damaged (link_at table b))

-- "Files live in 0..199": a user entry is "FFFC, FFFF, FFFA or 0..199".
unfoldable pub wrong_user : List ℕ → ℕ → Bool
wrong_user table b = is_bad (link_at table b)

-- 23: "entries of blocks 241..255 wrong", 15 of them.
unfoldable pub system_row : List ℕ → Verdict
system_row table = row_over 23 Block (lowest (wrong_system table) 241 15)

-- 24: "an entry of 200..240 neither FFFC nor FFFF", 41 of them.
unfoldable pub hidden_row : List ℕ → Verdict
hidden_row table = row_over 24 Block (lowest (wrong_hidden table) 200 41)

-- 25: "a user entry not FFFC, FFFF, FFFA or 0..199"
unfoldable pub user_row : List ℕ → Verdict
user_row table = row_over 25 Block (lowest (wrong_user table) 0 200)
