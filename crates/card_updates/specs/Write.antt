-- Writing a data file: request 1. "Write a data file (name, copy flag, time, header offset, and a lent slice of 512 times its size, 1
-- to 200 blocks)"
-- Assumes nothing.
use Rattle.std.specs.Prelude.{ℕ, zero, suc, ◌/◌, ◌%◌, Bool, not, cond, ◌||◌, List, [], ◌∷◌, ◌++◌, eqb, ltb, leb, length, get_or, take, drop, replicate}
use Rattle.std.specs.Prelude.{Option, None, Some}
use Rattle.words.specs.Lists.{keep}
use Rattle.words.specs.Search.{lowest}
use Rattle.words.specs.Words.{word_bytes}
use Rattle.verdicts.specs.declared.Place.TheVariants.{Whole, Entry}
use Rattle.verdicts.specs.Rows.{Verdict}
use Rattle.verdicts.specs.Rows.{accepted, row_at, row_over, unless_refused}
use Rattle.card_model.specs.Layout.{block_place, table_of, entry_place, directory_of}
use Rattle.card_model.specs.Table.{link_at, is_free}
use Rattle.card_model.specs.Entries.{is_used, entry_at}
use Rattle.card_model.specs.Calls.{verdict_of, entry_named}
use Rattle.card_updates.specs.Parts.{with_part, with_link}

-- What is given of a file, but for its header offset.
pub record NewFile : Type 0 where
  pub flag : ℕ
  pub name : List ℕ
  pub time : List ℕ
  pub content : List ℕ

-- From what the call is given.
abbrev pub given_file : ℕ → List ℕ → List ℕ → List ℕ → NewFile
given_file flag name time content = record { flag = flag; name = name; time = time; content = content }

-- Its size in blocks.
abbrev pub blocks_of : NewFile → ℕ
blocks_of f = length f.content / 512

-- ---- what is free

-- The numbers below n, the highest first.
abbrev pub numbers_down : ℕ → List ℕ
numbers_down zero = []
numbers_down (suc n) = n ∷ numbers_down n

-- The user blocks whose entry is FFFC, "from the highest free one downwards". "Strays and damaged blocks are never taken."
unfoldable pub free_blocks : List ℕ → List ℕ
free_blocks table = keep (λ b. is_free (link_at table b)) (numbers_down 200)

-- "the lowest unused entry"
unfoldable pub lowest_unused : List (List ℕ) → Option ℕ
lowest_unused directory = lowest (λ i. not (is_used (entry_at directory i))) 0 208

-- ---- refusals

-- 33: "a bad length (name 12, time 8, the data)", the data being none or not whole blocks.
unfoldable pub bad_lengths : NewFile → Bool
bad_lengths f =
    not (eqb (length f.name) 12)
    || (not (eqb (length f.time) 8)
    || (not (eqb (length f.content % 512) 0)
    || eqb (blocks_of f) 0))

-- "33 for a bad length ..", the data being "1 to 200 blocks"; "26 for a bad flag or offset", of which request 3 drops the flag: the rows
-- that look at the file alone.
unfoldable pub data_rows : NewFile → ℕ → Verdict
data_rows f offset =
    unless_refused (row_at 33 Whole (bad_lengths f || ltb 200 (blocks_of f)))
    (row_at 26 Whole (leb (blocks_of f) offset))

-- "29 for a name in use"
unfoldable pub taken_row : List (List ℕ) → List ℕ → Verdict
taken_row directory name = row_over 29 Entry (entry_named directory name)

-- "34 exactly when fewer user entries are FFFC than the size"
unfoldable pub room_row : List ℕ → NewFile → Verdict
room_row table f = row_at 34 Whole (ltb (length (free_blocks table)) (blocks_of f))

-- "First check the card, then 33 .., 26 .., 29 .., 34 .. Here 26, and each new card refusal, names the whole card; 29 names the entry that
-- has the name."
unfoldable pub write_rows : List ℕ → List (List ℕ) → NewFile → ℕ → Verdict
write_rows table directory f offset =
    unless_refused (data_rows f offset)
    (unless_refused (taken_row directory f.name)
    (room_row table f))

unfoldable pub write_verdict : List ℕ → NewFile → ℕ → Verdict
write_verdict card f offset = unless_refused (verdict_of card) (write_rows (table_of card) (directory_of card) f offset)

-- ---- the file

-- An entry: type, copy flag, first block (0x02), name (0x04), time (0x10), size (0x18), header offset (0x1a), "reserved bytes zero".
unfoldable pub entry_of : ℕ → ℕ → ℕ → List ℕ → List ℕ → ℕ → ℕ → List ℕ
entry_of kind flag first name time size offset =
    kind ∷ flag ∷ word_bytes first ++ (name ++ (time ++ (word_bytes size ++ (word_bytes offset ++ replicate 4 0))))

-- Of a new file: its type, header offset and first block beside what is given.
abbrev pub new_entry : ℕ → NewFile → ℕ → ℕ → List ℕ
new_entry kind f offset first = entry_of kind f.flag first f.name f.time (blocks_of f) offset

-- What the table says of a block before these: the next block, or FFFA for the last one.
abbrev pub link_to : List ℕ → ℕ
link_to [] = 0xFFFA
link_to (n ∷ blocks) = n

-- A block gets its bytes and its table entry.
unfoldable pub with_block : List ℕ → ℕ → List ℕ → ℕ → List ℕ
with_block card b bytes e = with_link (with_part card (block_place b) bytes) b e

-- "in file order": each block gets the next 512 bytes and names the next block.
unfoldable pub with_blocks : List ℕ → List ℕ → List ℕ → List ℕ
with_blocks card [] bytes = card
with_blocks card (b ∷ blocks) bytes = with_blocks (with_block card b (take 512 bytes) (link_to blocks)) blocks (drop 512 bytes)

-- The file in these blocks, of this type and header offset, at entry i.
unfoldable pub with_file : List ℕ → ℕ → NewFile → ℕ → List ℕ → ℕ → List ℕ
with_file card kind f offset blocks i =
    with_part (with_blocks card blocks f.content) (entry_place i) (new_entry kind f offset (get_or blocks 0 0))

-- There is always an unused entry: `never_full`.
abbrev pub with_file_at : List ℕ → ℕ → NewFile → ℕ → List ℕ → Option ℕ → List ℕ
with_file_at card kind f offset blocks None = card
with_file_at card kind f offset blocks (Some i) = with_file card kind f offset blocks i

-- "Blocks are taken in file order from the highest free one downwards"
unfoldable pub taken_blocks : List ℕ → NewFile → List ℕ
taken_blocks card f = take (blocks_of f) (free_blocks (table_of card))

-- The card that a write leaves: type 33, "and the lowest unused entry is filled". "A refusal changes no byte of any buffer."
unfoldable pub written : List ℕ → NewFile → ℕ → List ℕ
written card f offset =
    cond (accepted (write_verdict card f offset)) (with_file_at card 0x33 f offset (taken_blocks card f) (lowest_unused (directory_of card))) card
