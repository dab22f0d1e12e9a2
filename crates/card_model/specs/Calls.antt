-- What check, list and read answer: document 01, "Numbers the bench will see", 20 to 33, and the last paragraph of "Card
-- layout".
-- Assumes nothing.
use Rattle.std.specs.Prelude.{ℕ, ◌-◌, not, cond, ◌||◌, List, eqb, leb, length, get_or, replicate}
use Rattle.std.specs.Prelude.{Option, None, Some}
use Rattle.words.specs.Search.{lowest}
use Rattle.verdicts.specs.declared.Place.TheVariants.{Whole}
use Rattle.verdicts.specs.Rows.{Verdict}
use Rattle.verdicts.specs.Rows.{done, refused_at, accepted, row_at, unless_refused}
use Rattle.card_model.specs.Answers.{Checked}
use Rattle.card_model.specs.declared.CopyProtection.TheVariants.{Copyable}
use Rattle.card_model.specs.Answers.{Listing}
use Rattle.card_model.specs.Layout.{card_length, block_at, root_of, table_of, directory_of}
use Rattle.card_model.specs.Table.{magic_row, fields_row, system_row, hidden_row, user_row}
use Rattle.card_model.specs.Entries as entry
use Rattle.card_model.specs.Entries.{is_used, entry_at, is_named, entry_row, name_row}
use Rattle.card_model.specs.Files.{file_of, chain_row, sharing_row, game_row}
use Rattle.card_model.specs.Files as files

-- ---- check

-- 20: "card length isn't 131,072"
unfoldable pub length_row : List ℕ → Verdict
length_row card = row_at 20 Whole (not (eqb (length card) card_length))

-- 21 to 25, of a root block and a table.
unfoldable pub table_rows : List ℕ → List ℕ → Verdict
table_rows root table =
    unless_refused (magic_row root)
    (unless_refused (fields_row root)
    (unless_refused (system_row table)
    (unless_refused (hidden_row table)
    (user_row table))))

-- 26 to 30, of a table and a directory.
unfoldable pub directory_rows : List ℕ → List (List ℕ) → Verdict
directory_rows table directory =
    unless_refused (entry_row directory)
    (unless_refused (chain_row table directory)
    (unless_refused (sharing_row table directory)
    (unless_refused (name_row directory)
    (game_row table directory))))

-- "Card order: 20 to 30 in order"
unfoldable pub verdict_of : List ℕ → Verdict
verdict_of card =
    unless_refused (length_row card)
    (unless_refused (table_rows (root_of card) (table_of card))
    (directory_rows (table_of card) (directory_of card)))

-- "A sound check also gives the number of strays", which are the orphans.
unfoldable pub check_of : List ℕ → Checked
check_of card = record {
  verdict = verdict_of card;
  orphans = cond (accepted (verdict_of card)) (files.orphans (table_of card) (directory_of card)) 0;
}

-- Nothing but the verdict.
abbrev pub not_checked : Verdict → Checked
not_checked v = record { verdict = v; orphans = 0 }

-- ---- list

-- Nothing but the verdict, with zeros for an entry, which say copyable.
abbrev pub not_listed : Verdict → Listing
not_listed v = record {
  verdict = v;
  entry = 0;
  kind = 0;
  flag = 0;
  protection = Copyable;
  first = 0;
  size = 0;
  offset = 0;
  name = replicate 12 0;
  time = replicate 8 0;
}

-- "its entry number, type, flag, first block, size, header offset, name and time"; of the flag "protected or copyable and the raw byte"
-- (request 3)
unfoldable pub listed_entry : ℕ → List ℕ → Listing
listed_entry i e = record {
  verdict = done;
  entry = i;
  kind = entry.kind e;
  flag = entry.flag e;
  protection = entry.protection_of e;
  first = entry.first_block e;
  size = entry.size e;
  offset = entry.header_offset e;
  name = entry.name_of e;
  time = entry.time_of e;
}

-- "Listing takes any starting entry and gives the first used one from there". From an entry past the last, none are left.
unfoldable pub first_used : List (List ℕ) → ℕ → Option ℕ
first_used directory start = lowest (λ i. is_used (entry_at directory i)) start (208 - start)

-- 31: "no used entry from there on"
abbrev pub listed_from : List (List ℕ) → Option ℕ → Listing
listed_from directory None = not_listed (refused_at 31 Whole)
listed_from directory (Some i) = listed_entry i (entry_at directory i)

unfoldable pub list_of : List ℕ → ℕ → Listing
list_of card start =
    cond (accepted (verdict_of card)) (listed_from (directory_of card) (first_used (directory_of card) start)) (not_listed (verdict_of card))

-- ---- read

-- "A file block is found by name and index": the entry of that name.
unfoldable pub entry_named : List (List ℕ) → List ℕ → Option ℕ
entry_named directory name = lowest (λ i. is_named name (entry_at directory i)) 0 208

-- 31: "no file of that name"; 32: "block index not below the file's size"
abbrev pub index_row : List (List ℕ) → ℕ → Option ℕ → Verdict
index_row directory index None = refused_at 31 Whole
index_row directory index (Some i) = row_at 32 Whole (leb (entry.size (entry_at directory i)) index)

-- 33: "name not 12 bytes, or block buffer not 512". "A card file read then tests 33, 31, 32."
unfoldable pub read_rows : List (List ℕ) → List ℕ → ℕ → List ℕ → Verdict
read_rows directory name index buffer =
    unless_refused (row_at 33 Whole (not (eqb (length name) 12) || not (eqb (length buffer) 512)))
    (index_row directory index (entry_named directory name))

unfoldable pub read_verdict : List ℕ → List ℕ → ℕ → List ℕ → Verdict
read_verdict card name index buffer = unless_refused (verdict_of card) (read_rows (directory_of card) name index buffer)

-- The block of the file at this index, where the read is done.
unfoldable pub file_block : List ℕ → ℕ → ℕ → ℕ
file_block card i index = get_or (file_of (table_of card) (entry_at (directory_of card) i)) index 0

-- "its 512 bytes fill the block buffer"
abbrev pub block_read : List ℕ → ℕ → Option ℕ → List ℕ → List ℕ
block_read card index None buffer = buffer
block_read card index (Some i) buffer = block_at card (file_block card i index)

-- "A refusal changes no byte of any buffer": what a read of this verdict leaves, where its name found this entry.
abbrev pub left_by : Verdict → List ℕ → ℕ → Option ℕ → List ℕ → List ℕ
left_by v card index found buffer = cond (accepted v) (block_read card index found buffer) buffer

unfoldable pub read_buffer : List ℕ → List ℕ → ℕ → List ℕ → List ℕ
read_buffer card name index buffer = left_by (read_verdict card name index buffer) card index (entry_named (directory_of card) name) buffer
