-- The card's rows of the table of samples: document 01, "Samples from the bench", (j) to (l), and borders of its rules. The
-- expected values come from tests/vectors/card.py, which prints a line for each row, in this order.
-- Assumes nothing.
use Rattle.std.specs.Prelude.{ℕ, List, [], ◌∷◌, ◌++◌, map, length, take, replicate, set}
use Rattle.std.specs.Prelude.{Option, None, Some}
use Rattle.words.specs.Lists.{concat, numbers_from}
use Rattle.verdicts.specs.declared.Place.{Place}
use Rattle.verdicts.specs.declared.Place.TheVariants.{Whole, Block, Entry}
use Rattle.verdicts.specs.Rows.{Verdict}
use Rattle.verdicts.specs.Rows.{unless_refused}
use Rattle.card_model.specs.declared.CopyProtection.{CopyProtection}
use Rattle.card_model.specs.declared.CopyProtection.TheVariants.{Protected, Copyable}
use Rattle.card_model.specs.declared.Link.{Link}
use Rattle.card_model.specs.declared.Link.TheVariants.{Free, Damaged, Last, Next, Bad}
use Rattle.card_model.specs.Answers.{Listing}
use Rattle.card_model.specs.Layout.{card_length, block_at, fat_place, table_of, entry_block, entry_byte, entry_place, directory_of}
use Rattle.card_model.specs.Table.{magic_row, fields_row, link_of}
use Rattle.card_model.specs.Entries.{protection_of, wrong_entry, entry_row}
use Rattle.card_model.specs.Files.{chain, or_empty, orphans}
use Rattle.card_model.specs.Calls.{table_rows, directory_rows, check_of, first_used, listed_from, list_of, read_rows, read_verdict, read_buffer}
use Rattle.card_model.specs.Examples.{root_block, system_table, unused_entry, entry_bytes}
use Rattle.samples.specs.Sample.{Sample, sample_of, bit}

-- ---- answers as numbers

-- 0 for the whole card, 1 and the block, or 2 and the entry.
abbrev pub place_numbers : Place → List ℕ
place_numbers Whole = 0 ∷ 0 ∷ []
place_numbers (Block b) = 1 ∷ b ∷ []
place_numbers (Entry i) = 2 ∷ i ∷ []

abbrev pub verdict_numbers : Verdict → List ℕ
verdict_numbers v = v.number ∷ place_numbers v.place

-- 1 protected, 0 copyable.
abbrev pub protection_number : CopyProtection → ℕ
protection_number Protected = 1
protection_number Copyable = 0

abbrev pub listing_numbers : Listing → List ℕ
listing_numbers l =
    verdict_numbers l.verdict
    ++ (l.entry ∷ l.kind ∷ l.flag ∷ protection_number l.protection ∷ l.first ∷ l.size ∷ l.offset ∷ l.name ++ l.time)

abbrev pub link_numbers : Link → List ℕ
link_numbers Free = 0 ∷ 0 ∷ []
link_numbers Damaged = 1 ∷ 0 ∷ []
link_numbers Last = 2 ∷ 0 ∷ []
link_numbers (Next b) = 3 ∷ b ∷ []
link_numbers Bad = 4 ∷ 0 ∷ []

-- 0 for a bad chain, or 1 and its blocks.
abbrev pub chain_numbers : Option (List ℕ) → List ℕ
chain_numbers None = 0 ∷ []
chain_numbers (Some blocks) = 1 ∷ blocks

-- ---- tables and entries

-- No user block in use.
unfoldable pub empty_table : List ℕ
empty_table = replicate 200 0xFFFC ++ system_table

-- A table with one more chain of these blocks.
unfoldable pub linked : List ℕ → List ℕ → List ℕ
linked [] table = table
linked (b ∷ []) table = set table b 0xFFFA
linked (b ∷ n ∷ blocks) table = linked (n ∷ blocks) (set table b n)

-- Blocks 0, 1, 2 and on in one chain, k of them before its last, and `others` more free.
abbrev pub rising_table : ℕ → ℕ → List ℕ
rising_table k others = numbers_from 1 k ++ (0xFFFA ∷ replicate others 0xFFFC ++ system_table)

-- (l)'s chain.
unfoldable pub two_blocks : List ℕ
two_blocks = linked (199 ∷ 198 ∷ []) empty_table

-- Three chains of one block.
unfoldable pub three_blocks : List ℕ
three_blocks = linked (199 ∷ []) (linked (198 ∷ []) (linked (197 ∷ []) empty_table))

-- A data file of one block, and a game.
abbrev pub data_file : ℕ → ℕ → List ℕ
data_file first letter = entry_bytes 0x33 0x00 first letter 1 0

abbrev pub game_file : ℕ → ℕ → List ℕ
game_file first size = entry_bytes 0xCC 0xFF first 0x47 size 1

-- An unused entry with the name of file A.
abbrev pub unused_a : List ℕ
unused_a = entry_bytes 0x00 0x00 199 0x41 1 0

-- File A, and A of another size.
abbrev pub file_a : List ℕ
file_a = data_file 199 0x41

abbrev pub sized_a : ℕ → List ℕ
sized_a size = entry_bytes 0x33 0x00 199 0x41 size 0

-- File A with a type that is none.
abbrev pub other_kind : List ℕ
other_kind = set file_a 0 0x01

abbrev pub file_b : List ℕ
file_b = data_file 198 0x42

abbrev pub file_c : List ℕ
file_c = data_file 197 0x43

-- Another file of the name A.
abbrev pub other_a : List ℕ
other_a = data_file 198 0x41

-- A directory with an entry of which each byte differs.
abbrev pub mixed_entries : List (List ℕ)
mixed_entries = unused_entry ∷ (0x33 ∷ 0xFF ∷ numbers_from 2 30) ∷ unused_a ∷ file_a ∷ []

-- 1600 numbers, each its own place.
abbrev pub own_places : List ℕ
own_places = numbers_from 0 1600

-- ---- what is asked of them

abbrev pub of_root : List ℕ → List ℕ
of_root root = verdict_numbers (unless_refused (magic_row root) (fields_row root))

abbrev pub root_number : List ℕ → ℕ
root_number root = (unless_refused (magic_row root) (fields_row root)).number

abbrev pub of_table : List ℕ → List ℕ
of_table table = verdict_numbers (table_rows root_block table)

-- An entry beside a right one.
abbrev pub of_entry : List ℕ → List ℕ
of_entry entry = verdict_numbers (entry_row (sized_a 2 ∷ entry ∷ []))

abbrev pub of_chain : List ℕ → ℕ → List ℕ → List ℕ
of_chain table first sizes = concat (map (λ size. chain_numbers (chain table size first)) sizes)

abbrev pub of_directory : List ℕ → List (List ℕ) → List ℕ
of_directory table directory = verdict_numbers (directory_rows table directory)

abbrev pub of_list : List (List ℕ) → ℕ → List ℕ
of_list directory start = listing_numbers (listed_from directory (first_used directory start))

abbrev pub of_list_verdict : List (List ℕ) → ℕ → List ℕ
of_list_verdict directory start = verdict_numbers (listed_from directory (first_used directory start)).verdict

abbrev pub of_read : ℕ → ℕ → ℕ → ℕ → List ℕ
of_read letters letter index room =
    verdict_numbers (read_rows (unused_a ∷ file_c ∷ sized_a 2 ∷ []) (replicate letters letter) index (replicate room 0))

-- ---- the rows

unfoldable pub layout_samples : List Sample
layout_samples =
    -- (j) (k)
    sample_of (entry_block 16 ∷ entry_byte 16 ∷ []) (252 ∷ 0 ∷ [])
    ∷ sample_of (fat_place 253 ∷ []) (130554 ∷ [])
    -- the first entry, the last of block 253, and the last of all; their image bytes; the first and the last of the table
    ∷ sample_of (concat (map (λ i. entry_block i ∷ entry_byte i ∷ []) (0 ∷ 15 ∷ 207 ∷ []))) (253 ∷ 0 ∷ 253 ∷ 480 ∷ 241 ∷ 480 ∷ [])
    ∷ sample_of (map entry_place (0 ∷ 15 ∷ 16 ∷ 207 ∷ [])) (129536 ∷ 130016 ∷ 129024 ∷ 123872 ∷ [])
    ∷ sample_of (map fat_place (0 ∷ 255 ∷ [])) (130048 ∷ 130558 ∷ [])
    -- a block begins at its number times 512 and has 512 bytes, whatever follows
    ∷ sample_of (take 2 (block_at own_places 2) ++ length (block_at own_places 2) ∷ []) (1024 ∷ 1025 ∷ 512 ∷ [])
    -- the bytes of a card, the entries of its table and of its directory
    ∷ sample_of (card_length ∷ length (table_of []) ∷ length (directory_of []) ∷ []) (131072 ∷ 256 ∷ 208 ∷ [])
    -- the four classes of a table entry, and none of them
    ∷ sample_of
    (concat (map (λ e. link_numbers (link_of e))
    (0 ∷ 199 ∷ 200 ∷ 255 ∷ 0xFFF9 ∷ 0xFFFA ∷ 0xFFFB ∷ 0xFFFC ∷ 0xFFFD ∷ 0xFFFE ∷ 0xFFFF ∷ [])))
    (3 ∷ 0 ∷ 3 ∷ 199 ∷ 4 ∷ 0 ∷ 4 ∷ 0 ∷ 4 ∷ 0 ∷ 2 ∷ 0 ∷ 4 ∷ 0 ∷ 0 ∷ 0 ∷ 4 ∷ 0 ∷ 4 ∷ 0 ∷ 1 ∷ 0 ∷ [])
    ∷ []

-- 21 and 22
unfoldable pub root_samples : List Sample
root_samples =
    sample_of (of_root root_block) (0 ∷ 0 ∷ 0 ∷ [])
    ∷ sample_of (of_root (set root_block 0 0x99) ++ of_root (set root_block 0x50 0x99)) (21 ∷ 1 ∷ 255 ∷ 22 ∷ 1 ∷ 255 ∷ [])
    -- one byte wrong: each that is tested by 22, and those beside the tested ones
    ∷ sample_of
    (map (λ i. root_number (set root_block i 0x99)) (0 ∷ 15 ∷ 16 ∷ numbers_from 0x45 14 ++ 511 ∷ []))
    (21 ∷ 21 ∷ 0 ∷ 0 ∷ 22 ∷ 22 ∷ 22 ∷ 22 ∷ 22 ∷ 22 ∷ 22 ∷ 22 ∷ 0 ∷ 0 ∷ 22 ∷ 22 ∷ 0 ∷ 0 ∷ [])
    ∷ sample_of (of_root (set (set root_block 15 0x99) 0x46 0x99)) (21 ∷ 1 ∷ 255 ∷ [])
    ∷ sample_of (verdict_numbers (table_rows (set root_block 0x46 0x99) (set empty_table 241 0))) (22 ∷ 1 ∷ 255 ∷ [])
    ∷ []

-- 23 to 25
unfoldable pub table_samples : List Sample
table_samples =
    sample_of (of_table empty_table) (0 ∷ 0 ∷ 0 ∷ [])
    -- all that user blocks may have, and a damaged hidden block
    ∷ sample_of (of_table (set (set (set (set (set empty_table 0 199) 1 0xFFFA) 198 0xFFFF) 199 0) 200 0xFFFF)) (0 ∷ 0 ∷ 0 ∷ [])
    -- blocks 241 to 255; the lowest first
    ∷ sample_of (of_table (set empty_table 255 254)) (23 ∷ 1 ∷ 255 ∷ [])
    ∷ sample_of (of_table (set empty_table 254 253)) (23 ∷ 1 ∷ 254 ∷ [])
    ∷ sample_of (of_table (set empty_table 253 251)) (23 ∷ 1 ∷ 253 ∷ [])
    ∷ sample_of (of_table (set empty_table 242 0xFFFA)) (23 ∷ 1 ∷ 242 ∷ [])
    ∷ sample_of (of_table (set empty_table 241 240)) (23 ∷ 1 ∷ 241 ∷ [])
    ∷ sample_of (of_table (set (set empty_table 241 0) 255 0)) (23 ∷ 1 ∷ 241 ∷ [])
    -- blocks 200 to 240, after those
    ∷ sample_of (of_table (set empty_table 200 0xFFFA)) (24 ∷ 1 ∷ 200 ∷ [])
    ∷ sample_of (of_table (set empty_table 240 0)) (24 ∷ 1 ∷ 240 ∷ [])
    ∷ sample_of (of_table (set (set empty_table 200 0xFFFB) 240 0xFFFB)) (24 ∷ 1 ∷ 200 ∷ [])
    ∷ sample_of (of_table (set (set empty_table 240 0) 241 0)) (23 ∷ 1 ∷ 241 ∷ [])
    -- user blocks, last
    ∷ sample_of (of_table (set empty_table 0 200)) (25 ∷ 1 ∷ 0 ∷ [])
    ∷ sample_of (of_table (set empty_table 199 0xFFF9)) (25 ∷ 1 ∷ 199 ∷ [])
    ∷ sample_of (of_table (set (set empty_table 0 0xFFFB) 199 0xFFFE)) (25 ∷ 1 ∷ 0 ∷ [])
    ∷ sample_of (of_table (set (set empty_table 0 0xFFFD) 240 200)) (24 ∷ 1 ∷ 240 ∷ [])
    ∷ []

-- 26: an entry's type, first block, size and header offset, and its copy flag, which is not tested
unfoldable pub entry_samples : List Sample
entry_samples =
    sample_of (of_entry (entry_bytes 0x33 0x00 199 0x42 2 1)) (0 ∷ 0 ∷ 0 ∷ [])
    ∷ sample_of (of_entry (entry_bytes 0x32 0x00 199 0x42 2 1)) (26 ∷ 2 ∷ 1 ∷ [])
    ∷ sample_of (of_entry (entry_bytes 0xCD 0x00 199 0x42 2 1)) (26 ∷ 2 ∷ 1 ∷ [])
    ∷ sample_of (of_entry (entry_bytes 0x33 0xFF 199 0x42 2 1)) (0 ∷ 0 ∷ 0 ∷ [])
    ∷ sample_of (of_entry (entry_bytes 0x33 0x01 199 0x42 2 1)) (0 ∷ 0 ∷ 0 ∷ [])
    ∷ sample_of (of_entry (entry_bytes 0x33 0xFE 199 0x42 2 1)) (0 ∷ 0 ∷ 0 ∷ [])
    ∷ sample_of (of_entry (entry_bytes 0x33 0x00 200 0x42 2 1)) (26 ∷ 2 ∷ 1 ∷ [])
    ∷ sample_of (of_entry (entry_bytes 0x33 0x00 256 0x42 2 1)) (26 ∷ 2 ∷ 1 ∷ [])
    ∷ sample_of (of_entry (entry_bytes 0xCC 0x00 199 0x42 0 1)) (26 ∷ 2 ∷ 1 ∷ [])
    ∷ sample_of (of_entry (entry_bytes 0x33 0x00 199 0x42 200 1)) (0 ∷ 0 ∷ 0 ∷ [])
    ∷ sample_of (of_entry (entry_bytes 0x33 0x00 199 0x42 201 1)) (26 ∷ 2 ∷ 1 ∷ [])
    ∷ sample_of (of_entry (entry_bytes 0x33 0x00 199 0x42 257 1)) (26 ∷ 2 ∷ 1 ∷ [])
    -- a header offset is tested for data alone
    ∷ sample_of (of_entry (entry_bytes 0x33 0x00 199 0x42 2 2)) (26 ∷ 2 ∷ 1 ∷ [])
    ∷ sample_of (of_entry (entry_bytes 0x33 0x00 199 0x42 2 256)) (26 ∷ 2 ∷ 1 ∷ [])
    ∷ sample_of (of_entry (entry_bytes 0xCC 0xFF 199 0x42 2 256)) (0 ∷ 0 ∷ 0 ∷ [])
    -- unused, whatever follows
    ∷ sample_of (of_entry (entry_bytes 0x00 0x01 999 0x42 999 999)) (0 ∷ 0 ∷ 0 ∷ [])
    -- the lowest first, and the last entry of the directory
    ∷ sample_of (verdict_numbers (entry_row (file_a ∷ set file_b 0 1 ∷ set file_c 0 2 ∷ []))) (26 ∷ 2 ∷ 1 ∷ [])
    ∷ sample_of (verdict_numbers (entry_row (replicate 207 unused_entry ++ set file_a 0 1 ∷ []))) (26 ∷ 2 ∷ 207 ∷ [])
    -- each value of the flag: no entry is bad for it, and FF alone is protected
    ∷ sample_of (map (λ byte. bit (wrong_entry (set file_a 1 byte))) (numbers_from 0 256)) (replicate 256 0)
    ∷ sample_of (map (λ byte. bit (wrong_entry (set other_kind 1 byte))) (numbers_from 0 256)) (replicate 256 1)
    ∷ sample_of (map (λ byte. protection_number (protection_of (set file_a 1 byte))) (numbers_from 0 256)) (replicate 255 0 ++ 1 ∷ [])
    ∷ []

-- 27
unfoldable pub chain_samples : List Sample
chain_samples =
    -- (l), of the chain and of a directory
    sample_of (of_chain two_blocks 199 (2 ∷ 1 ∷ 3 ∷ [])) (1 ∷ 199 ∷ 198 ∷ 0 ∷ 0 ∷ [])
    ∷ sample_of (of_directory two_blocks (sized_a 2 ∷ [])) (0 ∷ 0 ∷ 0 ∷ [])
    ∷ sample_of (of_directory two_blocks (sized_a 1 ∷ [])) (27 ∷ 2 ∷ 0 ∷ [])
    ∷ sample_of (of_directory two_blocks (sized_a 3 ∷ [])) (27 ∷ 2 ∷ 0 ∷ [])
    -- loops
    ∷ sample_of (of_chain (set (set empty_table 5 6) 6 5) 5 (1 ∷ 2 ∷ 3 ∷ 200 ∷ [])) (0 ∷ 0 ∷ 0 ∷ 0 ∷ [])
    ∷ sample_of (of_chain (set empty_table 7 7) 7 (1 ∷ 2 ∷ [])) (0 ∷ 0 ∷ [])
    -- one block; then to a free, a damaged and a hidden block, and to no class
    ∷ sample_of (of_chain (linked (20 ∷ []) empty_table) 20 (1 ∷ 2 ∷ [])) (1 ∷ 20 ∷ 0 ∷ [])
    ∷ sample_of (of_chain (set empty_table 10 11) 10 (1 ∷ 2 ∷ [])) (0 ∷ 0 ∷ [])
    ∷ sample_of (of_chain (set (set empty_table 10 11) 11 0xFFFF) 10 (1 ∷ 2 ∷ [])) (0 ∷ 0 ∷ [])
    ∷ sample_of (of_chain (set (set empty_table 10 200) 200 0xFFFA) 10 (1 ∷ 2 ∷ [])) (0 ∷ 0 ∷ [])
    ∷ sample_of (of_chain (set empty_table 10 0xFFFB) 10 (1 ∷ 2 ∷ [])) (0 ∷ 0 ∷ [])
    -- down to the lowest block and up to the highest; every user block
    ∷ sample_of (of_chain (linked (10 ∷ 0 ∷ 199 ∷ []) empty_table) 10 (3 ∷ [])) (1 ∷ 10 ∷ 0 ∷ 199 ∷ [])
    ∷ sample_of (length (or_empty (chain (rising_table 199 0) 200 0)) ∷ []) (200 ∷ [])
    ∷ []

-- 28 to 30, and the order of 26 to 30
unfoldable pub directory_samples : List Sample
directory_samples =
    sample_of (of_directory three_blocks (file_a ∷ file_b ∷ file_c ∷ [])) (0 ∷ 0 ∷ 0 ∷ [])
    -- 28: the last block of an earlier file; the first one, twice; of an unused entry
    ∷ sample_of (of_directory two_blocks (sized_a 2 ∷ unused_entry ∷ file_b ∷ [])) (28 ∷ 2 ∷ 2 ∷ [])
    ∷ sample_of (of_directory three_blocks (file_a ∷ data_file 199 0x42 ∷ data_file 199 0x43 ∷ [])) (28 ∷ 2 ∷ 1 ∷ [])
    ∷ sample_of (of_directory three_blocks (unused_a ∷ file_a ∷ [])) (0 ∷ 0 ∷ 0 ∷ [])
    -- 29: twice; at another time; the first or the last letter differs; of unused entries
    ∷ sample_of (of_directory three_blocks (file_a ∷ unused_entry ∷ other_a ∷ data_file 197 0x41 ∷ [])) (29 ∷ 2 ∷ 2 ∷ [])
    ∷ sample_of (of_directory three_blocks (file_a ∷ set other_a 0x10 0 ∷ [])) (29 ∷ 2 ∷ 1 ∷ [])
    ∷ sample_of (of_directory three_blocks (file_a ∷ set other_a 0x04 0 ∷ [])) (0 ∷ 0 ∷ 0 ∷ [])
    ∷ sample_of (of_directory three_blocks (file_a ∷ set other_a 0x0F 0 ∷ [])) (0 ∷ 0 ∷ 0 ∷ [])
    ∷ sample_of (of_directory three_blocks (unused_a ∷ other_a ∷ unused_a ∷ [])) (0 ∷ 0 ∷ 0 ∷ [])
    -- 30: a right game; first block 1; a gap; a gap later
    ∷ sample_of (of_directory (linked (0 ∷ 1 ∷ 2 ∷ []) empty_table) (game_file 0 3 ∷ [])) (0 ∷ 0 ∷ 0 ∷ [])
    ∷ sample_of (of_directory (linked (1 ∷ 2 ∷ []) empty_table) (game_file 1 2 ∷ [])) (30 ∷ 2 ∷ 0 ∷ [])
    ∷ sample_of (of_directory (linked (0 ∷ 2 ∷ []) empty_table) (game_file 0 2 ∷ [])) (30 ∷ 2 ∷ 0 ∷ [])
    ∷ sample_of (of_directory (linked (0 ∷ 1 ∷ 3 ∷ []) empty_table) (game_file 0 3 ∷ [])) (30 ∷ 2 ∷ 0 ∷ [])
    -- 128 and 129 blocks, and data of 129
    ∷ sample_of (of_directory (rising_table 127 72) (game_file 0 128 ∷ [])) (0 ∷ 0 ∷ 0 ∷ [])
    ∷ sample_of (of_directory (rising_table 128 71) (game_file 0 129 ∷ [])) (30 ∷ 2 ∷ 0 ∷ [])
    ∷ sample_of (of_directory (rising_table 128 71) (entry_bytes 0x33 0x00 0 0x47 129 0 ∷ [])) (0 ∷ 0 ∷ 0 ∷ [])
    -- a second game; two games, none at block 0
    ∷ sample_of (of_directory (linked (0 ∷ []) (linked (1 ∷ []) three_blocks)) (file_a ∷ game_file 0 1 ∷ set (game_file 1 1) 4 0 ∷ []))
    (30 ∷ 2 ∷ 2 ∷ [])
    ∷ sample_of (of_directory (linked (1 ∷ []) (linked (2 ∷ []) empty_table)) (game_file 2 1 ∷ set (game_file 1 1) 4 0 ∷ []))
    (30 ∷ 2 ∷ 0 ∷ [])
    -- 28, 27 and 26 at entries 1, 2 and 3; 28 and 27 at 1 and 2
    ∷ sample_of (of_directory three_blocks (file_a ∷ file_a ∷ data_file 9 0x44 ∷ set file_c 0 1 ∷ [])) (26 ∷ 2 ∷ 3 ∷ [])
    ∷ sample_of (of_directory three_blocks (file_a ∷ file_a ∷ data_file 9 0x44 ∷ [])) (27 ∷ 2 ∷ 2 ∷ [])
    -- 30, 29 and 28 at entries 0, 2 and 3; 30 and 29 at 0 and 2
    ∷ sample_of (of_directory (linked (1 ∷ []) three_blocks) (game_file 1 1 ∷ file_a ∷ other_a ∷ file_b ∷ [])) (28 ∷ 2 ∷ 3 ∷ [])
    ∷ sample_of (of_directory (linked (1 ∷ []) three_blocks) (game_file 1 1 ∷ file_a ∷ other_a ∷ [])) (29 ∷ 2 ∷ 2 ∷ [])
    ∷ []

-- Beside the blocks of files A and B a chain, a last block, a damaged block, and one that leads to a free block.
unfoldable pub orphan_table : List ℕ
orphan_table =
    set (set (linked (0 ∷ 1 ∷ []) (linked (196 ∷ []) (linked (198 ∷ []) (linked (199 ∷ []) empty_table)))) 60 0xFFFF) 61 197

unfoldable pub orphan_samples : List Sample
orphan_samples = sample_of (map (orphans orphan_table) ((file_a ∷ file_b ∷ []) ∷ (unused_a ∷ file_b ∷ []) ∷ [])) (4 ∷ 5 ∷ []) ∷ []

-- The listing from 0, 1, 2 and 3; from further on, where nothing is listed; of the last entry; of a flag that is neither 00 nor FF.
unfoldable pub list_samples : List Sample
list_samples =
    sample_of (of_list mixed_entries 0) (0 ∷ 0 ∷ 0 ∷ 1 ∷ 51 ∷ 255 ∷ 1 ∷ 770 ∷ 6424 ∷ 6938 ∷ numbers_from 4 20)
    ∷ sample_of (of_list mixed_entries 1) (0 ∷ 0 ∷ 0 ∷ 1 ∷ 51 ∷ 255 ∷ 1 ∷ 770 ∷ 6424 ∷ 6938 ∷ numbers_from 4 20)
    ∷ sample_of (of_list mixed_entries 2) (0 ∷ 0 ∷ 0 ∷ 3 ∷ 51 ∷ 0 ∷ 0 ∷ 199 ∷ 1 ∷ 0 ∷ replicate 12 65 ++ replicate 8 32)
    ∷ sample_of (of_list mixed_entries 3) (0 ∷ 0 ∷ 0 ∷ 3 ∷ 51 ∷ 0 ∷ 0 ∷ 199 ∷ 1 ∷ 0 ∷ replicate 12 65 ++ replicate 8 32)
    ∷ sample_of (concat (map (of_list_verdict mixed_entries) (4 ∷ 207 ∷ 208 ∷ 1000 ∷ [])))
    (31 ∷ 0 ∷ 0 ∷ 31 ∷ 0 ∷ 0 ∷ 31 ∷ 0 ∷ 0 ∷ 31 ∷ 0 ∷ 0 ∷ [])
    ∷ sample_of (of_list mixed_entries 4) (31 ∷ replicate 29 0)
    ∷ sample_of (of_list (replicate 207 unused_entry ++ file_a ∷ []) 207)
    (0 ∷ 0 ∷ 0 ∷ 207 ∷ 51 ∷ 0 ∷ 0 ∷ 199 ∷ 1 ∷ 0 ∷ replicate 12 65 ++ replicate 8 32)
    ∷ sample_of (of_list (set file_a 1 0xFE ∷ []) 0) (0 ∷ 0 ∷ 0 ∷ 0 ∷ 51 ∷ 254 ∷ 0 ∷ 199 ∷ 1 ∷ 0 ∷ replicate 12 65 ++ replicate 8 32)
    ∷ []

-- 31 to 33 of a read: the file's last block, and past it; no such name; lengths one off; 33 before 31 before 32.
unfoldable pub read_samples : List Sample
read_samples =
    sample_of (of_read 12 0x41 1 512) (0 ∷ 0 ∷ 0 ∷ [])
    ∷ sample_of (of_read 12 0x41 2 512) (32 ∷ 0 ∷ 0 ∷ [])
    ∷ sample_of (of_read 12 0x42 0 512) (31 ∷ 0 ∷ 0 ∷ [])
    ∷ sample_of (of_read 12 0x42 2 512) (31 ∷ 0 ∷ 0 ∷ [])
    ∷ sample_of (of_read 11 0x41 1 512) (33 ∷ 0 ∷ 0 ∷ [])
    ∷ sample_of (of_read 13 0x41 1 512) (33 ∷ 0 ∷ 0 ∷ [])
    ∷ sample_of (of_read 12 0x41 1 511) (33 ∷ 0 ∷ 0 ∷ [])
    ∷ sample_of (of_read 12 0x41 1 513) (33 ∷ 0 ∷ 0 ∷ [])
    ∷ sample_of (of_read 11 0x42 2 512) (33 ∷ 0 ∷ 0 ∷ [])
    ∷ []

-- 20, before anything else that the calls test: check with its orphans, list, read, and the read's buffer.
unfoldable pub length_samples : List Sample
length_samples =
    sample_of (verdict_numbers (check_of []).verdict ++ (check_of []).orphans ∷ []) (20 ∷ 0 ∷ 0 ∷ 0 ∷ [])
    ∷ sample_of (listing_numbers (list_of [] 0)) (20 ∷ replicate 29 0)
    ∷ sample_of (verdict_numbers (read_verdict [] [] 0 (7 ∷ [])) ++ read_buffer [] [] 0 (7 ∷ [])) (20 ∷ 0 ∷ 0 ∷ 7 ∷ [])
    ∷ []

unfoldable pub all_card_samples : List Sample
all_card_samples =
    concat (layout_samples ∷ root_samples ∷ table_samples ∷ entry_samples ∷ chain_samples ∷ directory_samples ∷ orphan_samples
    ∷ list_samples ∷ read_samples ∷ length_samples ∷ [])
