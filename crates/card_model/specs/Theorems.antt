-- What is proved of the definitions, above all of a card that passes the check.
-- Assumes nothing.
use Rattle.std.specs.Prelude.{ℕ, ◌+◌, ◌*◌, ◌-◌, ◌≤◌, ◌<◌, ◌≡◌, true, false, List, [], ◌∷◌, map, ◌↔◌, ◌≢◌, ◌⊎◌, length, get_or, take, drop, replicate}
use Rattle.std.specs.Prelude.{Some}
use Rattle.words.specs.Lists.{keep, has, Distinct, concat, numbers_from}
use Rattle.words.specs.Words.{word}
use Rattle.verdicts.specs.declared.Place.{Place}
use Rattle.verdicts.specs.declared.Place.TheVariants.{Whole, Block, Entry}
use Rattle.verdicts.specs.Rows.{Verdict}
use Rattle.verdicts.specs.Rows.{done, place_number, refused_at}
use Rattle.card_model.specs.declared.CopyProtection.TheVariants.{Protected, Copyable}
use Rattle.card_model.specs.Answers.{Listing}
use Rattle.card_model.specs.Layout.{card_length, root_of, table_of, entry_place, directory_of}
use Rattle.card_model.specs.Table.{fat_entry, is_free, is_damaged, count_blocks, system_entry}
use Rattle.card_model.specs.Entries.{kind, flag, is_protected, protection_of, first_block, name_of, size, header_offset, is_used, is_data, is_game}
use Rattle.card_model.specs.Files.{chain, files_before}
use Rattle.card_model.specs.Files as files
use Rattle.card_model.specs.Calls.{verdict_of, check_of, not_checked, listed_entry, not_listed, list_of, entry_named, read_verdict, read_buffer}
use Rattle.card_model.specs.Examples.{empty_card, files_card}
use Rattle.card_model.specs.Sound.{SoundCard, NoRowRefuses, entry_on, file_on, file_bytes, UsedEntry}

-- A file has exactly its entry's size, stays in 0..199 and repeats no block.
pub record SoundFile (card : List ℕ) (i : ℕ) : Type 0 where
  pub has_size : length (file_on card i) ≡ size (entry_on card i)
  pub not_empty : 1 ≤ size (entry_on card i)
  pub user_blocks_lem : (b : ℕ) → has b (file_on card i) ≡ true → b < 200
  pub no_repeat : Distinct (file_on card i)

-- How many blocks the files have together.
abbrev pub blocks_in_files : List ℕ → ℕ
blocks_in_files card = length (files_before (table_of card) (directory_of card) 208)

-- ---- what a refusal tells

-- Which root field is wrong: "Root fields tested: 0x46 = 254, 0x48 = 1, 0x4a = 253, 0x4c = 13, 0x50 = 200".
pub data WrongRoot (root : List ℕ) : Type 0 where
  wrong_46 : word root 0x46 ≢ 254 → WrongRoot root
  wrong_48 : word root 0x48 ≢ 1 → WrongRoot root
  wrong_4a : word root 0x4a ≢ 253 → WrongRoot root
  wrong_4c : word root 0x4c ≢ 13 → WrongRoot root
  wrong_50 : word root 0x50 ≢ 200 → WrongRoot root

-- What makes a used entry bad.
pub data WrongFields (entry : List ℕ) : Type 0 where
  -- "type is 33 (data) or CC (game)"
  wrong_type : kind entry ≢ 0x33 → kind entry ≢ 0xCC → WrongFields entry
  -- "first block (0x02) below 200"
  wrong_first_block : 200 ≤ first_block entry → WrongFields entry
  -- "size (0x18) 1..200"
  no_block : size entry < 1 → WrongFields entry
  too_many : 200 < size entry → WrongFields entry
  -- "for data, header offset (0x1a) below the size"
  wrong_header_offset : is_data entry ≡ true → size entry ≤ header_offset entry → WrongFields entry

-- The blocks are a chain of `left` blocks from b: "The first size-1 entries each name a block in 0..199 and the last one is
-- FFFA".
pub record IsChain (table : List ℕ) (left b : ℕ) (blocks : List ℕ) : Type 0 where
  pub long : length blocks ≡ left
  pub not_empty : 1 ≤ left
  pub first : get_or blocks 0 0 ≡ b
  pub names : (k : ℕ) → k < left - 1 → fat_entry table (get_or blocks k 0) ≡ get_or blocks (k + 1) 0
  pub in_user : (k : ℕ) → k < left - 1 → fat_entry table (get_or blocks k 0) < 200
  pub last : fat_entry table (get_or blocks (left - 1) 0) ≡ 0xFFFA

-- What breaks the rule of a game, entry i: "no earlier entry is a game, first block 0, every next block one higher, size at
-- most 128".
pub data WrongGame (card : List ℕ) (i : ℕ) : Type 0 where
  second_game : {j : ℕ} → j < i → is_game (entry_on card j) ≡ true → WrongGame card i
  not_from_0 : first_block (entry_on card i) ≢ 0 → WrongGame card i
  not_rising : (k : ℕ) → k + 1 < length (file_on card i) → get_or (file_on card i) (k + 1) 0 ≢ get_or (file_on card i) k 0 + 1 → WrongGame card i
  too_long : 128 < size (entry_on card i) → WrongGame card i

-- Row n of the table of numbers finds this place wrong. "A card refusal also names its place: the whole card (20, 31 to 33), a
-- block (21 and 22: block 255; 23 to 25), or a directory entry (26 to 30)."
pub data Wrong (card : List ℕ) : ℕ → Place → Type 0 where
  row_20 : length card ≢ card_length → Wrong card 20 Whole
  row_21 : take 16 (root_of card) ≢ replicate 16 0x55 → Wrong card 21 (Block 255)
  row_22 : WrongRoot (root_of card) → Wrong card 22 (Block 255)
  row_23 : {b : ℕ} → 241 ≤ b → b < 256 → fat_entry (table_of card) b ≢ system_entry b → Wrong card 23 (Block b)
  -- "an entry of 200..240 neither FFFC nor FFFF"
  row_24 : {b : ℕ} → 200 ≤ b → b < 241 → fat_entry (table_of card) b ≢ 0xFFFC → fat_entry (table_of card) b ≢ 0xFFFF → Wrong card 24 (Block b)
  -- "a user entry not FFFC, FFFF, FFFA or 0..199"
  row_25 : {b : ℕ} → b < 200 → fat_entry (table_of card) b ≢ 0xFFFC → fat_entry (table_of card) b ≢ 0xFFFF → fat_entry (table_of card) b ≢ 0xFFFA
      → 200 ≤ fat_entry (table_of card) b → Wrong card 25 (Block b)
  row_26 : {i : ℕ} → UsedEntry card i → WrongFields (entry_on card i) → Wrong card 26 (Entry i)
  -- no blocks at all are its chain
  row_27 : {i : ℕ} → UsedEntry card i
      → ((blocks : List ℕ) → IsChain (table_of card) (size (entry_on card i)) (first_block (entry_on card i)) blocks → ⊥) → Wrong card 27 (Entry i)
  -- "a block also in an earlier entry's file"
  row_28 : {i j : ℕ} (b : ℕ) → i < 208 → j < i → has b (file_on card i) ≡ true → has b (file_on card j) ≡ true → Wrong card 28 (Entry i)
  -- "name of an earlier used entry"
  row_29 : {i j : ℕ} → UsedEntry card i → UsedEntry card j → j < i → name_of (entry_on card i) ≡ name_of (entry_on card j) → Wrong card 29 (Entry i)
  row_30 : {i : ℕ} → i < 208 → is_game (entry_on card i) ≡ true → WrongGame card i → Wrong card 30 (Entry i)

-- The verdict is the first thing that is wrong.
pub record Refused (card : List ℕ) (v : Verdict) : Type 0 where
  pub applies : Wrong card v.number v.place
  -- "20 to 30 in order, each over the whole card before the next"
  pub lowest_row : (n : ℕ) (p : Place) → Wrong card n p → v.number ≤ n
  -- "inside one, lowest block or lowest entry first"
  pub lowest_place : (p : Place) → Wrong card v.number p → place_number v.place ≤ place_number p

-- Every call gives this verdict and nothing beside it: no orphan and no entry. "A refusal changes no byte of any buffer."
pub record RefusedCalls (card : List ℕ) (v : Verdict) : Type 0 where
  pub checked : check_of card ≡ not_checked v
  pub listed : (start : ℕ) → list_of card start ≡ not_listed v
  pub read : (name : List ℕ) (index : ℕ) (buffer : List ℕ) → read_verdict card name index buffer ≡ v
  pub unread : (name : List ℕ) (index : ℕ) (buffer : List ℕ) → read_buffer card name index buffer ≡ buffer

-- What a listing that is done says of the copy flag: "protected or copyable and the raw byte", which is byte 1 of the entry.
pub record ShowsFlag (card : List ℕ) (listing : Listing) : Type 0 where
  pub raw : listing.flag ≡ get_or card (entry_place listing.entry + 1) 0
  -- "FF is protected and anything else may be copied"
  pub protected : (listing.protection ≡ Protected) ↔ (listing.flag ≡ 0xFF)
  pub copyable : (listing.protection ≡ Copyable) ↔ (listing.flag ≢ 0xFF)

-- A listing that is refused gives no entry: zeros, which say copyable.
pub record ShowsNothing (listing : Listing) : Type 0 where
  pub no_entry : listing.entry ≡ 0
  pub no_kind : listing.kind ≡ 0
  pub no_flag : listing.flag ≡ 0
  pub not_protected : listing.protection ≡ Copyable
  pub no_first : listing.first ≡ 0
  pub no_size : listing.size ≡ 0
  pub no_offset : listing.offset ≡ 0
  pub no_name : listing.name ≡ replicate 12 0
  pub no_time : listing.time ≡ replicate 8 0

pub record Theorems : Type 0 where
  -- the check is passed exactly when no row refuses
  pub sound_exactly : (card : List ℕ) → SoundCard card ↔ NoRowRefuses card
  -- number 0 names the whole card
  pub accepted_sound : (card : List ℕ) → (verdict_of card).number ≡ 0 → SoundCard card
  -- a card is refused exactly with the first thing that is wrong
  pub refused_exactly : (card : List ℕ) (v : Verdict) → ((verdict_of card ≡ v) × (v.number ≢ 0)) ↔ Refused card v
  -- what the calls answer on a refused card, and what a check does on a sound one
  pub refused_everywhere : (card : List ℕ) (v : Verdict) → Refused card v → RefusedCalls card v
  pub checks : (card : List ℕ) → SoundCard card
      → check_of card ≡ record { verdict = done; orphans = files.orphans (table_of card) (directory_of card) }
  -- the walk finds exactly the blocks that are a chain
  pub chain_exactly : (table : List ℕ) (left b : ℕ) (blocks : List ℕ) → (chain table left b ≡ Some blocks) ↔ IsChain table left b blocks
  -- a used entry's file is its chain, and an unused one has none
  pub file_exactly : (card : List ℕ) (i : ℕ) (blocks : List ℕ) → UsedEntry card i
      → IsChain (table_of card) (size (entry_on card i)) (first_block (entry_on card i)) blocks → file_on card i ≡ blocks
  pub no_file : (card : List ℕ) (i : ℕ) → is_used (entry_on card i) ≡ false → file_on card i ≡ []
  pub sound_file : (card : List ℕ) → SoundCard card → (i : ℕ) → UsedEntry card i → SoundFile card i
  -- files of different entries share no block
  pub files_apart : (card : List ℕ) → SoundCard card → (i j b : ℕ) → UsedEntry card i → UsedEntry card j → i ≢ j
      → has b (file_on card i) ≡ true → has b (file_on card j) ≡ false
  -- so there are at most 200 files
  pub at_most_200 : (card : List ℕ) → SoundCard card → length (keep (λ i. is_used (entry_on card i)) (numbers_from 0 208)) ≤ 200
  -- each user block is an orphan, in a file, free or damaged
  pub all_blocks : (card : List ℕ) → SoundCard card
      → files.orphans (table_of card) (directory_of card) + blocks_in_files card + count_blocks card is_free + count_blocks card is_damaged ≡ 200
  -- a game lies in blocks 0, 1, 2 and on, and there is at most one
  pub game_place : (card : List ℕ) → SoundCard card → (i : ℕ) → UsedEntry card i → is_game (entry_on card i) ≡ true
      → (file_on card i ≡ numbers_from 0 (size (entry_on card i))) × (size (entry_on card i) ≤ 128)
  pub one_game : (card : List ℕ) → SoundCard card → (i j : ℕ) → UsedEntry card i → UsedEntry card j
      → is_game (entry_on card i) ≡ true → is_game (entry_on card j) ≡ true → i ≡ j
  -- a listing gives the first used entry not below the start, and 31 where there is none
  pub lists : (card : List ℕ) → SoundCard card → (start i : ℕ) → UsedEntry card i → start ≤ i
      → ((j : ℕ) → start ≤ j → j < i → is_used (entry_on card j) ≡ false) → list_of card start ≡ listed_entry i (entry_on card i)
  pub lists_none : (card : List ℕ) → SoundCard card → (start : ℕ)
      → ((j : ℕ) → start ≤ j → j < 208 → is_used (entry_on card j) ≡ false) → list_of card start ≡ not_listed (refused_at 31 Whole)
  -- and what its copy flag says
  pub lists_flag : (card : List ℕ) (start : ℕ) → (list_of card start).verdict.number ≡ 0 → ShowsFlag card (list_of card start)
  pub lists_nothing : (card : List ℕ) (start : ℕ) → (list_of card start).verdict.number ≢ 0 → ShowsNothing (list_of card start)
  pub protected_exactly : (entry : List ℕ) → (is_protected entry ≡ true) ↔ (flag entry ≡ 0xFF)
  -- a name finds its own entry
  pub found_by_name : (card : List ℕ) → SoundCard card → (i : ℕ) → UsedEntry card i → entry_named (directory_of card) (name_of (entry_on card i)) ≡ Some i
  -- the blocks of a file, read in order, are its bytes
  pub reads_block : (card : List ℕ) → SoundCard card → (i index : ℕ) (buffer : List ℕ) → UsedEntry card i → index < size (entry_on card i)
      → length buffer ≡ 512
      → (read_verdict card (name_of (entry_on card i)) index buffer ≡ done)
      × (read_buffer card (name_of (entry_on card i)) index buffer ≡ take 512 (drop (index * 512) (file_bytes card i)))
  pub reads_file : (card : List ℕ) → SoundCard card → (i : ℕ) (buffer : List ℕ) → UsedEntry card i → length buffer ≡ 512
      → concat (map (λ index. read_buffer card (name_of (entry_on card i)) index buffer) (numbers_from 0 (size (entry_on card i)))) ≡ file_bytes card i
  -- what a read from a sound card refuses, and that it fills the buffer only where it is done
  pub refused_33 : (card : List ℕ) → SoundCard card → (name : List ℕ) (index : ℕ) (buffer : List ℕ) → (length name ≢ 12) ⊎ (length buffer ≢ 512)
      → read_verdict card name index buffer ≡ refused_at 33 Whole
  pub refused_31 : (card : List ℕ) → SoundCard card → (name : List ℕ) (index : ℕ) (buffer : List ℕ) → length name ≡ 12 → length buffer ≡ 512
      → ((i : ℕ) → UsedEntry card i → name_of (entry_on card i) ≢ name) → read_verdict card name index buffer ≡ refused_at 31 Whole
  pub refused_32 : (card : List ℕ) → SoundCard card → (i index : ℕ) (buffer : List ℕ) → UsedEntry card i → size (entry_on card i) ≤ index
      → length buffer ≡ 512 → read_verdict card (name_of (entry_on card i)) index buffer ≡ refused_at 32 Whole
  pub refused_unchanged : (card name : List ℕ) (index : ℕ) (buffer : List ℕ) → (read_verdict card name index buffer).number ≢ 0
      → read_buffer card name index buffer ≡ buffer
  -- not vacuous
  pub empty_sound : SoundCard empty_card
  pub empty_unused : (i : ℕ) → i < 208 → is_used (entry_on empty_card i) ≡ false
  pub files_sound : SoundCard files_card
  pub files_kinds : (is_data (entry_on files_card 0) ≡ true) × (is_game (entry_on files_card 1) ≡ true) × (is_data (entry_on files_card 3) ≡ true)
  pub files_are : (file_on files_card 0 ≡ 199 ∷ 198 ∷ []) × (file_on files_card 1 ≡ 0 ∷ 1 ∷ 2 ∷ []) × (file_on files_card 3 ≡ 190 ∷ [])
  pub files-protection :
      (protection_of (entry_on files_card 0) ≡ Copyable) × (protection_of (entry_on files_card 1) ≡ Copyable) × (protection_of (entry_on files_card 3) ≡ Protected)
  pub files_orphans : files.orphans (table_of files_card) (directory_of files_card) ≡ 1
