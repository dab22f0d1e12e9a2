-- What is proved of a write and of a delete.
-- Assumes nothing.
use Rattle.std.specs.Prelude.{ℕ, ◌+◌, ◌*◌, ◌≤◌, ◌<◌, ◌≡◌, true, false, List, [], ◌∷◌, ◌++◌, ◌≢◌, ◌⊎◌, length, get_or, take, drop, set, replicate}
use Rattle.std.specs.Prelude.{None, Some}
use Rattle.words.specs.Lists.{has, is_some}
use Rattle.verdicts.specs.Rows.{done, refused_at}
use Rattle.verdicts.specs.declared.Place.TheVariants.{Whole, Entry}
use Rattle.card_model.specs.Layout.{card_length, block_place, block_at, table_of, entry_place, directory_of}
use Rattle.card_model.specs.Table.{fat_entry}
use Rattle.card_model.specs.Entries.{kind, flag, name_of, time_of, size, header_offset, is_used}
use Rattle.card_model.specs.Files as files
use Rattle.card_model.specs.Calls.{entry_named, read_verdict, read_buffer}
use Rattle.card_model.specs.Sound.{SoundCard, entry_on, file_on, file_bytes, UsedEntry}
use Rattle.card_model.specs.Examples.{empty_card}
use Rattle.card_updates.specs.Parts.{with_part, with_link, InBlock, InLink, InEntry, OnlyAt}
use Rattle.card_updates.specs.Delete.{delete_verdict, freed, deleted}
use Rattle.card_updates.specs.Write.{NewFile, given_file, blocks_of, numbers_down, free_blocks, lowest_unused, new_entry, with_blocks, taken_blocks, write_verdict, written}
use Rattle.card_updates.specs.Refusals.{ExactlyOn, delete_order, WrongDelete, write_order, WrongWrite}
use Rattle.card_updates.specs.Examples.{scattered_card, open_card, file_of_size}

-- ---- parts

-- One part is put anew, inside the card: that part is the new one and every other part is as before.
pub record PartPut (card : List ℕ) (at : ℕ) (part : List ℕ) : Type 0 where
  pub same_length : length (with_part card at part) ≡ length card
  pub put : take (length part) (drop at (with_part card at part)) ≡ part
  pub other : (a n : ℕ) → (a + n ≤ at) ⊎ (at + length part ≤ a) → take n (drop a (with_part card at part)) ≡ take n (drop a card)

-- A user block is put anew.
pub record BlockPut (card : List ℕ) (b : ℕ) (part : List ℕ) : Type 0 where
  pub put : block_at (with_part card (block_place b) part) b ≡ part
  pub other_blocks : (c : ℕ) → c ≢ b → block_at (with_part card (block_place b) part) c ≡ block_at card c
  pub table : table_of (with_part card (block_place b) part) ≡ table_of card
  pub directory : directory_of (with_part card (block_place b) part) ≡ directory_of card

-- A table entry is put anew.
pub record LinkPut (card : List ℕ) (b e : ℕ) : Type 0 where
  pub table : table_of (with_link card b e) ≡ set (table_of card) b e
  pub directory : directory_of (with_link card b e) ≡ directory_of card
  pub blocks : (c : ℕ) → c ≢ 254 → block_at (with_link card b e) c ≡ block_at card c

-- A directory entry is put anew.
pub record EntryPut (card : List ℕ) (i : ℕ) (entry : List ℕ) : Type 0 where
  pub table : table_of (with_part card (entry_place i) entry) ≡ table_of card
  pub directory : directory_of (with_part card (entry_place i) entry) ≡ set (directory_of card) i entry
  pub blocks : (c : ℕ) → (c < 241) ⊎ (254 ≤ c) → block_at (with_part card (entry_place i) entry) c ≡ block_at card c

-- ---- files

abbrev pub orphans_on : List ℕ → ℕ
orphans_on card = files.orphans (table_of card) (directory_of card)

-- Entry j, its blocks and their bytes are as before.
pub record SameFile (card after : List ℕ) (j : ℕ) : Type 0 where
  pub entry : entry_on after j ≡ entry_on card j
  pub blocks : file_on after j ≡ file_on card j
  pub bytes : file_bytes after j ≡ file_bytes card j

-- Orphans and damaged blocks: the table entry is not FFFC, and no file has the block.
pub record Unowned (card : List ℕ) (b : ℕ) : Type 0 where
  pub user_block : b < 200
  pub not_free : fat_entry (table_of card) b ≢ 0xFFFC
  pub in_no_file : has b (files.files_before (table_of card) (directory_of card) 208) ≡ false

-- They keep their table entry and their bytes.
pub record KeptBlock (card after : List ℕ) (b : ℕ) : Type 0 where
  pub link : fat_entry (table_of after) b ≡ fat_entry (table_of card) b
  pub bytes : block_at after b ≡ block_at card b

-- The places that a delete of entry i names: the table entries of the file's blocks, and entry i.
pub data PlaceOfDelete (card : List ℕ) (i k : ℕ) : Type 0 where
  delete_link : (b : ℕ) → has b (file_on card i) ≡ true → InLink b k → PlaceOfDelete card i k
  delete_entry : InEntry i k → PlaceOfDelete card i k

-- What a delete of entry i leaves.
pub record DeleteLeaves (card after : List ℕ) (i : ℕ) : Type 0 where
  pub sound : SoundCard after
  pub same_orphans : orphans_on after ≡ orphans_on card
  -- "Delete sets the chain to FFFC and the entry to 32 zeros and leaves the data blocks' bytes."
  pub chain_free : (b : ℕ) → has b (file_on card i) ≡ true → fat_entry (table_of after) b ≡ 0xFFFC
  pub entry_zeros : entry_on after i ≡ replicate 32 0
  pub data_left : (b : ℕ) → b < 200 → block_at after b ≡ block_at card b
  -- the name is gone
  pub gone : entry_named (directory_of after) (name_of (entry_on card i)) ≡ None
  -- "every other file as before; .. no byte changes that isn't named"
  pub others : (j : ℕ) → j < 208 → j ≢ i → SameFile card after j
  pub unowned_kept : (b : ℕ) → Unowned card b → KeptBlock card after b
  pub named_only : OnlyAt (PlaceOfDelete card i) card after

-- A delete that is done, and the entry that had the name.
pub record DeleteDone (card name after : List ℕ) : Type 0 where
  pub at_entry : ℕ
  pub was_used : UsedEntry card at_entry
  pub had_name : name_of (entry_on card at_entry) ≡ name
  pub leaves : DeleteLeaves card after at_entry

-- "The new file reads as given": the file at entry i is found by its name and has the kind, fields, blocks and bytes given.
pub record NewFileAt (after : List ℕ) (i kind_given : ℕ) (f : NewFile) (offset : ℕ) (blocks : List ℕ) : Type 0 where
  pub used : UsedEntry after i
  pub found : entry_named (directory_of after) f.name ≡ Some i
  pub kind_is : kind (entry_on after i) ≡ kind_given
  pub flag_is : flag (entry_on after i) ≡ f.flag
  pub name_is : name_of (entry_on after i) ≡ f.name
  pub time_is : time_of (entry_on after i) ≡ f.time
  pub size_is : size (entry_on after i) ≡ blocks_of f
  pub offset_is : header_offset (entry_on after i) ≡ offset
  pub reserved : drop 0x1c (entry_on after i) ≡ replicate 4 0
  pub blocks_are : file_on after i ≡ blocks
  pub reads : file_bytes after i ≡ f.content
  -- block by block, by the call that reads
  pub reads_back : (index : ℕ) (buffer : List ℕ) → index < blocks_of f → length buffer ≡ 512
      → (read_verdict after f.name index buffer ≡ done) × (read_buffer after f.name index buffer ≡ take 512 (drop (index * 512) f.content))

-- "the lowest unused entry"
pub record IsLowestUnused (card : List ℕ) (i : ℕ) : Type 0 where
  pub in_directory : i < 208
  pub is_unused : is_used (entry_on card i) ≡ false
  pub used_below : (j : ℕ) → j < i → is_used (entry_on card j) ≡ true

-- "Blocks are taken in file order from the highest free one downwards": they were free, they fall, and what stays free is below them all.
-- "Strays and damaged blocks are never taken."
pub record HighestFree (card blocks : List ℕ) : Type 0 where
  pub were_free : (b : ℕ) → has b blocks ≡ true → (b < 200) × (fat_entry (table_of card) b ≡ 0xFFFC)
  pub falling : (j k : ℕ) → j < k → k < length blocks → get_or blocks k 0 < get_or blocks j 0
  pub highest : (b : ℕ) → b < 200 → fat_entry (table_of card) b ≡ 0xFFFC → has b blocks ≡ false → (c : ℕ) → has c blocks ≡ true → b < c

-- The places that a write to entry i names: the bytes and the table entries of the file's blocks, and entry i.
pub data PlaceOfWrite (blocks : List ℕ) (i k : ℕ) : Type 0 where
  write_block : (b : ℕ) → has b blocks ≡ true → InBlock b k → PlaceOfWrite blocks i k
  write_link : (b : ℕ) → has b blocks ≡ true → InLink b k → PlaceOfWrite blocks i k
  write_entry : InEntry i k → PlaceOfWrite blocks i k

-- What a write of a data file at entry i leaves.
pub record WriteLeaves (card after : List ℕ) (f : NewFile) (offset i : ℕ) : Type 0 where
  pub sound : SoundCard after
  pub same_orphans : orphans_on after ≡ orphans_on card
  pub has_file : NewFileAt after i 0x33 f offset (taken_blocks card f)
  pub lowest_entry : IsLowestUnused card i
  pub taken : HighestFree card (taken_blocks card f)
  -- "every other file as before; .. no byte changes that isn't named"
  pub others : (j : ℕ) → j < 208 → j ≢ i → SameFile card after j
  pub unowned_kept : (b : ℕ) → Unowned card b → KeptBlock card after b
  pub named_only : OnlyAt (PlaceOfWrite (taken_blocks card f) i) card after

-- A write that is done, and the entry that it took.
pub record WriteDone (card : List ℕ) (f : NewFile) (offset : ℕ) (after : List ℕ) : Type 0 where
  pub at_entry : ℕ
  pub leaves : WriteLeaves card after f offset at_entry

-- Refusals on the card `scattered_card`; where two faults meet, the earlier row of the order answers.
pub record ScatteredRefusals : Type 0 where
  pub one_block_more : write_verdict scattered_card (file_of_size 0x43 196) 0 ≡ refused_at 34 Whole
  pub taken_name : write_verdict scattered_card (file_of_size 0x42 2) 0 ≡ refused_at 29 (Entry 1)
  pub taken_name_before_room : write_verdict scattered_card (file_of_size 0x42 196) 0 ≡ refused_at 29 (Entry 1)
  pub offset_before_taken_name : write_verdict scattered_card (file_of_size 0x42 2) 2 ≡ refused_at 26 Whole
  pub length_before_offset : write_verdict scattered_card (file_of_size 0x42 201) 201 ≡ refused_at 33 Whole
  pub short_name : write_verdict scattered_card (given_file 0x00 (replicate 11 0x43) (replicate 8 0x20) (replicate 512 0x11)) 0 ≡ refused_at 33 Whole
  pub short_time : write_verdict scattered_card (given_file 0x00 (replicate 12 0x43) (replicate 7 0x20) (replicate 512 0x11)) 0 ≡ refused_at 33 Whole
  pub part_of_block : write_verdict scattered_card (given_file 0x00 (replicate 12 0x43) (replicate 8 0x20) (replicate 513 0x11)) 0 ≡ refused_at 33 Whole
  pub no_block : write_verdict scattered_card (file_of_size 0x42 0) 0 ≡ refused_at 33 Whole
  pub absent_name : delete_verdict scattered_card (replicate 12 0x43) ≡ refused_at 31 Whole
  pub short_name_to_delete : delete_verdict scattered_card (replicate 11 0x41) ≡ refused_at 33 Whole

pub record UpdateTheorems : Type 0 where
  -- one law on parts, and its instances
  pub puts_part : (card : List ℕ) (at : ℕ) (part : List ℕ) → at + length part ≤ length card → PartPut card at part
  pub puts_block : (card : List ℕ) (b : ℕ) (part : List ℕ) → length card ≡ card_length → b < 200 → length part ≡ 512 → BlockPut card b part
  pub puts_link : (card : List ℕ) (b e : ℕ) → length card ≡ card_length → b < 256 → LinkPut card b e
  pub puts_entry : (card : List ℕ) (i : ℕ) (entry : List ℕ) → length card ≡ card_length → i < 208 → length entry ≡ 32 → EntryPut card i entry
  -- the places of two blocks, of two table entries and of two directory entries have no byte in common
  pub blocks_apart : (b c k : ℕ) → InBlock b k → InBlock c k → b ≡ c
  pub links_apart : (b c k : ℕ) → InLink b k → InLink c k → b ≡ c
  pub entries_apart : (i j k : ℕ) → i < 208 → j < 208 → InEntry i k → InEntry j k → i ≡ j
  -- a file is what the call was given
  pub given_as : (flag : ℕ) (name time content : List ℕ)
      → ((given_file flag name time content).flag ≡ flag) × ((given_file flag name time content).name ≡ name)
      × ((given_file flag name time content).time ≡ time) × ((given_file flag name time content).content ≡ content)
  -- "given exactly when": each call is done, or refused with the first thing that is wrong
  pub delete_exactly : (card name : List ℕ) → ExactlyOn card delete_order (WrongDelete card name) (delete_verdict card name)
  pub write_exactly : (card : List ℕ) (f : NewFile) (offset : ℕ) → ExactlyOn card write_order (WrongWrite card f offset) (write_verdict card f offset)
  -- "A refusal changes no byte of any buffer."
  pub delete_refused : (card name : List ℕ) → (delete_verdict card name).number ≢ 0 → deleted card name ≡ card
  pub write_refused : (card : List ℕ) (f : NewFile) (offset : ℕ) → (write_verdict card f offset).number ≢ 0 → written card f offset ≡ card
  -- "Show that the directory never lacks room."
  pub never_full : (card : List ℕ) → SoundCard card → is_some (lowest_unused (directory_of card)) ≡ true
  -- number 0 names the whole card
  pub delete_zero : (card name : List ℕ) → (delete_verdict card name).number ≡ 0 → delete_verdict card name ≡ done
  pub write_zero : (card : List ℕ) (f : NewFile) (offset : ℕ) → (write_verdict card f offset).number ≡ 0 → write_verdict card f offset ≡ done
  -- what is done
  pub deletes : (card name : List ℕ) → delete_verdict card name ≡ done → DeleteDone card name (deleted card name)
  pub writes : (card : List ℕ) (f : NewFile) (offset : ℕ) → write_verdict card f offset ≡ done → WriteDone card f offset (written card f offset)
  -- "every other file as before": each read under another name answers and fills the buffer as before, refused or not
  pub write_others_read : (card : List ℕ) (f : NewFile) (offset : ℕ) → write_verdict card f offset ≡ done
      → (name : List ℕ) (index : ℕ) (buffer : List ℕ) → name ≢ f.name
      → (read_verdict (written card f offset) name index buffer ≡ read_verdict card name index buffer)
      × (read_buffer (written card f offset) name index buffer ≡ read_buffer card name index buffer)
  pub delete_others_read : (card name : List ℕ) → delete_verdict card name ≡ done
      → (other : List ℕ) (index : ℕ) (buffer : List ℕ) → other ≢ name
      → (read_verdict (deleted card name) other index buffer ≡ read_verdict card other index buffer)
      × (read_buffer (deleted card name) other index buffer ≡ read_buffer card other index buffer)
  -- not vacuous: 200 blocks onto an empty card
  pub empty_writes : write_verdict empty_card (file_of_size 0x43 200) 199 ≡ done
  pub empty_taken : taken_blocks empty_card (file_of_size 0x43 200) ≡ numbers_down 200
  pub empty_entry : lowest_unused (directory_of empty_card) ≡ Some 0
  -- a card with files, an orphan and a damaged block between its free ones; all that are free are taken, and one more is refused
  pub scattered_sound : SoundCard scattered_card
  pub scattered_orphans : orphans_on scattered_card ≡ 1
  pub scattered_writes : write_verdict scattered_card (file_of_size 0x43 4) 3 ≡ done
  pub scattered_taken : taken_blocks scattered_card (file_of_size 0x43 4) ≡ 198 ∷ 195 ∷ 193 ∷ 192 ∷ []
  pub scattered_entry : lowest_unused (directory_of scattered_card) ≡ Some 2
  pub scattered_fits : write_verdict scattered_card (file_of_size 0x43 195) 0 ≡ done
  pub scattered_deletes : delete_verdict scattered_card (replicate 12 0x41) ≡ done
  pub scattered_refused : ScatteredRefusals
  -- and one where entry 0 is unused and block 199 is free: both are taken first
  pub open_sound : SoundCard open_card
  pub open_writes : write_verdict open_card (file_of_size 0x43 2) 0 ≡ done
  pub open_taken : taken_blocks open_card (file_of_size 0x43 2) ≡ 199 ∷ 197 ∷ []
  pub open_entry : lowest_unused (directory_of open_card) ≡ Some 0
  -- worked on short lists: a part, the free ones of five blocks, the lowest unused of three entries, an entry; two blocks with two bytes of
  -- data, and a table entry that is freed, on cards of so few bytes that what is put stands behind them
  pub short_part : with_part (1 ∷ 2 ∷ 3 ∷ 4 ∷ 5 ∷ []) 1 (8 ∷ 9 ∷ []) ≡ 1 ∷ 8 ∷ 9 ∷ 4 ∷ 5 ∷ []
  pub short_free : free_blocks (0xFFFC ∷ 0xFFFF ∷ 4 ∷ 0xFFFC ∷ 0xFFFA ∷ []) ≡ 3 ∷ 0 ∷ []
  pub short_unused : lowest_unused ((0x33 ∷ []) ∷ (0x00 ∷ 0x41 ∷ []) ∷ (0xCC ∷ []) ∷ []) ≡ Some 1
  pub short-entry :
      new_entry 0x33 (file_of_size 0x43 2) 1 199
      ≡ 0x33 ∷ 0xFE ∷ 199 ∷ 0 ∷ replicate 12 0x43 ++ (replicate 8 0x20 ++ (2 ∷ 0 ∷ 1 ∷ 0 ∷ 0 ∷ 0 ∷ 0 ∷ 0 ∷ []))
  pub short_blocks : with_blocks [] (0 ∷ 7 ∷ []) (8 ∷ 9 ∷ []) ≡ 8 ∷ 9 ∷ 7 ∷ 0 ∷ 0xFA ∷ 0xFF ∷ []
  pub short_freed : freed (1 ∷ 2 ∷ []) (0 ∷ []) ≡ 1 ∷ 2 ∷ 0xFC ∷ 0xFF ∷ []
  -- the bytes that a write of block 198 at entry 2 may change, and those that a delete there may
  pub write_bytes : (k : ℕ) → PlaceOfWrite (198 ∷ []) 2 k
      → ((101376 ≤ k) × (k < 101888)) ⊎ (((130444 ≤ k) × (k < 130446)) ⊎ ((129600 ≤ k) × (k < 129632)))
  pub delete_bytes : (card : List ℕ) (k : ℕ) → file_on card 2 ≡ 198 ∷ [] → PlaceOfDelete card 2 k
      → ((130444 ≤ k) × (k < 130446)) ⊎ ((129600 ≤ k) × (k < 129632))
