-- The three demands (document 00) as facts about the definitions, in plain logic.
-- Assumes nothing.
use Rattle.std.specs.Prelude.{ℕ, suc, ◌+◌, ◌*◌, ◌≤◌, ◌<◌, ◌≡◌, Bool, true, false, List, [], ◌∷◌, ◌++◌, map, ◌↔◌, ◌≢◌, ◌⊎◌, length, get_or, take, replicate}
use Rattle.std.specs.Prelude.{None, Some}
use Rattle.flash_model.specs.Measures.{legal_size, bitmap_blocks, first_bitmap, capacity, top_number}
use Rattle.flash_model.specs.Bitmap.{bit_byte, bit_weight, bit_of}
use Rattle.flash_model.specs.UserBlock.{new_block}
use Rattle.flash_model.specs.Partition.{block_at, header_number, version, bitmap_of, allocated, refusal, Sound, contents, live, used}
use Rattle.flash_model.specs.Update.{holders, other_holders}
use Rattle.flash_model.specs.Meanings.{NextLiveIs}
use Rattle.flash_model.specs.Slots.{slot_refusal}
use Rattle.flash_model.specs.Calls.{PageCall, Call, Reply, code_of, buffers_of, Answered}
use Rattle.flash_model.specs.Calls.{PageCall.read, PageCall.save, PageCall.slot_read, PageCall.slot_save, WholeCall.check, WholeCall.report, WholeCall.next_live, WholeCall.erase, WholeCall.slot_find, WholeCall.slot_list, CompoundCall.claim, Call.on_page, Call.on_whole, Call.on_pages}
use Rattle.flash_model.specs.PageStore.{expected_page, owned_pages, store_replies, store_final}
use Rattle.flash_model.specs.Premises.{PremisesMean}
use Rattle.flash_model.specs.Runs.{Step, Chain, final, owned_steps, calls_of, answers_of, MayStand, Item, steps_of, steps_in_both, WellMarked, SameButSeen}

-- ---- demand 1

-- The slot calls.
abbrev pub on_slots : Call → Bool
on_slots (on_page (read partition n buffer)) = false
on_slots (on_page (save partition n expected page)) = false
on_slots (on_page (slot_read partition slot block buffer)) = true
on_slots (on_page (slot_save partition slot block expected page)) = true
on_slots (on_whole (check partition)) = false
on_slots (on_whole (report partition)) = false
on_slots (on_whole (next_live partition start)) = false
on_slots (on_whole (erase partition)) = false
on_slots (on_whole (slot_find partition product)) = true
on_slots (on_whole (slot_list partition start)) = true
on_slots (on_pages (claim partition one other)) = true

-- "Any bytes at all may be handed in as an image, a page or a number": each field is about every image and every call, and no
-- public call has a `requires`.
-- "Every public call ends, reads and writes only inside what it was lent, and tests its own input": that it ends and stays
-- inside, the toolchain proves of each function. Whatever is handed in, there is an answer (`answered`; which one, `Answered` says),
-- and the image is no longer and no shorter (`same_length`). What the tests let pass is sound: `Meanings.refused_not`.
-- "A refusal gives the number in document 01's table, and the image and every other buffer stay byte for byte as they came in":
-- `in_table`, `slots_in_table` and `refusal_keeps`; which number it is, `Meanings`, demand 2 and, of slot calls, `SlotRules` say. For cards card_model's Theorems have the same:
-- `refused_exactly`, `refused_everywhere`, `refused_unchanged`.
pub record Demand1 : Type 0 where
  pub answered : (image : List ℕ) (c : Call) → (image' : List ℕ) × (answer : Reply) × Answered image c image' answer
  -- 0 to 9 are the table's numbers for a partition, 40 to 43 those that document 02, order 4, adds for slots
  pub in_table : (image : List ℕ) (c : Call) → on_slots c ≡ false → code_of image c ≤ 9
  pub slots_in_table : (image : List ℕ) (c : Call) → on_slots c ≡ true → (code_of image c ≤ 9) ⊎ ((40 ≤ code_of image c) × (code_of image c ≤ 43))
  -- it hands nothing back either
  pub refusal_keeps : (image : List ℕ) (c : Call) (image' : List ℕ) (answer : Reply) → Answered image c image' answer
      → answer.code ≢ 0 → (image' ≡ image) × (answer.buffers ≡ buffers_of c) × (answer.values ≡ [])
  pub same_length : (image : List ℕ) (c : Call) (image' : List ℕ) (answer : Reply) → Answered image c image' answer → length image' ≡ length image

-- ---- demand 2

-- Still a sound partition of the same length and header block.
pub record Keeps (image image' : List ℕ) : Type 0 where
  pub still_sound : Sound image'
  pub same_length : length image' ≡ length image
  pub same_header : take 64 image' ≡ take 64 image

-- The number's page is the new one, every other number's as before.
pub record SavedAs (image : List ℕ) (n : ℕ) (page image' : List ℕ) : Type 0 where
  pub saved_page : contents image' n ≡ Some page
  pub other_pages : (m : ℕ) → m ≢ n → contents image' m ≡ contents image m
  pub keeps_rest : Keeps image image'

-- Every number's page is as before.
pub record ErasedAs (image image' : List ℕ) : Type 0 where
  pub all_pages : (m : ℕ) → contents image' m ≡ contents image m
  pub keeps_rest : Keeps image image'

-- "a free user block exists and the lowest free one holds 64 bytes of FF": block k.
pub record LowestFreeBlank (image : List ℕ) (k : ℕ) : Type 0 where
  pub low : 1 ≤ k
  pub high : k ≤ capacity (length image)
  pub is_free_lem : allocated image k ≡ false
  pub lower_allocated : (j : ℕ) → 1 ≤ j → j < k → allocated image j ≡ true
  pub is_blank : block_at image k ≡ replicate 64 255

-- The cases of a save: the page is there already; it is not, and there is a block to append to; it is not, and there is none. No
-- two of them hold at once.
abbrev pub SaveCases : List ℕ → ℕ → List ℕ → Type 0
SaveCases image n page =
    (contents image n ≡ Some page)
    ⊎ ((contents image n ≢ Some page) × (((k : ℕ) × LowestFreeBlank image k) ⊎ ((k : ℕ) → LowestFreeBlank image k → ⊥)))

-- Document 01's short way, at block k: "No other byte changes and no bit goes from 0 to 1."
pub record AppendedAt (image : List ℕ) (k : ℕ) (new image' : List ℕ) : Type 0 where
  pub is_written : block_at image' k ≡ new
  pub bit_was_1 : bit_of (bitmap_of image) k ≡ 1
  pub bit_falls : get_or image' (first_bitmap (length image) * 64 + bit_byte k) 0 + bit_weight k ≡ get_or image (first_bitmap (length image) * 64 + bit_byte k) 0
  pub other_bits : (j : ℕ) → 1 ≤ j → j ≢ k → bit_of (bitmap_of image') j ≡ bit_of (bitmap_of image) j
  pub bytes_below : (i : ℕ) → i < k * 64 → get_or image' i 0 ≡ get_or image i 0
  pub bytes_above : (i : ℕ) → k * 64 + 64 ≤ i → i ≢ first_bitmap (length image) * 64 + bit_byte k → get_or image' i 0 ≡ get_or image i 0
  pub same_length : length image' ≡ length image

-- Document 01's long way with these blocks: "at 1, 2, 3 and on .. all else FF except the bitmap bits of the blocks so filled".
pub record CompactedAs (image : List ℕ) (kept : List (List ℕ)) (image' : List ℕ) : Type 0 where
  pub has_room : length kept ≤ capacity (length image)
  pub same_header : take 64 image' ≡ take 64 image
  pub blocks_are : (i : ℕ) → i < length kept → block_at image' (suc i) ≡ get_or kept i []
  pub rest_blank : (i : ℕ) → 64 * suc (length kept) ≤ i → i < first_bitmap (length image) * 64 → get_or image' i 0 ≡ 255
  pub bits_cleared_lem : (k : ℕ) → 1 ≤ k → k ≤ length kept → bit_of (bitmap_of image') k ≡ 0
  pub bits_set : (k : ℕ) → length kept < k → k ≤ bitmap_blocks (length image) * 512 → bit_of (bitmap_of image') k ≡ 1
  pub same_length : length image' ≡ length image

-- A save that names the partition's number, with a number in range and buffers of the right length.
pub record ProperSave (image : List ℕ) (partition n : ℕ) (expected page : List ℕ) : Type 0 where
  pub is_sound : Sound image
  pub is_named_lem : header_number image ≡ partition
  pub in_range : n ≤ top_number (length image)
  pub page_length : length page ≡ 60
  pub expected_length : (length expected ≢ 0) → length expected ≡ 60

-- What a read's number says where 1 to 5 don't apply: the later rows of "Numbers the bench will see", each "given exactly when",
-- and none before its turn: "then 6, 8, then 7 or 9".
pub record ReadCodes (image : List ℕ) (n : ℕ) (buffer : List ℕ) (code : ℕ) : Type 0 where
  -- "logical number above M-2"
  pub row_6 : (code ≡ 6) ↔ (top_number (length image) < n)
  -- "page buffer not 60 bytes"
  pub row_8 : (code ≡ 8) ↔ ((n ≤ top_number (length image)) × (length buffer ≢ 60))
  -- "read or next-live: nothing there"
  pub row_7 : (code ≡ 7) ↔ ((n ≤ top_number (length image)) × (length buffer ≡ 60) × (contents image n ≡ None))
  -- "done"
  pub row_0 : (code ≡ 0) ↔ ((n ≤ top_number (length image)) × (length buffer ≡ 60) × (contents image n ≢ None))

-- The buffers of a save.
abbrev pub LengthsRefused : List ℕ → List ℕ → Type 0
LengthsRefused expected page = (length page ≢ 60) ⊎ ((length expected ≢ 0) × (length expected ≢ 60))

abbrev pub LengthsTaken : List ℕ → List ℕ → Type 0
LengthsTaken expected page = (length page ≡ 60) × ((length expected ≡ 0) ⊎ (length expected ≡ 60))

-- What a save's number says where 1 to 5 don't apply.
pub record SaveCodes (image : List ℕ) (n : ℕ) (expected page : List ℕ) (code : ℕ) : Type 0 where
  -- "logical number above M-2"
  pub row_6 : (code ≡ 6) ↔ (top_number (length image) < n)
  -- "page buffer not 60 bytes, or last-seen neither 0 nor 60"
  pub row_8 : (code ≡ 8) ↔ ((n ≤ top_number (length image)) × LengthsRefused expected page)
  -- "save: contents differ from last-seen, or one of them is nothing and the other isn't"
  pub row_9 : (code ≡ 9) ↔ ((n ≤ top_number (length image)) × LengthsTaken expected page × (expected_page expected ≢ contents image n))
  -- "done"
  pub row_0 : (code ≡ 0) ↔ ((n ≤ top_number (length image)) × LengthsTaken expected page × (expected_page expected ≡ contents image n))

-- The partition number that a call names.
abbrev pub named_by : Call → ℕ
named_by (on_page (read partition n buffer)) = partition
named_by (on_page (save partition n expected page)) = partition
named_by (on_page (slot_read partition slot block buffer)) = partition
named_by (on_page (slot_save partition slot block expected page)) = partition
named_by (on_whole (check partition)) = partition
named_by (on_whole (report partition)) = partition
named_by (on_whole (next_live partition start)) = partition
named_by (on_whole (erase partition)) = partition
named_by (on_whole (slot_find partition product)) = partition
named_by (on_whole (slot_list partition start)) = partition
named_by (on_pages (claim partition one other)) = partition

-- The calls that write nothing but their buffer.
abbrev pub ReadOnly : Call → Type 0
ReadOnly (on_page (read partition n buffer)) = Unit {0}
ReadOnly (on_page (save partition n expected page)) = ⊥
ReadOnly (on_page (slot_read partition slot block buffer)) = Unit {0}
ReadOnly (on_page (slot_save partition slot block expected page)) = ⊥
ReadOnly (on_whole (check partition)) = Unit {0}
ReadOnly (on_whole (report partition)) = Unit {0}
ReadOnly (on_whole (next_live partition start)) = Unit {0}
ReadOnly (on_whole (erase partition)) = ⊥
ReadOnly (on_whole (slot_find partition product)) = Unit {0}
ReadOnly (on_whole (slot_list partition start)) = Unit {0}
ReadOnly (on_pages (claim partition one other)) = ⊥

-- The calls that fill a buffer.
abbrev pub fills_buffer : Call → Bool
fills_buffer (on_page (read partition n buffer)) = true
fills_buffer (on_page (save partition n expected page)) = false
fills_buffer (on_page (slot_read partition slot block buffer)) = true
fills_buffer (on_page (slot_save partition slot block expected page)) = false
fills_buffer (on_whole w) = false
fills_buffer (on_pages c) = false

-- An accepted save that left image'.
abbrev pub SaveDone : List ℕ → ℕ → List ℕ → List ℕ → Type 0
SaveDone image n page image' =
    (partition : ℕ) × (expected : List ℕ) × (answer : Reply)
    × Answered image (on_page (save partition n expected page)) image' answer × (answer.code ≡ 0)

pub record Demand2 : Type 0 where
  -- "1 to 5" come before all others; a sound partition named rightly is refused none of them
  pub refused_first : (image : List ℕ) (c : Call) → on_slots c ≡ false → refusal image (named_by c) ≢ 0 → code_of image c ≡ refusal image (named_by c)
  pub slots_refused_first : (image : List ℕ) (c : Call) → on_slots c ≡ true → slot_refusal image (named_by c) ≢ 0 → code_of image c ≡ slot_refusal image (named_by c)
  pub whole_accepted : (image : List ℕ) → Sound image
      → (code_of image (on_whole (check (header_number image))) ≡ 0)
      × (code_of image (on_whole (report (header_number image))) ≡ 0)
      × (code_of image (on_whole (erase (header_number image))) ≡ 0)
  -- "then 6, 8, then 7 or 9", a read or save being done where none of these applies
  pub read_codes : (image : List ℕ) (partition n : ℕ) (buffer : List ℕ) → refusal image partition ≡ 0
      → ReadCodes image n buffer (code_of image (on_page (read partition n buffer)))
  pub save_codes : (image : List ℕ) (partition n : ℕ) (expected page : List ℕ) → refusal image partition ≡ 0
      → SaveCodes image n expected page (code_of image (on_page (save partition n expected page)))
  pub read_only_keeps : (image : List ℕ) (c : Call) (image' : List ℕ) (answer : Reply) → ReadOnly c → Answered image c image' answer → image' ≡ image
  pub buffers_kept : (image : List ℕ) (c : Call) (image' : List ℕ) (answer : Reply) → fills_buffer c ≡ false → Answered image c image' answer
      → answer.buffers ≡ buffers_of c
  -- the buffers of calls that fill none: as they came in
  pub save_buffers : (image : List ℕ) (partition n : ℕ) (expected page image' : List ℕ) (answer : Reply)
      → Answered image (on_page (save partition n expected page)) image' answer → answer.buffers ≡ expected ∷ page ∷ []
  pub slot_save_buffers : (image : List ℕ) (partition slot block : ℕ) (expected page image' : List ℕ) (answer : Reply)
      → Answered image (on_page (slot_save partition slot block expected page)) image' answer → answer.buffers ≡ expected ∷ page ∷ []
  pub find_buffers : (image : List ℕ) (partition : ℕ) (product image' : List ℕ) (answer : Reply)
      → Answered image (on_whole (slot_find partition product)) image' answer → answer.buffers ≡ product ∷ []
  pub claim_buffers : (image : List ℕ) (partition : ℕ) (one other image' : List ℕ) (answer : Reply)
      → Answered image (on_pages (claim partition one other)) image' answer → answer.buffers ≡ one ∷ other ∷ []
  -- only a report, a next-live and the calls that give a slot hand values back
  pub page_values : (image : List ℕ) (p : PageCall) (image' : List ℕ) (answer : Reply) → Answered image (on_page p) image' answer → answer.values ≡ []
  pub check_values : (image : List ℕ) (partition : ℕ) (image' : List ℕ) (answer : Reply)
      → Answered image (on_whole (check partition)) image' answer → answer.values ≡ []
  pub erase_values : (image : List ℕ) (partition : ℕ) (image' : List ℕ) (answer : Reply)
      → Answered image (on_whole (erase partition)) image' answer → answer.values ≡ []
  pub report_gives : (image : List ℕ) (partition : ℕ) (image' : List ℕ) (answer : Reply)
      → Answered image (on_whole (report partition)) image' answer → answer.code ≡ 0
      → answer.values ≡ version image ∷ capacity (length image) ∷ used image ∷ live image ∷ []
  -- next-live gives the number, or 7 and nothing else where there is none
  pub next_live_gives : (image : List ℕ) (partition start : ℕ) (image' : List ℕ) (answer : Reply)
      → Answered image (on_whole (next_live partition start)) image' answer → answer.code ≡ 0
      → (n : ℕ) × (answer.values ≡ n ∷ []) × NextLiveIs image start n
  pub next_live_none : (image : List ℕ) (start : ℕ) → Sound image → code_of image (on_whole (next_live (header_number image) start)) ≢ 0
      → (code_of image (on_whole (next_live (header_number image) start)) ≡ 7) × ((n : ℕ) → start ≤ n → contents image n ≡ None)
  -- a read that is accepted leaves the contents in its buffer
  pub read_gives : (image : List ℕ) (partition n : ℕ) (buffer image' : List ℕ) (answer : Reply)
      → Answered image (on_page (read partition n buffer)) image' answer → answer.code ≡ 0
      → (page : List ℕ) × (answer.buffers ≡ page ∷ []) × (contents image n ≡ Some page) × (length page ≡ 60)
  pub save_keeps : (image : List ℕ) (n : ℕ) (page image' : List ℕ) → SaveDone image n page image' → SavedAs image n page image'
  -- "A save whose new bytes equal the contents now answers 0 and changes no byte" (document 02, order 5): an idle save
  pub save_idles : (image : List ℕ) (n : ℕ) (page image' : List ℕ)
      → SaveDone image n page image' → contents image n ≡ Some page → (image' ≡ image) × (contents image' n ≡ Some page)
  -- any other is an append exactly where that can be had, and a compaction otherwise. "A save's answer doesn't tell which way was
  -- taken ..; the report does": used is as it was after an idle save, one more after an append, and equals live after a compaction.
  -- (Where used equalled live before, the counts after a compaction can be those after one of the others.)
  pub save_appends : (image : List ℕ) (n : ℕ) (page image' : List ℕ) (k : ℕ)
      → SaveDone image n page image' → contents image n ≢ Some page → LowestFreeBlank image k
      → AppendedAt image k (new_block n page) image' × (used image' ≡ suc (used image))
  pub save_compacts : (image : List ℕ) (n : ℕ) (page image' : List ℕ)
      → SaveDone image n page image' → contents image n ≢ Some page → ((k : ℕ) → LowestFreeBlank image k → ⊥)
      → CompactedAs image (other_holders image n ++ new_block n page ∷ []) image' × (used image' ≡ live image')
  -- "or where the block went; the report does": it is the last used one
  pub save_place : (image : List ℕ) (n : ℕ) (page image' : List ℕ)
      → SaveDone image n page image' → contents image n ≢ Some page → block_at image' (used image') ≡ new_block n page
  -- there is no fourth case
  pub save_cases : (image : List ℕ) (n : ℕ) (page : List ℕ) → SaveCases image n page
  -- "In an otherwise proper save, it is refused as changed exactly when that is no longer so", and else accepted
  pub refused_as_changed : (image : List ℕ) (partition n : ℕ) (expected page : List ℕ) → ProperSave image partition n expected page
      → (code_of image (on_page (save partition n expected page)) ≡ 9) ↔ (expected_page expected ≢ contents image n)
  pub accepted_unchanged : (image : List ℕ) (partition n : ℕ) (expected page : List ℕ) → ProperSave image partition n expected page
      → (code_of image (on_page (save partition n expected page)) ≡ 0) ↔ (expected_page expected ≡ contents image n)
  pub erase_keeps : (image : List ℕ) (partition : ℕ) (image' : List ℕ) (answer : Reply)
      → Answered image (on_whole (erase partition)) image' answer → answer.code ≡ 0
      → ErasedAs image image' × CompactedAs image (holders image) image' × (used image' ≡ live image')

-- ---- demand 3

-- A run against the page store fed with the calls on owned numbers that its steps count as.
pub record RunsAsStore (owned : ℕ → Bool) (image : List ℕ) (steps : List Step) : Type 0 where
  pub answers : answers_of (owned_steps owned image steps)
      ≡ store_replies (length image) (header_number image) (owned_pages owned image) (calls_of (owned_steps owned image steps))
  pub pages : (n : ℕ) → owned n ≡ true → contents (final image steps) n
      ≡ store_final (length image) (header_number image) (owned_pages owned image) (calls_of (owned_steps owned image steps)) n
  pub ends_sound : Sound (final image steps)
  pub same_length : length (final image steps) ≡ length image
  pub same_number : header_number (final image steps) ≡ header_number image

-- Two runs with the same calls on owned numbers. What else they read of these, they too get from the store.
pub record SameForOwned (owned : ℕ → Bool) (s t : List ℕ) (xs ys : List Item) : Type 0 where
  pub answers : answers_of (steps_in_both owned s xs) ≡ answers_of (steps_in_both owned t ys)
  pub pages : (n : ℕ) → owned n ≡ true → contents (final s (steps_of xs)) n ≡ contents (final t (steps_of ys)) n
  pub one : RunsAsStore owned s (steps_of xs)
  pub other : RunsAsStore owned t (steps_of ys)

pub record Demand3 : Type 0 where
  pub premises_mean : (owned : ℕ → Bool) → PremisesMean owned
  pub runs_as_store : (owned : ℕ → Bool) (image : List ℕ) (steps : List Step)
      → Sound image → Chain image steps → MayStand owned steps → RunsAsStore owned image steps
  pub two_runs : (owned : ℕ → Bool) (s t : List ℕ) (xs ys : List Item)
      → Sound s → Sound t → length s ≡ length t → header_number s ≡ header_number t
      → ((n : ℕ) → owned n ≡ true → contents s n ≡ contents t n)
      → Chain s (steps_of xs) → Chain t (steps_of ys) → MayStand owned (steps_of xs) → MayStand owned (steps_of ys)
      → WellMarked owned s xs → WellMarked owned t ys
      → calls_of (steps_in_both owned s xs) ≡ calls_of (steps_in_both owned t ys)
      → SameForOwned owned s t xs ys
  -- what saves that are done in both last saw need not be compared
  pub seen_alike : (owned : ℕ → Bool) (s t : List ℕ) (xs ys : List Item)
      → Sound s → Sound t → length s ≡ length t → header_number s ≡ header_number t
      → ((n : ℕ) → owned n ≡ true → contents s n ≡ contents t n)
      → Chain s (steps_of xs) → Chain t (steps_of ys) → MayStand owned (steps_of xs) → MayStand owned (steps_of ys)
      → WellMarked owned s xs → WellMarked owned t ys
      → SameButSeen (steps_in_both owned s xs) (steps_in_both owned t ys)
      → calls_of (steps_in_both owned s xs) ≡ calls_of (steps_in_both owned t ys)
  pub never_refused : (image : List ℕ) (n : ℕ) (expected page image' : List ℕ) (answer : Reply)
      → Sound image → n ≤ top_number (length image) → length page ≡ 60 → expected_page expected ≡ contents image n
      → Answered image (on_page (save (header_number image) n expected page)) image' answer
      → (answer.code ≡ 0) × (contents image' n ≡ Some page)

-- ---- these are about something

-- Every element is a byte.
abbrev pub Bytes : List ℕ → Type 0
Bytes [] = Unit {0}
Bytes (x ∷ xs) = (x < 256) × Bytes xs

-- An image in a machine's memory that is a sound partition of this length and number.
pub record Witness (size partition : ℕ) (image : List ℕ) : Type 0 where
  pub are_bytes : Bytes image
  pub has_length : length image ≡ size
  pub not_refused : refusal image partition ≡ 0

pub record NotVacuous : Type 0 where
  pub three_sizes : (size : ℕ) → (legal_size size ≡ true) ↔ ((size ≡ 16384) ⊎ ((size ≡ 32768) ⊎ (size ≡ 65536)))
  -- with nothing live, where a save appends, and with every number live, with a page of its own, where a save of that page is
  -- idle and one of another page compacts
  pub empty : (size partition : ℕ) → legal_size size ≡ true → partition < 256
      → (image : List ℕ) × Witness size partition image × (used image ≡ 0) × ((n : ℕ) → contents image n ≡ None) × LowestFreeBlank image 1
  pub full : (size partition : ℕ) (page : ℕ → List ℕ) → legal_size size ≡ true → partition < 256
      → ((n : ℕ) → Bytes (page n)) → ((n : ℕ) → length (page n) ≡ 60)
      → (image : List ℕ) × Witness size partition image × (used image ≡ capacity size)
      × ((n : ℕ) → n ≤ top_number size → contents image n ≡ Some (page n))
  -- wherever a page is, there is an idle save
  pub idle : (image : List ℕ) (partition n : ℕ) (page : List ℕ) → refusal image partition ≡ 0 → contents image n ≡ Some page
      → SaveDone image n page image
  -- any list of calls can be made, so every chain theorem has its chains
  pub chains : (image : List ℕ) (calls : List Call) → (steps : List Step) × (map (λ s. s.made) steps ≡ calls) × Chain image steps
