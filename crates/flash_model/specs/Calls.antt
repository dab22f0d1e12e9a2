-- The calls on a partition: what each answers and what it leaves, from the image and the buffers as they stand when it is
-- made. Document 01, "Numbers the bench will see", with the order of refusals given below its table; the slot calls of
-- document 02, order 4: "Order: 1 to 5, 8, 41, 42, 43, then 7, 9 or 40."
-- Assumes nothing.
use Rattle.std.specs.Prelude.{ℕ, ◌≡◌, Bool, not, cond, ◌||◌, List, [], ◌∷◌, ◌++◌, eqb, length}
use Rattle.std.specs.Prelude.{Option, None, Some}
use Rattle.words.specs.Lists.{is_some, to_list}
use Rattle.words.specs.Words.{same_bytes}
use Rattle.flash_model.specs.Measures.{capacity, legal_number}
use Rattle.flash_model.specs.Partition.{row, first, refusal, version, contents, live, used, lowest_live}
use Rattle.flash_model.specs.Update.{saved, erased}
use Rattle.flash_model.specs.Slots.{slot_number, data_number, right_header, product_slot, lowest_valid, claimed_slot, written_slot, page_bytes, slot_refusal, no_slot, no_block}

-- A call on one page: the partition number named, the logical number, and the buffers. `expected` is what the writer
-- last saw there, 0 bytes for nothing.
pub data PageCall : Type 0 where
  read : (partition n : ℕ) (buffer : List ℕ) → PageCall
  save : (partition n : ℕ) (expected page : List ℕ) → PageCall
  -- the same of a slot's data block 0 or 1
  slot_read : (partition slot block : ℕ) (buffer : List ℕ) → PageCall
  slot_save : (partition slot block : ℕ) (expected page : List ℕ) → PageCall

-- A call that looks at the whole partition.
pub data WholeCall : Type 0 where
  check : (partition : ℕ) → WholeCall
  report : (partition : ℕ) → WholeCall
  next_live : (partition start : ℕ) → WholeCall
  erase : (partition : ℕ) → WholeCall
  -- the slot with a product number, and the lowest valid slot from a start
  slot_find : (partition : ℕ) (product : List ℕ) → WholeCall
  slot_list : (partition start : ℕ) → WholeCall

-- A call that makes page calls of its own.
pub data CompoundCall : Type 0 where
  -- a slot for a game, with the first and the second block of its header
  claim : (partition : ℕ) (one other : List ℕ) → CompoundCall

pub data Call : Type 0 where
  on_page : PageCall → Call
  on_whole : WholeCall → Call
  on_pages : CompoundCall → Call

-- What a call gives: its number, the values it hands back, and its buffers afterwards.
pub record Reply : Type 0 where
  pub code : ℕ
  pub values : List ℕ
  pub buffers : List (List ℕ)

-- An answer that is a code alone, with these buffers.
abbrev pub code_answer : ℕ → List (List ℕ) → Reply
code_answer n lent = record { code = n; values = []; buffers = lent }

-- ---- the number

-- 9: "contents differ from last-seen, or one of them is nothing and the other isn't"
abbrev pub differs : Option (List ℕ) → List ℕ → Bool
differs None expected = not (eqb (length expected) 0)
differs (Some page) expected = not (same_bytes page expected)

unfoldable pub changed_since : List ℕ → ℕ → List ℕ → Bool
changed_since image n expected = differs (contents image n) expected

-- 8, of a save: "page buffer not 60 bytes, or last-seen neither 0 nor 60"
unfoldable pub wrong_lengths : List ℕ → List ℕ → Bool
wrong_lengths expected page = not (eqb (length page) 60) || not (eqb (length expected) 0 || eqb (length expected) 60)

-- A read, where 1 to 5 don't apply. 6: "logical number above M-2"; 8: "page buffer not 60 bytes"; 7: "nothing there"
unfoldable pub read_rows : List ℕ → ℕ → List ℕ → ℕ
read_rows image n buffer =
    row 6 (not (legal_number (length image) n))
    (row 8 (not (eqb (length buffer) 60))
    (row 7 (not (is_some (contents image n))) 0))

-- A save, where 1 to 5 don't apply.
unfoldable pub save_rows : List ℕ → ℕ → List ℕ → List ℕ → ℕ
save_rows image n expected page =
    row 6 (not (legal_number (length image) n))
    (row 8 (wrong_lengths expected page)
    (row 9 (changed_since image n expected) 0))

-- "a slot above 99 or not valid is 42, a data block other than 0 or 1 is 43"; else the later rows decide.
abbrev pub slot_rows : List ℕ → ℕ → ℕ → ℕ → ℕ
slot_rows image slot block later = row 42 (no_slot image slot) (row 43 (no_block block) later)

-- A read of a slot's data block, where 1 to 5 don't apply: "8, 41, 42, 43, then 7, 9 or 40", those that it can give.
unfoldable pub slot_read_rows : List ℕ → ℕ → ℕ → List ℕ → ℕ
slot_read_rows image slot block buffer =
    row 8 (not (eqb (length buffer) 60))
    (slot_rows image slot block
    (row 7 (not (is_some (contents image (data_number slot block)))) 0))

-- A save of it, where 1 to 5 don't apply.
unfoldable pub slot_save_rows : List ℕ → ℕ → ℕ → List ℕ → List ℕ → ℕ
slot_save_rows image slot block expected page =
    row 8 (wrong_lengths expected page)
    (slot_rows image slot block
    (row 9 (changed_since image (data_number slot block) expected) 0))

-- "1 to 5, then 6, 8, then 7 or 9"; of a slot's data block "1 to 5, 8, 41, 42, 43, then 7, 9 or 40"
abbrev pub page_code : List ℕ → PageCall → ℕ
page_code image (read partition n buffer) = first (refusal image partition) (read_rows image n buffer)
page_code image (save partition n expected page) = first (refusal image partition) (save_rows image n expected page)
page_code image (slot_read partition slot block buffer) = first (slot_refusal image partition) (slot_read_rows image slot block buffer)
page_code image (slot_save partition slot block expected page) = first (slot_refusal image partition) (slot_save_rows image slot block expected page)

-- A find, where 1 to 5 don't apply: "Find by product number (10 bytes, else 8 ..) .. else 7".
unfoldable pub find_rows : List ℕ → List ℕ → ℕ
find_rows image product = row 8 (not (eqb (length product) 10)) (row 7 (not (is_some (product_slot image product))) 0)

-- "Next-live takes any starting number and never gives 6; past the top it gives 7." List gives "the lowest valid slot from any start,
-- else 7".
abbrev pub whole_code : List ℕ → WholeCall → ℕ
whole_code image (check partition) = refusal image partition
whole_code image (report partition) = refusal image partition
whole_code image (next_live partition start) = first (refusal image partition) (row 7 (not (is_some (lowest_live image start))) 0)
whole_code image (erase partition) = refusal image partition
whole_code image (slot_find partition product) = first (slot_refusal image partition) (find_rows image product)
whole_code image (slot_list partition start) = first (slot_refusal image partition) (row 7 (not (is_some (lowest_valid image start))) 0)

-- A claim, where 1 to 5 don't apply: "two 60-byte header blocks (else 8; 41 if they wouldn't make a slot valid)"; 40 where it
-- gives no slot.
unfoldable pub claim_rows : List ℕ → List ℕ → List ℕ → ℕ
claim_rows image one other =
    row 8 (not (eqb (length one) 60) || not (eqb (length other) 60))
    (row 41 (not (right_header (one ++ other)))
    (row 40 (not (is_some (claimed_slot image (one ++ other)))) 0))

abbrev pub compound_code : List ℕ → CompoundCall → ℕ
compound_code image (claim partition one other) = first (slot_refusal image partition) (claim_rows image one other)

unfoldable pub code_of : List ℕ → Call → ℕ
code_of image (on_page p) = page_code image p
code_of image (on_whole w) = whole_code image w
code_of image (on_pages c) = compound_code image c

unfoldable pub accepted : List ℕ → Call → Bool
accepted image c = eqb (code_of image c) 0

-- ---- what an accepted call gives

-- "The report gives version, capacity, used and live." Next-live gives the number found, and
-- find, list and claim a slot: one value, where they are accepted.
abbrev pub values_of : List ℕ → Call → List ℕ
values_of image (on_page p) = []
values_of image (on_whole (check partition)) = []
values_of image (on_whole (report partition)) = version image ∷ capacity (length image) ∷ used image ∷ live image ∷ []
values_of image (on_whole (next_live partition start)) = to_list (lowest_live image start)
values_of image (on_whole (erase partition)) = []
values_of image (on_whole (slot_find partition product)) = to_list (product_slot image product)
values_of image (on_whole (slot_list partition start)) = to_list (lowest_valid image start)
values_of image (on_pages (claim partition one other)) = to_list (claimed_slot image (one ++ other))

-- The buffers that a call brings.
abbrev pub buffers_of : Call → List (List ℕ)
buffers_of (on_page (read partition n buffer)) = buffer ∷ []
buffers_of (on_page (save partition n expected page)) = expected ∷ page ∷ []
buffers_of (on_page (slot_read partition slot block buffer)) = buffer ∷ []
buffers_of (on_page (slot_save partition slot block expected page)) = expected ∷ page ∷ []
buffers_of (on_whole (check partition)) = []
buffers_of (on_whole (report partition)) = []
buffers_of (on_whole (next_live partition start)) = []
buffers_of (on_whole (erase partition)) = []
buffers_of (on_whole (slot_find partition product)) = product ∷ []
buffers_of (on_whole (slot_list partition start)) = []
buffers_of (on_pages (claim partition one other)) = one ∷ other ∷ []

-- A read fills its buffer with the contents (which are there, where it is accepted); no other buffer changes.
abbrev pub filled_buffers : List ℕ → Call → List (List ℕ)
filled_buffers image (on_page (read partition n buffer)) = to_list (contents image n)
filled_buffers image (on_page (save partition n expected page)) = expected ∷ page ∷ []
filled_buffers image (on_page (slot_read partition slot block buffer)) = to_list (contents image (data_number slot block))
filled_buffers image (on_page (slot_save partition slot block expected page)) = expected ∷ page ∷ []
filled_buffers image (on_whole w) = buffers_of (on_whole w)
filled_buffers image (on_pages c) = buffers_of (on_pages c)

-- Only a save may change the image; `saved` says what it leaves.
abbrev pub page_image : List ℕ → PageCall → List ℕ
page_image image (read partition n buffer) = image
page_image image (save partition n expected page) = saved image n page
page_image image (slot_read partition slot block buffer) = image
page_image image (slot_save partition slot block expected page) = saved image (data_number slot block) page

-- The image after a page call, and after some of them, one after the other.
unfoldable pub after_page : List ℕ → PageCall → List ℕ
after_page image p = cond (eqb (page_code image p) 0) (page_image image p) image

abbrev pub after_pages : List ℕ → List PageCall → List ℕ
after_pages image [] = image
after_pages image (p ∷ ps) = after_pages (after_page image p) ps

-- The saves of an accepted claim: "the two in order at the lowest slot not valid", "with what stands there as last seen".
abbrev pub saves_at : List ℕ → ℕ → List ℕ → List ℕ → Option ℕ → List PageCall
saves_at image partition one other None = []
saves_at image partition one other (Some slot) =
    save partition (slot_number slot 0) (page_bytes (contents image (slot_number slot 0))) one
    ∷ save partition (slot_number slot 1) (page_bytes (contents image (slot_number slot 1))) other ∷ []

-- The page calls that an accepted compound call makes.
unfoldable pub calls_made : List ℕ → CompoundCall → List PageCall
calls_made image (claim partition one other) = saves_at image partition one other (written_slot image (one ++ other))

-- Only a save, an erase and a claim may change the image.
abbrev pub changed_image : List ℕ → Call → List ℕ
changed_image image (on_page p) = page_image image p
changed_image image (on_whole (check partition)) = image
changed_image image (on_whole (report partition)) = image
changed_image image (on_whole (next_live partition start)) = image
changed_image image (on_whole (erase partition)) = erased image
changed_image image (on_whole (slot_find partition product)) = image
changed_image image (on_whole (slot_list partition start)) = image
changed_image image (on_pages c) = after_pages image (calls_made image c)

-- ---- the reply, and the image after it: "A refusal changes no byte of any buffer."

unfoldable pub reply_to : List ℕ → Call → Reply
reply_to image c = record {
  code = code_of image c;
  values = cond (accepted image c) (values_of image c) [];
  buffers = cond (accepted image c) (filled_buffers image c) (buffers_of c);
}

unfoldable pub after : List ℕ → Call → List ℕ
after image c = cond (accepted image c) (changed_image image c) image

-- A call made on an image has given this answer and left image': what every public contract says.
pub record Answered (image : List ℕ) (c : Call) (image' : List ℕ) (answer : Reply) : Type 0 where
  pub answer_is : answer ≡ reply_to image c
  pub image_is : image' ≡ after image c
