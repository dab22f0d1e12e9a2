-- The slot calls of document 02, order 4, in plain logic: what their definitions mean, and demands 2 and 3 for them.
-- Assumes nothing.
use Rattle.std.specs.Prelude.{ℕ, ◌+◌, ◌*◌, ◌≤◌, ◌<◌, ◌≡◌, Bool, true, List, [], ◌∷◌, ◌++◌, ◌↔◌, ◌≢◌, ◌⊎◌, length, get_or, take, drop}
use Rattle.std.specs.Prelude.{None, Some}
use Rattle.words.specs.Words.{word}
use Rattle.checksum.specs.Crc.{checksum_of}
use Rattle.flash_model.specs.Partition.{magic, header_number, refusal, Sound, contents}
use Rattle.flash_model.specs.Slots.{valid_slot, slot_refusal}
use Rattle.flash_model.specs.Calls.{Reply, code_of, reply_to, Answered}
use Rattle.flash_model.specs.Calls.{PageCall.save, PageCall.slot_read, PageCall.slot_save, WholeCall.slot_find, WholeCall.slot_list, CompoundCall.claim, Call.on_page, Call.on_whole, Call.on_pages}
use Rattle.flash_model.specs.PageStore.{expected_page}
use Rattle.flash_model.specs.Runs.{PageStep, counts_as, answered_pages, owned_of, SameButSeen}
use Rattle.flash_model.specs.Demands.{LengthsRefused, LengthsTaken, SaveDone}

-- ---- what the definitions mean

-- "it starts 01 FF, and the checksum at byte 0x70, over bytes 0x02 to 0x6F by the flash routine, is right": these bytes as a header
-- make a slot valid.
abbrev pub MakesValid : List ℕ → Type 0
MakesValid header = (get_or header 0 0 ≡ 0x01) × ((get_or header 1 0 ≡ 0xFF) × (word header 0x70 ≡ checksum_of (take 110 (drop 2 header))))

-- "A slot is valid when its first two blocks exist" and make it so: the slot has this header.
pub record HeaderIs (image : List ℕ) (slot : ℕ) (header : List ℕ) : Type 0 where
  pub one : List ℕ
  pub other : List ℕ
  pub first_block_lem : contents image (24 + 4 * slot) ≡ Some one
  pub second_block : contents image (25 + 4 * slot) ≡ Some other
  pub header_is : header ≡ one ++ other
  pub makes_valid : MakesValid header

-- One of the hundred slots, and valid.
abbrev pub IsSlot : List ℕ → ℕ → Type 0
IsSlot image slot = (slot ≤ 99) × ((header : List ℕ) × HeaderIs image slot header)

-- "Only 32,768 bytes (else 1) named as 3 (else 3)": all else as in document 01 for a call that names 3.
pub record SlotRefusalsMean (image : List ℕ) (partition : ℕ) : Type 0 where
  pub other_length : length image ≢ 32768 → slot_refusal image partition ≡ 1
  pub other_letters : length image ≡ 32768 → partition ≢ 3 → take 16 image ≢ magic → slot_refusal image partition ≡ 2
  pub other_number : length image ≡ 32768 → partition ≢ 3 → take 16 image ≡ magic → slot_refusal image partition ≡ 3
  pub named_3 : length image ≡ 32768 → partition ≡ 3 → slot_refusal image partition ≡ refusal image partition

-- The slot's header has the product number.
pub record ProductAt (image : List ℕ) (slot : ℕ) (product : List ℕ) : Type 0 where
  pub is_slot : slot ≤ 99
  pub header : List ℕ
  pub is_valid : HeaderIs image slot header
  pub product_is : take 10 (drop 2 header) ≡ product

-- "the lowest valid slot with it"
pub record LowestProduct (image : List ℕ) (slot : ℕ) (product : List ℕ) : Type 0 where
  pub here : ProductAt image slot product
  pub none_below : (k : ℕ) → k < slot → ProductAt image k product → ⊥

abbrev pub NoProduct : List ℕ → List ℕ → Type 0
NoProduct image product = (slot : ℕ) → ProductAt image slot product → ⊥

-- "the lowest slot not valid"
pub record LowestNotValid (image : List ℕ) (slot : ℕ) : Type 0 where
  pub is_slot : slot ≤ 99
  pub not_valid : IsSlot image slot → ⊥
  pub all_below : (k : ℕ) → k < slot → IsSlot image k

-- "the lowest valid slot from any start"
pub record NextSlotIs (image : List ℕ) (start slot : ℕ) : Type 0 where
  pub not_below : start ≤ slot
  pub is_valid : IsSlot image slot
  pub none_between : (k : ℕ) → start ≤ k → k < slot → IsSlot image k → ⊥

-- ---- the numbers, where 1 to 5 don't apply: "8, 41, 42, 43, then 7, 9 or 40", each in its turn

pub record SlotReadCodes (image : List ℕ) (slot block : ℕ) (buffer : List ℕ) (code : ℕ) : Type 0 where
  pub row_8 : (code ≡ 8) ↔ (length buffer ≢ 60)
  pub row_42 : (code ≡ 42) ↔ ((length buffer ≡ 60) × (IsSlot image slot → ⊥))
  pub row_43 : (code ≡ 43) ↔ ((length buffer ≡ 60) × (IsSlot image slot × (1 < block)))
  pub row_7 : (code ≡ 7) ↔ ((length buffer ≡ 60) × (IsSlot image slot × ((block ≤ 1) × (contents image (26 + 4 * slot + block) ≡ None))))
  pub row_0 : (code ≡ 0) ↔ ((length buffer ≡ 60) × (IsSlot image slot × ((block ≤ 1) × (contents image (26 + 4 * slot + block) ≢ None))))

pub record SlotSaveCodes (image : List ℕ) (slot block : ℕ) (expected page : List ℕ) (code : ℕ) : Type 0 where
  pub row_8 : (code ≡ 8) ↔ LengthsRefused expected page
  pub row_42 : (code ≡ 42) ↔ (LengthsTaken expected page × (IsSlot image slot → ⊥))
  pub row_43 : (code ≡ 43) ↔ (LengthsTaken expected page × (IsSlot image slot × (1 < block)))
  pub row_9 : (code ≡ 9)
      ↔ (LengthsTaken expected page × (IsSlot image slot × ((block ≤ 1) × (expected_page expected ≢ contents image (26 + 4 * slot + block)))))
  pub row_0 : (code ≡ 0)
      ↔ (LengthsTaken expected page × (IsSlot image slot × ((block ≤ 1) × (expected_page expected ≡ contents image (26 + 4 * slot + block)))))

pub record SlotFindCodes (image product : List ℕ) (code : ℕ) : Type 0 where
  pub row_8 : (code ≡ 8) ↔ (length product ≢ 10)
  pub row_7 : (code ≡ 7) ↔ ((length product ≡ 10) × NoProduct image product)
  pub row_0 : (code ≡ 0) ↔ ((length product ≡ 10) × ((slot : ℕ) × LowestProduct image slot product))

-- "40, exactly when all hundred are valid and none matches"
abbrev pub AllTaken : List ℕ → List ℕ → Type 0
AllTaken image product = ((slot : ℕ) → slot ≤ 99 → IsSlot image slot) × NoProduct image product

pub record ClaimCodes (image one other : List ℕ) (code : ℕ) : Type 0 where
  pub row_8 : (code ≡ 8) ↔ ((length one ≢ 60) ⊎ (length other ≢ 60))
  pub row_41 : (code ≡ 41) ↔ (((length one ≡ 60) × (length other ≡ 60)) × (MakesValid (one ++ other) → ⊥))
  pub row_40 : (code ≡ 40)
      ↔ (((length one ≡ 60) × (length other ≡ 60)) × (MakesValid (one ++ other) × AllTaken image (take 10 (drop 2 (one ++ other)))))
  pub row_0 : (code ≡ 0)
      ↔ (((length one ≡ 60) × (length other ≡ 60)) × (MakesValid (one ++ other) × (AllTaken image (take 10 (drop 2 (one ++ other))) → ⊥)))

-- ---- a claim

-- "It gives the slot find would give and changes nothing, ..
pub record ClaimFound (image one other image' : List ℕ) (slot : ℕ) : Type 0 where
  pub is_lowest : LowestProduct image slot (take 10 (drop 2 (one ++ other)))
  pub same_image : image' ≡ image

-- .. else saves the two in order at the lowest slot not valid".
pub record ClaimWritten (image one other image' : List ℕ) (slot : ℕ) : Type 0 where
  pub no_product : NoProduct image (take 10 (drop 2 (one ++ other)))
  pub is_lowest : LowestNotValid image slot
  pub between : List ℕ
  pub first_save_lem : SaveDone image (24 + 4 * slot) one between
  pub second_save_lem : SaveDone between (25 + 4 * slot) other image'
  -- one of the two may be idle, not both
  pub writes : image' ≢ image
  -- the slot then is valid with that header, is what find gives, and no other number's page has changed
  pub has_header : HeaderIs image' slot (one ++ other)
  pub is_found : LowestProduct image' slot (take 10 (drop 2 (one ++ other)))
  pub other_pages : (m : ℕ) → m ≢ 24 + 4 * slot → m ≢ 25 + 4 * slot → contents image' m ≡ contents image m

-- What a claim that writes counts as in a run: "saves to the blocks it writes there, with what stands there as last seen". A save of
-- the two that is idle is a save too.
pub record CountsAsSaves (image : List ℕ) (partition : ℕ) (one other : List ℕ) : Type 0 where
  pub slot : ℕ
  pub is_lowest : LowestNotValid image slot
  pub seen_one : List ℕ
  pub seen_other : List ℕ
  pub one_stands : expected_page seen_one ≡ contents image (24 + 4 * slot)
  pub other_stands : expected_page seen_other ≡ contents image (25 + 4 * slot)
  pub saves_are : counts_as image (on_pages (claim partition one other))
      ≡ save partition (24 + 4 * slot) seen_one one ∷ save partition (25 + 4 * slot) seen_other other ∷ []

-- A claim that is refused, or that finds its slot, counts as nothing.
pub record ClaimCounts (image : List ℕ) (partition : ℕ) (one other : List ℕ) : Type 0 where
  pub refused : code_of image (on_pages (claim partition one other)) ≢ 0 → counts_as image (on_pages (claim partition one other)) ≡ []
  pub found : (slot : ℕ) → ProductAt image slot (take 10 (drop 2 (one ++ other))) → counts_as image (on_pages (claim partition one other)) ≡ []
  pub written : code_of image (on_pages (claim partition one other)) ≡ 0 → NoProduct image (take 10 (drop 2 (one ++ other)))
      → CountsAsSaves image partition one other

abbrev pub AllDone : List PageStep → Type 0
AllDone [] = Unit {0}
AllDone (x ∷ xs) = (x.answer.code ≡ 0) × AllDone xs

-- "a sound partition of that length and name"
pub record SlotImage (image : List ℕ) : Type 0 where
  pub is_sound : Sound image
  pub has_length : length image ≡ 32768
  pub has_number_lem : header_number image ≡ 3

pub record SlotRules : Type 0 where
  -- what the definitions mean
  pub refusals_mean : (image : List ℕ) (partition : ℕ) → SlotRefusalsMean image partition
  pub slot_image : (image : List ℕ) → (slot_refusal image 3 ≡ 0) ↔ SlotImage image
  -- "Headers are 120 bytes."
  pub header_length : (image : List ℕ) (slot : ℕ) (header : List ℕ) → Sound image → HeaderIs image slot header → length header ≡ 120
  pub valid_slot_lem : (image : List ℕ) (slot : ℕ) → (valid_slot image slot ≡ true) ↔ ((header : List ℕ) × HeaderIs image slot header)
  -- the numbers
  pub read_codes : (image : List ℕ) (partition slot block : ℕ) (buffer : List ℕ) → slot_refusal image partition ≡ 0
      → SlotReadCodes image slot block buffer (code_of image (on_page (slot_read partition slot block buffer)))
  pub save_codes : (image : List ℕ) (partition slot block : ℕ) (expected page : List ℕ) → slot_refusal image partition ≡ 0
      → SlotSaveCodes image slot block expected page (code_of image (on_page (slot_save partition slot block expected page)))
  pub find_codes : (image : List ℕ) (partition : ℕ) (product : List ℕ) → slot_refusal image partition ≡ 0
      → SlotFindCodes image product (code_of image (on_whole (slot_find partition product)))
  pub claim_codes : (image : List ℕ) (partition : ℕ) (one other : List ℕ) → slot_refusal image partition ≡ 0
      → ClaimCodes image one other (code_of image (on_pages (claim partition one other)))
  -- what accepted calls give
  pub find_gives : (image : List ℕ) (partition : ℕ) (product image' : List ℕ) (answer : Reply)
      → Answered image (on_whole (slot_find partition product)) image' answer → answer.code ≡ 0
      → (slot : ℕ) × (answer.values ≡ slot ∷ []) × LowestProduct image slot product
  pub list_gives : (image : List ℕ) (partition start : ℕ) (image' : List ℕ) (answer : Reply)
      → Answered image (on_whole (slot_list partition start)) image' answer → answer.code ≡ 0
      → (slot : ℕ) × (answer.values ≡ slot ∷ []) × NextSlotIs image start slot
  pub list_none : (image : List ℕ) (partition start : ℕ) → slot_refusal image partition ≡ 0
      → code_of image (on_whole (slot_list partition start)) ≢ 0
      → (code_of image (on_whole (slot_list partition start)) ≡ 7) × ((slot : ℕ) → start ≤ slot → IsSlot image slot → ⊥)
  pub read_gives : (image : List ℕ) (partition slot block : ℕ) (buffer image' : List ℕ) (answer : Reply)
      → Answered image (on_page (slot_read partition slot block buffer)) image' answer → answer.code ≡ 0
      → (page : List ℕ) × (answer.buffers ≡ page ∷ []) × (contents image (26 + 4 * slot + block) ≡ Some page)
  -- an accepted slot save is a save of its data block: all of demand 2 is said of that
  pub save_is_save : (image : List ℕ) (partition slot block : ℕ) (expected page image' : List ℕ) (answer : Reply)
      → Answered image (on_page (slot_save partition slot block expected page)) image' answer → answer.code ≡ 0
      → SaveDone image (26 + 4 * slot + block) page image'
  pub claim_gives : (image : List ℕ) (partition : ℕ) (one other image' : List ℕ) (answer : Reply)
      → Answered image (on_pages (claim partition one other)) image' answer → answer.code ≡ 0
      → (slot : ℕ) × (answer.values ≡ slot ∷ []) × (ClaimFound image one other image' slot ⊎ ClaimWritten image one other image' slot)
  pub claim_counts : (image : List ℕ) (partition : ℕ) (one other : List ℕ) → ClaimCounts image partition one other
  -- a claim that writes the same slot in two runs is made in both, whatever stood there
  pub claims_in_both : (owned : ℕ → Bool) (s t one other : List ℕ) (partition slot : ℕ) (a b : Reply) (s' t' : List ℕ)
      → code_of s (on_pages (claim partition one other)) ≡ 0 → code_of t (on_pages (claim partition one other)) ≡ 0
      → NoProduct s (take 10 (drop 2 (one ++ other))) → NoProduct t (take 10 (drop 2 (one ++ other)))
      → LowestNotValid s slot → LowestNotValid t slot
      → SameButSeen (owned_of owned s (record { made = on_pages (claim partition one other); answer = a; image' = s' }))
      (owned_of owned t (record { made = on_pages (claim partition one other); answer = b; image' = t' }))
  -- the saves that it counts as in a run are done
  pub claim_done : (image : List ℕ) (partition : ℕ) (one other : List ℕ) → AllDone (answered_pages image (counts_as image (on_pages (claim partition one other))))
  -- "A claim's answer, on a sound partition of that length and name, depends only on its buffers and all header blocks."
  pub claims_alike : (s t one other : List ℕ) → SlotImage s → SlotImage t
      → ((slot i : ℕ) → slot ≤ 99 → i ≤ 1 → contents s (24 + 4 * slot + i) ≡ contents t (24 + 4 * slot + i))
      → reply_to s (on_pages (claim 3 one other)) ≡ reply_to t (on_pages (claim 3 one other))
  -- "For a slot save, "never refused" asks besides for that length and name, a valid slot and data block 0 or 1."
  pub never_refused : (image : List ℕ) (slot block : ℕ) (expected page image' : List ℕ) (answer : Reply)
      → SlotImage image → IsSlot image slot → block ≤ 1 → length page ≡ 60 → expected_page expected ≡ contents image (26 + 4 * slot + block)
      → Answered image (on_page (slot_save 3 slot block expected page)) image' answer
      → (answer.code ≡ 0) × (contents image' (26 + 4 * slot + block) ≡ Some page)
