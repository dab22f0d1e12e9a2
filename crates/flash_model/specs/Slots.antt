-- Game slots of partition 3: document 02, order 4, with the layout of document 001, "Partition 3".
-- Assumes nothing.
use Rattle.std.specs.Prelude.{ℕ, ◌+◌, ◌*◌, Bool, false, not, cond, ◌&&◌, ◌||◌, List, [], ◌++◌, eqb, ltb, leb, length, get_or, take, drop}
use Rattle.std.specs.Prelude.{Option, None, Some}
use Rattle.words.specs.Lists.{is_some}
use Rattle.words.specs.Search.{lowest}
use Rattle.words.specs.Words.{word, same_bytes}
use Rattle.checksum.specs.Crc.{checksum_of}
use Rattle.flash_model.specs.Partition.{row, refusal, contents}

-- ---- numbers

-- "A hundred slots of four logical blocks from 24 to 423."
unfoldable pub slot_count : ℕ
slot_count = 100

-- The logical number of a slot's block i, 0 to 3.
unfoldable pub slot_number : ℕ → ℕ → ℕ
slot_number slot i = 24 + 4 * slot + i

-- "its first two blocks" are the header, the other two the data blocks 0 and 1.
unfoldable pub data_number : ℕ → ℕ → ℕ
data_number slot block = slot_number slot (2 + block)

-- "Only 32,768 bytes (else 1) named as 3 (else 3)."
unfoldable pub slot_size : ℕ
slot_size = 32768

unfoldable pub slot_partition : ℕ
slot_partition = 3

-- ---- headers

-- The header in two blocks, one behind the other, where both "exist".
abbrev pub joined : Option (List ℕ) → Option (List ℕ) → Option (List ℕ)
joined None second = None
joined (Some a) None = None
joined (Some a) (Some b) = Some (a ++ b)

unfoldable pub slot_header : List ℕ → ℕ → Option (List ℕ)
slot_header image slot = joined (contents image (slot_number slot 0)) (contents image (slot_number slot 1))

-- "it starts 01 FF, and the checksum at byte 0x70, over bytes 0x02 to 0x6F by the flash routine, is right"
unfoldable pub right_header : List ℕ → Bool
right_header header =
    (eqb (get_or header 0 0) 0x01 && eqb (get_or header 1 0) 0xFF) && eqb (word header 0x70) (checksum_of (take 0x6E (drop 0x02 header)))

-- The product number: 10 bytes at 0x02.
unfoldable pub product_of : List ℕ → List ℕ
product_of header = take 10 (drop 0x02 header)

-- ---- slots

abbrev pub is_right : Option (List ℕ) → Bool
is_right None = false
is_right (Some header) = right_header header

-- "A slot is valid when" both blocks exist and make a right header.
unfoldable pub valid_slot : List ℕ → ℕ → Bool
valid_slot image slot = is_right (slot_header image slot)

abbrev pub has_product : List ℕ → Option (List ℕ) → Bool
has_product product None = false
has_product product (Some header) = right_header header && same_bytes (product_of header) product

-- "Find by product number .. gives the lowest valid slot with it".
unfoldable pub product_slot : List ℕ → List ℕ → Option ℕ
product_slot image product = lowest (λ slot. has_product product (slot_header image slot)) 0 slot_count

-- "the lowest slot not valid"
unfoldable pub free_slot : List ℕ → Option ℕ
free_slot image = lowest (λ slot. not (valid_slot image slot)) 0 slot_count

-- "the lowest valid slot from any start"
unfoldable pub lowest_valid : List ℕ → ℕ → Option ℕ
lowest_valid image start = lowest (λ slot. leb start slot && valid_slot image slot) 0 slot_count

-- ---- claims

abbrev pub or_else : Option ℕ → Option ℕ → Option ℕ
or_else None other = other
or_else (Some slot) other = Some slot

-- The slot that a claim with this header gives: "the slot find would give .. else .. the lowest slot not valid".
unfoldable pub claimed_slot : List ℕ → List ℕ → Option ℕ
claimed_slot image header = or_else (product_slot image (product_of header)) (free_slot image)

-- The slot that it writes: none where find would give one.
unfoldable pub written_slot : List ℕ → List ℕ → Option ℕ
written_slot image header = cond (is_some (product_slot image (product_of header))) None (free_slot image)

-- "what stands there", as an expected page.
abbrev pub page_bytes : Option (List ℕ) → List ℕ
page_bytes None = []
page_bytes (Some page) = page

-- ---- refusals

-- The rows 1 to 5 of a slot call that names this partition number: after 2 the number named must be 3.
unfoldable pub slot_refusal : List ℕ → ℕ → ℕ
slot_refusal image partition =
    row 1 (not (eqb (length image) slot_size))
    (row 2 (eqb (refusal image partition) 2)
    (row 3 (not (eqb partition slot_partition)) (refusal image partition)))

-- 42: "a slot above 99 or not valid"
unfoldable pub no_slot : List ℕ → ℕ → Bool
no_slot image slot = ltb 99 slot || not (valid_slot image slot)

-- 43: "a data block other than 0 or 1"
unfoldable pub no_block : ℕ → Bool
no_block block = ltb 1 block
