-- The page store, document 01's page book ("Runs of calls and the page book"): a page or nothing for each number, and the
-- answers it gives to reads and saves, and to those of slots "by these rules from its own pages, length and number"
-- (document 02, order 4). It is told the image's length and header number. Its tests decide plain facts, and
-- it shares none of the tests that the calls on an image are defined by.
-- Assumes nothing.
use Rattle.std.specs.Prelude.{ℕ, zero, suc, ◌≡◌, Bool, cond, length, get_or, take, drop}
use Rattle.std.proofs.Math.Logic.{ite}
use Rattle.std.proofs.Math.Logic.Dec
use mathlib.Core.HLevel.{Discrete}
use mathlib.Core.List.{List, [], ◌∷◌, ◌++◌, List-discrete}
use Rattle.std.specs.Prelude.{Option, None, Some}
use Rattle.std.proofs.Math.Decide.{ℕ_discrete, dec_lt}
use Rattle.words.specs.Words.{word}
use Rattle.words.proofs.OptionLaws.{same_option}
use Rattle.checksum.specs.Crc.{checksum_of}
use Rattle.flash_model.specs.Measures.{top_number}
use Rattle.flash_model.specs.Partition.{contents}
use Rattle.flash_model.specs.Slots.{slot_number, data_number}
use Rattle.flash_model.specs.Calls.{PageCall, Reply}
use Rattle.flash_model.specs.Calls.{PageCall.read, PageCall.save, PageCall.slot_read, PageCall.slot_save}

-- "For each of ours it keeps a page of 60 bytes or nothing"
abbrev pub PageMap : Type 0
PageMap = ℕ → Option (List ℕ)

-- ".. at first the contents in the starting image": those of the owned numbers, and nothing else.
unfoldable pub owned_pages : (ℕ → Bool) → List ℕ → PageMap
owned_pages owned image n = cond (owned n) (contents image n) None

-- The refusal is given where the fact holds; else the later ones decide.
abbrev pub given : {P : Type 0} → Dec P → ℕ → ℕ → ℕ
given fact refused later = ite fact refused later

-- The expected page: "last-seen (0 bytes being nothing)".
abbrev pub expected_page : List ℕ → Option (List ℕ)
expected_page [] = None
expected_page (x ∷ xs) = Some (x ∷ xs)

unfoldable pub same_page : Discrete (Option (List ℕ))
same_page = same_option (List-discrete ℕ_discrete)

-- The bytes of a header's two pages, none where one of the pages isn't kept.
abbrev pub both_pages : Option (List ℕ) → Option (List ℕ) → List ℕ
both_pages None second = []
both_pages (Some a) None = []
both_pages (Some a) (Some b) = a ++ b

-- "it starts 01 FF, and the checksum at byte 0x70, over bytes 0x02 to 0x6F by the flash routine, is right"
abbrev pub RightBytes : List ℕ → Type 0
RightBytes header = (get_or header 0 0 ≡ 0x01) × ((get_or header 1 0 ≡ 0xFF) × (word header 0x70 ≡ checksum_of (take 0x6E (drop 0x02 header))))

abbrev pub dec_right : (header : List ℕ) → Dec (RightBytes header)
dec_right header =
    Dec.and (ℕ_discrete (get_or header 0 0) 0x01)
    (Dec.and (ℕ_discrete (get_or header 1 0) 0xFF) (ℕ_discrete (word header 0x70) (checksum_of (take 0x6E (drop 0x02 header)))))

abbrev pub kept_header : PageMap → ℕ → List ℕ
kept_header pages slot = both_pages (pages (slot_number slot 0)) (pages (slot_number slot 1))

-- A slot call: another length, 1; a number named that isn't 3 or isn't the header's, 3.
abbrev pub slot_front_given : ℕ → ℕ → ℕ → ℕ → ℕ
slot_front_given size header partition later =
    given (Dec.not (ℕ_discrete size 32768)) 1
    (given (Dec.not (ℕ_discrete partition 3)) 3
    (given (Dec.not (ℕ_discrete partition header)) 3 later))

-- A slot above 99 or not valid, 42; a data block other than 0 or 1, 43.
abbrev pub slot_given : PageMap → ℕ → ℕ → ℕ → ℕ
slot_given pages slot block later =
    given (dec_lt 99 slot) 42
    (given (Dec.not (dec_right (kept_header pages slot))) 42
    (given (dec_lt 1 block) 43 later))

-- "Any call: another partition number named, 3; else logical number above M-2, 6."
-- "A read past these: page buffer not 60 bytes, 8; nothing kept, 7; else 0"
-- "A save past these: new page not 60 bytes, or last-seen neither 0 nor 60, 8; last-seen .. not what is kept, 9; else 0"
unfoldable pub store_code : ℕ → ℕ → PageMap → PageCall → ℕ
store_code size header pages (read partition n buffer) =
    given (Dec.not (ℕ_discrete partition header)) 3
    (given (dec_lt (top_number size) n) 6
    (given (Dec.not (ℕ_discrete (length buffer) 60)) 8
    (given (same_page (pages n) None) 7 0)))
store_code size header pages (save partition n expected page) =
    given (Dec.not (ℕ_discrete partition header)) 3
    (given (dec_lt (top_number size) n) 6
    (given (Dec.not (ℕ_discrete (length page) 60)) 8
    (given (Dec.and (Dec.not (ℕ_discrete (length expected) 0)) (Dec.not (ℕ_discrete (length expected) 60))) 8
    (given (Dec.not (same_page (expected_page expected) (pages n))) 9 0))))
store_code size header pages (slot_read partition slot block buffer) =
    slot_front_given size header partition
    (given (Dec.not (ℕ_discrete (length buffer) 60)) 8
    (slot_given pages slot block
    (given (same_page (pages (data_number slot block)) None) 7 0)))
store_code size header pages (slot_save partition slot block expected page) =
    slot_front_given size header partition
    (given (Dec.not (ℕ_discrete (length page) 60)) 8
    (given (Dec.and (Dec.not (ℕ_discrete (length expected) 0)) (Dec.not (ℕ_discrete (length expected) 60))) 8
    (slot_given pages slot block
    (given (Dec.not (same_page (expected_page expected) (pages (data_number slot block)))) 9 0))))

-- ".. else 0, and the buffer gets the page kept."
abbrev pub read_buffer : ℕ → Option (List ℕ) → List ℕ → List ℕ
read_buffer zero None buffer = buffer
read_buffer zero (Some page) buffer = page
read_buffer (suc refused) page buffer = buffer

abbrev pub store_buffers : ℕ → PageMap → PageCall → List (List ℕ)
store_buffers answered pages (read partition n buffer) = read_buffer answered (pages n) buffer ∷ []
store_buffers answered pages (save partition n expected page) = expected ∷ page ∷ []
store_buffers answered pages (slot_read partition slot block buffer) = read_buffer answered (pages (data_number slot block)) buffer ∷ []
store_buffers answered pages (slot_save partition slot block expected page) = expected ∷ page ∷ []

unfoldable pub store_reply : ℕ → ℕ → PageMap → PageCall → Reply
store_reply size header pages p = record {
  code = store_code size header pages p;
  values = [];
  buffers = store_buffers (store_code size header pages p) pages p;
}

-- ".. else 0, and the new page is kept." "No read changes the book .. and a refusal neither."
abbrev pub pages_after : ℕ → PageMap → PageCall → PageMap
pages_after answered pages (read partition n buffer) = pages
pages_after zero pages (save partition n expected page) = λ m. ite (ℕ_discrete m n) (Some page) (pages m)
pages_after (suc refused) pages (save partition n expected page) = pages
pages_after answered pages (slot_read partition slot block buffer) = pages
pages_after zero pages (slot_save partition slot block expected page) = λ m. ite (ℕ_discrete m (data_number slot block)) (Some page) (pages m)
pages_after (suc refused) pages (slot_save partition slot block expected page) = pages

unfoldable pub store_after : ℕ → ℕ → PageMap → PageCall → PageMap
store_after size header pages p = pages_after (store_code size header pages p) pages p

-- ---- the store fed with a list of calls

unfoldable pub store_replies : ℕ → ℕ → PageMap → List PageCall → List Reply
store_replies size header pages [] = []
store_replies size header pages (p ∷ ps) = store_reply size header pages p ∷ store_replies size header (store_after size header pages p) ps

unfoldable pub store_final : ℕ → ℕ → PageMap → List PageCall → PageMap
store_final size header pages [] = pages
store_final size header pages (p ∷ ps) = store_final size header (store_after size header pages p) ps
