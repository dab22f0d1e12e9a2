-- Worked examples of slots: their numbers, a header, and which slot calls are on owned numbers. They hold by computation.
-- Assumes nothing.
use Rattle.std.specs.Prelude.{ℕ, ◌≡◌, refl, Bool, true, false, ◌||◌, List, [], ◌∷◌, ◌++◌, map, eqb, replicate, set}
use Rattle.std.specs.Prelude.{Some}
use Rattle.words.specs.Words.{word}
use Rattle.checksum.specs.Crc.{shift, shifts, take_byte, crc_from, checksum_of}
use Rattle.flash_model.specs.Measures.{blocks, bitmap_blocks, first_bitmap, capacity, top_number, legal_number}
use Rattle.flash_model.specs.Partition.{holder, contents}
use Rattle.flash_model.specs.Slots.{slot_number, data_number, right_header, product_of, slot_size, slot_refusal}
use Rattle.flash_model.specs.Calls.{PageCall, accepted, code_of, saves_at}
use Rattle.flash_model.specs.Calls.{PageCall.save, PageCall.slot_read, PageCall.slot_save, CompoundCall.claim, Call.on_page, Call.on_pages}
use Rattle.flash_model.specs.Runs.{on_owned, is_save, call_stands, owned_of, calls_of}
use Rattle.flash_model.specs.Examples.{step_with}

-- "A hundred slots of four logical blocks from 24 to 423."
pub slot-numbers : slot_number 0 0 ∷ slot_number 1 0 ∷ data_number 1 0 ∷ slot_number 99 3 ∷ data_number 99 1 ∷ [] ≡ 24 ∷ 28 ∷ 30 ∷ 423 ∷ 423 ∷ []
unfolding slot_number data_number
slot-numbers = refl

-- A header made by an outside program, tests/vectors/slots.py: product number T-40502D01, name GALTUYEG SAMPLE, file SETTINGS.
unfoldable pub product_number : List ℕ
product_number = 0x54 ∷ 0x2D ∷ 0x34 ∷ 0x30 ∷ 0x35 ∷ 0x30 ∷ 0x32 ∷ 0x44 ∷ 0x30 ∷ 0x31 ∷ []

unfoldable pub game_header : List ℕ
game_header =
    (0x01 ∷ 0xFF ∷ product_number)
    ++ (0x47 ∷ 0x41 ∷ 0x4C ∷ 0x54 ∷ 0x55 ∷ 0x59 ∷ 0x45 ∷ 0x47 ∷ 0x20 ∷ 0x53 ∷ 0x41 ∷ 0x4D ∷ 0x50 ∷ 0x4C ∷ 0x45 ∷ replicate 33 32)
    ++ (0x53 ∷ 0x45 ∷ 0x54 ∷ 0x54 ∷ 0x49 ∷ 0x4E ∷ 0x47 ∷ 0x53 ∷ replicate 36 32)
    ++ (replicate 4 0 ++ 0x12 ∷ 0x34 ∷ 0x56 ∷ 0x78 ∷ 0x31 ∷ 0x80 ∷ replicate 6 255)

-- It is right; wrong with another start, another byte under the checksum, or the checksum's bytes exchanged. A byte
-- behind the checksum is not tested.
pub header-tests : map right_header (game_header ∷ set game_header 0 2 ∷ set game_header 1 0 ∷ set game_header 111 1 ∷ set (set game_header 112 0x80) 113 0x31 ∷ set game_header 114 0 ∷ [])
    ≡ true ∷ false ∷ false ∷ false ∷ false ∷ true ∷ []
unfolding product_number game_header right_header word shift shifts take_byte crc_from checksum_of
header-tests = refl

pub header-product : product_of game_header ≡ product_number
unfolding product_number game_header product_of
header-product = refl

-- ---- slot 2 is blocks 32 to 35: header, header, data block 0, data block 1

abbrev pub slot_reads : List PageCall
slot_reads = slot_read 3 2 0 [] ∷ slot_read 3 2 1 [] ∷ slot_read 3 2 2 [] ∷ slot_read 3 3 0 [] ∷ slot_read 3 102 0 [] ∷ []

abbrev pub slot_saves : List PageCall
slot_saves = slot_save 3 2 0 [] [] ∷ slot_save 3 2 1 [] [] ∷ slot_save 3 2 2 [] [] ∷ slot_save 3 3 0 [] [] ∷ slot_save 3 102 0 [] [] ∷ []

-- owned are all four; all but the last
abbrev pub whole_slot : ℕ → Bool
whole_slot n = eqb n 32 || (eqb n 33 || (eqb n 34 || eqb n 35))

abbrev pub slot_part : ℕ → Bool
slot_part n = eqb n 32 || (eqb n 33 || eqb n 34)

pub whole-owned : map (on_owned whole_slot) slot_reads ++ map (on_owned whole_slot) slot_saves
    ≡ (true ∷ true ∷ true ∷ false ∷ false ∷ []) ++ true ∷ true ∷ true ∷ false ∷ false ∷ []
unfolding slot_number data_number
whole-owned = refl

pub part_owned : map (on_owned slot_part) slot_reads ++ map (on_owned slot_part) slot_saves
    ≡ (true ∷ false ∷ true ∷ false ∷ false ∷ []) ++ true ∷ false ∷ true ∷ false ∷ false ∷ []
unfolding slot_number data_number
part_owned = refl

-- with the header owned every one may stand; where data block 0 alone is owned, or with one header block, its read and save may not
abbrev pub standing : (ℕ → Bool) → List Bool
standing owned = map (λ p. call_stands owned (on_page p)) (slot_reads ++ slot_saves)

pub slot-stands : standing whole_slot ≡ (true ∷ true ∷ true ∷ true ∷ true ∷ []) ++ true ∷ true ∷ true ∷ true ∷ true ∷ []
unfolding slot_number data_number
slot-stands = refl

pub data-alone : standing (eqb 34) ≡ (false ∷ true ∷ true ∷ true ∷ true ∷ []) ++ false ∷ true ∷ true ∷ true ∷ true ∷ []
unfolding slot_number data_number
data-alone = refl

pub half-header : standing (λ n. eqb n 32 || eqb n 34) ≡ (false ∷ true ∷ true ∷ true ∷ true ∷ []) ++ false ∷ true ∷ true ∷ true ∷ true ∷ []
unfolding slot_number data_number
half-header = refl

-- Reads may stand between, and saves that name no data block.
pub which-are-saves : map is_save (slot_reads ++ slot_saves)
    ≡ (false ∷ false ∷ false ∷ false ∷ false ∷ []) ++ true ∷ true ∷ false ∷ true ∷ false ∷ []
which-are-saves = refl

-- ---- claims

-- A claim that writes slot 5 of an image where nothing stands saves to 44 and 45; a refused one counts as nothing.
pub claim-saves : saves_at [] 3 (1 ∷ []) (2 ∷ []) (Some 5) ≡ save 3 44 [] (1 ∷ []) ∷ save 3 45 [] (2 ∷ []) ∷ []
unfolding slot_number contents holder legal_number top_number first_bitmap blocks bitmap_blocks capacity
claim-saves = refl

pub refused-claim : calls_of (owned_of (λ n. true) [] (step_with (on_pages (claim 3 [] [])) 1)) ≡ []
unfolding accepted code_of slot_refusal slot_size
refused-claim = refl
