-- Slots: their numbers, and what a slot call that 1 to 5 let pass tells. Assumes nothing.
use Prim.Native.Nat.{ℕ, ◌+◌, ◌*◌, ◌≤◌}
use mathlib.Core.Path.{◌≡◌, refl}
use mathlib.Core.Bool.{Bool, true, false, not, ◌&&◌}
use mathlib.Core.List.{List}
use native.Mathlib.Omega.{arith}
use lib.Dec.{eqb, ltb}
use lib.ListN.{length, get_or, take, drop}
use borrow.Author.Tests.{eqb-true, eq-eqb, ltb-false, not-false}
use Rattle.words.proofs.Bools.{and-true-left, and-true-right, or-false-left, or-false-right}
use Rattle.words.specs.Words.{word}
use Rattle.checksum.specs.Crc.{checksum_of}
use Rattle.flash_model.specs.PageStore.{RightBytes}
use Rattle.flash_model.specs.Measures.{blocks, bitmap_blocks, first_bitmap, top_number}
use Rattle.flash_model.specs.Partition.{row, refusal, header_number, Sound}
use Rattle.flash_model.specs.Slots.{slot_number, data_number, slot_size, slot_partition, right_header, slot_refusal, valid_slot, no_slot, no_block}
use Rattle.flash_model.proofs.RowLaws.{row_zero}
use Rattle.flash_model.proofs.RefusalLaws.{tested-refusal}
use Rattle.flash_model.proofs.SoundLaws.{tests-of}

-- ---- numbers

pub header-first : (slot : ℕ) → slot_number slot 0 ≡ 24 + 4 * slot
unfolding slot_number
header-first slot = omega arith

pub header-second : (slot : ℕ) → slot_number slot 1 ≡ 25 + 4 * slot
unfolding slot_number
header-second slot = omega arith

pub data_is : (slot block : ℕ) → data_number slot block ≡ 26 + 4 * slot + block
unfolding data_number slot_number
data_is slot block = omega arith

slot-top : top_number slot_size ≡ 509
unfolding top_number first_bitmap blocks bitmap_blocks slot_size
slot-top = refl

pub slot-legal : (size slot i : ℕ) → size ≡ slot_size → slot ≤ 99 → i ≤ 3 → slot_number slot i ≤ top_number size
unfolding slot_number
slot-legal size slot i e s b = rw (e, slot-top) (omega (arith, s, b))

pub data-legal : (size slot block : ℕ) → size ≡ slot_size → slot ≤ 99 → block ≤ 1 → data_number slot block ≤ top_number size
unfolding data_number
data-legal size slot block e s b = slot-legal size slot _ e s (omega (arith, b))

-- ---- a right header, by its tests and by plain facts

pub right-bytes : (header : List ℕ) → right_header header ≡ true → RightBytes header
unfolding right_header
right-bytes header e =
    let l = and-true-left (eqb (get_or header 0 0) 0x01 && eqb (get_or header 1 0) 0xFF) _ e in
    let r = and-true-right (eqb (get_or header 0 0) 0x01 && eqb (get_or header 1 0) 0xFF) _ e in (
      eqb-true (get_or header 0 0) 0x01 (and-true-left (eqb (get_or header 0 0) 0x01) _ l),
      (
        eqb-true (get_or header 1 0) 0xFF (and-true-right (eqb (get_or header 0 0) 0x01) _ l),
        eqb-true (word header 0x70) (checksum_of (take 0x6E (drop 0x02 header))) r,
      ),
    )

pub bytes-right : (header : List ℕ) → RightBytes header → right_header header ≡ true
unfolding right_header
bytes-right header r =
    rw (
      eq-eqb (get_or header 0 0) 0x01 r.0,
      eq-eqb (get_or header 1 0) 0xFF r.1.0,
      eq-eqb (word header 0x70) (checksum_of (take 0x6E (drop 0x02 header))) r.1.1,
    )

-- ---- 1 to 5

pub record SlotOpen (image : List ℕ) (partition : ℕ) : Type 0 where
  pub size_is : length image ≡ slot_size
  pub unrefused_1_5 : refusal image partition ≡ 0
  pub named : partition ≡ slot_partition

pub slot-open : (image : List ℕ) (partition : ℕ) → slot_refusal image partition ≡ 0 → SlotOpen image partition
unfolding slot_refusal
slot-open image partition e =
    let t1 = not (eqb (length image) slot_size) in
    let t2 = eqb (refusal image partition) 2 in
    let t3 = not (eqb partition slot_partition) in
    let q1 = row_zero 0 (row 2 t2 (row 3 t3 (refusal image partition))) t1 e in
    let q2 = row_zero 1 (row 3 t3 (refusal image partition)) t2 q1.1 in
    let q3 = row_zero 2 (refusal image partition) t3 q2.1 in
    record {
      size_is = eqb-true (length image) slot_size (not-false (eqb (length image) slot_size) q1.0);
      unrefused_1_5 = q3.1;
      named = eqb-true partition slot_partition (not-false (eqb partition slot_partition) q3.0);
    }

pub open-slot : (image : List ℕ) (partition : ℕ) → SlotOpen image partition → slot_refusal image partition ≡ 0
unfolding slot_refusal
open-slot image partition o =
    rw (eq-eqb (length image) slot_size o.size_is, o.unrefused_1_5, eq-eqb partition slot_partition o.named)

-- of a sound image a slot call is refused before 8 by its length or its number
pub slot-refused : (image : List ℕ) (partition : ℕ) → Sound image → slot_refusal image partition
    ≡ row 1 (not (eqb (length image) slot_size)) (row 3 (not (eqb partition slot_partition)) (row 3 (not (eqb (header_number image) partition)) 0))
unfolding slot_refusal
slot-refused image partition s = rw (tested-refusal image (tests-of image s) partition) (go (not (eqb (header_number image) partition)))
  where
    go : (t : Bool) → row 1 (not (eqb (length image) slot_size)) (row 2 (eqb (row 3 t 0) 2) (row 3 (not (eqb partition slot_partition)) (row 3 t 0)))
        ≡ row 1 (not (eqb (length image) slot_size)) (row 3 (not (eqb partition slot_partition)) (row 3 t 0))
    go true = refl
    go false = refl

-- ---- 42 and 43

pub record SlotThere (image : List ℕ) (slot : ℕ) : Type 0 where
  pub slot_most : slot ≤ 99
  pub is_valid : valid_slot image slot ≡ true

pub slot-there : (image : List ℕ) (slot : ℕ) → no_slot image slot ≡ false → SlotThere image slot
unfolding no_slot
slot-there image slot e = record {
  slot_most = ltb-false 99 slot (or-false-left (ltb 99 slot) _ e);
  is_valid = not-false (valid_slot image slot) (or-false-right (ltb 99 slot) _ e);
}

pub block-most : (block : ℕ) → no_block block ≡ false → block ≤ 1
unfolding no_block
block-most block e = ltb-false 1 block e
