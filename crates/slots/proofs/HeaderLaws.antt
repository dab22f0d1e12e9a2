-- A slot's header, as the code makes it, and the places that its pages stand in. Assumes nothing.
use Prim.Native.Nat.{ℕ, ◌≤◌, ◌<◌}
use mathlib.Core.Path.{◌≡◌, refl, sym, ap, ◌∙◌}
use mathlib.Core.Bool.{true}
use mathlib.Core.List.{List, ◌++◌}
use Rattle.std.specs.Prelude.{Option, None, Some, option_map}
use mathlib.Core.Logic.{◌≢◌}
use native.Mathlib.Omega.{arith}
use lib.ListN.{length, get_or, take, drop, length-drop}
use Rattle.std.proofs.lemmas.List.{take-append-le, drop-append-le}
use borrow.Rule.Slice.PartMut.{put_mid}
use Rattle.words.proofs.PartsLaws.{laid-last}
use Rattle.flash_model.specs.Measures.{blocks, bitmap_blocks, first_bitmap, capacity, legal_number}
use Rattle.flash_model.specs.UserBlock.{payload}
use Rattle.flash_model.specs.Partition.{block_at, holder, contents}
use Rattle.flash_model.specs.Slots.{slot_number, slot_size, product_of}
use Rattle.flash_model.proofs.MeasureLaws.{le-legal}
use Rattle.flash_model.proofs.HolderLaws.{holder-held}
use Rattle.flash_model.proofs.SlotLaws.{slot-legal}
use Rattle.slots.specs.SlotUsable.{SlotPlaces}

pub joined_pages : {front back one other : List ℕ} (rest : List ℕ) → length rest ≡ 60 → length one ≡ 60 → front ≡ one → back ≡ other
    → put_mid 60 60 (front ++ rest) back ≡ one ++ other
joined_pages {front} {back} rest lr lo e f = laid-last front back rest 60 60 (ap length e ∙ lo) (omega (arith, lr)) ∙ rw (e, f)

-- the product number stands in the first page
pub product_in_first : (first second : List ℕ) → length first ≡ 60 → take 10 (drop 2 first) ≡ product_of (first ++ second)
unfolding product_of
product_in_first first second e =
    sym (ap (take 10) (drop-append-le 2 first second (omega (arith, e))) ∙ take-append-le 10 (drop 2 first) second (omega (arith, length-drop 2 first, e)))

-- ---- numbers

-- a partition with slots has 510 logical numbers
pub slot_capacity : (size : ℕ) → size ≡ 32768 → capacity size ≡ 510
unfolding capacity first_bitmap blocks bitmap_blocks
slot_capacity size e = rw e

-- the slots' numbers, up to the last one's 423, are among them
pub slot_legal : (size n : ℕ) → size ≡ 32768 → n ≤ 423 → legal_number size n ≡ true
unfolding slot_size slot_number
slot_legal size n e h = le-legal size n (omega (arith, h, slot-legal size 99 3 e (omega arith) (omega arith)))

-- ---- the contents of a number, by its place

module _ {image : List ℕ} {size : ℕ} {places : List ℕ} (p : SlotPlaces image size places) (n : ℕ) (h : n < 510) where
  pub placed_high : get_or places n 0 ≤ capacity size
  placed_high = go (holder image n) refl
    where
      go : (o : Option ℕ) → holder image n ≡ o → get_or places n 0 ≤ capacity size
      go None q = let z : get_or places n 0 ≡ 0 = p.each n h ∙ rw q in omega (arith, z)
      go (Some k) q =
          let z : get_or places n 0 ≡ k = p.each n h ∙ rw q in
          omega (arith, z, (holder-held image n k q).highest_one.high, ap capacity p.has_measures.has_size)

  pub placed_none : get_or places n 0 ≡ 0 → None ≡ contents image n
  unfolding contents
  placed_none z = go (holder image n) refl
    where
      go : (o : Option ℕ) → holder image n ≡ o → None ≡ option_map (λ k. payload (block_at image k)) o
      go None q = refl
      go (Some k) q =
          let e : get_or places n 0 ≡ k = p.each n h ∙ rw q in
          absurd (omega (arith, e, z, (holder-held image n k q).highest_one.low))

  pub placed_some : get_or places n 0 ≢ 0 → Some (payload (block_at image (get_or places n 0))) ≡ contents image n
  unfolding contents
  placed_some d = go (holder image n) refl
    where
      go : (o : Option ℕ) → holder image n ≡ o → Some (payload (block_at image (get_or places n 0))) ≡ option_map (λ k. payload (block_at image k)) o
      go None q = absurd (d (p.each n h ∙ rw q))
      go (Some k) q = let e : get_or places n 0 ≡ k = p.each n h ∙ rw q in rw e
