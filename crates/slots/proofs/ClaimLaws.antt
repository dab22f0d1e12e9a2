-- A claim that finds no slot with its product number: its two saves. Assumes nothing.
use Prim.Native.Nat.{ℕ, ◌≤◌}
use mathlib.Core.Path.{◌≡◌, refl, sym, ap, ◌∙◌}
use mathlib.Core.Bool.{Bool, true}
use mathlib.Core.List.{List, ◌++◌}
use Rattle.std.specs.Prelude.{Option, None, Some}
use Rattle.std.specs.Array.{IsWholeChunk}
use native.Mathlib.Omega.{arith}
use lib.ListN.{length}
use borrow.Author.Tests.{eq-eqb}
use Rattle.flash_model.specs.Partition.{refusal, contents}
use Rattle.flash_model.specs.Slots.{slot_size, slot_partition, slot_number, right_header, product_of, product_slot, free_slot, claimed_slot, written_slot, page_bytes}
use Rattle.flash_model.specs.Calls.{claim_rows, code_of, after_page, calls_made}
use Rattle.flash_model.specs.Calls.{PageCall.save, CompoundCall.claim, Call.on_pages}
use Rattle.flash_model.proofs.SlotLaws.{open-slot}
use Rattle.flash_model.proofs.ClaimLaws.{free-most, claim-rows, first_save, second_save, FirstDone, first-saved}
use Rattle.flash_partition.specs.declared.opened.OpenedLog.{OpenedLog}
use Rattle.slots.specs.SlotUsable.{SlotUsable}
use Rattle.slots.specs.SlotAnswers.{searched_of, claimed_image}
use Rattle.slots.specs.declared.searches.Searched.TheVariants.{Has, Free, Full}

-- what a search tells of the slot with the product number and of the free one
pub told-has : (has free : Option ℕ) {slot : ℕ} → Has slot ≡ searched_of has free → has ≡ Some slot
told-has (Some k) free {slot} e = let q : slot ≡ k = cc in ap (λ (n : ℕ). Some n) (sym q)
told-has None (Some k) e = let z : ◌≡◌ {A = ℕ} 0 1 = cc in absurd (omega arith)
told-has None None e = let z : ◌≡◌ {A = ℕ} 0 1 = cc in absurd (omega arith)

pub told-full : (has free : Option ℕ) → Full ≡ searched_of has free → (has ≡ None) × (free ≡ None)
told-full (Some k) free e = let z : ◌≡◌ {A = ℕ} 0 1 = cc in absurd (omega arith)
told-full None (Some k) e = let z : ◌≡◌ {A = ℕ} 0 1 = cc in absurd (omega arith)
told-full None None e = (refl, refl)

pub told_free : (has free : Option ℕ) {slot : ℕ} → Free slot ≡ searched_of has free → (has ≡ None) × (free ≡ Some slot)
told_free (Some k) free e = let z : ◌≡◌ {A = ℕ} 0 1 = cc in absurd (omega arith)
told_free None (Some k) {slot} e = let r : slot ≡ k = cc in (refl, ap (λ (n : ℕ). Some n) (sym r))
told_free None None e = let z : ◌≡◌ {A = ℕ} 0 1 = cc in absurd (omega arith)

-- what a claim knows of the free slot that it writes
pub record Claims (image one other : List ℕ) (slot : ℕ) : Type 0 where
  one_60 : length one ≡ 60
  other_60 : length other ≡ 60
  right : right_header (one ++ other) ≡ true
  none_has : product_slot image (product_of (one ++ other)) ≡ None
  is_free : free_slot image ≡ Some slot
  size_is : length image ≡ slot_size
  unrefused : refusal image 3 ≡ 0

pub claims : {image first second one other number : List ℕ} {log : OpenedLog} {slot : ℕ} {right : Bool} → SlotUsable image log → IsWholeChunk first one 60 → IsWholeChunk second other 60
    → right ≡ right_header (one ++ other) → right ≡ true → ((second : List ℕ) → number ≡ product_of (one ++ second)) → Free slot ≡ searched_of (product_slot image number) (free_slot image)
    → Claims image one other slot
unfolding slot_size
claims {image} {one} {other} u l m r t n f =
    let told = told_free _ _ f in
    record {
      one_60 = ap length l.same ∙ l.long;
      other_60 = ap length m.same ∙ m.long;
      right = sym r ∙ t;
      none_has = ap (product_slot image) (sym (n other)) ∙ told.0;
      is_free = told.1;
      size_is = u.is_usable.has_size ∙ u.has_size;
      unrefused = u.unrefused;
    }

module _ {image one other : List ℕ} {slot : ℕ} (c : Claims image one other slot) where
  pub slot_99 : slot ≤ 99
  slot_99 = free-most image slot c.is_free

  accepted : code_of image (on_pages (claim 3 one other)) ≡ 0
  unfolding code_of claim_rows claimed_slot slot_partition
  accepted =
      let open-3 = open-slot image 3 (record { size_is = c.size_is; unrefused_1_5 = c.unrefused; named = refl }) in
      rw (open-3, eq-eqb (length one) 60 c.one_60, eq-eqb (length other) 60 c.other_60, c.right, c.none_has, c.is_free)

  pub first-left : FirstDone image 3 one other slot
  first-left = first-saved image 3 one other slot (claim-rows image 3 one other accepted) slot_99

  -- the first save, and the image that is opened again behind it
  module _ {n : ℕ} {between : List ℕ} (q : n ≡ slot_number slot 0) (e : between ≡ after_page image (save 3 n (page_bytes (contents image n)) one)) where
    first_is : between ≡ after_page image (first_save image 3 one other slot)
    first_is = e ∙ rw q

    pub opens_again : refusal between 3 ≡ 0
    opens_again = ap (λ (i : List ℕ). refusal i 3) first_is ∙ first-left.unrefused_then

    pub same_size : length between ≡ 32768
    unfolding slot_size
    same_size = ap length first_is ∙ first-left.same_length ∙ c.size_is

    pub both_saved : {m : ℕ} {image' : List ℕ} → m ≡ slot_number slot 1 → image' ≡ after_page between (save 3 m (page_bytes (contents between m)) other)
        → image' ≡ claimed_image image one other
    unfolding claimed_image claim_rows claimed_slot calls_made written_slot
    both_saved {m} {image'} r f =
        let stands-then : contents between (slot_number slot 1) ≡ contents image (slot_number slot 1) = ap (λ (i : List ℕ). contents i (slot_number slot 1)) first_is ∙ first-left.second_stands in
        let last : image' ≡ after_page (after_page image (first_save image 3 one other slot)) (second_save image 3 one other slot) = f ∙ rw (r, stands-then, first_is) in
        rw (eq-eqb (length one) 60 c.one_60, eq-eqb (length other) 60 c.other_60, c.right, c.none_has, c.is_free) last
