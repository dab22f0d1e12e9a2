-- The numbers of the slot calls, each in its turn, in plain logic. Assumes nothing.
use Prim.Native.Nat.{ℕ, ◌+◌, ◌*◌, ◌≤◌, ◌<◌}
use mathlib.Core.Path.{◌≡◌, refl, sym, ◌∙◌}
use mathlib.Core.Bool.{Bool, true, false, not, ◌||◌, true≢false, false≢true}
use mathlib.Core.List.{List, ◌++◌}
use Rattle.std.specs.Prelude.{Option, None, Some}
use mathlib.Core.Logic.{◌↔◌, ◌≢◌, ◌⊎◌, inl, inr, ⊎_elim}
use native.Mathlib.Omega.{arith}
use lib.Dec.{eqb, ltb}
use lib.ListN.{length, take, drop}
use borrow.Author.Tests.{eqb-true, eq-eqb, ne_eqb, ltb-true, not-true, not-false}
use Rattle.words.specs.Lists.{is_some}
use Rattle.words.proofs.Bools.{or-true-either, or-false-left, or-false-right}
use Rattle.flash_model.specs.Measures.{legal_size, sizes}
use Rattle.flash_model.specs.Partition.{row, refusal, contents}
use Rattle.flash_model.specs.Slots.{slot_size, slot_partition, right_header, product_of, valid_slot, product_slot, free_slot, or_else, claimed_slot, slot_refusal, no_slot, no_block}
use Rattle.flash_model.specs.Calls.{slot_read_rows, slot_save_rows, find_rows, claim_rows, code_of}
use Rattle.flash_model.specs.Calls.{PageCall.slot_read, PageCall.slot_save, WholeCall.slot_find, CompoundCall.claim, Call.on_page, Call.on_whole, Call.on_pages}
use Rattle.flash_model.specs.SlotDemands.{MakesValid, IsSlot, SlotRefusalsMean, LowestProduct, NoProduct, SlotReadCodes, SlotSaveCodes, SlotFindCodes, AllTaken, ClaimCodes}
use Rattle.flash_model.proofs.SlotLaws.{data_is, slot-open, right-bytes, bytes-right, slot-there, block-most}
use Rattle.flash_model.proofs.RefusalLaws.{refusals_mean}
use Rattle.flash_model.proofs.RowLaws.{Says, says_other, one-row, row-not, past_row, past-last}
use Rattle.flash_model.proofs.CodeLaws.{says-7, says-lengths, says-9}
use Rattle.flash_model.proofs.ClaimLaws.{free-most}
use Rattle.flash_model.proofs.SlotHeaderLaws.{free-found, free-none, is_slot, not-slot, product_found, product-none}

-- ---- refusals 1 to 5

module _ (image : List ℕ) (partition : ℕ) where
  legal-length : length image ≡ 32768 → legal_size (length image) ≡ true
  unfolding legal_size sizes
  legal-length e = rw e

  pub slot-refusals : SlotRefusalsMean image partition
  unfolding slot_refusal slot_size slot_partition
  slot-refusals = record {
    other_length = λ d. rw (ne_eqb (length image) 32768 d);
    other_letters = λ e d n. rw (eq-eqb (length image) 32768 e, (refusals_mean image partition).row_2.1 (legal-length e, n));
    other_number = λ e d n.
        rw (eq-eqb (length image) 32768 e, ne_eqb (refusal image partition) 2 (λ two. ((refusals_mean image partition).row_2.0 two).1 n), ne_eqb partition 3 d);
    named_3 = λ e p. rw (eq-eqb (length image) 32768 e, eq-eqb partition 3 p) (go (eqb (refusal image partition) 2) refl);
  }
    where
      go : (t : Bool) → eqb (refusal image partition) 2 ≡ t → row 2 t (refusal image partition) ≡ refusal image partition
      go true q = sym (eqb-true (refusal image partition) 2 q)
      go false q = refl

-- ---- the numbers

says-42 : (image : List ℕ) (slot : ℕ) → Says (no_slot image slot) (IsSlot image slot → ⊥) (IsSlot image slot)
unfolding no_slot
says-42 image slot = record {
  applies = λ e h. ⊎_elim (λ t. omega (arith, ltb-true 99 slot t, h.0)) (λ t. not-slot image slot (not-true (valid_slot image slot) t) h) (or-true-either (ltb 99 slot) _ e);
  passes = λ e. let w = slot-there image slot e in is_slot image slot w.slot_most w.is_valid;
  apart = λ d h. d h;
}

says-43 : (block : ℕ) → Says (no_block block) (1 < block) (block ≤ 1)
unfolding no_block
says-43 block = record { applies = λ e. ltb-true 1 block e; passes = λ e. block-most block e; apart = λ h l. omega (arith, h, l) }

record SlotCodes (code last : ℕ) (Wrong8 Right8 Wrong42 Right42 Wrong43 Right43 WrongLast RightLast : Type 0) : Type 0 where
  row_8 : (code ≡ 8) ↔ Wrong8
  row_42 : (code ≡ 42) ↔ (Right8 × Wrong42)
  row_43 : (code ≡ 43) ↔ (Right8 × (Right42 × Wrong43))
  row_last : (code ≡ last) ↔ (Right8 × (Right42 × (Right43 × WrongLast)))
  row_0 : (code ≡ 0) ↔ (Right8 × (Right42 × (Right43 × RightLast)))

module _ {Wrong8 Right8 Wrong42 Right42 Wrong43 Right43 WrongLast RightLast : Type 0} (last : ℕ) (not-0 : last ≢ 0) (not-8 : last ≢ 8) (below : last < 42) where
  slot-codes : (a b c d : Bool) → Says a Wrong8 Right8 → Says b Wrong42 Right42 → Says c Wrong43 Right43 → Says d WrongLast RightLast
      → SlotCodes (row 8 a (row 42 b (row 43 c (row last d 0)))) last Wrong8 Right8 Wrong42 Right42 Wrong43 Right43 WrongLast RightLast
  slot-codes a b c d w x y z =
      let l = row last d 0 in
      let r = one-row last 0 d z (λ e. not-0 (sym e)) in
      let s = one-row 43 l c y (row-not last 43 0 d (λ e. omega (arith, e, below)) (λ e. omega (arith, e))) in
      let t = one-row 42 (row 43 c l) b x (row-not 43 42 l c (λ e. omega (arith, e)) (row-not last 42 0 d (λ e. omega (arith, e, below)) (λ e. omega (arith, e)))) in
      let u = one-row 8 (row 42 b (row 43 c l)) a w
      (row-not 42 8 (row 43 c l) b (λ e. omega (arith, e)) (row-not 43 8 l c (λ e. omega (arith, e)) (row-not last 8 0 d not-8 (λ e. omega (arith, e))))) in
      record {
        row_8 = u.here;
        row_42 = past_row (u.past 42 (λ e. omega (arith, e))) t.here;
        row_43 = past_row (u.past 43 (λ e. omega (arith, e))) (past_row (t.past 43 (λ e. omega (arith, e))) s.here);
        row_last = past_row (u.past last not-8) (past_row (t.past last (λ e. omega (arith, e, below))) (past_row (s.past last (λ e. omega (arith, e, below))) r.here));
        row_0 = past_row (u.past 0 (λ e. omega (arith, e))) (past_row (t.past 0 (λ e. omega (arith, e))) (past_row (s.past 0 (λ e. omega (arith, e))) (past-last (r.past 0 (λ e. not-0 (sym e))))));
      }

module _ (image : List ℕ) (partition : ℕ) (passed : slot_refusal image partition ≡ 0) where
  pub read_codes : (slot block : ℕ) (buffer : List ℕ) → SlotReadCodes image slot block buffer (code_of image (on_page (slot_read partition slot block buffer)))
  unfolding code_of slot_read_rows
  read_codes slot block buffer =
      let r = slot-codes 7 (λ e. omega (arith, e)) (λ e. omega (arith, e)) (omega arith) _ _ _ _
      (says_other (length buffer) 60) (says-42 image slot) (says-43 block) (says-7 (contents image (26 + 4 * slot + block))) in
      rw (passed, data_is slot block) (record { row_8 = r.row_8; row_42 = r.row_42; row_43 = r.row_43; row_7 = r.row_last; row_0 = r.row_0 })

  pub save-codes-slot : (slot block : ℕ) (expected page : List ℕ) → SlotSaveCodes image slot block expected page (code_of image (on_page (slot_save partition slot block expected page)))
  unfolding code_of slot_save_rows
  save-codes-slot slot block expected page =
      let r = slot-codes 9 (λ e. omega (arith, e)) (λ e. omega (arith, e)) (omega arith) _ _ _ _
      (says-lengths expected page) (says-42 image slot) (says-43 block)
      (says-9 image (26 + 4 * slot + block) partition expected (slot-open image partition passed).unrefused_1_5) in
      rw (passed, data_is slot block) (record { row_8 = r.row_8; row_42 = r.row_42; row_43 = r.row_43; row_9 = r.row_last; row_0 = r.row_0 })

  says-product : (product : List ℕ) → Says (not (is_some (product_slot image product))) (NoProduct image product) ((slot : ℕ) × LowestProduct image slot product)
  says-product product = go (product_slot image product) refl
    where
      go : (o : Option ℕ) → product_slot image product ≡ o → Says (not (is_some o)) (NoProduct image product) ((slot : ℕ) × LowestProduct image slot product)
      go None q = record { applies = λ e. product-none image product q; passes = λ e. absurd (true≢false e); apart = λ n l. n l.0 l.1.here }
      go (Some slot) q = record { applies = λ e. absurd (false≢true e); passes = λ e. (slot, product_found image product slot q); apart = λ n l. n l.0 l.1.here }

  pub find_codes : (product : List ℕ) → SlotFindCodes image product (code_of image (on_whole (slot_find partition product)))
  unfolding code_of find_rows
  find_codes product =
      let t8 = not (eqb (length product) 10) in
      let t7 = not (is_some (product_slot image product)) in
      let r = one-row 7 0 t7 (says-product product) (λ e. omega (arith, e)) in
      let u = one-row 8 (row 7 t7 0) t8 (says_other (length product) 10) (row-not 7 8 0 t7 (λ e. omega (arith, e)) (λ e. omega (arith, e))) in
      rw passed (record {
        row_8 = u.here;
        row_7 = past_row (u.past 7 (λ e. omega (arith, e))) r.here;
        row_0 = past_row (u.past 0 (λ e. omega (arith, e))) (past-last (r.past 0 (λ e. omega (arith, e))));
      })

  says-taken : (header : List ℕ) → Says (not (is_some (claimed_slot image header))) (AllTaken image (take 10 (drop 2 header))) (AllTaken image (take 10 (drop 2 header)) → ⊥)
  unfolding claimed_slot product_of
  says-taken header = go (product_slot image (take 10 (drop 2 header))) refl (free_slot image) refl
    where
      go : (o : Option ℕ) → product_slot image (take 10 (drop 2 header)) ≡ o → (f : Option ℕ) → free_slot image ≡ f
          → Says (not (is_some (or_else o f))) (AllTaken image (take 10 (drop 2 header))) (AllTaken image (take 10 (drop 2 header)) → ⊥)
      go (Some slot) q f r = record {
        applies = λ e. absurd (false≢true e);
        passes = λ e a. a.1 slot (product_found image (take 10 (drop 2 header)) slot q).here;
        apart = λ a d. d a;
      }
      go None q (Some slot) r = record {
        applies = λ e. absurd (false≢true e);
        passes = λ e a. (free-found image slot r).not_valid (a.0 slot (free-most image slot r));
        apart = λ a d. d a;
      }
      go None q None r = record {
        applies = λ e. (free-none image r, product-none image (take 10 (drop 2 header)) q);
        passes = λ e. absurd (true≢false e);
        apart = λ a d. d a;
      }

  says-41 : (header : List ℕ) → Says (not (right_header header)) (MakesValid header → ⊥) (MakesValid header)
  says-41 header = record {
    applies = λ e w. true≢false (sym (bytes-right header w) ∙ not-true (right_header header) e);
    passes = λ e. right-bytes header (not-false (right_header header) e);
    apart = λ d w. d w;
  }

  pub claim_codes : (one other : List ℕ) → ClaimCodes image one other (code_of image (on_pages (claim partition one other)))
  unfolding code_of claim_rows
  claim_codes one other =
      let t8 = not (eqb (length one) 60) || not (eqb (length other) 60) in
      let t41 = not (right_header (one ++ other)) in
      let t40 = not (is_some (claimed_slot image (one ++ other))) in
      let r = one-row 40 0 t40 (says-taken (one ++ other)) (λ e. omega (arith, e)) in
      let s = one-row 41 (row 40 t40 0) t41 (says-41 (one ++ other)) (row-not 40 41 0 t40 (λ e. omega (arith, e)) (λ e. omega (arith, e))) in
      let u = one-row 8 (row 41 t41 (row 40 t40 0)) t8 says-8
      (row-not 41 8 (row 40 t40 0) t41 (λ e. omega (arith, e)) (row-not 40 8 0 t40 (λ e. omega (arith, e)) (λ e. omega (arith, e)))) in
      rw passed (record {
        row_8 = u.here;
        row_41 = past_row (u.past 41 (λ e. omega (arith, e))) s.here;
        row_40 = past_row (u.past 40 (λ e. omega (arith, e))) (past_row (s.past 40 (λ e. omega (arith, e))) r.here);
        row_0 = past_row (u.past 0 (λ e. omega (arith, e))) (past_row (s.past 0 (λ e. omega (arith, e))) (past-last (r.past 0 (λ e. omega (arith, e)))));
      })
    where
      says-8 : Says (not (eqb (length one) 60) || not (eqb (length other) 60)) ((length one ≢ 60) ⊎ (length other ≢ 60)) ((length one ≡ 60) × (length other ≡ 60))
      says-8 = record {
        applies = λ e. ⊎_elim (λ t. inl ((says_other (length one) 60).applies t)) (λ t. inr ((says_other (length other) 60).applies t)) (or-true-either (not (eqb (length one) 60)) _ e);
        passes = λ e. ((says_other (length one) 60).passes (or-false-left (not (eqb (length one) 60)) _ e), (says_other (length other) 60).passes (or-false-right (not (eqb (length one) 60)) _ e));
        apart = λ w r. ⊎_elim (λ d. d r.0) (λ d. d r.1) w;
      }
