-- The rules of slots, from the laws of rows, saves and claims. Assumes nothing.
use Prim.Native.Nat.{ℕ, ◌+◌, ◌*◌, ◌≤◌}
use mathlib.Core.Path.{◌≡◌, refl, sym, ap, subst, ◌∙◌}
use mathlib.Core.Bool.{false, not, true≢false}
use mathlib.Core.List.{List, [], ◌∷◌}
use Rattle.std.specs.Prelude.{Option, None, Some}
use mathlib.Core.Logic.{◌≢◌, ◌⊎◌, inl, inr}
use lib.Dec.{eqb}
use lib.ListN.{length, length-append}
use Rattle.words.specs.Lists.{is_some, to_list}
use Rattle.flash_model.specs.Partition.{row, first, contents}
use Rattle.flash_model.specs.Slots.{data_number, slot_size, product_slot, lowest_valid, slot_refusal}
use Rattle.flash_model.specs.Calls.{Reply, changed_since, find_rows, code_of, after_page, Answered}
use Rattle.flash_model.specs.Calls.{PageCall.save, PageCall.slot_read, PageCall.slot_save, WholeCall.slot_find, WholeCall.slot_list, Call.on_page, Call.on_whole}
use Rattle.flash_model.specs.PageStore.{expected_page}
use Rattle.flash_model.specs.Demands.{SaveDone}
use Rattle.flash_model.specs.SlotDemands.{IsSlot, LowestProduct, NextSlotIs, SlotImage, SlotRules}
use Rattle.flash_model.proofs.SlotLaws.{data_is, slot-open, open-slot}
use Rattle.flash_model.proofs.CallLaws.{answered-code, accepted-image, accepted-values, accepted-buffers}
use Rattle.flash_model.proofs.MeaningLaws.{contents-length}
use Rattle.flash_model.proofs.RefusalLaws.{refusals_mean, unrefused}
use Rattle.flash_model.proofs.SoundLaws.{unrefused-sound}
use Rattle.flash_model.proofs.RowLaws.{row_zero, first-zero}
use Rattle.flash_model.proofs.CodeLaws.{save_codes, AcceptedSave, AcceptedSlot, slot-read-rows, slot-save-rows}
use Rattle.flash_model.proofs.Demand2Laws.{save_keeps}
use Rattle.flash_model.proofs.StoreLaws.{after-done}
use Rattle.flash_model.proofs.ClaimLaws.{page-after, claim_done}
use Rattle.flash_model.proofs.SlotHeaderLaws.{next-found, next-nothing, product_found, valid_slot_lem}
use Rattle.flash_model.proofs.SlotCodeLaws.{claim_codes, find_codes, read_codes, save-codes-slot, slot-refusals}
use Rattle.flash_model.proofs.ClaimRuleLaws.{claim_gives, claims_alike, claims_in_both, found-counts, refused-counts, save-done, slot-image-open, written-counts}

-- ---- what accepted calls give

-- the one that a search found
found : (o : Option ℕ) → not (is_some o) ≡ false → (slot : ℕ) × (o ≡ Some slot)
found None e = absurd (true≢false e)
found (Some slot) e = (slot, refl)

module _ (image : List ℕ) (partition : ℕ) (image' : List ℕ) (answer : Reply) where
  find_gives : (product : List ℕ) → Answered image (on_whole (slot_find partition product)) image' answer → answer.code ≡ 0
      → (slot : ℕ) × (answer.values ≡ slot ∷ []) × LowestProduct image slot product
  unfolding code_of find_rows
  find_gives product a e =
      let c = on_whole (slot_find partition product) in
      let t8 = not (eqb (length product) 10) in
      let t7 = not (is_some (product_slot image product)) in
      let z = first-zero (slot_refusal image partition) (row 8 t8 (row 7 t7 0)) (sym (answered-code image c image' answer a) ∙ e) in
      let w = found (product_slot image product) (row_zero 6 0 t7 (row_zero 7 (row 7 t7 0) t8 z.1).1).0 in
      (w.0, accepted-values image c image' answer a e ∙ ap to_list w.1, product_found image product w.0 w.1)

  list_gives : (start : ℕ) → Answered image (on_whole (slot_list partition start)) image' answer → answer.code ≡ 0
      → (slot : ℕ) × (answer.values ≡ slot ∷ []) × NextSlotIs image start slot
  unfolding code_of
  list_gives start a e =
      let c = on_whole (slot_list partition start) in
      let t7 = not (is_some (lowest_valid image start)) in
      let z = first-zero (slot_refusal image partition) (row 7 t7 0) (sym (answered-code image c image' answer a) ∙ e) in
      let w = found (lowest_valid image start) (row_zero 6 0 t7 z.1).0 in
      (w.0, accepted-values image c image' answer a e ∙ ap to_list w.1, next-found image start w.0 w.1)

  read_gives : (slot block : ℕ) (buffer : List ℕ) → Answered image (on_page (slot_read partition slot block buffer)) image' answer → answer.code ≡ 0
      → (page : List ℕ) × (answer.buffers ≡ page ∷ []) × (contents image (26 + 4 * slot + block) ≡ Some page)
  read_gives slot block buffer a e =
      let c = on_page (slot_read partition slot block buffer) in
      let r = slot-read-rows image partition slot block buffer (sym (answered-code image c image' answer a) ∙ e) in
      go (contents image (data_number slot block)) refl r.1.there (accepted-buffers image c image' answer a e)
    where
      go : (o : Option (List ℕ)) → contents image (data_number slot block) ≡ o → o ≢ None → answer.buffers ≡ to_list (contents image (data_number slot block))
          → (page : List ℕ) × (answer.buffers ≡ page ∷ []) × (contents image (26 + 4 * slot + block) ≡ Some page)
      go None q t b = absurd (t refl)
      go (Some page) q t b = (page, b ∙ ap to_list q, ap (contents image) (sym (data_is slot block)) ∙ q)

list_none : (image : List ℕ) (partition start : ℕ) → slot_refusal image partition ≡ 0
    → code_of image (on_whole (slot_list partition start)) ≢ 0
    → (code_of image (on_whole (slot_list partition start)) ≡ 7) × ((slot : ℕ) → start ≤ slot → IsSlot image slot → ⊥)
unfolding code_of
list_none image partition start s refused = go (lowest_valid image start) refl
  where
    go : (o : Option ℕ) → lowest_valid image start ≡ o
        → (first (slot_refusal image partition) (row 7 (not (is_some (lowest_valid image start))) 0) ≡ 7) × ((slot : ℕ) → start ≤ slot → IsSlot image slot → ⊥)
    go None q = (rw (s, q), next-nothing image start q)
    go (Some n) q = absurd (refused (rw (s, q)))

-- ---- saves

module _ (image : List ℕ) (partition slot block : ℕ) (expected page image' : List ℕ) (answer : Reply)
    (a : Answered image (on_page (slot_save partition slot block expected page)) image' answer) where
  save_is_save : answer.code ≡ 0 → SaveDone image (26 + 4 * slot + block) page image'
  save_is_save e =
      let c = on_page (slot_save partition slot block expected page) in
      let n = data_number slot block in
      let z = sym (answered-code image c image' answer a) ∙ e in
      let r = slot-save-rows image partition slot block expected page z in
      let done : code_of image (on_page (save partition n expected page)) ≡ 0 = plain r z in
      let same : after_page image (save partition n expected page) ≡ image' =
      sym (page-after image (save partition n expected page)) ∙ after-done image (on_page (save partition n expected page)) done ∙ sym (accepted-image image c image' answer a e) in
      subst (λ (m : ℕ). SaveDone image m page image') (data_is slot block)
      (subst (λ (i : List ℕ). SaveDone image n page i) same (save-done image partition n expected page done))
    where
      plain : AcceptedSlot image partition slot block × AcceptedSave image partition (data_number slot block) page × (changed_since image (data_number slot block) expected ≡ false)
          → code_of image (on_page (slot_save partition slot block expected page)) ≡ 0
          → code_of image (on_page (save partition (data_number slot block) expected page)) ≡ 0
      plain r z =
          let codes = (save-codes-slot image partition (open-slot image partition r.0.is_open) slot block expected page).row_0.0 z in
          (save_codes image partition (data_number slot block) expected page r.1.unrefused_1_5).row_0.1
          (r.1.in_range, codes.0, codes.1.1.1 ∙ ap (contents image) (sym (data_is slot block)))

  never_refused : SlotImage image → partition ≡ 3 → IsSlot image slot → block ≤ 1 → length page ≡ 60 → expected_page expected ≡ contents image (26 + 4 * slot + block)
      → (answer.code ≡ 0) × (contents image' (26 + 4 * slot + block) ≡ Some page)
  never_refused i p h b l e =
      let c = on_page (slot_save partition slot block expected page) in
      let o : slot_refusal image partition ≡ 0 = ap (slot_refusal image) p ∙ slot-image-open image i in
      let z = (save-codes-slot image partition o slot block expected page).row_0.1 ((l, right-length (contents image (26 + 4 * slot + block)) refl expected e), (h, (b, e))) in
      let done = answered-code image c image' answer a ∙ z in
      (done, (save_keeps image (26 + 4 * slot + block) page image' (save_is_save done)).saved_page)
    where
      right-length : (o : Option (List ℕ)) → contents image (26 + 4 * slot + block) ≡ o → (xs : List ℕ) → expected_page xs ≡ o → (length xs ≡ 0) ⊎ (length xs ≡ 60)
      right-length o q [] f = inl refl
      right-length o q (x ∷ xs) f = inr (contents-length image i.is_sound (26 + 4 * slot + block) (x ∷ xs) (q ∙ sym f))

pub slot-rules : SlotRules
slot-rules = record {
  refusals_mean = slot-refusals;
  slot_image = λ image. (
    λ e. let o = slot-open image 3 e in unfold slot_size in record { is_sound = unrefused-sound image 3 o.unrefused_1_5; has_length = o.size_is; has_number_lem = (unrefused image 3 o.unrefused_1_5).1 },
    λ i. slot-image-open image i,
  );
  header_length = λ image slot header s h.
      ap length h.header_is ∙ length-append h.one h.other
      ∙ rw (contents-length image s (24 + 4 * slot) h.one h.first_block_lem, contents-length image s (25 + 4 * slot) h.other h.second_block);
  valid_slot_lem = valid_slot_lem;
  read_codes = λ image partition slot block buffer r. read_codes image partition r slot block buffer;
  save_codes = λ image partition slot block expected page r. save-codes-slot image partition r slot block expected page;
  find_codes = λ image partition product r. find_codes image partition r product;
  claim_codes = λ image partition one other r. claim_codes image partition r one other;
  find_gives = λ image partition product image' answer. find_gives image partition image' answer product;
  list_gives = λ image partition start image' answer. list_gives image partition image' answer start;
  list_none = list_none;
  read_gives = λ image partition slot block buffer image' answer. read_gives image partition image' answer slot block buffer;
  save_is_save = save_is_save;
  claim_gives = claim_gives;
  claim_counts = λ image partition one other. record {
    refused = refused-counts image partition one other;
    found = found-counts image partition one other;
    written = written-counts image partition one other;
  };
  claims_in_both = claims_in_both;
  claim_done = claim_done;
  claims_alike = claims_alike;
  never_refused = λ image slot block expected page image' answer i h b l e a. never_refused image 3 slot block expected page image' answer a i refl h b l e;
}
