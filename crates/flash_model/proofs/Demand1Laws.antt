-- Demand 1. Assumes nothing.
use Prim.Native.Nat.{ℕ, ◌≤◌}
use mathlib.Core.Path.{◌≡◌, refl, ap, ◌∙◌}
use mathlib.Core.Bool.{Bool, true, false, not, ◌||◌, true≢false, false≢true}
use mathlib.Core.List.{List, ◌++◌}
use mathlib.Core.Logic.{◌⊎◌, inl, inr, ⊎_elim}
use native.Mathlib.Omega.{arith}
use native.Mathlib.Decide.{ℕ_discrete}
use lib.Dec.{eqb}
use lib.ListN.{length}
use Rattle.words.specs.Lists.{is_some}
use Rattle.flash_model.specs.Partition.{row, first, refusal, contents, lowest_live}
use Rattle.flash_model.specs.Slots.{slot_size, slot_partition, data_number, right_header, product_slot, lowest_valid, claimed_slot, slot_refusal, no_slot, no_block}
use Rattle.flash_model.specs.Calls.{Call, Reply, changed_since, wrong_lengths, read_rows, save_rows, slot_read_rows, slot_save_rows, find_rows, claim_rows, code_of, reply_to, after, Answered}
use Rattle.flash_model.specs.Calls.{PageCall.read, PageCall.save, PageCall.slot_read, PageCall.slot_save, WholeCall.check, WholeCall.report, WholeCall.next_live, WholeCall.erase, WholeCall.slot_find, WholeCall.slot_list, CompoundCall.claim, Call.on_page, Call.on_whole, Call.on_pages}
use Rattle.flash_model.specs.Demands.{SaveDone, on_slots, Demand1}
use Rattle.flash_model.specs.SlotDemands.{ClaimFound, ClaimWritten}
use Rattle.flash_model.proofs.RowLaws.{first-refused}
use Rattle.flash_model.proofs.RefusalLaws.{refusal-most}
use Rattle.flash_model.proofs.CallLaws.{refused-image, refused-buffers, refused-values}
use Rattle.flash_model.proofs.CodeLaws.{read_told, save-told}
use Rattle.flash_model.proofs.Demand2Laws.{demand2}
use Rattle.flash_model.proofs.SlotRuleLaws.{slot-rules}

saved-length : (image image' : List ℕ) (n : ℕ) (page : List ℕ) → SaveDone image n page image' → length image' ≡ length image
saved-length image image' n page done = (demand2.save_keeps image n page image' done).keeps_rest.same_length

module _ (image : List ℕ) where
  front-most : (partition : ℕ) → refusal image partition ≤ 9
  front-most partition = omega (arith, refusal-most image partition)

  -- the rows behind 1 to 5 count where these let pass
  behind-most : (partition later : ℕ) → (refusal image partition ≡ 0 → later ≤ 9) → first (refusal image partition) later ≤ 9
  behind-most partition later h = go (ℕ_discrete (refusal image partition) 0)
    where
      go : Dec (refusal image partition ≡ 0) → first (refusal image partition) later ≤ 9
      go (yes e) = rw e (h e)
      go (no d) = rw (first-refused (refusal image partition) later d) (front-most partition)

  next-most : (t : Bool) → row 7 t 0 ≤ 9
  next-most true = omega arith
  next-most false = omega arith

  in_table : (c : Call) → on_slots c ≡ false → code_of image c ≤ 9
  unfolding code_of
  in_table (on_page (read partition n buffer)) o = behind-most partition (read_rows image n buffer) (λ e. (read_told image n buffer refl).1)
  in_table (on_page (save partition n expected page)) o =
      behind-most partition (save_rows image n expected page) (λ e. (save-told image partition n expected page e refl).1)
  in_table (on_page (slot_read partition slot block buffer)) o = absurd (true≢false o)
  in_table (on_page (slot_save partition slot block expected page)) o = absurd (true≢false o)
  in_table (on_whole (check partition)) o = front-most partition
  in_table (on_whole (report partition)) o = front-most partition
  in_table (on_whole (next_live partition start)) o = behind-most partition _ (λ e. next-most (not (is_some (lowest_live image start))))
  in_table (on_whole (erase partition)) o = front-most partition
  in_table (on_whole (slot_find partition product)) o = absurd (true≢false o)
  in_table (on_whole (slot_list partition start)) o = absurd (true≢false o)
  in_table (on_pages (claim partition one other)) o = absurd (true≢false o)

  -- ---- of slots

  abbrev SlotTable : ℕ → Type 0
  SlotTable n = (n ≤ 9) ⊎ ((40 ≤ n) × (n ≤ 43))

  row_in : (n later : ℕ) (t : Bool) → SlotTable n → SlotTable later → SlotTable (row n t later)
  row_in n later true a b = a
  row_in n later false a b = b

  -- a row of the one part and of the other
  low-row : (n later : ℕ) (t : Bool) → n ≤ 9 → SlotTable later → SlotTable (row n t later)
  low-row n later t h = row_in n later t (inl h)

  high-row : (n later : ℕ) (t : Bool) → 40 ≤ n → n ≤ 43 → SlotTable later → SlotTable (row n t later)
  high-row n later t a b = row_in n later t (inr (a, b))

  none_in : SlotTable 0
  none_in = inl (omega arith)

  slot-front-in : (partition : ℕ) → SlotTable (slot_refusal image partition)
  unfolding slot_refusal
  slot-front-in partition =
      low-row 1 _ (not (eqb (length image) slot_size)) (omega arith)
      (low-row 2 _ (eqb (refusal image partition) 2) (omega arith)
      (low-row 3 _ (not (eqb partition slot_partition)) (omega arith) (inl (front-most partition))))

  behind-in : (partition later : ℕ) → SlotTable later → SlotTable (first (slot_refusal image partition) later)
  behind-in partition later h = go (ℕ_discrete (slot_refusal image partition) 0)
    where
      go : Dec (slot_refusal image partition ≡ 0) → SlotTable (first (slot_refusal image partition) later)
      go (yes e) = rw e h
      go (no d) = rw (first-refused (slot_refusal image partition) later d) (slot-front-in partition)

  slots_in_table : (c : Call) → on_slots c ≡ true → SlotTable (code_of image c)
  unfolding code_of slot_read_rows slot_save_rows find_rows claim_rows
  slots_in_table (on_page (read partition n buffer)) o = absurd (false≢true o)
  slots_in_table (on_page (save partition n expected page)) o = absurd (false≢true o)
  slots_in_table (on_page (slot_read partition slot block buffer)) o =
      behind-in partition _ (low-row 8 _ (not (eqb (length buffer) 60)) (omega arith)
      (high-row 42 _ (no_slot image slot) (omega arith) (omega arith)
      (high-row 43 _ (no_block block) (omega arith) (omega arith)
      (low-row 7 0 (not (is_some (contents image (data_number slot block)))) (omega arith) none_in))))
  slots_in_table (on_page (slot_save partition slot block expected page)) o =
      behind-in partition _ (low-row 8 _ (wrong_lengths expected page) (omega arith)
      (high-row 42 _ (no_slot image slot) (omega arith) (omega arith)
      (high-row 43 _ (no_block block) (omega arith) (omega arith)
      (low-row 9 0 (changed_since image (data_number slot block) expected) (omega arith) none_in))))
  slots_in_table (on_whole (check partition)) o = absurd (false≢true o)
  slots_in_table (on_whole (report partition)) o = absurd (false≢true o)
  slots_in_table (on_whole (next_live partition start)) o = absurd (false≢true o)
  slots_in_table (on_whole (erase partition)) o = absurd (false≢true o)
  slots_in_table (on_whole (slot_find partition product)) o =
      behind-in partition _ (low-row 8 _ (not (eqb (length product) 10)) (omega arith)
      (low-row 7 0 (not (is_some (product_slot image product))) (omega arith) none_in))
  slots_in_table (on_whole (slot_list partition start)) o = behind-in partition _ (low-row 7 0 (not (is_some (lowest_valid image start))) (omega arith) none_in)
  slots_in_table (on_pages (claim partition one other)) o =
      behind-in partition _ (low-row 8 _ (not (eqb (length one) 60) || not (eqb (length other) 60)) (omega arith)
      (high-row 41 _ (not (right_header (one ++ other))) (omega arith) (omega arith)
      (high-row 40 0 (not (is_some (claimed_slot image (one ++ other)))) (omega arith) (omega arith) none_in)))

  module _ (image' : List ℕ) (answer : Reply) where
    done-length : (c : Call) → Answered image c image' answer → answer.code ≡ 0 → length image' ≡ length image
    done-length (on_page (read partition n buffer)) a e = ap length (demand2.read_only_keeps image _ image' answer tt a)
    done-length (on_page (save partition n expected page)) a e = saved-length image image' n page (partition, expected, answer, a, e)
    done-length (on_page (slot_read partition slot block buffer)) a e = ap length (demand2.read_only_keeps image _ image' answer tt a)
    done-length (on_page (slot_save partition slot block expected page)) a e =
        saved-length image image' _ page (slot-rules.save_is_save image partition slot block expected page image' answer a e)
    done-length (on_whole (check partition)) a e = ap length (demand2.read_only_keeps image _ image' answer tt a)
    done-length (on_whole (report partition)) a e = ap length (demand2.read_only_keeps image _ image' answer tt a)
    done-length (on_whole (next_live partition start)) a e = ap length (demand2.read_only_keeps image _ image' answer tt a)
    done-length (on_whole (slot_find partition product)) a e = ap length (demand2.read_only_keeps image _ image' answer tt a)
    done-length (on_whole (slot_list partition start)) a e = ap length (demand2.read_only_keeps image _ image' answer tt a)
    done-length (on_pages (claim partition one other)) a e = ⊎_elim
        (λ (f : ClaimFound image one other image' _). ap length f.same_image)
        (λ (w : ClaimWritten image one other image' _). saved-length w.between image' _ other w.second_save_lem ∙ saved-length image w.between _ one w.first_save_lem)
        (slot-rules.claim_gives image partition one other image' answer a e).2
    done-length (on_whole (erase partition)) a e = (demand2.erase_keeps image partition image' answer a e).0.keeps_rest.same_length

    same_length : (c : Call) → Answered image c image' answer → length image' ≡ length image
    same_length c a = go (ℕ_discrete answer.code 0)
      where
        go : Dec (answer.code ≡ 0) → length image' ≡ length image
        go (yes e) = done-length c a e
        go (no n) = ap length (refused-image image c image' answer a n)

pub demand1 : Demand1
demand1 = record {
  answered = λ image c. (after image c, reply_to image c, record { answer_is = refl; image_is = refl });
  in_table = in_table;
  slots_in_table = slots_in_table;
  refusal_keeps = λ image c image' answer a n.
      (refused-image image c image' answer a n, refused-buffers image c image' answer a n, refused-values image c image' answer a n);
  same_length = λ image c image' answer a. same_length image image' answer c a;
}
