-- The later rows of a read and of a save, each in its turn, in plain logic. Assumes nothing.
use Prim.Native.Nat.{ℕ, suc, ◌≤◌, ◌<◌}
use mathlib.Core.Path.{◌≡◌, refl, sym, ap, subst, ◌∙◌}
use mathlib.Core.Bool.{Bool, true, false, not, cond, ◌||◌, true≢false}
use mathlib.Core.List.{List}
use Rattle.std.specs.Prelude.{Option, None, Some}
use mathlib.Core.Logic.{◌≢◌, ◌⊎◌, inl, inr, ⊎_elim}
use native.Mathlib.Omega.{arith}
use lib.Dec.{eqb}
use lib.ListN.{length}
use borrow.Author.Tests.{eqb-true, eqb-false, not-true, not-false}
use Rattle.words.specs.Lists.{is_some}
use Rattle.words.proofs.Bools.{or-false-left, or-false-right, or-true-either}
use Rattle.flash_model.specs.Measures.{top_number, legal_number}
use Rattle.flash_model.specs.Partition.{row, first, refusal, contents}
use Rattle.flash_model.specs.Slots.{data_number, slot_refusal, no_slot, no_block}
use Rattle.flash_model.specs.Calls.{changed_since, wrong_lengths, read_rows, save_rows, slot_read_rows, slot_save_rows, code_of}
use Rattle.flash_model.specs.Calls.{PageCall.read, PageCall.save, PageCall.slot_read, PageCall.slot_save, Call.on_page}
use Rattle.flash_model.specs.PageStore.{expected_page}
use Rattle.flash_model.specs.Demands.{ReadCodes, LengthsRefused, LengthsTaken, SaveCodes}
use Rattle.flash_model.proofs.MeasureLaws.{legal-le, illegal-above}
use Rattle.flash_model.proofs.RowLaws.{Says, by-test, is-wrong, is_right_lem, says_other, row_zero, first-zero}
use Rattle.flash_model.proofs.SoundLaws.{unrefused-sound}
use Rattle.flash_model.proofs.SlotLaws.{SlotOpen, SlotThere, data-legal, slot-open, slot-there, block-most}
use Rattle.flash_model.proofs.CallLaws.{same_seen, seen_same}
use Rattle.flash_model.proofs.MeaningLaws.{contents-length}

-- ---- what each test says

pub says-7 : (o : Option (List ℕ)) → Says (not (is_some o)) (o ≡ None) (o ≢ None)
says-7 None = record { applies = λ e. refl; passes = λ e. absurd (true≢false e); apart = λ e d. d e }
says-7 (Some page) = record { applies = λ e. absurd (true≢false (sym e)); passes = λ e d. true≢false (ap is_some d); apart = λ e d. d e }

pub says-lengths : (expected page : List ℕ) → Says (wrong_lengths expected page) (LengthsRefused expected page) (LengthsTaken expected page)
unfolding wrong_lengths
says-lengths expected page = record {
  applies = λ e. ⊎_elim (λ t. inl ((says_other (length page) 60).applies t)) (λ t. inr (neither (not-true seen t))) (or-true-either new (not seen) e);
  passes = λ e. ((says_other (length page) 60).passes (or-false-left new (not seen) e), one_of (not-false seen (or-false-right new (not seen) e)));
  apart = λ w r. ⊎_elim (λ d. d r.0) (λ d. ⊎_elim d.0 d.1 r.1) w;
}
  where
    new : Bool
    new = not (eqb (length page) 60)

    seen : Bool
    seen = eqb (length expected) 0 || eqb (length expected) 60

    neither : seen ≡ false → (length expected ≢ 0) × (length expected ≢ 60)
    neither e = (eqb-false _ 0 (or-false-left _ _ e), eqb-false _ 60 (or-false-right (eqb (length expected) 0) _ e))

    one_of : seen ≡ true → (length expected ≡ 0) ⊎ (length expected ≡ 60)
    one_of e = ⊎_elim (λ t. inl (eqb-true _ 0 t)) (λ t. inr (eqb-true _ 60 t)) (or-true-either (eqb (length expected) 0) _ e)

module _ (image : List ℕ) (n : ℕ) where
  says-6 : Says (not (legal_number (length image) n)) (top_number (length image) < n) (n ≤ top_number (length image))
  says-6 = record {
    applies = λ e. illegal-above (length image) n (not-true (legal_number (length image) n) e);
    passes = λ e. legal-le (length image) n (not-false (legal_number (length image) n) e);
    apart = λ h l. omega (arith, h, l);
  }

  pub says-9 : (partition : ℕ) (expected : List ℕ) → refusal image partition ≡ 0
      → Says (changed_since image n expected) (expected_page expected ≢ contents image n) (expected_page expected ≡ contents image n)
  unfolding changed_since
  says-9 partition expected s = record {
    applies = λ e q. true≢false (sym e ∙ seen_same (contents image n) long expected q);
    passes = λ e. same_seen (contents image n) long expected e;
    apart = λ d q. d q;
  }
    where
      long : (page : List ℕ) → contents image n ≡ Some page → length page ≡ 60
      long page e = contents-length image (unrefused-sound image partition s) n page e

-- ---- what each number says

module _ (image : List ℕ) (n : ℕ) (buffer : List ℕ) where
  says-8 : Says (not (eqb (length buffer) 60)) (length buffer ≢ 60) (length buffer ≡ 60)
  says-8 = says_other (length buffer) 60

  abbrev ReadTold : ℕ → Type 0
  ReadTold code =
      cond (eqb code 6) (top_number (length image) < n)
      (cond (eqb code 8) ((n ≤ top_number (length image)) × (length buffer ≢ 60))
      (cond (eqb code 7) ((n ≤ top_number (length image)) × (length buffer ≡ 60) × (contents image n ≡ None))
      ((n ≤ top_number (length image)) × (length buffer ≡ 60) × (contents image n ≢ None))))
      × (code ≤ 9)

  pub read_told : {code : ℕ} → read_rows image n buffer ≡ code → ReadTold code
  unfolding read_rows
  read_told q = subst ReadTold q (by-test (says-6 image n) (λ t w. rw t (w, omega arith)) λ t a.
      rw t (by-test says-8 (λ t w. rw t ((a, w), omega arith)) λ t b.
      rw t (by-test (says-7 (contents image n)) (λ t w. rw t ((a, b, w), omega arith)) λ t c.
      rw t ((a, b, c), omega arith))))

  read-meant : ReadCodes image n buffer (read_rows image n buffer)
  unfolding read_rows
  read-meant =
      let six = says-6 image n in
      let seven = says-7 (contents image n) in
      record {
        row_6 = (λ e. (read_told e).0, λ h. rw (is-wrong six h));
        row_8 = (λ e. (read_told e).0, λ h. rw (is_right_lem six h.0, is-wrong says-8 h.1));
        row_7 = (λ e. (read_told e).0, λ h. rw (is_right_lem six h.0, is_right_lem says-8 h.1, is-wrong seven h.2));
        row_0 = (λ e. (read_told e).0, λ h. rw (is_right_lem six h.0, is_right_lem says-8 h.1, is_right_lem seven h.2));
      }

module _ (image : List ℕ) (partition n : ℕ) (expected page : List ℕ) (s : refusal image partition ≡ 0) where
  abbrev SaveTold : ℕ → Type 0
  SaveTold code =
      cond (eqb code 6) (top_number (length image) < n)
      (cond (eqb code 8) ((n ≤ top_number (length image)) × LengthsRefused expected page)
      (cond (eqb code 9) ((n ≤ top_number (length image)) × LengthsTaken expected page × (expected_page expected ≢ contents image n))
      ((n ≤ top_number (length image)) × LengthsTaken expected page × (expected_page expected ≡ contents image n))))
      × (code ≤ 9)

  pub save-told : {code : ℕ} → save_rows image n expected page ≡ code → SaveTold code
  unfolding save_rows
  save-told q = subst SaveTold q (by-test (says-6 image n) (λ t w. rw t (w, omega arith)) λ t a.
      rw t (by-test (says-lengths expected page) (λ t w. rw t ((a, w), omega arith)) λ t b.
      rw t (by-test (says-9 image n partition expected s) (λ t w. rw t ((a, b, w), omega arith)) λ t c.
      rw t ((a, b, c), omega arith))))

  save-meant : SaveCodes image n expected page (save_rows image n expected page)
  unfolding save_rows
  save-meant =
      let six = says-6 image n in
      let eight = says-lengths expected page in
      let nine = says-9 image n partition expected s in
      record {
        row_6 = (λ e. (save-told e).0, λ h. rw (is-wrong six h));
        row_8 = (λ e. (save-told e).0, λ h. rw (is_right_lem six h.0, is-wrong eight h.1));
        row_9 = (λ e. (save-told e).0, λ h. rw (is_right_lem six h.0, is_right_lem eight h.1, is-wrong nine h.2));
        row_0 = (λ e. (save-told e).0, λ h. rw (is_right_lem six h.0, is_right_lem eight h.1, is_right_lem nine h.2));
      }

-- ---- of a call

-- an accepted read
pub record AcceptedRead (image : List ℕ) (partition n : ℕ) : Type 0 where
  pub unrefused_1_5 : refusal image partition ≡ 0
  pub there : contents image n ≢ None

-- an accepted save
pub record AcceptedSave (image : List ℕ) (partition n : ℕ) (page : List ℕ) : Type 0 where
  pub unrefused_1_5 : refusal image partition ≡ 0
  pub in_range : n ≤ top_number (length image)
  pub page_60 : length page ≡ 60

module _ (image : List ℕ) (partition n : ℕ) where
  module _ (buffer : List ℕ) where
    pub read_codes : refusal image partition ≡ 0 → ReadCodes image n buffer (code_of image (on_page (read partition n buffer)))
    unfolding code_of
    read_codes s = rw s (read-meant image n buffer)

    pub read-rows : code_of image (on_page (read partition n buffer)) ≡ 0 → AcceptedRead image partition n
    unfolding code_of
    read-rows e =
        let z = first-zero (refusal image partition) (read_rows image n buffer) e in
        record { unrefused_1_5 = z.0; there = ((read-meant image n buffer).row_0.0 z.1).2 }

  module _ (expected page : List ℕ) where
    pub save_codes : refusal image partition ≡ 0 → SaveCodes image n expected page (code_of image (on_page (save partition n expected page)))
    unfolding code_of
    save_codes s = rw s (save-meant image partition n expected page s)

    pub save-rows : code_of image (on_page (save partition n expected page)) ≡ 0 → AcceptedSave image partition n page
    unfolding code_of
    save-rows e =
        let z = first-zero (refusal image partition) (save_rows image n expected page) e in
        let m = (save-meant image partition n expected page z.0).row_0.0 z.1 in
        record { unrefused_1_5 = z.0; in_range = m.0; page_60 = m.1.0 }

-- ---- of a slot's page call

-- no row of it applies
slot-rows : (r n8 last : ℕ) (t8 t42 t43 t : Bool) → first r (row (suc n8) t8 (row 42 t42 (row 43 t43 (row (suc last) t 0)))) ≡ 0
    → (r ≡ 0) × (t8 ≡ false) × (t42 ≡ false) × (t43 ≡ false) × (t ≡ false)
slot-rows r n8 last t8 t42 t43 t e =
    let f = first-zero r (row (suc n8) t8 (row 42 t42 (row 43 t43 (row (suc last) t 0)))) e in
    let g = row_zero n8 (row 42 t42 (row 43 t43 (row (suc last) t 0))) t8 f.1 in
    let h = row_zero 41 (row 43 t43 (row (suc last) t 0)) t42 g.1 in
    let i = row_zero 42 (row (suc last) t 0) t43 h.1 in
    (f.0, g.0, h.0, i.0, (row_zero last 0 t i.1).0)

-- what an accepted one names
pub record AcceptedSlot (image : List ℕ) (partition slot block : ℕ) : Type 0 where
  pub is_open : SlotOpen image partition
  pub is_there : SlotThere image slot
  pub block_0_1 : block ≤ 1

module _ (image : List ℕ) (partition slot block : ℕ) where
  pub slot-read-rows : (buffer : List ℕ) → code_of image (on_page (slot_read partition slot block buffer)) ≡ 0
      → AcceptedSlot image partition slot block × AcceptedRead image partition (data_number slot block)
  unfolding code_of slot_read_rows
  slot-read-rows buffer e =
      let n = data_number slot block in
      let p = slot-rows (slot_refusal image partition) 7 6 (not (eqb (length buffer) 60)) (no_slot image slot) (no_block block) (not (is_some (contents image n))) e in
      let o = slot-open image partition p.0 in (
        record { is_open = o; is_there = slot-there image slot p.2; block_0_1 = block-most block p.3 },
        record { unrefused_1_5 = o.unrefused_1_5; there = (says-7 (contents image n)).passes p.4 },
      )

  pub slot-save-rows : (expected page : List ℕ) → code_of image (on_page (slot_save partition slot block expected page)) ≡ 0
      → AcceptedSlot image partition slot block × AcceptedSave image partition (data_number slot block) page × (changed_since image (data_number slot block) expected ≡ false)
  unfolding code_of slot_save_rows
  slot-save-rows expected page e =
      let n = data_number slot block in
      let p = slot-rows (slot_refusal image partition) 7 8 (wrong_lengths expected page) (no_slot image slot) (no_block block) (changed_since image n expected) e in
      let o = slot-open image partition p.0 in
      let t = slot-there image slot p.2 in
      let b = block-most block p.3 in (
        record { is_open = o; is_there = t; block_0_1 = b },
        record {
          unrefused_1_5 = o.unrefused_1_5;
          in_range = data-legal (length image) slot block o.size_is t.slot_most b;
          page_60 = ((says-lengths expected page).passes p.1).0;
        },
        p.4,
      )
