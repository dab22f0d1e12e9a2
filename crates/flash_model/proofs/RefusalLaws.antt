-- Each of refusals 1 to 5 in its turn, in plain logic. Assumes nothing.
use Prim.Native.Nat.{ℕ, ◌≤◌, ◌<◌}
use mathlib.Core.Path.{◌≡◌, sym, subst, ◌∙◌}
use mathlib.Core.Bool.{true, false, not, cond, true≢false}
use mathlib.Core.List.{List}
use mathlib.Core.Logic.{◌≢◌}
use native.Mathlib.Omega.{arith}
use lib.Dec.{eqb, ltb}
use lib.ListN.{length, take}
use borrow.Author.Tests.{ltb-true, ltb-false, not-true, not-false}
use Rattle.words.specs.Words.{same_bytes}
use Rattle.words.proofs.WordLaws.{same-eq, eq-same}
use Rattle.flash_model.specs.Measures.{legal_size, capacity}
use Rattle.flash_model.specs.Bitmap.{allocated_in, out_of_sequence}
use Rattle.flash_model.specs.Partition.{magic, header_number, version, bitmap_of, allocated, row, length_row, header_rows, sequence_row, refusal}
use Rattle.flash_model.specs.Meanings.{Gap, RefusalsMean, SoundMeans}
use Rattle.flash_model.proofs.SequenceLaws.{sequence-up-to, passes-below, sequence-gap}
use Rattle.flash_model.proofs.RowLaws.{Says, by-test, is-wrong, is_right_lem, says-not, says_other}

module _ (image : List ℕ) where
  -- ---- what each test says

  says-1 : Says (not (legal_size (length image))) (legal_size (length image) ≡ false) (legal_size (length image) ≡ true)
  says-1 = says-not (legal_size (length image))

  pub length-legal : length_row image ≡ 0 → legal_size (length image) ≡ true
  unfolding length_row
  length-legal e = by-test says-1 (λ t w. absurd (omega (arith, rw t at e))) λ t r. r

  says-2 : Says (not (same_bytes (take 16 image) magic)) (take 16 image ≢ magic) (take 16 image ≡ magic)
  says-2 = record {
    applies = λ e q. true≢false (sym (eq-same (take 16 image) magic q) ∙ not-true (same_bytes (take 16 image) magic) e);
    passes = λ e. same-eq (take 16 image) magic (not-false (same_bytes (take 16 image) magic) e);
    apart = λ d q. d q;
  }

  says-4 : Says (ltb 1 (version image)) (1 < version image) (version image ≤ 1)
  says-4 = record { applies = ltb-true 1 (version image); passes = ltb-false 1 (version image); apart = λ h l. omega (arith, h, l) }

  abbrev InSequence : Type 0
  InSequence = (j k : ℕ) → 1 ≤ j → j < k → k ≤ capacity (length image) → allocated image k ≡ true → allocated image j ≡ true

  pub says-5 : Says (out_of_sequence (bitmap_of image) (capacity (length image))) (Gap image) InSequence
  unfolding out_of_sequence allocated
  says-5 = record {
    applies = λ e.
        let (j, k, lo, h, hi, free, used) = sequence-gap (allocated_in (bitmap_of image)) 1 (capacity (length image)) e in
        record { free_block = j; later_block = k; low = lo; later = h; high = omega (arith, hi); is_free_lem = free; is_allocated = used };
    passes = λ e. passes-below (allocated_in (bitmap_of image)) (capacity (length image)) _ (sequence-up-to (allocated_in (bitmap_of image)) (capacity (length image)) e);
    apart = λ g o. true≢false (sym (o g.free_block g.later_block g.low g.later g.high g.is_allocated) ∙ g.is_free_lem);
  }

  -- ---- what each number says

  module _ (partition : ℕ) where
    says-3 : Says (not (eqb (header_number image) partition)) (header_number image ≢ partition) (header_number image ≡ partition)
    says-3 = says_other (header_number image) partition

    -- there is no number but these
    abbrev Told : ℕ → Type 0
    Told code =
        cond (eqb code 1) (legal_size (length image) ≡ false)
        (cond (eqb code 2) ((legal_size (length image) ≡ true) × (take 16 image ≢ magic))
        (cond (eqb code 3) ((legal_size (length image) ≡ true) × (take 16 image ≡ magic) × (header_number image ≢ partition))
        (cond (eqb code 4) ((legal_size (length image) ≡ true) × (take 16 image ≡ magic) × (header_number image ≡ partition) × (1 < version image))
        (cond (eqb code 5)
        ((legal_size (length image) ≡ true) × (take 16 image ≡ magic) × (header_number image ≡ partition) × (version image ≤ 1) × Gap image)
        (SoundMeans image × (header_number image ≡ partition))))))
        × (code ≤ 5)

    told : Told (refusal image partition)
    unfolding refusal length_row header_rows sequence_row
    told =
        by-test says-1 (λ t w. rw t (w, omega arith)) λ t a.
        rw t (by-test says-2 (λ t w. rw t ((a, w), omega arith)) λ t b.
        rw t (by-test says-3 (λ t w. rw t ((a, b, w), omega arith)) λ t c.
        rw t (by-test says-4 (λ t w. rw t ((a, b, c, w), omega arith)) λ t d.
        rw t (by-test says-5 (λ t w. rw t ((a, b, c, d, w), omega arith)) λ t e.
        rw t ((record { legal_size_lem = a; right_magic = b; right_version = d; in_sequence = e }, c), omega arith)))))

    pub refusal-most : refusal image partition ≤ 5
    refusal-most = told.1

    told-as : {k : ℕ} → refusal image partition ≡ k → Told k
    told-as q = subst Told q told

    pub refusals_mean : RefusalsMean image partition
    unfolding refusal length_row header_rows sequence_row
    refusals_mean = record {
      row_1 = (λ q. (told-as q).0, λ h. rw (is-wrong says-1 h));
      row_2 = (λ q. (told-as q).0, λ h. rw (is_right_lem says-1 h.0, is-wrong says-2 h.1));
      row_3 = (λ q. (told-as q).0, λ h. rw (is_right_lem says-1 h.0, is_right_lem says-2 h.1, is-wrong says-3 h.2));
      row_4 = (λ q. (told-as q).0, λ h. rw (is_right_lem says-1 h.0, is_right_lem says-2 h.1, is_right_lem says-3 h.2, is-wrong says-4 h.3));
      row_5 = (
        λ q. (told-as q).0,
        λ h. rw (is_right_lem says-1 h.0, is_right_lem says-2 h.1, is_right_lem says-3 h.2, is_right_lem says-4 h.3, is-wrong says-5 h.4),
      );
    }

    pub unrefused : refusal image partition ≡ 0 → SoundMeans image × (header_number image ≡ partition)
    unrefused q = (told-as q).0

  -- of an image that 1, 2, 4 and 5 let pass, a call is refused before 6 exactly where it names another number
  pub tested-refusal : SoundMeans image → (partition : ℕ) → refusal image partition ≡ row 3 (not (eqb (header_number image) partition)) 0
  unfolding refusal length_row header_rows sequence_row
  tested-refusal m partition =
      rw (is_right_lem says-1 m.legal_size_lem, is_right_lem says-2 m.right_magic, is_right_lem says-4 m.right_version, is_right_lem says-5 m.in_sequence)
      (by-test (says-3 partition) (λ t w. rw t) λ t r. rw t)
