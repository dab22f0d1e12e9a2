-- How an image is opened, for each `return` of the function. Assumes nothing.
use Prim.Native.Nat.{ℕ, ◌-◌, ◌≤◌}
use mathlib.Core.Path.{◌≡◌, refl, sym, ap, ◌∙◌}
use mathlib.Core.Bool.{Bool, true, false, not, true≢false}
use mathlib.Core.List.{List}
use Rattle.std.specs.Prelude.{None, Some}
use native.Mathlib.Omega.{arith}
use native.Mathlib.Decide.{dec_le}
use lib.Dec.{leb}
use lib.ListN.{length}
use borrow.Author.Tests.{le-leb, lt-leb, not-true, not-false}
use Rattle.words.proofs.SearchLaws.{IsLowest, lowest-some, lowest-none}
use Rattle.flash_model.specs.Measures.{legal_size, first_bitmap, capacity}
use Rattle.flash_model.specs.Bitmap.{out_of_sequence, lowest_free_in}
use Rattle.flash_model.specs.Partition.{bitmap_of, allocated, lowest_free, length_row, header_rows, sequence_row, refusal, used}
use Rattle.flash_model.proofs.MeasureLaws.{Measured, measures-of}
use Rattle.flash_model.proofs.SequenceLaws.{UpTo, up-to-one, passes-below}
use Rattle.flash_model.proofs.RowLaws.{first-zero, first-assoc}
use Rattle.flash_model.proofs.ErrorLaws.{error_first, passed_first}
use Rattle.flash_model.specs.Errors.{error_number}
use Rattle.flash_model.specs.declared.FlashError.{FlashError}
use Rattle.flash_model.proofs.RefusalLaws.{length-legal}
use Rattle.flash_model.proofs.SoundLaws.{unrefused-sound, used_most, order-used, up-to-order}
use Rattle.flash_measures.specs.HasMeasures.{HasMeasures}
use Rattle.flash_bitmap.specs.Found.{lowest_allocated}
use Rattle.flash_measures.specs.declared.Measures.{Measures}
use Rattle.flash_partition.specs.OpenAnswers.{header_refusal}
use Rattle.flash_partition.specs.Usable.{Usable}
use Rattle.flash_partition.specs.declared.opened.OpenedLog.{OpenedLog}

module _ (image : List ℕ) (partition : ℕ) where
  -- the image is not refused, and the log is of it
  pub record PastOpening (log : OpenedLog) : Type 0 where
    pub unrefused : 0 ≡ refusal image partition
    pub is_usable : Usable image log

  pub open-refused : (e : FlashError) → error_number e ≡ header_refusal image partition → error_number e ≡ refusal image partition
  unfolding refusal header_refusal
  open-refused e q =
      sym (first-assoc (length_row image) (header_rows image partition) (sequence_row image) ∙ error_first e (header_refusal image partition) (sequence_row image) q)

  module _ (passed : 0 ≡ header_refusal image partition) where
    rest-is : refusal image partition ≡ sequence_row image
    unfolding refusal header_refusal
    rest-is = first-assoc (length_row image) (header_rows image partition) (sequence_row image) ∙ passed_first (header_refusal image partition) (sequence_row image) passed

    open-legal : legal_size (length image) ≡ true
    unfolding header_refusal
    open-legal = length-legal image (first-zero (length_row image) (header_rows image partition) (sym passed)).0

    pub open-has : (size : ℕ) → size ≡ length image → HasMeasures image size
    open-has size e = record { has_size = sym e; is_legal = rw e open-legal }

    -- ---- the sequence, where the blocks up to n are allocated and no other

    open-measured : Measured (length image)
    open-measured = measures-of (length image) open-legal

    cap : ℕ
    cap = capacity (length image)

    whole : (m : Measures) → m.size ≡ length image → (n : ℕ) → n ≤ cap → UpTo (allocated image) cap n → PastOpening (record { m = m; used = n })
    unfolding sequence_row cap
    whole m s n h b =
        let order = up-to-order image n b in
        let count : used image ≡ n = up-to-one (allocated image) cap (used image) n (order-used image order) b (used_most image) h in
        let r : refusal image partition ≡ 0 = rest-is ∙ rw order in
        record { unrefused = sym r; is_usable = record { has_size = sym s; is_sound = unrefused-sound image partition r; used_is = sym count } }

    -- no block is free
    pub open_full : lowest_free image ≡ None → (m : Measures) → m.size ≡ length image → (n : ℕ) → n ≡ capacity m.size → PastOpening (record { m = m; used = n })
    unfolding lowest_free lowest_free_in allocated cap
    open_full e m s n f =
        let all : n ≡ cap = f ∙ ap capacity s in
        whole m s n (omega arith) (λ k lo hi. not-false (allocated image k) (lowest-none (λ j. not (allocated image j)) 1 cap e k lo (omega arith)) ∙ sym (le-leb k n (omega arith)))

    -- block k is the lowest free one
    module _ (k : ℕ) (e : lowest_free image ≡ Some k) where
      free-first : IsLowest (λ j. not (allocated image j)) 1 cap k
      unfolding lowest_free lowest_free_in allocated cap
      free-first = lowest-some (λ j. not (allocated image j)) 1 cap k e

      pub free-low : 1 ≤ k
      free-low = free-first.low

      pub open-gap : (j : ℕ) → lowest_allocated image k ≡ Some j → 5 ≡ refusal image partition
      unfolding sequence_row lowest_allocated cap
      open-gap j f = go (out_of_sequence (bitmap_of image) (capacity (length image))) refl
        where
          behind : IsLowest (allocated image) k (first_bitmap (length image) - k) j
          behind = lowest-some (allocated image) k (first_bitmap (length image) - k) j f

          go : (t : Bool) → out_of_sequence (bitmap_of image) (capacity (length image)) ≡ t → 5 ≡ refusal image partition
          go true q =
              let r : refusal image partition ≡ 5 = rest-is ∙ rw q in
              sym r
          go false q =
              let free = not-true (allocated image k) free-first.passes in
              let other : j ≡ k → ⊥ = λ z. true≢false (sym behind.passes ∙ ap (allocated image) z ∙ free) in
              let below = passes-below (allocated image) cap (used image) (order-used image q) k j free-low (omega (arith, behind.low, other)) (omega (arith, behind.high, free-first.high, open-measured.first_bitmap_lem)) behind.passes in
              absurd (true≢false (sym below ∙ free))

      pub open_free : lowest_allocated image k ≡ None → (m : Measures) → m.size ≡ length image → PastOpening (record { m = m; used = k - 1 })
      unfolding lowest_allocated cap
      open_free f m s = whole m s (k - 1) (omega (arith, free-first.high)) (λ j lo hi. go j lo hi (dec_le k j))
        where
          go : (j : ℕ) → 1 ≤ j → j ≤ cap → Dec (k ≤ j) → allocated image j ≡ leb j (k - 1)
          go j lo hi (yes d) =
              lowest-none (allocated image) k (first_bitmap (length image) - k) f j d (omega (arith, hi, free-first.high, open-measured.first_bitmap_lem))
              ∙ sym (lt-leb j (k - 1) (omega (arith, d, free-low)))
          go j lo hi (no d) = not-false (allocated image j) (free-first.none_below j lo (omega (arith, d))) ∙ sym (le-leb j (k - 1) (omega (arith, d)))
