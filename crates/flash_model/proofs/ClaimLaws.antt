-- A claim's saves are done, one after the other. Assumes nothing.
use Prim.Native.Nat.{ℕ, ◌≤◌}
use mathlib.Core.Path.{◌≡◌, refl, sym, ap, subst, ◌∙◌}
use mathlib.Core.Bool.{Bool, true, false, not, cond, ◌||◌}
use mathlib.Core.List.{List, [], ◌∷◌, ◌++◌}
use Rattle.std.specs.Prelude.{Option, None, Some}
use mathlib.Core.Logic.{◌⊎◌, inl, inr}
use native.Mathlib.Omega.{arith}
use lib.Dec.{eqb}
use lib.ListN.{length}
use borrow.Author.Tests.{eqb-true, ne_eqb, not-false}
use Rattle.words.specs.Lists.{is_some}
use Rattle.words.proofs.Bools.{or-false-left, or-false-right}
use Rattle.words.proofs.SearchLaws.{IsLowest, lowest-some}
use Rattle.flash_model.specs.Measures.{top_number}
use Rattle.flash_model.specs.Partition.{row, refusal, Sound, contents}
use Rattle.flash_model.specs.Slots.{slot_count, slot_number, right_header, product_of, valid_slot, product_slot, free_slot, claimed_slot, written_slot, page_bytes, slot_refusal}
use Rattle.flash_model.specs.Calls.{PageCall, claim_rows, code_of, accepted, after_page, saves_at, calls_made, reply_to, after}
use Rattle.flash_model.specs.Calls.{PageCall.save, CompoundCall.claim, Call.on_page, Call.on_pages}
use Rattle.flash_model.specs.PageStore.{expected_page}
use Rattle.flash_model.specs.Runs.{counts_as, answered_pages}
use Rattle.flash_model.specs.Demands.{Keeps}
use Rattle.flash_model.specs.SlotDemands.{AllDone}
use Rattle.flash_model.proofs.SoundLaws.{unrefused-sound, header-number}
use Rattle.flash_model.proofs.SlotLaws.{SlotOpen, slot-open, slot-legal}
use Rattle.flash_model.proofs.MeaningLaws.{contents-length}
use Rattle.flash_model.proofs.RowLaws.{first-zero, row_zero}
use Rattle.flash_model.proofs.RefusalLaws.{unrefused}
use Rattle.flash_model.proofs.CodeLaws.{save-rows, save_codes}
use Rattle.flash_model.proofs.StoreLaws.{after-done, page-keeps, rows-contents}

-- ---- a save with what stands there

pub seen-is : (o : Option (List ℕ)) → ((page : List ℕ) → o ≡ Some page → length page ≡ 60)
    → (expected_page (page_bytes o) ≡ o) × ((length (page_bytes o) ≡ 0) ⊎ (length (page_bytes o) ≡ 60))
seen-is None long = (refl, inl refl)
seen-is (Some []) long = absurd (omega (arith, long [] refl))
seen-is (Some (x ∷ xs)) long = (refl, inr (long (x ∷ xs) refl))

-- is done
pub seen-save : (image : List ℕ) (partition n : ℕ) (page : List ℕ) → refusal image partition ≡ 0 → n ≤ top_number (length image) → length page ≡ 60
    → code_of image (on_page (save partition n (page_bytes (contents image n)) page)) ≡ 0
seen-save image partition n page r legal l =
    let w = seen-is (contents image n) (λ q e. contents-length image (unrefused-sound image partition r) n q e) in
    (save_codes image partition n (page_bytes (contents image n)) page r).row_0.1 (legal, (l, w.1), w.0)

pub page-after : (image : List ℕ) (p : PageCall) → after image (on_page p) ≡ after_page image p
unfolding after accepted code_of after_page
page-after image p = refl

-- ---- the slot that a claim writes

pub slot-count : slot_count ≡ 100
unfolding slot_count
slot-count = refl

pub written-free : (image header : List ℕ) (slot : ℕ) → written_slot image header ≡ Some slot → (product_slot image (product_of header) ≡ None) × (free_slot image ≡ Some slot)
unfolding written_slot
written-free image header slot e = go (product_slot image (product_of header)) refl e
  where
    go : (o : Option ℕ) → product_slot image (product_of header) ≡ o → cond (is_some o) None (free_slot image) ≡ Some slot
        → (product_slot image (product_of header) ≡ None) × (free_slot image ≡ Some slot)
    go None q f = (q, f)
    go (Some k) q f = let z : ◌≡◌ {A = ℕ} 0 1 = cc in absurd (omega (arith, z))

pub free-lowest : (image : List ℕ) (slot : ℕ) → free_slot image ≡ Some slot → IsLowest (λ k. not (valid_slot image k)) 0 slot_count slot
unfolding free_slot
free-lowest image slot e = lowest-some (λ k. not (valid_slot image k)) 0 slot_count slot e

pub free-most : (image : List ℕ) (slot : ℕ) → free_slot image ≡ Some slot → slot ≤ 99
free-most image slot e = omega (arith, (free-lowest image slot e).high, slot-count)

-- ---- an accepted claim

pub record AcceptedClaim (image : List ℕ) (partition : ℕ) (one other : List ℕ) : Type 0 where
  pub is_open : SlotOpen image partition
  pub one_60 : length one ≡ 60
  pub other_60 : length other ≡ 60
  pub is_right_lem : right_header (one ++ other) ≡ true
  pub is_given : is_some (claimed_slot image (one ++ other)) ≡ true

pub claim-rows : (image : List ℕ) (partition : ℕ) (one other : List ℕ) → code_of image (on_pages (claim partition one other)) ≡ 0 → AcceptedClaim image partition one other
unfolding code_of claim_rows
claim-rows image partition one other e =
    let t8 = not (eqb (length one) 60) || not (eqb (length other) 60) in
    let t41 = not (right_header (one ++ other)) in
    let t40 = not (is_some (claimed_slot image (one ++ other))) in
    let f = first-zero (slot_refusal image partition) (row 8 t8 (row 41 t41 (row 40 t40 0))) e in
    let g = row_zero 7 (row 41 t41 (row 40 t40 0)) t8 f.1 in
    let h = row_zero 40 (row 40 t40 0) t41 g.1 in
    let lengths = g.0 in
    record {
      is_open = slot-open image partition f.0;
      one_60 = eqb-true (length one) 60 (not-false (eqb (length one) 60) (or-false-left (not (eqb (length one) 60)) _ lengths));
      other_60 = eqb-true (length other) 60 (not-false (eqb (length other) 60) (or-false-right (not (eqb (length one) 60)) _ lengths));
      is_right_lem = not-false (right_header (one ++ other)) h.0;
      is_given = not-false (is_some (claimed_slot image (one ++ other))) (row_zero 39 0 t40 h.1).0;
    }

module _ (image : List ℕ) (partition : ℕ) (one other : List ℕ) (slot : ℕ) where
  abbrev pub first_save : PageCall
  first_save = save partition (slot_number slot 0) (page_bytes (contents image (slot_number slot 0))) one

  abbrev pub second_save : PageCall
  second_save = save partition (slot_number slot 1) (page_bytes (contents image (slot_number slot 1))) other

  -- the first save, and what it leaves for the second
  pub record FirstDone : Type 0 where
    pub first_done : code_of image (on_page first_save) ≡ 0
    pub unrefused_then : refusal (after_page image first_save) partition ≡ 0
    pub same_length : length (after_page image first_save) ≡ length image
    pub second_stands : contents (after_page image first_save) (slot_number slot 1) ≡ contents image (slot_number slot 1)

  pub first-saved : AcceptedClaim image partition one other → slot ≤ 99 → FirstDone
  first-saved r most = record { first_done = first-is; unrefused_then = still; same_length = kept.same_length; second_stands = same-page }
    where
      s : Sound image
      s = unrefused-sound image partition r.is_open.unrefused_1_5

      first-is : code_of image (on_page first_save) ≡ 0
      first-is =
          seen-save image partition (slot_number slot 0) one r.is_open.unrefused_1_5
          (slot-legal (length image) slot 0 r.is_open.size_is most (omega arith)) r.one_60

      apart : slot_number slot 0 ≡ slot_number slot 1 → ⊥
      apart e = unfold slot_number in omega (arith, e)

      same-page : contents (after_page image first_save) (slot_number slot 1) ≡ contents image (slot_number slot 1)
      same-page =
          ap (λ (i : List ℕ). contents i (slot_number slot 1)) (sym (page-after image first_save) ∙ after-done image (on_page first_save) first-is)
          ∙ rows-contents image s partition (slot_number slot 0) one (save-rows image partition (slot_number slot 0) (page_bytes (contents image (slot_number slot 0))) one first-is) (slot_number slot 1)
          ∙ rw (ne_eqb (slot_number slot 0) (slot_number slot 1) apart)

      kept : Keeps image (after_page image first_save)
      kept = page-keeps image s first_save

      still : refusal (after_page image first_save) partition ≡ 0
      still =
          let h = header-number image (after_page image first_save) kept.same_header in
          subst (λ (q : ℕ). refusal (after_page image first_save) q ≡ 0) (h ∙ (unrefused image partition r.is_open.unrefused_1_5).1) kept.still_sound

  -- both
  pub record BothDone : Type 0 where
    pub first_done : code_of image (on_page first_save) ≡ 0
    pub second_done : code_of (after_page image first_save) (on_page second_save) ≡ 0

  pub both-done : AcceptedClaim image partition one other → slot ≤ 99 → BothDone
  both-done r most = record { first_done = f.first_done; second_done = second_is }
    where
      f : FirstDone
      f = first-saved r most

      second_is : code_of (after_page image first_save) (on_page second_save) ≡ 0
      second_is =
          subst (λ (o : Option (List ℕ)). code_of (after_page image first_save) (on_page (save partition (slot_number slot 1) (page_bytes o) other)) ≡ 0) f.second_stands
          (seen-save (after_page image first_save) partition (slot_number slot 1) other f.unrefused_then
          (slot-legal (length (after_page image first_save)) slot 1 (f.same_length ∙ r.is_open.size_is) most (omega arith)) r.other_60)

-- the saves that a claim counts as are done
pub claim_done : (image : List ℕ) (partition : ℕ) (one other : List ℕ) → AllDone (answered_pages image (counts_as image (on_pages (claim partition one other))))
unfolding accepted calls_made reply_to
claim_done image partition one other = go (eqb (code_of image (on_pages (claim partition one other))) 0) refl
  where
    saves : code_of image (on_pages (claim partition one other)) ≡ 0 → (o : Option ℕ) → written_slot image (one ++ other) ≡ o
        → AllDone (answered_pages image (saves_at image partition one other o))
    saves e None q = tt
    saves e (Some slot) q =
        let d = both-done image partition one other slot (claim-rows image partition one other e) (free-most image slot (written-free image (one ++ other) slot q).1) in
        (d.first_done, (d.second_done, tt))

    go : (t : Bool) → eqb (code_of image (on_pages (claim partition one other))) 0 ≡ t
        → AllDone (answered_pages image (cond t (saves_at image partition one other (written_slot image (one ++ other))) []))
    go true e = saves (eqb-true (code_of image (on_pages (claim partition one other))) 0 e) (written_slot image (one ++ other)) refl
    go false e = tt
