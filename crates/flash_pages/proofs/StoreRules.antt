-- Which way a save takes. Assumes nothing.
use Prim.Native.Nat.{ℕ, suc, ◌+◌, ◌≤◌, ◌<◌}
use mathlib.Core.Path.{◌≡◌, refl, sym, ap, ◌∙◌}
use mathlib.Core.Bool.{Bool, true, false, not, cond, true≢false}
use mathlib.Core.List.{List, [], ◌∷◌, ◌++◌}
use Rattle.std.specs.Prelude.{Option, None, Some}
use native.Mathlib.Omega.{arith}
use lib.ListN.{length, replicate}
use borrow.Author.Tests.{le-leb, lt-leb}
use Rattle.words.specs.Lists.{is_some}
use Rattle.words.specs.Words.{same_bytes}
use Rattle.words.proofs.SearchLaws.{lowest-is, lowest-nothing}
use Rattle.flash_model.specs.Measures.{capacity}
use Rattle.flash_model.specs.Bitmap.{allocated_in, lowest_free_in}
use Rattle.flash_model.specs.UserBlock.{new_block}
use Rattle.flash_model.specs.Partition.{block_at, bitmap_of, allocated, lowest_free, used}
use Rattle.flash_model.specs.Update.{append_block, appended, other_holders, compacted, saved_at, page_written}
use Rattle.flash_model.proofs.SoundLaws.{allocated-used}
use Rattle.flash_model.proofs.SaveLaws.{append-blank, blank-used}
use Rattle.flash_partition.specs.Usable.{Usable}
use Rattle.flash_partition.specs.declared.opened.OpenedLog.{OpenedLog}
use Rattle.flash_pages.specs.Rows.{can_append}
use native.Mathlib.Numerals.{add-one}

module _ {image : List ℕ} {log : OpenedLog} (u : Usable image log) where
  -- the block behind the used ones is free
  pub free-behind : (k : ℕ) → k ≡ suc log.used → k ≤ capacity log.m.size → allocated image k ≡ false
  free-behind k n h =
      allocated-used image u.is_sound k (omega arith) (omega (arith, h, ap capacity u.has_size)) ∙ lt-leb k (used image) (omega (arith, n, u.used_is))

  free-next : log.used < capacity log.m.size → lowest_free image ≡ Some (suc log.used)
  unfolding lowest_free lowest_free_in allocated
  free-next h =
      let cap : capacity (length image) ≡ capacity log.m.size = ap capacity u.has_size in
      lowest-is (λ j. not (allocated_in (bitmap_of image) j)) 1 (capacity (length image)) (suc log.used) (record {
        low = omega arith;
        high = omega (arith, h, cap);
        passes = ap not (free-behind (suc log.used) refl h);
        none_below = λ j a b. ap not (allocated-used image u.is_sound j a (omega (arith, b, h, cap)) ∙ le-leb j (used image) (omega (arith, b, u.used_is)));
      })

  free-none : capacity log.m.size ≤ log.used → lowest_free image ≡ None
  unfolding lowest_free lowest_free_in allocated
  free-none h =
      let cap : capacity (length image) ≡ capacity log.m.size = ap capacity u.has_size in
      lowest-nothing (λ j. not (allocated_in (bitmap_of image) j)) 1 (capacity (length image))
      (λ j a b. ap not (allocated-used image u.is_sound j a (omega (arith, b)) ∙ le-leb j (used image) (omega (arith, b, h, cap, u.used_is))))

  pub append_full : capacity log.m.size ≤ log.used → false ≡ can_append (append_block image)
  unfolding append_block
  append_full h = rw (free-none h)

  pub append_blank_block : log.used < capacity log.m.size → (same : Bool) (block : List ℕ) → block ≡ block_at image (log.used + 1) → same ≡ same_bytes block (replicate 64 255)
      → same ≡ can_append (append_block image)
  unfolding append_block
  append_blank_block h same block b e = e ∙ rw (b, add-one log.used, free-next h) (go (same_bytes (block_at image (suc log.used)) (replicate 64 255)))
    where
      go : (t : Bool) → t ≡ is_some (cond t (Some (suc log.used)) None)
      go true = refl
      go false = refl

  -- where it can append, it does so behind the used blocks
  pub record Appends : Type 0 where
    pub has_room : log.used + 1 ≤ capacity log.m.size
    pub next_free : allocated image (log.used + 1) ≡ false
    pub block_is : append_block image ≡ Some (log.used + 1)
    pub written : (n : ℕ) (page : List ℕ) → appended image (log.used + 1) (new_block n page) ≡ page_written image n page

  pub appends : {can : Bool} → can ≡ can_append (append_block image) → can ≡ true → Appends
  unfolding page_written
  appends e t = go (append_block image) refl (sym e ∙ t)
    where
      go : (o : Option ℕ) → append_block image ≡ o → can_append o ≡ true → Appends
      go None q f = absurd (true≢false (sym f))
      go (Some k) q f =
          let b = append-blank image k q in
          let d : k ≡ log.used + 1 = blank-used image u.is_sound k b ∙ ap suc (sym u.used_is) ∙ sym (add-one log.used) in
          let h : log.used + 1 ≤ capacity log.m.size = omega (arith, d, b.high, ap capacity u.has_size) in
          record { has_room = h; next_free = free-behind (log.used + 1) (add-one log.used) h; block_is = q ∙ ap (λ (i : ℕ). Some i) d; written = λ n page. rw (q, d) }

  pub written-compact : {can : Bool} → can ≡ can_append (append_block image) → can ≡ false → (n : ℕ) (page : List ℕ)
      → compacted image (other_holders image n ++ new_block n page ∷ []) ≡ page_written image n page
  unfolding page_written
  written-compact e t n page = go (append_block image) refl (sym e ∙ t)
    where
      go : (o : Option ℕ) → append_block image ≡ o → can_append o ≡ false → compacted image (other_holders image n ++ new_block n page ∷ []) ≡ saved_at image n page (append_block image)
      go None q f = rw q
      go (Some k) q f = absurd (true≢false f)
