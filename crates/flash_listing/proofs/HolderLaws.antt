-- The blocks that are kept where no number has a mark are the holders, as many as the live numbers. Assumes nothing.
use Prim.Native.Nat.{ℕ, zero, suc, ◌+◌, ◌≤◌, ◌<◌}
use mathlib.Core.Path.{◌≡◌, refl, sym, ap, ◌∙◌}
use mathlib.Core.Bool.{Bool, true, false, cond, ◌&&◌, true≢false}
use mathlib.Core.List.{List, [], ◌∷◌, map}
use native.Mathlib.Omega.{arith}
use lib.Dec.{eqb}
use lib.ListN.{length, get_or, length-map}
use borrow.Author.Tests.{lt-leb}
use Rattle.words.specs.Lists.{keep, numbers_from}
use Rattle.flash_model.specs.Measures.{capacity, user_blocks}
use Rattle.flash_model.specs.UserBlock.{number}
use Rattle.flash_model.specs.Partition.{block_at, used, live}
use Rattle.flash_model.specs.Update.{is_holder, holders}
use Rattle.flash_model.proofs.SoundLaws.{allocated-used, sound-measured}
use Rattle.flash_model.proofs.HolderLaws.{is-holder-at}
use Rattle.flash_model.proofs.RoomLaws.{live-holders}
use Rattle.flash_partition.specs.Usable.{Usable}
use Rattle.flash_partition.specs.declared.opened.OpenedLog.{OpenedLog}
use Rattle.flash_partition.proofs.UsableLaws.{count_most}
use Rattle.flash_listing.specs.BlockTests.{NoneMarked, is_kept, kept_blocks}

-- ---- tests on a range

pub keep_same : (p q : ℕ → Bool) (k n : ℕ) → ((i : ℕ) → k ≤ i → i < k + n → p i ≡ q i) → keep p (numbers_from k n) ≡ keep q (numbers_from k n)
keep_same p q k zero h = refl
keep_same p q k (suc n) h =
    rw (h k (omega arith) (omega arith), keep_same p q (suc k) n (λ i a b. h i (omega arith) (omega arith)))

-- nothing passes from some number on
keep-below : (p : ℕ → Bool) (k u n : ℕ) → u ≤ n → ((i : ℕ) → k + u ≤ i → i < k + n → p i ≡ false) → keep p (numbers_from k n) ≡ keep p (numbers_from k u)
keep-below p k zero zero h f = refl
keep-below p k zero (suc n) h f = rw (f k (omega arith) (omega arith)) (keep-below p (suc k) 0 n (omega arith) (λ i a b. f i (omega arith) (omega arith)))
keep-below p k (suc u) zero h f = absurd (omega arith)
keep-below p k (suc u) (suc n) h f = rw (keep-below p (suc k) u n (omega arith) (λ i a b. f i (omega arith) (omega arith)))

keep-keep : (p q : ℕ → Bool) (l : List ℕ) → keep q (keep p l) ≡ keep (λ x. p x && q x) l
keep-keep p q [] = refl
keep-keep p q (x ∷ l) = go (keep-keep p q l) (p x)
  where
    go : keep q (keep p l) ≡ keep (λ x. p x && q x) l → (t : Bool) → keep q (cond t (x ∷ keep p l) (keep p l)) ≡ cond (t && q x) (x ∷ keep (λ x. p x && q x) l) (keep (λ x. p x && q x) l)
    go ih true = rw ih
    go ih false = ih

keep_all : (l : List ℕ) → keep (λ k. true) l ≡ l
keep_all [] = refl
keep_all (x ∷ l) = rw (keep_all l)

-- ---- the holders

module _ {image : List ℕ} {log : OpenedLog} (u : Usable image log) where
  -- no block above the used ones is a holder
  unused-holder : (k : ℕ) → log.used < k → k ≤ capacity (length image) → is_holder image k ≡ false
  unused-holder k lo hi = go (is_holder image k) refl
    where
      go : (t : Bool) → is_holder image k ≡ t → t ≡ false
      go false e = refl
      go true e =
          let a = (is-holder-at image k e).here.is_allocated in
          absurd (true≢false (sym a ∙ allocated-used image u.is_sound k (omega (arith, lo)) hi ∙ lt-leb k (used image) (omega (arith, lo, u.used_is))))

  used-holders : keep (is_holder image) (user_blocks (length image)) ≡ keep (is_holder image) (numbers_from 1 log.used)
  unfolding user_blocks
  used-holders =
      keep-below (is_holder image) 1 log.used (capacity (length image)) (omega (arith, count_most u, ap capacity u.has_size))
      (λ i a b. unused-holder i (omega (arith, a)) (omega (arith, b)))

  -- a test of the holders that are kept with these marks
  pub kept_by : (marks : List ℕ) (q : ℕ → Bool) → ((k : ℕ) → eqb (get_or marks (number (block_at image k)) 0) 0 ≡ q k)
      → kept_blocks marks image log.used ≡ keep q (keep (is_holder image) (user_blocks (length image)))
  unfolding kept_blocks is_kept
  kept_by marks q e =
      keep_same (is_kept marks image) (λ k. is_holder image k && q k) 1 log.used (λ k a b. rw (e k))
      ∙ sym (keep-keep (is_holder image) q (numbers_from 1 log.used)) ∙ ap (keep q) (sym used-holders)

  module _ (marks : List ℕ) (unmarked : NoneMarked marks) where
    pub kept-holders : map (block_at image) (kept_blocks marks image log.used) ≡ holders image
    unfolding holders
    kept-holders = ap (map (block_at image)) (kept_by marks (λ k. true) (λ k. rw (unmarked (number (block_at image k)))) ∙ keep_all (keep (is_holder image) (user_blocks (length image))))

    pub kept-live : length (kept_blocks marks image log.used) ≡ live image
    kept-live =
        sym (length-map (kept_blocks marks image log.used) (block_at image)) ∙ ap (λ (l : List (List ℕ)). length l) kept-holders
        ∙ sym (live-holders image (sound-measured image u.is_sound))
