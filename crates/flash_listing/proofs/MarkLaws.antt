-- The marks of numbers as used blocks are passed, the highest first: whose numbers are marked. Assumes nothing.
use Prim.Native.Nat.{ℕ, zero, suc, ◌-◌, ◌≤◌, ◌<◌}
use mathlib.Core.Path.{◌≡◌, refl, sym, ap, subst, ◌∙◌}
use mathlib.Core.Bool.{Bool, true, false, cond, ◌&&◌, and-false, true≢false}
use mathlib.Core.List.{List}
use Rattle.std.specs.Prelude.{Some}
use mathlib.Core.Logic.{◌⊎◌, inl, inr}
use native.Mathlib.Omega.{arith}
use native.Mathlib.Decide.{ℕ_discrete}
use lib.Dec.{eqb, ltb}
use lib.ListN.{length, get_or, set, length-set}
use lib.Seq.{get_or-set_same, get_or-set_other, set-get_or}
use borrow.Author.Tests.{eq-eqb, ne_eqb, eqb-true, lt-ltb, ltb-true}
use Rattle.words.specs.Lists.{is_some}
use Rattle.words.specs.Search.{highest}
use Rattle.words.proofs.Bools.{and-true-left, and-true-right}
use Rattle.words.proofs.LoopLaws.{highest-here, highest-next}
use Rattle.flash_model.specs.Measures.{capacity}
use Rattle.flash_model.specs.UserBlock.{number, right_checksum}
use Rattle.flash_model.specs.Partition.{block_at, copy_at, holder}
use Rattle.flash_model.specs.Update.{is_at, is_holder}
use Rattle.flash_model.proofs.MeasureLaws.{legal-below}
use Rattle.flash_partition.specs.declared.opened.Partition.{Partition}
use Rattle.flash_partition.proofs.UsableLaws.{usable-measured, count_most, holder-some}
use Rattle.flash_listing.specs.BlockTests.{is_new, mark, is_kept}
use Rattle.flash_listing.specs.Passing.{PassAt, MarksAdded}

-- ---- a block that is new

pub new-below : (end : ℕ) (block marks : List ℕ) → is_new end block marks ≡ true → number block < end
unfolding is_new
new-below end block marks e = ltb-true (number block) end (and-true-left (ltb (number block) end) (eqb (get_or marks (number block) 0) 0) e)

new-free : (end : ℕ) (block marks : List ℕ) → is_new end block marks ≡ true → get_or marks (number block) 0 ≡ 0
unfolding is_new
new-free end block marks e = eqb-true (get_or marks (number block) 0) 0 (and-true-right (ltb (number block) end) (eqb (get_or marks (number block) 0) 0) e)

-- ---- the pass

pub pass-first : (marks : List ℕ) (p : Partition) → capacity p.log.m.size ≤ length marks → PassAt marks p p.log.used
pass-first marks p long = record {
  long = long;
  not_past_end = count_most p.usable;
  unmarked = λ n h z. holder-some p.usable n (legal-below p.log.m.size n (usable-measured p.usable) ∙ lt-ltb n (capacity p.log.m.size) h);
}

not-above : (p : ℕ → Bool) (i k : ℕ) → i < k → is_at (highest p i) k ≡ false
not-above p zero k h = refl
not-above p (suc i) k h = go (not-above p i k (omega arith)) (p (suc i))
  where
    go : is_at (highest p i) k ≡ false → (t : Bool) → is_at (cond t (Some (suc i)) (highest p i)) k ≡ false
    go ih true = ne_eqb (suc i) k (λ e. omega (arith, e, h))
    go ih false = ih

-- a number that is past the top has no contents
not-holder : (p : Partition) (k : ℕ) → ltb (number (block_at p.image.now k)) (capacity p.log.m.size) ≡ false → is_holder p.image.now k ≡ false
unfolding is_holder holder
not-holder p k t =
    rw (p.usable.has_size, legal-below p.log.m.size (number (block_at p.image.now k)) (usable-measured p.usable), t)

module _ {marks : List ℕ} {p : Partition} {k : ℕ} (low : 1 ≤ k) (f : PassAt marks p k) where
  abbrev image : List ℕ
  image = p.image.now

  abbrev end : ℕ
  end = capacity p.log.m.size

  abbrev b : ℕ
  b = number (block_at image k)

  held_next : (n : ℕ) → copy_at image n k ≡ false → highest (copy_at image n) k ≡ highest (copy_at image n) (k - 1)
  held_next n m = highest-next (copy_at image n) k low m

  -- ---- a block that is not new

  -- no number without a mark has the block
  pass-below : ((n : ℕ) → n < end → get_or marks n 0 ≡ 0 → copy_at image n k ≡ false) → PassAt marks p (k - 1)
  pass-below none-new = record {
    long = f.long;
    not_past_end = omega (arith, f.not_past_end);
    unmarked = λ n h z. f.unmarked n h z ∙ held_next n (none-new n h z);
  }

  pub passed-wrong : right_checksum (block_at image k) ≡ false → PassAt marks p (k - 1)
  passed-wrong wrong = pass-below (λ n h z. rw wrong (and-false (eqb b n)))

  pub passed-at : is_new end (block_at image k) marks ≡ false → PassAt marks p (k - 1)
  unfolding is_new
  passed-at e = pass-below (λ n h free. rw (ne_eqb b n (λ q. true≢false (sym (new n h free q) ∙ e))))
    where
      new : (n : ℕ) → n < end → get_or marks n 0 ≡ 0 → b ≡ n → (ltb b end && eqb (get_or marks b 0) 0) ≡ true
      new n h free q = rw (q, lt-ltb n end h, free)

  pub passed-kept : is_new end (block_at image k) marks ≡ false → is_kept marks image k ≡ false
  unfolding is_new is_kept
  passed-kept e = go (ltb b end) refl e
    where
      go : (t : Bool) → ltb b end ≡ t → (t && eqb (get_or marks b 0) 0) ≡ false → (is_holder image k && eqb (get_or marks b 0) 0) ≡ false
      go false t e = rw (not-holder p k t)
      go true t e = rw e (and-false (is_holder image k))

  -- ---- a block that is new

  module _ (e : is_new end (block_at image k) marks ≡ true) where
    below : b < end
    below = new-below end (block_at image k) marks e

    free : get_or marks b 0 ≡ 0
    free = new-free end (block_at image k) marks e

    pub held-here : right_checksum (block_at image k) ≡ true → holder image b ≡ Some k
    held-here right = f.unmarked b below free ∙ highest-here (copy_at image b) k low (rw (eq-eqb b b refl, right))

    -- with a wrong checksum the 0 stored changes nothing
    same-marks : right_checksum (block_at image k) ≡ false → marks ≡ set marks b (mark (block_at image k))
    unfolding mark
    same-marks wrong = rw wrong (sym (ap (set marks b) (sym free) ∙ set-get_or marks b 0))

    -- any mark but 0
    pub stored : (v : ℕ) → 1 ≤ v → right_checksum (block_at image k) ≡ true → PassAt (set marks b v) p (k - 1)
    stored v some-mark right = record {
      long = omega (arith, f.long, length-set marks b v);
      not_past_end = omega (arith, f.not_past_end);
      unmarked = λ n h z. f.unmarked n h (free-before n z) ∙ held_next n (rw (ne_eqb b n (λ q. marked n (sym q) z)));
    }
      where
        marked : (n : ℕ) → n ≡ b → get_or (set marks b v) n 0 ≡ 0 → ⊥
        marked n q z = omega (arith, rw q at z, get_or-set_same marks b v 0 (omega (arith, below, f.long)), some-mark)

        free-before : (n : ℕ) → get_or (set marks b v) n 0 ≡ 0 → get_or marks n 0 ≡ 0
        free-before n z = sym (get_or-set_other marks b n v 0 (λ q. marked n q z)) ∙ z

    pub marked-at : PassAt (set marks b (mark (block_at image k))) p (k - 1)
    unfolding mark
    marked-at = go (right_checksum (block_at image k)) refl
      where
        go : (t : Bool) → right_checksum (block_at image k) ≡ t → PassAt (set marks b (mark (block_at image k))) p (k - 1)
        go true right = rw right (stored 1 (omega arith) right)
        go false wrong = subst (λ (a : List ℕ). PassAt a p (k - 1)) (same-marks wrong) (passed-wrong wrong)

    pub marks-added : MarksAdded image marks (set marks b (mark (block_at image k)))
    unfolding mark
    marks-added = record { each = λ n. go (right_checksum (block_at image k)) refl n (ℕ_discrete n b) }
      where
        go : (t : Bool) → right_checksum (block_at image k) ≡ t → (n : ℕ) → Dec (n ≡ b)
            → (get_or (set marks b (cond t 1 0)) n 0 ≡ get_or marks n 0) ⊎ ((get_or marks n 0 ≡ 0) × ((get_or (set marks b (cond t 1 0)) n 0 ≡ 1) × (is_some (holder image n) ≡ true)))
        go true right n (yes q) = inr (rw q (free, (get_or-set_same marks b 1 0 (omega (arith, below, f.long)), ap is_some (held-here right))))
        go false wrong n (yes q) = inl (rw q (get_or-set_same marks b 0 0 (omega (arith, below, f.long)) ∙ sym free))
        go t right n (no d) = inl (get_or-set_other marks b n (cond t 1 0) 0 d)

    -- it is kept if its checksum is right
    pub marked-kept : mark (block_at image k) ≡ cond (is_kept marks image k) 1 0
    unfolding mark is_kept is_holder
    marked-kept = rw free (go (right_checksum (block_at image k)) refl)
      where
        go : (t : Bool) → right_checksum (block_at image k) ≡ t → ◌≡◌ {A = ℕ} (cond t 1 0) (cond (is_at (holder image b) k && true) 1 0)
        go true right = rw (held-here right, eq-eqb k k refl)
        go false wrong =
            let next : holder image b ≡ highest (copy_at image b) (k - 1) = f.unmarked b below free ∙ held_next b (rw wrong (and-false (eqb b b))) in
            rw (next, not-above (copy_at image b) (k - 1) k (omega arith))

    -- and of the blocks below it the same are kept as before
    pub marked-below : (j : ℕ) → j < k → is_kept marks image j ≡ is_kept (set marks b (mark (block_at image k))) image j
    unfolding is_kept is_holder
    marked-below j h = go (right_checksum (block_at image k)) refl (ℕ_discrete (number (block_at image j)) b)
      where
        go : (t : Bool) → right_checksum (block_at image k) ≡ t → Dec (number (block_at image j) ≡ b) → is_kept marks image j ≡ is_kept (set marks b (mark (block_at image k))) image j
        go false wrong d = ap (λ (a : List ℕ). is_kept a image j) (same-marks wrong)
        go true right (no d) = rw (get_or-set_other marks b (number (block_at image j)) (mark (block_at image k)) 0 d)
        go true right (yes d) = rw (d, held-here right, ne_eqb k j (λ q. omega (arith, q, h)))
