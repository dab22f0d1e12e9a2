-- The kept ones of the blocks that a pass has before it, and the list of those that it has passed. Assumes nothing.
use Prim.Native.Nat.{ℕ, zero, suc, ◌+◌, ◌-◌, ◌≤◌, ◌<◌}
use mathlib.Core.Path.{◌≡◌, refl, sym, ap, ◌∙◌}
use mathlib.Core.Bool.{Bool, true, false, cond}
use mathlib.Core.List.{List, [], ◌∷◌, ◌++◌, append_assoc, append-nil}
use native.Mathlib.Omega.{arith}
use native.Mathlib.Nat.{sub-zero}
use lib.ListN.{length, set, drop, replicate, length-set, length-append, length-replicate}
use lib.Seq.{drop-length, drop-set-lt}
use Rattle.std.proofs.lemmas.List.{drop-set}
use Rattle.words.specs.Lists.{keep, numbers_from}
use Rattle.flash_model.specs.Measures.{capacity}
use Rattle.flash_model.specs.UserBlock.{number}
use Rattle.flash_model.specs.Partition.{block_at}
use Rattle.flash_listing.specs.BlockTests.{is_new, mark, is_kept, kept_blocks}
use Rattle.flash_listing.specs.Passing.{PassAt, PassedTo, Passed, left_and_listed, MarksAdded}
use Rattle.flash_listing.specs.declared.Progress.{Progress}
use Rattle.flash_partition.specs.declared.opened.Partition.{Partition}
use Rattle.flash_listing.proofs.LeftLaws.{added_none, added_then, grown-none, grown-then, grown-stored}
use Rattle.flash_listing.proofs.MarkLaws.{passed-at, passed-kept, marked-at, marks-added, marked-kept, marked-below}
use Rattle.flash_listing.proofs.HolderLaws.{keep_same}

-- ---- one block fewer is left

keep-last : (p : ℕ → Bool) (k n : ℕ) → keep p (numbers_from k (suc n)) ≡ keep p (numbers_from k n) ++ keep p ((k + n) ∷ [])
keep-last p k zero = ap (λ (i : ℕ). keep p (i ∷ [])) (omega arith)
keep-last p k (suc n) = go (keep-last p (suc k) n ∙ ap (λ (i : ℕ). keep p (numbers_from (suc k) n) ++ keep p (i ∷ [])) (omega arith)) (p k)
  where
    go : keep p (numbers_from (suc k) (suc n)) ≡ keep p (numbers_from (suc k) n) ++ keep p ((k + suc n) ∷ []) → (t : Bool)
        → cond t (k ∷ keep p (numbers_from (suc k) (suc n))) (keep p (numbers_from (suc k) (suc n)))
        ≡ cond t (k ∷ keep p (numbers_from (suc k) n)) (keep p (numbers_from (suc k) n)) ++ keep p ((k + suc n) ∷ [])
    go ih true = ap (λ (l : List ℕ). k ∷ l) ih
    go ih false = ih

-- marks may change, if the same blocks below k are kept
kept-split : (marks marks' image : List ℕ) (k r : ℕ) → 1 ≤ k → ((j : ℕ) → j < k → is_kept marks image j ≡ is_kept marks' image j) → r ≡ cond (is_kept marks image k) 1 0
    → kept_blocks marks image k ≡ kept_blocks marks' image (k - 1) ++ replicate r k
unfolding kept_blocks
kept-split marks marks' image zero r low same e = absurd (omega arith)
kept-split marks marks' image (suc k) r low same e =
    let here : 1 + k ≡ suc k = omega arith in
    let back : k ≡ suc k - 1 = omega arith in
    keep-last (is_kept marks image) 1 k
    ∙ rw (here, e, keep_same (is_kept marks image) (is_kept marks' image) 1 k (λ i lo hi. same i (omega arith))) (go (is_kept marks image (suc k)))
    ∙ ap (λ (i : ℕ). keep (is_kept marks' image) (numbers_from 1 i) ++ replicate r (suc k)) back
  where
    go : (t : Bool) → keep (is_kept marks' image) (numbers_from 1 k) ++ cond t (suc k ∷ []) [] ≡ keep (is_kept marks' image) (numbers_from 1 k) ++ replicate (cond t 1 0) (suc k)
    go true = refl
    go false = refl

module _ {marks : List ℕ} {p : Partition} {k : ℕ} (low : 1 ≤ k) (f : PassAt marks p k) {part : List ℕ} {i end : ℕ} (is-k : i ≡ k) (at-i : part ≡ block_at p.image.now i) (c : end ≡ capacity p.log.m.size) where
  q : part ≡ block_at p.image.now k
  q = at-i ∙ ap (block_at p.image.now) is-k

  pub known-next : is_new end part marks ≡ false → PassedTo marks p k (k - 1)
  known-next e =
      let here : is_new (capacity p.log.m.size) (block_at p.image.now k) marks ≡ false = rw (sym q, sym c) e in
      record {
        pass_at = passed-at low f here;
        no_higher = omega arith;
        same_left = sym (kept-split marks marks p.image.now k 0 low (λ j h. refl) (rw (passed-kept low f here)) ∙ append-nil (kept_blocks marks p.image.now (k - 1)));
      }

  pub marked_next : {marks' : List ℕ} {r : ℕ} → is_new end part marks ≡ true → r ≡ mark part → marks' ≡ set marks (number part) r
      → PassAt marks' p (k - 1) × (kept_blocks marks p.image.now k ≡ kept_blocks marks' p.image.now (k - 1) ++ replicate r k) × MarksAdded p.image.now marks marks'
  marked_next e m a =
      let image = p.image.now in
      let here : is_new (capacity p.log.m.size) (block_at image k) marks ≡ true = rw (sym q, sym c) e in
      rw (a, m, q) (
        marked-at low f here,
        kept-split marks (set marks (number (block_at image k)) (mark (block_at image k))) image k (mark (block_at image k)) low
            (marked-below low f here) (marked-kept low f here),
        marks-added low f here,
      )

-- ---- the count and the list

module _ (marks marks' image : List ℕ) (k count r : ℕ) (split : kept_blocks marks image k ≡ kept_blocks marks' image (k - 1) ++ replicate r k) where
  pub marked-counted : count + r + length (kept_blocks marks' image (k - 1)) ≡ count + length (kept_blocks marks image k)
  marked-counted = omega (arith, ap length split, length-append (kept_blocks marks' image (k - 1)) (replicate r k), length-replicate r k)

  -- the block is stored in front of the list, and is part of it if it counts
  pub marked-listed : (kept : List ℕ) → 1 ≤ k → count + k ≤ length kept → r ≤ 1
      → left_and_listed marks' image (k - 1) (count + r) (set kept (length kept - count - 1) k) ≡ left_and_listed marks image k count kept
  unfolding left_and_listed
  marked-listed kept low fits most =
      rw (length-set kept (length kept - count - 1) k, split, append_assoc) (ap (λ (l : List ℕ). kept_blocks marks' image (k - 1) ++ l) (go r most))
    where
      go : (r : ℕ) → r ≤ 1 → drop (length kept - (count + r)) (set kept (length kept - count - 1) k) ≡ replicate r k ++ drop (length kept - count) kept
      go zero h =
          let a : length kept - (count + 0) ≡ length kept - count = omega arith in
          rw a (drop-set-lt (length kept - count) kept (length kept - count - 1) k (omega arith))
      go (suc zero) h =
          let a : length kept - (count + 1) ≡ length kept - count - 1 = omega arith in
          let c : length kept - count - 1 + 1 ≡ length kept - count = omega arith in
          rw a (drop-set kept (length kept - count - 1) k (omega arith) ∙ rw c)
      go (suc (suc r)) h = absurd (omega arith)

pub none_left : (marks image : List ℕ) → length (kept_blocks marks image 0) ≡ 0
unfolding kept_blocks
none_left marks image = refl

module _ (marks image kept : List ℕ) where
  pub listed-first : (k : ℕ) → left_and_listed marks image k 0 kept ≡ kept_blocks marks image k
  unfolding left_and_listed
  listed-first k = rw (sub-zero, drop-length kept) (append-nil (kept_blocks marks image k))

  pub listed-all : (count : ℕ) → left_and_listed marks image 0 count kept ≡ drop (length kept - count) kept
  unfolding left_and_listed kept_blocks
  listed-all count = refl

-- ---- the pass

pub known-then : {marks : List ℕ} {p : Partition} {a b d : ℕ} → PassedTo marks p a b → PassedTo marks p b d → PassedTo marks p a d
known-then x y = record { pass_at = y.pass_at; no_higher = omega (arith, x.no_higher, y.no_higher); same_left = y.same_left ∙ x.same_left }

module _ {listed : Bool} {p : Partition} where
  pub passed-start : (marks kept : List ℕ) (from : Progress) → PassAt marks p from.at → Passed listed p marks kept from marks kept from
  passed-start marks kept from f = record {
    pass_at = f;
    no_higher = omega arith;
    room = omega arith;
    counted = refl;
    added = added_none p.image.now marks;
    same_length = refl;
    left = λ e. refl;
    grown = λ e. grown-none from.count kept;
  }

  module _ {marks₁ kept₁ marks₂ kept₂ : List ℕ} {from to : Progress} (x : Passed listed p marks₁ kept₁ from marks₂ kept₂ to) where
    pub passed-then : {marks₃ kept₃ : List ℕ} {end : Progress} → Passed listed p marks₂ kept₂ to marks₃ kept₃ end → Passed listed p marks₁ kept₁ from marks₃ kept₃ end
    passed-then y = record {
      pass_at = y.pass_at;
      no_higher = omega (arith, x.no_higher, y.no_higher);
      room = omega (arith, x.room, y.room);
      counted = y.counted ∙ x.counted;
      added = added_then x.added y.added;
      same_length = y.same_length ∙ x.same_length;
      left = λ e. y.left e ∙ x.left e;
      grown = λ e. grown-then (x.grown e) (y.grown e) x.same_length;
    }

    -- blocks that are not new
    pub passed-known : {at : ℕ} → PassedTo marks₂ p to.at at → Passed listed p marks₁ kept₁ from marks₂ kept₂ (record { at = at; count = to.count })
    unfolding left_and_listed
    passed-known y = record {
      pass_at = y.pass_at;
      no_higher = omega (arith, x.no_higher, y.no_higher);
      room = omega (arith, x.room, y.no_higher);
      counted = omega (arith, ap length y.same_left, x.counted);
      added = x.added;
      same_length = x.same_length;
      left = λ e. rw y.same_left (x.left e);
      grown = x.grown;
    }

    -- one that is, and is stored if blocks are listed
    pub passed-marked : {part marks' kept' : List ℕ} {i end r : ℕ} → 1 ≤ to.at → i ≡ to.at → part ≡ block_at p.image.now i → end ≡ capacity p.log.m.size
        → is_new end part marks₂ ≡ true → (r ≡ mark part) × (r ≤ 1) → marks' ≡ set marks₂ (number part) r
        → from.count + from.at ≤ capacity p.log.m.size → (listed ≡ true → capacity p.log.m.size ≤ length kept₁)
        → (listed ≡ true → kept' ≡ set kept₂ (length kept₂ - to.count - 1) i) → length kept' ≡ length kept₂
        → Passed listed p marks₁ kept₁ from marks' kept' (record { at = to.at - 1; count = to.count + r })
    passed-marked {part} {marks'} {kept'} {i} {end} {r} low is-k q c e m a few fits stored long =
        let s = marked_next low x.pass_at is-k q c e m.0 a in
        record {
          pass_at = s.0;
          no_higher = omega (arith, x.no_higher);
          room = omega (arith, m.1, x.room, low);
          counted = marked-counted marks₂ marks' p.image.now to.at to.count r s.1 ∙ x.counted;
          added = added_then x.added s.2;
          same_length = long ∙ x.same_length;
          left = λ l. rw (stored l, is-k) (marked-listed marks₂ marks' p.image.now to.at to.count r s.1 kept₂ low (omega (arith, x.room, few, fits l, x.same_length)) m.1 ∙ x.left l);
          grown = λ l. rw (stored l, is-k) (grown-then (x.grown l) (grown-stored to.count r to.at kept₂) x.same_length);
        }
