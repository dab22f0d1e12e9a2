-- Where the contents of a number are, and what they are, from the list of the allocated blocks. Assumes nothing.
use Prim.Native.Nat.{ℕ, zero, suc, ◌≤◌, ◌<◌}
use mathlib.Core.Path.{◌≡◌, refl, sym, ap, subst, ◌∙◌}
use mathlib.Core.Bool.{Bool, true, false, not, cond, ◌&&◌, and-false, true≢false, false≢true}
use mathlib.Core.List.{List, ◌∷◌, map}
use Rattle.std.specs.Prelude.{Option, None, Some, option_map}
use Rattle.std.proofs.lemmas.Option.{none-some, same_Some}
use mathlib.Core.Logic.{◌↔◌}
use native.Mathlib.Omega.{arith}
use lib.Dec.{eqb}
use lib.ListN.{length}
use borrow.Author.Tests.{eqb-true, eq-eqb, ne_eqb, le-leb, lt-leb}
use Rattle.words.specs.Lists.{keep, numbers_from}
use Rattle.words.specs.Search.{highest}
use Rattle.words.proofs.Bools.{and-true-left, and-true-right}
use Rattle.words.proofs.SearchLaws.{IsHighest, highest-some, highest-is, highest-nothing, highest-same, highest-above, highest-last, last_with, last-map, last-keep, last-same, in_kept, kept_in}
use Rattle.flash_model.specs.Measures.{capacity, user_blocks, legal_number}
use Rattle.flash_model.specs.UserBlock.{number, payload, right_checksum, is_copy}
use Rattle.flash_model.specs.Partition.{block_at, allocated, copy_at, holds, holder, contents}
use Rattle.flash_model.specs.Update.{is_at, is_holder, holders, other_holders}
use Rattle.flash_model.specs.Meanings.{HoldsAt, HighestHolds, Rising, HoldersAt}
use Rattle.flash_model.proofs.MeasureLaws.{legal-le, le-legal}
use Rattle.flash_model.proofs.SequenceLaws.{UpTo}

-- ---- in plain logic

module _ (image : List ℕ) (n k : ℕ) where
  pub holds_at : 1 ≤ k → k ≤ capacity (length image) → holds image n k ≡ true → HoldsAt image n k
  unfolding holds
  holds_at lo hi e =
      let a = allocated image k in
      let b = eqb (number (block_at image k)) n in
      let c = right_checksum (block_at image k) in
      let f = and-true-right a (b && c) e in
      record {
        low = lo;
        high = hi;
        is_allocated = and-true-left a (b && c) e;
        has_number_lem = eqb-true (number (block_at image k)) n (and-true-left b c f);
        is_right_lem = and-true-right b c f;
      }

  at-holds : HoldsAt image n k → holds image n k ≡ true
  unfolding holds
  at-holds h = rw (h.is_allocated, eq-eqb (number (block_at image k)) n h.has_number_lem, h.is_right_lem)

module _ (image : List ℕ) (n : ℕ) where
  -- a holder: the number is legal, and it is the highest block that holds it
  pub record Held (k : ℕ) : Type 0 where
    pub legal : legal_number (length image) n ≡ true
    pub highest_one : IsHighest (holds image n) (capacity (length image)) k

  pub holder-held : (k : ℕ) → holder image n ≡ Some k → Held k
  unfolding holder
  holder-held k e = go (legal_number (length image) n) refl e
    where
      go : (t : Bool) → legal_number (length image) n ≡ t → cond t (highest (holds image n) (capacity (length image))) None ≡ Some k → Held k
      go true q f = record { legal = q; highest_one = highest-some (holds image n) (capacity (length image)) k f }
      go false q f = let z : ◌≡◌ {A = ℕ} 0 1 = cc in absurd (omega arith)

  held-holder : (k : ℕ) → Held k → holder image n ≡ Some k
  unfolding holder
  held-holder k h = rw h.legal (highest-is (holds image n) (capacity (length image)) k h.highest_one)

  pub held_at : (k : ℕ) → Held k → HoldsAt image n k
  held_at k h = holds_at image n k h.highest_one.low h.highest_one.high h.highest_one.passes

  held-highest : (k : ℕ) → Held k → HighestHolds image n (payload (block_at image k))
  held-highest k h = record {
    in_range = legal-le (length image) n h.legal;
    at = k;
    here = held_at k h;
    none_above = λ j a b. true≢false (sym (at-holds image n j b) ∙ h.highest_one.none_above j a b.high);
    page_is = refl;
  }

  highest-held : (page : List ℕ) (h : HighestHolds image n page) → Held h.at
  highest-held page h = record {
    legal = le-legal (length image) n h.in_range;
    highest_one = record {
      low = h.here.low;
      high = h.here.high;
      passes = at-holds image n h.at h.here;
      none_above = λ j a b. not-held j a b (holds image n j) refl;
    };
  }
    where
      not-held : (j : ℕ) → h.at < j → j ≤ capacity (length image) → (t : Bool) → holds image n j ≡ t → t ≡ false
      not-held j a b true e = absurd (h.none_above j a (holds_at image n j (omega arith) b e))
      not-held j a b false e = refl

  contents-highest : (page : List ℕ) → contents image n ≡ Some page → HighestHolds image n page
  unfolding contents
  contents-highest page e = go (holder image n) refl e
    where
      go : (o : Option ℕ) → holder image n ≡ o → option_map (λ k. payload (block_at image k)) o ≡ Some page → HighestHolds image n page
      go None h f = absurd (none-some page f)
      go (Some k) h f = subst (HighestHolds image n) (same_Some (payload (block_at image k)) page f) (held-highest k (holder-held k h))

  highest-contents : (page : List ℕ) → HighestHolds image n page → contents image n ≡ Some page
  unfolding contents
  highest-contents page h = rw (held-holder h.at (highest-held page h)) (ap (λ (p : List ℕ). Some p) (sym h.page_is))

  pub contents_are : (page : List ℕ) → (contents image n ≡ Some page) ↔ HighestHolds image n page
  contents_are page = (contents-highest page, highest-contents page)

-- ---- from the list of the allocated blocks

abbrev pub has_number : ℕ → List ℕ → Bool
has_number n b = eqb (number b) n

-- blocks 1 to u of an image
abbrev pub log : List ℕ → ℕ → List (List ℕ)
log image u = map (block_at image) (numbers_from 1 u)

module _ (image : List ℕ) (n : ℕ) (u : ℕ) (h : u ≤ capacity (length image)) (b : UpTo (allocated image) (capacity (length image)) u) where
  highest-used : highest (holds image n) (capacity (length image)) ≡ highest (copy_at image n) u
  unfolding holds
  highest-used =
      highest-above (holds image n) u (capacity (length image)) h (λ k lo hi. rw (b k (omega arith) hi, lt-leb k u lo))
      ∙ highest-same (holds image n) (copy_at image n) u (λ k lo hi. rw (b k lo (omega arith), le-leb k u hi))

  -- the holder is searched for among the allocated blocks
  pub holder-used : holder image n ≡ cond (legal_number (length image) n) (highest (copy_at image n) u) None
  unfolding holder
  holder-used = ap (λ (o : Option ℕ). cond (legal_number (length image) n) o None) highest-used

  highest-log : highest (holds image n) (capacity (length image)) ≡ last_with (copy_at image n) (numbers_from 1 u)
  highest-log = highest-used ∙ highest-last (copy_at image n) u

  pub contents-log : contents image n ≡ cond (legal_number (length image) n) (option_map payload (last_with (is_copy n) (log image u))) None
  unfolding contents holder
  contents-log = go (legal_number (length image) n)
    where
      apart : (o : Option ℕ) → option_map (λ k. payload (block_at image k)) o ≡ option_map payload (option_map (block_at image) o)
      apart None = refl
      apart (Some k) = refl

      go : (t : Bool) → option_map (λ k. payload (block_at image k)) (cond t (highest (holds image n) (capacity (length image))) None)
          ≡ cond t (option_map payload (last_with (is_copy n) (log image u))) None
      go true =
          ap (option_map (λ k. payload (block_at image k))) highest-log
          ∙ apart (last_with (copy_at image n) (numbers_from 1 u))
          ∙ ap (option_map payload) (sym (last-map (block_at image) (is_copy n) (numbers_from 1 u)))
      go false = refl

-- ---- the list of holders

module _ (image : List ℕ) where
  pub record HolderAt (k : ℕ) : Type 0 where
    pub here : HoldsAt image (number (block_at image k)) k
    pub legal : legal_number (length image) (number (block_at image k)) ≡ true
    pub is_holder_lem : holder image (number (block_at image k)) ≡ Some k

  place-eq : (o : Option ℕ) (k : ℕ) → is_at o k ≡ true → o ≡ Some k
  place-eq None k e = absurd (false≢true e)
  place-eq (Some j) k e = ap (λ (i : ℕ). Some i) (eqb-true j k e)

  pub is-holder-at : (k : ℕ) → is_holder image k ≡ true → HolderAt k
  unfolding is_holder
  is-holder-at k e =
      let n = number (block_at image k) in
      let f = place-eq (holder image n) k e in
      let h = holder-held image n k f in
      record { here = held_at image n k h; legal = h.legal; is_holder_lem = f }

  -- the blocks that hold contents, in rising order
  rising-kept : (q : ℕ → Bool) (low k n : ℕ) → low < k → Rising low (keep q (numbers_from k n))
  rising-kept q low k zero h = tt
  rising-kept q low k (suc n) h = go (rising-kept q k (suc k) n (omega arith)) (rising-kept q low (suc k) n (omega arith)) (q k)
    where
      go : Rising k (keep q (numbers_from (suc k) n)) → Rising low (keep q (numbers_from (suc k) n)) → (t : Bool)
          → Rising low (cond t (k ∷ keep q (numbers_from (suc k) n)) (keep q (numbers_from (suc k) n)))
      go above same true = (h, above)
      go above same false = same

  holds-contents : (k : ℕ) → is_holder image k ≡ true → (n : ℕ) × (page : List ℕ) × (h : HighestHolds image n page) × (h.at ≡ k)
  unfolding held-highest
  holds-contents k e =
      let n = number (block_at image k) in
      (n, payload (block_at image k), held-highest image n k (holder-held image n k (is-holder-at k e).is_holder_lem), refl)

  contents-held : (k : ℕ) → (n : ℕ) × (page : List ℕ) × (h : HighestHolds image n page) × (h.at ≡ k)
      → (1 ≤ k) × (k ≤ capacity (length image)) × (is_holder image k ≡ true)
  unfolding is_holder
  contents-held k (n, page, h, e) = subst (λ (j : ℕ). (1 ≤ j) × (j ≤ capacity (length image)) × (is_at (holder image (number (block_at image j))) j ≡ true)) e
      (h.here.low, h.here.high, rw (h.here.has_number_lem, held-holder image n h.at (highest-held image n page h)) (eq-eqb h.at h.at refl))

  pub holders-at : HoldersAt image (keep (is_holder image) (user_blocks (length image)))
  unfolding holders user_blocks
  holders-at = record {
    blocks_are = refl;
    in_order = rising-kept (is_holder image) 0 1 (capacity (length image)) (omega arith);
    each_holds = λ k. (
      λ e. holds-contents k (in_kept (is_holder image) k 1 (capacity (length image)) e).2,
      λ h. let b = contents-held k h in kept_in (is_holder image) k 1 (capacity (length image)) b.0 (omega (arith, b.1)) b.2,
    );
  }

  -- the holder of a number, among those of all numbers
  holder-of : (n : ℕ) → highest (λ k. is_holder image k && has_number n (block_at image k)) (capacity (length image)) ≡ holder image n
  unfolding is_holder
  holder-of n = go (holder image n) refl
    where
      numbered : (k : ℕ) (o : Option ℕ) → holder image n ≡ o → (t : Bool) → eqb (number (block_at image k)) n ≡ t
          → (is_at (holder image (number (block_at image k))) k && t) ≡ (is_at o k && t)
      numbered k o q true e =
          ap (λ (m : ℕ). is_at (holder image m) k && true) (eqb-true (number (block_at image k)) n e) ∙ rw q
      numbered k o q false e = and-false (is_at (holder image (number (block_at image k))) k) ∙ sym (and-false (is_at o k))

      go : (o : Option ℕ) → holder image n ≡ o
          → highest (λ k. is_at (holder image (number (block_at image k))) k && has_number n (block_at image k)) (capacity (length image)) ≡ o
      go None q = highest-nothing _ (capacity (length image)) (λ k lo hi. numbered k None q (has_number n (block_at image k)) refl)
      go (Some j) q =
          let h = holder-held image n j q in
          let a = held_at image n j h in
          highest-is _ (capacity (length image)) j (record {
            low = a.low;
            high = a.high;
            passes = numbered j (Some j) q (has_number n (block_at image j)) refl ∙ rw (eq-eqb j j refl, eq-eqb (number (block_at image j)) n a.has_number_lem);
            none_above = λ k lo hi. numbered k (Some j) q (has_number n (block_at image k)) refl ∙ rw (ne_eqb j k (λ e. omega (arith, e, lo)));
          })

  -- the last of the holders that has the number holds its contents
  pub holders-last : (n : ℕ) → option_map payload (last_with (has_number n) (holders image)) ≡ contents image n
  unfolding holders contents user_blocks
  holders-last n =
      ap (option_map payload)
      (last-map (block_at image) (has_number n) (keep (is_holder image) (numbers_from 1 (capacity (length image))))
      ∙ ap (option_map (block_at image)) (last-keep (λ k. has_number n (block_at image k)) (is_holder image) (numbers_from 1 (capacity (length image)))
      ∙ sym (highest-last (λ k. is_holder image k && has_number n (block_at image k)) (capacity (length image))) ∙ holder-of n))
      ∙ joined (holder image n)
    where
      joined : (o : Option ℕ) → option_map payload (option_map (block_at image) o) ≡ option_map (λ k. payload (block_at image k)) o
      joined None = refl
      joined (Some k) = refl

  pub others-last : (n m : ℕ) → (m ≡ n → ⊥) → last_with (has_number m) (other_holders image n) ≡ last_with (has_number m) (holders image)
  unfolding other_holders
  others-last n m d =
      last-keep (has_number m) (λ b. not (eqb (number b) n)) (holders image)
      ∙ last-same (λ b. not (eqb (number b) n) && has_number m b) (has_number m) (holders image) (λ b. go (number b) (eqb (number b) m) refl)
    where
      go : (i : ℕ) (t : Bool) → eqb i m ≡ t → (not (eqb i n) && t) ≡ t
      go i true e = rw (ne_eqb i n (λ f. d (sym (eqb-true i m e) ∙ f)))
      go i false e = and-false (not (eqb i n))
