-- The holders have different legal numbers: they are as many as the live numbers, and without one of these there is room
-- for a new block. Also: the live numbers of any image, counted by blocks with different numbers. Assumes nothing.
use Prim.Native.Nat.{ℕ, zero, suc, ◌≤◌, ◌<◌}
use mathlib.Core.Path.{◌≡◌, refl, sym, ap, ◌∙◌}
use mathlib.Core.Bool.{Bool, true, false, not, cond}
use mathlib.Core.List.{List, [], ◌∷◌, ◌++◌, map, map-append}
use Rattle.std.specs.Prelude.{Option, None, Some, option_map}
use Rattle.std.proofs.lemmas.Option.{same_Some}
use native.Mathlib.Omega.{arith}
use lib.Dec.{eqb}
use lib.ListN.{length, length-map}
use borrow.Author.Tests.{ne_eqb}
use Rattle.words.specs.Lists.{keep, has, Distinct, is_some, numbers_from}
use Rattle.words.proofs.ListLaws.{All, all-mono, all_map, keep-passes, keep-map, any-map}
use Rattle.words.proofs.SearchLaws.{last_with, last-any}
use Rattle.words.proofs.Distinct.{except, keep-distinct, except-has, room_for, count-has}
use Rattle.words.proofs.JoinLaws.{distinct_append}
use Rattle.flash_model.specs.Measures.{capacity, top_number, legal_number, user_blocks, logical_numbers}
use Rattle.flash_model.specs.UserBlock.{number, payload}
use Rattle.flash_model.specs.Partition.{block_at, holder, contents, live}
use Rattle.flash_model.specs.Update.{is_holder, holders, other_holders}
use Rattle.flash_model.proofs.MeasureLaws.{Measured, legal-le}
use Rattle.flash_model.proofs.SequenceLaws.{keep-length}
use Rattle.flash_model.proofs.HolderLaws.{HolderAt, is-holder-at, has_number, holders-last}

-- one of these blocks has the number
pub some-numbered : (n : ℕ) (kept : List (List ℕ)) → is_some (option_map payload (last_with (has_number n) kept)) ≡ has n (map number kept)
some-numbered n kept = some-map (last_with (has_number n) kept) ∙ last-any (has_number n) kept ∙ sym (any-map number (λ x. eqb x n) kept)
  where
    some-map : (o : Option (List ℕ)) → is_some (option_map payload o) ≡ is_some o
    some-map None = refl
    some-map (Some b) = refl

module _ (image : List ℕ) where
  -- as many numbers are live as there are blocks with different ones, where exactly their numbers have contents
  pub live-count : (kept : List (List ℕ)) → ((n : ℕ) → is_some (contents image n) ≡ has n (map number kept)) → Distinct (map number kept)
      → All (λ x. x < capacity (length image)) (map number kept) → live image ≡ length kept
  unfolding live logical_numbers
  live-count kept h d below =
      ap length (keep_same (numbers_from 0 (capacity (length image))))
      ∙ count-has (capacity (length image)) (map number kept) d below ∙ length-map kept number
    where
      keep_same : (l : List ℕ) → keep (λ n. is_some (contents image n)) l ≡ keep (λ n. has n (map number kept)) l
      keep_same [] = refl
      keep_same (x ∷ l) = rw (h x, keep_same l)

  -- the numbers of the holders among the n blocks from k on
  numbers_of : ℕ → ℕ → List ℕ
  numbers_of k n = map number (map (block_at image) (keep (is_holder image) (numbers_from k n)))

  not-again : (j : ℕ) → is_holder image j ≡ true → (k n : ℕ) → j < k → has (number (block_at image j)) (numbers_of k n) ≡ false
  unfolding numbers_of
  not-again j e k zero h = refl
  not-again j e k (suc n) h = go (not-again j e (suc k) n (omega arith)) (is_holder image k) refl
    where
      apart : is_holder image k ≡ true → number (block_at image k) ≡ number (block_at image j) → ⊥
      apart f q =
          let a = (is-holder-at image j e).is_holder_lem in
          let b = (is-holder-at image k f).is_holder_lem in
          let d : j ≡ k = same_Some j k (sym a ∙ ap (holder image) (sym q) ∙ b) in
          omega (arith, d, h)

      go : has (number (block_at image j)) (map number (map (block_at image) (keep (is_holder image) (numbers_from (suc k) n)))) ≡ false
          → (t : Bool) → is_holder image k ≡ t
          → has (number (block_at image j)) (map number (map (block_at image) (cond t (k ∷ keep (is_holder image) (numbers_from (suc k) n)) (keep (is_holder image) (numbers_from (suc k) n))))) ≡ false
      go ih true f = rw (ne_eqb (number (block_at image k)) (number (block_at image j)) (apart f), ih)
      go ih false f = ih

  all-distinct : (k n : ℕ) → Distinct (numbers_of k n)
  unfolding numbers_of
  all-distinct k zero = tt
  all-distinct k (suc n) = go (all-distinct (suc k) n) (is_holder image k) refl
    where
      go : Distinct (map number (map (block_at image) (keep (is_holder image) (numbers_from (suc k) n)))) → (t : Bool) → is_holder image k ≡ t
          → Distinct (map number (map (block_at image) (cond t (k ∷ keep (is_holder image) (numbers_from (suc k) n)) (keep (is_holder image) (numbers_from (suc k) n)))))
      go ih true e = (not-again k e (suc k) n (omega arith), ih)
      go ih false e = ih

  pub distinct-numbers : Distinct (map number (holders image))
  unfolding holders user_blocks numbers_of
  distinct-numbers = all-distinct 1 (capacity (length image))

  -- and so have the other holders with a new block of that number
  pub distinct-with : (n : ℕ) (new : List ℕ) → number new ≡ n → Distinct (map number (other_holders image n ++ new ∷ []))
  unfolding other_holders
  distinct-with n new e =
      rw (map-append number (other_holders image n) (new ∷ []), keep-map number (λ x. not (eqb x n)) (holders image), e)
      (distinct_append (except n (map number (holders image))) (n ∷ []) (keep-distinct (λ x. not (eqb x n)) (map number (holders image)) distinct-numbers)
      (refl, tt) (rw (except-has n (map number (holders image)))))

  -- what holds of every holder's block
  pub all-holders : (P : List ℕ → Type 0) → ((k : ℕ) → HolderAt image k → P (block_at image k)) → All P (holders image)
  unfolding holders
  all-holders P f =
      all_map (block_at image) P (keep (is_holder image) (user_blocks (length image)))
      (all-mono (λ k. is_holder image k ≡ true) (λ k. P (block_at image k)) (λ k e. f k (is-holder-at image k e))
      (keep (is_holder image) (user_blocks (length image))) (keep-passes (is_holder image) (user_blocks (length image))))

  pub holders-room : length (holders image) ≤ capacity (length image)
  unfolding holders user_blocks
  holders-room =
      let l = keep (is_holder image) (numbers_from 1 (capacity (length image))) in
      omega (arith, length-map l (block_at image), keep-length (is_holder image) 1 (capacity (length image)))

  module _ (m : Measured (length image)) where
    pub legal-below : (kept : List (List ℕ)) → All (λ b. legal_number (length image) (number b) ≡ true) kept → All (λ x. x < capacity (length image)) (map number kept)
    legal-below kept legal =
        all_map number (λ x. x < capacity (length image)) kept
        (all-mono (λ b. legal_number (length image) (number b) ≡ true) (λ b. number b < capacity (length image))
        (λ b e. omega (arith, legal-le (length image) (number b) e, m.top_number_lem)) kept legal)

    numbers-below : All (λ x. x < capacity (length image)) (map number (holders image))
    numbers-below = legal-below (holders image) (all-holders (λ b. legal_number (length image) (number b) ≡ true) (λ k h. h.legal))

    pub others-fit : (n : ℕ) → n ≤ top_number (length image) → suc (length (other_holders image n)) ≤ capacity (length image)
    unfolding other_holders
    others-fit n h =
        let e : length (other_holders image n) ≡ length (except n (map number (holders image))) =
        sym (length-map (other_holders image n) number) ∙ ap length (keep-map number (λ x. not (eqb x n)) (holders image)) in
        omega (arith, e, room_for (capacity (length image)) n (map number (holders image)) (omega (arith, h, m.top_number_lem)) distinct-numbers numbers-below)

    pub live-holders : live image ≡ length (holders image)
    live-holders =
        live-count (holders image) (λ n. ap is_some (sym (holders-last image n)) ∙ some-numbered n (holders image)) distinct-numbers numbers-below
