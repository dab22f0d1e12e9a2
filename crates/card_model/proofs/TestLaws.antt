-- What the tests of rows 26 to 30 tell in the paper's words, and that these make them true. Assumes nothing.
use Prim.Native.Nat.{ℕ, zero, suc, ◌+◌, ◌<◌}
use mathlib.Core.Path.{◌≡◌, refl, sym, ap, ◌∙◌}
use mathlib.Core.Bool.{Bool, true, false, not, ◌||◌, false≢true, or-true, and-false}
use mathlib.Core.List.{List, [], ◌∷◌}
use Rattle.std.specs.Prelude.{Option, None, Some}
use mathlib.Core.Logic.{◌≢◌, ◌⊎◌, ⊎_elim}
use native.Mathlib.Omega.{arith}
use lib.Dec.{eqb, ltb}
use lib.ListN.{length, get_or}
use borrow.Author.Tests.{ltb-true, ltb-false, leb-false, eqb-true, eqb-false, lt-ltb, le-ltb, lt-leb, ne_eqb, not-true}
use Rattle.words.specs.Lists.{any_of, has, is_some, numbers_from}
use Rattle.words.proofs.Bools.{or-false-left, or-false-right, or-true-either, and-true-left, and-true-right, and-false-either}
use Rattle.words.proofs.WordLaws.{same-eq, eq-same}
use Rattle.words.proofs.JoinLaws.{any-concat, any-among, among-any, in_range, any-range}
use Rattle.card_model.specs.Layout.{table_of, directory_of}
use Rattle.card_model.specs.Entries.{first_block, name_of, size, is_used, is_data, is_game}
use Rattle.card_model.specs.Entries.{wrong_kind, wrong_first, wrong_size, wrong_offset, wrong_entry, is_named, name_taken}
use Rattle.card_model.specs.Files.{chain, chain_of, bad_chain, files_before, shares_block, rising, breaks_game_rule}
use Rattle.card_model.specs.Sound.{entry_on, file_on}
use Rattle.card_model.specs.Theorems.{WrongFields, wrong_type, wrong_first_block, no_block, too_many, wrong_header_offset, IsChain}
use Rattle.card_model.specs.Theorems.{WrongGame, second_game, not_from_0, not_rising, too_long}
use Rattle.card_model.proofs.ChainLaws.{one_more, chain_exactly}

either : {a b : Bool} → (a || b) ≡ true → (a ≡ true) ⊎ (b ≡ true)
either {a} {b} = or-true-either a b

-- ---- 26

module _ (entry : List ℕ) where
  pub entry-tells : wrong_entry entry ≡ true → (is_used entry ≡ true) × WrongFields entry
  unfolding wrong_entry wrong_kind is_data is_game wrong_first wrong_size wrong_offset
  entry-tells e =
      let t = and-true-right (is_used entry) _ e in (
        and-true-left (is_used entry) _ e,
        ⊎_elim type (λ a. ⊎_elim first (λ b. ⊎_elim sized offset (either b)) (either a)) (either t),
      )
    where
      type : wrong_kind entry ≡ true → WrongFields entry
      type t =
          let n = not-true _ t in
          wrong_type (eqb-false _ _ (or-false-left _ _ n)) (eqb-false _ _ (or-false-right (is_data entry) _ n))

      first : wrong_first entry ≡ true → WrongFields entry
      first t = wrong_first_block (ltb-false _ _ (not-true _ t))

      sized : wrong_size entry ≡ true → WrongFields entry
      sized t =
          ⊎_elim (λ z. no_block (leb-false _ _ z)) (λ l. too_many (leb-false _ _ l)) (and-false-either _ _ (not-true _ t))

      offset : wrong_offset entry ≡ true → WrongFields entry
      offset t = wrong_header_offset (and-true-left _ _ t) (ltb-false _ _ (not-true _ (and-true-right (is_data entry) _ t)))

  pub entry-is-wrong : is_used entry ≡ true → WrongFields entry → wrong_entry entry ≡ true
  unfolding wrong_entry wrong_kind is_data is_game wrong_first wrong_size wrong_offset
  entry-is-wrong u (wrong_type a b) = rw (u, ne_eqb _ _ a, ne_eqb _ _ b)
  entry-is-wrong u (wrong_first_block h) = rw (u, le-ltb _ _ h) (simp or-true)
  entry-is-wrong u (no_block h) = rw (u, lt-leb _ _ h) (simp or-true)
  entry-is-wrong u (too_many h) = rw (u, lt-leb _ _ h) (simp (and-false, or-true))
  entry-is-wrong u (wrong_header_offset d h) = rw (u, d, le-ltb _ _ h) (simp or-true)

-- ---- 27

module _ (table entry : List ℕ) where
  pub chain-tells : bad_chain table entry ≡ true
      → (is_used entry ≡ true) × ((blocks : List ℕ) → IsChain table (size entry) (first_block entry) blocks → ⊥)
  unfolding bad_chain chain_of
  chain-tells e =
      let n = not-true _ (and-true-right (is_used entry) _ e) in
      (and-true-left (is_used entry) _ e, λ blocks c. false≢true (sym n ∙ ap is_some ((chain_exactly _ _ _ blocks).1 c)))

  pub chain-is-bad : is_used entry ≡ true → ((blocks : List ℕ) → IsChain table (size entry) (first_block entry) blocks → ⊥)
      → bad_chain table entry ≡ true
  unfolding bad_chain chain_of
  chain-is-bad u n = rw u (go (chain table (size entry) (first_block entry)) refl)
    where
      go : (o : Option (List ℕ)) → chain table (size entry) (first_block entry) ≡ o → not (is_some o) ≡ true
      go None q = refl
      go (Some blocks) q = absurd (n blocks ((chain_exactly table (size entry) (first_block entry) blocks).0 q))

-- ---- every next block one higher

-- a place where the next block isn't
pub record Gap (blocks : List ℕ) : Type 0 where
  pub at : ℕ
  pub inside : at + 1 < length blocks
  pub other : get_or blocks (at + 1) 0 ≢ get_or blocks at 0 + 1

pub rising-gap : (blocks : List ℕ) → rising blocks ≡ false → Gap blocks
rising-gap [] e = absurd (false≢true (sym e))
rising-gap (b ∷ []) e = absurd (false≢true (sym e))
rising-gap (b ∷ n ∷ blocks) e = ⊎_elim here (later (rising-gap (n ∷ blocks))) (and-false-either (eqb n (b + 1)) _ e)
  where
    here : eqb n (b + 1) ≡ false → Gap (b ∷ n ∷ blocks)
    here q = record { at = 0; inside = omega arith; other = eqb-false n (b + 1) q }

    later : (rising (n ∷ blocks) ≡ false → Gap (n ∷ blocks)) → rising (n ∷ blocks) ≡ false → Gap (b ∷ n ∷ blocks)
    later ih q =
        let g = ih q in
        record { at = suc g.at; inside = omega (arith, g.inside); other = rw (one_more g.at) g.other }

pub rising-next : (blocks : List ℕ) (k : ℕ) → rising blocks ≡ true → k + 1 < length blocks → get_or blocks (k + 1) 0 ≡ get_or blocks k 0 + 1
rising-next [] k e h = absurd (omega arith)
rising-next (b ∷ []) k e h = absurd (omega arith)
rising-next (b ∷ n ∷ blocks) zero e h = eqb-true n (b + 1) (and-true-left _ _ e)
rising-next (b ∷ n ∷ blocks) (suc k) e h =
    rw (one_more k) (rising-next (n ∷ blocks) k (and-true-right (eqb n (b + 1)) _ e) (omega arith))

module _ (card : List ℕ) (i : ℕ) where
  -- ---- 28

  pub in-files : (b : ℕ) → has b (files_before (table_of card) (directory_of card) i) ≡ any_of (λ j. has b (file_on card j)) (numbers_from 0 i)
  unfolding files_before
  in-files b = any-concat (λ m. eqb m b) (λ j. file_on card j) (numbers_from 0 i)

  pub block-is-shared : (j b : ℕ) → j < i → has b (file_on card i) ≡ true → has b (file_on card j) ≡ true
      → shares_block (table_of card) (directory_of card) i ≡ true
  unfolding shares_block
  block-is-shared j b h here there =
      among-any (λ b. has b (files_before (table_of card) (directory_of card) i)) (file_on card i) b here
      (in-files b ∙ any-range (λ j. has b (file_on card j)) 0 i j (omega arith) (omega arith) there)

  -- a block of an earlier entry's file
  pub record Shared : Type 0 where
    pub block : ℕ
    pub earlier : ℕ
    pub before : earlier < i
    pub here : has block (file_on card i) ≡ true
    pub there : has block (file_on card earlier) ≡ true

  pub sharing-tells : shares_block (table_of card) (directory_of card) i ≡ true → Shared
  unfolding shares_block
  sharing-tells e =
      let s = any-among _ (file_on card i) e in
      let b = s.found in
      let t = any-among (λ j. has b (file_on card j)) (numbers_from 0 i) (sym (in-files b) ∙ s.passes) in
      record { block = b; earlier = t.found; before = omega (arith, (in_range 0 i t.found t.is_in).1); here = s.is_in; there = t.passes }

  -- ---- 29

  pub name-is-taken : (j : ℕ) → is_used (entry_on card i) ≡ true → is_used (entry_on card j) ≡ true → j < i
      → name_of (entry_on card i) ≡ name_of (entry_on card j) → name_taken (directory_of card) i ≡ true
  unfolding name_taken is_named
  name-is-taken j u v h e =
      let there : is_named (name_of (entry_on card i)) (entry_on card j) ≡ true = rw v (eq-same _ _ (sym e)) in
      rw u (any-range (λ j. is_named (name_of (entry_on card i)) (entry_on card j)) 0 i j (omega arith) (omega arith) there)

  -- an earlier used entry of the same name
  pub record SameName : Type 0 where
    pub earlier : ℕ
    pub before : earlier < i
    pub is_used_lem : is_used (entry_on card earlier) ≡ true
    pub same : name_of (entry_on card i) ≡ name_of (entry_on card earlier)

  pub name-tells : name_taken (directory_of card) i ≡ true → (is_used (entry_on card i) ≡ true) × SameName
  unfolding name_taken is_named
  name-tells e =
      let s = any-among _ (numbers_from 0 i) (and-true-right (is_used (entry_on card i)) _ e) in
      let j = s.found in (
        and-true-left (is_used (entry_on card i)) _ e,
        record {
          earlier = j;
          before = omega (arith, (in_range 0 i j s.is_in).1);
          is_used_lem = and-true-left (is_used (entry_on card j)) _ s.passes;
          same = sym (same-eq _ _ (and-true-right (is_used (entry_on card j)) _ s.passes));
        },
      )

  -- ---- 30

  pub game-tells : breaks_game_rule (table_of card) (directory_of card) i ≡ true → (is_game (entry_on card i) ≡ true) × WrongGame card i
  unfolding breaks_game_rule
  game-tells e =
      let t = and-true-right (is_game (entry_on card i)) _ e in (
        and-true-left (is_game (entry_on card i)) _ e,
        ⊎_elim second (λ a. ⊎_elim first (λ b. ⊎_elim next long
            (either b)) (either a)) (either t),
      )
    where
      second : any_of (λ j. is_game (entry_on card j)) (numbers_from 0 i) ≡ true → WrongGame card i
      second t =
          let s = any-among _ (numbers_from 0 i) t in
          second_game {j = s.found} (omega (arith, (in_range 0 i s.found s.is_in).1)) s.passes

      first : not (eqb (first_block (entry_on card i)) 0) ≡ true → WrongGame card i
      first t = not_from_0 (eqb-false _ _ (not-true _ t))

      next : not (rising (file_on card i)) ≡ true → WrongGame card i
      next t =
          let g = rising-gap (file_on card i) (not-true _ t) in
          not_rising g.at g.inside g.other

      long : ltb 128 (size (entry_on card i)) ≡ true → WrongGame card i
      long t = too_long (ltb-true _ _ t)

  pub game-is-wrong : is_game (entry_on card i) ≡ true → WrongGame card i → breaks_game_rule (table_of card) (directory_of card) i ≡ true
  unfolding breaks_game_rule
  game-is-wrong g (second_game {j} h e) = rw (g, any-range (λ j. is_game (entry_on card j)) 0 i j (omega arith) (omega arith) e)
  game-is-wrong g (not_from_0 n) = rw (g, ne_eqb _ _ n) (simp or-true)
  game-is-wrong g (not_rising k h n) = rw (g, go (rising (file_on card i)) refl) (simp or-true)
    where
      go : (t : Bool) → rising (file_on card i) ≡ t → t ≡ false
      go false q = refl
      go true q = absurd (n (rising-next (file_on card i) k q h))
  game-is-wrong g (too_long h) = rw (g, lt-ltb _ _ h) (simp or-true)
