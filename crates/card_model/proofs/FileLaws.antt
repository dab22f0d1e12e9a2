-- The files of a card that passes the check: each is sound, they share no block, and with the orphans, the free and the damaged
-- blocks they make the 200 user blocks. Assumes nothing.
use Prim.Native.Nat.{ℕ, zero, suc, ◌+◌, ◌≤◌, ◌<◌}
use mathlib.Core.Path.{◌≡◌, refl, sym, ap, subst, ◌∙◌}
use mathlib.Core.Bool.{Bool, true, false, not, true≢false}
use mathlib.Core.List.{List, [], ◌∷◌}
use Rattle.std.specs.Prelude.{Some}
use mathlib.Core.Logic.{◌≢◌}
use native.Mathlib.Nat.{le_trans}
use native.Mathlib.Omega.{arith}
use lib.Dec.{eqb, ltb}
use lib.ListN.{length, drop}
use borrow.Author.Tests.{ltb-true, ltb-false, eqb-true, not-false}
use Rattle.words.specs.Lists.{keep, any_of, has, Distinct, numbers_from}
use Rattle.words.proofs.Bools.{or-false-left, or-false-right, and-true-left, and-true-right}
use Rattle.words.proofs.ListLaws.{All}
use Rattle.words.proofs.Distinct.{one, pigeonhole, count-has}
use Rattle.words.proofs.JoinLaws.{all_append, all-has, distinct_append, none-range, count-classes, count-concat}
use Rattle.card_model.specs.declared.Link.{Link}
use Rattle.card_model.specs.declared.Link.TheVariants.{Free, Damaged, Last, Next, Bad}
use Rattle.card_model.specs.Layout.{table_of, directory_of}
use Rattle.card_model.specs.Table.{link_at, free_or_damaged, is_free, is_damaged, count_blocks}
use Rattle.card_model.specs.Entries.{first_block, size, is_used, is_game}
use Rattle.card_model.specs.Files.{chain, chain_of, file_of, files_before, shares_block, rising, breaks_game_rule, is_orphan, orphans}
use Rattle.card_model.specs.Sound.{SoundCard, NoRowRefuses, entry_on, file_on, UsedEntry}
use Rattle.card_model.specs.Theorems.{SoundFile, IsChain, blocks_in_files}
use Rattle.card_model.proofs.ChainLaws.{chain_length, chain-below, chain-distinct, chain-used, chain_head, chain_exactly}
use Rattle.card_model.proofs.EntryLaws.{right-entry, file-chain, no_file, files-snoc}
use Rattle.card_model.proofs.SoundLaws.{sound-rows}
use Rattle.card_model.proofs.TestLaws.{block-is-shared}

rising-numbers : (b : ℕ) (bs : List ℕ) → rising (b ∷ bs) ≡ true → b ∷ bs ≡ numbers_from b (suc (length bs))
rising-numbers b [] e = refl
rising-numbers b (n ∷ bs) e =
    let d : n ≡ suc b = omega (arith, eqb-true n (b + 1) (and-true-left _ _ e)) in
    ap (λ (l : List ℕ). b ∷ l) (rising-numbers n bs (and-true-right (eqb n (b + 1)) _ e) ∙ ap (λ (k : ℕ). numbers_from k (suc (length bs))) d)

pub file_exactly : (card : List ℕ) (i : ℕ) (blocks : List ℕ) → UsedEntry card i
    → IsChain (table_of card) (size (entry_on card i)) (first_block (entry_on card i)) blocks → file_on card i ≡ blocks
unfolding file_of chain_of
file_exactly card i blocks u c = rw (u.is_used_lem, (chain_exactly _ _ _ blocks).1 c)

module _ (card : List ℕ) (sound : SoundCard card) where
  rows : NoRowRefuses card
  rows = sound-rows card sound

  abbrev table : List ℕ
  table = table_of card

  abbrev directory : List (List ℕ)
  directory = directory_of card

  abbrev files : ℕ → List ℕ
  files = files_before table directory

  module _ (i : ℕ) (used : UsedEntry card i) where
    right : (first_block (entry_on card i) < 200) × (1 ≤ size (entry_on card i)) × (size (entry_on card i) ≤ 200)
    right = right-entry (entry_on card i) used.is_used_lem (rows.entries i used.in_directory)

    is_chain : chain table (size (entry_on card i)) (first_block (entry_on card i)) ≡ Some (file_on card i)
    is_chain = file-chain (entry_on card i) used.is_used_lem table (rows.chains i used.in_directory)

    user_blocks_lem : All (λ x. x < 200) (file_on card i)
    user_blocks_lem = chain-below _ _ _ _ is_chain right.0

    pub sound_file : SoundFile card i
    sound_file = record {
      has_size = chain_length _ _ _ _ is_chain;
      not_empty = right.1;
      user_blocks_lem = λ b h. all-has (λ x. x < 200) (file_on card i) b user_blocks_lem h;
      no_repeat = chain-distinct _ _ _ _ is_chain;
    }

  -- what holds of no blocks and of a used entry's file holds of each entry's
  each-file : (P : List ℕ → Type 0) → P [] → ((i : ℕ) → UsedEntry card i → P (file_on card i)) → (i : ℕ) → i < 208 → P (file_on card i)
  each-file P n f i h = go (is_used (entry_on card i)) refl
    where
      go : (t : Bool) → is_used (entry_on card i) ≡ t → P (file_on card i)
      go true u = f i (record { in_directory = h; is_used_lem = u })
      go false u = subst P (sym (no_file table (entry_on card i) u)) n

  -- ---- all files together

  all-before : (P : ℕ → Type 0) → ((i : ℕ) → UsedEntry card i → All P (file_on card i)) → (n : ℕ) → n ≤ 208 → All P (files n)
  unfolding files_before
  all-before P f zero h = tt
  all-before P f (suc n) h =
      rw (files-snoc table directory n)
      (all_append P (files n) (file_on card n) (all-before P f n (omega arith)) (each-file (All P) tt f n (omega arith)))

  distinct-before : (n : ℕ) → n ≤ 208 → Distinct (files n)
  unfolding files_before shares_block
  distinct-before zero h = tt
  distinct-before (suc n) h =
      let d = each-file Distinct tt (λ i u. (sound_file i u).no_repeat) n (omega arith) in
      rw (files-snoc table directory n)
      (distinct_append (files n) (file_on card n) (distinct-before n (omega arith)) d (rows.apart n (omega arith)))

  all_below : All (λ x. x < 200) (files 208)
  all_below = all-before _ user_blocks_lem 208 (omega arith)

  all_used : All (λ x. free_or_damaged (link_at table x) ≡ false) (files 208)
  all_used = all-before _ (λ i u. chain-used _ _ _ _ (is_chain i u)) 208 (omega arith)

  all-distinct : Distinct (files 208)
  all-distinct = distinct-before 208 (omega arith)

  pub at_most_200 : length (keep (λ i. is_used (entry_on card i)) (numbers_from 0 208)) ≤ 200
  unfolding files_before
  at_most_200 =
      le_trans (count-concat (λ i. is_used (entry_on card i)) (λ i. file_on card i) 0 208 (λ i a b. go i b (is_used (entry_on card i)) refl))
      (pigeonhole 200 (files 208) all-distinct all_below)
    where
      go : (i : ℕ) → i < 208 → (t : Bool) → is_used (entry_on card i) ≡ t → one t ≤ length (file_on card i)
      go i h true u =
          let f = sound_file i (record { in_directory = h; is_used_lem = u }) in
          omega (arith, f.has_size, f.not_empty)
      go i h false u = omega arith

  pub all_blocks : orphans table directory + blocks_in_files card + count_blocks card is_free + count_blocks card is_damaged ≡ 200
  unfolding orphans is_orphan
  all_blocks =
      ap (λ (n : ℕ). orphans table directory + n + count_blocks card is_free + count_blocks card is_damaged)
      (sym (count-has 200 (files 208) all-distinct all_below))
      ∙ count-classes (is_orphan table directory) (λ b. has b (files 208))
      (λ b. is_free (link_at table b)) (λ b. is_damaged (link_at table b)) 0 200
      (λ b h k. go b (link_at table b) refl (has b (files 208)) refl)
    where
      not-in-file : (b : ℕ) → has b (files 208) ≡ true → free_or_damaged (link_at table b) ≡ true → ⊥
      not-in-file b f e = true≢false (sym e ∙ all-has _ (files 208) b all_used f)

      go : (b : ℕ) (l : Link) → link_at table b ≡ l → (t : Bool) → has b (files 208) ≡ t
          → one (is_orphan table directory b) + one (has b (files 208)) + one (is_free (link_at table b)) + one (is_damaged (link_at table b)) ≡ 1
      go b Free e true f = absurd (not-in-file b f (ap free_or_damaged e))
      go b Free e false f = rw (e, f)
      go b Damaged e true f = absurd (not-in-file b f (ap free_or_damaged e))
      go b Damaged e false f = rw (e, f)
      go b Last e true f = rw (e, f)
      go b Last e false f = rw (e, f)
      go b (Next n) e true f = rw (e, f)
      go b (Next n) e false f = rw (e, f)
      go b Bad e true f = rw (e, f)
      go b Bad e false f = rw (e, f)

  -- ---- two files

  apart-later : (i j b : ℕ) → i < j → j < 208 → has b (file_on card i) ≡ true → has b (file_on card j) ≡ false
  apart-later i j b h k e = go (has b (file_on card j)) refl
    where
      go : (t : Bool) → has b (file_on card j) ≡ t → t ≡ false
      go false f = refl
      go true f = sym (block-is-shared card j i b h f e) ∙ rows.apart j k

  pub files_apart : (i j b : ℕ) → UsedEntry card i → UsedEntry card j → i ≢ j → has b (file_on card i) ≡ true → has b (file_on card j) ≡ false
  files_apart i j b u v n e = go (ltb i j) refl (has b (file_on card j)) refl
    where
      go : (s : Bool) → ltb i j ≡ s → (t : Bool) → has b (file_on card j) ≡ t → t ≡ false
      go s h false f = refl
      go true h true f = sym f ∙ apart-later i j b (ltb-true i j h) v.in_directory e
      go false h true f = sym e ∙ apart-later j i b (omega (arith, ltb-false i j h, n)) u.in_directory f

  -- ---- games

  earlier_game : ℕ → Bool
  earlier_game i = any_of (λ j. is_game (entry_on card j)) (numbers_from 0 i)

  module _ (i : ℕ) (used : UsedEntry card i) (game : is_game (entry_on card i) ≡ true) where
    -- the rule's four parts
    game-rule : (earlier_game i ≡ false) × (first_block (entry_on card i) ≡ 0) × (rising (file_on card i) ≡ true) × (size (entry_on card i) ≤ 128)
    unfolding breaks_game_rule earlier_game
    game-rule =
        let a = rw game at (rows.games i used.in_directory) in
        let b = or-false-right (earlier_game i) _ a in
        let c = or-false-right (not (eqb (first_block (entry_on card i)) 0)) _ b in
        let r = not (rising (file_on card i)) in
        (or-false-left _ _ a, eqb-true _ _ (not-false _ (or-false-left _ _ b)), not-false _ (or-false-left r _ c), ltb-false _ _ (or-false-right r _ c))

    pub game_place : (file_on card i ≡ numbers_from 0 (size (entry_on card i))) × (size (entry_on card i) ≤ 128)
    game_place =
        let rest = drop 1 (file_on card i) in
        let e : file_on card i ≡ 0 ∷ rest = chain_head _ _ _ _ (is_chain i used) ∙ ap (λ (b : ℕ). b ∷ rest) game-rule.1 in
        let n : suc (length rest) ≡ size (entry_on card i) = ap length (sym e) ∙ (sound_file i used).has_size in
        (e ∙ rising-numbers 0 rest (ap rising (sym e) ∙ game-rule.2) ∙ ap (numbers_from 0) n, game-rule.3)

    none-earlier : (j : ℕ) → is_game (entry_on card j) ≡ true → i ≤ j
    unfolding earlier_game
    none-earlier j e = go (ltb j i) refl
      where
        go : (t : Bool) → ltb j i ≡ t → i ≤ j
        go false h = ltb-false j i h
        go true h =
            let f = none-range (λ j. is_game (entry_on card j)) 0 i game-rule.0 j (omega arith) (omega (arith, ltb-true j i h)) in
            absurd (true≢false (sym e ∙ f))

  pub one_game : (i j : ℕ) → UsedEntry card i → UsedEntry card j → is_game (entry_on card i) ≡ true → is_game (entry_on card j) ≡ true → i ≡ j
  one_game i j u v g h = omega (arith, none-earlier i u g j h, none-earlier j v h i g)
