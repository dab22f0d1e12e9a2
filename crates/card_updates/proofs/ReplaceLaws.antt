-- A card on which one entry and its file are replaced and nothing else: what is sound stays sound, every other file stays, and the
-- orphans stay. A write and a delete are each such a step.
-- Assumes nothing.
use Prim.Native.Nat.{ℕ, zero, suc, ◌+◌, ◌≤◌, ◌<◌}
use mathlib.Core.Path.{◌≡◌, refl, sym, ap, subst, ◌∙◌}
use mathlib.Core.Bool.{Bool, true, false, not, ◌||◌, true≢false, and-false}
use mathlib.Core.List.{List, [], ◌∷◌, map}
use Rattle.std.specs.Prelude.{Some}
use mathlib.Core.Logic.{◌≢◌}
use native.Mathlib.Omega.{arith}
use native.Mathlib.Decide.{ℕ_discrete}
use lib.Dec.{eqb}
use lib.ListN.{length, take}
use borrow.Author.Tests.{eq-eqb}
use Rattle.words.specs.Lists.{any_of, has, concat, numbers_from}
use Rattle.words.proofs.ListLaws.{All}
use Rattle.words.proofs.Distinct.{count_same}
use Rattle.words.proofs.JoinLaws.{all-has, any-range}
use Rattle.card_model.specs.declared.Link.TheVariants.{Free}
use Rattle.card_model.specs.Layout.{block_at, root_of, table_of, directory_of}
use Rattle.card_model.specs.Table.{right_fields, fat_entry, link_of, link_at, free_or_damaged, is_bad}
use Rattle.card_model.specs.Entries.{first_block, name_of, size, is_used, is_game, wrong_entry, name_taken}
use Rattle.card_model.specs.Files.{chain, chain_of, bad_chain, file_of, files_before, shares_block, rising, breaks_game_rule, is_orphan, orphans}
use Rattle.card_model.specs.Sound.{SoundCard, NoRowRefuses, entry_on, file_on, file_bytes, UsedEntry}
use Rattle.card_model.specs.Theorems.{WrongGame, second_game, not_from_0, not_rising, too_long}
use Rattle.card_model.proofs.ChainLaws.{Links, ends, goes, chain-links, links-chain, chain-used}
use Rattle.card_model.proofs.EntryLaws.{file-chain, no_file}
use Rattle.card_model.proofs.FileLaws.{sound_file, files_apart}
use Rattle.card_model.proofs.SoundLaws.{sound_exactly}
use Rattle.card_model.proofs.TestLaws.{in-files, Shared, sharing-tells, SameName, name-tells, name-is-taken, game-tells, game-is-wrong, rising-next}

-- ---- lists

pub all_in : (P : ℕ → Type 0) (l : List ℕ) → ((x : ℕ) → has x l ≡ true → P x) → All P l
all_in P [] f = tt
all_in P (x ∷ l) f = (f x (rw (eq-eqb x x refl)), all_in P l (λ y h. f y (later y h)))
  where
    later : (y : ℕ) → has y l ≡ true → has y (x ∷ l) ≡ true
    later y h = go (eqb x y)
      where
        go : (t : Bool) → (t || has y l) ≡ true
        go true = refl
        go false = h

any_same : (p q : ℕ → Bool) (k n : ℕ) → ((i : ℕ) → k ≤ i → i < k + n → p i ≡ q i) → any_of p (numbers_from k n) ≡ any_of q (numbers_from k n)
any_same p q k zero h = refl
any_same p q k (suc n) h = rw (h k (omega arith) (omega arith), any_same p q (suc k) n (λ i a b. h i (omega arith) (omega arith)))

module _ {A : Type 0} where
  pub map-in : (f g : ℕ → A) (l : List ℕ) → All (λ x. f x ≡ g x) l → map f l ≡ map g l
  map-in f g [] a = refl
  map-in f g (x ∷ l) a = rw (a.0, map-in f g l a.1)

-- ---- chains

pub links-agree : (t u : List ℕ) {left b : ℕ} {bs : List ℕ} → Links t left b bs → All (λ x. link_at u x ≡ link_at t x) bs → Links u left b bs
links-agree t u (ends q) a = ends (a.0 ∙ q)
links-agree t u (goes q l) a = goes (a.0 ∙ q) (links-agree t u l a.1)

pub chain-agrees : (t u : List ℕ) (left b : ℕ) (bs : List ℕ) → chain t left b ≡ Some bs → ((x : ℕ) → has x bs ≡ true → link_at u x ≡ link_at t x)
    → chain u left b ≡ Some bs
chain-agrees t u left b bs e f = links-chain u (links-agree t u (chain-links t left b bs e) (all_in (λ x. link_at u x ≡ link_at t x) bs f))

links-good : (t : List ℕ) {left b : ℕ} {bs : List ℕ} → Links t left b bs → All (λ x. is_bad (link_at t x) ≡ false) bs
links-good t (ends q) = (rw q, tt)
links-good t (goes q l) = (rw q, links-good t l)

-- a used entry whose chain is there has it as its file
pub chain-file : (t entry bs : List ℕ) → is_used entry ≡ true → chain t (size entry) (first_block entry) ≡ Some bs → file_of t entry ≡ bs
unfolding file_of chain_of
chain-file t entry bs u e = rw (u, e)

-- ---- the files of a sound card

module _ (card : List ℕ) (sound : SoundCard card) where
  rows : NoRowRefuses card
  rows = (sound_exactly card).0 sound

  pub in-file-used : (j b : ℕ) → j < 208 → has b (file_on card j) ≡ true → UsedEntry card j
  in-file-used j b h e = record { in_directory = h; is_used_lem = go (is_used (entry_on card j)) refl }
    where
      go : (t : Bool) → is_used (entry_on card j) ≡ t → t ≡ true
      go true u = refl
      go false u = sym (ap (has b) (no_file (table_of card) (entry_on card j) u)) ∙ e

  pub file-is-chain : (j : ℕ) → UsedEntry card j → chain (table_of card) (size (entry_on card j)) (first_block (entry_on card j)) ≡ Some (file_on card j)
  file-is-chain j u = file-chain (entry_on card j) u.is_used_lem (table_of card) (rows.chains j u.in_directory)

  module _ (j b : ℕ) (h : j < 208) (e : has b (file_on card j) ≡ true) where
    pub in-file-below : b < 200
    in-file-below = (sound_file card sound j (in-file-used j b h e)).user_blocks_lem b e

    pub in-file-link : free_or_damaged (link_at (table_of card) b) ≡ false
    in-file-link = all-has _ (file_on card j) b (chain-used _ _ _ _ (file-is-chain j (in-file-used j b h e))) e

    pub in-one-file : (i : ℕ) → i < 208 → i ≢ j → has b (file_on card i) ≡ false
    in-one-file i l n = go (has b (file_on card i)) refl
      where
        go : (t : Bool) → has b (file_on card i) ≡ t → t ≡ false
        go false f = refl
        go true f = sym f ∙ files_apart card sound j i b (in-file-used j b h e) (in-file-used i b l f) (λ d. n (sym d)) e

-- ---- one entry and its file replaced

-- what a game asks of the entry that is new
pub record NewGame (card after : List ℕ) (i : ℕ) (new : List ℕ) : Type 0 where
  pub only_game : (j : ℕ) → j < 208 → j ≢ i → is_game (entry_on card j) ≡ false
  pub from_0 : first_block (entry_on after i) ≡ 0
  pub is_rising : rising new ≡ true
  pub at_most_128 : size (entry_on after i) ≤ 128

pub record Replaced (card after : List ℕ) (i : ℕ) (new : List ℕ) : Type 0 where
  pub in_directory : i < 208
  pub long : length after ≡ length card
  pub root : root_of after ≡ root_of card
  pub others : (j : ℕ) → j < 208 → j ≢ i → entry_on after j ≡ entry_on card j
  -- the table: of a block in neither file the entry stays, a block that is left becomes free, one that is taken was free
  pub above : (b : ℕ) → 200 ≤ b → b < 256 → fat_entry (table_of after) b ≡ fat_entry (table_of card) b
  pub stays : (b : ℕ) → b < 200 → has b (file_on card i) ≡ false → has b new ≡ false → fat_entry (table_of after) b ≡ fat_entry (table_of card) b
  pub left : (b : ℕ) → b < 200 → has b (file_on card i) ≡ true → has b new ≡ false → link_at (table_of after) b ≡ Free
  pub taken : (b : ℕ) → has b new ≡ true → has b (file_on card i) ≡ false → link_at (table_of card) b ≡ Free
  -- the entry: unused, or right, with its chain and a name of its own
  pub right : wrong_entry (entry_on after i) ≡ false
  pub unused : is_used (entry_on after i) ≡ false → new ≡ []
  pub chained : is_used (entry_on after i) ≡ true → chain (table_of after) (size (entry_on after i)) (first_block (entry_on after i)) ≡ Some new
  pub own_name : is_used (entry_on after i) ≡ true → (j : ℕ) → UsedEntry card j → j ≢ i → name_of (entry_on card j) ≢ name_of (entry_on after i)
  pub game : is_game (entry_on after i) ≡ true → NewGame card after i new

link-same : (t u : List ℕ) (b : ℕ) → fat_entry t b ≡ fat_entry u b → link_at t b ≡ link_at u b
unfolding link_at
link-same t u b e = ap link_of e

module _ (card : List ℕ) (sound : SoundCard card) (after : List ℕ) (i : ℕ) (new : List ℕ) (r : Replaced card after i new) where
  abbrev old : List ℕ
  old = file_on card i

  -- the new file
  pub new-file : file_on after i ≡ new
  new-file = go (is_used (entry_on after i)) refl
    where
      go : (t : Bool) → is_used (entry_on after i) ≡ t → file_on after i ≡ new
      go true u = chain-file (table_of after) (entry_on after i) new u (r.chained u)
      go false u = no_file (table_of after) (entry_on after i) u ∙ sym (r.unused u)

  -- no other file had a block of it
  other-not-new : (j b : ℕ) → j < 208 → j ≢ i → has b (file_on card j) ≡ true → has b new ≡ false
  other-not-new j b h n e = go (has b new) refl
    where
      go : (t : Bool) → has b new ≡ t → t ≡ false
      go false f = refl
      go true f =
          let free = r.taken b f (in-one-file card sound j b h e i r.in_directory (λ d. n (sym d))) in
          absurd (true≢false (sym (ap free_or_damaged free) ∙ in-file-link card sound j b h e))

  other-links : (j b : ℕ) → j < 208 → j ≢ i → has b (file_on card j) ≡ true → link_at (table_of after) b ≡ link_at (table_of card) b
  other-links j b h n e =
      link-same (table_of after) (table_of card) b (r.stays b (in-file-below card sound j b h e)
      (in-one-file card sound j b h e i r.in_directory (λ d. n (sym d))) (other-not-new j b h n e))

  other-chain : (j : ℕ) → UsedEntry card j → j ≢ i
      → chain (table_of after) (size (entry_on card j)) (first_block (entry_on card j)) ≡ Some (file_on card j)
  other-chain j u n =
      chain-agrees (table_of card) (table_of after) _ _ (file_on card j) (file-is-chain card sound j u)
      (λ b e. other-links j b u.in_directory n e)

  -- every other file stays
  pub other-file : (j : ℕ) → j < 208 → j ≢ i → file_on after j ≡ file_on card j
  other-file j h n = ap (file_of (table_of after)) (r.others j h n) ∙ go (is_used (entry_on card j)) refl
    where
      go : (t : Bool) → is_used (entry_on card j) ≡ t → file_of (table_of after) (entry_on card j) ≡ file_on card j
      go true u = chain-file (table_of after) (entry_on card j) (file_on card j) u (other-chain j (record { in_directory = h; is_used_lem = u }) n)
      go false u = no_file (table_of after) (entry_on card j) u ∙ sym (no_file (table_of card) (entry_on card j) u)

  new-used : (b : ℕ) → has b new ≡ true → is_used (entry_on after i) ≡ true
  new-used b e = go (is_used (entry_on after i)) refl
    where
      go : (t : Bool) → is_used (entry_on after i) ≡ t → t ≡ true
      go true u = refl
      go false u = sym (ap (has b) (r.unused u)) ∙ e

  -- ---- sound

  user : (b : ℕ) → b < 200 → is_bad (link_at (table_of after) b) ≡ false
  user b h = go (has b old) (has b new) refl refl
    where
      go : (s t : Bool) → has b old ≡ s → has b new ≡ t → is_bad (link_at (table_of after) b) ≡ false
      go s true e f = all-has (λ x. is_bad (link_at (table_of after) x) ≡ false) new b (links-good (table_of after) (chain-links (table_of after) _ _ new (r.chained (new-used b f)))) f
      go true false e f = rw (r.left b h e f)
      go false false e f = rw (link-same (table_of after) (table_of card) b (r.stays b h e f)) ((rows card sound).user b h)

  -- what holds of entry i and of the others
  each : (P : ℕ → Type 0) → P i → ((j : ℕ) → j < 208 → j ≢ i → P j) → (j : ℕ) → j < 208 → P j
  each P p f j h = go (ℕ_discrete j i)
    where
      go : Dec (j ≡ i) → P j
      go (yes d) = subst P (sym d) p
      go (no d) = f j h d

  -- a row that no entry can break
  never : (t : Bool) → (t ≡ true → ⊥) → t ≡ false
  never true f = absurd (f refl)
  never false f = refl

  chains : (j : ℕ) → j < 208 → bad_chain (table_of after) (entry_on after j) ≡ false
  unfolding bad_chain chain_of
  chains = each (λ j. bad_chain (table_of after) (entry_on after j) ≡ false) (here (is_used (entry_on after i)) refl) (λ j h n. there j h n (is_used (entry_on card j)) refl)
    where
      here : (t : Bool) → is_used (entry_on after i) ≡ t → bad_chain (table_of after) (entry_on after i) ≡ false
      here true u = rw (u, r.chained u)
      here false u = rw u

      there : (j : ℕ) → j < 208 → j ≢ i → (t : Bool) → is_used (entry_on card j) ≡ t → bad_chain (table_of after) (entry_on after j) ≡ false
      there j h n true u = rw (r.others j h n, u, other-chain j (record { in_directory = h; is_used_lem = u }) n)
      there j h n false u = rw (r.others j h n, u)

  -- no block in two files
  two-files : (j k b : ℕ) → j < 208 → k < 208 → j ≢ k → has b (file_on after j) ≡ true → has b (file_on after k) ≡ true → ⊥
  two-files j k b h l n e f = go (ℕ_discrete j i) (ℕ_discrete k i)
    where
      both : (m : ℕ) → m < 208 → m ≢ i → has b (file_on after m) ≡ true → has b new ≡ true → ⊥
      both m q d g w = true≢false (sym w ∙ other-not-new m b q d (ap (has b) (sym (other-file m q d)) ∙ g))

      go : Dec (j ≡ i) → Dec (k ≡ i) → ⊥
      go (yes p) (yes q) = n (p ∙ sym q)
      go (yes p) (no q) = both k l q f (ap (has b) (sym new-file ∙ ap (file_on after) (sym p)) ∙ e)
      go (no p) (yes q) = both j h p e (ap (has b) (sym new-file ∙ ap (file_on after) (sym q)) ∙ f)
      go (no p) (no q) =
          let g = ap (has b) (sym (other-file j h p)) ∙ e in
          let m = ap (has b) (sym (other-file k l q)) ∙ f in
          true≢false (sym m ∙ in-one-file card sound j b h g k l (λ d. n (sym d)))

  apart : (j : ℕ) → j < 208 → shares_block (table_of after) (directory_of after) j ≡ false
  apart j h = never _ (λ e. go (sharing-tells after j e))
    where
      go : Shared after j → ⊥
      go s = two-files j s.earlier s.block h (omega (arith, s.before)) (λ d. omega (arith, s.before, d)) s.here s.there

  used-before : (j : ℕ) → j < 208 → j ≢ i → is_used (entry_on after j) ≡ true → UsedEntry card j
  used-before j h n u = record { in_directory = h; is_used_lem = ap is_used (sym (r.others j h n)) ∙ u }

  names : (j : ℕ) → j < 208 → name_taken (directory_of after) j ≡ false
  names j h = never _ (λ e. go (name-tells after j e).0 (name-tells after j e).1)
    where
      go : is_used (entry_on after j) ≡ true → SameName after j → ⊥
      go u s = by (ℕ_discrete j i) (ℕ_discrete s.earlier i)
        where
          k : ℕ
          k = s.earlier

          l : k < 208
          l = omega (arith, s.before)

          by : Dec (j ≡ i) → Dec (k ≡ i) → ⊥
          by (yes p) (yes q) = omega (arith, s.before, p, q)
          by (yes p) (no q) =
              let e : name_of (entry_on after j) ≡ name_of (entry_on after i) = ap (λ (m : ℕ). name_of (entry_on after m)) p in
              r.own_name (ap (λ (m : ℕ). is_used (entry_on after m)) (sym p) ∙ u) k (used-before k l q s.is_used_lem) q
              (ap name_of (sym (r.others k l q)) ∙ sym s.same ∙ e)
          by (no p) (yes q) =
              let e : name_of (entry_on after k) ≡ name_of (entry_on after i) = ap (λ (m : ℕ). name_of (entry_on after m)) q in
              r.own_name (ap (λ (m : ℕ). is_used (entry_on after m)) (sym q) ∙ s.is_used_lem) j (used-before j h p u) p
              (ap name_of (sym (r.others j h p)) ∙ s.same ∙ e)
          by (no p) (no q) =
              true≢false (sym (name-is-taken card j k (used-before j h p u).is_used_lem (used-before k l q s.is_used_lem).is_used_lem s.before
              (ap name_of (sym (r.others j h p)) ∙ s.same ∙ ap name_of (r.others k l q))) ∙ (rows card sound).names j h)

  games : (j : ℕ) → j < 208 → breaks_game_rule (table_of after) (directory_of after) j ≡ false
  games j h = never _ (λ e. go (ℕ_discrete j i) (game-tells after j e).0 (game-tells after j e).1)
    where
      here : NewGame card after i new → WrongGame after i → ⊥
      here g (second_game {j = k} l e) =
          let n : k ≢ i = λ d. omega (arith, l, d) in
          let m : k < 208 = omega (arith, l, r.in_directory) in
          true≢false (sym e ∙ ap is_game (r.others k m n) ∙ g.only_game k m n)
      here g (not_from_0 n) = n g.from_0
      here g (not_rising k l n) = n (rising-next (file_on after i) k (ap rising new-file ∙ g.is_rising) l)
      here g (too_long l) = omega (arith, g.at_most_128, l)

      there : j ≢ i → is_game (entry_on after j) ≡ true → WrongGame after j → WrongGame card j
      there n e (second_game {j = k} l f) = second (ℕ_discrete k i)
        where
          m : k < 208
          m = omega arith

          second : Dec (k ≡ i) → WrongGame card j
          second (yes d) =
              absurd (true≢false (sym e ∙ ap is_game (r.others j h n)
              ∙ (r.game (ap (λ (x : ℕ). is_game (entry_on after x)) (sym d) ∙ f)).only_game j h n))
          second (no d) = second_game {j = k} l (ap is_game (sym (r.others k m d)) ∙ f)
      there n e (not_from_0 f) = not_from_0 (λ d. f (ap first_block (r.others j h n) ∙ d))
      there n e (not_rising k l f) =
          let q = other-file j h n in
          not_rising k (rw (← q) l) (rw (← q) f)
      there n e (too_long l) = too_long (omega (arith, l, ap size (r.others j h n)))

      go : Dec (j ≡ i) → is_game (entry_on after j) ≡ true → WrongGame after j → ⊥
      go (yes d) e w = here (r.game (ap (λ (x : ℕ). is_game (entry_on after x)) (sym d) ∙ e)) (subst (WrongGame after) d w)
      go (no d) e w =
          true≢false (sym (game-is-wrong card j (ap is_game (sym (r.others j h d)) ∙ e) (there d e w)) ∙ (rows card sound).games j h)

  pub replaced-sound : SoundCard after
  unfolding link_at
  replaced-sound =
      let s = rows card sound in
      (sound_exactly after).1 (record {
        long = r.long ∙ s.long;
        magic = ap (take 16) r.root ∙ s.magic;
        fields = ap right_fields r.root ∙ s.fields;
        system = λ b l h. r.above b (omega arith) h ∙ s.system b l h;
        hidden = λ b l h. ap (λ (e : ℕ). free_or_damaged (link_of e)) (r.above b l (omega arith)) ∙ s.hidden b l h;
        user = user;
        entries = each (λ j. wrong_entry (entry_on after j) ≡ false) r.right (λ j h n. ap wrong_entry (r.others j h n) ∙ s.entries j h);
        chains = chains;
        apart = apart;
        names = names;
        games = games;
      })

  -- ---- orphans

  in_all : (c : List ℕ) (j b : ℕ) → j < 208 → has b (file_on c j) ≡ true → has b (files_before (table_of c) (directory_of c) 208) ≡ true
  in_all c j b h e = in-files c 208 b ∙ any-range (λ k. has b (file_on c k)) 0 208 j (omega arith) (omega arith) e

  -- neither an orphan where it is free nor where it is in a file
  free-no-orphan : (c : List ℕ) (b : ℕ) → link_at (table_of c) b ≡ Free → is_orphan (table_of c) (directory_of c) b ≡ false
  unfolding is_orphan
  free-no-orphan c b e = rw e

  filed-no-orphan : (c : List ℕ) (j b : ℕ) → j < 208 → has b (file_on c j) ≡ true → is_orphan (table_of c) (directory_of c) b ≡ false
  unfolding is_orphan
  filed-no-orphan c j b h e = rw (in_all c j b h e) (and-false (not (free_or_damaged (link_at (table_of c) b))))

  pub same-orphan : (b : ℕ) → b < 200 → is_orphan (table_of after) (directory_of after) b ≡ is_orphan (table_of card) (directory_of card) b
  unfolding is_orphan
  same-orphan b h = go (has b old) (has b new) refl refl
    where
      in-new : has b new ≡ true → has b (file_on after i) ≡ true
      in-new f = ap (has b) new-file ∙ f

      go : (s t : Bool) → has b old ≡ s → has b new ≡ t → is_orphan (table_of after) (directory_of after) b ≡ is_orphan (table_of card) (directory_of card) b
      go true true e f = filed-no-orphan after i b r.in_directory (in-new f) ∙ sym (filed-no-orphan card i b r.in_directory e)
      go true false e f = free-no-orphan after b (r.left b h e f) ∙ sym (filed-no-orphan card i b r.in_directory e)
      go false true e f = filed-no-orphan after i b r.in_directory (in-new f) ∙ sym (free-no-orphan card b (r.taken b f e))
      go false false e f =
          let files : has b (files_before (table_of after) (directory_of after) 208) ≡ has b (files_before (table_of card) (directory_of card) 208) =
          in-files after 208 b
          ∙ any_same (λ j. has b (file_on after j)) (λ j. has b (file_on card j)) 0 208
          (λ j l m. each (λ j. has b (file_on after j) ≡ has b (file_on card j)) (ap (has b) new-file ∙ f ∙ sym e) (λ j h n. ap (has b) (other-file j h n)) j (omega arith))
          ∙ sym (in-files card 208 b) in
          rw (files, link-same (table_of after) (table_of card) b (r.stays b h e f))

  pub same_orphans : orphans (table_of after) (directory_of after) ≡ orphans (table_of card) (directory_of card)
  unfolding orphans
  same_orphans = count_same (is_orphan (table_of after) (directory_of after)) (is_orphan (table_of card) (directory_of card)) 0 200 (λ b l h. same-orphan b (omega arith))

  -- ---- the bytes of the other files

  pub other_bytes : (j : ℕ) → j < 208 → j ≢ i → ((b : ℕ) → b < 200 → has b new ≡ false → block_at after b ≡ block_at card b) → file_bytes after j ≡ file_bytes card j
  unfolding file_bytes
  other_bytes j h n f =
      ap (λ (l : List ℕ). concat (map (block_at after) l)) (other-file j h n)
      ∙ ap concat (map-in (block_at after) (block_at card) (file_on card j)
      (all_in (λ b. block_at after b ≡ block_at card b) (file_on card j) (λ b e. f b (in-file-below card sound j b h e) (other-not-new j b h n e))))
