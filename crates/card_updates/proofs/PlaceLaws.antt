-- What the table, the directory, the root and the blocks are after a part of a card is put anew: instances of the law on parts.
-- Assumes nothing.
use Prim.Native.Nat.{ℕ, ◌+◌, ◌*◌, ◌-◌, ◌/◌, ◌%◌, ◌≤◌, ◌<◌}
use mathlib.Core.Path.{◌≡◌, refl, sym, ap, subst, ◌∙◌}
use mathlib.Core.Bool.{Bool, false}
use mathlib.Core.List.{List, []}
use mathlib.Core.Logic.{◌≢◌, ◌⊎◌, inl, inr, ⊎_elim}
use native.Mathlib.Omega.{arith}
use native.Mathlib.Decide.{ℕ_discrete, dec_le}
use lib.ListN.{length, get_or, take, drop, set, length-map, length-set}
use lib.Seq.{get_or-set_same, get_or-set_other, ext_get_or}
use Rattle.words.specs.Lists.{numbers_from}
use Rattle.words.specs.Words.{word, word_bytes}
use Rattle.words.proofs.ListLaws.{map_same}
use Rattle.words.proofs.PartsLaws.{numbers-length}
use Rattle.card_model.specs.Layout.{card_length, block_at, root_of, fat_place, table_of, entry_block, entry_byte, entry_place, directory_of}
use Rattle.card_model.specs.Table.{fat_entry}
use Rattle.card_model.specs.Entries.{entry_at}
use Rattle.card_model.specs.Sound.{entry_on}
use Rattle.card_model.proofs.EntryLaws.{entry-is}
use Rattle.card_model.proofs.TableLaws.{fat-is}
use Rattle.card_updates.specs.Parts.{with_part, with_link, InBlock, InLink, InEntry}
use Rattle.card_updates.proofs.NamedBytes.{in_part, SameBut}
use Rattle.card_updates.proofs.PartLaws.{part_same, word-part, word-bytes, in-part-out, part-named, same-part, same_word}

-- ---- places

-- an entry of the table lies in block 254, one of the directory in 241 to 253
pub fat-inside : (b : ℕ) → b < 256 → (254 * 512 ≤ fat_place b) × (fat_place b + 2 ≤ 255 * 512)
unfolding fat_place
fat-inside b h = (omega arith, omega arith)

pub entry-inside : (i : ℕ) → i < 208 → (241 * 512 ≤ entry_place i) × (entry_place i + 32 ≤ 254 * 512)
unfolding entry_place entry_block entry_byte
entry-inside i h = (omega arith, omega arith)

pub fat-apart : (b c : ℕ) → b ≢ c → (fat_place b + 2 ≤ fat_place c) ⊎ (fat_place c + 2 ≤ fat_place b)
unfolding fat_place
fat-apart b c n = go (dec_le b c)
  where
    go : Dec (b ≤ c) → (254 * 512 + 2 * b + 2 ≤ 254 * 512 + 2 * c) ⊎ (254 * 512 + 2 * c + 2 ≤ 254 * 512 + 2 * b)
    go (yes h) = inl (omega arith)
    go (no h) = inr (omega arith)

pub block_apart : (b c : ℕ) → b ≢ c → (b * 512 + 512 ≤ c * 512) ⊎ (c * 512 + 512 ≤ b * 512)
block_apart b c n = go (dec_le b c)
  where
    go : Dec (b ≤ c) → (b * 512 + 512 ≤ c * 512) ⊎ (c * 512 + 512 ≤ b * 512)
    go (yes h) = inl (omega arith)
    go (no h) = inr (omega arith)

-- entries lie in steps of 32, and where one lies tells which it is
slot : ℕ → ℕ
slot i = (253 - i / 16) * 16 + i % 16

slot-place : (i : ℕ) → i < 208 → entry_place i ≡ 32 * slot i
unfolding slot entry_place entry_block entry_byte
slot-place i h = omega arith

slot-tells : (i j : ℕ) → i < 208 → j < 208 → slot i ≡ slot j → i ≡ j
unfolding slot
slot-tells i j h k e = omega arith

pub entry-apart : (i j : ℕ) → i < 208 → j < 208 → i ≢ j → (entry_place i + 32 ≤ entry_place j) ⊎ (entry_place j + 32 ≤ entry_place i)
entry-apart i j h k n = go (dec_le (slot i) (slot j)) (λ e. n (slot-tells i j h k e))
  where
    go : Dec (slot i ≤ slot j) → slot i ≢ slot j → (entry_place i + 32 ≤ entry_place j) ⊎ (entry_place j + 32 ≤ entry_place i)
    go (yes l) d = inl (omega (arith, slot-place i h, slot-place j k))
    go (no l) d = inr (omega (arith, slot-place i h, slot-place j k))

-- no byte is at two places of a kind
pub blocks_apart : (b c k : ℕ) → InBlock b k → InBlock c k → b ≡ c
blocks_apart b c k h l = omega (arith, h.0, h.1, l.0, l.1)

pub links_apart : (b c k : ℕ) → InLink b k → InLink c k → b ≡ c
unfolding fat_place
links_apart b c k h l = omega (arith, h.0, h.1, l.0, l.1)

pub entries_apart : (i j k : ℕ) → i < 208 → j < 208 → InEntry i k → InEntry j k → i ≡ j
entries_apart i j k h l a b =
    slot-tells i j h l (omega (arith, a.0, a.1, b.0, b.1, slot-place i h, slot-place j l))

-- a place in a part is outside of a part that lies apart
pub apart_out : (a m c n k : ℕ) → (a + m ≤ c) ⊎ (c + n ≤ a) → c ≤ k → k < c + n → in_part a m k ≡ false
apart_out a m c n k d l h = in-part-out a m k (⊎_elim (λ e. inr (omega arith)) (λ e. inl (omega arith)) d)

-- ---- what is read at a place

pub table-length : (card : List ℕ) → length (table_of card) ≡ 256
unfolding table_of
table-length card = length-map (numbers_from 0 256) (λ b. word card (fat_place b)) ∙ numbers-length 0 256

pub directory-length : (card : List ℕ) → length (directory_of card) ≡ 208
unfolding directory_of
directory-length card = length-map (numbers_from 0 208) (λ i. take 32 (drop (entry_place i) card)) ∙ numbers-length 0 208

-- ---- where no byte of it is named

module _ (named : ℕ → Bool) (card after : List ℕ) (same : SameBut named card after) where
  pub same-fat : (b : ℕ) → b < 256 → ((k : ℕ) → fat_place b ≤ k → k < fat_place b + 2 → named k ≡ false) → fat_entry (table_of after) b ≡ fat_entry (table_of card) b
  same-fat b h n = fat-is after b h ∙ same_word named card after same (fat_place b) n ∙ sym (fat-is card b h)

  pub same_entry : (i : ℕ) → i < 208 → ((k : ℕ) → entry_place i ≤ k → k < entry_place i + 32 → named k ≡ false) → entry_on after i ≡ entry_on card i
  same_entry i h n = entry-is after i h ∙ same-part named card after same (entry_place i) 32 n ∙ sym (entry-is card i h)

  pub same_block : (b : ℕ) → ((k : ℕ) → b * 512 ≤ k → k < b * 512 + 512 → named k ≡ false) → block_at after b ≡ block_at card b
  unfolding block_at
  same_block b n = same-part named card after same (b * 512) 512 n

  pub same-root : ((k : ℕ) → 255 * 512 ≤ k → named k ≡ false) → root_of after ≡ root_of card
  unfolding root_of
  same-root n = same_block 255 (λ k l h. n k (omega arith))

  pub same-table : ((k : ℕ) → 254 * 512 ≤ k → k < 255 * 512 → named k ≡ false) → table_of after ≡ table_of card
  unfolding table_of
  same-table n =
      map_same (λ b. word after (fat_place b)) (λ b. word card (fat_place b)) 0 256
      (λ b l h. same_word named card after same (fat_place b) (λ k a c. n k (omega (arith, fat-inside b h)) (omega (arith, fat-inside b h))))

  pub same-directory : ((k : ℕ) → 241 * 512 ≤ k → k < 254 * 512 → named k ≡ false) → directory_of after ≡ directory_of card
  unfolding directory_of
  same-directory n =
      map_same (λ i. take 32 (drop (entry_place i) after)) (λ i. take 32 (drop (entry_place i) card)) 0 208
      (λ i l h. same-part named card after same (entry_place i) 32 (λ k a c. n k (omega (arith, entry-inside i h)) (omega (arith, entry-inside i h))))

-- ---- what is put is there

pub put-block : (card : List ℕ) (b : ℕ) (part : List ℕ) → length part ≡ 512 → b * 512 + 512 ≤ length card → block_at (with_part card (b * 512) part) b ≡ part
unfolding block_at
put-block card b part e h =
    ap (λ (n : ℕ). take n (drop (b * 512) (with_part card (b * 512) part))) (sym e) ∙ part_same card (b * 512) part (omega arith)

pub put-entry : (card : List ℕ) (i : ℕ) (part : List ℕ) → length part ≡ 32 → length card ≡ card_length → i < 208
    → entry_on (with_part card (entry_place i) part) i ≡ part
unfolding card_length
put-entry card i part e l h =
    entry-is (with_part card (entry_place i) part) i h
    ∙ ap (λ (n : ℕ). take n (drop (entry_place i) (with_part card (entry_place i) part))) (sym e)
    ∙ part_same card (entry_place i) part (omega (arith, entry-inside i h))

two_bytes : (e : ℕ) → length (word_bytes e) ≡ 2
unfolding word_bytes
two_bytes e = refl

module _ (card : List ℕ) (b e : ℕ) (long : length card ≡ card_length) (h : b < 256) where
  pub link_fits : fat_place b + length (word_bytes e) ≤ length card
  unfolding card_length
  link_fits = omega (arith, fat-inside b h, two_bytes e)

  pub link-named : SameBut (in_part (fat_place b) 2) card (with_link card b e)
  unfolding with_link
  link-named = subst (λ (n : ℕ). SameBut (in_part (fat_place b) n) card (with_part card (fat_place b) (word_bytes e))) (two_bytes e) (part-named card (fat_place b) (word_bytes e) link_fits)

  pub put-link : fat_entry (table_of (with_link card b e)) b ≡ e
  unfolding with_link
  put-link =
      let after = with_part card (fat_place b) (word_bytes e) in
      fat-is after b h ∙ word-part after (fat_place b)
      ∙ ap (λ (n : ℕ). word (take n (drop (fat_place b) after)) 0) (sym (two_bytes e))
      ∙ ap (λ (l : List ℕ). word l 0) (part_same card (fat_place b) (word_bytes e) link_fits) ∙ word-bytes e

  pub link-other : (c : ℕ) → c < 256 → c ≢ b → fat_entry (table_of (with_link card b e)) c ≡ fat_entry (table_of card) c
  link-other c l n =
      same-fat _ card (with_link card b e) link-named c l (λ k p q. apart_out (fat_place b) 2 (fat_place c) 2 k (fat-apart b c (λ d. n (sym d))) p q)

  pub link-table : table_of (with_link card b e) ≡ set (table_of card) b e
  unfolding fat_entry
  link-table =
      let after = with_link card b e in
      ext_get_or 0 (table_of after) (set (table_of card) b e) (table-length after ∙ sym (length-set (table_of card) b e ∙ table-length card))
      (λ c l. go c (omega (arith, l, table-length after)) (ℕ_discrete c b))
    where
      go : (c : ℕ) → c < 256 → Dec (c ≡ b) → get_or (table_of (with_link card b e)) c 0 ≡ get_or (set (table_of card) b e) c 0
      go c l (yes d) =
          let m : b < length (table_of card) = omega (arith, table-length card) in
          rw d (put-link ∙ sym (get_or-set_same (table_of card) b e 0 m))
      go c l (no d) = link-other c l d ∙ sym (get_or-set_other (table_of card) b c e 0 d)

  pub link-directory : directory_of (with_link card b e) ≡ directory_of card
  link-directory =
      same-directory _ card (with_link card b e) link-named
      (λ k l m. apart_out (fat_place b) 2 (241 * 512) (13 * 512) k (inr (omega (arith, fat-inside b h))) l (omega arith))

  pub link-block : (c : ℕ) → c ≢ 254 → block_at (with_link card b e) c ≡ block_at card c
  link-block c n =
      same_block _ card (with_link card b e) link-named c
      (λ k l m. apart_out (fat_place b) 2 (c * 512) 512 k (inside (block_apart 254 c (λ d. n (sym d)))) l m)
    where
      inside : (254 * 512 + 512 ≤ c * 512) ⊎ (c * 512 + 512 ≤ 254 * 512) → (fat_place b + 2 ≤ c * 512) ⊎ (c * 512 + 512 ≤ fat_place b)
      inside = ⊎_elim (λ x. inl (omega (arith, fat-inside b h))) (λ x. inr (omega (arith, fat-inside b h)))

module _ (card : List ℕ) (i : ℕ) (part : List ℕ) (wide : length part ≡ 32) (long : length card ≡ card_length) (h : i < 208) where
  pub entry-fits : entry_place i + length part ≤ length card
  unfolding card_length
  entry-fits = omega (arith, entry-inside i h)

  pub entry_named_lem : SameBut (in_part (entry_place i) 32) card (with_part card (entry_place i) part)
  entry_named_lem = subst (λ (n : ℕ). SameBut (in_part (entry_place i) n) card (with_part card (entry_place i) part)) wide (part-named card (entry_place i) part entry-fits)

  pub entry_other : (j : ℕ) → j < 208 → j ≢ i → entry_on (with_part card (entry_place i) part) j ≡ entry_on card j
  entry_other j l n =
      same_entry _ card _ entry_named_lem j l (λ k p q. apart_out (entry_place i) 32 (entry_place j) 32 k (entry-apart i j h l (λ d. n (sym d))) p q)

  pub entry-directory : directory_of (with_part card (entry_place i) part) ≡ set (directory_of card) i part
  unfolding entry_at
  entry-directory =
      let after = with_part card (entry_place i) part in
      ext_get_or [] (directory_of after) (set (directory_of card) i part) (directory-length after ∙ sym (length-set (directory_of card) i part ∙ directory-length card))
      (λ j l. go j (omega (arith, l, directory-length after)) (ℕ_discrete j i))
    where
      go : (j : ℕ) → j < 208 → Dec (j ≡ i) → get_or (directory_of (with_part card (entry_place i) part)) j [] ≡ get_or (set (directory_of card) i part) j []
      go j l (yes d) =
          let m : i < length (directory_of card) = omega (arith, directory-length card) in
          rw d (put-entry card i part wide long h ∙ sym (get_or-set_same (directory_of card) i part [] m))
      go j l (no d) = entry_other j l d ∙ sym (get_or-set_other (directory_of card) i j part [] d)

  pub entry-table : table_of (with_part card (entry_place i) part) ≡ table_of card
  entry-table =
      same-table _ card _ entry_named_lem (λ k l m. apart_out (entry_place i) 32 (254 * 512) 512 k (inl (omega (arith, entry-inside i h))) l (omega arith))

  -- all blocks but those of the directory
  pub entry-block : (c : ℕ) → (c < 241) ⊎ (254 ≤ c) → block_at (with_part card (entry_place i) part) c ≡ block_at card c
  entry-block c n =
      same_block _ card _ entry_named_lem c
      (λ k l m. apart_out (entry_place i) 32 (c * 512) 512 k (⊎_elim (λ x. inr (omega (arith, entry-inside i h))) (λ x. inl (omega (arith, entry-inside i h))) n) l m)

module _ (card : List ℕ) (b : ℕ) (part : List ℕ) (wide : length part ≡ 512) (long : length card ≡ card_length) (h : b < 200) where
  pub block-fits : b * 512 + length part ≤ length card
  unfolding card_length
  block-fits = omega arith

  pub block-named : SameBut (in_part (b * 512) 512) card (with_part card (b * 512) part)
  block-named = subst (λ (n : ℕ). SameBut (in_part (b * 512) n) card (with_part card (b * 512) part)) wide (part-named card (b * 512) part block-fits)

  pub block-put : block_at (with_part card (b * 512) part) b ≡ part
  block-put = put-block card b part wide (omega (arith, block-fits))

  pub block-other : (c : ℕ) → c ≢ b → block_at (with_part card (b * 512) part) c ≡ block_at card c
  block-other c n = same_block _ card _ block-named c (λ k l m. apart_out (b * 512) 512 (c * 512) 512 k (block_apart b c (λ d. n (sym d))) l m)

  pub block-table : table_of (with_part card (b * 512) part) ≡ table_of card
  block-table = same-table _ card _ block-named (λ k l m. apart_out (b * 512) 512 (254 * 512) 512 k (inl (omega arith)) l (omega arith))

  pub block-directory : directory_of (with_part card (b * 512) part) ≡ directory_of card
  block-directory = same-directory _ card _ block-named (λ k l m. apart_out (b * 512) 512 (241 * 512) (13 * 512) k (inl (omega arith)) l (omega arith))
