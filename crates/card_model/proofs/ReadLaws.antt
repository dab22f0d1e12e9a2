-- What listings and reads give on a card that passes the check: the used entries in order, each file under its name, and a
-- file's blocks in order as its bytes. Assumes nothing.
use Prim.Native.Nat.{ℕ, ◌*◌, ◌-◌, ◌≤◌, ◌<◌}
use mathlib.Core.Path.{◌≡◌, refl, sym, ap, ◌∙◌}
use mathlib.Core.Bool.{Bool, true, false, cond, ◌&&◌, or-true, false≢true}
use mathlib.Core.Logic.{◌≢◌, ◌⊎◌, ⊎_elim}
use mathlib.Core.List.{List, [], map, append-nil}
use Rattle.std.specs.Prelude.{Option, None, Some}
use native.Mathlib.Omega.{arith}
use lib.ListN.{length, get_or, take, drop, length-map, length-drop, get_or-map}
use lib.Seq.{length-take-le}
use borrow.Author.Tests.{eq-eqb, ne_eqb, lt-leb, le-leb}
use Rattle.words.specs.Lists.{concat, numbers_from}
use Rattle.words.proofs.ListLaws.{All, all_map, all-mono, map_same}
use Rattle.words.proofs.SearchLaws.{lowest-some, lowest-is, lowest-nothing}
use Rattle.words.specs.Words.{same_bytes}
use Rattle.words.proofs.WordLaws.{same_refl, ne_same}
use Rattle.words.proofs.PartsLaws.{part_at, numbers-read}
use Rattle.words.proofs.JoinLaws.{none-range}
use Rattle.verdicts.specs.declared.Place.TheVariants.{Whole}
use Rattle.verdicts.specs.Rows.{Verdict}
use Rattle.verdicts.specs.Rows.{done, refused_at, accepted}
use Rattle.card_model.specs.Layout.{card_length, block_at, table_of, directory_of}
use Rattle.card_model.specs.Entries.{flag, first_block, name_of, size, is_used, is_named, name_taken}
use Rattle.card_model.specs.Files.{chain}
use Rattle.card_model.specs.Calls.{verdict_of, first_used, listed_entry, listed_from, not_listed, list_of, entry_named, read_rows, read_verdict, file_block, read_buffer}
use Rattle.card_model.specs.Sound.{SoundCard, NoRowRefuses, entry_on, file_on, file_bytes, UsedEntry}
use Rattle.card_model.specs.Theorems.{ShowsFlag, ShowsNothing}
use Rattle.card_model.proofs.EntryLaws.{entry_length, entry-byte, protected-says, copyable-says, right-entry, file-chain}
use Rattle.card_model.proofs.SoundLaws.{sound-rows}
use Rattle.card_model.proofs.ChainLaws.{chain_length, chain-below}

-- ---- listings

pub lists : (card : List ℕ) → SoundCard card → (start i : ℕ) → UsedEntry card i → start ≤ i
    → ((j : ℕ) → start ≤ j → j < i → is_used (entry_on card j) ≡ false) → list_of card start ≡ listed_entry i (entry_on card i)
unfolding list_of first_used
lists card s start i u h f =
    let e : first_used (directory_of card) start ≡ Some i =
    lowest-is _ start (208 - start) i (record { low = h; high = omega (arith, u.in_directory); passes = u.is_used_lem; none_below = f }) in
    rw (s, e)

pub lists_none : (card : List ℕ) → SoundCard card → (start : ℕ)
    → ((j : ℕ) → start ≤ j → j < 208 → is_used (entry_on card j) ≡ false) → list_of card start ≡ not_listed (refused_at 31 Whole)
unfolding list_of first_used
lists_none card s start f =
    let e : first_used (directory_of card) start ≡ None = lowest-nothing _ start (208 - start) (λ j a b. f j a (omega arith)) in
    rw (s, e)

-- what it says of the copy flag
entry-shows : (card : List ℕ) (i : ℕ) → i < 208 → ShowsFlag card (listed_entry i (entry_on card i))
unfolding listed_entry flag
entry-shows card i h = record {
  raw = entry-byte card i 1 h (omega arith);
  protected = protected-says (entry_on card i);
  copyable = copyable-says (entry_on card i);
}

pub lists_flag : (card : List ℕ) (start : ℕ) → (list_of card start).verdict.number ≡ 0 → ShowsFlag card (list_of card start)
unfolding list_of first_used
lists_flag card start v = go (accepted (verdict_of card)) refl (first_used (directory_of card) start) refl v
  where
    go : (t : Bool) → accepted (verdict_of card) ≡ t → (found : Option ℕ) → first_used (directory_of card) start ≡ found
        → (cond t (listed_from (directory_of card) found) (not_listed (verdict_of card))).verdict.number ≡ 0
        → ShowsFlag card (cond t (listed_from (directory_of card) found) (not_listed (verdict_of card)))
    go false e found f v = absurd (false≢true (sym e ∙ eq-eqb _ 0 v))
    go true e None f v = absurd (omega (arith, v))
    go true e (Some i) f v =
        let l = lowest-some (λ j. is_used (entry_on card j)) start (208 - start) i f in
        entry-shows card i (omega (arith, l.low, l.high))

-- what is refused shows nothing
pub lists_nothing : (card : List ℕ) (start : ℕ) → (list_of card start).verdict.number ≢ 0 → ShowsNothing (list_of card start)
unfolding list_of listed_entry
lists_nothing card start n = go (accepted (verdict_of card)) (first_used (directory_of card) start) n
  where
    nothing : (v : Verdict) → ShowsNothing (not_listed v)
    nothing v = record {
      no_entry = refl;
      no_kind = refl;
      no_flag = refl;
      not_protected = refl;
      no_first = refl;
      no_size = refl;
      no_offset = refl;
      no_name = refl;
      no_time = refl;
    }

    go : (t : Bool) (found : Option ℕ) → (cond t (listed_from (directory_of card) found) (not_listed (verdict_of card))).verdict.number ≢ 0
        → ShowsNothing (cond t (listed_from (directory_of card) found) (not_listed (verdict_of card)))
    go false found n = nothing (verdict_of card)
    go true None n = nothing (refused_at 31 Whole)
    go true (Some i) n = absurd (n refl)

-- ---- blocks and names

block-length : (card : List ℕ) (b : ℕ) → length card ≡ card_length → b < 200 → length (block_at card b) ≡ 512
unfolding block_at card_length
block-length card b e h = length-take-le 512 (drop (b * 512) card) (omega (arith, length-drop (b * 512) card))

name-length : (card : List ℕ) (i : ℕ) → length card ≡ card_length → i < 208 → length (name_of (entry_on card i)) ≡ 12
unfolding name_of
name-length card i e h =
    let entry = entry_on card i in
    length-take-le 12 (drop 0x04 entry) (omega (arith, length-drop 0x04 entry, entry_length card i e h))

module _ (card : List ℕ) (s : SoundCard card) (i : ℕ) (u : UsedEntry card i) where
  rows : NoRowRefuses card
  rows = sound-rows card s

  abbrev name : List ℕ
  name = name_of (entry_on card i)

  pub found_by_name : entry_named (directory_of card) (name_of (entry_on card i)) ≡ Some i
  unfolding entry_named is_named name_taken
  found_by_name =
      lowest-is (λ j. is_named name (entry_on card j)) 0 208 i (record {
        low = omega arith;
        high = omega (arith, u.in_directory);
        passes = rw u.is_used_lem (same_refl name);
        none_below = λ j a b. none-range (λ k. is_named name (entry_on card k)) 0 i (rw u.is_used_lem at (rows.names i u.in_directory)) j a (omega arith);
      })

  -- ---- its file's blocks

  abbrev blocks : List (List ℕ)
  blocks = map (block_at card) (file_on card i)

  chain-is : chain (table_of card) (size (entry_on card i)) (first_block (entry_on card i)) ≡ Some (file_on card i)
  chain-is = file-chain (entry_on card i) u.is_used_lem (table_of card) (rows.chains i u.in_directory)

  blocks-many : length blocks ≡ size (entry_on card i)
  blocks-many = length-map (file_on card i) (block_at card) ∙ chain_length (table_of card) (size (entry_on card i)) _ (file_on card i) chain-is

  blocks-wide : All (λ b. length b ≡ 512) blocks
  blocks-wide =
      let low = (right-entry (entry_on card i) u.is_used_lem (rows.entries i u.in_directory)).0 in
      all_map (block_at card) (λ b. length b ≡ 512) (file_on card i)
      (all-mono (λ b. b < 200) (λ b. length (block_at card b) ≡ 512) (λ b h. block-length card b rows.long h) (file_on card i)
      (chain-below (table_of card) (size (entry_on card i)) (first_block (entry_on card i)) (file_on card i) chain-is low))

  module _ (index : ℕ) (buffer : List ℕ) (h : index < size (entry_on card i)) (l : length buffer ≡ 512) where
    read_done : read_verdict card name index buffer ≡ done
    unfolding read_verdict read_rows
    read_done =
        rw (s, found_by_name, eq-eqb (length name) 12 (name-length card i rows.long u.in_directory), eq-eqb (length buffer) 512 l, lt-leb _ index h)

    read_is : read_buffer card name index buffer ≡ get_or blocks index (block_at card 0)
    unfolding read_buffer file_block
    read_is = rw (read_done, found_by_name) (sym (get_or-map (block_at card) (file_on card i) index 0))

    block-is : take 512 (drop (index * 512) (file_bytes card i)) ≡ get_or blocks index (block_at card 0)
    unfolding file_bytes
    block-is = rw append-nil at (part_at 512 blocks [] (block_at card 0) index blocks-wide (omega (arith, blocks-many)))

pub reads_block : (card : List ℕ) → SoundCard card → (i index : ℕ) (buffer : List ℕ) → UsedEntry card i → index < size (entry_on card i) → length buffer ≡ 512
    → (read_verdict card (name_of (entry_on card i)) index buffer ≡ done)
    × (read_buffer card (name_of (entry_on card i)) index buffer ≡ take 512 (drop (index * 512) (file_bytes card i)))
reads_block card s i index buffer u h l =
    (read_done card s i u index buffer h l, read_is card s i u index buffer h l ∙ sym (block-is card s i u index buffer h l))

pub reads_file : (card : List ℕ) → SoundCard card → (i : ℕ) (buffer : List ℕ) → UsedEntry card i → length buffer ≡ 512
    → concat (map (λ index. read_buffer card (name_of (entry_on card i)) index buffer) (numbers_from 0 (size (entry_on card i)))) ≡ file_bytes card i
unfolding file_bytes
reads_file card s i buffer u l =
    let parts = blocks card s i u in
    ap concat (map_same (λ index. read_buffer card (name_of (entry_on card i)) index buffer) (λ index. get_or parts index (block_at card 0)) 0 (size (entry_on card i))
    (λ index a b. read_is card s i u index buffer (omega arith) l) ∙ numbers-read parts (size (entry_on card i)) (block_at card 0) (blocks-many card s i u))

-- ---- refused reads

module _ (card : List ℕ) (s : SoundCard card) where
  pub refused_33 : (name : List ℕ) (index : ℕ) (buffer : List ℕ) → (length name ≢ 12) ⊎ (length buffer ≢ 512)
      → read_verdict card name index buffer ≡ refused_at 33 Whole
  unfolding read_verdict read_rows
  refused_33 name index buffer h =
      ⊎_elim (λ n. rw (s, ne_eqb (length name) 12 n)) (λ n. rw (s, ne_eqb (length buffer) 512 n, or-true)) h

  pub refused_31 : (name : List ℕ) (index : ℕ) (buffer : List ℕ) → length name ≡ 12 → length buffer ≡ 512
      → ((i : ℕ) → UsedEntry card i → name_of (entry_on card i) ≢ name) → read_verdict card name index buffer ≡ refused_at 31 Whole
  unfolding read_verdict read_rows entry_named is_named
  refused_31 name index buffer n l h =
      let e = lowest-nothing (λ i. is_named name (entry_on card i)) 0 208 (λ i a b. other i (omega arith) (is_used (entry_on card i)) refl) in
      rw (s, eq-eqb (length name) 12 n, eq-eqb (length buffer) 512 l, e)
    where
      other : (i : ℕ) → i < 208 → (t : Bool) → is_used (entry_on card i) ≡ t → (t && same_bytes (name_of (entry_on card i)) name) ≡ false
      other i b false u = refl
      other i b true u = ne_same _ name (h i (record { in_directory = b; is_used_lem = u }))

  pub refused_32 : (i index : ℕ) (buffer : List ℕ) → UsedEntry card i → size (entry_on card i) ≤ index → length buffer ≡ 512
      → read_verdict card (name_of (entry_on card i)) index buffer ≡ refused_at 32 Whole
  unfolding read_verdict read_rows
  refused_32 i index buffer u h l =
      let n = name-length card i (sound-rows card s).long u.in_directory in
      rw (s, found_by_name card s i u, eq-eqb (length (name_of (entry_on card i))) 12 n, eq-eqb (length buffer) 512 l, le-leb _ index h)

pub refused_unchanged : (card name : List ℕ) (index : ℕ) (buffer : List ℕ) → (read_verdict card name index buffer).number ≢ 0
    → read_buffer card name index buffer ≡ buffer
unfolding read_buffer
refused_unchanged card name index buffer n = rw (ne_eqb (read_verdict card name index buffer).number 0 n)
