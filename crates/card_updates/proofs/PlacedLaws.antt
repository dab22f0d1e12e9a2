-- A file that is placed at an unused entry, in free blocks: the card is sound, the file reads as given and the others stay. Assumes nothing.
use Prim.Native.Nat.{ℕ, ◌*◌, ◌≤◌, ◌<◌}
use mathlib.Core.Path.{◌≡◌, refl, sym, ap, ◌∙◌}
use mathlib.Core.Bool.{Bool, true, false, not, ◌||◌, true≢false, false≢true}
use mathlib.Core.List.{List, [], ◌∷◌, map}
use Rattle.std.specs.Prelude.{Some}
use mathlib.Core.Logic.{◌≢◌, ◌⊎◌, inl, inr, ⊎_elim}
use native.Mathlib.Omega.{arith}
use lib.ListN.{length, get_or, drop}
use borrow.Author.Tests.{eqb-true, ne_eqb}
use Rattle.words.specs.Lists.{has, concat}
use Rattle.words.proofs.Bools.{or-false-left, or-false-right, or-true-either}
use Rattle.words.proofs.ListLaws.{all-mono, all-at}
use Rattle.words.proofs.JoinLaws.{all-has, any-among}
use Rattle.card_model.specs.declared.Link.TheVariants.{Free}
use Rattle.card_model.specs.Layout.{card_length, block_at, fat_place, table_of, entry_place, directory_of}
use Rattle.card_model.specs.Table.{fat_entry, link_at}
use Rattle.card_model.specs.Entries.{kind, flag, first_block, name_of, time_of, size, header_offset, is_used, is_game, wrong_entry}
use Rattle.card_model.specs.Files.{chain, rising}
use Rattle.card_model.specs.Calls.{entry_named}
use Rattle.card_model.specs.Sound.{SoundCard, entry_on, file_on, file_bytes, UsedEntry}
use Rattle.card_model.proofs.ChainLaws.{links-chain}
use Rattle.card_model.proofs.EntryLaws.{no_file}
use Rattle.card_model.proofs.TableLaws.{free_is}
use Rattle.card_model.proofs.SoundLaws.{sound_exactly}
use Rattle.card_model.proofs.ReadLaws.{found_by_name, reads_block}
use Rattle.card_updates.specs.Parts.{OnlyAt}
use Rattle.card_updates.specs.Write.{NewFile, blocks_of}
use Rattle.card_updates.specs.Write.{new_entry, with_blocks, with_file}
use Rattle.card_updates.specs.Theorems.{SameFile, KeptBlock, NewFileAt, PlaceOfWrite, write_block, write_link, write_entry}
use Rattle.card_updates.proofs.NamedBytes.{in_part, SameBut, in_blocks, named_by_write}
use Rattle.card_updates.proofs.PartLaws.{in-part-out, same_then, in-part-tells, only_at}
use Rattle.card_updates.proofs.PlaceLaws.{fat-inside, entry-inside, entry-apart, apart_out, same-fat, same_entry, same_block, same-root}
use Rattle.card_updates.proofs.PlaceLaws.{put-entry, entry_named_lem, entry-table, entry-block}
use Rattle.card_updates.proofs.ReplaceLaws.{Replaced, NewGame, new-file, other-file, replaced-sound, other_bytes, map-in}
use Rattle.card_updates.proofs.FileLaws.{new-length, new-kind, new-flag, new-first, new_name, new-time, new-size, new-offset, new-reserved, right-fields}
use Rattle.card_updates.proofs.FileLaws.{HoldsBytes, blocks-named, blocks-links, blocks-bytes, blocks-other-link, blocks-other-bytes, blocks-directory, blocks-root}

-- ---- what a file that is placed asks of the card

pub record Placing (card : List ℕ) (k : ℕ) (f : NewFile) (offset : ℕ) (blocks : List ℕ) (i : ℕ) : Type 0 where
  pub in_directory : i < 208
  pub was_unused : is_used (entry_on card i) ≡ false
  pub right_name : length f.name ≡ 12
  pub right_time : length f.time ≡ 8
  pub not_empty : 1 ≤ length blocks
  pub at_most_200 : length blocks ≤ 200
  pub holds : HoldsBytes blocks f.content
  pub free : (b : ℕ) → has b blocks ≡ true → link_at (table_of card) b ≡ Free
  pub right_kind : (k ≡ 0x33) ⊎ (k ≡ 0xCC)
  pub right_offset : k ≡ 0x33 → offset < length blocks
  pub new_name : (j : ℕ) → UsedEntry card j → name_of (entry_on card j) ≢ f.name
  pub only_game : k ≡ 0xCC → (j : ℕ) → j < 208 → is_game (entry_on card j) ≡ false
  pub game_place : k ≡ 0xCC → (get_or blocks 0 0 ≡ 0) × (rising blocks ≡ true) × (length blocks ≤ 128)

-- where the named bytes are
write-places : (blocks : List ℕ) (i k : ℕ) → named_by_write blocks i k ≡ true → PlaceOfWrite blocks i k
unfolding named_by_write in_blocks
write-places blocks i k e = ⊎_elim of_blocks (λ l. write_entry (in-part-tells (entry_place i) 32 k l)) (or-true-either (in_blocks blocks k) _ e)
  where
    of_blocks : in_blocks blocks k ≡ true → PlaceOfWrite blocks i k
    of_blocks l =
        let a = any-among (λ b. in_part (b * 512) 512 k || in_part (fat_place b) 2 k) blocks l in
        ⊎_elim (λ m. write_block a.found a.is_in (in-part-tells _ 512 k m)) (λ m. write_link a.found a.is_in (in-part-tells _ 2 k m))
        (or-true-either (in_part (a.found * 512) 512 k) _ a.passes)

module _ (card : List ℕ) (sound : SoundCard card) (k : ℕ) (f : NewFile) (offset : ℕ) (blocks : List ℕ) (i : ℕ) (p : Placing card k f offset blocks i) where
  abbrev after : List ℕ
  after = with_file card k f offset blocks i

  abbrev middle : List ℕ
  middle = with_blocks card blocks f.content

  abbrev entry : List ℕ
  entry = new_entry k f offset (get_or blocks 0 0)

  long : length card ≡ card_length
  long = ((sound_exactly card).0 sound).long

  blocks-put : SameBut (in_blocks blocks) card middle
  blocks-put = blocks-named blocks card f.content long p.holds

  middle-long : length middle ≡ card_length
  middle-long = blocks-put.same_length ∙ long

  entry-long : length entry ≡ 32
  entry-long = new-length k f offset (get_or blocks 0 0) p.right_name p.right_time

  size_is : blocks_of f ≡ length blocks
  size_is = omega (arith, p.holds.wide)

  pub placed-named : SameBut (named_by_write blocks i) card (with_file card k f offset blocks i)
  unfolding with_file named_by_write
  placed-named =
      same_then (in_blocks blocks) (in_part (entry_place i) 32) _ card middle _ blocks-put (entry_named_lem middle i entry entry-long middle-long p.in_directory)
      (λ k e. (or-false-left (in_blocks blocks k) _ e, or-false-right (in_blocks blocks k) _ e))

  pub placed-only : OnlyAt (PlaceOfWrite blocks i) card (with_file card k f offset blocks i)
  placed-only = only_at (named_by_write blocks i) (PlaceOfWrite blocks i) card _ placed-named (write-places blocks i)

  unnamed : (k : ℕ) → in_blocks blocks k ≡ false → in_part (entry_place i) 32 k ≡ false → named_by_write blocks i k ≡ false
  unfolding named_by_write
  unnamed k a b = rw (a, b)

  entry-is-new : entry_on after i ≡ entry
  unfolding with_file
  entry-is-new = put-entry middle i entry entry-long middle-long p.in_directory

  table_is : table_of after ≡ table_of middle
  unfolding with_file
  table_is = entry-table middle i entry entry-long middle-long p.in_directory

  block-is : (b : ℕ) → b < 200 → block_at after b ≡ block_at middle b
  unfolding with_file
  block-is b h = entry-block middle i entry entry-long middle-long p.in_directory b (inl (omega arith))

  link_stays : (b : ℕ) → b < 256 → has b blocks ≡ false → fat_entry (table_of after) b ≡ fat_entry (table_of card) b
  link_stays b h e =
      same-fat _ card after placed-named b h
      (λ k q r. unnamed k (blocks-other-link blocks p.holds.low b h e k q r)
      (in-part-out (entry_place i) 32 k (inr (omega (arith, entry-inside i p.in_directory, fat-inside b h)))))

  pub block-stays : (b : ℕ) → b < 200 → has b blocks ≡ false → block_at (with_file card k f offset blocks i) b ≡ block_at card b
  block-stays b h e =
      same_block _ card after placed-named b
      (λ k q r. unnamed k (blocks-other-bytes blocks p.holds.low b h e k q r)
      (in-part-out (entry_place i) 32 k (inl (omega (arith, entry-inside i p.in_directory)))))

  -- ---- the entry

  kind_is : kind (entry_on after i) ≡ k
  kind_is = ap kind entry-is-new ∙ new-kind k f offset (get_or blocks 0 0) p.right_name p.right_time

  first-is : first_block (entry_on after i) ≡ get_or blocks 0 0
  first-is = ap first_block entry-is-new ∙ new-first k f offset (get_or blocks 0 0) p.right_name p.right_time

  sized : size (entry_on after i) ≡ blocks_of f
  sized = ap size entry-is-new ∙ new-size k f offset (get_or blocks 0 0) p.right_name p.right_time

  flagged : flag (entry_on after i) ≡ f.flag
  flagged = ap flag entry-is-new ∙ new-flag k f offset (get_or blocks 0 0) p.right_name p.right_time

  named : name_of (entry_on after i) ≡ f.name
  named = ap name_of entry-is-new ∙ new_name k f offset (get_or blocks 0 0) p.right_name p.right_time

  offset_is : header_offset (entry_on after i) ≡ offset
  offset_is = ap header_offset entry-is-new ∙ new-offset k f offset (get_or blocks 0 0) p.right_name p.right_time

  is_used_lem : is_used (entry_on after i) ≡ true
  unfolding is_used
  is_used_lem = ap not (ne_eqb (kind (entry_on after i)) 0x00 (λ d. ⊎_elim (λ t. omega (arith, kind_is, t, d)) (λ t. omega (arith, kind_is, t, d)) p.right_kind))

  right : wrong_entry (entry_on after i) ≡ false
  right =
      right-fields (entry_on after i) (⊎_elim (λ t. inl (kind_is ∙ t)) (λ t. inr (kind_is ∙ t)) p.right_kind)
      (omega (arith, first-is, all-at (λ b. b < 200) blocks 0 p.holds.low p.not_empty 0))
      (omega (arith, sized, size_is, p.not_empty)) (omega (arith, sized, size_is, p.at_most_200))
      (λ d. omega (arith, offset_is, sized, size_is, p.right_offset (sym kind_is ∙ d)))

  chained : chain (table_of after) (size (entry_on after i)) (first_block (entry_on after i)) ≡ Some blocks
  chained = rw (table_is, sized, size_is, first-is) (go blocks p.not_empty p.holds)
    where
      go : (blocks : List ℕ) → 1 ≤ length blocks → HoldsBytes blocks f.content → chain (table_of (with_blocks card blocks f.content)) (length blocks) (get_or blocks 0 0) ≡ Some blocks
      go [] n h = absurd (omega arith)
      go (b ∷ blocks) n h = links-chain _ (blocks-links b blocks card f.content long h)

  had-none : file_on card i ≡ []
  had-none = no_file (table_of card) (entry_on card i) p.was_unused

  pub placed-replaced : Replaced card (with_file card k f offset blocks i) i blocks
  unfolding is_game
  placed-replaced = record {
    in_directory = p.in_directory;
    long = placed-named.same_length;
    root =
        same-root _ card after placed-named
        (λ k q. unnamed k (blocks-root blocks p.holds.low k q) (in-part-out (entry_place i) 32 k (inr (omega (arith, entry-inside i p.in_directory)))));
    others = λ j h n. same_entry _ card after placed-named j h
        (λ k q r. unnamed k (blocks-directory blocks p.holds.low k (omega (arith, entry-inside j h)) (omega (arith, entry-inside j h)))
        (apart_out (entry_place i) 32 (entry_place j) 32 k (entry-apart i j p.in_directory h (λ d. n (sym d))) q r));
    above = λ b l h. link_stays b h (above-not b l (has b blocks) refl);
    stays = λ b h e g. link_stays b (omega arith) g;
    left = λ b h e g. absurd (false≢true (sym (ap (has b) had-none) ∙ e));
    taken = λ b e g. p.free b e;
    right = right;
    unused = λ u. absurd (true≢false (sym is_used_lem ∙ u));
    chained = λ u. chained;
    own_name = λ u j v n e. p.new_name j v (e ∙ named);
    game = λ g. game (sym kind_is ∙ eqb-true (kind (entry_on after i)) 0xCC g);
  }
    where
      above-not : (b : ℕ) → 200 ≤ b → (t : Bool) → has b blocks ≡ t → t ≡ false
      above-not b l false e = refl
      above-not b l true e = absurd (omega (arith, all-has (λ b. b < 200) blocks b p.holds.low e))

      game : k ≡ 0xCC → NewGame card after i blocks
      game t = record {
        only_game = λ j h n. p.only_game t j h;
        from_0 = first-is ∙ (p.game_place t).0;
        is_rising = (p.game_place t).1;
        at_most_128 = omega (arith, sized, size_is, (p.game_place t).2);
      }

  pub placed-sound : SoundCard (with_file card k f offset blocks i)
  placed-sound = replaced-sound card sound after i blocks placed-replaced

  used : UsedEntry after i
  used = record { in_directory = p.in_directory; is_used_lem = is_used_lem }

  placed-reads : file_bytes after i ≡ f.content
  unfolding file_bytes
  placed-reads =
      ap (λ (l : List ℕ). concat (map (block_at after) l)) (new-file card sound after i blocks placed-replaced)
      ∙ ap concat (map-in (block_at after) (block_at middle) blocks (all-mono (λ b. b < 200) (λ b. block_at after b ≡ block_at middle b) block-is blocks p.holds.low))
      ∙ blocks-bytes blocks card f.content long p.holds

  pub placed-file : NewFileAt (with_file card k f offset blocks i) i k f offset blocks
  placed-file = record {
    used = used;
    found = ap (entry_named (directory_of after)) (sym named) ∙ found_by_name after placed-sound i used;
    kind_is = kind_is;
    flag_is = flagged;
    name_is = named;
    time_is = ap time_of entry-is-new ∙ new-time k f offset (get_or blocks 0 0) p.right_name p.right_time;
    size_is = sized;
    offset_is = offset_is;
    reserved = ap (drop 0x1c) entry-is-new ∙ new-reserved k f offset (get_or blocks 0 0) p.right_name p.right_time;
    blocks_are = new-file card sound after i blocks placed-replaced;
    reads = placed-reads;
    reads_back = λ index buffer h l. rw (named, placed-reads) at (reads_block after placed-sound i index buffer used (omega (arith, sized)) l);
  }

  pub placed-others : (j : ℕ) → j < 208 → j ≢ i → SameFile card (with_file card k f offset blocks i) j
  placed-others j h n = record {
    entry = placed-replaced.others j h n;
    blocks = other-file card sound after i blocks placed-replaced j h n;
    bytes = other_bytes card sound after i blocks placed-replaced j h n block-stays;
  }

  -- a block that is not free is not taken
  pub placed-kept : (b : ℕ) → b < 200 → fat_entry (table_of card) b ≢ 0xFFFC → KeptBlock card (with_file card k f offset blocks i) b
  unfolding link_at
  placed-kept b h n = record { link = link_stays b (omega arith) apart; bytes = block-stays b h apart }
    where
      go : (t : Bool) → has b blocks ≡ t → t ≡ false
      go false e = refl
      go true e = absurd (n (free_is (fat_entry (table_of card) b) (p.free b e)))

      apart : has b blocks ≡ false
      apart = go (has b blocks) refl
