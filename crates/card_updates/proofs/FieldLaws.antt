-- What is answered of a directory looks at its entries' bytes but for the copy flag. Assumes nothing.
use Prim.Native.Nat.{ℕ, ◌+◌, ◌-◌}
use mathlib.Core.Path.{◌≡◌, refl, sym, ap, ◌∙◌}
use mathlib.Core.Bool.{Bool, not, ◌&&◌}
use mathlib.Core.List.{List, map}
use Rattle.std.specs.Prelude.{Option, None, Some}
use lib.ListN.{length, take, drop}
use lib.Seq.{drop-drop}
use Rattle.words.specs.Lists.{any_of, concat, has, numbers_from, keep}
use Rattle.words.specs.Search.{lowest}
use Rattle.words.specs.Words.{word}
use Rattle.card_model.specs.Answers.{Listing}
use Rattle.card_model.specs.Table.{link_at, free_or_damaged}
use Rattle.card_model.specs.Entries.{kind, first_block, name_of, time_of, size, header_offset, is_used, is_data, is_game, entry_at}
use Rattle.card_model.specs.Entries.{wrong_kind, wrong_first, wrong_size, wrong_offset, wrong_entry, entry_row, is_named, name_taken, name_row}
use Rattle.card_model.specs.Files.{chain_of, bad_chain, chain_row, file_of, files_before, shares_block, sharing_row, breaks_game_rule, game_row, is_orphan, orphans}
use Rattle.card_model.specs.Calls.{directory_rows, first_used, listed_entry, listed_from, entry_named, index_row}
use Rattle.card_updates.specs.Write.{lowest_unused}
use Rattle.card_updates.specs.Flags.{ListedAlike}
use Rattle.card_updates.proofs.FileLaws.{word-drop}

-- ---- one entry

-- equal but for byte 1
pub record EntryAlike (entry other : List ℕ) : Type 0 where
  pub same_kind : kind other ≡ kind entry
  pub same_rest : drop 2 other ≡ drop 2 entry

module _ (entry other : List ℕ) (s : EntryAlike entry other) where
  same_word : (k : ℕ) → word other (2 + k) ≡ word entry (2 + k)
  same_word k = word-drop other 2 k ∙ rw s.same_rest (sym (word-drop entry 2 k))

  same_from : (k : ℕ) → drop (2 + k) other ≡ drop (2 + k) entry
  same_from k = sym (drop-drop k 2 other) ∙ rw s.same_rest (drop-drop k 2 entry)

  same_first : first_block other ≡ first_block entry
  unfolding first_block
  same_first = same_word 0x00

  same_name : name_of other ≡ name_of entry
  unfolding name_of
  same_name = ap (take 12) (same_from 0x02)

  same_time : time_of other ≡ time_of entry
  unfolding time_of
  same_time = ap (take 8) (same_from 0x0e)

  pub same_size : size other ≡ size entry
  unfolding size
  same_size = same_word 0x16

  same_offset : header_offset other ≡ header_offset entry
  unfolding header_offset
  same_offset = same_word 0x18

  same-used : is_used other ≡ is_used entry
  unfolding is_used
  same-used = rw s.same_kind

  same-game : is_game other ≡ is_game entry
  unfolding is_game
  same-game = rw s.same_kind

  same-wrong : wrong_entry other ≡ wrong_entry entry
  unfolding wrong_entry wrong_kind wrong_first wrong_size wrong_offset is_used is_data is_game
  same-wrong = rw (s.same_kind, same_first, same_size, same_offset)

  same-named : (name : List ℕ) → is_named name other ≡ is_named name entry
  unfolding is_named
  same-named name = rw (same-used, same_name)

  same-bad-chain : (table : List ℕ) → bad_chain table other ≡ bad_chain table entry
  unfolding bad_chain chain_of
  same-bad-chain table = rw (same-used, same_first, same_size)

  pub same-file : (table : List ℕ) → file_of table other ≡ file_of table entry
  unfolding file_of chain_of
  same-file table = rw (same-used, same_first, same_size)

  same-listed : (i : ℕ) → ListedAlike (listed_entry i entry) (listed_entry i other)
  unfolding listed_entry
  same-listed i = record {
    same_verdict = refl;
    same_entry = refl;
    same_kind = s.same_kind;
    same_first = same_first;
    same_size = same_size;
    same_offset = same_offset;
    same_name = same_name;
    same_time = same_time;
  }

pub alike_refl : (l : Listing) → ListedAlike l l
alike_refl l = record {
  same_verdict = refl;
  same_entry = refl;
  same_kind = refl;
  same_first = refl;
  same_size = refl;
  same_offset = refl;
  same_name = refl;
  same_time = refl;
}

-- ---- all of them

module _ (directory others : List (List ℕ)) (s : (i : ℕ) → EntryAlike (entry_at directory i) (entry_at others i)) where
  abbrev a : ℕ → List ℕ
  a = entry_at directory

  abbrev b : ℕ → List ℕ
  b = entry_at others

  -- the first entry that passes tests which agree
  same-lowest : (p q : ℕ → Bool) → ((i : ℕ) → q i ≡ p i) → (start n : ℕ) → lowest q start n ≡ lowest p start n
  same-lowest p q h start n = ap (λ (t : ℕ → Bool). lowest t start n) (λ k i. h i k)

  pub same-named-entry : (name : List ℕ) → entry_named others name ≡ entry_named directory name
  unfolding entry_named
  same-named-entry name = same-lowest _ _ (λ i. same-named (a i) (b i) (s i) name) 0 208

  pub same-unused : lowest_unused others ≡ lowest_unused directory
  unfolding lowest_unused
  same-unused = same-lowest _ _ (λ i. ap not (same-used (a i) (b i) (s i))) 0 208

  pub same_index : (index : ℕ) (found : Option ℕ) → index_row others index found ≡ index_row directory index found
  same_index index None = refl
  same_index index (Some i) = rw (same_size (a i) (b i) (s i))

  pub same-listing : (start : ℕ) → ListedAlike (listed_from directory (first_used directory start)) (listed_from others (first_used others start))
  unfolding first_used
  same-listing start =
      rw (same-lowest (λ i. is_used (a i)) (λ i. is_used (b i)) (λ i. same-used (a i) (b i) (s i)) start (208 - start))
      (go (lowest (λ i. is_used (a i)) start (208 - start)))
    where
      go : (found : Option ℕ) → ListedAlike (listed_from directory found) (listed_from others found)
      go None = alike_refl (listed_from directory None)
      go (Some i) = same-listed (a i) (b i) (s i) i

  module _ (table : List ℕ) where
    same-files : (i : ℕ) → files_before table others i ≡ files_before table directory i
    unfolding files_before
    same-files i = ap (λ (f : ℕ → List ℕ). concat (map f (numbers_from 0 i))) (λ k j. same-file (a j) (b j) (s j) table k)

    same-shared : (i : ℕ) → shares_block table others i ≡ shares_block table directory i
    unfolding shares_block
    same-shared i = rw (same-files i, same-file (a i) (b i) (s i) table)

    same_taken : (i : ℕ) → name_taken others i ≡ name_taken directory i
    unfolding name_taken
    same_taken i =
        rw (same-used (a i) (b i) (s i), same_name (a i) (b i) (s i))
        (ap (λ (p : ℕ → Bool). is_used (a i) && any_of p (numbers_from 0 i)) (λ k j. same-named (a j) (b j) (s j) (name_of (a i)) k))

    same-game-rule : (i : ℕ) → breaks_game_rule table others i ≡ breaks_game_rule table directory i
    unfolding breaks_game_rule
    same-game-rule i =
        rw (same-game (a i) (b i) (s i), same_first (a i) (b i) (s i), same-file (a i) (b i) (s i) table, same_size (a i) (b i) (s i), earlier)
      where
        earlier : any_of (λ j. is_game (b j)) (numbers_from 0 i) ≡ any_of (λ j. is_game (a j)) (numbers_from 0 i)
        earlier = ap (λ (p : ℕ → Bool). any_of p (numbers_from 0 i)) (λ k j. same-game (a j) (b j) (s j) k)

    -- 26 to 30
    pub same_rows : directory_rows table others ≡ directory_rows table directory
    unfolding directory_rows entry_row chain_row sharing_row name_row game_row
    same_rows = rw (
      same-lowest (λ i. wrong_entry (a i)) (λ i. wrong_entry (b i)) (λ i. same-wrong (a i) (b i) (s i)) 0 208,
      same-lowest (λ i. bad_chain table (a i)) (λ i. bad_chain table (b i)) (λ i. same-bad-chain (a i) (b i) (s i) table) 0 208,
      same-lowest (shares_block table directory) (shares_block table others) same-shared 0 208,
      same-lowest (name_taken directory) (name_taken others) same_taken 0 208,
      same-lowest (breaks_game_rule table directory) (breaks_game_rule table others) same-game-rule 0 208,
    )

    same-orphan : (x : ℕ) → is_orphan table others x ≡ is_orphan table directory x
    unfolding is_orphan
    same-orphan x = ap (λ (files : List ℕ). not (free_or_damaged (link_at table x)) && not (has x files)) (same-files 208)

    pub same_orphans : orphans table others ≡ orphans table directory
    unfolding orphans
    same_orphans = ap (λ (p : ℕ → Bool). length (keep p (numbers_from 0 200))) (λ k x. same-orphan x k)
