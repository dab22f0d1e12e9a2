-- What a delete leaves. Assumes nothing.
use Prim.Native.Nat.{ℕ, ◌+◌, ◌*◌, ◌≤◌, ◌<◌}
use mathlib.Core.Path.{◌≡◌, refl, sym, ap, ◌∙◌}
use mathlib.Core.Bool.{Bool, true, false, not, true≢false, false≢true}
use mathlib.Core.List.{List, [], ◌∷◌}
use Rattle.std.specs.Prelude.{Option, None, Some}
use Rattle.std.proofs.lemmas.Option.{same_Some}
use mathlib.Core.Logic.{◌≢◌, ◌⊎◌, inl, inr, ⊎_elim}
use native.Mathlib.Omega.{arith}
use native.Mathlib.Decide.{ℕ_discrete}
use lib.Dec.{eqb}
use lib.ListN.{length, replicate}
use borrow.Author.Tests.{eqb-true, ne_eqb, not-false}
use Rattle.words.specs.Lists.{has, is_some}
use Rattle.words.proofs.Bools.{or-false-left, or-false-right, or-true-either, or-true-first, and-true-left, and-true-right}
use Rattle.words.proofs.ListLaws.{All}
use Rattle.words.proofs.JoinLaws.{all-has, any-among, none-range}
use Rattle.words.proofs.SearchLaws.{lowest-some, lowest-nothing}
use Rattle.words.proofs.WordLaws.{same-eq, ne_same}
use Rattle.verdicts.specs.declared.Place.TheVariants.{Whole}
use Rattle.verdicts.specs.Rows.{done, accepted, row_at}
use Rattle.card_model.specs.Layout.{card_length, block_at, fat_place, table_of, entry_place, directory_of}
use Rattle.card_model.specs.Table.{fat_entry, link_of, link_at}
use Rattle.card_model.specs.Entries.{kind, name_of, is_used, is_game, wrong_entry, is_named}
use Rattle.card_model.specs.Files.{files_before}
use Rattle.card_model.specs.Calls.{verdict_of, entry_named}
use Rattle.card_model.specs.Sound.{SoundCard, entry_on, file_on, UsedEntry}
use Rattle.card_model.proofs.SoundLaws.{sound_exactly, accepted_sound, unless-accepts, at-accepts}
use Rattle.card_model.proofs.TestLaws.{in-files}
use Rattle.card_model.proofs.ReadLaws.{found_by_name}
use Rattle.card_updates.specs.Parts.{with_link}
use Rattle.card_updates.specs.Delete.{delete_rows, delete_verdict, freed, without_file, deleted}
use Rattle.card_updates.specs.Theorems.{PlaceOfDelete, delete_link, delete_entry, DeleteLeaves, DeleteDone}
use Rattle.card_updates.proofs.NamedBytes.{in_part, SameBut, in_links, named_by_delete}
use Rattle.card_updates.proofs.PartLaws.{in-part-out, same_none, same_then, in-part-tells, only_at, none_in}
use Rattle.card_updates.proofs.PlaceLaws.{fat-inside, entry-inside, fat-apart, entry-apart, apart_out, same-fat, same_entry, same_block, same-root}
use Rattle.card_updates.proofs.PlaceLaws.{put-entry, put-link, link-named, entry_named_lem, entry-table}
use Rattle.card_updates.proofs.ReplaceLaws.{all_in, Replaced, in-file-below, other-file, replaced-sound, same_orphans, other_bytes}

-- ---- what a search by name tells

pub named-tells : (card name : List ℕ) (i : ℕ) → entry_named (directory_of card) name ≡ Some i → UsedEntry card i × (name_of (entry_on card i) ≡ name)
unfolding entry_named is_named
named-tells card name i e =
    let l = lowest-some (λ j. is_named name (entry_on card j)) 0 208 i e in (
      record { in_directory = omega (arith, l.high); is_used_lem = and-true-left (is_used (entry_on card i)) _ l.passes },
      same-eq _ _ (and-true-right (is_used (entry_on card i)) _ l.passes),
    )

pub none_named : (card name : List ℕ) → ((j : ℕ) → UsedEntry card j → name_of (entry_on card j) ≢ name) → entry_named (directory_of card) name ≡ None
unfolding entry_named is_named
none_named card name f = lowest-nothing (λ j. is_named name (entry_on card j)) 0 208 (λ j a b. other j (omega arith) (is_used (entry_on card j)) refl)
  where
    other : (j : ℕ) → j < 208 → (t : Bool) → is_used (entry_on card j) ≡ t → is_named name (entry_on card j) ≡ false
    other j h false u = rw u
    other j h true u = rw u (ne_same (name_of (entry_on card j)) name (f j (record { in_directory = h; is_used_lem = u })))

-- two used entries have different names
pub names-differ : (card : List ℕ) → SoundCard card → (i j : ℕ) → UsedEntry card i → UsedEntry card j → j ≢ i → name_of (entry_on card j) ≢ name_of (entry_on card i)
names-differ card s i j u v n e =
    n (same_Some _ _ (sym (found_by_name card s j v) ∙ ap (entry_named (directory_of card)) e ∙ found_by_name card s i u))

-- a block in no file is not in this one
pub not-in-file : (card : List ℕ) (b i : ℕ) → i < 208 → has b (files_before (table_of card) (directory_of card) 208) ≡ false → has b (file_on card i) ≡ false
not-in-file card b i h e = none-range (λ j. has b (file_on card j)) 0 208 (sym (in-files card 208 b) ∙ e) i (omega arith) (omega arith)

-- ---- the table entries of blocks

module _ (blocks : List ℕ) where
  -- of another block
  pub links-other : (c k : ℕ) → has c blocks ≡ false → fat_place c ≤ k → k < fat_place c + 2 → in_links blocks k ≡ false
  unfolding in_links
  links-other c k n l h =
      none_in (λ b. in_part (fat_place b) 2 k) blocks (λ b e. apart_out (fat_place b) 2 (fat_place c) 2 k (fat-apart b c (λ d. differ b e d)) l h)
    where
      differ : (b : ℕ) → has b blocks ≡ true → b ≢ c
      differ b e d = true≢false (sym e ∙ ap (λ (x : ℕ). has x blocks) d ∙ n)

  module _ (low : All (λ b. b < 200) blocks) where
    -- outside the table
    pub links-outside : (k : ℕ) → (k < 254 * 512) ⊎ (255 * 512 ≤ k) → in_links blocks k ≡ false
    unfolding in_links
    links-outside k d = none_in (λ b. in_part (fat_place b) 2 k) blocks (λ b e. in-part-out (fat_place b) 2 k (out b (fat-inside b (below b e)) d))
      where
        below : (b : ℕ) → has b blocks ≡ true → b < 256
        below b e = omega (arith, all-has (λ b. b < 200) blocks b low e)

        out : (b : ℕ) → (254 * 512 ≤ fat_place b) × (fat_place b + 2 ≤ 255 * 512) → (k < 254 * 512) ⊎ (255 * 512 ≤ k) → (k < fat_place b) ⊎ (fat_place b + 2 ≤ k)
        out b f = ⊎_elim (λ x. inl (omega arith)) (λ x. inr (omega arith))

-- ---- a chain that is freed

pub freed-named : (blocks card : List ℕ) → length card ≡ card_length → All (λ b. b < 200) blocks → SameBut (in_links blocks) card (freed card blocks)
unfolding freed in_links
freed-named [] card l low = same_none _ card
freed-named (b ∷ blocks) card l low =
    let h : b < 256 = omega (arith, low.0) in
    let s = link-named card b 0xFFFC l h in
    same_then (in_part (fat_place b) 2) (in_links blocks) (in_links (b ∷ blocks)) card (with_link card b 0xFFFC) (freed (with_link card b 0xFFFC) blocks)
    s (freed-named blocks (with_link card b 0xFFFC) (s.same_length ∙ l) low.1)
    (λ k e. (or-false-left (in_part (fat_place b) 2 k) _ e, or-false-right (in_part (fat_place b) 2 k) _ e))

freed-free : (blocks card : List ℕ) → length card ≡ card_length → All (λ b. b < 200) blocks
    → (c : ℕ) → has c blocks ≡ true → fat_entry (table_of (freed card blocks)) c ≡ 0xFFFC
unfolding freed
freed-free [] card l low c e = absurd (false≢true e)
freed-free (b ∷ blocks) card l low c e = go (has c blocks) refl (freed-free blocks next (s.same_length ∙ l) low.1 c)
  where
    h : b < 256
    h = omega (arith, low.0)

    next : List ℕ
    next = with_link card b 0xFFFC

    s : SameBut (in_part (fat_place b) 2) card next
    s = link-named card b 0xFFFC l h

    go : (t : Bool) → has c blocks ≡ t → (has c blocks ≡ true → fat_entry (table_of (freed next blocks)) c ≡ 0xFFFC) → fat_entry (table_of (freed next blocks)) c ≡ 0xFFFC
    go true f ih = ih f
    go false f ih =
        let d : b ≡ c = eqb-true b c (or-true-first (eqb b c) (has c blocks) f e) in
        same-fat (in_links blocks) next (freed next blocks) (freed-named blocks next (s.same_length ∙ l) low.1) c (omega (arith, low.0, d)) (λ k p q. links-other blocks c k f p q)
        ∙ ap (fat_entry (table_of next)) (sym d) ∙ put-link card b 0xFFFC l h

-- ---- the card without the file

module _ (card : List ℕ) (sound : SoundCard card) (i : ℕ) (used : UsedEntry card i) where
  abbrev blocks : List ℕ
  blocks = file_on card i

  abbrev after : List ℕ
  after = without_file card i

  long : length card ≡ card_length
  long = ((sound_exactly card).0 sound).long

  low : All (λ b. b < 200) blocks
  low = all_in (λ b. b < 200) blocks (λ b e. in-file-below card sound i b used.in_directory e)

  chain-freed : SameBut (in_links blocks) card (freed card blocks)
  chain-freed = freed-named blocks card long low

  freed-long : length (freed card blocks) ≡ card_length
  freed-long = chain-freed.same_length ∙ long

  named_only : SameBut (named_by_delete blocks i) card after
  unfolding without_file named_by_delete
  named_only =
      same_then (in_links blocks) (in_part (entry_place i) 32) _ card (freed card blocks) _ chain-freed
      (entry_named_lem (freed card blocks) i (replicate 32 0) refl freed-long used.in_directory)
      (λ k e. (or-false-left (in_links blocks k) _ e, or-false-right (in_links blocks k) _ e))

  -- a byte is not named where neither the chain nor the entry has it
  unnamed : (k : ℕ) → in_links blocks k ≡ false → in_part (entry_place i) 32 k ≡ false → named_by_delete blocks i k ≡ false
  unfolding named_by_delete
  unnamed k a b = rw (a, b)

  entry_zeros : entry_on after i ≡ replicate 32 0
  unfolding without_file
  entry_zeros = put-entry (freed card blocks) i (replicate 32 0) refl freed-long used.in_directory

  chain_free : (b : ℕ) → has b blocks ≡ true → fat_entry (table_of after) b ≡ 0xFFFC
  unfolding without_file
  chain_free b e =
      ap (λ (t : List ℕ). fat_entry t b) (entry-table (freed card blocks) i (replicate 32 0) refl freed-long used.in_directory) ∙ freed-free blocks card long low b e

  link_stays : (b : ℕ) → b < 256 → has b blocks ≡ false → fat_entry (table_of after) b ≡ fat_entry (table_of card) b
  link_stays b h e =
      same-fat _ card after named_only b h
      (λ k p q. unnamed k (links-other blocks b k e p q) (in-part-out (entry_place i) 32 k (inr (omega (arith, entry-inside i used.in_directory, fat-inside b h)))))

  data_left : (b : ℕ) → b < 200 → block_at after b ≡ block_at card b
  data_left b h =
      same_block _ card after named_only b
      (λ k p q. unnamed k (links-outside blocks low k (inl (omega arith))) (in-part-out (entry_place i) 32 k (inl (omega (arith, entry-inside i used.in_directory)))))

  unused : is_used (entry_on after i) ≡ false
  unfolding is_used kind
  unused = rw entry_zeros

  is-replaced : Replaced card after i []
  unfolding link_at link_of wrong_entry is_used is_game kind
  is-replaced = record {
    in_directory = used.in_directory;
    long = named_only.same_length;
    root =
        same-root _ card after named_only
        (λ k p. unnamed k (links-outside blocks low k (inr p)) (in-part-out (entry_place i) 32 k (inr (omega (arith, entry-inside i used.in_directory)))));
    others = λ j h n. same_entry _ card after named_only j h
        (λ k p q. unnamed k (links-outside blocks low k (inl (omega (arith, entry-inside j h))))
        (apart_out (entry_place i) 32 (entry_place j) 32 k (entry-apart i j used.in_directory h (λ d. n (sym d))) p q));
    above = λ b l h. link_stays b h (above-not b l (has b blocks) refl);
    stays = λ b h e f. link_stays b (omega arith) e;
    left = λ b h e f. ap link_of (chain_free b e);
    taken = λ b e f. absurd (false≢true e);
    right = rw entry_zeros;
    unused = λ u. refl;
    chained = λ u. absurd (true≢false (sym u ∙ unused));
    own_name = λ u. absurd (true≢false (sym u ∙ unused));
    game = λ g. absurd (false≢true (sym (ap is_game entry_zeros) ∙ g));
  }
    where
      above-not : (b : ℕ) → 200 ≤ b → (t : Bool) → has b blocks ≡ t → t ≡ false
      above-not b l false e = refl
      above-not b l true e = absurd (omega (arith, all-has (λ b. b < 200) blocks b low e))

  named-places : (k : ℕ) → named_by_delete blocks i k ≡ true → PlaceOfDelete card i k
  unfolding named_by_delete in_links
  named-places k e =
      ⊎_elim (λ l. let a = any-among (λ b. in_part (fat_place b) 2 k) blocks l in delete_link a.found a.is_in (in-part-tells _ 2 k a.passes))
      (λ l. delete_entry (in-part-tells (entry_place i) 32 k l)) (or-true-either (in_links blocks k) (in_part (entry_place i) 32 k) e)

  pub without-file : DeleteLeaves card after i
  without-file = record {
    sound = replaced-sound card sound after i [] is-replaced;
    same_orphans = same_orphans card sound after i [] is-replaced;
    chain_free = chain_free;
    entry_zeros = entry_zeros;
    data_left = data_left;
    gone = none_named after (name_of (entry_on card i)) (λ j u e. other j u (ℕ_discrete j i) e);
    others = λ j h n. record {
      entry = is-replaced.others j h n;
      blocks = other-file card sound after i [] is-replaced j h n;
      bytes = other_bytes card sound after i [] is-replaced j h n (λ b l f. data_left b l);
    };
    unowned_kept = λ b w. record {
      link = link_stays b (omega (arith, w.user_block)) (not-in-file card b i used.in_directory w.in_no_file);
      bytes = data_left b w.user_block;
    };
    named_only = only_at (named_by_delete blocks i) (PlaceOfDelete card i) card after named_only named-places;
  }
    where
      other : (j : ℕ) → UsedEntry after j → Dec (j ≡ i) → name_of (entry_on after j) ≡ name_of (entry_on card i) → ⊥
      other j u (yes d) e = true≢false (sym u.is_used_lem ∙ ap (λ (x : ℕ). is_used (entry_on after x)) d ∙ unused)
      other j u (no d) e =
          let same = is-replaced.others j u.in_directory d in
          names-differ card sound i j used (record { in_directory = u.in_directory; is_used_lem = ap is_used (sym same) ∙ u.is_used_lem }) d (ap name_of (sym same) ∙ e)

-- ---- the call

leaves : (card name : List ℕ) (i : ℕ) → delete_verdict card name ≡ done → entry_named (directory_of card) name ≡ Some i
    → DeleteLeaves card (deleted card name) i
unfolding delete_verdict deleted
leaves card name i v e =
    let a = unless-accepts (verdict_of card) _ (ap accepted v) in
    let s = accepted_sound card (eqb-true _ _ a.0) in
    rw (v, e) (without-file card s i (named-tells card name i e).0)

pub deletes : (card name : List ℕ) → delete_verdict card name ≡ done → DeleteDone card name (deleted card name)
unfolding delete_verdict delete_rows
deletes card name v = go (entry_named (directory_of card) name) refl
  where
    -- 31 did not refuse
    found : is_some (entry_named (directory_of card) name) ≡ true
    found =
        let rows = (unless-accepts (verdict_of card) _ (ap accepted v)).1 in
        not-false _ (at-accepts 31 Whole _ refl (unless-accepts (row_at 33 Whole (not (eqb (length name) 12))) _ rows).1)

    go : (o : Option ℕ) → entry_named (directory_of card) name ≡ o → DeleteDone card name (deleted card name)
    go None e = absurd (false≢true (sym (ap is_some e) ∙ found))
    go (Some i) e =
        let n = named-tells card name i e in
        record { at_entry = i; was_used = n.0; had_name = n.1; leaves = leaves card name i v e }

pub delete_refused : (card name : List ℕ) → (delete_verdict card name).number ≢ 0 → deleted card name ≡ card
unfolding deleted
delete_refused card name n = rw (ne_eqb (delete_verdict card name).number 0 n)
