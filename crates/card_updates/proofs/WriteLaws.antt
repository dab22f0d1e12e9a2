-- What a write leaves. Assumes nothing.
use Prim.Native.Nat.{ℕ, zero, suc, ◌%◌, ◌≤◌, ◌<◌}
use mathlib.Core.Path.{◌≡◌, refl, sym, ap, subst, ◌∙◌}
use mathlib.Core.Bool.{Bool, true, false, not, ◌||◌, true≢false, false≢true}
use mathlib.Core.List.{List, [], ◌∷◌, ◌++◌}
use Rattle.std.specs.Prelude.{Option, None, Some}
use mathlib.Core.Logic.{◌≢◌, inl}
use native.Mathlib.Omega.{arith}
use lib.Dec.{eqb, ltb}
use lib.ListN.{length, get_or, take, drop, take-append-drop}
use lib.Seq.{length-take-le, get_or-take}
use borrow.Author.Tests.{eqb-true, eqb-false, ltb-false, leb-false, ne_eqb, not-false, not-true}
use Rattle.words.specs.Lists.{any_of, has, Distinct, is_some}
use Rattle.words.proofs.Bools.{or-false-left, or-false-right}
use Rattle.words.proofs.ListLaws.{All, all_keep, all-mono, keep-passes}
use Rattle.words.proofs.Distinct.{keep-distinct}
use Rattle.words.proofs.JoinLaws.{all-has, any_append}
use Rattle.words.proofs.SearchLaws.{lowest-some, lowest-none}
use Rattle.words.proofs.WordLaws.{eq-same}
use Rattle.verdicts.specs.declared.Place.{Place}
use Rattle.verdicts.specs.declared.Place.TheVariants.{Whole, Entry}
use Rattle.verdicts.specs.Rows.{done, accepted, row_at, row_over}
use Rattle.card_model.specs.declared.Link.{Link}
use Rattle.card_model.specs.declared.Link.TheVariants.{Free, Damaged, Last, Next, Bad}
use Rattle.card_model.specs.Layout.{table_of, directory_of}
use Rattle.card_model.specs.Table.{fat_entry, link_of, link_at, is_free, count_blocks}
use Rattle.card_model.specs.Entries.{name_of, is_used, is_named}
use Rattle.card_model.specs.Calls.{verdict_of, entry_named}
use Rattle.card_model.specs.Sound.{SoundCard, entry_on, UsedEntry}
use Rattle.card_model.proofs.TableLaws.{free_is}
use Rattle.card_model.proofs.SoundLaws.{accepted_sound, unless-accepts, at-accepts}
use Rattle.card_updates.specs.Write.{NewFile, blocks_of, numbers_down, free_blocks, lowest_unused, bad_lengths, data_rows, taken_row, room_row, write_rows, write_verdict}
use Rattle.card_updates.specs.Write.{taken_blocks, written}
use Rattle.card_updates.specs.Theorems.{IsLowestUnused, HighestFree, WriteLeaves, WriteDone}
use Rattle.card_updates.proofs.CountLaws.{count_down, has_kept}
use Rattle.card_updates.proofs.SortLaws.{Sorted, sorted-keep, sorted-across, sorted-at, numbers-down, down-sorted, down-has}
use Rattle.card_updates.proofs.RoomLaws.{never_full}
use Rattle.card_updates.proofs.ReplaceLaws.{same_orphans}
use Rattle.card_updates.proofs.FileLaws.{HoldsBytes}
use Rattle.card_updates.proofs.PlacedLaws.{Placing, placed-only, placed-replaced, placed-sound, placed-file, placed-others, placed-kept}

-- ---- the blocks that are taken

not-down : (n m : ℕ) → m ≤ n → has n (numbers_down m) ≡ false
not-down n zero h = refl
not-down n (suc m) h = rw (ne_eqb m n (λ d. omega arith), not-down n m (omega arith))

down-distinct : (n : ℕ) → Distinct (numbers_down n)
down-distinct zero = tt
down-distinct (suc n) = (not-down n n (omega arith), down-distinct n)

pub is_free_lem : (l : Link) → is_free l ≡ true → l ≡ Free
is_free_lem Free e = refl
is_free_lem Damaged e = absurd (false≢true e)
is_free_lem Last e = absurd (false≢true e)
is_free_lem (Next n) e = absurd (false≢true e)
is_free_lem Bad e = absurd (false≢true e)

module _ (table : List ℕ) where
  pub free-low : All (λ b. b < 200) (free_blocks table)
  unfolding free_blocks
  free-low = all_keep (λ b. b < 200) (λ b. is_free (link_at table b)) (numbers_down 200) (numbers-down 200)

  pub free-are : All (λ b. link_at table b ≡ Free) (free_blocks table)
  unfolding free_blocks
  free-are =
      all-mono (λ b. is_free (link_at table b) ≡ true) (λ b. link_at table b ≡ Free) (λ b e. is_free_lem (link_at table b) e) (free_blocks table)
      (keep-passes (λ b. is_free (link_at table b)) (numbers_down 200))

  pub free-distinct : Distinct (free_blocks table)
  unfolding free_blocks
  free-distinct = keep-distinct (λ b. is_free (link_at table b)) (numbers_down 200) (down-distinct 200)

pub free-count : (card : List ℕ) → length (free_blocks (table_of card)) ≡ count_blocks card is_free
unfolding free_blocks
free-count card = count_down (λ b. is_free (link_at (table_of card) b)) 200

pub all_take : (P : ℕ → Type 0) (n : ℕ) (l : List ℕ) → All P l → All P (take n l)
all_take P zero l a = tt
all_take P (suc n) [] a = tt
all_take P (suc n) (x ∷ l) a = (a.0, all_take P n l a.1)

pub none-take : (p : ℕ → Bool) (n : ℕ) (l : List ℕ) → any_of p l ≡ false → any_of p (take n l) ≡ false
none-take p zero l e = refl
none-take p (suc n) [] e = refl
none-take p (suc n) (x ∷ l) e = rw (or-false-left (p x) (any_of p l) e, none-take p n l (or-false-right (p x) (any_of p l) e))

pub distinct-take : (n : ℕ) (l : List ℕ) → Distinct l → Distinct (take n l)
distinct-take zero l d = tt
distinct-take (suc n) [] d = tt
distinct-take (suc n) (x ∷ l) d = (none-take (λ m. eqb m x) n l d.0, distinct-take n l d.1)

-- the first n free blocks are the n highest
module _ (card : List ℕ) (n : ℕ) where
  abbrev frees : List ℕ
  frees = free_blocks (table_of card)

  free-falls : Sorted (λ x y. y < x) (free_blocks (table_of card))
  unfolding free_blocks
  free-falls = sorted-keep (λ x y. y < x) (λ b. is_free (link_at (table_of card) b)) (numbers_down 200) (down-sorted 200)

  free-has : (b : ℕ) → b < 200 → fat_entry (table_of card) b ≡ 0xFFFC → has b (free_blocks (table_of card)) ≡ true
  unfolding free_blocks link_at link_of
  free-has b h e = has_kept (λ b. is_free (link_at (table_of card) b)) (numbers_down 200) b (down-has 200 b h) (ap (λ (x : ℕ). is_free (link_of x)) e)

  free-entry : (b : ℕ) → link_at (table_of card) b ≡ Free → fat_entry (table_of card) b ≡ 0xFFFC
  unfolding link_at
  free-entry b e = free_is (fat_entry (table_of card) b) e

  highest-free : n ≤ length (free_blocks (table_of card)) → HighestFree card (take n (free_blocks (table_of card)))
  highest-free many = record {
    were_free = λ b e. (
      all-has (λ b. b < 200) (take n frees) b (all_take (λ b. b < 200) n frees (free-low (table_of card))) e,
      free-entry b (all-has (λ b. link_at (table_of card) b ≡ Free) (take n frees) b (all_take (λ b. link_at (table_of card) b ≡ Free) n frees (free-are (table_of card))) e),
    );
    falling = λ j k h l. falls j k h (omega (arith, l, length-take-le n frees many));
    highest = λ b h e f c g. sorted-across (λ x y. y < x) (take n frees) (drop n frees) c b (subst (Sorted (λ x y. y < x)) (sym split) free-falls) g (in_rest b h e f);
  }
    where
      split : take n frees ++ drop n frees ≡ frees
      split = take-append-drop n frees

      in_rest : (b : ℕ) → b < 200 → fat_entry (table_of card) b ≡ 0xFFFC → has b (take n frees) ≡ false → has b (drop n frees) ≡ true
      in_rest b h e f = rw f at (sym (any_append (λ x. eqb x b) (take n frees) (drop n frees)) ∙ ap (has b) split ∙ free-has b h e)

      falls : (j k : ℕ) → j < k → k < n → get_or (take n frees) k 0 < get_or (take n frees) j 0
      falls j k h l =
          let m = sorted-at (λ x y. y < x) frees j k free-falls h (omega (arith, l, many)) in
          let a : get_or (take n frees) k 0 ≡ get_or frees k 0 = get_or-take n frees k 0 l in
          let b : get_or (take n frees) j 0 ≡ get_or frees j 0 = get_or-take n frees j 0 (omega arith) in
          rw (a, b) m

-- ---- the call

pub over_none : (n : ℕ) (place : ℕ → Place) (o : Option ℕ) → eqb n 0 ≡ false → accepted (row_over n place o) ≡ true → o ≡ None
over_none n place None h e = refl
over_none n place (Some i) h e = absurd (false≢true (sym h ∙ e))

pub not_named : (card name : List ℕ) → entry_named (directory_of card) name ≡ None → (j : ℕ) → UsedEntry card j → name_of (entry_on card j) ≢ name
unfolding entry_named is_named
not_named card name e j u d =
    let n = lowest-none (λ i. is_named name (entry_on card i)) 0 208 e j (omega arith) (omega (arith, u.in_directory)) in
    let m : is_named name (entry_on card j) ≡ true = rw u.is_used_lem (eq-same _ _ d) in
    true≢false (sym m ∙ n)

pub unused-at : (card : List ℕ) (i : ℕ) → lowest_unused (directory_of card) ≡ Some i → IsLowestUnused card i
unfolding lowest_unused
unused-at card i e =
    let l = lowest-some (λ j. not (is_used (entry_on card j))) 0 208 i e in
    record {
      in_directory = omega (arith, l.high);
      is_unused = not-true _ l.passes;
      used_below = λ j h. not-false _ (l.none_below j (omega arith) h);
    }

-- the lengths that 33 does not refuse
pub record RightLengths (f : NewFile) : Type 0 where
  pub right_name : length f.name ≡ 12
  pub right_time : length f.time ≡ 8
  pub whole : length f.content % 512 ≡ 0
  pub not_empty : blocks_of f ≢ 0

pub right-lengths : (f : NewFile) → bad_lengths f ≡ false → RightLengths f
unfolding bad_lengths
right-lengths f e =
    let n = not (eqb (length f.name) 12) in
    let t = not (eqb (length f.time) 8) in
    let w = not (eqb (length f.content % 512) 0) in
    let a = or-false-right n _ e in
    let b = or-false-right t _ a in
    record {
      right_name = eqb-true _ _ (not-false _ (or-false-left n _ e));
      right_time = eqb-true _ _ (not-false _ (or-false-left t _ a));
      whole = eqb-true _ _ (not-false _ (or-false-left w _ b));
      not_empty = eqb-false _ _ (or-false-right w _ b);
    }

-- what no row of a write refuses
pub record PassedRows (card : List ℕ) (f : NewFile) (offset : ℕ) : Type 0 where
  pub is_sound : SoundCard card
  pub lengths : RightLengths f
  pub few : blocks_of f ≤ 200
  pub offset_below : offset < blocks_of f
  pub unnamed : entry_named (directory_of card) f.name ≡ None
  pub room : blocks_of f ≤ length (free_blocks (table_of card))

pub passed-rows : (card : List ℕ) (f : NewFile) (offset : ℕ) → write_verdict card f offset ≡ done → PassedRows card f offset
unfolding write_verdict write_rows data_rows taken_row room_row
passed-rows card f offset v =
    let table = table_of card in
    let a = unless-accepts (verdict_of card) (write_rows table (directory_of card) f offset) (ap accepted v) in
    let given = unless-accepts (data_rows f offset) _ a.1 in
    let v33 = unless-accepts (row_at 33 Whole (bad_lengths f || ltb 200 (blocks_of f))) _ given.0 in
    let v29 = unless-accepts (taken_row (directory_of card) f.name) _ given.1 in
    let t33 = at-accepts _ _ _ refl v33.0 in
    record {
      is_sound = accepted_sound card (eqb-true _ _ a.0);
      lengths = right-lengths f (or-false-left (bad_lengths f) _ t33);
      few = ltb-false 200 (blocks_of f) (or-false-right (bad_lengths f) _ t33);
      offset_below = leb-false (blocks_of f) offset (at-accepts _ _ _ refl v33.1);
      unnamed = over_none 29 Entry _ refl v29.0;
      room = ltb-false (length (free_blocks table)) (blocks_of f) (at-accepts _ _ _ refl v29.1);
    }

module _ (card : List ℕ) (f : NewFile) (offset : ℕ) (p : PassedRows card f offset) where
  abbrev table : List ℕ
  table = table_of card

  abbrev blocks : List ℕ
  blocks = taken_blocks card f

  pub many : length (taken_blocks card f) ≡ blocks_of f
  unfolding taken_blocks
  many = length-take-le (blocks_of f) (free_blocks table) p.room

  pub taken-holds : HoldsBytes (taken_blocks card f) f.content
  unfolding taken_blocks
  taken-holds = record {
    low = all_take (λ b. b < 200) (blocks_of f) (free_blocks table) (free-low table);
    apart = distinct-take (blocks_of f) (free_blocks table) (free-distinct table);
    wide = omega (arith, many, p.lengths.whole);
  }

  were_free : (b : ℕ) → has b blocks ≡ true → link_at table b ≡ Free
  unfolding taken_blocks
  were_free b e = all-has (λ b. link_at table b ≡ Free) blocks b (all_take (λ b. link_at table b ≡ Free) (blocks_of f) (free_blocks table) (free-are table)) e

  module _ (i : ℕ) (free : lowest_unused (directory_of card) ≡ Some i) where
    is-placing : Placing card 0x33 f offset blocks i
    is-placing = record {
      in_directory = (unused-at card i free).in_directory;
      was_unused = (unused-at card i free).is_unused;
      right_name = p.lengths.right_name;
      right_time = p.lengths.right_time;
      not_empty = omega (arith, many, p.lengths.not_empty);
      at_most_200 = omega (arith, many, p.few);
      holds = taken-holds;
      free = were_free;
      right_kind = inl refl;
      right_offset = λ t. omega (arith, many, p.offset_below);
      new_name = not_named card f.name p.unnamed;
      only_game = λ t. absurd (omega (arith, t));
      game_place = λ t. absurd (omega (arith, t));
    }

    pub leaves : write_verdict card f offset ≡ done → WriteLeaves card (written card f offset) f offset i
    unfolding written taken_blocks
    leaves v = rw (v, free) (record {
      sound = placed-sound card p.is_sound 0x33 f offset blocks i is-placing;
      same_orphans = same_orphans card p.is_sound _ i blocks (placed-replaced card p.is_sound 0x33 f offset blocks i is-placing);
      has_file = placed-file card p.is_sound 0x33 f offset blocks i is-placing;
      lowest_entry = unused-at card i free;
      taken = highest-free card (blocks_of f) p.room;
      others = placed-others card p.is_sound 0x33 f offset blocks i is-placing;
      unowned_kept = λ b w. placed-kept card p.is_sound 0x33 f offset blocks i is-placing b w.user_block w.not_free;
      named_only = placed-only card p.is_sound 0x33 f offset blocks i is-placing;
    })

pub writes : (card : List ℕ) (f : NewFile) (offset : ℕ) → write_verdict card f offset ≡ done → WriteDone card f offset (written card f offset)
writes card f offset v = go (lowest_unused (directory_of card)) refl
  where
    passed : PassedRows card f offset
    passed = passed-rows card f offset v

    go : (o : Option ℕ) → lowest_unused (directory_of card) ≡ o → WriteDone card f offset (written card f offset)
    go None e = absurd (false≢true (sym (ap is_some e) ∙ never_full card passed.is_sound))
    go (Some i) e = record { at_entry = i; leaves = leaves card f offset passed i e v }

pub write_refused : (card : List ℕ) (f : NewFile) (offset : ℕ) → (write_verdict card f offset).number ≢ 0 → written card f offset ≡ card
unfolding written
write_refused card f offset n = rw (ne_eqb (write_verdict card f offset).number 0 n)
