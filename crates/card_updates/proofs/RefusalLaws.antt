-- Delete and write are refused exactly with the first thing that is wrong: each test and its fact, then the rows of each call.
-- Assumes nothing.
use Prim.Native.Nat.{ℕ, ◌*◌, ◌%◌, ◌≤◌, ◌<◌}
use mathlib.Core.Path.{◌≡◌, refl, sym, ap, ◌∙◌}
use mathlib.Core.Bool.{Bool, true, false, not, cond, ◌||◌, true≢false, or-true}
use mathlib.Core.List.{List}
use Rattle.std.specs.Prelude.{Option, None, Some}
use mathlib.Core.Logic.{◌≢◌, ⊎_elim}
use native.Mathlib.Omega.{arith}
use lib.Dec.{eqb, ltb, leb}
use lib.ListN.{length}
use borrow.Author.Tests.{eqb-true, eqb-false, ne_eqb, ltb-true, lt-ltb, leb-true, le-leb, not-true}
use Rattle.words.specs.Lists.{has, is_some}
use Rattle.words.specs.Search.{lowest}
use Rattle.words.proofs.Bools.{and-true-left, and-true-right, or-true-either}
use Rattle.words.proofs.Distinct.{count_same}
use Rattle.words.proofs.SearchLaws.{lowest-none}
use Rattle.words.proofs.WordLaws.{eq-same, same-eq}
use Rattle.verdicts.specs.declared.Place.{Place}
use Rattle.verdicts.specs.declared.Place.TheVariants.{Whole, Entry}
use Rattle.verdicts.specs.Rows.{Verdict}
use Rattle.verdicts.specs.Rows.{place_number, done, accepted, row_at, row_over, unless_refused}
use Rattle.verdicts.proofs.RowLaws.{rows-joined}
use Rattle.card_model.specs.declared.Link.TheVariants.{Free, Damaged, Last, Next, Bad}
use Rattle.card_model.specs.Layout.{table_of, directory_of}
use Rattle.card_model.specs.Table.{fat_entry, link_of, link_at, is_free}
use Rattle.card_model.specs.Entries.{name_of, is_used, is_named}
use Rattle.card_model.specs.Calls.{verdict_of, entry_named}
use Rattle.card_model.specs.Sound.{entry_on, UsedEntry}
use Rattle.card_model.proofs.SoundLaws.{accepted_sound}
use Rattle.card_updates.specs.Delete.{delete_rows, delete_verdict}
use Rattle.card_updates.specs.Write.{NewFile, blocks_of, free_blocks, bad_lengths, data_rows, taken_row, room_row, write_rows, write_verdict}
use Rattle.card_updates.specs.Refusals.{ExactlyOn, free_entries, WrongLengths, wrong_name, wrong_time, wrong_content, WrongFile, name_29, room_34}
use Rattle.card_updates.specs.Refusals.{delete_order, WrongDelete, length_33, nothing_31}
use Rattle.card_updates.specs.Refusals.{write_order, WrongWrite, lengths_33, blocks_33, offset_26, in_file}
use Rattle.card_updates.proofs.DeleteLaws.{none_named}
use Rattle.card_updates.proofs.WriteLaws.{free-count}
use Rattle.card_updates.proofs.FirstWrongLaws.{rows_in, place_of, Tells, Fires, rows-exactly, call-exactly, at-tells, over-tells, at-fires, over-fires, last_row}

-- ---- 33

pub lengths-tell : (f : NewFile) → bad_lengths f ≡ true → WrongLengths f
unfolding bad_lengths
lengths-tell f e =
    ⊎_elim (λ a. wrong_name (eqb-false _ _ (not-true _ a)))
    (λ b. ⊎_elim (λ a. wrong_time (eqb-false _ _ (not-true _ a)))
    (λ c. ⊎_elim (λ a. wrong_content (not-whole (eqb-false _ _ (not-true _ a)))) (λ a. wrong_content (no_block (eqb-true _ _ a)))
    (or-true-either w (eqb (blocks_of f) 0) c)) (or-true-either t (w || eqb (blocks_of f) 0) b)) (or-true-either n (t || (w || eqb (blocks_of f) 0)) e)
  where
    n : Bool
    n = not (eqb (length f.name) 12)

    t : Bool
    t = not (eqb (length f.time) 8)

    w : Bool
    w = not (eqb (length f.content % 512) 0)

    not-whole : length f.content % 512 ≢ 0 → (n : ℕ) → 1 ≤ n → length f.content ≢ 512 * n
    not-whole h n l e = h (omega arith)

    no_block : blocks_of f ≡ 0 → (n : ℕ) → 1 ≤ n → length f.content ≢ 512 * n
    no_block h n l e = omega arith

pub lengths-wrong : (f : NewFile) → WrongLengths f → bad_lengths f ≡ true
unfolding bad_lengths
lengths-wrong f (wrong_name h) = rw (ne_eqb _ _ h)
lengths-wrong f (wrong_time h) = rw (ne_eqb _ _ h) (or-true (not (eqb (length f.name) 12)))
lengths-wrong f (wrong_content h) =
    let z = whole (eqb (length f.content % 512) 0) refl in
    rw z (ap (λ (t : Bool). not (eqb (length f.name) 12) || t) (or-true (not (eqb (length f.time) 8))) ∙ or-true (not (eqb (length f.name) 12)))
  where
    whole : (t : Bool) → eqb (length f.content % 512) 0 ≡ t → (not t || eqb (blocks_of f) 0) ≡ true
    whole false e = refl
    whole true e = many (eqb (blocks_of f) 0) refl
      where
        many : (t : Bool) → eqb (blocks_of f) 0 ≡ t → t ≡ true
        many true g = refl
        many false g =
            let r = eqb-true (length f.content % 512) 0 e in
            let b = eqb-false (blocks_of f) 0 g in
            absurd (h (blocks_of f) (omega arith) (omega arith))

-- ---- 29, 31

module _ (card name : List ℕ) where
  pub named-used : (i : ℕ) → i < 208 → is_named name (entry_on card i) ≡ true → UsedEntry card i × (name_of (entry_on card i) ≡ name)
  unfolding is_named
  named-used i h e =
      (record { in_directory = h; is_used_lem = and-true-left (is_used (entry_on card i)) _ e }, same-eq _ _ (and-true-right (is_used (entry_on card i)) _ e))

  pub used-named : (i : ℕ) → UsedEntry card i → name_of (entry_on card i) ≡ name → is_named name (entry_on card i) ≡ true
  unfolding is_named
  used-named i u e = rw u.is_used_lem (eq-same _ _ e)

  pub no-name-tells : is_some (entry_named (directory_of card) name) ≡ false → (i : ℕ) → UsedEntry card i → name_of (entry_on card i) ≢ name
  unfolding entry_named
  no-name-tells e i u d = go (lowest (λ j. is_named name (entry_on card j)) 0 208) refl e
    where
      go : (o : Option ℕ) → lowest (λ j. is_named name (entry_on card j)) 0 208 ≡ o → is_some o ≡ false → ⊥
      go None q h =
          true≢false (sym (used-named i u d) ∙ lowest-none (λ j. is_named name (entry_on card j)) 0 208 q i (omega arith) (omega (arith, u.in_directory)))
      go (Some j) q h = true≢false h

  -- ---- the row

  pub name-fires : {i : ℕ} → UsedEntry card i → name_of (entry_on card i) ≡ name
      → Fires 29 (Entry i) (row_over 29 Entry (entry_named (directory_of card) name))
  unfolding entry_named
  name-fires {i} u e = over-fires 29 Entry (λ j. is_named name (entry_on card j)) 208 i (λ j. refl) u.in_directory (used-named i u e)

-- ---- 34

free-test : (e : ℕ) → is_free (link_of e) ≡ eqb e 0xFFFC
unfolding link_of
free-test e = go (eqb e 0xFFFC) (eqb e 0xFFFF) (eqb e 0xFFFA) (ltb e 200)
  where
    go : (a b c d : Bool) → is_free (cond a Free (cond b Damaged (cond c Last (cond d (Next e) Bad)))) ≡ a
    go true b c d = refl
    go false true c d = refl
    go false false true d = refl
    go false false false true = refl
    go false false false false = refl

pub free-entries : (card : List ℕ) → length (free_blocks (table_of card)) ≡ free_entries card
unfolding link_at
free-entries card =
    free-count card
    ∙ count_same (λ b. is_free (link_at (table_of card) b)) (λ b. eqb (fat_entry (table_of card) b) 0xFFFC) 0 200 (λ b l h. free-test (fat_entry (table_of card) b))

-- the test of 34
abbrev lacks : List ℕ → NewFile → Bool
lacks card f = ltb (length (free_blocks (table_of card))) (blocks_of f)

lacks-is : (card : List ℕ) (f : NewFile) → lacks card f ≡ ltb (free_entries card) (blocks_of f)
lacks-is card f = ap (λ (n : ℕ). ltb n (blocks_of f)) (free-entries card)

lacks-tells : (card : List ℕ) (f : NewFile) → lacks card f ≡ true → free_entries card < blocks_of f
lacks-tells card f e = ltb-true _ _ (sym (lacks-is card f) ∙ e)

lacks-wrong : (card : List ℕ) (f : NewFile) → free_entries card < blocks_of f → lacks card f ≡ true
lacks-wrong card f h = lacks-is card f ∙ lt-ltb _ _ h

-- ---- delete

module _ (card name : List ℕ) where
  delete_row : ℕ → Verdict
  delete_row n = cond (eqb n 33) (row_at 33 Whole (not (eqb (length name) 12))) (row_at 31 Whole (not (is_some (entry_named (directory_of card) name))))

  delete-known : {n : ℕ} {p : Place} → WrongDelete card name n p → (has n delete_order ≡ true) × (p ≡ place_of n (place_number p))
  unfolding place_of
  delete-known (length_33 h) = (refl, refl)
  delete-known (nothing_31 h) = (refl, refl)

  delete-fires : {n : ℕ} {p : Place} → WrongDelete card name n p → Fires n p (delete_row n)
  unfolding delete_row
  delete-fires (length_33 h) = at-fires 33 _ (ap not (ne_eqb _ _ h))
  delete-fires (nothing_31 h) = at-fires 31 _ (ap (λ (o : Option ℕ). not (is_some o)) (none_named card name h))

  delete-rows : delete_rows (directory_of card) name ≡ rows_in delete_row delete_order
  unfolding delete_rows delete_row
  delete-rows = ap (unless_refused (row_at 33 Whole (not (eqb (length name) 12)))) (sym (last_row 31 Whole (not (is_some (entry_named (directory_of card) name))) refl))

  pub delete_exactly : ExactlyOn card delete_order (WrongDelete card name) (delete_verdict card name)
  unfolding delete_verdict delete_row
  delete_exactly =
      call-exactly card delete_order (WrongDelete card name) (delete_rows (directory_of card) name) (λ s. rw delete-rows
      (rows-exactly (WrongDelete card name) delete_row (λ n p w. delete-fires w) delete_order (λ n p w. delete-known w) refl (
        at-tells (WrongDelete card name) 33 _ (λ t. length_33 (eqb-false _ _ (not-true _ t))),
        (at-tells (WrongDelete card name) 31 _ (λ t. nothing_31 (no-name-tells card name (not-true _ t))), tt),
      )))

-- ---- any new file

module _ (card : List ℕ) (f : NewFile) where
  -- they tell what is wrong, in any type of what is wrong that takes it in
  module _ (W : ℕ → Place → Type 0) (w : (n : ℕ) (p : Place) → WrongFile card f n p → W n p) where
    pub tells-29 : Tells W 29 (taken_row (directory_of card) f.name)
    unfolding taken_row entry_named
    tells-29 =
        over-tells W 29 Entry (λ i. is_named f.name (entry_on card i)) 208
        (λ i h t. let u = named-used card f.name i h t in w 29 (Entry i) (name_29 u.0 u.1))

    pub tells-34 : Tells W 34 (room_row (table_of card) f)
    unfolding room_row
    tells-34 = at-tells W 34 (lacks card f) (λ t. w 34 Whole (room_34 (lacks-tells card f t)))

  -- what is wrong they find, in any rows that have them at their numbers
  module _ (row : ℕ → Verdict) where
    pub file-fires : row 29 ≡ taken_row (directory_of card) f.name → row 34 ≡ room_row (table_of card) f → {n : ℕ} {p : Place} → WrongFile card f n p
        → Fires n p (row n)
    unfolding taken_row room_row
    file-fires a b (name_29 u e) = rw a (name-fires card f.name u e)
    file-fires a b (room_34 h) = rw b (at-fires 34 _ (lacks-wrong card f h))

  -- in any order that has their numbers
  module _ (order : List ℕ) where
    pub file-known : has 29 order ≡ true → has 34 order ≡ true
        → {n : ℕ} {p : Place} → WrongFile card f n p → (has n order ≡ true) × (p ≡ place_of n (place_number p))
    unfolding place_of
    file-known a b (name_29 u e) = (a, refl)
    file-known a b (room_34 h) = (b, refl)

-- ---- write

module _ (card : List ℕ) (f : NewFile) (offset : ℕ) where
  abbrev Fault : ℕ → Place → Type 0
  Fault = WrongWrite card f offset

  write_row : ℕ → Verdict
  write_row n =
      cond (eqb n 33) (row_at 33 Whole (bad_lengths f || ltb 200 (blocks_of f)))
      (cond (eqb n 26) (row_at 26 Whole (leb (blocks_of f) offset))
      (cond (eqb n 29) (taken_row (directory_of card) f.name) (room_row (table_of card) f)))

  write_known : {n : ℕ} {p : Place} → WrongWrite card f offset n p → (has n write_order ≡ true) × (p ≡ place_of n (place_number p))
  unfolding place_of
  write_known (lengths_33 h) = (refl, refl)
  write_known (blocks_33 h) = (refl, refl)
  write_known (offset_26 h) = (refl, refl)
  write_known (in_file w) = file-known card f write_order refl refl w

  write-fires : {n : ℕ} {p : Place} → WrongWrite card f offset n p → Fires n p (write_row n)
  unfolding write_row
  write-fires (lengths_33 h) = at-fires 33 (bad_lengths f || ltb 200 (blocks_of f)) (rw (lengths-wrong f h))
  write-fires (blocks_33 h) = at-fires 33 (bad_lengths f || ltb 200 (blocks_of f)) (rw (lt-ltb _ _ h) (or-true (bad_lengths f)))
  write-fires (offset_26 h) = at-fires 26 (leb (blocks_of f) offset) (le-leb _ _ h)
  write-fires (in_file w) = file-fires card f write_row refl refl w

  write-rows : write_rows (table_of card) (directory_of card) f offset ≡ rows_in write_row write_order
  unfolding write_rows data_rows room_row write_row
  write-rows =
      rows-joined (row_at 33 Whole (bad_lengths f || ltb 200 (blocks_of f))) (row_at 26 Whole (leb (blocks_of f) offset)) _
      ∙ ap (λ (v : Verdict). unless_refused (row_at 33 Whole (bad_lengths f || ltb 200 (blocks_of f)))
      (unless_refused (row_at 26 Whole (leb (blocks_of f) offset)) (unless_refused (taken_row (directory_of card) f.name) v)))
      (sym (last_row 34 Whole (lacks card f) refl))

  bad-lengths : (bad_lengths f || ltb 200 (blocks_of f)) ≡ true → Fault 33 Whole
  bad-lengths t = ⊎_elim (λ a. lengths_33 (lengths-tell f a)) (λ a. blocks_33 (ltb-true _ _ a)) (or-true-either (bad_lengths f) _ t)

  pub write_exactly : ExactlyOn card write_order (WrongWrite card f offset) (write_verdict card f offset)
  unfolding write_verdict write_row
  write_exactly =
      call-exactly card write_order Fault (write_rows (table_of card) (directory_of card) f offset) (λ s. rw write-rows
      (rows-exactly Fault write_row (λ n p w. write-fires w) write_order (λ n p w. write_known w) refl (
        at-tells Fault 33 _ bad-lengths,
        (
          at-tells Fault 26 _ (λ t. offset_26 (leb-true _ _ t)),
          (tells-29 card f Fault (λ n p w. in_file w), (tells-34 card f Fault (λ n p w. in_file w), tt)),
        ),
      )))

-- ---- number 0 names the whole card

abbrev Plain : Verdict → Type 0
Plain v = v.number ≡ 0 → v ≡ done

plain_at : (n : ℕ) (p : Place) (t : Bool) → n ≢ 0 → Plain (row_at n p t)
plain_at n p true h z = absurd (h z)
plain_at n p false h z = refl

plain_over : (n : ℕ) (place : ℕ → Place) (o : Option ℕ) → n ≢ 0 → Plain (row_over n place o)
plain_over n place None h z = refl
plain_over n place (Some i) h z = absurd (h z)

plain-unless : (v w : Verdict) → Plain v → Plain w → Plain (unless_refused v w)
plain-unless v w a b = go (accepted v) refl
  where
    go : (t : Bool) → accepted v ≡ t → (cond t w v).number ≡ 0 → cond t w v ≡ done
    go true e z = b z
    go false e z = a z

pub delete_zero : (card name : List ℕ) → (delete_verdict card name).number ≡ 0 → delete_verdict card name ≡ done
unfolding delete_verdict delete_rows
delete_zero card name =
    plain-unless (verdict_of card) (delete_rows (directory_of card) name) (accepted_sound card)
    (plain-unless (row_at 33 Whole t33) (row_at 31 Whole t31) (plain_at 33 Whole t33 (λ z. omega (arith, z))) (plain_at 31 Whole t31 (λ z. omega (arith, z))))
  where
    t33 : Bool
    t33 = not (eqb (length name) 12)

    t31 : Bool
    t31 = not (is_some (entry_named (directory_of card) name))

pub write_zero : (card : List ℕ) (f : NewFile) (offset : ℕ) → (write_verdict card f offset).number ≡ 0 → write_verdict card f offset ≡ done
unfolding write_verdict write_rows data_rows taken_row room_row
write_zero card f offset =
    plain-unless (verdict_of card) (write_rows (table_of card) (directory_of card) f offset) (accepted_sound card)
    (plain-unless (data_rows f offset) (unless_refused (taken_row (directory_of card) f.name) (room_row (table_of card) f))
    (plain-unless (row_at 33 Whole t33) (row_at 26 Whole t26) (plain_at 33 Whole t33 (λ z. omega (arith, z))) (plain_at 26 Whole t26 (λ z. omega (arith, z))))
    (plain-unless (taken_row (directory_of card) f.name) (room_row (table_of card) f) (plain_over 29 Entry (entry_named (directory_of card) f.name) (λ z. omega (arith, z)))
    (plain_at 34 Whole (lacks card f) (λ z. omega (arith, z)))))
  where
    t33 : Bool
    t33 = bad_lengths f || ltb 200 (blocks_of f)

    t26 : Bool
    t26 = leb (blocks_of f) offset
