-- Two cards that are equal but for copy flags: every call answers the same on both, but for the two values of a listing.
-- Assumes nothing.
use Prim.Native.Nat.{ℕ, ◌+◌, ◌-◌, ◌≤◌, ◌<◌}
use mathlib.Core.Path.{◌≡◌, refl, sym, ap, ◌∙◌}
use mathlib.Core.Bool.{Bool, true, false, cond}
use mathlib.Core.List.{List, []}
use Rattle.std.specs.Prelude.{Option, None, Some}
use mathlib.Core.Logic.{inl, inr}
use native.Mathlib.Omega.{arith}
use native.Mathlib.Decide.{dec_lt}
use lib.ListN.{length, get_or, take, drop, get_or-eq_default}
use lib.Seq.{drop-drop}
use borrow.Author.Tests.{eqb-true}
use Rattle.words.proofs.ListLaws.{All, take-drop, all-at}
use Rattle.verdicts.specs.Rows.{accepted}
use Rattle.card_model.specs.Layout.{block_at, root_of, table_of, entry_place, directory_of}
use Rattle.card_model.specs.Entries.{kind, entry_at}
use Rattle.card_model.specs.Calls.{length_row, verdict_of, check_of, listed_from, first_used, not_listed, list_of, entry_named, read_rows, read_verdict, file_block, block_read, read_buffer}
use Rattle.card_model.specs.Sound.{SoundCard, entry_on, file_on}
use Rattle.card_model.proofs.EntryLaws.{entry-is, entry-byte}
use Rattle.card_model.proofs.SoundLaws.{accepted_sound, unless-accepts}
use Rattle.card_updates.specs.Delete.{delete_rows, delete_verdict}
use Rattle.card_updates.specs.Write.{given_file, taken_blocks, bad_lengths, data_rows, taken_row, room_row, write_rows, write_verdict}
use Rattle.card_updates.specs.Flags.{ListedAlike}
use Rattle.card_updates.proofs.NamedBytes.{SameBut}
use Rattle.card_updates.proofs.PartLaws.{same-part}
use Rattle.card_updates.proofs.PlaceLaws.{directory-length, same-root, same-table, same_block}
use Rattle.card_updates.proofs.ReplaceLaws.{all_in, in-file-below}
use Rattle.card_updates.proofs.DeleteLaws.{named-tells}
use Rattle.card_updates.proofs.FieldLaws.{EntryAlike, alike_refl, same-file, same-named-entry, same_index, same-listing, same_rows, same_orphans}
use Rattle.card_updates.proofs.FlagByteLaws.{is_flag, outside, beside}

module _ (card other : List ℕ) (same : SameBut is_flag card other) where
  root : root_of other ≡ root_of card
  root = same-root is_flag card other same (λ k l. outside k (inr (omega arith)))

  table : table_of other ≡ table_of card
  table = same-table is_flag card other same (λ k l h. outside k (inr l))

  block : (b : ℕ) → b < 200 → block_at other b ≡ block_at card b
  block b h = same_block is_flag card other same b (λ k l m. outside k (inl (omega arith)))

  -- an entry, used or not
  module _ (i : ℕ) (h : i < 208) where
    entry-kind : kind (entry_on other i) ≡ kind (entry_on card i)
    unfolding kind
    entry-kind =
        entry-byte other i 0 h (omega arith) ∙ same.same_byte (entry_place i + 0) (beside i 0 h (omega arith) (λ d. omega (arith, d)))
        ∙ sym (entry-byte card i 0 h (omega arith))

    entry-rest : drop 2 (entry_on other i) ≡ drop 2 (entry_on card i)
    entry-rest = rest other ∙ same-part is_flag card other same (entry_place i + 2) 30 later ∙ sym (rest card)
      where
        rest : (l : List ℕ) → drop 2 (entry_on l i) ≡ take 30 (drop (entry_place i + 2) l)
        rest l = ap (drop 2) (entry-is l i h) ∙ sym (take-drop 2 30 (drop (entry_place i) l)) ∙ ap (take 30) (drop-drop 2 (entry_place i) l)

        later : (k : ℕ) → entry_place i + 2 ≤ k → k < entry_place i + 2 + 30 → is_flag k ≡ false
        later k a b =
            let j = k - entry_place i in
            let e : entry_place i + j ≡ k = omega arith in
            rw (← e) (beside i j h (omega arith) (λ d. omega (arith, d)))

  past : (l : List ℕ) (i : ℕ) → 208 ≤ i → entry_on l i ≡ []
  unfolding entry_at
  past l i h = get_or-eq_default (directory_of l) [] (omega (arith, directory-length l))

  pub entries : (i : ℕ) → EntryAlike (entry_on card i) (entry_on other i)
  entries i = go (dec_lt i 208)
    where
      go : Dec (i < 208) → EntryAlike (entry_on card i) (entry_on other i)
      go (yes h) = record { same_kind = entry-kind i h; same_rest = entry-rest i h }
      go (no h) =
          let e : entry_on other i ≡ entry_on card i = past other i (omega arith) ∙ sym (past card i (omega arith)) in
          record { same_kind = ap kind e; same_rest = ap (drop 2) e }

  -- ---- check, list and read

  abbrev d : List (List ℕ)
  d = directory_of card

  abbrev e : List (List ℕ)
  e = directory_of other

  verdict : verdict_of other ≡ verdict_of card
  unfolding verdict_of length_row
  verdict = rw (same.same_length, root, table, same_rows d e entries (table_of card))

  pub check : check_of other ≡ check_of card
  unfolding check_of
  check = rw (verdict, table, same_orphans d e entries (table_of card))

  pub list : (start : ℕ) → ListedAlike (list_of card start) (list_of other start)
  unfolding list_of
  list start = rw verdict (go (accepted (verdict_of card)))
    where
      go : (t : Bool) → ListedAlike (cond t (listed_from d (first_used d start)) (not_listed (verdict_of card))) (cond t (listed_from e (first_used e start)) (not_listed (verdict_of card)))
      go true = same-listing d e entries start
      go false = alike_refl (not_listed (verdict_of card))

  pub named : (name : List ℕ) → entry_named e name ≡ entry_named d name
  named name = same-named-entry d e entries name

  pub read-verdict : (name : List ℕ) (index : ℕ) (buffer : List ℕ) → read_verdict other name index buffer ≡ read_verdict card name index buffer
  unfolding read_verdict read_rows
  read-verdict name index buffer = rw (verdict, named name, same_index d e entries index (entry_named d name))

  pub file : (i : ℕ) → file_on other i ≡ file_on card i
  file i = rw table (same-file (entry_at d i) (entry_at e i) (entries i) (table_of card))

  pub low : SoundCard card → (i : ℕ) → i < 208 → All (λ b. b < 200) (file_on card i)
  low s i h = all_in (λ b. b < 200) (file_on card i) (λ b f. in-file-below card s i b h f)

  -- the blocks that a file has are the same, and so are their bytes
  file-block : SoundCard card → (i index : ℕ) → i < 208 → block_at other (file_block other i index) ≡ block_at card (file_block card i index)
  unfolding file_block
  file-block s i index h = rw (file i) (block (get_or (file_on card i) index 0) (below (dec_lt index (length (file_on card i)))))
    where
      below : Dec (index < length (file_on card i)) → get_or (file_on card i) index 0 < 200
      below (yes l) = all-at (λ b. b < 200) (file_on card i) index (low s i h) l 0
      below (no l) = rw (get_or-eq_default (file_on card i) 0 {n = index} (omega arith)) (omega arith)

  found-block : SoundCard card → (name : List ℕ) (index : ℕ) (buffer : List ℕ) (found : Option ℕ) → entry_named d name ≡ found
      → block_read other index found buffer ≡ block_read card index found buffer
  found-block s name index buffer None f = refl
  found-block s name index buffer (Some i) f = file-block s i index (named-tells card name i f).0.in_directory

  pub read-buffer : (name : List ℕ) (index : ℕ) (buffer : List ℕ) → read_buffer other name index buffer ≡ read_buffer card name index buffer
  unfolding read_buffer read_verdict
  read-buffer name index buffer = rw (read-verdict name index buffer, named name) (go (accepted (read_verdict card name index buffer)) refl)
    where
      found : Option ℕ
      found = entry_named d name

      go : (t : Bool) → accepted (read_verdict card name index buffer) ≡ t → cond t (block_read other index found buffer) buffer ≡ cond t (block_read card index found buffer) buffer
      go false a = refl
      go true a =
          let s = accepted_sound card (eqb-true _ _ (unless-accepts (verdict_of card) _ a).0) in
          found-block s name index buffer found refl

  -- ---- delete

  pub delete-verdict : (name : List ℕ) → delete_verdict other name ≡ delete_verdict card name
  unfolding delete_verdict delete_rows
  delete-verdict name = rw (verdict, named name)

  -- ---- write

  pub write-verdict : (byte other_byte : ℕ) (name time content : List ℕ) (offset : ℕ)
      → write_verdict other (given_file other_byte name time content) offset ≡ write_verdict card (given_file byte name time content) offset
  unfolding write_verdict write_rows data_rows taken_row room_row bad_lengths
  write-verdict byte other_byte name time content offset = rw (verdict, named name, table)

  pub taken : (byte other_byte : ℕ) (name time content : List ℕ)
      → taken_blocks other (given_file other_byte name time content) ≡ taken_blocks card (given_file byte name time content)
  unfolding taken_blocks
  taken byte other_byte name time content = rw table
