-- Reads under another name than that of the file that was written or deleted. Assumes nothing.
use Prim.Native.Nat.{ℕ, ◌*◌, ◌<◌}
use mathlib.Core.Path.{◌≡◌, refl, sym, ap, subst, ◌∙◌}
use mathlib.Core.Bool.{not, ◌||◌, true≢false}
use mathlib.Core.List.{List}
use Rattle.std.specs.Prelude.{Option, None, Some}
use mathlib.Core.Logic.{◌≢◌}
use native.Mathlib.Omega.{arith}
use native.Mathlib.Decide.{ℕ_discrete}
use lib.Dec.{eqb}
use lib.ListN.{length, take, drop}
use borrow.Author.Tests.{eqb-true, eq-eqb, leb-false, not-false}
use Rattle.words.proofs.Bools.{or-false-right}
use Rattle.verdicts.specs.declared.Place.TheVariants.{Whole}
use Rattle.verdicts.specs.Rows.{done, row_at}
use Rattle.card_model.specs.Layout.{directory_of}
use Rattle.card_model.specs.Entries.{kind, name_of, size, is_used}
use Rattle.card_model.specs.Calls.{verdict_of, entry_named, index_row, read_rows, read_verdict, read_buffer}
use Rattle.card_model.specs.Sound.{SoundCard, entry_on, UsedEntry}
use Rattle.card_model.proofs.SoundLaws.{unless-accepts, at-accepts}
use Rattle.card_model.proofs.ReadLaws.{found_by_name, reads_block, refused_unchanged}
use Rattle.card_updates.specs.Delete.{delete_verdict, deleted}
use Rattle.card_updates.specs.Write.{NewFile, write_verdict, written}
use Rattle.card_updates.specs.Theorems.{SameFile}
use Rattle.card_updates.proofs.DeleteLaws.{named-tells, none_named, deletes}
use Rattle.card_updates.proofs.WriteLaws.{not_named, writes}
use Rattle.card_updates.proofs.RefusalLaws.{delete_exactly, write_exactly}

-- an entry that is the same is used on both cards
same-used : (card after : List ℕ) (j : ℕ) → entry_on after j ≡ entry_on card j → UsedEntry card j → UsedEntry after j
same-used card after j e u = record { in_directory = u.in_directory; is_used_lem = ap is_used e ∙ u.is_used_lem }

-- a block of a file that is as before reads as before
still-reads : (card after : List ℕ) → SoundCard card → SoundCard after → (j : ℕ) → UsedEntry card j → SameFile card after j
    → (index : ℕ) (buffer : List ℕ) → index < size (entry_on card j) → length buffer ≡ 512
    → read_buffer after (name_of (entry_on card j)) index buffer ≡ read_buffer card (name_of (entry_on card j)) index buffer
still-reads card after s t j u same index buffer h l =
    let v = same-used card after j same.entry u in
    let now = (reads_block after t j index buffer v (omega (arith, ap size same.entry, h)) l).1 in
    rw same.entry at now ∙ ap (λ (bytes : List ℕ). take 512 (drop (index * 512) bytes)) same.bytes ∙ sym (reads_block card s j index buffer u h l).1

-- what a search by name finds on both cards: nothing, or a file that is the same
data FoundAlike (card after name : List ℕ) : Type 0 where
  nowhere : entry_named (directory_of card) name ≡ None → entry_named (directory_of after) name ≡ None → FoundAlike card after name
  same_place : (j : ℕ) → entry_named (directory_of card) name ≡ Some j → entry_named (directory_of after) name ≡ Some j → SameFile card after j
      → FoundAlike card after name

-- a read that is done has its index below the file's size, and 512 bytes to fill
done-tells : (card name : List ℕ) (index : ℕ) (buffer : List ℕ) (j : ℕ) → (read_verdict card name index buffer).number ≡ 0
    → entry_named (directory_of card) name ≡ Some j → (index < size (entry_on card j)) × (length buffer ≡ 512)
unfolding read_verdict read_rows
done-tells card name index buffer j z e =
    let misnamed = not (eqb (length name) 12) in
    let index-row = index_row (directory_of card) index (entry_named (directory_of card) name) in
    let rows = unless-accepts (row_at 33 Whole (misnamed || not (eqb (length buffer) 512))) index-row (unless-accepts (verdict_of card) _ (eq-eqb _ 0 z)).1 in (
      leb-false _ index (at-accepts 32 Whole _ refl (rw e at rows.1)),
      eqb-true _ _ (not-false _ (or-false-right misnamed _ (at-accepts 33 Whole _ refl rows.0))),
    )

-- ---- two cards on which a search by name finds the same

module _ (card after : List ℕ) (s : SoundCard card) (t : SoundCard after) (name : List ℕ) (index : ℕ) (buffer : List ℕ) where
  same_verdict : FoundAlike card after name → read_verdict after name index buffer ≡ read_verdict card name index buffer
  unfolding read_verdict read_rows
  same_verdict (nowhere e f) = rw (s, t, e, f)
  same_verdict (same_place j e f same) = rw (s, t, e, f, same.entry)

  same-buffer : FoundAlike card after name → read_buffer after name index buffer ≡ read_buffer card name index buffer
  unfolding read_buffer
  same-buffer (nowhere e f) = rw (same_verdict (nowhere e f), e, f)
  same-buffer (same_place j e f same) = go (ℕ_discrete (read_verdict card name index buffer).number 0)
    where
      go : Dec ((read_verdict card name index buffer).number ≡ 0) → read_buffer after name index buffer ≡ read_buffer card name index buffer
      go (yes z) =
          let n = named-tells card name j e in
          let d = done-tells card name index buffer j z e in
          rw n.1 at (still-reads card after s t j n.0 same index buffer d.0 d.1)
      go (no n) =
          refused_unchanged after name index buffer (λ z. n (ap (λ v. v.number) (sym (same_verdict (same_place j e f same))) ∙ z))
          ∙ sym (refused_unchanged card name index buffer n)

-- ---- two cards that differ in one entry

-- entry i is not used under this name
abbrev NotUnder : List ℕ → List ℕ → ℕ → Type 0
NotUnder card name i = UsedEntry card i → name_of (entry_on card i) ≢ name

-- an entry of this name is another one
elsewhere : (card name : List ℕ) (i : ℕ) → NotUnder card name i → (j : ℕ) → UsedEntry card j → name_of (entry_on card j) ≡ name → j ≢ i
elsewhere card name i f j u n d = f (subst (UsedEntry card) d u) (ap (λ (x : ℕ). name_of (entry_on card x)) (sym d) ∙ n)

module _ (card after : List ℕ) (s : SoundCard card) (t : SoundCard after) (i : ℕ) (others : (j : ℕ) → j < 208 → j ≢ i → SameFile card after j)
    (name : List ℕ) (not-before : NotUnder card name i) (not_after : NotUnder after name i) where
  found_alike : FoundAlike card after name
  found_alike = go (entry_named (directory_of card) name) refl
    where
      -- an entry of this name on the card after had it before
      had-it : (j : ℕ) → UsedEntry after j → name_of (entry_on after j) ≡ name → UsedEntry card j × (name_of (entry_on card j) ≡ name)
      had-it j u n =
          let e = sym (others j u.in_directory (elsewhere after name i not_after j u n)).entry in
          (same-used after card j e u, ap name_of e ∙ n)

      go : (o : Option ℕ) → entry_named (directory_of card) name ≡ o → FoundAlike card after name
      go None e = nowhere e (none_named after name (λ j u n. not_named card name e j (had-it j u n).0 (had-it j u n).1))
      go (Some j) e =
          let n = named-tells card name j e in
          let same = others j n.0.in_directory (elsewhere card name i not-before j n.0 n.1) in
          let named = ap name_of same.entry ∙ n.1 in
          same_place j e (rw named at (found_by_name after t j (same-used card after j same.entry n.0))) same

  reads-alike : (index : ℕ) (buffer : List ℕ)
      → (read_verdict after name index buffer ≡ read_verdict card name index buffer) × (read_buffer after name index buffer ≡ read_buffer card name index buffer)
  reads-alike index buffer = (same_verdict card after s t name index buffer found_alike, same-buffer card after s t name index buffer found_alike)

-- ---- the calls

pub write_others_read : (card : List ℕ) (f : NewFile) (offset : ℕ) → write_verdict card f offset ≡ done
    → (name : List ℕ) (index : ℕ) (buffer : List ℕ) → name ≢ f.name
    → (read_verdict (written card f offset) name index buffer ≡ read_verdict card name index buffer)
    × (read_buffer (written card f offset) name index buffer ≡ read_buffer card name index buffer)
write_others_read card f offset v name index buffer n =
    let w = writes card f offset v in
    let l = w.leaves in
    reads-alike card (written card f offset) ((write_exactly card f offset).done_when.0 v).0 l.sound w.at_entry l.others name
    (λ u. absurd (true≢false (sym u.is_used_lem ∙ l.lowest_entry.is_unused))) (λ u e. n (sym e ∙ l.has_file.name_is)) index buffer

pub delete_others_read : (card name : List ℕ) → delete_verdict card name ≡ done
    → (other : List ℕ) (index : ℕ) (buffer : List ℕ) → other ≢ name
    → (read_verdict (deleted card name) other index buffer ≡ read_verdict card other index buffer)
    × (read_buffer (deleted card name) other index buffer ≡ read_buffer card other index buffer)
unfolding is_used kind
delete_others_read card name v other index buffer n =
    let d = deletes card name v in
    let l = d.leaves in
    reads-alike card (deleted card name) ((delete_exactly card name).done_when.0 v).0 l.sound d.at_entry l.others other
    (λ u e. n (sym e ∙ d.had_name)) (λ u. absurd (true≢false (sym u.is_used_lem ∙ ap is_used l.entry_zeros))) index buffer
