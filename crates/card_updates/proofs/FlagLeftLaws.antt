-- What a delete and a write leave of two cards that are equal but for copy flags: cards that are so again. Assumes nothing.
use Prim.Native.Nat.{ℕ, zero, suc, ◌+◌, ◌*◌, ◌≤◌, ◌<◌}
use mathlib.Core.Path.{◌≡◌, refl, sym, ◌∙◌}
use mathlib.Core.Bool.{Bool, true, false, cond, true≢false}
use mathlib.Core.List.{List, [], ◌∷◌}
use Rattle.std.specs.Prelude.{Option, None, Some}
use native.Mathlib.Omega.{arith}
use lib.ListN.{length, get_or, take, drop, replicate}
use borrow.Author.Tests.{eqb-true}
use Rattle.words.specs.Words.{word_bytes}
use Rattle.words.proofs.ListLaws.{All}
use Rattle.verdicts.specs.Rows.{done, accepted}
use Rattle.card_model.specs.Layout.{card_length, fat_place, entry_place, directory_of}
use Rattle.card_model.specs.Calls.{verdict_of, entry_named}
use Rattle.card_model.specs.Sound.{SoundCard, file_on}
use Rattle.card_model.proofs.SoundLaws.{sound_exactly, accepted_sound, unless-accepts}
use Rattle.card_updates.specs.Parts.{with_part, with_link}
use Rattle.card_updates.specs.Delete.{delete_verdict, freed, without_file, without_found, deleted}
use Rattle.card_updates.specs.Write.{NewFile, given_file, entry_of, new_entry, link_to, with_block, with_blocks, with_file, with_file_at, lowest_unused, taken_blocks, write_verdict, written}
use Rattle.card_updates.proofs.NamedBytes.{SameBut}
use Rattle.card_updates.proofs.PartLaws.{put_both}
use Rattle.card_updates.proofs.PlaceLaws.{link_fits, link-named, entry-fits, block-fits, block-named}
use Rattle.card_updates.proofs.DeleteLaws.{named-tells, freed-named}
use Rattle.card_updates.proofs.FileLaws.{HoldsBytes, holds-part, holds-rest, with-block-named, blocks-named, new-length}
use Rattle.card_updates.proofs.WriteLaws.{passed-rows, taken-holds, unused-at}
use Rattle.card_updates.proofs.RefusalLaws.{write_zero}
use Rattle.card_updates.proofs.FieldLaws.{same-unused}
use Rattle.card_updates.proofs.FlagByteLaws.{is_flag, flag-here}
use Rattle.card_updates.proofs.FlagLaws.{entries, named, file, low, delete-verdict, write-verdict, taken}

-- ---- the same part put on both

module _ (part : List ℕ) (at : ℕ) (card other : List ℕ) (same : SameBut is_flag card other) (fits : at + length part ≤ length card) where
  put_same : SameBut is_flag (with_part card at part) (with_part other at part)
  put_same = put_both is_flag card other same at part part fits refl (λ j n. refl)

link-both : (b value : ℕ) (card other : List ℕ) → length card ≡ card_length → b < 200 → SameBut is_flag card other
    → SameBut is_flag (with_link card b value) (with_link other b value)
unfolding with_link
link-both b value card other l h same = put_same (word_bytes value) (fat_place b) card other same (link_fits card b value l (omega arith))

freed-both : (blocks card other : List ℕ) → length card ≡ card_length → All (λ b. b < 200) blocks → SameBut is_flag card other
    → SameBut is_flag (freed card blocks) (freed other blocks)
unfolding freed
freed-both [] card other l low same = same
freed-both (b ∷ blocks) card other l low same =
    freed-both blocks (with_link card b 0xFFFC) (with_link other b 0xFFFC) ((link-named card b 0xFFFC l (omega (arith, low.0))).same_length ∙ l) low.1
    (link-both b 0xFFFC card other l low.0 same)

blocks-both : (blocks bytes card other : List ℕ) → length card ≡ card_length → HoldsBytes blocks bytes → SameBut is_flag card other
    → SameBut is_flag (with_blocks card blocks bytes) (with_blocks other blocks bytes)
unfolding with_blocks with_block
blocks-both [] bytes card other l h same = same
blocks-both (b ∷ blocks) bytes card other l h same =
    let part = take 512 bytes in
    let wide = holds-part b blocks bytes h in
    let s = put_same part (b * 512) card other same (block-fits card b part wide l h.low.0) in
    let m = (block-named card b part wide l h.low.0).same_length ∙ l in
    blocks-both blocks (drop 512 bytes) (with_block card b part (link_to blocks)) (with_block other b part (link_to blocks))
    ((with-block-named card b part (link_to blocks) l h.low.0 wide).same_length ∙ l) (holds-rest b blocks bytes h)
    (link-both b (link_to blocks) (with_part card (b * 512) part) (with_part other (b * 512) part) m h.low.0 s)

-- ---- what a delete leaves

without-both : (i : ℕ) (card other : List ℕ) → SoundCard card → i < 208 → SameBut is_flag card other → SameBut is_flag (without_file card i) (without_file other i)
unfolding without_file
without-both i card other s h same =
    let l = ((sound_exactly card).0 s).long in
    let all = low card other same s i h in
    let free = freed-both (file_on card i) card other l all same in
    let m = (freed-named (file_on card i) card l all).same_length ∙ l in
    rw (file card other same i) (put_same (replicate 32 0) (entry_place i) _ _ free (entry-fits (freed card (file_on card i)) i (replicate 32 0) refl m h))

pub delete-both : (card other name : List ℕ) → SameBut is_flag card other → SameBut is_flag (deleted card name) (deleted other name)
unfolding deleted delete_verdict
delete-both card other name same = rw (delete-verdict card other same name, named card other same name) (go (accepted (delete_verdict card name)) refl)
  where
    found : (o : Option ℕ) → SoundCard card → entry_named (directory_of card) name ≡ o → SameBut is_flag (without_found card o) (without_found other o)
    found None s e = same
    found (Some i) s e = without-both i card other s (named-tells card name i e).0.in_directory same

    go : (t : Bool) → accepted (delete_verdict card name) ≡ t
        → SameBut is_flag (cond t (without_found card (entry_named (directory_of card) name)) card) (cond t (without_found other (entry_named (directory_of card) name)) other)
    go false a = same
    go true a = found _ (accepted_sound card (eqb-true _ _ (unless-accepts (verdict_of card) _ a).0)) refl

-- ---- what a write leaves

module _ (card other : List ℕ) (same : SameBut is_flag card other) (byte other_byte : ℕ) (name time content : List ℕ) (offset : ℕ) where
  abbrev f : NewFile
  f = given_file byte name time content

  abbrev g : NewFile
  g = given_file other_byte name time content

  -- the two new entries are equal but for the flag
  entries-alike : (i first : ℕ) → i < 208 → (j : ℕ) → is_flag (entry_place i + j) ≡ false → get_or (new_entry 0x33 g offset first) j 0 ≡ get_or (new_entry 0x33 f offset first) j 0
  unfolding entry_of
  entries-alike i first h zero n = refl
  entries-alike i first h (suc zero) n = absurd (true≢false (sym (flag-here i h) ∙ n))
  entries-alike i first h (suc (suc j)) n = refl

  file-both : (v : write_verdict card f offset ≡ done) (i : ℕ) → lowest_unused (directory_of card) ≡ Some i
      → SameBut is_flag (with_file card 0x33 f offset (taken_blocks card f) i) (with_file other 0x33 g offset (taken_blocks card f) i)
  unfolding with_file
  file-both v i e =
      let p = passed-rows card f offset v in
      let l = ((sound_exactly card).0 p.is_sound).long in
      let holds = taken-holds card f offset p in
      let first = get_or (taken_blocks card f) 0 0 in
      let h = (unused-at card i e).in_directory in
      let wide = new-length 0x33 f offset first p.lengths.right_name p.lengths.right_time in
      let other_wide = new-length 0x33 g offset first p.lengths.right_name p.lengths.right_time in
      let m = (blocks-named (taken_blocks card f) card content l holds).same_length ∙ l in
      put_both is_flag (with_blocks card (taken_blocks card f) content) (with_blocks other (taken_blocks card f) content)
      (blocks-both (taken_blocks card f) content card other l holds same) (entry_place i) (new_entry 0x33 f offset first) (new_entry 0x33 g offset first)
      (entry-fits (with_blocks card (taken_blocks card f) content) i (new_entry 0x33 f offset first) wide m h) (other_wide ∙ sym wide) (entries-alike i first h)

  pub write-both : SameBut is_flag (written card f offset) (written other g offset)
  unfolding written
  write-both =
      rw (write-verdict card other same byte other_byte name time content offset, taken card other same byte other_byte name time content, same-unused (directory_of card) (directory_of other) (entries card other same))
      (go (accepted (write_verdict card f offset)) refl)
    where
      at : (o : Option ℕ) → write_verdict card f offset ≡ done → lowest_unused (directory_of card) ≡ o
          → SameBut is_flag (with_file_at card 0x33 f offset (taken_blocks card f) o) (with_file_at other 0x33 g offset (taken_blocks card f) o)
      at None v e = same
      at (Some i) v e = file-both v i e

      go : (t : Bool) → accepted (write_verdict card f offset) ≡ t
          → SameBut is_flag (cond t (with_file_at card 0x33 f offset (taken_blocks card f) (lowest_unused (directory_of card))) card)
          (cond t (with_file_at other 0x33 g offset (taken_blocks card f) (lowest_unused (directory_of card))) other)
      go false a = same
      go true a = at _ (write_zero card f offset (eqb-true _ _ a)) refl
