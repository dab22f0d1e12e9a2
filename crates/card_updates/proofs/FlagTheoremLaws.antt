-- The theorems of copy flags, together. Assumes nothing.
use Prim.Native.Nat.{ℕ, ◌+◌, ◌≤◌, ◌<◌}
use mathlib.Core.Path.{◌≡◌, refl, sym, ap, ◌∙◌}
use mathlib.Core.List.{List, [], ◌∷◌}
use Rattle.std.specs.Prelude.{Some}
use mathlib.Core.Logic.{◌↔◌}
use native.Mathlib.Omega.{arith}
use lib.ListN.{length, get_or}
use Rattle.verdicts.specs.Rows.{done}
use Rattle.card_model.specs.declared.CopyProtection.TheVariants.{Protected}
use Rattle.card_model.specs.Layout.{card_length, entry_place, directory_of}
use Rattle.card_model.specs.Entries.{flag}
use Rattle.card_model.specs.Calls.{listed_entry, list_of}
use Rattle.card_model.specs.Sound.{entry_on}
use Rattle.card_model.proofs.EntryLaws.{entry-byte, protected-says}
use Rattle.card_model.proofs.ReadLaws.{lists}
use Rattle.card_updates.specs.Parts.{with_part}
use Rattle.card_updates.specs.Write.{NewFile, given_file, lowest_unused, write_verdict, written}
use Rattle.card_updates.specs.Theorems.{WriteLeaves}
use Rattle.card_updates.specs.Flags.{FlagByte, flag_of, SameButFlags, FlagTheorems}
use Rattle.card_updates.proofs.NamedBytes.{in_part, SameBut}
use Rattle.card_updates.proofs.PartLaws.{part-named, in-part-tells, only_at, put_byte}
use Rattle.card_updates.proofs.PlaceLaws.{entry-inside}
use Rattle.card_updates.proofs.WriteLaws.{passed-rows, leaves}
use Rattle.card_updates.proofs.FlagByteLaws.{is_flag, flag_bytes, flag_is, no_flag}
use Rattle.card_updates.proofs.FlagLaws.{check, list, read-verdict, read-buffer, delete-verdict, write-verdict}
use Rattle.card_updates.proofs.FlagLeftLaws.{delete-both, write-both}

same_flags : (card other : List ℕ) → SameButFlags card other → SameBut is_flag card other
same_flags card other s = record { same_length = s.same_length; same_byte = λ k n. s.same_byte k (no_flag k n) }

only-flags : (card other : List ℕ) → SameBut is_flag card other → SameButFlags card other
only-flags card other s = only_at is_flag FlagByte card other s flag_is

module _ (card : List ℕ) (i byte : ℕ) (l : length card ≡ card_length) (h : i < 208) where
  abbrev after : List ℕ
  after = with_part card (entry_place i + 1) (byte ∷ [])

  fits : entry_place i + 1 + 1 ≤ length card
  unfolding card_length
  fits = omega (arith, entry-inside i h)

  pub any_flag : SameButFlags card (with_part card (entry_place i + 1) (byte ∷ [])) × (flag (entry_on (with_part card (entry_place i + 1) (byte ∷ [])) i) ≡ byte)
  unfolding flag
  any_flag =
      let z : entry_place i + 1 ≡ entry_place i + 1 + 0 = omega arith in (
        only_at (in_part (entry_place i + 1) 1) FlagByte card after (part-named card (entry_place i + 1) (byte ∷ []) fits)
            (λ k e. flag_of i h (in-part-tells (entry_place i + 1) 1 k e)),
        entry-byte after i 1 h (omega arith) ∙ ap (λ (k : ℕ). get_or after k 0) z ∙ put_byte card (entry_place i + 1) (byte ∷ []) fits 0 (omega arith),
      )

module _ (card : List ℕ) (f : NewFile) (offset : ℕ) (v : write_verdict card f offset ≡ done) (i : ℕ) (e : lowest_unused (directory_of card) ≡ Some i) where
  left : WriteLeaves card (written card f offset) f offset i
  left = leaves card f offset (passed-rows card f offset v) i e v

  listed : list_of (written card f offset) i ≡ listed_entry i (entry_on (written card f offset) i)
  listed = lists (written card f offset) left.sound i i left.has_file.used (omega arith) (λ j a b. absurd (omega arith))

  pub write_lists : ((list_of (written card f offset) i).entry ≡ i) × ((list_of (written card f offset) i).flag ≡ f.flag)
      × (((list_of (written card f offset) i).protection ≡ Protected) ↔ (f.flag ≡ 0xFF))
  unfolding listed_entry
  write_lists = rw listed (
    refl,
    left.has_file.flag_is,
    (λ p. sym left.has_file.flag_is ∙ (protected-says _).0 p, λ p. (protected-says _).1 (left.has_file.flag_is ∙ p)),
  )

pub flag-theorems : FlagTheorems
flag-theorems = record {
  check_same = λ card other s. check card other (same_flags card other s);
  list_same = λ card other s. list card other (same_flags card other s);
  read_same = λ card other s name index buffer.
      let t = same_flags card other s in
      (read-verdict card other t name index buffer, read-buffer card other t name index buffer);
  delete_same = λ card other s name.
      let t = same_flags card other s in
      (delete-verdict card other t name, only-flags _ _ (delete-both card other name t));
  write_same = λ card other s byte other_byte name time content offset.
      let t = same_flags card other s in
      (write-verdict card other t byte other_byte name time content offset, only-flags _ _ (write-both card other t byte other_byte name time content offset));
  write_lists = λ card byte name time content offset i v e. write_lists card (given_file byte name time content) offset v i e;
  flag_bytes = flag_bytes;
  any_flag = any_flag;
}
