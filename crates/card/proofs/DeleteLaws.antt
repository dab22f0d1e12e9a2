-- A delete, row after row, and the card that it leaves. Assumes nothing.
use Prim.Native.Nat.{ℕ}
use mathlib.Core.Path.{◌≡◌, sym, ◌∙◌}
use mathlib.Core.List.{List}
use mathlib.Core.Logic.{◌≢◌}
use Rattle.std.specs.Prelude.{None, Some}
use lib.ListN.{length}
use borrow.Author.Tests.{ne_eqb}
use Rattle.verdicts.specs.declared.Place.TheVariants.{Whole}
use Rattle.verdicts.specs.declared.Rule.TheVariants.{NoFile, Lengths}
use Rattle.verdicts.specs.declared.CardError.{CardError}
use Rattle.verdicts.specs.Rows.{done, refused_at, error_verdict}
use Rattle.verdicts.proofs.RowLaws.{error-refuses, error_first, passed_first}
use Rattle.card_model.specs.Layout.{table_of, directory_of}
use Rattle.card_model.specs.Entries.{first_block, size}
use Rattle.card_model.specs.Calls.{verdict_of, entry_named}
use Rattle.card_model.specs.Sound.{NoRowRefuses, entry_on, file_on, UsedEntry, SoundCard}
use Rattle.card_model.proofs.SoundLaws.{sound_exactly}
use Rattle.card_model.proofs.FileLaws.{sound_file}
use Rattle.card_updates.specs.Delete.{delete_rows, delete_verdict, without_file, deleted}
use Rattle.card_updates.proofs.ReplaceLaws.{file-is-chain}
use Rattle.card_files.specs.Chain.{SoundChain}

module _ (card name : List ℕ) where
  -- a delete that is refused leaves the card
  delete_kept : (e : CardError) → error_verdict e ≡ delete_verdict card name → card ≡ deleted card name
  unfolding deleted
  delete_kept e q = rw (← q, error-refuses e)

  pub by_check : (e : CardError) → error_verdict e ≡ verdict_of card → error_verdict e ≡ delete_verdict card name
  unfolding delete_verdict
  by_check e q = sym (error_first e (verdict_of card) _ q)

  pub kept_by_check : (e : CardError) → error_verdict e ≡ verdict_of card → card ≡ deleted card name
  kept_by_check e q = delete_kept e (by_check e q)

  module _ (v : done ≡ verdict_of card) where
    past-check : delete_verdict card name ≡ delete_rows (directory_of card) name
    unfolding delete_verdict
    past-check = passed_first _ _ v

    pub by_33 : length name ≢ 12 → refused_at 33 Whole ≡ delete_verdict card name
    unfolding delete_rows
    by_33 n = rw (past-check, ne_eqb (length name) 12 n)

    pub kept_by_33 : length name ≢ 12 → card ≡ deleted card name
    kept_by_33 n = delete_kept (record { rule = Lengths; place = Whole }) (by_33 n)

    -- s is the card that was opened
    module _ (n : length name ≡ 12) (s : List ℕ) (q : s ≡ card) where
      pub by_31 : entry_named (directory_of s) name ≡ None → refused_at 31 Whole ≡ delete_verdict card name
      unfolding delete_rows
      by_31 h = rw (past-check, n, ← q, h)

      pub kept_by_31 : entry_named (directory_of s) name ≡ None → card ≡ deleted card name
      kept_by_31 h = delete_kept (record { rule = NoFile; place = Whole }) (by_31 h)

      module _ (i : ℕ) (h : entry_named (directory_of s) name ≡ Some i) where
        pub delete_done : done ≡ delete_verdict card name
        unfolding delete_rows
        delete_done = rw (past-check, n, ← q, h)

        pub without_is : {after : List ℕ} → after ≡ without_file s i → after ≡ deleted card name
        unfolding deleted
        without_is a = a ∙ rw (← delete_done, ← q, h)

pub ruleset deletes = (by_check, kept_by_check, by_33, kept_by_33, by_31, kept_by_31)

-- the file that is taken off
pub file_chained : (card : List ℕ) → NoRowRefuses card → (i : ℕ) → UsedEntry card i → (s : List ℕ) → s ≡ entry_on card i → (first left : ℕ) → first ≡ first_block s → left ≡ size s
    → SoundChain (table_of card) left first (file_on card i)
file_chained card rows i u s e first left f l =
    let is_sound : SoundCard card = (sound_exactly card).1 rows in
    record {
      is_chain = rw (l, f, e) (file-is-chain card is_sound i u);
      no_repeat = (sound_file card is_sound i u).no_repeat;
    }
