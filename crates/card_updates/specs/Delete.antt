-- Deleting a file: request 1. "delete any file by name"
-- Assumes nothing.
use Rattle.std.specs.Prelude.{ℕ, not, cond, List, [], ◌∷◌, eqb, length, replicate}
use Rattle.std.specs.Prelude.{Option, None, Some}
use Rattle.words.specs.Lists.{is_some}
use Rattle.verdicts.specs.declared.Place.TheVariants.{Whole}
use Rattle.verdicts.specs.Rows.{Verdict}
use Rattle.verdicts.specs.Rows.{accepted, row_at, unless_refused}
use Rattle.card_model.specs.Layout.{entry_place, directory_of}
use Rattle.card_model.specs.Calls.{verdict_of, entry_named}
use Rattle.card_model.specs.Sound.{file_on}
use Rattle.card_updates.specs.Parts.{with_part, with_link}

-- "Delete tests the card, 33, 31." 33: "name 12"; 31: "no file of that name".
unfoldable pub delete_rows : List (List ℕ) → List ℕ → Verdict
delete_rows directory name =
    unless_refused (row_at 33 Whole (not (eqb (length name) 12)))
    (row_at 31 Whole (not (is_some (entry_named directory name))))

unfoldable pub delete_verdict : List ℕ → List ℕ → Verdict
delete_verdict card name = unless_refused (verdict_of card) (delete_rows (directory_of card) name)

-- "Delete sets the chain to FFFC", block after block in the order of the file,
unfoldable pub freed : List ℕ → List ℕ → List ℕ
freed card [] = card
freed card (b ∷ blocks) = freed (with_link card b 0xFFFC) blocks

-- "and the entry to 32 zeros and leaves the data blocks' bytes."
unfoldable pub without_file : List ℕ → ℕ → List ℕ
without_file card i = with_part (freed card (file_on card i)) (entry_place i) (replicate 32 0)

-- 31 has refused where there is none.
abbrev pub without_found : List ℕ → Option ℕ → List ℕ
without_found card None = card
without_found card (Some i) = without_file card i

-- The card that a delete leaves. "A refusal changes no byte of any buffer."
unfoldable pub deleted : List ℕ → List ℕ → List ℕ
deleted card name = cond (accepted (delete_verdict card name)) (without_found card (entry_named (directory_of card) name)) card
