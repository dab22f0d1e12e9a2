-- Rows 27 and 28, one after the other.
-- Assumes nothing.
use Rattle.std.specs.Prelude.{ℕ, List}
use Rattle.verdicts.specs.Rows.{Verdict}
use Rattle.verdicts.specs.Rows.{unless_refused}
use Rattle.card_model.specs.Files.{chain_row, sharing_row}

abbrev pub chain_rows : List ℕ → List (List ℕ) → Verdict
chain_rows table directory = unless_refused (chain_row table directory) (sharing_row table directory)
