-- What a call knows of a card that it has opened.
-- Assumes nothing.
use Rattle.std.specs.Prelude.{ℕ, List, length}
use Rattle.card_model.specs.Layout.{table_of, directory_of}
use Rattle.card_model.specs.Files.{files_before}
use Rattle.card_model.specs.Sound.{NoRowRefuses}
use Rattle.card_directory.specs.Listed.{Listed}
use Rattle.card_chains.specs.Marks.{MarkedFiles}

-- No row refuses the card, its used entries are listed, and the blocks of its files are marked.
pub record OpenCard (card used marks : List ℕ) : Type 0 where
  pub rows : NoRowRefuses card
  pub listed : Listed (directory_of card) 208 used (length used)
  pub marked : MarkedFiles (table_of card) (files_before (table_of card) (directory_of card) 208) marks
