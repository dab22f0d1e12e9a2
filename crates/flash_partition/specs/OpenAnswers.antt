-- What opening an image tests before the bitmap.
-- Assumes nothing.
use Rattle.std.specs.Prelude.{ℕ, List}
use Rattle.flash_model.specs.Partition.{first, length_row, header_rows}

-- Refusals 1 to 4: what the length and the header tell.
unfoldable pub header_refusal : List ℕ → ℕ → ℕ
header_refusal image partition = first (length_row image) (header_rows image partition)
