-- What a read leaves in its buffer where refusals 1 to 5 don't apply, and which way a page is written.
-- Assumes nothing.
use Rattle.std.specs.Prelude.{ℕ, Bool, cond, List, eqb}
use Rattle.std.specs.Prelude.{Option, None, Some}
use Rattle.words.specs.Lists.{is_some}
use Rattle.flash_model.specs.Partition.{contents}
use Rattle.flash_model.specs.Calls.{read_rows}

-- The page, or the buffer as it was: "A refusal changes no byte of any buffer."
abbrev pub or_buffer : Option (List ℕ) → List ℕ → List ℕ
or_buffer None buffer = buffer
or_buffer (Some page) buffer = page

unfoldable pub read_buffer : List ℕ → ℕ → List ℕ → List ℕ
read_buffer image n buffer = cond (eqb (read_rows image n buffer) 0) (or_buffer (contents image n) buffer) buffer

-- Whether there is a block to append to.
abbrev pub can_append : Option ℕ → Bool
can_append o = is_some o
