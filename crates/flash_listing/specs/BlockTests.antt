-- What a pass over the used blocks asks of a block: whether it is new, which mark its number gets, whether it is kept, and whether
-- its number is the lowest so far.
-- Assumes nothing.
use Rattle.std.specs.Prelude.{ℕ, ◌≡◌, Bool, cond, ◌&&◌, List, eqb, ltb, leb, get_or}
use Rattle.words.specs.Lists.{keep, numbers_from}
use Rattle.flash_model.specs.UserBlock.{number, right_checksum}
use Rattle.flash_model.specs.Partition.{block_at}
use Rattle.flash_model.specs.Update.{is_holder}

-- No number has a mark. A mark is any number but 0.
abbrev pub NoneMarked : List ℕ → Type 0
NoneMarked marks = (n : ℕ) → get_or marks n 0 ≡ 0

-- The block's number is below the end and has no mark.
unfoldable pub is_new : ℕ → List ℕ → List ℕ → Bool
is_new end block marks = ltb (number block) end && eqb (get_or marks (number block) 0) 0

-- The mark that a block's number gets.
unfoldable pub mark : List ℕ → ℕ
mark block = cond (right_checksum block) 1 0

-- Block k holds the contents of its number, and that number has no mark.
unfoldable pub is_kept : List ℕ → List ℕ → ℕ → Bool
is_kept marks image k = is_holder image k && eqb (get_or marks (number (block_at image k)) 0) 0

-- Those of the used blocks, in rising order.
unfoldable pub kept_blocks : List ℕ → List ℕ → ℕ → List ℕ
kept_blocks marks image used = keep (is_kept marks image) (numbers_from 1 used)

-- The block's number, if it is lower than the best so far, not below the start, and the checksum is right.
unfoldable pub lowered : ℕ → List ℕ → ℕ → ℕ
lowered start block best = cond (leb start (number block) && (ltb (number block) best && right_checksum block)) (number block) best
