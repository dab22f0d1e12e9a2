-- Steps along the table.
-- Assumes nothing.
use Rattle.std.specs.Prelude.{ℕ, zero, suc, List}
use Rattle.card_model.specs.declared.Link.{Link}
use Rattle.card_model.specs.declared.Link.TheVariants.{Free, Damaged, Last, Next, Bad}
use Rattle.card_model.specs.Table.{link_at}

-- One step from block b: to the block that its entry names, if it names one.
abbrev pub step_from : ℕ → Link → ℕ
step_from b (Next n) = n
step_from b Last = b
step_from b Free = b
step_from b Damaged = b
step_from b Bad = b

-- The block that a number of steps from b lead to.
unfoldable pub block_after : List ℕ → ℕ → ℕ → ℕ
block_after table b zero = b
block_after table b (suc steps) = block_after table (step_from b (link_at table b)) steps
