use mathlib.Core.Path.{sym, ◌∙◌}
use native.Mathlib.Omega.{arith}
use Rattle.flash_partition.proofs.SearchLaws.{none-numbered}
use Rattle.flash_partition.proofs.opened.Partition.pass_eights.Goals as goal

pub loop-k-preserved : goal.loop-k-preserved
loop-k-preserved c = (
  omega (arith, c.loop-k.invariant.0),
  c.loop-k.invariant.1 ∙ none-numbered _ _ _ _ c.loop-k-test.true (sym c.any_of_eight.ensures ∙ c.if-any_of_eight.false),
)
