use Rattle.std.proofs.Common.{arith}
use Rattle.card_files.proofs.UnusedLaws.{counts-next}
use Rattle.card_files.proofs.entries.lowest_unused.Goals as goal

pub loop-i-preserved : goal.loop-i-preserved
loop-i-preserved c = counts-next _ _ c.loop-i.invariant (omega arith)
