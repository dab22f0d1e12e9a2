use Rattle.std.proofs.Common.{arith, sym, ◌∙◌}
use Rattle.flash_listing.proofs.ListedLaws.{known-then, known-next}
use Rattle.flash_listing.proofs.pass_known.Goals as goal

pub loop-below-preserved : goal.loop-below-preserved
loop-below-preserved c =
    known-then c.loop-below.invariant
    (known-next (omega arith) c.loop-below.invariant.pass_at (omega arith) c.block.ensures c.capacity-end.ensures (sym c.is_new.ensures ∙ c.if-is_new.false))
