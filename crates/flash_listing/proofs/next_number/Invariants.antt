-- `next_number` meets its contract. The loop's invariant: the best so far of the blocks passed.
use Rattle.flash_listing.proofs.NextLaws.{BestSoFar}
use Rattle.flash_listing.proofs.next_number.Given as goal

abbrev pub invariant-loop-k : goal.invariant-loop-k
invariant-loop-k l = BestSoFar l.p.image.now l.start l.end l.k l.best
