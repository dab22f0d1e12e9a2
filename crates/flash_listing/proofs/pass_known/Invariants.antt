-- `pass_known` meets its contract. The loop's invariant: the blocks above `below` are passed.
use Rattle.flash_listing.specs.Passing.{PassedTo}
use Rattle.flash_listing.proofs.pass_known.Given as goal

abbrev pub invariant-loop-below : goal.invariant-loop-below
invariant-loop-below l = PassedTo l.marks l.p l.from l.below
