-- `pass` meets its contract. The loop's invariant: the pass is where `reached` says.
use Rattle.flash_listing.specs.Passing.{Passed, whole}
use Rattle.flash_listing.specs.contracts.pass as contracts
use denote.Param
use Rattle.flash_listing.proofs.pass.Given as goal

abbrev pub invariant-loop-reached : goal.invariant-loop-reached
invariant-loop-reached g l = Passed (contracts.LISTED-type (denote.Param.number g.row.LISTED)) l.p l.fn.marks l.fn.kept (whole l.p) l.marks l.kept l.reached

abbrev pub decreases-loop-reached : goal.decreases-loop-reached
decreases-loop-reached g l = l.reached.at
