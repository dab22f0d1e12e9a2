-- `mark_run` meets its contract. The loop's invariant: the blocks above `at` are passed.
use Rattle.flash_listing.specs.Passing.{Passed}
use Rattle.flash_listing.specs.contracts.mark_run as contracts
use denote.Param
use Rattle.flash_listing.proofs.mark_run.Given as goal

abbrev pub invariant-loop-at : goal.invariant-loop-at
invariant-loop-at g l = Passed (contracts.LISTED-type (denote.Param.number g.row.LISTED)) l.p l.fn.marks l.fn.kept l.fn.reached l.marks l.kept (record { at = l.at; count = l.count })
