-- `flash_bitmap::runs::run_end` meets its contract. Both loops' invariant: the run goes as far as the loop has come. Assumes
use Prim.Native.Nat.{◌-◌}
use Rattle.flash_bitmap.specs.EqualRun.{EqualRun}
use Rattle.flash_bitmap.proofs.runs.run_end.Given as goal

abbrev pub invariant-loop-i : goal.invariant-loop-i
invariant-loop-i l = EqualRun l.s l.byte l.at l.end l.i

abbrev pub decreases-loop-i : goal.decreases-loop-i
decreases-loop-i l = l.end - l.i

abbrev pub invariant-loop-i-2 : goal.invariant-loop-i-2
invariant-loop-i-2 l = EqualRun l.s l.byte l.at l.end l.i

abbrev pub decreases-loop-i-2 : goal.decreases-loop-i-2
decreases-loop-i-2 l = l.end - l.i
