-- `flash_moving::keep_blocks` meets its contract. The loop's invariant: what stands below the next place, with what is still to be moved there,
-- is always the same.
use Prim.Native.Nat.{◌+◌}
use Rattle.flash_moving.proofs.ConservedLaws.{Conserved}
use Rattle.flash_moving.proofs.keep_blocks.Given as goal

abbrev pub invariant-loop-i : goal.invariant-loop-i
invariant-loop-i l = Conserved l.kept l.initial.image (l.i + 1) l.image
