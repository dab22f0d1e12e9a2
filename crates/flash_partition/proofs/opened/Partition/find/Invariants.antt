-- `find` meets its contract. The loop's invariant: the blocks above `top` are passed.
use Prim.Native.Nat.{◌≤◌}
use mathlib.Core.Path.{◌≡◌}
use Rattle.flash_model.specs.Partition.{holder}
use Rattle.flash_partition.specs.Search.{found_up_to}
use Rattle.flash_partition.proofs.opened.Partition.find.Given as goal

abbrev pub invariant-loop-at : goal.invariant-loop-at
invariant-loop-at l = (l.top ≤ l.self.log.used) × (holder l.self.image.now l.number ≡ found_up_to l.self.image.now l.number l.top)

abbrev pub decreases-loop-at : goal.decreases-loop-at
decreases-loop-at l = l.top
