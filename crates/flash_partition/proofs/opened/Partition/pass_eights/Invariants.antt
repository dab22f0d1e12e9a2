-- `pass_eights` meets its contract. The loop's invariant: the blocks above k are passed.
use Prim.Native.Nat.{◌≤◌}
use mathlib.Core.Path.{◌≡◌}
use Rattle.flash_partition.specs.Search.{found_up_to}
use Rattle.flash_partition.proofs.opened.Partition.pass_eights.Given as goal

abbrev pub invariant-loop-k : goal.invariant-loop-k
invariant-loop-k l = (l.k ≤ l.top) × (found_up_to l.self.image.now l.number l.top ≡ found_up_to l.self.image.now l.number l.k)

abbrev pub decreases-loop-k : goal.decreases-loop-k
decreases-loop-k l = l.k
