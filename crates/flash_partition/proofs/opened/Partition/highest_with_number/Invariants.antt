-- `highest_with_number` meets its contract. The loop's invariant: the blocks from k on are passed.
use Prim.Native.Nat.{◌-◌, ◌≤◌}
use mathlib.Core.Path.{◌≡◌}
use Rattle.flash_partition.specs.Search.{found_up_to}
use Rattle.flash_partition.proofs.opened.Partition.highest_with_number.Given as goal

abbrev pub invariant-loop-k : goal.invariant-loop-k
invariant-loop-k l = (l.k - 1 ≤ l.top) × (found_up_to l.self.image.now l.number l.top ≡ found_up_to l.self.image.now l.number (l.k - 1))
