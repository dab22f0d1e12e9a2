-- `any_of_eight` meets its contract. The loop's invariant: whether one of the j blocks that were looked at has the number.
use mathlib.Core.Path.{◌≡◌}
use Rattle.flash_partition.specs.Search.{any_numbered}
use Rattle.flash_partition.proofs.opened.Partition.any_of_eight.Given as goal

abbrev pub invariant-loop-j : goal.invariant-loop-j
invariant-loop-j l = l.any ≡ any_numbered l.self.image.now l.number l.k l.j
