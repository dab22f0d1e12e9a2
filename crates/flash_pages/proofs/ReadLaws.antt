-- Which block a number's contents stand in. Assumes nothing.
use Prim.Native.Nat.{ℕ, ◌≤◌}
use mathlib.Core.Path.{◌≡◌, ap}
use mathlib.Core.List.{List}
use Rattle.std.specs.Prelude.{Some}
use native.Mathlib.Omega.{arith}
use Rattle.flash_model.specs.Measures.{capacity}
use Rattle.flash_model.specs.Partition.{holder}
use Rattle.flash_model.proofs.HolderLaws.{holder-held}
use Rattle.flash_partition.specs.Usable.{Usable}
use Rattle.flash_partition.specs.declared.opened.OpenedLog.{OpenedLog}

pub holder_high : {image : List ℕ} {log : OpenedLog} → Usable image log → (n k : ℕ) → holder image n ≡ Some k → k ≤ capacity log.m.size
holder_high {image} u n k e = omega (arith, (holder-held image n k e).highest_one.high, ap capacity u.has_size)
