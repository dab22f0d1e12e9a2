-- The marks of numbers as they are made. Assumes nothing.
use Prim.Native.Nat.{ℕ, zero, suc}
use mathlib.Core.Path.{refl}
use mathlib.Core.List.{List}
use lib.ListN.{replicate}
use Rattle.flash_listing.specs.BlockTests.{NoneMarked}

-- a place for each number of any partition
abbrev pub no_marks : List ℕ
no_marks = replicate 1021 0

none-marked-in : (m : ℕ) → NoneMarked (replicate m 0)
none-marked-in zero n = refl
none-marked-in (suc m) zero = refl
none-marked-in (suc m) (suc n) = none-marked-in m n

pub none_marked : NoneMarked no_marks
none_marked = none-marked-in 1021
