-- A number that is stored behind a list in any case, and counted where it is kept. Assumes nothing.
use Prim.Native.Nat.{ℕ, ◌+◌, ◌≤◌, ◌<◌}
use mathlib.Core.Path.{◌≡◌}
use mathlib.Core.Bool.{Bool, true, false, cond}
use mathlib.Core.List.{List, [], ◌∷◌, ◌++◌}
use mir.Val.{bool_byte}
use native.Mathlib.Omega.{arith}
use native.Mathlib.Numerals.{add-one}
use lib.ListN.{length, take, set}
use lib.Seq.{take-set-le, take-suc-set}

pub one-at-most : (t : Bool) → bool_byte t ≤ 1
one-at-most true = omega arith
one-at-most false = omega arith

pub stored-kept : (places : List ℕ) (count x : ℕ) (t : Bool) → count < length places
    → take (count + bool_byte t) (set places count x) ≡ cond t (take count places ++ x ∷ []) (take count places)
stored-kept places count x true h = rw (add-one count) (take-suc-set places count x h)
stored-kept places count x false h =
    let e : count + 0 ≡ count = omega arith in
    rw e (take-set-le count places count x (omega arith))
