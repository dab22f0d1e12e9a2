-- What `==` answers at slices and arrays of bytes. Assumes nothing.
use Prim.Native.Nat.{ℕ}
use mathlib.Core.Path.{◌≡◌, refl}
use mathlib.Core.List.{List, [], ◌∷◌}
use lib.Dec.{eqb}
use lib.Pointwise.{pointwise}
use Rattle.words.specs.Words.{same_bytes}

pub pointwise-same : (l m : List ℕ) → pointwise eqb l m ≡ same_bytes l m
pointwise-same [] [] = refl
pointwise-same [] (y ∷ m) = refl
pointwise-same (x ∷ l) [] = refl
pointwise-same (x ∷ l) (y ∷ m) = rw (pointwise-same l m)
