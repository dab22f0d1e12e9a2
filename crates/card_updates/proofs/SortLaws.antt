-- Lists in order. Assumes nothing.
use Prim.Native.Nat.{ℕ, zero, suc, ◌<◌}
use mathlib.Core.Path.{◌≡◌, refl, subst, ◌∙◌}
use mathlib.Core.Bool.{Bool, true, false, cond, ◌||◌, false≢true, or-true}
use mathlib.Core.List.{List, [], ◌∷◌, ◌++◌}
use native.Mathlib.Omega.{arith}
use native.Mathlib.Decide.{ℕ_discrete}
use lib.Dec.{eqb}
use lib.ListN.{length, get_or}
use borrow.Author.Tests.{eqb-true, eq-eqb}
use Rattle.words.specs.Lists.{keep, has}
use Rattle.words.proofs.ListLaws.{All, all_keep, all-mono, all-at}
use Rattle.words.proofs.JoinLaws.{all-has, any_append}
use Rattle.card_updates.specs.Write.{numbers_down}
use Rattle.card_updates.proofs.CountLaws.{has-later}

module _ (R : ℕ → ℕ → Type 0) where
  abbrev pub Sorted : List ℕ → Type 0
  Sorted [] = Unit {0}
  Sorted (x ∷ l) = All (R x) l × Sorted l

  pub sorted-keep : (q : ℕ → Bool) (l : List ℕ) → Sorted l → Sorted (keep q l)
  sorted-keep q [] s = tt
  sorted-keep q (x ∷ l) s = go (q x) (sorted-keep q l s.1)
    where
      go : (t : Bool) → Sorted (keep q l) → Sorted (cond t (x ∷ keep q l) (keep q l))
      go true ih = (all_keep (R x) q l s.0, ih)
      go false ih = ih

  -- what is in the first part is before what is in the second
  pub sorted-across : (a b : List ℕ) (x y : ℕ) → Sorted (a ++ b) → has x a ≡ true → has y b ≡ true → R x y
  sorted-across [] b x y s e f = absurd (false≢true e)
  sorted-across (z ∷ a) b x y s e f = go (eqb z x) refl e (sorted-across a b x y s.1)
    where
      later : has y (a ++ b) ≡ true
      later = any_append (λ w. eqb w y) a b ∙ rw f (or-true (has y a))

      go : (t : Bool) → eqb z x ≡ t → (t || has x a) ≡ true → (has x a ≡ true → has y b ≡ true → R x y) → R x y
      go true d e ih = subst (λ (w : ℕ). R w y) (eqb-true z x d) (all-has (R z) (a ++ b) y s.0 later)
      go false d e ih = ih e f

  -- by their places
  pub sorted-at : (l : List ℕ) (j k : ℕ) → Sorted l → j < k → k < length l → R (get_or l j 0) (get_or l k 0)
  sorted-at [] j k s h w = absurd (omega arith)
  sorted-at (x ∷ l) j zero s h w = absurd (omega arith)
  sorted-at (x ∷ l) zero (suc k) s h w = all-at (R x) l k s.0 (omega arith) 0
  sorted-at (x ∷ l) (suc j) (suc k) s h w = sorted-at l j k s.1 (omega arith) (omega arith)

pub numbers-down : (n : ℕ) → All (λ b. b < n) (numbers_down n)
numbers-down zero = tt
numbers-down (suc n) = (omega arith, all-mono (λ b. b < n) (λ b. b < suc n) (λ b h. omega arith) (numbers_down n) (numbers-down n))

pub down-sorted : (n : ℕ) → Sorted (λ x y. y < x) (numbers_down n)
down-sorted zero = tt
down-sorted (suc n) = (numbers-down n, down-sorted n)

pub down-has : (n b : ℕ) → b < n → has b (numbers_down n) ≡ true
down-has zero b h = absurd (omega arith)
down-has (suc n) b h = go (ℕ_discrete n b) (down-has n b)
  where
    go : Dec (n ≡ b) → (b < n → has b (numbers_down n) ≡ true) → has b (numbers_down (suc n)) ≡ true
    go (yes d) ih = rw (eq-eqb n b d)
    go (no d) ih = has-later n b (numbers_down n) (ih (omega (arith, d)))
