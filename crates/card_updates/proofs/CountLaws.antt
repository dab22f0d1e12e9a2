-- Laws of counting the numbers of a range that pass a test, and of what is kept of a list. Assumes nothing.
use Prim.Native.Nat.{ℕ, zero, suc, ◌+◌}
use mathlib.Core.Path.{◌≡◌, refl, sym, ap, ◌∙◌}
use mathlib.Core.Bool.{Bool, true, false, cond, false≢true, or-true}
use mathlib.Core.List.{List, [], ◌∷◌}
use native.Mathlib.Omega.{arith}
use native.Mathlib.Decide.{ℕ_discrete}
use lib.Dec.{eqb}
use lib.ListN.{length}
use borrow.Author.Tests.{eq-eqb, ne_eqb}
use Rattle.words.specs.Lists.{keep, has}
use Rattle.words.proofs.Distinct.{count, one, count_next}
use Rattle.card_updates.specs.Write.{numbers_down}

-- ---- counts

count-split : (p : ℕ → Bool) (k m n : ℕ) → count p k (m + n) ≡ count p k m + count p (k + m) n
count-split p k zero n =
    let e : 0 + n ≡ n = omega arith in
    let f : k + 0 ≡ k = omega arith in
    rw (e, f) (omega arith)
count-split p k (suc m) n =
    let e : suc m + n ≡ suc (m + n) = omega arith in
    let f : k + suc m ≡ suc k + m = omega arith in
    ap (count p k) e ∙ rw f (omega (arith, count_next p k (m + n), count_next p k m, count-split p (suc k) m n))

count-last : (p : ℕ → Bool) (k n : ℕ) → count p k (suc n) ≡ count p k n + one (p (k + n))
count-last p k n =
    let e : suc n ≡ n + 1 = omega arith in
    ap (count p k) e ∙ count-split p k n 1 ∙ omega (arith, count_next p (k + n) 0)

pub count_down : (p : ℕ → Bool) (n : ℕ) → length (keep p (numbers_down n)) ≡ count p 0 n
count_down p zero = refl
count_down p (suc n) =
    let e : 0 + n ≡ n = omega arith in
    go (p n) ∙ sym (count-last p 0 n ∙ rw e (omega (arith, count_down p n)))
  where
    go : (t : Bool) → length (cond t (n ∷ keep p (numbers_down n)) (keep p (numbers_down n))) ≡ one t + length (keep p (numbers_down n))
    go true = omega arith
    go false = omega arith

-- ---- what is kept

pub has-later : (x y : ℕ) (l : List ℕ) → has y l ≡ true → has y (x ∷ l) ≡ true
has-later x y l h = rw h (or-true (eqb x y))

pub has_kept : (q : ℕ → Bool) (l : List ℕ) (x : ℕ) → has x l ≡ true → q x ≡ true → has x (keep q l) ≡ true
has_kept q [] x e t = e
has_kept q (y ∷ l) x e t = go (ℕ_discrete y x) (has_kept q l x)
  where
    here : (t : Bool) → t ≡ true → has x (cond t (x ∷ keep q l) (keep q l)) ≡ true
    here true f = rw (eq-eqb x x refl)
    here false f = absurd (false≢true f)

    later : (t : Bool) → has x (keep q l) ≡ true → has x (cond t (y ∷ keep q l) (keep q l)) ≡ true
    later true f = rw f (or-true (eqb y x))
    later false f = f

    go : Dec (y ≡ x) → (has x l ≡ true → q x ≡ true → has x (keep q l) ≡ true) → has x (keep q (y ∷ l)) ≡ true
    go (yes d) ih = rw d (here (q x) t)
    go (no d) ih = later (q y) (ih (rw (ne_eqb y x d) at e) t)
