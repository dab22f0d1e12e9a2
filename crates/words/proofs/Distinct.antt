-- A list of different numbers below k: it has at most k of them, and how many of the numbers below k are in it.
-- Assumes nothing.
use Prim.Native.Nat.{ℕ, zero, suc, ◌+◌, ◌≤◌, ◌<◌}
use mathlib.Core.Path.{◌≡◌, refl, sym, ap, subst, ◌∙◌}
use mathlib.Core.Bool.{Bool, true, false, not, cond, ◌||◌}
use mathlib.Core.List.{List, [], ◌∷◌}
use native.Mathlib.Omega.{arith}
use native.Mathlib.Nat.{not-suc-le-zero}
use lib.Dec.{eqb}
use lib.ListN.{length}
use native.Mathlib.Decide.{ℕ_discrete}
use borrow.Author.Tests.{eqb-true, eqb-false, eq-eqb, ne_eqb}
use Rattle.words.specs.Lists.{keep, has, Distinct, numbers_from}
use Rattle.words.proofs.Bools.{or-false-left, or-false-right}
use Rattle.words.proofs.ListLaws.{All, all_keep, none-keep}

abbrev pub except : ℕ → List ℕ → List ℕ
except k = keep (λ x. not (eqb x k))

pub keep-distinct : (q : ℕ → Bool) (l : List ℕ) → Distinct l → Distinct (keep q l)
keep-distinct q [] d = tt
keep-distinct q (x ∷ l) d = go (keep-distinct q l d.1) (q x)
  where
    go : Distinct (keep q l) → (t : Bool) → Distinct (cond t (x ∷ keep q l) (keep q l))
    go ih true = (none-keep (λ c. eqb c x) q l d.0, ih)
    go ih false = ih

except-absent : (k : ℕ) (l : List ℕ) → has k l ≡ false → except k l ≡ l
except-absent k [] e = refl
except-absent k (x ∷ l) e =
    rw (or-false-left (eqb x k) (has k l) e, except-absent k l (or-false-right (eqb x k) (has k l) e))

drops-one : (k : ℕ) (l : List ℕ) → Distinct l → length l ≤ suc (length (except k l))
drops-one k [] d = omega arith
drops-one k (x ∷ l) d = go (drops-one k l d.1) (eqb x k) refl
  where
    go : length l ≤ suc (length (except k l)) → (t : Bool) → eqb x k ≡ t → suc (length l) ≤ suc (length (cond (not t) (x ∷ except k l) (except k l)))
    go ih true e = rw (except-absent k l (subst (λ (j : ℕ). has j l ≡ false) (eqb-true x k e) d.0)) (omega arith)
    go ih false e = omega arith

except-below : (k : ℕ) (l : List ℕ) → All (λ x. x < suc k) l → All (λ x. x < k) (except k l)
except-below k [] a = tt
except-below k (x ∷ l) a = go (except-below k l a.1) a.0 (eqb x k) refl
  where
    go : All (λ x. x < k) (except k l) → x < suc k → (t : Bool) → eqb x k ≡ t → All (λ x. x < k) (cond (not t) (x ∷ except k l) (except k l))
    go ih h true e = ih
    go ih h false e = (omega (arith, h, eqb-false x k e), ih)

pub pigeonhole : (k : ℕ) (l : List ℕ) → Distinct l → All (λ x. x < k) l → length l ≤ k
pigeonhole zero [] d a = omega arith
pigeonhole zero (x ∷ l) d a = absurd (not-suc-le-zero a.0)
pigeonhole (suc k) l d a =
    omega (arith, drops-one k l d, pigeonhole k (except k l) (keep-distinct (λ x. not (eqb x k)) l d) (except-below k l a))

pub except-has : (k : ℕ) (l : List ℕ) → has k (except k l) ≡ false
except-has k [] = refl
except-has k (x ∷ l) = go (except-has k l) (eqb x k) refl
  where
    go : has k (except k l) ≡ false → (t : Bool) → eqb x k ≡ t → has k (cond (not t) (x ∷ except k l) (except k l)) ≡ false
    go ih true e = ih
    go ih false e = rw (e, ih)

-- without one of the numbers below k, there is room for it
pub room_for : (k n : ℕ) (l : List ℕ) → n < k → Distinct l → All (λ x. x < k) l → suc (length (except n l)) ≤ k
room_for k n l h d a =
    pigeonhole k (n ∷ except n l) (except-has n l, keep-distinct (λ x. not (eqb x n)) l d) (h, all_keep (λ x. x < k) (λ x. not (eqb x n)) l a)

-- ---- how many numbers of a range are in the list

abbrev pub count : (ℕ → Bool) → ℕ → ℕ → ℕ
count p k n = length (keep p (numbers_from k n))

abbrev pub one : Bool → ℕ
one true = 1
one false = 0

pub count_next : (p : ℕ → Bool) (k n : ℕ) → count p k (suc n) ≡ one (p k) + count p (suc k) n
count_next p k n = go (p k)
  where
    go : (t : Bool) → length (cond t (k ∷ keep p (numbers_from (suc k) n)) (keep p (numbers_from (suc k) n))) ≡ one t + count p (suc k) n
    go true = omega arith
    go false = omega arith

pub count_same : (p q : ℕ → Bool) (k n : ℕ) → ((i : ℕ) → k ≤ i → i < k + n → p i ≡ q i) → count p k n ≡ count q k n
count_same p q k zero h = refl
count_same p q k (suc n) h =
    let e = count_same p q (suc k) n (λ i a b. h i (omega arith) (omega arith)) in
    count_next p k n ∙ rw (h k (omega arith) (omega arith), e) (sym (count_next q k n))

-- one number more passes
one_more : (p : ℕ → Bool) (x k n : ℕ) → k ≤ x → x < k + n → p x ≡ false → count (λ i. eqb x i || p i) k n ≡ suc (count p k n)
one_more p x k zero a b e = absurd (omega arith)
one_more p x k (suc n) a b e =
    count_next (λ i. eqb x i || p i) k n ∙ go (λ h. one_more p x (suc k) n h (omega arith) e) (ℕ_discrete x k) ∙ ap suc (sym (count_next p k n))
  where
    go : (suc k ≤ x → count (λ i. eqb x i || p i) (suc k) n ≡ suc (count p (suc k) n)) → Dec (x ≡ k)
        → one (eqb x k || p k) + count (λ i. eqb x i || p i) (suc k) n ≡ suc (one (p k) + count p (suc k) n)
    go ih (yes d) =
        let f : p k ≡ false = ap p (sym d) ∙ e in
        let g = count_same (λ i. eqb x i || p i) p (suc k) n (λ i h m. rw (ne_eqb x i (λ c. omega (arith, c, d, h)))) in
        rw (eq-eqb x k d, f) (omega (arith, g))
    go ih (no d) = rw (ne_eqb x k d) (omega (arith, ih (omega (arith, d))))

pub count-has : (k : ℕ) (l : List ℕ) → Distinct l → All (λ x. x < k) l → length (keep (λ n. has n l) (numbers_from 0 k)) ≡ length l
count-has k [] d a = None 0 k
  where
    None : (j n : ℕ) → length (keep (λ i. false) (numbers_from j n)) ≡ 0
    None j zero = refl
    None j (suc n) = None (suc j) n
count-has k (x ∷ l) d a = one_more (λ n. has n l) x 0 k (omega arith) (omega (arith, a.0)) d.0 ∙ ap suc (count-has k l d.1 a.1)
