-- Laws of lists that are joined, of what is in a list or a range, and of counting the numbers of a range by their class.
-- Assumes nothing.
use Prim.Native.Nat.{ℕ, zero, suc, ◌+◌, ◌≤◌, ◌<◌}
use mathlib.Core.Path.{◌≡◌, refl, sym, ap, subst, ◌∙◌}
use mathlib.Core.Bool.{Bool, true, false, ◌||◌, true≢false, false≢true, or_assoc, or-true}
use mathlib.Core.List.{List, [], ◌∷◌, ◌++◌, map, append-nil, append_assoc}
use native.Mathlib.Omega.{arith}
use native.Mathlib.Decide.{ℕ_discrete}
use lib.Dec.{eqb}
use lib.ListN.{length, length-append}
use borrow.Author.Tests.{eqb-true, eqb-false, eq-eqb, ne_eqb}
use Rattle.words.specs.Lists.{any_of, has, Distinct, concat, numbers_from}
use Rattle.words.proofs.Bools.{or-false-left, or-false-right}
use Rattle.words.proofs.ListLaws.{All, all-range}
use Rattle.words.proofs.Distinct.{count, one, count_next}

module _ {A : Type 0} where
  pub concat-snoc : (l : List (List A)) (x : List A) → concat (l ++ x ∷ []) ≡ concat l ++ x
  concat-snoc [] x = append-nil x
  concat-snoc (y ∷ l) x = ap (λ (r : List A). y ++ r) (concat-snoc l x) ∙ sym (append_assoc y (concat l) x)

  pub all_append : (P : A → Type 0) (l m : List A) → All P l → All P m → All P (l ++ m)
  all_append P [] m a b = b
  all_append P (x ∷ l) m a b = (a.0, all_append P l m a.1 b)

  pub any_append : (p : A → Bool) (l m : List A) → any_of p (l ++ m) ≡ (any_of p l || any_of p m)
  any_append p [] m = refl
  any_append p (x ∷ l) m = rw (any_append p l m) (sym (or_assoc (p x) (any_of p l) (any_of p m)))

  pub none-weaker : (p q : A → Bool) → ((x : A) → p x ≡ false → q x ≡ false) → (l : List A) → any_of p l ≡ false → any_of q l ≡ false
  none-weaker p q f [] e = refl
  none-weaker p q f (x ∷ l) e =
      rw (f x (or-false-left (p x) (any_of p l) e), none-weaker p q f l (or-false-right (p x) (any_of p l) e))

-- ---- what is in a list

pub none_has : (p : ℕ → Bool) (l : List ℕ) (n : ℕ) → any_of p l ≡ false → p n ≡ true → has n l ≡ false
none_has p l n e h = none-weaker p (λ m. eqb m n) (λ m f. ne_eqb m n (λ d. true≢false (sym h ∙ ap p (sym d) ∙ f))) l e

pub all-has : (P : ℕ → Type 0) (l : List ℕ) (n : ℕ) → All P l → has n l ≡ true → P n
all-has P [] n a h = absurd (false≢true h)
all-has P (x ∷ l) n a h = go (all-has P l n a.1) (eqb x n) refl h
  where
    go : (has n l ≡ true → P n) → (t : Bool) → eqb x n ≡ t → (t || has n l) ≡ true → P n
    go ih true d h = subst P (eqb-true x n d) a.0
    go ih false d h = ih h

-- a number of the list that passes
pub record Among (p : ℕ → Bool) (l : List ℕ) : Type 0 where
  pub found : ℕ
  pub is_in : has found l ≡ true
  pub passes : p found ≡ true

pub any-among : (p : ℕ → Bool) (l : List ℕ) → any_of p l ≡ true → Among p l
any-among p [] e = absurd (false≢true e)
any-among p (x ∷ l) e = go (any-among p l) (p x) refl e
  where
    go : (any_of p l ≡ true → Among p l) → (t : Bool) → p x ≡ t → (t || any_of p l) ≡ true → Among p (x ∷ l)
    go ih true q e = record { found = x; is_in = rw (eq-eqb x x refl); passes = q }
    go ih false q e =
        let a = ih e in
        record { found = a.found; is_in = rw a.is_in (or-true (eqb x a.found)); passes = a.passes }

pub among-any : (p : ℕ → Bool) (l : List ℕ) (n : ℕ) → has n l ≡ true → p n ≡ true → any_of p l ≡ true
among-any p l n h e = go (any_of p l) refl
  where
    go : (t : Bool) → any_of p l ≡ t → t ≡ true
    go true q = refl
    go false q = sym (none_has p l n q e) ∙ h

-- the joined list repeats no number where neither part does and no number of the second is in the first
pub distinct_append : (l m : List ℕ) → Distinct l → Distinct m → any_of (λ b. has b l) m ≡ false → Distinct (l ++ m)
distinct_append [] m d f e = f
distinct_append (x ∷ l) m d f e =
    let h : has x m ≡ false = none-weaker (λ b. has b (x ∷ l)) (λ b. eqb b x) here m e in
    (any_append (λ b. eqb b x) l m ∙ rw (d.0, h), distinct_append l m d.1 f (none-weaker _ (λ b. has b l) (λ b. or-false-right (eqb x b) (has b l)) m e))
  where
    here : (b : ℕ) → has b (x ∷ l) ≡ false → eqb b x ≡ false
    here b e = ne_eqb b x (λ d. eqb-false x b (or-false-left (eqb x b) (has b l) e) (sym d))

-- ---- a range

pub none-range : (p : ℕ → Bool) (k n : ℕ) → any_of p (numbers_from k n) ≡ false → (i : ℕ) → k ≤ i → i < k + n → p i ≡ false
none-range p k zero e i a b = absurd (omega arith)
none-range p k (suc n) e i a b = go (none-range p (suc k) n (or-false-right (p k) _ e) i) (ℕ_discrete i k)
  where
    go : (suc k ≤ i → i < suc k + n → p i ≡ false) → Dec (i ≡ k) → p i ≡ false
    go ih (yes d) = ap p d ∙ or-false-left (p k) _ e
    go ih (no d) = ih (omega (arith, d)) (omega arith)

pub in_range : (k n i : ℕ) → has i (numbers_from k n) ≡ true → (k ≤ i) × (i < k + n)
in_range k n i h = all-has (λ j. (k ≤ j) × (j < k + n)) (numbers_from k n) i (all-range _ k n (λ j a b. (a, b))) h

pub any-range : (p : ℕ → Bool) (k n i : ℕ) → k ≤ i → i < k + n → p i ≡ true → any_of p (numbers_from k n) ≡ true
any-range p k n i a b e = go (any_of p (numbers_from k n)) refl
  where
    go : (t : Bool) → any_of p (numbers_from k n) ≡ t → t ≡ true
    go true q = refl
    go false q = sym (none-range p k n q i a b) ∙ e

-- where each number of a range is of exactly one class, the classes together make the range
pub count-classes : (p q r s : ℕ → Bool) (k n : ℕ) → ((i : ℕ) → k ≤ i → i < k + n → one (p i) + one (q i) + one (r i) + one (s i) ≡ 1)
    → count p k n + count q k n + count r k n + count s k n ≡ n
count-classes p q r s k zero h = refl
count-classes p q r s k (suc n) h =
    let later = count-classes p q r s (suc k) n (λ i a b. h i (omega arith) (omega arith)) in
    let here = h k (omega arith) (omega arith) in
    omega (arith, count_next p k n, count_next q k n, count_next r k n, count_next s k n)

module _ {A B : Type 0} where
  pub any-concat : (p : B → Bool) (f : A → List B) (l : List A) → any_of p (concat (map f l)) ≡ any_of (λ x. any_of p (f x)) l
  any-concat p f [] = refl
  any-concat p f (x ∷ l) = any_append p (f x) (concat (map f l)) ∙ rw (any-concat p f l)

module _ {A : Type 0} where
  -- no more numbers pass than their lists have elements, where each that passes has one
  pub count-concat : (p : ℕ → Bool) (f : ℕ → List A) (k n : ℕ) → ((i : ℕ) → k ≤ i → i < k + n → one (p i) ≤ length (f i))
      → count p k n ≤ length (concat (map f (numbers_from k n)))
  count-concat p f k zero h = omega arith
  count-concat p f k (suc n) h =
      let later = count-concat p f (suc k) n (λ i a b. h i (omega arith) (omega arith)) in
      let here = h k (omega arith) (omega arith) in
      omega (arith, count_next p k n, length-append (f k) (concat (map f (numbers_from (suc k) n))))
