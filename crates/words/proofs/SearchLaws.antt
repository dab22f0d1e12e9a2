-- Laws of the searches: what a found number tells and what shows that it is found; the last element of a list that passes
-- a test, which is the highest of a range. Assumes nothing.
use Prim.Native.Nat.{ℕ, zero, suc, ◌+◌, ◌≤◌, ◌<◌}
use mathlib.Core.Path.{◌≡◌, refl, sym, ap, subst, ◌∙◌}
use mathlib.Core.Bool.{Bool, true, false, cond, ◌&&◌, ◌||◌, false≢true}
use mathlib.Core.List.{List, [], ◌∷◌, ◌++◌, map}
use Rattle.std.specs.Prelude.{Option, None, Some, option_map}
use native.Mathlib.Omega.{arith}
use native.Mathlib.Decide.{ℕ_discrete}
use lib.Dec.{eqb}
use borrow.Author.Tests.{eqb-true, eq-eqb, ne_eqb}
use Rattle.words.specs.Lists.{keep, any_of, is_some, numbers_from}
use Rattle.words.specs.Search.{highest, lowest}
use Rattle.words.proofs.ListLaws.{All, all-range, numbers-snoc}

-- ---- the highest

-- k is the highest of 1 to n that passes
pub record IsHighest (p : ℕ → Bool) (n k : ℕ) : Type 0 where
  pub low : 1 ≤ k
  pub high : k ≤ n
  pub passes : p k ≡ true
  pub none_above : (j : ℕ) → k < j → j ≤ n → p j ≡ false

pub highest-some : (p : ℕ → Bool) (n k : ℕ) → highest p n ≡ Some k → IsHighest p n k
highest-some p zero k e = let z : ◌≡◌ {A = ℕ} 0 1 = cc in absurd (omega arith)
highest-some p (suc n) k e = go (highest-some p n k) (p (suc n)) refl e
  where
    go : (highest p n ≡ Some k → IsHighest p n k) → (t : Bool) → p (suc n) ≡ t → cond t (Some (suc n)) (highest p n) ≡ Some k → IsHighest p (suc n) k
    go ih true q f =
        let d : suc n ≡ k = cc in
        record {
          low = omega arith;
          high = omega arith;
          passes = subst (λ (j : ℕ). p j ≡ true) d q;
          none_above = λ j a b. absurd (omega arith);
        }
    go ih false q f =
        let h = ih f in
        record { low = h.low; high = omega (arith, h.high); passes = h.passes; none_above = λ j a b. above h j a b (ℕ_discrete j (suc n)) }
      where
        above : IsHighest p n k → (j : ℕ) → k < j → j ≤ suc n → Dec (j ≡ suc n) → p j ≡ false
        above h j a b (yes d) = subst (λ (i : ℕ). p i ≡ false) (sym d) q
        above h j a b (no d) = h.none_above j a (omega (arith, d))

pub highest-none : (p : ℕ → Bool) (n : ℕ) → highest p n ≡ None → (k : ℕ) → 1 ≤ k → k ≤ n → p k ≡ false
highest-none p zero e k a b = absurd (omega arith)
highest-none p (suc n) e k a b = go (highest-none p n) (p (suc n)) refl e (ℕ_discrete k (suc n))
  where
    go : (highest p n ≡ None → (k : ℕ) → 1 ≤ k → k ≤ n → p k ≡ false) → (t : Bool) → p (suc n) ≡ t
        → cond t (Some (suc n)) (highest p n) ≡ None → Dec (k ≡ suc n) → p k ≡ false
    go ih true q f d = let z : ◌≡◌ {A = ℕ} 0 1 = cc in absurd (omega arith)
    go ih false q f (yes d) = subst (λ (i : ℕ). p i ≡ false) (sym d) q
    go ih false q f (no d) = ih f k a (omega (arith, d))

pub highest-is : (p : ℕ → Bool) (n k : ℕ) → IsHighest p n k → highest p n ≡ Some k
highest-is p zero k h = absurd (omega (arith, h.low, h.high))
highest-is p (suc n) k h = go (highest-is p n k) (ℕ_discrete k (suc n))
  where
    go : (IsHighest p n k → highest p n ≡ Some k) → Dec (k ≡ suc n) → highest p (suc n) ≡ Some k
    go ih (yes d) =
        let e : p (suc n) ≡ true = subst (λ (i : ℕ). p i ≡ true) d h.passes in
        rw e (ap (λ (i : ℕ). Some i) (sym d))
    go ih (no d) =
        let b : k ≤ n = omega (arith, d, h.high) in
        rw (h.none_above (suc n) (omega arith) (omega arith))
        (ih (record { low = h.low; high = b; passes = h.passes; none_above = λ j a c. h.none_above j a (omega arith) }))

pub highest-nothing : (p : ℕ → Bool) (n : ℕ) → ((k : ℕ) → 1 ≤ k → k ≤ n → p k ≡ false) → highest p n ≡ None
highest-nothing p zero h = refl
highest-nothing p (suc n) h = rw (h (suc n) (omega arith) (omega arith)) (highest-nothing p n (λ k a b. h k a (omega arith)))

pub highest-same : (p q : ℕ → Bool) (n : ℕ) → ((k : ℕ) → 1 ≤ k → k ≤ n → p k ≡ q k) → highest p n ≡ highest q n
highest-same p q zero h = refl
highest-same p q (suc n) h =
    rw (h (suc n) (omega arith) (omega arith), highest-same p q n (λ k a b. h k a (omega arith)))

-- nothing passes above m
pub highest-above : (p : ℕ → Bool) (m n : ℕ) → m ≤ n → ((k : ℕ) → m < k → k ≤ n → p k ≡ false) → highest p n ≡ highest p m
highest-above p m zero a h =
    let e : m ≡ 0 = omega arith in
    rw e
highest-above p m (suc n) a h = go (highest-above p m n) (ℕ_discrete m (suc n))
  where
    go : (m ≤ n → ((k : ℕ) → m < k → k ≤ n → p k ≡ false) → highest p n ≡ highest p m) → Dec (m ≡ suc n) → highest p (suc n) ≡ highest p m
    go ih (yes d) = ap (highest p) (sym d)
    go ih (no d) =
        let b : m ≤ n = omega (arith, d) in
        rw (h (suc n) (omega arith) (omega arith)) (ih b (λ k c e. h k c (omega arith)))

-- ---- the lowest

-- k is the lowest of the n numbers from a on that passes
pub record IsLowest (p : ℕ → Bool) (a n k : ℕ) : Type 0 where
  pub low : a ≤ k
  pub high : k < a + n
  pub passes : p k ≡ true
  pub none_below : (j : ℕ) → a ≤ j → j < k → p j ≡ false

pub lowest-some : (p : ℕ → Bool) (a n k : ℕ) → lowest p a n ≡ Some k → IsLowest p a n k
lowest-some p a zero k e = let z : ◌≡◌ {A = ℕ} 0 1 = cc in absurd (omega arith)
lowest-some p a (suc n) k e = go (lowest-some p (suc a) n k) (p a) refl e
  where
    go : (lowest p (suc a) n ≡ Some k → IsLowest p (suc a) n k) → (t : Bool) → p a ≡ t → cond t (Some a) (lowest p (suc a) n) ≡ Some k → IsLowest p a (suc n) k
    go ih true q f =
        let d : a ≡ k = cc in
        record {
          low = omega arith;
          high = omega arith;
          passes = subst (λ (j : ℕ). p j ≡ true) d q;
          none_below = λ j b c. absurd (omega arith);
        }
    go ih false q f =
        let h = ih f in
        record {
          low = omega (arith, h.low);
          high = omega (arith, h.high);
          passes = h.passes;
          none_below = λ j b c. below h j b c (ℕ_discrete j a);
        }
      where
        below : IsLowest p (suc a) n k → (j : ℕ) → a ≤ j → j < k → Dec (j ≡ a) → p j ≡ false
        below h j b c (yes d) = subst (λ (i : ℕ). p i ≡ false) (sym d) q
        below h j b c (no d) = h.none_below j (omega (arith, d)) c

pub lowest-is : (p : ℕ → Bool) (a n k : ℕ) → IsLowest p a n k → lowest p a n ≡ Some k
lowest-is p a zero k h = absurd (omega (arith, h.low, h.high))
lowest-is p a (suc n) k h = go (lowest-is p (suc a) n k) (ℕ_discrete a k)
  where
    go : (IsLowest p (suc a) n k → lowest p (suc a) n ≡ Some k) → Dec (a ≡ k) → lowest p a (suc n) ≡ Some k
    go ih (yes d) =
        let e : p a ≡ true = subst (λ (i : ℕ). p i ≡ true) (sym d) h.passes in
        rw e (ap (λ (i : ℕ). Some i) d)
    go ih (no d) =
        let b : suc a ≤ k = omega (arith, d, h.low) in
        rw (h.none_below a (omega arith) (omega arith))
        (ih (record { low = b; high = omega (arith, h.high); passes = h.passes; none_below = λ j c e. h.none_below j (omega arith) e }))

pub lowest-nothing : (p : ℕ → Bool) (a n : ℕ) → ((k : ℕ) → a ≤ k → k < a + n → p k ≡ false) → lowest p a n ≡ None
lowest-nothing p a zero h = refl
lowest-nothing p a (suc n) h = rw (h a (omega arith) (omega arith)) (lowest-nothing p (suc a) n (λ k b c. h k (omega arith) (omega arith)))

pub lowest-none : (p : ℕ → Bool) (a n : ℕ) → lowest p a n ≡ None → (k : ℕ) → a ≤ k → k < a + n → p k ≡ false
lowest-none p a zero e k b c = absurd (omega arith)
lowest-none p a (suc n) e k b c = go (lowest-none p (suc a) n) (p a) refl e (ℕ_discrete k a)
  where
    go : (lowest p (suc a) n ≡ None → (k : ℕ) → suc a ≤ k → k < suc a + n → p k ≡ false) → (t : Bool) → p a ≡ t
        → cond t (Some a) (lowest p (suc a) n) ≡ None → Dec (k ≡ a) → p k ≡ false
    go ih true q f d = let z : ◌≡◌ {A = ℕ} 0 1 = cc in absurd (omega arith)
    go ih false q f (yes d) = subst (λ (i : ℕ). p i ≡ false) (sym d) q
    go ih false q f (no d) = ih f k (omega (arith, d)) (omega arith)

pub any-lowest : (p : ℕ → Bool) (a n : ℕ) → any_of p (numbers_from a n) ≡ is_some (lowest p a n)
any-lowest p a zero = refl
any-lowest p a (suc n) = go (p a) (any-lowest p (suc a) n)
  where
    go : (t : Bool) → any_of p (numbers_from (suc a) n) ≡ is_some (lowest p (suc a) n)
        → (t || any_of p (numbers_from (suc a) n)) ≡ is_some (cond t (Some a) (lowest p (suc a) n))
    go true e = refl
    go false e = e

-- ---- the last element that passes

module _ {A : Type 0} where
  abbrev pub else : Option A → Option A → Option A
  else None y = y
  else (Some x) y = Some x

  abbrev pub last_with : (A → Bool) → List A → Option A
  last_with p [] = None
  last_with p (x ∷ xs) = else (last_with p xs) (cond (p x) (Some x) None)

  pub last_snoc : (p : A → Bool) (l : List A) (x : A) → last_with p (l ++ x ∷ []) ≡ cond (p x) (Some x) (last_with p l)
  last_snoc p [] x = refl
  last_snoc p (y ∷ l) x = rw (last_snoc p l x) (go (p x))
    where
      go : (t : Bool) → else (cond t (Some x) (last_with p l)) (cond (p y) (Some y) None)
          ≡ cond t (Some x) (else (last_with p l) (cond (p y) (Some y) None))
      go true = refl
      go false = refl

  pub last-keep : (p q : A → Bool) (l : List A) → last_with p (keep q l) ≡ last_with (λ x. q x && p x) l
  last-keep p q [] = refl
  last-keep p q (x ∷ l) = go (last-keep p q l) (q x) (last_with (λ x. q x && p x) l) refl
    where
      go : last_with p (keep q l) ≡ last_with (λ x. q x && p x) l → (t : Bool) (o : Option A) → last_with (λ x. q x && p x) l ≡ o
          → last_with p (cond t (x ∷ keep q l) (keep q l)) ≡ else o (cond (t && p x) (Some x) None)
      go ih true o e = rw (ih, e)
      go ih false None e = ih ∙ e
      go ih false (Some y) e = ih ∙ e

  pub last-all : (p q : A → Bool) (l : List A) → All (λ x. p x ≡ q x) l → last_with p l ≡ last_with q l
  last-all p q [] a = refl
  last-all p q (x ∷ l) a = rw (a.0, last-all p q l a.1)

  pub last_none : (p : A → Bool) (l : List A) → All (λ x. p x ≡ false) l → last_with p l ≡ None
  last_none p [] a = refl
  last_none p (x ∷ l) a = rw (a.0, last_none p l a.1)

  pub last-any : (p : A → Bool) (l : List A) → is_some (last_with p l) ≡ any_of p l
  last-any p [] = refl
  last-any p (x ∷ l) = sym (ap (λ (t : Bool). p x || t) (sym (last-any p l)) ∙ go (p x) (last_with p l))
    where
      go : (t : Bool) (o : Option A) → (t || is_some o) ≡ is_some (else o (cond t (Some x) None))
      go true None = refl
      go true (Some y) = refl
      go false None = refl
      go false (Some y) = refl

  pub last-same : (p q : A → Bool) (l : List A) → ((x : A) → p x ≡ q x) → last_with p l ≡ last_with q l
  last-same p q [] h = refl
  last-same p q (x ∷ l) h = rw (h x, last-same p q l h)

module _ {A B : Type 0} where
  pub last-map : (f : A → B) (p : B → Bool) (l : List A) → last_with p (map f l) ≡ option_map f (last_with (λ x. p (f x)) l)
  last-map f p [] = refl
  last-map f p (x ∷ l) = rw (last-map f p l) (go (last_with (λ x. p (f x)) l) (p (f x)))
    where
      go : (o : Option A) (t : Bool) → else (option_map f o) (cond t (Some (f x)) None) ≡ option_map f (else o (cond t (Some x) None))
      go None true = refl
      go None false = refl
      go (Some y) t = refl

pub highest-last : (p : ℕ → Bool) (n : ℕ) → highest p n ≡ last_with p (numbers_from 1 n)
highest-last p zero = refl
highest-last p (suc n) =
    let e : 1 + n ≡ suc n = omega arith in
    let f : numbers_from 1 (suc n) ≡ numbers_from 1 n ++ suc n ∷ [] = numbers-snoc 1 n ∙ rw e in
    ap (λ (o : Option ℕ). cond (p (suc n)) (Some (suc n)) o) (highest-last p n)
    ∙ sym (last_snoc p (numbers_from 1 n) (suc n)) ∙ ap (last_with p) (sym f)

-- the one of a range that is n
pub range_last : (n k c : ℕ) → k ≤ n → n < k + c → last_with (λ i. eqb i n) (numbers_from k c) ≡ Some n
range_last n k zero a b = absurd (omega arith)
range_last n k (suc c) a b = go (λ h. range_last n (suc k) c h (omega arith)) (ℕ_discrete k n)
  where
    none-later : (j m : ℕ) → n < j → last_with (λ i. eqb i n) (numbers_from j m) ≡ None
    none-later j m h = last_none (λ i. eqb i n) (numbers_from j m) (all-range (λ i. eqb i n ≡ false) j m (λ i b c. ne_eqb i n (λ d. omega (arith, d, h, b))))

    go : (suc k ≤ n → last_with (λ i. eqb i n) (numbers_from (suc k) c) ≡ Some n) → Dec (k ≡ n) → last_with (λ i. eqb i n) (numbers_from k (suc c)) ≡ Some n
    go ih (yes d) = rw (none-later (suc k) c (omega (arith, d)), eq-eqb k n d) (ap (λ (i : ℕ). Some i) d)
    go ih (no d) = rw (ih (omega (arith, d)))

-- ---- a number among those of a range that pass

pub in_kept : (q : ℕ → Bool) (k a n : ℕ) → any_of (eqb k) (keep q (numbers_from a n)) ≡ true → (a ≤ k) × (k < a + n) × (q k ≡ true)
in_kept q k a zero e = absurd (false≢true e)
in_kept q k a (suc n) e = go (in_kept q k (suc a) n) (q a) refl e
  where
    go : (any_of (eqb k) (keep q (numbers_from (suc a) n)) ≡ true → (suc a ≤ k) × (k < suc a + n) × (q k ≡ true)) → (t : Bool) → q a ≡ t
        → any_of (eqb k) (cond t (a ∷ keep q (numbers_from (suc a) n)) (keep q (numbers_from (suc a) n))) ≡ true → (a ≤ k) × (k < a + suc n) × (q k ≡ true)
    go ih true p f = here (eqb k a) refl f
      where
        here : (t : Bool) → eqb k a ≡ t → (t || any_of (eqb k) (keep q (numbers_from (suc a) n))) ≡ true → (a ≤ k) × (k < a + suc n) × (q k ≡ true)
        here true d f =
            let z = eqb-true k a d in
            (omega (arith, z), omega (arith, z), ap q z ∙ p)
        here false d f =
            let h = ih f in
            (omega (arith, h.0), omega (arith, h.1), h.2)
    go ih false p f =
        let h = ih f in
        (omega (arith, h.0), omega (arith, h.1), h.2)

pub kept_in : (q : ℕ → Bool) (k a n : ℕ) → a ≤ k → k < a + n → q k ≡ true → any_of (eqb k) (keep q (numbers_from a n)) ≡ true
kept_in q k a zero b c e = absurd (omega arith)
kept_in q k a (suc n) b c e = go (λ h. kept_in q k (suc a) n h (omega arith) e) (ℕ_discrete k a) (q a) refl
  where
    go : (suc a ≤ k → any_of (eqb k) (keep q (numbers_from (suc a) n)) ≡ true) → Dec (k ≡ a) → (t : Bool) → q a ≡ t
        → any_of (eqb k) (cond t (a ∷ keep q (numbers_from (suc a) n)) (keep q (numbers_from (suc a) n))) ≡ true
    go ih (yes d) true p = rw (eq-eqb k a d)
    go ih (yes d) false p = absurd (false≢true (sym p ∙ ap q (sym d) ∙ e))
    go ih (no d) true p = rw (ne_eqb k a d) (ih (omega (arith, d)))
    go ih (no d) false p = ih (omega (arith, d))

-- ---- the lowest of one number more

pub lowest-snoc : (p : ℕ → Bool) (a n : ℕ) → lowest p a (suc n) ≡ else (lowest p a n) (cond (p (a + n)) (Some (a + n)) None)
lowest-snoc p a zero =
    let e : a + 0 ≡ a = omega arith in
    rw e
lowest-snoc p a (suc n) =
    let e : suc a + n ≡ a + suc n = omega arith in
    ap (cond (p a) (Some a)) (lowest-snoc p (suc a) n) ∙ rw e (go (p a))
  where
    go : (t : Bool) → cond t (Some a) (else (lowest p (suc a) n) (cond (p (a + suc n)) (Some (a + suc n)) None))
        ≡ else (cond t (Some a) (lowest p (suc a) n)) (cond (p (a + suc n)) (Some (a + suc n)) None)
    go true = refl
    go false = refl
