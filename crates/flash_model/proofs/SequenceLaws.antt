-- Blocks allocated in sequence: exactly the first ones. Assumes nothing.
use Prim.Native.Nat.{ℕ, zero, suc, ◌+◌, ◌≤◌, ◌<◌}
use mathlib.Core.Path.{◌≡◌, refl, sym, ap, subst, ◌∙◌}
use mathlib.Core.Bool.{Bool, true, false, cond, ◌||◌, false≢true}
use mathlib.Core.List.{◌∷◌, map}
use native.Mathlib.Omega.{arith}
use native.Mathlib.Decide.{ℕ_discrete, dec_le}
use lib.Dec.{ltb, leb}
use lib.ListN.{length}
use borrow.Author.Tests.{lt-ltb, le-ltb, le-leb, lt-leb, leb-true, ltb-false}
use Rattle.words.specs.Lists.{keep, any_of, numbers_from}
use Rattle.words.proofs.Bools.{or-false-left, or-false-right}
use Rattle.flash_model.specs.Bitmap.{allocated_after_free}

-- of the n numbers from k on, exactly those below f pass
abbrev Below : (ℕ → Bool) → ℕ → ℕ → ℕ → Type 0
Below p k n f = (i : ℕ) → k ≤ i → i < k + n → p i ≡ ltb i f

none_pass : (p : ℕ → Bool) (k n : ℕ) → any_of (λ t. t) (map p (numbers_from k n)) ≡ false → Below p k n k
none_pass p k n e i lo hi = all k n e lo hi ∙ sym (le-ltb i k lo)
  where
    all : (k n : ℕ) → any_of (λ t. t) (map p (numbers_from k n)) ≡ false → k ≤ i → i < k + n → p i ≡ false
    all k zero e lo hi = absurd (omega arith)
    all k (suc n) e lo hi = go (all (suc k) n (or-false-right (p k) (any_of (λ t. t) (map p (numbers_from (suc k) n))) e)) (ℕ_discrete k i)
      where
        go : (suc k ≤ i → i < suc k + n → p i ≡ false) → Dec (k ≡ i) → p i ≡ false
        go ih (yes d) = subst (λ (j : ℕ). p j ≡ false) d (or-false-left (p k) (any_of (λ t. t) (map p (numbers_from (suc k) n))) e)
        go ih (no d) = ih (omega (arith, d)) (omega arith)

keep-none : (p : ℕ → Bool) (k n : ℕ) → Below p k n k → length (keep p (numbers_from k n)) ≡ 0
keep-none p k n b = all k n (omega arith) b
  where
    all : (j n : ℕ) → k ≤ j → Below p j n k → length (keep p (numbers_from j n)) ≡ 0
    all j zero h b = refl
    all j (suc n) h b =
        rw (b j (omega arith) (omega arith), le-ltb j k h) (all (suc j) n (omega arith) (λ i lo hi. b i (omega arith) (omega arith)))

-- the numbers that pass are the first ones, as many as there are
sequence-below : (p : ℕ → Bool) (k n : ℕ) → allocated_after_free (map p (numbers_from k n)) ≡ false
    → Below p k n (k + length (keep p (numbers_from k n)))
sequence-below p k zero e i lo hi = absurd (omega arith)
sequence-below p k (suc n) e i lo hi = go (λ f. sequence-below p (suc k) n f i) (p k) refl e (ℕ_discrete k i)
  where
    go : (allocated_after_free (map p (numbers_from (suc k) n)) ≡ false → suc k ≤ i → i < suc k + n → p i ≡ ltb i (suc k + length (keep p (numbers_from (suc k) n))))
        → (t : Bool) → p k ≡ t → allocated_after_free (t ∷ map p (numbers_from (suc k) n)) ≡ false → Dec (k ≡ i)
        → p i ≡ ltb i (k + length (cond t (k ∷ keep p (numbers_from (suc k) n)) (keep p (numbers_from (suc k) n))))
    go ih true q s (yes d) =
        subst (λ (j : ℕ). p j ≡ true) d q ∙ sym (lt-ltb i (k + suc (length (keep p (numbers_from (suc k) n)))) (omega (arith, d)))
    go ih true q s (no d) =
        let f : suc k + length (keep p (numbers_from (suc k) n)) ≡ k + suc (length (keep p (numbers_from (suc k) n))) = omega arith in
        ih s (omega (arith, d)) (omega arith) ∙ ap (ltb i) f
    go ih false q s d =
        let b = none_pass p (suc k) n s in
        let z : k + length (keep p (numbers_from (suc k) n)) ≡ k = omega (arith, keep-none p (suc k) n b) in
        rw z (last d)
      where
        last : Dec (k ≡ i) → p i ≡ ltb i k
        last (yes d) = subst (λ (j : ℕ). p j ≡ false) d q ∙ sym (le-ltb i k lo)
        last (no d) =
            none_pass p (suc k) n s i (omega (arith, d)) (omega arith)
            ∙ le-ltb i (suc k) (omega (arith, d)) ∙ sym (le-ltb i k lo)

-- and the other way
below_none : (p : ℕ → Bool) (k n f : ℕ) → f ≤ k → Below p k n f → any_of (λ t. t) (map p (numbers_from k n)) ≡ false
below_none p k zero f h b = refl
below_none p k (suc n) f h b =
    rw (b k (omega arith) (omega arith), le-ltb k f h) (below_none p (suc k) n f (omega arith) (λ i l m. b i (omega arith) (omega arith)))

below-sequence : (p : ℕ → Bool) (k n f : ℕ) → Below p k n f → allocated_after_free (map p (numbers_from k n)) ≡ false
below-sequence p k zero f b = refl
below-sequence p k (suc n) f b =
    rw (b k (omega arith) (omega arith)) (go (below-sequence p (suc k) n f (λ i l m. b i (omega arith) (omega arith))) (ltb k f) refl)
  where
    go : allocated_after_free (map p (numbers_from (suc k) n)) ≡ false → (t : Bool) → ltb k f ≡ t
        → allocated_after_free (t ∷ map p (numbers_from (suc k) n)) ≡ false
    go ih true e = ih
    go ih false e = below_none p (suc k) n f (omega (arith, ltb-false k f e)) (λ i l m. b i (omega arith) (omega arith))

-- ---- of the blocks 1 to n

-- exactly those up to u pass
abbrev pub UpTo : (ℕ → Bool) → ℕ → ℕ → Type 0
UpTo p n u = (k : ℕ) → 1 ≤ k → k ≤ n → p k ≡ leb k u

ltb-leb : (i u : ℕ) → ltb i (1 + u) ≡ leb i u
ltb-leb i u = go (dec_le i u)
  where
    go : Dec (i ≤ u) → ltb i (1 + u) ≡ leb i u
    go (yes h) = lt-ltb i (1 + u) (omega arith) ∙ sym (le-leb i u h)
    go (no h) = le-ltb i (1 + u) (omega (arith, h)) ∙ sym (lt-leb i u (omega (arith, h)))

pub sequence-up-to : (p : ℕ → Bool) (n : ℕ) → allocated_after_free (map p (numbers_from 1 n)) ≡ false
    → UpTo p n (length (keep p (numbers_from 1 n)))
sequence-up-to p n e k lo hi = sequence-below p 1 n e k lo (omega arith) ∙ ltb-leb k (length (keep p (numbers_from 1 n)))

pub up-to-sequence : (p : ℕ → Bool) (n u : ℕ) → UpTo p n u → allocated_after_free (map p (numbers_from 1 n)) ≡ false
up-to-sequence p n u b = below-sequence p 1 n (1 + u) (λ k lo hi. b k lo (omega arith) ∙ sym (ltb-leb k u))

pub keep-length : (p : ℕ → Bool) (k n : ℕ) → length (keep p (numbers_from k n)) ≤ n
keep-length p k zero = omega arith
keep-length p k (suc n) = go (keep-length p (suc k) n) (p k)
  where
    go : length (keep p (numbers_from (suc k) n)) ≤ n → (t : Bool) → length (cond t (k ∷ keep p (numbers_from (suc k) n)) (keep p (numbers_from (suc k) n))) ≤ suc n
    go ih true = omega arith
    go ih false = omega arith

-- there is one such count
pub up-to-one : (p : ℕ → Bool) (n u v : ℕ) → UpTo p n u → UpTo p n v → u ≤ n → v ≤ n → u ≡ v
up-to-one p n u v a b h l = omega (arith, at_most u v a b h, at_most v u b a l)
  where
    at_most : (u v : ℕ) → UpTo p n u → UpTo p n v → u ≤ n → u ≤ v
    at_most u v a b h = go (dec_le u v)
      where
        go : Dec (u ≤ v) → u ≤ v
        go (yes d) = d
        go (no d) = leb-true u v (sym (b u (omega (arith, d)) h) ∙ a u (omega (arith, d)) h ∙ le-leb u u (omega arith))

-- in sequence: below one that passes, all pass
pub passes-below : (p : ℕ → Bool) (n u : ℕ) → UpTo p n u → (j k : ℕ) → 1 ≤ j → j < k → k ≤ n → p k ≡ true → p j ≡ true
passes-below p n u b j k lo h hi e =
    b j lo (omega arith) ∙ le-leb j u (omega (arith, leb-true k u (sym (b k (omega arith) hi) ∙ e)))

-- ---- out of sequence: a free one, and an allocated one above it

some-passes : (p : ℕ → Bool) (a n : ℕ) → any_of (λ t. t) (map p (numbers_from a n)) ≡ true → (k : ℕ) × (a ≤ k) × (k < a + n) × (p k ≡ true)
some-passes p a zero e = absurd (false≢true e)
some-passes p a (suc n) e = go (some-passes p (suc a) n) (p a) refl e
  where
    go : (any_of (λ t. t) (map p (numbers_from (suc a) n)) ≡ true → (k : ℕ) × (suc a ≤ k) × (k < suc a + n) × (p k ≡ true)) → (t : Bool) → p a ≡ t
        → (t || any_of (λ t. t) (map p (numbers_from (suc a) n))) ≡ true → (k : ℕ) × (a ≤ k) × (k < a + suc n) × (p k ≡ true)
    go ih true q f = (a, omega arith, omega arith, q)
    go ih false q f =
        let h = ih f in
        (h.0, omega (arith, h.1), omega (arith, h.2), h.3)

pub sequence-gap : (p : ℕ → Bool) (a n : ℕ) → allocated_after_free (map p (numbers_from a n)) ≡ true
    → (j : ℕ) × (k : ℕ) × (a ≤ j) × (j < k) × (k < a + n) × (p j ≡ false) × (p k ≡ true)
sequence-gap p a zero e = absurd (false≢true e)
sequence-gap p a (suc n) e = go (sequence-gap p (suc a) n) (p a) refl e
  where
    go : (allocated_after_free (map p (numbers_from (suc a) n)) ≡ true → (j : ℕ) × (k : ℕ) × (suc a ≤ j) × (j < k) × (k < suc a + n) × (p j ≡ false) × (p k ≡ true))
        → (t : Bool) → p a ≡ t → allocated_after_free (t ∷ map p (numbers_from (suc a) n)) ≡ true
        → (j : ℕ) × (k : ℕ) × (a ≤ j) × (j < k) × (k < a + suc n) × (p j ≡ false) × (p k ≡ true)
    go ih true q f =
        let h = ih f in
        (h.0, h.1, omega (arith, h.2), h.3, omega (arith, h.4), h.5, h.6)
    go ih false q f =
        let h = some-passes p (suc a) n f in
        (a, h.0, omega arith, omega (arith, h.1), omega (arith, h.2), q, h.3)
