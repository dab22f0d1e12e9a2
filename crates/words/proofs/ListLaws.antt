-- Laws of the plain functions on lists. Assumes nothing.
use Prim.Native.Nat.{ℕ, zero, suc, ◌+◌, ◌*◌, ◌-◌, ◌≤◌, ◌<◌}
use mathlib.Core.Path.{◌≡◌, refl, sym, ap, ◌∙◌}
use mathlib.Core.Bool.{Bool, true, false, cond}
use mathlib.Core.List.{List, [], ◌∷◌, ◌++◌, map}
use native.Mathlib.Omega.{arith}
use lib.ListN.{length, get_or, take, drop, replicate, length-append}
use lib.Seq.{take-take, take-nil}
use Rattle.words.specs.Lists.{keep, any_of, concat, numbers_from}
use Rattle.words.proofs.Bools.{or-false-left, or-false-right}

module _ {A : Type 0} where
  -- each element has the property
  abbrev pub All : (A → Type 0) → List A → Type 0
  All P [] = Unit {0}
  All P (x ∷ xs) = P x × All P xs

  pub all_snoc : (P : A → Type 0) (l : List A) (x : A) → All P l → P x → All P (l ++ x ∷ [])
  all_snoc P [] x a p = (p, tt)
  all_snoc P (y ∷ l) x a p = (a.0, all_snoc P l x a.1 p)

  pub all_keep : (P : A → Type 0) (q : A → Bool) (l : List A) → All P l → All P (keep q l)
  all_keep P q [] a = tt
  all_keep P q (x ∷ l) a = go (all_keep P q l a.1) (q x)
    where
      go : All P (keep q l) → (t : Bool) → All P (cond t (x ∷ keep q l) (keep q l))
      go ih true = (a.0, ih)
      go ih false = ih

  pub all-mono : (P Q : A → Type 0) (f : (x : A) → P x → Q x) (l : List A) → All P l → All Q l
  all-mono P Q f [] a = tt
  all-mono P Q f (x ∷ l) a = (f x a.0, all-mono P Q f l a.1)

  pub all-at : (P : A → Type 0) (l : List A) (k : ℕ) → All P l → k < length l → (d : A) → P (get_or l k d)
  all-at P [] k a h d = absurd (omega arith)
  all-at P (x ∷ l) zero a h d = a.0
  all-at P (x ∷ l) (suc k) a h d = all-at P l k a.1 (omega arith) d

  pub keep-passes : (q : A → Bool) (l : List A) → All (λ x. q x ≡ true) (keep q l)
  keep-passes q [] = tt
  keep-passes q (x ∷ l) = go (keep-passes q l) (q x) refl
    where
      go : All (λ x. q x ≡ true) (keep q l) → (t : Bool) → q x ≡ t → All (λ x. q x ≡ true) (cond t (x ∷ keep q l) (keep q l))
      go ih true e = (e, ih)
      go ih false e = ih

  -- a test that no element passes, none of those kept passes
  pub none-keep : (r q : A → Bool) (l : List A) → any_of r l ≡ false → any_of r (keep q l) ≡ false
  none-keep r q [] e = refl
  none-keep r q (x ∷ l) e = go (none-keep r q l (or-false-right (r x) (any_of r l) e)) (q x)
    where
      go : any_of r (keep q l) ≡ false → (t : Bool) → any_of r (cond t (x ∷ keep q l) (keep q l)) ≡ false
      go ih true = rw (or-false-left (r x) (any_of r l) e, ih)
      go ih false = ih

  -- ---- a part of a list

  pub take-drop : (a n : ℕ) (l : List A) → take n (drop a l) ≡ drop a (take (a + n) l)
  take-drop zero n l =
      let e : 0 + n ≡ n = omega arith in
      rw e
  take-drop (suc a) n [] = take-nil n ∙ sym (ap (drop (suc a)) (take-nil (suc a + n)))
  take-drop (suc a) n (x ∷ l) =
      let e : suc a + n ≡ suc (a + n) = omega arith in
      rw e (take-drop a n l)

  -- a part depends only on a front that has it
  pub part-front : (a n m : ℕ) (l : List A) → a + n ≤ m → take n (drop a l) ≡ take n (drop a (take m l))
  part-front a n m l h = take-drop a n l ∙ ap (drop a) (sym (take-take (a + n) m l h)) ∙ sym (take-drop a n (take m l))

  pub drop-replicate : (a n : ℕ) (x : A) → drop a (replicate n x) ≡ replicate (n - a) x
  drop-replicate zero n x =
      let e : n - 0 ≡ n = omega arith in
      rw e
  drop-replicate (suc a) zero x =
      let e : 0 - suc a ≡ 0 = omega arith in
      rw e
  drop-replicate (suc a) (suc n) x =
      let e : suc n - suc a ≡ n - a = omega arith in
      rw e (drop-replicate a n x)

  pub take-replicate : (a n : ℕ) (x : A) → a ≤ n → take a (replicate n x) ≡ replicate a x
  take-replicate zero n x h = refl
  take-replicate (suc a) zero x h = absurd (omega arith)
  take-replicate (suc a) (suc n) x h = ap (λ (l : List A). x ∷ l) (take-replicate a n x (omega arith))

module _ {A : Type 0} where
  pub concat-length : (w : ℕ) (l : List (List A)) → All (λ b. length b ≡ w) l → length (concat l) ≡ length l * w
  concat-length w [] a =
      let e : 0 * w ≡ 0 = omega arith in
      sym e
  concat-length w (b ∷ l) a =
      let e : suc (length l) * w ≡ w + length l * w = omega arith in
      length-append b (concat l) ∙ omega (arith, a.0, concat-length w l a.1, e)

module _ {A B : Type 0} where
  pub all_map : (f : A → B) (P : B → Type 0) (l : List A) → All (λ x. P (f x)) l → All P (map f l)
  all_map f P [] a = tt
  all_map f P (x ∷ l) a = (a.0, all_map f P l a.1)

  -- those of the values that pass are the values of those whose value passes
  pub keep-map : (f : A → B) (q : B → Bool) (l : List A) → map f (keep (λ x. q (f x)) l) ≡ keep q (map f l)
  keep-map f q [] = refl
  keep-map f q (x ∷ l) = go (keep-map f q l) (q (f x))
    where
      go : map f (keep (λ x. q (f x)) l) ≡ keep q (map f l) → (t : Bool)
          → map f (cond t (x ∷ keep (λ x. q (f x)) l) (keep (λ x. q (f x)) l)) ≡ cond t (f x ∷ keep q (map f l)) (keep q (map f l))
      go ih true = ap (λ (r : List B). f x ∷ r) ih
      go ih false = ih

  pub any-map : (f : A → B) (q : B → Bool) (l : List A) → any_of q (map f l) ≡ any_of (λ x. q (f x)) l
  any-map f q [] = refl
  any-map f q (x ∷ l) = rw (any-map f q l)

-- ---- ranges

pub numbers-snoc : (k n : ℕ) → numbers_from k (suc n) ≡ numbers_from k n ++ (k + n) ∷ []
numbers-snoc k zero = ap (λ (i : ℕ). i ∷ []) (omega arith)
numbers-snoc k (suc n) =
    let e : suc k + n ≡ k + suc n = omega arith in
    ap (λ (l : List ℕ). k ∷ l) (numbers-snoc (suc k) n ∙ rw e)

module _ {A : Type 0} where
  pub map_snoc : (f : ℕ → A) (k n : ℕ) → map f (numbers_from k (suc n)) ≡ map f (numbers_from k n) ++ f (k + n) ∷ []
  map_snoc f k zero = ap (λ (i : ℕ). f i ∷ []) (omega arith)
  map_snoc f k (suc n) =
      let e : suc k + n ≡ k + suc n = omega arith in
      ap (λ (l : List A). f k ∷ l) (map_snoc f (suc k) n ∙ ap (λ (i : ℕ). map f (numbers_from (suc k) n) ++ f i ∷ []) e)

  pub map_same : (f g : ℕ → A) (k n : ℕ) → ((i : ℕ) → k ≤ i → i < k + n → f i ≡ g i) → map f (numbers_from k n) ≡ map g (numbers_from k n)
  map_same f g k zero h = refl
  map_same f g k (suc n) h =
      rw (h k (omega arith) (omega arith), map_same f g (suc k) n (λ i l m. h i (omega arith) (omega arith)))

module _ {A : Type 0} where
  pub range_at : (f : ℕ → A) (k n i : ℕ) (d : A) → i < n → get_or (map f (numbers_from k n)) i d ≡ f (k + i)
  range_at f k zero i d h = absurd (omega arith)
  range_at f k (suc n) zero d h = ap f (omega arith)
  range_at f k (suc n) (suc i) d h = range_at f (suc k) n i d (omega arith) ∙ ap f (omega arith)

-- what holds of each number of a range
pub all-range : (P : ℕ → Type 0) (k n : ℕ) → ((i : ℕ) → k ≤ i → i < k + n → P i) → All P (numbers_from k n)
all-range P k zero h = tt
all-range P k (suc n) h = (h k (omega arith) (omega arith), all-range P (suc k) n (λ i l m. h i (omega arith) (omega arith)))
