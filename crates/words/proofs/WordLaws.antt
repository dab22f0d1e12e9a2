-- Laws of runs of bytes and two-byte numbers. Assumes nothing.
use Prim.Native.Nat.{ℕ, suc, ◌+◌, ◌/◌, ◌%◌, ◌≤◌, ◌<◌}
use mathlib.Core.Path.{◌≡◌, refl, sym, ap, ◌∙◌}
use mathlib.Core.Bool.{Bool, true, false, ◌&&◌, false≢true, and-false}
use mathlib.Core.List.{List, [], ◌∷◌, ◌++◌}
use native.Mathlib.Omega.{arith}
use lib.Dec.{eqb}
use native.Mathlib.Numerals.{add-one}
use lib.ListN.{length, get_or, drop, set, drop_of_length-le}
use lib.Seq.{get_or_at, get_or-append-add, drop-cons}
use borrow.Author.Tests.{eqb-true, eq-eqb}
use Rattle.words.specs.Words.{word, word_bytes, same_bytes}
use Rattle.words.proofs.Bools.{and-true-left, and-true-right}

pub same_refl : (l : List ℕ) → same_bytes l l ≡ true
same_refl [] = refl
same_refl (x ∷ l) = rw (eq-eqb x x refl) (same_refl l)

pub same-eq : (l m : List ℕ) → same_bytes l m ≡ true → l ≡ m
same-eq [] [] e = refl
same-eq [] (y ∷ m) e = absurd (false≢true e)
same-eq (x ∷ l) [] e = absurd (false≢true e)
same-eq (x ∷ l) (y ∷ m) e =
    let h : x ≡ y = eqb-true x y (and-true-left (eqb x y) (same_bytes l m) e) in
    let t : l ≡ m = same-eq l m (and-true-right (eqb x y) (same_bytes l m) e) in
    cc

pub eq-same : (l m : List ℕ) → l ≡ m → same_bytes l m ≡ true
eq-same l m e = ap (same_bytes l) (sym e) ∙ same_refl l

pub ne_same : (l m : List ℕ) → (l ≡ m → ⊥) → same_bytes l m ≡ false
ne_same l m d = go (same_bytes l m) refl
  where
    go : (t : Bool) → same_bytes l m ≡ t → t ≡ false
    go true e = absurd (d (same-eq l m e))
    go false e = refl

-- the number whose two bytes stand after a front
pub word_after : (front : List ℕ) (i n : ℕ) → length front ≡ i → word (front ++ word_bytes n) i ≡ n
unfolding word word_bytes
word_after front i n e =
    let a : get_or (front ++ n % 256 ∷ n / 256 ∷ []) i 0 ≡ n % 256 = get_or_at front (n % 256) (n / 256 ∷ []) 0 i e in
    let b : get_or (front ++ n % 256 ∷ n / 256 ∷ []) (i + 1) 0 ≡ n / 256 =
    rw (← e) (get_or-append-add front (n % 256 ∷ n / 256 ∷ []) 1 0) in
    omega arith

-- ---- as loops go through runs

pub same-lengths : (a b : List ℕ) → (length a ≡ length b → ⊥) → same_bytes a b ≡ false
same-lengths [] [] h = absurd (h refl)
same-lengths [] (y ∷ b) h = refl
same-lengths (x ∷ a) [] h = refl
same-lengths (x ∷ a) (y ∷ b) h = rw (same-lengths a b (λ e. h (ap suc e)), and-false)

-- at index i of two runs of one length
module _ (a b : List ℕ) (i : ℕ) (e : length a ≡ length b) where
  pub same_next : i < length a
      → same_bytes (drop i a) (drop i b) ≡ (eqb (get_or a i 0) (get_or b i 0) && same_bytes (drop (i + 1) a) (drop (i + 1) b))
  same_next ha =
      let hb : i < length b = omega arith in
      rw (drop-cons a i 0, drop-cons b i 0, add-one i)

  pub same_end : length a ≤ i → same_bytes (drop i a) (drop i b) ≡ true
  same_end ha =
      let hb : length b ≤ i = omega arith in
      rw (drop_of_length-le a ha, drop_of_length-le b hb)

-- both bytes of a part stored
pub set-two : (part : List ℕ) (x y : ℕ) → length part ≡ 2 → set (set part 0 x) 1 y ≡ x ∷ y ∷ []
set-two [] x y e = absurd (omega arith)
set-two (a ∷ []) x y e = absurd (omega arith)
set-two (a ∷ b ∷ []) x y e = refl
set-two (a ∷ b ∷ d ∷ l) x y e = absurd (omega arith)
