-- The measures of a legal length. Assumes nothing.
use Prim.Native.Nat.{ℕ, suc, ◌+◌, ◌*◌, ◌%◌, ◌≤◌, ◌<◌}
use mathlib.Core.Path.{◌≡◌, refl, sym, ap, ◌∙◌}
use mathlib.Core.Bool.{Bool, true, false, not, ◌&&◌, ◌||◌, false≢true}
use mathlib.Core.List.{List, [], ◌∷◌}
use native.Mathlib.Omega.{arith}
use native.Mathlib.Decide.{dec_le}
use lib.Dec.{eqb, leb, ltb}
use borrow.Author.Tests.{eqb-true, leb-true, leb-false, le-leb, lt-leb, lt-ltb, le-ltb, not-false}
use Rattle.words.specs.Lists.{any_of}
use Rattle.words.proofs.Bools.{and-true-left, and-true-right, or-false-left, or-false-right}
use Rattle.flash_model.specs.Measures.{sizes, legal_size, blocks, bitmap_blocks, first_bitmap, capacity, top_number, legal_number}

pub record Measured (size : ℕ) : Type 0 where
  pub first_bitmap_lem : first_bitmap size ≡ suc (capacity size)
  pub top_number_lem : suc (top_number size) ≡ capacity size
  pub whole : size ≡ (suc (capacity size) + bitmap_blocks size) * 64
  pub bits_enough : capacity size < bitmap_blocks size * 512
  pub two_bytes : capacity size ≤ 65535
  pub bounded : size ≤ 1048576

-- any whole number of blocks from 16,384 to 1,048,576 bytes
fitting : ℕ → Bool
fitting size = eqb (size % 64) 0 && (leb 16384 size && leb size 1048576)

measured-of : (size : ℕ) → fitting size ≡ true → Measured size
unfolding fitting capacity first_bitmap blocks bitmap_blocks top_number
measured-of size e =
    let a : size % 64 ≡ 0 = eqb-true (size % 64) 0 (and-true-left (eqb (size % 64) 0) (leb 16384 size && leb size 1048576) e) in
    let f = and-true-right (eqb (size % 64) 0) (leb 16384 size && leb size 1048576) e in
    let b : 16384 ≤ size = leb-true 16384 size (and-true-left (leb 16384 size) (leb size 1048576) f) in
    let c : size ≤ 1048576 = leb-true size 1048576 (and-true-right (leb 16384 size) (leb size 1048576) f) in
    record { first_bitmap_lem = omega arith; top_number_lem = omega arith; whole = omega arith; bits_enough = omega arith; two_bytes = omega arith; bounded = c }

-- what a test computes over the whole table of lengths holds of each of them
in_table : (p : ℕ → Bool) (l : List ℕ) → any_of (λ x. not (p x)) l ≡ false → (size : ℕ) → any_of (eqb size) l ≡ true → p size ≡ true
in_table p [] e size h = absurd (false≢true h)
in_table p (x ∷ l) e size h =
    go (in_table p l (or-false-right (not (p x)) (any_of (λ x. not (p x)) l) e) size) (eqb size x) refl h
  where
    here : p x ≡ true
    here = not-false (p x) (or-false-left (not (p x)) (any_of (λ x. not (p x)) l) e)

    go : (any_of (eqb size) l ≡ true → p size ≡ true) → (t : Bool) → eqb size x ≡ t → (t || any_of (eqb size) l) ≡ true → p size ≡ true
    go ih true q h = ap p (eqb-true size x q) ∙ here
    go ih false q h = ih h

pub measures-of : (size : ℕ) → legal_size size ≡ true → Measured size
unfolding legal_size sizes fitting
measures-of size h = measured-of size (in_table fitting sizes refl size h)

-- as many user blocks, and numbers, as the longest partition has
pub capacity-most : (size : ℕ) → legal_size size ≡ true → capacity size ≤ 1021
unfolding legal_size sizes capacity first_bitmap blocks bitmap_blocks
capacity-most size h = leb-true (capacity size) 1021 (in_table (λ s. leb (capacity s) 1021) sizes refl size h)

-- ---- legal numbers are those below the capacity

pub legal-le : (size n : ℕ) → legal_number size n ≡ true → n ≤ top_number size
unfolding legal_number
legal-le size n e = leb-true n (top_number size) e

pub le-legal : (size n : ℕ) → n ≤ top_number size → legal_number size n ≡ true
unfolding legal_number
le-legal size n h = le-leb n (top_number size) h

pub above-illegal : (size n : ℕ) → top_number size < n → legal_number size n ≡ false
unfolding legal_number
above-illegal size n h = lt-leb n (top_number size) h

pub illegal-above : (size n : ℕ) → legal_number size n ≡ false → top_number size < n
unfolding legal_number
illegal-above size n e = leb-false n (top_number size) e

pub legal-below : (size n : ℕ) → Measured size → legal_number size n ≡ ltb n (capacity size)
unfolding legal_number
legal-below size n m = go (dec_le n (top_number size))
  where
    go : Dec (n ≤ top_number size) → leb n (top_number size) ≡ ltb n (capacity size)
    go (yes h) = le-leb n (top_number size) h ∙ sym (lt-ltb n (capacity size) (omega (arith, h, m.top_number_lem)))
    go (no h) = lt-leb n (top_number size) (omega (arith, h)) ∙ sym (le-ltb n (capacity size) (omega (arith, h, m.top_number_lem)))
