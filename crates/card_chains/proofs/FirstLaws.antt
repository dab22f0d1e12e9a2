-- The first number that passes a test, kept while a loop goes on to its end. Assumes nothing.
use Prim.Native.Nat.{ℕ, suc, ◌+◌, ◌<◌}
use mathlib.Core.Path.{◌≡◌, refl, sym, ap, ◌∙◌}
use mathlib.Core.Bool.{Bool, true, false, cond}
use Rattle.std.specs.Prelude.{Option, None, Some}
use Rattle.std.specs.Option.{option_or}
use native.Mathlib.Omega.{arith}
use native.Mathlib.Numerals.{add-one}
use Rattle.words.specs.Search.{lowest}
use Rattle.words.proofs.SearchLaws.{lowest-is, lowest-none, lowest-snoc, else}

pub or_none : (o : Option ℕ) → option_or o None ≡ o
or_none None = refl
or_none (Some k) = refl

-- the first number below n that passes
unfoldable pub first_before : (ℕ → Bool) → ℕ → Option ℕ
first_before p n = lowest p 0 n

pub none_first : (p : ℕ → Bool) → first_before p 0 ≡ None
unfolding first_before
none_first p = refl

before-next : (p : ℕ → Bool) (i : ℕ) → first_before p (suc i) ≡ option_or (first_before p i) (cond (p i) (Some i) None)
unfolding first_before
before-next p i =
    let z : 0 + i ≡ i = omega arith in
    go (lowest p 0 i) (rw z at (lowest-snoc p 0 i))
  where
    go : (o : Option ℕ) → lowest p 0 (suc i) ≡ else o (cond (p i) (Some i) None) → lowest p 0 (suc i) ≡ option_or o (cond (p i) (Some i) None)
    go None e = e
    go (Some k) e = e

pub before_same : (p : ℕ → Bool) (i : ℕ) → p i ≡ false → first_before p (suc i) ≡ first_before p i
before_same p i q = before-next p i ∙ rw q (or_none (first_before p i))

-- whether i passes is known where none did before
pub first_next : (p : ℕ → Bool) (i : ℕ) {first : Option ℕ} (t : Bool) → first ≡ first_before p i → (first ≡ None → t ≡ p i)
    → option_or first (cond t (Some i) None) ≡ first_before p (i + 1)
first_next p i {first} t e q = go first refl ∙ rw e (sym (before-next p i)) ∙ ap (first_before p) (sym (add-one i))
  where
    go : (o : Option ℕ) → first ≡ o → option_or o (cond t (Some i) None) ≡ option_or o (cond (p i) (Some i) None)
    go None d = rw (q d)
    go (Some k) d = refl

-- the first of all that pass
pub first_of_all : (p : ℕ → Bool) (i n : ℕ) → first_before p i ≡ None → p i ≡ true → i < n → first_before p n ≡ Some i
unfolding first_before
first_of_all p i n e q h =
    lowest-is p 0 n i (record { low = omega arith; high = omega arith; passes = q; none_below = λ j a b. lowest-none p 0 i e j a (omega arith) })
