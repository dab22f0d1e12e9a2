-- What a search for the lowest number may pass, and how far it looks. Assumes nothing.
use Prim.Native.Nat.{ℕ, zero, suc, ◌+◌, ◌-◌, ◌≤◌, ◌<◌}
use mathlib.Core.Path.{◌≡◌, refl, sym, ap, ◌∙◌}
use mathlib.Core.Bool.{Bool, true, false, cond, false≢true}
use Rattle.std.specs.Prelude.{Some}
use native.Mathlib.Omega.{arith}
use native.Mathlib.Decide.{ℕ_discrete, dec_le}
use Rattle.words.specs.Search.{lowest}
use Rattle.words.proofs.LoopLaws.{lowest-next, lowest-end}

-- a number that does not pass, before the end or behind it
module _ (p : ℕ → Bool) (end : ℕ) where
  pass-one : (k : ℕ) → p k ≡ false → lowest p k (end - k) ≡ lowest p (k + 1) (end - (k + 1))
  pass-one k None = go (dec_le (k + 1) end)
    where
      go : Dec (k + 1 ≤ end) → lowest p k (end - k) ≡ lowest p (k + 1) (end - (k + 1))
      go (yes h) = lowest-next p k end (omega arith) None
      go (no h) = lowest-end p k end (omega (arith, h)) ∙ sym (lowest-end p (k + 1) end (omega (arith, h)))

  pass-count : (n k : ℕ) → ((j : ℕ) → k ≤ j → j < k + n → p j ≡ false) → lowest p k (end - k) ≡ lowest p (k + n) (end - (k + n))
  pass-count zero k None = let e : k ≡ k + 0 = omega arith in ap (λ (j : ℕ). lowest p j (end - j)) e
  pass-count (suc n) k None =
      let e : k + 1 + n ≡ k + suc n = omega arith in
      pass-one k (None k (omega arith) (omega arith))
      ∙ pass-count n (k + 1) (λ j a b. None j (omega arith) (omega arith))
      ∙ ap (λ (j : ℕ). lowest p j (end - j)) e

  pub lowest-pass : (k mid : ℕ) → k ≤ mid → ((j : ℕ) → k ≤ j → j < mid → p j ≡ false) → lowest p k (end - k) ≡ lowest p mid (end - mid)
  lowest-pass k mid low None =
      let e : k + (mid - k) ≡ mid = omega arith in
      pass-count (mid - k) k (λ j a b. None j a (omega arith)) ∙ ap (λ (j : ℕ). lowest p j (end - j)) e

-- up to a number that passes, another test that agrees finds the same
pub lowest-until : (p q : ℕ → Bool) (z a n : ℕ) → a ≤ z → q z ≡ true → ((j : ℕ) → a ≤ j → j ≤ z → p j ≡ q j) → lowest p a n ≡ lowest q a n
lowest-until p q z a zero h t same = refl
lowest-until p q z a (suc n) h t same =
    rw (same a (omega arith) h) (go (λ b. lowest-until p q z (suc a) n b t (λ j c d. same j (omega arith) d)) (q a) refl (ℕ_discrete a z))
  where
    go : (suc a ≤ z → lowest p (suc a) n ≡ lowest q (suc a) n) → (x : Bool) → q a ≡ x → Dec (a ≡ z)
        → cond x (Some a) (lowest p (suc a) n) ≡ cond x (Some a) (lowest q (suc a) n)
    go ih true e d = refl
    go ih false e (yes d) = absurd (false≢true (sym e ∙ ap q d ∙ t))
    go ih false e (no d) = ih (omega (arith, d))
