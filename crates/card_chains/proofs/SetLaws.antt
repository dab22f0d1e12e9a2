-- Laws of the marks: what one more mark makes of them. Assumes nothing.
use Prim.Native.Nat.{ℕ, ◌<◌}
use mathlib.Core.Path.{◌≡◌, refl, sym, subst}
use mathlib.Core.Bool.{Bool, true, false, not, ◌||◌, or-true}
use mathlib.Core.List.{List, [], ◌∷◌}
use lib.Dec.{eqb}
use lib.ListN.{length, get_or, set}
use lib.Seq.{get_or-set_same, get_or-set_other}
use borrow.Author.Tests.{eqb-true, eqb-false, eq-eqb, ne_eqb}
use Rattle.words.specs.Lists.{any_of, has}
use Rattle.card_chains.specs.Marks.{is_marked}

module _ (marks : List ℕ) (b v : ℕ) (h : b < length marks) where
  pub marked-set : (v ≡ 0 → ⊥) → (x : ℕ) → is_marked (set marks b v) x ≡ (eqb b x || is_marked marks x)
  unfolding is_marked
  marked-set n x = go (eqb b x) refl
    where
      go : (t : Bool) → eqb b x ≡ t → not (eqb (get_or (set marks b v) x 0) 0) ≡ (t || not (eqb (get_or marks x 0) 0))
      go true e =
          let d : b ≡ x = eqb-true b x e in
          rw (← d, get_or-set_same marks b v 0 h, ne_eqb v 0 n)
      go false e = rw (get_or-set_other marks b x v 0 (λ d. eqb-false b x e (sym d)))

  -- what holds of each marked block and its mark
  pub set-each : (P : ℕ → ℕ → Type 0) → P b v → ((x : ℕ) → is_marked marks x ≡ true → P x (get_or marks x 0))
      → (x : ℕ) → is_marked (set marks b v) x ≡ true → P x (get_or (set marks b v) x 0)
  unfolding is_marked
  set-each P new old x e = go (eqb b x) refl
    where
      go : (t : Bool) → eqb b x ≡ t → P x (get_or (set marks b v) x 0)
      go true d =
          let q : b ≡ x = eqb-true b x d in
          subst (λ (y : ℕ). P y (get_or (set marks b v) y 0)) q (rw (get_or-set_same marks b v 0 h) new)
      go false d =
          let q : get_or (set marks b v) x 0 ≡ get_or marks x 0 = get_or-set_other marks b x v 0 (λ z. eqb-false b x d (sym z)) in
          rw q (old x (rw q at e))

-- tests that agree on the list
pub any_same : (p q : ℕ → Bool) (l : List ℕ) → ((x : ℕ) → has x l ≡ true → p x ≡ q x) → any_of p l ≡ any_of q l
any_same p q [] a = refl
any_same p q (y ∷ l) a = rw (a y (rw (eq-eqb y y refl)), any_same p q l (λ x e. a x (rw (e, or-true (eqb y x)))))
