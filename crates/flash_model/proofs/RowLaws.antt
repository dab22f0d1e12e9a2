-- A row of the table of numbers, by what its test says, and groups of rows behind each other. Assumes nothing.
use Prim.Native.Nat.{ℕ, suc}
use mathlib.Core.Path.{◌≡◌, refl, sym, ◌∙◌}
use mathlib.Core.Bool.{Bool, true, false, not, cond, true≢false}
use mathlib.Core.Logic.{◌↔◌, ◌≢◌}
use native.Mathlib.Omega.{arith}
use lib.Dec.{eqb}
use borrow.Author.Tests.{eqb-true, eqb-false, ne_eqb, not-true, not-false}
use Rattle.flash_model.specs.Partition.{row, first}

-- a row's test, and what it says where it applies and where it doesn't
pub record Says (t : Bool) (Wrong Right : Type 0) : Type 0 where
  pub applies : t ≡ true → Wrong
  pub passes : t ≡ false → Right
  pub apart : Wrong → Right → ⊥

module _ {t : Bool} {Wrong Right : Type 0} (s : Says t Wrong Right) where
  -- what follows from either, with the test known
  pub by-test : {A : Type 0} → (t ≡ true → Wrong → A) → (t ≡ false → Right → A) → A
  by-test {A} wrong right = go t refl
    where
      go : (u : Bool) → t ≡ u → A
      go true e = wrong e (s.applies e)
      go false e = right e (s.passes e)

  pub is-wrong : Wrong → t ≡ true
  is-wrong w = by-test (λ e x. e) (λ e r. absurd (s.apart w r))

  pub is_right_lem : Right → t ≡ false
  is_right_lem r = by-test (λ e w. absurd (s.apart w r)) (λ e x. e)

-- tests that several rows make
pub says-not : (t : Bool) → Says (not t) (t ≡ false) (t ≡ true)
says-not t = record { applies = not-true t; passes = not-false t; apart = λ w r. true≢false (sym r ∙ w) }

pub says_other : (a b : ℕ) → Says (not (eqb a b)) (a ≢ b) (a ≡ b)
says_other a b = record {
  applies = λ e. eqb-false a b (not-true (eqb a b) e);
  passes = λ e. eqb-true a b (not-false (eqb a b) e);
  apart = λ d e. d e;
}

-- ---- one row before the later ones

-- what a row tells of the number that it and the later ones give
pub record RowTells (code refused later : ℕ) (Wrong Right : Type 0) : Type 0 where
  pub here : (code ≡ refused) ↔ Wrong
  pub past : (k : ℕ) → k ≢ refused → (code ≡ k) ↔ (Right × (later ≡ k))

pub one-row : {Wrong Right : Type 0} (refused later : ℕ) (t : Bool) → Says t Wrong Right → later ≢ refused → RowTells (row refused t later) refused later Wrong Right
one-row refused later true w n = record {
  here = (λ e. w.applies refl, λ x. refl);
  past = λ k d. (λ e. absurd (d (sym e)), λ r. absurd (w.apart (w.applies refl) r.0));
}
one-row refused later false w n = record {
  here = (λ e. absurd (n e), λ x. absurd (w.apart x (w.passes refl)));
  past = λ k d. (λ e. (w.passes refl, e), λ r. r.1);
}

pub row-not : (refused k later : ℕ) (t : Bool) → refused ≢ k → later ≢ k → row refused t later ≢ k
row-not refused k later true d e = d
row-not refused k later false d e = e

-- a later row's meaning in place of the row
pub past_row : {P R X Y : Type 0} → P ↔ (R × X) → X ↔ Y → P ↔ (R × Y)
past_row p x = (λ e. ((p.0 e).0, x.0 (p.0 e).1), λ r. p.1 (r.0, x.1 r.1))

-- past the last row
pub past-last : {P R : Type 0} → P ↔ (R × (◌≡◌ {A = ℕ} 0 0)) → P ↔ R
past-last p = (λ e. (p.0 e).0, λ r. p.1 (r, refl))

-- where no row applies
pub row_zero : (refused later : ℕ) (t : Bool) → row (suc refused) t later ≡ 0 → (t ≡ false) × (later ≡ 0)
row_zero refused later true e = absurd (omega (arith, e))
row_zero refused later false e = (refl, e)

-- ---- one group behind another

pub first-zero : (a b : ℕ) → first a b ≡ 0 → (a ≡ 0) × (b ≡ 0)
first-zero a b e = go (eqb a 0) refl e
  where
    go : (t : Bool) → eqb a 0 ≡ t → cond t b a ≡ 0 → (a ≡ 0) × (b ≡ 0)
    go true q f = (eqb-true a 0 q, f)
    go false q f = absurd (eqb-false a 0 q f)

pub first-refused : (a b : ℕ) → a ≢ 0 → first a b ≡ a
first-refused a b n = rw (ne_eqb a 0 n)

-- two groups and a third, or one and two
pub first-assoc : (a b c : ℕ) → first a (first b c) ≡ first (first a b) c
first-assoc a b c = go (eqb a 0) refl
  where
    go : (t : Bool) → eqb a 0 ≡ t → cond t (first b c) a ≡ first (cond t b a) c
    go true q = refl
    go false q = rw q
