-- The root block and the table: where an entry stands, what the tests of rows 22, 24 and 25 tell in the paper's words, that these make
-- them true, and what a link tells of its entry.
-- Assumes nothing.
use Prim.Native.Nat.{ℕ, ◌≤◌, ◌<◌}
use mathlib.Core.Path.{◌≡◌, refl, ap, subst, ◌∙◌}
use mathlib.Core.Bool.{Bool, true, false, not, cond, ◌&&◌, false≢true, and-false}
use mathlib.Core.List.{List}
use mathlib.Core.Logic.{◌≢◌, ⊎_elim}
use native.Mathlib.Omega.{arith}
use lib.Dec.{eqb, ltb}
use borrow.Author.Tests.{ltb-true, ltb-false, lt-ltb, eqb-true, eqb-false, ne_eqb}
use Rattle.words.specs.Words.{word}
use Rattle.words.proofs.Bools.{and-false-either}
use Rattle.words.proofs.ListLaws.{range_at}
use Rattle.card_model.specs.declared.Link.{Link}
use Rattle.card_model.specs.declared.Link.TheVariants.{Free, Damaged, Last, Next, Bad}
use Rattle.card_model.specs.Layout.{fat_place, table_of}
use Rattle.card_model.specs.Table.{right_fields, fat_entry, link_of, link_at, free_or_damaged, is_bad, wrong_hidden, wrong_user}
use Rattle.card_model.specs.Theorems.{WrongRoot, wrong_46, wrong_48, wrong_4a, wrong_4c, wrong_50}

pub fat-is : (card : List ℕ) (b : ℕ) → b < 256 → fat_entry (table_of card) b ≡ word card (fat_place b)
unfolding fat_entry table_of
fat-is card b h = range_at (λ j. word card (fat_place j)) 0 256 b 0 h ∙ ap (λ (j : ℕ). word card (fat_place j)) (omega arith)

-- ---- 22

either : {W : Type 0} {a b : Bool} → (a ≡ false → W) → (b ≡ false → W) → (a && b) ≡ false → W
either {a = a} {b = b} f g e = ⊎_elim f g (and-false-either a b e)

module _ (root : List ℕ) where
  pub root-tells : right_fields root ≡ false → WrongRoot root
  unfolding right_fields
  root-tells =
      either (either (either (either
      (λ t. wrong_46 (eqb-false _ _ t))
      (λ t. wrong_48 (eqb-false _ _ t)))
      (λ t. wrong_4a (eqb-false _ _ t)))
      (λ t. wrong_4c (eqb-false _ _ t)))
      (λ t. wrong_50 (eqb-false _ _ t))

  pub root-is-wrong : WrongRoot root → right_fields root ≡ false
  unfolding right_fields
  root-is-wrong (wrong_46 d) = rw (ne_eqb _ _ d)
  root-is-wrong (wrong_48 d) = rw (ne_eqb _ _ d) (simp and-false)
  root-is-wrong (wrong_4a d) = rw (ne_eqb _ _ d) (simp and-false)
  root-is-wrong (wrong_4c d) = rw (ne_eqb _ _ d) (simp and-false)
  root-is-wrong (wrong_50 d) = rw (ne_eqb _ _ d) (simp and-false)

-- ---- what a link tells of its entry

abbrev Told : Link → ℕ → Type 0
Told Free e = e ≡ 0xFFFC
Told Damaged e = e ≡ 0xFFFF
Told Last e = e ≡ 0xFFFA
Told (Next n) e = (e ≡ n) × (n < 200)
Told Bad e = (e ≢ 0xFFFC) × (e ≢ 0xFFFF) × (e ≢ 0xFFFA) × (200 ≤ e)

told : (e : ℕ) → Told (link_of e) e
unfolding link_of
told e = go (eqb e 0xFFFC) (eqb e 0xFFFF) (eqb e 0xFFFA) (ltb e 200) refl refl refl refl
  where
    go : (a b c d : Bool) → eqb e 0xFFFC ≡ a → eqb e 0xFFFF ≡ b → eqb e 0xFFFA ≡ c → ltb e 200 ≡ d
        → Told (cond a Free (cond b Damaged (cond c Last (cond d (Next e) Bad)))) e
    go true b c d p q r s = eqb-true e _ p
    go false true c d p q r s = eqb-true e _ q
    go false false true d p q r s = eqb-true e _ r
    go false false false true p q r s = (refl, ltb-true e 200 s)
    go false false false false p q r s = (eqb-false e _ p, eqb-false e _ q, eqb-false e _ r, ltb-false e 200 s)

-- a next block is the entry itself, and a user block
pub next_is : (e n : ℕ) → link_of e ≡ Next n → (e ≡ n) × (n < 200)
next_is e n q = subst (λ (l : Link). Told l e) q (told e)

pub next-below : (e n : ℕ) → link_of e ≡ Next n → n < 200
next-below e n q = (next_is e n q).1

pub next_of : (e n : ℕ) → e ≡ n → e < 200 → link_of e ≡ Next n
unfolding link_of
next_of e n q h =
    let other : (k : ℕ) → 200 ≤ k → eqb e k ≡ false = λ k l. ne_eqb e k (λ d. omega arith) in
    simp (other 0xFFFC (omega arith), other 0xFFFF (omega arith), other 0xFFFA (omega arith), lt-ltb e 200 h) (ap Next q)

pub last-is : (e : ℕ) → link_of e ≡ Last → e ≡ 0xFFFA
last-is e q = subst (λ (l : Link). Told l e) q (told e)

pub free_is : (e : ℕ) → link_of e ≡ Free → e ≡ 0xFFFC
free_is e q = subst (λ (l : Link). Told l e) q (told e)

module _ (table : List ℕ) (b : ℕ) where
  abbrev entry : ℕ
  entry = fat_entry table b

  -- ---- 24

  pub hidden-tells : wrong_hidden table b ≡ true → (entry ≢ 0xFFFC) × (entry ≢ 0xFFFF)
  unfolding wrong_hidden link_at
  hidden-tells w = go (link_of entry) (told entry) w
    where
      go : (l : Link) → Told l entry → not (free_or_damaged l) ≡ true → (entry ≢ 0xFFFC) × (entry ≢ 0xFFFF)
      go Free t w = absurd (false≢true w)
      go Damaged t w = absurd (false≢true w)
      go Last t w = (λ e. omega (arith, t, e), λ e. omega (arith, t, e))
      go (Next n) t w = (λ e. omega (arith, t.0, t.1, e), λ e. omega (arith, t.0, t.1, e))
      go Bad t w = (t.0, t.1)

  pub hidden-is-wrong : entry ≢ 0xFFFC → entry ≢ 0xFFFF → wrong_hidden table b ≡ true
  unfolding wrong_hidden link_at
  hidden-is-wrong c d = go (link_of entry) (told entry)
    where
      go : (l : Link) → Told l entry → not (free_or_damaged l) ≡ true
      go Free t = absurd (c t)
      go Damaged t = absurd (d t)
      go Last t = refl
      go (Next n) t = refl
      go Bad t = refl

  -- ---- 25

  pub user-tells : wrong_user table b ≡ true → (entry ≢ 0xFFFC) × (entry ≢ 0xFFFF) × (entry ≢ 0xFFFA) × (200 ≤ entry)
  unfolding wrong_user link_at
  user-tells w = go (link_of entry) (told entry) w
    where
      go : (l : Link) → Told l entry → is_bad l ≡ true → Told Bad entry
      go Free t w = absurd (false≢true w)
      go Damaged t w = absurd (false≢true w)
      go Last t w = absurd (false≢true w)
      go (Next n) t w = absurd (false≢true w)
      go Bad t w = t

  pub user-is-wrong : entry ≢ 0xFFFC → entry ≢ 0xFFFF → entry ≢ 0xFFFA → 200 ≤ entry → wrong_user table b ≡ true
  unfolding wrong_user link_at
  user-is-wrong c d a u = go (link_of entry) (told entry)
    where
      go : (l : Link) → Told l entry → is_bad l ≡ true
      go Free t = absurd (c t)
      go Damaged t = absurd (d t)
      go Last t = absurd (a t)
      go (Next n) t = absurd (omega (arith, t.0, t.1, u))
      go Bad t = refl
