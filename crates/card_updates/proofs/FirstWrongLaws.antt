-- A verdict of rows one after the other is the first thing that is wrong. Assumes nothing.
use Prim.Native.Nat.{ℕ, suc, ◌≤◌, ◌<◌, zero-le}
use mathlib.Core.Path.{◌≡◌, refl, sym, ap, subst, ◌∙◌}
use mathlib.Core.Bool.{Bool, true, false, cond, ◌||◌, true≢false, false≢true}
use mathlib.Core.List.{List, [], ◌∷◌}
use Rattle.std.specs.Prelude.{Option, None, Some}
use mathlib.Core.Logic.{◌↔◌, ◌≢◌, ◌⊎◌, inl, inr}
use native.Mathlib.Omega.{arith}
use lib.Dec.{eqb}
use borrow.Author.Tests.{eqb-true, eqb-false, eq-eqb, ne_eqb}
use Rattle.words.specs.Lists.{has}
use Rattle.words.specs.Search.{lowest}
use Rattle.words.proofs.Bools.{or-false-left, or-false-right}
use Rattle.words.proofs.ListLaws.{All}
use Rattle.words.proofs.SearchLaws.{lowest-none, lowest-some}
use Rattle.verdicts.specs.declared.Place.{Place}
use Rattle.verdicts.specs.declared.Place.TheVariants.{Whole, Entry}
use Rattle.verdicts.specs.Rows.{Verdict}
use Rattle.verdicts.specs.Rows.{place_number, done, refused_at, accepted, row_at, row_over, unless_refused}
use Rattle.card_model.specs.Calls.{verdict_of}
use Rattle.card_model.specs.Sound.{SoundCard}
use Rattle.card_model.proofs.RefusalLaws as check
use Rattle.card_model.proofs.SoundLaws.{accepted_sound, unless-accepts}
use Rattle.card_updates.specs.Refusals.{rank, FirstWrong, RefusedCall, by_card, by_call, ExactlyOn}

-- The verdict is done exactly where nothing is wrong, and else exactly the first thing that is.
pub record Exactly (order : List ℕ) (fault : ℕ → Place → Type 0) (verdict : Verdict) : Type 0 where
  pub done_when : (verdict ≡ done) ↔ ((n : ℕ) (p : Place) → fault n p → ⊥)
  pub refused_when : (v : Verdict) → ((verdict ≡ v) × (v.number ≢ 0)) ↔ FirstWrong order fault v

-- the rows of these numbers, one after the other
abbrev pub rows_in : (ℕ → Verdict) → List ℕ → Verdict
rows_in row [] = done
rows_in row (n ∷ order) = unless_refused (row n) (rows_in row order)

-- 29 names an entry, the others the whole card
unfoldable pub place_of : ℕ → ℕ → Place
place_of n k = cond (eqb n 29) (Entry k) Whole

rank-tells : (order : List ℕ) (m n : ℕ) → has m order ≡ true → rank order m ≡ rank order n → m ≡ n
rank-tells [] m n h e = absurd (false≢true h)
rank-tells (x ∷ order) m n h e = go (rank-tells order m n) (eqb x m) refl (eqb x n) refl h e
  where
    go : (has m order ≡ true → rank order m ≡ rank order n → m ≡ n) → (s : Bool) → eqb x m ≡ s → (t : Bool) → eqb x n ≡ t
        → (s || has m order) ≡ true → cond s 0 (suc (rank order m)) ≡ cond t 0 (suc (rank order n)) → m ≡ n
    go ih true p true q h e = sym (eqb-true x m p) ∙ eqb-true x n q
    go ih true p false q h e = absurd (omega arith)
    go ih false p true q h e = absurd (omega arith)
    go ih false p false q h e = ih h (omega arith)

-- row n is silent or tells what is wrong
abbrev pub Tells : (ℕ → Place → Type 0) → ℕ → Verdict → Type 0
Tells W n v = (v ≡ done) ⊎ ((v.number ≡ n) × W n v.place)

-- row n refuses, and no later than there
abbrev pub Fires : ℕ → Place → Verdict → Type 0
Fires n p v = (v.number ≡ n) × (place_number v.place ≤ place_number p)

module _ (W : ℕ → Place → Type 0) (row : ℕ → Verdict) where
  -- every number is one of the order, and has one kind of place
  abbrev pub Known : List ℕ → Type 0
  Known order = (n : ℕ) (p : Place) → W n p → (has n order ≡ true) × (p ≡ place_of n (place_number p))

  module _ (fires : (n : ℕ) (p : Place) → W n p → Fires n p (row n)) where
    data Judged (order : List ℕ) (v : Verdict) : Type 0 where
      passed : v ≡ done → ((n : ℕ) (p : Place) → has n order ≡ true → W n p → ⊥) → Judged order v
      refused : W v.number v.place → ((n : ℕ) (p : Place) → has n order ≡ true → W n p → rank order v.number ≤ rank order n)
          → ((p : Place) → W v.number p → place_number v.place ≤ place_number p) → Judged order v

    -- a silent row finds nothing wrong
    silent : (n : ℕ) → n ≢ 0 → row n ≡ done → (m : ℕ) (p : Place) → n ≡ m → W m p → ⊥
    silent n z d m p e w =
        let here : W n p = subst (λ (k : ℕ). W k p) (sym e) w in
        z (sym (fires n p here).0 ∙ ap (λ (v : Verdict). v.number) d)

    rows-judged : (order : List ℕ) → has 0 order ≡ false → All (λ n. Tells W n (row n)) order → Judged order (rows_in row order)
    rows-judged [] z t = passed refl (λ n p h w. absurd (false≢true h))
    rows-judged (n ∷ order) z t = go (rows-judged order (or-false-right (eqb n 0) (has 0 order) z) t.1) t.0
      where
        not-0 : n ≢ 0
        not-0 = eqb-false n 0 (or-false-left (eqb n 0) (has 0 order) z)

        go : Judged order (rows_in row order) → Tells W n (row n) → Judged (n ∷ order) (unless_refused (row n) (rows_in row order))
        go j (inr (e, w)) =
            let number : (row n).number ≢ 0 = λ d. not-0 (sym e ∙ d) in
            rw (ne_eqb (row n).number 0 number) (refused
            (subst (λ (k : ℕ). W k (row n).place) (sym e) w)
            (λ m p h x. rw (eq-eqb n (row n).number (sym e)) zero-le)
            (λ p x. (fires n p (subst (λ (k : ℕ). W k p) e x)).1))
        go (passed d c) (inl q) = rw q (passed d (λ m p h w. by m p w (eqb n m) refl h))
          where
            by : (m : ℕ) (p : Place) → W m p → (s : Bool) → eqb n m ≡ s → (s || has m order) ≡ true → ⊥
            by m p w true s h = silent n not-0 q m p (eqb-true n m s) w
            by m p w false s h = c m p h w
        go (refused a f l) (inl q) = rw q (refused a (λ m p h w. by m p w (eqb n m) refl h (eqb n (rows_in row order).number)) l)
          where
            by : (m : ℕ) (p : Place) → W m p → (s : Bool) → eqb n m ≡ s → (s || has m order) ≡ true → (t : Bool)
                → cond t 0 (suc (rank order (rows_in row order).number)) ≤ cond s 0 (suc (rank order m))
            by m p w true s h t = absurd (silent n not-0 q m p (eqb-true n m s) w)
            by m p w false s h true = zero-le
            by m p w false s h false = omega (arith, f m p h w)

    module _ (order : List ℕ) (known : Known order) where
      one-verdict : (v w : Verdict) → FirstWrong order W v → FirstWrong order W w → v ≡ w
      one-verdict v w r s =
          let k : rank order v.number ≡ rank order w.number = omega (arith, r.first_row _ _ s.applies, s.first_row _ _ r.applies) in
          let n : v.number ≡ w.number = rank-tells order _ _ (known _ _ r.applies).0 k in
          let x : W w.number v.place = subst (λ (m : ℕ). W m v.place) n r.applies in
          let y : W v.number w.place = subst (λ (m : ℕ). W m w.place) (sym n) s.applies in
          let k : place_number v.place ≡ place_number w.place = omega (arith, r.lowest_place _ y, s.lowest_place _ x) in
          let p : v.place ≡ w.place = (known _ _ x).1 ∙ ap (place_of w.number) k ∙ sym (known _ _ s.applies).1 in
          ap (λ (m : ℕ). refused_at m v.place) n ∙ ap (refused_at w.number) p

      verdict-wrong : (v : Verdict) → Judged order v → v.number ≢ 0 → FirstWrong order W v
      verdict-wrong v (passed d c) n = absurd (n (ap (λ (w : Verdict). w.number) d))
      verdict-wrong v (refused a f l) n = record { applies = a; first_row = λ n p w. f n p (known _ _ w).0 w; lowest_place = l }

      wrong-verdict : (v w : Verdict) → Judged order v → FirstWrong order W w → v ≡ w
      wrong-verdict v w (passed d c) r = absurd (c _ _ (known _ _ r.applies).0 r.applies)
      wrong-verdict v w (refused a f l) r =
          one-verdict v w (record { applies = a; first_row = λ n p x. f n p (known _ _ x).0 x; lowest_place = l }) r

      module _ (no-0 : has 0 order ≡ false) (tells : All (λ n. Tells W n (row n)) order) where
        wrong-not-0 : (v : Verdict) → FirstWrong order W v → v.number ≢ 0
        wrong-not-0 v r z = true≢false (sym (known _ _ r.applies).0 ∙ ap (λ (n : ℕ). has n order) z ∙ no-0)

        refused_when : (v : Verdict) → ((rows_in row order ≡ v) × (v.number ≢ 0)) ↔ FirstWrong order W v
        refused_when v = (
          (λ h. verdict-wrong v (subst (Judged order) h.0 (rows-judged order no-0 tells)) h.1),
          (λ r. (wrong-verdict _ v (rows-judged order no-0 tells) r, wrong-not-0 v r)),
        )

        done_when : (rows_in row order ≡ done) ↔ ((n : ℕ) (p : Place) → W n p → ⊥)
        done_when = (λ e. forth (rows-judged order no-0 tells) e, λ c. back (rows-judged order no-0 tells) c)
          where
            forth : Judged order (rows_in row order) → rows_in row order ≡ done → (n : ℕ) (p : Place) → W n p → ⊥
            forth (passed d c) e n p w = c n p (known n p w).0 w
            forth (refused a f l) e n p w =
                true≢false (sym (known _ _ a).0 ∙ ap (λ (v : Verdict). has v.number order) e ∙ no-0)

            back : Judged order (rows_in row order) → ((n : ℕ) (p : Place) → W n p → ⊥) → rows_in row order ≡ done
            back (passed d c) h = d
            back (refused a f l) h = absurd (h _ _ a)

        pub rows-exactly : Exactly order W (rows_in row order)
        rows-exactly = record { done_when = done_when; refused_when = refused_when }

-- ---- after the check of the card

module _ (card order : List ℕ) (W : ℕ → Place → Type 0) (rows : Verdict) (exactly : SoundCard card → Exactly order W rows) where
  pub call-exactly : ExactlyOn card order W (unless_refused (verdict_of card) rows)
  call-exactly = record {
    done_when = (sound, λ h. rw h.0 ((exactly h.0).done_when.1 h.1));
    refused_when = λ v. ((λ h. forth v (accepted (verdict_of card)) refl h), back v);
  }
    where
      sound : unless_refused (verdict_of card) rows ≡ done → SoundCard card × ((n : ℕ) (p : Place) → W n p → ⊥)
      sound e =
          let s = accepted_sound card (eqb-true _ _ (unless-accepts (verdict_of card) _ (ap accepted e)).0) in
          let later : unless_refused (verdict_of card) rows ≡ rows = rw s in
          (s, (exactly s).done_when.0 (sym later ∙ e))

      forth : (v : Verdict) (t : Bool) → accepted (verdict_of card) ≡ t → (cond t rows (verdict_of card) ≡ v) × (v.number ≢ 0) → RefusedCall card order W v
      forth v true a h = let s = accepted_sound card (eqb-true _ _ a) in by_call s (((exactly s).refused_when v).0 h)
      forth v false a h = by_card ((check.refused_exactly card v).0 h)

      back : (v : Verdict) → RefusedCall card order W v → (unless_refused (verdict_of card) rows ≡ v) × (v.number ≢ 0)
      back v (by_card r) =
          let h = (check.refused_exactly card v).1 r in
          let n : (verdict_of card).number ≢ 0 = λ z. h.1 (sym (ap (λ (w : Verdict). w.number) h.0) ∙ z) in
          (rw (ne_eqb (verdict_of card).number 0 n) h.0, h.1)
      back v (by_call s r) =
          let h = ((exactly s).refused_when v).1 r in
          (rw s h.0, h.1)

-- ---- single rows

module _ (W : ℕ → Place → Type 0) where
  pub at-tells : (n : ℕ) (t : Bool) → (t ≡ true → W n Whole) → Tells W n (row_at n Whole t)
  at-tells n true w = inr (refl, w refl)
  at-tells n false w = inl refl

  pub over-tells : (n : ℕ) (place : ℕ → Place) (test : ℕ → Bool) (k : ℕ) → ((i : ℕ) → i < k → test i ≡ true → W n (place i))
      → Tells W n (row_over n place (lowest test 0 k))
  over-tells n place test k w = go (lowest test 0 k) refl
    where
      go : (o : Option ℕ) → lowest test 0 k ≡ o → Tells W n (row_over n place o)
      go None q = inl refl
      go (Some i) q =
          let f = lowest-some test 0 k i q in
          inr (refl, w i (omega (arith, f.high)) f.passes)

pub at-fires : (n : ℕ) (t : Bool) → t ≡ true → Fires n Whole (row_at n Whole t)
at-fires n t e = rw e (refl, zero-le)

-- of blocks or of entries
pub over-fires : (n : ℕ) (place : ℕ → Place) (test : ℕ → Bool) (k i : ℕ) → ((j : ℕ) → place_number (place j) ≡ j) → i < k → test i ≡ true
    → Fires n (place i) (row_over n place (lowest test 0 k))
over-fires n place test k i same h w = go (lowest test 0 k) refl
  where
    go : (o : Option ℕ) → lowest test 0 k ≡ o → Fires n (place i) (row_over n place o)
    go None q = absurd (false≢true (sym (lowest-none test 0 k q i zero-le (omega arith)) ∙ w))
    go (Some j) q =
        let f = lowest-some test 0 k j q in
        let not_below : i < j → ⊥ = λ b. false≢true (sym (f.none_below i zero-le b) ∙ w) in
        (refl, omega (arith, same j, same i, not_below))

-- the last row stands alone
pub last_row : (n : ℕ) (p : Place) (t : Bool) → eqb n 0 ≡ false → unless_refused (row_at n p t) done ≡ row_at n p t
last_row n p true h = rw h
last_row n p false h = refl
