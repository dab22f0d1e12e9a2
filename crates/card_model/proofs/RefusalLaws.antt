-- A card is refused with the first thing that is wrong. Assumes nothing.
use Prim.Native.Nat.{ℕ, suc, ◌-◌, ◌≤◌, ◌<◌, zero-le}
use mathlib.Core.Path.{◌≡◌, refl, sym, ap, subst, ◌∙◌}
use mathlib.Core.Bool.{Bool, true, false, not, cond, false≢true}
use mathlib.Core.List.{List, [], ◌∷◌}
use Rattle.std.specs.Prelude.{Option, None, Some}
use mathlib.Core.Logic.{◌↔◌, ◌≢◌, ◌⊎◌, inl, inr}
use native.Mathlib.Omega.{arith}
use lib.Dec.{eqb, ltb}
use lib.ListN.{get_or}
use borrow.Author.Tests.{eqb-false, ne_eqb, ltb-true, ltb-false, not-true}
use Rattle.words.specs.Search.{lowest}
use Rattle.words.proofs.SearchLaws.{lowest-none, lowest-some}
use Rattle.words.proofs.WordLaws.{eq-same, ne_same}
use Rattle.verdicts.specs.declared.Place.{Place}
use Rattle.verdicts.specs.declared.Place.TheVariants.{Whole, Block, Entry}
use Rattle.verdicts.specs.Rows.{Verdict}
use Rattle.verdicts.specs.Rows.{place_number, done, refused_at, row_at, row_over, unless_refused}
use Rattle.card_model.specs.Layout.{root_of, table_of, directory_of}
use Rattle.card_model.specs.Table.{magic_row, fields_row, wrong_system, wrong_hidden, wrong_user, system_row, hidden_row, user_row}
use Rattle.card_model.specs.Entries.{wrong_entry, name_taken, entry_row, name_row}
use Rattle.card_model.specs.Files.{bad_chain, shares_block, breaks_game_rule, chain_row, sharing_row, game_row}
use Rattle.card_model.specs.Calls.{length_row, table_rows, directory_rows, verdict_of}
use Rattle.card_model.specs.Sound.{entry_on, UsedEntry}
use Rattle.card_model.specs.Theorems.{Wrong, row_20, row_21, row_22, row_23, row_24, row_25, row_26, row_27, row_28, row_29, row_30}
use Rattle.card_model.specs.Theorems.{Refused}
use Rattle.card_model.proofs.TableLaws.{root-tells, root-is-wrong, hidden-tells, hidden-is-wrong, user-tells, user-is-wrong}
use Rattle.card_model.proofs.TestLaws.{entry-tells, entry-is-wrong, chain-tells, chain-is-bad, sharing-tells, block-is-shared}
use Rattle.card_model.proofs.TestLaws.{name-tells, name-is-taken, game-tells, game-is-wrong}

-- Where one of the numbers from a up to e is wrong, the row refuses, and no later than there.
over-fires : (n : ℕ) (place : ℕ → Place) (wrong : ℕ → Bool) (a e i : ℕ)
    → a ≤ i → i < e → wrong i ≡ true → ((j : ℕ) → place_number (place j) ≡ j)
    → ((row_over n place (lowest wrong a (e - a))).number ≡ n) × (place_number (row_over n place (lowest wrong a (e - a))).place ≤ i)
over-fires n place wrong a e i l h w same = go (lowest wrong a (e - a)) refl
  where
    go : (o : Option ℕ) → lowest wrong a (e - a) ≡ o → ((row_over n place o).number ≡ n) × (place_number (row_over n place o).place ≤ i)
    go None q = absurd (false≢true (sym (lowest-none wrong a (e - a) q i l (omega arith)) ∙ w))
    go (Some j) q =
        let f = lowest-some wrong a (e - a) j q in
        let not_below : i < j → ⊥ = λ b. false≢true (sym (f.none_below i l b) ∙ w) in
        (refl, omega (arith, same j, not_below))

module _ (card : List ℕ) where
  abbrev root : List ℕ
  root = root_of card

  abbrev table : List ℕ
  table = table_of card

  abbrev directory : List (List ℕ)
  directory = directory_of card

  -- row n
  abbrev row : ℕ → Verdict
  row n = get_or rows (n - 20) done
    where
      rows : List Verdict
      rows =
          length_row card ∷ magic_row root ∷ fields_row root ∷ system_row table ∷ hidden_row table ∷ user_row table ∷ entry_row directory
          ∷ chain_row table directory ∷ sharing_row table directory ∷ name_row directory ∷ game_row table directory ∷ []

  -- the numbers there are, and their kinds of place
  place_of : ℕ → ℕ → Place
  place_of n k = cond (eqb n 20) Whole (cond (ltb n 26) (Block k) (Entry k))

  placed : {n : ℕ} {p : Place} → Wrong card n p → (20 ≤ n) × (n < 31) × (p ≡ place_of n (place_number p))
  unfolding place_of
  placed (row_20 w) = (omega arith, omega arith, refl)
  placed (row_21 w) = (omega arith, omega arith, refl)
  placed (row_22 w) = (omega arith, omega arith, refl)
  placed (row_23 l h w) = (omega arith, omega arith, refl)
  placed (row_24 l h c d) = (omega arith, omega arith, refl)
  placed (row_25 h c d a u) = (omega arith, omega arith, refl)
  placed (row_26 u w) = (omega arith, omega arith, refl)
  placed (row_27 u n) = (omega arith, omega arith, refl)
  placed (row_28 b h l i j) = (omega arith, omega arith, refl)
  placed (row_29 u v l e) = (omega arith, omega arith, refl)
  placed (row_30 h g w) = (omega arith, omega arith, refl)

  fires-at : (n : ℕ) (wrong : ℕ → Bool) {i : ℕ} → i < 208 → wrong i ≡ true
      → ((row_over n Entry (lowest wrong 0 208)).number ≡ n) × (place_number (row_over n Entry (lowest wrong 0 208)).place ≤ i)
  fires-at n wrong {i} h w = over-fires n Entry wrong 0 208 i zero-le h w (λ j. refl)

  -- what is wrong, its row refuses, and no later than there
  fires : {n : ℕ} {p : Place} → Wrong card n p → ((row n).number ≡ n) × (place_number (row n).place ≤ place_number p)
  unfolding length_row magic_row fields_row system_row hidden_row user_row entry_row chain_row sharing_row name_row game_row
      wrong_system wrong_hidden wrong_user
  fires (row_20 d) = rw (ne_eqb _ _ d) (refl, omega arith)
  fires (row_21 d) = rw (ne_same _ _ d) (refl, omega arith)
  fires (row_22 w) = rw (root-is-wrong root w) (refl, omega arith)
  fires (row_23 l h d) = over-fires _ Block (wrong_system table) _ _ _ l h (ap not (ne_eqb _ _ d)) (λ j. refl)
  fires (row_24 l h c d) = over-fires _ Block (wrong_hidden table) _ _ _ l h (hidden-is-wrong table _ c d) (λ j. refl)
  fires (row_25 h c d a u) = over-fires _ Block (wrong_user table) _ _ _ zero-le h (user-is-wrong table _ c d a u) (λ j. refl)
  fires (row_26 u w) = fires-at _ (λ i. wrong_entry (entry_on card i)) u.in_directory (entry-is-wrong _ u.is_used_lem w)
  fires (row_27 u n) = fires-at _ (λ i. bad_chain table (entry_on card i)) u.in_directory (chain-is-bad table _ u.is_used_lem n)
  fires (row_28 b h l i j) = fires-at _ (shares_block table directory) h (block-is-shared card _ _ b l i j)
  fires (row_29 u v l e) = fires-at _ (name_taken directory) u.in_directory (name-is-taken card _ _ u.is_used_lem v.is_used_lem l e)
  fires (row_30 h g w) = fires-at _ (breaks_game_rule table directory) h (game-is-wrong card _ g w)

  -- ---- rows one after the other

  -- the verdict is the first thing wrong from row a on
  record First (a : ℕ) (v : Verdict) : Type 0 where
    applies : Wrong card v.number v.place
    lowest_row : (n : ℕ) (p : Place) → a ≤ n → Wrong card n p → v.number ≤ n
    lowest_place : (p : Place) → Wrong card v.number p → place_number v.place ≤ place_number p

  -- the verdict of the rows from a up to e, e not among them
  data Judged (a e : ℕ) (v : Verdict) : Type 0 where
    passed : v ≡ done → ((n : ℕ) (p : Place) → a ≤ n → n < e → Wrong card n p → ⊥) → Judged a e v
    refused : First a v → Judged a e v

  unless-judged : {a m e : ℕ} {v w : Verdict} → Judged a m v → Judged m e w → Judged a e (unless_refused v w)
  unless-judged {v = v} (refused f) later =
      let n : v.number ≢ 0 = λ z. omega (arith, (placed f.applies).0, z) in
      rw (ne_eqb v.number 0 n) (refused f)
  unless-judged {a} {m} {e} {v} {w} (passed d c) later = rw d (go later)
    where
      go : Judged m e w → Judged a e w
      go (passed d' c') = passed d' (λ n p l h. by n p l h (ltb n m) refl)
        where
          by : (n : ℕ) (p : Place) → a ≤ n → n < e → (t : Bool) → ltb n m ≡ t → Wrong card n p → ⊥
          by n p l h true t = c n p l (ltb-true n m t)
          by n p l h false t = c' n p (ltb-false n m t) h
      go (refused f) = refused (record { applies = f.applies; lowest_row = λ n p l. by n p l (ltb n m) refl; lowest_place = f.lowest_place })
        where
          by : (n : ℕ) (p : Place) → a ≤ n → (t : Bool) → ltb n m ≡ t → Wrong card n p → w.number ≤ n
          by n p l true t = λ x. absurd (c n p l (ltb-true n m t) x)
          by n p l false t = f.lowest_row n p (ltb-false n m t)

  -- ---- one row

  -- the row is silent or tells what is wrong
  abbrev Tells : ℕ → Verdict → Type 0
  Tells n v = (v ≡ done) ⊎ ((v.number ≡ n) × Wrong card n v.place)

  at-tells : (n : ℕ) (p : Place) (t : Bool) → (t ≡ true → Wrong card n p) → Tells n (row_at n p t)
  at-tells n p true w = inr (refl, w refl)
  at-tells n p false w = inl refl

  over-tells : (n : ℕ) (place : ℕ → Place) (test : ℕ → Bool) (a e : ℕ)
      → ((i : ℕ) → a ≤ i → i < e → test i ≡ true → Wrong card n (place i)) → Tells n (row_over n place (lowest test a (e - a)))
  over-tells n place test a e w = go (lowest test a (e - a)) refl
    where
      go : (o : Option ℕ) → lowest test a (e - a) ≡ o → Tells n (row_over n place o)
      go None q = inl refl
      go (Some i) q =
          let f = lowest-some test a (e - a) i q in
          inr (refl, w i f.low (omega (arith, f.low, f.high)) f.passes)

  judged : (n : ℕ) → Tells n (row n) → Judged n (suc n) (row n)
  judged n (inl d) = passed d (λ m p l h w.
      let here : Wrong card n p = subst (λ (k : ℕ). Wrong card k p) (omega arith) w in
      omega (arith, (placed here).0, (fires here).0, ap (λ (v : Verdict). v.number) d))
  judged n (inr (e, w)) = refused (record {
    applies = subst (λ (k : ℕ). Wrong card k (row n).place) (sym e) w;
    lowest_row = λ m p l x. omega (arith, e);
    lowest_place = λ p x. (fires (subst (λ (k : ℕ). Wrong card k p) e x)).1;
  })

  module _ (i : ℕ) (h : i < 208) where
    wrong-entry : wrong_entry (entry_on card i) ≡ true → Wrong card 26 (Entry i)
    wrong-entry e =
        let t = entry-tells (entry_on card i) e in
        row_26 (record { in_directory = h; is_used_lem = t.0 }) t.1

    bad-chain : bad_chain table (entry_on card i) ≡ true → Wrong card 27 (Entry i)
    bad-chain e =
        let t = chain-tells table (entry_on card i) e in
        row_27 (record { in_directory = h; is_used_lem = t.0 }) t.1

    shared-block : shares_block table directory i ≡ true → Wrong card 28 (Entry i)
    shared-block e =
        let s = sharing-tells card i e in
        row_28 s.block h s.before s.here s.there

    taken_name : name_taken directory i ≡ true → Wrong card 29 (Entry i)
    taken_name e =
        let t = name-tells card i e in
        let s = t.1 in
        let other : UsedEntry card s.earlier = record { in_directory = omega (arith, h, s.before); is_used_lem = s.is_used_lem } in
        row_29 (record { in_directory = h; is_used_lem = t.0 }) other s.before s.same

    wrong-game : breaks_game_rule table directory i ≡ true → Wrong card 30 (Entry i)
    wrong-game e =
        let t = game-tells card i e in
        row_30 h t.0 t.1

  all-rows : Judged 20 31 (verdict_of card)
  unfolding verdict_of table_rows directory_rows length_row magic_row fields_row system_row hidden_row user_row entry_row chain_row sharing_row name_row game_row
      wrong_system wrong_hidden wrong_user
  all-rows =
      let v20 = judged 20 (at-tells _ _ _ (λ t. row_20 (eqb-false _ _ (not-true _ t)))) in
      let v21 = judged 21 (at-tells _ _ _ (λ t. row_21 (λ e. false≢true (sym (not-true _ t) ∙ eq-same _ _ e)))) in
      let v22 = judged 22 (at-tells _ _ _ (λ t. row_22 (root-tells root (not-true _ t)))) in
      let v23 = judged 23 (over-tells _ _ _ _ _ (λ b l h t. row_23 l h (eqb-false _ _ (not-true _ t)))) in
      let v24 = judged 24 (over-tells _ _ _ _ _ (λ b l h t. let w = hidden-tells table b t in row_24 l h w.0 w.1)) in
      let v25 = judged 25 (over-tells _ _ _ 0 _ (λ b l h t. let w = user-tells table b t in row_25 h w.0 w.1 w.2 w.3)) in
      let v26 = judged 26 (over-tells _ _ _ 0 _ (λ i l. wrong-entry i)) in
      let v27 = judged 27 (over-tells _ _ _ 0 _ (λ i l. bad-chain i)) in
      let v28 = judged 28 (over-tells _ _ _ 0 _ (λ i l. shared-block i)) in
      let v29 = judged 29 (over-tells _ _ _ 0 _ (λ i l. taken_name i)) in
      let v30 = judged 30 (over-tells _ _ _ 0 _ (λ i l. wrong-game i)) in
      unless-judged v20 (unless-judged
      (unless-judged v21 (unless-judged v22 (unless-judged v23 (unless-judged v24 v25))))
      (unless-judged v26 (unless-judged v27 (unless-judged v28 (unless-judged v29 v30)))))

  -- ---- the first thing wrong

  first-refused : (v : Verdict) → First 20 v → Refused card v
  first-refused v f = record { applies = f.applies; lowest_row = λ n p w. f.lowest_row n p (placed w).0 w; lowest_place = f.lowest_place }

  one-verdict : (v w : Verdict) → Refused card v → Refused card w → v ≡ w
  one-verdict v w r s =
      let n : v.number ≡ w.number = omega (arith, r.lowest_row _ _ s.applies, s.lowest_row _ _ r.applies) in
      let x : Wrong card w.number v.place = subst (λ (m : ℕ). Wrong card m v.place) n r.applies in
      let y : Wrong card v.number w.place = subst (λ (m : ℕ). Wrong card m w.place) (sym n) s.applies in
      let k : place_number v.place ≡ place_number w.place = omega (arith, r.lowest_place _ y, s.lowest_place _ x) in
      let p : v.place ≡ w.place = (placed x).2 ∙ ap (place_of w.number) k ∙ sym (placed s.applies).2 in
      ap (λ (m : ℕ). refused_at m v.place) n ∙ ap (refused_at w.number) p

  verdict-wrong : (v : Verdict) → Judged 20 31 v → v.number ≢ 0 → Refused card v
  verdict-wrong v (passed d c) n = absurd (n (ap (λ (w : Verdict). w.number) d))
  verdict-wrong v (refused f) n = first-refused v f

  wrong-verdict : (v w : Verdict) → Judged 20 31 v → Refused card w → v ≡ w
  wrong-verdict v w (passed d c) r = absurd (c _ _ (placed r.applies).0 (placed r.applies).1 r.applies)
  wrong-verdict v w (refused f) r = one-verdict v w (first-refused v f) r

pub refused_exactly : (card : List ℕ) (v : Verdict) → ((verdict_of card ≡ v) × (v.number ≢ 0)) ↔ Refused card v
refused_exactly card v = (
  (λ h. verdict-wrong card v (subst (Judged card 20 31) h.0 (all-rows card)) h.1),
  (λ r. (wrong-verdict card _ v (all-rows card) r, λ z. omega (arith, (placed card r.applies).0, z))),
)
