-- The check is passed exactly when no row refuses. Assumes nothing.
use Prim.Native.Nat.{ℕ, ◌+◌, ◌≤◌, ◌<◌}
use mathlib.Core.Path.{◌≡◌, refl, sym, ap, ◌∙◌}
use mathlib.Core.Bool.{Bool, true, false, not, cond, false≢true}
use mathlib.Core.List.{List}
use Rattle.std.specs.Prelude.{Option, None, Some}
use mathlib.Core.Logic.{◌↔◌}
use native.Mathlib.Omega.{arith}
use lib.Dec.{eqb}
use borrow.Author.Tests.{eqb-true, eq-eqb, not-false}
use Rattle.words.specs.Search.{lowest}
use Rattle.words.proofs.SearchLaws.{lowest-none, lowest-nothing}
use Rattle.words.proofs.WordLaws.{same-eq, eq-same}
use Rattle.verdicts.specs.declared.Place.{Place}
use Rattle.verdicts.specs.declared.Place.TheVariants.{Block, Entry}
use Rattle.verdicts.specs.Rows.{Verdict}
use Rattle.verdicts.specs.Rows.{done, accepted, row_at, row_over, unless_refused}
use Rattle.card_model.specs.Layout.{root_of, table_of, directory_of}
use Rattle.card_model.specs.Table.{magic_row, fields_row, wrong_system, wrong_hidden, wrong_user, system_row, hidden_row, user_row}
use Rattle.card_model.specs.Entries.{entry_row, name_row}
use Rattle.card_model.specs.Files.{chain_row, sharing_row, game_row}
use Rattle.card_model.specs.Calls.{length_row, table_rows, directory_rows, verdict_of}
use Rattle.card_model.specs.Sound.{SoundCard, NoRowRefuses}

-- ---- rows that accept

pub unless-accepts : (v w : Verdict) → accepted (unless_refused v w) ≡ true → (accepted v ≡ true) × (accepted w ≡ true)
unless-accepts v w e = go (accepted v) refl e
  where
    go : (t : Bool) → accepted v ≡ t → accepted (cond t w v) ≡ true → (t ≡ true) × (accepted w ≡ true)
    go true q e = (refl, e)
    go false q e = absurd (false≢true (sym q ∙ e))

unless-done : (v w : Verdict) → v ≡ done → w ≡ done → unless_refused v w ≡ done
unless-done v w e f = rw (e, f)

pub at-accepts : (n : ℕ) (p : Place) (t : Bool) → eqb n 0 ≡ false → accepted (row_at n p t) ≡ true → t ≡ false
at-accepts n p true h e = sym e ∙ h
at-accepts n p false h e = refl

over-accepts : (n : ℕ) (p : ℕ → Place) (q : ℕ → Bool) (a k : ℕ) → eqb n 0 ≡ false → accepted (row_over n p (lowest q a k)) ≡ true
    → (i : ℕ) → a ≤ i → i < a + k → q i ≡ false
over-accepts n p q a k h e = go (lowest q a k) refl e
  where
    go : (o : Option ℕ) → lowest q a k ≡ o → accepted (row_over n p o) ≡ true → (i : ℕ) → a ≤ i → i < a + k → q i ≡ false
    go None r e = lowest-none q a k r
    go (Some j) r e = absurd (false≢true (sym h ∙ e))

pub below-accepts : (n : ℕ) (p : ℕ → Place) (q : ℕ → Bool) (k : ℕ) → eqb n 0 ≡ false → accepted (row_over n p (lowest q 0 k)) ≡ true
    → (i : ℕ) → i < k → q i ≡ false
below-accepts n p q k h e i l = over-accepts n p q 0 k h e i (omega arith) (omega arith)

over_done : (n : ℕ) (p : ℕ → Place) (q : ℕ → Bool) (a k : ℕ) → ((i : ℕ) → a ≤ i → i < a + k → q i ≡ false) → row_over n p (lowest q a k) ≡ done
over_done n p q a k h = ap (row_over n p) (lowest-nothing q a k h)

below-done : (n : ℕ) (p : ℕ → Place) (q : ℕ → Bool) (k : ℕ) → ((i : ℕ) → i < k → q i ≡ false) → row_over n p (lowest q 0 k) ≡ done
below-done n p q k h = over_done n p q 0 k (λ i a b. h i (omega arith))

module _ (card : List ℕ) where
  abbrev root : List ℕ
  root = root_of card

  abbrev table : List ℕ
  table = table_of card

  abbrev directory : List (List ℕ)
  directory = directory_of card

  pub accepted-rows : accepted (verdict_of card) ≡ true → NoRowRefuses card
  unfolding verdict_of table_rows directory_rows length_row magic_row fields_row system_row hidden_row user_row entry_row chain_row sharing_row name_row game_row
      wrong_system wrong_hidden wrong_user
  accepted-rows e =
      let v20 = unless-accepts (length_row card) _ e in
      let v = unless-accepts (table_rows root table) _ v20.1 in
      let v21 = unless-accepts (magic_row root) _ v.0 in
      let v22 = unless-accepts (fields_row root) _ v21.1 in
      let v23 = unless-accepts (system_row table) _ v22.1 in
      let v24 = unless-accepts (hidden_row table) _ v23.1 in
      let v26 = unless-accepts (entry_row directory) _ v.1 in
      let v27 = unless-accepts (chain_row table directory) _ v26.1 in
      let v28 = unless-accepts (sharing_row table directory) _ v27.1 in
      let v29 = unless-accepts (name_row directory) _ v28.1 in
      record {
        long = eqb-true _ _ (not-false _ (at-accepts _ _ _ refl v20.0));
        magic = same-eq _ _ (not-false _ (at-accepts _ _ _ refl v21.0));
        fields = not-false _ (at-accepts _ _ _ refl v22.0);
        system = λ b l h. eqb-true _ _ (not-false _ (over-accepts 23 Block (wrong_system table) 241 15 refl v23.0 b l h));
        hidden = λ b l h. not-false _ (over-accepts 24 Block (wrong_hidden table) 200 41 refl v24.0 b l h);
        user = below-accepts _ _ (wrong_user table) _ refl v24.1;
        entries = below-accepts _ _ _ _ refl v26.0;
        chains = below-accepts _ _ _ _ refl v27.0;
        apart = below-accepts _ _ _ _ refl v28.0;
        names = below-accepts _ _ _ _ refl v29.0;
        games = below-accepts _ _ _ _ refl v29.1;
      }

  rows-sound : NoRowRefuses card → SoundCard card
  unfolding verdict_of table_rows directory_rows length_row magic_row fields_row system_row hidden_row user_row entry_row chain_row sharing_row name_row game_row
      wrong_system wrong_hidden wrong_user
  rows-sound r =
      let v20 : length_row card ≡ done = rw (eq-eqb _ _ r.long) in
      let v21 : magic_row root ≡ done = rw (eq-same _ _ r.magic) in
      let v22 : fields_row root ≡ done = rw r.fields in
      let v23 : system_row table ≡ done = over_done 23 Block (wrong_system table) 241 15 (λ b l h. ap not (eq-eqb _ _ (r.system b l h))) in
      let v24 : hidden_row table ≡ done = over_done 24 Block (wrong_hidden table) 200 41 (λ b l h. ap not (r.hidden b l h)) in
      let v25 : user_row table ≡ done = below-done 25 Block _ _ r.user in
      let v26 : entry_row directory ≡ done = below-done 26 Entry _ _ r.entries in
      let v27 : chain_row table directory ≡ done = below-done 27 Entry _ _ r.chains in
      let v28 : sharing_row table directory ≡ done = below-done 28 Entry _ _ r.apart in
      let v29 : name_row directory ≡ done = below-done 29 Entry _ _ r.names in
      let v30 : game_row table directory ≡ done = below-done 30 Entry _ _ r.games in
      let v : table_rows root table ≡ done = unless-done _ _ v21 (unless-done _ _ v22 (unless-done _ _ v23 (unless-done _ _ v24 v25))) in
      let w : directory_rows table directory ≡ done = unless-done _ _ v26 (unless-done _ _ v27 (unless-done _ _ v28 (unless-done _ _ v29 v30))) in
      unless-done _ _ v20 (unless-done _ _ v w)

  pub sound-rows : SoundCard card → NoRowRefuses card
  sound-rows e = accepted-rows (ap accepted e)

  pub accepted_sound : (verdict_of card).number ≡ 0 → SoundCard card
  accepted_sound e = rows-sound (accepted-rows (eq-eqb (verdict_of card).number 0 e))

pub sound_exactly : (card : List ℕ) → SoundCard card ↔ NoRowRefuses card
sound_exactly card = (sound-rows card, rows-sound card)
