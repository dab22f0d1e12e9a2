-- The table as the card's bytes give it, and its rows one after the other. Assumes nothing.
use Prim.Native.Nat.{ℕ, ◌+◌, ◌-◌, ◌≤◌, ◌<◌}
use mathlib.Core.Path.{◌≡◌, sym, ap, ◌∙◌}
use mathlib.Core.Bool.{Bool, true, false, not}
use lib.Dec.{eqb}
use lib.Pointwise.{pointwise}
use mathlib.Core.List.{List}
use Rattle.std.specs.Prelude.{None, Some}
use native.Mathlib.Omega.{arith}
use native.Mathlib.Decide.{ℕ_discrete}
use lib.ListN.{replicate, take, drop}
use lib.Seq.{get_or-take, get_or-drop}
use Rattle.words.specs.Search.{lowest}
use Rattle.words.specs.Words.{word}
use Rattle.words.proofs.SameLaws.{pointwise-same}
use Rattle.words.proofs.SearchLaws.{lowest-is, lowest-nothing}
use Rattle.verdicts.specs.declared.Place.TheVariants.{Block}
use Rattle.verdicts.specs.Rows.{Verdict}
use Rattle.verdicts.specs.declared.CardError.{CardError}
use Rattle.verdicts.specs.Rows.{done, row_at, unless_refused, error_verdict}
use Rattle.verdicts.proofs.RowLaws.{error_first, passed_first}
use Rattle.card_model.specs.Layout.{fat_place, table_of}
use Rattle.card_model.specs.Table.{fat_entry, magic_row}
use Rattle.card_model.proofs.TableLaws.{fat-is}

-- of two bytes of the card, as a part
pub part-word : (card : List ℕ) (at : ℕ) → word (take (at + 2 - at) (drop at card)) 0 ≡ word card at
unfolding word
part-word card at =
    let e : at + 2 - at ≡ 2 = omega arith in
    let z : at + 0 ≡ at = omega arith in
    rw e
    (rw (get_or-take 2 (drop at card) 0 0 (omega arith), get_or-take 2 (drop at card) (0 + 1) 0 (omega arith), get_or-drop at card 0 0, get_or-drop at card (0 + 1) 0, z))

-- of an entry's
pub entry_word : (card : List ℕ) (b at : ℕ) → b < 256 → at ≡ fat_place b → word (take 2 (drop at card)) 0 ≡ fat_entry (table_of card) b
entry_word card b at h e =
    let two : at + 2 - at ≡ 2 = omega arith in
    rw two at (part-word card at) ∙ ap (word card) e ∙ sym (fat-is card b h)

-- the blocks of a range that the tests of a row pass
abbrev pub NoneWrong : (ℕ → Bool) → ℕ → ℕ → Type 0
NoneWrong p from to = (b : ℕ) → from ≤ b → b < to → p b ≡ false

module _ (p : ℕ → Bool) (from : ℕ) where
  pub right-next : (b : ℕ) → NoneWrong p from b → p b ≡ false → NoneWrong p from (b + 1)
  right-next b h q k x y = go (ℕ_discrete k b)
    where
      go : Dec (k ≡ b) → p k ≡ false
      go (yes d) = rw d q
      go (no d) = h k x (omega (arith, d))

  pub first_wrong : (to b : ℕ) → from ≤ b → b < to → NoneWrong p from b → p b ≡ true → lowest p from (to - from) ≡ Some b
  first_wrong to b x y h q = lowest-is p from (to - from) b (record { low = x; high = omega arith; passes = q; none_below = h })

  pub none_wrong : (to : ℕ) → NoneWrong p from to → lowest p from (to - from) ≡ None
  none_wrong to h = lowest-nothing p from (to - from) (λ k x y. h k x (omega arith))

-- row 21 by a test of the bytes
pub magic_tested : (root : List ℕ) (t : Bool) → t ≡ not (pointwise eqb (take 16 root) (replicate 16 85)) → magic_row root ≡ row_at 21 (Block 255) t
unfolding magic_row
magic_tested root t e = rw (e, pointwise-same (take 16 root) (replicate 16 85))

-- a row and the later ones, by what a function answered of it
module _ (v later : Verdict) where
  pub row_refused : (e : CardError) → error_verdict e ≡ v → error_verdict e ≡ unless_refused v later
  row_refused e q = sym (error_first e v later q)

  pub row_passed : done ≡ v → (w : Verdict) → w ≡ later → w ≡ unless_refused v later
  row_passed q w r = r ∙ sym (passed_first v later q)
