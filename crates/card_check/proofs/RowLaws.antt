-- The check row by row: the first row that refuses is the verdict, or the rows behind it decide. Assumes nothing.
use Prim.Native.Nat.{ℕ, ◌<◌}
use mathlib.Core.Path.{◌≡◌, refl, sym, ap, ◌∙◌}
use mathlib.Core.Bool.{false}
use mathlib.Core.List.{List}
use mathlib.Core.Logic.{◌≢◌}
use borrow.Author.Tests.{eq-eqb, ne_eqb}
use lib.ListN.{length}
use Rattle.std.specs.Prelude.{IfOk}
use Rattle.std.specs.declared.result.Result.{Result}
use Rattle.verdicts.specs.declared.Place.TheVariants.{Whole, Entry}
use Rattle.verdicts.specs.declared.CardError.{CardError}
use Rattle.verdicts.specs.Rows.{Verdict, done, refused_at, accepted, unless_refused, error_verdict}
use Rattle.verdicts.proofs.RowLaws.{error_first, passed_first, rows-joined}
use Rattle.card_model.specs.Layout.{card_length, root_of, table_of, directory_of}
use Rattle.card_model.specs.Entries.{wrong_entry, entry_at, entry_row, name_row}
use Rattle.card_model.specs.Files.{files_before, chain_row, sharing_row, game_row}
use Rattle.card_model.specs.Calls.{length_row, table_rows, directory_rows, verdict_of}
use Rattle.card_model.proofs.SoundLaws.{unless-accepts, below-accepts, accepted-rows}
use Rattle.card_directory.specs.Listed.{Listed}
use Rattle.card_games.specs.Rules.{GoodChains}
use Rattle.card_chains.specs.Marks.{MarkedFiles}
use Rattle.card_chains.specs.Rows.{chain_rows}
use Rattle.card_check.specs.declared.Opened.{Opened}
use Rattle.card_check.specs.Opening.{OpenCard}

-- where row v and those behind it decide: v's refusal is the verdict, and else the later rows are
module _ (v later : Verdict) {whole : Verdict} (from : unless_refused v later ≡ whole) where
  pub refuses : (e : CardError) → error_verdict e ≡ v → error_verdict e ≡ whole
  refuses e q = sym (error_first e v later q) ∙ from

  pub passes : done ≡ v → later ≡ whole
  passes q = sym (passed_first v later q) ∙ from

pub wrong_length : (card : List ℕ) → length card ≢ 131072 → refused_at 20 Whole ≡ verdict_of card
unfolding verdict_of length_row card_length
wrong_length card n = rw (ne_eqb (length card) 131072 n)

-- ---- the rows in their order, on a card of the right length
abbrev from_29 : List ℕ → Verdict
from_29 s = unless_refused (name_row (directory_of s)) (game_row (table_of s) (directory_of s))

abbrev from_27 : List ℕ → Verdict
from_27 s = unless_refused (chain_rows (table_of s) (directory_of s)) (from_29 s)

abbrev from_26 : List ℕ → Verdict
from_26 s = unless_refused (entry_row (directory_of s)) (from_27 s)

-- 27 and 28 as one
pub rows-26 : (table : List ℕ) (directory : List (List ℕ))
    → directory_rows table directory ≡ unless_refused (entry_row directory) (unless_refused (chain_rows table directory) (unless_refused (name_row directory) (game_row table directory)))
unfolding directory_rows
rows-26 table directory = ap (unless_refused (entry_row directory)) (sym (rows-joined (chain_row table directory) (sharing_row table directory) _))

pub right-length : (card : List ℕ) → length card ≡ card_length → unless_refused (table_rows (root_of card) (table_of card)) (directory_rows (table_of card) (directory_of card)) ≡ verdict_of card
unfolding verdict_of length_row
right-length card e = rw (eq-eqb (length card) card_length e)

module _ (s : List ℕ) (long : length s ≡ 131072) where
  from-21 : unless_refused (table_rows (root_of s) (table_of s)) (from_26 s) ≡ verdict_of s
  unfolding card_length
  from-21 =
      ap (unless_refused (table_rows (root_of s) (table_of s))) (sym (rows-26 (table_of s) (directory_of s))) ∙ right-length s long

  pub by_table : (e : CardError) → error_verdict e ≡ table_rows (root_of s) (table_of s) → error_verdict e ≡ verdict_of s
  by_table = refuses _ _ from-21

  module _ (t : done ≡ table_rows (root_of s) (table_of s)) where
    from-26 : from_26 s ≡ verdict_of s
    from-26 = passes _ _ from-21 t

    pub by_26 : (e : CardError) → error_verdict e ≡ entry_row (directory_of s) → error_verdict e ≡ verdict_of s
    by_26 = refuses _ _ from-26

    module _ (p : done ≡ entry_row (directory_of s)) where
      from-27 : from_27 s ≡ verdict_of s
      from-27 = passes _ _ from-26 p

      pub by_chains : (e : CardError) → error_verdict e ≡ chain_rows (table_of s) (directory_of s) → error_verdict e ≡ verdict_of s
      by_chains = refuses _ _ from-27

      module _ (c : done ≡ chain_rows (table_of s) (directory_of s)) where
        from-29 : from_29 s ≡ verdict_of s
        from-29 = passes _ _ from-27 c

        pub by_29 : (e : CardError) → error_verdict e ≡ name_row (directory_of s) → error_verdict e ≡ verdict_of s
        by_29 = refuses _ _ from-29

        module _ (n : done ≡ name_row (directory_of s)) where
          pub by_30 : (v : Verdict) → v ≡ game_row (table_of s) (directory_of s) → v ≡ verdict_of s
          by_30 v q = q ∙ passes _ _ from-29 n

-- ---- what a row tells once it is past

module _ (directory : List (List ℕ)) (e : done ≡ entry_row directory) where
  pub entries_right : (i : ℕ) → i < 208 → wrong_entry (entry_at directory i) ≡ false
  unfolding entry_row
  entries_right = below-accepts 26 Entry _ 208 refl (ap accepted (sym e))

  pub chains_good : (table : List ℕ) → done ≡ chain_rows table directory → GoodChains table directory
  unfolding chain_row
  chains_good table q =
      let a = unless-accepts (chain_row table directory) _ (ap accepted (sym q)) in
      record { fields = entries_right; chains = below-accepts 27 Entry _ 208 refl a.0 }

pub open_card : (s used marks : List ℕ) → done ≡ verdict_of s → Listed (directory_of s) 208 used (length used)
    → MarkedFiles (table_of s) (files_before (table_of s) (directory_of s) 208) marks → OpenCard s used marks
open_card s used marks v l m = record { rows = accepted-rows s (ap accepted (sym v)); listed = l; marked = m }

pub same_card : (r : Result Opened CardError) (s card : List ℕ) → s ≡ card → IfOk r (λ o. o.card.now ≡ s) → IfOk r (λ o. o.card.now ≡ card)
same_card r s card e h = simp e at h

pub ruleset rows = (by_table, by_26, by_chains, by_29, by_30, entries_right, chains_good, open_card)
