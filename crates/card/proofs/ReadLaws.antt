-- A read from a sound card: rows 33, 31 and 32, or the block. Assumes nothing.
use Prim.Native.Nat.{ℕ, ◌+◌, ◌-◌, ◌*◌, ◌<◌}
use mathlib.Core.Path.{◌≡◌, sym, ◌∙◌}
use mathlib.Core.Bool.{true, or-true}
use mathlib.Core.List.{List}
use mathlib.Core.Logic.{◌≢◌, ◌⊎◌, inl, inr}
use Rattle.std.specs.Prelude.{None, Some}
use native.Mathlib.Omega.{arith}
use native.Mathlib.Nat.{add-sub_cancel_left}
use borrow.Author.Tests.{ne_eqb}
use lib.ListN.{length, get_or, take, drop}
use Rattle.words.proofs.Bools.{and-true-left}
use Rattle.words.proofs.SearchLaws.{lowest-some}
use Rattle.verdicts.specs.declared.Place.TheVariants.{Whole}
use Rattle.verdicts.specs.declared.Rule.TheVariants.{NoFile, Lengths}
use Rattle.verdicts.specs.declared.CardError.{CardError}
use Rattle.verdicts.specs.Rows.{Verdict, done, refused_at, error_verdict}
use Rattle.verdicts.proofs.RowLaws.{error-refuses, error_first, passed_first}
use Rattle.card_model.specs.Layout.{block_at, table_of, directory_of}
use Rattle.card_model.specs.Entries.{first_block, size, is_used, entry_at, is_named}
use Rattle.card_model.specs.Files.{chain, file_of}
use Rattle.card_model.specs.Calls.{verdict_of, entry_named, index_row, read_rows, read_verdict, file_block, left_by, read_buffer}
use Rattle.card_model.specs.Sound.{NoRowRefuses, UsedEntry}
use Rattle.card_model.proofs.EntryLaws.{right-entry, file-chain}
use Rattle.card_chains.specs.Steps.{block_after}
use Rattle.card_chains.proofs.StepLaws.{block-of-chain}

-- an entry that a name found is in the directory, and used
pub named_used : (card name : List ℕ) (i : ℕ) → entry_named (directory_of card) name ≡ Some i → UsedEntry card i
unfolding entry_named is_named
named_used card name i e =
    let l = lowest-some (λ j. is_named name (entry_at (directory_of card) j)) 0 208 i e in
    record { in_directory = omega (arith, l.high); is_used_lem = and-true-left _ _ l.passes }

module _ (card name : List ℕ) (index : ℕ) (buffer : List ℕ) where
  -- a read that is refused leaves the buffer
  read_kept : (e : CardError) → error_verdict e ≡ read_verdict card name index buffer → buffer ≡ read_buffer card name index buffer
  unfolding read_buffer
  read_kept e q = rw (← q, error-refuses e)

  pub by_check : (e : CardError) → error_verdict e ≡ verdict_of card → error_verdict e ≡ read_verdict card name index buffer
  unfolding read_verdict
  by_check e q = sym (error_first e (verdict_of card) _ q)

  pub kept_by_check : (e : CardError) → error_verdict e ≡ verdict_of card → buffer ≡ read_buffer card name index buffer
  kept_by_check e q = read_kept e (by_check e q)

  module _ (v : done ≡ verdict_of card) where
    pub past-check : read_verdict card name index buffer ≡ read_rows (directory_of card) name index buffer
    unfolding read_verdict
    past-check = passed_first _ _ v

    pub by_33 : (length name ≢ 12) ⊎ ((length name ≡ 12) × (length buffer ≢ 512)) → refused_at 33 Whole ≡ read_verdict card name index buffer
    unfolding read_rows
    by_33 (inl n) = rw (past-check, ne_eqb (length name) 12 n)
    by_33 (inr n) = rw (past-check, ne_eqb (length buffer) 512 n.1, or-true)

    pub kept_by_33 : (length name ≢ 12) ⊎ ((length name ≡ 12) × (length buffer ≢ 512)) → buffer ≡ read_buffer card name index buffer
    kept_by_33 n = read_kept (record { rule = Lengths; place = Whole }) (by_33 n)

    pub past_33 : length name ≡ 12 → length buffer ≡ 512 → read_verdict card name index buffer ≡ index_row (directory_of card) index (entry_named (directory_of card) name)
    unfolding read_rows
    past_33 n l = rw (past-check, n, l)

    -- s is the card that was opened
    module _ (n : length name ≡ 12) (l : length buffer ≡ 512) (s : List ℕ) (q : s ≡ card) where
      pub by_31 : entry_named (directory_of s) name ≡ None → refused_at 31 Whole ≡ read_verdict card name index buffer
      by_31 h = rw (past_33 n l, ← q, h)

      pub kept_by_31 : entry_named (directory_of s) name ≡ None → buffer ≡ read_buffer card name index buffer
      kept_by_31 h = read_kept (record { rule = NoFile; place = Whole }) (by_31 h)

      -- the rest of the read, from the entry that has the name
      module _ (i : ℕ) (h : entry_named (directory_of s) name ≡ Some i) (r : Verdict) (e : r ≡ index_row (directory_of s) index (Some i)) where
        pub read_as : r ≡ read_verdict card name index buffer
        read_as = e ∙ rw (past_33 n l, ← q, h)

        pub left_as : (left : List ℕ) → left ≡ left_by r s index (Some i) buffer → left ≡ read_buffer card name index buffer
        unfolding read_buffer
        left_as left w = w ∙ rw (read_as, ← q, h)

pub ruleset reads = (by_check, kept_by_check, by_33, kept_by_33, by_31, kept_by_31)

-- ---- the block at an index of entry i's file, where s is the entry

module _ (card : List ℕ) (rows : NoRowRefuses card) (i : ℕ) (u : UsedEntry card i) (s : List ℕ) (es : s ≡ entry_at (directory_of card) i) where
  used : is_used s ≡ true
  used = rw es u.is_used_lem

  pub first_below : first_block s < 200
  first_below = (right-entry s used (rw es (rows.entries i u.in_directory))).0

  chain-is : chain (table_of card) (size s) (first_block s) ≡ Some (file_of (table_of card) s)
  chain-is = file-chain s used (table_of card) (rw es (rows.chains i u.in_directory))

  -- b is the block that the steps lead to
  pub in_file : (index : ℕ) → index < size s → (b : ℕ) → b ≡ block_after (table_of card) (first_block s) index
      → take (b * 512 + 512 - b * 512) (drop (b * 512) card) ≡ block_at card (file_block card i index)
  unfolding file_block block_at
  in_file index h b after =
      let d : b ≡ get_or (file_of (table_of card) s) index 0 = after ∙ block-of-chain (table_of card) (size s) (first_block s) (file_of (table_of card) s) chain-is index h in
      rw (add-sub_cancel_left (b * 512) 512, ← es, ← d)
