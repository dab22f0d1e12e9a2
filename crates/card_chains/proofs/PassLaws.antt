-- The pass over the files: what is known where it has come to an entry, and the rows at its end. Assumes nothing.
use Prim.Native.Nat.{ℕ, suc, ◌+◌, ◌≤◌, ◌<◌}
use native.Mathlib.Omega.{arith}
use mathlib.Core.Path.{◌≡◌, refl, sym, ◌∙◌}
use mathlib.Core.Bool.{Bool, true, false, cond}
use mathlib.Core.List.{List}
use Rattle.std.specs.Prelude.{Option, None, Some}
use Rattle.std.specs.Option.{option_or}
use native.Mathlib.Numerals.{add-one}
use lib.ListN.{length, get_or}
use Rattle.verdicts.specs.declared.Place.TheVariants.{Entry}
use Rattle.verdicts.specs.Rows.{done, refused_at}
use Rattle.card_model.specs.Entries.{first_block, size, is_used, wrong_entry, entry_at}
use Rattle.card_model.specs.Files.{chain, chain_of, bad_chain, chain_row, files_before, shares_block, sharing_row}
use Rattle.card_model.proofs.EntryLaws.{right-entry}
use Rattle.card_directory.specs.Listed.{reached, Listed}
use Rattle.card_directory.proofs.ListedLaws.{reached-next, listed_below, listed-used, stays, stays-to-end}
use Rattle.card_chains.specs.declared.walking.Finding.{Finding}
use Rattle.card_chains.specs.declared.walking.Finding.TheVariants.{Apart, Shared, Broken}
use Rattle.card_chains.specs.Marks.{no_marks, Lengths, Marking, MarkedFiles, outcome, Walked}
use Rattle.card_chains.specs.Rows.{chain_rows}
use Rattle.card_chains.proofs.FirstLaws.{or_none, first_before, none_first, before_same, first_next, first_of_all}
use Rattle.card_chains.proofs.MarkLaws.{lengths-start, marking-start, files-stay, unused-shares, unused-bad, walk-bad, walk-good, walk-lengths, walk-shares, walk-marking}

abbrev pub bad : List ℕ → List (List ℕ) → ℕ → Bool
bad table directory i = bad_chain table (entry_at directory i)

-- The files of the entries before `end` are passed: the marks are lengths of chains, no chain is bad, the first that shares a block is
-- kept, and while there is none their blocks are marked.
pub record Passed (table : List ℕ) (directory : List (List ℕ)) (end : ℕ) (marks : List ℕ) (shared : Option ℕ) : Type 0 where
  pub are_lengths : Lengths table marks
  pub sound : first_before (bad table directory) end ≡ None
  pub kept : shared ≡ first_before (shares_block table directory) end
  pub marked : shared ≡ None → Marking (files_before table directory end) marks

-- what the walk along a file asks of its entry's fields
pub walk_bounds : {directory : List (List ℕ)} {used : List ℕ} → Listed directory 208 used (length used) → ((i : ℕ) → i < 208 → wrong_entry (entry_at directory i) ≡ false)
    → (i j : ℕ) → i ≡ get_or used j 0 → j < length used → (entry : List ℕ) → entry ≡ entry_at directory i → (b n : ℕ) → b ≡ first_block entry → n ≡ size entry
    → (b < 200) × (n ≤ 200)
walk_bounds list right i j e h entry s b n q v =
    let r = right-entry _ (listed-used list j i e h) (right i (listed_below list j i e h)) in
    (rw (q, s) r.0, rw (v, s) r.2)

module _ {table : List ℕ} {directory : List (List ℕ)} where
  pub passed_none : {marks : List ℕ} → marks ≡ no_marks → Passed table directory 0 marks None
  passed_none e = record {
    are_lengths = rw e (lengths-start table);
    sound = none_first _;
    kept = sym (none_first _);
    marked = λ q. rw e (marking-start table directory);
  }

  -- an unused entry has no file
  passed-unused : {from to : ℕ} {marks : List ℕ} {shared : Option ℕ} → ((A : Type 0) (f : ℕ → A) → ((k : ℕ) → is_used (entry_at directory k) ≡ false → f (suc k) ≡ f k) → f from ≡ f to)
      → Passed table directory from marks shared → Passed table directory to marks shared
  passed-unused same p = record {
    are_lengths = p.are_lengths;
    sound = sym (same _ (first_before (bad table directory)) (λ k u. before_same _ k (unused-bad table directory k u))) ∙ p.sound;
    kept = p.kept ∙ same _ (first_before (shares_block table directory)) (λ k u. before_same _ k (unused-shares table directory k u));
    marked = λ q. rw (same _ (files_before table directory) (files-stay table directory)) at (p.marked q);
  }

  module _ {used : List ℕ} (list : Listed directory 208 used (length used)) where
    -- at the list's number j, which is i: the fields of its entry
    module _ (i j : ℕ) (e : i ≡ get_or used j 0) (h : j < length used) (entry : List ℕ) (s : entry ≡ entry_at directory i) (b n : ℕ) (q : b ≡ first_block entry)
        (v : n ≡ size entry) where
      module _ {marks : List ℕ} {shared : Option ℕ} (p : Passed table directory (reached used j) marks shared) where
        u : is_used (entry_at directory i) ≡ true
        u = listed-used list j i e h

        here : Passed table directory i marks shared
        here = passed-unused (λ A f s. stays directory f s list j i e h) p

        -- the walk from these fields is along the entry's chain
        module _ {found : Finding} {marks' : List ℕ} (w : Walked table (chain table n b) marks found marks') where
          walked : Walked table (chain_of table (entry_at directory i)) marks found marks'
          unfolding chain_of
          walked = rw (← s, ← q, ← v) w

        pub bad_refused : {marks' : List ℕ} → Walked table (chain table n b) marks Broken marks' → refused_at 27 (Entry i) ≡ chain_rows table directory
        unfolding chain_row first_before
        bad_refused w = rw (first_of_all (bad table directory) i 208 here.sound (walk-bad table directory i u (walked w)) (listed_below list j i e h))

        passed-next : {marks' : List ℕ} (t : Bool) → Walked table (chain table n b) marks (outcome t) marks'
            → Passed table directory (reached used (j + 1)) marks' (option_or shared (cond t (Some i) None))
        passed-next t w = rw (← reached-next used j i e) (record {
          are_lengths = walk-lengths table directory i u t (walked w);
          sound = rw (add-one i) (before_same _ i (walk-good table directory i u t (walked w)) ∙ here.sound);
          kept = first_next _ i t here.kept (λ q. walk-shares table directory i u t (walked w) (here.marked q));
          marked = λ q. walk-marking table directory i u t (walked w) (here.marked (none-kept shared t q).0) (none-kept shared t q).1;
        })
          where
            none-kept : (o : Option ℕ) (t : Bool) → option_or o (cond t (Some i) None) ≡ None → (o ≡ None) × (t ≡ false)
            none-kept None true q = cc
            none-kept None false q = (refl, refl)
            none-kept (Some k) t q = cc

        pub passed_shared : {marks' : List ℕ} → Walked table (chain table n b) marks Shared marks' → Passed table directory (reached used (j + 1)) marks' (option_or shared (Some i))
        passed_shared w = passed-next true w

        pub passed_apart : {marks' : List ℕ} → Walked table (chain table n b) marks Apart marks' → Passed table directory (reached used (j + 1)) marks' shared
        passed_apart w = rw or_none at (passed-next false w)

    -- at its end
    module _ (j : ℕ) (z : length used ≤ j) (y : j ≤ length used) {marks : List ℕ} {shared : Option ℕ} (p : Passed table directory (reached used j) marks shared) where
      all : Passed table directory 208 marks shared
      all = passed-unused (λ A f s. stays-to-end directory f s list j (omega arith)) p

      pub shared_refused : (i : ℕ) → shared ≡ Some i → refused_at 28 (Entry i) ≡ chain_rows table directory
      unfolding chain_row sharing_row first_before
      shared_refused i q = rw (all.sound, sym all.kept ∙ q)

      module _ (q : shared ≡ None) where
        pub none_refused : done ≡ chain_rows table directory
        unfolding chain_row sharing_row first_before
        none_refused = rw (all.sound, sym all.kept ∙ q)

        pub all_marked : MarkedFiles table (files_before table directory 208) marks
        all_marked = record { are_lengths = all.are_lengths; are_of_blocks = all.marked q }
