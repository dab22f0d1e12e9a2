-- Chains and files: document 01, "Card layout", from "Chain:" on, and rows 27, 28 and 30 of the table of numbers.
-- Assumes nothing.
use Rattle.std.specs.Prelude.{ℕ, zero, suc, ◌+◌, Bool, true, not, cond, ◌&&◌, ◌||◌, List, [], ◌∷◌, map, eqb, ltb, length}
use Rattle.std.specs.Prelude.{Option, None, Some, option_map}
use Rattle.words.specs.Lists.{keep, any_of, has, concat, is_some, numbers_from}
use Rattle.words.specs.Search.{lowest}
use Rattle.verdicts.specs.declared.Place.TheVariants.{Entry}
use Rattle.verdicts.specs.Rows.{Verdict}
use Rattle.verdicts.specs.Rows.{row_over}
use Rattle.card_model.specs.declared.Link.{Link}
use Rattle.card_model.specs.declared.Link.TheVariants.{Free, Damaged, Last, Next, Bad}
use Rattle.card_model.specs.Table.{link_at, free_or_damaged}
use Rattle.card_model.specs.Entries.{first_block, size, is_used, is_game, entry_at}

-- ---- chains

-- One step of a chain at block b with `left` blocks after it: the last block's entry is FFFA, each other one names the
-- next block, from which the rest follows.
unfoldable pub chain_step : Link → ℕ → ℕ → (ℕ → Option (List ℕ)) → Option (List ℕ)
chain_step Last b left rest = cond (eqb left 0) (Some (b ∷ [])) None
chain_step (Next n) b left rest = option_map (λ (blocks : List ℕ). b ∷ blocks) (rest n)
chain_step Free b left rest = None
chain_step Damaged b left rest = None
chain_step Bad b left rest = None

-- "follow the table from the first block with one fewer block left at each step": the blocks of the chain, or none where it is
-- bad.
unfoldable pub chain : List ℕ → ℕ → ℕ → Option (List ℕ)
chain table zero b = None
chain table (suc left) b = chain_step (link_at table b) b left (λ n. chain table left n)

-- The chain of an entry.
unfoldable pub chain_of : List ℕ → List ℕ → Option (List ℕ)
chain_of table entry = chain table (size entry) (first_block entry)

-- 27: "bad chain"
unfoldable pub bad_chain : List ℕ → List ℕ → Bool
bad_chain table entry = is_used entry && not (is_some (chain_of table entry))

unfoldable pub chain_row : List ℕ → List (List ℕ) → Verdict
chain_row table directory = row_over 27 Entry (lowest (λ i. bad_chain table (entry_at directory i)) 0 208)

-- ---- files

abbrev pub or_empty : Option (List ℕ) → List ℕ
or_empty None = []
or_empty (Some blocks) = blocks

-- The blocks of an entry's file, in order.
unfoldable pub file_of : List ℕ → List ℕ → List ℕ
file_of table entry = cond (is_used entry) (or_empty (chain_of table entry)) []

-- The blocks of the files of the entries before i.
unfoldable pub files_before : List ℕ → List (List ℕ) → ℕ → List ℕ
files_before table directory i = concat (map (λ j. file_of table (entry_at directory j)) (numbers_from 0 i))

-- 28: "a block also in an earlier entry's file"
unfoldable pub shares_block : List ℕ → List (List ℕ) → ℕ → Bool
shares_block table directory i = any_of (λ b. has b (files_before table directory i)) (file_of table (entry_at directory i))

unfoldable pub sharing_row : List ℕ → List (List ℕ) → Verdict
sharing_row table directory = row_over 28 Entry (lowest (shares_block table directory) 0 208)

-- ---- games

-- "every next block one higher"
abbrev pub rising : List ℕ → Bool
rising [] = true
rising (b ∷ []) = true
rising (b ∷ n ∷ blocks) = eqb n (b + 1) && rising (n ∷ blocks)

-- 30: "no earlier entry is a game, first block 0, every next block one higher, size at most 128". The first clause never
-- decides a verdict: two games at block 0 are refused 28, and any other earlier game is itself the first that is refused 30.
unfoldable pub breaks_game_rule : List ℕ → List (List ℕ) → ℕ → Bool
breaks_game_rule table directory i =
    is_game (entry_at directory i)
    && (any_of (λ j. is_game (entry_at directory j)) (numbers_from 0 i)
    || (not (eqb (first_block (entry_at directory i)) 0)
    || (not (rising (file_of table (entry_at directory i)))
    || ltb 128 (size (entry_at directory i)))))

unfoldable pub game_row : List ℕ → List (List ℕ) → Verdict
game_row table directory = row_over 30 Entry (lowest (breaks_game_rule table directory) 0 208)

-- ---- orphans

-- "user blocks whose entry is neither FFFC nor FFFF and that are in no file"; an orphan is document 01's stray.
unfoldable pub is_orphan : List ℕ → List (List ℕ) → ℕ → Bool
is_orphan table directory b = not (free_or_damaged (link_at table b)) && not (has b (files_before table directory 208))

unfoldable pub orphans : List ℕ → List (List ℕ) → ℕ
orphans table directory = length (keep (is_orphan table directory) (numbers_from 0 200))
