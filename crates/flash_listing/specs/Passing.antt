-- A pass over the used blocks, from the highest down, with marks of numbers.
-- Assumes nothing.
use Rattle.std.specs.Prelude.{ℕ, ◌+◌, ◌-◌, ◌≤◌, ◌<◌, ◌≡◌, Bool, true, cond, List, ◌++◌, ◌⊎◌, eqb, length, get_or, take, drop}
use Rattle.words.specs.Lists.{is_some}
use Rattle.words.specs.Search.{highest}
use Rattle.flash_model.specs.Measures.{capacity}
use Rattle.flash_model.specs.Partition.{copy_at, holder}
use Rattle.flash_partition.specs.declared.opened.Partition.{Partition}
use Rattle.flash_listing.specs.BlockTests.{kept_blocks}
use Rattle.flash_listing.specs.declared.Progress.{Progress}

-- The pass is at block k, and those above are passed: what holds the contents of a number that has no mark is k or below it.
pub record PassAt (marks : List ℕ) (p : Partition) (k : ℕ) : Type 0 where
  pub long : capacity p.log.m.size ≤ length marks
  pub not_past_end : k ≤ capacity p.log.m.size
  pub unmarked : (n : ℕ) → n < capacity p.log.m.size → get_or marks n 0 ≡ 0 → holder p.image.now n ≡ highest (copy_at p.image.now n) k

-- The pass went down from one block to another, and none of those that it passed is kept.
pub record PassedTo (marks : List ℕ) (p : Partition) (from at : ℕ) : Type 0 where
  pub pass_at : PassAt marks p at
  pub no_higher : at ≤ from
  pub same_left : kept_blocks marks p.image.now at ≡ kept_blocks marks p.image.now from

-- The blocks that are still to be listed, then the list, which is the end of `kept`.
unfoldable pub left_and_listed : List ℕ → List ℕ → ℕ → ℕ → List ℕ → List ℕ
left_and_listed marks image k count kept = kept_blocks marks image k ++ drop (length kept - count) kept

-- ---- what a pass leaves

-- A number's mark is as it was; or there was none, the number has contents, and the mark is 1.
pub record MarksAdded (image marks marks' : List ℕ) : Type 0 where
  pub each : (n : ℕ) → (get_or marks' n 0 ≡ get_or marks n 0) ⊎ ((get_or marks n 0 ≡ 0) × ((get_or marks' n 0 ≡ 1) × (is_some (holder image n) ≡ true)))

-- The list at the end of `kept` has grown from `from` blocks to `to`. But for the place in front of it, what stands before it is
-- as it was.
pub record ListGrown (from to : ℕ) (kept kept' : List ℕ) : Type 0 where
  pub no_fewer : from ≤ to
  pub same_front : take (length kept - to - 1) kept' ≡ take (length kept - to - 1) kept

-- Blocks are passed, and the numbers marked are counted. Where their blocks are listed, these and the blocks that are still to be
-- listed are the same as before.
pub record Passed (listed : Bool) (p : Partition) (marks kept : List ℕ) (from : Progress) (marks' kept' : List ℕ) (to : Progress) : Type 0 where
  pub pass_at : PassAt marks' p to.at
  pub no_higher : to.at ≤ from.at
  pub room : to.count + to.at ≤ from.count + from.at
  pub counted : to.count + length (kept_blocks marks' p.image.now to.at) ≡ from.count + length (kept_blocks marks p.image.now from.at)
  pub added : MarksAdded p.image.now marks marks'
  pub same_length : length kept' ≡ length kept
  pub left : listed ≡ true → left_and_listed marks' p.image.now to.at to.count kept' ≡ left_and_listed marks p.image.now from.at from.count kept
  pub grown : listed ≡ true → ListGrown from.count to.count kept kept'

-- A pass over all used blocks: where it begins and where it ends.
abbrev pub whole : Partition → Progress
whole p = record { at = p.log.used; count = 0 }

abbrev pub pass_ended : ℕ → Progress
pass_ended count = record { at = 0; count = count }

-- A number's mark when all blocks are passed: the one that it had, else 1 if it has contents.
unfoldable pub mark_after : List ℕ → List ℕ → ℕ → ℕ
mark_after image marks n = cond (eqb (get_or marks n 0) 0) (cond (is_some (holder image n)) 1 0) (get_or marks n 0)

-- All used blocks are passed: which are listed, and what else is left in `marks` and in `kept`.
pub record AllListed (image marks kept : List ℕ) (used : ℕ) (marks' kept' : List ℕ) (count : ℕ) : Type 0 where
  pub few : count ≤ used
  pub listed : drop (length kept - count) kept' ≡ kept_blocks marks image used
  pub grown : ListGrown 0 count kept kept'
  pub marks_are : (n : ℕ) → get_or marks' n 0 ≡ mark_after image marks n
