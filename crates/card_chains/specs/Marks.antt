-- Marks of user blocks, and what a walk along a chain finds in them.
-- Assumes nothing.
use Rattle.std.specs.Prelude.{ℕ, ◌≤◌, ◌≡◌, Bool, true, false, not, cond, ◌||◌, List, eqb, length, get_or, replicate}
use Rattle.std.specs.Prelude.{Option, None, Some}
use Rattle.words.specs.Lists.{any_of, has, is_some}
use Rattle.card_model.specs.Files.{chain}
use Rattle.card_chains.specs.declared.walking.Finding.{Finding}
use Rattle.card_chains.specs.declared.walking.Finding.TheVariants.{Apart, Shared, Broken}

-- One number for each user block: 0 where it isn't marked, and else how many blocks of its chain are left there, itself included.
unfoldable pub no_marks : List ℕ
no_marks = replicate 200 0

unfoldable pub is_marked : List ℕ → ℕ → Bool
is_marked marks b = not (eqb (get_or marks b 0) 0)

-- Each mark is the length of the chain from its block.
pub record Lengths (table marks : List ℕ) : Type 0 where
  pub long : length marks ≡ 200
  pub each : (b : ℕ) → is_marked marks b ≡ true → is_some (chain table (get_or marks b 0) b) ≡ true

-- The marked blocks are these.
pub record Marking (blocks marks : List ℕ) : Type 0 where
  pub exactly : (b : ℕ) → is_marked marks b ≡ has b blocks

-- The marks after walks along good chains that share no block.
pub record MarkedFiles (table blocks marks : List ℕ) : Type 0 where
  pub are_lengths : Lengths table marks
  pub are_of_blocks : Marking blocks marks

-- ---- walks

-- What a walk finds in a chain that is there: that one of its blocks was marked before, or none.
abbrev pub outcome : Bool → Finding
outcome shared = cond shared Shared Apart

-- What the marks are where a walk has come to block b with `left` blocks left. Those above `left` may be of this walk: they are
-- lengths of chains if the rest of the walk is one.
pub record Walkable (table marks : List ℕ) (left b : ℕ) : Type 0 where
  pub many : length marks ≡ 200
  pub up_to_left : (x : ℕ) → is_marked marks x ≡ true → get_or marks x 0 ≤ left → is_some (chain table (get_or marks x 0) x) ≡ true
  pub all_if_good : is_some (chain table left b) ≡ true → Lengths table marks

-- What a walk answers for a chain, or for none.
abbrev pub answer : Option (List ℕ) → List ℕ → Finding
answer None marks = Broken
answer (Some blocks) marks = outcome (any_of (is_marked marks) blocks)

-- A walk's answer, and the marks that it leaves where the chain is there: where no block of it was marked before, those of its
-- blocks too.
pub record Walked (table : List ℕ) (blocks : Option (List ℕ)) (marks : List ℕ) (found : Finding) (marks' : List ℕ) : Type 0 where
  pub answers : found ≡ answer blocks marks
  pub are_lengths : is_some blocks ≡ true → Lengths table marks'
  pub marked : (bs : List ℕ) → blocks ≡ Some bs → any_of (is_marked marks) bs ≡ false → (b : ℕ) → is_marked marks' b ≡ (has b bs || is_marked marks b)
