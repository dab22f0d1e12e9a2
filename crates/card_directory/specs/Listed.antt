-- The list of the used entries of a directory.
-- Assumes nothing.
use Rattle.std.specs.Prelude.{ℕ, zero, suc, ◌≤◌, ◌<◌, ◌≡◌, Bool, true, false, List, length, get_or}
use Rattle.card_model.specs.Entries.{is_used, entry_at}

-- i is the first used entry from `start` on, and before `end`.
pub record NextUsed (directory : List (List ℕ)) (start end i : ℕ) : Type 0 where
  pub from_start : start ≤ i
  pub before_end : i < end
  pub is_used_lem : is_used (entry_at directory i) ≡ true
  pub skipped : (k : ℕ) → start ≤ k → k < i → is_used (entry_at directory k) ≡ false

-- Where a walk along the list goes on behind its first j numbers.
abbrev pub reached : List ℕ → ℕ → ℕ
reached used zero = 0
reached used (suc j) = suc (get_or used j 0)

-- The first `count` numbers are those of the used entries before `end`, all of them, in order: each is the next used entry, and
-- after the last there is none.
pub record Listed (directory : List (List ℕ)) (end : ℕ) (used : List ℕ) (count : ℕ) : Type 0 where
  pub long : count ≤ length used
  pub fits : count ≤ end
  pub each : (j : ℕ) → j < count → NextUsed directory (reached used j) end (get_or used j 0)
  pub rest : (k : ℕ) → reached used count ≤ k → k < end → is_used (entry_at directory k) ≡ false

-- A test whose answers these are answers as p at each number of the list.
abbrev pub TestsListed : (ℕ → Bool → Type 0) → (ℕ → Bool) → List ℕ → Type 0
TestsListed answers p used = (j : ℕ) → j < length used → (r : Bool) → answers (get_or used j 0) r → r ≡ p (get_or used j 0)
