-- The slots of the listed names: a shortcut of the search for an earlier name, and no part of what it means.
-- Assumes nothing.
use Rattle.std.specs.Prelude.{ℕ, zero, suc, ◌*◌, ◌/◌, ◌%◌, ◌≤◌, ◌<◌, ◌≡◌, List, Option, None, Some, bit_xor, length, get_or, take, drop}
use Rattle.std.specs.Int.{w32, from_le_bytes, rotate_left}
use Rattle.card_model.specs.Entries.{name_of, entry_at}

-- Four bytes as a number.
abbrev pub quad : List ℕ → ℕ → ℕ
quad name i = from_le_bytes w32 (take 4 (drop i name))

-- Three parts in one.
abbrev pub mixed : ℕ → ℕ → ℕ → ℕ
mixed a b c = bit_xor (bit_xor a (rotate_left w32 b 9)) (rotate_left w32 c 19)

-- Any function of the name would do, since names of the same slot are compared.
unfoldable pub slot_of : List ℕ → ℕ
slot_of name = 747796405 * mixed (quad name 0) (quad name 4) (quad name 8) / 16777216 % 2048

-- The name of number j of the list, and its slot.
abbrev pub name_at : List (List ℕ) → List ℕ → ℕ → List ℕ
name_at directory used j = name_of (entry_at directory (get_or used j 0))

abbrev pub slot_at : List (List ℕ) → List ℕ → ℕ → ℕ
slot_at directory used j = slot_of (name_at directory used j)

-- How many numbers there are up to this one; none where there is none.
abbrev pub up_to : Option ℕ → ℕ
up_to None = 0
up_to (Some k) = suc k

-- The number that a byte of the tables stands for: the one before it, and none at 0.
abbrev pub before : ℕ → Option ℕ
before zero = None
before (suc k) = Some k

-- The last of the first n numbers for which f gives x, if there is one.
pub record LastOf {A : Type 0} (f : ℕ → A) (x : A) (n : ℕ) (last : Option ℕ) : Type 0 where
  pub within : up_to last ≤ n
  pub own : (j : ℕ) → last ≡ Some j → f j ≡ x
  pub others : (j : ℕ) → up_to last ≤ j → j < n → f j ≡ x → ⊥

-- Each of the first n names leads to the last one before it of the same slot.
pub record Chained (directory : List (List ℕ)) (used next : List ℕ) (n : ℕ) : Type 0 where
  pub back : (j : ℕ) → j < n → LastOf (slot_at directory used) (slot_at directory used j) j (before (get_or next j 0))

-- And each slot to its last one.
pub record Slots (directory : List (List ℕ)) (used slots next : List ℕ) (n : ℕ) : Type 0 where
  pub slots_many : length slots ≡ 2048
  pub next_many : length next ≡ 208
  pub chains : Chained directory used next n
  pub newest : (s : ℕ) → s < 2048 → LastOf (slot_at directory used) s n (before (get_or slots s 0))
