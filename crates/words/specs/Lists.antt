-- Plain functions on lists and on optional values.
-- Assumes nothing.
use Rattle.std.specs.Prelude.{ℕ, zero, suc, ◌≡◌, Bool, true, false, cond, ◌||◌, List, [], ◌∷◌, ◌++◌, eqb}
use Rattle.std.specs.Prelude.{Option, None, Some}

module _ {A : Type 0} where
  -- The elements that pass the test, in order. (The library's `filter` takes a decision and no test.) `rest` has a name, since
  -- in a sample antt would else compute it twice at each element.
  abbrev pub keep : (A → Bool) → List A → List A
  keep p [] = []
  keep p (x ∷ xs) = let rest : List A = keep p xs in cond (p x) (x ∷ rest) rest

  -- Some element passes the test.
  abbrev pub any_of : (A → Bool) → List A → Bool
  any_of p [] = false
  any_of p (x ∷ xs) = p x || any_of p xs

  -- The lists one after the other.
  abbrev pub concat : List (List A) → List A
  concat [] = []
  concat (x ∷ xs) = x ++ concat xs

  abbrev pub is_some : Option A → Bool
  is_some None = false
  is_some (Some x) = true

  -- The list of what is there: one element or none.
  abbrev pub to_list : Option A → List A
  to_list None = []
  to_list (Some x) = x ∷ []

-- The number is in the list.
abbrev pub has : ℕ → List ℕ → Bool
has n = any_of (λ m. eqb m n)

-- No number is in the list twice.
abbrev pub Distinct : List ℕ → Type 0
Distinct [] = Unit {0}
Distinct (x ∷ l) = (has x l ≡ false) × Distinct l

-- The n numbers from k upwards.
abbrev pub numbers_from : ℕ → ℕ → List ℕ
numbers_from k zero = []
numbers_from k (suc n) = k ∷ numbers_from (suc k) n
