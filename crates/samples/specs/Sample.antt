-- A row of the table of samples.
-- Assumes nothing.
use Rattle.std.specs.Prelude.{ℕ, Bool, true, false, List}

-- What a definition gives, and what the bench or an outside program has.
pub record Sample : Type 0 where
  pub defined : List ℕ
  pub bench : List ℕ

abbrev pub sample_of : List ℕ → List ℕ → Sample
sample_of d b = record { defined = d; bench = b }

-- 1 for yes.
abbrev pub bit : Bool → ℕ
bit true = 1
bit false = 0
