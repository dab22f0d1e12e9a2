-- What check and list answer, with all that they give in one record: document 01, "A sound check also gives the number of strays",
-- and "Listing .. gives the first used one".
-- Assumes nothing.
use Rattle.std.specs.Prelude.{ℕ, List}
use Rattle.verdicts.specs.Rows.{Verdict}
use Rattle.card_model.specs.declared.CopyProtection.{CopyProtection}

-- The answer of a check. Orphans are document 01's strays; 0 where the card is refused.
pub record Checked : Type 0 where
  pub verdict : Verdict
  pub orphans : ℕ

-- The answer of a listing: a used entry's number and fields, the flag as it stands and what it says; zeros, and copyable, where it is
-- refused.
pub record Listing : Type 0 where
  pub verdict : Verdict
  pub entry : ℕ
  pub kind : ℕ
  pub flag : ℕ
  pub protection : CopyProtection
  pub first : ℕ
  pub size : ℕ
  pub offset : ℕ
  pub name : List ℕ
  pub time : List ℕ
