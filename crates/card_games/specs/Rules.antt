-- What row 30 needs.
-- Assumes nothing.
use Rattle.std.specs.Prelude.{ℕ, ◌<◌, ◌≡◌, Bool, false, List, eqb}
use Rattle.card_model.specs.declared.Link.{Link}
use Rattle.card_model.specs.declared.Link.TheVariants.{Free, Damaged, Last, Next, Bad}
use Rattle.card_model.specs.Entries.{wrong_entry, entry_at}
use Rattle.card_model.specs.Files.{bad_chain}

-- Refusals 26 and 27 don't apply: the blocks of a game are followed only where chains are good.
pub record GoodChains (table : List ℕ) (directory : List (List ℕ)) : Type 0 where
  pub fields : (i : ℕ) → i < 208 → wrong_entry (entry_at directory i) ≡ false
  pub chains : (i : ℕ) → i < 208 → bad_chain table (entry_at directory i) ≡ false

-- A link leads to block n.
abbrev pub leads_to : Link → ℕ → Bool
leads_to (Next next) n = eqb next n
leads_to Last n = false
leads_to Free n = false
leads_to Damaged n = false
leads_to Bad n = false
