-- Rows of the table of numbers: document 01, "Numbers the bench will see".
-- Assumes nothing.
use Rattle.std.specs.Prelude.{ℕ, Bool, cond, eqb}
use Rattle.std.specs.Prelude.{Option, None, Some}
use Rattle.verdicts.specs.declared.Place.{Place}
use Rattle.verdicts.specs.declared.Place.TheVariants.{Whole, Block, Entry}
use Rattle.verdicts.specs.declared.Rule.{Rule}
use Rattle.verdicts.specs.declared.Rule.TheVariants.{CardLength, RootMagic, RootFields, SystemEntry, HiddenEntry, UserEntry, DirectoryEntry, Chain, SharedBlock, SameName, Game, NoFile, BlockIndex, Lengths, NoRoom}
use Rattle.verdicts.specs.declared.CardError.{CardError}
use Rattle.std.specs.declared.result.Result.{Result}
use Rattle.std.specs.declared.result.Result.TheVariants.{Ok, Err}

-- A number of the table and its place; 0 and the whole card where the call is done.
pub record Verdict : Type 0 where
  pub number : ℕ
  pub place : Place

-- The number of the block or of the entry; 0 for the whole card.
abbrev pub place_number : Place → ℕ
place_number Whole = 0
place_number (Block b) = b
place_number (Entry i) = i

-- 0: "done"
abbrev pub done : Verdict
done = record { number = 0; place = Whole }

abbrev pub refused_at : ℕ → Place → Verdict
refused_at n p = record { number = n; place = p }

abbrev pub accepted : Verdict → Bool
accepted v = eqb v.number 0

-- A row that is tested once: the number at this place exactly when the test holds.
abbrev pub row_at : ℕ → Place → Bool → Verdict
row_at n p test = cond test (refused_at n p) done

-- A row that is tested of blocks or entries: the number at the first of them that was found wrong.
abbrev pub row_over : ℕ → (ℕ → Place) → Option ℕ → Verdict
row_over n p None = done
row_over n p (Some i) = refused_at n (p i)

-- Rows in their order, "each over the whole card before the next": the later ones decide where this one does not refuse.
abbrev pub unless_refused : Verdict → Verdict → Verdict
unless_refused v later = cond (accepted v) later v

-- ---- what the calls answer

-- The number of each row: "Numbers the bench will see", and 34 of document 02's order 1.
abbrev pub rule_number : Rule → ℕ
rule_number CardLength = 20
rule_number RootMagic = 21
rule_number RootFields = 22
rule_number SystemEntry = 23
rule_number HiddenEntry = 24
rule_number UserEntry = 25
rule_number DirectoryEntry = 26
rule_number Chain = 27
rule_number SharedBlock = 28
rule_number SameName = 29
rule_number Game = 30
rule_number NoFile = 31
rule_number BlockIndex = 32
rule_number Lengths = 33
rule_number NoRoom = 34

abbrev pub error_verdict : CardError → Verdict
error_verdict e = refused_at (rule_number e.rule) e.place

-- Done, whatever value comes with it, or the refusal.
abbrev pub result_verdict : {A : Type 0} → Result A CardError → Verdict
result_verdict (Ok x) = done
result_verdict (Err e) = error_verdict e
