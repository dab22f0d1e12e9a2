-- What C receives of a copy flag: request 3's "protected or copyable" as 1 or 0, "and the raw byte".
-- Assumes nothing.
use Rattle.std.specs.Prelude.{ℕ, ◌+◌, ◌≡◌, List, ◌↔◌, ◌≢◌, get_or}
use Rattle.card_model.specs.Layout.{entry_place}
use Rattle.card_model.specs.Calls.{list_of}
use Rattle.capi.specs.declared.answers.CardEntryAnswer.{CardEntryAnswer}
use Rattle.capi.specs.Structs.{card_entry_of}

-- The flag is byte 1 of the entry, and 1 stands for FF.
pub record TellsFlag (card : List ℕ) (answer : CardEntryAnswer) : Type 0 where
  pub raw : answer.flag ≡ get_or card (entry_place answer.entry + 1) 0
  pub protected : (answer.copy_protected ≡ 1) ↔ (answer.flag ≡ 0xFF)
  pub copyable : (answer.copy_protected ≡ 0) ↔ (answer.flag ≢ 0xFF)

pub record CopyTheorems : Type 0 where
  pub tells_flag : (card : List ℕ) (start : ℕ) → (card_entry_of (list_of card start)).code ≡ 0 → TellsFlag card (card_entry_of (list_of card start))
  pub tells_nothing : (card : List ℕ) (start : ℕ) → (card_entry_of (list_of card start)).code ≢ 0
      → ((card_entry_of (list_of card start)).flag ≡ 0) × ((card_entry_of (list_of card start)).copy_protected ≡ 0)
