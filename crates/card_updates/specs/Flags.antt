-- No verdict depends on a copy flag: request 3. "Refusal 26 no longer looks at the flag, on reading or in order 1; the listing gives
-- protected or copyable and the raw byte." A protected file is read and deleted like any other.
-- Assumes nothing.
use Rattle.std.specs.Prelude.{ℕ, ◌+◌, ◌%◌, ◌≤◌, ◌<◌, ◌≡◌, List, [], ◌∷◌, ◌↔◌, length}
use Rattle.std.specs.Prelude.{Some}
use Rattle.verdicts.specs.Rows.{done}
use Rattle.card_model.specs.declared.CopyProtection.TheVariants.{Protected}
use Rattle.card_model.specs.Answers.{Listing}
use Rattle.card_model.specs.Layout.{card_length, entry_place, directory_of}
use Rattle.card_model.specs.Entries.{flag}
use Rattle.card_model.specs.Calls.{check_of, list_of, read_verdict, read_buffer}
use Rattle.card_model.specs.Sound.{entry_on}
use Rattle.card_updates.specs.Parts.{with_part, InFlag, OnlyAt}
use Rattle.card_updates.specs.Delete.{delete_verdict, deleted}
use Rattle.card_updates.specs.Write.{given_file, lowest_unused, write_verdict, written}

-- Byte k is the copy flag of a directory entry, used or not.
pub data FlagByte (k : ℕ) : Type 0 where
  flag_of : (i : ℕ) → i < 208 → InFlag i k → FlagByte k

-- The cards are equal but for copy flags, of one entry or of many.
abbrev pub SameButFlags : List ℕ → List ℕ → Type 0
SameButFlags card other = OnlyAt FlagByte card other

-- The listings are equal but for the two values that the flag gives.
pub record ListedAlike (l m : Listing) : Type 0 where
  pub same_verdict : m.verdict ≡ l.verdict
  pub same_entry : m.entry ≡ l.entry
  pub same_kind : m.kind ≡ l.kind
  pub same_first : m.first ≡ l.first
  pub same_size : m.size ≡ l.size
  pub same_offset : m.offset ≡ l.offset
  pub same_name : m.name ≡ l.name
  pub same_time : m.time ≡ l.time

pub record FlagTheorems : Type 0 where
  -- what each call answers and leaves on two cards that are equal but for copy flags
  pub check_same : (card other : List ℕ) → SameButFlags card other → check_of other ≡ check_of card
  pub list_same : (card other : List ℕ) → SameButFlags card other → (start : ℕ) → ListedAlike (list_of card start) (list_of other start)
  pub read_same : (card other : List ℕ) → SameButFlags card other → (name : List ℕ) (index : ℕ) (buffer : List ℕ)
      → (read_verdict other name index buffer ≡ read_verdict card name index buffer)
      × (read_buffer other name index buffer ≡ read_buffer card name index buffer)
  pub delete_same : (card other : List ℕ) → SameButFlags card other → (name : List ℕ)
      → (delete_verdict other name ≡ delete_verdict card name) × SameButFlags (deleted card name) (deleted other name)
  -- here the flag that is given may differ, too
  pub write_same : (card other : List ℕ) → SameButFlags card other → (byte other_byte : ℕ) (name time content : List ℕ) (offset : ℕ)
      → (write_verdict other (given_file other_byte name time content) offset ≡ write_verdict card (given_file byte name time content) offset)
      × SameButFlags (written card (given_file byte name time content) offset) (written other (given_file other_byte name time content) offset)
  -- a write hands its flag on: the listing of the new entry gives it
  pub write_lists : (card : List ℕ) (byte : ℕ) (name time content : List ℕ) (offset i : ℕ)
      → write_verdict card (given_file byte name time content) offset ≡ done → lowest_unused (directory_of card) ≡ Some i
      → ((list_of (written card (given_file byte name time content) offset) i).entry ≡ i)
      × ((list_of (written card (given_file byte name time content) offset) i).flag ≡ byte)
      × (((list_of (written card (given_file byte name time content) offset) i).protection ≡ Protected) ↔ (byte ≡ 0xFF))
  -- the flag bytes: one in 32 of blocks 241 to 253
  pub flag_bytes : (k : ℕ) → FlagByte k ↔ ((123392 ≤ k) × (k < 130048) × (k % 32 ≡ 1))
  -- not vacuous: any entry may get any flag
  pub any_flag : (card : List ℕ) (i byte : ℕ) → length card ≡ card_length → i < 208
      → SameButFlags card (with_part card (entry_place i + 1) (byte ∷ []))
      × (flag (entry_on (with_part card (entry_place i + 1) (byte ∷ [])) i) ≡ byte)
