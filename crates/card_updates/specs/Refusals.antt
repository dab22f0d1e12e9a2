-- Why a call on a card is refused, in plain facts: "given exactly when". The verdict of a call is the card's own or, on a sound card, the
-- first thing that is wrong with the call, in the order in which its request names the tests.
-- Assumes nothing.
use Rattle.std.specs.Prelude.{ℕ, suc, ◌*◌, ◌≤◌, ◌<◌, ◌≡◌, cond, List, [], ◌∷◌, ◌↔◌, ◌≢◌, eqb, length}
use Rattle.words.specs.Lists.{keep, numbers_from}
use Rattle.verdicts.specs.declared.Place.{Place}
use Rattle.verdicts.specs.declared.Place.TheVariants.{Whole, Entry}
use Rattle.verdicts.specs.Rows.{Verdict}
use Rattle.verdicts.specs.Rows.{place_number, done}
use Rattle.card_model.specs.Layout.{table_of}
use Rattle.card_model.specs.Table.{fat_entry}
use Rattle.card_model.specs.Entries.{name_of}
use Rattle.card_model.specs.Sound.{SoundCard, entry_on, UsedEntry}
use Rattle.card_model.specs.Theorems.{Refused}
use Rattle.card_updates.specs.Write.{NewFile, blocks_of}

-- ---- the first thing that is wrong

-- How many tests come before that of this number.
abbrev pub rank : List ℕ → ℕ → ℕ
rank [] n = 0
rank (m ∷ order) n = cond (eqb m n) 0 (suc (rank order n))

-- The verdict is the first thing that is wrong, the tests being in this order.
pub record FirstWrong (order : List ℕ) (fault : ℕ → Place → Type 0) (v : Verdict) : Type 0 where
  pub applies : fault v.number v.place
  pub first_row : (n : ℕ) (p : Place) → fault n p → rank order v.number ≤ rank order n
  pub lowest_place : (p : Place) → fault v.number p → place_number v.place ≤ place_number p

-- "First check the card, then ..": the card's own refusal, or on a sound card that of the call.
pub data RefusedCall (card order : List ℕ) (fault : ℕ → Place → Type 0) (v : Verdict) : Type 0 where
  by_card : Refused card v → RefusedCall card order fault v
  by_call : SoundCard card → FirstWrong order fault v → RefusedCall card order fault v

-- The verdict is `done` exactly on a sound card with nothing wrong, and else exactly such a refusal.
pub record ExactlyOn (card order : List ℕ) (fault : ℕ → Place → Type 0) (verdict : Verdict) : Type 0 where
  pub done_when : (verdict ≡ done) ↔ (SoundCard card × ((n : ℕ) (p : Place) → fault n p → ⊥))
  pub refused_when : (v : Verdict) → ((verdict ≡ v) × (v.number ≢ 0)) ↔ RefusedCall card order fault v

-- ---- what is wrong with a file to be written

-- How many user entries are FFFC.
abbrev pub free_entries : List ℕ → ℕ
free_entries card = length (keep (λ b. eqb (fat_entry (table_of card) b) 0xFFFC) (numbers_from 0 200))

-- 33: "a bad length (name 12, time 8, the data)", the data being none or not whole blocks.
pub data WrongLengths (f : NewFile) : Type 0 where
  wrong_name : length f.name ≢ 12 → WrongLengths f
  wrong_time : length f.time ≢ 8 → WrongLengths f
  wrong_content : ((n : ℕ) → 1 ≤ n → length f.content ≢ 512 * n) → WrongLengths f

-- What is wrong with any new file.
pub data WrongFile (card : List ℕ) (f : NewFile) : ℕ → Place → Type 0 where
  -- "29 names the entry that has the name"
  name_29 : {i : ℕ} → UsedEntry card i → name_of (entry_on card i) ≡ f.name → WrongFile card f 29 (Entry i)
  -- "34 exactly when fewer user entries are FFFC than the size"
  room_34 : free_entries card < blocks_of f → WrongFile card f 34 Whole

-- ---- the calls

-- "Delete tests the card, 33, 31."
abbrev pub delete_order : List ℕ
delete_order = 33 ∷ 31 ∷ []

pub data WrongDelete (card name : List ℕ) : ℕ → Place → Type 0 where
  length_33 : length name ≢ 12 → WrongDelete card name 33 Whole
  nothing_31 : ((i : ℕ) → UsedEntry card i → name_of (entry_on card i) ≢ name) → WrongDelete card name 31 Whole

-- "33 for a bad length .., 26 for a bad flag or offset, 29 for a name in use, 34"; request 3 drops the flag
abbrev pub write_order : List ℕ
write_order = 33 ∷ 26 ∷ 29 ∷ 34 ∷ []

pub data WrongWrite (card : List ℕ) (f : NewFile) (offset : ℕ) : ℕ → Place → Type 0 where
  lengths_33 : WrongLengths f → WrongWrite card f offset 33 Whole
  -- "1 to 200 blocks"
  blocks_33 : 200 < blocks_of f → WrongWrite card f offset 33 Whole
  offset_26 : blocks_of f ≤ offset → WrongWrite card f offset 26 Whole
  in_file : {n : ℕ} {p : Place} → WrongFile card f n p → WrongWrite card f offset n p
