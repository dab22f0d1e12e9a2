-- What a sound card is, its used entries and their files.
-- Assumes nothing.
use Rattle.std.specs.Prelude.{ℕ, ◌≤◌, ◌<◌, ◌≡◌, true, false, List, map, length, take, replicate}
use Rattle.words.specs.Lists.{concat}
use Rattle.verdicts.specs.Rows.{done}
use Rattle.card_model.specs.Layout.{card_length, block_at, root_of, table_of, directory_of}
use Rattle.card_model.specs.Table.{right_fields, fat_entry, link_at, system_entry, free_or_damaged, is_bad}
use Rattle.card_model.specs.Entries.{is_used, wrong_entry, entry_at, name_taken}
use Rattle.card_model.specs.Files.{bad_chain, file_of, shares_block, breaks_game_rule}
use Rattle.card_model.specs.Calls.{verdict_of}

-- A card that passes the check.
abbrev pub SoundCard : List ℕ → Type 0
SoundCard card = verdict_of card ≡ done

-- ---- a card, its entry i and that entry's file

abbrev pub entry_on : List ℕ → ℕ → List ℕ
entry_on card i = entry_at (directory_of card) i

abbrev pub file_on : List ℕ → ℕ → List ℕ
file_on card i = file_of (table_of card) (entry_on card i)

-- The bytes of the file: those of its blocks, in order.
unfoldable pub file_bytes : List ℕ → ℕ → List ℕ
file_bytes card i = concat (map (block_at card) (file_on card i))

-- Entry i is in the directory and used.
pub record UsedEntry (card : List ℕ) (i : ℕ) : Type 0 where
  pub in_directory : i < 208
  pub is_used_lem : is_used (entry_on card i) ≡ true

-- Every fact of rows 20 to 30, as a card that passes the check has them.
pub record NoRowRefuses (card : List ℕ) : Type 0 where
  pub long : length card ≡ card_length
  pub magic : take 16 (root_of card) ≡ replicate 16 0x55
  pub fields : right_fields (root_of card) ≡ true
  pub system : (b : ℕ) → 241 ≤ b → b < 256 → fat_entry (table_of card) b ≡ system_entry b
  pub hidden : (b : ℕ) → 200 ≤ b → b < 241 → free_or_damaged (link_at (table_of card) b) ≡ true
  pub user : (b : ℕ) → b < 200 → is_bad (link_at (table_of card) b) ≡ false
  pub entries : (i : ℕ) → i < 208 → wrong_entry (entry_at (directory_of card) i) ≡ false
  pub chains : (i : ℕ) → i < 208 → bad_chain (table_of card) (entry_at (directory_of card) i) ≡ false
  pub apart : (i : ℕ) → i < 208 → shares_block (table_of card) (directory_of card) i ≡ false
  pub names : (i : ℕ) → i < 208 → name_taken (directory_of card) i ≡ false
  pub games : (i : ℕ) → i < 208 → breaks_game_rule (table_of card) (directory_of card) i ≡ false
