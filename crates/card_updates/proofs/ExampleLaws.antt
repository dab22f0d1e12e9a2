-- The example cards: table and directory of each are known-card, and the rest is computed on them. Assumes nothing.
use Prim.Native.Nat.{ℕ, ◌*◌, ◌/◌, ◌≤◌, ◌<◌}
use mathlib.Core.Path.{◌≡◌, refl, sym, ap, subst, ◌∙◌}
use mathlib.Core.Bool.{true, false}
use mathlib.Core.List.{List, [], ◌∷◌}
use Rattle.std.specs.Prelude.{Some}
use mathlib.Core.Logic.{◌⊎◌, inl, inr}
use native.Mathlib.Omega.{arith}
use lib.Dec.{eqb}
use borrow.Author.Tests.{eqb-true}
use Rattle.words.specs.Lists.{has}
use lib.ListN.{replicate, take, length-replicate}
use Rattle.words.specs.Words.{word, word_bytes}
use Rattle.words.proofs.Bools.{or-true-first}
use Rattle.verdicts.specs.declared.Place.TheVariants.{Whole, Entry}
use Rattle.verdicts.specs.Rows.{done, refused_at}
use Rattle.card_model.specs.Layout.{fat_place, table_of, entry_block, entry_byte, entry_place, directory_of}
use Rattle.card_model.specs.Table.{magic_row, right_fields, fields_row, fat_entry, link_of, link_at, system_entry, wrong_system, wrong_hidden, wrong_user, system_row, hidden_row, user_row}
use Rattle.card_model.specs.Entries.{kind, first_block, name_of, size, header_offset, is_used, is_data, is_game, entry_at}
use Rattle.card_model.specs.Entries.{wrong_kind, wrong_first, wrong_size, wrong_offset, wrong_entry, entry_row, is_named, name_taken, name_row}
use Rattle.card_model.specs.Files.{chain_step, chain, chain_of, bad_chain, chain_row, file_of, files_before, shares_block, sharing_row, breaks_game_rule, game_row, is_orphan, orphans}
use Rattle.card_model.specs.Calls.{table_rows, directory_rows, entry_named}
use Rattle.card_model.specs.Examples.{root_block, system_table, unused_entry, entry_bytes, empty_card, card_of}
use Rattle.card_model.specs.Sound.{SoundCard, file_on}
use Rattle.card_model.proofs.WitnessLaws.{table, directory, Computed, table_is, directory-is, sound}
use Rattle.card_updates.specs.Parts.{InLink, InEntry}
use Rattle.card_updates.specs.Delete.{delete_rows, delete_verdict}
use Rattle.card_updates.specs.Write.{NewFile, given_file, blocks_of, numbers_down, free_blocks, lowest_unused, bad_lengths, data_rows, taken_row, room_row, write_rows, write_verdict, taken_blocks}
use Rattle.card_updates.specs.Theorems.{orphans_on, ScatteredRefusals, PlaceOfWrite, write_block, write_link, write_entry, PlaceOfDelete, delete_link, delete_entry}
use Rattle.card_updates.specs.Examples.{scattered_entries, scattered_users, scattered_card, open_entries, open_users, open_card, file_of_size}

-- ---- on a card whose table and directory are known-card

record KnownCard (card table : List ℕ) (directory : List (List ℕ)) : Type 0 where
  sound_card : SoundCard card
  is_table : table_of card ≡ table
  is_directory : directory_of card ≡ directory

known-card : (entries : List (List ℕ)) (users : List ℕ) → Computed entries users → KnownCard (card_of entries users) (table users) (directory entries)
known-card entries users c = record {
  sound_card = sound entries users c;
  is_table = table_is entries users c;
  is_directory = directory-is entries users c;
}

module _ {card table : List ℕ} {directory : List (List ℕ)} (k : KnownCard card table directory) where
  write-on : (f : NewFile) (offset : ℕ) → write_verdict card f offset ≡ write_rows table directory f offset
  unfolding write_verdict
  write-on f offset = rw (k.sound_card, k.is_table, k.is_directory)

  delete-on : (name : List ℕ) → delete_verdict card name ≡ delete_rows directory name
  unfolding delete_verdict
  delete-on name = rw (k.sound_card, k.is_directory)

  taken-on : (f : NewFile) (n : ℕ) → blocks_of f ≡ n → taken_blocks card f ≡ take n (free_blocks table)
  unfolding taken_blocks
  taken-on f n e = ap (λ (m : ℕ). take m (free_blocks (table_of card))) e ∙ ap (λ (l : List ℕ). take n (free_blocks l)) k.is_table

  unused-on : lowest_unused (directory_of card) ≡ lowest_unused directory
  unused-on = ap lowest_unused k.is_directory

size_of : (letter n : ℕ) → blocks_of (file_of_size letter n) ≡ n
unfolding file_of_size
size_of letter n = ap (λ (l : ℕ). l / 512) (length-replicate {A = ℕ} (512 * n) 0x11) ∙ omega arith

-- ---- the empty card

no_entries : List (List ℕ)
no_entries = replicate 16 unused_entry

no_users : List ℕ
no_users = replicate 200 0xFFFC

empty-computed : Computed no_entries no_users
unfolding table directory no_entries no_users entry_bytes unused_entry system_table root_block word word_bytes table_rows magic_row
    right_fields fields_row fat_entry link_of link_at system_entry wrong_system wrong_hidden wrong_user system_row hidden_row user_row directory_rows kind
    first_block name_of size header_offset is_used is_data is_game entry_at wrong_kind wrong_first wrong_size wrong_offset wrong_entry entry_row
    is_named name_taken name_row chain_step chain chain_of bad_chain chain_row file_of files_before shares_block sharing_row breaks_game_rule game_row
empty-computed = record { sizes = refl; whole = refl; table_rows_lem = refl; directory_rows_lem = refl }

empty-known : KnownCard empty_card (table no_users) (directory no_entries)
unfolding empty_card no_entries no_users
empty-known = known-card no_entries no_users empty-computed

empty-are :
    (write_rows (table no_users) (directory no_entries) (file_of_size 0x43 200) 199 ≡ done)
    × (take 200 (free_blocks (table no_users)) ≡ numbers_down 200)
    × (lowest_unused (directory no_entries) ≡ Some 0)
unfolding table directory no_entries no_users entry_bytes unused_entry system_table word word_bytes fat_entry link_of link_at kind name_of is_used
    entry_at is_named entry_named free_blocks lowest_unused bad_lengths data_rows taken_row room_row write_rows delete_rows file_of_size
empty-are = (refl, refl, refl)

pub empty_writes : write_verdict empty_card (file_of_size 0x43 200) 199 ≡ done
empty_writes = write-on empty-known (file_of_size 0x43 200) 199 ∙ empty-are.0

pub empty_taken : taken_blocks empty_card (file_of_size 0x43 200) ≡ numbers_down 200
empty_taken = taken-on empty-known (file_of_size 0x43 200) 200 (size_of 0x43 200) ∙ empty-are.1

pub empty_entry : lowest_unused (directory_of empty_card) ≡ Some 0
empty_entry = unused-on empty-known ∙ empty-are.2

-- ---- the card with an orphan and a damaged block among the free ones

abbrev t : List ℕ
t = table scattered_users

abbrev d : List (List ℕ)
d = directory scattered_entries

scattered-computed : Computed scattered_entries scattered_users
unfolding table directory scattered_entries scattered_users entry_bytes unused_entry system_table root_block word word_bytes table_rows magic_row
    right_fields fields_row fat_entry link_of link_at system_entry wrong_system wrong_hidden wrong_user system_row hidden_row user_row directory_rows kind
    first_block name_of size header_offset is_used is_data is_game entry_at wrong_kind wrong_first wrong_size wrong_offset wrong_entry entry_row
    is_named name_taken name_row chain_step chain chain_of bad_chain chain_row file_of files_before shares_block sharing_row breaks_game_rule game_row
scattered-computed = record { sizes = refl; whole = refl; table_rows_lem = refl; directory_rows_lem = refl }

scattered-known : KnownCard scattered_card t d
unfolding scattered_card
scattered-known = known-card scattered_entries scattered_users scattered-computed

scattered-are :
    (write_rows t d (file_of_size 0x43 4) 3 ≡ done)
    × (take 4 (free_blocks t) ≡ 198 ∷ 195 ∷ 193 ∷ 192 ∷ [])
    × (lowest_unused d ≡ Some 2)
    × (write_rows t d (file_of_size 0x43 195) 0 ≡ done)
    × (delete_rows d (replicate 12 0x41) ≡ done)
    × (write_rows t d (file_of_size 0x43 196) 0 ≡ refused_at 34 Whole)
    × (write_rows t d (file_of_size 0x42 2) 0 ≡ refused_at 29 (Entry 1))
    × (write_rows t d (file_of_size 0x42 196) 0 ≡ refused_at 29 (Entry 1))
    × (write_rows t d (file_of_size 0x42 2) 2 ≡ refused_at 26 Whole)
    × (write_rows t d (file_of_size 0x42 201) 201 ≡ refused_at 33 Whole)
    × (write_rows t d (given_file 0x00 (replicate 11 0x43) (replicate 8 0x20) (replicate 512 0x11)) 0 ≡ refused_at 33 Whole)
    × (write_rows t d (given_file 0x00 (replicate 12 0x43) (replicate 7 0x20) (replicate 512 0x11)) 0 ≡ refused_at 33 Whole)
    × (write_rows t d (given_file 0x00 (replicate 12 0x43) (replicate 8 0x20) (replicate 513 0x11)) 0 ≡ refused_at 33 Whole)
    × (write_rows t d (file_of_size 0x42 0) 0 ≡ refused_at 33 Whole)
    × (delete_rows d (replicate 12 0x43) ≡ refused_at 31 Whole)
    × (delete_rows d (replicate 11 0x41) ≡ refused_at 33 Whole)
unfolding table directory scattered_entries scattered_users entry_bytes unused_entry system_table word word_bytes fat_entry link_of link_at kind name_of is_used
    entry_at is_named entry_named free_blocks lowest_unused bad_lengths data_rows taken_row room_row write_rows delete_rows file_of_size
scattered-are = (refl, refl, refl, refl, refl, refl, refl, refl, refl, refl, refl, refl, refl, refl, refl, refl)

pub scattered_sound : SoundCard scattered_card
scattered_sound = scattered-known.sound_card

scattered-count : orphans t d ≡ 1
unfolding table directory scattered_entries scattered_users entry_bytes unused_entry system_table word word_bytes fat_entry link_of link_at kind first_block size is_used
    entry_at chain_step chain chain_of file_of files_before is_orphan orphans
scattered-count = refl

pub scattered_orphans : orphans_on scattered_card ≡ 1
scattered_orphans = rw (scattered-known.is_table, scattered-known.is_directory) scattered-count

pub scattered_writes : write_verdict scattered_card (file_of_size 0x43 4) 3 ≡ done
scattered_writes = write-on scattered-known (file_of_size 0x43 4) 3 ∙ scattered-are.0

pub scattered_taken : taken_blocks scattered_card (file_of_size 0x43 4) ≡ 198 ∷ 195 ∷ 193 ∷ 192 ∷ []
scattered_taken = taken-on scattered-known (file_of_size 0x43 4) 4 (size_of 0x43 4) ∙ scattered-are.1

pub scattered_entry : lowest_unused (directory_of scattered_card) ≡ Some 2
scattered_entry = unused-on scattered-known ∙ scattered-are.2

pub scattered_fits : write_verdict scattered_card (file_of_size 0x43 195) 0 ≡ done
scattered_fits = write-on scattered-known (file_of_size 0x43 195) 0 ∙ scattered-are.3

pub scattered_deletes : delete_verdict scattered_card (replicate 12 0x41) ≡ done
scattered_deletes = delete-on scattered-known (replicate 12 0x41) ∙ scattered-are.4

pub scattered_refused : ScatteredRefusals
scattered_refused = record {
  one_block_more = write-on scattered-known (file_of_size 0x43 196) 0 ∙ scattered-are.5;
  taken_name = write-on scattered-known (file_of_size 0x42 2) 0 ∙ scattered-are.6;
  taken_name_before_room = write-on scattered-known _ 0 ∙ scattered-are.7;
  offset_before_taken_name = write-on scattered-known _ 2 ∙ scattered-are.8;
  length_before_offset = write-on scattered-known _ 201 ∙ scattered-are.9;
  short_name = write-on scattered-known _ 0 ∙ scattered-are.10;
  short_time = write-on scattered-known _ 0 ∙ scattered-are.11;
  part_of_block = write-on scattered-known _ 0 ∙ scattered-are.12;
  no_block = write-on scattered-known _ 0 ∙ scattered-are.13;
  absent_name = delete-on scattered-known (replicate 12 0x43) ∙ scattered-are.14;
  short_name_to_delete = delete-on scattered-known (replicate 11 0x41) ∙ scattered-are.15;
}

-- ---- the card whose entry 0 is unused and whose block 199 is free

open-computed : Computed open_entries open_users
unfolding table directory open_entries open_users entry_bytes unused_entry system_table root_block word word_bytes table_rows magic_row
    right_fields fields_row fat_entry link_of link_at system_entry wrong_system wrong_hidden wrong_user system_row hidden_row user_row directory_rows kind
    first_block name_of size header_offset is_used is_data is_game entry_at wrong_kind wrong_first wrong_size wrong_offset wrong_entry entry_row
    is_named name_taken name_row chain_step chain chain_of bad_chain chain_row file_of files_before shares_block sharing_row breaks_game_rule game_row
open-computed = record { sizes = refl; whole = refl; table_rows_lem = refl; directory_rows_lem = refl }

open-known : KnownCard open_card (table open_users) (directory open_entries)
unfolding open_card
open-known = known-card open_entries open_users open-computed

open-are :
    (write_rows (table open_users) (directory open_entries) (file_of_size 0x43 2) 0 ≡ done)
    × (take 2 (free_blocks (table open_users)) ≡ 199 ∷ 197 ∷ [])
    × (lowest_unused (directory open_entries) ≡ Some 0)
unfolding table directory open_entries open_users entry_bytes unused_entry system_table word word_bytes fat_entry link_of link_at kind name_of is_used
    entry_at is_named entry_named free_blocks lowest_unused bad_lengths data_rows taken_row room_row write_rows delete_rows file_of_size
open-are = (refl, refl, refl)

pub open_sound : SoundCard open_card
open_sound = open-known.sound_card

pub open_writes : write_verdict open_card (file_of_size 0x43 2) 0 ≡ done
open_writes = write-on open-known (file_of_size 0x43 2) 0 ∙ open-are.0

pub open_taken : taken_blocks open_card (file_of_size 0x43 2) ≡ 199 ∷ 197 ∷ []
open_taken = taken-on open-known (file_of_size 0x43 2) 2 (size_of 0x43 2) ∙ open-are.1

pub open_entry : lowest_unused (directory_of open_card) ≡ Some 0
open_entry = unused-on open-known ∙ open-are.2

-- ---- named bytes

link-bytes : (k : ℕ) → InLink 198 k → (130444 ≤ k) × (k < 130446)
unfolding fat_place
link-bytes k h = (omega (arith, h.0), omega (arith, h.1))

entry-bytes : (k : ℕ) → InEntry 2 k → (129600 ≤ k) × (k < 129632)
unfolding entry_place entry_block entry_byte
entry-bytes k h = (omega (arith, h.0), omega (arith, h.1))

is-198 : (b : ℕ) → has b (198 ∷ []) ≡ true → 198 ≡ b
is-198 b e = eqb-true 198 b (or-true-first (eqb 198 b) false refl e)

pub write_bytes : (k : ℕ) → PlaceOfWrite (198 ∷ []) 2 k
    → ((101376 ≤ k) × (k < 101888)) ⊎ (((130444 ≤ k) × (k < 130446)) ⊎ ((129600 ≤ k) × (k < 129632)))
write_bytes k (write_block b e h) = inl (omega (arith, is-198 b e, h.0), omega (arith, is-198 b e, h.1))
write_bytes k (write_link b e h) = inr (inl (link-bytes k (subst (λ (c : ℕ). InLink c k) (sym (is-198 b e)) h)))
write_bytes k (write_entry h) = inr (inr (entry-bytes k h))

pub delete_bytes : (card : List ℕ) (k : ℕ) → file_on card 2 ≡ 198 ∷ [] → PlaceOfDelete card 2 k
    → ((130444 ≤ k) × (k < 130446)) ⊎ ((129600 ≤ k) × (k < 129632))
delete_bytes card k f (delete_link b e h) = inl (link-bytes k (subst (λ (c : ℕ). InLink c k) (sym (is-198 b (ap (has b) (sym f) ∙ e))) h))
delete_bytes card k f (delete_entry h) = inr (entry-bytes k h)
