-- The two cards of the examples pass the check. The zeros before their directory stay a list that nothing computes: the
-- length, the root, the table and the directory are read off first, and the check then computes on short lists.
-- Assumes nothing.
use Prim.Native.Nat.{ℕ, zero, suc, ◌+◌, ◌*◌, ◌-◌, ◌/◌, ◌%◌, ◌≤◌, ◌<◌}
use mathlib.Core.Path.{◌≡◌, refl, sym, ap, ◌∙◌}
use mathlib.Core.Bool.{true, false}
use mathlib.Core.List.{List, [], ◌∷◌, ◌++◌, map}
use native.Mathlib.Omega.{arith}
use native.Mathlib.Decide.{dec_lt}
use lib.ListN.{length, get_or, take, drop, replicate, length-append, length-replicate, get_or-replicate, replicate-append-replicate, get_or-append}
use lib.Seq.{take_all, take-append-le, drop-append-add, get_or-append-add}
use borrow.Author.Tests.{eq-eqb}
use Rattle.words.specs.Lists.{concat}
use Rattle.words.specs.Words.{word, word_bytes}
use Rattle.words.proofs.ListLaws.{All, concat-length, take-drop, drop-replicate, take-replicate, map_same}
use Rattle.words.proofs.PartsLaws.{part_at, numbers-read, word-past, words-at, words-length}
use Rattle.verdicts.specs.Rows.{done}
use Rattle.card_model.specs.declared.CopyProtection.TheVariants.{Protected, Copyable}
use Rattle.card_model.specs.Layout.{card_length, block_at, root_of, fat_place, table_of, entry_block, entry_byte, entry_place, directory_of}
use Rattle.card_model.specs.Table.{magic_row, right_fields, fields_row, fat_entry, link_of, link_at, system_entry}
use Rattle.card_model.specs.Table.{wrong_system, wrong_hidden, wrong_user, system_row, hidden_row, user_row}
use Rattle.card_model.specs.Entries.{kind, flag, is_protected, protection_of, first_block, name_of, size, header_offset, is_used, is_data, is_game, entry_at}
use Rattle.card_model.specs.Entries.{wrong_kind, wrong_first, wrong_size, wrong_offset, wrong_entry, entry_row, is_named, name_taken, name_row}
use Rattle.card_model.specs.Files.{chain_step, chain, chain_of, bad_chain, chain_row, file_of, files_before}
use Rattle.card_model.specs.Files.{shares_block, sharing_row, breaks_game_rule, game_row, is_orphan, orphans}
use Rattle.card_model.specs.Calls.{length_row, table_rows, directory_rows, verdict_of}
use Rattle.card_model.specs.Examples.{root_block, system_table, bytes_before, card_of, unused_entry, empty_card, entry_bytes, some_entries, some_users, files_card}
use Rattle.card_model.specs.Sound.{SoundCard, entry_on}

-- ---- the parts of a card of these entries and users

abbrev zeros : List ℕ
zeros = replicate bytes_before 0

unfoldable pub table : List ℕ → List ℕ
table users = users ++ system_table

abbrev fat : List ℕ → List ℕ
fat users = concat (map word_bytes (table users))

-- from the directory's first block on
abbrev ending : List (List ℕ) → List ℕ → List ℕ
ending entries users = concat entries ++ (fat users ++ root_block)

unfoldable pub directory : List (List ℕ) → List (List ℕ)
directory entries = entries ++ replicate 192 unused_entry

before-is : bytes_before ≡ 253 * 512
unfolding bytes_before
before-is = refl

zeros-length : length zeros ≡ 253 * 512
zeros-length = length-replicate {A = ℕ} bytes_before 0 ∙ before-is

-- 32 bytes before the directory's first block
front-entry : (a : ℕ) (l : List ℕ) → a + 32 ≤ bytes_before → take 32 (drop a (zeros ++ l)) ≡ unused_entry
unfolding unused_entry
front-entry a l h =
    let e : a + 32 ≤ length zeros = omega (arith, length-replicate {A = ℕ} bytes_before 0) in
    take-drop a 32 (zeros ++ l) ∙ ap (drop a) (take-append-le (a + 32) zeros l e) ∙ sym (take-drop a 32 zeros)
    ∙ ap (take 32) (drop-replicate a bytes_before 0) ∙ take-replicate 32 (bytes_before - a) 0 (omega arith)

root-length : length root_block ≡ 512
unfolding root_block word_bytes
root-length = refl

widths : (w n : ℕ) (l : List (List ℕ)) → map (λ e. length e) l ≡ replicate n w → (length l ≡ n) × All (λ e. length e ≡ w) l
widths w zero [] e = (refl, tt)
widths w zero (x ∷ l) e = let z : ◌≡◌ {A = ℕ} 0 1 = cc in absurd (omega arith)
widths w (suc n) [] e = let z : ◌≡◌ {A = ℕ} 0 1 = cc in absurd (omega arith)
widths w (suc n) (x ∷ l) e =
    let f : length x ≡ w = cc in
    let g : map (λ e. length e) l ≡ replicate n w = cc in
    let h = widths w n l g in
    (ap suc h.0, (f, h.1))

filled_at : (l : List (List ℕ)) (x : List ℕ) (n i : ℕ) → length l ≤ i → i < length l + n → get_or (l ++ replicate n x) i [] ≡ x
filled_at l x n i h m =
    let e : i ≡ length l + (i - length l) = omega arith in
    ap (λ (j : ℕ). get_or (l ++ replicate n x) j []) e ∙ get_or-append-add l (replicate n x) (i - length l) []
    ∙ get_or-replicate n (i - length l) x [] (omega arith)

-- ---- what is read off the card

-- What computes on the entries and the users alone.
pub record Computed (entries : List (List ℕ)) (users : List ℕ) : Type 0 where
  pub sizes : map (λ e. length e) entries ≡ replicate 16 32
  pub whole : length (table users) ≡ 256
  pub table_rows_lem : table_rows root_block (table users) ≡ done
  pub directory_rows_lem : directory_rows (table users) (directory entries) ≡ done

module _ (entries : List (List ℕ)) (users : List ℕ) (c : Computed entries users) where
  sixteen : length entries ≡ 16
  sixteen = (widths 32 16 entries c.sizes).0

  each : All (λ e. length e ≡ 32) entries
  each = (widths 32 16 entries c.sizes).1

  first-length : length (concat entries) ≡ 512
  first-length = concat-length 32 entries each ∙ omega (arith, sixteen)

  fat-length : length (fat users) ≡ 512
  fat-length = words-length (table users) ∙ omega (arith, c.whole)

  card-length : length (card_of entries users) ≡ card_length
  unfolding card_of card_length table
  card-length = simp length-append (omega (arith, zeros-length, first-length, fat-length, root-length))

  root_is : root_of (card_of entries users) ≡ root_block
  unfolding card_of root_of block_at table
  root_is =
      let e : 255 * 512 ≡ length zeros + (length (concat entries) + (length (fat users) + 0)) = omega (arith, zeros-length, first-length, fat-length) in
      let z : length root_block ≤ 512 = omega (arith, root-length) in
      ap (λ (n : ℕ). take 512 (drop n (card_of entries users))) e
      ∙ rw (drop-append-add zeros (ending entries users), drop-append-add (concat entries) (fat users ++ root_block), drop-append-add (fat users) root_block 0)
      (take_all 512 root_block z)

  word-is : (b : ℕ) → b < 256 → word (card_of entries users) (fat_place b) ≡ get_or (table users) b 0
  unfolding card_of fat_place table
  word-is b h =
      let e : 254 * 512 + 2 * b ≡ length zeros + (length (concat entries) + 2 * b) = omega (arith, zeros-length, first-length) in
      ap (word (card_of entries users)) e ∙ word-past zeros (ending entries users) (length (concat entries) + 2 * b)
      ∙ word-past (concat entries) (fat users ++ root_block) (2 * b) ∙ words-at (table users) root_block b (omega (arith, c.whole))

  pub table_is : table_of (card_of entries users) ≡ table users
  unfolding table_of
  table_is =
      map_same (λ b. word (card_of entries users) (fat_place b)) (λ b. get_or (table users) b 0) 0 256 (λ b lo hi. word-is b (omega arith))
      ∙ numbers-read (table users) 256 0 c.whole

  first_entry : (i : ℕ) → i < 16 → take 32 (drop (entry_place i) (card_of entries users)) ≡ get_or (directory entries) i []
  unfolding card_of table directory entry_place entry_block entry_byte
  first_entry i h =
      let e : (253 - i / 16) * 512 + 32 * (i % 16) ≡ length zeros + i * 32 = omega (arith, zeros-length) in
      let n : i < length entries = omega (arith, sixteen) in
      ap (λ (n : ℕ). take 32 (drop n (card_of entries users))) e ∙ ap (take 32) (drop-append-add zeros (ending entries users) (i * 32))
      ∙ part_at 32 entries (fat users ++ root_block) [] i each n ∙ sym (get_or-append entries (replicate 192 unused_entry) [] i n)

  later-entry : (i : ℕ) → 16 ≤ i → i < 208 → take 32 (drop (entry_place i) (card_of entries users)) ≡ get_or (directory entries) i []
  unfolding card_of table directory entry_place entry_block entry_byte
  later-entry i h m =
      front-entry (entry_place i) (ending entries users) (omega (arith, before-is))
      ∙ sym (filled_at entries unused_entry 192 i (omega (arith, sixteen)) (omega (arith, sixteen)))

  pub directory-is : directory_of (card_of entries users) ≡ directory entries
  unfolding directory_of directory
  directory-is =
      map_same (λ i. take 32 (drop (entry_place i) (card_of entries users))) (λ i. get_or (directory entries) i []) 0 208
      (λ i lo hi. go i (omega arith) (dec_lt i 16))
      ∙ numbers-read (directory entries) 208 [] (length-append entries (replicate 192 unused_entry) ∙ omega (arith, sixteen, length-replicate 192 unused_entry))
    where
      go : (i : ℕ) → i < 208 → Dec (i < 16) → take 32 (drop (entry_place i) (card_of entries users)) ≡ get_or (directory entries) i []
      go i h (yes d) = first_entry i d
      go i h (no d) = later-entry i (omega (arith, d)) h

  pub sound : SoundCard (card_of entries users)
  unfolding verdict_of length_row
  sound = rw (card-length, root_is, table_is, directory-is, eq-eqb card_length card_length refl, c.table_rows_lem) c.directory_rows_lem

-- ---- on short lists the check is computed

no_entries : List (List ℕ)
no_entries = replicate 16 unused_entry

no_users : List ℕ
no_users = replicate 200 0xFFFC

abbrev Kinds : List (List ℕ) → Type 0
Kinds d = (is_data (entry_at d 0) ≡ true) × (is_game (entry_at d 1) ≡ true) × (is_data (entry_at d 3) ≡ true)

abbrev FilesAre : List ℕ → List (List ℕ) → Type 0
FilesAre t d =
    (file_of t (entry_at d 0) ≡ 199 ∷ 198 ∷ []) × (file_of t (entry_at d 1) ≡ 0 ∷ 1 ∷ 2 ∷ []) × (file_of t (entry_at d 3) ≡ 190 ∷ [])

abbrev ProtectionIs : List (List ℕ) → Type 0
ProtectionIs d =
    (protection_of (entry_at d 0) ≡ Copyable) × (protection_of (entry_at d 1) ≡ Copyable) × (protection_of (entry_at d 3) ≡ Protected)

record Both : Type 0 where
  none_there : Computed no_entries no_users
  some_there : Computed some_entries some_users
  one_orphan : orphans (table some_users) (directory some_entries) ≡ 1
  kinds : Kinds (directory some_entries)
  files : FilesAre (table some_users) (directory some_entries)
  protection : ProtectionIs (directory some_entries)

both : Both
unfolding table directory no_entries no_users some_entries some_users entry_bytes unused_entry system_table root_block word word_bytes table_rows magic_row
    right_fields fields_row fat_entry link_of link_at system_entry wrong_system wrong_hidden wrong_user system_row hidden_row user_row directory_rows kind flag is_protected protection_of
    first_block name_of size header_offset is_used is_data is_game entry_at wrong_kind wrong_first wrong_size wrong_offset wrong_entry entry_row
    is_named name_taken name_row chain_step chain chain_of bad_chain chain_row file_of files_before shares_block sharing_row breaks_game_rule game_row is_orphan orphans
both = record {
  none_there = record { sizes = refl; whole = refl; table_rows_lem = refl; directory_rows_lem = refl };
  some_there = record { sizes = refl; whole = refl; table_rows_lem = refl; directory_rows_lem = refl };
  one_orphan = refl;
  kinds = (refl, refl, refl);
  files = (refl, refl, refl);
  protection = (refl, refl, refl);
}

-- ---- the theorems

pub empty_sound : SoundCard empty_card
unfolding empty_card no_entries no_users
empty_sound = sound no_entries no_users both.none_there

pub empty_unused : (i : ℕ) → i < 208 → is_used (entry_on empty_card i) ≡ false
unfolding empty_card no_entries no_users directory entry_at
empty_unused i h =
    let e = directory-is no_entries no_users both.none_there ∙ replicate-append-replicate 16 192 unused_entry in
    ap (λ (d : List (List ℕ)). is_used (get_or d i [])) e ∙ ap is_used (get_or-replicate 208 i unused_entry [] h) ∙ (unfold is_used kind unused_entry in refl)

pub files_sound : SoundCard files_card
unfolding files_card
files_sound = sound some_entries some_users both.some_there

files-table : table_of files_card ≡ table some_users
unfolding files_card
files-table = table_is some_entries some_users both.some_there

files-directory : directory_of files_card ≡ directory some_entries
unfolding files_card
files-directory = directory-is some_entries some_users both.some_there

pub files_kinds : Kinds (directory_of files_card)
files_kinds = rw files-directory both.kinds

pub files_are : FilesAre (table_of files_card) (directory_of files_card)
files_are = rw (files-directory, files-table) both.files

pub files-protection : ProtectionIs (directory_of files_card)
files-protection = rw files-directory both.protection

pub files_orphans : orphans (table_of files_card) (directory_of files_card) ≡ 1
files_orphans = rw (files-directory, files-table) both.one_orphan
