-- Document 01, "Samples from the bench": the rows of the flash, (a) to (i), and with those of the card, (j) to (l), the one
-- table and the one theorem over all of it, which antt computes.
-- Assumes nothing.
use Rattle.std.specs.Prelude.{ℕ, ◌≡◌, refl, List, [], ◌∷◌, ◌++◌, map, replicate, set}
use Rattle.words.specs.Lists.{to_list}
use Rattle.words.specs.Words.{word, word_bytes}
use Rattle.checksum.specs.Crc.{shift, shifts, take_byte, crc_from, checksum_of}
use Rattle.flash_model.specs.Measures.{sizes, legal_size, blocks, bitmap_blocks, first_bitmap, capacity, top_number}
use Rattle.flash_model.specs.Bitmap.{bit_byte, bit_place, bit_weight, bit_of, allocated_in, out_of_sequence, lowest_free_in, cleared, first_cleared}
use Rattle.flash_model.specs.UserBlock.{number, payload, right_checksum, new_block}
use Rattle.flash_model.specs.Partition.{magic, header_number, version, bitmap_of, header_rows, sequence_row, refusal}
use Rattle.flash_model.specs.Partition as flash
use Rattle.card_model.specs.Layout.{card_length, block_at, root_of, fat_place, table_of, entry_block, entry_byte, entry_place, directory_of}
use Rattle.card_model.specs.Table.{magic_row, right_fields, fields_row, fat_entry, link_of, link_at, system_entry, wrong_system}
use Rattle.card_model.specs.Table.{wrong_hidden, wrong_user, system_row, hidden_row, user_row}
use Rattle.card_model.specs.Entries.{kind, flag, is_protected, protection_of, first_block, name_of, time_of, size, header_offset, is_used, is_data, is_game}
use Rattle.card_model.specs.Entries.{wrong_kind, wrong_first, wrong_size, wrong_offset, wrong_entry, entry_at, entry_row}
use Rattle.card_model.specs.Entries.{is_named, name_taken, name_row}
use Rattle.card_model.specs.Files.{chain_step, chain, chain_of, bad_chain, chain_row, file_of, files_before, shares_block}
use Rattle.card_model.specs.Files.{sharing_row, breaks_game_rule, game_row, is_orphan, orphans}
use Rattle.card_model.specs.Calls.{length_row, table_rows, directory_rows, verdict_of, check_of, listed_entry, first_used, list_of}
use Rattle.card_model.specs.Calls.{entry_named, read_rows, read_verdict, read_buffer}
use Rattle.card_model.specs.Examples.{root_block, system_table, unused_entry, entry_bytes}
use Rattle.samples.specs.Sample.{Sample, sample_of, bit}
use Rattle.samples.specs.CardSamples.{empty_table, linked, two_blocks, three_blocks, orphan_table, layout_samples}
use Rattle.samples.specs.CardSamples.{root_samples, table_samples, entry_samples, chain_samples, directory_samples}
use Rattle.samples.specs.CardSamples.{orphan_samples, list_samples, read_samples, length_samples, all_card_samples}

-- A row of the table of measures: a legal length, its blocks, bitmap blocks, M, capacity and top logical number.
abbrev pub measures : ℕ → List ℕ
measures size = bit (legal_size size) ∷ blocks size ∷ bitmap_blocks size ∷ first_bitmap size ∷ capacity size ∷ top_number size ∷ []

-- Partition 2, version 1, of 16,384 bytes, with this first bitmap byte and no block written. Its first 16 bytes are the ASCII
-- codes of KATANA_FLASH____, as any program prints them.
unfoldable pub unwritten : ℕ → List ℕ
unwritten byte =
    0x4B ∷ 0x41 ∷ 0x54 ∷ 0x41 ∷ 0x4E ∷ 0x41 ∷ 0x5F ∷ 0x46 ∷ 0x4C ∷ 0x41 ∷ 0x53 ∷ 0x48 ∷ 0x5F ∷ 0x5F ∷ 0x5F ∷ 0x5F ∷ 2 ∷ 1 ∷ []
    ++ replicate 16302 255 ++ byte ∷ replicate 63 255

-- A page, and the user block that tests/vectors/block.py makes of it for number 292.
unfoldable pub page292 : List ℕ
page292 =
    3 ∷ 10 ∷ 17 ∷ 24 ∷ 31 ∷ 38 ∷ 45 ∷ 52 ∷ 59 ∷ 66 ∷ 73 ∷ 80 ∷ 87 ∷ 94 ∷ 101 ∷ 108 ∷ 115 ∷ 122 ∷ 129 ∷ 136
    ∷ 143 ∷ 150 ∷ 157 ∷ 164 ∷ 171 ∷ 178 ∷ 185 ∷ 192 ∷ 199 ∷ 206 ∷ 213 ∷ 220 ∷ 227 ∷ 234 ∷ 241 ∷ 248 ∷ 255 ∷ 6 ∷ 13 ∷ 20
    ∷ 27 ∷ 34 ∷ 41 ∷ 48 ∷ 55 ∷ 62 ∷ 69 ∷ 76 ∷ 83 ∷ 90 ∷ 97 ∷ 104 ∷ 111 ∷ 118 ∷ 125 ∷ 132 ∷ 139 ∷ 146 ∷ 153 ∷ 160 ∷ []

unfoldable pub block292 : List ℕ
block292 = 36 ∷ 1 ∷ page292 ++ 196 ∷ 71 ∷ []

unfoldable pub flash_samples : List Sample
flash_samples =
    -- (a) (b) (c)
    sample_of (checksum_of [] ∷ []) (0x0000 ∷ [])
    ∷ sample_of (checksum_of (0xFF ∷ []) ∷ []) (0x00FF ∷ [])
    ∷ sample_of (checksum_of (0xFF ∷ 0xFF ∷ []) ∷ []) (0xFFFF ∷ [])
    -- (d) (e) (f)
    ∷ sample_of (measures 16384) (1 ∷ 256 ∷ 1 ∷ 255 ∷ 254 ∷ 253 ∷ [])
    ∷ sample_of (measures 32768) (1 ∷ 512 ∷ 1 ∷ 511 ∷ 510 ∷ 509 ∷ [])
    ∷ sample_of (measures 65536) (1 ∷ 1024 ∷ 2 ∷ 1022 ∷ 1021 ∷ 1020 ∷ [])
    -- (g) (h)
    ∷ sample_of (first_cleared (0xFF ∷ 0xFF ∷ []) 9) (0x00 ∷ 0x7F ∷ [])
    ∷ sample_of (to_list (lowest_free_in (0x00 ∷ 0x7F ∷ []) 16)) (10 ∷ [])
    -- (i), beside the same image with a bitmap that is in sequence
    ∷ sample_of (refusal (unwritten 0xBF) 2 ∷ []) (5 ∷ [])
    ∷ sample_of (refusal (unwritten 0x7F) 2 ∷ []) (0 ∷ [])
    -- a whole block from an outside program: made, read, and with one byte off
    ∷ sample_of (new_block 292 page292) block292
    ∷ sample_of (number block292 ∷ bit (right_checksum block292) ∷ payload block292) (292 ∷ 1 ∷ page292)
    ∷ sample_of (map (λ i. bit (right_checksum (set block292 i 0))) (0 ∷ 1 ∷ 2 ∷ 61 ∷ 62 ∷ 63 ∷ [])) (0 ∷ 0 ∷ 0 ∷ 0 ∷ 0 ∷ 0 ∷ [])
    ∷ []

unfoldable pub all_samples : List Sample
all_samples = flash_samples ++ all_card_samples

pub samples-hold : map (λ (s : Sample). s.defined) all_samples ≡ map (λ (s : Sample). s.bench) all_samples
unfolding all_samples flash_samples unwritten page292 block292 checksum_of crc_from take_byte shifts shift sizes legal_size blocks
    bitmap_blocks first_bitmap capacity top_number bit_byte bit_place bit_weight bit_of allocated_in out_of_sequence lowest_free_in
    cleared first_cleared number payload right_checksum new_block word word_bytes magic header_number version bitmap_of
    flash.length_row header_rows sequence_row refusal
    card_length block_at root_of fat_place table_of entry_block entry_byte entry_place directory_of magic_row right_fields fields_row fat_entry
    link_of link_at system_entry wrong_system wrong_hidden wrong_user system_row hidden_row user_row kind flag is_protected protection_of first_block name_of
    time_of size header_offset is_used is_data is_game wrong_kind wrong_first wrong_size wrong_offset wrong_entry entry_at
    entry_row is_named name_taken name_row chain_step chain chain_of bad_chain chain_row file_of files_before shares_block sharing_row
    breaks_game_rule game_row is_orphan orphans length_row table_rows directory_rows verdict_of check_of listed_entry first_used list_of
    entry_named read_rows read_verdict read_buffer root_block system_table unused_entry entry_bytes empty_table linked two_blocks three_blocks
    orphan_table layout_samples root_samples table_samples entry_samples chain_samples directory_samples orphan_samples list_samples
    read_samples length_samples all_card_samples
samples-hold = refl
