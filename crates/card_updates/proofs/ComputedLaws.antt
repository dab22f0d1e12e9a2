-- Worked examples on short lists, by computation. Assumes nothing.
use mathlib.Core.Path.{◌≡◌, refl}
use mathlib.Core.List.{[], ◌∷◌, ◌++◌}
use Rattle.std.specs.Prelude.{Some}
use lib.ListN.{replicate}
use Rattle.words.specs.Words.{word_bytes}
use Rattle.card_model.specs.Layout.{fat_place}
use Rattle.card_model.specs.Table.{fat_entry, link_of, link_at}
use Rattle.card_model.specs.Entries.{kind, is_used, entry_at}
use Rattle.card_updates.specs.Parts.{with_part, with_link}
use Rattle.card_updates.specs.Delete.{freed}
use Rattle.card_updates.specs.Write.{free_blocks, lowest_unused, entry_of, new_entry, with_block, with_blocks}
use Rattle.card_updates.specs.Examples.{file_of_size}

pub short_part : with_part (1 ∷ 2 ∷ 3 ∷ 4 ∷ 5 ∷ []) 1 (8 ∷ 9 ∷ []) ≡ 1 ∷ 8 ∷ 9 ∷ 4 ∷ 5 ∷ []
unfolding with_part
short_part = refl

pub short_free : free_blocks (0xFFFC ∷ 0xFFFF ∷ 4 ∷ 0xFFFC ∷ 0xFFFA ∷ []) ≡ 3 ∷ 0 ∷ []
unfolding free_blocks fat_entry link_of link_at
short_free = refl

pub short_unused : lowest_unused ((0x33 ∷ []) ∷ (0x00 ∷ 0x41 ∷ []) ∷ (0xCC ∷ []) ∷ []) ≡ Some 1
unfolding lowest_unused entry_at is_used kind
short_unused = refl

pub short-entry :
    new_entry 0x33 (file_of_size 0x43 2) 1 199
    ≡ 0x33 ∷ 0xFE ∷ 199 ∷ 0 ∷ replicate 12 0x43 ++ (replicate 8 0x20 ++ (2 ∷ 0 ∷ 1 ∷ 0 ∷ 0 ∷ 0 ∷ 0 ∷ 0 ∷ []))
unfolding entry_of file_of_size word_bytes
short-entry = refl

pub short_blocks : with_blocks [] (0 ∷ 7 ∷ []) (8 ∷ 9 ∷ []) ≡ 8 ∷ 9 ∷ 7 ∷ 0 ∷ 0xFA ∷ 0xFF ∷ []
unfolding with_blocks with_block with_part with_link fat_place word_bytes
short_blocks = refl

pub short_freed : freed (1 ∷ 2 ∷ []) (0 ∷ []) ≡ 1 ∷ 2 ∷ 0xFC ∷ 0xFF ∷ []
unfolding freed with_part with_link fat_place word_bytes
short_freed = refl
