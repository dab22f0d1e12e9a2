-- Two cards that pass the check: an empty one, and one with a game, two data files, an orphan and a damaged block. They are
-- told by their bytes alone: 253 blocks of zeros, the directory's first block, the table, the root.
-- Assumes nothing.
use Rattle.std.specs.Prelude.{ℕ, ◌*◌, List, [], ◌∷◌, ◌++◌, map, replicate}
use Rattle.words.specs.Lists.{concat, numbers_from}
use Rattle.words.specs.Words.{word_bytes}

-- A root block: 002, "Root block"; 003, "Root".
unfoldable pub root_block : List ℕ
root_block =
    replicate 16 0x55
    ++ (replicate 54 0
    ++ (word_bytes 254 ++ (word_bytes 1 ++ (word_bytes 253 ++ (word_bytes 13 ++ (word_bytes 0 ++ (word_bytes 200 ++ replicate 430 0)))))))

-- The entries of blocks 200 to 255.
unfoldable pub system_table : List ℕ
system_table = replicate 41 0xFFFC ++ (0xFFFA ∷ numbers_from 241 12 ++ (0xFFFA ∷ 0xFFFA ∷ []))

-- The bytes before the directory's first block, 253.
unfoldable pub bytes_before : ℕ
bytes_before = 253 * 512

-- A card of these 16 directory entries, the others being zeros, and of these table entries of blocks 0 to 199.
unfoldable pub card_of : List (List ℕ) → List ℕ → List ℕ
card_of entries users = replicate bytes_before 0 ++ (concat entries ++ (concat (map word_bytes (users ++ system_table)) ++ root_block))

unfoldable pub unused_entry : List ℕ
unused_entry = replicate 32 0

unfoldable pub empty_card : List ℕ
empty_card = card_of (replicate 16 unused_entry) (replicate 200 0xFFFC)

-- A directory entry with 4 unused bytes, of a name of 12 letters.
unfoldable pub entry_bytes : ℕ → ℕ → ℕ → ℕ → ℕ → ℕ → List ℕ
entry_bytes kind flag first letter size offset =
    kind ∷ flag ∷ word_bytes first ++ (replicate 12 letter ++ (replicate 8 0x20 ++ (word_bytes size ++ (word_bytes offset ++ replicate 4 0))))

-- The data files are in 199 and 198, and in 190, the game in blocks 0 to 2.
unfoldable pub some_entries : List (List ℕ)
some_entries =
    entry_bytes 0x33 0xFE 199 0x41 2 0 ∷ entry_bytes 0xCC 0x00 0 0x42 3 1 ∷ unused_entry ∷ entry_bytes 0x33 0xFF 190 0x43 1 0
    ∷ replicate 12 unused_entry

-- Beside their blocks 50 is an orphan and 60 damaged.
unfoldable pub some_users : List ℕ
some_users =
    1 ∷ 2 ∷ 0xFFFA ∷ replicate 47 0xFFFC
    ++ (0xFFFA ∷ replicate 9 0xFFFC
    ++ (0xFFFF ∷ replicate 129 0xFFFC
    ++ (0xFFFA ∷ replicate 7 0xFFFC
    ++ (0xFFFA ∷ 198 ∷ []))))

unfoldable pub files_card : List ℕ
files_card = card_of some_entries some_users
