-- A user block's 64 bytes: document 01, "Partition measures", the paragraph "User block".
-- Assumes nothing.
use Rattle.std.specs.Prelude.{ℕ, Bool, ◌&&◌, List, ◌++◌, eqb, take, drop}
use Rattle.words.specs.Words.{word, word_bytes}
use Rattle.checksum.specs.Crc.{checksum_of}

-- "logical number at 0"
unfoldable pub number : List ℕ → ℕ
number block = word block 0

-- "60 payload bytes at 2"
unfoldable pub payload : List ℕ → List ℕ
payload block = take 60 (drop 2 block)

-- "checksum at 62 over the first 62 bytes"
unfoldable pub right_checksum : List ℕ → Bool
right_checksum block = eqb (word block 62) (checksum_of (take 62 block))

-- A copy of a number's page: it has the number and a right checksum, allocated or not.
abbrev pub is_copy : ℕ → List ℕ → Bool
is_copy n block = eqb (number block) n && right_checksum block

-- The block of a number and a page: "number, payload and checksum".
unfoldable pub new_block : ℕ → List ℕ → List ℕ
new_block n page = word_bytes n ++ page ++ word_bytes (checksum_of (word_bytes n ++ page))
