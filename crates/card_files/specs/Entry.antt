-- The bytes of a directory entry, from its numbers, its name and its time.
-- Assumes nothing.
use Rattle.std.specs.Prelude.{ℕ, List, ◌∷◌, ◌++◌, replicate}
use Rattle.words.specs.Words.{word_bytes}
use Rattle.card_updates.specs.Write.{entry_of}
use Rattle.card_files.specs.declared.entries.EntryNumbers.{EntryNumbers}

-- Its first four bytes, and its last eight.
abbrev pub head_of : EntryNumbers → List ℕ
head_of n = n.kind ∷ n.flag ∷ word_bytes n.first

abbrev pub tail_of : EntryNumbers → List ℕ
tail_of n = word_bytes n.size ++ (word_bytes n.offset ++ replicate 4 0)

-- The whole entry.
abbrev pub entry_with : EntryNumbers → List ℕ → List ℕ → List ℕ
entry_with n name time = entry_of n.kind n.flag n.first name time n.size n.offset
