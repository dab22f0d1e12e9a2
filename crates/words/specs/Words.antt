-- Runs of bytes and two-byte numbers. Document 01: "Numbers of two bytes are little endian."
-- Assumes nothing.
use Rattle.std.specs.Prelude.{ℕ, ◌+◌, ◌*◌, ◌/◌, ◌%◌, Bool, List, [], ◌∷◌, get_or}
use Rattle.std.specs.Str.{bytes_eq}

-- The two-byte number at place i of these bytes.
unfoldable pub word : List ℕ → ℕ → ℕ
word bytes i = get_or bytes i 0 + 256 * get_or bytes (i + 1) 0

-- A number as two bytes.
unfoldable pub word_bytes : ℕ → List ℕ
word_bytes n = n % 256 ∷ n / 256 ∷ []

-- The two runs have the same length and the same bytes.
abbrev pub same_bytes : List ℕ → List ℕ → Bool
same_bytes = bytes_eq
