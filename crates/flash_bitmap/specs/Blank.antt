-- Bytes as an erase leaves them. Assumes nothing.
use Rattle.std.specs.Prelude.{ℕ, ◌≡◌, List, length, replicate}

-- All bytes are FF.
abbrev pub IsBlank : List ℕ → Type 0
IsBlank bytes = bytes ≡ replicate (length bytes) 255
