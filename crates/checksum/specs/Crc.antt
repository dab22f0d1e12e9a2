-- The checksum of a run of bytes, bit by bit: document 01, "Partition measures", the paragraph on the user block, which is
-- the routine of source 004. It starts at FFFF, takes each byte into the top half, shifts left eight times with 4129
-- added by exclusive or where the top bit falls out, keeps 16 bits, and is inverted at the end.
-- `bit_xor` is the exclusive or of two numbers' binary digits, which is what `^` means in the code.
-- Assumes nothing.
use Rattle.std.specs.Prelude.{ℕ, zero, suc, ◌-◌, ◌*◌, ◌%◌, cond, List, [], ◌∷◌, leb}
use Rattle.std.specs.Int.Bits.{bit_xor}

-- "shifts left .. with 4129 added by exclusive or where the top bit falls out, keeps 16 bits"
unfoldable pub shift : ℕ → ℕ
shift n = cond (leb 32768 n) (bit_xor (n * 2 % 65536) 4129) (n * 2 % 65536)

unfoldable pub shifts : ℕ → ℕ → ℕ
shifts zero n = n
shifts (suc k) n = shift (shifts k n)

-- "takes each byte into the top half, shifts left eight times"
unfoldable pub take_byte : ℕ → ℕ → ℕ
take_byte n byte = shifts 8 (bit_xor n (byte * 256))

unfoldable pub crc_from : ℕ → List ℕ → ℕ
crc_from n [] = n
crc_from n (byte ∷ bytes) = crc_from (take_byte n byte) bytes

-- "starts at FFFF .. and is inverted at the end"
unfoldable pub checksum_of : List ℕ → ℕ
checksum_of bytes = 65535 - crc_from 65535 bytes
