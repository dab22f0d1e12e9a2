-- Numbers as polynomials over two elements, and what is left of them after division by P = x^16 + x^12 + x^5 + 1: what the
-- private functions promise. A number's binary digits are the coefficients, the highest first, and exclusive or is the
-- sum. `shift` multiplies by x and takes P off where the top bit falls out: 4129 is x^12 + x^5 + 1.
-- Assumes nothing.
use Rattle.std.specs.Prelude.{ℕ, zero, suc, ◌*◌, ◌/◌, ◌%◌}
use Rattle.std.specs.Int.Bits.{bit_xor}
use Rattle.checksum.specs.Crc.{shift, shifts}
use Rattle.checksum.specs.declared.block.Four.{Four}

-- the remainder of the polynomial whose coefficients are the last k digits of n
unfoldable pub rem : ℕ → ℕ → ℕ
rem zero n = 0
rem (suc k) n = bit_xor (shift (rem k (n / 2))) (n % 2)

-- the remainder of the polynomial that the last n bytes of w make, the lowest of them foremost: bytes loaded little endian
unfoldable pub rem_little : ℕ → ℕ → ℕ
rem_little zero w = 0
rem_little (suc n) w = bit_xor (shifts (n * 8) (w % 256)) (rem_little n (w / 256))

-- the remainder of two, three and four such words of eight bytes, as one polynomial
unfoldable pub rem_two : ℕ → ℕ → ℕ
rem_two a b = bit_xor (shifts 64 (rem_little 8 a)) (rem_little 8 b)

unfoldable pub rem_three : ℕ → ℕ → ℕ → ℕ
rem_three a b c = bit_xor (shifts 64 (rem_two a b)) (rem_little 8 c)

unfoldable pub rem_four : ℕ → ℕ → ℕ → ℕ → ℕ
rem_four a b c d = bit_xor (shifts 64 (rem_three a b c)) (rem_little 8 d)

-- the same of the four that the code carries
abbrev pub rem_of : Four → ℕ
rem_of f = rem_four f.a f.b f.c f.d
