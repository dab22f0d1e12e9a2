-- To take what is left of the bytes into 16 shifts of the remainder of a is to take them all into FFFF.
use Rattle.std.proofs.Common.{◌≡◌, ◌*◌, ◌<◌, drop}
use Rattle.checksum.specs.Crc.{shifts, crc_from}
use Rattle.checksum.specs.Polynomial.{rem}
use Rattle.checksum.proofs.of_words.Given as goal

abbrev pub invariant-loop-word : goal.invariant-loop-word
invariant-loop-word l = record {
  fits : l.a < 18446744073709551616;
  taken : crc_from (shifts 16 (rem 64 l.a)) (drop (l.word-index * 8) l.bytes) ≡ crc_from 65535 l.bytes;
}
