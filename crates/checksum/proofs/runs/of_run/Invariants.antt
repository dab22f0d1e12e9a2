-- To take what is left of the bytes into 16 shifts of the four words' remainder is to take them all into FFFF.
use Rattle.std.proofs.Common.{◌≡◌, ◌+◌, ◌*◌, drop}
use Rattle.checksum.specs.Crc.{shifts, crc_from}
use Rattle.checksum.specs.Polynomial.{rem_of}
use Rattle.checksum.proofs.runs.of_run.Given as goal

abbrev pub invariant-loop-word : goal.invariant-loop-word
invariant-loop-word l = crc_from 65535 l.bytes ≡ crc_from (shifts 16 (rem_of l.f)) (drop ((4 + l.word-index) * 8) l.bytes)
