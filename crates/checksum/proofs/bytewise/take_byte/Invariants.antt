-- The value has been shifted as often as the loop has turned.
use Rattle.std.proofs.Common.{◌≡◌}
use Rattle.checksum.specs.Crc.{shifts}
use Rattle.checksum.proofs.bytewise.take_byte.Given as goal

abbrev pub invariant-loop : goal.invariant-loop
invariant-loop l = l.v ≡ shifts l.counter l.initial.v
