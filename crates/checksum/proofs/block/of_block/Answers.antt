-- Four words, three more, and six bytes, each put behind what is taken already.
use Rattle.std.proofs.Common.{ℕ, ◌≡◌, ap, ◌∙◌, length, drop, arith, rules}
use lib.Dec.{lit<}
use Rattle.checksum.specs.Crc.{shifts, crc_from}
use Rattle.checksum.proofs.CrcLaws.{behind, crc-behind, crc-last, end-block}
use Rattle.checksum.proofs.FourLaws.{four-lt, four-first, four-started}
use Rattle.checksum.proofs.block.of_block.Goals as goal

pub returns : goal.returns
returns c =
    let s = c.args.bytes.now in
    let long : length s ≡ 62 = search rules in
    let first = c.load-first.result in
    let loaded = c.load-first.ensures in
    let left : crc_from 65535 s ≡ behind 6642 512 c.remainder.result =
    four-first s first.a first.b first.c first.d loaded.a loaded.b loaded.c loaded.d (omega (arith, long))
    ∙ ap (λ (x : ℕ). crc_from (shifts 16 x) (drop 32 s)) (four-started first.a first.b first.c first.d)
    ∙ crc-behind 6642 (lit< tt) 8 256 _ _ (four-lt _ _ _ _) c.take_word.ensures c.little8.ensures (omega (arith, long))
    ∙ crc-behind 6642 (lit< tt) 8 320 _ _ (four-lt _ _ _ _) c.take_word-2.ensures c.little8-2.ensures (omega (arith, long))
    ∙ crc-behind 6642 (lit< tt) 8 384 _ _ (four-lt _ _ _ _) c.take_word-3.ensures c.little8-3.ensures (omega (arith, long))
    ∙ crc-last 6642 (lit< tt) 448 _ _ (four-lt _ _ _ _) (c.remainder.ensures ∙ c.take_word-4.ensures) c.little6_of8.ensures long in
    end-block s c.remainder.result (search rules) left
