use Rattle.std.proofs.Common.{rules}
use Rattle.checksum.proofs.FourLaws.{four-take}
use Rattle.checksum.proofs.block.Four.take_word.Goals as goal

pub returns : goal.returns
returns c =
    let x = c.args in
    four-take x.self.a x.self.b x.self.c x.self.d x.e (search rules)
