use Rattle.std.proofs.Common.{rules}
use Rattle.checksum.proofs.FourLaws.{three-fold}
use Rattle.checksum.proofs.block.fold128.Goals as goal

pub returns : goal.returns
returns c = three-fold c.args.a c.args.b c.args.c (search rules)
