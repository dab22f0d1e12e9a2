use mathlib.Core.Path.{◌∙◌}
use Rattle.flash_partition.proofs.PartLaws.{right_is}
use Rattle.flash_partition.proofs.blocks.right_checksum.Goals as goal

pub returns : goal.returns
returns c = right_is c.args.part.now c.word.result c.from.result c.word.ensures.0 (c.from.ensures ∙ c.checksum.ensures)
