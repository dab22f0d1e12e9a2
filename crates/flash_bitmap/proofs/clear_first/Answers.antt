use Rattle.flash_bitmap.proofs.FirstBits.{part-cleared}
use Rattle.flash_bitmap.proofs.clear_first.Goals as goal

pub returns : goal.returns
returns c = part-cleared c.args.bits.now c.args.n c.requires.0 c.requires.1 (c.fill.ensures.after (λ y e. e))
