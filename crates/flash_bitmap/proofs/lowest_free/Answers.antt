use mathlib.Core.Path.{◌∙◌}
use Rattle.flash_bitmap.proofs.DifferingLaws.{differing-is-free}
use Rattle.flash_bitmap.proofs.lowest_free.Goals as goal

pub returns : goal.returns
returns c = c.lowest_differing.ensures ∙ differing-is-free c.args.image.bytes.now
