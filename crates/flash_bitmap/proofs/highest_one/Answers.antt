use Rattle.flash_bitmap.proofs.LeadingLaws.{leading-zeros-place}
use Rattle.flash_bitmap.proofs.highest_one.Goals as goal

pub returns : goal.returns
returns c = leading-zeros-place.in_others c.args.byte c.requires c.ranges.byte.fits
