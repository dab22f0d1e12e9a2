use Rattle.std.proofs.Common.{arith}
use Rattle.flash_model.proofs.MeasureLaws.{capacity-most}
use Rattle.flash_partition.proofs.UsableLaws.{usable-legal}
use Rattle.flash_listing.proofs.NoMarksLaws.{no_marks, none_marked}
use Rattle.flash_listing.proofs.ListedLaws.{none_left}
use Rattle.flash_listing.proofs.HolderLaws.{kept-live}
use Rattle.flash_listing.proofs.count_live.Goals as goal

pub pass-requires-clause-long : goal.pass-requires-clause-long
pass-requires-clause-long c = capacity-most c.args.p.log.m.size (usable-legal c.args.p.usable)

pub returns : goal.returns
returns c = omega (arith, c.pass.ensures.counted, none_left c.pass.new.marks c.args.p.image.now, kept-live c.args.p.usable no_marks none_marked)
