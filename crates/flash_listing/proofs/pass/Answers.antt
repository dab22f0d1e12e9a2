use Rattle.flash_listing.specs.Passing.{whole}
use Rattle.flash_listing.proofs.MarkLaws.{pass-first}
use Rattle.flash_listing.proofs.ListedLaws.{passed-start, passed-then, passed-known}
use Rattle.flash_listing.proofs.pass.Goals as goal

pub loop-reached-init : goal.loop-reached-init
loop-reached-init g c = passed-start c.args.marks.now c.args.kept.now (whole c.args.p) (pass-first c.args.marks.now c.args.p c.requires.long)

pub loop-reached-preserved : goal.loop-reached-preserved
loop-reached-preserved g c = passed-known (passed-then c.loop-reached.invariant c.mark_run-reached.ensures.passed) c.pass_known.ensures.passed
