use Rattle.checksum.proofs.FoldLaws.{fold-kept}
use Rattle.checksum.proofs.folding.fold.Goals as goal

pub returns-clause-shifted : goal.returns-clause-shifted
returns-clause-shifted g c = fold-kept g.row.W c.requires.width c.args.a c.requires.fits
