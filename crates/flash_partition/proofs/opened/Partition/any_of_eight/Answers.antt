use mathlib.Core.Path.{refl, sym, ap₂}
use mathlib.Core.Bool.{◌||◌}
use native.Mathlib.Numerals.{add-one}
use Rattle.flash_partition.specs.Search.{any_numbered}
use Rattle.flash_partition.proofs.SearchLaws.{has-number-test}
use Rattle.flash_partition.proofs.opened.Partition.any_of_eight.Goals as goal

pub loop-j-init : goal.loop-j-init
unfolding any_numbered
loop-j-init c = refl

pub loop-j-preserved : goal.loop-j-preserved
unfolding any_numbered
loop-j-preserved c =
    let here = has-number-test c.args.self.image.now c.args.number _ _ c.block.ensures c.word.result c.word.ensures.0 refl in
    rw (add-one c.loop-j.j) (ap₂ ◌||◌ c.loop-j.invariant (sym here))
