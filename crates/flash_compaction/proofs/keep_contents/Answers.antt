use Prim.Native.Nat.{ℕ, ◌-◌}
use mathlib.Core.Path.{◌≡◌, sym, subst}
use mathlib.Core.List.{List}
use native.Mathlib.Omega.{arith}
use lib.ListN.{length, take, drop}
use Rattle.flash_model.proofs.MeasureLaws.{capacity-most}
use Rattle.flash_listing.specs.BlockTests.{kept_blocks}
use Rattle.flash_moving.specs.Moving.{RisingBlocks, AllMoved}
use Rattle.flash_partition.proofs.UsableLaws.{usable-legal, count_most}
use Rattle.flash_compaction.proofs.KeptLaws.{kept-rise, part-is}
use Rattle.flash_compaction.proofs.keep_contents.Goals as goal

pub list_kept-count-requires : goal.list_kept-count-requires
list_kept-count-requires c = (omega (arith, capacity-most c.args.log.m.size (usable-legal c.requires), c.told-marks), capacity-most c.args.log.m.size (usable-legal c.requires))

pub overflow_sub-count : goal.overflow_sub-count
overflow_sub-count c =
    let s = c.args.log.m.size in
    omega (arith, c.list_kept-count.ensures.few, count_most c.requires, capacity-most s (usable-legal c.requires))

pub keep_blocks-requires : goal.keep_blocks-requires
keep_blocks-requires c =
    let listed : take (1021 - (1021 - c.list_kept-count.result)) (drop (1021 - c.list_kept-count.result) c.list_kept-count.new.kept) ≡ kept_blocks c.args.marks.now c.args.image.now c.args.log.used = part-is 1021 (1021 - c.list_kept-count.result) c.list_kept-count.new.kept _ c.list_kept-count.auto.kept c.list_kept-count.ensures.listed in
    let i = c.args.image.now in
    subst (λ (kept : List ℕ). RisingBlocks 1 (length i) kept) (sym listed) (kept-rise c.requires c.args.marks.now)

pub returns : goal.returns
returns c =
    let listed : take (1021 - (1021 - c.list_kept-count.result)) (drop (1021 - c.list_kept-count.result) c.list_kept-count.new.kept) ≡ kept_blocks c.args.marks.now c.args.image.now c.args.log.used = part-is 1021 (1021 - c.list_kept-count.result) c.list_kept-count.new.kept _ c.list_kept-count.auto.kept c.list_kept-count.ensures.listed in
    subst (λ (kept : List ℕ). AllMoved kept c.args.image.now c.keep_blocks.new.image c.keep_blocks.result) listed c.keep_blocks.ensures
