use Rattle.std.proofs.Common.{◌≡◌, ◌+◌, ◌-◌, length, arith}
use Rattle.flash_moving.proofs.ConservedLaws.{conserved-start, conserved-next, all_moved}
use Rattle.flash_moving.proofs.keep_blocks.Goals as goal

pub loop-i-init : goal.loop-i-init
loop-i-init c = conserved-start c.args.kept.now c.args.image.now c.requires

pub loop-i-preserved : goal.loop-i-preserved
loop-i-preserved c =
    let i = c.loop-i.i in
    let place : i + 1 - 1 ≡ i = omega arith in
    conserved-next c.args.kept.now c.args.image.now (i + 1) c.loop-i.image c.loop-i.invariant (omega (arith, c.loop-i-test.true)) _
    (rw (place, ← c.from.ensures) c.move_block.ensures)

pub returns : goal.returns
returns c =
    let i = c.loop-i.i in
    let all : i ≡ length c.args.kept.now = omega arith in
    rw all at (all_moved c.args.kept.now c.args.image.now (i + 1) c.loop-i.image c.loop-i.invariant (omega arith))
