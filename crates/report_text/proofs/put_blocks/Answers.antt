use Rattle.std.proofs.Common.{arith, length-append}
use Rattle.report_text.specs.Text.{block_lines}
use Rattle.report_text.proofs.BlockLaws.{lines-all, number_low, line_put, line_fits, all_put}
use Rattle.report_text.proofs.put_blocks.Goals as goal

pub loop-n-init : goal.loop-n-init
loop-n-init c = rw (lines-all c.args.image.now)

pub put_line-requires : goal.put_line-requires
put_line-requires c = omega (arith, line_fits c.requires.sound c.in-Ok.n c.in-Ok.ensures _ _ c.loop-n.invariant, length-append c.args.text.now (block_lines c.args.image.now))

pub overflow_add-from : goal.overflow_add-from
overflow_add-from c = omega (arith, number_low c.requires.sound c.in-Ok.n c.in-Ok.ensures)

pub loop-n-smaller : goal.loop-n-smaller
loop-n-smaller c = omega (arith, number_low c.requires.sound c.in-Ok.n c.in-Ok.ensures)

pub loop-n-preserved : goal.loop-n-preserved
loop-n-preserved c = rw c.put_line.ensures (line_put c.requires.sound c.in-Ok.n c.in-Ok.ensures _ _ c.loop-n.invariant)

pub returns : goal.returns
returns c = all_put c.requires.sound _ c.in_default.ensures _ _ c.loop-n.invariant
