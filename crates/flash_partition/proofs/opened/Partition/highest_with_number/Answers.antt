use mathlib.Core.Path.{◌∙◌}
use native.Mathlib.Omega.{arith}
use borrow.Author.Tests.{eq-eqb, ne_eqb}
use Rattle.flash_partition.proofs.SearchLaws.{passed, none_left, has-number-test, other_number}
use Rattle.flash_partition.proofs.UsableLaws.{usable-measured}
use Rattle.flash_partition.proofs.opened.Partition.highest_with_number.Goals as goal

pub overflow_step-k : goal.overflow_step-k
overflow_step-k c = omega (arith, c.pass_eights-k.ensures.0, c.requires, (usable-measured c.args.self.usable).two_bytes)

pub returns-then-word-number : goal.returns-then-word-number
returns-then-word-number c = record {
  below = c.loop-k.invariant.0;
  same = c.loop-k.invariant.1;
  is_block = omega arith;
  has_number = has-number-test _ c.args.number _ _ c.block.ensures _ c.word.ensures.0 (eq-eqb _ _ c.if-word-number.true);
}

pub loop-k-preserved : goal.loop-k-preserved
loop-k-preserved c = (
  omega (arith, c.loop-k.invariant.0),
  c.loop-k.invariant.1 ∙ passed _ c.args.number _ (omega arith) (other_number _ c.args.number _ _ c.block.ensures _ c.word.ensures.0 (ne_eqb _ _ c.if-word-number.false)),
)

pub returns : goal.returns
returns c = c.loop-k.invariant.1 ∙ none_left _ c.args.number _ (omega arith)
