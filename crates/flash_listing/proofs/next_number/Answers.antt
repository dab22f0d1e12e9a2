use Rattle.std.proofs.Common.{◌+◌, ◌∙◌, arith}
use Rattle.flash_partition.proofs.UsableLaws.{usable-measured, count_most}
use Rattle.flash_listing.proofs.NextLaws.{best-first, best-next, start-past, start-found, all-passed}
use Rattle.flash_listing.proofs.next_number.Goals as goal
use Rattle.flash_listing.proofs.next_number.Goals.{else-loop-k-test, then-loop-k-test+then-best-start}

pub overflow_add-k-end : goal.overflow_add-k-end
overflow_add-k-end c = omega (arith, count_most c.args.p.usable, (usable-measured c.args.p.usable).two_bytes)

pub returns-then-end-start : goal.returns-then-end-start
returns-then-end-start c = start-past c.args.p.usable _ c.capacity-end.ensures c.args.start c.if-end-start.true

pub block-requires : goal.block-requires
block-requires c = omega (arith, count_most c.args.p.usable)

pub loop-k-init : goal.loop-k-init
loop-k-init c = best-first _ _ _

pub loop-k-preserved : goal.loop-k-preserved
loop-k-preserved c = best-next _ _ _ _ _ c.loop-k.invariant c.loop-k.auto.k _ c.block.ensures _ c.lower-best.ensures

pub returns : goal.returns
returns c =
    let u = c.args.p.usable in
    let l = c.loop-k in
    c.then_some.ensures ∙ elim c.loop-k-test.branch [
      | else-loop-k-test w ↦ rw w.best-is (all-passed u _ c.capacity-end.ensures _ l.k _ (omega arith) l.invariant (omega arith))
      | then-loop-k-test+then-best-start w ↦ rw w.best-is (start-found u _ c.capacity-end.ensures _ (l.k + 1) _ (omega arith) (best-next _ _ _ _ _ l.invariant l.auto.k _ w.block.ensures _ w.lower-best.ensures) (omega (arith, w.if-best-start.true)))
    ]
