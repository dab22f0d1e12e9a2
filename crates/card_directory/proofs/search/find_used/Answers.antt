use Rattle.std.proofs.Common.{arith, sym, ◌∙◌}
use Rattle.card_directory.proofs.ListedLaws.{find-end, find-next}
use Rattle.card_directory.proofs.search.find_used.Goals as goal

pub returns-then-passes : goal.returns-then-passes
returns-then-passes g c p t =
    let n = c.loop-number.number-index in
    let q = sym (t n (omega arith) c.passes.result (rw c.from-i.ensures at c.passes.ensures)) ∙ c.if-passes.true in
    rw c.from-i.ensures (sym (c.loop-number.invariant p t ∙ find-next p c.args.used.now n (omega arith) ∙ rw q))

pub loop-number-preserved : goal.loop-number-preserved
loop-number-preserved g c p t =
    let n = c.loop-number.number-index in
    let q = sym (t n (omega arith) c.passes.result (rw c.from-i.ensures at c.passes.ensures)) ∙ c.if-passes.false in
    c.loop-number.invariant p t ∙ find-next p c.args.used.now n (omega arith) ∙ rw q

pub returns : goal.returns
returns g c p t = sym (c.loop-number.invariant p t ∙ find-end p c.args.used.now c.loop-number.number-index (omega arith))
