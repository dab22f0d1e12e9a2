use Rattle.std.proofs.Common.{arith, sym, ◌∙◌}
use Rattle.words.proofs.Bools.{or-false-left, or-false-right}
use Rattle.card_table.specs.Regions.{range_row}
use Rattle.card_table.proofs.TableLaws.{NoneWrong, right-next, first_wrong, none_wrong}
use Rattle.card_table.proofs.blocks_row.Goals as goal
use Rattle.card_table.proofs.blocks_row.Goals.{then-any+else-loop-b-then-any-test, else-any}

pub returns-then-wrong : goal.returns-then-wrong
unfolding range_row
returns-then-wrong g c p t =
    let l = c.loop-b-then-any in
    let q = sym (t l.b (omega arith) (omega arith) c.wrong.result c.wrong.ensures) ∙ c.if-wrong.true in
    rw (c.at.ensures, first_wrong p c.args.from c.args.to l.b (omega arith) (omega arith) (l.invariant p t) q)

pub loop-b-preserved : goal.loop-b-preserved
loop-b-preserved g c p t r =
    let l = c.loop-b in
    let q = sym (t l.b (omega arith) (omega arith) c.wrong-any.result c.wrong-any.ensures) ∙ or-false-right l.any _ r in
    right-next p c.args.from l.b (l.invariant p t (or-false-left l.any _ r)) q

pub loop-b-then-any-preserved : goal.loop-b-then-any-preserved
loop-b-then-any-preserved g c p t =
    let l = c.loop-b-then-any in
    let q = sym (t l.b (omega arith) (omega arith) c.wrong.result c.wrong.ensures) ∙ c.if-wrong.false in
    right-next p c.args.from l.b (l.invariant p t) q

pub returns : goal.returns
unfolding range_row
returns g c p t =
    let none : NoneWrong p c.args.from c.args.to =
    elim c.if-any.branch [
      | then-any+else-loop-b-then-any-test w ↦ λ k x y. w.loop-b-then-any.invariant p t k x (omega arith)
      | else-any w ↦ λ k x y. c.loop-b.invariant p t w.if-any.false k x (omega arith)
    ] in
    rw (none_wrong p c.args.from c.args.to none)
