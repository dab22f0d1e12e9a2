use Rattle.std.proofs.Common.{sym, ◌∙◌, arith}
use mathlib.Core.Bool.{true≢false}
use borrow.Author.Tests.{ne_eqb}
use Rattle.flash_partition.proofs.UsableLaws.{usable-measured, count_most}
use Rattle.flash_listing.proofs.MarkLaws.{new-below}
use Rattle.flash_listing.proofs.ListedLaws.{known-next, passed-known, passed-marked}
use Rattle.flash_listing.proofs.mark_run.Goals as goal
use Rattle.flash_listing.proofs.mark_run.Goals.{then-this-ne0, else-this-ne0}

pub returns-then-not-is_new-clause-passed : goal.returns-then-not-is_new-clause-passed
returns-then-not-is_new-clause-passed g c =
    let v = c.loop-at.invariant in
    passed-known v (known-next (omega arith) v.pass_at (omega arith) c.block-part.ensures c.capacity-end.ensures (sym c.is_new.ensures ∙ c.if-not-is_new.true))

pub mark_number-marked-requires : goal.mark_number-marked-requires
mark_number-marked-requires g c =
    omega (arith, new-below _ _ _ (sym c.is_new.ensures ∙ c.if-not-is_new.false), c.capacity-end.ensures, c.loop-at.invariant.pass_at.long)

pub overflow_cast-kept : goal.overflow_cast-kept
overflow_cast-kept g c = omega (arith, c.loop-at.invariant.pass_at.not_past_end, (usable-measured c.args.p.usable).two_bytes)

pub overflow_sub-kept : goal.overflow_sub-kept
overflow_sub-kept g c =
    let v = c.loop-at.invariant in
    omega (arith, v.room, v.same_length, c.requires.bound, c.requires.room (rw (ne_eqb _ _ c.if-this-ne0.true)), count_most c.args.p.usable)

pub overflow_sub-kept-then-this-ne0 : goal.overflow_sub-kept-then-this-ne0
overflow_sub-kept-then-this-ne0 g c =
    let v = c.loop-at.invariant in
    omega (arith, v.room, v.same_length, c.requires.bound, c.requires.room (rw (ne_eqb _ _ c.if-this-ne0.true)), count_most c.args.p.usable)

pub loop-at-preserved : goal.loop-at-preserved
loop-at-preserved g c =
    passed-marked c.loop-at.invariant (omega arith) (omega arith) c.block-part.ensures c.capacity-end.ensures (sym c.is_new.ensures ∙ c.if-not-is_new.false)
    c.mark_number-marked.ensures.value c.mark_number-marked.ensures.marks_after (omega (arith, c.requires.bound, count_most c.args.p.usable)) c.requires.room
    (elim c.if-this-ne0.branch [ then-this-ne0 w ↦ λ l. w.kept-is | else-this-ne0 w ↦ λ l. absurd (true≢false (sym l ∙ rw w.if-this-ne0.false)) ])
    c.if-this-ne0.auto.kept
