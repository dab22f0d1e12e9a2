use mathlib.Core.Path.{sym, ◌∙◌}
use Rattle.slots.proofs.SearchLaws.{number_there, none_there, search_first, found, next_valid, next_free, searched}
use Rattle.slots.proofs.searches.search.Goals as goal
use Rattle.slots.proofs.searches.search.Goals.{in-Some+else-eq, in-None}

pub loop-slot-init : goal.loop-slot-init
loop-slot-init c = search_first _ _

pub returns-in-Some : goal.returns-in-Some
returns-in-Some c =
    let there = number_there _ c.args.product.now _ _ c.in-Some.ensures in
    rw (sym c.of-places.ensures) (found _ _ c.loop-slot.invariant c.loop-slot-test.true (there.1 ∙ sym c.eq.ensures ∙ c.if-eq.true))

pub loop-slot-preserved : goal.loop-slot-preserved
loop-slot-preserved c =
    let at = c.loop-slot.invariant in
    let low = c.loop-slot-test.true in elim c.match-product.branch [
      | in-Some+else-eq w ↦
          let there = number_there _ c.args.product.now _ _ w.in-Some.ensures in
          rw w.free-is (next_valid _ _ at low there.0 (there.1 ∙ sym w.eq.ensures ∙ w.if-eq.false))
      | in-None w ↦
          let there = none_there _ c.args.product.now _ w.in-None.ensures in
          rw (w.free-is, w.or-free.ensures) (next_free _ _ at low there.0 there.1)
    ]

pub returns-in-Some-free : goal.returns-in-Some-free
returns-in-Some-free c = rw (sym c.of-places.ensures) (searched _ _ c.loop-slot.invariant c.loop-slot-test.false c.in-Some-free.is)

pub returns-in-None-free : goal.returns-in-None-free
returns-in-None-free c = rw (sym c.of-places.ensures) (searched _ _ c.loop-slot.invariant c.loop-slot-test.false c.in-None-free.is)
