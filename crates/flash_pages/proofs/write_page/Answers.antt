use mathlib.Core.Path.{◌∙◌}
use native.Mathlib.Omega.{arith}
use Rattle.flash_model.proofs.MeasureLaws.{legal-le}
use Rattle.flash_partition.proofs.UsableLaws.{usable-measured}
use Rattle.flash_pages.proofs.StoreRules.{appends, written-compact}
use Rattle.flash_pages.proofs.write_page.Goals as goal

pub overflow_add-log : goal.overflow_add-log
overflow_add-log c =
    let u = c.requires.usable in
    omega (arith, (appends u c.can_append.ensures c.if-can_append.true).has_room, (usable-measured u).two_bytes)

pub append-requires-clause-le_k : goal.append-requires-clause-le_k
append-requires-clause-le_k c =
    let a = appends c.requires.usable c.can_append.ensures c.if-can_append.true in
    (omega arith, a.has_room, a.next_free)

pub append-requires-clause-number_bound : goal.append-requires-clause-number_bound
append-requires-clause-number_bound c =
    let m = usable-measured c.requires.usable in
    omega (arith, legal-le c.args.log.m.size c.args.number c.requires.number_value, m.top_number_lem, m.two_bytes)

pub compact-requires-clause-number_bound : goal.compact-requires-clause-number_bound
compact-requires-clause-number_bound c = legal-le c.args.log.m.size c.args.number c.requires.number_value

pub returns-then-can_append : goal.returns-then-can_append
returns-then-can_append c = c.append.ensures ∙ (appends c.requires.usable c.can_append.ensures c.if-can_append.true).written c.args.number c.args.page.now

pub returns-else-can_append : goal.returns-else-can_append
returns-else-can_append c = c.compact.ensures ∙ written-compact c.requires.usable c.can_append.ensures c.if-can_append.false c.args.number c.args.page.now
