use mathlib.Core.Path.{◌∙◌}
use native.Mathlib.Omega.{arith}
use Rattle.std.proofs.Common.{rules}
use Rattle.card_chains.proofs.MarkLaws.{counted_none, counted_next, counted_all}
use Rattle.card_chains.proofs.count_orphans.Goals as goal

pub loop-b-init : goal.loop-b-init
loop-b-init c = counted_none

pub loop-b-preserved : goal.loop-b-preserved
loop-b-preserved c = search (rules, counted_next)

pub returns : goal.returns
returns c = c.from.ensures ∙ counted_all c.loop-b.invariant (omega arith)
