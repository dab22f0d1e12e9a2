use Rattle.std.proofs.Common.{rules}
use Rattle.card_chains.proofs.WalkLaws.{step_below, walked_none, walked_met, walked_last, walked_next, walkable_next, walked_stop}
use Rattle.card_chains.proofs.walking.+walk.Goals as goal

pub returns-then-left-eq0 : goal.returns-then-left-eq0
returns-then-left-eq0 t c = search (rules, walked_none)

pub returns-then-mark-ne0 : goal.returns-then-mark-ne0
returns-then-mark-ne0 t c = search (rules, walked_met)

pub walk-requires : goal.walk-requires
walk-requires t c = search (rules, step_below, walkable_next)

pub returns-in-Next : goal.returns-in-Next
returns-in-Next t c = search (rules, walked_next)

pub returns-in-Last : goal.returns-in-Last
returns-in-Last t c = search (rules, walked_last)

pub returns-in_default : goal.returns-in_default
returns-in_default t c = search (rules, walked_stop)
