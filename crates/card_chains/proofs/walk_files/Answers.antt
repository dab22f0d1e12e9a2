use Rattle.std.proofs.Common.{rules}
use Rattle.card_chains.proofs.PassLaws.{passed_none, walk_bounds, bad_refused, passed_shared, passed_apart, shared_refused, none_refused, all_marked}
use Rattle.card_chains.proofs.WalkLaws.{walkable-start}
use Rattle.card_chains.proofs.walk_files.Goals as goal
use Rattle.card_chains.proofs.walk_files.Goals.{in-Shared, in-Apart}

pub loop-i-init : goal.loop-i-init
loop-i-init c = passed_none c.requires.unmarked

pub walk-requires-clause-block_bound : goal.walk-requires-clause-block_bound
walk-requires-clause-block_bound c = search (rules, walk_bounds)

pub walk-requires-clause-walkable : goal.walk-requires-clause-walkable
walk-requires-clause-walkable c = walkable-start _ _ _ _ c.loop-i.invariant.are_lengths

pub returns-in-Broken-clause-value : goal.returns-in-Broken-clause-value
returns-in-Broken-clause-value c = rw c.at.ensures (search (rules, bad_refused))

pub loop-i-preserved : goal.loop-i-preserved
loop-i-preserved c =
    elim c.match-walk.branch [
      | in-Shared w ↦ rw (w.shared-is, w.or-shared.ensures) (search (rules, passed_shared, w.in-Shared.ensures))
      | in-Apart w ↦ rw w.shared-is (search (rules, passed_apart, w.in-Apart.ensures))
    ]

pub returns-in-Some-clause-value : goal.returns-in-Some-clause-value
returns-in-Some-clause-value c = rw c.at-in-Some.ensures (search (rules, shared_refused))

pub returns-in-None-clause-value : goal.returns-in-None-clause-value
returns-in-None-clause-value c = search (rules, none_refused)

pub returns-in-None-clause-marked_files : goal.returns-in-None-clause-marked_files
returns-in-None-clause-marked_files c = search (rules, all_marked)
