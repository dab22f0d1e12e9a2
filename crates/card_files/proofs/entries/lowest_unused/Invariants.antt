use Rattle.card_files.proofs.UnusedLaws.{Counts}
use Rattle.card_files.proofs.entries.lowest_unused.Given as goal

abbrev pub invariant-loop-i : goal.invariant-loop-i
invariant-loop-i l = Counts l.used l.i
