use Rattle.card_model.specs.Layout.{table_of, directory_of}
use Rattle.card_chains.proofs.MarkLaws.{Counted}
use Rattle.card_chains.proofs.count_orphans.Given as goal

abbrev pub invariant-loop-b : goal.invariant-loop-b
invariant-loop-b l = Counted (table_of l.card) (directory_of l.card) l.orphans l.b
