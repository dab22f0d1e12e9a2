use Rattle.card_model.specs.Layout.{table_of, directory_of}
use Rattle.card_directory.specs.Listed.{reached}
use Rattle.card_chains.proofs.PassLaws.{Passed}
use Rattle.card_chains.proofs.walk_files.Given as goal

abbrev pub invariant-loop-i : goal.invariant-loop-i
invariant-loop-i l = Passed (table_of l.directory.card.now) (directory_of l.directory.card.now) (reached l.directory.used.now l.i-index) l.marks l.shared
