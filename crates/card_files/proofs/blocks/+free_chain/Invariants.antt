-- The blocks left are the measure.
use Rattle.card_files.proofs.blocks.+free_chain.Given as goal

abbrev pub decreases-free_chain : goal.decreases-free_chain
decreases-free_chain l = l.left
