-- The steps left are the measure.
use Rattle.card_chains.proofs.walking.+block_after.Given as goal

abbrev pub decreases-block_after : goal.decreases-block_after
decreases-block_after l = l.left
