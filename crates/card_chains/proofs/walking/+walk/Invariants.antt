-- The blocks left are the measure.
use Rattle.card_chains.proofs.walking.+walk.Given as goal

abbrev pub decreases-walk : goal.decreases-walk
decreases-walk l = l.left
