use native.Mathlib.Omega.{arith}
use Rattle.std.proofs.lemmas.Grind.{common_steps}
use Rattle.flash_model.specs.Measures.{sizes, legal_size}
use Rattle.flash_measures.proofs.legal_size.Goals as goal

pub returns-in-16384 : goal.returns-in-16384
unfolding sizes legal_size
returns-in-16384 c = grind (arith, common_steps)

pub returns-in_default : goal.returns-in_default
unfolding sizes legal_size
returns-in_default c = grind (arith, common_steps)
