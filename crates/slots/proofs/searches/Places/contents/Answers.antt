use native.Mathlib.Omega.{arith}
use Rattle.slots.proofs.HeaderLaws.{placed_high, placed_none, placed_some}
use Rattle.slots.proofs.searches.Places.contents.Goals as goal

pub block-requires : goal.block-requires
block-requires c = rw c.from.ensures (placed_high c.args.self.found _ c.requires)

pub returns-in-0 : goal.returns-in-0
returns-in-0 c = placed_none c.args.self.found _ c.requires c.in-0.is

pub returns-in_default : goal.returns-in_default
returns-in_default c = rw (c.payload.ensures, c.block.ensures, c.from.ensures) (placed_some c.args.self.found _ c.requires (λ z. omega (arith, z)))
