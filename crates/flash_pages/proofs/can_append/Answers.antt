use native.Mathlib.Omega.{arith}
use Rattle.flash_pages.proofs.StoreRules.{append_blank_block}
use Rattle.flash_pages.proofs.can_append.Goals as goal

pub returns-then-p-capacity : goal.returns-then-p-capacity
returns-then-p-capacity c = append_blank_block c.args.p.usable (omega arith) _ _ c.block.ensures c.eq.ensures
