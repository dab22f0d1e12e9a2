use mathlib.Core.Path.{ap}
use native.Mathlib.Omega.{arith}
use Prim.Native.Nat.{ℕ, ◌-◌}
use Rattle.flash_model.specs.Measures.{capacity}
use Rattle.flash_model.proofs.MeasureLaws.{measures-of}
use Rattle.flash_measures.proofs.Measures.capacity.Goals as goal

pub overflow_sub-result : goal.overflow_sub-result
overflow_sub-result c = omega (arith, (measures-of _ c.args.self.legal).first_bitmap_lem, c.first_bitmap.ensures)

pub returns : goal.returns
unfolding capacity
returns c = ap (λ (n : ℕ). n - 1) c.first_bitmap.ensures
