use native.Mathlib.Omega.{arith}
use mathlib.Core.Path.{refl}
use Rattle.flash_model.specs.Measures.{blocks, bitmap_blocks, first_bitmap}
use Rattle.flash_model.proofs.MeasureLaws.{measures-of}
use Rattle.flash_measures.proofs.Measures.first_bitmap.Goals as goal

pub overflow_add-result : goal.overflow_add-result
overflow_add-result c = omega (arith, (measures-of _ c.args.self.legal).bounded)

pub overflow_sub-result : goal.overflow_sub-result
unfolding blocks bitmap_blocks first_bitmap
overflow_sub-result c = omega (arith, (measures-of _ c.args.self.legal).first_bitmap_lem)

pub returns : goal.returns
unfolding blocks bitmap_blocks first_bitmap
returns c = refl
