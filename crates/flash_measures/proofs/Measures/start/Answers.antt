use native.Mathlib.Omega.{arith}
use Rattle.flash_model.proofs.MeasureLaws.{measures-of}
use Rattle.flash_measures.proofs.Measures.start.Goals as goal

pub overflow_mul-result : goal.overflow_mul-result
overflow_mul-result c =
    let m = measures-of _ c.args.self.legal in
    omega (arith, c.requires, m.first_bitmap_lem, m.whole, m.bounded)
