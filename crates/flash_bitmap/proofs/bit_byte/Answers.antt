use native.Mathlib.Omega.{arith}
use Rattle.flash_model.specs.Bitmap.{bit_byte}
use Rattle.flash_model.proofs.MeasureLaws.{measures-of}
use Rattle.flash_bitmap.proofs.BitReads.{byte_inside}
use Rattle.flash_bitmap.proofs.bit_byte.Goals as goal

pub overflow_add-result : goal.overflow_add-result
unfolding bit_byte
overflow_add-result c =
    let m = measures-of c.args.m.size c.args.m.legal in
    omega (arith, byte_inside c.args.m.size c.args.k m c.requires.0 c.requires.1, m.bounded, c.start.ensures, c.first_bitmap-first.ensures)

pub returns : goal.returns
unfolding bit_byte
returns c = rw (c.start.ensures, c.first_bitmap-first.ensures)
