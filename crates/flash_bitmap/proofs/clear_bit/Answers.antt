use Prim.Native.Nat.{◌<◌}
use lib.ListN.{length}
use native.Mathlib.Omega.{arith}
use Rattle.flash_bitmap.proofs.BitReads.{place-low, at-inside}
use Rattle.flash_bitmap.proofs.BitWrites.{bit-fits, now-clear}
use Rattle.flash_bitmap.proofs.clear_bit.Goals as goal

pub bounds-image-at : goal.bounds-image-at
bounds-image-at c =
    let inside : c.bit_byte-at.result < length c.args.image.now = at-inside c.args.k c.requires.has_measures c.bit_byte-at.ensures c.requires.le_k.0 c.requires.le_k.1 in
    inside

pub overflow_cast-image : goal.overflow_cast-image
overflow_cast-image c =
    let small : c.bit_place.result < 8 = omega (arith, c.bit_place.ensures, place-low c.args.k) in
    omega (arith, small)

pub overflow_shl-image : goal.overflow_shl-image
overflow_shl-image c =
    let small : c.bit_place.result < 8 = omega (arith, c.bit_place.ensures, place-low c.args.k) in
    omega (arith, small)

pub overflow_sub-image : goal.overflow_sub-image
overflow_sub-image c = bit-fits c.args.k c.requires.has_measures c.bit_byte-at.ensures c.bit_place.ensures c.requires.k_value (c.slice_known-2-1.given _).fits

pub bounds-image-at-2 : goal.bounds-image-at-2
bounds-image-at-2 c =
    let inside : c.bit_byte-at.result < length c.args.image.now = at-inside c.args.k c.requires.has_measures c.bit_byte-at.ensures c.requires.le_k.0 c.requires.le_k.1 in
    inside

pub returns : goal.returns
returns c = now-clear c.args.k c.requires.has_measures c.bit_byte-at.ensures c.bit_place.ensures c.requires.k_value (c.slice_known-2-1.given _).fits
