use Prim.Native.Nat.{ℕ, ◌+◌, ◌*◌, ◌/◌, ◌≤◌, ◌<◌}
use mathlib.Core.Path.{◌≡◌, sym, ◌∙◌}
use mathlib.Core.List.{List}
use native.Mathlib.Omega.{arith}
use lib.Bits.{bit_xor, xor_lt}
use lib.ListN.{length, get_or}
use Rattle.flash_model.specs.Measures.{first_bitmap, capacity}
use Rattle.flash_measures.specs.HasMeasures.{HasMeasures}
use Rattle.flash_measures.proofs.WithinLaws.{measures-known}
use Rattle.flash_bitmap.specs.EqualRun.{WholeRun}
use Rattle.flash_bitmap.proofs.BitReads.{bytes_inside}
use Rattle.flash_bitmap.proofs.HighBitLaws.{xor-pos}
use Rattle.flash_bitmap.proofs.DifferingLaws.{run-to-end, run-to-other}
use Rattle.flash_bitmap.proofs.lowest_differing.Goals as goal

-- the image has all bytes of the bitmap
inside : {image : List ℕ} {size end bitmap blocks : ℕ} → HasMeasures image size → end ≡ first_bitmap size → bitmap ≡ end * 64 → blocks ≡ capacity size → bitmap + (blocks + 7) / 8 ≤ length image
inside o e s b = omega (arith, bytes_inside o, e, s, b)

-- a run that doesn't come to the end stops at another byte
module _ {s : List ℕ} {byte at end to : ℕ} (whole : WholeRun s byte at end to) (h : to ≡ end → ⊥) where
  ended : to < end
  ended = omega (arith, h, whole.run.high)

  other : 0 < bit_xor (get_or s to 0) byte
  other = xor-pos _ _ (whole.ended ended)

pub overflow_add-bits_end : goal.overflow_add-bits_end
overflow_add-bits_end c = omega (arith, c.capacity.ensures, (measures-known c.args.image.sized).two_bytes)

pub overflow_add-bits_end-2 : goal.overflow_add-bits_end-2
overflow_add-bits_end-2 c = omega (arith, inside c.args.image.sized c.first_bitmap-end.ensures c.start-bitmap.ensures c.capacity.ensures)

pub overflow_add-bitmap : goal.overflow_add-bitmap
overflow_add-bitmap c =
    omega (arith, inside c.args.image.sized c.first_bitmap-end.ensures c.start-bitmap.ensures c.capacity.ensures, c.requires, c.capacity.ensures)

pub run_end-at-requires : goal.run_end-at-requires
run_end-at-requires c =
    (omega (arith, c.requires, c.capacity.ensures), inside c.args.image.sized c.first_bitmap-end.ensures c.start-bitmap.ensures c.capacity.ensures)

pub returns-then-at-bits_end : goal.returns-then-at-bits_end
returns-then-at-bits_end c =
    sym (run-to-end c.args.image.sized c.first_bitmap-end.ensures c.start-bitmap.ensures c.capacity.ensures
    c.args.byte c.args.i c.run_end-at.result c.run_end-at.ensures.run c.if-at-bits_end.true)

pub bounds-image-at : goal.bounds-image-at
bounds-image-at c =
    omega (arith, ended c.run_end-at.ensures c.if-at-bits_end.false, inside c.args.image.sized c.first_bitmap-end.ensures c.start-bitmap.ensures c.capacity.ensures)

pub lowest_in_byte-requires : goal.lowest_in_byte-requires
lowest_in_byte-requires c = (
  other c.run_end-at.ensures c.if-at-bits_end.false,
  omega (arith, ended c.run_end-at.ensures c.if-at-bits_end.false, c.capacity.ensures, c.first_bitmap-end.ensures, (measures-known c.args.image.sized).first_bitmap_lem),
)

pub returns : goal.returns
returns c =
    c.lowest_in_byte.ensures
    ∙ sym (run-to-other c.args.image.sized c.first_bitmap-end.ensures c.start-bitmap.ensures c.capacity.ensures
    c.args.byte c.args.i c.run_end-at.result c.run_end-at.ensures.run
    (other c.run_end-at.ensures c.if-at-bits_end.false) (xor_lt 8 _ _ (omega arith) c.ranges.byte.fits))
