use Prim.Native.Nat.{◌≤◌}
use mathlib.Core.Path.{refl, sym, ap, ◌∙◌}
use native.Mathlib.Omega.{arith}
use Rattle.words.proofs.LoopLaws.{lowest-end}
use Rattle.flash_model.specs.Measures.{first_bitmap, capacity}
use Rattle.flash_model.specs.Partition.{allocated}
use Rattle.flash_measures.proofs.WithinLaws.{measures-known}
use Rattle.flash_bitmap.specs.Found.{lowest_allocated}
use Rattle.flash_bitmap.proofs.BitReads.{at-inside}
use Rattle.flash_bitmap.proofs.DifferingLaws.{allocated-in-byte, allocated-behind}
use Rattle.flash_bitmap.proofs.lowest_allocated.Goals as goal

pub returns-then-end-from : goal.returns-then-end-from
unfolding lowest_allocated
returns-then-end-from c = sym (lowest-end (allocated c.args.image.bytes.now) c.args.from (first_bitmap _) (omega (arith, c.if-end-from.true, c.first_bitmap-end.ensures, ap first_bitmap c.args.image.sized.has_size)))

pub bit_byte-requires : goal.bit_byte-requires
bit_byte-requires c =
    let is-user : c.args.from ≤ capacity c.args.image.m.size = omega (arith, c.if-end-from.false, c.first_bitmap-end.ensures, (measures-known c.args.image.sized).first_bitmap_lem) in
    (c.requires, is-user)

pub bounds-image-bit_byte : goal.bounds-image-bit_byte
bounds-image-bit_byte c =
    let is-user : c.args.from ≤ capacity c.args.image.m.size = omega (arith, c.if-end-from.false, c.first_bitmap-end.ensures, (measures-known c.args.image.sized).first_bitmap_lem) in
    at-inside c.args.from c.args.image.sized c.bit_byte.ensures c.requires is-user

pub returns-then-rest-ne0 : goal.returns-then-rest-ne0
returns-then-rest-ne0 c =
    c.lowest_in_byte.ensures
    ∙ sym (allocated-in-byte c.args.image.sized c.args.from _ c.first_bitmap-end.ensures c.bit_byte.ensures refl c.requires (omega (arith, c.if-rest-ne0.true)))

pub lowest_differing-requires : goal.lowest_differing-requires
lowest_differing-requires c =
    let is-user : c.args.from ≤ capacity c.args.image.m.size = omega (arith, c.if-end-from.false, c.first_bitmap-end.ensures, (measures-known c.args.image.sized).first_bitmap_lem) in
    omega (arith, is-user, (measures-known c.args.image.sized).first_bitmap_lem)

pub returns : goal.returns
returns c =
    c.lowest_differing.ensures
    ∙ sym (allocated-behind c.args.image.sized c.args.from _ c.first_bitmap-end.ensures c.bit_byte.ensures refl c.requires c.if-rest-ne0.false)
