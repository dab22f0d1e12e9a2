use Rattle.std.proofs.Common.{rules, ◌≡◌, ◌+◌, ◌-◌, take, drop, ◌∙◌}
use native.Mathlib.Omega.{arith}
use Rattle.flash_measures.proofs.WithinLaws.{is_within}
use Rattle.flash_partition.proofs.PartLaws.{block-part}
use Rattle.flash_partition.proofs.blocks.block_at.Goals as goal

pub start-at-requires : goal.start-at-requires
start-at-requires c = omega (arith, (is_within c.args.k c.args.image.sized c.requires).before_bitmap_lem)

pub overflow_add-end : goal.overflow_add-end
overflow_add-end c = omega (arith, (is_within c.args.k c.args.image.sized c.requires).small, c.start-at.ensures)

pub slice_bounds-as_array-end : goal.slice_bounds-as_array-end
slice_bounds-as_array-end c = omega (arith, (is_within c.args.k c.args.image.sized c.requires).inside, c.start-at.ensures)

pub returns : goal.returns
returns c =
    let at = c.start-at in
    let part : c.unwrap.result.now ≡ take (at.result + 64 - at.result) (drop at.result c.args.image.bytes.now) = search rules in
    part ∙ block-part c.args.image.bytes.now at.result c.args.k at.ensures
