use Rattle.flash_bitmap.proofs.FirstBits.{inside, bitmap-part, bits_enough, bits_put}
use Rattle.flash_bitmap.proofs.clear_bits.Goals as goal

pub slice_bounds-clear_first-count : goal.slice_bounds-clear_first-count
slice_bounds-clear_first-count c = inside c.requires.has_measures c.first_bitmap-first.ensures c.start-at.ensures

pub slice_bounds-clear_first-start : goal.slice_bounds-clear_first-start
slice_bounds-clear_first-start c =
    let sub-clear-first = inside c.requires.has_measures c.first_bitmap-first.ensures c.start-at.ensures in
    sub-clear-first

pub clear_first-requires : goal.clear_first-requires
clear_first-requires c =
    let f = c.first_bitmap-first.ensures in
    let s = c.start-at.ensures in
    (bits_enough c.requires.has_measures f s c.args.n c.requires.n_bound.0, rw (bitmap-part c.requires.has_measures f s) c.requires.n_bound.1)

pub returns : goal.returns
returns c = bits_put c.requires.has_measures c.first_bitmap-first.ensures c.start-at.ensures c.args.n c.clear_first.ensures
