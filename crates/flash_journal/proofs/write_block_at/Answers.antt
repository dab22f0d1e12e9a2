use mathlib.Core.Path.{ap, ◌∙◌}
use Rattle.flash_model.specs.Update.{with_block}
use Rattle.flash_measures.proofs.WithinLaws.{is_within}
use Rattle.flash_journal.proofs.PartLaws.{part-put}
use borrow.Author.Rules.{rules}
use Rattle.flash_journal.proofs.write_block_at.Goals as goal

pub start-at-requires : goal.start-at-requires
start-at-requires c =
    let w = is_within c.args.k c.requires.has_measures c.requires.k_bound.0 in
    search rules

pub overflow_add-end : goal.overflow_add-end
overflow_add-end c =
    let w = is_within c.args.k c.requires.has_measures c.requires.k_bound.0 in
    search rules

pub slice_bounds-write_block-end : goal.slice_bounds-write_block-end
slice_bounds-write_block-end c =
    let w = is_within c.args.k c.requires.has_measures c.requires.k_bound.0 in
    search rules

pub returns : goal.returns
returns c =
    let w = c.write_block in
    rw c.start-at.ensures
    (part-put c.args.image.now w.new.part c.args.k ∙ ap (with_block c.args.image.now c.args.k) w.ensures)
