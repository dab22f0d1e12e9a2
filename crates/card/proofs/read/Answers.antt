use mathlib.Core.Path.{sym, ◌∙◌}
use Rattle.card.proofs.ReadLaws.{named_used, read_as, left_as}
use Rattle.card.proofs.read.Goals as goal

pub read_block-requires : goal.read_block-requires
read_block-requires c = (c.in_ok-opened.opened.is_open.rows, named_used _ c.args.name.now _ (sym c.named.ensures ∙ c.in_ok-i.ensures.ok_part))

pub returns-clause-value : goal.returns-clause-value
returns-clause-value c =
    read_as _ _ _ _ c.in_ok-opened.ensures.verdict c.if-name-ne12.false c.if-block-ne512.false _ c.in_ok-opened.ensures.opened _
    (sym c.named.ensures ∙ c.in_ok-i.ensures.ok_part) _ c.read_block.ensures.value

pub returns-clause-block_after : goal.returns-clause-block_after
returns-clause-block_after c =
    let whole = rw c.unwrap.ensures at c.as_mut_array.ensures.cases in
    left_as _ _ _ _ c.in_ok-opened.ensures.verdict c.if-name-ne12.false c.if-block-ne512.false _ c.in_ok-opened.ensures.opened _
    (sym c.named.ensures ∙ c.in_ok-i.ensures.ok_part) _ c.read_block.ensures.value _ (rw whole.same at c.read_block.ensures.block_after)
