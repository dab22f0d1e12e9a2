use Rattle.std.proofs.Common.{sym, ap, ◌∙◌}
use Rattle.card_model.specs.Layout.{card_length}
use Rattle.card_model.specs.Table.{link_of, link_at}
use Rattle.card_files.proofs.ChainLaws.{chain_next}
use Rattle.card_files.proofs.blocks.+free_chain.Goals as goal

pub returns-in-Next : goal.returns-in-Next
unfolding link_at card_length
returns-in-Next t c blocks s =
    chain_next _ c.told-card _ c.requires s (sym (c.classify.ensures ∙ ap link_of c.fat_entry-e.ensures.0) ∙ c.in-Next.is) _ (rw c.set_link.ensures at c.free_chain.ensures)
