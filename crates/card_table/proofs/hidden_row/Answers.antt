use Rattle.std.proofs.Common.{rules}
use Rattle.card_model.specs.Layout.{table_of}
use Rattle.card_model.specs.Table.{link_at, wrong_hidden, hidden_row}
use Rattle.card_table.specs.Regions.{range_row}
use Rattle.card_table.proofs.hidden_row.Goals as goal

pub returns : goal.returns
unfolding hidden_row wrong_hidden range_row link_at
returns c = c.blocks_row.ensures (wrong_hidden (table_of c.args.card.now)) (λ b h l r q. search rules)
