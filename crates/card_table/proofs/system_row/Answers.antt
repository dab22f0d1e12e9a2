use Rattle.std.proofs.Common.{rules}
use Rattle.card_model.specs.Layout.{table_of}
use Rattle.card_model.specs.Table.{link_at, wrong_system, system_row}
use Rattle.card_table.specs.Regions.{range_row}
use Rattle.card_table.proofs.system_row.Goals as goal

pub returns : goal.returns
unfolding system_row wrong_system range_row link_at
returns c = c.blocks_row.ensures (wrong_system (table_of c.args.card.now)) (λ b h l r q. search rules)
