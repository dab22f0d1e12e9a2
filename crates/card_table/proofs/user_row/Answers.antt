use Rattle.std.proofs.Common.{rules}
use Rattle.card_model.specs.Layout.{table_of}
use Rattle.card_model.specs.Table.{link_at, wrong_user, user_row}
use Rattle.card_table.specs.Regions.{range_row}
use Rattle.card_table.proofs.user_row.Goals as goal

pub returns : goal.returns
unfolding user_row wrong_user range_row link_at
returns c = c.blocks_row.ensures (wrong_user (table_of c.args.card.now)) (λ b h l r q. search rules)
