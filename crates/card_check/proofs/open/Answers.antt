use Rattle.std.proofs.Common.{rules}
use Rattle.card_check.proofs.RowLaws.{same_card}
use Rattle.card_check.proofs.open.Goals as goal

pub returns-in-Ok-clause-opened : goal.returns-in-Ok-clause-opened
returns-in-Ok-clause-opened c = same_card _ c.in-Ok.card.now _ (search rules) c.open_right_length.ensures.opened
