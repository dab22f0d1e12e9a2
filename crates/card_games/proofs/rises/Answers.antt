use Rattle.std.proofs.Common.{◌-◌, ◌∙◌, rules}
use borrow.Author.Tests.{tests}
use Rattle.std.proofs.lemmas.Iterator.{YieldsList-from_range}
use Rattle.std.proofs.lemmas.Iterator.Search.{all_from_yields_List}
use Rattle.card_model.specs.Layout.{table_of}
use Rattle.card_games.proofs.GameLaws.{led_to, all-rise}
use Rattle.card_games.proofs.rises.Goals as goal

pub returns : goal.returns
returns c =
    let table = table_of c.args.card.now in
    let blocks = c.args.blocks in
    all_from_yields_List (led_to table) _ _ _ c.all.ensures.ran (YieldsList-from_range 1 blocks (blocks - 1) (search rules) (search rules)) (λ x b q k. search (rules, tests))
    ∙ all-rise table blocks c.requires.chained
