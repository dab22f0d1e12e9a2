use Rattle.std.proofs.Common.{rules, ◌∙◌}
use borrow.Author.Tests.{tests}
use Rattle.std.proofs.lemmas.Iterator.{YieldsList-from_range}
use Rattle.std.proofs.lemmas.Iterator.Search.{any_from_yields_List}
use Rattle.card_model.specs.Layout.{directory_of}
use Rattle.card_model.specs.Entries.{is_game, entry_at}
use Rattle.card_games.proofs.GameLaws.{any-list}
use Rattle.card_games.proofs.game_before.Goals as goal

pub returns : goal.returns
returns c =
    any_from_yields_List (λ j. is_game (entry_at (directory_of c.args.card.now) j)) _ _ _ c.any.ensures.ran (YieldsList-from_range 0 c.args.i c.args.i (search rules) (search rules)) (λ x b q k. search (rules, tests))
    ∙ any-list _ 0 c.args.i
