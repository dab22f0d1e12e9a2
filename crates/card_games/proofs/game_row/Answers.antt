use Rattle.std.proofs.Common.{rules, refl, ap, ◌∙◌, ◌<◌, ℕ, Bool, List, get_or}
use Rattle.verdicts.specs.declared.Place.TheVariants.{Entry}
use Rattle.verdicts.specs.Rows.{row_over}
use Rattle.card_model.specs.Layout.{table_of, directory_of}
use Rattle.card_model.specs.Files.{breaks_game_rule, game_row}
use Rattle.card_directory.proofs.ListedLaws.{first_from, found-listed}
use Rattle.card_games.proofs.GameLaws.{unused-game}
use Rattle.card_games.proofs.game_row.Goals as goal

-- whether an entry breaks rule 30
abbrev breaks : List ℕ → ℕ → Bool
breaks card = breaks_game_rule (table_of card) (directory_of card)

pub find_used-requires : goal.find_used-requires
find_used-requires c j h =
    let below : get_or c.args.directory.used.now j 0 < 208 = (c.args.directory.listed.each j h).before_end in
    search rules

pub returns-in-Some : goal.returns-in-Some
unfolding game_row first_from
returns-in-Some c =
    let card = c.args.directory.card.now in
    let found = c.in-Some.ensures (breaks card) (λ j h r q. search rules) ∙ found-listed c.args.directory.listed (breaks card) (breaks card) (unused-game _ _) (λ i u. refl) in
    rw c.at.ensures (ap (row_over 30 Entry) found)

pub returns-in-None : goal.returns-in-None
unfolding game_row first_from
returns-in-None c =
    let card = c.args.directory.card.now in
    let found = c.in-None.ensures (breaks card) (λ j h r q. search rules) ∙ found-listed c.args.directory.listed (breaks card) (breaks card) (unused-game _ _) (λ i u. refl) in
    ap (row_over 30 Entry) found
