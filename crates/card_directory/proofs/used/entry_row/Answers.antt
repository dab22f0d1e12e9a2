use Rattle.std.proofs.Common.{rules, refl, ap, ◌∙◌, ◌<◌, ℕ, Bool, List, get_or}
use Rattle.verdicts.specs.declared.Place.TheVariants.{Entry}
use Rattle.verdicts.specs.Rows.{row_over}
use Rattle.card_model.specs.Layout.{directory_of}
use Rattle.card_model.specs.Entries.{entry_at, wrong_entry, entry_row}
use Rattle.card_directory.proofs.DirectoryLaws.{unused-right}
use Rattle.card_directory.proofs.ListedLaws.{first_from, found-listed}
use Rattle.card_directory.proofs.used.entry_row.Goals as goal

-- whether an entry breaks rule 26
abbrev wrong : List ℕ → ℕ → Bool
wrong card i = wrong_entry (entry_at (directory_of card) i)

pub find_used-requires : goal.find_used-requires
find_used-requires c j h =
    let below : get_or c.args.directory.used.now j 0 < 208 = (c.args.directory.listed.each j h).before_end in
    search rules

pub returns-in-Some : goal.returns-in-Some
unfolding entry_row first_from
returns-in-Some c =
    let card = c.args.directory.card.now in
    let found = c.in-Some.ensures (wrong card) (λ j h r q. search rules) ∙ found-listed c.args.directory.listed (wrong card) (wrong card) (unused-right (directory_of card)) (λ i u. refl) in
    rw c.at.ensures (ap (row_over 26 Entry) found)

pub returns-in-None : goal.returns-in-None
unfolding entry_row first_from
returns-in-None c =
    let card = c.args.directory.card.now in
    let found = c.in-None.ensures (wrong card) (λ j h r q. search rules) ∙ found-listed c.args.directory.listed (wrong card) (wrong card) (unused-right (directory_of card)) (λ i u. refl) in
    ap (row_over 26 Entry) found
