-- The names that were passed are in their slots, and what is found from here on is what is found from the start.
use mathlib.Core.Path.{◌≡◌}
use Rattle.card_model.specs.Layout.{directory_of}
use Rattle.card_model.specs.Entries.{name_taken}
use Rattle.card_directory.specs.Listed.{reached}
use Rattle.card_directory.proofs.ListedLaws.{first_from}
use Rattle.card_names.specs.Slots.{Slots}
use Rattle.card_names.proofs.name_row.Given as goal

abbrev pub invariant-loop-j : goal.invariant-loop-j
invariant-loop-j l = record {
  slots : Slots (directory_of l.directory.card.now) l.directory.used.now l.slots l.next l.j;
  passed : first_from (name_taken (directory_of l.directory.card.now)) 0 ≡ first_from (name_taken (directory_of l.directory.card.now)) (reached l.directory.used.now l.j);
}
