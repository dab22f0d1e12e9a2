-- The numbers that were passed do not have the name.
use Rattle.card_model.specs.Layout.{directory_of}
use Rattle.card_names.specs.Slots.{up_to}
use Rattle.card_names.proofs.NameLaws.{Sought}
use Rattle.card_names.proofs.find_back.Given as goal

abbrev pub invariant-loop-at : goal.invariant-loop-at
invariant-loop-at l = Sought (directory_of l.directory.card.now) l.directory.used.now l.name (up_to l.fn.start) l.at

abbrev pub decreases-loop-at : goal.decreases-loop-at
decreases-loop-at l = up_to l.at
