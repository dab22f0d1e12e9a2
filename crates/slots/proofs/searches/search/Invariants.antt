-- `searches::search` meets its contract. The loop's invariant is `SearchAt`. Assumes nothing.
use Rattle.slots.proofs.SearchLaws.{SearchAt}
use Rattle.slots.proofs.searches.search.Given as goal

abbrev pub invariant-loop-slot : goal.invariant-loop-slot
invariant-loop-slot l = SearchAt l.places.partition.image.now l.product l.free l.slot
