-- `find_places` meets its contract. The loop's invariant: the pass is at the block below k, with the places as marks, and those that are not 0
-- are right.
use Rattle.std.proofs.Common.{◌-◌}
use Rattle.flash_listing.specs.Passing.{PassAt}
use Rattle.flash_listing.proofs.PlaceLaws.{Placed}
use Rattle.flash_model.specs.Measures.{capacity}
use Rattle.flash_listing.proofs.places.find_places.Given as goal

abbrev pub invariant-loop-k : goal.invariant-loop-k
invariant-loop-k l = PassAt l.places l.p (l.k - 1) × Placed l.p.image.now (capacity l.p.log.m.size) l.initial.places l.places
