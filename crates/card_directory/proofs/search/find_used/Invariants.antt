-- What is found from here on is what is found from the start.
use Rattle.std.proofs.Common.{◌≡◌, ℕ, Bool, drop}
use Rattle.std.specs.List.{find}
use Rattle.card_directory.specs.Listed.{TestsListed}
use Rattle.card_directory.proofs.search.find_used.Given as goal

abbrev pub invariant-loop-number : goal.invariant-loop-number
invariant-loop-number g l =
    (p : ℕ → Bool) → TestsListed (goal.F-post g l.passes) p l.used → find p l.used ≡ find p (drop l.number-index l.used)
