-- Runs of equal bytes. Assumes nothing.
use Rattle.std.specs.Prelude.{ℕ, ◌≤◌, ◌<◌, ◌≡◌, List, get_or}

-- Every byte from `from` up to `to`, which is not past `end`, is `byte`.
pub record EqualRun (s : List ℕ) (byte from end to : ℕ) : Type 0 where
  pub low : from ≤ to
  pub high : to ≤ end
  pub alike : (i : ℕ) → from ≤ i → i < to → get_or s i 0 ≡ byte

-- And the run goes no further: before `end` another byte stands there.
pub record WholeRun (s : List ℕ) (byte from end to : ℕ) : Type 0 where
  pub run : EqualRun s byte from end to
  pub ended : to < end → get_or s to 0 ≡ byte → ⊥
