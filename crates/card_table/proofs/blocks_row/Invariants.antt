-- The blocks that were passed are right: in the first loop, while none was found wrong.
use Rattle.std.proofs.Common.{◌≡◌, ℕ, Bool, false}
use Rattle.card_table.specs.Regions.{Tests}
use Rattle.card_table.proofs.TableLaws.{NoneWrong}
use Rattle.card_table.proofs.blocks_row.Given as goal

abbrev pub invariant-loop-b : goal.invariant-loop-b
invariant-loop-b g l = (p : ℕ → Bool) → Tests (goal.F-post g l.wrong) p l.from l.to → l.any ≡ false → NoneWrong p l.from l.b

abbrev pub invariant-loop-b-then-any : goal.invariant-loop-b-then-any
invariant-loop-b-then-any g l = (p : ℕ → Bool) → Tests (goal.F-post g l.wrong) p l.from l.to → NoneWrong p l.from l.b
