-- What is there with the lines from `from` on is the whole.
use Rattle.std.proofs.Common.{◌≡◌, ◌-◌, ◌++◌, length}
use Rattle.flash_model.specs.Measures.{capacity}
use Rattle.report_text.specs.Text.{block_lines}
use Rattle.report_text.proofs.BlockLaws.{lines_from}
use Rattle.report_text.proofs.put_blocks.Given as goal

abbrev pub invariant-loop-n : goal.invariant-loop-n
invariant-loop-n l = l.text ++ lines_from l.image l.from ≡ l.initial.text ++ block_lines l.image

abbrev pub decreases-loop-n : goal.decreases-loop-n
decreases-loop-n l = capacity (length l.image) - l.from
