use mathlib.Core.Path.{◌≡◌, ◌∙◌}
use native.Mathlib.Omega.{arith}
use Rattle.words.specs.LittleEndian.{repeated}
use Rattle.flash_bitmap.proofs.RunLaws.{run-byte, run-word}
use Rattle.flash_bitmap.proofs.runs.run_end.Goals as goal

pub loop-i-preserved : goal.loop-i-preserved
loop-i-preserved c =
    let all_alike : c.little8.result ≡ repeated c.args.byte 8 = c.if-little8-word.true ∙ omega arith in
    run-word _ _ _ _ _ c.little8.result c.loop-i.invariant (omega arith) (omega arith) c.little8.ensures all_alike

pub loop-i-2-preserved : goal.loop-i-2-preserved
loop-i-2-preserved c = run-byte _ _ _ _ _ c.loop-i-2.invariant c.loop-i-2-test.true (c.if-s-i.true)

pub returns-else-s-i : goal.returns-else-s-i
returns-else-s-i c = record { run = c.loop-i-2.invariant; ended = λ l. c.if-s-i.false }

pub returns-after-loop-i-2 : goal.returns-after-loop-i-2
returns-after-loop-i-2 c = record { run = c.loop-i-2.invariant; ended = λ l e. absurd (omega (arith, c.loop-i-2-test.false)) }
