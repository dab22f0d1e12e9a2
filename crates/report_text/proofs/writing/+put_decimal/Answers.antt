use Rattle.std.proofs.Common.{arith, length, length-append, ap, ◌∙◌}
use Rattle.report_text.proofs.DecimalLaws.{decimal_digit, decimal_length}
use Rattle.report_text.proofs.writing.+put_decimal.Goals as goal
use Rattle.report_text.proofs.writing.+put_decimal.Goals.{then-n-ge10, else-n-ge10}

pub extend_from_slice-requires : goal.extend_from_slice-requires
extend_from_slice-requires t c = elim c.if-n-ge10.branch [
  | then-n-ge10 w ↦ omega (arith, decimal_length c.args.n w.if-n-ge10.true, simp length-append at (ap length (w.text-is ∙ w.put_decimal.ensures)))
  | else-n-ge10 w ↦ omega (arith, ap length (decimal_digit c.args.n w.if-n-ge10.false), ap length w.text-is)
]
