-- What a report's answer is as document 01's numbers and values.
-- Assumes nothing.
use Rattle.std.specs.Prelude.{[], ◌∷◌}
use Rattle.std.specs.declared.result.Result.{Result}
use Rattle.std.specs.declared.result.Result.TheVariants.{Ok, Err}
use Rattle.flash_model.specs.declared.FlashError.{FlashError}
use Rattle.flash_model.specs.Errors.{error_number}
use Rattle.flash_model.specs.Calls.{Reply, code_answer}
use Rattle.flash.specs.declared.Counts.{Counts}

-- A report: "The report gives version, capacity, used and live." (document 01, "Partition measures")
abbrev pub report_answer : Result Counts FlashError → Reply
report_answer (Ok c) = record { code = 0; values = c.version ∷ c.capacity ∷ c.used ∷ c.live ∷ []; buffers = [] }
report_answer (Err e) = code_answer (error_number e) []
