-- What the calls' results are as the answers of the papers: check's and list's.
-- Assumes nothing.
use Rattle.std.specs.Prelude.{ℕ}
use Rattle.std.specs.declared.result.Result.{Result}
use Rattle.std.specs.declared.result.Result.TheVariants.{Ok, Err}
use Rattle.verdicts.specs.declared.CardError.{CardError}
use Rattle.verdicts.specs.Rows.{done, error_verdict}
use Rattle.card_model.specs.declared.ListedEntry.{ListedEntry}
use Rattle.card_model.specs.Answers.{Checked, Listing}
use Rattle.card_model.specs.Calls.{not_checked, not_listed}

abbrev pub check_answer : Result ℕ CardError → Checked
check_answer (Ok orphans) = record { verdict = done; orphans = orphans }
check_answer (Err e) = not_checked (error_verdict e)

abbrev pub list_answer : Result ListedEntry CardError → Listing
list_answer (Ok l) = record {
  verdict = done;
  entry = l.entry;
  kind = l.kind;
  flag = l.flag;
  protection = l.protection;
  first = l.first;
  size = l.size;
  offset = l.offset;
  name = l.name;
  time = l.time;
}
list_answer (Err e) = not_listed (error_verdict e)
