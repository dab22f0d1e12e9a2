-- What check and list answer once the verdict of the check is known. Assumes nothing.
use Prim.Native.Nat.{ℕ, ◌<◌, ◌-◌}
use mathlib.Core.Path.{◌≡◌}
use mathlib.Core.List.{List}
use native.Mathlib.Omega.{arith}
use Rattle.std.specs.Prelude.{None, Some, Ok, Err}
use Rattle.words.proofs.SearchLaws.{lowest-some}
use Rattle.verdicts.specs.declared.Place.TheVariants.{Whole}
use Rattle.verdicts.specs.declared.Rule.TheVariants.{NoFile}
use Rattle.verdicts.specs.declared.CardError.{CardError}
use Rattle.verdicts.specs.Rows.{done, error_verdict}
use Rattle.verdicts.proofs.RowLaws.{error-refuses}
use Rattle.card_model.specs.Layout.{table_of, directory_of}
use Rattle.card_model.specs.Files as files
use Rattle.card_model.specs.Calls.{verdict_of, check_of, first_used, listed_from, list_of}
use Rattle.card_model.specs.Results.{check_answer, list_answer}

pub check_refused : (card : List ℕ) (e : CardError) → error_verdict e ≡ verdict_of card → check_answer (Err e) ≡ check_of card
unfolding check_of
check_refused card e q = rw (← q, error-refuses e)

pub check_passed : (card : List ℕ) (n : ℕ) → done ≡ verdict_of card → n ≡ files.orphans (table_of card) (directory_of card) → check_answer (Ok n) ≡ check_of card
unfolding check_of
check_passed card n q o = rw (← q, o)

pub ruleset checks = (check_refused, check_passed)

pub list_refused : (card : List ℕ) (start : ℕ) (e : CardError) → error_verdict e ≡ verdict_of card → list_answer (Err e) ≡ list_of card start
unfolding list_of
list_refused card start e q = rw (← q, error-refuses e)

pub list_none : (card : List ℕ) (start : ℕ) → done ≡ verdict_of card → first_used (directory_of card) start ≡ None
    → list_answer (Err (record { rule = NoFile; place = Whole })) ≡ list_of card start
unfolding list_of
list_none card start q n = rw (← q, n)

pub list_some : (card : List ℕ) (start i : ℕ) → done ≡ verdict_of card → first_used (directory_of card) start ≡ Some i → listed_from (directory_of card) (Some i) ≡ list_of card start
unfolding list_of
list_some card start i q n = rw (← q, n)

pub ruleset lists = (list_refused, list_none, list_some)

-- an entry that a listing found is in the directory
pub used_below : (directory : List (List ℕ)) (start i : ℕ) → first_used directory start ≡ Some i → i < 208
unfolding first_used
used_below directory start i e =
    let l = lowest-some _ start (208 - start) i e in
    omega (arith, l.low, l.high)
