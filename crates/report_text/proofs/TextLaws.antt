-- The text of a report, from what the report answers. Assumes nothing.
use Prim.Native.Nat.{ℕ, ◌+◌, ◌<◌, ◌≤◌}
use mathlib.Core.Path.{◌≡◌, refl, sym, ap, ◌∙◌}
use mathlib.Core.Bool.{Bool, true, false, cond}
use mathlib.Core.List.{List, ◌++◌}
use native.Mathlib.Omega.{arith}
use lib.Dec.{eqb}
use lib.ListN.{length, length-append}
use borrow.Author.Tests.{ne_eqb}
use Rattle.std.specs.declared.result.Result.TheVariants.{Ok, Err}
use Rattle.flash_model.specs.declared.FlashError.{FlashError}
use Rattle.flash_model.specs.Errors.{error_number}
use Rattle.flash_model.specs.Measures.{sizes, legal_size}
use Rattle.flash_model.specs.Partition.{length_row, refusal}
use Rattle.flash_model.specs.Calls.{Call, Answered, code_of, Call.on_whole, WholeCall.report}
use Rattle.flash_model.proofs.CallLaws.{answered-code, accepted-values}
use Rattle.flash_model.proofs.ErrorLaws.{error-refuses}
use Rattle.flash.specs.Answers.{report_answer}
use Rattle.flash.specs.declared.Counts.{Counts}
use Rattle.report_text.specs.Text.{line, refused_word, end_line, partition_for, head_lines, block_lines, text_for, report_text}
use Rattle.report_text.proofs.RoomLaws.{line-short, text-short}

-- ---- the room

partition-low : (size : ℕ) → partition_for size < 10000
unfolding partition_for
partition-low size = go (eqb size 16384) (eqb size 32768)
  where
    go : (t u : Bool) → cond t 2 (cond u 3 4) < 10000
    go true u = omega arith
    go false true = omega arith
    go false false = omega arith

pub report_short : (image : List ℕ) → length (report_text image) ≤ 12288
unfolding report_text
report_short image = text-short image (partition_for (length image)) (partition-low (length image))

-- ---- what the report answers

abbrev asked : ℕ → Call
asked partition = on_whole (report partition)

named-text : (image : List ℕ) {partition : ℕ} → partition ≡ partition_for (length image) → text_for image partition ≡ report_text image
unfolding report_text
named-text image named = ap (text_for image) named

module _ {image : List ℕ} {partition : ℕ} where
  pub text_refused : (e : FlashError) → Answered image (asked partition) image (report_answer (Err e)) → text_for image partition ≡ line refused_word (error_number e)
  unfolding code_of text_for
  text_refused e a =
      let code : error_number e ≡ refusal image partition = answered-code image (asked partition) image (report_answer (Err e)) a in
      rw (← code, error-refuses e)

  module _ (c : Counts) (a : Answered image (asked partition) image (report_answer (Ok c))) where
    pub counted_passed : refusal image partition ≡ 0
    unfolding code_of
    counted_passed = sym (answered-code image (asked partition) image (report_answer (Ok c)) a)

    pub text_counted : text_for image partition ≡ head_lines partition c.version c.capacity c.used c.live ++ (block_lines image ++ end_line)
    unfolding text_for
    text_counted =
        let v = accepted-values image (asked partition) image (report_answer (Ok c)) a refl in
        rw counted_passed (cc v)

  -- the partition is the one that the length names
  module _ (named : partition ≡ partition_for (length image)) where
    pub refused_text : (e : FlashError) → Answered image (asked partition) image (report_answer (Err e)) → report_text image ≡ line refused_word (error_number e)
    refused_text e a = sym (named-text image named) ∙ text_refused e a

    module _ (c : Counts) (a : Answered image (asked partition) image (report_answer (Ok c))) where
      pub counted_text : report_text image ≡ head_lines partition c.version c.capacity c.used c.live ++ (block_lines image ++ end_line)
      counted_text = sym (named-text image named) ∙ text_counted c a

      pub counted_room : length (head_lines partition c.version c.capacity c.used c.live) + (length (block_lines image) + 4) ≤ 12288
      counted_room = omega (arith, report_short image, simp length-append at (ap length counted_text))

-- ---- longer than every partition

pub long_text : (image : List ℕ) → 65536 < length image → report_text image ≡ line refused_word 1
unfolding report_text text_for refusal length_row legal_size sizes
long_text image h =
    rw (ne_eqb (length image) 16384 (λ e. omega arith), ne_eqb (length image) 32768 (λ e. omega arith), ne_eqb (length image) 65536 (λ e. omega arith))

pub long_fits : length (line refused_word 1) ≤ 12288
long_fits = omega (arith, line-short refused_word 1 (omega arith))

pub ruleset too_long = (long_text, long_fits)
