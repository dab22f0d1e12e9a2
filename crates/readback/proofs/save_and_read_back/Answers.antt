use Prim.Native.Nat.{ℕ}
use mathlib.Core.Path.{refl, sym}
use mathlib.Core.List.{List, [], ◌∷◌}
use borrow.Author.Tests.{eq-eqb, ne_eqb}
use Rattle.flash_model.specs.Calls.{Call, Reply, code_answer}
use Rattle.flash_model.specs.Calls.{Call.on_page, Call.on_whole, PageCall.read, PageCall.save, WholeCall.check, WholeCall.report, WholeCall.next_live, WholeCall.erase}
use Rattle.flash_model.specs.Runs.{Step, Chain}
use Rattle.flash_model.specs.Errors.{result_code, number_answer}
use Rattle.flash.specs.Answers.{report_answer}
use Rattle.readback.proofs.OwnPageLaws.{final-read, own-page-back}
use Rattle.readback.proofs.save_and_read_back.Goals as goal

abbrev made_step : Call → Reply → List ℕ → Step
made_step made answer image' = record { made = made; answer = answer; image' = image' }

pub returns : goal.returns
returns c =
    let a = c.args in
    let p = a.partition in
    let n = a.number in
    let x = a.expected.now in
    let page = a.page.now in
    let i1 = c.save.new.image in
    let i2 = c.save-2.new.image in
    let i3 = c.erase.new.image in
    let left = c.read.new.page in
    let first = code_answer (result_code c.save.result) (x ∷ page ∷ []) in
    let last = code_answer (result_code c.read.result) (left ∷ []) in
    let steps : List Step =
    made_step (on_page (save p n x page)) first i1
    ∷ made_step (on_whole (check p)) (code_answer (result_code c.check.result) []) i1
    ∷ made_step (on_page (save p a.other page a.others.now)) (code_answer (result_code c.save-2.result) (page ∷ a.others.now ∷ [])) i2
    ∷ made_step (on_whole (report p)) (report_answer c.report.result) i2
    ∷ made_step (on_whole (next_live p n)) (number_answer c.next_live.result []) i2
    ∷ made_step (on_whole (erase p)) (code_answer (result_code c.erase.result) []) i3
    ∷ made_step (on_page (read p n a.back.now)) last i3
    ∷ [] in
    let linked : Chain a.image.now steps =
    (c.save.ensures, (c.check.ensures, (c.save-2.ensures, (c.report.ensures, (c.next_live.ensures, (c.erase.ensures, (c.read.ensures, tt))))))) in
    let mine = eq-eqb n n refl in record {
      answered = final-read _ p n x page a.other a.others.now a.back.now i1 i2 i3 _ _ _ _ c.save.ensures c.save-2.ensures c.erase.ensures c.read.ensures;
      own_page_back = λ own apart.
          let theirs = ne_eqb n a.other (λ q. apart (sym q)) in
          own-page-back _ p n x page a.back.now own steps linked (refl, (refl, (refl, (refl, (refl, (refl, (refl, tt))))))) (rw (mine, theirs)) first last left (rw (mine, theirs)) refl;
    }
