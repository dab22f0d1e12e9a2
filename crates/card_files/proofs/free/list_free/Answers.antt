use Rattle.std.proofs.Common.{arith, refl, ◌-◌, ◌∙◌}
use lib.ListN.{length-set}
use Rattle.words.proofs.KeptLaws.{one-at-most, stored-kept}
use Rattle.card_files.proofs.FreeLaws.{free_start, free_next}
use Rattle.card_files.proofs.free.list_free.Goals as goal

pub loop-b-init : goal.loop-b-init
loop-b-init c = record { long = refl; room = omega arith; passed = free_start _ refl }

pub loop-b-preserved : goal.loop-b-preserved
loop-b-preserved c =
    let l = c.loop-b in
    let t = c.is_free.result in
    record {
      long = length-set l.numbers l.count (l.b - 1) ∙ l.invariant.long;
      room = omega (arith, l.invariant.room, c.from-count.ensures, one-at-most t);
      passed =
          rw c.from-count.ensures
          (free_next _ l.invariant.passed (omega arith) c.from.ensures c.fat_entry.ensures.0 c.classify.ensures c.is_free.ensures
          (stored-kept l.numbers l.count (l.b - 1) t (omega (arith, l.invariant.long, l.invariant.room))));
    }
