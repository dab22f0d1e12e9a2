use Rattle.std.proofs.Common.{◌≡◌, rules, arith, sym, ap, ◌∙◌}
use lib.ListN.{length-set}
use Rattle.words.proofs.KeptLaws.{one-at-most, stored-kept}
use Rattle.card_model.specs.Entries.{is_used}
use Rattle.card_directory.proofs.ListedLaws.{listed_start, listed_pushed}
use Rattle.card_directory.proofs.used.list_used.Goals as goal

pub loop-i-init : goal.loop-i-init
loop-i-init c = record { long = search rules; room = omega arith; listed = listed_start _ _ }

pub loop-i-preserved : goal.loop-i-preserved
loop-i-preserved c =
    let l = c.loop-i in
    let t = c.is_used.result in
    let used = sym (ap is_used c.entry_at.ensures) ∙ sym c.is_used.ensures in
    record {
      long = length-set l.numbers l.count l.i ∙ l.invariant.long;
      room = omega (arith, l.invariant.room, c.from-count.ensures, one-at-most t);
      listed =
          rw (c.from-count.ensures, stored-kept l.numbers l.count l.i t (omega (arith, l.invariant.long, l.invariant.room)))
          (listed_pushed _ l.i l.invariant.listed t used);
    }

pub returns : goal.returns
returns c =
    let z : c.loop-i.i ≡ 208 = omega arith in
    rw z at c.loop-i.invariant.listed
