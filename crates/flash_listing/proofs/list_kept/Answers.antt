use Rattle.std.proofs.Common.{refl, sym, ◌∙◌, arith}
use Rattle.flash_listing.proofs.LeftLaws.{marks-after}
use Rattle.flash_listing.proofs.ListedLaws.{listed-first, listed-all}
use Rattle.flash_listing.proofs.list_kept.Goals as goal

pub returns : goal.returns
returns c =
    let p = c.args.p in
    let v = c.pass.ensures in
    record {
      few = omega (arith, v.room);
      listed = rw (sym v.same_length) (sym (listed-all c.pass.new.marks p.image.now c.pass.new.kept c.pass.result) ∙ v.left refl ∙ listed-first c.args.marks.now p.image.now c.args.kept.now p.log.used);
      grown = v.grown refl;
      marks_are = marks-after v.added v.pass_at;
    }
