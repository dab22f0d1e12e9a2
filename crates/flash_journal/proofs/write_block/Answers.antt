use Rattle.std.proofs.Common.{◌∙◌}
use Rattle.flash_journal.proofs.PartLaws.{le-word, written}
use Rattle.flash_journal.proofs.write_block.Goals as goal

pub returns : goal.returns
returns c =
    written c.args.part.now c.args.page.now c.args.number c.requires.0 c.told-page
    (c.copy_from_slice.ensures.after ∙ c.to_le_bytes.ensures ∙ le-word c.args.number c.requires.1)
    c.copy_from_slice-2.ensures.after
    c.checksum-sum.ensures
    (c.copy_from_slice-3.ensures.after ∙ c.to_le_bytes-2.ensures ∙ le-word c.checksum-sum.result c.checksum-sum.type_inv)
