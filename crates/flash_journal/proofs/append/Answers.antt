use mathlib.Core.Path.{◌∙◌}
use Rattle.flash_model.proofs.BlockLaws.{new-length}
use Rattle.flash_journal.proofs.AppendLaws.{still-free, then-cleared}
use Rattle.flash_journal.proofs.append.Goals as goal

pub clear_bit-requires : goal.clear_bit-requires
clear_bit-requires c =
    let o = c.requires.has_measures in
    let user = c.requires.le_k in record { has_measures = record { has_size = c.write_block_at.auto.image ∙ o.has_size; is_legal = o.is_legal }; le_k = (user.0, user.1); k_value = still-free _ _ c.args.k c.write_block_at.ensures o user.0 user.1 (new-length c.args.number c.args.page.now c.told-page) user.2 }

pub returns : goal.returns
returns c = then-cleared _ _ c.args.k c.write_block_at.ensures c.clear_bit.ensures
