use Rattle.std.proofs.Common.{refl}
use Rattle.card_names.proofs.NameLaws.{sought-start}
use Rattle.card_names.proofs.find_back.Goals as goal

pub loop-at-init : goal.loop-at-init
loop-at-init c = sought-start _ _ _ _ refl c.requires.in_slot
