use Rattle.std.proofs.Common.{arith}
use Rattle.std.proofs.lemmas.Grind.{common_steps}
use Rattle.card_model.proofs.EntryLaws.{entry-is}
use Rattle.card_directory.proofs.entry.entry_at.Goals as goal

pub returns : goal.returns
returns c = rw (entry-is c.args.card.now c.args.i c.requires, ← c.entry_place-at.ensures.0) (grind (arith, common_steps))
