use mathlib.Core.Path.{refl}
use Rattle.slots.proofs.HeaderLaws.{joined_pages}
use Rattle.slots.proofs.headers.join_pages.Goals as goal

pub returns : goal.returns
returns c = joined_pages _ refl c.told-first c.copy_from_slice.ensures.after c.copy_from_slice-2.ensures.after
