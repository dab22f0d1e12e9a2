use mathlib.Core.Path.{refl}
use Rattle.flash_model.specs.Bitmap.{bit_place}
use Rattle.flash_bitmap.proofs.bit_place.Goals as goal

pub returns : goal.returns
unfolding bit_place
returns c = refl
