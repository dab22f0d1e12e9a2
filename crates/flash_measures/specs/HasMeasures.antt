-- What functions over an image ask of its measures.
-- Assumes nothing.
use Rattle.std.specs.Prelude.{ℕ, ◌≡◌, true, List, length}
use Rattle.flash_model.specs.Measures.{legal_size}

-- The image has these measures, and they are legal.
pub record HasMeasures (image : List ℕ) (size : ℕ) : Type 0 where
  pub has_size : length image ≡ size
  pub is_legal : legal_size size ≡ true
