-- What the calls know once refusals 1 to 5 don't apply.
-- Assumes nothing.
use Rattle.std.specs.Prelude.{ℕ, ◌≡◌, List, length}
use Rattle.flash_model.specs.Partition.{Sound, used}
use Rattle.flash_partition.specs.declared.opened.OpenedLog.{OpenedLog}

-- The image is a sound partition, with these measures, and `used` of its user blocks are allocated.
pub record Usable (image : List ℕ) (log : OpenedLog) : Type 0 where
  pub has_size : length image ≡ log.m.size
  pub is_sound : Sound image
  pub used_is : log.used ≡ used image
