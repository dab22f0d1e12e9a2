-- The places of numbers: for each logical number the physical block that holds its contents.
-- Assumes nothing.
use Rattle.std.specs.Prelude.{ℕ, ◌<◌, ◌≡◌, cond, ◌&&◌, List, length, get_or, drop, set}
use Rattle.std.specs.Prelude.{Option, None, Some}
use Rattle.flash_model.specs.UserBlock.{number, right_checksum}
use Rattle.flash_model.specs.Partition.{holder}
use Rattle.flash_listing.specs.BlockTests.{is_new}

-- A place is 0 where there are no contents.
abbrev pub place_of : Option ℕ → ℕ
place_of None = 0
place_of (Some k) = k

-- The places with block k entered for its number, if that has none and the checksum is right.
unfoldable pub entered : ℕ → List ℕ → ℕ → List ℕ → List ℕ
entered end block k places = cond (is_new end block places && right_checksum block) (set places (number block) k) places

-- The places of the numbers below `end`; further ones are as they were.
pub record PlacesOf (image : List ℕ) (end : ℕ) (places places' : List ℕ) : Type 0 where
  pub each : (n : ℕ) → n < end → get_or places' n 0 ≡ place_of (holder image n)
  pub further : drop end places' ≡ drop end places
  pub same_length : length places' ≡ length places
