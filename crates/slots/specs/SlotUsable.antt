-- What the slot calls know once refusals 1 to 5 don't apply.
-- Assumes nothing.
use Rattle.std.specs.Prelude.{ℕ, ◌≤◌, ◌<◌, ◌≡◌, List, length, get_or}
use Rattle.flash_model.specs.Partition.{refusal, holder}
use Rattle.flash_measures.specs.HasMeasures.{HasMeasures}
use Rattle.flash_partition.specs.Usable.{Usable}
use Rattle.flash_partition.specs.declared.opened.OpenedLog.{OpenedLog}
use Rattle.flash_listing.specs.NumberPlaces.{place_of}

-- The image is a sound partition 3 of 32,768 bytes, and the log is of it.
pub record SlotUsable (image : List ℕ) (log : OpenedLog) : Type 0 where
  pub is_usable : Usable image log
  pub has_size : log.m.size ≡ 32768
  pub unrefused : refusal image 3 ≡ 0

-- These are the places of such an image's 510 logical numbers.
pub record SlotPlaces (image : List ℕ) (size : ℕ) (places : List ℕ) : Type 0 where
  pub has_measures : HasMeasures image size
  pub size_is : size ≡ 32768
  pub long : 510 ≤ length places
  pub each : (n : ℕ) → n < 510 → get_or places n 0 ≡ place_of (holder image n)
