-- What the definitions of a partition mean, in plain logic: document 01, "Partition measures", and refusals 1 to 5.
-- Assumes nothing.
use Rattle.std.specs.Prelude.{ℕ, ◌≤◌, ◌<◌, ◌≡◌, true, false, List, [], ◌∷◌, map, ◌↔◌, ◌≢◌, eqb, length, take}
use Rattle.std.specs.Prelude.{None, Some}
use Rattle.words.specs.Lists.{any_of}
use Rattle.words.specs.Words.{word, same_bytes}
use Rattle.checksum.specs.Crc.{checksum_of}
use Rattle.flash_model.specs.Measures.{legal_size, capacity, top_number}
use Rattle.flash_model.specs.UserBlock.{number, payload, right_checksum}
use Rattle.flash_model.specs.Partition.{block_at, magic, header_number, version, allocated, refusal, Sound, contents, live, used, lowest_live}
use Rattle.flash_model.specs.Update.{holders}

-- Sound: refusals 1 to 5 don't apply.
pub record SoundMeans (image : List ℕ) : Type 0 where
  pub legal_size_lem : legal_size (length image) ≡ true
  pub right_magic : take 16 image ≡ magic
  pub right_version : version image ≤ 1
  pub in_sequence : (j k : ℕ) → 1 ≤ j → j < k → k ≤ capacity (length image) → allocated image k ≡ true → allocated image j ≡ true

-- User block k is allocated, has the number and a right checksum.
pub record HoldsAt (image : List ℕ) (n k : ℕ) : Type 0 where
  pub low : 1 ≤ k
  pub high : k ≤ capacity (length image)
  pub is_allocated : allocated image k ≡ true
  pub has_number_lem : number (block_at image k) ≡ n
  pub is_right_lem : right_checksum (block_at image k) ≡ true

-- The page is the contents of a number: "the payload of the highest allocated user block with that number and a right
-- checksum", the number not above M-2.
pub record HighestHolds (image : List ℕ) (n : ℕ) (page : List ℕ) : Type 0 where
  pub in_range : n ≤ top_number (length image)
  pub at : ℕ
  pub here : HoldsAt image n at
  pub none_above : (k : ℕ) → at < k → HoldsAt image n k → ⊥
  pub page_is : page ≡ payload (block_at image at)

-- The number is live, not below the start, and none between is.
pub record NextLiveIs (image : List ℕ) (start n : ℕ) : Type 0 where
  pub not_below : start ≤ n
  pub is_live_lem : contents image n ≢ None
  pub none_between : (m : ℕ) → start ≤ m → m < n → contents image m ≡ None

-- An allocated user block follows a free one.
pub record Gap (image : List ℕ) : Type 0 where
  pub free_block : ℕ
  pub later_block : ℕ
  pub low : 1 ≤ free_block
  pub later : free_block < later_block
  pub high : later_block ≤ capacity (length image)
  pub is_free_lem : allocated image free_block ≡ false
  pub is_allocated : allocated image later_block ≡ true

-- Refusals 1 to 5 of "Numbers the bench will see", each "given exactly when", and none before its turn.
pub record RefusalsMean (image : List ℕ) (partition : ℕ) : Type 0 where
  pub row_1 : (refusal image partition ≡ 1) ↔ (legal_size (length image) ≡ false)
  pub row_2 : (refusal image partition ≡ 2) ↔ ((legal_size (length image) ≡ true) × (take 16 image ≢ magic))
  pub row_3 : (refusal image partition ≡ 3)
      ↔ ((legal_size (length image) ≡ true) × (take 16 image ≡ magic) × (header_number image ≢ partition))
  pub row_4 : (refusal image partition ≡ 4)
      ↔ ((legal_size (length image) ≡ true) × (take 16 image ≡ magic) × (header_number image ≡ partition) × (1 < version image))
  pub row_5 : (refusal image partition ≡ 5)
      ↔ ((legal_size (length image) ≡ true) × (take 16 image ≡ magic) × (header_number image ≡ partition) × (version image ≤ 1) × Gap image)

-- Rising numbers, all above `low`.
abbrev pub Rising : ℕ → List ℕ → Type 0
Rising low [] = Unit {0}
Rising low (k ∷ ks) = (low < k) × Rising k ks

-- These are the physical blocks that hold contents, in rising order.
pub record HoldersAt (image places : List ℕ) : Type 0 where
  pub blocks_are : holders image ≡ map (block_at image) places
  pub in_order : Rising 0 places
  pub each_holds : (k : ℕ) → (any_of (eqb k) places ≡ true) ↔ ((n : ℕ) × (page : List ℕ) × (h : HighestHolds image n page) × (h.at ≡ k))

pub record Meanings : Type 0 where
  pub refusals_mean : (image : List ℕ) (partition : ℕ) → RefusalsMean image partition
  pub sound_means : (image : List ℕ) → Sound image ↔ SoundMeans image
  pub refused_not : (image : List ℕ) (partition : ℕ) → (refusal image partition ≡ 0) ↔ (Sound image × (header_number image ≡ partition))
  pub contents_are : (image : List ℕ) (n : ℕ) (page : List ℕ) → (contents image n ≡ Some page) ↔ HighestHolds image n page
  pub page_length : (image : List ℕ) (n : ℕ) (page : List ℕ) → Sound image → contents image n ≡ Some page → length page ≡ 60
  pub right_checksum_lem : (block : List ℕ) → (right_checksum block ≡ true) ↔ (word block 62 ≡ checksum_of (take 62 block))
  pub used_most : (image : List ℕ) → used image ≤ capacity (length image)
  pub used_are : (image : List ℕ) → Sound image → (k : ℕ) → 1 ≤ k → k ≤ capacity (length image) → (allocated image k ≡ true) ↔ (k ≤ used image)
  pub holders_are : (image : List ℕ) → (places : List ℕ) × HoldersAt image places
  pub live_are : (image : List ℕ) → Sound image → live image ≡ length (holders image)
  pub next_live_lem : (image : List ℕ) (start n : ℕ) → Sound image → (lowest_live image start ≡ Some n) ↔ NextLiveIs image start n
  pub same_bytes_lem : (a b : List ℕ) → (same_bytes a b ≡ true) ↔ (a ≡ b)
