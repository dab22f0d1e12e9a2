-- A sound image: what it is known by, and how another with the same header is shown to be sound. Assumes nothing.
use Prim.Native.Nat.{ℕ, ◌≤◌, ◌<◌}
use mathlib.Core.Path.{◌≡◌, refl, sym, ap, ◌∙◌}
use mathlib.Core.Bool.{false}
use mathlib.Core.List.{List}
use native.Mathlib.Omega.{arith}
use lib.ListN.{length, get_or, take}
use lib.Seq.{take-take, get_or-take}
use borrow.Author.Tests.{eq-eqb}
use Rattle.flash_model.specs.Measures.{capacity, user_blocks}
use Rattle.flash_model.specs.Bitmap.{allocated_in, out_of_sequence}
use Rattle.flash_model.specs.Partition.{header_number, version, bitmap_of, allocated, refusal, Sound, used}
use Rattle.flash_model.specs.Meanings.{SoundMeans}
use Rattle.flash_model.specs.Demands.{Keeps}
use Rattle.flash_model.proofs.MeasureLaws.{Measured, measures-of}
use Rattle.flash_model.proofs.SequenceLaws.{UpTo, sequence-up-to, up-to-sequence, keep-length, passes-below}
use Rattle.flash_model.proofs.RowLaws.{is_right_lem}
use Rattle.flash_model.proofs.RefusalLaws.{says-5, unrefused, tested-refusal}

-- ---- none of refusals 1 to 5 applies

pub tests-of : (image : List ℕ) → Sound image → SoundMeans image
tests-of image s = (unrefused image (header_number image) s).0

pub tested-sound : (image : List ℕ) → SoundMeans image → Sound image
tested-sound image m = tested-refusal image m (header_number image) ∙ rw (eq-eqb (header_number image) (header_number image) refl)

pub unrefused-sound : (image : List ℕ) (partition : ℕ) → refusal image partition ≡ 0 → Sound image
unrefused-sound image partition e = tested-sound image (unrefused image partition e).0

pub sound-measured : (image : List ℕ) → Sound image → Measured (length image)
sound-measured image s = measures-of (length image) (tests-of image s).legal_size_lem

-- ---- allocated are the first blocks, as many as are used

module _ (image : List ℕ) where
  pub used_most : used image ≤ capacity (length image)
  unfolding used user_blocks
  used_most = keep-length (allocated image) 1 (capacity (length image))

  pub order-used : out_of_sequence (bitmap_of image) (capacity (length image)) ≡ false → UpTo (allocated image) (capacity (length image)) (used image)
  unfolding used user_blocks allocated out_of_sequence
  order-used e = sequence-up-to (allocated_in (bitmap_of image)) (capacity (length image)) e

  pub allocated-used : Sound image → UpTo (allocated image) (capacity (length image)) (used image)
  allocated-used s = order-used (is_right_lem (says-5 image) (tests-of image s).in_sequence)

  pub up-to-order : (u : ℕ) → UpTo (allocated image) (capacity (length image)) u → out_of_sequence (bitmap_of image) (capacity (length image)) ≡ false
  unfolding out_of_sequence allocated
  up-to-order u b = up-to-sequence (allocated_in (bitmap_of image)) (capacity (length image)) u b

-- ---- another image with the same length and header block

module _ (image image' : List ℕ) (header : take 64 image' ≡ take 64 image) where
  header_at : (i : ℕ) → i < 64 → get_or image' i 0 ≡ get_or image i 0
  header_at i h = sym (get_or-take 64 image' i 0 h) ∙ ap (λ (l : List ℕ). get_or l i 0) header ∙ get_or-take 64 image i 0 h

  pub header-number : header_number image' ≡ header_number image
  unfolding header_number
  header-number = header_at 16 (omega arith)

  header-version : version image' ≡ version image
  unfolding version
  header-version = header_at 17 (omega arith)

  header-letters : take 16 image' ≡ take 16 image
  header-letters = sym (take-take 16 64 image' (omega arith)) ∙ ap (take 16) header ∙ take-take 16 64 image (omega arith)

  pub header-keeps : Sound image → length image' ≡ length image → (u : ℕ) → UpTo (allocated image') (capacity (length image)) u → Keeps image image'
  header-keeps s l u b =
      let m = tests-of image s in
      record {
        still_sound = tested-sound image' (record {
          legal_size_lem = rw l m.legal_size_lem;
          right_magic = header-letters ∙ m.right_magic;
          right_version = rw header-version m.right_version;
          in_sequence = passes-below (allocated image') (capacity (length image')) u (rw l b);
        });
        same_length = l;
        same_header = header;
      }

pub keeps-refl : (image : List ℕ) → Sound image → Keeps image image
keeps-refl image s = record { still_sound = s; same_length = refl; same_header = refl }
