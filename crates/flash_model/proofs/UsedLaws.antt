-- How many blocks are used after an append and after a compaction, and that they are as many as the live numbers after the
-- latter. Assumes nothing.
use Prim.Native.Nat.{ℕ, suc, ◌≤◌}
use mathlib.Core.Path.{◌≡◌, sym, ap, ◌∙◌}
use mathlib.Core.List.{List, ◌∷◌, [], ◌++◌, map}
use native.Mathlib.Omega.{arith}
use lib.ListN.{length}
use Rattle.words.specs.Lists.{is_some, Distinct}
use Rattle.flash_model.specs.Measures.{capacity, top_number}
use Rattle.flash_model.specs.UserBlock.{number, new_block}
use Rattle.flash_model.specs.Partition.{allocated, Sound, live, used}
use Rattle.flash_model.specs.Update.{appended, holders, other_holders, compacted, erased}
use Rattle.flash_model.proofs.MeasureLaws.{Measured}
use Rattle.flash_model.proofs.SequenceLaws.{UpTo, up-to-one}
use Rattle.flash_model.proofs.BlockLaws.{new-number}
use Rattle.flash_model.proofs.SoundLaws.{sound-measured, used_most, order-used, allocated-used, up-to-order}
use Rattle.flash_model.proofs.AppendLaws.{appended-length, appended-up-to}
use Rattle.flash_model.proofs.CompactLaws.{compacted-length, compacted-up-to}
use Rattle.flash_model.proofs.RoomLaws.{some-numbered, live-count, distinct-numbers, distinct-with, legal-below}
use Rattle.flash_model.proofs.SaveLaws.{Writable, compacted-contents, holders-writable, others-writable}

-- exactly the first u are allocated
used_is : (image : List ℕ) (u : ℕ) → u ≤ capacity (length image) → UpTo (allocated image) (capacity (length image)) u → used image ≡ u
used_is image u h a =
    up-to-one (allocated image) (capacity (length image)) (used image) u (order-used image (up-to-order image u a)) a (used_most image) h

module _ (image : List ℕ) (s : Sound image) where
  m : Measured (length image)
  m = sound-measured image s

  pub appended-used : (new : List ℕ) → length new ≡ 64 → suc (used image) ≤ capacity (length image) → used (appended image (suc (used image)) new) ≡ suc (used image)
  appended-used new l room =
      let e = appended-length image new (suc (used image)) m (omega arith) room l in
      used_is (appended image (suc (used image)) new) (suc (used image)) (rw e room) (rw e (appended-up-to image new (used image) m room l (allocated-used image s)))

  -- after a compaction the used blocks are those kept, and each is a live number's where no two have the same
  module _ (kept : List (List ℕ)) (w : Writable image s kept) where
    same_length : length (compacted image kept) ≡ length image
    same_length = compacted-length image kept m w.room w.whole

    pub compacted-used : used (compacted image kept) ≡ length kept
    compacted-used = used_is (compacted image kept) (length kept) (rw same_length w.room) (rw same_length (compacted-up-to image kept m w.room w.whole))

    used-live : Distinct (map number kept) → used (compacted image kept) ≡ live (compacted image kept)
    used-live d =
        compacted-used
        ∙ sym (live-count (compacted image kept) kept (λ n. ap is_some (compacted-contents image s kept w n) ∙ some-numbered n kept) d (rw same_length (legal-below image m kept w.legal)))

  pub erased-used : used (erased image) ≡ live (erased image)
  unfolding erased
  erased-used = used-live (holders image) (holders-writable image s) (distinct-numbers image)

  pub compaction-used : (n : ℕ) (page : List ℕ) → n ≤ top_number (length image) → length page ≡ 60
      → used (compacted image (other_holders image n ++ new_block n page ∷ [])) ≡ live (compacted image (other_holders image n ++ new_block n page ∷ []))
  compaction-used n page legal l =
      used-live (other_holders image n ++ new_block n page ∷ []) (others-writable image s n page legal l) (distinct-with image n (new_block n page) (new-number n page l))
