-- An erase and a compacting save, from what their steps leave. Assumes nothing.
use Prim.Native.Nat.{ℕ, suc, ◌+◌, ◌*◌, ◌-◌, ◌≤◌, ◌<◌}
use mathlib.Core.Path.{◌≡◌, ap, ◌∙◌}
use mathlib.Core.Bool.{false}
use mathlib.Core.List.{List, [], ◌∷◌, ◌++◌}
use native.Mathlib.Omega.{arith}
use lib.Dec.{eqb}
use lib.ListN.{length, take, set, replicate, length-append, length-map}
use Rattle.words.specs.Lists.{concat}
use Rattle.flash_model.specs.Measures.{capacity, top_number}
use Rattle.flash_model.specs.UserBlock.{new_block}
use Rattle.flash_model.specs.Partition.{block_at}
use Rattle.flash_model.specs.Update.{bits_cleared, with_block, holders, other_holders, compacted, erased}
use Rattle.flash_model.proofs.BlockLaws.{new-length}
use Rattle.flash_model.proofs.SoundLaws.{sound-measured}
use Rattle.flash_model.proofs.RoomLaws.{holders-room, others-fit}
use Rattle.flash_partition.specs.Usable.{Usable}
use Rattle.flash_partition.specs.declared.opened.OpenedLog.{OpenedLog}
use Rattle.flash_listing.specs.BlockTests.{NoneMarked, kept_blocks}
use Rattle.flash_partition.proofs.UsableLaws.{usable-measured}
use Rattle.flash_moving.specs.Moving.{AllMoved}
use Rattle.flash_listing.proofs.HolderLaws.{kept-holders}
use Rattle.flash_compaction.proofs.KeptLaws.{kept-others}
use Rattle.flash_compaction.proofs.RewriteLaws.{rest-blanked, front-more}

module _ {image : List ℕ} {log : OpenedLog} (u : Usable image log) (marks : List ℕ) (unmarked : NoneMarked marks) (moved : List ℕ) (next : ℕ) where
  same_size : capacity (length image) ≡ capacity log.m.size
  same_size = ap capacity u.has_size

  -- ---- every holder kept

  module _ (m : AllMoved (kept_blocks marks image log.used) image moved next) where
    erase-next : next ≡ suc (length (holders image))
    erase-next =
        omega (arith, m.next_is, length-map (kept_blocks marks image log.used) (block_at image), ap (λ (l : List (List ℕ)). length l) (kept-holders u marks unmarked))

    pub erase-low : 1 ≤ next
    erase-low = omega (arith, erase-next)

    pub erase-high : next ≤ capacity log.m.size + 1
    erase-high = omega (arith, erase-next, holders-room image, same_size)

    pub erase-is : bits_cleared (take (next * 64) moved ++ replicate (log.m.size - next * 64) 255) (next - 1) ≡ erased image
    unfolding erased
    erase-is =
        rest-blanked image (take (next * 64) moved) (holders image) log.m.size next u.has_size
        (m.front_is ∙ ap (λ (l : List (List ℕ)). take 64 image ++ concat l) (kept-holders u marks unmarked)) erase-next

  -- ---- every other number's holder kept, and a new block

  module _ (n : ℕ) (page : List ℕ) (legal : n ≤ top_number log.m.size) (l : length page ≡ 60) (h : n < length marks)
      (v : ℕ) (m : AllMoved (kept_blocks (set marks n v) image log.used) image moved next) (d : eqb v 0 ≡ false) where
    others-next : next ≡ suc (length (other_holders image n))
    others-next =
        omega (arith, m.next_is, length-map (kept_blocks (set marks n v) image log.used) (block_at image), ap (λ (bs : List (List ℕ)). length bs) (kept-others u marks unmarked n v h d))

    pub others-high : next ≤ capacity log.m.size
    others-high =
        omega (arith, others-next, others-fit image (sound-measured image u.is_sound) n (omega (arith, legal, ap top_number u.has_size)), same_size)

    pub compact-is : (written : List ℕ) → written ≡ with_block moved next (new_block n page)
        → bits_cleared (take ((next + 1) * 64) written ++ replicate (log.m.size - (next + 1) * 64) 255) (next + 1 - 1)
        ≡ compacted image (other_holders image n ++ new_block n page ∷ [])
    compact-is written w =
        let whole = (usable-measured u).whole in
        let fits : next * 64 + 64 ≤ length moved = omega (arith, others-high, m.same_length, u.has_size, whole) in
        let front : take (next * 64) moved ≡ take 64 image ++ concat (other_holders image n) =
        m.front_is ∙ ap (λ (bs : List (List ℕ)). take 64 image ++ concat bs) (kept-others u marks unmarked n v h d) in
        rest-blanked image (take ((next + 1) * 64) written) (other_holders image n ++ new_block n page ∷ []) log.m.size (next + 1) u.has_size
        (ap (take ((next + 1) * 64)) w ∙ front-more image moved (new_block n page) (other_holders image n) next fits (new-length n page l) front)
        (omega (arith, others-next, length-append (other_holders image n) (new_block n page ∷ [])))

-- a legal number has its place among the marks
pub number-low : {image : List ℕ} {log : OpenedLog} → Usable image log → (n : ℕ) → n ≤ top_number log.m.size → n < capacity log.m.size
number-low u n h = omega (arith, h, (usable-measured u).top_number_lem)
