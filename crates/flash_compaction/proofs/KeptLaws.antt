-- The blocks that a pass lists: they rise, and with a mark for one number they are the others' holders. Assumes nothing.
use Prim.Native.Nat.{ℕ, zero, suc, ◌+◌, ◌*◌, ◌-◌, ◌≤◌, ◌<◌}
use mathlib.Core.Path.{◌≡◌, refl, ap, ◌∙◌}
use mathlib.Core.Bool.{Bool, true, false, not, cond}
use mathlib.Core.List.{List, ◌∷◌, map}
use native.Mathlib.Omega.{arith}
use native.Mathlib.Decide.{ℕ_discrete}
use lib.Dec.{eqb}
use lib.ListN.{length, get_or, set, take, drop, length-drop}
use lib.Seq.{take_all, get_or-set_same, get_or-set_other}
use borrow.Author.Tests.{eq-eqb, ne_eqb}
use Rattle.words.specs.Lists.{keep, numbers_from}
use Rattle.words.proofs.ListLaws.{keep-map}
use Rattle.flash_model.specs.Measures.{user_blocks}
use Rattle.flash_model.specs.UserBlock.{number}
use Rattle.flash_model.specs.Partition.{block_at}
use Rattle.flash_model.specs.Update.{is_holder, holders, other_holders}
use Rattle.flash_partition.specs.Usable.{Usable}
use Rattle.flash_partition.specs.declared.opened.OpenedLog.{OpenedLog}
use Rattle.flash_partition.proofs.UsableLaws.{usable-measured, count_most}
use Rattle.flash_listing.specs.BlockTests.{NoneMarked, is_kept, kept_blocks}
use Rattle.flash_listing.proofs.HolderLaws.{kept_by}
use Rattle.flash_moving.specs.Moving.{RisingBlocks}
use Rattle.flash_moving.proofs.ConservedLaws.{rising-lower}

rising-keep : (p : ℕ → Bool) (k n bytes : ℕ) → (k + n) * 64 ≤ bytes → RisingBlocks k bytes (keep p (numbers_from k n))
rising-keep p k zero bytes h = tt
rising-keep p k (suc n) bytes h = go (rising-keep p (suc k) n bytes (omega arith)) (p k)
  where
    go : RisingBlocks (suc k) bytes (keep p (numbers_from (suc k) n)) → (t : Bool) → RisingBlocks k bytes (cond t (k ∷ keep p (numbers_from (suc k) n)) (keep p (numbers_from (suc k) n)))
    go r true = (omega arith, (omega arith, r))
    go r false = rising-lower (suc k) k bytes (keep p (numbers_from (suc k) n)) (omega arith) r

-- a list at the end of an array
pub part-is : (size at : ℕ) (array list : List ℕ) → length array ≡ size → drop at array ≡ list → take (size - at) (drop at array) ≡ list
part-is size at array list l e = take_all (size - at) (drop at array) (omega (arith, length-drop at array, l)) ∙ e

module _ {image : List ℕ} {log : OpenedLog} (u : Usable image log) where
  pub kept-rise : (marks : List ℕ) → RisingBlocks 1 (length image) (kept_blocks marks image log.used)
  unfolding kept_blocks
  kept-rise marks =
      let w = (usable-measured u).whole in
      rising-keep (is_kept marks image) 1 log.used (length image) (omega (arith, w, u.has_size, count_most u))

  module _ (marks : List ℕ) (unmarked : NoneMarked marks) where
    -- with a mark for the saved number
    marked : (n v m : ℕ) → n < length marks → eqb v 0 ≡ false → eqb (get_or (set marks n v) m 0) 0 ≡ not (eqb m n)
    marked n v m h d = go (ℕ_discrete m n)
      where
        go : Dec (m ≡ n) → eqb (get_or (set marks n v) m 0) 0 ≡ not (eqb m n)
        go (yes q) = rw (q, get_or-set_same marks n v 0 h, d, eq-eqb n n refl)
        go (no o) = rw (get_or-set_other marks n m v 0 o, unmarked m, ne_eqb m n o)

    pub kept-others : (n v : ℕ) → n < length marks → eqb v 0 ≡ false → map (block_at image) (kept_blocks (set marks n v) image log.used) ≡ other_holders image n
    unfolding holders other_holders
    kept-others n v h d =
        ap (map (block_at image)) (kept_by u (set marks n v) (λ k. not (eqb (number (block_at image k)) n)) (λ k. marked n v (number (block_at image k)) h d))
        ∙ keep-map (block_at image) (λ b. not (eqb (number b) n)) (keep (is_holder image) (user_blocks (length image)))
