-- The search for a number's contents: where it begins, what it passes, what it finds and how it ends. Assumes nothing.
use Prim.Native.Nat.{ℕ, zero, suc, ◌-◌, ◌≤◌, ◌<◌}
use mathlib.Core.Path.{◌≡◌, sym, ap, ◌∙◌}
use mathlib.Core.Bool.{Bool, true, false, ◌&&◌}
use mathlib.Core.List.{List}
use native.Mathlib.Omega.{arith}
use lib.Dec.{eqb}
use Rattle.words.specs.Words.{word}
use Rattle.words.proofs.Bools.{or-false-left, or-false-right}
use Rattle.words.proofs.LoopLaws.{highest-here, highest-next, highest-end}
use Rattle.flash_model.specs.Measures.{legal_number}
use Rattle.flash_model.specs.UserBlock.{number, right_checksum}
use Rattle.flash_model.specs.Partition.{block_at, copy_at, holder}
use Rattle.std.specs.Prelude.{Some, None}
use Rattle.flash_partition.specs.Usable.{Usable}
use Rattle.flash_partition.specs.declared.opened.OpenedLog.{OpenedLog}
use Rattle.flash_partition.specs.Search.{found_up_to, any_numbered}
use Rattle.flash_partition.proofs.PartLaws.{number_is}
use Rattle.flash_partition.proofs.UsableLaws.{holder-some}

pub from-used : {image : List ℕ} {log : OpenedLog} → Usable image log → (n : ℕ) → legal_number log.m.size n ≡ true
    → holder image n ≡ found_up_to image n log.used
unfolding found_up_to
from-used u n legal = (holder-some u n legal)

module _ (image : List ℕ) (n k : ℕ) where
  pub found_here : 0 < k → copy_at image n k ≡ true → found_up_to image n k ≡ Some k
  unfolding found_up_to
  found_here h e = (highest-here (copy_at image n) k h e)

  pub passed : 0 < k → copy_at image n k ≡ false → found_up_to image n k ≡ found_up_to image n (k - 1)
  unfolding found_up_to
  passed h e = (highest-next (copy_at image n) k h e)

  pub has-number-test : (part : List ℕ) → part ≡ block_at image k → (w : ℕ) → w ≡ word part 0 → {t : Bool} → eqb w n ≡ t
      → eqb (number (block_at image k)) n ≡ t
  has-number-test part p w e {t} f = rw (sym p, number_is part, sym e) f

  -- a block is passed for its number alone
  pub other_number : (part : List ℕ) → part ≡ block_at image k → (w : ℕ) → w ≡ word part 0 → eqb w n ≡ false → copy_at image n k ≡ false
  other_number part p w e f = ap (λ (b : Bool). b && right_checksum (block_at image k)) (has-number-test part p w e f)

  pub none_left : k ≤ 0 → found_up_to image n k ≡ None
  unfolding found_up_to
  none_left h = (highest-end (copy_at image n) k h)

-- blocks none of which has the number are passed
pub none-numbered : (image : List ℕ) (n k j : ℕ) → j ≤ k → any_numbered image n k j ≡ false → found_up_to image n k ≡ found_up_to image n (k - j)
unfolding any_numbered
none-numbered image n k zero h e = let here : k ≡ k - 0 = omega arith in ap (found_up_to image n) here
none-numbered image n k (suc j) h e =
    let other = or-false-right (any_numbered image n k j) (eqb (number (block_at image (k - j))) n) e in
    let next : k - j - 1 ≡ k - suc j = omega arith in
    none-numbered image n k j (omega arith) (or-false-left (any_numbered image n k j) (eqb (number (block_at image (k - j))) n) e)
    ∙ passed image n (k - j) (omega arith) (ap (λ (b : Bool). b && right_checksum (block_at image (k - j))) other)
    ∙ ap (found_up_to image n) next
