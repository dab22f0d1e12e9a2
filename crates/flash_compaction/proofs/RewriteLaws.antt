-- What moving, writing and blanking come to: the compacted image. Assumes nothing.
use Prim.Native.Nat.{ℕ, suc, ◌+◌, ◌*◌, ◌-◌, ◌≤◌}
use mathlib.Core.Path.{◌≡◌, ◌∙◌}
use mathlib.Core.List.{List, [], ◌∷◌, ◌++◌, append_assoc}
use native.Mathlib.Omega.{arith}
use lib.ListN.{length, take, drop, replicate, length-append}
use lib.Seq.{take_at, length-take-le}
use Rattle.words.specs.Lists.{concat}
use Rattle.words.proofs.JoinLaws.{concat-snoc}
use Rattle.flash_model.specs.Update.{bits_cleared, with_block, rewritten, compacted}

-- the front is the header block and the kept blocks, all else FF, and the bits of the kept blocks are cleared
pub rest-blanked : (image front : List ℕ) (kept : List (List ℕ)) (size next : ℕ) → length image ≡ size → front ≡ take 64 image ++ concat kept → next ≡ suc (length kept)
    → bits_cleared (front ++ replicate (size - next * 64) 255) (next - 1) ≡ compacted image kept
unfolding compacted rewritten
rest-blanked image front kept size next l f n =
    let c : next - 1 ≡ length kept = omega arith in
    let s : size - next * 64 ≡ length image - 64 * suc (length kept) = omega (arith, l, n) in
    rw (f, s, c)

-- one block more behind the front
pub front-more : (image moved new : List ℕ) (kept : List (List ℕ)) (next : ℕ) → next * 64 + 64 ≤ length moved → length new ≡ 64
    → take (next * 64) moved ≡ take 64 image ++ concat kept
    → take ((next + 1) * 64) (with_block moved next new) ≡ take 64 image ++ concat (kept ++ new ∷ [])
unfolding with_block
front-more image moved new kept next h l e =
    let a : length (take (next * 64) moved) ≡ next * 64 = length-take-le (next * 64) moved (omega arith) in
    let b : length (take (next * 64) moved ++ new) ≡ (next + 1) * 64 = length-append (take (next * 64) moved) new ∙ omega (arith, a, l) in
    take_at (take (next * 64) moved ++ new) (drop (next * 64 + 64) moved) ((next + 1) * 64) b
    ∙ rw (e, concat-snoc kept new) (append_assoc (take 64 image) (concat kept) new)
