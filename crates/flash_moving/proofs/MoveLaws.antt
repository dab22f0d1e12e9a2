-- A part that is lent and filled, and a block written where it stands. Assumes nothing.
use Prim.Native.Nat.{ℕ, ◌+◌, ◌-◌, ◌*◌, ◌≤◌}
use mathlib.Core.Path.{◌≡◌, ap, ◌∙◌}
use mathlib.Core.List.{List, ◌++◌, append_assoc, append-nil}
use native.Mathlib.Omega.{arith}
use lib.ListN.{length, take, drop, replicate, take-append-drop}
use lib.Seq.{drop-length, drop-drop}
use borrow.Rule.Slice.PartMut.{mid_of, put_mid, Post-is, mid_len}
use Rattle.flash_model.specs.Partition.{block_at}
use Rattle.flash_model.specs.Update.{with_block}

-- a part up to the end, filled
pub filled : {part : List ℕ} {at : ℕ} (image : List ℕ) (size next v : ℕ) → length image ≡ size → next * 64 ≤ size → at ≡ next * 64
    → part ≡ replicate (length (mid_of at (length image - at) image)) v
    → put_mid at (length image - at) image part ≡ take (next * 64) image ++ replicate (size - next * 64) v
filled {part} {at} image size next v l h e p =
    let i : next * 64 ≤ length image = omega arith in
    let q : part ≡ replicate (length image - at) v = p ∙ ap (λ (n : ℕ). replicate n v) (mid_len at (length image) image (omega arith)) in
    rw (Post-is at (length image) image (omega arith), drop-length image, append-nil, q, e, l)

-- a block written where it stands
pub block_itself : (image : List ℕ) (k : ℕ) → with_block image k (block_at image k) ≡ image
unfolding with_block block_at
block_itself image k =
    append_assoc (take (k * 64) image) (take 64 (drop (k * 64) image)) (drop (k * 64 + 64) image)
    ∙ rw (← drop-drop 64 (k * 64) image, take-append-drop 64 (drop (k * 64) image), take-append-drop (k * 64) image)
