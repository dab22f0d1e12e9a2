-- An image that is FF from some place on has a bitmap of FF. Assumes nothing.
use Prim.Native.Nat.{ℕ, ◌+◌, ◌*◌, ◌-◌, ◌≤◌}
use mathlib.Core.Path.{◌≡◌, sym, ap, ◌∙◌}
use mathlib.Core.List.{List, ◌++◌}
use native.Mathlib.Omega.{arith}
use lib.ListN.{length, take, drop, replicate, length-take, length-replicate}
use lib.Seq.{drop-append-add}
use Rattle.words.proofs.ListLaws.{drop-replicate}
use Rattle.flash_model.specs.Measures.{first_bitmap}
use Rattle.flash_model.specs.Partition.{bitmap_of}
use Rattle.flash_bitmap.specs.Blank.{IsBlank}

-- what is FF from some place on
blank-behind : (image front : List ℕ) (at r : ℕ) → image ≡ front ++ replicate r 255 → length front ≤ at → IsBlank (drop at image)
blank-behind image front at r e h =
    let k : length front + (at - length front) ≡ at = omega arith in
    let d : drop at image ≡ replicate (r - (at - length front)) 255 =
    ap (drop at) e ∙ ap (λ (n : ℕ). drop n (front ++ replicate r 255)) (sym k) ∙ drop-append-add front (replicate r 255) (at - length front)
    ∙ drop-replicate (at - length front) r 255 in
    d ∙ ap (λ (n : ℕ). replicate n 255) (sym (ap length d ∙ length-replicate {A = ℕ} (r - (at - length front)) 255))

pub blank-bitmap : {image' : List ℕ} (image : List ℕ) (size next : ℕ) → length image' ≡ size → next ≤ first_bitmap size
    → image' ≡ take (next * 64) image ++ replicate (size - next * 64) 255 → IsBlank (bitmap_of image')
unfolding bitmap_of
blank-bitmap {image'} image size next l h e =
    let f : first_bitmap (length image') ≡ first_bitmap size = ap first_bitmap l in
    let short : length (take (next * 64) image) ≤ first_bitmap (length image') * 64 = simp length-take (omega arith) in
    blank-behind image' (take (next * 64) image) (first_bitmap (length image') * 64) (size - next * 64) e short
