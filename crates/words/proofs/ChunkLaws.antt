-- Laws of a run in chunks of eight bytes, as they are lent.
-- Assumes nothing.
use Prim.Native.Nat.{ℕ, zero, suc, ◌+◌, ◌*◌, ◌<◌}
use mathlib.Core.Path.{◌≡◌, refl, ap, ◌∙◌, subst}
use mathlib.Core.List.{List, []}
use native.Mathlib.Omega.{arith}
use lib.ListN.{get_or, take, drop}
use Rattle.std.proofs.lemmas.List.{drop-drop}
use Rattle.std.specs.Simd.{first_chunks}
use Rattle.words.specs.BigEndian.{Big}
use Rattle.words.specs.LittleEndian.{Little}
use Rattle.words.proofs.BigLaws.{big-part}
use Rattle.words.proofs.LittleLaws.{little-part}

pub chunk-at : (k : ℕ) (s : List ℕ) (j : ℕ) → j < k → get_or (first_chunks 8 k s) j [] ≡ take 8 (drop (j * 8) s)
chunk-at zero s j h = absurd (omega arith)
chunk-at (suc k) s zero h = refl
chunk-at (suc k) s (suc j) h =
    let next : 8 + j * 8 ≡ suc j * 8 = omega arith in
    chunk-at k (drop 8 s) j (omega arith) ∙ ap (take 8) (drop-drop (j * 8) 8 s ∙ ap (λ (i : ℕ). drop i s) next)

-- the number of a chunk is that of its bytes in the run
module _ (s : List ℕ) (k j : ℕ) (h : j < k) {w : ℕ} where
  pub big-chunk : Big 8 (get_or (first_chunks 8 k s) j []) 0 w → Big 8 s (j * 8) w
  big-chunk known = big-part 8 (j * 8) 8 (omega arith) (subst (λ (l : List ℕ). Big 8 l 0 w) (chunk-at k s j h) known)

  pub little-chunk : Little 8 (get_or (first_chunks 8 k s) j []) 0 w → Little 8 s (j * 8) w
  little-chunk known = little-part 8 (j * 8) 8 (omega arith) (subst (λ (l : List ℕ). Little 8 l 0 w) (chunk-at k s j h) known)
