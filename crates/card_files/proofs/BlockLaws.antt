-- The blocks of a file, written one after the other. Assumes nothing.
use Prim.Native.Nat.{ℕ, ◌+◌, ◌-◌}
use mathlib.Core.Path.{◌≡◌, refl, sym, ap, ◌∙◌}
use mathlib.Core.List.{List, [], ◌∷◌}
use native.Mathlib.Omega.{arith}
use lib.ListN.{length, take, drop}
use lib.Seq.{drop-drop}
use borrow.Rule.Slice.PartAt.{part_to_end}
use Rattle.std.specs.Simd.{first_chunks}
use Rattle.card_updates.specs.Write.{link_to, with_block, with_blocks}

-- the card once blocks have got their bytes, each its own
abbrev pub with_chunks : List ℕ → List ℕ → List (List ℕ) → List ℕ
with_chunks card [] chunks = card
with_chunks card (b ∷ blocks) [] = card
with_chunks card (b ∷ blocks) (bytes ∷ chunks) = with_chunks (with_block card b bytes (link_to blocks)) blocks chunks

-- all the data, 512 bytes to each block
pub chunks-start : (card blocks content : List ℕ) → with_blocks card blocks content ≡ with_chunks card blocks (first_chunks 512 (length blocks) content)
unfolding with_blocks
chunks-start card [] content = refl
chunks-start card (b ∷ blocks) content = chunks-start (with_block card b (take 512 content) (link_to blocks)) blocks (drop 512 content)

-- one block is written: what is left to write
pub chunks-next : (card blocks : List ℕ) (i j : ℕ) → j ≡ i → {first rest bytes next : List ℕ} {second later : List (List ℕ)} {b link : ℕ} → first ≡ drop i blocks
    → first ≡ b ∷ rest → second ≡ bytes ∷ later → link ≡ link_to (take (length blocks - (j + 1)) (drop (j + 1) blocks)) → next ≡ with_block card b bytes link
    → (rest ≡ drop (i + 1) blocks) × (with_chunks card first second ≡ with_chunks next rest later)
chunks-next card blocks i j here {rest = rest} {link = link} at e f l w =
    let left : rest ≡ drop (i + 1) blocks = ap (drop 1) (sym e ∙ at) ∙ drop-drop 1 i blocks in
    let tail : take (length blocks - (j + 1)) (drop (j + 1) blocks) ≡ rest = part_to_end blocks (j + 1) ∙ rw here (sym left) in
    let links : link ≡ link_to rest = l ∙ ap link_to tail in
    (left, rw (e, f, w, links))

-- no block is left, or no data
pub no_block : (card first : List ℕ) (second : List (List ℕ)) → length first ≡ 0 → with_chunks card first second ≡ card
no_block card [] second e = refl
no_block card (b ∷ blocks) second e = absurd (omega arith)

pub no_data : (card first : List ℕ) (second : List (List ℕ)) → length second ≡ 0 → with_chunks card first second ≡ card
no_data card [] second e = refl
no_data card (b ∷ blocks) [] e = refl
no_data card (b ∷ blocks) (bytes ∷ later) e = absurd (omega arith)
