-- Blocks moved down one by one: what stands below the next place, with what is still to be moved, is always the same. Assumes nothing.
use Prim.Native.Nat.{ℕ, suc, ◌+◌, ◌*◌, ◌-◌, ◌≤◌, ◌<◌}
use mathlib.Core.Path.{◌≡◌, refl, sym, ◌∙◌}
use mathlib.Core.List.{List, [], ◌∷◌, ◌++◌, map, append_assoc, append-nil}
use native.Mathlib.Omega.{arith}
use lib.ListN.{length, get_or, take, drop, length-drop}
use lib.Seq.{drop-cons, drop-length, drop-drop, length-paste, take-paste, drop-paste}
use Rattle.words.specs.Lists.{concat}
use Rattle.flash_model.specs.Partition.{block_at}
use Rattle.flash_model.specs.Update.{with_block}
use Rattle.flash_moving.specs.Moving.{RisingBlocks, AllMoved}

pub rising-lower : (low low' bytes : ℕ) (l : List ℕ) → low' ≤ low → RisingBlocks low bytes l → RisingBlocks low' bytes l
rising-lower low low' bytes [] h r = tt
rising-lower low low' bytes (k ∷ l) h r = (omega (arith, h, r.0), r.1)

blocks-same : (image other : List ℕ) (low bytes : ℕ) → ((i : ℕ) → low ≤ i → block_at image i ≡ block_at other i)
    → (l : List ℕ) → RisingBlocks low bytes l → map (block_at image) l ≡ map (block_at other) l
blocks-same image other low bytes h [] r = refl
blocks-same image other low bytes h (k ∷ l) r =
    rw (h k r.0, blocks-same image other low bytes h l (rising-lower (suc k) low bytes l (omega (arith, r.0)) r.1.1))

-- ---- block k moved down

module _ (k to : ℕ) (image : List ℕ) (down : to ≤ k) (fits : k * 64 + 64 ≤ length image) where
  abbrev pub moved : List ℕ
  moved = with_block image to (block_at image k)

  long : 64 ≤ length (drop (k * 64) image)
  long = simp length-drop (omega arith)

  moved_length : length moved ≡ length image
  unfolding with_block block_at
  moved_length = length-paste image (to * 64) (drop (k * 64) image) 64 (omega arith) long

  moved_front : take ((to + 1) * 64) moved ≡ take (to * 64) image ++ block_at image k
  unfolding with_block block_at
  moved_front =
      let e : (to + 1) * 64 ≡ to * 64 + 64 = omega arith in
      rw e (take-paste image (to * 64) (drop (k * 64) image) 64 (omega arith) long)

  moved-above : (i : ℕ) → suc k ≤ i → block_at moved i ≡ block_at image i
  unfolding with_block block_at
  moved-above i h =
      let d = i * 64 - (to * 64 + 64) in
      let e : i * 64 ≡ to * 64 + 64 + d = omega arith in
      rw (e, ← drop-drop d (to * 64 + 64) moved, drop-paste image (to * 64) (drop (k * 64) image) 64 (omega arith) long, drop-drop)

-- ---- all of them

-- the listed blocks below place `to` stand where they are to
pub record Conserved (kept start : List ℕ) (to : ℕ) (image : List ℕ) : Type 0 where
  pub low : 1 ≤ to
  pub high : to ≤ length kept + 1
  pub same_length : length image ≡ length start
  pub rising : RisingBlocks to (length start) (drop (to - 1) kept)
  pub front_is : take (to * 64) image ++ concat (map (block_at image) (drop (to - 1) kept)) ≡ take 64 start ++ concat (map (block_at start) kept)

pub conserved-start : (kept start : List ℕ) → RisingBlocks 1 (length start) kept → Conserved kept start 1 start
conserved-start kept start r = record { low = omega arith; high = omega arith; same_length = refl; rising = r; front_is = refl }

module _ (kept start : List ℕ) (to : ℕ) (image : List ℕ) (c : Conserved kept start to image) (more : to ≤ length kept) where
  abbrev k : ℕ
  k = get_or kept (to - 1) 0

  left : drop (to - 1) kept ≡ k ∷ drop (to + 1 - 1) kept
  left =
      let e : suc (to - 1) ≡ to + 1 - 1 = omega (arith, c.low) in
      drop-cons kept (to - 1) 0 (omega (arith, c.low)) ∙ rw e

  rises : RisingBlocks to (length start) (k ∷ drop (to + 1 - 1) kept)
  rises = rw left at c.rising

  pub next_down : to ≤ k
  next_down = rises.0

  pub next_fits : k * 64 + 64 ≤ length image
  next_fits = omega (arith, rises.1.0, c.same_length)

  pub conserved-next : (image' : List ℕ) → image' ≡ with_block image to (block_at image k) → Conserved kept start (to + 1) image'
  conserved-next image' e = rw e (record {
    low = omega arith;
    high = omega arith;
    same_length = moved_length k to image next_down next_fits ∙ c.same_length;
    rising = rising-lower (suc k) (to + 1) (length start) (drop (to + 1 - 1) kept) (omega (arith, next_down)) rises.1.1;
    front_is =
        rw (
          moved_front k to image next_down next_fits,
          blocks-same (moved k to image next_down next_fits) image (suc k) (length start) (moved-above k to image next_down next_fits) (drop (to + 1 - 1) kept) rises.1.1,
        )
        (append_assoc (take (to * 64) image) (block_at image k) (concat (map (block_at image) (drop (to + 1 - 1) kept))) ∙ rw left at c.front_is);
  })

pub all_moved : (kept start : List ℕ) (to : ℕ) (image : List ℕ) → Conserved kept start to image → length kept < to → AllMoved kept start image to
all_moved kept start to image c done =
    let e : to - 1 ≡ length kept = omega (arith, c.high) in
    record {
      front_is = sym (append-nil (take (to * 64) image)) ∙ rw (e, drop-length kept) at c.front_is;
      next_is = omega (arith, c.high);
      same_length = c.same_length;
    }
