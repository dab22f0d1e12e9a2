-- Runs of equal bytes: begun and made longer. Assumes nothing.
use Prim.Native.Nat.{ℕ, ◌+◌, ◌-◌, ◌≤◌, ◌<◌}
use mathlib.Core.Path.{◌≡◌, ap, ◌∙◌}
use mathlib.Core.List.{List}
use native.Mathlib.Omega.{arith}
use native.Mathlib.Decide.{dec_le}
use lib.ListN.{get_or}
use Rattle.words.specs.LittleEndian.{Little, repeated}
use Rattle.words.proofs.LittleLaws.{little-repeated}
use Rattle.flash_bitmap.specs.EqualRun.{EqualRun}

module _ (s : List ℕ) (byte from end : ℕ) where
  pub run_none : from ≤ end → EqualRun s byte from end from
  run_none h = record { low = omega arith; high = h; alike = λ i a b. absurd (omega arith) }

  -- `width` bytes more
  run_more : (mid width : ℕ) → EqualRun s byte from end mid → mid + width ≤ end → ((i : ℕ) → i < width → get_or s (mid + i) 0 ≡ byte)
      → EqualRun s byte from end (mid + width)
  run_more mid width run h more = record { low = omega (arith, run.low); high = h; alike = λ i l b. go i l b (dec_le mid i) }
    where
      go : (i : ℕ) → from ≤ i → i < mid + width → Dec (mid ≤ i) → get_or s i 0 ≡ byte
      go i l b (yes d) =
          let e : i ≡ mid + (i - mid) = omega arith in
          ap (λ (n : ℕ). get_or s n 0) e ∙ more (i - mid) (omega arith)
      go i l b (no d) = run.alike i l (omega (arith, d))

  pub run-byte : (mid : ℕ) → EqualRun s byte from end mid → mid < end → get_or s mid 0 ≡ byte → EqualRun s byte from end (mid + 1)
  run-byte mid run h e = run_more mid 1 run (omega arith) (λ i l. let z : mid + i ≡ mid = omega arith in ap (λ (n : ℕ). get_or s n 0) z ∙ e)

  pub run-word : (mid w : ℕ) → EqualRun s byte from end mid → mid + 8 ≤ end → byte < 256 → Little 8 s mid w → w ≡ repeated byte 8
      → EqualRun s byte from end (mid + 8)
  run-word mid w run h small known e = run_more mid 8 run h (little-repeated byte 8 small known e)
