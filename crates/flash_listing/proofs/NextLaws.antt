-- The lowest live number, as blocks are passed one after the other. Assumes nothing.
use Prim.Native.Nat.{ℕ, ◌+◌, ◌≤◌, ◌<◌}
use mathlib.Core.Path.{◌≡◌, refl, sym, ap, subst, ◌∙◌}
use mathlib.Core.Bool.{Bool, true, false, cond, ◌&&◌, and-false, true≢false}
use mathlib.Core.List.{List}
use Rattle.std.specs.Prelude.{Option, None, Some, option_map}
use mathlib.Core.Logic.{◌≢◌}
use native.Mathlib.Omega.{arith}
use native.Mathlib.Decide.{ℕ_discrete}
use lib.Dec.{eqb, ltb, leb}
use Rattle.std.specs.Bool.{then_some}
use borrow.Author.Tests.{ne_eqb, eq-eqb, ltb-true, ltb-false, leb-true, leb-false, lt-ltb}
use Rattle.words.specs.Search.{highest}
use Rattle.words.proofs.SearchLaws.{highest-nothing, highest-none}
use Rattle.flash_model.specs.Measures.{capacity, legal_number}
use Rattle.flash_model.specs.UserBlock.{number, payload, right_checksum}
use Rattle.flash_model.specs.Partition.{block_at, copy_at, contents, lowest_live}
use Rattle.flash_model.proofs.MeasureLaws.{legal-below}
use Rattle.flash_model.proofs.MeaningLaws.{next_live_lem, live-none}
use Rattle.flash_partition.specs.Usable.{Usable}
use Rattle.flash_partition.specs.declared.opened.OpenedLog.{OpenedLog}
use Rattle.flash_listing.specs.BlockTests.{lowered}
use Rattle.flash_partition.proofs.UsableLaws.{usable-measured, holder-some}

-- ---- all blocks passed so far

-- some block below k is a copy of the number's page
pub record Seen (image : List ℕ) (k n : ℕ) : Type 0 where
  pub at : ℕ
  pub low : 1 ≤ at
  pub below : at < k
  pub here : copy_at image n at ≡ true

-- the best so far, where the blocks below k are passed: the lowest of their numbers from the start on, or the end
pub record BestSoFar (image : List ℕ) (start end k best : ℕ) : Type 0 where
  pub bound : best ≤ end
  pub not_below : best < end → start ≤ best
  pub is_seen : best < end → Seen image k best
  pub none_lower : (n j : ℕ) → start ≤ n → n < best → 1 ≤ j → j < k → copy_at image n j ≡ false

pub best-first : (image : List ℕ) (start end : ℕ) → BestSoFar image start end 1 end
best-first image start end = record {
  bound = omega arith;
  not_below = λ h. absurd (omega arith);
  is_seen = λ h. absurd (omega arith);
  none_lower = λ n j a b c d. absurd (omega arith);
}

module _ (image : List ℕ) (start end k best : ℕ) (b : BestSoFar image start end k best) where
  abbrev block : List ℕ
  block = block_at image k

  seen_more : (n : ℕ) → Seen image k n → Seen image (k + 1) n
  seen_more n s = record { at = s.at; low = s.low; below = omega (arith, s.below); here = s.here }

  -- the block doesn't lower it
  kept : ((n : ℕ) → start ≤ n → n < best → copy_at image n k ≡ false) → BestSoFar image start end (k + 1) best
  kept h = record {
    bound = b.bound;
    not_below = b.not_below;
    is_seen = λ l. seen_more best (b.is_seen l);
    none_lower = λ n j a c d e. go n j a c d e (ℕ_discrete j k);
  }
    where
      go : (n j : ℕ) → start ≤ n → n < best → 1 ≤ j → j < k + 1 → Dec (j ≡ k) → copy_at image n j ≡ false
      go n j a c d e (yes q) = ap (copy_at image n) q ∙ h n a c
      go n j a c d e (no q) = b.none_lower n j a c d (omega (arith, e, q))

  -- the block's number is the new best
  taken : 1 ≤ k → start ≤ number (block_at image k) → number (block_at image k) < best → right_checksum (block_at image k) ≡ true → BestSoFar image start end (k + 1) (number (block_at image k))
  taken lo s l r = record {
    bound = omega (arith, l, b.bound);
    not_below = λ h. s;
    is_seen = λ h. record { at = k; low = lo; below = omega arith; here = rw (eq-eqb (number (block_at image k)) (number (block_at image k)) refl, r) };
    none_lower = λ n j a c d e. go n j a c d e (ℕ_discrete j k);
  }
    where
      go : (n j : ℕ) → start ≤ n → n < number (block_at image k) → 1 ≤ j → j < k + 1 → Dec (j ≡ k) → copy_at image n j ≡ false
      go n j a c d e (yes q) =
          ap (copy_at image n) q ∙ rw (ne_eqb (number (block_at image k)) n (λ z. omega (arith, z, c)))
      go n j a c d e (no q) = b.none_lower n j a (omega (arith, c, l)) d (omega (arith, e, q))

  pub best-next : 1 ≤ k → (part : List ℕ) → part ≡ block_at image k → (best' : ℕ) → best' ≡ lowered start part best → BestSoFar image start end (k + 1) best'
  unfolding lowered
  best-next lo part p best' e =
      subst (BestSoFar image start end (k + 1)) (sym (e ∙ rw p))
      (go (leb start (number (block_at image k))) refl (ltb (number (block_at image k)) best) refl (right_checksum (block_at image k)) refl)
    where
      go : (t : Bool) → leb start (number (block_at image k)) ≡ t → (u : Bool) → ltb (number (block_at image k)) best ≡ u → (v : Bool) → right_checksum (block_at image k) ≡ v
          → BestSoFar image start end (k + 1) (cond (t && (u && v)) (number (block_at image k)) best)
      go true a true c true d = taken lo (leb-true start (number (block_at image k)) a) (ltb-true (number (block_at image k)) best c) d
      go true a true c false d = kept (λ n h l. rw d (and-false (eqb (number (block_at image k)) n)))
      go true a false c v d = kept (λ n h l. rw (ne_eqb (number (block_at image k)) n (λ z. omega (arith, z, l, ltb-false (number (block_at image k)) best c))))
      go false a u c v d = kept (λ n h l. rw (ne_eqb (number (block_at image k)) n (λ z. omega (arith, z, h, leb-false start (number (block_at image k)) a))))

-- ---- what the blocks passed say of contents

module _ {image : List ℕ} {log : OpenedLog} (u : Usable image log) (end : ℕ) (e : end ≡ capacity log.m.size) where
  legal : (n : ℕ) → n < end → legal_number log.m.size n ≡ true
  legal n h = legal-below log.m.size n (usable-measured u) ∙ lt-ltb n (capacity log.m.size) (omega (arith, h, e))

  -- a number of which no used block is a copy has no contents
  no-contents : (n : ℕ) → n < end → ((j : ℕ) → 1 ≤ j → j ≤ log.used → copy_at image n j ≡ false) → contents image n ≡ None
  unfolding contents
  no-contents n h none-match =
      ap (option_map (λ j. payload (block_at image j))) (holder-some u n (legal n h) ∙ highest-nothing (copy_at image n) log.used none-match)

  has-contents : (k n : ℕ) → k ≤ log.used + 1 → n < end → Seen image k n → contents image n ≢ None
  unfolding contents
  has-contents k n f h s e = go (highest (copy_at image n) log.used) refl
    where
      go : (o : Option ℕ) → highest (copy_at image n) log.used ≡ o → ⊥
      go None q = true≢false (sym s.here ∙ highest-none (copy_at image n) log.used q s.at s.low (omega (arith, s.below, f)))
      go (Some j) q =
          let c : contents image n ≡ Some (payload (block_at image j)) = unfold contents in ap (option_map (λ j. payload (block_at image j))) (holder-some u n (legal n h) ∙ q) in
          let z : ◌≡◌ {A = ℕ} 0 1 = cc in
          omega arith

  -- the start is past the top
  pub start-past : (start : ℕ) → end ≤ start → None ≡ lowest_live image start
  start-past start h = sym (live-none image start (λ n a c. absurd (omega (arith, a, c, h, e, ap capacity u.has_size))))

  -- the best is the answer, where none lower has contents
  module _ (start k best : ℕ) (f : k ≤ log.used + 1) (b : BestSoFar image start end k best) where
    answered : ((n : ℕ) → start ≤ n → n < best → contents image n ≡ None) → then_some (ltb best end) best ≡ lowest_live image start
    answered none-lower = go (ltb best end) refl
      where
        go : (t : Bool) → ltb best end ≡ t → then_some t best ≡ lowest_live image start
        go true q =
            let h = ltb-true best end q in
            sym ((next_live_lem image start best u.is_sound).1 (record {
              not_below = b.not_below h;
              is_live_lem = has-contents k best f h (b.is_seen h);
              none_between = λ n a c. none-lower n a c;
            }))
        go false q =
            let h = ltb-false best end q in
            sym (live-none image start (λ n a c. none-lower n a (omega (arith, c, h, e, ap capacity u.has_size))))

    -- no number between is left
    pub start-found : best ≤ start → then_some (ltb best end) best ≡ lowest_live image start
    start-found h = answered (λ n a c. absurd (omega arith))

    -- no used block is left
    pub all-passed : log.used + 1 ≤ k → then_some (ltb best end) best ≡ lowest_live image start
    all-passed h = answered (λ n a c. no-contents n (omega (arith, c, b.bound)) (λ j lo hi. b.none_lower n j a c lo (omega (arith, hi, h))))
