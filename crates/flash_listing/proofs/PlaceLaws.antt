-- The places of numbers as used blocks are passed, the highest first. A place is a mark: 0 where there is none. Assumes nothing.
use Prim.Native.Nat.{ℕ, ◌-◌, ◌≤◌, ◌<◌}
use mathlib.Core.Path.{◌≡◌, refl, sym, ap, ◌∙◌}
use mathlib.Core.Bool.{Bool, true, false, cond, ◌&&◌, and-false}
use mathlib.Core.List.{List, ◌++◌}
use Rattle.std.specs.Prelude.{Some}
use mathlib.Core.Logic.{◌≢◌}
use native.Mathlib.Omega.{arith}
use native.Mathlib.Decide.{ℕ_discrete}
use lib.ListN.{length, get_or, take, drop, set, replicate, length-set, length-append, length-drop, length-replicate, get_or-replicate, get_or-append}
use lib.Seq.{get_or-set_same, get_or-set_other, drop-set-lt, drop_at, length-take-le}
use Rattle.flash_model.specs.Measures.{capacity}
use Rattle.flash_partition.specs.declared.opened.Partition.{Partition}
use Rattle.flash_model.specs.UserBlock.{number, right_checksum}
use Rattle.flash_model.specs.Partition.{block_at, holder}
use Rattle.flash_listing.specs.BlockTests.{is_new}
use Rattle.flash_listing.specs.Passing.{PassAt}
use Rattle.flash_listing.specs.NumberPlaces.{place_of, entered, PlacesOf}
use Rattle.flash_listing.proofs.MarkLaws.{passed-at, passed-wrong, stored, held-here, new-below}

-- the places that are not 0 are right, and further ones are as they were
pub record Placed (image : List ℕ) (end : ℕ) (cleared places : List ℕ) : Type 0 where
  pub right : (n : ℕ) → n < end → get_or places n 0 ≢ 0 → holder image n ≡ Some (get_or places n 0)
  pub others : drop end places ≡ drop end cleared
  pub as_long : length places ≡ length cleared

-- the first places are 0
abbrev pub Cleared : ℕ → List ℕ → List ℕ → Type 0
Cleared end places₀ cleared = cleared ≡ replicate end 0 ++ drop end places₀

pub filled_front : {front : List ℕ} {n end : ℕ} (places₀ : List ℕ) → n ≡ end → end ≤ length places₀ → front ≡ replicate (length (take n places₀)) 0 → Cleared end places₀ (front ++ drop n places₀)
filled_front {front} {n} {end} places₀ c h e = rw (e, c, length-take-le end places₀ h)

pub none-placed : (image : List ℕ) (end : ℕ) (places₀ cleared : List ℕ) → Cleared end places₀ cleared → Placed image end cleared cleared
none-placed image end places₀ cleared e = record {
  right = λ n l d. absurd (d (ap (λ (x : List ℕ). get_or x n 0) e ∙ get_or-append (replicate end 0) (drop end places₀) 0 n (omega (arith, l, length-replicate {A = ℕ} end 0)) ∙ get_or-replicate end n 0 0 l));
  others = refl;
  as_long = refl;
}

pub cleared-length : (end : ℕ) (places₀ cleared : List ℕ) → end ≤ length places₀ → Cleared end places₀ cleared → length cleared ≡ length places₀
cleared-length end places₀ cleared h e =
    ap length e ∙ length-append (replicate end 0) (drop end places₀) ∙ omega (arith, length-replicate {A = ℕ} end 0, length-drop end places₀, h)

module _ {cleared places : List ℕ} {partition : Partition} {k : ℕ} (low : 1 ≤ k) (f : PassAt places partition k) (p : Placed partition.image.now (capacity partition.log.m.size) cleared places) where
  abbrev image : List ℕ
  image = partition.image.now

  abbrev end : ℕ
  end = capacity partition.log.m.size

  abbrev Both : List ℕ → Type 0
  Both x = PassAt x partition (k - 1) × Placed image end cleared x

  abbrev b : ℕ
  b = number (block_at image k)

  pub entered-next : Both (entered end (block_at image k) k places)
  unfolding entered
  entered-next = go (is_new end (block_at image k) places) refl (right_checksum (block_at image k)) refl
    where
      go : (t : Bool) → is_new end (block_at image k) places ≡ t → (u : Bool) → right_checksum (block_at image k) ≡ u
          → Both (cond (is_new end (block_at image k) places && right_checksum (block_at image k)) (set places (number (block_at image k)) k) places)
      go false e u q = rw e (passed-at low f e, p)
      go true e false q = rw (q, and-false (is_new end (block_at image k) places)) (passed-wrong low f q, p)
      go true e true q = rw (e, q) (
        stored low f e k low q,
        record {
          right = λ n l d. at n l d (ℕ_discrete n b);
          others = drop-set-lt end places b k (new-below end (block_at image k) places e) ∙ p.others;
          as_long = length-set places b k ∙ p.as_long;
        },
      )
        where
          here : get_or (set places b k) b 0 ≡ k
          here = get_or-set_same places b k 0 (omega (arith, new-below end (block_at image k) places e, f.long))

          at : (n : ℕ) → n < end → get_or (set places b k) n 0 ≢ 0 → Dec (n ≡ b) → holder image n ≡ Some (get_or (set places b k) n 0)
          at n l d (yes w) = ap (holder image) w ∙ held-here low f e q ∙ ap (λ (x : ℕ). Some x) (sym here ∙ ap (λ (x : ℕ). get_or (set places b k) x 0) (sym w))
          at n l d (no w) =
              let o = get_or-set_other places b n k 0 w in
              p.right n l (λ z. d (o ∙ z)) ∙ ap (λ (x : ℕ). Some x) (sym o)

-- all blocks are passed
pub all_placed : {cleared places : List ℕ} {partition : Partition} (places₀ : List ℕ) → capacity partition.log.m.size ≤ length places₀ → Cleared (capacity partition.log.m.size) places₀ cleared
    → PassAt places partition 0 → Placed partition.image.now (capacity partition.log.m.size) cleared places → PlacesOf partition.image.now (capacity partition.log.m.size) places₀ places
all_placed {cleared} {places} {partition} places₀ h e f p = record {
  each = λ n l. each n l (ℕ_discrete (get_or places n 0) 0);
  further = p.others ∙ ap (drop end) e ∙ drop_at (replicate end 0) (drop end places₀) end (length-replicate {A = ℕ} end 0);
  same_length = p.as_long ∙ cleared-length end places₀ cleared h e;
}
  where
    image : List ℕ
    image = partition.image.now

    end : ℕ
    end = capacity partition.log.m.size

    each : (n : ℕ) → n < end → Dec (get_or places n 0 ≡ 0) → get_or places n 0 ≡ place_of (holder image n)
    each n l (yes z) = z ∙ ap place_of (sym (f.unmarked n l z))
    each n l (no d) = ap place_of (sym (p.right n l d))
