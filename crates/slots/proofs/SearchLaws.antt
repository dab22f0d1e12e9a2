-- The searches over all slots, as the loop goes from slot to slot. Assumes nothing.
use Prim.Native.Nat.{ℕ, ◌+◌, ◌-◌, ◌≤◌, ◌<◌}
use mathlib.Core.Path.{◌≡◌, refl, sym, ap, ◌∙◌}
use mathlib.Core.Bool.{Bool, true, false, not, cond, ◌&&◌}
use mathlib.Core.List.{List}
use Rattle.std.specs.Prelude.{Option, None, Some, MatchOption}
use native.Mathlib.Omega.{arith}
use native.Mathlib.Decide.{dec_le}
use lib.Dec.{leb}
use borrow.Author.Tests.{le-leb, lt-leb}
use Rattle.words.specs.Lists.{is_some}
use Rattle.words.specs.Search.{lowest}
use Rattle.words.specs.Words.{same_bytes}
use Rattle.words.proofs.SearchLaws.{lowest-some, lowest-none, lowest-is, lowest-nothing}
use Rattle.words.proofs.LoopLaws.{lowest-here, lowest-next, lowest-end}
use Rattle.flash_model.specs.Slots.{slot_count, slot_header, right_header, product_of, is_right, valid_slot, has_product, product_slot, free_slot, lowest_valid, or_else}
use Rattle.flash_model.proofs.ClaimLaws.{slot-count}
use Rattle.slots.specs.SlotHeaders.{product_in, slot_product}
use Rattle.slots.specs.SlotAnswers.{searched_of}
use Rattle.slots.specs.declared.searches.Searched.TheVariants.{Has}

-- ---- one slot

module _ (image product : List ℕ) (slot : ℕ) where
  -- a valid slot's product number decides whether it is the one
  pub number_there : (number : List ℕ) → Some number ≡ slot_product image slot
      → (valid_slot image slot ≡ true) × (has_product product (slot_header image slot) ≡ same_bytes number product)
  unfolding valid_slot
  number_there number e = go (slot_header image slot) e
    where
      by : (h : List ℕ) (t : Bool) → right_header h ≡ t → Some number ≡ cond t (Some (product_of h)) None
          → (right_header h ≡ true) × ((right_header h && same_bytes (product_of h) product) ≡ same_bytes number product)
      by h true r q = let s : number ≡ product_of h = cc in (r, rw (r, s))
      by h false r q = let z : ◌≡◌ {A = ℕ} 0 1 = cc in absurd (omega arith)

      go : (o : Option (List ℕ)) → Some number ≡ product_in o → (is_right o ≡ true) × (has_product product o ≡ same_bytes number product)
      go None q = let z : ◌≡◌ {A = ℕ} 0 1 = cc in absurd (omega arith)
      go (Some h) q = by h (right_header h) refl q

  pub none_there : None ≡ slot_product image slot → (valid_slot image slot ≡ false) × (has_product product (slot_header image slot) ≡ false)
  unfolding valid_slot
  none_there e = go (slot_header image slot) e
    where
      by : (h : List ℕ) (t : Bool) → right_header h ≡ t → None ≡ cond t (Some (product_of h)) None → (right_header h ≡ false) × (has_product product (Some h) ≡ false)
      by h true r q = let z : ◌≡◌ {A = ℕ} 0 1 = cc in absurd (omega arith)
      by h false r q = (r, rw r)

      go : (o : Option (List ℕ)) → None ≡ product_in o → (is_right o ≡ false) × (has_product product o ≡ false)
      go None q = (refl, refl)
      go (Some h) q = by h (right_header h) refl q

-- ---- the search for a product number

module _ (image product : List ℕ) where
  abbrev matches : ℕ → Bool
  matches k = has_product product (slot_header image k)

  abbrev unused : ℕ → Bool
  unused k = not (valid_slot image k)

  -- no slot below this one has the product number, and `free` is the lowest that is not valid, if one was
  pub record SearchAt (free : Option ℕ) (slot : ℕ) : Type 0 where
    pub none_yet : product_slot image product ≡ lowest matches slot (slot_count - slot)
    pub free_is : free_slot image ≡ or_else free (lowest unused slot (slot_count - slot))

  pub search_first : SearchAt None 0
  unfolding product_slot free_slot
  search_first =
      let all : slot_count ≡ slot_count - 0 = omega arith in
      record { none_yet = ap (lowest matches 0) all; free_is = ap (lowest unused 0) all }

  module _ {free : Option ℕ} {slot : ℕ} (s : SearchAt free slot) (low : slot < 100) where
    below : slot < slot_count
    below = omega (arith, low, slot-count)

    pub found : matches slot ≡ true → Has slot ≡ searched_of (product_slot image product) (free_slot image)
    found e = rw (s.none_yet ∙ lowest-here matches slot slot_count below e)

    passed : matches slot ≡ false → product_slot image product ≡ lowest matches (slot + 1) (slot_count - (slot + 1))
    passed e = s.none_yet ∙ lowest-next matches slot slot_count below e

    -- valid, with another product number
    pub next_valid : valid_slot image slot ≡ true → matches slot ≡ false → SearchAt free (slot + 1)
    next_valid v e = record { none_yet = passed e; free_is = s.free_is ∙ ap (or_else free) (lowest-next unused slot slot_count below (rw v)) }

    -- not valid: the lowest such slot, if none was before
    pub next_free : valid_slot image slot ≡ false → matches slot ≡ false → SearchAt (or_else free (Some slot)) (slot + 1)
    next_free v e = record { none_yet = passed e; free_is = s.free_is ∙ go free }
      where
        here : lowest unused slot (slot_count - slot) ≡ Some slot
        here = lowest-here unused slot slot_count below (rw v)

        go : (o : Option ℕ) → or_else o (lowest unused slot (slot_count - slot)) ≡ or_else (or_else o (Some slot)) (lowest unused (slot + 1) (slot_count - (slot + 1)))
        go None = here
        go (Some k) = refl

  pub searched : {free o : Option ℕ} {slot : ℕ} → SearchAt free slot → 100 ≤ slot → free ≡ o
      → searched_of None o ≡ searched_of (product_slot image product) (free_slot image)
  searched {free} {o} {slot} s done e =
      let end : slot_count ≤ slot = omega (arith, done, slot-count) in
      let full : free_slot image ≡ free = s.free_is ∙ ap (or_else free) (lowest-end unused slot slot_count end) ∙ none_behind free in
      rw (s.none_yet ∙ lowest-end matches slot slot_count end, full ∙ e)
    where
      none_behind : (f : Option ℕ) → or_else f None ≡ f
      none_behind None = refl
      none_behind (Some k) = refl

-- ---- the search for a valid slot

-- below the start no slot counts
apart : {start : ℕ} {valid : Bool} (k : ℕ) → (start ≤ k → valid ≡ false) → Dec (start ≤ k) → (leb start k && valid) ≡ false
apart {start} k f (yes h) = rw (le-leb start k h) (f h)
apart {start} k f (no h) = rw (lt-leb start k (omega (arith, h)))

module _ (image : List ℕ) where
  -- from the start on, every slot counts
  pub from_start : (start : ℕ) → lowest_valid image start ≡ lowest (valid_slot image) start (slot_count - start)
  unfolding lowest_valid
  from_start start = go (lowest (valid_slot image) start (slot_count - start)) refl
    where
      go : (o : Option ℕ) → lowest (valid_slot image) start (slot_count - start) ≡ o
          → lowest (λ k. leb start k && valid_slot image k) 0 slot_count ≡ lowest (valid_slot image) start (slot_count - start)
      go (Some i) q =
          let w = lowest-some (valid_slot image) start (slot_count - start) i q in
          lowest-is (λ k. leb start k && valid_slot image k) 0 slot_count i (record {
            low = omega arith;
            high = omega (arith, w.high, w.low);
            passes = rw (le-leb start i w.low) w.passes;
            none_below = λ k a b. apart k (λ h. w.none_below k h b) (dec_le start k);
          }) ∙ sym q
      go None q =
          lowest-nothing (λ k. leb start k && valid_slot image k) 0 slot_count
          (λ k a b. apart k (λ h. lowest-none (valid_slot image) start (slot_count - start) q k h (omega (arith, h, b))) (dec_le start k)) ∙ sym q

  -- the slot has a product number that counts
  abbrev pub has_number : ℕ → Bool
  has_number k = is_some (slot_product image k)

  number_valid : (k : ℕ) → has_number k ≡ valid_slot image k
  unfolding valid_slot
  number_valid k = go (slot_header image k)
    where
      by : (t : Bool) (number : List ℕ) → is_some (cond t (Some number) None) ≡ t
      by true number = refl
      by false number = refl

      go : (o : Option (List ℕ)) → is_some (product_in o) ≡ is_right o
      go None = refl
      go (Some h) = by (right_header h) (product_of h)

  pub lowest_found : (start : ℕ) (r : Option ℕ) → MatchOption r ((k : ℕ) → start ≤ k → k < 100 → has_number k ≡ false)
      (λ i. (start ≤ i) × (i < 100) × (has_number i ≡ true) × ((k : ℕ) → start ≤ k → k < i → has_number k ≡ false)) → lowest_valid image start ≡ r
  lowest_found start None none =
      from_start start ∙ lowest-nothing (valid_slot image) start (slot_count - start) (λ k a b. sym (number_valid k) ∙ none k a (omega (arith, b, slot-count)))
  lowest_found start (Some i) w =
      from_start start
      ∙ lowest-is (valid_slot image) start (slot_count - start) i (record {
        low = w.0;
        high = omega (arith, w.0, w.1, slot-count);
        passes = sym (number_valid i) ∙ w.2;
        none_below = λ k a b. sym (number_valid k) ∙ w.3 k a b;
      })
