-- A slot's header in plain logic, and what the searches over the slots find. Assumes nothing.
use Prim.Native.Nat.{ℕ, ◌≤◌}
use mathlib.Core.Path.{◌≡◌, refl, sym, ap, ◌∙◌}
use mathlib.Core.Bool.{Bool, true, false, not, ◌&&◌, true≢false, false≢true}
use mathlib.Core.List.{List}
use Rattle.std.specs.Prelude.{Option, None, Some}
use mathlib.Core.Logic.{◌↔◌}
use native.Mathlib.Omega.{arith}
use lib.Dec.{leb}
use lib.ListN.{take, drop}
use borrow.Author.Tests.{leb-true, le-leb, not-true, not-false}
use Rattle.words.proofs.Bools.{and-true-left, and-true-right}
use Rattle.words.proofs.WordLaws.{same-eq, eq-same}
use Rattle.words.proofs.SearchLaws.{lowest-some, lowest-none}
use Rattle.flash_model.specs.Partition.{contents}
use Rattle.flash_model.specs.Slots.{slot_count, slot_number, joined, slot_header, right_header, product_of, is_right, valid_slot, has_product, product_slot, free_slot, lowest_valid}
use Rattle.flash_model.specs.SlotDemands.{HeaderIs, IsSlot, ProductAt, LowestProduct, NoProduct, LowestNotValid, NextSlotIs}
use Rattle.flash_model.proofs.SlotLaws.{header-first, header-second, right-bytes, bytes-right}
use Rattle.flash_model.proofs.ClaimLaws.{slot-count, free-lowest, free-most}

-- ---- headers

module _ (image : List ℕ) (slot : ℕ) where
  header_of : (header : List ℕ) → slot_header image slot ≡ Some header → right_header header ≡ true → HeaderIs image slot header
  unfolding slot_header
  header_of header e r = go (contents image (slot_number slot 0)) refl (contents image (slot_number slot 1)) refl e
    where
      go : (a : Option (List ℕ)) → contents image (slot_number slot 0) ≡ a → (b : Option (List ℕ)) → contents image (slot_number slot 1) ≡ b
          → joined a b ≡ Some header → HeaderIs image slot header
      go None p b q f = let z : ◌≡◌ {A = ℕ} 0 1 = cc in absurd (omega (arith, z))
      go (Some a) p None q f = let z : ◌≡◌ {A = ℕ} 0 1 = cc in absurd (omega (arith, z))
      go (Some a) p (Some b) q f =
          let w = right-bytes header r in
          record {
            one = a;
            other = b;
            first_block_lem = ap (contents image) (sym (header-first slot)) ∙ p;
            second_block = ap (contents image) (sym (header-second slot)) ∙ q;
            header_is = cc;
            makes_valid = w;
          }

  of-header : (header : List ℕ) → HeaderIs image slot header → (slot_header image slot ≡ Some header) × (right_header header ≡ true)
  unfolding slot_header
  of-header header h =
      let a = ap (contents image) (header-first slot) ∙ h.first_block_lem in
      let b = ap (contents image) (header-second slot) ∙ h.second_block in
      let e = h.header_is in
      (rw (a, b, e), bytes-right header h.makes_valid)

  pub valid_slot_lem : (valid_slot image slot ≡ true) ↔ ((header : List ℕ) × HeaderIs image slot header)
  unfolding valid_slot
  valid_slot_lem = (λ e. go (slot_header image slot) refl e, λ h. let w = of-header h.0 h.1 in rw (w.0, w.1))
    where
      go : (o : Option (List ℕ)) → slot_header image slot ≡ o → is_right o ≡ true → (header : List ℕ) × HeaderIs image slot header
      go None q e = absurd (false≢true e)
      go (Some header) q e = (header, header_of header q e)

  product_at : (product : List ℕ) → slot ≤ 99 → has_product product (slot_header image slot) ≡ true → ProductAt image slot product
  unfolding product_of
  product_at product most e = go (slot_header image slot) refl e
    where
      go : (o : Option (List ℕ)) → slot_header image slot ≡ o → has_product product o ≡ true → ProductAt image slot product
      go None q e = absurd (false≢true e)
      go (Some header) q e = record {
        is_slot = most;
        header = header;
        is_valid = header_of header q (and-true-left (right_header header) _ e);
        product_is = same-eq (take 10 (drop 2 header)) product (and-true-right (right_header header) _ e);
      }

  at-product : (product : List ℕ) → ProductAt image slot product → has_product product (slot_header image slot) ≡ true
  unfolding product_of
  at-product product p =
      let w = of-header p.header p.is_valid in
      rw (w.0, w.1) (eq-same (take 10 (drop 2 p.header)) product p.product_is)

module _ (image : List ℕ) where
  -- a slot is valid or not
  pub is_slot : (slot : ℕ) → slot ≤ 99 → valid_slot image slot ≡ true → IsSlot image slot
  is_slot slot most e = (most, (valid_slot_lem image slot).0 e)

  pub not-slot : (slot : ℕ) → valid_slot image slot ≡ false → IsSlot image slot → ⊥
  not-slot slot e h = true≢false (sym ((valid_slot_lem image slot).1 h.1) ∙ e)

  -- ---- searches

  pub product_found : (product : List ℕ) (slot : ℕ) → product_slot image product ≡ Some slot → LowestProduct image slot product
  unfolding product_slot
  product_found product slot e =
      let w = lowest-some (λ k. has_product product (slot_header image k)) 0 slot_count slot e in
      record {
        here = product_at image slot product (omega (arith, w.high, slot-count)) w.passes;
        none_below = λ k h p. true≢false (sym (at-product image k product p) ∙ w.none_below k (omega arith) h);
      }

  pub product-none : (product : List ℕ) → product_slot image product ≡ None → NoProduct image product
  unfolding product_slot
  product-none product e slot p =
      let most = p.is_slot in
      let q = lowest-none (λ k. has_product product (slot_header image k)) 0 slot_count e slot (omega arith) (omega (arith, most, slot-count)) in
      true≢false (sym (at-product image slot product p) ∙ q)

  pub free-found : (slot : ℕ) → free_slot image ≡ Some slot → LowestNotValid image slot
  free-found slot e =
      let w = free-lowest image slot e in
      let most = free-most image slot e in
      record {
        is_slot = most;
        not_valid = not-slot slot (not-true (valid_slot image slot) w.passes);
        all_below = λ k h. is_slot k (omega (arith, h, most)) (not-false (valid_slot image k) (w.none_below k (omega arith) h));
      }

  pub free-none : free_slot image ≡ None → (slot : ℕ) → slot ≤ 99 → IsSlot image slot
  unfolding free_slot
  free-none e slot most =
      is_slot slot most (not-false (valid_slot image slot) (lowest-none (λ k. not (valid_slot image k)) 0 slot_count e slot (omega arith) (omega (arith, most, slot-count))))

  pub next-found : (start slot : ℕ) → lowest_valid image start ≡ Some slot → NextSlotIs image start slot
  unfolding lowest_valid
  next-found start slot e =
      let p : ℕ → Bool = λ k. leb start k && valid_slot image k in
      let w = lowest-some (λ k. leb start k && valid_slot image k) 0 slot_count slot e in
      record {
        not_below = leb-true start slot (and-true-left (leb start slot) _ w.passes);
        is_valid = is_slot slot (omega (arith, w.high, slot-count)) (and-true-right (leb start slot) _ w.passes);
        none_between = λ k a b h. true≢false (sym (rw (le-leb start k a) ((valid_slot_lem image k).1 h.1)) ∙ w.none_below k (omega arith) b);
      }

  pub next-nothing : (start : ℕ) → lowest_valid image start ≡ None → (slot : ℕ) → start ≤ slot → IsSlot image slot → ⊥
  unfolding lowest_valid
  next-nothing start e slot a h =
      let most = h.0 in
      let q = lowest-none (λ k. leb start k && valid_slot image k) 0 slot_count e slot (omega arith) (omega (arith, most, slot-count)) in
      true≢false (sym (rw (le-leb start slot a) ((valid_slot_lem image slot).1 h.1)) ∙ q)
