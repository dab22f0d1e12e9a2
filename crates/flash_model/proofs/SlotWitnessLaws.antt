-- Partitions with valid slots. Assumes nothing.
use Prim.Native.Nat.{ℕ, zero, suc, ◌+◌, ◌*◌, ◌-◌, ◌≤◌, ◌<◌}
use mathlib.Core.Path.{◌≡◌, refl, sym, ap, subst, ◌∙◌}
use mathlib.Core.Bool.{Bool, true, false, cond}
use mathlib.Core.List.{List, [], ◌∷◌, ◌++◌}
use Rattle.std.specs.Prelude.{Option, None, Some}
use mathlib.Core.Logic.{◌≢◌, ◌⊎◌, inl, inr, ⊎_elim}
use native.Mathlib.Omega.{arith}
use native.Mathlib.Decide.{ℕ_discrete}
use lib.Dec.{eqb}
use lib.ListN.{get_or, take, drop, replicate}
use borrow.Author.Tests.{eq-eqb, ne_eqb}
use Rattle.flash_model.specs.Partition.{contents}
use Rattle.flash_model.specs.Calls.{code_of, reply_to, after}
use Rattle.flash_model.specs.Calls.{CompoundCall.claim, Call.on_pages}
use Rattle.flash_model.specs.Demands.{SavedAs, Witness}
use Rattle.flash_model.specs.SlotDemands.{HeaderIs, IsSlot, ProductAt, ClaimFound, ClaimWritten}
use Rattle.flash_model.specs.SlotWitnesses.{HeaderFor, BlankPartition, SecondThere, OneSlot, AllSlots, SlotsNotVacuous}
use Rattle.flash_model.proofs.Demand2Laws.{demand2}
use Rattle.flash_model.proofs.SlotRuleLaws.{slot-rules}
use Rattle.flash_model.proofs.ByteLaws.{bytes-replicate}
use Rattle.flash_model.proofs.WitnessLaws.{not-vacuous}
use Rattle.flash_model.proofs.SlotPageLaws.{header_of, header-for, zeros, zeros-first, SlotPages, SixtyBytes, zeros-60, paged, header-there, all-allocated, is_open, finds, same_header, claim-given}

-- ---- all hundred

module _ (product one other : ℕ → List ℕ) (new new_one new_other : List ℕ) (h : (slot : ℕ) → slot ≤ 99 → HeaderFor (product slot) (one slot) (other slot))
    (g : HeaderFor new new_one new_other) (apart : (slot : ℕ) → slot ≤ 99 → product slot ≢ new) where
  all_slots : (image : List ℕ) × AllSlots image product one other new_one new_other
  all_slots =
      let w = paged one other (λ slot l. record { are_bytes = (h slot l).one_bytes; sixty = (h slot l).one_length })
      (λ slot l. record { are_bytes = (h slot l).other_bytes; sixty = (h slot l).other_length }) in
      (w.0, of w.0 w.1)
    where
      of : (image : List ℕ) → SlotPages one other image → AllSlots image product one other new_one new_other
      of image p = record {
        is_partition = p.is_partition;
        all_valid = valid;
        all_found = λ slot l. finds image p.is_partition slot (product slot) (one slot) (other slot) l (h slot l) (valid slot l);
        own_claimed = λ slot l. (slot-rules.claim_codes image 3 (one slot) (other slot) (is_open image p.is_partition)).row_0.1 (
          ((h slot l).one_length, (h slot l).other_length),
          (
            (h slot l).makes_valid,
            λ t. t.1 slot (record { is_slot = l; header = one slot ++ other slot; is_valid = valid slot l; product_is = refl }),
          ),
        );
        new_refused = (slot-rules.claim_codes image 3 new_one new_other (is_open image p.is_partition)).row_40.1
            ((g.one_length, g.other_length), (g.makes_valid, (λ slot l. (l, (one slot ++ other slot, valid slot l)), none_has)));
      }
        where
          valid : (slot : ℕ) → slot ≤ 99 → HeaderIs image slot (one slot ++ other slot)
          valid slot l = header-there image slot (product slot) (one slot) (other slot) (h slot l) (p.first_page slot l) (p.second_page slot l)

          none_has : (slot : ℕ) → ProductAt image slot (take 10 (drop 2 (new_one ++ new_other))) → ⊥
          none_has slot q =
              let l = q.is_slot in
              let e = same_header image p.is_partition slot (one slot ++ other slot) q.header (valid slot l) q.is_valid in
              apart slot l (sym (h slot l).product_is ∙ ap (λ (x : List ℕ). take 10 (drop 2 x)) e ∙ q.product_is ∙ g.product_is)

-- ---- none

-- where no slot is valid, a claim writes slot 0
module _ {product one other : List ℕ} (h : HeaderFor product one other) (image : List ℕ) (w : Witness 32768 3 image) (none_valid : (k : ℕ) → IsSlot image k → ⊥) where
  first-claimed : code_of image (on_pages (claim 3 one other)) ≡ 0
  first-claimed =
      (slot-rules.claim_codes image 3 one other (is_open image w)).row_0.1
      ((h.one_length, h.other_length), (h.makes_valid, λ t. none_valid 0 (t.0 0 (omega arith))))

  first-written : ClaimWritten image one other (after image (on_pages (claim 3 one other))) 0
  first-written =
      let gives = claim-given image one other first-claimed in
      ⊎_elim (λ f. absurd (none_has gives.0 f.is_lowest.here)) (λ f. at-0 gives.0 f) gives.2
    where
      none_has : (k : ℕ) → ProductAt image k (take 10 (drop 2 (one ++ other))) → ⊥
      none_has k p = none_valid k (p.is_slot, (p.header, p.is_valid))

      at-0 : (k : ℕ) → ClaimWritten image one other (after image (on_pages (claim 3 one other))) k
          → ClaimWritten image one other (after image (on_pages (claim 3 one other))) 0
      at-0 zero f = f
      at-0 (suc k) f = absurd (none_valid 0 (f.is_lowest.all_below 0 (omega arith)))

module _ (product one other : List ℕ) (h : HeaderFor product one other) where
  zero_slots : (image : List ℕ) × BlankPartition image one other
  zero_slots =
      let w = not-vacuous.empty 32768 3 ((not-vacuous.three_sizes 32768).1 (inr (inl refl))) (omega arith) in
      (w.0, of w.0 w.1 w.3)
    where
      of : (image : List ℕ) → Witness 32768 3 image → ((n : ℕ) → contents image n ≡ None) → BlankPartition image one other
      of image w empty = record {
        is_partition = w;
        none_live = empty;
        none_valid = none_valid;
        is_claimed = first-claimed h image w none_valid;
        is_written = first-written h image w none_valid;
      }
        where
          first-missing : {page : List ℕ} → ◌≡◌ {A = Option (List ℕ)} None (Some page) → ◌≡◌ {A = ℕ} 0 1
          first-missing e = cc

          none_valid : (k : ℕ) → IsSlot image k → ⊥
          none_valid k v = let z = first-missing (sym (empty (24 + 4 * k)) ∙ v.1.1.first_block_lem) in absurd (omega (arith, z))

  -- the first blocks are zeros, the second ones the header's
  half_idle : (image : List ℕ) × SecondThere image one other
  half_idle =
      let w = paged (λ slot. zeros) (λ slot. other) (λ slot l. zeros-60) (λ slot l. record { are_bytes = h.other_bytes; sixty = h.other_length }) in
      (w.0, of w.0 w.1)
    where
      of : (image : List ℕ) → SlotPages (λ slot. zeros) (λ slot. other) image → SecondThere image one other
      of image p = record {
        is_partition = p.is_partition;
        is_written = written;
        first_writes = λ e. none_valid 0
            (omega arith, (one ++ other, header-there image 0 product one other h (ap (λ (i : List ℕ). contents i 24) (sym e) ∙ first-is.saved_page) (p.second_page 0 (omega arith))));
        second_idles = (demand2.save_idles written.between 25 other (after image (on_pages (claim 3 one other))) written.second_save_lem
            (first-is.other_pages 25 (λ e. omega (arith, e)) ∙ p.second_page 0 (omega arith))).0;
      }
        where
          none_valid : (k : ℕ) → IsSlot image k → ⊥
          none_valid k v = zeros-first image k (p.first_page k v.0) v

          written : ClaimWritten image one other (after image (on_pages (claim 3 one other))) 0
          written = first-written h image p.is_partition none_valid

          first-is : SavedAs image 24 one written.between
          first-is = demand2.save_keeps image 24 one written.between written.first_save_lem

-- ---- one

module _ (slot : ℕ) (product one other new new_one new_other : List ℕ) (most : slot ≤ 99) (h : HeaderFor product one other) (g : HeaderFor new new_one new_other)
    (apart : product ≢ new) where
  ones : ℕ → List ℕ
  ones k = cond (eqb slot k) one zeros

  others : ℕ → List ℕ
  others k = cond (eqb slot k) other zeros

  ones-60 : (k : ℕ) → SixtyBytes (ones k)
  unfolding ones
  ones-60 k = go (eqb slot k)
    where
      go : (t : Bool) → SixtyBytes (cond t one zeros)
      go true = record { are_bytes = h.one_bytes; sixty = h.one_length }
      go false = zeros-60

  others-60 : (k : ℕ) → SixtyBytes (others k)
  unfolding others
  others-60 k = go (eqb slot k)
    where
      go : (t : Bool) → SixtyBytes (cond t other zeros)
      go true = record { are_bytes = h.other_bytes; sixty = h.other_length }
      go false = zeros-60

  here-one : ones slot ≡ one
  unfolding ones
  here-one = rw (eq-eqb slot slot refl)

  here-other : others slot ≡ other
  unfolding others
  here-other = rw (eq-eqb slot slot refl)

  not_valid : (image : List ℕ) → SlotPages ones others image → (k : ℕ) → k ≢ slot → IsSlot image k → ⊥
  unfolding ones
  not_valid image p k d v = zeros-first image k (p.first_page k v.0 ∙ rw (ne_eqb slot k (λ c. d (sym c)))) v

  one_slot : (image : List ℕ) × OneSlot image slot product one other new_one new_other
  one_slot =
      let w = paged ones others (λ k l. ones-60 k) (λ k l. others-60 k) in
      (w.0, of w.0 w.1)
    where
      of : (image : List ℕ) → SlotPages ones others image → OneSlot image slot product one other new_one new_other
      of image p = record {
        is_partition = p.is_partition;
        is_valid = valid;
        no_other = λ k v. only k v (ℕ_discrete k slot);
        is_found = finds image p.is_partition slot product one other most h valid;
        is_claimed = claimed;
        must_compact = λ k f. all-allocated image p.is_partition p.all_used k f;
        written = gives.0;
        is_written = ⊎_elim (λ f. absurd (none_has gives.0 f.is_lowest.here)) (λ f. f) gives.2;
      }
        where
          valid : HeaderIs image slot (one ++ other)
          valid =
              header-there image slot product one other h (p.first_page slot most ∙ ap (λ (l : List ℕ). Some l) here-one)
              (p.second_page slot most ∙ ap (λ (l : List ℕ). Some l) here-other)

          only : (k : ℕ) → IsSlot image k → Dec (k ≡ slot) → k ≡ slot
          only k v (yes e) = e
          only k v (no d) = absurd (not_valid image p k d v)

          free : (k : ℕ) × (k ≤ 99) × (k ≢ slot)
          free = go (ℕ_discrete slot 0)
            where
              go : Dec (slot ≡ 0) → (k : ℕ) × (k ≤ 99) × (k ≢ slot)
              go (yes e) = (1, omega arith, λ d. omega (arith, d, e))
              go (no e) = (0, omega arith, λ d. e (sym d))

          none_has : (k : ℕ) → ProductAt image k (take 10 (drop 2 (new_one ++ new_other))) → ⊥
          none_has k q =
              let v : HeaderIs image slot q.header = subst (λ (j : ℕ). HeaderIs image j q.header) (only k (q.is_slot, (q.header, q.is_valid)) (ℕ_discrete k slot)) q.is_valid in
              let e = same_header image p.is_partition slot (one ++ other) q.header valid v in
              apart (sym h.product_is ∙ ap (λ (x : List ℕ). take 10 (drop 2 x)) e ∙ q.product_is ∙ g.product_is)

          claimed : code_of image (on_pages (claim 3 new_one new_other)) ≡ 0
          claimed =
              (slot-rules.claim_codes image 3 new_one new_other (is_open image p.is_partition)).row_0.1
              ((g.one_length, g.other_length), (g.makes_valid, λ t. not_valid image p free.0 free.2 (t.0 free.0 free.1)))

          gives : (k : ℕ) × ((reply_to image (on_pages (claim 3 new_one new_other))).values ≡ k ∷ [])
              × (ClaimFound image new_one new_other (after image (on_pages (claim 3 new_one new_other))) k
              ⊎ ClaimWritten image new_one new_other (after image (on_pages (claim 3 new_one new_other))) k)
          gives =
              claim-given image new_one new_other claimed

-- ---- a hundred different product numbers

numbered : ℕ → List ℕ
numbered n = n ∷ replicate 9 0

numbered-header : (n : ℕ) → n < 256 → HeaderFor (numbered n) (take 60 (header_of (numbered n))) (drop 60 (header_of (numbered n)))
unfolding numbered
numbered-header n h = header-for (n ∷ replicate 9 0) refl (h, bytes-replicate 9 0 (omega arith))

different : (image : List ℕ) × Witness 32768 3 image × ((slot : ℕ) → slot ≤ 99 → ProductAt image slot (slot ∷ replicate 9 0))
unfolding numbered
different =
    let w = all_slots (λ slot. numbered slot) (λ slot. take 60 (header_of (numbered slot))) (λ slot. drop 60 (header_of (numbered slot))) (numbered 100)
    (take 60 (header_of (numbered 100))) (drop 60 (header_of (numbered 100))) (λ slot l. numbered-header slot (omega (arith, l))) (numbered-header 100 (omega arith))
    (λ slot l e. omega (arith, l, ap (λ (p : List ℕ). get_or p 0 0) e)) in (
      w.0,
      w.1.is_partition,
      λ slot l. record {
        is_slot = l;
        header = take 60 (header_of (numbered slot)) ++ drop 60 (header_of (numbered slot));
        is_valid = w.1.all_valid slot l;
        product_is = (numbered-header slot (omega (arith, l))).product_is;
      },
    )

pub slots-not-vacuous : SlotsNotVacuous
slots-not-vacuous = record {
  headers = λ product ten b. (take 60 (header_of product), drop 60 (header_of product), header-for product ten b);
  different = different;
  zero_slots = zero_slots;
  half_idle = half_idle;
  one_slot = one_slot;
  all_slots = all_slots;
}
