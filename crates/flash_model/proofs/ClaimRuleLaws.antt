-- A claim: the slot it gives, what it writes and what it counts as. Assumes nothing.
use Prim.Native.Nat.{ℕ, zero, suc, ◌+◌, ◌*◌, ◌≤◌, ◌<◌}
use mathlib.Core.Path.{◌≡◌, refl, sym, ap, subst, ◌∙◌}
use mathlib.Core.Bool.{Bool, true, false, not, cond, false≢true}
use mathlib.Core.List.{List, [], ◌∷◌, ◌++◌}
use Rattle.std.specs.Prelude.{Option, None, Some}
use mathlib.Core.Logic.{◌≢◌, ◌⊎◌, inl, inr}
use native.Mathlib.Omega.{arith}
use native.Mathlib.Decide.{ℕ_discrete}
use lib.Dec.{ltb}
use lib.ListN.{take, drop}
use borrow.Author.Tests.{eq-eqb, ne_eqb, ltb-true, ltb-false}
use Rattle.words.specs.Lists.{keep, to_list}
use Rattle.words.specs.Search.{lowest}
use Rattle.flash_model.specs.Partition.{refusal, contents}
use Rattle.flash_model.specs.Slots.{slot_count, slot_number, slot_size, slot_partition, slot_header, product_of, is_right, valid_slot, has_product, product_slot, free_slot, claimed_slot, written_slot, page_bytes, slot_refusal}
use Rattle.flash_model.specs.Calls.{PageCall, Call, Reply, claim_rows, code_of, accepted, after_page, after_pages, saves_at, calls_made, reply_to, Answered}
use Rattle.flash_model.specs.Calls.{PageCall.save, CompoundCall.claim, Call.on_page, Call.on_pages}
use Rattle.flash_model.specs.PageStore.{expected_page}
use Rattle.flash_model.specs.Runs.{counts_as, PageStep, answered_pages, on_owned, owned_of, DoneBoth, SameButSeen}
use Rattle.flash_model.specs.Demands.{SaveDone}
use Rattle.flash_model.specs.SlotDemands.{HeaderIs, ProductAt, NoProduct, LowestNotValid, ClaimFound, ClaimWritten, CountsAsSaves, SlotImage, AllDone}
use Rattle.flash_model.proofs.SlotLaws.{header-first, header-second, open-slot, right-bytes}
use Rattle.flash_model.proofs.CallLaws.{answered-code, accepted-image, accepted-values}
use Rattle.flash_model.proofs.MeaningLaws.{contents-length}
use Rattle.flash_model.proofs.SoundLaws.{unrefused-sound}
use Rattle.flash_model.proofs.Demand2Laws.{save_keeps}
use Rattle.flash_model.proofs.ClaimLaws.{seen-is, page-after, slot-count, free-most, AcceptedClaim, claim-rows, first_save, second_save, both-done, claim_done}
use Rattle.flash_model.proofs.SlotHeaderLaws.{free-found, product_found, product-none}

-- ---- saves

-- a save that is done leaves what an accepted one leaves
pub save-done : (image : List ℕ) (partition n : ℕ) (expected page : List ℕ) → code_of image (on_page (save partition n expected page)) ≡ 0
    → SaveDone image n page (after_page image (save partition n expected page))
unfolding reply_to
save-done image partition n expected page e =
    let p = save partition n expected page in
    (partition, expected, reply_to image (on_page p), record { answer_is = refl; image_is = sym (page-after image p) }, e)

pub slot-image-open : (image : List ℕ) → SlotImage image → slot_refusal image 3 ≡ 0
unfolding slot_size slot_partition
slot-image-open image i =
    open-slot image 3 (record {
      size_is = i.has_length;
      unrefused_1_5 = subst (λ (q : ℕ). refusal image q ≡ 0) i.has_number_lem i.is_sound;
      named = refl;
    })

-- ---- claims

module _ (image : List ℕ) (partition : ℕ) (one other image' : List ℕ) (answer : Reply)
    (a : Answered image (on_pages (claim partition one other)) image' answer) (e : answer.code ≡ 0) where
  abbrev it : Call
  it = on_pages (claim partition one other)

  rows : AcceptedClaim image partition one other
  rows = claim-rows image partition one other (sym (answered-code image it image' answer a) ∙ e)

  values_are : answer.values ≡ to_list (claimed_slot image (one ++ other))
  values_are = accepted-values image it image' answer a e

  image_is : (o : Option ℕ) → written_slot image (one ++ other) ≡ o → image' ≡ after_pages image (saves_at image partition one other o)
  unfolding calls_made
  image_is o q = accepted-image image it image' answer a e ∙ ap (λ (o : Option ℕ). after_pages image (saves_at image partition one other o)) q

  claim-found : (slot : ℕ) → product_slot image (product_of (one ++ other)) ≡ Some slot
      → (slot : ℕ) × (answer.values ≡ slot ∷ []) × (ClaimFound image one other image' slot ⊎ ClaimWritten image one other image' slot)
  unfolding claimed_slot written_slot product_of
  claim-found slot q = (
    slot,
    values_are ∙ rw q,
    inl (record { is_lowest = product_found image (take 10 (drop 2 (one ++ other))) slot q; same_image = image_is None (rw q) }),
  )

  same-header-at : (image image' : List ℕ) (k : ℕ) (header : List ℕ)
      → contents image' (24 + 4 * k) ≡ contents image (24 + 4 * k) → contents image' (25 + 4 * k) ≡ contents image (25 + 4 * k)
      → HeaderIs image' k header → HeaderIs image k header
  same-header-at image image' k header p q v = record {
    one = v.one;
    other = v.other;
    first_block_lem = sym p ∙ v.first_block_lem;
    second_block = sym q ∙ v.second_block;
    header_is = v.header_is;
    makes_valid = v.makes_valid;
  }

  claim-written : (slot : ℕ) → product_slot image (product_of (one ++ other)) ≡ None → free_slot image ≡ Some slot
      → (slot : ℕ) × (answer.values ≡ slot ∷ []) × (ClaimFound image one other image' slot ⊎ ClaimWritten image one other image' slot)
  unfolding claimed_slot written_slot product_of
  claim-written slot q f =
      let p = first_save image partition one other slot in
      let i = after_page image p in
      let d = both-done image partition one other slot rows (free-most image slot f) in
      let first_one = subst (λ (n : ℕ). SaveDone image n one i) (header-first slot) (save-done image partition (slot_number slot 0) _ one d.first_done) in
      let last : after_page i (second_save image partition one other slot) ≡ image' = sym (image_is (Some slot) (rw (q, f))) in
      let second-one = subst (λ (j : List ℕ). SaveDone i (25 + 4 * slot) other j) last
      (subst (λ (n : ℕ). SaveDone i n other (after_page i (second_save image partition one other slot))) (header-second slot) (save-done i partition (slot_number slot 1) _ other d.second_done)) in
      let one_is = save_keeps image (24 + 4 * slot) one i first_one in
      let other_is = save_keeps i (25 + 4 * slot) other image' second-one in
      let others : (m : ℕ) → m ≢ 24 + 4 * slot → m ≢ 25 + 4 * slot → contents image' m ≡ contents image m =
      λ m a b. other_is.other_pages m b ∙ one_is.other_pages m a in
      let header : HeaderIs image' slot (one ++ other) = record {
        one = one;
        other = other;
        first_block_lem = other_is.other_pages (24 + 4 * slot) (λ h. omega (arith, h)) ∙ one_is.saved_page;
        second_block = other_is.saved_page;
        header_is = refl;
        makes_valid = right-bytes (one ++ other) rows.is_right_lem;
      } in (
        slot,
        values_are ∙ rw (q, f),
        inr (record {
          no_product = product-none image (take 10 (drop 2 (one ++ other))) q;
          is_lowest = free-found image slot f;
          between = i;
          first_save_lem = first_one;
          second_save_lem = second-one;
          writes = λ e. (free-found image slot f).not_valid (free-most image slot f, (one ++ other, subst (λ (j : List ℕ). HeaderIs j slot (one ++ other)) e header));
          has_header = header;
          is_found = record {
            here = record { is_slot = free-most image slot f; header = one ++ other; is_valid = header; product_is = refl };
            none_below = λ k l p. product-none image (take 10 (drop 2 (one ++ other))) q k (record {
              is_slot = p.is_slot;
              header = p.header;
              is_valid = same-header-at image image' k p.header (others (24 + 4 * k) (λ h. omega (arith, h, l)) (λ h. omega (arith, h)))
                  (others (25 + 4 * k) (λ h. omega (arith, h)) (λ h. omega (arith, h, l))) p.is_valid;
              product_is = p.product_is;
            });
          };
          other_pages = others;
        }),
      )

  pub claim_gives : (slot : ℕ) × (answer.values ≡ slot ∷ []) × (ClaimFound image one other image' slot ⊎ ClaimWritten image one other image' slot)
  claim_gives = go (product_slot image (product_of (one ++ other))) refl (free_slot image) refl
    where
      nothing : product_slot image (product_of (one ++ other)) ≡ None → free_slot image ≡ None → ⊥
      nothing q f = unfold claimed_slot in false≢true (sym (rw (q, f)) ∙ rows.is_given)

      go : (o : Option ℕ) → product_slot image (product_of (one ++ other)) ≡ o → (f : Option ℕ) → free_slot image ≡ f
          → (slot : ℕ) × (answer.values ≡ slot ∷ []) × (ClaimFound image one other image' slot ⊎ ClaimWritten image one other image' slot)
      go (Some slot) q f r = claim-found slot q
      go None q (Some slot) r = claim-written slot q r
      go None q None r = absurd (nothing q r)

-- ---- what a claim counts as

module _ (image : List ℕ) (partition : ℕ) (one other : List ℕ) where
  abbrev this : Call
  this = on_pages (claim partition one other)

  pub refused-counts : code_of image this ≢ 0 → counts_as image this ≡ []
  unfolding accepted
  refused-counts n = ap (λ (t : Bool). cond t (calls_made image (claim partition one other)) []) (ne_eqb (code_of image this) 0 n)

  accepted-counts : (o : Option ℕ) → written_slot image (one ++ other) ≡ o → code_of image this ≡ 0 → counts_as image this ≡ saves_at image partition one other o
  unfolding accepted calls_made
  accepted-counts o q e =
      ap (λ (t : Bool). cond t (calls_made image (claim partition one other)) []) (eq-eqb (code_of image this) 0 e)
      ∙ ap (λ (o : Option ℕ). saves_at image partition one other o) q

  pub found-counts : (slot : ℕ) → ProductAt image slot (take 10 (drop 2 (one ++ other))) → counts_as image this ≡ []
  unfolding written_slot product_of
  found-counts slot p = go (product_slot image (product_of (one ++ other))) refl (ℕ_discrete (code_of image this) 0)
    where
      go : (o : Option ℕ) → product_slot image (product_of (one ++ other)) ≡ o → Dec (code_of image this ≡ 0) → counts_as image this ≡ []
      go None q d = absurd (product-none image (take 10 (drop 2 (one ++ other))) q slot p)
      go (Some k) q (yes e) = accepted-counts None (rw q) e
      go (Some k) q (no n) = refused-counts n

  pub written-counts : code_of image this ≡ 0 → NoProduct image (take 10 (drop 2 (one ++ other))) → CountsAsSaves image partition one other
  unfolding product_of written_slot
  written-counts e n = go (product_slot image (product_of (one ++ other))) refl (free_slot image) refl
    where
      rows : AcceptedClaim image partition one other
      rows = claim-rows image partition one other e

      stands : (k : ℕ) → expected_page (page_bytes (contents image k)) ≡ contents image k
      stands k = (seen-is (contents image k) (λ page q. contents-length image (unrefused-sound image partition rows.is_open.unrefused_1_5) k page q)).0

      nothing : product_slot image (product_of (one ++ other)) ≡ None → free_slot image ≡ None → ⊥
      nothing q f = unfold claimed_slot in false≢true (sym (rw (q, f)) ∙ rows.is_given)

      written : (slot : ℕ) → product_slot image (product_of (one ++ other)) ≡ None → free_slot image ≡ Some slot → written_slot image (one ++ other) ≡ Some slot
      written slot q f = rw (q, f)

      go : (o : Option ℕ) → product_slot image (product_of (one ++ other)) ≡ o → (f : Option ℕ) → free_slot image ≡ f → CountsAsSaves image partition one other
      go (Some k) q f r = absurd (n k (product_found image (take 10 (drop 2 (one ++ other))) k q).here)
      go None q None r = absurd (nothing q r)
      go None q (Some slot) r = record {
        slot = slot;
        is_lowest = free-found image slot r;
        seen_one = page_bytes (contents image (24 + 4 * slot));
        seen_other = page_bytes (contents image (25 + 4 * slot));
        one_stands = stands (24 + 4 * slot);
        other_stands = stands (25 + 4 * slot);
        saves_are = accepted-counts (Some slot) (written slot q r) e ∙ rw (header-first slot, header-second slot);
      }

module _ (owned : ℕ → Bool) (s t one other : List ℕ) (partition : ℕ) where
  abbrev kept_of : List ℕ → List PageCall → List PageStep
  kept_of image ps = keep (λ x. on_owned owned x.call) (answered_pages image ps)

  two-alike : (m n : ℕ) (a b c d : List ℕ) → AllDone (answered_pages s (save partition m a one ∷ save partition n b other ∷ []))
      → AllDone (answered_pages t (save partition m c one ∷ save partition n d other ∷ []))
      → SameButSeen (kept_of s (save partition m a one ∷ save partition n b other ∷ [])) (kept_of t (save partition m c one ∷ save partition n d other ∷ []))
  two-alike m n a b c d p q = go (owned m) (owned n)
    where
      x : PageStep
      x = record { call = save partition m a one; answer = reply_to s (on_page (save partition m a one)) }

      y : PageStep
      y = record { call = save partition m c one; answer = reply_to t (on_page (save partition m c one)) }

      x2 : PageStep
      x2 = record { call = save partition n b other; answer = reply_to (after_page s (save partition m a one)) (on_page (save partition n b other)) }

      y2 : PageStep
      y2 = record { call = save partition n d other; answer = reply_to (after_page t (save partition m c one)) (on_page (save partition n d other)) }

      one_done : DoneBoth x y
      one_done = record { partition = partition; number = m; page = one; seen_in_one = a; seen_in_other = c; one_is = refl; other_is = refl; one_done = p.0; other_done = q.0 }

      two-done : DoneBoth x2 y2
      two-done = record { partition = partition; number = n; page = other; seen_in_one = b; seen_in_other = d; one_is = refl; other_is = refl; one_done = p.1.0; other_done = q.1.0 }

      go : (g h : Bool) → SameButSeen (cond g (x ∷ cond h (x2 ∷ []) []) (cond h (x2 ∷ []) [])) (cond g (y ∷ cond h (y2 ∷ []) []) (cond h (y2 ∷ []) []))
      go true true = (inr one_done, (inr two-done, tt))
      go true false = (inr one_done, tt)
      go false true = (inr two-done, tt)
      go false false = tt

lowest-unique : (image : List ℕ) (a b : ℕ) → LowestNotValid image a → LowestNotValid image b → a ≡ b
lowest-unique image a b p q = go (ltb a b) refl (ltb b a) refl
  where
    go : (x : Bool) → ltb a b ≡ x → (y : Bool) → ltb b a ≡ y → a ≡ b
    go true e y f = absurd (p.not_valid (q.all_below a (ltb-true a b e)))
    go false e true f = absurd (q.not_valid (p.all_below b (ltb-true b a f)))
    go false e false f = omega (arith, ltb-false a b e, ltb-false b a f)

pub claims_in_both : (owned : ℕ → Bool) (s t one other : List ℕ) (partition slot : ℕ) (a b : Reply) (s' t' : List ℕ)
    → code_of s (on_pages (claim partition one other)) ≡ 0 → code_of t (on_pages (claim partition one other)) ≡ 0
    → NoProduct s (take 10 (drop 2 (one ++ other))) → NoProduct t (take 10 (drop 2 (one ++ other)))
    → LowestNotValid s slot → LowestNotValid t slot
    → SameButSeen (owned_of owned s (record { made = on_pages (claim partition one other); answer = a; image' = s' }))
    (owned_of owned t (record { made = on_pages (claim partition one other); answer = b; image' = t' }))
claims_in_both owned s t one other partition slot a b s' t' e f n m l k =
    let c = written-counts s partition one other e n in
    let d = written-counts t partition one other f m in
    let cs : counts_as s (on_pages (claim partition one other)) ≡ save partition (24 + 4 * slot) c.seen_one one ∷ save partition (25 + 4 * slot) c.seen_other other ∷ [] =
    c.saves_are ∙ ap (λ (i : ℕ). save partition (24 + 4 * i) c.seen_one one ∷ save partition (25 + 4 * i) c.seen_other other ∷ []) (lowest-unique s c.slot slot c.is_lowest l) in
    let ds : counts_as t (on_pages (claim partition one other)) ≡ save partition (24 + 4 * slot) d.seen_one one ∷ save partition (25 + 4 * slot) d.seen_other other ∷ [] =
    d.saves_are ∙ ap (λ (i : ℕ). save partition (24 + 4 * i) d.seen_one one ∷ save partition (25 + 4 * i) d.seen_other other ∷ []) (lowest-unique t d.slot slot d.is_lowest k) in
    let p = subst (λ (ps : List PageCall). AllDone (answered_pages s ps)) cs (claim_done s partition one other) in
    let q = subst (λ (ps : List PageCall). AllDone (answered_pages t ps)) ds (claim_done t partition one other) in
    let r = two-alike owned s t one other partition (24 + 4 * slot) (25 + 4 * slot) c.seen_one c.seen_other d.seen_one d.seen_other p q in
    subst (λ (ps : List PageCall). SameButSeen (kept_of owned s t one other partition s ps) (kept_of owned s t one other partition t (counts_as t (on_pages (claim partition one other))))) (sym cs)
    (subst (λ (ps : List PageCall). SameButSeen (kept_of owned s t one other partition s (save partition (24 + 4 * slot) c.seen_one one ∷ save partition (25 + 4 * slot) c.seen_other other ∷ [])) (kept_of owned s t one other partition t ps)) (sym ds) r)

-- ---- a claim's answer depends on header blocks alone

lowest-same : (p q : ℕ → Bool) (a n : ℕ) → ((k : ℕ) → a ≤ k → k < a + n → p k ≡ q k) → lowest p a n ≡ lowest q a n
lowest-same p q a zero h = refl
lowest-same p q a (suc n) h = rw (h a (omega arith) (omega arith), lowest-same p q (suc a) n (λ k x y. h k (omega (arith, x)) (omega (arith, y))))

module _ (s t : List ℕ) (same : (slot i : ℕ) → slot ≤ 99 → i ≤ 1 → contents s (24 + 4 * slot + i) ≡ contents t (24 + 4 * slot + i)) where
  same_header : (slot : ℕ) → 0 ≤ slot → slot < 0 + slot_count → slot_header s slot ≡ slot_header t slot
  unfolding slot_header slot_number
  same_header slot a b =
      let most : slot ≤ 99 = omega (arith, b, slot-count) in
      rw (same slot 0 most (omega arith), same slot 1 most (omega arith))

  same-claimed : (header : List ℕ) → claimed_slot s header ≡ claimed_slot t header
  unfolding claimed_slot product_slot free_slot valid_slot
  same-claimed header =
      let p = lowest-same (λ k. has_product (product_of header) (slot_header s k)) (λ k. has_product (product_of header) (slot_header t k)) 0 slot_count
      (λ k a b. ap (has_product (product_of header)) (same_header k a b)) in
      let f = lowest-same (λ k. not (is_right (slot_header s k))) (λ k. not (is_right (slot_header t k))) 0 slot_count
      (λ k a b. ap (λ (o : Option (List ℕ)). not (is_right o)) (same_header k a b)) in
      rw (p, f)

pub claims_alike : (s t one other : List ℕ) → SlotImage s → SlotImage t
    → ((slot i : ℕ) → slot ≤ 99 → i ≤ 1 → contents s (24 + 4 * slot + i) ≡ contents t (24 + 4 * slot + i))
    → reply_to s (on_pages (claim 3 one other)) ≡ reply_to t (on_pages (claim 3 one other))
unfolding reply_to accepted code_of claim_rows
claims_alike s t one other is_one is-other same =
    rw (slot-image-open s is_one, slot-image-open t is-other, same-claimed s t same (one ++ other))
