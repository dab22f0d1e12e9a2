-- Partitions whose slots have given header blocks, and what a find and a claim give there. Assumes nothing.
use Prim.Native.Nat.{ℕ, suc, ◌+◌, ◌*◌, ◌-◌, ◌/◌, ◌%◌, ◌≤◌}
use mathlib.Core.Path.{◌≡◌, refl, sym, ap, subst, ◌∙◌}
use mathlib.Core.Bool.{Bool, true, false, cond, true≢false}
use mathlib.Core.List.{List, [], ◌∷◌, ◌++◌, append_assoc}
use Rattle.std.specs.Prelude.{Option, None, Some}
use Rattle.std.proofs.lemmas.Option.{same_Some}
use mathlib.Core.Logic.{◌≢◌, ◌⊎◌, inl, inr}
use native.Mathlib.Omega.{arith}
use lib.Dec.{eqb, leb, ltb}
use lib.ListN.{length, get_or, take, drop, replicate, length-append, length-take, length-drop, length-replicate, take-append-drop}
use lib.Seq.{take_at}
use borrow.Author.Tests.{leb-true, le-leb, ltb-true, lt-ltb}
use Rattle.words.specs.Words.{word, word_bytes}
use Rattle.words.proofs.PartsLaws.{word-past}
use Rattle.checksum.specs.Crc.{checksum_of}
use Rattle.flash_model.specs.Measures.{capacity, top_number}
use Rattle.flash_model.specs.Partition.{contents, used}
use Rattle.flash_model.specs.Slots.{slot_number, slot_size, slot_partition, right_header, product_slot, slot_refusal}
use Rattle.flash_model.specs.Calls.{Call, code_of, reply_to, after}
use Rattle.flash_model.specs.Calls.{WholeCall.slot_find, CompoundCall.claim, Call.on_whole, Call.on_pages}
use Rattle.flash_model.specs.Demands.{LowestFreeBlank, Bytes, Witness}
use Rattle.flash_model.specs.SlotDemands.{HeaderIs, IsSlot, LowestProduct, ClaimFound, ClaimWritten}
use Rattle.flash_model.specs.SlotWitnesses.{HeaderFor}
use Rattle.flash_model.proofs.SlotLaws.{slot-legal, right-bytes, bytes-right, open-slot}
use Rattle.flash_model.proofs.SlotHeaderLaws.{product_found, product-none}
use Rattle.flash_model.proofs.SlotRuleLaws.{slot-rules}
use Rattle.flash_model.proofs.ByteLaws.{bytes-append, bytes-replicate, bytes_take, bytes_drop, word-bytes}
use Rattle.flash_model.proofs.SoundLaws.{unrefused-sound}
use Rattle.flash_model.proofs.MeaningLaws.{meanings}
use Rattle.flash_model.proofs.WitnessLaws.{not-vacuous}

-- ---- a header for a product number

body_of : List ℕ → List ℕ
body_of product = product ++ replicate 100 0

pub header_of : List ℕ → List ℕ
header_of product = 0x01 ∷ 0xFF ∷ body_of product ++ (word_bytes (checksum_of (body_of product)) ++ replicate 6 255)

module _ (product : List ℕ) (ten : length product ≡ 10) (b : Bytes product) where
  abbrev body : List ℕ
  body = body_of product

  abbrev header : List ℕ
  header = header_of product

  body-length : length body ≡ 110
  unfolding body_of
  body-length = length-append product (replicate 100 0) ∙ omega (arith, ten, length-replicate {A = ℕ} 100 0)

  header_length : length header ≡ 120
  unfolding header_of word_bytes
  header_length = ap (λ (n : ℕ). suc (suc n)) (length-append body (word_bytes (checksum_of body) ++ replicate 6 255)) ∙ omega (arith, body-length)

  header-bytes : Bytes header
  unfolding header_of body_of checksum_of
  header-bytes = (
    omega arith,
    (
      omega arith,
      bytes-append (product ++ replicate 100 0) (word_bytes (checksum_of (product ++ replicate 100 0)) ++ replicate 6 255)
          (bytes-append product (replicate 100 0) b (bytes-replicate 100 0 (omega arith)))
          (bytes-append (word_bytes (checksum_of (product ++ replicate 100 0))) (replicate 6 255) (word-bytes (checksum_of (product ++ replicate 100 0)) (omega arith)) (bytes-replicate 6 255 (omega arith))),
    ),
  )

  sum-there : word header 0x70 ≡ checksum_of body
  unfolding header_of
  sum-there =
      let front : List ℕ = 0x01 ∷ 0xFF ∷ body in
      let e : length front + 0 ≡ 0x70 = omega (arith, body-length) in
      ap (word (0x01 ∷ 0xFF ∷ body ++ (word_bytes (checksum_of body) ++ replicate 6 255))) (sym e)
      ∙ word-past front (word_bytes (checksum_of body) ++ replicate 6 255) 0 ∙ first_word (checksum_of body)
    where
      first_word : (n : ℕ) → word (word_bytes n ++ replicate 6 255) 0 ≡ n
      first_word n = unfold word word_bytes in omega arith

  header-right : right_header header ≡ true
  header-right =
      bytes-right header (unfold header_of in refl, (unfold header_of in refl, sum-there ∙ ap checksum_of (sym (unfold header_of in take_at body (word_bytes (checksum_of body) ++ replicate 6 255) 110 body-length))))

  both-parts : take 60 header ++ drop 60 header ≡ header
  both-parts = take-append-drop 60 header

  pub header-for : HeaderFor product (take 60 (header_of product)) (drop 60 (header_of product))
  header-for = record {
    one_bytes = bytes_take 60 header header-bytes;
    other_bytes = bytes_drop 60 header header-bytes;
    one_length = length-take 60 header ∙ omega (arith, header_length);
    other_length = length-drop 60 header ∙ omega (arith, header_length);
    makes_valid = right-bytes (take 60 header ++ drop 60 header) (rw both-parts header-right);
    product_is = rw both-parts (unfold header_of body_of in rw (append_assoc) (take_at product _ 10 ten));
  }

-- ---- a page for each number: the header blocks of the slots, else zeros

pub zeros : List ℕ
zeros = replicate 60 0

part_of : List ℕ → List ℕ → ℕ → List ℕ
part_of one other i = cond (eqb i 0) one (cond (eqb i 1) other zeros)

module _ (one other : ℕ → List ℕ) where
  page_of : ℕ → List ℕ
  page_of n = cond (leb 24 n) (cond (ltb n 424) (part_of (one ((n - 24) / 4)) (other ((n - 24) / 4)) ((n - 24) % 4)) zeros) zeros

  every-page : (P : List ℕ → Type 0) → P zeros → ((slot : ℕ) → slot ≤ 99 → P (one slot)) → ((slot : ℕ) → slot ≤ 99 → P (other slot)) → (n : ℕ) → P (page_of n)
  unfolding page_of part_of
  every-page P z a b n = go (leb 24 n) refl (ltb n 424) refl
    where
      part : (slot : ℕ) → slot ≤ 99 → (t u : Bool) → P (cond t (one slot) (cond u (other slot) zeros))
      part slot h true u = a slot h
      part slot h false true = b slot h
      part slot h false false = z

      go : (t : Bool) → leb 24 n ≡ t → (u : Bool) → ltb n 424 ≡ u
          → P (cond t (cond u (cond (eqb ((n - 24) % 4) 0) (one ((n - 24) / 4)) (cond (eqb ((n - 24) % 4) 1) (other ((n - 24) / 4)) zeros)) zeros) zeros)
      go false p u q = z
      go true p false q = z
      go true p true q = part ((n - 24) / 4) (omega (arith, leb-true 24 n p, ltb-true n 424 q)) (eqb ((n - 24) % 4) 0) (eqb ((n - 24) % 4) 1)

  page-one : (slot : ℕ) → slot ≤ 99 → page_of (24 + 4 * slot) ≡ one slot
  unfolding page_of part_of
  page-one slot h =
      let d : (24 + 4 * slot - 24) / 4 ≡ slot = omega arith in
      let r : (24 + 4 * slot - 24) % 4 ≡ 0 = omega arith in
      rw (le-leb 24 (24 + 4 * slot) (omega arith), lt-ltb (24 + 4 * slot) 424 (omega (arith, h)), r, d)

  page-other : (slot : ℕ) → slot ≤ 99 → page_of (25 + 4 * slot) ≡ other slot
  unfolding page_of part_of
  page-other slot h =
      let d : (25 + 4 * slot - 24) / 4 ≡ slot = omega arith in
      let r : (25 + 4 * slot - 24) % 4 ≡ 1 = omega arith in
      rw (le-leb 24 (25 + 4 * slot) (omega arith), lt-ltb (25 + 4 * slot) 424 (omega (arith, h)), r, d)

pub record SlotPages (one other : ℕ → List ℕ) (image : List ℕ) : Type 0 where
  pub is_partition : Witness 32768 3 image
  pub all_used : used image ≡ capacity 32768
  pub first_page : (slot : ℕ) → slot ≤ 99 → contents image (24 + 4 * slot) ≡ Some (one slot)
  pub second_page : (slot : ℕ) → slot ≤ 99 → contents image (25 + 4 * slot) ≡ Some (other slot)

pub record SixtyBytes (page : List ℕ) : Type 0 where
  pub are_bytes : Bytes page
  pub sixty : length page ≡ 60

pub zeros-60 : SixtyBytes zeros
unfolding zeros
zeros-60 = record { are_bytes = bytes-replicate 60 0 (omega arith); sixty = length-replicate {A = ℕ} 60 0 }

slot-top : (size slot i : ℕ) → size ≡ 32768 → slot ≤ 99 → i ≤ 3 → 24 + 4 * slot + i ≤ top_number size
unfolding slot_size slot_number
slot-top size slot i e h l = slot-legal size slot i e h l

pub paged : (one other : ℕ → List ℕ) → ((slot : ℕ) → slot ≤ 99 → SixtyBytes (one slot)) → ((slot : ℕ) → slot ≤ 99 → SixtyBytes (other slot))
    → (image : List ℕ) × SlotPages one other image
paged one other a b =
    let good = every-page one other SixtyBytes zeros-60 a b in
    let w = not-vacuous.full 32768 3 (page_of one other) ((not-vacuous.three_sizes 32768).1 (inr (inl refl))) (omega arith) (λ n. (good n).are_bytes) (λ n. (good n).sixty) in (
      w.0,
      record {
        is_partition = w.1;
        all_used = w.2;
        first_page = λ slot h. w.3 (24 + 4 * slot) (omega (arith, slot-top 32768 slot 0 refl h (omega arith))) ∙ ap (λ (p : List ℕ). Some p) (page-one one other slot h);
        second_page = λ slot h. w.3 (25 + 4 * slot) (omega (arith, slot-top 32768 slot 1 refl h (omega arith))) ∙ ap (λ (p : List ℕ). Some p) (page-other one other slot h);
      },
    )

-- a slot whose first block is zeros doesn't start with 01
pub zeros-first : (image : List ℕ) (k : ℕ) → contents image (24 + 4 * k) ≡ Some zeros → IsSlot image k → ⊥
unfolding zeros
zeros-first image k e v =
    let x = v.1.1 in
    let q : x.one ≡ replicate 60 0 = same_Some x.one (replicate 60 0) (sym x.first_block_lem ∙ e) in
    let z : get_or (replicate 60 0 ++ x.other) 0 0 ≡ 1 = ap (λ (l : List ℕ). get_or (l ++ x.other) 0 0) (sym q) ∙ ap (λ (l : List ℕ). get_or l 0 0) (sym x.header_is) ∙ x.makes_valid.0 in
    absurd (omega (arith, z))

-- ---- calls on such a partition

pub header-there : (image : List ℕ) (slot : ℕ) (product one other : List ℕ) → HeaderFor product one other
    → contents image (24 + 4 * slot) ≡ Some one → contents image (25 + 4 * slot) ≡ Some other → HeaderIs image slot (one ++ other)
header-there image slot product one other h p q =
    record { one = one; other = other; first_block_lem = p; second_block = q; header_is = refl; makes_valid = h.makes_valid }

product-ten : (product one other : List ℕ) → HeaderFor product one other → length product ≡ 10
product-ten product one other h =
    sym (ap length h.product_is) ∙ length-take 10 (drop 2 (one ++ other))
    ∙ omega (arith, length-drop 2 (one ++ other), length-append one other, h.one_length, h.other_length)

reply-code : (image : List ℕ) (c : Call) → (reply_to image c).code ≡ code_of image c
unfolding reply_to
reply-code image c = refl

pub all-allocated : (image : List ℕ) → Witness 32768 3 image → used image ≡ capacity 32768 → (k : ℕ) → LowestFreeBlank image k → ⊥
all-allocated image w u k f =
    let s = unrefused-sound image 3 w.not_refused in
    let most : k ≤ used image = subst (λ (n : ℕ). k ≤ n) (ap capacity w.has_length ∙ sym u) f.high in
    true≢false (sym ((meanings.used_are image s k f.low f.high).1 most) ∙ f.is_free_lem)

module _ (image : List ℕ) (w : Witness 32768 3 image) where
  pub is_open : slot_refusal image 3 ≡ 0
  unfolding slot_size slot_partition
  is_open = open-slot image 3 (record { size_is = w.has_length; unrefused_1_5 = w.not_refused; named = refl })

  pub finds : (slot : ℕ) (product one other : List ℕ) → slot ≤ 99 → HeaderFor product one other → HeaderIs image slot (one ++ other)
      → code_of image (on_whole (slot_find 3 product)) ≡ 0
  finds slot product one other most h v =
      (slot-rules.find_codes image 3 product is_open).row_0.1 (product-ten product one other h, go (product_slot image product) refl)
    where
      go : (o : Option ℕ) → product_slot image product ≡ o → (k : ℕ) × LowestProduct image k product
      go None e = absurd (product-none image product e slot (record { is_slot = most; header = one ++ other; is_valid = v; product_is = h.product_is }))
      go (Some k) e = (k, product_found image product k e)

  pub same_header : (slot : ℕ) (a b : List ℕ) → HeaderIs image slot a → HeaderIs image slot b → a ≡ b
  same_header slot a b p q =
      let e = same_Some p.one q.one (sym p.first_block_lem ∙ q.first_block_lem) in
      let f = same_Some p.other q.other (sym p.second_block ∙ q.second_block) in
      let r : p.one ++ p.other ≡ q.one ++ q.other = rw (e, f) in
      p.header_is ∙ r ∙ sym q.header_is

pub claim-given : (image one other : List ℕ) → code_of image (on_pages (claim 3 one other)) ≡ 0
    → (k : ℕ) × ((reply_to image (on_pages (claim 3 one other))).values ≡ k ∷ [])
    × (ClaimFound image one other (after image (on_pages (claim 3 one other))) k ⊎ ClaimWritten image one other (after image (on_pages (claim 3 one other))) k)
claim-given image one other claimed =
    let c = on_pages (claim 3 one other) in
    slot-rules.claim_gives image 3 one other (after image c) (reply_to image c) (record { answer_is = refl; image_is = refl }) (reply-code image c ∙ claimed)
