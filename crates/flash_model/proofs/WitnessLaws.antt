-- The theorems are about something: a sound partition of each legal length, empty and full, idle saves, and chains of any calls.
-- Assumes nothing.
use Prim.Native.Nat.{ℕ, zero, suc, ◌+◌, ◌*◌, ◌-◌, ◌≤◌, ◌<◌}
use mathlib.Core.Path.{◌≡◌, refl, sym, ap, subst, ◌∙◌}
use mathlib.Core.Bool.{Bool, true, false, cond, ◌||◌, true≢false, false≢true}
use mathlib.Core.List.{List, [], ◌∷◌, ◌++◌, map}
use Rattle.std.specs.Prelude.{Option, None, Some, option_map}
use mathlib.Core.Logic.{◌↔◌, ◌⊎◌, inl, inr}
use native.Mathlib.Omega.{arith}
use lib.Dec.{eqb, leb}
use lib.ListN.{length, drop, replicate, length-append, length-replicate, length-map}
use lib.Seq.{drop-append-add}
use borrow.Author.Tests.{eqb-true, eq-eqb, leb-true, le-leb, lt-leb}
use Rattle.words.specs.Lists.{numbers_from}
use Rattle.words.proofs.ListLaws.{All, all_map, all-range, drop-replicate, take-replicate}
use Rattle.words.proofs.PartsLaws.{numbers-length}
use Rattle.words.proofs.SearchLaws.{last-map, last-all, range_last}
use Rattle.flash_model.specs.Measures.{sizes, legal_size, first_bitmap, capacity, top_number, legal_number}
use Rattle.flash_model.specs.Bitmap.{bit_byte, allocated_in}
use Rattle.flash_model.specs.UserBlock.{number, payload, right_checksum, new_block}
use Rattle.flash_model.specs.Partition.{block_at, magic, header_number, version, bitmap_of, allocated, refusal, Sound, contents, used}
use Rattle.flash_model.specs.Update.{compacted}
use Rattle.flash_model.specs.Calls.{Call, reply_to, after}
use Rattle.flash_model.specs.Calls.{PageCall.save, Call.on_page}
use Rattle.flash_model.specs.PageStore.{expected_page}
use Rattle.flash_model.specs.Runs.{Step, Chain}
use Rattle.flash_model.specs.Meanings.{SoundMeans}
use Rattle.flash_model.specs.Demands.{LowestFreeBlank, SaveDone, Bytes, NotVacuous}
use Rattle.flash_model.proofs.MeasureLaws.{Measured, measures-of, le-legal}
use Rattle.flash_model.proofs.BitmapLaws.{ff-free}
use Rattle.flash_model.proofs.SequenceLaws.{UpTo, passes-below}
use Rattle.flash_model.proofs.RefusalLaws.{tested-refusal}
use Rattle.flash_model.proofs.BlockLaws.{new-length, new-number, new-payload, new-right}
use Rattle.flash_model.proofs.SoundLaws.{unrefused-sound, used_most, allocated-used, header-number}
use Rattle.flash_model.proofs.HolderLaws.{has_number, contents-log}
use Rattle.flash_model.proofs.CompactLaws.{compacted-up-to}
use Rattle.flash_model.proofs.SaveLaws.{Writable, compacted-keeps, compacted-contents}
use Rattle.flash_model.proofs.MeaningLaws.{meanings}
use Rattle.flash_model.proofs.Demand2Laws.{demand2}
use Rattle.flash_model.proofs.ByteLaws.{small, bytes_small, bytes-append, bytes-replicate, new-bytes, compacted-bytes}

three_sizes : (size : ℕ) → (legal_size size ≡ true) ↔ ((size ≡ 16384) ⊎ ((size ≡ 32768) ⊎ (size ≡ 65536)))
unfolding legal_size sizes
three_sizes size = (go (eqb size 16384) refl (eqb size 32768) refl (eqb size 65536) refl, back)
  where
    go : (a : Bool) → eqb size 16384 ≡ a → (b : Bool) → eqb size 32768 ≡ b → (c : Bool) → eqb size 65536 ≡ c
        → (a || (b || (c || false))) ≡ true → (size ≡ 16384) ⊎ ((size ≡ 32768) ⊎ (size ≡ 65536))
    go true p b q c r e = inl (eqb-true size 16384 p)
    go false p true q c r e = inr (inl (eqb-true size 32768 q))
    go false p false q true r e = inr (inr (eqb-true size 65536 r))
    go false p false q false r e = absurd (false≢true e)

    back : (size ≡ 16384) ⊎ ((size ≡ 32768) ⊎ (size ≡ 65536)) → legal_size size ≡ true
    back (inl e) = rw e
    back (inr (inl e)) = rw e
    back (inr (inr e)) = rw e

-- ---- an empty partition: the header, and FF

module _ (size partition : ℕ) (legal : legal_size size ≡ true) where
  m : Measured size
  m = measures-of size legal

  head : List ℕ
  head = magic ++ partition ∷ 1 ∷ []

  formatted : List ℕ
  formatted = head ++ replicate (size - 18) 255

  head-length : length head ≡ 18
  unfolding head magic
  head-length = refl

  formatted-length : length formatted ≡ size
  unfolding formatted
  formatted-length =
      length-append head (replicate (size - 18) 255) ∙ omega (arith, head-length, length-replicate {A = ℕ} (size - 18) 255, m.whole)

  -- from any place past the header's fields all is FF
  formatted-rest : (n : ℕ) → 18 ≤ n → drop n formatted ≡ replicate (size - n) 255
  unfolding formatted
  formatted-rest n h =
      let d = n - 18 in
      let e : n ≡ length head + d = omega (arith, head-length) in
      let f : size - 18 - d ≡ size - n = omega arith in
      ap (λ (i : ℕ). drop i (head ++ replicate (size - 18) 255)) e ∙ drop-append-add head (replicate (size - 18) 255) d
      ∙ drop-replicate d (size - 18) 255 ∙ ap (λ (i : ℕ). replicate i 255) f

  free : (k : ℕ) → 1 ≤ k → k ≤ capacity size → allocated formatted k ≡ false
  unfolding allocated allocated_in bitmap_of
  free k lo hi =
      rw (
        formatted-length,
        formatted-rest (first_bitmap size * 64) (omega (arith, m.first_bitmap_lem)),
        ff-free (size - first_bitmap size * 64) k (unfold bit_byte in omega (arith, m.whole, m.first_bitmap_lem, m.bits_enough)),
      )

  none-up-to : UpTo (allocated formatted) (capacity size) 0
  none-up-to k lo hi = free k lo hi ∙ sym (lt-leb k 0 lo)

  formatted-means : SoundMeans formatted
  unfolding formatted head magic version
  formatted-means = record {
    legal_size_lem = rw formatted-length legal;
    right_magic = refl;
    right_version = omega arith;
    in_sequence = passes-below (allocated formatted) (capacity (length formatted)) 0 (rw formatted-length none-up-to);
  }

  formatted-number : header_number formatted ≡ partition
  unfolding formatted head magic header_number
  formatted-number = refl

  formatted-refusal : refusal formatted partition ≡ 0
  formatted-refusal = tested-refusal formatted formatted-means partition ∙ rw (formatted-number, eq-eqb partition partition refl)

  formatted-sound : Sound formatted
  formatted-sound = unrefused-sound formatted partition formatted-refusal

  formatted-bytes : partition < 256 → Bytes formatted
  unfolding formatted head magic small
  formatted-bytes h =
      bytes-append head (replicate (size - 18) 255) (bytes-append magic (partition ∷ 1 ∷ []) (bytes_small magic refl) (h, (omega arith, tt)))
      (bytes-replicate (size - 18) 255 (omega arith))

  unused : used formatted ≡ 0
  unused = go (used formatted) refl
    where
      go : (u : ℕ) → used formatted ≡ u → u ≡ 0
      go zero e = refl
      go (suc u) e =
          let lo : 1 ≤ 1 = omega arith in
          let hi : 1 ≤ capacity size = omega (arith, m.top_number_lem) in
          let a = allocated-used formatted formatted-sound 1 lo (rw formatted-length hi) in
          absurd (true≢false (sym (le-leb 1 (suc u) (omega arith)) ∙ ap (leb 1) (sym e) ∙ sym a ∙ free 1 lo hi))

  nothing : (n : ℕ) → contents formatted n ≡ None
  nothing n = contents-log formatted n 0 (omega arith) (rw formatted-length none-up-to) ∙ go (legal_number (length formatted) n)
    where
      go : (t : Bool) → cond {A = Option (List ℕ)} t None None ≡ None
      go true = refl
      go false = refl

  first-blank : LowestFreeBlank formatted 1
  first-blank = record {
    low = omega arith;
    high = rw formatted-length (omega (arith, m.top_number_lem));
    is_free_lem = free 1 (omega arith) (omega (arith, m.top_number_lem));
    lower_allocated = λ j a b. absurd (omega arith);
    is_blank = unfold block_at in rw (formatted-rest 64 (omega arith)) (take-replicate 64 (size - 64) 255 (omega (arith, m.whole, m.top_number_lem)));
  }

-- ---- a full one: a block for every number

module _ (size partition : ℕ) (page : ℕ → List ℕ) (legal : legal_size size ≡ true) (l : (n : ℕ) → length (page n) ≡ 60) where
  base : List ℕ
  base = formatted size partition legal

  base-length : length base ≡ size
  unfolding base
  base-length = formatted-length size partition legal

  base-sound : Sound base
  unfolding base
  base-sound = formatted-sound size partition legal

  all_blocks : List (List ℕ)
  all_blocks = map (λ n. new_block n (page n)) (numbers_from 0 (capacity size))

  all-length : length all_blocks ≡ capacity size
  unfolding all_blocks
  all-length = length-map (numbers_from 0 (capacity size)) (λ n. new_block n (page n)) ∙ numbers-length 0 (capacity size)

  -- what holds of every new block
  every-block : (P : List ℕ → Type 0) → ((n : ℕ) → n < capacity size → P (new_block n (page n))) → All P all_blocks
  unfolding all_blocks
  every-block P f =
      all_map (λ n. new_block n (page n)) P (numbers_from 0 (capacity size))
      (all-range (λ n. P (new_block n (page n))) 0 (capacity size) (λ n lo hi. f n (omega arith)))

  all-writable : Writable base base-sound all_blocks
  all-writable = record {
    whole = every-block (λ b. length b ≡ 64) (λ n h. new-length n (page n) (l n));
    right = every-block (λ b. right_checksum b ≡ true) (λ n h. new-right n (page n) (l n));
    legal = every-block (λ b. legal_number (length base) (number b) ≡ true)
        (λ n h. rw (base-length, new-number n (page n) (l n)) (le-legal size n (omega (arith, (measures-of size legal).top_number_lem))));
    room = omega (arith, all-length, ap capacity base-length);
  }

  full : List ℕ
  full = compacted base all_blocks

  full-keeps : (length full ≡ size) × (refusal full partition ≡ 0)
  unfolding full base
  full-keeps =
      let k = compacted-keeps base base-sound all_blocks all-writable in
      let number_is = header-number base full k.same_header ∙ formatted-number size partition legal in
      (k.same_length ∙ base-length, subst (λ (p : ℕ). refusal full p ≡ 0) number_is k.still_sound)

  full-contents : (n : ℕ) → n ≤ top_number size → contents full n ≡ Some (page n)
  unfolding full all_blocks
  full-contents n h =
      let range = numbers_from 0 (capacity size) in
      compacted-contents base base-sound all_blocks all-writable n
      ∙ ap (option_map payload) (last-map (λ i. new_block i (page i)) (has_number n) range
      ∙ ap (option_map (λ i. new_block i (page i)))
      (last-all (λ i. has_number n (new_block i (page i))) (λ i. eqb i n) range
      (all-range (λ i. has_number n (new_block i (page i)) ≡ eqb i n) 0 (capacity size) (λ i lo hi. rw (new-number i (page i) (l i))))
      ∙ range_last n 0 (capacity size) (omega arith) (omega (arith, h, (measures-of size legal).top_number_lem))))
      ∙ ap (λ (p : List ℕ). Some p) (new-payload n (page n) (l n))

  top-allocated : allocated full (capacity size) ≡ true
  unfolding full
  top-allocated =
      let w = all-writable in
      let m : Measured (length base) = rw base-length (measures-of size legal) in
      let lo : 1 ≤ capacity size = omega (arith, (measures-of size legal).top_number_lem) in
      compacted-up-to base all_blocks m w.room w.whole (capacity size) lo (omega (arith, ap capacity base-length))
      ∙ le-leb (capacity size) (length all_blocks) (omega (arith, all-length))

  full-used : used full ≡ capacity size
  full-used =
      let len = full-keeps.0 in
      let lo : 1 ≤ capacity size = omega (arith, (measures-of size legal).top_number_lem) in
      let a = allocated-used full (unrefused-sound full partition full-keeps.1) (capacity size) lo (omega (arith, ap capacity len)) in
      omega (arith, leb-true (capacity size) (used full) (sym a ∙ top-allocated), used_most full, ap capacity len)

  full-bytes : partition < 256 → ((n : ℕ) → Bytes (page n)) → Bytes full
  unfolding full base
  full-bytes h b =
      compacted-bytes base all_blocks (formatted-bytes size partition legal h)
      (every-block Bytes (λ n i. new-bytes n (page n) (omega (arith, i, (measures-of size legal).two_bytes)) (b n)))

-- ---- any calls make a chain

made-steps : List ℕ → List Call → List Step
made-steps image [] = []
made-steps image (c ∷ calls) = record { made = c; answer = reply_to image c; image' = after image c } ∷ made-steps (after image c) calls

made-calls : (image : List ℕ) (calls : List Call) → map (λ s. s.made) (made-steps image calls) ≡ calls
unfolding made-steps
made-calls image [] = refl
made-calls image (c ∷ calls) = ap (λ (l : List Call). c ∷ l) (made-calls (after image c) calls)

made-chain : (image : List ℕ) (calls : List Call) → Chain image (made-steps image calls)
unfolding made-steps
made-chain image [] = tt
made-chain image (c ∷ calls) = (record { answer_is = refl; image_is = refl }, made-chain (after image c) calls)

idle : (image : List ℕ) (partition n : ℕ) (page : List ℕ) → refusal image partition ≡ 0 → contents image n ≡ Some page → SaveDone image n page image
unfolding reply_to
idle image partition n page r e =
    let c = on_page (save partition n page page) in
    let long = meanings.page_length image n page (unrefused-sound image partition r) e in
    let done = (demand2.save_codes image partition n page page r).row_0.1 (((meanings.contents_are image n page).0 e).in_range, (long, inr long), is-page page long ∙ sym e) in
    let saves : SaveDone image n page (after image c) = (partition, page, reply_to image c, record { answer_is = refl; image_is = refl }, done) in
    subst (λ (i : List ℕ). SaveDone image n page i) (demand2.save_idles image n page (after image c) saves e).0 saves
  where
    is-page : (p : List ℕ) → length p ≡ 60 → expected_page p ≡ Some p
    is-page [] l = absurd (omega (arith, l))
    is-page (x ∷ xs) l = refl

pub not-vacuous : NotVacuous
not-vacuous = record {
  three_sizes = three_sizes;
  empty = λ size partition legal h. (
    formatted size partition legal,
    record { are_bytes = formatted-bytes size partition legal h; has_length = formatted-length size partition legal; not_refused = formatted-refusal size partition legal },
    unused size partition legal,
    nothing size partition legal,
    first-blank size partition legal,
  );
  full = λ size partition page legal h b l. (
    full size partition page legal l,
    record {
      are_bytes = full-bytes size partition page legal l h b;
      has_length = (full-keeps size partition page legal l).0;
      not_refused = (full-keeps size partition page legal l).1;
    },
    full-used size partition page legal l,
    full-contents size partition page legal l,
  );
  idle = idle;
  chains = λ image calls. (made-steps image calls, made-calls image calls, made-chain image calls);
}
